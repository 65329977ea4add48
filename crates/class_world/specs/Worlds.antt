-- A linked world of the program, seen as the list of its classes.
use Rattle.class_world.specs.declared.world.World.{World}
use Rattle.class_world.specs.World.{World as Classes}

-- the classes of a linked world, the built-in ones first
abbrev pub classes_of : World → Classes
classes_of world = world.roster.classes
