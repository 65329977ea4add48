-- The laws of the types of a world that code has.
use Rattle.jvm_values.specs.TypedHeaps.{AreLawful}
use Rattle.class_program.specs.class_world.declared.world.World.{World}
use Rattle.class_program.specs.class_world.Worlds.{classes_of}
use Rattle.class_program.specs.class_world.WorldTypes.{types_of}
use Rattle.class_program.specs.class_world.lemmas.WorldLaws.{world_laws}

pub laws_at : (world : World) → AreLawful (types_of (classes_of world))
laws_at world = world_laws world.roster.classes world.known.linked
