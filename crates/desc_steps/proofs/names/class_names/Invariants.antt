use Rattle.std.proofs.Common.{◌≡◌, take}
use Rattle.class_world.specs.Worlds.{classes_of}
use Rattle.desc_steps.specs.Names.{names_of}
use Rattle.desc_steps.proofs.names.class_names.Given as goal

-- the names of the classes so far
abbrev pub invariant-loop-class : goal.invariant-loop-class
invariant-loop-class l = l.names ≡ take l.class (names_of (classes_of l.world))
