use Rattle.std.proofs.Common.{◌≡◌}
use Rattle.std.specs.List.{flat_map, range_with_len}
use Rattle.class_world.specs.Worlds.{classes_of}
use Rattle.class_program.specs.Statics.{statics_in}
use Rattle.class_program.proofs.statics.statics_of.Given as goal

abbrev pub invariant-loop-class : goal.invariant-loop-class
invariant-loop-class l = l.statics ≡ flat_map (statics_in (classes_of l.world) l.named) (range_with_len 0 l.class)
