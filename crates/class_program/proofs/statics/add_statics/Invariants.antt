use Rattle.std.proofs.Common.{◌≡◌, ◌++◌}
use Rattle.std.specs.List.{filter_map, range_with_len}
use Rattle.class_world.specs.Worlds.{classes_of}
use Rattle.class_program.specs.Statics.{static_at}
use Rattle.class_program.proofs.statics.add_statics.Given as goal

abbrev pub invariant-loop-index : goal.invariant-loop-index
invariant-loop-index l = l.statics ≡ l.initial.statics ++ filter_map (static_at (classes_of l.world) l.named l.class)
    (range_with_len 0 l.index)
