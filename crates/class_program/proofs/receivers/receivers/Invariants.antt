use Rattle.std.proofs.Common.{◌≡◌}
use Rattle.std.specs.List.{filter, range_with_len}
use Rattle.class_world.specs.Worlds.{classes_of}
use Rattle.class_world.specs.Select.{is_receiver}
use Rattle.class_program.proofs.receivers.receivers.Given as goal

abbrev pub invariant-loop-class : goal.invariant-loop-class
invariant-loop-class l = l.found ≡ filter (is_receiver (classes_of l.world) l.named) (range_with_len 0 l.class)
