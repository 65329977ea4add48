use Rattle.std.proofs.Common.{◌≡◌, ◌&&◌, false}
use Rattle.std.specs.List.{list_any, range_with_len}
use Rattle.class_world.specs.Worlds.{classes_of}
use Rattle.class_world.specs.Select.{is_receiver}
use Rattle.class_program.specs.JvmDiffers.{loses}
use Rattle.class_program.proofs.jvm_differs.some_loses.Given as goal

abbrev pub invariant-loop-receiver : goal.invariant-loop-receiver
invariant-loop-receiver l = list_any (λ c. is_receiver (classes_of l.world) l.class c && loses (classes_of l.world) l.named.name.now
    l.named.desc.now c) (range_with_len 0 l.receiver) ≡ false
