use Rattle.std.proofs.Common.{◌≡◌, ◌&&◌, false}
use Rattle.std.specs.List.{list_any, range_with_len}
use Rattle.class_world.specs.Worlds.{classes_of}
use Rattle.class_world.specs.Select.{is_receiver}
use Rattle.class_program.specs.JvmDiffers.{selects_outside}
use Rattle.class_program.proofs.jvm_differs.some_selects_outside.Given as goal

abbrev pub invariant-loop-receiver : goal.invariant-loop-receiver
invariant-loop-receiver l = list_any (λ c. is_receiver (classes_of l.world) l.class c && selects_outside (classes_of l.world) l.home
    l.named.name.now l.named.desc.now c) (range_with_len 0 l.receiver) ≡ false
