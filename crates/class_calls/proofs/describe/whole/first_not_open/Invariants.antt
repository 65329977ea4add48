use Rattle.std.proofs.Common.{◌≡◌, drop}
use Rattle.class_world.specs.Worlds.{classes_of}
use Rattle.input_desc.specs.Typed.{first_unfit}
use Rattle.class_calls.specs.describe.Whole.{is_open}
use Rattle.class_calls.proofs.describe.whole.first_not_open.Given as goal

abbrev pub invariant-loop-n : goal.invariant-loop-n
invariant-loop-n l = first_unfit (is_open (classes_of l.world)) l.n (drop l.n l.slots) (drop l.n l.inputs) ≡ first_unfit
    (is_open (classes_of l.world)) 0 l.slots l.inputs
