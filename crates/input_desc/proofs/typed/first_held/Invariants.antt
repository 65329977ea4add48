use Rattle.std.proofs.Common.{◌≡◌, drop}
use Rattle.class_world.specs.Worlds.{classes_of}
use Rattle.class_world.specs.WorldTypes.{types_of}
use Rattle.input_desc.specs.Typed.{first_unfit, is_held}
use Rattle.input_desc.proofs.typed.first_held.Given as goal

abbrev pub invariant-loop-n : goal.invariant-loop-n
invariant-loop-n l = first_unfit (is_held (types_of (classes_of l.world)) l.objects) l.n (drop l.n l.slots) (drop l.n l.values)
    ≡ first_unfit (is_held (types_of (classes_of l.world)) l.objects) 0 l.slots l.values
