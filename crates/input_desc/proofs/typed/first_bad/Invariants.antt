use Rattle.std.proofs.Common.{◌≡◌, drop}
use Rattle.std.specs.List.{position_from}
use Rattle.class_world.specs.Worlds.{classes_of}
use Rattle.class_world.specs.WorldTypes.{types_of}
use Rattle.input_desc.specs.Typed.{is_bad}
use Rattle.input_desc.proofs.typed.first_bad.Given as goal

abbrev pub invariant-loop-n : goal.invariant-loop-n
invariant-loop-n l = position_from (is_bad (types_of (classes_of l.world)) l.objects) l.n (drop l.n l.objects) ≡ position_from
    (is_bad (types_of (classes_of l.world)) l.objects) 0 l.objects
