use Rattle.std.proofs.Common.{◌≡◌, ◌++◌, take}
use Rattle.std.specs.Int.{w32}
use Rattle.std.specs.List.{flat_map}
use Rattle.code_decode.specs.Texts.{signed, distance}
use Rattle.code_decode.proofs.writing.put_targets.Given as goal

abbrev pub invariant-loop-target : goal.invariant-loop-target
invariant-loop-target l = l.out.items ≡ l.initial.out.items ++ flat_map (λ target. signed w32 (distance l.pc target))
    (take l.target-index l.targets)
