use Rattle.std.proofs.Common.{◌≡◌, drop}
use Rattle.std.specs.List.{list_all}
use Rattle.input_desc.specs.Typed.{is_of_kind}
use Rattle.input_desc.proofs.typed.are_of_kind.Given as goal

abbrev pub invariant-loop-number : goal.invariant-loop-number
invariant-loop-number l = list_all (is_of_kind l.kind) (drop l.number-index l.numbers) ≡ list_all (is_of_kind l.kind) l.numbers
