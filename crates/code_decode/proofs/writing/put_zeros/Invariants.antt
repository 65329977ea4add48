use Rattle.std.proofs.Common.{◌≡◌, ◌++◌}
use Rattle.code_decode.specs.Texts.{zeros}
use Rattle.code_decode.proofs.writing.put_zeros.Given as goal

abbrev pub invariant-loop : goal.invariant-loop
invariant-loop l = l.out.items ≡ l.initial.out.items ++ zeros l.counter
