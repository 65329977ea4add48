use Rattle.std.proofs.Common.{◌≡◌, ◌-◌}
use Rattle.code_decode.specs.Reading.{repeat_at, case_at}
use Rattle.code_decode.proofs.Repeats.{with_front}
use Rattle.code_decode.proofs.reading.cases_at.Given as goal

abbrev pub invariant-loop : goal.invariant-loop
invariant-loop l = with_front l.cases (repeat_at (case_at l.pc) (l.count - l.counter) l.rest) ≡ repeat_at (case_at l.pc) l.count l.bytes
