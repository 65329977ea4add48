use Rattle.std.proofs.Common.{◌≡◌, ◌-◌}
use Rattle.std.specs.Int.{w32}
use Rattle.code_decode.specs.Reading.{repeat_at, target_at}
use Rattle.code_decode.proofs.Repeats.{with_front}
use Rattle.code_decode.proofs.reading.targets_at.Given as goal

abbrev pub invariant-loop : goal.invariant-loop
invariant-loop l = with_front l.targets (repeat_at (target_at w32 l.pc) (l.count - l.counter) l.rest) ≡ repeat_at
    (target_at w32 l.pc) l.count l.bytes
