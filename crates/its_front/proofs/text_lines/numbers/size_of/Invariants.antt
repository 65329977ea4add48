use Rattle.std.proofs.Common.{◌≡◌, take}
use Rattle.its_front.specs.text_lines.Numbers.{decimal, capped}
use Rattle.its_front.proofs.text_lines.numbers.size_of.Given as goal

abbrev pub invariant-loop-digit : goal.invariant-loop-digit
invariant-loop-digit l = l.size ≡ capped (decimal (take l.digit-index l.digits))
