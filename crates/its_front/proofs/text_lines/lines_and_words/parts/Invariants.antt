use Rattle.std.proofs.Common.{◌≡◌, ◌++◌, length}
use Rattle.its_front.specs.text_lines.LinesAndWords.{parts}
use Rattle.its_front.proofs.text_lines.lines_and_words.parts.Given as goal

abbrev pub invariant-loop-rest : goal.invariant-loop-rest
invariant-loop-rest l = l.found ++ parts l.at l.rest ≡ parts l.fn.at l.fn.bytes

abbrev pub decreases-loop-rest : goal.decreases-loop-rest
decreases-loop-rest l = length l.rest
