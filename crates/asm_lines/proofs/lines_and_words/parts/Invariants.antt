use Rattle.std.proofs.Common.{◌≡◌, ℕ, List, ◌++◌, length, map, Bor}
use Rattle.asm_lines.specs.LinesAndWords.{parts}
use Rattle.asm_lines.proofs.lines_and_words.parts.Given as goal

abbrev pub invariant-loop-rest : goal.invariant-loop-rest
invariant-loop-rest l = map (λ (p : Bor (List ℕ)). p.now) l.found.items ++ parts l.at l.rest ≡ parts l.fn.at l.fn.bytes

abbrev pub decreases-loop-rest : goal.decreases-loop-rest
decreases-loop-rest l = length l.rest
