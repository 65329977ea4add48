use Rattle.std.proofs.Common.{◌≡◌, ℕ, List, map, Bor}
use Rattle.std.specs.List.{filter}
use Rattle.asm_lines.specs.LinesAndWords.{is_word}
use Rattle.asm_lines.proofs.lines_and_words.words.Given as goal

abbrev pub invariant-loop-part : goal.invariant-loop-part
invariant-loop-part l = l.words ≡ filter is_word (map (λ (p : Bor (List ℕ)). p.now) l.yielded)
