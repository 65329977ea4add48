use Rattle.std.proofs.Common.{◌≡◌, ◌++◌, length}
use Rattle.std.specs.List.{filter}
use Rattle.its_front.specs.text_lines.LinesAndWords.{parts, is_word, words_of}
use Rattle.its_front.proofs.text_lines.lines_and_words.words.Given as goal

abbrev pub invariant-loop-rest : goal.invariant-loop-rest
invariant-loop-rest l = l.words ++ filter is_word (parts 32 l.rest) ≡ words_of l.fn.line

abbrev pub decreases-loop-rest : goal.decreases-loop-rest
decreases-loop-rest l = length l.rest
