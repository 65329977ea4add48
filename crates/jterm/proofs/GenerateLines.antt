-- The first line of a text.
use Rattle.std.proofs.Common.{◌≡◌, ◌<◌, ℕ, List, [], length, take, get_or, eqb, Some, None, sym, ap, ◌∙◌}
use Rattle.std.specs.Prelude.{position}
use Rattle.std.proofs.Math.Seq.{take-length}
use Rattle.its_front.proofs.Divided.{parts_at, one_part}
use Rattle.jterm.specs.GenerateLines.{first_line}

abbrev first_of : List (List ℕ) → List ℕ
first_of lines = get_or lines 0 []

pub line_at : (text : List ℕ) (end : ℕ) → 0 < length text → position (λ byte. eqb byte 10) text ≡ Some end
    → take end text ≡ first_line text
line_at text end some is = sym (ap first_of (parts_at 10 text end some is))

pub whole_line : (text : List ℕ) → 0 < length text → position (λ byte. eqb byte 10) text ≡ None → text ≡ first_line text
whole_line text some is = sym (take-length text) ∙ sym (ap first_of (one_part 10 text some is))
