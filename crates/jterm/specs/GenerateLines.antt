-- The line of `generate`.
use Rattle.std.specs.Prelude.{ℕ, Bool, true, false, List, [], ◌∷◌, codes, get_or}
use Rattle.std.specs.Fmt.{decimal}
use Rattle.list_views.specs.FaultWords.{joined}
use Rattle.its_front.specs.text_lines.LinesAndWords.{lines_of}

-- the first line of a text; nothing of a text without lines
abbrev pub first_line : List ℕ → List ℕ
first_line text = get_or (lines_of text) 0 []

-- `ACCEPTED` of an accepted certificate, `none` where there is no certificate
abbrev pub check_word : Bool → List ℕ
check_word true = codes "ACCEPTED"
check_word false = codes "none"

-- `blocks N answer A check C` and a newline
abbrev pub blocks_line : ℕ → List ℕ → List ℕ → List ℕ
blocks_line n answer check = joined (codes "blocks " ∷ decimal n ∷ codes " answer " ∷ answer ∷ codes " check " ∷ check ∷ codes "\n" ∷ [])

-- what a line begins with whose answer is YES
abbrev pub yes_begin : ℕ → List ℕ
yes_begin n = joined (codes "blocks " ∷ decimal n ∷ codes " answer YES" ∷ [])
