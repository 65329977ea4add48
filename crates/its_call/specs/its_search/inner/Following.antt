-- Words for the rank steps of plain forms: the rows that say how much a form falls along a rule, and that it is bounded.
use Rattle.std.specs.Prelude.{ℕ, suc, ℤ, pos, ◌*ℤ◌, ◌≡◌, true, false, List, [], ◌∷◌, Option, Some, None, is_some, if◌then◌else◌}
use Rattle.std.proofs.Common.{◌-ℤ◌}
use Rattle.lin_core.specs.declared.rows.WRow.{WRow}
use Rattle.descent.specs.declared.rules.PathRule.{PathRule}
use Rattle.descent.specs.declared.rules.Place.{Place}
use Rattle.rank_forms.specs.declared.following.Bound.{Bound}
use Rattle.rank_forms.specs.declared.following.Followed.{Followed}
use Rattle.its_front.specs.Words.{before}
use Rattle.its_call.specs.its_search.Changes.{Form, change_of_row, form_change}
use Rattle.its_call.specs.its_search.Forms.{fits, is_bound}

-- the coefficient of the first term, 0 where there is none
abbrev pub first_coefficient : List (ℕ × ℤ) → ℤ
first_coefficient [] = pos 0
first_coefficient (term ∷ rest) = term.1

-- The first row that says how much a variable of a form changes, with its multiplier: multiplied by it, the row counts the form's term
-- of the variable before the rule, and takes it away after the rule. The rows are counted from n.
abbrev pub reason_from : ℕ → ℕ × ℤ → ℕ → List WRow → Option (ℕ × ℤ)
reason_from count term n [] = None
reason_from count term n (row ∷ rest) =
    if is_some (change_of_row count term.0 row.kind row.terms row.constant) then Some (n, term.1 *ℤ first_coefficient row.terms)
    else reason_from count term (suc n) rest

-- for each variable of a form the row that says how much it changes, with its multiplier
abbrev pub reasons_of : ℕ → List WRow → Form → Option (List (ℕ × ℤ))
reasons_of count rows [] = Some []
reasons_of count rows (term ∷ rest) = before (reason_from count term 0 rows) (reasons_of count rows rest)

-- the first row that bounds a form, where the rows are counted from n
abbrev pub bound_from : Form → ℕ → List WRow → Option Bound
bound_from form n [] = None
bound_from form n (row ∷ rest) = if is_bound form row then Some (record { rows = (n, pos 1) ∷ []; base = row.constant }) else
    bound_from form (suc n) rest

-- what is known of a form along a rule: by how much it falls, the rows that show it, and a row that bounds it, if there is one
abbrev pub followed_with : Form → List WRow → Option ℤ → Option (List (ℕ × ℤ)) → Option Followed
followed_with form rows (Some change) (Some fall) = Some (record { falls = pos 0 -ℤ change; fall = fall; bound = bound_from form 0 rows })
followed_with form rows _ _ = None

-- what is known of a form along a rule with these rows, none where one of its variables changes by no equation
abbrev pub followed_of : ℕ → Form → List WRow → Option Followed
followed_of count form rows = followed_with form rows (form_change count rows form) (reasons_of count rows form)

-- a form never rises along the rule
abbrev pub IsFit : ℕ → Form → PathRule → Type 0
IsFit count form rule = fits count form rule ≡ true

-- what is known of a form along each of the rules, none where it isn't followed along one of them
abbrev pub follow_each : ℕ → Form → List PathRule → Option (List Followed)
follow_each count form [] = Some []
follow_each count form (rule ∷ rest) = before (followed_of count form rule.rows) (follow_each count form rest)

-- a part of a form as rank steps have it: variable i stands at local i of frame 0
abbrev pub part_of : ℕ × ℤ → Place × ℤ
part_of term = (record { frame = 0; stack = false; index = term.0 }, term.1)
