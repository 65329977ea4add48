-- Words of private calls: how ties to variables of greater numbers are found, and the greatest falls along them.
use Rattle.std.specs.Prelude.{ℕ, suc, ℤ, pos, ◌≡◌, ◌+ℤ◌, ◌-ℤ◌, ◌==◌, ◌&&◌, ◌||◌, ◌++◌, Bool, true, false}
use Rattle.std.specs.Prelude.{List, [], ◌∷◌, Option, Some, None, if◌then◌else◌, slice_set, get_or, nat_lt, int_lt}
use Rattle.std.specs.Prelude.{length}
use Rattle.std.specs.Ordering.{int_eq}
use Rattle.lin_core.specs.declared.rows.WRow.{WRow}
use Rattle.descent.specs.declared.rules.PathRule.{PathRule}
use Rattle.descent.specs.declared.rules.Place.{Place}
use Rattle.rank_forms.specs.declared.rule_links.links.Come.{Come}
use Rattle.rank_forms.specs.declared.rule_links.links.Link.{Link}
use Rattle.rank_forms.specs.declared.rule_links.links.Tie.{Tie}
use Rattle.rank_forms.specs.rule_links.Links.{IsWay, total}
use Rattle.rank_forms.specs.rule_links.Positions.{AreEnds}
use Rattle.rank_forms.specs.rule_links.Ties.{InTies, IsReached, Known, is_inequality, has_none, order_of, variable_at}
use Rattle.rank_forms.specs.rule_links.Falls.{size_constant, has_zero, has_bound, IsFall}

-- a sum is more than what is known of a variable that has a place in the list
abbrev pub is_more : Option Come → ℤ → Bool → Bool
is_more None sum low = low
is_more (Some come) sum low = int_lt come.by sum && low

abbrev pub raised_by : Option Come → Tie → Known → Known
raised_by None tie known = known
raised_by (Some come) tie known = if is_more (get_or known tie.link.to None) (come.by +ℤ tie.link.by)
    (nat_lt tie.link.to (length known)) then slice_set known tie.link.to
    (Some (record { by = come.by +ℤ tie.link.by; last = Some tie })) else known

abbrev pub raised : Tie → Known → Known
raised tie known = raised_by (get_or known tie.link.from None) tie known

-- a link to a variable of a greater number
abbrev pub rising_tie : ℕ → ℕ → ℤ → ℕ → Bool → List Tie
rising_tie from to by row back = if nat_lt from to then record
    { link = record { from = from; to = to; by = by }; row = row; back = back; beside = None } ∷ [] else []

-- the two variables of a row of two terms with the coefficients 1 and -1, that with 1 first
abbrev pub order_in : List (ℕ × ℤ) → Option (ℕ × ℕ)
order_in [] = None
order_in (one ∷ []) = None
order_in (one ∷ other ∷ []) = order_of one other
order_in (one ∷ other ∷ more ∷ rest) = None

abbrev pub is_part : ℤ → Bool
is_part c = int_lt c (pos 0)

-- every other variable of the terms is at least 0, and has a coefficient below 0
abbrev pub gives : List WRow → ℕ → List (ℕ × ℤ) → Bool
gives rows u [] = true
gives rows u (term ∷ rest) = (term.0 == u || (is_part term.1 && has_zero term.0 rows)) && gives rows u rest

abbrev pub part_ties : ℕ → ℤ → ℕ → List (ℕ × ℤ) → List Tie
part_ties u k row [] = []
part_ties u k row (term ∷ rest) = (if is_part term.1 then rising_tie u term.0 k row false else []) ++ part_ties u k row rest

abbrev pub given_by : List WRow → ℕ × ℤ → ℤ → ℕ → List (ℕ × ℤ) → List Tie
given_by rows term k row all = if int_eq term.1 (pos 1) && gives rows term.0 all then part_ties term.0 k row all else []

abbrev pub given_ties : List WRow → ℤ → ℕ → List (ℕ × ℤ) → List (ℕ × ℤ) → List Tie
given_ties rows k row all [] = []
given_ties rows k row all (term ∷ rest) = given_by rows term k row all ++ given_ties rows k row all rest

abbrev pub back_ties : Option (ℕ × ℕ) → ℤ → ℕ → List Tie
back_ties None k row = []
back_ties (Some order) k row = rising_tie order.1 order.0 k row true

abbrev pub size_row_ties : List WRow → ℕ → WRow → List Tie
size_row_ties rows n row = if is_inequality row.kind then [] else given_ties rows (pos 0 -ℤ size_constant row) n row.terms row.terms
    ++ back_ties (order_in row.terms) (size_constant row) n

abbrev pub size_ties_from : List WRow → ℕ → List WRow → List Tie
size_ties_from rows n [] = []
size_ties_from rows n (row ∷ rest) = size_row_ties rows n row ++ size_ties_from rows (suc n) rest

-- the falls of an int, or of its negative
abbrev pub leading : Bool → ℕ × ℕ → ℕ
leading negative order = if negative then order.1 else order.0

abbrev pub led : Bool → ℕ × ℕ → ℕ
led negative order = if negative then order.0 else order.1

abbrev pub fall_links : Bool → Bool → Option (ℕ × ℕ) → ℤ → ℕ → List Tie
fall_links negative inequality None k row = []
fall_links negative inequality (Some order) k row = rising_tie (leading negative order) (led negative order) (pos 0 -ℤ k) row false
    ++ (if inequality then [] else rising_tie (led negative order) (leading negative order) k row true)

abbrev pub fall_row_ties : Bool → ℕ → WRow → List Tie
fall_row_ties negative n row = if has_none row.weights then fall_links negative (is_inequality row.kind) (order_in row.terms)
    row.constant n else []

abbrev pub fall_ties_from : Bool → ℕ → List WRow → List Tie
fall_ties_from negative n [] = []
fall_ties_from negative n (row ∷ rest) = fall_row_ties negative n row ++ fall_ties_from negative (suc n) rest

-- each list of links from the one end of a rule to the other adds up to at most what is told
pub record TellsWays (size : Bool) (ties : List Tie) (rule : PathRule) (place : Place) (fall : Option ℤ) : Type 0 where
  pub told : (start finish : ℕ) (links : List Link) → AreEnds rule size place start finish → IsWay (InTies ties) start links finish
      → IsFall fall (total links)
  pub says : (c : ℤ) → fall ≡ Some c → (start : ℕ) × (finish : ℕ) × AreEnds rule size place start finish × IsReached ties start finish c

-- a fall, where the start is bounded
abbrev pub bounded_from : Bool → List WRow → Option ℕ → Bool
bounded_from negative rows None = false
bounded_from negative rows (Some start) = has_bound negative start rows

abbrev pub starts_bounded : Bool → PathRule → Place → Bool
starts_bounded negative rule place = bounded_from negative rule.rows (variable_at rule.first false place)

abbrev pub bounded_fall : Bool → PathRule → Place → Option ℤ → Option ℤ
bounded_fall negative rule place fall = if starts_bounded negative rule place then fall else None

-- the most that lists of links from one variable to another one add up to
pub record IsLongestTo (ties : List Tie) (start finish : ℕ) (fall : Option ℤ) : Type 0 where
  pub told : (links : List Link) → IsWay (InTies ties) start links finish → IsFall fall (total links)
  pub says : (c : ℤ) → fall ≡ Some c → IsReached ties start finish c
