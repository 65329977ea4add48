-- Ties: links, each with the row that says it; which variables they lead to, and how the int at a place changes along a rule by them.
use Rattle.std.specs.Prelude.{ℕ, zero, suc, ℤ, replicate, pos, negsuc, ◌≡◌, ◌⊎◌, ◌+ℤ◌, ◌-ℤ◌, ◌*ℤ◌, ◌==◌, ◌&&◌, ◌++◌, Bool}
use Rattle.std.specs.Prelude.{true, false, List, [], ◌∷◌, Option, Some, None, if◌then◌else◌, slice_get, slice_set, get_or, nat_lt}
use Rattle.std.specs.Prelude.{◌||◌, length}
use Rattle.std.specs.Ordering.{int_eq}
use Rattle.lin_core.specs.declared.rows.RowKind.{RowKind}
use Rattle.lin_core.specs.declared.rows.RowKind.TheVariants.{AtLeastZero, IsZero}
use Rattle.lin_core.specs.declared.rows.WRow.{WRow}
use Rattle.descent.specs.declared.rules.PathRule.{PathRule}
use Rattle.descent.specs.declared.rules.Place.{Place}
use Rattle.descent.specs.declared.rules.SlotForm.{SlotForm}
use Rattle.rank_forms.specs.declared.rule_links.links.Link.{Link}
use Rattle.rank_forms.specs.declared.rule_links.links.Beside.{Beside}
use Rattle.rank_forms.specs.declared.rule_links.links.Tie.{Tie}
use Rattle.rank_forms.specs.declared.rule_links.links.Come.{Come}
use Rattle.rank_forms.specs.rule_links.Links.{IsWay, total}
use Rattle.rank_forms.specs.rule_links.Changes.{ChangesBy, MovesBy}
use Rattle.rank_forms.specs.rule_links.Positions.{AreEnds, slot_at}

-- a row says that its sum is at least 0, not that it is 0
abbrev pub is_inequality : RowKind → Bool
is_inequality AtLeastZero = true
is_inequality IsZero = false

-- the terms are one variable alone, so many times
abbrev pub is_alone : ℕ → ℤ → List (ℕ × ℤ) → Bool
is_alone variable times [] = false
is_alone variable times (term ∷ []) = term.0 == variable && int_eq term.1 times
is_alone variable times (term ∷ more ∷ rest) = false

-- a list of weights is empty
abbrev pub has_none : List (ℕ × ℤ) → Bool
has_none [] = true
has_none (one ∷ rest) = false

-- the row says of the variable alone that so many times it and a constant is at least 0
abbrev pub is_bound : ℕ → ℤ → WRow → Bool
is_bound variable times row = is_inequality row.kind && (is_alone variable times row.terms && has_none row.weights)

-- a row bounds the variable from above, at the number at which a bound from below with this constant bounds it
abbrev pub is_opposite : ℕ → ℤ → WRow → Bool
is_opposite variable low row = is_bound variable (negsuc 0) row && int_eq (low +ℤ row.constant) (pos 0)

-- the first row that bounds the variable from above where the bound with this constant bounds it from below; the rows are counted from n
abbrev pub most_from : ℕ → ℤ → ℕ → List WRow → Option ℕ
most_from variable low n [] = None
most_from variable low n (row ∷ rest) = if is_opposite variable low row then Some n else most_from variable low (suc n) rest

-- the list has the link
abbrev pub InTies : List Tie → Link → Type 0
InTies [] link = ⊥
InTies (tie ∷ rest) link = (tie.link ≡ link) ⊎ InTies rest link

-- the list has a link with these ends
abbrev pub Covers : List Tie → ℕ → ℕ → Type 0
Covers [] u v = ⊥
Covers (tie ∷ rest) u v = ((tie.link.from ≡ u) × (tie.link.to ≡ v)) ⊎ Covers rest u v

-- a variable that is come to from another one by links, with what they add
abbrev pub IsReached : List Tie → ℕ → ℕ → ℤ → Type 0
IsReached ties start variable by = (links : List Link) × IsWay (InTies ties) start links variable × (total links ≡ by)

-- the row that fixes a variable together with this one, which bounds it from below; none where this row is no such bound
abbrev pub most_of : ℕ → List WRow → WRow → Option ℕ
most_of variable rows row = if is_bound variable (pos 1) row then most_from variable row.constant 0 rows else None

-- a row and the one that fixes the variable with it, or what later rows say
abbrev pub fixed_or : ℕ → Option ℕ → Option (ℕ × ℕ) → Option (ℕ × ℕ)
fixed_or n None later = later
fixed_or n (Some most) later = Some (n, most)

-- the two rows that fix a variable at a number, the bound from below first: the first two that do, the rows being counted from n
abbrev pub fixed_from : ℕ → List WRow → ℕ → List WRow → Option (ℕ × ℕ)
fixed_from variable rows n [] = None
fixed_from variable rows n (row ∷ rest) = fixed_or n (most_of variable rows row) (fixed_from variable rows (suc n) rest)

-- the constant of a row that is there
abbrev pub constant_at : Option WRow → Option ℤ
constant_at None = None
constant_at (Some row) = Some row.constant

-- of two terms the one with the coefficient 1 and the one with -1
abbrev pub order_of : ℕ × ℤ → ℕ × ℤ → Option (ℕ × ℕ)
order_of one other = if int_eq one.1 (pos 1) && int_eq other.1 (negsuc 0) then Some (one.0, other.0) else
    (if int_eq one.1 (negsuc 0) && int_eq other.1 (pos 1) then Some (other.0, one.0) else None)

-- the links of an equation plus - minus + k = 0, there and back
abbrev pub both_ways : ℕ → ℕ → ℤ → ℕ → Option Beside → List Tie
both_ways plus minus k row beside =
    record { link = record { from = plus; to = minus; by = k }; row = row; back = false; beside = beside }
    ∷ record { link = record { from = minus; to = plus; by = pos 0 -ℤ k }; row = row; back = true; beside = beside }
    ∷ []

-- the two ties of an equation over two variables, or none where the terms have no such order
abbrev pub ties_of : Option (ℕ × ℕ) → ℤ → ℕ → Option Beside → List Tie
ties_of None k row beside = []
ties_of (Some order) k row beside = both_ways order.0 order.1 k row beside

-- the ties of an equation over three variables, of which the third is fixed at a number by two rows
abbrev pub ties_at : Option ℤ → ℕ × ℕ → ℕ × ℤ → ℕ × ℤ → ℕ × ℤ → ℤ → ℕ → List Tie
ties_at None rows third one other k row = []
ties_at (Some number) rows third one other k row = ties_of (order_of one other) (k +ℤ third.1 *ℤ number) row
    (Some (record { least = rows.0; most = rows.1; times = third.1 }))

-- the ties of an equation over three variables where these two rows fix the third; none where no rows do
abbrev pub ties_beside : List WRow → Option (ℕ × ℕ) → ℕ × ℤ → ℕ × ℤ → ℕ × ℤ → ℤ → ℕ → List Tie
ties_beside rows None third one other k row = []
ties_beside rows (Some fixed) third one other k row = ties_at (constant_at (slice_get rows fixed.1)) fixed third one other k row

-- the ties of an equation over three variables, of which the third is looked for among the fixed ones
abbrev pub beside_ties : List WRow → ℕ × ℤ → ℕ × ℤ → ℕ × ℤ → ℤ → ℕ → List Tie
beside_ties rows third one other k row = ties_beside rows (fixed_from third.0 rows 0 rows) third one other k row

-- the ties that an equation's terms and constant give: of two variables, or of three variables of which one is fixed, whichever it is
abbrev pub terms_ties : List WRow → List (ℕ × ℤ) → ℤ → ℕ → List Tie
terms_ties rows [] k row = []
terms_ties rows (one ∷ []) k row = []
terms_ties rows (one ∷ other ∷ []) k row = ties_of (order_of one other) k row None
terms_ties rows (a ∷ b ∷ c ∷ []) k row = beside_ties rows a b c k row ++ (beside_ties rows b a c k row ++ beside_ties rows c a b k row)
terms_ties rows (a ∷ b ∷ c ∷ d ∷ rest) k row = []

-- the ties that a row gives: none for an inequality, and none where class weights stand in it
abbrev pub row_ties : List WRow → ℕ → WRow → List Tie
row_ties rows n row = if is_inequality row.kind then [] else
    (if has_none row.weights then terms_ties rows row.terms row.constant n else [])

-- the ties of all rows, which are counted from n
abbrev pub ties_from : List WRow → ℕ → List WRow → List Tie
ties_from rows n [] = []
ties_from rows n (row ∷ rest) = row_ties rows n row ++ ties_from rows (suc n) rest

-- what is known of the variables: how much each has more than the first one, by the last of the ties that lead there
abbrev pub Known : Type 0
Known = List (Option Come)

-- a tie from a known variable to one that isn't known yet
abbrev pub moves_at : Option Come → Option Come → Bool → Bool
moves_at None to low = false
moves_at (Some come) (Some other) low = false
moves_at (Some come) None low = low

-- a tie leads from a known variable to one that has a place and isn't known yet
abbrev pub moves : Tie → Known → Bool
moves tie known = moves_at (get_or known tie.link.from None) (get_or known tie.link.to None) (nat_lt tie.link.to (length known))

-- how much more a known variable has than the first one; 0 for one that isn't known
abbrev pub by_of : Option Come → ℤ
by_of None = pos 0
by_of (Some come) = come.by

-- a tie is gone along once: the variable to which it leads becomes known, if it moves
abbrev pub step : Tie → Known → Known
step tie known = if moves tie known then slice_set known tie.link.to
    (Some (record { by = by_of (get_or known tie.link.from None) +ℤ tie.link.by; last = Some tie })) else known

-- all ties, one after another
abbrev pub relaxed : List Tie → Known → Known
relaxed [] known = known
relaxed (tie ∷ rest) known = relaxed rest (step tie known)

-- some tie moves, where the ties are gone along one after another
abbrev pub any_moves : List Tie → Known → Bool
any_moves [] known = false
any_moves (tie ∷ rest) known = moves tie known || any_moves rest (step tie known)

-- one more than the greatest of a number and the variables to which ties lead
abbrev pub span_from : ℕ → List Tie → ℕ
span_from low [] = low
span_from low (tie ∷ rest) = span_from (if nat_lt tie.link.to low then low else suc tie.link.to) rest

-- what is known first: of the first variable, that it has 0 more than itself
abbrev pub begun : List Tie → ℕ → Known
begun ties first = slice_set (replicate (span_from (suc first) ties) None) first (Some (record { by = pos 0; last = None }))

-- what is known after so many passes over all ties
abbrev pub passed : ℕ → List Tie → Known → Known
passed zero ties known = known
passed (suc n) ties known = relaxed ties (passed n ties known)

-- what is known after some number of passes, where no tie moves any more
abbrev pub IsFinished : List Tie → ℕ → Known → Type 0
IsFinished ties first known = (n : ℕ) × (known ≡ passed n ties (begun ties first)) × (any_moves ties known ≡ false)

-- the variable of terms that are one variable alone, with the coefficient 1
abbrev pub only_variable : List (ℕ × ℤ) → Option ℕ
only_variable [] = None
only_variable (term ∷ []) = if int_eq term.1 (pos 1) then Some term.0 else None
only_variable (term ∷ more ∷ rest) = None

-- the variable of a slot that is one variable alone, with nothing added
abbrev pub variable_of : Option SlotForm → Option ℕ
variable_of None = None
variable_of (Some slot) = if int_eq slot.constant (pos 0) && has_none slot.weights then only_variable slot.terms else None

-- the variable that the slot of the kind at a place is, where it is one variable alone
abbrev pub variable_at : List SlotForm → Bool → Place → Option ℕ
variable_at slots size place = variable_of (slot_at slots size place)

-- how much more a variable has than the first one, if it is known
abbrev pub more_of : Option Come → Option ℤ
more_of None = None
more_of (Some come) = Some come.by

-- so much more is known of one variable once no tie leads on from another one
pub record IsKnownBy (ties : List Tie) (start finish : ℕ) (by : ℤ) : Type 0 where
  pub known : Known
  pub finished : IsFinished ties start known
  pub come : Come
  pub at : get_or known finish None ≡ Some come
  pub adds : come.by ≡ by

-- the tie by which a variable became known, if it isn't the first one
abbrev pub last_of : Option Come → Option Tie
last_of None = None
last_of (Some come) = come.last

-- a tie, and then the ties that lead to its start
abbrev pub trail_by : Option Tie → (ℕ → List Tie) → List Tie
trail_by None more = []
trail_by (Some tie) more = tie ∷ more tie.link.from

-- the ties by which a variable became known, from the last one back to the first variable, in at most so many steps
abbrev pub trail_from : ℕ → Known → ℕ → List Tie
trail_from zero known variable = []
trail_from (suc n) known variable = trail_by (last_of (get_or known variable None)) (trail_from n known)

-- along a rule the int at a place moves by the number that is found
pub record IsMoved (rule : PathRule) (place : Place) (c : ℤ) : Type 0 where
  pub start : ℕ
  pub finish : ℕ
  pub ends : AreEnds rule false place start finish
  pub by : IsKnownBy (ties_from rule.rows 0 rule.rows) start finish c
  pub moves : MovesBy rule place c

-- where the int at a place changes along a rule, the number is this; and some links say the number
pub record TellsChange (rule : PathRule) (place : Place) (change : Option ℤ) : Type 0 where
  pub told : (c : ℤ) → ChangesBy rule place c → change ≡ Some c
  pub says : (c : ℤ) → change ≡ Some c → IsMoved rule place c

-- the changes of a list of places along a rule, each at its place's number
abbrev pub TellChanges : PathRule → List Place → List (Option ℤ) → Type 0
TellChanges rule places changes = (length changes ≡ length places)
    × ((k : ℕ) (place : Place) → slice_get places k ≡ Some place → TellsChange rule place (get_or changes k None))

-- a table of changes: for each rule, at its number, the changes of the listed places
abbrev pub IsTable : List PathRule → List Place → List (List (Option ℤ)) → Type 0
IsTable rules places table = (length table ≡ length rules)
    × ((n : ℕ) (rule : PathRule) → slice_get rules n ≡ Some rule → TellChanges rule places (get_or table n []))
