-- Reasons: why a form falls along a rule, and why it is bounded where the rule starts.
use Rattle.std.specs.Prelude.{ℕ, suc, ℤ, pos, negsuc, ◌≡◌, ◌+ℤ◌, ◌-ℤ◌, ◌*ℤ◌, ◌==◌, ◌&&◌, ◌++◌, not, Bool, false, List, [], ◌∷◌}
use Rattle.std.specs.Prelude.{Option, Some, None, if◌then◌else◌, nat_lt, int_lt, slice_get, get_or, length, unsigned_abs}
use Rattle.lin_core.specs.declared.rows.WRow.{WRow}
use Rattle.descent.specs.declared.rules.PathRule.{PathRule}
use Rattle.descent.specs.declared.rules.Place.{Place}
use Rattle.rank_forms.specs.declared.following.BoundRow.{BoundRow}
use Rattle.rank_forms.specs.declared.following.Followed.{Followed}
use Rattle.rank_forms.specs.declared.rule_links.links.Beside.{Beside}
use Rattle.rank_forms.specs.declared.rule_links.links.Come.{Come}
use Rattle.rank_forms.specs.declared.rule_links.links.Link.{Link}
use Rattle.rank_forms.specs.declared.rule_links.links.Tie.{Tie}
use Rattle.rank_forms.specs.declared.reasons.Reasons.{Reasons}
use Rattle.rank_forms.specs.rule_links.Counting.{multipliers_of}
use Rattle.rank_forms.specs.Following.{made, step_times}
use Rattle.rank_forms.specs.rule_links.Positions.{AreEnds}
use Rattle.rank_forms.specs.rule_links.Falls.{zero_from}
use Rattle.rank_forms.specs.rule_links.Ties.{IsFinished, Known, is_bound, ties_from, trail_from}

-- ---- reasons

-- the reasons for a sum of two forms: what falls, the rows of the fall, and the number and rows of the bound, of both together
abbrev pub both_reasons : Reasons → Reasons → Reasons
both_reasons one other = record {
  falls = one.falls +ℤ other.falls;
  fall = one.fall ++ other.fall;
  base = one.base +ℤ other.base;
  bound = one.bound ++ other.bound;
}

-- the reasons for a sum of two forms, where there are some for each
abbrev pub both_of : Option Reasons → Option Reasons → Option Reasons
both_of None other = None
both_of (Some one) None = None
both_of (Some one) (Some other) = Some (both_reasons one other)

-- what is followed along a rule of so many rows, by reasons: the rows' multipliers, each row once
abbrev pub followed_by : ℕ → Reasons → Followed
followed_by rows reasons = made reasons.falls (multipliers_of rows reasons.fall)
    (Some (record { rows = multipliers_of rows reasons.bound; base = reasons.base }))

-- what is followed along a rule of so many rows, where there are reasons
abbrev pub followed_of : ℕ → Option Reasons → Option Followed
followed_of rows None = None
followed_of rows (Some reasons) = Some (followed_by rows reasons)

-- ---- ints

-- the sign of a multiple of an int, which tells on which side the int's start is bounded
abbrev pub side : ℤ → ℤ
side times = if int_lt times (pos 0) then negsuc 0 else pos 1

-- how often the row of the bound counts: as often as the int, whatever its sign
abbrev pub often : ℤ → ℤ
often times = if int_lt times (pos 0) then pos 0 -ℤ times else times

-- a row bounds a variable with a constant of at most 2^31 in size
abbrev pub is_close : ℕ → ℤ → WRow → Bool
is_close variable times row = is_bound variable times row && not (nat_lt 2147483648 (unsigned_abs row.constant))

-- the first row that bounds a variable with a constant of at most 2^31 in size; the rows are counted from n
abbrev pub close_from : ℕ → ℤ → ℕ → List WRow → Option BoundRow
close_from variable times n [] = None
close_from variable times n (row ∷ rest) = if is_close variable times row then Some (record { row = n; base = row.constant }) else
    close_from variable times (suc n) rest

-- how often a tie's equation counts: less than 0 where the tie goes back
abbrev pub signed : ℤ → Bool → ℤ
signed times back = if back then pos 0 -ℤ times else times

-- the row that takes out a variable that is fixed at a number: its upper bound or its lower one, by the sign with which the variable
-- counts
abbrev pub taken_out : Beside → ℤ → List (ℕ × ℤ)
taken_out beside product = if int_lt (pos 0) product then (beside.most, product) ∷ [] else (beside.least, pos 0 -ℤ product) ∷ []

-- the row that takes out the variable beside a tie, where the tie's equation counts so many times and has such a variable
abbrev pub beside_entries : Option Beside → ℤ → List (ℕ × ℤ)
beside_entries None times = []
beside_entries (Some beside) times = taken_out beside (times *ℤ beside.times)

-- the rows of a tie of ints: its equation, and the row that takes out the variable beside
abbrev pub int_tie_entries : ℤ → Tie → List (ℕ × ℤ)
int_tie_entries times tie = (tie.row, signed times tie.back) ∷ beside_entries tie.beside (signed times tie.back)

-- the rows of a list of ties, tie after tie
abbrev pub int_entries : ℤ → List Tie → List (ℕ × ℤ)
int_entries times [] = []
int_entries times (tie ∷ rest) = int_tie_entries times tie ++ int_entries times rest

-- the reasons why so many times an int falls: the rows of the ties from its start to its end, and the row that bounds its start
abbrev pub int_made : Come → BoundRow → ℤ → Known → ℕ → Reasons
int_made come row times known finish = record {
  falls = pos 0 -ℤ times *ℤ come.by;
  fall = int_entries times (trail_from (length known) known finish);
  base = often times *ℤ
      row.base;
  bound = (row.row, often times) ∷ [];
}

-- the reasons why so many times an int falls, where its end is known from its start and a row bounds the start
abbrev pub int_reasons_by : Option Come → Option BoundRow → ℤ → Known → ℕ → Option Reasons
int_reasons_by None row times known finish = None
int_reasons_by (Some come) None times known finish = None
int_reasons_by (Some come) (Some row) times known finish = Some (int_made come row times known finish)

-- what is found of so many times an int, by its variables at the start and at the end: the reasons by ties that are gone along until none
-- moves
abbrev pub TellsInt : List WRow → List Tie → ℕ → ℕ → ℤ → Option Reasons → Type 0
TellsInt rows ties start finish times found = (known : Known) × IsFinished ties start known
    × (found ≡ int_reasons_by (get_or known finish None) (close_from start (side times) 0 rows) times known finish)

-- what is found of so many times the int at a place along a rule, where one variable stands alone at each end; nothing where none does at
-- one of them
abbrev pub TellsIntAt : PathRule → List Tie → Place × ℤ → Option Reasons → Type 0
TellsIntAt rule ties term found = ((start finish : ℕ) → AreEnds rule false term.0 start finish
    → TellsInt rule.rows ties start finish term.1 found)
    × (((start finish : ℕ) → AreEnds rule false term.0 start finish → ⊥) → found ≡ None)

-- what is found of a form of one or two ints along a rule; nothing of other forms
abbrev pub TellsForm : PathRule → List Tie → List (Place × ℤ) → Option Reasons → Type 0
TellsForm rule ties [] found = found ≡ None
TellsForm rule ties (one ∷ []) found = TellsIntAt rule ties one found
TellsForm rule ties (one ∷ other ∷ []) found = (a : Option Reasons) × (b : Option Reasons) × TellsIntAt rule ties one a
    × TellsIntAt rule ties other b × (found ≡ both_of a b)
TellsForm rule ties (one ∷ other ∷ more ∷ rest) found = found ≡ None

-- what is followed of a form of ints along a rule, by the ties of the rule's rows
abbrev pub TellsInts : List (Place × ℤ) → PathRule → Option Followed → Type 0
TellsInts form rule found = (reasons : Option Reasons) × TellsForm rule (ties_from rule.rows 0 rule.rows) form reasons
    × (found ≡ followed_of (length rule.rows) reasons)

-- ---- each of the rules: nothing where nothing is found along one of them

-- what is told along each of the rules: nothing where nothing is found along one of them
abbrev pub TellsEach : (PathRule → Option Followed → Type 0) → List PathRule → Option (List Followed) → Type 0
TellsEach tells rules None = (n : ℕ) × (rule : PathRule) × (slice_get rules n ≡ Some rule) × tells rule None
TellsEach tells rules (Some all) = (length all ≡ length rules)
    × ((n : ℕ) (rule : PathRule) (followed : Followed) → slice_get rules n ≡ Some rule → slice_get all n ≡ Some followed
    → tells rule (Some followed))

-- ---- sizes

-- a row that is there, so many times
abbrev pub row_times : Option ℕ → ℤ → List (ℕ × ℤ)
row_times None times = []
row_times (Some row) times = (row, times) ∷ []

-- how often the row of a part of a size counts, so that the part drops out: once less for the part to which the link leads
abbrev pub part_times : ℕ → ℕ × ℤ → ℤ
part_times to term = if term.0 == to then pos 0 -ℤ (term.1 +ℤ pos 1) else pos 0 -ℤ term.1

-- the row that says a part of a size is at least 0, as often as the part is to drop out; none for the size itself
abbrev pub part_entry : List WRow → Link → ℕ × ℤ → List (ℕ × ℤ)
part_entry rows link term = if term.0 == link.from then [] else row_times (zero_from term.0 0 rows) (part_times link.to term)

-- the rows that take out the parts of a size, part after part
abbrev pub part_entries : List WRow → Link → List (ℕ × ℤ) → List (ℕ × ℤ)
part_entries rows link [] = []
part_entries rows link (term ∷ rest) = part_entry rows link term ++ part_entries rows link rest

-- the terms of a row that is there
abbrev pub terms_at : Option WRow → List (ℕ × ℤ)
terms_at None = []
terms_at (Some row) = row.terms

-- the rows of a tie of sizes: its equation, and the rows that take out the other parts, unless the tie goes back
abbrev pub size_tie_entries : List WRow → Tie → List (ℕ × ℤ)
size_tie_entries rows tie = (tie.row, step_times tie)
    ∷ (if tie.back then [] else part_entries rows tie.link (terms_at (slice_get rows tie.row)))

-- the rows of a list of ties of sizes, tie after tie
abbrev pub size_entries : List WRow → List Tie → List (ℕ × ℤ)
size_entries rows [] = []
size_entries rows (tie ∷ rest) = size_tie_entries rows tie ++ size_entries rows rest
