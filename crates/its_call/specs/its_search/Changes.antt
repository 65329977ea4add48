-- How much variables, and forms of them, change along a rule of a system, by the rule's rows.
use Rattle.std.specs.Prelude.{ℕ, ◌+◌, ◌<◌, ◌≡◌, ◌⊎◌, ℤ, pos, negsuc, ◌+ℤ◌, ◌*ℤ◌, ◌==◌, ◌&&◌, List, [], ◌∷◌, Option, Some, None}
use Rattle.std.specs.Prelude.{if◌then◌else◌}
use Rattle.std.specs.Ordering.{int_eq}
use Rattle.std.specs.Option.{option_or}
use Rattle.std.proofs.Common.{◌-ℤ◌}
use Rattle.lin_core.specs.declared.rows.RowKind.{RowKind}
use Rattle.lin_core.specs.declared.rows.RowKind.TheVariants.{AtLeastZero, IsZero}
use Rattle.lin_core.specs.declared.rows.WRow.{WRow}

-- by how much a variable x changes where K + a x + b x' is 0: x' is x - K where a and b are -1 and 1, and x + K where they are 1 and -1
abbrev pub change_by : ℤ → ℤ → ℤ → Option ℤ
change_by a b constant =
    if int_eq a (negsuc 0) && int_eq b (pos 1) then Some (pos 0 -ℤ constant)
    else (if int_eq a (pos 1) && int_eq b (negsuc 0) then Some constant else None)

-- by how much a variable x changes by an equation with these terms, which has to be of x alone, before the rule and after it
abbrev pub change_in : ℕ → ℕ → List (ℕ × ℤ) → ℤ → Option ℤ
change_in count x (one ∷ other ∷ []) constant = if (one.0 == x) && (other.0 == count + x) then change_by one.1 other.1 constant else None
change_in count x terms constant = None

-- by how much a variable changes by a row, which has to be an equation of it alone
abbrev pub change_of_row : ℕ → ℕ → RowKind → List (ℕ × ℤ) → ℤ → Option ℤ
change_of_row count x AtLeastZero terms constant = None
change_of_row count x IsZero terms constant = change_in count x terms constant

-- by how much a variable changes along a rule: the first row that is an equation of it alone says so
abbrev pub change_of : ℕ → ℕ → List WRow → Option ℤ
change_of count x [] = None
change_of count x (row ∷ rest) = option_or (change_of_row count x row.kind row.terms row.constant) (change_of count x rest)

-- a form: a sum of multiples of variables
abbrev pub Form : Type 0
Form = List (ℕ × ℤ)

-- one more change, so many times, and the change of the rest, where both are known
abbrev pub added : ℤ → Option ℤ → Option ℤ → Option ℤ
added times (Some one) (Some rest) = Some (times *ℤ one +ℤ rest)
added times _ _ = None

-- by how much a form changes along a rule with these rows, where all of its variables do by their equations
abbrev pub form_change : ℕ → List WRow → Form → Option ℤ
form_change count rows [] = Some (pos 0)
form_change count rows (term ∷ rest) = added term.1 (change_of count term.0 rows) (form_change count rows rest)

-- a variable counts once, or is taken away once
abbrev pub IsUnit : ℤ → Type 0
IsUnit times = (times ≡ pos 1) ⊎ (times ≡ negsuc 0)

-- the term is one of so many variables, which counts once or is taken away once
abbrev pub IsUnitTerm : ℕ → ℕ × ℤ → Type 0
IsUnitTerm count term = (term.0 < count) × IsUnit term.1
