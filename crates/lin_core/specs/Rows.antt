-- Rows over variables that stand for whole numbers.
use Rattle.std.specs.Prelude.{ℕ, suc, ℤ, pos, ◌≡◌, ◌<◌, ◌≤◌, ◌+ℤ◌, ◌*ℤ◌, ◌≤ℤ◌, ◌==◌, List, [], ◌∷◌, if◌then◌else◌}
use Rattle.std.specs.List.{All}
use Rattle.lin_core.specs.declared.rows.RowKind.{RowKind}
use Rattle.lin_core.specs.declared.rows.RowKind.TheVariants.{AtLeastZero, IsZero}
use Rattle.lin_core.specs.declared.rows.Target.{Target}

-- a row: a list of terms and a constant, and what is known of their sum
pub record Row : Type 0 where
  pub kind : RowKind
  pub terms : List (ℕ × ℤ)
  pub constant : ℤ

-- the coefficient of a variable in a list of terms: the sum of the numbers that stand beside it
abbrev pub coefficient_of : ℕ → List (ℕ × ℤ) → ℤ
coefficient_of variable [] = pos 0
coefficient_of variable (term ∷ rest) = (if term.0 == variable then term.1 else pos 0) +ℤ coefficient_of variable rest

-- the value of a list of terms, where the variables stand for these numbers: the sum of coefficient times number
abbrev pub value_of_terms : (ℕ → ℤ) → List (ℕ × ℤ) → ℤ
value_of_terms numbers [] = pos 0
value_of_terms numbers (term ∷ rest) = term.1 *ℤ numbers term.0 +ℤ value_of_terms numbers rest

-- the value of a row: its terms and its constant
abbrev pub value_of_row : (ℕ → ℤ) → Row → ℤ
value_of_row numbers row = value_of_terms numbers row.terms +ℤ row.constant

-- the value of a target: its terms and its constant
abbrev pub value_of_target : (ℕ → ℤ) → Target → ℤ
value_of_target numbers target = value_of_terms numbers target.terms +ℤ target.constant

-- what a kind says of a value
abbrev pub IsOfKind : RowKind → ℤ → Type 0
IsOfKind AtLeastZero value = pos 0 ≤ℤ value
IsOfKind IsZero value = value ≡ pos 0

-- a row holds where the variables stand for these numbers: its value is at least 0, or is 0, as its kind says
abbrev pub Holds : (ℕ → ℤ) → Row → Type 0
Holds numbers row = IsOfKind row.kind (value_of_row numbers row)

-- all rows hold where the variables stand for these numbers
abbrev pub AllHold : (ℕ → ℤ) → List Row → Type 0
AllHold numbers rows = All (λ (row : Row). Holds numbers row) rows

-- the variables of the terms rise: the first is not below `low`, each is above the one before, and all are below `end`
abbrev pub RiseFrom : ℕ → ℕ → List (ℕ × ℤ) → Type 0
RiseFrom low end [] = Unit {0}
RiseFrom low end (term ∷ rest) = (low ≤ term.0) × (term.0 < end) × RiseFrom (suc term.0) end rest

-- the variables rise and are below `end`
abbrev pub Rise : ℕ → List (ℕ × ℤ) → Type 0
Rise end terms = RiseFrom 0 end terms

-- in each row the variables rise and are below `end`
abbrev pub AllRise : ℕ → List Row → Type 0
AllRise end rows = All (λ (row : Row). Rise end row.terms) rows
