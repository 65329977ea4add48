-- Words for the search for plain forms: which of them were tried.
use Rattle.std.specs.Prelude.{ℕ, ◌≡◌, ◌≤◌, true, false, List, [], ◌∷◌, Option, Some, None}
use Rattle.std.specs.List.{All}
use Rattle.descent.specs.declared.rules.PathRule.{PathRule}
use Rattle.its_front.specs.Systems.{IsSystemRule}
use Rattle.its_call.specs.its_search.Changes.{Form}
use Rattle.its_call.specs.its_search.Forms.{IsPlainForm, ranks}

-- the rules are over so many variables, of which there are at most 256
pub record IsCounted (rules : List PathRule) (count : ℕ) : Type 0 where
  pub few : count ≤ 256
  pub each : All (IsSystemRule count) rules

-- a form that is told is plain and ranks the rules; where none is told, no plain form of this kind does
abbrev pub Tells : ℕ → List PathRule → (Form → Type 0) → Option Form → Type 0
Tells count rules kind (Some form) = IsPlainForm count form × (ranks count rules form ≡ true)
Tells count rules kind None = (form : Form) → kind form → IsPlainForm count form → ranks count rules form ≡ false

-- the first variable of a form
abbrev pub first_of : Form → ℕ
first_of [] = 0
first_of (term ∷ rest) = term.0

-- the kind of forms of this one variable
abbrev pub IsSingle : ℕ → Form → Type 0
IsSingle one (term ∷ []) = term.0 ≡ one
IsSingle one form = ⊥

-- the kind of forms of these two variables
abbrev pub IsDifference : ℕ → ℕ → Form → Type 0
IsDifference one other (first ∷ second ∷ []) = (first.0 ≡ one) × (second.0 ≡ other)
IsDifference one other form = ⊥

-- the kind of forms of two variables, the first of which is this one
abbrev pub IsDifferenceFrom : ℕ → Form → Type 0
IsDifferenceFrom one (first ∷ second ∷ []) = first.0 ≡ one
IsDifferenceFrom one form = ⊥

-- the kind of forms whose first variable is this one
abbrev pub BeginsWith : ℕ → Form → Type 0
BeginsWith one form = first_of form ≡ one

-- the kind of all forms
abbrev pub IsAny : Form → Type 0
IsAny form = Unit {0}
