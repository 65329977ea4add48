-- Plain forms, and when one ranks rules. A form is the same at every cut of the rules: it is made of what stands at the same
-- place of the same frames.
use Rattle.std.specs.Prelude.{ℕ, ℤ, pos, negsuc, ◌≡◌, ◌<◌, ◌≤◌, ◌+ℤ◌, ◌*ℤ◌, ◌≤ℤ◌, List, [], ◌∷◌, Some, slice_get, unsigned_abs}
use Rattle.descent.specs.declared.rules.PathRule.{PathRule}
use Rattle.descent.specs.declared.rules.Place.{Place}
use Rattle.rank_forms.specs.rule_links.SizeLinks.{SizeFalls}
use Rattle.rank_forms.specs.rule_links.Changes.{ChangesBy, MovesBy}

-- a multiple of a form: a number from -4 to 4 other than 0
abbrev pub IsMultiple : ℤ → Type 0
IsMultiple times = (unsigned_abs times ≤ 4) × (0 < unsigned_abs times)

-- a form of ints: an int, its negative, or the sum of multiples from -4 to 4 of two ints
abbrev pub IsIntForm : List (Place × ℤ) → Type 0
IsIntForm (one ∷ []) = unsigned_abs one.1 ≡ 1
IsIntForm (one ∷ other ∷ []) = IsMultiple one.1 × IsMultiple other.1
IsIntForm form = ⊥

-- along a rule a form of ints changes by c
abbrev pub FormChanges : PathRule → List (Place × ℤ) → ℤ → Type 0
FormChanges rule [] c = c ≡ pos 0
FormChanges rule (one ∷ rest) c = (d : ℤ) × (e : ℤ) × ChangesBy rule one.0 d × FormChanges rule rest e × (c ≡ one.1 *ℤ d +ℤ e)

-- a form of ints never rises on the rules, and falls on one of them
pub record RanksInts (rules : List PathRule) (form : List (Place × ℤ)) : Type 0 where
  pub shape : IsIntForm form
  pub each : (n : ℕ) (rule : PathRule) → slice_get rules n ≡ Some rule → (c : ℤ) × FormChanges rule form c × (c ≤ℤ pos 0)
  pub falling : ℕ
  pub fallen : PathRule
  pub there : slice_get rules falling ≡ Some fallen
  pub falls : (c : ℤ) × FormChanges fallen form c × (c ≤ℤ negsuc 0)

-- along a rule a form of ints moves by c, where `moves` says by how much the int at a place moves
abbrev pub FormMoves : (PathRule → Place → ℤ → Type 0) → PathRule → List (Place × ℤ) → ℤ → Type 0
FormMoves moves rule [] c = c ≡ pos 0
FormMoves moves rule (one ∷ rest) c = (d : ℤ) × (e : ℤ) × moves rule one.0 d × FormMoves moves rule rest e × (c ≡ one.1 *ℤ d +ℤ e)

-- a form of ints never rises on the rules, and falls on one of them, where `moves` says by how much the int at a place moves
pub record LowersBy (moves : PathRule → Place → ℤ → Type 0) (rules : List PathRule) (form : List (Place × ℤ)) : Type 0 where
  pub shape : IsIntForm form
  pub each : (n : ℕ) (rule : PathRule) → slice_get rules n ≡ Some rule → (c : ℤ) × FormMoves moves rule form c × (c ≤ℤ pos 0)
  pub falling : ℕ
  pub fallen : PathRule
  pub there : slice_get rules falling ≡ Some fallen
  pub falls : (c : ℤ) × FormMoves moves fallen form c × (c ≤ℤ negsuc 0)

-- a form of ints never rises on the rules, and falls on one of them, where some lists of int links say how its ints move
abbrev pub LowersInts : List PathRule → List (Place × ℤ) → Type 0
LowersInts rules form = LowersBy MovesBy rules form

-- a size never rises on the rules, and falls on one of them
pub record RanksSize (rules : List PathRule) (place : Place) : Type 0 where
  pub each : (n : ℕ) (rule : PathRule) → slice_get rules n ≡ Some rule → (c : ℤ) × SizeFalls rule place c × (pos 0 ≤ℤ c)
  pub falling : ℕ
  pub fallen : PathRule
  pub there : slice_get rules falling ≡ Some fallen
  pub falls : (c : ℤ) × SizeFalls fallen place c × (pos 1 ≤ℤ c)

-- no plain form ranks the rules
pub record NoPlainForm (rules : List PathRule) : Type 0 where
  pub ints : (form : List (Place × ℤ)) → RanksInts rules form → ⊥
  pub sizes : (place : Place) → RanksSize rules place → ⊥
