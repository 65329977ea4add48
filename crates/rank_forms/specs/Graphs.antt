-- Rules as a graph's paths have them, which the search asks for.
use Rattle.std.specs.Prelude.{ℕ, ℤ, pos, negsuc, ◌≡◌, ◌⊎◌, ◌≤◌, ◌^◌, unsigned_abs, Bool, true, false, List, [], ◌∷◌, ◌++◌, Some}
use Rattle.std.specs.Prelude.{if◌then◌else◌, map, length, slice_get}
use Rattle.std.specs.List.{All}
use Rattle.lin_core.specs.declared.rows.RowKind.TheVariants.{IsZero}
use Rattle.lin_core.specs.declared.rows.WRow.{WRow}
use Rattle.lin_core.specs.Rows.{Rise}
use Rattle.descent.specs.Conditions.{AreRules}
use Rattle.descent.specs.declared.rules.PathRule.{PathRule}
use Rattle.descent.specs.declared.rules.Place.{Place}
use Rattle.descent.specs.declared.rules.SlotForm.{SlotForm}
use Rattle.rank_forms.specs.rule_links.Links.{HasBound}
use Rattle.rank_forms.specs.rule_links.Positions.{IsVariable, same}

-- the ids of the slots of a kind, in the slots' order, each with a multiple of 1
abbrev pub ids_of : Bool → List SlotForm → List (ℕ × ℤ)
ids_of size [] = []
ids_of size (slot ∷ rest) = (if same slot.size size then (slot.id, pos 1) ∷ [] else []) ++ ids_of size rest

-- ids of a kind rise, and are below 65,536
abbrev pub AreNamed : List SlotForm → Type 0
AreNamed slots = Rise 65536 (ids_of false slots) × Rise 65536 (ids_of true slots)

-- at most 65,536 rows and as many variables; the ids of both ends rise
pub record IsPathRule (rule : PathRule) : Type 0 where
  pub rows : length rule.rows ≤ 65536
  pub variables : rule.vars ≤ 65536
  pub first : AreNamed rule.first
  pub last : AreNamed rule.last

-- the slots of an end of a rule at a cut
abbrev pub IsEndAt : List PathRule → ℕ → List SlotForm → Type 0
IsEndAt rules cut slots = (n : ℕ) × (rule : PathRule) × (slice_get rules n ≡ Some rule)
    × (((rule.from ≡ cut) × (rule.first ≡ slots)) ⊎ ((rule.to ≡ cut) × (rule.last ≡ slots)))

-- of each slot the id, the kind and the places
abbrev pub head_of : SlotForm → ℕ × Bool × List Place
head_of slot = (slot.id, slot.size, slot.places)

-- the ids, the kinds and the places of slots, in the slots' order
abbrev pub heads : List SlotForm → List (ℕ × Bool × List Place)
heads slots = map head_of slots

-- at most 4,096 rules; rules that start or end at one cut have there the same ids, kinds and places
pub record ArePathRules (rules : List PathRule) : Type 0 where
  pub limits : AreRules rules
  pub few : length rules ≤ 4096
  pub each : All IsPathRule rules
  pub ends : (cut : ℕ) (one other : List SlotForm) → IsEndAt rules cut one → IsEndAt rules cut other → heads one ≡ heads other

-- a row says that so many times a variable alone, and a constant of at most 2^31 in size, is at least 0
pub record HasClose (rows : List WRow) (variable : ℕ) (times : ℤ) : Type 0 where
  pub constant : ℤ
  pub bound : HasBound rows variable times constant
  pub small : unsigned_abs constant ≤ 2 ^ 31

-- an int that is one variable is bounded on both sides, as by an interval
abbrev pub IsCloseInt : List WRow → SlotForm → Type 0
IsCloseInt rows slot = slot.size ≡ false → (variable : ℕ) → IsVariable slot variable → HasClose rows variable (pos 1)
    × HasClose rows variable (negsuc 0)

-- an equation of three variables without weights has coefficients of at most 4,096 in size
pub record IsShort (row : WRow) : Type 0 where
  pub low : row.kind ≡ IsZero → row.weights ≡ [] → (a b c : ℕ × ℤ) → row.terms ≡ a ∷ b ∷ c ∷ [] → (unsigned_abs a.1 ≤ 4096)
      × (unsigned_abs b.1 ≤ 4096) × (unsigned_abs c.1 ≤ 4096)

-- some variables stand for sizes; the size slots that are one variable are among these, and a row says that each is at least 0
abbrev pub IsSizeSlot : List WRow → (ℕ → Bool) → SlotForm → Type 0
IsSizeSlot rows sizes slot = slot.size ≡ true → (variable : ℕ) → IsVariable slot variable → (sizes variable ≡ true)
    × HasBound rows variable (pos 1) (pos 0)

-- the variables of terms stand for sizes, and their coefficients are at most 4,096 in size
abbrev pub AreSizeTerms : (ℕ → Bool) → List (ℕ × ℤ) → Type 0
AreSizeTerms sizes terms = All (λ (term : ℕ × ℤ). (sizes term.0 ≡ true) × (unsigned_abs term.1 ≤ 4096)) terms

-- an equation that has a variable that stands for a size has such variables alone
pub record IsOneKind (sizes : ℕ → Bool) (row : WRow) : Type 0 where
  pub alike : row.kind ≡ IsZero → (n : ℕ) (term : ℕ × ℤ) → slice_get row.terms n ≡ Some term → sizes term.0 ≡ true
      → AreSizeTerms sizes row.terms

-- a rule tells sizes from other variables: the size slots at its start are among these, and each equation has one kind
pub record AreSizes (rule : PathRule) : Type 0 where
  pub sizes : ℕ → Bool
  pub slots : All (IsSizeSlot rule.rows sizes) rule.first
  pub kinds : All (IsOneKind sizes) rule.rows

-- what plain forms ask of a rule besides
pub record IsPlainRule (rule : PathRule) : Type 0 where
  pub ints : All (IsCloseInt rule.rows) rule.first
  pub short : All IsShort rule.rows
  pub sizes : AreSizes rule

-- rules as a graph's paths have them, of which each is as plain forms ask it
pub record ArePlainRules (rules : List PathRule) : Type 0 where
  pub paths : ArePathRules rules
  pub plain : All IsPlainRule rules
