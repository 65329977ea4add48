-- What the calls of this crate ask of rules, forms and proofs.
use Rattle.std.specs.Prelude.{ℕ, ℤ, ◌≡◌, ◌≤◌, ◌^◌, List, length, unsigned_abs}
use Rattle.std.specs.List.{All}
use Rattle.lin_core.specs.Rows.{Rise}
use Rattle.lin_core.specs.Weights.{AreRows, AreWeights, total_size}
use Rattle.descent.specs.declared.proof.CutForm.{CutForm}
use Rattle.descent.specs.declared.proof.ProofStep.{ProofStep}
use Rattle.descent.specs.declared.proof.ProofStep.TheVariants.{Empty, Split, Rank, Dead}
use Rattle.descent.specs.declared.proof.RankRule.{RankRule}
use Rattle.descent.specs.declared.proof.RankRule.TheVariants.{Weak, Strict}
use Rattle.descent.specs.declared.proof.RankStep.{RankStep}
use Rattle.descent.specs.declared.rules.PathRule.{PathRule}
use Rattle.descent.specs.declared.rules.SlotForm.{SlotForm}

-- a slot over the variables below `end`: its variables rise, its constant is at most 2^40 in size, and so are its
-- multiples of weights together
pub record IsSlot (end : ℕ) (slot : SlotForm) : Type 0 where
  pub rise : Rise end slot.terms
  pub constant : unsigned_abs slot.constant ≤ 2 ^ 40
  pub weights : total_size slot.weights ≤ 2 ^ 40

-- each slot is over the variables below `end`, within the limits of numbers
abbrev pub AreSlots : ℕ → List SlotForm → Type 0
AreSlots end slots = All (λ (slot : SlotForm). IsSlot end slot) slots

-- rows and slots are over the rule's variables
pub record IsRule (rule : PathRule) : Type 0 where
  pub rows : AreRows rule.vars rule.rows
  pub first : AreSlots rule.vars rule.first
  pub last : AreSlots rule.vars rule.last

-- each rule has rows and slots over its own variables
abbrev pub AreRules : List PathRule → Type 0
AreRules rules = All (λ (rule : PathRule). IsRule rule) rules

-- each rule has at most so many variables
abbrev pub AreOver : ℕ → List PathRule → Type 0
AreOver count rules = All (λ (rule : PathRule). rule.vars ≤ count) rules

-- multiples of ids: the ids rise and are below 65,536, and no multiple is above 2^31 in size
pub record AreMultiples (entries : List (ℕ × ℤ)) : Type 0 where
  pub rise : Rise 65536 entries
  pub size : All (λ (entry : ℕ × ℤ). unsigned_abs entry.1 ≤ 2 ^ 31) entries

-- the form of a cut is within its limits: its constant is at most 2^40 in size, and its multiples of ints and of sizes are as
-- `AreMultiples` has it
pub record IsForm (form : CutForm) : Type 0 where
  pub number : unsigned_abs form.constant ≤ 2 ^ 40
  pub ints : AreMultiples form.ints
  pub sizes : AreMultiples form.sizes

-- each form of a cut is within its limits
abbrev pub AreForms : List CutForm → Type 0
AreForms forms = All (λ (form : CutForm). IsForm form) forms

-- a list of multipliers has at most 65,536 entries
abbrev pub AreFew : List (ℕ × ℤ) → Type 0
AreFew multipliers = length multipliers ≤ 65536

-- a rule that a rank step lists has few multipliers: for its fall, and for its bound where it is listed as strict
abbrev pub IsListed : RankRule → Type 0
IsListed (Weak rule fall) = AreFew fall
IsListed (Strict rule fall bound) = AreFew fall × AreFew bound

-- a rank step is within its limits: its forms, its weights of classes, and the multipliers of the rules that it lists
pub record IsRanked (step : RankStep) : Type 0 where
  pub forms : AreForms step.forms
  pub weights : AreWeights step.weights
  pub rules : All IsListed step.rules

-- a split has as many steps as parts; the numbers of the other steps are within their limits
abbrev pub IsStep : ProofStep → Type 0
IsStep Empty = Unit {0}
IsStep (Split parts steps) = length steps ≡ length parts
IsStep (Rank step rest) = IsRanked step
IsStep (Dead rule multipliers rest) = AreFew multipliers

-- each step of a proof is within its limits
abbrev pub AreSteps : List ProofStep → Type 0
AreSteps steps = All IsStep steps
