-- Words of private calls: sets of rules, and the steps for them.
use Rattle.std.specs.Prelude.{◌≡◌, ℕ, ◌<◌, true, Bool, false, IsTrue, if◌then◌else◌, List, [], ◌∷◌, length, map, Option}
use Rattle.std.specs.Prelude.{Some, None, slice_get}
use Rattle.std.specs.List.{AllZip, filter_map}
use Rattle.descent.specs.declared.proof.ProofStep.{ProofStep}
use Rattle.descent.specs.declared.proof.RankRule.{RankRule}
use Rattle.descent.specs.declared.proof.RankRule.TheVariants.{Weak, Strict}
use Rattle.descent.specs.declared.proof.RankStep.{RankStep}
use Rattle.descent.specs.declared.rules.PathRule.{PathRule}
use Rattle.descent.specs.Conditions.{IsRanked, IsStep}
use Rattle.descent.specs.Splits.{is_followed}
use Rattle.descent.specs.Steps.{Given, ranking_of, ranking_fault, give, part_left, same_option}
use Rattle.number_graphs.specs.Graphs.{Leads}
use Rattle.chain_proofs.specs.declared.proving.LeftRule.{LeftRule}
use Rattle.chain_proofs.specs.declared.proving.Turn.{Turn}
use Rattle.chain_proofs.specs.declared.proving.Turn.TheVariants.{Step, Left}
use Rattle.chain_proofs.specs.inner.Dealt.{AreSets, IsPaid}
use Rattle.chain_proofs.specs.Lean.{IsLeanRank, IsLeanStep}
use Rattle.chain_proofs.specs.Stuck.{AreStuck, IsLeftRule}
use Rattle.chain_proofs.specs.Unfinished.{HoldsAt}

-- a class of one rule, which doesn't follow itself
abbrev pub is_alone : List PathRule → List ℕ → Bool
is_alone own [] = false
is_alone own (only ∷ []) = if is_followed own only only then false else true
is_alone own (one ∷ more ∷ rest) = false

-- numbers that stand at these places of a list
abbrev pub AreAt : List ℕ → List ℕ → List ℕ → Type 0
AreAt set places part = AllZip (λ (place n : ℕ). slice_get set place ≡ Some n) places part

-- the step of a class, to which its part is given; none where the class is one rule that doesn't follow itself
abbrev pub IsStepOf : List PathRule → List ℕ → Option ℕ → Type 0
IsStepOf own class (Some step) = is_alone own class ≡ false
IsStepOf own class None = is_alone own class ≡ true

pub record IsHanded (own : List PathRule) (set class part : List ℕ) (number : ℕ) (given : Given) (step : Option ℕ) (after : Given) :
    Type 0 where
  pub step_is : IsStepOf own class step
  pub gives : give number (filter_map same_option (part_left set part step ∷ [])) given ≡ Some after

-- the classes are not a single one of rules that reach each other and themselves
abbrev pub IsApart : List PathRule → List (List ℕ) → Type 0
IsApart own [] = Unit {0}
IsApart own (class ∷ []) = is_alone own class ≡ true
IsApart own (one ∷ more ∷ rest) = Unit {0}

-- there are rules, and each reaches each, itself too
pub record AreJoined (own : List PathRule) : Type 0 where
  pub some : 0 < length own
  pub joined : (rule other : ℕ) → rule < length own → other < length own → Leads (λ m n. IsTrue (is_followed own m n)) rule other

-- the rules of a set with their cuts
pub record IsLeftOf (rules : List PathRule) (number : ℕ) (left : LeftRule) : Type 0 where
  pub number_is : left.rule ≡ number
  pub rule : PathRule
  pub is : IsLeftRule rules left rule

abbrev pub AreLeft : List PathRule → List ℕ → List LeftRule → Type 0
AreLeft rules set left = AllZip (IsLeftOf rules) set left

-- ---- steps

abbrev pub RanksAll : List PathRule → List ℕ → RankStep → Type 0
RanksAll rules set step = ranking_fault (ranking_of step) rules set step.rules ≡ None

pub record IsRankOf (rules : List PathRule) (set : List ℕ) (step : RankStep) : Type 0 where
  pub limits : IsRanked step
  pub ranks : RanksAll rules set step
  pub lean : IsLeanRank rules step

abbrev pub RanksOr : (List PathRule → Type 0) → List PathRule → List ℕ → List PathRule → Option RankStep → Type 0
RanksOr none rules set own (Some step) = IsRankOf rules set step
RanksOr none rules set own None = none own

-- a listed rule that is named by its place in a set, and by its number
abbrev pub IsRenumbered : List ℕ → RankRule → RankRule → Type 0
IsRenumbered set (Weak place fall) (Weak rule shown) = (slice_get set place ≡ Some rule) × (shown ≡ fall)
IsRenumbered set (Weak place fall) (Strict rule shown above) = ⊥
IsRenumbered set (Strict place fall bound) (Weak rule shown) = ⊥
IsRenumbered set (Strict place fall bound) (Strict rule shown above) = (slice_get set place ≡ Some rule) × (shown ≡ fall) × (above ≡ bound)

-- a step that names rules by their places, and the same one that names them by their numbers
pub record IsStepOver (set : List ℕ) (step over : RankStep) : Type 0 where
  pub size : over.size ≡ step.size
  pub weights : over.weights ≡ step.weights
  pub forms : over.forms ≡ step.forms
  pub listed : AllZip (IsRenumbered set) step.rules over.rules

-- what becomes of a step: it holds for its set and gives sets on, or there is no form
pub record IsStuckAt (none : List PathRule → Type 0) (rules : List PathRule) (set : List ℕ) (left : List LeftRule) : Type 0 where
  pub own : List PathRule
  pub numbers : map (λ (one : LeftRule). one.rule) left ≡ set
  pub are_own : AllZip (IsLeftRule rules) left own
  pub stuck : AreStuck none own

-- a step holds for its set, and has no idle part; the sets that it gives on are sets of rules, and need less than its own
pub record IsTurned (rules : List PathRule) (number : ℕ) (given : Given) (step : ProofStep) (after : Given) : Type 0 where
  pub holds : HoldsAt rules number given step after
  pub limits : IsStep step
  pub lean : IsLeanStep rules step
  pub sets : AreSets (length rules) after
  pub paid : IsPaid number given after

abbrev pub TurnsOr : (List PathRule → Type 0) → List PathRule → ℕ → List ℕ → Given → Turn → Given → Type 0
TurnsOr none rules number set given (Step step) after = IsTurned rules number given step after
TurnsOr none rules number set given (Left left) after = (after ≡ given) × IsStuckAt none rules set left
