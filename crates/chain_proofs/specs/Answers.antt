-- What is answered for rules.
use Rattle.std.specs.Prelude.{List, map}
use Rattle.std.specs.List.{AllZip}
use Rattle.descent.specs.declared.proof.ProofStep.{ProofStep}
use Rattle.descent.specs.declared.rules.PathRule.{PathRule}
use Rattle.descent.specs.Conditions.{AreSteps}
use Rattle.descent.specs.Steps.{Closed}
use Rattle.chain_proofs.specs.declared.proving.LeftRule.{LeftRule}
use Rattle.chain_proofs.specs.declared.proving.Proved.{Proved}
use Rattle.chain_proofs.specs.declared.proving.Proved.TheVariants.{Whole, Stuck}
use Rattle.chain_proofs.specs.Lean.{AreLean}
use Rattle.chain_proofs.specs.Stuck.{HasNoForm, AreStuck, IsLeftRule}
use Rattle.chain_proofs.specs.Unfinished.{IsLeft}

-- the steps so far are within the limits of proofs and hold, and leave these rules to the next one; and the rules are stuck
pub record LeavesStuckBy (none : List PathRule → Type 0) (rules : List PathRule) (steps : List ProofStep) (left : List LeftRule) :
    Type 0 where
  pub limits : AreSteps steps
  pub is_left : IsLeft rules steps (map (λ (one : LeftRule). one.rule) left)
  pub own : List PathRule
  pub are_own : AllZip (IsLeftRule rules) left own
  pub stuck : AreStuck none own

-- a proof whose steps are within the limits of proofs; or the steps so far, and rules that are stuck
abbrev pub ProvesOrBy : (List PathRule → Type 0) → List PathRule → Proved → Type 0
ProvesOrBy none rules (Whole proof) = AreSteps proof.steps
ProvesOrBy none rules (Stuck proof left) = LeavesStuckBy none rules proof.steps left

-- a proof whose steps are all there is closed
abbrev pub IsClosed : List PathRule → Proved → Type 0
IsClosed rules (Whole proof) = Closed rules proof
IsClosed rules (Stuck proof left) = Unit {0}

-- the steps are few and have no idle parts, also those of a proof that isn't finished
abbrev pub IsLean : List PathRule → Proved → Type 0
IsLean rules (Whole proof) = AreLean rules proof.steps
IsLean rules (Stuck proof left) = AreLean rules proof.steps

-- the steps so far hold, and the rules that they leave are stuck: neither a plain form nor a stepwise one ranks them
abbrev pub LeavesStuck : List PathRule → List ProofStep → List LeftRule → Type 0
LeavesStuck rules steps left = LeavesStuckBy HasNoForm rules steps left

-- a proof whose steps are within the limits of proofs; or the steps so far, and rules that neither a plain form nor a stepwise one ranks
abbrev pub ProvesOr : List PathRule → Proved → Type 0
ProvesOr rules proved = ProvesOrBy HasNoForm rules proved
