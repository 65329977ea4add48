-- Proofs that grow step by step.
use Rattle.std.proofs.Common.{◌≡◌, ◌∙◌, ◌+◌, ◌*◌, ◌<◌, ◌≤◌, ℕ, suc, List, [], ◌∷◌, ◌++◌, length, length-append, Some, slice_get}
use Rattle.std.proofs.Common.{refl, sym, ap}
use Rattle.std.proofs.Common.{subst, arith}
use Rattle.descent.specs.declared.proof.ProofStep.{ProofStep}
use Rattle.descent.specs.declared.proof.ProofStep.TheVariants.{Rank}
use Rattle.descent.specs.declared.proof.RankStep.{RankStep}
use Rattle.descent.specs.declared.rules.PathRule.{PathRule}
use Rattle.std.proofs.lemmas.List.Elements.{All-push}
use Rattle.descent.specs.Conditions.{IsStep, AreSteps}
use Rattle.std.specs.List.{All}
use Rattle.descent.specs.Steps.{Given, given_first, set_of, give, leaves, weak_ones}
use Rattle.descent.proofs.Walked.{gave}
use Rattle.chain_proofs.specs.declared.proving.LeftRule.{LeftRule}
use Rattle.chain_proofs.specs.declared.proving.Turn.TheVariants.{Step, Left}
use Rattle.chain_proofs.specs.Answers.{LeavesStuckBy}
use Rattle.chain_proofs.specs.inner.Dealt.{AreSets, HasRoom, owed}
use Rattle.chain_proofs.specs.Lean.{AreLean, IsLeanStep}
use Rattle.chain_proofs.specs.Unfinished.{HoldsAt, HoldFrom}
use Rattle.chain_proofs.specs.inner.Sets.{IsRankOf, TurnsOr}

pub hold_more : (rules : List PathRule) (number : ℕ) (given mid after : Given) (steps : List ProofStep) (step : ProofStep)
    → HoldFrom rules number given steps mid → HoldsAt rules (number + length steps) mid step after
    → HoldFrom rules number given (steps ++ step ∷ []) after
hold_more rules number given mid after [] step h g =
    let here : HoldsAt rules number mid step after = subst (λ (k : ℕ). HoldsAt rules k mid step after) (omega arith) g in
    (after, (subst (λ (other : Given). HoldsAt rules number other step after) (sym h) here, refl))
hold_more rules number given mid after (first ∷ rest) step h g = (
  h.0,
  (
    h.1.0,
    hold_more rules (suc number) h.0 mid after rest step h.1.1
        (subst (λ (k : ℕ). HoldsAt rules k mid step after) (omega arith) g),
  ),
)

pub rank_holds : (rules : List PathRule) (number : ℕ) (set : List ℕ) (given after : Given) (step : RankStep) (rest : ℕ)
    (weak : List ℕ) → set_of (slice_get given number) ≡ Some set → IsRankOf rules set step → weak ≡ weak_ones step.rules
    → give number ((rest, weak) ∷ []) given ≡ Some after → HoldsAt rules number given (Rank step rest) after
rank_holds rules number set given after step rest weak has_set is e gives = record {
  set = set;
  given_set = has_set;
  holds = is.ranks;
  gives = ap (λ (w : List ℕ). give number ((rest, w) ∷ []) given) (sym e) ∙ gives;
}

-- the steps so far, of which there are fewer than steps that may be named
pub record IsProof (rules : List PathRule) (below number : ℕ) (steps : List ProofStep) (given : Given) : Type 0 where
  pub hold : HoldFrom rules 0 (given_first (length rules) below) steps given
  pub count : length steps ≡ number
  pub within : AreSteps steps
  pub lean : All (λ (step : ProofStep). IsLeanStep rules step) steps
  pub sets : AreSets (length rules) given
  pub long : length given ≡ below
  pub most : below ≡ 4 * length rules + 4
  pub spent : number + owed number given ≤ 3 * length rules + 1

pub has_room : (rules : List PathRule) (below number : ℕ) (steps : List ProofStep) (given : Given) → IsProof rules below number steps given
    → HasRoom number given
has_room rules below number steps given h = let long = h.long in let most = h.most in let spent = h.spent in omega
    (arith, long, most, spent)

pub is_lean : (rules : List PathRule) (below number : ℕ) (steps : List ProofStep) (given : Given) → IsProof rules below number steps given
    → number < below → AreLean rules steps
is_lean rules below number steps given h l =
    let count = h.count in
    let most = h.most in
    record { few = omega (arith, count, most, l); lean = h.lean }

pub never_over : (rules : List PathRule) (below number : ℕ) (steps : List ProofStep) (given : Given)
    → IsProof rules below number steps given
    → below ≤ number → ⊥
never_over rules below number steps given h l = let most = h.most in let spent = h.spent in absurd (omega (arith, most, spent, l))

pub proof_more : (none : List PathRule → Type 0) (rules : List PathRule) (below number : ℕ) (steps more : List ProofStep)
    (given after : Given) (step : ProofStep) (set : List ℕ) → IsProof rules below number steps given
    → TurnsOr none rules number set given (Step step) after → more ≡ steps ++ step ∷ [] → IsProof rules below (number + 1) more after
proof_more none rules below number steps more given after step set h turn e =
    let same : number ≡ 0 + length steps = let count = h.count in omega (arith, count) in
    let next : suc number ≡ number + 1 = omega arith in
    let paid = subst (λ (k : ℕ). suc (owed k after) ≤ owed number given) next turn.paid in
    let spent = h.spent in
    subst (λ (ss : List ProofStep). IsProof rules below (number + 1) ss after) (sym e) (record {
      hold = hold_more rules 0 (given_first (length rules) below) given after steps step h.hold
          (subst (λ (k : ℕ). HoldsAt rules k given step after) same turn.holds);
      count = length-append steps (step ∷ []) ∙ ap (λ (k : ℕ). k + 1) h.count;
      within = All-push IsStep steps step h.within turn.limits;
      lean = All-push (λ (one : ProofStep). IsLeanStep rules one) steps step h.lean turn.lean;
      sets = turn.sets;
      long = (gave number (leaves turn.holds.set step) given after turn.holds.gives).count ∙ h.long;
      most = h.most;
      spent = omega (arith, paid, spent);
    })

pub unproved : (none : List PathRule → Type 0) (rules : List PathRule) (below number : ℕ) (given after : Given)
    (steps : List ProofStep) (set : List ℕ) (left : List LeftRule) → IsProof rules below number steps given
    → Some set ≡ set_of (slice_get given number) → TurnsOr none rules number set given (Left left) after
    → LeavesStuckBy none rules steps left
unproved none rules below number given after steps set left h has_set turn = record {
  limits = h.within;
  is_left = record {
    below = below;
    after = given;
    hold = h.hold;
    left = ap (λ (k : ℕ). set_of (slice_get given k)) h.count ∙ sym has_set ∙ ap Some (sym turn.1.numbers);
  };
  own = turn.1.own;
  are_own = turn.1.are_own;
  stuck = turn.1.stuck;
}
