-- A proof before its first step.
use Rattle.std.proofs.Common.{◌≡◌, ◌∙◌, ◌+◌, ◌*◌, ℕ, suc, List, [], ◌∷◌, length, Some, slice_get, refl, sym, ap, subst, arith}
use Rattle.std.proofs.lemmas.List.Elements.{All-nil}
use Rattle.list_views.specs.Lists.{numbers_from}
use Rattle.descent.specs.declared.proof.ProofStep.{ProofStep}
use Rattle.descent.specs.declared.rules.PathRule.{PathRule}
use Rattle.descent.specs.Conditions.{IsStep}
use Rattle.descent.specs.Steps.{Given, given_first}
use Rattle.chain_proofs.specs.Lean.{IsLeanStep}
use Rattle.chain_proofs.specs.Sets.{AreOwn, IsAsked}
use Rattle.chain_proofs.proofs.Closing.{long_first}
use Rattle.chain_proofs.proofs.Spending.{all_set, owed_first, sets_first}
use Rattle.chain_proofs.proofs.Turning.{IsProof}

pub proof_first : (rules : List PathRule) (count below : ℕ) (given : Given) → count ≡ length rules → below ≡ 4 * count + 4
    → given ≡ given_first count below → IsProof rules below 0 [] given
proof_first rules count below given c b e = subst (IsProof rules below 0 [])
    (ap (λ (n : ℕ). given_first n below) (sym c) ∙ sym e) (record {
      hold = refl;
      count = refl;
      within = All-nil IsStep;
      lean = All-nil (λ (step : ProofStep). IsLeanStep rules step);
      sets = sets_first (length rules) below;
      long = long_first (length rules) below;
      most = b ∙ ap (λ (n : ℕ). 4 * n + 4) c;
      spent = let most = owed_first (length rules) below in omega (arith, most);
    })

-- ---- all rules are a set that the search is asked for

own_from : (rules front : List PathRule) (low : ℕ) → ((k : ℕ) (rule : PathRule) → slice_get front k ≡ Some rule
    → slice_get rules (low + k) ≡ Some rule) → AreOwn rules (numbers_from low (length front)) front
own_from rules [] low h = tt
own_from rules (rule ∷ front) low h = (
  let first : low + 0 ≡ low = omega arith in subst (λ (n : ℕ). slice_get rules n ≡ Some rule) first (h 0 rule refl),
  own_from rules front (suc low) (λ k one e. let next : low + suc k ≡ suc low + k = omega arith in
      subst (λ (n : ℕ). slice_get rules n ≡ Some one) next (h (suc k) one e)),
)

pub all_asked : (asks : List PathRule → Type 0) (rules : List PathRule) → IsAsked asks rules → asks rules
all_asked asks rules asked = asked (numbers_from 0 (length rules)) rules (all_set (length rules)).rise (own_from rules rules 0
    (λ k rule e. let same : 0 + k ≡ k = omega arith in subst (λ (n : ℕ). slice_get rules n ≡ Some rule) (sym same) e))
