-- What the calls of the check answer.
use Rattle.std.proofs.Common.{◌≡◌, ◌↔◌, ℕ, zero, suc, ◌+◌, ◌-◌, ◌<◌, ◌≤◌, Bool, true, false, cond, List, [], ◌∷◌, ◌++◌, length}
use Rattle.std.proofs.Common.{replicate, ℤ, negsuc, Option, Some, None, Result, Ok, Err, subst, ap, arith, refl, ◌∙◌, sym, add-one}
use Rattle.std.proofs.Common.{append_assoc, get_or, drop}
use Rattle.std.specs.Prelude.{IsTrue, OnOk, slice_get, nat_lt}
use Rattle.std.proofs.lemmas.Bool.Decides.{nat_tests}
use Rattle.std.proofs.lemmas.List.{at_drop_more, at_drop_all}
use Rattle.std.proofs.lemmas.Option.{get_or_from_slice_get, slice_get_within}
use Rattle.lin_core.specs.Combination.{Shows}
use Rattle.lin_core.specs.Sums.{Sum, Leaves}
use Rattle.descent.specs.declared.faults.DescentFault.{DescentFault}
use Rattle.descent.specs.declared.faults.DescentFault.TheVariants.{NotCovered}
use Rattle.descent.specs.declared.faults.StepFault.{StepFault}
use Rattle.descent.specs.declared.proof.ProofStep.{ProofStep}
use Rattle.descent.specs.declared.proof.RankRule.{RankRule}
use Rattle.descent.specs.declared.proof.RankRule.TheVariants.{Weak, Strict}
use Rattle.descent.specs.declared.rules.PathRule.{PathRule}
use Rattle.descent.specs.inner.Handing.{Gives, IsHanded}
use Rattle.descent.specs.Conditions.{AreOver}
use Rattle.descent.specs.Splits.{edge_fault}
use Rattle.descent.specs.Orders.{Says}
use Rattle.descent.specs.Rankings.{minus_one, dead_fault}
use Rattle.descent.specs.Steps.{Given, numbers_from, rule_of, listed_fault, dead_at, give, Refuses, go_on, try_step, set_of}
use Rattle.descent.specs.Steps.{first_fault_from}

pub leaves_one : (told : Bool) (sum : Sum) → (IsTrue told ↔ Leaves sum (negsuc 0)) → (IsTrue told ↔ Shows sum minus_one)
leaves_one told sum h = (
  λ t. let l = h.0 t in record { coefficients = l.coefficients; constant = l.constant },
  λ s. h.1 (record { coefficients = s.coefficients; constant = s.constant }),
)

pub over_at : (count : ℕ) (rules : List PathRule) (number : ℕ) (rule : PathRule) → AreOver count rules
    → slice_get rules number ≡ Some rule → rule.vars ≤ count
over_at count rules number rule h e = subst (λ (r : PathRule). r.vars ≤ count) (get_or_from_slice_get rules number rule rule e)
    (h number rule (slice_get_within rules number rule e))

pub dead_told : (member : Bool) (found : Option PathRule) (number : ℕ) (rule : PathRule) (multipliers : List (ℕ × ℤ))
    (told : Option DescentFault) → member ≡ true → found ≡ Some rule → told ≡ dead_fault number rule multipliers
    → told ≡ cond member (dead_at number found multipliers) (Some (NotCovered number))
dead_told true found number rule multipliers told m f e = e ∙ ap (λ (o : Option PathRule). dead_at number o multipliers) (sym f)
dead_told false found number rule multipliers told m f e = absurd (cc)

pub dead_none : (member : Bool) (found : Option PathRule) (number : ℕ) (multipliers : List (ℕ × ℤ)) → member ≡ true → found ≡ None
    → Some (NotCovered number) ≡ cond member (dead_at number found multipliers) (Some (NotCovered number))
dead_none true found number multipliers m f = ap (λ (o : Option PathRule). dead_at number o multipliers) (sym f)
dead_none false found number multipliers m f = absurd (cc)

pub none_listed : (weak strict bounded : Says) (listed : RankRule)
    → Some (NotCovered (rule_of listed)) ≡ listed_fault weak strict bounded listed None
none_listed weak strict bounded (Weak rule fall) = refl
none_listed weak strict bounded (Strict rule fall bound) = refl

pub numbers_more : (set : List ℕ) (rule count : ℕ) (all : List ℕ) → rule < count → set ++ numbers_from rule (count - rule) ≡ all
    → (set ++ rule ∷ []) ++ numbers_from (rule + 1) (count - (rule + 1)) ≡ all
numbers_more set rule count all lt e =
    let s : suc (count - (rule + 1)) ≡ count - rule = omega arith in
    append_assoc set (rule ∷ []) (numbers_from (rule + 1) (count - (rule + 1)))
    ∙ ap (λ (n : ℕ). set ++ rule ∷ numbers_from n (count - (rule + 1))) (add-one rule)
    ∙ ap (λ (k : ℕ). set ++ numbers_from rule k) s ∙ e

pub first_more : (given all : Given) (n steps : ℕ) → n < steps → given ++ replicate (steps - n) None ≡ all
    → (given ++ None ∷ []) ++ replicate (steps - (n + 1)) None ≡ all
first_more given all n steps lt e =
    let s : suc (steps - (n + 1)) ≡ steps - n = omega arith in
    append_assoc given (None ∷ []) (replicate (steps - (n + 1)) None) ∙ ap (λ (k : ℕ). given ++ replicate k None) s ∙ e

pub handed_one : (number : ℕ) (left : ℕ × List ℕ) (lefts : List (ℕ × List ℕ)) (done : Bool) (old new : Given) → left ∷ [] ≡ lefts
    → Gives number (Some left) done old new → IsHanded done (give number lefts old) new
handed_one number left lefts true old new e h = ap (λ (l : List (ℕ × List ℕ)). give number l old) (sym e) ∙ h []
handed_one number left lefts false old new e h = ap (λ (l : List (ℕ × List ℕ)). give number l old) (sym e) ∙ h []

pub answers_ok : (answer : Result (Unit {0}) StepFault) (fault : Option StepFault) (P : Type 0) → Refuses answer fault
    → (fault ≡ None → P) → OnOk answer P
answers_ok (Ok done) fault P h f = f h
answers_ok (Err e) fault P h f = tt

none_gone : (number : ℕ) (fault : Option DescentFault) (gives : Option Given) (after : Given) (next : Given → Option StepFault)
    → None ≡ fault → gives ≡ Some after → go_on number fault gives next ≡ next after
none_gone number fault gives after next f g = ap (λ (o : Option Given). go_on number fault o next) g
    ∙ ap (λ (o : Option DescentFault). go_on number o (Some after) next) (sym f)

pub walk_more : (rules : List PathRule) (steps : List ProofStep) (step : ProofStep) (n : ℕ) (given after : Given)
    (all : Option StepFault) → n < length steps → step ≡ get_or steps n step
    → ((next : Given → Option StepFault) → try_step rules n step given (set_of (slice_get given n)) next ≡ next after)
    → first_fault_from rules n given (drop n steps) ≡ all → first_fault_from rules (n + 1) after (drop (n + 1) steps) ≡ all
walk_more rules steps step n given after all low is goes e =
    let split = at_drop_more (first_fault_from rules n given) steps n step low in
    let here = ap (λ (s : ProofStep). first_fault_from rules n given (s ∷ drop (n + 1) steps)) is in
    let gone = goes (λ (g : Given). first_fault_from rules (suc n) g (drop (n + 1) steps)) in
    ap (λ (k : ℕ). first_fault_from rules k after (drop (n + 1) steps)) (add-one n) ∙ sym gone ∙ here ∙ sym split ∙ e

pub walk_last : (rules : List PathRule) (steps : List ProofStep) (n : ℕ) (given : Given) (all : Option StepFault) → length steps ≤ n
    → first_fault_from rules n given (drop n steps) ≡ all → all ≡ None
walk_last rules steps n given all past e = sym e ∙ at_drop_all (first_fault_from rules n given) steps n past

-- the walk over a set and the listed rules
same_number : (low high : Bool) (x n : ℕ) (a b : DescentFault) (here later all : Option DescentFault) → nat_lt x n ≡ low
    → nat_lt n x ≡ high → n ≤ x → x ≤ n → None ≡ here → cond low (Some a) (cond high (Some b) (edge_fault here later)) ≡ all → later ≡ all
same_number true high x n a b here later all l h le ge e f = absurd (grind (arith, nat_tests))
same_number false true x n a b here later all l h le ge e f = absurd (grind (arith, nat_tests))
same_number false false x n a b here later all l h le ge e f = ap (λ (o : Option DescentFault). edge_fault o later) e ∙ f
