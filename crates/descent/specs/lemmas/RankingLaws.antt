-- The orders of this crate keep the laws of orders.
use Rattle.std.proofs.Common.{◌≡◌, ℕ, suc, [], ◌∷◌, eqb, Bool, true, false, cond, List, ℤ, pos, negsuc, ◌+ℤ◌, ◌-ℤ◌, ◌*ℤ◌, ◌≤ℤ◌}
use Rattle.std.proofs.Common.{Option, Some, None, subst, ap, arith, refl, ◌∙◌, sym}
use Rattle.std.specs.Prelude.{◌&&◌}
use Rattle.std.proofs.lemmas.Int.{ints}
use Rattle.lin_core.specs.Rows.{value_of_terms, value_of_target}
use Rattle.lin_core.specs.Weights.{weight_in, AreWeights}
use Rattle.descent.specs.declared.faults.DescentFault.{DescentFault}
use Rattle.descent.specs.declared.faults.DescentFault.TheVariants.{NotWeak, NotStrict, NotBounded}
use Rattle.descent.specs.declared.rules.PathRule.{PathRule}
use Rattle.descent.specs.Chains.{Agree}
use Rattle.descent.specs.Conditions.{IsRule}
use Rattle.descent.specs.Laws.{start_value, end_value}
use Rattle.descent.specs.Orders.{OrderLaws}
use Rattle.descent.specs.Rankings.{Ranking, weigh_of, form_at, start_of, end_of, is_taken, takes_start, takes_end, fall_of, scaled}
use Rattle.descent.specs.Rankings.{need, weak_fault, strict_fault, bounded_fault}
use Rattle.descent.specs.Valuations.{Valuation, IsWeighing, Meets, numbers_under}
use Rattle.descent.specs.lemmas.Shown.{Under, under_both, under_scaled, under_line, need_holds}
use Rattle.descent.specs.lemmas.Values.{value_both, value_scaled, line_is, line_value, agree_lines}

-- listed weights are a weighing
weighs_cases : (here : Bool) (weight rest : ℤ) → pos 0 ≤ℤ weight → pos 0 ≤ℤ rest → pos 0 ≤ℤ cond here weight rest
weighs_cases true weight rest h k = h
weighs_cases false weight rest h k = k

weighs : (weights : List (ℕ × ℤ)) → AreWeights weights → IsWeighing (weight_in weights)
weighs [] fit class = omega (arith, ints)
weighs (weight ∷ rest) fit class = weighs_cases (eqb weight.0 class) weight.1 (weight_in rest class) (fit 0 weight (omega arith)).0
    (weighs rest (λ i d w. fit (suc i) d (omega arith)) class)

-- the value of start minus end minus a fall
minus : (s e a b fall p : ℤ) → p ≡ s +ℤ negsuc 0 *ℤ e → p +ℤ ((a -ℤ b) -ℤ fall) ≡ ((s +ℤ a) -ℤ (e +ℤ b)) -ℤ fall
minus s e a b fall p h = omega (arith, ints)

fall_value : (ranking : Ranking) (fall : ℤ) (rule : PathRule) (valuation : Valuation)
    → value_of_target (numbers_under (weigh_of ranking) valuation) (fall_of ranking fall rule)
    ≡ (start_value ranking rule valuation -ℤ end_value ranking rule valuation) -ℤ fall
fall_value ranking fall rule valuation =
    let numbers = numbers_under (weigh_of ranking) valuation in
    let start = start_of ranking rule in
    let end = end_of ranking rule in
    minus (value_of_terms numbers start.terms) (value_of_terms numbers end.terms) start.constant end.constant fall _
    (value_both numbers start.terms (scaled (negsuc 0) end.terms) ∙ ap (λ (z : ℤ). value_of_terms numbers start.terms +ℤ z)
    (value_scaled numbers (negsuc 0) end.terms))

taken_or : (taken : Bool) (found : Option DescentFault) (missing : DescentFault) → cond taken found (Some missing) ≡ None
    → (taken ≡ true) × (found ≡ None)
taken_or true found missing e = (refl, e)
taken_or false found missing e = absurd (cc)

both_true : (a b : Bool) → (a && b) ≡ true → (a ≡ true) × (b ≡ true)
both_true true b e = (refl, e)
both_true false b e = absurd (cc)

pub under_fall : (ranking : Ranking) (fall : ℤ) (rule : PathRule) → IsRule rule → Under rule.vars (fall_of ranking fall rule).terms
under_fall ranking fall rule fit = under_both rule.vars (start_of ranking rule).terms
    (scaled (negsuc 0) (end_of ranking rule).terms)
    (under_line rule.vars ranking (form_at ranking.forms rule.from) rule.first fit.first)
    (under_scaled rule.vars (negsuc 0) (end_of ranking rule).terms
    (under_line rule.vars ranking (form_at ranking.forms rule.to) rule.last fit.last))

falls : (ranking : Ranking) (fall : ℤ) (missing : DescentFault) (rule : PathRule) (multipliers : List (ℕ × ℤ))
    (valuation : Valuation) → AreWeights ranking.weights → IsRule rule
    → cond (takes_start ranking rule && takes_end ranking rule)
    (need missing (weigh_of ranking) rule (fall_of ranking fall rule) multipliers) (Some missing) ≡ None → Meets rule valuation
    → (end_value ranking rule valuation +ℤ fall) ≤ℤ start_value ranking rule valuation
falls ranking fall missing rule multipliers valuation weights fit e meets =
    let parts = taken_or (takes_start ranking rule && takes_end ranking rule)
    (need missing (weigh_of ranking) rule (fall_of ranking fall rule) multipliers) missing e in
    let holds = need_holds missing (weigh_of ranking) rule (fall_of ranking fall rule) multipliers valuation fit
    (weighs ranking.weights weights) (under_fall ranking fall rule fit) parts.1 meets in
    let value = fall_value ranking fall rule valuation in
    omega (arith, ints)

bounds : (ranking : Ranking) (missing : DescentFault) (rule : PathRule) (multipliers : List (ℕ × ℤ)) (valuation : Valuation)
    → AreWeights ranking.weights → IsRule rule
    → cond (takes_start ranking rule) (need missing (weigh_of ranking) rule (start_of ranking rule) multipliers) (Some missing)
    ≡ None → Meets rule valuation → pos 0 ≤ℤ start_value ranking rule valuation
bounds ranking missing rule multipliers valuation weights fit e meets =
    let parts = taken_or (takes_start ranking rule) (need missing (weigh_of ranking) rule (start_of ranking rule) multipliers) missing e in
    need_holds missing (weigh_of ranking) rule (start_of ranking rule) multipliers valuation fit (weighs ranking.weights weights)
    (under_line rule.vars ranking (form_at ranking.forms rule.from) rule.first fit.first) parts.1 meets

takes : (ranking : Ranking) (rule : PathRule) (found : Option DescentFault) (missing : DescentFault)
    → cond (takes_start ranking rule && takes_end ranking rule) found (Some missing) ≡ None → (takes_start ranking rule ≡ true)
    × (takes_end ranking rule ≡ true)
takes ranking rule found missing e = both_true (takes_start ranking rule) (takes_end ranking rule)
    (taken_or (takes_start ranking rule && takes_end ranking rule) found missing e).0

joins : (ranking : Ranking) (rule next : PathRule) (before after : Valuation) → AreWeights ranking.weights
    → takes_end ranking rule ≡ true → takes_start ranking next ≡ true → rule.to ≡ next.from
    → Agree before rule.last after next.first → end_value ranking rule before ≡ start_value ranking next after
joins ranking rule next before after weights o p cut agree =
    let form = form_at ranking.forms next.from in
    let here : is_taken ranking form rule.last ≡ true = subst
    (λ (c : ℕ). is_taken ranking (form_at ranking.forms c) rule.last ≡ true) cut o in
    let same = agree_lines ranking before after rule.last next.first form (weighs ranking.weights weights) agree here p in
    let one = line_is ranking before (form_at ranking.forms rule.to) rule.last in
    let moved = ap (λ (c : ℕ). line_value ranking before (form_at ranking.forms c) rule.last) cut in
    one ∙ moved ∙ same ∙ sym (line_is ranking after form next.first)

weak_plus : (a b : ℤ) → (a +ℤ pos 0) ≤ℤ b → a ≤ℤ b
weak_plus a b h = omega (arith, ints)

pub ranking_laws : (ranking : Ranking) → AreWeights ranking.weights
    → OrderLaws (weak_fault ranking) (strict_fault ranking) (bounded_fault ranking) (λ rule. takes_start ranking rule ≡ true)
    (λ rule. takes_end ranking rule ≡ true) (start_value ranking) (end_value ranking)
ranking_laws ranking weights = record {
  weak_keeps = λ number rule multipliers valuation fit e meets. weak_plus (end_value ranking rule valuation)
      (start_value ranking rule valuation) (falls ranking (pos 0) (NotWeak number) rule multipliers valuation weights fit e meets);
  strict_falls = λ number rule multipliers valuation fit e meets. falls ranking (pos 1) (NotStrict number) rule multipliers
      valuation weights fit e meets;
  bounded_starts = λ number rule multipliers valuation fit e meets. bounds ranking (NotBounded number) rule multipliers valuation
      weights fit e meets;
  weak_takes = λ number rule multipliers e. takes ranking rule _ (NotWeak number) e;
  strict_takes = λ number rule multipliers e. takes ranking rule _ (NotStrict number) e;
  joined = λ rule next before after o p cut agree. joins ranking rule next before after weights o p cut agree;
}

-- the form at a rule's start is over the rule's variables
pub under_start : (ranking : Ranking) (rule : PathRule) → IsRule rule → Under rule.vars (start_of ranking rule).terms
under_start ranking rule fit = under_line rule.vars ranking (form_at ranking.forms rule.from) rule.first fit.first

pub no_weights : AreWeights []
no_weights = λ i d w. absurd (omega arith)
