-- The rules of systems are such as the search for proofs takes, and so are those of each set of them.
use Rattle.std.proofs.Common.{◌≡◌, ◌∙◌, inl, inr, ◌+◌, ◌<◌, ◌≤◌, ℕ, zero, suc, true, false, List, [], ◌∷◌, length, map, Option}
use Rattle.std.proofs.Common.{Some, None, Result, Ok, Err, IfOk, IfSome, slice_get, get_or, refl, sym, ap, subst, arith}
use Rattle.std.specs.List.{All}
use Rattle.std.proofs.lemmas.List.Elements.{All-nil, All-from_recursion}
use Rattle.std.proofs.lemmas.Option.{slice_get-get_or}
use Rattle.list_views.specs.Lists.{numbers_from}
use Rattle.list_views.proofs.Quantified.{all_at}
use Rattle.lin_core.specs.Rows.{RiseFrom}
use Rattle.lin_core.specs.Weights.{AreRows}
use Rattle.descent.specs.declared.proof.RankStep.{RankStep}
use Rattle.descent.specs.declared.rules.PathRule.{PathRule}
use Rattle.descent.specs.declared.rules.SlotForm.{SlotForm}
use Rattle.descent.specs.Conditions.{IsSlot, AreSlots, IsRule, AreRules}
use Rattle.rank_forms.specs.Graphs.{ids_of, AreNamed, IsPathRule, IsEndAt, heads, ArePathRules}
use Rattle.rank_forms.specs.RankSteps.{IsRankStep}
use Rattle.rank_search.specs.Stepwise.{NoStepwiseForm}
use Rattle.chain_proofs.specs.Sets.{IsAsked, RanksOwn}
use Rattle.chain_proofs.proofs.Dividing.{as_long}
use Rattle.chain_proofs.proofs.Plainly.{all_own, own_within, as_few}
use Rattle.its_front.specs.Reading.{slot_of, slots_of}
use Rattle.its_front.specs.declared.reading.Its.{Its}
use Rattle.its_front.specs.Systems.{IsSystemRule, AreSystemRules, IsSystem}
use Rattle.its_front.proofs.Walking.{slot_at}
use Rattle.its_call.specs.its_search.Forms.{NoPlainForm, HasNoForm}
use Rattle.its_call.specs.its_search.inner.Tried.{IsCounted}

-- ---- slots

slot_is : (end from i : ℕ) → from + i < end → IsSlot end (slot_of from i)
slot_is end from i l = record { rise = (omega arith, l, tt); constant = omega arith; weights = omega arith }

slots_are : (end from count : ℕ) → from + count ≤ end → AreSlots end (slots_of count from)
slots_are end from count l i d w =
    let at : slice_get (slots_of count from) i ≡ Some (get_or (slots_of count from) i d) = slice_get-get_or (slots_of count from) i d w in
    let found = slot_at from 0 count i (get_or (slots_of count from) i d) at in
    let within = found.within in
    let same : 0 + i ≡ i = omega arith in
    subst (IsSlot end) (sym (found.is ∙ ap (slot_of from) same)) (slot_is end from i (omega (arith, within, l)))

ids_rise : (from low count : ℕ) → low + count ≤ 65536 → RiseFrom low 65536 (ids_of false (map (slot_of from) (numbers_from low count)))
ids_rise from low zero l = tt
ids_rise from low (suc count) l = (omega arith, omega (arith, l), ids_rise from (suc low) count (omega (arith, l)))

no_sizes : (from low count : ℕ) → ids_of true (map (slot_of from) (numbers_from low count)) ≡ []
no_sizes from low zero = refl
no_sizes from low (suc count) = no_sizes from (suc low) count

named : (from count : ℕ) → count ≤ 65536 → AreNamed (slots_of count from)
named from count l = (ids_rise from 0 count (omega (arith, l)), subst (RiseFrom 0 65536) (sym (no_sizes from 0 count)) tt)

same_heads : (from other low count : ℕ) → heads (map (slot_of from) (numbers_from low count)) ≡ heads
    (map (slot_of other) (numbers_from low count))
same_heads from other low zero = refl
same_heads from other low (suc count) = ap (λ (rest : _). (low, false, record { frame = 0; stack = false; index = low } ∷ [])
    ∷ rest) (same_heads from other (suc low) count)

-- ---- rules

rule_is : (count : ℕ) (rule : PathRule) → IsSystemRule count rule → IsRule rule
rule_is count rule is = record {
  rows = subst (λ (n : ℕ). AreRows n rule.rows) (sym is.vars) is.rows;
  first = subst (λ (n : ℕ). AreSlots n rule.first) (sym is.vars)
      (subst (AreSlots (count + count)) (sym is.first) (slots_are (count + count) 0 count (omega arith)));
  last = subst (λ (n : ℕ). AreSlots n rule.last) (sym is.vars)
      (subst (AreSlots (count + count)) (sym is.last) (slots_are (count + count) count count (omega arith)));
}

path_rule_is : (count : ℕ) (rule : PathRule) → count ≤ 256 → IsSystemRule count rule → IsPathRule rule
path_rule_is count rule small is = record {
  rows = is.few;
  variables = let vars = is.vars in omega (arith, vars, small);
  first = subst AreNamed (sym is.first) (named 0 count (omega (arith, small)));
  last = subst AreNamed (sym is.last) (named count count (omega (arith, small)));
}

all_of : {P Q : PathRule → Type 0} (rules : List PathRule) → ((rule : PathRule) → P rule → Q rule) → All P rules → All Q rules
all_of rules f are = λ i d w. f (get_or rules i d) (are i d w)

pub are_rules : (rules : List PathRule) → AreSystemRules rules → AreRules rules
are_rules rules are = all_of rules (rule_is are.count) are.each

end_heads : (count cut : ℕ) (rules : List PathRule) (slots : List SlotForm) → All (IsSystemRule count) rules
    → IsEndAt rules cut slots → heads slots ≡ heads (slots_of count 0)
end_heads count cut rules slots are (n, rule, at, inl starts) = ap heads
    (sym starts.1 ∙ (all_at (IsSystemRule count) rules n rule are at).first)
end_heads count cut rules slots are (n, rule, at, inr ends) = ap heads
    (sym ends.1 ∙ (all_at (IsSystemRule count) rules n rule are at).last) ∙ same_heads count 0 0 count

pub are_path_rules : (rules : List PathRule) → AreSystemRules rules → ArePathRules rules
are_path_rules rules are = record {
  limits = are_rules rules are;
  few = are.few;
  each = all_of rules (λ rule is. path_rule_is are.count rule are.small is) are.each;
  ends = λ cut one other f g. end_heads are.count cut rules one are.each f ∙ sym (end_heads are.count cut rules other are.each g);
}

pub path_rules_of : (rules : List PathRule) (count : ℕ) → length rules ≤ 4096 → IsCounted rules count → ArePathRules rules
path_rules_of rules count short counted = are_path_rules rules
    (record { count = count; small = counted.few; few = short; each = counted.each })

-- ---- sets of rules

pub all_asked : (rules : List PathRule) → AreSystemRules rules → IsAsked AreSystemRules rules
all_asked rules are set own rise h = record {
  count = are.count;
  small = are.small;
  few =
      let short = as_few (length rules) 0 set rise (λ i n e. own_within rules set own i n h e) (omega arith) in
      let long = as_long rules set own h in
      let all = are.few in
      omega (arith, short, long, all);
  each = All-from_recursion (IsSystemRule are.count) own (all_own (IsSystemRule are.count) rules set own are.each h);
}

-- ---- what is found

pub plain_found : (rules : List PathRule) (step : RankStep) → IsRankStep rules step → RanksOwn HasNoForm rules (Some step)
plain_found rules step is = is

pub linear_found : {E : Type 0} (rules : List PathRule) (result : Result (Option RankStep) E) → NoPlainForm rules
    → IfOk result (λ found. IfSome found (λ step. IsRankStep rules step))
    → IfOk result (λ found. found ≡ None → NoStepwiseForm rules) → IfOk result (RanksOwn HasNoForm rules)
linear_found rules (Ok (Some step)) none found missing = found
linear_found rules (Ok None) none found missing = record { plain = none; stepwise = missing refl }
linear_found rules (Err e) none found missing = tt

-- ---- how many variables there are

pub slots_long : (from low count : ℕ) → length (map (slot_of from) (numbers_from low count)) ≡ count
slots_long from low zero = refl
slots_long from low (suc count) = ap suc (slots_long from (suc low) count)

pub counted : (rules rest : List PathRule) (rule : PathRule) (count : ℕ) → rules ≡ rule ∷ rest → count ≡ length rule.first
    → AreSystemRules rules → IsCounted rules count
counted rules rest rule count e long are =
    let own : IsSystemRule are.count rule = all_at (IsSystemRule are.count) rules 0 rule are.each
    (ap (λ (all : List PathRule). slice_get all 0) e) in
    let same : are.count ≡ count = sym (long ∙ ap length own.first ∙ slots_long 0 0 are.count) in
    let small = are.small in
    record { few = omega (arith, same, small); each = subst (λ (n : ℕ). All (IsSystemRule n) rules) same are.each }

pub none_counted : (rules : List PathRule) → rules ≡ [] → IsCounted rules 0
none_counted rules e = record { few = omega arith; each = subst (All (IsSystemRule 0)) (sym e) (All-nil (IsSystemRule 0)) }

-- ---- systems

pub system_is_asked : (its : Its) → IsSystem its → AreSystemRules its.rules
system_is_asked its is = record { count = length its.vars; small = is.small; few = is.few; each = is.each }

pub system_rules_are : (its : Its) → IsSystem its → AreRules its.rules
system_rules_are its is = are_rules its.rules (system_is_asked its is)
