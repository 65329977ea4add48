-- The rules of a set are such as forms are looked for, where all rules are.
use Rattle.std.proofs.Common.{◌≡◌, ◌∙◌, ◌+◌, ◌<◌, ◌≤◌, ℕ, zero, suc, List, [], ◌∷◌, length, Some, slice_get, refl}
use Rattle.std.proofs.Common.{subst, arith}
use Rattle.std.specs.List.{All, AllByRecursion}
use Rattle.std.proofs.lemmas.List.Elements.{All-get_or, All-from_recursion}
use Rattle.std.proofs.lemmas.Option.{none-some, same_Some, slice_get_within, get_or_from_slice_get}
use Rattle.descent.specs.declared.rules.PathRule.{PathRule}
use Rattle.descent.specs.declared.rules.SlotForm.{SlotForm}
use Rattle.descent.specs.Conditions.{IsRule}
use Rattle.rank_forms.specs.Graphs.{IsPathRule, IsEndAt, IsPlainRule, ArePlainRules}
use Rattle.chain_proofs.specs.Dealt.{Rises}
use Rattle.chain_proofs.specs.Sets.{AreOwn}
use Rattle.chain_proofs.proofs.Dividing.{as_long}

pub all_own : (P : PathRule → Type 0) (rules : List PathRule) (set : List ℕ) (own : List PathRule) → All P rules
    → AreOwn rules set own → AllByRecursion P own
all_own P rules [] [] are h = tt
all_own P rules [] (rule ∷ own) are h = absurd h
all_own P rules (n ∷ set) [] are h = absurd h
all_own P rules (n ∷ set) (rule ∷ own) are h = (
  subst P (get_or_from_slice_get rules n rule rule h.0) (All-get_or P rules n rule (slice_get_within rules n rule h.0) are),
  all_own P rules set own are h.1,
)

-- a rising set is no longer than what it is a set of
pub own_within : (rules : List PathRule) (set : List ℕ) (own : List PathRule) (i n : ℕ) → AreOwn rules set own
    → slice_get set i ≡ Some n → n < length rules
own_within rules [] own i n h e = absurd (none-some n e)
own_within rules (m ∷ set) [] i n h e = absurd h
own_within rules (m ∷ set) (rule ∷ own) zero n h e = subst (λ (k : ℕ). k < length rules) (same_Some m n e)
    (slice_get_within rules m rule h.0)
own_within rules (m ∷ set) (rule ∷ own) (suc i) n h e = own_within rules set own i n h.1 e

pub as_few : (end low : ℕ) (set : List ℕ) → Rises low set → ((i n : ℕ) → slice_get set i ≡ Some n → n < end) → low ≤ end
    → low + length set ≤ end
as_few end low [] r h l = omega (arith, l)
as_few end low (n ∷ set) r h l =
    let within : n < end = h 0 n refl in
    let later : suc n + length set ≤ end = as_few end (suc n) set r.1 (λ i m e. h (suc i) m e) (omega (arith, within)) in
    let first = r.0 in
    omega (arith, later, first)

own_from : (rules : List PathRule) (set : List ℕ) (own : List PathRule) (k : ℕ) (rule : PathRule) → AreOwn rules set own
    → slice_get own k ≡ Some rule → (m : ℕ) × (slice_get rules m ≡ Some rule)
own_from rules [] [] k rule h e = absurd (none-some rule e)
own_from rules [] (r ∷ own) k rule h e = absurd h
own_from rules (n ∷ set) [] k rule h e = absurd h
own_from rules (n ∷ set) (r ∷ own) zero rule h e = (n, h.0 ∙ e)
own_from rules (n ∷ set) (r ∷ own) (suc k) rule h e = own_from rules set own k rule h.1 e

end_at : (rules : List PathRule) (set : List ℕ) (own : List PathRule) (cut : ℕ) (slots : List SlotForm) → AreOwn rules set own
    → IsEndAt own cut slots → IsEndAt rules cut slots
end_at rules set own cut slots h (n, rule, e, ends) = let found = own_from rules set own n rule h e in (found.0, rule, found.1, ends)

pub own_are_plain : (rules : List PathRule) (set : List ℕ) (own : List PathRule) → ArePlainRules rules → Rises 0 set
    → AreOwn rules set own → ArePlainRules own
own_are_plain rules set own are rise h = record {
  paths = record {
    limits = All-from_recursion IsRule own (all_own IsRule rules set own are.paths.limits h);
    few =
        let short = as_few (length rules) 0 set rise (λ i n e. own_within rules set own i n h e) (omega arith) in
        let long = as_long rules set own h in
        let all = are.paths.few in
        omega (arith, short, long, all);
    each = All-from_recursion IsPathRule own (all_own IsPathRule rules set own are.paths.each h);
    ends = λ cut one other f g. are.paths.ends cut one other (end_at rules set own cut one h f) (end_at rules set own cut other h g);
  };
  plain = All-from_recursion IsPlainRule own (all_own IsPlainRule rules set own are.plain h);
}
