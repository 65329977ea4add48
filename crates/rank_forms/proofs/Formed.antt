-- The forms over parts: all_at each end of a rule they are what stands all_at the parts' places.
use Rattle.std.proofs.Common.{◌≡◌, ◌⊎◌, inl, inr, ℕ, zero, suc, ◌<◌, ◌≤◌, ◌^◌, Bool, true, false, cond, eqb, List, [], ◌∷◌, ◌++◌}
use Rattle.std.proofs.Common.{length, get_or, ℤ, pos, ◌+ℤ◌, ◌*ℤ◌, Option, Some, None, subst, ap, arith, refl, ◌∙◌, sym}
use Rattle.std.specs.Prelude.{◌&&◌, slice_get, unsigned_abs, is_some, nat_lt}
use Rattle.std.specs.Ordering.{int_eq}
use Rattle.std.specs.List.{All, AllByRecursion}
use Rattle.std.proofs.lemmas.Bool.{eq-eqb, eqb-true, ltb-true}
use Rattle.std.proofs.lemmas.Bool.Decides.{Decides-int_eq, nat_tests}
use Rattle.std.proofs.lemmas.Int.{ints}
use Rattle.std.proofs.lemmas.Option.{same_Some, none-some}
use Rattle.lin_core.proofs.Coefficients.{coefficient_both}
use Rattle.descent.proofs.Adding.{coefficient_scaled}
use Rattle.list_views.proofs.Quantified.{all_at}
use Rattle.list_views.proofs.Orders.{zero_times}
use Rattle.list_views.proofs.Ring.{plus_times}
use Rattle.lin_core.specs.Rows.{coefficient_of, Rise}
use Rattle.lin_core.specs.Weights.{weight_in}
use Rattle.lin_core.proofs.Signs.{mul-zero_ℤ}
use Rattle.descent.specs.declared.proof.CutForm.{CutForm}
use Rattle.descent.specs.declared.rules.PathRule.{PathRule}
use Rattle.descent.specs.declared.rules.Place.{Place}
use Rattle.descent.specs.declared.rules.SlotForm.{SlotForm}
use Rattle.descent.specs.Conditions.{AreForms, AreMultiples, IsForm}
use Rattle.descent.specs.Rankings
use Rattle.descent.specs.Rankings.{constant_of, entry_constant, entry_terms, form_at, have_slots, scaled, terms_of}
use Rattle.rank_forms.specs.Forms.{AreCuts, IsIn, RiseTo, alone, form_of, forms_over, id_of, ids_at, joined, multiples_at, slots_for}
use Rattle.rank_forms.specs.Graphs.{AreNamed, ArePathRules, IsPathRule, IsEndAt, heads, ids_of}
use Rattle.rank_forms.specs.rule_links.Positions.{IsVariable, StandsAt, slot_at}
use Rattle.rank_forms.specs.RankSteps.{FormsRise, HaveNoSizes}
use Rattle.rank_forms.proofs.Lined.{AreEntries, AreLines, IsLine, line_of_ints, line_of_sizes, ranking_with, slot_nothing}
use Rattle.rank_forms.proofs.Slotted.{named_low, same_id, slot_by_id, slots_stand}

-- the variables that stand all_at the parts' places, with the parts' multiples
abbrev pub StandAll : List SlotForm → Bool → List (Place × ℤ) → List (ℕ × ℤ) → Type 0
StandAll slots size [] [] = Unit {0}
StandAll slots size [] (term ∷ terms) = ⊥
StandAll slots size (part ∷ rest) [] = ⊥
StandAll slots size (part ∷ rest) (term ∷ terms) = StandsAt slots size part.0 term.0 × (term.1 ≡ part.1) × StandAll slots size rest terms

pub record AreAllEnds (rule : PathRule) (size : Bool) (parts : List (Place × ℤ)) (start finish : List (ℕ × ℤ)) : Type 0 where
  pub first : StandAll rule.first size parts start
  pub last : StandAll rule.last size parts finish

-- all_at most two parts, with multiples of all_at most 4
abbrev pub AllSmall : List (Place × ℤ) → Type 0
AllSmall [] = Unit {0}
AllSmall (part ∷ rest) = (unsigned_abs part.1 ≤ 4) × AllSmall rest

pub record AreParts (parts : List (Place × ℤ)) : Type 0 where
  pub few : length parts ≤ 2
  pub small : AllSmall parts

-- ---- the form of a cut
form_here : (test size : Bool) (rules : List PathRule) (parts : List (Place × ℤ)) (constant : ℤ) (first cut : ℕ)
    (rest : Option CutForm) → eqb first cut ≡ test
    → (test ≡ false → rest ≡ Some (form_of cut (slots_for rules cut) size parts constant))
    → cond test (Some (form_of first (slots_for rules first) size parts constant)) rest ≡ Some
    (form_of cut (slots_for rules cut) size parts constant)
form_here true size rules parts constant first cut rest e more = ap
    (λ (c : ℕ). some (form_of c (slots_for rules c) size parts constant)) (eqb-true first cut e)
  where
    some : CutForm → Option CutForm
    some x = Some x
form_here false size rules parts constant first cut rest e more = more refl

pub forms_at : (size : Bool) (rules : List PathRule) (parts : List (Place × ℤ)) (constant : ℤ) (cuts : List ℕ) (cut k : ℕ)
    → slice_get cuts k ≡ Some cut → form_at (forms_over rules size parts constant cuts) cut ≡ Some
    (form_of cut (slots_for rules cut) size parts constant)
forms_at size rules parts constant [] cut k e = absurd (none-some cut e)
forms_at size rules parts constant (first ∷ rest) cut zero e = form_here (eqb first cut) size rules parts constant first cut
    (form_at (forms_over rules size parts constant rest) cut) refl
    (λ f. absurd (clash (eqb first cut) f (eq-eqb first cut (same_Some first cut e))))
  where
    clash : (x : Bool) → x ≡ false → x ≡ true → ⊥
    clash true e f = absurd (cc)
    clash false e f = absurd (cc)
forms_at size rules parts constant (first ∷ rest) cut (suc k) e = form_here (eqb first cut) size rules parts constant first cut
    (form_at (forms_over rules size parts constant rest) cut) refl (λ f. forms_at size rules parts constant rest cut k e)

-- ---- the ids of the parts
found_at : (slots : List SlotForm) (size : Bool) (place : Place) (times : ℤ) (slot : SlotForm)
    → slot_at slots size place ≡ Some slot → id_of (slot_at slots size place) times ≡ (slot.id, times) ∷ []
found_at slots size place times slot e = ap (λ (o : Option SlotForm). id_of o times) e

abbrev one_more : ℕ → ℤ → List (ℕ × ℤ) → List (ℕ × ℤ)
one_more id times rest = (id, times) ∷ rest

ids_same : (one other : List SlotForm) (size : Bool) (parts : List (Place × ℤ)) (terms : List (ℕ × ℤ)) → heads one ≡ heads other
    → StandAll one size parts terms → ids_at other size parts ≡ ids_at one size parts
ids_same one other size [] [] h s = refl
ids_same one other size [] (term ∷ terms) h s = absurd s
ids_same one other size (part ∷ rest) [] h s = absurd s
ids_same one other size (part ∷ rest) (term ∷ terms) h s =
    let slot = s.0.0 in
    let again = same_id one other size part.0 slot h s.0.1 in
    ap (λ (l : List (ℕ × ℤ)). l ++ ids_at other size rest) (found_at other size part.0 part.1 again.0 again.1)
    ∙ ap (λ (id : ℕ). one_more id part.1 (ids_at other size rest)) again.2
    ∙ ap (λ (l : List (ℕ × ℤ)). one_more slot.id part.1 l) (ids_same one other size rest terms h s.2)
    ∙ ap (λ (l : List (ℕ × ℤ)). l ++ ids_at one size rest) (sym (found_at one size part.0 part.1 slot s.0.1))

-- an entry more
entry_more : (weigh : ℕ → ℤ) (slots : List SlotForm) (size : Bool) (id : ℕ) (times : ℤ) (slot : SlotForm) (term : ℕ × ℤ)
    (entries terms : List (ℕ × ℤ)) → Rankings.slot_at slots size id ≡ Some slot → IsVariable slot term.0 → term.1 ≡ times
    → AreEntries weigh slots size entries terms → AreEntries weigh slots size ((id, times) ∷ entries) (term ∷ terms)
entry_more weigh slots size id times slot term entries terms e is same h = record {
  taken = both_hold (is_some (Rankings.slot_at slots size id)) (have_slots slots size entries) (ap is_some_slot e) h.taken;
  coefficients = λ x. coefficient_both x (scaled times (terms_of (Rankings.slot_at slots size id))) (entry_terms slots size entries)
      ∙ ap (λ (z : ℤ). z +ℤ coefficient_of x (entry_terms slots size entries))
      (coefficient_scaled x times (terms_of (Rankings.slot_at slots size id))
      ∙ ap (λ (l : List (ℕ × ℤ)). times *ℤ coefficient_of x l) (ap terms_of e ∙ is.terms)
      ∙ one_times (eqb term.0 x) times term.1 same) ∙ ap (λ (z : ℤ). cond (eqb term.0 x) term.1 (pos 0) +ℤ z) (h.coefficients x);
  nothing = zeros times (constant_of weigh (Rankings.slot_at slots size id)) (entry_constant weigh slots size entries)
      (ap (constant_of weigh) e ∙ slot_nothing weigh slot term.0 is) h.nothing;
}
  where
    is_some_slot : Option SlotForm → Bool
    is_some_slot o = is_some o

    both_hold : (a b : Bool) → a ≡ true → b ≡ true → (a && b) ≡ true
    both_hold true b e f = f
    both_hold false b e f = absurd (cc)

    one_times : (here : Bool) (t s : ℤ) → s ≡ t → t *ℤ (cond here (pos 1) (pos 0) +ℤ pos 0) ≡ cond here s (pos 0)
    one_times true t s e = omega (arith, ints)
    one_times false t s e = mul-zero_ℤ t

    zeros : (t c d : ℤ) → c ≡ pos 0 → d ≡ pos 0 → t *ℤ c +ℤ d ≡ pos 0
    zeros t c d e f = rw e (let z = mul-zero_ℤ t in omega (arith, ints))

ids_entries : (weigh : ℕ → ℤ) (slots : List SlotForm) (size : Bool) (parts : List (Place × ℤ)) (terms : List (ℕ × ℤ))
    → Rise 65536 (ids_of size slots) → StandAll slots size parts terms → AreEntries weigh slots size (ids_at slots size parts) terms
ids_entries weigh slots size [] [] named s = record { taken = refl; coefficients = λ x. refl; nothing = refl }
ids_entries weigh slots size [] (term ∷ terms) named s = absurd s
ids_entries weigh slots size (part ∷ rest) [] named s = absurd s
ids_entries weigh slots size (part ∷ rest) (term ∷ terms) named s =
    subst (λ (l : List (ℕ × ℤ)). AreEntries weigh slots size (l ++ ids_at slots size rest) (term ∷ terms))
    (sym (found_at slots size part.0 part.1 s.0.0 s.0.1))
    (entry_more weigh slots size s.0.0.id part.1 s.0.0 term (ids_at slots size rest) terms
    (slot_by_id slots size part.0 s.0.0 named s.0.1) s.0.2 s.1 (ids_entries weigh slots size rest terms named s.2))

-- ---- two ids in their order
abbrev value_at : (slots : List SlotForm) (size : Bool) (x id : ℕ) → ℤ
value_at slots size x id = coefficient_of x (terms_of (Rankings.slot_at slots size id))

entry_value : (slots : List SlotForm) (size : Bool) (x id : ℕ) (times : ℤ) (rest : List (ℕ × ℤ))
    → coefficient_of x (entry_terms slots size ((id, times) ∷ rest)) ≡ times *ℤ value_at slots size x id +ℤ coefficient_of x
    (entry_terms slots size rest)
entry_value slots size x id times rest = coefficient_both x (scaled times (terms_of (Rankings.slot_at slots size id)))
    (entry_terms slots size rest) ∙ ap (λ (z : ℤ). z +ℤ coefficient_of x (entry_terms slots size rest))
    (coefficient_scaled x times (terms_of (Rankings.slot_at slots size id)))

turned : (slots : List SlotForm) (weigh : ℕ → ℤ) (size : Bool) (a b : ℕ) (s t : ℤ) (terms : List (ℕ × ℤ))
    → AreEntries weigh slots size ((a, s) ∷ (b, t) ∷ []) terms → AreEntries weigh slots size ((b, t) ∷ (a, s) ∷ []) terms
turned slots weigh size a b s t terms h = record {
  taken = swapped (is_some (Rankings.slot_at slots size a)) (is_some (Rankings.slot_at slots size b)) h.taken;
  coefficients = λ x. entry_value slots size x b t ((a, s) ∷ []) ∙ ap (λ (z : ℤ). t *ℤ value_at slots size x b +ℤ z)
      (entry_value slots size x a s []) ∙ over (s *ℤ value_at slots size x a) (t *ℤ value_at slots size x b)
      ∙ ap (λ (z : ℤ). s *ℤ value_at slots size x a +ℤ z) (sym (entry_value slots size x b t []))
      ∙ sym (entry_value slots size x a s ((b, t) ∷ [])) ∙ h.coefficients x;
  nothing = over (s *ℤ constant_of weigh (Rankings.slot_at slots size a)) (t *ℤ constant_of weigh (Rankings.slot_at slots size b))
      ∙ h.nothing;
}
  where
    swapped : (p q : Bool) → (p && (q && true)) ≡ true → (q && (p && true)) ≡ true
    swapped true true e = refl
    swapped true false e = e
    swapped false q e = absurd (cc)

    over : (c d : ℤ) → d +ℤ (c +ℤ pos 0) ≡ c +ℤ (d +ℤ pos 0)
    over c d = omega (arith, ints)

alone_cases : (test : Bool) (slots : List SlotForm) (weigh : ℕ → ℤ) (size : Bool) (a : ℕ) (s t : ℤ) (terms : List (ℕ × ℤ))
    → int_eq (s +ℤ t) (pos 0) ≡ test → AreEntries weigh slots size ((a, s) ∷ (a, t) ∷ []) terms
    → AreEntries weigh slots size (cond test [] ((a, s +ℤ t) ∷ [])) terms
alone_cases true slots weigh size a s t terms e h = record {
  taken = refl;
  coefficients = λ x. gone s t (value_at slots size x a) ((Decides-int_eq (s +ℤ t) (pos 0)).0 e)
      ∙ ap (λ (z : ℤ). s *ℤ value_at slots size x a +ℤ z) (sym (entry_value slots size x a t []))
      ∙ sym (entry_value slots size x a s ((a, t) ∷ [])) ∙ h.coefficients x;
  nothing = refl;
}
  where
    gone : (s t c : ℤ) → s +ℤ t ≡ pos 0 → pos 0 ≡ s *ℤ c +ℤ (t *ℤ c +ℤ pos 0)
    gone s t c e = sym (zero_times c) ∙ ap (λ (z : ℤ). z *ℤ c) (sym e) ∙ plus_times s t c ∙ plain (s *ℤ c) (t *ℤ c)
      where
        plain : (a b : ℤ) → a +ℤ b ≡ a +ℤ (b +ℤ pos 0)
        plain a b = omega (arith, ints)
alone_cases false slots weigh size a s t terms e h = record {
  taken = first_of (is_some (Rankings.slot_at slots size a)) h.taken;
  coefficients = λ x. entry_value slots size x a (s +ℤ t) [] ∙ split s t (value_at slots size x a)
      ∙ ap (λ (z : ℤ). s *ℤ value_at slots size x a +ℤ z) (sym (entry_value slots size x a t []))
      ∙ sym (entry_value slots size x a s ((a, t) ∷ [])) ∙ h.coefficients x;
  nothing = split s t (constant_of weigh (Rankings.slot_at slots size a)) ∙ h.nothing;
}
  where
    first_of : (p : Bool) → (p && (p && true)) ≡ true → (p && true) ≡ true
    first_of true e = refl
    first_of false e = e

    split : (s t c : ℤ) → (s +ℤ t) *ℤ c +ℤ pos 0 ≡ s *ℤ c +ℤ (t *ℤ c +ℤ pos 0)
    split s t c = ap (λ (z : ℤ). z +ℤ pos 0) (plus_times s t c) ∙ plain (s *ℤ c) (t *ℤ c)
      where
        plain : (a b : ℤ) → (a +ℤ b) +ℤ pos 0 ≡ a +ℤ (b +ℤ pos 0)
        plain a b = omega (arith, ints)

equal_by : (a b : ℕ) → nat_lt a b ≡ false → nat_lt b a ≡ false → b ≡ a
equal_by a b e f = grind (arith, nat_tests)

pair_cases : (low high : Bool) (slots : List SlotForm) (weigh : ℕ → ℤ) (size : Bool) (a b : ℕ) (s t : ℤ) (terms : List (ℕ × ℤ))
    → nat_lt a b ≡ low → nat_lt b a ≡ high → AreEntries weigh slots size ((a, s) ∷ (b, t) ∷ []) terms
    → AreEntries weigh slots size (cond low ((a, s) ∷ (b, t) ∷ []) (cond high ((b, t) ∷ (a, s) ∷ []) (alone a (s +ℤ t)))) terms
pair_cases true high slots weigh size a b s t terms l k h = h
pair_cases false true slots weigh size a b s t terms l k h = turned slots weigh size a b s t terms h
pair_cases false false slots weigh size a b s t terms l k h = alone_cases (int_eq (s +ℤ t) (pos 0)) slots weigh size a s t terms
    refl (subst (λ (x : ℕ). AreEntries weigh slots size ((a, s) ∷ (x, t) ∷ []) terms) (equal_by a b l k) h)

joined_entries : (weigh : ℕ → ℤ) (slots : List SlotForm) (size : Bool) (ids terms : List (ℕ × ℤ))
    → AreEntries weigh slots size ids terms → AreEntries weigh slots size (joined ids) terms
joined_entries weigh slots size [] terms h = h
joined_entries weigh slots size (one ∷ []) terms h = h
joined_entries weigh slots size ((a, s) ∷ (b, t) ∷ []) terms h = pair_cases (nat_lt a b) (nat_lt b a) slots weigh size a b s t terms
    refl refl h
joined_entries weigh slots size (one ∷ other ∷ more ∷ rest) terms h = h

-- ---- an end of a rule
parts_entries : (weigh : ℕ → ℤ) (cut slots : List SlotForm) (size : Bool) (parts : List (Place × ℤ)) (terms : List (ℕ × ℤ))
    → heads slots ≡ heads cut → Rise 65536 (ids_of size slots) → StandAll slots size parts terms
    → AreEntries weigh slots size (multiples_at cut size parts) terms
parts_entries weigh cut slots size parts terms h named s = subst
    (λ (l : List (ℕ × ℤ)). AreEntries weigh slots size (joined l) terms) (sym (ids_same slots cut size parts terms h s))
    (joined_entries weigh slots size (ids_at slots size parts) terms (ids_entries weigh slots size parts terms named s))

line_by : (size : Bool) (weights : List (ℕ × ℤ)) (forms : List CutForm) (cut : ℕ) (constant : ℤ) (at_cut slots : List SlotForm)
    (parts : List (Place × ℤ)) (terms : List (ℕ × ℤ)) → AreEntries (weight_in weights) slots size (multiples_at at_cut size parts)
    terms → IsLine (ranking_with size weights forms) (Some (form_of cut at_cut size parts constant)) slots terms constant
line_by true weights forms cut constant at_cut slots parts terms h = line_of_sizes weights forms cut constant
    (multiples_at at_cut true parts) terms slots h
line_by false weights forms cut constant at_cut slots parts terms h = line_of_ints weights forms cut constant
    (multiples_at at_cut false parts) [] terms slots h

named_of : (size : Bool) (slots : List SlotForm) → AreNamed slots → Rise 65536 (ids_of size slots)
named_of true slots h = h.1
named_of false slots h = h.0

end_line : (size : Bool) (weights : List (ℕ × ℤ)) (rules : List PathRule) (parts : List (Place × ℤ)) (constant : ℤ) (cuts : List ℕ)
    (cut n : ℕ) (rule : PathRule) (slots : List SlotForm) (terms : List (ℕ × ℤ)) → ArePathRules rules → IsIn cuts cut
    → slice_get rules n ≡ Some rule → ((rule.from ≡ cut) × (rule.first ≡ slots)) ⊎ ((rule.to ≡ cut) × (rule.last ≡ slots))
    → AreNamed slots → StandAll slots size parts terms
    → IsLine (ranking_with size weights (forms_over rules size parts constant cuts))
    (form_at (forms_over rules size parts constant cuts) cut) slots terms constant
end_line size weights rules parts constant cuts cut n rule slots terms are listed is stands named s =
    let forms = forms_over rules size parts constant cuts in
    let own : IsEndAt rules cut slots = (n, rule, is, stands) in
    let there = slots_stand rules cut n rule is
    (elim stands as (λ o. (rule.from ≡ cut) ⊎ (rule.to ≡ cut)) [ inl a ↦ inl a.0 | inr b ↦ inr b.0 ]) in
    subst (λ (o : Option CutForm). IsLine (ranking_with size weights forms) o slots terms constant)
    (sym (forms_at size rules parts constant cuts cut listed.0 listed.1))
    (line_by size weights forms cut constant (slots_for rules cut) slots parts terms
    (parts_entries (weight_in weights) (slots_for rules cut) slots size parts terms
    (are.ends cut slots (slots_for rules cut) own there) (named_of size slots named) s))

pub rule_lines : (size : Bool) (weights : List (ℕ × ℤ)) (rules : List PathRule) (parts : List (Place × ℤ)) (constant : ℤ)
    (cuts : List ℕ) (n : ℕ) (rule : PathRule) (start finish : List (ℕ × ℤ)) → ArePathRules rules → AreCuts rules cuts
    → slice_get rules n ≡ Some rule → AreAllEnds rule size parts start finish
    → AreLines (ranking_with size weights (forms_over rules size parts constant cuts)) rule start finish constant
rule_lines size weights rules parts constant cuts n rule start finish are listed is ends =
    let named = all_at IsPathRule rules n rule are.each is in
    record {
      first = end_line size weights rules parts constant cuts rule.from n rule rule.first start are (listed.from n rule is) is
          (inl (refl, refl)) named.first ends.first;
      last = end_line size weights rules parts constant cuts rule.to n rule rule.last finish are (listed.to n rule is) is
          (inr (refl, refl)) named.last ends.last;
    }

-- ---- the numbers of the forms
pub none_multiples : AreMultiples []
none_multiples = record { rise = tt; size = λ i d low. absurd (omega (arith, low)) }

one_multiple : (id : ℕ) (times : ℤ) → id < 65536 → unsigned_abs times ≤ 2 ^ 31 → AreMultiples ((id, times) ∷ [])
one_multiple id times low small = record { rise = (omega arith, low, tt); size = λ i d less. one i d less }
  where
    one : (i : ℕ) (d : ℕ × ℤ) → i < length {A = ℕ × ℤ} ((id, times) ∷ []) → unsigned_abs (get_or ((id, times) ∷ []) i d).1 ≤ 2 ^ 31
    one zero d less = small
    one (suc i) d less = absurd (omega (arith, less))

two_multiples : (a b : ℕ) (s t : ℤ) → a < b → b < 65536 → unsigned_abs s ≤ 2 ^ 31 → unsigned_abs t ≤ 2 ^ 31
    → AreMultiples ((a, s) ∷ (b, t) ∷ [])
two_multiples a b s t rise low small too = record {
  rise = (omega arith, omega (arith, rise, low), (omega (arith, rise), low, tt));
  size = λ i d less. one i d less;
}
  where
    one : (i : ℕ) (d : ℕ × ℤ) → i < length {A = ℕ × ℤ} ((a, s) ∷ (b, t) ∷ []) → unsigned_abs (get_or ((a, s) ∷ (b, t) ∷ []) i d).1 ≤ 2 ^ 31
    one zero d less = small
    one (suc zero) d less = too
    one (suc (suc i)) d less = absurd (omega (arith, less))

-- ids below 65,536 with multiples of all_at most 4
abbrev AreLow : List (ℕ × ℤ) → Type 0
AreLow [] = Unit {0}
AreLow (entry ∷ rest) = (entry.0 < 65536) × (unsigned_abs entry.1 ≤ 4) × AreLow rest

alone_multiples : (test : Bool) (id : ℕ) (times : ℤ) → id < 65536 → unsigned_abs times ≤ 2 ^ 31
    → AreMultiples (cond test [] ((id, times) ∷ []))
alone_multiples true id times low small = none_multiples
alone_multiples false id times low small = one_multiple id times low small

pair_multiples : (low high : Bool) (a b : ℕ) (s t : ℤ) → nat_lt a b ≡ low → nat_lt b a ≡ high → a < 65536 → b < 65536
    → unsigned_abs s ≤ 4 → unsigned_abs t ≤ 4
    → AreMultiples (cond low ((a, s) ∷ (b, t) ∷ []) (cond high ((b, t) ∷ (a, s) ∷ []) (alone a (s +ℤ t))))
pair_multiples true high a b s t l k m n u v = two_multiples a b s t (ltb-true a b l) n (omega (arith, u)) (omega (arith, v))
pair_multiples false true a b s t l k m n u v = two_multiples b a t s (ltb-true b a k) m (omega (arith, v)) (omega (arith, u))
pair_multiples false false a b s t l k m n u v = alone_multiples (int_eq (s +ℤ t) (pos 0)) a (s +ℤ t) m (omega (arith, ints, u, v))

joined_multiples : (ids : List (ℕ × ℤ)) → length ids ≤ 2 → AreLow ids → AreMultiples (joined ids)
joined_multiples [] few low = none_multiples
joined_multiples (one ∷ []) few low = one_multiple one.0 one.1 low.0 (let s = low.1 in omega (arith, s))
joined_multiples (one ∷ other ∷ []) few low = pair_multiples (nat_lt one.0 other.0) (nat_lt other.0 one.0) one.0 other.0 one.1
    other.1 refl refl low.0 low.2.0 low.1 low.2.1
joined_multiples (one ∷ other ∷ more ∷ rest) few low = absurd (omega (arith, few))

ids_few_cases : (found : Option SlotForm) (times : ℤ) (rest : List (ℕ × ℤ)) (n : ℕ) → length rest ≤ n
    → length (id_of found times ++ rest) ≤ suc n
ids_few_cases None times rest n h = omega (arith, h)
ids_few_cases (Some slot) times rest n h = omega (arith, h)

ids_few : (slots : List SlotForm) (size : Bool) (parts : List (Place × ℤ)) → length (ids_at slots size parts) ≤ length parts
ids_few slots size [] = omega arith
ids_few slots size (part ∷ rest) = ids_few_cases (slot_at slots size part.0) part.1 (ids_at slots size rest) (length rest)
    (ids_few slots size rest)

ids_low_cases : (found : Option SlotForm) (times : ℤ) (rest : List (ℕ × ℤ))
    → ((slot : SlotForm) → found ≡ Some slot → slot.id < 65536) → unsigned_abs times ≤ 4 → AreLow rest → AreLow (id_of found times ++ rest)
ids_low_cases None times rest h small low = low
ids_low_cases (Some slot) times rest h small low = (h slot refl, small, low)

ids_low : (slots : List SlotForm) (size : Bool) (parts : List (Place × ℤ)) → Rise 65536 (ids_of size slots) → AllSmall parts
    → AreLow (ids_at slots size parts)
ids_low slots size [] named small = tt
ids_low slots size (part ∷ rest) named small = ids_low_cases (slot_at slots size part.0) part.1 (ids_at slots size rest)
    (λ slot e. named_low slots size part.0 slot named e) small.0 (ids_low slots size rest named small.1)

parts_multiples : (slots : List SlotForm) (size : Bool) (parts : List (Place × ℤ)) → Rise 65536 (ids_of size slots) → AreParts parts
    → AreMultiples (multiples_at slots size parts)
parts_multiples slots size parts named are = joined_multiples (ids_at slots size parts)
    (let f = ids_few slots size parts in let g = are.few in omega (arith, f, g)) (ids_low slots size parts named are.small)

-- the slots of a cut are named
named_cases : (from to : Bool) (rule : PathRule) (rest : List SlotForm) → AreNamed rule.first → AreNamed rule.last → AreNamed rest
    → AreNamed (cond from rule.first (cond to rule.last rest))
named_cases true to rule rest f l r = f
named_cases false true rule rest f l r = l
named_cases false false rule rest f l r = r

slots_named : (rules : List PathRule) (cut : ℕ) → All IsPathRule rules → AreNamed (slots_for rules cut)
slots_named [] cut h = (tt, tt)
slots_named (rule ∷ rest) cut h = let first = h 0 rule (omega arith) in named_cases (eqb rule.from cut) (eqb rule.to cut) rule
    (slots_for rest cut) first.first first.last (slots_named rest cut (λ i d low. h (suc i) d (omega (arith, low))))

form_small : (size : Bool) (cut : ℕ) (slots : List SlotForm) (parts : List (Place × ℤ)) (constant : ℤ) → AreNamed slots
    → AreParts parts → unsigned_abs constant ≤ 2 ^ 40 → IsForm (form_of cut slots size parts constant)
form_small true cut slots parts constant named are k = record
    { number = k; ints = none_multiples; sizes = parts_multiples slots true parts named.1 are }
form_small false cut slots parts constant named are k = record
    { number = k; ints = parts_multiples slots false parts named.0 are; sizes = none_multiples }

pub forms_small : (size : Bool) (rules : List PathRule) (parts : List (Place × ℤ)) (constant : ℤ) (cuts : List ℕ)
    → All IsPathRule rules → AreParts parts → unsigned_abs constant ≤ 2 ^ 40 → AreForms (forms_over rules size parts constant cuts)
forms_small size rules parts constant [] each are k i d low = absurd (omega (arith, low))
forms_small size rules parts constant (cut ∷ cuts) each are k zero d low = form_small size cut (slots_for rules cut) parts constant
    (slots_named rules cut each) are k
forms_small size rules parts constant (cut ∷ cuts) each are k (suc i) d low = forms_small size rules parts constant cuts each are k
    i d (omega (arith, low))

pub forms_rise : (size : Bool) (rules : List PathRule) (parts : List (Place × ℤ)) (constant : ℤ) (low end : ℕ) (cuts : List ℕ)
    → RiseTo low cuts end → FormsRise low (forms_over rules size parts constant cuts)
forms_rise size rules parts constant low end [] h = tt
forms_rise size rules parts constant low end (cut ∷ cuts) h = (h.0, forms_rise size rules parts constant (suc cut) end cuts h.1)

-- the forms are of these cuts
pub forms_own : (P : ℕ → Type 0) (size : Bool) (rules : List PathRule) (parts : List (Place × ℤ)) (constant : ℤ) (cuts : List ℕ)
    → ((k cut : ℕ) → slice_get cuts k ≡ Some cut → P cut)
    → AllByRecursion (λ (form : CutForm). P form.cut) (forms_over rules size parts constant cuts)
forms_own P size rules parts constant [] h = tt
forms_own P size rules parts constant (cut ∷ cuts) h = (h 0 cut refl, forms_own P size rules parts constant cuts (λ k x e. h (suc k) x e))

pub forms_plain : (rules : List PathRule) (parts : List (Place × ℤ)) (constant : ℤ) (cuts : List ℕ)
    → HaveNoSizes (forms_over rules false parts constant cuts)
forms_plain rules parts constant [] = tt
forms_plain rules parts constant (cut ∷ cuts) = (refl, forms_plain rules parts constant cuts)
