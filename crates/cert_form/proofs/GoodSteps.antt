-- Proofs that were read keep the limits of steps.
use Rattle.std.proofs.Common.{◌≡◌, ℕ, zero, suc, ℤ, pos, negsuc, ◌+◌, ◌-◌, ◌^◌, ◌<◌, ◌≤◌, ◌≤ℤ◌, ◌==◌, ◌&&◌, ◌||◌, nat_lt, nat_le}
use Rattle.std.proofs.Common.{Bool, true, false, cond, List, [], ◌∷◌, ◌++◌, length, Result, Ok, Err, Option, Some, None, slice_get}
use Rattle.std.proofs.Common.{All, codes, refl, sym, ap, ◌∙◌, subst, arith}
use Rattle.std.specs.Prelude.{int_le, unsigned_abs}
use Rattle.std.specs.Option.{option_map_or}
use Rattle.std.proofs.lemmas.Bool.Decides.{nat_tests}
use Rattle.std.proofs.lemmas.Bool.{and_parts}
use Rattle.std.proofs.lemmas.Int.{ints}
use Rattle.std.proofs.lemmas.List.Elements.{All-nil, All-push}
use Rattle.list_views.proofs.Orders.{int_le_true}
use Rattle.json_view.specs.Located.{Located}
use Rattle.json_view.specs.Reading.{items_of, int_of}
use Rattle.lin_core.specs.Rows.{RiseFrom, Rise}
use Rattle.lin_core.specs.Weights.{IsWeight}
use Rattle.descent.specs.Conditions.{AreMultiples, IsForm, AreFew, IsListed, IsRanked, IsStep, AreSteps}
use Rattle.descent.specs.declared.proof.CutForm.{CutForm}
use Rattle.descent.specs.declared.proof.RankRule.{RankRule}
use Rattle.descent.specs.declared.proof.RankRule.TheVariants as listed
use Rattle.descent.specs.declared.proof.RankStep.{RankStep}
use Rattle.descent.specs.declared.proof.ProofStep.{ProofStep}
use Rattle.descent.specs.declared.proof.ProofStep.TheVariants as steps
use Rattle.list_views.proofs.Steps.{bind_ok}
use Rattle.cert_form.specs.declared.steps.StepWord.{StepWord}
use Rattle.cert_form.specs.declared.steps.StepWord.TheVariants.{Empty, Split, Rank, Dead}
use Rattle.cert_form.specs.declared.steps.RuleWord.{RuleWord}
use Rattle.cert_form.specs.declared.steps.RuleWord.TheVariants.{Weak, Strict}
use Rattle.cert_form.specs.Answers.{Reader, json, wrong_kind, past_limit}
use Rattle.cert_form.specs.Fields.{◌>>=◌, field, entries_of, of_length, longer_than, nth, a_word, in_order, last_of, next_key}
use Rattle.cert_form.specs.Fields.{key_in, a_number, maybe_number, an_id, a_multiple, a_constant, long_to}
use Rattle.cert_form.specs.Steps.{row_of, multipliers_of, a_weight, weight_parts, weight_in, multiple_parts, multiple_in}
use Rattle.cert_form.specs.Steps.{multiples_of, sized_list, form_parts, form_in, next_cut, next_rule, weak_of, strict_of, listed_of}
use Rattle.cert_form.specs.Steps.{rule_word, rule_length, rule_parts, rule_in, step_word, step_length, parts_of, steps_of, split_of}
use Rattle.cert_form.specs.Steps.{rank_parts, rank_of, order_of, dead_of, proof_step_of, step_of, proof_of}
use Rattle.cert_form.proofs.Binds.{test_ok, never, nth_ok, id_ok, order_ok, of_length_ok, field_ok, at_most_ok, items_counted, length_is}
use Rattle.cert_form.proofs.Keeping.{entries_keep, entries_count}

-- ---- numbers

size_within : (n most : ℕ) → nat_le n most ≡ true → n ≤ most
size_within n most e = grind (arith, nat_tests)

long_ok : (most : ℕ) (here : Located) (n : ℤ) → long_to most here ≡ Ok n → unsigned_abs n ≤ most
unfolding long_to
long_ok most here n e =
    let b = bind_ok (json (int_of (negsuc 9223372036854775807) (pos 9223372036854775807) here))
    (λ n. cond (nat_le (unsigned_abs n) most) (Ok n) (past_limit here)) n e in
    let t = test_ok (nat_le (unsigned_abs b.0) most) (Ok b.0) (past_limit here) n (λ f. never _ f) b.2 in
    let same : b.0 ≡ n = let s = t.1 in cc in
    subst (λ (m : ℤ). unsigned_abs m ≤ most) same (size_within (unsigned_abs b.0) most t.0)

multiple_ok : (here : Located) (n : ℤ) → a_multiple here ≡ Ok n → unsigned_abs n ≤ 2 ^ 31
unfolding a_multiple
multiple_ok here n e = long_ok 2147483648 here n e

constant_ok : (here : Located) (n : ℤ) → a_constant here ≡ Ok n → unsigned_abs n ≤ 2 ^ 40
unfolding a_constant
constant_ok here n e = long_ok 1099511627776 here n e

weight_ok : (here : Located) (n : ℤ) → a_weight here ≡ Ok n → (pos 0 ≤ℤ n) × (n ≤ℤ pos 65535)
unfolding a_weight
weight_ok here n e =
    let b = bind_ok (json (int_of (negsuc 9223372036854775807) (pos 9223372036854775807) here))
    (λ n. cond (int_le (pos 0) n && int_le n (pos 65535)) (Ok n) (past_limit here)) n e in
    let t = test_ok (int_le (pos 0) b.0 && int_le b.0 (pos 65535)) (Ok b.0) (past_limit here) n (λ f. never _ f) b.2 in
    let both = and_parts (int_le (pos 0) b.0) (int_le b.0 (pos 65535)) t.0 in
    let same : b.0 ≡ n = let s = t.1 in cc in
    subst (λ (m : ℤ). (pos 0 ≤ℤ m) × (m ≤ℤ pos 65535)) same (int_le_true (pos 0) b.0 both.0, int_le_true b.0 (pos 65535) both.1)

-- ---- lists of multipliers

few_ok : (here : Located) (xs : List (ℕ × ℤ)) → multipliers_of here ≡ Ok xs → AreFew xs
unfolding multipliers_of
few_ok here xs e =
    let m = at_most_ok 65536 (entries_of (λ _. row_of)) here xs e in
    let count = entries_count (λ _. row_of) here xs m.1.1.1 in
    let items = items_counted here m.0 m.1.0 in
    within (length xs) m.0 (count ∙ sym items) m.1.1.0
  where
    within : (n count : ℕ) → n ≡ count → nat_lt 65536 count ≡ false → n ≤ 65536
    within n count e l = grind (arith, nat_tests)

-- ---- multiples that rise

last_pair : {A : Type 0} (x y : A) (rest : List A) → last_of (x ∷ y ∷ rest) ≡ last_of (y ∷ rest)
last_pair x y rest =
    let a : length (x ∷ y ∷ rest) - 1 ≡ suc (length rest) = omega arith in
    let b : length (y ∷ rest) - 1 ≡ length rest = omega arith in
    ap (λ (i : ℕ). slice_get (x ∷ y ∷ rest) i) a ∙ sym (ap (λ (i : ℕ). slice_get (y ∷ rest) i) b)

rise_more : (low end : ℕ) (y : ℕ × ℤ) (rest : List (ℕ × ℤ)) (x : ℕ × ℤ) → RiseFrom low end (y ∷ rest) → next_key (y ∷ rest) ≤ x.0
    → x.0 < end → RiseFrom low end (y ∷ (rest ++ x ∷ []))
rise_more low end y [] x r n l = let above : suc y.0 ≤ x.0 = omega arith in (r.0, r.1, (above, l, tt))
rise_more low end y (z ∷ rest) x r n l =
    let next : next_key (z ∷ rest) ≤ x.0 = subst (λ (last : Option (ℕ × ℤ)). option_map_or (λ x. x.0 + 1) last 0 ≤ x.0)
    (last_pair y z rest) n in
    (r.0, r.1, rise_more (suc y.0) end z rest x r.2 next l)

rise_push : (end : ℕ) (front : List (ℕ × ℤ)) (x : ℕ × ℤ) → Rise end front → next_key front ≤ x.0 → x.0 < end → Rise end (front ++ x ∷ [])
rise_push end [] x r n l = (omega arith, l, tt)
rise_push end (y ∷ rest) x r n l = rise_more 0 end y rest x r n l

is_at_most : (n m : ℕ) → nat_le n m ≡ true → n ≤ m
is_at_most n m e = grind (arith, nat_tests)

multiple_step : (front : List (ℕ × ℤ)) (there : Located) (x : ℕ × ℤ) → AreMultiples front → multiple_in front there ≡ Ok x
    → AreMultiples (front ++ x ∷ [])
unfolding multiple_in multiple_parts
multiple_step front there x k e =
    let parts = of_length_ok 2 (multiple_parts front) there x e in
    let i = bind_ok (nth 0 an_id there) (λ id. key_in front id there >>= λ order. nth 1 a_multiple there >>= λ multiple. Ok
    (id, multiple)) x parts in
    let o = bind_ok (key_in front i.0 there) (λ order. nth 1 a_multiple there >>= λ multiple. Ok (i.0, multiple)) x i.2 in
    let m = bind_ok (nth 1 a_multiple there) (λ multiple. Ok (i.0, multiple)) x o.2 in
    let same : (i.0, m.0) ≡ x = let s = m.2 in cc in
    let id = nth_ok 0 an_id there i.0 i.1 in
    let low = id_ok id.0 i.0 id.1.1 in
    let multiple = nth_ok 1 a_multiple there m.0 m.1 in
    let next = is_at_most (next_key front) i.0 (order_ok _ there o.0 o.1) in
    subst (λ (y : ℕ × ℤ). AreMultiples (front ++ y ∷ [])) same
    (record {
      rise = rise_push 65536 front (i.0, m.0) k.rise next (omega arith);
      size = All-push (λ (entry : ℕ × ℤ). unsigned_abs entry.1 ≤ 2 ^ 31) front (i.0, m.0) k.size (multiple_ok multiple.0 m.0 multiple.1.1);
    })

multiples_ok : (here : Located) (xs : List (ℕ × ℤ)) → entries_of multiple_in here ≡ Ok xs → AreMultiples xs
multiples_ok here xs e = entries_keep (λ (ys : List (ℕ × ℤ)). AreMultiples ys) multiple_in here xs
    (record { rise = tt; size = All-nil _ }) (λ f there x k r. multiple_step f there x k r) e

sized_ok : {A : Type 0} (size : Bool) (reader : List A → Reader A) (here : Located) (xs : List A)
    → sized_list size reader here ≡ Ok xs → entries_of reader here ≡ Ok xs
unfolding sized_list
sized_ok size reader here xs e =
    let b = bind_ok (json (items_of here)) (λ count. cond (size || (count == 0)) (entries_of reader here) (wrong_kind here)) xs e in
    (test_ok (size || (b.0 == 0)) (entries_of reader here) (wrong_kind here) xs (λ f. never _ f) b.2).1

-- ---- forms

form_ok : (size : Bool) (front : List CutForm) (there : Located) (form : CutForm) → form_in size front there ≡ Ok form → IsForm form
unfolding form_in form_parts multiples_of
form_ok size front there form e =
    let parts = of_length_ok 4 (form_parts size front) there form e in
    let c = bind_ok (nth 0 a_number there) (λ cut. in_order (nat_le (next_cut front) cut) there >>= λ order. nth 1 a_constant there
    >>= λ constant. nth 2 multiples_of there >>= λ ints. nth 3 (sized_list size multiple_in) there >>= λ sizes. Ok
    (record { cut = cut; constant = constant; ints = ints; sizes = sizes })) form parts in
    let o = bind_ok (in_order (nat_le (next_cut front) c.0) there)
    (λ order. nth 1 a_constant there >>= λ constant. nth 2 multiples_of there >>= λ ints. nth 3 (sized_list size multiple_in)
    there >>= λ sizes. Ok (record { cut = c.0; constant = constant; ints = ints; sizes = sizes })) form c.2 in
    let k = bind_ok (nth 1 a_constant there) (λ constant. nth 2 multiples_of there >>= λ ints. nth 3 (sized_list size multiple_in)
    there >>= λ sizes. Ok (record { cut = c.0; constant = constant; ints = ints; sizes = sizes })) form o.2 in
    let i = bind_ok (nth 2 multiples_of there)
    (λ ints. nth 3 (sized_list size multiple_in) there >>= λ sizes. Ok
    (record { cut = c.0; constant = k.0; ints = ints; sizes = sizes })) form k.2 in
    let s = bind_ok (nth 3 (sized_list size multiple_in) there)
    (λ sizes. Ok (record { cut = c.0; constant = k.0; ints = i.0; sizes = sizes })) form i.2 in
    let same : record { cut = c.0; constant = k.0; ints = i.0; sizes = s.0 } ≡ form = let t = s.2 in cc in
    let constant = nth_ok 1 a_constant there k.0 k.1 in
    let ints = nth_ok 2 multiples_of there i.0 i.1 in
    let sizes = nth_ok 3 (sized_list size multiple_in) there s.0 s.1 in
    subst (λ (f : CutForm). IsForm f) same
    (record {
      number = constant_ok constant.0 k.0 constant.1.1;
      ints = multiples_ok ints.0 i.0 ints.1.1;
      sizes = multiples_ok sizes.0 s.0 (sized_ok size multiple_in sizes.0 s.0 sizes.1.1);
    })

-- ---- weights

weight_in_ok : (front : List (ℕ × ℤ)) (there : Located) (x : ℕ × ℤ) → weight_in front there ≡ Ok x → IsWeight x
unfolding weight_in weight_parts
weight_in_ok front there x e =
    let parts = of_length_ok 2 (weight_parts front) there x e in
    let c = bind_ok (nth 0 a_number there) (λ class. key_in front class there >>= λ order. nth 1 a_weight there >>= λ weight. Ok
    (class, weight)) x parts in
    let o = bind_ok (key_in front c.0 there) (λ order. nth 1 a_weight there >>= λ weight. Ok (c.0, weight)) x c.2 in
    let w = bind_ok (nth 1 a_weight there) (λ weight. Ok (c.0, weight)) x o.2 in
    let same : (c.0, w.0) ≡ x = let s = w.2 in cc in
    let weight = nth_ok 1 a_weight there w.0 w.1 in
    subst (λ (y : ℕ × ℤ). IsWeight y) same (weight_ok weight.0 w.0 weight.1.1)

-- ---- listed rules

listed_ok : (word : RuleWord) (rule : ℕ) (here : Located) (x : RankRule) → listed_of word rule here ≡ Ok x → IsListed x
unfolding weak_of strict_of
listed_ok Weak rule here x e =
    let f = bind_ok (nth 2 multipliers_of here) (λ fall. Ok (listed.Weak rule fall)) x e in
    let same : listed.Weak rule f.0 ≡ x = let s = f.2 in cc in
    let fall = nth_ok 2 multipliers_of here f.0 f.1 in
    subst (λ (r : RankRule). IsListed r) same (few_ok fall.0 f.0 fall.1.1)
listed_ok Strict rule here x e =
    let f = bind_ok (nth 2 multipliers_of here) (λ fall. nth 3 multipliers_of here >>= λ bound. Ok (listed.Strict rule fall bound)) x e in
    let b = bind_ok (nth 3 multipliers_of here) (λ bound. Ok (listed.Strict rule f.0 bound)) x f.2 in
    let same : listed.Strict rule f.0 b.0 ≡ x = let s = b.2 in cc in
    let fall = nth_ok 2 multipliers_of here f.0 f.1 in
    let bound = nth_ok 3 multipliers_of here b.0 b.1 in
    subst (λ (r : RankRule). IsListed r) same (few_ok fall.0 f.0 fall.1.1, few_ok bound.0 b.0 bound.1.1)

rule_ok : (front : List RankRule) (there : Located) (x : RankRule) → rule_in front there ≡ Ok x → IsListed x
unfolding rule_in rule_parts
rule_ok front there x e =
    let w = bind_ok (longer_than 1 (nth 1 (a_word rule_word)) there)
    (λ word. of_length (rule_length word) (rule_parts front word) there) x e in
    let parts = of_length_ok (rule_length w.0) (rule_parts front w.0) there x w.2 in
    let r = bind_ok (nth 0 a_number there) (λ rule. in_order (nat_le (next_rule front) rule) there >>= λ order. listed_of w.0 rule
    there) x parts in
    let o = bind_ok (in_order (nat_le (next_rule front) r.0) there) (λ order. listed_of w.0 r.0 there) x r.2 in
    listed_ok w.0 r.0 there x o.2

-- ---- steps

-- every entry has what each one has as it is read
all_ok : {A : Type 0} (Has : A → Type 0) (reader : List A → Reader A) (here : Located) (xs : List A)
    → ((f : List A) (there : Located) (x : A) → reader f there ≡ Ok x → Has x) → entries_of reader here ≡ Ok xs → All Has xs
all_ok {A = A} Has reader here xs each e = entries_keep (λ (ys : List A). All Has ys) reader here xs (All-nil Has)
    (λ f there x k r. All-push Has f x k (each f there x r)) e

ranked_ok : (size : Bool) (here : Located) (step : RankStep) → rank_parts size here ≡ Ok step → IsRanked step
unfolding rank_parts
ranked_ok size here step e =
    let w = bind_ok (nth 2 (sized_list size weight_in) here)
    (λ weights. nth 3 (entries_of (form_in size)) here >>= λ forms. nth 4 (entries_of rule_in) here >>= λ rules. Ok
    (record { size = size; weights = weights; forms = forms; rules = rules })) step e in
    let f = bind_ok (nth 3 (entries_of (form_in size)) here)
    (λ forms. nth 4 (entries_of rule_in) here >>= λ rules. Ok
    (record { size = size; weights = w.0; forms = forms; rules = rules })) step w.2 in
    let r = bind_ok (nth 4 (entries_of rule_in) here)
    (λ rules. Ok (record { size = size; weights = w.0; forms = f.0; rules = rules })) step f.2 in
    let same : record { size = size; weights = w.0; forms = f.0; rules = r.0 } ≡ step = let t = r.2 in cc in
    let weights = nth_ok 2 (sized_list size weight_in) here w.0 w.1 in
    let forms = nth_ok 3 (entries_of (form_in size)) here f.0 f.1 in
    let rules = nth_ok 4 (entries_of rule_in) here r.0 r.1 in
    subst (λ (s : RankStep). IsRanked s) same
    (record {
      forms = all_ok (λ (form : CutForm). IsForm form) (form_in size) forms.0 f.0 (form_ok size) forms.1.1;
      weights = all_ok (λ (x : ℕ × ℤ). IsWeight x) weight_in weights.0 w.0 weight_in_ok
          (sized_ok size weight_in weights.0 w.0 weights.1.1);
      rules = all_ok (λ (rule : RankRule). IsListed rule) rule_in rules.0 r.0 rule_ok rules.1.1;
    })

split_ok : (here : Located) (step : ProofStep) → split_of here ≡ Ok step → IsStep step
unfolding split_of steps_of
split_ok here step e =
    let p = bind_ok (nth 1 parts_of here) (λ parts. nth 2 (steps_of (length parts)) here >>= λ taken. Ok (steps.Split parts taken))
    step e in
    let t = bind_ok (nth 2 (steps_of (length p.0)) here) (λ taken. Ok (steps.Split p.0 taken)) step p.2 in
    let same : steps.Split p.0 t.0 ≡ step = let s = t.2 in cc in
    let taken = nth_ok 2 (steps_of (length p.0)) here t.0 t.1 in
    let read = of_length_ok (length p.0) (entries_of (λ _. maybe_number)) taken.0 t.0 taken.1.1 in
    let count = entries_count (λ _. maybe_number) taken.0 t.0 read in
    subst (λ (s : ProofStep). IsStep s) same (count ∙ length_is (length p.0) (entries_of (λ _. maybe_number)) taken.0 t.0 taken.1.1)

kind_ok : (word : StepWord) (here : Located) (step : ProofStep) → proof_step_of word here ≡ Ok step → IsStep step
unfolding rank_of dead_of
kind_ok Empty here step e =
    let same : steps.Empty ≡ step = cc in
    subst (λ (s : ProofStep). IsStep s) same tt
kind_ok Split here step e = split_ok here step e
kind_ok Rank here step e =
    let o = bind_ok (nth 1 order_of here)
    (λ size. rank_parts size here >>= λ step. nth 5 a_number here >>= λ rest. Ok (steps.Rank step rest)) step e in
    let p = bind_ok (rank_parts o.0 here) (λ step. nth 5 a_number here >>= λ rest. Ok (steps.Rank step rest)) step o.2 in
    let r = bind_ok (nth 5 a_number here) (λ rest. Ok (steps.Rank p.0 rest)) step p.2 in
    let same : steps.Rank p.0 r.0 ≡ step = let s = r.2 in cc in
    subst (λ (s : ProofStep). IsStep s) same (ranked_ok o.0 here p.0 p.1)
kind_ok Dead here step e =
    let r = bind_ok (nth 1 a_number here) (λ rule. nth 2 multipliers_of here >>= λ multipliers. nth 3 a_number here >>= λ rest. Ok
    (steps.Dead rule multipliers rest)) step e in
    let m = bind_ok (nth 2 multipliers_of here)
    (λ multipliers. nth 3 a_number here >>= λ rest. Ok (steps.Dead r.0 multipliers rest)) step r.2 in
    let n = bind_ok (nth 3 a_number here) (λ rest. Ok (steps.Dead r.0 m.0 rest)) step m.2 in
    let same : steps.Dead r.0 m.0 n.0 ≡ step = let s = n.2 in cc in
    let multipliers = nth_ok 2 multipliers_of here m.0 m.1 in
    subst (λ (s : ProofStep). IsStep s) same (few_ok multipliers.0 m.0 multipliers.1.1)

step_ok : (front : List ProofStep) (here : Located) (step : ProofStep) → step_of here ≡ Ok step → IsStep step
unfolding step_of
step_ok front here step e =
    let w = bind_ok (longer_than 0 (nth 0 (a_word step_word)) here) (λ word. of_length (step_length word) (proof_step_of word) here)
    step e in
    kind_ok w.0 here step (of_length_ok (step_length w.0) (proof_step_of w.0) here step w.2)

-- the steps of a proof that was read keep their limits
pub steps_ok : (here : Located) (xs : List ProofStep) → proof_of here ≡ Ok xs → AreSteps xs
unfolding proof_of
steps_ok here xs e = all_ok (λ (step : ProofStep). IsStep step) (λ _. step_of) here xs step_ok e

pub field_steps_ok : (here : Located) (xs : List ProofStep) → field (codes "proof") proof_of here ≡ Ok xs → AreSteps xs
field_steps_ok here xs e = let f = field_ok (codes "proof") proof_of here xs e in steps_ok f.0 xs f.1.1
