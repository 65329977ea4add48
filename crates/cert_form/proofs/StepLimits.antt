-- The steps of a proof that was read are within the limits of the text.
use Rattle.std.proofs.Common.{◌≡◌, ◌≤◌, ◌==◌, ◌||◌, ◌+◌, ℕ, ℤ, nat_le, Bool, true, false, cond, List, [], ◌∷◌, ◌++◌, length}
use Rattle.std.proofs.Common.{Ok, All, codes, refl, sym, ◌∙◌, subst, arith}
use Rattle.std.specs.Prelude.{unsigned_abs, Result}
use Rattle.std.specs.Str.{bytes_eq}
use Rattle.std.proofs.lemmas.List.Elements.{All-nil, All-push}
use Rattle.list_views.proofs.Orders.{same_number}
use Rattle.list_views.proofs.Steps.{bind_ok}
use Rattle.json_view.specs.Located.{Located}
use Rattle.json_view.specs.Reading.{items_of}
use Rattle.lin_core.specs.Weights.{IsWeight}
use Rattle.descent.specs.declared.proof.CutForm.{CutForm}
use Rattle.descent.specs.declared.proof.RankRule.{RankRule}
use Rattle.descent.specs.declared.proof.RankRule.TheVariants as listed
use Rattle.descent.specs.declared.proof.RankStep.{RankStep}
use Rattle.descent.specs.declared.proof.ProofStep.{ProofStep}
use Rattle.descent.specs.declared.proof.ProofStep.TheVariants as steps
use Rattle.cert_form.specs.declared.fault.CertFault.{CertFault}
use Rattle.cert_form.specs.Answers.{Reader, json, wrong_kind}
use Rattle.cert_form.specs.Fields.{◌>>=◌, field, entries_of, of_length, longer_than, nth, a_word, in_order, key_in, a_number, maybe_number}
use Rattle.cert_form.specs.Fields.{an_id, next_key}
use Rattle.cert_form.specs.Ways.{numbers_of}
use Rattle.cert_form.specs.Fields.{a_multiple, a_constant}
use Rattle.cert_form.specs.Steps.{row_parts, row_of, multipliers_of, a_weight, weight_parts, weight_in, multiple_parts, multiple_in}
use Rattle.cert_form.specs.Steps.{multiples_of, sized_list, form_parts, form_in, next_cut, next_rule, weak_of, strict_of, listed_of}
use Rattle.cert_form.specs.Steps.{number_of, rule_word, rule_length, rule_parts, rule_in, step_word, step_length, parts_of, steps_of}
use Rattle.cert_form.specs.Steps.{split_of, rank_parts, rank_of, order_of, dead_of, proof_step_of, step_of, proof_of}
use Rattle.cert_form.proofs.Binds.{test_ok, never, nth_ok, id_ok, order_ok, of_length_ok, field_ok, at_most_ok, items_counted, length_is}
use Rattle.cert_form.proofs.Keeping.{entries_keep, entries_count}
use Rattle.cert_form.specs.cert_write.Readable.{IsNumber, IsMaybe, RisesBy, IsMultiplier, AreMultipliers, AreMultiples, OnlyWith, IsForm, IsRule}
use Rattle.cert_form.specs.cert_write.Readable.{IsRank, IsStep}
use Rattle.cert_form.proofs.LimitWords.{longer_ok, word_ok, of_two, of_four}
use Rattle.cert_form.proofs.Rising.{rises_push, rise_from}
use Rattle.cert_form.proofs.LimitNumbers.{number_ok, maybe_ok, multiple_ok, constant_ok, weight_ok, order_is, not_more}

-- every entry has what each one has as it is read
all_ok : {A : Type 0} (Has : A → Type 0) (reader : List A → Reader A) (here : Located) (xs : List A)
    → ((f : List A) (there : Located) (x : A) → reader f there ≡ Ok x → Has x) → entries_of reader here ≡ Ok xs → All Has xs
all_ok {A = A} Has reader here xs each e = entries_keep (λ (ys : List A). All Has ys) reader here xs (All-nil Has)
    (λ f there x k r. All-push Has f x k (each f there x r)) e

-- ---- multipliers

row_ok : (there : Located) (x : ℕ × ℤ) → row_of there ≡ Ok x → IsMultiplier x
unfolding row_of row_parts
row_ok there x e =
    let parts = of_length_ok 2 row_parts there x e in
    let r = bind_ok (nth 0 a_number there) (λ row. nth 1 a_multiple there >>= λ multiplier. Ok (row, multiplier)) x parts in
    let m = bind_ok (nth 1 a_multiple there) (λ multiplier. Ok (r.0, multiplier)) x r.2 in
    let same : (r.0, m.0) ≡ x = let s = m.2 in cc in
    let row = nth_ok 0 a_number there r.0 r.1 in
    let multiplier = nth_ok 1 a_multiple there m.0 m.1 in
    subst IsMultiplier same (number_ok row.0 r.0 row.1.1, multiple_ok multiplier.0 m.0 multiplier.1.1)

multipliers_ok : (here : Located) (xs : List (ℕ × ℤ)) → multipliers_of here ≡ Ok xs → AreMultipliers xs
unfolding multipliers_of
multipliers_ok here xs e =
    let m = at_most_ok 65536 (entries_of (λ _. row_of)) here xs e in
    let count = entries_count (λ _. row_of) here xs m.1.1.1 in
    let items = items_counted here m.0 m.1.0 in
    let same : m.0 ≡ length xs = items ∙ sym count in
    (subst (λ (n : ℕ). n ≤ 65536) same (not_more 65536 m.0 m.1.1.0), all_ok IsMultiplier (λ _. row_of) here xs (λ f there x r. row_ok there x r) m.1.1.1)

-- ---- multiples that rise

abbrev Key : ℕ × ℤ → ℕ
Key x = x.0

record RiseTo (end : ℕ) (Has : ℕ × ℤ → Type 0) (xs : List (ℕ × ℤ)) : Type 0 where
  rises : RisesBy Key 0 end xs
  each : All Has xs

abbrev IsSmall : ℕ × ℤ → Type 0
IsSmall e = unsigned_abs e.1 ≤ 2147483648

multiple_step : (front : List (ℕ × ℤ)) (there : Located) (x : ℕ × ℤ) → RiseTo 2048 IsSmall front → multiple_in front there ≡ Ok x
    → RiseTo 2048 IsSmall (front ++ x ∷ [])
unfolding multiple_in multiple_parts
multiple_step front there x k e =
    let parts = of_length_ok 2 (multiple_parts front) there x e in
    let i = bind_ok (nth 0 an_id there) (λ id. key_in front id there >>= λ order. nth 1 a_multiple there >>= λ multiple. Ok
    (id, multiple)) x parts in
    let o = bind_ok (key_in front i.0 there) (λ order. nth 1 a_multiple there >>= λ multiple. Ok (i.0, multiple)) x i.2 in
    let m = bind_ok (nth 1 a_multiple there) (λ multiple. Ok (i.0, multiple)) x o.2 in
    let same : (i.0, m.0) ≡ x = let s = m.2 in cc in
    let id = nth_ok 0 an_id there i.0 i.1 in
    let multiple = nth_ok 1 a_multiple there m.0 m.1 in
    let later = order_is (next_key front) i.0 (order_ok _ there o.0 o.1) in
    subst (λ (y : ℕ × ℤ). RiseTo 2048 IsSmall (front ++ y ∷ [])) same
    (record {
      rises = rises_push Key 2048 front (i.0, m.0) k.rises later (id_ok id.0 i.0 id.1.1);
      each = All-push IsSmall front (i.0, m.0) k.each (multiple_ok multiple.0 m.0 multiple.1.1);
    })

multiples_ok : (here : Located) (xs : List (ℕ × ℤ)) → entries_of multiple_in here ≡ Ok xs → AreMultiples xs
multiples_ok here xs e =
    let k : RiseTo 2048 IsSmall xs = entries_keep (λ (ys : List (ℕ × ℤ)). RiseTo 2048 IsSmall ys) multiple_in here xs
    (record { rises = tt; each = All-nil IsSmall }) (λ f there x k r. multiple_step f there x k r) e in
    (rise_from 0 2048 xs k.rises, k.each)

-- ---- lists that stand only where sizes count

only_with : {A : Type 0} (size : Bool) (xs : List A) (count : ℕ) → length xs ≡ count → (size || (count == 0)) ≡ true → OnlyWith size xs
only_with true xs count same e = tt
only_with false xs count same e = same ∙ same_number count 0 e

sized_ok : {A : Type 0} (size : Bool) (reader : List A → Reader A) (here : Located) (xs : List A)
    → sized_list size reader here ≡ Ok xs → (entries_of reader here ≡ Ok xs) × OnlyWith size xs
unfolding sized_list
sized_ok size reader here xs e =
    let b = bind_ok (json (items_of here)) (λ count. cond (size || (count == 0)) (entries_of reader here) (wrong_kind here)) xs e in
    let t = test_ok (size || (b.0 == 0)) (entries_of reader here) (wrong_kind here) xs (λ f. never _ f) b.2 in
    let count = entries_count reader here xs t.1 ∙ sym (items_counted here b.0 b.1) in
    (t.1, only_with size xs b.0 count t.0)

-- ---- forms

-- the number of a form's cut, and what it keeps
record FormsTo (size : Bool) (forms : List CutForm) : Type 0 where
  rises : RisesBy (λ (f : CutForm). f.cut) 0 4294967296 forms
  each : All (λ (f : CutForm). IsForm size f) forms

form_step : (size : Bool) (front : List CutForm) (there : Located) (form : CutForm) → FormsTo size front → form_in size front there ≡ Ok form
    → FormsTo size (front ++ form ∷ [])
unfolding form_in form_parts multiples_of
form_step size front there form k e =
    let parts = of_length_ok 4 (form_parts size front) there form e in
    let c = bind_ok (nth 0 a_number there) (λ cut. in_order (nat_le (next_cut front) cut) there >>= λ order. nth 1 a_constant there
    >>= λ constant. nth 2 multiples_of there >>= λ ints. nth 3 (sized_list size multiple_in) there >>= λ sizes. Ok
    (record { cut = cut; constant = constant; ints = ints; sizes = sizes })) form parts in
    let o = bind_ok (in_order (nat_le (next_cut front) c.0) there)
    (λ order. nth 1 a_constant there >>= λ constant. nth 2 multiples_of there >>= λ ints. nth 3 (sized_list size multiple_in)
    there >>= λ sizes. Ok (record { cut = c.0; constant = constant; ints = ints; sizes = sizes })) form c.2 in
    let n = bind_ok (nth 1 a_constant there) (λ constant. nth 2 multiples_of there >>= λ ints. nth 3 (sized_list size multiple_in)
    there >>= λ sizes. Ok (record { cut = c.0; constant = constant; ints = ints; sizes = sizes })) form o.2 in
    let i = bind_ok (nth 2 multiples_of there)
    (λ ints. nth 3 (sized_list size multiple_in) there >>= λ sizes. Ok
    (record { cut = c.0; constant = n.0; ints = ints; sizes = sizes })) form n.2 in
    let s = bind_ok (nth 3 (sized_list size multiple_in) there)
    (λ sizes. Ok (record { cut = c.0; constant = n.0; ints = i.0; sizes = sizes })) form i.2 in
    let own : CutForm = record { cut = c.0; constant = n.0; ints = i.0; sizes = s.0 } in
    let same : own ≡ form = let t = s.2 in cc in
    let cut = nth_ok 0 a_number there c.0 c.1 in
    let constant = nth_ok 1 a_constant there n.0 n.1 in
    let ints = nth_ok 2 multiples_of there i.0 i.1 in
    let sizes = nth_ok 3 (sized_list size multiple_in) there s.0 s.1 in
    let sized = sized_ok size multiple_in sizes.0 s.0 sizes.1.1 in
    let low = number_ok cut.0 c.0 cut.1.1 in
    let later = order_is (next_cut front) c.0 (order_ok _ there o.0 o.1) in
    subst (λ (f : CutForm). FormsTo size (front ++ f ∷ [])) same
    (record {
      rises = rises_push (λ (f : CutForm). f.cut) 4294967296 front own k.rises later (omega (arith, low));
      each = All-push (λ (f : CutForm). IsForm size f) front own k.each (record {
        constant = constant_ok constant.0 n.0 constant.1.1;
        ints = multiples_ok ints.0 i.0 ints.1.1;
        sizes = multiples_ok sizes.0 s.0 sized.0;
        sized = sized.1;
      });
    })

forms_ok : (size : Bool) (here : Located) (xs : List CutForm) → entries_of (form_in size) here ≡ Ok xs → FormsTo size xs
forms_ok size here xs e = entries_keep (λ (ys : List CutForm). FormsTo size ys) (form_in size) here xs
    (record { rises = tt; each = All-nil (λ (f : CutForm). IsForm size f) }) (λ f there x k r. form_step size f there x k r) e

-- ---- weights

weight_step : (front : List (ℕ × ℤ)) (there : Located) (x : ℕ × ℤ) → RiseTo 4294967296 IsWeight front → weight_in front there ≡ Ok x
    → RiseTo 4294967296 IsWeight (front ++ x ∷ [])
unfolding weight_in weight_parts
weight_step front there x k e =
    let parts = of_length_ok 2 (weight_parts front) there x e in
    let c = bind_ok (nth 0 a_number there) (λ class. key_in front class there >>= λ order. nth 1 a_weight there >>= λ weight. Ok
    (class, weight)) x parts in
    let o = bind_ok (key_in front c.0 there) (λ order. nth 1 a_weight there >>= λ weight. Ok (c.0, weight)) x c.2 in
    let w = bind_ok (nth 1 a_weight there) (λ weight. Ok (c.0, weight)) x o.2 in
    let same : (c.0, w.0) ≡ x = let s = w.2 in cc in
    let class = nth_ok 0 a_number there c.0 c.1 in
    let weight = nth_ok 1 a_weight there w.0 w.1 in
    let low = number_ok class.0 c.0 class.1.1 in
    let later = order_is (next_key front) c.0 (order_ok _ there o.0 o.1) in
    subst (λ (y : ℕ × ℤ). RiseTo 4294967296 IsWeight (front ++ y ∷ [])) same
    (record {
      rises = rises_push Key 4294967296 front (c.0, w.0) k.rises later (omega (arith, low));
      each = All-push IsWeight front (c.0, w.0) k.each (weight_ok weight.0 w.0 weight.1.1);
    })

weights_ok : (here : Located) (xs : List (ℕ × ℤ)) → entries_of weight_in here ≡ Ok xs → RiseTo 4294967296 IsWeight xs
weights_ok here xs e = entries_keep (λ (ys : List (ℕ × ℤ)). RiseTo 4294967296 IsWeight ys) weight_in here xs
    (record { rises = tt; each = All-nil IsWeight }) (λ f there x k r. weight_step f there x k r) e

-- ---- listed rules

-- a listed rule of that number
record IsListedAt (rule : ℕ) (x : RankRule) : Type 0 where
  number : number_of x ≡ rule
  keeps : IsRule x

weak_ok : (rule : ℕ) (here : Located) (x : RankRule) → weak_of rule here ≡ Ok x → IsListedAt rule x
unfolding weak_of
weak_ok rule here x e =
    let f = bind_ok (nth 2 multipliers_of here) (λ fall. Ok (listed.Weak rule fall)) x e in
    let same : listed.Weak rule f.0 ≡ x = let s = f.2 in cc in
    let fall = nth_ok 2 multipliers_of here f.0 f.1 in
    subst (IsListedAt rule) same (record { number = refl; keeps = multipliers_ok fall.0 f.0 fall.1.1 })

strict_ok : (rule : ℕ) (here : Located) (x : RankRule) → strict_of rule here ≡ Ok x → IsListedAt rule x
unfolding strict_of
strict_ok rule here x e =
    let f = bind_ok (nth 2 multipliers_of here) (λ fall. nth 3 multipliers_of here >>= λ bound. Ok (listed.Strict rule fall bound)) x e in
    let b = bind_ok (nth 3 multipliers_of here) (λ bound. Ok (listed.Strict rule f.0 bound)) x f.2 in
    let same : listed.Strict rule f.0 b.0 ≡ x = let s = b.2 in cc in
    let fall = nth_ok 2 multipliers_of here f.0 f.1 in
    let bound = nth_ok 3 multipliers_of here b.0 b.1 in
    subst (IsListedAt rule) same
    (record { number = refl; keeps = (multipliers_ok fall.0 f.0 fall.1.1, multipliers_ok bound.0 b.0 bound.1.1) })

record RulesTo (rules : List RankRule) : Type 0 where
  rises : RisesBy number_of 0 4294967296 rules
  each : All IsRule rules

rule_step : (front : List RankRule) (there : Located) (x : RankRule) → RulesTo front → rule_in front there ≡ Ok x → RulesTo (front ++ x ∷ [])
unfolding rule_in rule_parts
rule_step front there x k e =
    let w = bind_ok (longer_than 1 (nth 1 (a_word rule_word)) there)
    (λ word. of_length (rule_length word) (rule_parts front word) there) x e in
    let parts = of_length_ok (rule_length w.0) (rule_parts front w.0) there x w.2 in
    let r = bind_ok (nth 0 a_number there) (λ rule. in_order (nat_le (next_rule front) rule) there >>= λ order. listed_of w.0 rule
    there) x parts in
    let o = bind_ok (in_order (nat_le (next_rule front) r.0) there) (λ order. listed_of w.0 r.0 there) x r.2 in
    let word = nth_ok 1 (a_word rule_word) there w.0 (longer_ok 1 (nth 1 (a_word rule_word)) there w.0 w.1) in
    let text = word_ok rule_word word.0 w.0 word.1.1 in
    let is = of_two (bytes_eq text.0 (codes "weak")) (bytes_eq text.0 (codes "strict")) w.0
    (λ word. listed_of word r.0 there ≡ Ok x → IsListedAt r.0 x) text.1 (weak_ok r.0 there x) (strict_ok r.0 there x) o.2 in
    let rule = nth_ok 0 a_number there r.0 r.1 in
    let low = number_ok rule.0 r.0 rule.1.1 in
    let later = order_is (next_rule front) r.0 (order_ok _ there o.0 o.1) in
    let own = is.number in record {
      rises = rises_push number_of 4294967296 front x k.rises (omega (arith, later, own)) (omega (arith, low, own));
      each = All-push IsRule front x k.each is.keeps;
    }

rules_ok : (here : Located) (xs : List RankRule) → entries_of rule_in here ≡ Ok xs → RulesTo xs
rules_ok here xs e = entries_keep (λ (ys : List RankRule). RulesTo ys) rule_in here xs
    (record { rises = tt; each = All-nil IsRule }) (λ f there x k r. rule_step f there x k r) e

-- ---- steps

ranked_ok : (size : Bool) (here : Located) (step : RankStep) → rank_parts size here ≡ Ok step → IsRank step
unfolding rank_parts
ranked_ok size here step e =
    let w = bind_ok (nth 2 (sized_list size weight_in) here)
    (λ weights. nth 3 (entries_of (form_in size)) here >>= λ forms. nth 4 (entries_of rule_in) here >>= λ rules. Ok
    (record { size = size; weights = weights; forms = forms; rules = rules })) step e in
    let f = bind_ok (nth 3 (entries_of (form_in size)) here)
    (λ forms. nth 4 (entries_of rule_in) here >>= λ rules. Ok
    (record { size = size; weights = w.0; forms = forms; rules = rules })) step w.2 in
    let r = bind_ok (nth 4 (entries_of rule_in) here)
    (λ rules. Ok (record { size = size; weights = w.0; forms = f.0; rules = rules })) step f.2 in
    let same : record { size = size; weights = w.0; forms = f.0; rules = r.0 } ≡ step = let t = r.2 in cc in
    let weights = nth_ok 2 (sized_list size weight_in) here w.0 w.1 in
    let sized = sized_ok size weight_in weights.0 w.0 weights.1.1 in
    let weighed = weights_ok weights.0 w.0 sized.0 in
    let forms = nth_ok 3 (entries_of (form_in size)) here f.0 f.1 in
    let formed = forms_ok size forms.0 f.0 forms.1.1 in
    let rules = nth_ok 4 (entries_of rule_in) here r.0 r.1 in
    let ruled = rules_ok rules.0 r.0 rules.1.1 in
    subst (λ (s : RankStep). IsRank s) same
    (record {
      weights_rise = rise_from 0 4294967296 w.0 weighed.rises;
      weights = weighed.each;
      sized = sized.1;
      forms_rise = formed.rises;
      forms = formed.each;
      rules_rise = ruled.rises;
      rules = ruled.each;
    })

numbers_ok : (there : Located) (xs : List ℕ) → numbers_of there ≡ Ok xs → All IsNumber xs
unfolding numbers_of
numbers_ok there xs e = all_ok IsNumber (λ _. a_number) there xs (λ f at n r. number_ok at n r) e

split_ok : (here : Located) (step : ProofStep) → split_of here ≡ Ok step → IsStep step
unfolding split_of steps_of parts_of
split_ok here step e =
    let p = bind_ok (nth 1 parts_of here) (λ parts. nth 2 (steps_of (length parts)) here >>= λ taken. Ok (steps.Split parts taken))
    step e in
    let t = bind_ok (nth 2 (steps_of (length p.0)) here) (λ taken. Ok (steps.Split p.0 taken)) step p.2 in
    let same : steps.Split p.0 t.0 ≡ step = let s = t.2 in cc in
    let parts = nth_ok 1 parts_of here p.0 p.1 in
    let taken = nth_ok 2 (steps_of (length p.0)) here t.0 t.1 in
    let read = of_length_ok (length p.0) (entries_of (λ _. maybe_number)) taken.0 t.0 taken.1.1 in
    let count = entries_count (λ _. maybe_number) taken.0 t.0 read in
    subst (λ (s : ProofStep). IsStep s) same (
      count ∙ length_is (length p.0) (entries_of (λ _. maybe_number)) taken.0 t.0 taken.1.1,
      (
        all_ok (λ (ns : List ℕ). All IsNumber ns) (λ _. numbers_of) parts.0 p.0 (λ f there ns r. numbers_ok there ns r) parts.1.1,
        all_ok (IsMaybe IsNumber) (λ _. maybe_number) taken.0 t.0 (λ f there n r. maybe_ok there n r) read,
      ),
    )

abbrev is_read : ProofStep → Result ProofStep CertFault
is_read step = Ok step

empty_ok : (step : ProofStep) → is_read steps.Empty ≡ Ok step → IsStep step
empty_ok step e =
    let same : steps.Empty ≡ step = cc in
    subst (λ (s : ProofStep). IsStep s) same tt

rank_ok : (here : Located) (step : ProofStep) → rank_of here ≡ Ok step → IsStep step
unfolding rank_of
rank_ok here step e =
    let o = bind_ok (nth 1 order_of here)
    (λ size. rank_parts size here >>= λ step. nth 5 a_number here >>= λ rest. Ok (steps.Rank step rest)) step e in
    let p = bind_ok (rank_parts o.0 here) (λ step. nth 5 a_number here >>= λ rest. Ok (steps.Rank step rest)) step o.2 in
    let r = bind_ok (nth 5 a_number here) (λ rest. Ok (steps.Rank p.0 rest)) step p.2 in
    let same : steps.Rank p.0 r.0 ≡ step = let s = r.2 in cc in
    let rest = nth_ok 5 a_number here r.0 r.1 in
    subst (λ (s : ProofStep). IsStep s) same (ranked_ok o.0 here p.0 p.1, number_ok rest.0 r.0 rest.1.1)

dead_ok : (here : Located) (step : ProofStep) → dead_of here ≡ Ok step → IsStep step
unfolding dead_of
dead_ok here step e =
    let r = bind_ok (nth 1 a_number here) (λ rule. nth 2 multipliers_of here >>= λ multipliers. nth 3 a_number here >>= λ rest. Ok
    (steps.Dead rule multipliers rest)) step e in
    let m = bind_ok (nth 2 multipliers_of here)
    (λ multipliers. nth 3 a_number here >>= λ rest. Ok (steps.Dead r.0 multipliers rest)) step r.2 in
    let n = bind_ok (nth 3 a_number here) (λ rest. Ok (steps.Dead r.0 m.0 rest)) step m.2 in
    let same : steps.Dead r.0 m.0 n.0 ≡ step = let s = n.2 in cc in
    let rule = nth_ok 1 a_number here r.0 r.1 in
    let multipliers = nth_ok 2 multipliers_of here m.0 m.1 in
    let rest = nth_ok 3 a_number here n.0 n.1 in
    subst (λ (s : ProofStep). IsStep s) same
    (number_ok rule.0 r.0 rule.1.1, (multipliers_ok multipliers.0 m.0 multipliers.1.1, number_ok rest.0 n.0 rest.1.1))

step_ok : (here : Located) (step : ProofStep) → step_of here ≡ Ok step → IsStep step
unfolding step_of
step_ok here step e =
    let w = bind_ok (longer_than 0 (nth 0 (a_word step_word)) here) (λ word. of_length (step_length word) (proof_step_of word) here)
    step e in
    let word = nth_ok 0 (a_word step_word) here w.0 (longer_ok 0 (nth 0 (a_word step_word)) here w.0 w.1) in
    let text = word_ok step_word word.0 w.0 word.1.1 in
    of_four (bytes_eq text.0 (codes "empty")) (bytes_eq text.0 (codes "split")) (bytes_eq text.0 (codes "rank"))
    (bytes_eq text.0 (codes "dead")) w.0 (λ word. proof_step_of word here ≡ Ok step → IsStep step) text.1 (empty_ok step)
    (split_ok here step) (rank_ok here step) (dead_ok here step)
    (of_length_ok (step_length w.0) (proof_step_of w.0) here step w.2)

steps_ok : (here : Located) (xs : List ProofStep) → proof_of here ≡ Ok xs → All IsStep xs
unfolding proof_of
steps_ok here xs e = all_ok IsStep (λ _. step_of) here xs (λ f there step r. step_ok there step r) e

pub proof_keeps : (here : Located) (xs : List ProofStep) → field (codes "proof") proof_of here ≡ Ok xs → All IsStep xs
proof_keeps here xs e = let f = field_ok (codes "proof") proof_of here xs e in steps_ok f.0 xs f.1.1
