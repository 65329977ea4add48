-- Steps of proofs are read again.
use Rattle.std.proofs.Common.{◌≡◌, ℕ, suc, ℤ, ◌≤◌, ◌<◌, ◌==◌, Bool, true, false, List, [], ◌∷◌, map, length, Ok, Option, All, refl}
use Rattle.std.proofs.Common.{◌∙◌, arith}
use Rattle.std.specs.Prelude.{unsigned_abs}
use Rattle.std.proofs.lemmas.Bool.Decides.{nat_tests}
use Rattle.std.proofs.lemmas.Bool.{cond-true}
use Rattle.serde_json.specs.Data.{Data, string}
use Rattle.serde_json.specs.Events.{items_len}
use Rattle.serde_json.specs.View.{items_of}
use Rattle.json_view.specs.Reading.{items_of as count_of, item_of, text_of}
use Rattle.lin_core.specs.Rows.{RiseFrom}
use Rattle.lin_core.specs.Weights.{IsWeight}
use Rattle.descent.specs.declared.proof.CutForm.{CutForm}
use Rattle.descent.specs.declared.proof.RankRule.{RankRule}
use Rattle.descent.specs.declared.proof.RankRule.TheVariants.{Weak, Strict}
use Rattle.descent.specs.declared.proof.RankStep.{RankStep}
use Rattle.descent.specs.declared.proof.ProofStep.{ProofStep}
use Rattle.descent.specs.declared.proof.ProofStep.TheVariants.{Empty, Split, Rank, Dead}
use Rattle.cert_form.specs.Answers.{Reader, wrong_kind}
use Rattle.cert_form.specs.Fields.{entries_of, of_length, longer_than, nth, a_word, next_key, maybe_number}
use Rattle.cert_form.specs.Steps.{row_parts, row_of, multipliers_of, weight_parts, weight_in, multiple_parts, multiple_in}
use Rattle.cert_form.specs.Steps.{multiples_of, sized_list, next_cut, form_parts, form_in, weak_of, strict_of, number_of, next_rule}
use Rattle.cert_form.specs.Steps.{rule_parts, rule_in, order_of, parts_of, steps_of, split_of, rank_parts, rank_of, dead_of}
use Rattle.cert_form.specs.Steps.{step_of, proof_of}
use Rattle.cert_form.specs.Ways.{numbers_of}
use Rattle.cert_form.specs.cert_write.Data.{naturals, maybe, list, entry, entries, form, rule, order_word, step}
use Rattle.cert_form.specs.cert_write.Readable.{IsNumber, IsMaybe, RisesBy, IsMultiplier, AreMultipliers, AreMultiples, OnlyWith, IsForm}
use Rattle.cert_form.specs.cert_write.Readable.{IsRule, IsRank, IsStep}
use Rattle.cert_form.proofs.Backs.{Back, then_back, order_back, within_most, a_number_back, maybe_number_back, id_back}
use Rattle.cert_form.proofs.Backs.{multiple_back, constant_back, weight_back, most_back, mapped_as_many, all_back, rise_back}
use Rattle.cert_form.proofs.NodeBacks.{numbers_back}

-- ---- rows, weights and multiples

row_back : (e : ℕ × ℤ) → IsMultiplier e → Back row_of (entry e) e
unfolding row_of of_length count_of row_parts nth item_of
row_back e is place = then_back _ _ e.0 _ (a_number_back e.0 is.0 _) (then_back _ _ e.1 _ (multiple_back e.1 is.1 _) refl)

multipliers_back : (es : List (ℕ × ℤ)) → AreMultipliers es → Back multipliers_of (entries es) es
unfolding multipliers_of
multipliers_back es are place = most_back 65536 _ entry es es are.0 (all_back IsMultiplier row_of entry es row_back are.1) place

in_32_bits : (n : ℕ) → n < 4294967296 → IsNumber n
in_32_bits n l = omega arith

weight_entry : (front : List (ℕ × ℤ)) (e : ℕ × ℤ) → next_key front ≤ e.0 → e.0 < 4294967296 → IsWeight e
    → Back (weight_in front) (entry e) e
unfolding weight_in of_length count_of weight_parts nth item_of
weight_entry front e next l is place =
    then_back _ _ e.0 _ (a_number_back e.0 (in_32_bits e.0 l) _)
    (then_back _ _ tt _ (order_back _ (record { value = entry e; place = place }) (within_most (next_key front) e.0 next))
    (then_back _ _ e.1 _ (weight_back e.1 is.0 is.1 _) refl))

multiple_entry : (front : List (ℕ × ℤ)) (e : ℕ × ℤ) → next_key front ≤ e.0 → e.0 < 2048 → unsigned_abs e.1 ≤ 2147483648
    → Back (multiple_in front) (entry e) e
unfolding multiple_in of_length count_of multiple_parts nth item_of
multiple_entry front e next l is place =
    then_back _ _ e.0 _ (id_back e.0 l _)
    (then_back _ _ tt _ (order_back _ (record { value = entry e; place = place }) (within_most (next_key front) e.0 next))
    (then_back _ _ e.1 _ (multiple_back e.1 is _) refl))

terms_rise : (low end : ℕ) (es : List (ℕ × ℤ)) → RiseFrom low end es → RisesBy (λ e. e.0) low end es
terms_rise low end [] rise = tt
terms_rise low end (e ∷ es) rise = (rise.0, (rise.1, terms_rise (suc e.0) end es rise.2))

each_multiple : (es : List (ℕ × ℤ)) → AreMultiples es → Back (entries_of multiple_in) (entries es) es
each_multiple es are = rise_back (λ (e : ℕ × ℤ). e.0) (λ (e : ℕ × ℤ). unsigned_abs e.1 ≤ 2147483648) multiple_in entry 2048 es
    multiple_entry (terms_rise 0 2048 es are.0) are.1

multiples_back : (es : List (ℕ × ℤ)) → AreMultiples es → Back multiples_of (entries es) es
unfolding multiples_of
multiples_back es are place = each_multiple es are place

none_counted : (n : ℕ) → n ≡ 0 → (n == 0) ≡ true
none_counted n e = grind (arith, nat_tests)

sized_back : {A : Type 0} (size : Bool) (reader : List A → Reader A) (write : A → Data) (xs : List A) → OnlyWith size xs
    → Back (entries_of reader) (list (map write xs)) xs → Back (sized_list size reader) (list (map write xs)) xs
unfolding sized_list count_of
sized_back true reader write xs only back place = back place
sized_back false reader write xs only back place =
    cond-true (items_len (items_of (map write xs)) == 0) (entries_of reader (record { value = list (map write xs); place = place }))
    (wrong_kind (record { value = list (map write xs); place = place })) (none_counted _ (mapped_as_many write xs ∙ only))
    ∙ back place

-- ---- forms and rules

form_back : (size : Bool) (front : List CutForm) (f : CutForm) → next_cut front ≤ f.cut → f.cut < 4294967296 → IsForm size f
    → Back (form_in size front) (form f) f
unfolding form_in of_length count_of form_parts nth item_of
form_back size front f next l is place =
    then_back _ _ f.cut _ (a_number_back f.cut (in_32_bits f.cut l) _)
    (then_back _ _ tt _ (order_back _ (record { value = form f; place = place }) (within_most (next_cut front) f.cut next))
    (then_back _ _ f.constant _ (constant_back f.constant is.constant _)
    (then_back _ _ f.ints _ (multiples_back f.ints is.ints _)
    (then_back _ _ f.sizes _ (sized_back size multiple_in entry f.sizes is.sized (each_multiple f.sizes is.sizes) _) refl))))

rule_back : (front : List RankRule) (r : RankRule) → next_rule front ≤ number_of r → number_of r < 4294967296 → IsRule r
    → Back (rule_in front) (rule r) r
unfolding rule_in longer_than count_of nth item_of a_word text_of of_length rule_parts weak_of strict_of
rule_back front (Weak n fall) next l is place =
    then_back _ _ n _ (a_number_back n (in_32_bits n l) _)
    (then_back _ _ tt _ (order_back _ (record { value = rule (Weak n fall); place = place }) (within_most (next_rule front) n next))
    (then_back _ _ fall _ (multipliers_back fall is _) refl))
rule_back front (Strict n fall bound) next l is place =
    then_back _ _ n _ (a_number_back n (in_32_bits n l) _)
    (then_back _ _ tt _ (order_back _ (record { value = rule (Strict n fall bound); place = place })
    (within_most (next_rule front) n next))
    (then_back _ _ fall _ (multipliers_back fall is.0 _)
    (then_back _ _ bound _ (multipliers_back bound is.1 _) refl)))

-- ---- steps

order_back_of : (size : Bool) (place : List ℕ) → order_of (record { value = string (order_word size); place = place }) ≡ Ok size
unfolding order_of text_of
order_back_of true place = refl
order_back_of false place = refl

ranked_back : (ranked : RankStep) (rest : ℕ) → IsRank ranked → Back (rank_parts ranked.size) (step (Rank ranked rest)) ranked
unfolding rank_parts nth item_of
ranked_back ranked rest is place =
    then_back _ _ ranked.weights _
    (sized_back ranked.size weight_in entry ranked.weights is.sized
    (rise_back (λ (e : ℕ × ℤ). e.0) IsWeight weight_in entry 4294967296 ranked.weights weight_entry
    (terms_rise 0 4294967296 ranked.weights is.weights_rise) is.weights) _)
    (then_back _ _ ranked.forms _ (rise_back (λ (f : CutForm). f.cut) (IsForm ranked.size) (form_in ranked.size) form 4294967296
    ranked.forms (form_back ranked.size) is.forms_rise is.forms _)
    (then_back _ _ ranked.rules _ (rise_back number_of IsRule rule_in rule 4294967296 ranked.rules rule_back is.rules_rise is.rules
    _) refl))

rank_back : (ranked : RankStep) (rest : ℕ) → IsRank ranked → IsNumber rest → Back rank_of (step (Rank ranked rest)) (Rank ranked rest)
unfolding rank_of nth item_of
rank_back ranked rest is l place =
    then_back _ _ ranked.size _ (order_back_of ranked.size _)
    (then_back _ _ ranked _ (ranked_back ranked rest is place)
    (then_back _ _ rest _ (a_number_back rest l _) refl))

parts_back : (parts : List (List ℕ)) → All (All IsNumber) parts → Back parts_of (list (map naturals parts)) parts
unfolding parts_of
parts_back parts all place = all_back (All IsNumber) numbers_of naturals parts numbers_back all place

same_count : (n m : ℕ) → n ≡ m → (n == m) ≡ true
same_count n m e = grind (arith, nat_tests)

steps_back : (count : ℕ) (steps : List (Option ℕ)) → length steps ≡ count → All (IsMaybe IsNumber) steps
    → Back (steps_of count) (list (map maybe steps)) steps
unfolding steps_of of_length count_of
steps_back count steps e all place =
    cond-true (items_len (items_of (map maybe steps)) == count)
    (entries_of (λ _. maybe_number) (record { value = list (map maybe steps); place = place }))
    (wrong_kind (record { value = list (map maybe steps); place = place })) (same_count _ _ (mapped_as_many maybe steps ∙ e))
    ∙ all_back (IsMaybe IsNumber) maybe_number maybe steps maybe_number_back all place

pub step_back : (s : ProofStep) → IsStep s → Back step_of (step s) s
unfolding step_of longer_than count_of nth item_of a_word text_of of_length split_of dead_of
step_back Empty is place = refl
step_back (Split parts steps) is place = then_back _ _ parts _ (parts_back parts is.1.0 _)
    (then_back _ _ steps _ (steps_back (length parts) steps is.0 is.1.1 _) refl)
step_back (Rank ranked rest) is place = rank_back ranked rest is.0 is.1 place
step_back (Dead n multipliers rest) is place = then_back _ _ n _ (a_number_back n is.0 _)
    (then_back _ _ multipliers _ (multipliers_back multipliers is.1.0 _) (then_back _ _ rest _ (a_number_back rest is.1.1 _) refl))

pub proof_back : (steps : List ProofStep) → All IsStep steps → Back proof_of (list (map step steps)) steps
unfolding proof_of
proof_back steps all place = all_back IsStep step_of step steps step_back all place
