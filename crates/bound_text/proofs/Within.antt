-- Texts that were read keep the limits of what stands in them.
use Rattle.std.proofs.Common.{◌≡◌, ℕ, zero, suc, ℤ, pos, negsuc, ◌^◌, ◌<◌, ◌≤◌, ◌≤ℤ◌, ◌==◌, nat_lt, Bool, true, false, cond, List, []}
use Rattle.std.proofs.Common.{◌∷◌, length, Result, Ok, Err, Option, Some, None, All, codes, nat_abs, refl, sym, ap, ◌∙◌, subst, arith}
use Rattle.std.specs.Prelude.{unsigned_abs}
use Rattle.std.specs.Option.{ok_or}
use Rattle.std.proofs.lemmas.Bool.{ltb-false}
use Rattle.std.proofs.lemmas.Int.{ints}
use Rattle.std.proofs.lemmas.List.Elements.{All-nil, All-cons}
use Rattle.list_views.proofs.Steps.{bind_ok}
use Rattle.serde_json.specs.Data.{Data, null, boolean, number, string, array, object, Items, no_items, item}
use Rattle.serde_json.specs.Events.{items_len}
use Rattle.serde_json.specs.Find.{as_array}
use Rattle.json_view.specs.Located.{Located, root_of}
use Rattle.json_view.specs.Reading.{items_of, item_of, int_of, at_item, only_of, field_of}
use Rattle.json_view.specs.declared.fault.JsonFault.{JsonFault}
use Rattle.json_view.specs.declared.fault.JsonFault.TheVariants.{WrongKind, OutOfRange}
use Rattle.input_text.specs.Answers.{Reader}
use Rattle.input_text.specs.Fields.{◌>>=◌, items_from, list_of}
use Rattle.input_text.proofs.Numbers.{int_within}
use Rattle.descent.specs.declared.proof.CutForm.{CutForm}
use Rattle.bound_text.specs.declared.texts.BoundRule.{BoundRule}
use Rattle.bound_text.specs.declared.texts.BoundEntry.{BoundEntry}
use Rattle.bound_text.specs.declared.texts.BoundText.{BoundText}
use Rattle.bound_text.specs.Limits.{IsLimitedMultiple, IsLimitedForm, HasFewRows, IsLimitedEntry, AreLimited}
use Rattle.bound_text.specs.Texts.{at_most, of_length, there_or, nth, number_to, a_number, an_id, a_multiple, a_constant, row_parts, row_of}
use Rattle.bound_text.specs.Texts.{multipliers_of, multiple_parts, multiple_of, multiples_of, form_parts, form_of, forms_of, rule_parts}
use Rattle.bound_text.specs.Texts.{rule_of, rules_of, entry_parts, entry_of, ranks_of, bound_text_of}

-- ---- what stands behind a good answer

chosen : {A : Type 0} (test : Bool) (said : Result A JsonFault) (fault : JsonFault) (x : A) → cond test said (Err fault) ≡ Ok x
    → said ≡ Ok x
chosen true said fault x e = e
chosen false said fault x e = let no : ⊥ = cc in absurd no

of_length_ok : {A : Type 0} (size : ℕ) (reader : Reader A) (here : Located) (x : A) → of_length size reader here ≡ Ok x
    → reader here ≡ Ok x
unfolding of_length
of_length_ok size reader here x e =
    let b = bind_ok (items_of here) (λ count. cond (count == size) (reader here) (Err (WrongKind here.place))) x e in
    chosen (b.0 == size) (reader here) (WrongKind here.place) x b.2

nth_ok : {A : Type 0} (n : ℕ) (reader : Reader A) (here : Located) (x : A) → nth n reader here ≡ Ok x
    → (there : Located) × (reader there ≡ Ok x)
unfolding nth
nth_ok n reader here x e = at (item_of n here) e
  where
    at : (found : Option Located) → there_or here reader found ≡ Ok x → (there : Located) × (reader there ≡ Ok x)
    at (Some there) e = (there, e)
    at None e = let no : ⊥ = cc in absurd no

-- ---- lists

items_keep : {A : Type 0} (Has : A → Type 0) (reader : Reader A) (place : List ℕ) (n : ℕ) (items : Items) (xs : List A)
    → ((there : Located) (x : A) → reader there ≡ Ok x → Has x) → items_from reader place n items ≡ Ok xs → All Has xs
items_keep Has reader place n no_items xs each e = let same : [] ≡ xs = cc in subst (All Has) same (All-nil Has)
items_keep Has reader place n (item value rest) xs each e =
    let b = bind_ok (reader (at_item place n value)) (λ x. items_from reader place (suc n) rest >>= λ ys. Ok (x ∷ ys)) xs e in
    let c = bind_ok (items_from reader place (suc n) rest) (λ ys. Ok (b.0 ∷ ys)) xs b.2 in
    let same : b.0 ∷ c.0 ≡ xs = let s = c.2 in cc in
    subst (All Has) same (All-cons Has b.0 c.0 (each (at_item place n value) b.0 b.1) (items_keep Has reader place (suc n) rest c.0 each c.1))

list_keeps : {A : Type 0} (Has : A → Type 0) (reader : Reader A) (here : Located) (xs : List A)
    → ((there : Located) (x : A) → reader there ≡ Ok x → Has x) → list_of reader here ≡ Ok xs → All Has xs
unfolding list_of
list_keeps Has reader here xs each e =
    let b = bind_ok (ok_or (as_array here.value) (WrongKind here.place)) (items_from reader here.place 0) xs e in
    items_keep Has reader here.place 0 b.0 xs each b.2

items_count : {A : Type 0} (reader : Reader A) (place : List ℕ) (n : ℕ) (items : Items) (xs : List A)
    → items_from reader place n items ≡ Ok xs → length xs ≡ items_len items
items_count reader place n no_items xs e = let same : [] ≡ xs = cc in ap (λ ys. length ys) (sym same)
items_count reader place n (item value rest) xs e =
    let b = bind_ok (reader (at_item place n value)) (λ x. items_from reader place (suc n) rest >>= λ ys. Ok (x ∷ ys)) xs e in
    let c = bind_ok (items_from reader place (suc n) rest) (λ ys. Ok (b.0 ∷ ys)) xs b.2 in
    let same : b.0 ∷ c.0 ≡ xs = let s = c.2 in cc in
    ap (λ ys. length ys) (sym same) ∙ ap suc (items_count reader place (suc n) rest c.0 c.1)

-- a list has as many entries as are counted
list_count : {A : Type 0} (reader : Reader A) (here : Located) (xs : List A) (count : ℕ) → items_of here ≡ Ok count
    → list_of reader here ≡ Ok xs → length xs ≡ count
unfolding items_of list_of
list_count {A = A} reader here xs count i e = at here.value refl
  where
    at : (value : Data) → here.value ≡ value → length xs ≡ count
    at null t = let no : ⊥ = cc in absurd no
    at (boolean b) t = let no : ⊥ = cc in absurd no
    at (number m) t = let no : ⊥ = cc in absurd no
    at (string s) t = let no : ⊥ = cc in absurd no
    at (object ms) t = let no : ⊥ = cc in absurd no
    at (array items) t =
        let same : items_len items ≡ count = cc in
        items_count reader here.place 0 items xs
        (subst (λ (v : Data). list_of reader (record { value = v; place = here.place }) ≡ Ok xs) t e) ∙ same

-- ---- numbers

abs_within : (most : ℕ) (n : ℤ) → pos 0 ≤ℤ n → n ≤ℤ pos most → nat_abs n ≤ most
abs_within most (pos k) low high = omega (arith, ints)
abs_within most (negsuc k) low high = absurd (omega (arith, ints))

id_ok : (here : Located) (n : ℕ) → an_id here ≡ Ok n → n < 65536
unfolding an_id number_to
id_ok here n e =
    let b = bind_ok (int_of (pos 0) (pos 2047) here) (λ m. Ok (nat_abs m)) n e in
    let w = int_within (pos 0) (pos 2047) b.0 here b.1 in
    let low = abs_within 2047 b.0 w.least w.greatest in
    let same : nat_abs b.0 ≡ n = let s = b.2 in cc in
    omega (arith, low, same)

size_within : (less : ℕ) (n : ℤ) → negsuc less ≤ℤ n → n ≤ℤ pos (suc less) → unsigned_abs n ≤ suc less
size_within less (pos k) low high = omega (arith, ints)
size_within less (negsuc k) low high = omega (arith, ints)

multiple_ok : (here : Located) (n : ℤ) → a_multiple here ≡ Ok n → unsigned_abs n ≤ 2 ^ 31
unfolding a_multiple
multiple_ok here n e = let w = int_within (negsuc 2147483647) (pos 2147483648) n here e in
    size_within 2147483647 n w.least w.greatest

constant_ok : (here : Located) (n : ℤ) → a_constant here ≡ Ok n → unsigned_abs n ≤ 2 ^ 40
unfolding a_constant
constant_ok here n e = let w = int_within (negsuc 1099511627775) (pos 1099511627776) n here e in
    size_within 1099511627775 n w.least w.greatest

-- ---- parts

few_ok : (here : Located) (xs : List (ℕ × ℤ)) → multipliers_of here ≡ Ok xs → length xs ≤ 65536
unfolding multipliers_of at_most
few_ok here xs e =
    let b = bind_ok (items_of here) (λ count. cond (nat_lt 65536 count) (Err (OutOfRange here.place)) (list_of row_of here)) xs e in
    at b.0 (nat_lt 65536 b.0) refl b.1 b.2
  where
    at : (count : ℕ) (over : Bool) → nat_lt 65536 count ≡ over → items_of here ≡ Ok count
        → cond over (Err (OutOfRange here.place)) (list_of row_of here) ≡ Ok xs → length xs ≤ 65536
    at count true l i g = let no : ⊥ = cc in absurd no
    at count false l i g =
        let same = list_count row_of here xs count i g in
        let few = ltb-false 65536 count l in
        omega (arith, same, few)

multiple_is : (here : Located) (x : ℕ × ℤ) → multiple_of here ≡ Ok x → IsLimitedMultiple x
unfolding multiple_of multiple_parts
multiple_is here x e =
    let parts = of_length_ok 2 multiple_parts here x e in
    let i = bind_ok (nth 0 an_id here) (λ id. nth 1 a_multiple here >>= λ multiple. Ok (id, multiple)) x parts in
    let m = bind_ok (nth 1 a_multiple here) (λ multiple. Ok (i.0, multiple)) x i.2 in
    let same : (i.0, m.0) ≡ x = let s = m.2 in cc in
    let id = nth_ok 0 an_id here i.0 i.1 in
    let multiple = nth_ok 1 a_multiple here m.0 m.1 in
    subst IsLimitedMultiple same (record { id = id_ok id.0 i.0 id.1; size = multiple_ok multiple.0 m.0 multiple.1 })

multiples_are : (here : Located) (xs : List (ℕ × ℤ)) → multiples_of here ≡ Ok xs → All IsLimitedMultiple xs
unfolding multiples_of
multiples_are here xs e = list_keeps IsLimitedMultiple multiple_of here xs multiple_is e

form_is : (here : Located) (form : CutForm) → form_of here ≡ Ok form → IsLimitedForm form
unfolding form_of form_parts
form_is here form e =
    let parts = of_length_ok 4 form_parts here form e in
    let c = bind_ok (nth 0 a_number here) (λ cut. nth 1 a_constant here >>= λ constant. nth 2 multiples_of here >>= λ ints. nth 3
    multiples_of here >>= λ sizes. Ok (record { cut = cut; constant = constant; ints = ints; sizes = sizes })) form parts in
    let k = bind_ok (nth 1 a_constant here) (λ constant. nth 2 multiples_of here >>= λ ints. nth 3 multiples_of here >>= λ sizes. Ok
    (record { cut = c.0; constant = constant; ints = ints; sizes = sizes })) form c.2 in
    let i = bind_ok (nth 2 multiples_of here) (λ ints. nth 3 multiples_of here >>= λ sizes. Ok
    (record { cut = c.0; constant = k.0; ints = ints; sizes = sizes })) form k.2 in
    let s = bind_ok (nth 3 multiples_of here) (λ sizes. Ok
    (record { cut = c.0; constant = k.0; ints = i.0; sizes = sizes })) form i.2 in
    let same : record { cut = c.0; constant = k.0; ints = i.0; sizes = s.0 } ≡ form = let t = s.2 in cc in
    let constant = nth_ok 1 a_constant here k.0 k.1 in
    let ints = nth_ok 2 multiples_of here i.0 i.1 in
    let sizes = nth_ok 3 multiples_of here s.0 s.1 in
    subst IsLimitedForm same
    (record {
      constant = constant_ok constant.0 k.0 constant.1;
      ints = multiples_are ints.0 i.0 ints.1;
      sizes = multiples_are sizes.0 s.0 sizes.1;
    })

rule_is : (here : Located) (rule : BoundRule) → rule_of here ≡ Ok rule → HasFewRows rule
unfolding rule_of rule_parts
rule_is here rule e =
    let parts = of_length_ok 2 rule_parts here rule e in
    let r = bind_ok (nth 0 a_number here) (λ number. nth 1 multipliers_of here >>= λ fall. Ok
    (record { rule = number; fall = fall })) rule parts in
    let f = bind_ok (nth 1 multipliers_of here) (λ fall. Ok (record { rule = r.0; fall = fall })) rule r.2 in
    let same : record { rule = r.0; fall = f.0 } ≡ rule = let t = f.2 in cc in
    let fall = nth_ok 1 multipliers_of here f.0 f.1 in
    subst HasFewRows same (few_ok fall.0 f.0 fall.1)

entry_is : (here : Located) (entry : BoundEntry) → entry_of here ≡ Ok entry → IsLimitedEntry entry
unfolding entry_of entry_parts forms_of rules_of
entry_is here entry e =
    let parts = of_length_ok 3 entry_parts here entry e in
    let s = bind_ok (nth 0 a_number here) (λ step. nth 1 forms_of here >>= λ forms. nth 2 rules_of here >>= λ rules. Ok
    (record { step = step; forms = forms; rules = rules })) entry parts in
    let f = bind_ok (nth 1 forms_of here) (λ forms. nth 2 rules_of here >>= λ rules. Ok
    (record { step = s.0; forms = forms; rules = rules })) entry s.2 in
    let r = bind_ok (nth 2 rules_of here) (λ rules. Ok (record { step = s.0; forms = f.0; rules = rules })) entry f.2 in
    let same : record { step = s.0; forms = f.0; rules = r.0 } ≡ entry = let t = r.2 in cc in
    let forms = nth_ok 1 forms_of here f.0 f.1 in
    let rules = nth_ok 2 rules_of here r.0 r.1 in
    subst IsLimitedEntry same
    (record {
      forms = list_keeps IsLimitedForm form_of forms.0 f.0 form_is forms.1;
      rules = list_keeps HasFewRows rule_of rules.0 r.0 rule_is rules.1;
    })

text_parts : (here : Located) (text : BoundText) → bound_text_of here ≡ Ok text → AreLimited text.ranks
unfolding bound_text_of ranks_of
text_parts here text e =
    let o = bind_ok (only_of (codes "form ranks") here) (λ listed. field_of (codes "form") here >>= λ at_form. int_of (pos 1) (pos 1)
    at_form >>= λ form. field_of (codes "ranks") here >>= λ at_ranks. ranks_of at_ranks >>= λ ranks. Ok (record { ranks = ranks })) text
    e in
    let f = bind_ok (field_of (codes "form") here) (λ at_form. int_of (pos 1) (pos 1) at_form >>= λ form. field_of (codes "ranks") here
    >>= λ at_ranks. ranks_of at_ranks >>= λ ranks. Ok (record { ranks = ranks })) text o.2 in
    let i = bind_ok (int_of (pos 1) (pos 1) f.0) (λ form. field_of (codes "ranks") here >>= λ at_ranks. ranks_of at_ranks >>= λ ranks. Ok
    (record { ranks = ranks })) text f.2 in
    let a = bind_ok (field_of (codes "ranks") here) (λ at_ranks. ranks_of at_ranks >>= λ ranks. Ok (record { ranks = ranks })) text i.2 in
    let r = bind_ok (ranks_of a.0) (λ ranks. Ok (record { ranks = ranks })) text a.2 in
    let same : record { ranks = r.0 } ≡ text = let t = r.2 in cc in
    subst (λ (t : BoundText). AreLimited t.ranks) same (list_keeps IsLimitedEntry entry_of a.0 r.0 entry_is r.1)

-- what is said of a text that was read is within its limits
pub text_within : (here : Located) (text : BoundText) → bound_text_of here ≡ Ok text → AreLimited text.ranks
text_within here text e = text_parts here text e
