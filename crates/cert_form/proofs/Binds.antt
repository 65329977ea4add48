-- What stands behind a good answer of a reader that is made of others.
use Rattle.std.proofs.Common.{◌≡◌, ℕ, ◌<◌, ◌==◌, nat_lt, nat_le, Bool, true, false, cond, List, Result, Ok, Err, Option, Some, None}
use Rattle.std.proofs.Common.{refl, sym, ap, ◌∙◌, subst, arith}
use Rattle.std.proofs.lemmas.Bool.Decides.{nat_tests}
use Rattle.list_views.proofs.Orders.{nat_lt_true, same_number}
use Rattle.serde_json.specs.Data.{Data, null, boolean, number, string, array, object}
use Rattle.serde_json.specs.Events.{items_len}
use Rattle.list_views.proofs.Steps.{bind_ok}
use Rattle.json_view.specs.Located.{Located}
use Rattle.json_view.specs.Reading.{items_of, item_of, item_count, field_of}
use Rattle.cert_form.specs.declared.fault.CertFault.{CertFault}
use Rattle.cert_form.specs.Answers.{Reader, json, wrong_kind, past_limit}
use Rattle.cert_form.specs.Fields.{field, at_most, of_length, nth, there_or, in_order, number_to, an_id, id_within}

-- a test that has no fault stands where its answer is good
pub test_ok : {A : Type 0} (test : Bool) (said other : Result A CertFault) (x : A) → ((f : A) → other ≡ Ok f → ⊥)
    → cond test said other ≡ Ok x → (test ≡ true) × (said ≡ Ok x)
test_ok true said other x bad e = (refl, e)
test_ok false said other x bad e = absurd (bad x e)

-- a fault is no good answer
pub never : {A : Type 0} (fault : CertFault) (x : A) → Err fault ≡ Ok x → ⊥
never fault x e = cc

pub field_ok : {A : Type 0} (name : List ℕ) (reader : Reader A) (here : Located) (x : A) → field name reader here ≡ Ok x
    → (there : Located) × ((json (field_of name here) ≡ Ok there) × (reader there ≡ Ok x))
unfolding field
field_ok name reader here x e = let b = bind_ok (json (field_of name here)) reader x e in (b.0, (b.1, b.2))

pub of_length_ok : {A : Type 0} (size : ℕ) (reader : Reader A) (here : Located) (x : A) → of_length size reader here ≡ Ok x
    → reader here ≡ Ok x
unfolding of_length
of_length_ok size reader here x e =
    let b = bind_ok (json (items_of here)) (λ count. cond (count == size) (reader here) (wrong_kind here)) x e in
    (test_ok (b.0 == size) (reader here) (wrong_kind here) x (λ f. never _ f) b.2).1

limit_ok : {A : Type 0} (over : Bool) (said other : Result A CertFault) (x : A) → ((f : A) → other ≡ Ok f → ⊥)
    → cond over other said ≡ Ok x → (over ≡ false) × (said ≡ Ok x)
limit_ok true said other x bad e = absurd (bad x e)
limit_ok false said other x bad e = (refl, e)

-- a list within its limit, with the number of its items
pub at_most_ok : {A : Type 0} (most : ℕ) (reader : Reader A) (here : Located) (x : A) → at_most most reader here ≡ Ok x
    → (count : ℕ) × ((json (items_of here) ≡ Ok count) × ((nat_lt most count ≡ false) × (reader here ≡ Ok x)))
unfolding at_most
at_most_ok most reader here x e =
    let b = bind_ok (json (items_of here)) (λ count. cond (nat_lt most count) (past_limit here) (reader here)) x e in
    (b.0, (b.1, limit_ok (nat_lt most b.0) (reader here) (past_limit here) x (λ f. never _ f) b.2))

pub nth_ok : {A : Type 0} (n : ℕ) (reader : Reader A) (here : Located) (x : A) → nth n reader here ≡ Ok x → (there : Located)
    × ((item_of n here ≡ Some there) × (reader there ≡ Ok x))
unfolding nth
nth_ok n reader here x e = go (item_of n here) refl e
  where
    go : (found : Option Located) → item_of n here ≡ found → there_or here reader found ≡ Ok x → (there : Located)
        × ((item_of n here ≡ Some there) × (reader there ≡ Ok x))
    go (Some there) t e = (there, (t, e))
    go None t e = let no : ⊥ = cc in absurd no

pub order_ok : (stands : Bool) (here : Located) (u : Unit {0}) → in_order stands here ≡ Ok u → stands ≡ true
order_ok true here u e = refl
order_ok false here u e = let no : ⊥ = cc in absurd no

-- ids are below 2,048
pub id_ok : (here : Located) (n : ℕ) → an_id here ≡ Ok n → n < 2048
unfolding an_id
id_ok here n e =
    let b = bind_ok (number_to 65535 here) (id_within here) n e in
    let t = test_ok (nat_lt b.0 2048) (Ok b.0) (past_limit here) n (λ f. never _ f) b.2 in
    let same : b.0 ≡ n = let s = t.1 in cc in
    subst (λ (m : ℕ). m < 2048) same (nat_lt_true b.0 2048 t.0)

-- a list has as many items as are counted
pub items_counted : (here : Located) (count : ℕ) → json (items_of here) ≡ Ok count → count ≡ item_count here.value
unfolding items_of
items_counted here count e = go here.value refl
  where
    go : (value : Data) → here.value ≡ value → count ≡ item_count here.value
    go null t = let no : ⊥ = cc in absurd no
    go (boolean b) t = let no : ⊥ = cc in absurd no
    go (number m) t = let no : ⊥ = cc in absurd no
    go (string s) t = let no : ⊥ = cc in absurd no
    go (object ms) t = let no : ⊥ = cc in absurd no
    go (array items) t = rw t (let same : items_len items ≡ count = cc in sym same)

-- a list of one length has that many items
pub length_is : {A : Type 0} (size : ℕ) (reader : Reader A) (here : Located) (x : A) → of_length size reader here ≡ Ok x
    → item_count here.value ≡ size
unfolding of_length
length_is size reader here x e =
    let b = bind_ok (json (items_of here)) (λ count. cond (count == size) (reader here) (wrong_kind here)) x e in
    let t = test_ok (b.0 == size) (reader here) (wrong_kind here) x (λ f. never _ f) b.2 in
    sym (items_counted here b.0 b.1) ∙ same_number b.0 size t.0
