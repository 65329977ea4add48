-- Lists of items, read one after another.
use Rattle.std.proofs.Common.{◌≡◌, ℕ, zero, suc, ◌+◌, List, [], ◌∷◌, ◌++◌, Result, Ok, Err, Some, refl, sym, ap, ◌∙◌, subst, arith}
use Rattle.std.proofs.Common.{append_assoc, append-nil}
use Rattle.std.specs.Prelude.{IsErrAnd}
use Rattle.serde_json.specs.Data.{Data, null, boolean, number, string, array, object, Items}
use Rattle.serde_json.specs.Find.{at}
use Rattle.json_view.specs.Located.{Located}
use Rattle.json_view.specs.Reading.{item_of, item_count, items_of}
use Rattle.json_view.specs.declared.fault.JsonFault.{JsonFault}
use Rattle.json_view.specs.declared.fault.JsonFault.TheVariants.{NotJson, WrongKind, MissingField, UnknownField, OutOfRange, Memory}
use Rattle.json_view.specs.Answers.{StandsFor}
use Rattle.json_view.proofs.Behind.{items_after, items_in, nth_after, item_found, all_in}
use Rattle.input_text.specs.Answers.{Reader, Says}
use Rattle.input_text.specs.Fields.{◌>>=◌, items_from, list_of}

-- what was read already, before what is still to be read
abbrev pub with_front : {A : Type 0} → List A → Result (List A) JsonFault → Result (List A) JsonFault
with_front front (Ok xs) = Ok (front ++ xs)
with_front front (Err fault) = Err fault

-- the list that is said, where `front` was read and the items from n on are still to be read
abbrev pub Goes : {A : Type 0} → Reader A → Located → ℕ → List A → Type 0
Goes reader here n front = list_of reader here ≡ with_front front (items_from reader here.place n (items_after n (items_in here.value)))

-- ---- the steps of a loop over the items

ok_starts : {A : Type 0} (r : Result (List A) JsonFault) → r ≡ with_front [] r
ok_starts (Ok xs) = refl
ok_starts (Err fault) = refl

starts_by : {A : Type 0} (reader : Reader A) (place : List ℕ) (value : Data) (count : ℕ)
    → items_of (record { value = value; place = place }) ≡ Ok count → Goes reader (record { value = value; place = place }) 0 []
unfolding list_of items_of
starts_by reader place null count e = let no : ⊥ = cc in absurd no
starts_by reader place (boolean b) count e = let no : ⊥ = cc in absurd no
starts_by reader place (number n) count e = let no : ⊥ = cc in absurd no
starts_by reader place (string s) count e = let no : ⊥ = cc in absurd no
starts_by reader place (object ms) count e = let no : ⊥ = cc in absurd no
starts_by reader place (array items) count e = ok_starts (items_from reader place 0 items)

-- nothing is read yet
pub starts : {A : Type 0} (reader : Reader A) (here : Located) (count : ℕ) → items_of here ≡ Ok count → Goes reader here 0 []
starts reader here count e = starts_by reader here.place here.value count e

-- the next item is read, and then the others
next_is : {A : Type 0} (reader : Reader A) (here there : Located) (n : ℕ) (front : List A) → Goes reader here n front
    → item_of n here ≡ Some there
    → list_of reader here ≡ with_front front
    (reader there >>= λ x. items_from reader here.place (suc n) (items_after (suc n) (items_in here.value)) >>= λ xs. Ok (x ∷ xs))
unfolding item_of
next_is reader here there n front goes e =
    let f = item_found here.place n (at n here.value) there e in
    goes
    ∙ ap (λ (items : Items). with_front front (items_from reader here.place n items)) (nth_after n here.value f.0 f.1.0)
    ∙ ap (λ (x : Located). with_front front
    (reader x >>= λ y. items_from reader here.place (suc n) (items_after (suc n) (items_in here.value)) >>= λ xs. Ok (y ∷ xs))) f.1.1

more_front : {A : Type 0} (front : List A) (x : A) (rest : Result (List A) JsonFault)
    → with_front front (rest >>= λ xs. Ok (x ∷ xs)) ≡ with_front (front ++ x ∷ []) rest
more_front front x (Ok xs) = ap (λ ys. Ok ys) (sym (append_assoc front (x ∷ []) xs))
more_front front x (Err fault) = refl

-- one more item was read
pub goes_on : {A : Type 0} (reader : Reader A) (here there : Located) (n : ℕ) (front : List A) (x : A) → Goes reader here n front
    → item_of n here ≡ Some there → reader there ≡ Ok x → Goes reader here (n + 1) (front ++ x ∷ [])
goes_on {A = A} reader here there n front x goes e r =
    let first = next_is reader here there n front goes e in
    let read = ap (λ (y : Result A JsonFault). with_front front
    (y >>= λ z. items_from reader here.place (suc n) (items_after (suc n) (items_in here.value)) >>= λ xs. Ok (z ∷ xs))) r in
    let more = more_front front x (items_from reader here.place (suc n) (items_after (suc n) (items_in here.value))) in
    let count : suc n ≡ n + 1 = omega arith in
    first ∙ read ∙ more ∙ ap
    (λ (m : ℕ). with_front (front ++ x ∷ []) (items_from reader here.place m (items_after m (items_in here.value)))) count

-- a fault of JSON in the place of another list
pub stands : (A : Type 0) (fault due : JsonFault) → StandsFor fault due → Says {A = A} (Err fault) (Err due)
stands A Memory due s = tt
stands A NotJson due s = ap (λ x. Err x) (sym s)
stands A (WrongKind p) due s = ap (λ x. Err x) (sym s)
stands A (MissingField p) due s = ap (λ x. Err x) (sym s)
stands A (UnknownField p) due s = ap (λ x. Err x) (sym s)
stands A (OutOfRange p) due s = ap (λ x. Err x) (sym s)

no_list_by : {A : Type 0} (reader : Reader A) (place : List ℕ) (value : Data) (fault : JsonFault)
    → IsErrAnd (items_of (record { value = value; place = place })) (StandsFor fault)
    → Says (Err fault) (list_of reader (record { value = value; place = place }))
unfolding list_of items_of
no_list_by {A = A} reader place null fault s = stands (List A) fault (WrongKind place) s
no_list_by {A = A} reader place (boolean b) fault s = stands (List A) fault (WrongKind place) s
no_list_by {A = A} reader place (number n) fault s = stands (List A) fault (WrongKind place) s
no_list_by {A = A} reader place (string t) fault s = stands (List A) fault (WrongKind place) s
no_list_by {A = A} reader place (object ms) fault s = stands (List A) fault (WrongKind place) s
no_list_by {A = A} reader place (array items) fault s = absurd s

-- it is no list
pub no_list : {A : Type 0} (reader : Reader A) (here : Located) (fault : JsonFault) → IsErrAnd (items_of here) (StandsFor fault)
    → Says (Err fault) (list_of reader here)
no_list reader here fault s = no_list_by reader here.place here.value fault s

says_err : {A B : Type 0} (fault : JsonFault) (said : Result A JsonFault) (front : List B) (next : A → Result (List B) JsonFault)
    → Says (Err fault) said → Says (Err fault) (with_front front (said >>= next))
says_err Memory said front next s = tt
says_err {A = A} NotJson said front next s = ap (λ (r : Result A JsonFault). with_front front (r >>= next)) s
says_err {A = A} (WrongKind p) said front next s = ap (λ (r : Result A JsonFault). with_front front (r >>= next)) s
says_err {A = A} (MissingField p) said front next s = ap (λ (r : Result A JsonFault). with_front front (r >>= next)) s
says_err {A = A} (UnknownField p) said front next s = ap (λ (r : Result A JsonFault). with_front front (r >>= next)) s
says_err {A = A} (OutOfRange p) said front next s = ap (λ (r : Result A JsonFault). with_front front (r >>= next)) s

-- an item has a fault
pub stops : {A : Type 0} (reader : Reader A) (here there : Located) (n : ℕ) (front : List A) (fault : JsonFault)
    → Goes reader here n front → item_of n here ≡ Some there → Says (Err fault) (reader there) → Says (Err fault) (list_of reader here)
stops {A = A} reader here there n front fault goes e s =
    subst (λ (r : Result (List A) JsonFault). Says (Err fault) r) (sym (next_is reader here there n front goes e))
    (says_err fault (reader there) front (λ x. items_from reader here.place (suc n) (items_after (suc n) (items_in here.value)) >>=
    λ xs. Ok (x ∷ xs)) s)

-- all items are read
pub is_read : {A : Type 0} (reader : Reader A) (here : Located) (count : ℕ) (front : List A) → Goes reader here count front
    → count ≡ item_count here.value → list_of reader here ≡ Ok front
is_read reader here count front goes e =
    goes
    ∙ ap (λ (m : ℕ). with_front front (items_from reader here.place count (items_after m (items_in here.value)))) e
    ∙ ap (λ (items : Items). with_front front (items_from reader here.place count items)) (all_in here.value)
    ∙ ap (λ xs. Ok xs) (append-nil front)
