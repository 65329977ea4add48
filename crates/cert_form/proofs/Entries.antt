-- Lists of entries, read one after another.
use Rattle.std.proofs.Common.{◌≡◌, ℕ, zero, suc, ◌+◌, List, [], ◌∷◌, ◌++◌, Result, Ok, Err, Some, refl, sym, ap, ◌∙◌, subst, arith}
use Rattle.serde_json.specs.Data.{Data, null, boolean, number, string, array, object, Items}
use Rattle.serde_json.specs.Events.{items_len}
use Rattle.serde_json.specs.Find.{at}
use Rattle.json_view.specs.Answers.{same}
use Rattle.json_view.specs.Located.{Located}
use Rattle.json_view.specs.Reading.{item_of, item_count, items_of}
use Rattle.json_view.specs.declared.fault.JsonFault.{JsonFault}
use Rattle.json_view.specs.declared.fault.JsonFault.TheVariants.{WrongKind}
use Rattle.json_view.proofs.Behind.{items_after, items_in, nth_after, item_found, all_in}
use Rattle.cert_form.specs.declared.fault.CertFault.{CertFault}
use Rattle.cert_form.specs.declared.fault.CertFault.TheVariants.{Json, Limit, Memory}
use Rattle.cert_form.specs.Answers.{Reader, Says, Tells, json}
use Rattle.cert_form.specs.Fields.{◌>>=◌, entries_from, entries_of}

-- the list that is said, where `front` was read and the entries from n on are still to be read
abbrev pub Goes : {A : Type 0} → (List A → Reader A) → Located → ℕ → List A → Type 0
Goes reader here n front = entries_of reader here ≡ entries_from reader front here.place n (items_after n (items_in here.value))

-- ---- the steps of a loop over the entries

starts_by : {A : Type 0} (reader : List A → Reader A) (place : List ℕ) (value : Data) (count : ℕ)
    → items_of (record { value = value; place = place }) ≡ Ok count → Goes reader (record { value = value; place = place }) 0 []
unfolding entries_of items_of
starts_by reader place null count e = let no : ⊥ = cc in absurd no
starts_by reader place (boolean b) count e = let no : ⊥ = cc in absurd no
starts_by reader place (number n) count e = let no : ⊥ = cc in absurd no
starts_by reader place (string s) count e = let no : ⊥ = cc in absurd no
starts_by reader place (object ms) count e = let no : ⊥ = cc in absurd no
starts_by reader place (array items) count e = refl

-- nothing is read yet
pub starts : {A : Type 0} (reader : List A → Reader A) (here : Located) (count : ℕ) → items_of here ≡ Ok count → Goes reader here 0 []
starts reader here count e = starts_by reader here.place here.value count e

-- the next entry is read, and then the others
next_is : {A : Type 0} (reader : List A → Reader A) (here there : Located) (n : ℕ) (front : List A) → Goes reader here n front
    → item_of n here ≡ Some there
    → entries_of reader here ≡ (reader front there >>= λ x. entries_from reader (front ++ x ∷ []) here.place (suc n)
    (items_after (suc n) (items_in here.value)))
unfolding item_of
next_is reader here there n front goes e =
    let f = item_found here.place n (at n here.value) there e in
    goes
    ∙ ap (λ (items : Items). entries_from reader front here.place n items) (nth_after n here.value f.0 f.1.0)
    ∙ ap (λ (x : Located). reader front x >>= λ y. entries_from reader (front ++ y ∷ []) here.place (suc n)
    (items_after (suc n) (items_in here.value))) f.1.1

-- one more entry was read
pub goes_on : {A : Type 0} (reader : List A → Reader A) (here there : Located) (n : ℕ) (front told : List A) (x : A)
    → Goes reader here n front → item_of n here ≡ Some there → told ≡ front → reader told there ≡ Ok x
    → Goes reader here (n + 1) (front ++ x ∷ [])
goes_on {A = A} reader here there n front told x goes e t read =
    let r : reader front there ≡ Ok x = subst (λ (f : List A). reader f there ≡ Ok x) t read in
    let count : suc n ≡ n + 1 = omega arith in
    next_is reader here there n front goes e
    ∙ ap (λ (y : Result A CertFault). y >>= λ z. entries_from reader (front ++ z ∷ []) here.place (suc n)
    (items_after (suc n) (items_in here.value))) r
    ∙ ap (λ (m : ℕ). entries_from reader (front ++ x ∷ []) here.place m (items_after m (items_in here.value))) count

says_err : {A B : Type 0} (fault : CertFault) (said : Result A CertFault) (next : A → Result B CertFault) → Says (Err fault) said
    → Says (Err fault) (said >>= next)
says_err Memory said next s = tt
says_err {A = A} (Json f) said next s = ap (λ (r : Result A CertFault). r >>= next) s
says_err {A = A} (Limit p) said next s = ap (λ (r : Result A CertFault). r >>= next) s

-- an entry has a fault
pub stops : {A : Type 0} (reader : List A → Reader A) (here there : Located) (n : ℕ) (front told : List A) (fault : CertFault)
    → Goes reader here n front → item_of n here ≡ Some there → told ≡ front → Says (Err fault) (reader told there)
    → Says (Err fault) (entries_of reader here)
stops {A = A} reader here there n front told fault goes e t said =
    let s : Says (Err fault) (reader front there) = subst (λ (f : List A). Says (Err fault) (reader f there)) t said in
    subst (λ (r : Result (List A) CertFault). Says (Err fault) r) (sym (next_is reader here there n front goes e))
    (says_err fault (reader front there)
    (λ x. entries_from reader (front ++ x ∷ []) here.place (suc n) (items_after (suc n) (items_in here.value))) s)

-- the fault of one answer in another one
other_fault : (A B : Type 0) (fault due : CertFault) → Tells {T = A} (λ x. x) (Err fault) (Err due) → Says {A = B} (Err fault) (Err due)
other_fault A B Memory due t = tt
other_fault A B (Json f) due t = let e : due ≡ Json f = cc in ap (λ x. Err x) e
other_fault A B (Limit p) due t = let e : due ≡ Limit p = cc in ap (λ x. Err x) e

no_fault : {A B : Type 0} (fault : CertFault) (n : A) (said : Result B CertFault) → Tells {T = A} (λ x. x) (Err fault) (Ok n)
    → Says (Err fault) said
no_fault Memory n said t = tt
no_fault (Json f) n said t = let no : ⊥ = cc in absurd no
no_fault (Limit p) n said t = let no : ⊥ = cc in absurd no

no_list_by : {A : Type 0} (reader : List A → Reader A) (place : List ℕ) (value : Data) (fault : CertFault)
    → Tells {T = ℕ} same (Err fault) (json (items_of (record { value = value; place = place })))
    → Says (Err fault) (entries_of reader (record { value = value; place = place }))
unfolding entries_of items_of
no_list_by {A = A} reader place null fault t = other_fault ℕ (List A) fault (Json (WrongKind place)) t
no_list_by {A = A} reader place (boolean b) fault t = other_fault ℕ (List A) fault (Json (WrongKind place)) t
no_list_by {A = A} reader place (number n) fault t = other_fault ℕ (List A) fault (Json (WrongKind place)) t
no_list_by {A = A} reader place (string s) fault t = other_fault ℕ (List A) fault (Json (WrongKind place)) t
no_list_by {A = A} reader place (object ms) fault t = other_fault ℕ (List A) fault (Json (WrongKind place)) t
no_list_by reader place (array items) fault t = no_fault fault (items_len items) _ t

-- it is no list
pub no_list : {A : Type 0} (reader : List A → Reader A) (here : Located) (fault : CertFault)
    → Tells {T = ℕ} same (Err fault) (json (items_of here)) → Says (Err fault) (entries_of reader here)
no_list reader here fault t = no_list_by reader here.place here.value fault t

-- all entries are read
pub is_read : {A : Type 0} (reader : List A → Reader A) (here : Located) (count : ℕ) (front : List A) → Goes reader here count front
    → count ≡ item_count here.value → entries_of reader here ≡ Ok front
is_read reader here count front goes e =
    goes
    ∙ ap (λ (m : ℕ). entries_from reader front here.place count (items_after m (items_in here.value))) e
    ∙ ap (λ (items : Items). entries_from reader front here.place count items) (all_in here.value)

-- it is a list of so many
pub count_is : (said : Result ℕ JsonFault) (n : ℕ) → json said ≡ Ok n → said ≡ Ok n
count_is (Ok m) n e = let same : m ≡ n = cc in ap (λ x. Ok x) same
count_is (Err fault) n e = let no : ⊥ = cc in absurd no
