-- What holds of a list that was read: a fact that each entry keeps, the list's length, and each entry by its number.
use Rattle.std.proofs.Common.{◌≡◌, ℕ, zero, suc, ◌+◌, ◌<◌, List, [], ◌∷◌, ◌++◌, length, length-append, Result, Ok, Err, Option}
use Rattle.std.proofs.Common.{Some, None, slice_get, refl, sym, ap, ◌∙◌, subst, arith}
use Rattle.std.specs.Prelude.{option_map}
use Rattle.list_views.proofs.Items.{get_last}
use Rattle.serde_json.specs.Data.{Data, null, boolean, number, string, array, object, Items, no_items, item}
use Rattle.serde_json.specs.Events.{items_len}
use Rattle.serde_json.specs.Find.{get_item, at}
use Rattle.json_view.specs.Located.{Located}
use Rattle.json_view.specs.Reading.{item_of, item_count, at_item}
use Rattle.list_views.proofs.Steps.{bind_ok}
use Rattle.cert_form.specs.Answers.{Reader}
use Rattle.cert_form.specs.Fields.{entries_from, entries_of}

-- ---- what each entry keeps

keep_from : {A : Type 0} (Keeps : List A → Type 0) (reader : List A → Reader A) (place : List ℕ) (n : ℕ) (items : Items)
    (front xs : List A) → ((f : List A) (there : Located) (x : A) → Keeps f → reader f there ≡ Ok x → Keeps (f ++ x ∷ []))
    → Keeps front → entries_from reader front place n items ≡ Ok xs → Keeps xs
keep_from Keeps reader place n no_items front xs step k e = let same : front ≡ xs = cc in subst Keeps same k
keep_from Keeps reader place n (item value rest) front xs step k e =
    let b = bind_ok (reader front (at_item place n value)) (λ x. entries_from reader (front ++ x ∷ []) place (suc n) rest) xs e in
    keep_from Keeps reader place (suc n) rest (front ++ b.0 ∷ []) xs step (step front (at_item place n value) b.0 k b.1) b.2

-- what holds of no entries, and stays with each one that is read, holds of all
pub entries_keep : {A : Type 0} (Keeps : List A → Type 0) (reader : List A → Reader A) (here : Located) (xs : List A) → Keeps []
    → ((f : List A) (there : Located) (x : A) → Keeps f → reader f there ≡ Ok x → Keeps (f ++ x ∷ []))
    → entries_of reader here ≡ Ok xs → Keeps xs
unfolding entries_of
entries_keep {A = A} Keeps reader here xs none step e = go here.value refl
  where
    go : (value : Data) → here.value ≡ value → Keeps xs
    go null t = let no : ⊥ = cc in absurd no
    go (boolean b) t = let no : ⊥ = cc in absurd no
    go (number n) t = let no : ⊥ = cc in absurd no
    go (string s) t = let no : ⊥ = cc in absurd no
    go (object ms) t = let no : ⊥ = cc in absurd no
    go (array items) t = keep_from Keeps reader here.place 0 items [] xs step none
        (subst (λ (v : Data). entries_of reader (record { value = v; place = here.place }) ≡ Ok xs) t e)

-- ---- entries by number

front_stays : {A : Type 0} (front : List A) (x : A) (k : ℕ) (y : A) → slice_get front k ≡ Some y → slice_get (front ++ x ∷ []) k ≡ Some y
front_stays [] x k y e = let no : ⊥ = cc in absurd no
front_stays (z ∷ front) x zero y e = e
front_stays (z ∷ front) x (suc k) y e = front_stays front x k y e

stays_from : {A : Type 0} (reader : List A → Reader A) (place : List ℕ) (n : ℕ) (items : Items) (front xs : List A) (k : ℕ) (y : A)
    → entries_from reader front place n items ≡ Ok xs → slice_get front k ≡ Some y → slice_get xs k ≡ Some y
stays_from reader place n no_items front xs k y e g = let same : front ≡ xs = cc in subst (λ (ys : List _). slice_get ys k ≡ Some y) same g
stays_from reader place n (item value rest) front xs k y e g =
    let b = bind_ok (reader front (at_item place n value)) (λ x. entries_from reader (front ++ x ∷ []) place (suc n) rest) xs e in
    stays_from reader place (suc n) rest (front ++ b.0 ∷ []) xs k y b.2 (front_stays front b.0 k y g)

-- an entry that was read, with those that stood in front of it
pub record IsRead {A : Type 0} (reader : List A → Reader A) (there : Located) (xs : List A) (n : ℕ) : Type 0 where
  pub front : List A
  pub entry : A
  pub read : reader front there ≡ Ok entry
  pub stands : slice_get xs n ≡ Some entry

one_longer : {A : Type 0} (front : List A) (x : A) (n : ℕ) → length front ≡ n → length (front ++ x ∷ []) ≡ suc n
one_longer front x n l = let more : length (front ++ x ∷ []) ≡ length front + 1 = length-append front (x ∷ []) in omega arith

left_zero : (n : ℕ) → n ≡ 0 + n
left_zero n = omega arith

read_from : {A : Type 0} (reader : List A → Reader A) (place : List ℕ) (n : ℕ) (items : Items) (front xs : List A) (k : ℕ)
    (value : Data) → length front ≡ n → entries_from reader front place n items ≡ Ok xs → get_item k items ≡ Some value
    → IsRead reader (at_item place (n + k) value) xs (n + k)
read_from reader place n no_items front xs k value l e g = let no : ⊥ = cc in absurd no
read_from reader place n (item other rest) front xs zero value l e g =
    let b = bind_ok (reader front (at_item place n other)) (λ x. entries_from reader (front ++ x ∷ []) place (suc n) rest) xs e in
    let same : other ≡ value = cc in
    let at_front : slice_get (front ++ b.0 ∷ []) n ≡ Some b.0 = subst (λ (m : ℕ). slice_get (front ++ b.0 ∷ []) m ≡ Some b.0) l
    (get_last front b.0) in
    let here : n ≡ n + zero = omega arith in
    let first : IsRead reader (at_item place n value) xs n = record {
      front = front;
      entry = b.0;
      read = subst (λ (v : Data). reader front (at_item place n v) ≡ Ok b.0) same b.1;
      stands =
          stays_from reader place (suc n) rest (front ++ b.0 ∷ []) xs n b.0 b.2 at_front;
    } in
    subst (λ (m : ℕ). IsRead reader (at_item place m value) xs m) here first
read_from reader place n (item other rest) front xs (suc k) value l e g =
    let b = bind_ok (reader front (at_item place n other)) (λ x. entries_from reader (front ++ x ∷ []) place (suc n) rest) xs e in
    let longer : length (front ++ b.0 ∷ []) ≡ suc n = one_longer front b.0 n l in
    let next : suc n + k ≡ n + suc k = omega arith in
    subst (λ (m : ℕ). IsRead reader (at_item place m value) xs m) next
    (read_from reader place (suc n) rest (front ++ b.0 ∷ []) xs k value longer b.2 g)

-- ---- how many entries there are

count_from : {A : Type 0} (reader : List A → Reader A) (place : List ℕ) (n : ℕ) (items : Items) (front xs : List A)
    → entries_from reader front place n items ≡ Ok xs → length xs ≡ length front + items_len items
count_from reader place n no_items front xs e = let same : front ≡ xs = cc in rw same (omega arith)
count_from reader place n (item value rest) front xs e =
    let b = bind_ok (reader front (at_item place n value)) (λ x. entries_from reader (front ++ x ∷ []) place (suc n) rest) xs e in
    let longer : length (front ++ b.0 ∷ []) ≡ suc (length front) = one_longer front b.0 (length front) refl in
    let all : length xs ≡ length (front ++ b.0 ∷ []) + items_len rest = count_from reader place (suc n) rest (front ++ b.0 ∷ []) xs b.2 in
    omega arith

-- there are as many entries as the list has items
pub entries_count : {A : Type 0} (reader : List A → Reader A) (here : Located) (xs : List A) → entries_of reader here ≡ Ok xs
    → length xs ≡ item_count here.value
unfolding entries_of
entries_count {A = A} reader here xs e = go here.value refl
  where
    go : (value : Data) → here.value ≡ value → length xs ≡ item_count here.value
    go null t = let no : ⊥ = cc in absurd no
    go (boolean b) t = let no : ⊥ = cc in absurd no
    go (number n) t = let no : ⊥ = cc in absurd no
    go (string s) t = let no : ⊥ = cc in absurd no
    go (object ms) t = let no : ⊥ = cc in absurd no
    go (array items) t = rw t
        (count_from reader here.place 0 items [] xs
        (subst (λ (v : Data). entries_of reader (record { value = v; place = here.place }) ≡ Ok xs) t e)
        ∙ sym (left_zero (items_len items)))

found_in : {A : Type 0} (reader : List A → Reader A) (here there : Located) (xs : List A) (n : ℕ) (found : Option Data)
    → at n here.value ≡ found → option_map (at_item here.place n) found ≡ Some there → entries_of reader here ≡ Ok xs
    → IsRead reader there xs n
unfolding entries_of
found_in {A = A} reader here there xs n None f o e = let no : ⊥ = cc in absurd no
found_in {A = A} reader here there xs n (Some value) f o e = go here.value refl
  where
    same : at_item here.place n value ≡ there
    same = cc

    go : (data' : Data) → here.value ≡ data' → IsRead reader there xs n
    go null t = let no : ⊥ = cc in absurd no
    go (boolean b) t = let no : ⊥ = cc in absurd no
    go (number m) t = let no : ⊥ = cc in absurd no
    go (string s) t = let no : ⊥ = cc in absurd no
    go (object ms) t = let no : ⊥ = cc in absurd no
    go (array items) t = subst (λ (x : Located). IsRead reader x xs n) same
        (subst (λ (m : ℕ). IsRead reader (at_item here.place m value) xs m) (sym (left_zero n))
        (read_from reader here.place 0 items [] xs n value refl
        (subst (λ (v : Data). entries_of reader (record { value = v; place = here.place }) ≡ Ok xs) t e)
        (subst (λ (v : Data). at n v ≡ Some value) t f)))

-- the entry of a number, with those that stood in front of it
pub entry_read : {A : Type 0} (reader : List A → Reader A) (here there : Located) (xs : List A) (n : ℕ)
    → entries_of reader here ≡ Ok xs → item_of n here ≡ Some there → IsRead reader there xs n
unfolding item_of
entry_read reader here there xs n e o = found_in reader here there xs n (at n here.value) refl o e
