-- What is written is read again: numbers, words and lists.
use Rattle.std.proofs.Common.{◌≡◌, ℕ, suc, ℤ, pos, negsuc, ◌+◌, ◌-◌, ◌<◌, ◌≤◌, ◌≤ℤ◌, ◌&&◌, nat_lt, nat_le, nat_abs, Bool, true}
use Rattle.std.proofs.Common.{false, cond, List, [], ◌∷◌, ◌++◌, map, length, Result, Ok, Err, Option, Some, None, slice_get, All}
use Rattle.std.proofs.Common.{append-nil, append_assoc, length-append, refl, sym, ap, ◌∙◌, subst, arith}
use Rattle.std.specs.Prelude.{int_le, unsigned_abs}
use Rattle.std.specs.Option.{option_map_or}
use Rattle.std.proofs.lemmas.Bool.Decides.{nat_tests}
use Rattle.std.proofs.lemmas.Int.{ints}
use Rattle.std.proofs.lemmas.List.Elements.{All-head, All-tail}
use Rattle.std.proofs.lemmas.Bool.{cond-true, cond-false, and_from}
use Rattle.list_views.proofs.Orders.{nat_lt_from, nat_lt_not, int_le_from}
use Rattle.list_views.proofs.Items.{get_last}
use Rattle.serde_json.specs.Data.{Data}
use Rattle.serde_json.specs.Events.{items_len}
use Rattle.serde_json.specs.View.{items_of}
use Rattle.json_view.specs.Located.{Located}
use Rattle.json_view.specs.Place.{item_pointer}
use Rattle.json_view.specs.Reading.{int_of, items_of as count_of}
use Rattle.json_view.specs.declared.fault.JsonFault.{JsonFault}
use Rattle.json_view.specs.declared.fault.JsonFault.TheVariants.{OutOfRange}
use Rattle.cert_form.specs.declared.fault.CertFault.{CertFault}
use Rattle.cert_form.specs.Answers.{Reader, json, out_of_range, past_limit}
use Rattle.cert_form.specs.Fields.{◌>>=◌, entries_from, entries_of, at_most, in_order, number_to, a_number, a_place, id_within}
use Rattle.cert_form.specs.Fields.{an_id, an_int, unless_negative, maybe_to, maybe_number, maybe_within, maybe_id, long_to}
use Rattle.cert_form.specs.Fields.{a_multiple, a_constant, last_of}
use Rattle.cert_form.specs.Steps.{a_weight}
use Rattle.cert_form.specs.cert_write.Data.{natural, integer, maybe, list}
use Rattle.cert_form.specs.cert_write.Readable.{IsNumber, IsId, IsMaybe, RisesBy}

-- a reader reads this of a value, wherever it stands
abbrev pub Back : {A : Type 0} → Reader A → Data → A → Type 0
Back reader value x = (place : List ℕ) → reader (record { value = value; place = place }) ≡ Ok x

-- one reader behind another
pub then_back : {A B : Type 0} (said : Result A CertFault) (next : A → Result B CertFault) (x : A) (y : Result B CertFault)
    → said ≡ Ok x → next x ≡ y → (said >>= next) ≡ y
then_back {A = A} said next x y e f = ap (λ (r : Result A CertFault). r >>= next) e ∙ f

pub order_back : (stands : Bool) (here : Located) → stands ≡ true → in_order stands here ≡ Ok tt
order_back stands here e = cond-true stands (Ok tt) (out_of_range here) e

-- ---- tests

pub within_most : (n m : ℕ) → n ≤ m → nat_le n m ≡ true
within_most n m l = grind (arith, nat_tests)

-- ---- numbers

pub int_back : (low high n : ℤ) → low ≤ℤ n → n ≤ℤ high → Back (λ here. json (int_of low high here)) (integer n) n
unfolding int_of
int_back low high (pos n) l h place = ap (λ (r : Result ℤ JsonFault). json r)
    (cond-true _ (Ok (pos n)) (Err (OutOfRange place)) (and_from _ _ (int_le_from low (pos n) l) (int_le_from (pos n) high h)))
int_back low high (negsuc n) l h place = ap (λ (r : Result ℤ JsonFault). json r)
    (cond-true _ (Ok (negsuc n)) (Err (OutOfRange place)) (and_from _ _ (int_le_from low (negsuc n) l) (int_le_from (negsuc n) high h)))

pub number_back : (most n : ℕ) → n ≤ most → Back (number_to most) (natural n) n
unfolding number_to
number_back most n l place = then_back _ (λ (n : ℤ). Ok (nat_abs n)) (pos n) (Ok n)
    (int_back (pos 0) (pos most) (pos n) (omega (arith, ints)) (omega (arith, ints)) place) refl

pub a_number_back : (n : ℕ) → IsNumber n → Back a_number (natural n) n
unfolding a_number
a_number_back n l place = number_back 4294967295 n l place

pub a_place_back : (n : ℕ) → n ≤ 65535 → Back a_place (natural n) n
unfolding a_place
a_place_back n l place = number_back 65535 n l place

pub id_back : (n : ℕ) → IsId n → Back an_id (natural n) n
unfolding an_id
id_back n l place = then_back _ (id_within (record { value = natural n; place = place })) n (Ok n)
    (number_back 65535 n (omega arith) place)
    (cond-true _ (Ok n) (past_limit (record { value = natural n; place = place })) (nat_lt_from n 2048 l))

pub an_int_back : (n : ℤ) → negsuc 2147483647 ≤ℤ n → n ≤ℤ pos 2147483647 → Back an_int (integer n) n
unfolding an_int
an_int_back n l h place = int_back (negsuc 2147483647) (pos 2147483647) n l h place

maybe_to_back : (most : ℕ) (n : Option ℕ) → IsMaybe (λ n. n ≤ most) n → Back (maybe_to most) (maybe n) n
unfolding maybe_to
maybe_to_back most (Some n) l place = then_back _ (λ (n : ℤ). Ok (unless_negative n)) (pos n) (Ok (Some n))
    (int_back (negsuc 0) (pos most) (pos n) (omega (arith, ints)) (omega (arith, ints)) place) refl
maybe_to_back most None l place = then_back _ (λ (n : ℤ). Ok (unless_negative n)) (negsuc 0) (Ok None)
    (int_back (negsuc 0) (pos most) (negsuc 0) (omega (arith, ints)) (omega (arith, ints)) place) refl

pub maybe_number_back : (n : Option ℕ) → IsMaybe IsNumber n → Back maybe_number (maybe n) n
unfolding maybe_number
maybe_number_back n l place = maybe_to_back 4294967295 n l place

pub maybe_id_back : (n : Option ℕ) → IsMaybe IsId n → Back maybe_id (maybe n) n
unfolding maybe_id
maybe_id_back (Some n) l place =
    then_back _ (maybe_within (record { value = natural n; place = place })) (Some n) (Ok (Some n))
    (maybe_to_back 65535 (Some n) (omega arith) place)
    (cond-true _ (Ok (Some n)) (past_limit (record { value = natural n; place = place })) (nat_lt_from n 2048 l))
maybe_id_back None l place = then_back _ (maybe_within (record { value = maybe None; place = place })) None (Ok None)
    (maybe_to_back 65535 None tt place) refl

not_too_low : (n : ℤ) (most : ℕ) → unsigned_abs n ≤ most → most ≤ 9223372036854775807 → negsuc 9223372036854775807 ≤ℤ n
not_too_low (pos n) most l h = let k : n ≤ most = l in omega (arith, ints)
not_too_low (negsuc n) most l h = let k : suc n ≤ most = l in omega (arith, ints)

not_too_high : (n : ℤ) (most : ℕ) → unsigned_abs n ≤ most → most ≤ 9223372036854775807 → n ≤ℤ pos 9223372036854775807
not_too_high (pos n) most l h = let k : n ≤ most = l in omega (arith, ints)
not_too_high (negsuc n) most l h = let k : suc n ≤ most = l in omega (arith, ints)

long_back : (most : ℕ) (n : ℤ) → most ≤ 9223372036854775807 → unsigned_abs n ≤ most → Back (long_to most) (integer n) n
unfolding long_to
long_back most n m l place =
    then_back _ (λ (k : ℤ). cond (nat_le (unsigned_abs k) most) (Ok k) (past_limit (record { value = integer n; place = place }))) n (Ok n)
    (int_back (negsuc 9223372036854775807) (pos 9223372036854775807) n (not_too_low n most l m) (not_too_high n most l m) place)
    (cond-true _ (Ok n) (past_limit (record { value = integer n; place = place })) (within_most (unsigned_abs n) most l))

pub multiple_back : (n : ℤ) → unsigned_abs n ≤ 2147483648 → Back a_multiple (integer n) n
unfolding a_multiple
multiple_back n l place = long_back 2147483648 n (omega arith) l place

pub constant_back : (n : ℤ) → unsigned_abs n ≤ 1099511627776 → Back a_constant (integer n) n
unfolding a_constant
constant_back n l place = long_back 1099511627776 n (omega arith) l place

pub weight_back : (n : ℤ) → pos 0 ≤ℤ n → n ≤ℤ pos 65535 → Back a_weight (integer n) n
unfolding a_weight
weight_back n l h place =
    then_back _ (λ (k : ℤ). cond (int_le (pos 0) k && int_le k (pos 65535)) (Ok k)
    (past_limit (record { value = integer n; place = place }))) n (Ok n)
    (int_back (negsuc 9223372036854775807) (pos 9223372036854775807) n (omega (arith, ints)) (omega (arith, ints)) place)
    (cond-true _ (Ok n) (past_limit (record { value = integer n; place = place }))
    (and_from _ _ (int_le_from (pos 0) n l) (int_le_from n (pos 65535) h)))

-- ---- lists and their lengths

pub mapped_as_many : {A : Type 0} (write : A → Data) (xs : List A) → items_len (items_of (map write xs)) ≡ length xs
mapped_as_many write [] = refl
mapped_as_many write (x ∷ xs) = ap (λ (n : ℕ). suc n) (mapped_as_many write xs)

-- a reader of a list of at most so many entries
pub most_back : {A B : Type 0} (most : ℕ) (reader : Reader B) (write : A → Data) (xs : List A) (y : B) → length xs ≤ most
    → Back reader (list (map write xs)) y → Back (at_most most reader) (list (map write xs)) y
unfolding at_most count_of
most_back most reader write xs y l back place =
    cond-false _ (past_limit (record { value = list (map write xs); place = place }))
    (reader (record { value = list (map write xs); place = place }))
    (nat_lt_not most (items_len (items_of (map write xs))) (subst (λ (n : ℕ). n ≤ most) (sym (mapped_as_many write xs)) l))
    ∙ back place

-- ---- entries one after another

abbrev pub EachBack : {A : Type 0} → (List A → Reader A) → (A → Data) → List A → List A → Type 0
EachBack reader write front [] = Unit {0}
EachBack reader write front (x ∷ xs) = Back (reader front) (write x) x × EachBack reader write (front ++ x ∷ []) xs

from_back : {A : Type 0} (reader : List A → Reader A) (write : A → Data) (front xs : List A) (place : List ℕ) (n : ℕ)
    → EachBack reader write front xs → entries_from reader front place n (items_of (map write xs)) ≡ Ok (front ++ xs)
from_back {A = A} reader write front [] place n e = ap (λ (ys : List A). Ok ys) (sym (append-nil front))
from_back {A = A} reader write front (x ∷ xs) place n e =
    ap (λ (r : Result A CertFault). r >>= λ y. entries_from reader (front ++ y ∷ []) place (suc n) (items_of (map write xs)))
    (e.0 (item_pointer place n))
    ∙ from_back reader write (front ++ x ∷ []) xs place (suc n) e.1
    ∙ ap (λ (ys : List A). Ok ys) (append_assoc front (x ∷ []) xs)

pub list_back : {A : Type 0} (reader : List A → Reader A) (write : A → Data) (xs : List A) → EachBack reader write [] xs
    → Back (entries_of reader) (list (map write xs)) xs
unfolding entries_of
list_back reader write xs e place = from_back reader write [] xs place 0 e

-- entries in no order
each_back : {A : Type 0} (P : A → Type 0) (reader : Reader A) (write : A → Data) (front xs : List A)
    → ((x : A) → P x → Back reader (write x) x) → All P xs → EachBack (λ _. reader) write front xs
each_back P reader write front [] back all = tt
each_back P reader write front (x ∷ xs) back all = (
  back x (All-head P x xs all),
  each_back P reader write (front ++ x ∷ []) xs back
      (All-tail P x xs all),
)

pub all_back : {A : Type 0} (P : A → Type 0) (reader : Reader A) (write : A → Data) (xs : List A)
    → ((x : A) → P x → Back reader (write x) x) → All P xs → Back (entries_of (λ _. reader)) (list (map write xs)) xs
all_back P reader write xs back all = list_back (λ _. reader) write xs (each_back P reader write [] xs back all)

-- ---- entries whose keys rise

one_less : {A : Type 0} (front : List A) (x : A) → length (front ++ x ∷ []) - 1 ≡ length front
one_less front x = omega (arith, length-append front (x ∷ []))

pub last_pushed : {A : Type 0} (front : List A) (x : A) → last_of (front ++ x ∷ []) ≡ Some x
last_pushed front x = ap (λ (n : ℕ). slice_get (front ++ x ∷ []) n) (one_less front x) ∙ get_last front x

-- the least key that may come next
abbrev pub next_by : {A : Type 0} → (A → ℕ) → List A → ℕ
next_by key front = option_map_or (λ x. key x + 1) (last_of front) 0

next_pushed : {A : Type 0} (key : A → ℕ) (front : List A) (x : A) → next_by key (front ++ x ∷ []) ≤ suc (key x)
next_pushed {A = A} key front x = subst (λ (n : ℕ). n ≤ suc (key x))
    (sym (ap (λ (last : Option A). option_map_or (λ x. key x + 1) last 0) (last_pushed front x))) (omega arith)

rise_from : {A : Type 0} (key : A → ℕ) (P : A → Type 0) (reader : List A → Reader A) (write : A → Data) (low end : ℕ)
    (front xs : List A) → ((front : List A) (x : A) → next_by key front ≤ key x → key x < end → P x
    → Back (reader front) (write x) x) → next_by key front ≤ low → RisesBy key low end xs → All P xs → EachBack reader write front xs
rise_from key P reader write low end front [] back next rise all = tt
rise_from key P reader write low end front (x ∷ xs) back next rise all =
    let lowest : low ≤ key x = rise.0 in
    let above : next_by key front ≤ key x = omega arith in (
      back front x above rise.1.0 (All-head P x xs all),
      rise_from key P reader write (suc (key x)) end (front ++ x ∷ []) xs back
          (next_pushed key front x) rise.1.1 (All-tail P x xs all),
    )

pub rise_back : {A : Type 0} (key : A → ℕ) (P : A → Type 0) (reader : List A → Reader A) (write : A → Data) (end : ℕ) (xs : List A)
    → ((front : List A) (x : A) → next_by key front ≤ key x → key x < end → P x → Back (reader front) (write x) x)
    → RisesBy key 0 end xs → All P xs → Back (entries_of reader) (list (map write xs)) xs
rise_back key P reader write end xs back rise all = list_back reader write xs
    (rise_from key P reader write 0 end [] xs back (omega arith) rise all)
