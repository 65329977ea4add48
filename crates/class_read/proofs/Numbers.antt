-- The texts of a pool by numbers, and members by pairs of numbers.
use Rattle.std.proofs.Common.{◌≡◌, ◌<◌, ◌+◌, ℕ, zero, suc, Bool, true, false, cond, not, ◌&&◌, ◌||◌, List, [], ◌∷◌, map, length}
use Rattle.std.proofs.Common.{get_or, Option, Some, None, IsSome, Bor, refl, sym, ap, subst, ◌∙◌, arith, inl, inr, ◌⊎◌}
use Rattle.std.specs.Prelude.{option_and_then, unwrap_or}
use Rattle.std.specs.List.{list_any, position_or_len}
use Rattle.std.specs.Map.{lookup}
use Rattle.std.specs.Str.{bytes_eq}
use Rattle.std.specs.declared.cmp.Ordering.{Ordering}
use Rattle.std.specs.declared.cmp.Ordering.TheVariants.{Less, Equal, Greater}
use Rattle.std.specs.Ordering.{is_eq, ordering_then, match_ordering, nat_cmp}
use Rattle.std.specs.Cmp.Lexicographic.{slice_cmp}
use Rattle.std.specs.BTreeMap.{BTreeMap, insert_entry}
use Rattle.std.specs.BTreeSet.{insert_key}
use Rattle.std.proofs.lemmas.Map.Text.{is_eq-slice_cmp}
use Rattle.std.proofs.lemmas.Map.Lookups.{exact_unsigned}
use Rattle.std.proofs.lemmas.Slice.Eq.{bytes_eq-Decides}
use Rattle.std.proofs.lemmas.Bool.{cases_lt, false_from_ne_true, and_parts}
use Rattle.std.specs.Cmp.{nat_cmp_is}
use Rattle.std.proofs.lemmas.List.Sums.{position_or_len_is, passes_at_first}
use Rattle.std.proofs.lemmas.Option.{same_Some}
use Rattle.class_base.proofs.list_views.SameBytes.{bytes_eq_true, bytes_eq_self}
use Rattle.class_base.proofs.list_views.Truths.{same_truth, or_twice, or_over}
use Rattle.class_pool.specs.declared.entry.PoolEntry.{PoolEntry}
use Rattle.class_pool.specs.Text.{places_of, utf8_at}
use Rattle.class_read.specs.Rules.{Key, same_key, text_of}
use Rattle.class_read.specs.inner.Numbers.{place_text, same_text, number_in, number_of, kept_place, KeepsFirst, key_of, keys_in, IsNumber}
use Rattle.class_read.specs.inner.Numbers.{AreNumbers, Joins}

-- ---- equal texts

pub text_same : (a b : Option (List ℕ)) → same_text a b ≡ true → a ≡ b
text_same None None h = refl
text_same None (Some b) h = absurd cc
text_same (Some a) None h = absurd cc
text_same (Some a) (Some b) h = ap (λ (t : List ℕ). Some t) (bytes_eq_true a b h)

pub text_self : (a : Option (List ℕ)) → same_text a a ≡ true
text_self None = refl
text_self (Some a) = bytes_eq_self a

pub none_is_no : {A : Type 0} (o : Option A) → o ≡ None → IsSome o → ⊥
none_is_no None e h = cc
none_is_no (Some a) e h = absurd cc

-- ---- the number of a text

passed_below : (b : Bool) (n len : ℕ) → (b ≡ false → n < len) → cond (not b) (1 + n) 0 < suc len
passed_below true n len h = omega arith
passed_below false n len h = let k : n < len = h refl in omega (arith, k)

-- what passes somewhere is met below the list's length
found_below : {X : Type 0} (p : X → Bool) (xs : List X) (i : ℕ) (d : X) → i < length xs → p (get_or xs i d) ≡ true
    → position_or_len p xs < length xs
found_below p [] i d lt h = absurd (omega (arith, lt))
found_below p (x ∷ xs) zero d lt h = passed_below (p x) (position_or_len p xs) (length xs) (λ e. let f : true ≡ false = sym h
    ∙ e in absurd cc)
found_below p (x ∷ xs) (suc i) d lt h = passed_below (p x) (position_or_len p xs) (length xs)
    (λ _. found_below p xs i d (omega (arith, lt)) h)

within : (places : List (Option PoolEntry)) (i : ℕ) → IsSome (place_text (get_or places i None)) → i < length places
within [] i h = absurd cc
within (x ∷ xs) zero h = omega arith
within (x ∷ xs) (suc i) h = let k : i < length xs = within xs i h in omega (arith, k)

-- the text of a text's number is the text
pub number_text : (pool : List PoolEntry) (i : ℕ) → IsSome (utf8_at pool i) → utf8_at pool (number_of pool i) ≡ utf8_at pool i
number_text pool i h =
    let test : Option PoolEntry → Bool = λ place. same_text (utf8_at pool i) (place_text place) in
    let here : position_or_len test (places_of pool) < length (places_of pool) = found_below test (places_of pool) i None
    (within (places_of pool) i h) (text_self (utf8_at pool i)) in
    sym (text_same (utf8_at pool i) (utf8_at pool (number_of pool i)) (passes_at_first test (places_of pool) None here))

pub is_number : (pool : List PoolEntry) (i : ℕ) → IsSome (utf8_at pool i) → IsNumber pool (number_of pool i)
is_number pool i h = record {
  there = subst IsSome (sym (number_text pool i h)) h;
  first = ap (number_in (places_of pool)) (number_text pool i h);
}

text_is : (o : Option (List ℕ)) → IsSome o → o ≡ Some (unwrap_or o [])
text_is None h = absurd cc
text_is (Some t) h = refl

equal_is : (o : Ordering) → is_eq o ≡ true → o ≡ Equal
equal_is Less h = absurd cc
equal_is Equal h = refl
equal_is Greater h = absurd cc

-- numbers compare as equal exactly where their texts are equal
one_number : (pool : List PoolEntry) (m n : ℕ) → IsNumber pool m → IsNumber pool n
    → is_eq (nat_cmp m n) ≡ bytes_eq (text_of pool m) (text_of pool n)
one_number pool m n a b =
    same_truth (is_eq (nat_cmp m n)) (bytes_eq (text_of pool m) (text_of pool n))
    (λ h. let e : m ≡ n = exact_unsigned m n (equal_is (nat_cmp m n) h) in
    ap (λ k. bytes_eq (text_of pool m) (text_of pool k)) (sym e) ∙ bytes_eq_self (text_of pool m))
    (λ h. let t : utf8_at pool m ≡ utf8_at pool n = text_is (utf8_at pool m) a.there
    ∙ ap (λ (x : List ℕ). Some x) (bytes_eq_true (text_of pool m) (text_of pool n) h) ∙ sym (text_is (utf8_at pool n) b.there) in
    let e : m ≡ n = sym a.first ∙ ap (number_in (places_of pool)) t ∙ b.first in
    let r : Equal ≡ nat_cmp m n = nat_cmp_is m n Equal e in
    ap is_eq (sym r))

-- ---- how the numbers are found

-- the first place is found where a text is new
pub new_number : (places : List (Option PoolEntry)) (i : ℕ) (kept : List ℕ → Option ℕ) (t : List ℕ) → KeepsFirst places i kept
    → i < length places
    → place_text (get_or places i None) ≡ Some t → kept t ≡ None → i ≡ number_in places (Some t)
new_number places i kept t keeps lt here new =
    sym (position_or_len_is (λ place. same_text (Some t) (place_text place)) places i None (omega (arith, lt))
    (λ k below. false_from_ne_true (same_text (Some t) (place_text (get_or places k None)))
    (λ h. none_is_no (kept t) new (keeps.all k t below (sym (text_same (Some t) (place_text (get_or places k None)) h)))))
    (λ _. ap (same_text (Some t)) here ∙ text_self (Some t)))

before : (i j : ℕ) → j < i + 1 → (j < i) ⊎ (j ≡ i)
before i j below = elim (cases_lt j i) [
  | inl lt ↦ inl lt
  | inr le ↦ inr (omega (arith, le, below))
]

some_stays : (b : Bool) (i : ℕ) (o : Option ℕ) → IsSome o → IsSome (cond b (Some i) o)
some_stays true i o h = refl
some_stays false i o h = h

new_right : (places : List (Option PoolEntry)) (i n : ℕ) (o : Option ℕ) (u t : List ℕ) (b : Bool) → (b ≡ true → u ≡ t)
    → (o ≡ Some n → n ≡ number_in places (Some u)) → i ≡ number_in places (Some t)
    → cond b (Some i) o ≡ Some n → n ≡ number_in places (Some u)
new_right places i n o u t true same old number h =
    ap (λ (x : Option ℕ). unwrap_or x 0) (sym h) ∙ number ∙ ap (λ (x : List ℕ). number_in places (Some x)) (sym (same refl))
new_right places i n o u t false same old number h = old h

pub keeps_new : (places : List (Option PoolEntry)) (i : ℕ) (kept next : List ℕ → Option ℕ) (t : List ℕ) → KeepsFirst places i kept
    → place_text (get_or places i None) ≡ Some t → i ≡ number_in places (Some t)
    → ((u : List ℕ) → next u ≡ cond (bytes_eq u t) (Some i) (kept u)) → KeepsFirst places (i + 1) next
keeps_new places i kept next t keeps here number more = record {
  right = λ u n h. new_right places i n (kept u) u t (bytes_eq u t) (λ e. bytes_eq_true u t e) (keeps.right u n) number (sym (more u) ∙ h);
  all = λ j u below is. elim (before i j below) [
    | inl lt ↦ subst IsSome (sym (more u)) (some_stays (bytes_eq u t) i (kept u) (keeps.all j u lt is))
    | inr e ↦ (let same : Some u ≡ Some t = sym is ∙ ap (λ k. place_text (get_or places k None)) e ∙ here in
        let self : bytes_eq u t ≡ true = (bytes_eq-Decides u t).1 (same_Some u t same) in
        subst IsSome (sym (more u ∙ ap (λ (b : Bool). cond b (Some i) (kept u)) self)) refl)
  ];
}

-- ---- a look-up after an entry was put in

cond_twice : {X : Type 0} (b : Bool) (a c d : X) → cond b a d ≡ cond b a (cond b c d)
cond_twice true a c d = refl
cond_twice false a c d = refl

cond_swap : {X : Type 0} (a b : Bool) (x y z : X) → (a ≡ true → b ≡ true → ⊥) → cond b y (cond a x z) ≡ cond a x (cond b y z)
cond_swap true true x y z h = absurd (h refl refl)
cond_swap true false x y z h = refl
cond_swap false b x y z h = refl

abbrev is_text : {K : Type 0} → (K → List ℕ) → List ℕ → K → Bool
is_text text t k = is_eq (slice_cmp nat_cmp t (text k))

placed_entry : {K : Type 0} (text : K → List ℕ) (t : List ℕ) (key : K) (n : ℕ) (x : K × ℕ) (xs longer : List (K × ℕ)) (o : Ordering)
    → is_eq o ≡ bytes_eq (text key) (text x.0)
    → lookup (is_text text t) longer ≡ cond (bytes_eq t (text key)) (Some n) (lookup (is_text text t) xs)
    → lookup (is_text text t) (match_ordering o ((key, n) ∷ x ∷ xs) ((x.0, n) ∷ xs) (x ∷ longer)) ≡ cond (bytes_eq t (text key))
    (Some n) (lookup (is_text text t) (x ∷ xs))
placed_entry text t key n x xs longer Less h more = ap (λ (b : Bool). cond b (Some n) (lookup (is_text text t) (x ∷ xs)))
    (is_eq-slice_cmp t (text key))
placed_entry text t key n x xs longer Equal h more =
    let e : is_text text t x.0 ≡ bytes_eq t (text key) = is_eq-slice_cmp t (text x.0)
    ∙ ap (bytes_eq t) (sym (bytes_eq_true (text key) (text x.0) (sym h))) in
    cond_twice (is_text text t x.0) (Some n) (Some x.1) (lookup (is_text text t) xs)
    ∙ ap (λ (b : Bool). cond b (Some n) (lookup (is_text text t) (x ∷ xs))) e
placed_entry text t key n x xs longer Greater h more =
    ap (λ (o : Option ℕ). cond (is_text text t x.0) (Some x.1) o) more
    ∙ cond_swap (bytes_eq t (text key)) (is_text text t x.0) (Some n) (Some x.1) (lookup (is_text text t) xs)
    (λ a b. let same : text key ≡ text x.0 = sym (bytes_eq_true t (text key) a)
    ∙ bytes_eq_true t (text x.0) (sym (is_eq-slice_cmp t (text x.0)) ∙ b) in
    let no : false ≡ true = h ∙ ap (bytes_eq (text key)) (sym same) ∙ bytes_eq_self (text key) in cc)

kept_more : {K : Type 0} (text : K → List ℕ) (cmp : K → K → Ordering) → ((j k : K) → is_eq (cmp j k) ≡ bytes_eq (text j) (text k))
    → (t : List ℕ) (key : K) (n : ℕ) (entries : List (K × ℕ))
    → lookup (is_text text t) (insert_entry cmp entries key n) ≡ cond (bytes_eq t (text key)) (Some n) (lookup (is_text text t) entries)
kept_more text cmp same t key n [] = ap (λ (b : Bool). cond b (Some n) None) (is_eq-slice_cmp t (text key))
kept_more text cmp same t key n (x ∷ xs) =
    placed_entry text t key n x xs (insert_entry cmp xs key n) (cmp key x.0) (same key x.0) (kept_more text cmp same t key n xs)

-- ---- members by pairs of numbers

abbrev pub pair_cmp : ℕ × ℕ → ℕ × ℕ → Ordering
pair_cmp a b = ordering_then (nat_cmp a.0 b.0) (nat_cmp a.1 b.1)

tied : (a b : Ordering) → is_eq (ordering_then a b) ≡ (is_eq a && is_eq b)
tied Less b = refl
tied Equal b = refl
tied Greater b = refl

abbrev AreOne : List PoolEntry → ℕ × ℕ → Type 0
AreOne pool pair = IsNumber pool pair.0 × IsNumber pool pair.1

same_pair : (pool : List PoolEntry) (a b : ℕ × ℕ) → AreOne pool a → AreOne pool b
    → is_eq (pair_cmp a b) ≡ same_key (key_of pool a) (key_of pool b)
same_pair pool a b p q =
    tied (nat_cmp a.0 b.0) (nat_cmp a.1 b.1)
    ∙ ap (λ (x : Bool). x && is_eq (nat_cmp a.1 b.1)) (one_number pool a.0 b.0 p.0 q.0)
    ∙ ap (λ (x : Bool). bytes_eq (text_of pool a.0) (text_of pool b.0) && x) (one_number pool a.1 b.1 p.1 q.1)

any_pair : (pool : List PoolEntry) (a : ℕ × ℕ) (pairs : List (ℕ × ℕ)) → AreOne pool a → AreNumbers pool pairs
    → list_any (λ b. is_eq (pair_cmp a b)) pairs ≡ list_any (same_key (key_of pool a)) (keys_in pool pairs)
any_pair pool a [] p all = refl
any_pair pool a (b ∷ pairs) p all =
    ap (λ (x : Bool). x || list_any (λ b. is_eq (pair_cmp a b)) pairs) (same_pair pool a b p all.0)
    ∙ ap (λ (x : Bool). same_key (key_of pool a) (key_of pool b) || x) (any_pair pool a pairs p all.1)

-- the pair of numbers is of the same texts
key_is : (pool : List PoolEntry) (name desc : ℕ) → IsSome (utf8_at pool name) → IsSome (utf8_at pool desc)
    → key_of pool (number_of pool name, number_of pool desc) ≡ key_of pool (name, desc)
key_is pool name desc n d =
    ap (λ (o : Option (List ℕ)). (unwrap_or o [], text_of pool (number_of pool desc))) (number_text pool name n)
    ∙ ap (λ (o : Option (List ℕ)). (text_of pool name, unwrap_or o [])) (number_text pool desc d)

is_added : (pool : List PoolEntry) (name desc : ℕ) (pairs : List (ℕ × ℕ)) → IsSome (utf8_at pool name) → IsSome (utf8_at pool desc)
    → AreNumbers pool pairs
    → list_any (λ b. is_eq (pair_cmp (number_of pool name, number_of pool desc) b)) pairs ≡ list_any
    (same_key (key_of pool (name, desc))) (keys_in pool pairs)
is_added pool name desc pairs n d all =
    any_pair pool (number_of pool name, number_of pool desc) pairs (is_number pool name n, is_number pool desc d) all
    ∙ ap (λ (k : Key). list_any (same_key k) (keys_in pool pairs)) (key_is pool name desc n d)

all_placed : (pool : List PoolEntry) (a b : ℕ × ℕ) (pairs longer : List (ℕ × ℕ)) (o : Ordering) → AreOne pool a
    → AreNumbers pool (b ∷ pairs) → AreNumbers pool longer
    → AreNumbers pool (match_ordering o (a ∷ b ∷ pairs) (b ∷ pairs) (b ∷ longer))
all_placed pool a b pairs longer Less p all more = (p, all)
all_placed pool a b pairs longer Equal p all more = all
all_placed pool a b pairs longer Greater p all more = (all.0, more)

all_more : (pool : List PoolEntry) (a : ℕ × ℕ) (pairs : List (ℕ × ℕ)) → AreOne pool a → AreNumbers pool pairs
    → AreNumbers pool (insert_key pair_cmp pairs a)
all_more pool a [] p all = (p, tt)
all_more pool a (b ∷ pairs) p all = all_placed pool a b pairs (insert_key pair_cmp pairs a) (pair_cmp a b) p all
    (all_more pool a pairs p all.1)

pair_is : (a b : ℕ × ℕ) → pair_cmp a b ≡ Equal → a ≡ b
pair_is a b e =
    let t : (is_eq (nat_cmp a.0 b.0) && is_eq (nat_cmp a.1 b.1)) ≡ true = sym (tied (nat_cmp a.0 b.0) (nat_cmp a.1 b.1)) ∙ ap is_eq e in
    let p = and_parts (is_eq (nat_cmp a.0 b.0)) (is_eq (nat_cmp a.1 b.1)) t in
    ap (λ (n : ℕ). (n, a.1)) (exact_unsigned a.0 b.0 (equal_is (nat_cmp a.0 b.0) p.0))
    ∙ ap (λ (n : ℕ). (b.0, n)) (exact_unsigned a.1 b.1 (equal_is (nat_cmp a.1 b.1) p.1))

placed : (key_of : ℕ × ℕ → Key) (q : Key) (o : Ordering) (k x : ℕ × ℕ) (xs longer : List (ℕ × ℕ)) → (o ≡ Equal → k ≡ x)
    → list_any (same_key q) (map key_of longer) ≡ (same_key q (key_of k) || list_any (same_key q) (map key_of xs))
    → list_any (same_key q) (map key_of (match_ordering o (k ∷ x ∷ xs) (x ∷ xs) (x ∷ longer)))
    ≡ (same_key q (key_of k) || list_any (same_key q) (map key_of (x ∷ xs)))
placed key_of q Less k x xs longer same others = refl
placed key_of q Equal k x xs longer same others =
    or_twice (same_key q (key_of x)) (list_any (same_key q) (map key_of xs))
    ∙ ap (λ (j : ℕ × ℕ). same_key q (key_of j) || (same_key q (key_of x) || list_any (same_key q) (map key_of xs))) (sym (same refl))
placed key_of q Greater k x xs longer same others =
    ap (λ (b : Bool). same_key q (key_of x) || b) others ∙ or_over (same_key q (key_of x)) (same_key q (key_of k))
    (list_any (same_key q) (map key_of xs))

any_more : (key_of : ℕ × ℕ → Key) (q : Key) (k : ℕ × ℕ) (ks : List (ℕ × ℕ))
    → list_any (same_key q) (map key_of (insert_key pair_cmp ks k)) ≡ (same_key q (key_of k) || list_any (same_key q) (map key_of ks))
any_more key_of q k [] = refl
any_more key_of q k (x ∷ xs) = placed key_of q (pair_cmp k x) k x xs (insert_key pair_cmp xs k) (pair_is k x) (any_more key_of q k xs)

joins : (pool : List PoolEntry) (name desc : ℕ) (was now : List (ℕ × ℕ)) → IsSome (utf8_at pool name) → IsSome (utf8_at pool desc)
    → AreNumbers pool was
    → now ≡ insert_key pair_cmp was (number_of pool name, number_of pool desc) → Joins pool was now (key_of pool (name, desc))
joins pool name desc was now n d all is = record {
  numbers = subst (AreNumbers pool) (sym is)
      (all_more pool (number_of pool name, number_of pool desc) was (is_number pool name n, is_number pool desc d) all);
  keys = λ q. ap (λ (ps : List (ℕ × ℕ)). list_any (same_key q) (keys_in pool ps)) is
      ∙ any_more (key_of pool) q (number_of pool name, number_of pool desc) was
      ∙ ap (λ (k : Key). same_key q k || list_any (same_key q) (keys_in pool was)) (key_is pool name desc n d);
}

-- ---- what the calls say, in these words

pub kept_borrowed : (u : List ℕ) (key : Bor (List ℕ)) (n : ℕ) (old new : BTreeMap (Bor (List ℕ)) ℕ)
    → new.entries ≡ insert_entry (λ j k. slice_cmp nat_cmp j.now k.now) old.entries key n
    → kept_place (λ k. k.now) new u ≡ cond (bytes_eq u key.now) (Some n) (kept_place (λ k. k.now) old u)
kept_borrowed u key n old new is =
    ap (lookup (is_text (λ (k : Bor (List ℕ)). k.now) u)) is
    ∙ kept_more (λ (k : Bor (List ℕ)). k.now) (λ j k. slice_cmp nat_cmp j.now k.now) (λ j k. is_eq-slice_cmp j.now k.now) u key n
    old.entries

pub new_pair : (pool : List PoolEntry) (name desc first second : ℕ) (keys was : List (ℕ × ℕ)) (new : Bool)
    → IsSome (utf8_at pool name) → IsSome (utf8_at pool desc) → AreNumbers pool was
    → keys ≡ was → first ≡ number_of pool name → second ≡ number_of pool desc
    → new ≡ not (list_any (λ b. is_eq (pair_cmp (first, second) b)) keys)
    → new ≡ not (list_any (same_key (key_of pool (name, desc))) (keys_in pool was))
new_pair pool name desc first second keys was new n d all seen f s h =
    h ∙ ap not (rw (seen, f, s) (is_added pool name desc was n d all))

pub joined : (pool : List PoolEntry) (name desc first second : ℕ) (keys was now : List (ℕ × ℕ)) → IsSome (utf8_at pool name)
    → IsSome (utf8_at pool desc) → AreNumbers pool was
    → keys ≡ was → first ≡ number_of pool name → second ≡ number_of pool desc → now ≡ insert_key pair_cmp keys (first, second)
    → Joins pool was now (key_of pool (name, desc))
joined pool name desc first second keys was now n d all seen f s h =
    let same : insert_key pair_cmp keys (first, second) ≡ insert_key pair_cmp was (number_of pool name, number_of pool desc) = rw
    (seen, f, s) refl in
    joins pool name desc was now n d all (h ∙ same)
