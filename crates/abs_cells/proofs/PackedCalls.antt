-- What calls on packed pairs leave: a bit is set or cleared, an id gets a slot.
use Rattle.std.proofs.Common.{◌≡◌, ℕ, zero, suc, ◌+◌, ◌*◌, ◌/◌, ◌%◌, ◌<◌, ◌≤◌, min, max, Bool, false, not, ◌&&◌, ◌||◌, ◌==◌, eqb}
use Rattle.std.proofs.Common.{List, [], ◌∷◌, ◌++◌, length, get_or, set, take, replicate, Option, Some, None, inl, inr, refl, sym}
use Rattle.std.proofs.Common.{ap, ◌∙◌, arith, mul_left_comm, mul_comm, mul-suc, add-suc, add-one, Result, Ok, Err, OnErr}
use Rattle.std.proofs.lemmas.Bool.{ne_eqb, cases_lt, cases_eq}
use Rattle.std.proofs.lemmas.List.{length-set, take_all}
use Rattle.jvm_values.proofs.Options.{some_is}
use Rattle.abs_cells.specs.PairLists.{pair_of, is_same, with_pair, without_pair, added, removed}
use Rattle.std.specs.Int.{bit_at}
use Rattle.std.proofs.lemmas.Option.{none-some}
use Rattle.jvm_values.proofs.list_views.Truths.{and_false}
use Rattle.abs_cells.specs.IdSets.{has_bit}
use Rattle.abs_cells.specs.PackedBits.{pairs_in, slot_of, slots_in, row_start, place_of, hit, hit_slots, ArePacked}
use Rattle.abs_cells.specs.inner.PackedRows.{IsGrown}
use Rattle.abs_cells.proofs.PairLaws.{rising_with, rising_without, without_none}
use Rattle.abs_cells.proofs.PackedLaws.{is_one_list, has_with, has_without, packed_rises, packed_has, packed_has_two, same_pairs}
use Rattle.abs_cells.proofs.PackedLaws.{rows_apart, later_row, set_hits, clear_hits, place_turned}

-- ---- where rows begin

row_step : (q r : ℕ) → suc q * (32 * q + suc r) ≡ suc q * (32 * q + r) + suc q
row_step q r = ap (λ (x : ℕ). suc q * x) (add-suc (32 * q) r) ∙ mul-suc (suc q) (32 * q + r)

row_turn : (q : ℕ) → suc (suc q) * (32 * suc q + 0) ≡ suc q * (32 * q + 63) + suc q
row_turn q =
    let left : 32 * suc q + 0 ≡ 32 * suc q = omega arith in
    let right : 32 * q + suc 63 ≡ 32 * suc (suc q) = omega arith in
    ap (λ (x : ℕ). suc (suc q) * x) left ∙ mul_left_comm (suc (suc q)) 32 (suc q) ∙ ap (λ (x : ℕ). 32 * x) (mul_comm (suc (suc q)) (suc q))
    ∙ sym (mul_left_comm (suc q) 32 (suc (suc q))) ∙ ap (λ (x : ℕ). suc q * x) (sym right) ∙ row_step q 63

formula : (s : ℕ) → suc (s / 64) * (32 * (s / 64) + s % 64) ≡ row_start s
formula zero = refl
formula (suc s) = elim (cases_lt (s % 64) 63) [
  | inl l ↦
      let q : suc s / 64 ≡ s / 64 = omega (arith, l) in
      let r : suc s % 64 ≡ suc (s % 64) = omega (arith, l) in
      ap (λ (x : ℕ). suc x * (32 * x + suc s % 64)) q ∙ ap (λ (y : ℕ). suc (s / 64) * (32 * (s / 64) + y)) r
      ∙ row_step (s / 64) (s % 64) ∙ ap (λ (x : ℕ). x + suc (s / 64)) (formula s)
  | inr l ↦
      let q : suc s / 64 ≡ suc (s / 64) = omega (arith, l) in
      let r : suc s % 64 ≡ 0 = omega (arith, l) in
      let t : s % 64 ≡ 63 = omega (arith, l) in
      ap (λ (x : ℕ). suc x * (32 * x + suc s % 64)) q ∙ ap (λ (y : ℕ). suc (suc (s / 64)) * (32 * suc (s / 64) + y)) r ∙ row_turn (s / 64)
      ∙ ap (λ (y : ℕ). suc (s / 64) * (32 * (s / 64) + y) + suc (s / 64)) (sym t) ∙ ap (λ (x : ℕ). x + suc (s / 64)) (formula s)
]

pub row_formula : (s : ℕ) → (s / 64 + 1) * (32 * (s / 64) + s % 64) ≡ row_start s
row_formula s = ap (λ (x : ℕ). x * (32 * (s / 64) + s % 64)) (add-one (s / 64)) ∙ formula s

pub few_words : (s : ℕ) → s ≤ 2048 → row_start s ≤ 33 * s
few_words zero l = omega arith
few_words (suc s) l = omega (arith, few_words s (omega (arith, l)), l)

-- ---- a bit is set, or cleared

pub bit_within : (slots : List (Option ℕ)) (count : ℕ) (words : List ℕ) → ArePacked slots count words → (a b s t : ℕ)
    → slot_of slots a ≡ Some s → slot_of slots b ≡ Some t → place_of s t < 64 * row_start count
bit_within slots count words h a b s t ea eb =
    let high : max s t < count = omega (arith, h.low a s ea, h.low b t eb) in
    omega (arith, later_row (max s t) count high)

pub words_within : (slots : List (Option ℕ)) (count : ℕ) (words : List ℕ) → ArePacked slots count words → (a b s t : ℕ)
    → slot_of slots a ≡ Some s → slot_of slots b ≡ Some t → place_of s t / 64 < length words
words_within slots count words h a b s t ea eb = omega (arith, bit_within slots count words h a b s t ea eb, h.rows)

slots_apart : (slots : List (Option ℕ)) (count : ℕ) (words : List ℕ) → ArePacked slots count words → (a b s t : ℕ)
    → slot_of slots a ≡ Some s → slot_of slots b ≡ Some t → (a ≡ b → ⊥) → s ≡ t → ⊥
slots_apart slots count words h a b s t ea eb d e = d (h.apart a b s ea (eb ∙ ap Some (sym e)))

module _ (slots : List (Option ℕ)) (count : ℕ) (words after : List ℕ) (h : ArePacked slots count words) (a b s t : ℕ) (d : a ≡ b
    → ⊥) (ea : slot_of slots a ≡ Some s) (eb : slot_of slots b ≡ Some t) (e : length after ≡ length words) where
  not_below : (r u : ℕ) → r ≤ u → u < 64 * suc (r / 64) → 64 * row_start r + u ≡ place_of s t → ⊥
  not_below r u l m k =
      let same = rows_apart r (max s t) u (min s t) m (omega arith) k in
      slots_apart slots count words h a b s t ea eb d (omega (arith, l, same.0, same.1))

  pub set_packed : ((n : ℕ) → has_bit after n ≡ ((n == place_of s t) || has_bit words n)) → ArePacked slots count after
  set_packed f = record {
    few = h.few;
    counted = h.counted;
    low = h.low;
    apart = h.apart;
    rows = omega (arith, h.rows, e);
    below = λ r u c l m. f (64 * row_start r + u) ∙ ap (λ (x : Bool). x || has_bit words (64 * row_start r + u))
        (ne_eqb (64 * row_start r + u) (place_of s t) (not_below r u l m)) ∙ h.below r u c l m;
    past = λ n l. f n ∙ ap (λ (x : Bool). x || has_bit words n)
        (ne_eqb n (place_of s t) (λ k. omega (arith, k, l, bit_within slots count words h a b s t ea eb))) ∙ h.past n l;
  }

  pub clear_packed : ((n : ℕ) → has_bit after n ≡ (not (n == place_of s t) && has_bit words n)) → ArePacked slots count after
  clear_packed f = record {
    few = h.few;
    counted = h.counted;
    low = h.low;
    apart = h.apart;
    rows = omega (arith, h.rows, e);
    below = λ r u c l m. f (64 * row_start r + u) ∙ ap (λ (x : Bool). not (64 * row_start r + u == place_of s t) && x)
        (h.below r u c l m) ∙ and_false (not (64 * row_start r + u == place_of s t));
    past = λ n l. f n ∙ ap (λ (x : Bool). not (n == place_of s t) && x) (h.past n l) ∙ and_false (not (n == place_of s t));
  }

-- two ids in either order
turned_place : (s t : ℕ) (words after : List ℕ) (joined : Bool → Bool → Bool)
    → ((n : ℕ) → has_bit after n ≡ joined (n == place_of s t) (has_bit words n)) → (n : ℕ)
    → has_bit after n ≡ joined (n == place_of t s) (has_bit words n)
turned_place s t words after joined f n = f n ∙ ap (λ (p : ℕ). joined (n == p) (has_bit words n)) (place_turned s t)

pub after_set : (slots : List (Option ℕ)) (count : ℕ) (words after : List ℕ) → ArePacked slots count words
    → ArePacked slots count after → (a b s t : ℕ) → (a ≡ b → ⊥) → a < 2048 → b < 2048 → slot_of slots a ≡ Some s
    → slot_of slots b ≡ Some t → ((n : ℕ) → has_bit after n ≡ ((n == place_of s t) || has_bit words n))
    → pairs_in slots after ≡ added a b (pairs_in slots words)
after_set slots count words after h k a b s t d la lb ea eb f = elim (cases_lt a b) [
  | inl l ↦ go a b s t l lb ea eb f
  | inr l ↦ go b a t s (omega (arith, l, d)) la eb ea (turned_place s t words after ◌||◌ f) ∙ added_turned
]
  where
    added_turned : added b a (pairs_in slots words) ≡ added a b (pairs_in slots words)
    added_turned =
        let low : min b a ≡ min a b = omega arith in
        let high : max b a ≡ max a b = omega arith in
        ap (λ (x : ℕ). with_pair (x, max b a) (pairs_in slots words)) low
        ∙ ap (λ (y : ℕ). with_pair (min a b, y) (pairs_in slots words)) high

    go : (x y u v : ℕ) → x < y → y < 2048 → slot_of slots x ≡ Some u → slot_of slots y ≡ Some v
        → ((n : ℕ) → has_bit after n ≡ ((n == place_of u v) || has_bit words n)) → pairs_in slots after ≡ added x y (pairs_in slots words)
    go x y u v l m ex ey g =
        let low : min x y ≡ x = omega (arith, l) in
        let high : max x y ≡ y = omega (arith, l) in
        is_one_list (pairs_in slots after) (with_pair (x, y) (pairs_in slots words)) (packed_rises slots count after k)
        (rising_with (x, y) (pairs_in slots words) (l, m) (packed_rises slots count words h))
        (λ q j. packed_has slots after q j ∙ set_hits slots count words after h x y u v ex ey l g q.0 q.1 j
        ∙ ap (λ (z : Bool). is_same q (x, y) || z) (sym (packed_has slots words q j))
        ∙ sym (has_with q (x, y) (pairs_in slots words)))
        ∙ ap (λ (z : ℕ). with_pair (z, y) (pairs_in slots words)) (sym low)
        ∙ ap (λ (z : ℕ). with_pair (min x y, z) (pairs_in slots words)) (sym high)

pub after_clear : (slots : List (Option ℕ)) (count : ℕ) (words after : List ℕ) → ArePacked slots count words
    → ArePacked slots count after → (a b s t : ℕ) → (a ≡ b → ⊥) → slot_of slots a ≡ Some s → slot_of slots b ≡ Some t
    → ((n : ℕ) → has_bit after n ≡ (not (n == place_of s t) && has_bit words n))
    → pairs_in slots after ≡ removed a b (pairs_in slots words)
after_clear slots count words after h k a b s t d ea eb f = elim (cases_lt a b) [
  | inl l ↦ go a b s t l ea eb f
  | inr l ↦ go b a t s (omega (arith, l, d)) eb ea (turned_place s t words after (λ x y. not x && y) f) ∙ removed_turned
]
  where
    removed_turned : removed b a (pairs_in slots words) ≡ removed a b (pairs_in slots words)
    removed_turned =
        let low : min b a ≡ min a b = omega arith in
        let high : max b a ≡ max a b = omega arith in
        ap (λ (x : ℕ). without_pair (x, max b a) (pairs_in slots words)) low
        ∙ ap (λ (y : ℕ). without_pair (min a b, y) (pairs_in slots words)) high

    go : (x y u v : ℕ) → x < y → slot_of slots x ≡ Some u → slot_of slots y ≡ Some v
        → ((n : ℕ) → has_bit after n ≡ (not (n == place_of u v) && has_bit words n))
        → pairs_in slots after ≡ removed x y (pairs_in slots words)
    go x y u v l ex ey g =
        let low : min x y ≡ x = omega (arith, l) in
        let high : max x y ≡ y = omega (arith, l) in
        is_one_list (pairs_in slots after) (without_pair (x, y) (pairs_in slots words)) (packed_rises slots count after k)
        (rising_without (x, y) (pairs_in slots words) (packed_rises slots count words h))
        (λ q j. packed_has slots after q j ∙ clear_hits slots count words after h x y u v ex ey l g q.0 q.1 j
        ∙ ap (λ (z : Bool). not (is_same q (x, y)) && z) (sym (packed_has slots words q j))
        ∙ sym (has_without q (x, y) (pairs_in slots words) (packed_rises slots count words h)))
        ∙ ap (λ (z : ℕ). without_pair (z, y) (pairs_in slots words)) (sym low)
        ∙ ap (λ (z : ℕ). without_pair (min x y, z) (pairs_in slots words)) (sym high)

-- two ids that have no bit are no pair
pub not_cleared : (slots : List (Option ℕ)) (words : List ℕ) (a b : ℕ) → (a ≡ b → ⊥) → hit slots words a b ≡ false
    → pairs_in slots words ≡ removed a b (pairs_in slots words)
not_cleared slots words a b d f = sym (without_none (pair_of a b) (pairs_in slots words) (packed_has_two slots words a b d ∙ f))

pub left_no_hit : (slots : List (Option ℕ)) (words : List ℕ) (a b : ℕ) → slot_of slots a ≡ None → hit slots words a b ≡ false
left_no_hit slots words a b e = ap (λ (s : Option ℕ). hit_slots words s (slot_of slots b)) e

-- ---- an id gets a slot

pub count_more : (slots : List (Option ℕ)) (more : ℕ) → slots_in (slots ++ replicate more None) ≡ slots_in slots
count_more [] zero = refl
count_more [] (suc more) = count_more [] more
count_more (None ∷ slots) more = count_more slots more
count_more (Some s ∷ slots) more = ap suc (count_more slots more)

slot_set : (slots : List (Option ℕ)) (i : ℕ) (slot : Option ℕ) → i < length slots → slot_of (set slots i slot) i ≡ slot
slot_set [] i slot l = absurd (omega (arith, l))
slot_set (s ∷ slots) zero slot l = refl
slot_set (s ∷ slots) (suc i) slot l = slot_set slots i slot (omega (arith, l))

slot_kept : (slots : List (Option ℕ)) (i a : ℕ) (slot : Option ℕ) → (a ≡ i → ⊥) → slot_of (set slots i slot) a ≡ slot_of slots a
slot_kept [] i a slot d = refl
slot_kept (s ∷ slots) zero zero slot d = absurd (d refl)
slot_kept (s ∷ slots) zero (suc a) slot d = refl
slot_kept (s ∷ slots) (suc i) zero slot d = refl
slot_kept (s ∷ slots) (suc i) (suc a) slot d = slot_kept slots i a slot (λ e. d (ap suc e))

pub one_more : (slots : List (Option ℕ)) (i s : ℕ) → i < length slots → slot_of slots i ≡ None
    → slots_in (set slots i (Some s)) ≡ suc (slots_in slots)
one_more [] i s l e = absurd (omega (arith, l))
one_more (None ∷ slots) zero s l e = refl
one_more (Some t ∷ slots) zero s l e = absurd (none-some t (sym e))
one_more (None ∷ slots) (suc i) s l e = one_more slots i s (omega (arith, l)) e
one_more (Some t ∷ slots) (suc i) s l e = ap suc (one_more slots i s (omega (arith, l)) e)

pub not_more : (slots : List (Option ℕ)) → slots_in slots ≤ length slots
not_more [] = omega arith
not_more (None ∷ slots) = omega (arith, not_more slots)
not_more (Some s ∷ slots) = omega (arith, not_more slots)

pub is_room : (slots : List (Option ℕ)) (i : ℕ) → i < length slots → slot_of slots i ≡ None → slots_in slots < length slots
is_room slots i l e = omega (arith, one_more slots i 0 l e, not_more (set slots i (Some 0)), length-set slots i (Some 0))

-- room for slots and words changes nothing
pub record HasRoom (slots : List (Option ℕ)) (words : List ℕ) (slots_now : List (Option ℕ)) (words_now : List ℕ) : Type 0 where
  pub slots_same : (a : ℕ) → slot_of slots_now a ≡ slot_of slots a
  pub counted : slots_in slots_now ≡ slots_in slots
  pub few : length slots_now ≤ 2048
  pub bits_same : (n : ℕ) → has_bit words_now n ≡ has_bit words n
  pub longer : length words ≤ length words_now

same_hit : (words words_now : List ℕ) → ((n : ℕ) → has_bit words_now n ≡ has_bit words n) → (s t : Option ℕ)
    → hit_slots words_now s t ≡ hit_slots words s t
same_hit words words_now f None t = refl
same_hit words words_now f (Some s) None = refl
same_hit words words_now f (Some s) (Some t) = f (place_of s t)

module _ (slots : List (Option ℕ)) (count : ℕ) (words : List ℕ) (slots_now : List (Option ℕ)) (words_now : List ℕ)
    (h : ArePacked slots count words) (r : HasRoom slots words slots_now words_now) where
  hits_same : (a b : ℕ) → hit slots_now words_now a b ≡ hit slots words a b
  hits_same a b =
      ap (λ (s : Option ℕ). hit_slots words_now s (slot_of slots_now b)) (r.slots_same a)
      ∙ ap (hit_slots words_now (slot_of slots a)) (r.slots_same b)
      ∙ same_hit words words_now r.bits_same (slot_of slots a) (slot_of slots b)

  pub room_grown : IsGrown slots words slots_now count words_now
  room_grown = record {
    packed = record {
      few = r.few;
      counted = h.counted ∙ sym r.counted;
      low = λ a s e. h.low a s (sym (r.slots_same a) ∙ e);
      apart = λ a b s e f. h.apart a b s (sym (r.slots_same a) ∙ e) (sym (r.slots_same b) ∙ f);
      rows = omega (arith, h.rows, r.longer);
      below = λ s t c l m. r.bits_same (64 * row_start s + t) ∙ h.below s t c l m;
      past = λ n l. r.bits_same n ∙ h.past n l;
    };
    kept = λ a s e. r.slots_same a ∙ e;
    same = hits_same;
  }

  module _ (id : ℕ) (now : List (Option ℕ)) (l : id < length slots_now) (new : slot_of slots id ≡ None)
      (long : row_start (count + 1) ≤ length words_now) (e : now ≡ set slots_now id (Some count)) where
    at_new : slot_of now id ≡ Some count
    at_new = ap (λ (xs : List (Option ℕ)). slot_of xs id) e ∙ slot_set slots_now id (Some count) l

    at_old : (a : ℕ) → (a ≡ id → ⊥) → slot_of now a ≡ slot_of slots a
    at_old a d = ap (λ (xs : List (Option ℕ)). slot_of xs a) e ∙ slot_kept slots_now id a (Some count) d ∙ r.slots_same a

    row_is : row_start (count + 1) ≡ row_start count + suc (count / 64)
    row_is = ap row_start (add-one count)

    low_now : (a s : ℕ) → slot_of now a ≡ Some s → s < count + 1
    low_now a s f = elim (cases_eq a id) [
      | inl k ↦ omega (arith, some_is (sym f ∙ ap (slot_of now) k ∙ at_new))
      | inr d ↦ omega (arith, h.low a s (sym (at_old a d) ∙ f))
    ]

    apart_now : (a b s : ℕ) → slot_of now a ≡ Some s → slot_of now b ≡ Some s → a ≡ b
    apart_now a b s f g = elim (cases_eq a id) [
      | inl k ↦ elim (cases_eq b id) [
        | inl j ↦ k ∙ sym j
        | inr d ↦
            let is : s ≡ count = some_is (sym f ∙ ap (slot_of now) k ∙ at_new) in
            absurd (omega (arith, is, h.low b s (sym (at_old b d) ∙ g)))
      ]
      | inr d ↦ elim (cases_eq b id) [
        | inl j ↦
            let is : s ≡ count = some_is (sym g ∙ ap (slot_of now) j ∙ at_new) in
            absurd (omega (arith, is, h.low a s (sym (at_old a d) ∙ f)))
        | inr c ↦ h.apart a b s (sym (at_old a d) ∙ f) (sym (at_old b c) ∙ g)
      ]
    ]

    below_now : (s t : ℕ) → s < count + 1 → s ≤ t → t < 64 * suc (s / 64) → has_bit words_now (64 * row_start s + t) ≡ false
    below_now s t c m n = r.bits_same (64 * row_start s + t) ∙ elim (cases_lt s count) [
      | inl k ↦ h.below s t k m n
      | inr k ↦
          let is : s ≡ count = omega (arith, k, c) in
          h.past (64 * row_start s + t) (omega (arith, ap row_start is))
    ]

    new_bit : (t : ℕ) → t < count + 1 → has_bit words_now (place_of count t) ≡ false
    new_bit t m =
        let high : max count t ≡ count = omega (arith, m) in
        r.bits_same (place_of count t) ∙ h.past (place_of count t) (omega (arith, ap row_start high))

    hits_now : (a b : ℕ) → hit now words_now a b ≡ hit slots words a b
    hits_now a b = elim (cases_eq a id) [
      | inl k ↦
          ap (λ (s : Option ℕ). hit_slots words_now s (slot_of now b)) (ap (slot_of now) k ∙ at_new) ∙ left_new (slot_of now b) refl
          ∙ sym (ap (λ (s : Option ℕ). hit_slots words s (slot_of slots b)) (ap (slot_of slots) k ∙ new))
      | inr d ↦ elim (cases_eq b id) [
        | inl j ↦
            ap (hit_slots words_now (slot_of now a)) (ap (slot_of now) j ∙ at_new) ∙ right_new (slot_of now a) refl
            ∙ sym (ap (hit_slots words (slot_of slots a)) (ap (slot_of slots) j ∙ new) ∙ right_none (slot_of slots a))
        | inr c ↦
            ap (λ (s : Option ℕ). hit_slots words_now s (slot_of now b)) (at_old a d)
            ∙ ap (hit_slots words_now (slot_of slots a)) (at_old b c)
            ∙ same_hit words words_now r.bits_same (slot_of slots a) (slot_of slots b)
      ]
    ]
      where
        right_none : (s : Option ℕ) → hit_slots words s None ≡ false
        right_none None = refl
        right_none (Some s) = refl

        left_new : (t : Option ℕ) → slot_of now b ≡ t → hit_slots words_now (Some count) t ≡ false
        left_new None f = refl
        left_new (Some t) f = new_bit t (low_now b t f)

        right_new : (s : Option ℕ) → slot_of now a ≡ s → hit_slots words_now s (Some count) ≡ false
        right_new None f = refl
        right_new (Some s) f = ap (has_bit words_now) (place_turned s count) ∙ new_bit s (low_now a s f)

    pub id_grown : IsGrown slots words now (count + 1) words_now
    id_grown = record {
      packed = record {
        few = omega (arith, ap length e, length-set slots_now id (Some count), r.few);
        counted = add-one count ∙ ap suc (h.counted ∙ sym r.counted) ∙ sym (one_more slots_now id count l (r.slots_same id ∙ new))
            ∙ ap slots_in (sym e);
        low = low_now;
        apart = apart_now;
        rows = long;
        below = below_now;
        past = λ n m. r.bits_same n ∙ h.past n (omega (arith, m, row_is));
      };
      kept = λ a s f. at_old a (λ k. none-some s (sym new ∙ ap (slot_of slots) (sym k) ∙ f)) ∙ f;
      same = hits_now;
    }

    pub new_slot : slot_of now id ≡ Some count
    new_slot = at_new

-- a slot that was looked for and not found
pub unlisted : (slots seen : List (Option ℕ)) (id : ℕ) (found : Option ℕ) → seen ≡ slots → found ≡ slot_of seen id → found ≡ None
    → slot_of slots id ≡ None
unlisted slots seen id found same is none = ap (λ (xs : List (Option ℕ)). slot_of xs id) (sym same) ∙ sym is ∙ none

-- an id that has no slot: there are fewer slots than ids, and the next slot is its own
module _ (slots : List (Option ℕ)) (count : ℕ) (words : List ℕ) (slots_now : List (Option ℕ)) (id : ℕ)
    (h : ArePacked slots count words) (same : (a : ℕ) → slot_of slots_now a ≡ slot_of slots a)
    (counted : slots_in slots_now ≡ slots_in slots) (few : length slots_now ≤ 2048) (l : id < length slots_now)
    (none : slot_of slots id ≡ None) where
  pub next_low : count < 2048
  next_low = omega (arith, is_room slots_now id l (same id ∙ none), h.counted, counted, few)

  pub listed : (words_now : List ℕ) (now : List (Option ℕ)) → ((n : ℕ) → has_bit words_now n ≡ has_bit words n)
      → length words ≤ length words_now → row_start (count + 1) ≤ length words_now → now ≡ set slots_now id (Some count)
      → IsGrown slots words now (count + 1) words_now × (slot_of now id ≡ Some count)
  listed words_now now bits longer long is =
      let room : HasRoom slots words slots_now words_now = record
      { slots_same = same; counted = counted; few = few; bits_same = bits; longer = longer } in (
        id_grown slots count words slots_now words_now h room id now l none long is,
        new_slot slots count words slots_now words_now h room id now l none long is,
      )

pub grown_pairs : (slots now : List (Option ℕ)) (words words_now : List ℕ) (count count_now : ℕ) → ArePacked slots count words
    → IsGrown slots words now count_now words_now → pairs_in now words_now ≡ pairs_in slots words
grown_pairs slots now words words_now count count_now h g = same_pairs slots now words words_now h.few g.packed.few g.same

pub grown_twice : (slots now last : List (Option ℕ)) (words words_now words_last : List ℕ) (count_now count_last : ℕ)
    → IsGrown slots words now count_now words_now → IsGrown now words_now last count_last words_last
    → IsGrown slots words last count_last words_last
grown_twice slots now last words words_now words_last count_now count_last g k = record {
  packed = k.packed;
  kept = λ a s e. k.kept a s (g.kept a s e);
  same = λ a b. k.same a b ∙ g.same a b;
}

pub few_slots : (slots : List (Option ℕ)) (count : ℕ) (words : List ℕ) → ArePacked slots count words → count ≤ 2048
few_slots slots count words h = omega (arith, h.counted, h.few, not_more slots)

pub slot_low : (slots : List (Option ℕ)) (count : ℕ) (words : List ℕ) → ArePacked slots count words → (a s : ℕ)
    → slot_of slots a ≡ Some s → s < 2048
slot_low slots count words h a s e = omega (arith, h.low a s e, few_slots slots count words h)

pub room_counted : (slots now : List (Option ℕ)) (n more : ℕ) → now ≡ take n slots ++ replicate more None → length slots ≤ n
    → slots_in now ≡ slots_in slots
room_counted slots now n more e l = ap slots_in e ∙ count_more (take n slots) more ∙ ap slots_in (take_all n slots l)

pub on_err : {A E : Type 0} (r : Result A E) (P : Type 0) → P → OnErr r P
on_err (Ok x) P p = tt
on_err (Err e) P p = p
