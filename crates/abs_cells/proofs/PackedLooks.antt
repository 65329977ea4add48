-- What packed pairs are asked: the pair at a place, and whether two sets are touched.
use Rattle.std.proofs.Common.{◌≡◌, ℕ, zero, suc, ◌+◌, ◌*◌, ◌/◌, ◌%◌, ◌-◌, ◌<◌, ◌≤◌, min, max, Bool, true, false, cond, ◌&&◌, ◌||◌}
use Rattle.std.proofs.Common.{◌==◌, eqb, List, [], ◌∷◌, ◌++◌, length, get_or, Option, Some, None, ◌⊎◌, inl, inr, refl, sym, ap}
use Rattle.std.proofs.Common.{subst, ◌∙◌, arith, w64, bit_and, add-one, append_assoc, append-nil, ◌^◌, eq-eqb}
use Rattle.std.specs.Prelude.{slice_get}
use Rattle.std.specs.Int.{bit_at, trailing_zeros}
use Rattle.std.specs.List.{list_any}
use Rattle.std.proofs.lemmas.Bool.{false≢true, eqb-true, cases_lt, cases_Bool}
use Rattle.std.proofs.lemmas.Nat.Bits.{bit_at-trailing_zeros, bit_at_and, bit_at-zero, bit_at-lt}
use Rattle.std.proofs.lemmas.Option.{none-some}
use Rattle.jvm_values.proofs.list_views.Items.{get_before}
use Rattle.jvm_values.proofs.Options.{some_is}
use Rattle.abs_cells.specs.PairLists.{pair_of, is_same, has_pair, has}
use Rattle.abs_cells.specs.IdSets.{has_bit, has_id, joins, are_touched}
use Rattle.abs_cells.specs.PackedBits.{row_from, pairs_from, pairs_in, slot_of, row_start, place_of, hit, hit_slots, ArePacked}
use Rattle.abs_cells.specs.inner.PackedRows.{RowMeets, HasSlot, SideMeets, AreBothSet}
use Rattle.abs_cells.proofs.PairLaws.{same_is, or_rest}
use Rattle.abs_cells.proofs.PackedLaws.{packed_rises, packed_has, packed_has_two, place_turned, row_with, row_without, past_slots}
use Rattle.abs_cells.proofs.Checking.{none_from}

-- ---- the pair at a place

row_next : (test : ℕ → Bool) (a b end : ℕ) → b < end → row_from test a b (end - b) ≡ row_from test a b (suc (end - suc b))
row_next test a b end l = let e : end - b ≡ suc (end - suc b) = omega (arith, l) in ap (row_from test a b) e

row_hit : (test : ℕ → Bool) (a b end : ℕ) → b < end → test b ≡ true
    → row_from test a b (end - b) ≡ (a, b) ∷ row_from test a (suc b) (end - suc b)
row_hit test a b end l t = row_next test a b end l ∙ row_with test a b (end - suc b) t

row_miss : (test : ℕ → Bool) (a b end : ℕ) → b < end → test b ≡ false → row_from test a b (end - b) ≡ row_from test a (suc b) (end - suc b)
row_miss test a b end l t = row_next test a b end l ∙ row_without test a b (end - suc b) t

-- the row from `b` on and a place in it stand for the whole row and the place asked
pub record IsInRow (whole : List (ℕ × ℕ)) (n : ℕ) (test : ℕ → Bool) (a b end left : ℕ) : Type 0 where
  pub at : slice_get whole n ≡ slice_get (row_from test a b (end - b)) left
  pub len : n + length (row_from test a b (end - b)) ≡ left + length whole

module _ (whole : List (ℕ × ℕ)) (n : ℕ) (test : ℕ → Bool) (a b end left : ℕ) (l : b < end) (h : IsInRow whole n test a b end left) where
  pub row_found : test b ≡ true → left ≡ 0 → slice_get whole n ≡ Some (a, b)
  row_found t z = h.at ∙ ap (slice_get (row_from test a b (end - b))) z
      ∙ ap (λ (xs : List (ℕ × ℕ)). slice_get xs 0) (row_hit test a b end l t)

  pub row_passed : test b ≡ true → 0 < left → IsInRow whole n test a (b + 1) end (left - 1)
  row_passed t z =
      let e : left ≡ suc (left - 1) = omega (arith, z) in
      let at : slice_get whole n ≡ slice_get (row_from test a (suc b) (end - suc b)) (left - 1) = h.at
      ∙ ap (slice_get (row_from test a b (end - b))) e ∙ ap (λ (xs : List (ℕ × ℕ)). slice_get xs (suc (left - 1)))
      (row_hit test a b end l t) in
      let len : n + length (row_from test a (suc b) (end - suc b)) ≡ (left - 1) + length whole = omega
      (arith, h.len, ap length (row_hit test a b end l t), e) in
      subst (λ (k : ℕ). IsInRow whole n test a k end (left - 1)) (sym (add-one b)) (record { at = at; len = len })

  pub row_skipped : test b ≡ false → IsInRow whole n test a (b + 1) end left
  row_skipped t =
      subst (λ (k : ℕ). IsInRow whole n test a k end left) (sym (add-one b)) (record {
        at = h.at ∙ ap (λ (xs : List (ℕ × ℕ)). slice_get xs left) (row_miss test a b end l t);
        len = ap (λ (xs : List (ℕ × ℕ)). n + length xs) (sym (row_miss test a b end l t)) ∙ h.len;
      })

pub row_goes_on : (whole : List (ℕ × ℕ)) (n : ℕ) (test : ℕ → Bool) (a b end left rest : ℕ) → b < end
    → IsInRow whole n test a b end left → left ≡ rest + cond (test b) 1 0 → IsInRow whole n test a (b + 1) end rest
row_goes_on whole n test a b end left rest l h e = elim (cases_Bool (test b)) [
  | inl t ↦
      let is : left ≡ rest + 1 = e ∙ ap (λ (c : Bool). rest + cond c 1 0) t in
      let down : left - 1 ≡ rest = omega (arith, is) in
      subst (λ (k : ℕ). IsInRow whole n test a (b + 1) end k) down (row_passed whole n test a b end left l h t (omega (arith, is)))
  | inr t ↦
      let is : left ≡ rest + 0 = e ∙ ap (λ (c : Bool). rest + cond c 1 0) t in
      let same : left ≡ rest = omega (arith, is) in
      subst (λ (k : ℕ). IsInRow whole n test a (b + 1) end k) same (row_skipped whole n test a b end left l h t)
]

get_back : (xs ys : List (ℕ × ℕ)) (n left : ℕ) → n ≡ left + length xs → slice_get (xs ++ ys) n ≡ slice_get ys left
get_back [] ys n left e = ap (slice_get ys) (omega (arith, e))
get_back (x ∷ xs) ys zero left e = absurd (omega (arith, e))
get_back (x ∷ xs) ys (suc n) left e = get_back xs ys n left (omega (arith, e))

rows_next : (holds : ℕ → ℕ → Bool) (a end : ℕ) → a < end
    → pairs_from holds a (end - a) ≡ row_from (holds a) a (suc a) (end - suc a) ++ pairs_from holds (suc a) (end - suc a)
rows_next holds a end l = let e : end - a ≡ suc (end - suc a) = omega (arith, l) in ap (pairs_from holds a) e

pub nth_found : (holds : ℕ → ℕ → Bool) (whole : List (ℕ × ℕ)) (n a b end left : ℕ) → a < end
    → slice_get whole n ≡ slice_get (pairs_from holds a (end - a)) left
    → slice_get (row_from (holds a) a (suc a) (end - suc a)) left ≡ Some (a, b) → Some (a, b) ≡ slice_get whole n
nth_found holds whole n a b end left l h f =
    sym (h ∙ ap (λ (xs : List (ℕ × ℕ)). slice_get xs left) (rows_next holds a end l)
    ∙ get_before (row_from (holds a) a (suc a) (end - suc a)) (pairs_from holds (suc a) (end - suc a)) left (a, b) f)

pub nth_later : (holds : ℕ → ℕ → Bool) (whole : List (ℕ × ℕ)) (n a end left rest : ℕ) → a < end
    → slice_get whole n ≡ slice_get (pairs_from holds a (end - a)) left
    → left ≡ rest + length (row_from (holds a) a (suc a) (end - suc a))
    → slice_get whole n ≡ slice_get (pairs_from holds (a + 1) (end - (a + 1))) rest
nth_later holds whole n a end left rest l h f =
    h ∙ ap (λ (xs : List (ℕ × ℕ)). slice_get xs left) (rows_next holds a end l)
    ∙ get_back (row_from (holds a) a (suc a) (end - suc a)) (pairs_from holds (suc a) (end - suc a)) left rest f
    ∙ ap (λ (k : ℕ). slice_get (pairs_from holds k (end - k)) rest) (sym (add-one a))

-- ---- the list of all pairs

empty_row : (test : ℕ → Bool) (a b count : ℕ) → ((n : ℕ) → test n ≡ false) → row_from test a b count ≡ []
empty_row test a b zero h = refl
empty_row test a b (suc count) h = row_without test a b count (h b) ∙ empty_row test a (suc b) count h

-- an id with no slot is in no pair
pub nothing_listed : (slots : List (Option ℕ)) (words : List ℕ) (a : ℕ) (xs : List (ℕ × ℕ)) → slot_of slots a ≡ None
    → xs ≡ xs ++ row_from (hit slots words a) a (suc a) (length slots - suc a)
nothing_listed slots words a xs e =
    sym (ap (λ (ys : List (ℕ × ℕ)). xs ++ ys)
    (empty_row (hit slots words a) a (suc a) (length slots - suc a)
    (λ b. ap (λ (u : Option ℕ). hit_slots words u (slot_of slots b)) e)) ∙ append-nil xs)

module _ (test : ℕ → Bool) (a b end : ℕ) (xs ys whole : List (ℕ × ℕ)) (l : b < end) (h : xs ++ row_from test a b (end - b) ≡ whole) where
  next_in : ys ++ row_from test a (b + 1) (end - (b + 1)) ≡ ys ++ row_from test a (suc b) (end - suc b)
  next_in = ap (λ (n : ℕ). ys ++ row_from test a n (end - n)) (add-one b)

  pub row_listed : (t : Bool) → t ≡ test b → ys ≡ cond t (xs ++ (a, b) ∷ []) xs → ys ++ row_from test a (b + 1) (end - (b + 1)) ≡ whole
  row_listed true e k =
      next_in ∙ ap (λ (zs : List (ℕ × ℕ)). zs ++ row_from test a (suc b) (end - suc b)) k
      ∙ append_assoc xs ((a, b) ∷ []) (row_from test a (suc b) (end - suc b))
      ∙ ap (λ (zs : List (ℕ × ℕ)). xs ++ zs) (sym (row_hit test a b end l (sym e))) ∙ h
  row_listed false e k =
      next_in ∙ ap (λ (zs : List (ℕ × ℕ)). zs ++ row_from test a (suc b) (end - suc b)) k
      ∙ ap (λ (zs : List (ℕ × ℕ)). xs ++ zs) (sym (row_miss test a b end l (sym e))) ∙ h

pub rows_listed : (holds : ℕ → ℕ → Bool) (a end : ℕ) (xs ys whole : List (ℕ × ℕ)) → a < end
    → xs ++ pairs_from holds a (end - a) ≡ whole → ys ≡ xs ++ row_from (holds a) a (suc a) (end - suc a)
    → ys ++ pairs_from holds (a + 1) (end - (a + 1)) ≡ whole
rows_listed holds a end xs ys whole l h k =
    ap (λ (n : ℕ). ys ++ pairs_from holds n (end - n)) (add-one a)
    ∙ ap (λ (zs : List (ℕ × ℕ)). zs ++ pairs_from holds (suc a) (end - suc a)) k
    ∙ append_assoc xs (row_from (holds a) a (suc a) (end - suc a)) (pairs_from holds (suc a) (end - suc a))
    ∙ ap (λ (zs : List (ℕ × ℕ)). xs ++ zs) (sym (rows_next holds a end l)) ∙ h

-- ---- words and rows that meet

pub both_from : (a b : ℕ) → a < 2 ^ 64 → (bit_and a b ≡ 0 → ⊥) → bit_and a b ≤ a → AreBothSet a b
both_from a b l d m =
    let h = bit_at-trailing_zeros w64 (bit_and a b) (omega (arith, d)) (omega (arith, l, m)) in
    let both = bit_at_and a b (trailing_zeros w64 (bit_and a b)) in
    record {
      bit = trailing_zeros w64 (bit_and a b);
      low = h.0;
      left = omega (arith, both, h.1, bit_at-lt a (trailing_zeros w64 (bit_and a b)), bit_at-lt b (trailing_zeros w64 (bit_and a b)));
      right = omega (arith, both, h.1, bit_at-lt a (trailing_zeros w64 (bit_and a b)), bit_at-lt b (trailing_zeros w64 (bit_and a b)));
    }

pub not_both_from : (a b : ℕ) → bit_and a b ≡ 0 → AreBothSet a b → ⊥
not_both_from a b e h =
    let z : bit_at (bit_and a b) h.bit ≡ 0 = ap (λ (w : ℕ). bit_at w h.bit) e ∙ bit_at-zero h.bit in
    omega (arith, z, bit_at_and a b h.bit, h.left, h.right)

one_is : (b : ℕ) → eqb b 1 ≡ true → b ≡ 1
one_is b e = eqb-true b 1 e

-- a bit of word `n` of a row is the row's bit, and so in the mask
pub words_meet : (words mask : List ℕ) (start n : ℕ) → AreBothSet (get_or words (start + n) 0) (get_or mask n 0)
    → (t : ℕ) × ((t < 64 * suc n) × ((has_bit words (64 * start + t) ≡ true) × (has_id mask t ≡ true)))
words_meet words mask start n h =
    let t = 64 * n + h.bit in
    let wq : (64 * start + t) / 64 ≡ start + n = omega (arith, h.low) in
    let wr : (64 * start + t) % 64 ≡ h.bit = omega (arith, h.low) in
    let mq : t / 64 ≡ n = omega (arith, h.low) in
    let mr : t % 64 ≡ h.bit = omega (arith, h.low) in
    (t, (omega (arith, h.low), (bits words (64 * start + t) (start + n) h.bit wq wr h.left, bits mask t n h.bit mq mr h.right)))
  where
    bits : (row : List ℕ) (k q r : ℕ) → k / 64 ≡ q → k % 64 ≡ r → bit_at (get_or row q 0) r ≡ 1 → has_bit row k ≡ true
    bits row k q r eq er e = ap (λ (x : ℕ). eqb (bit_at (get_or row x 0) (k % 64)) 1) eq
        ∙ ap (λ (x : ℕ). eqb (bit_at (get_or row q 0) x) 1) er ∙ ap (λ (x : ℕ). eqb x 1) e

-- ---- sets that are touched

any_of : (test : ℕ × ℕ → Bool) (q : ℕ × ℕ) (xs : List (ℕ × ℕ)) → has_pair q xs ≡ true → test q ≡ true → list_any test xs ≡ true
any_of test q [] h k = absurd (false≢true h)
any_of test q (x ∷ xs) h k = elim (cases_Bool (is_same q x)) [
  | inl s ↦ first (test x) (list_any test xs) (sym (ap test (same_is q x s)) ∙ k)
  | inr s ↦ later (test x) (list_any test xs) (any_of test q xs (sym (or_rest (is_same q x) (has_pair q xs) s) ∙ h) k)
]
  where
    first : (a b : Bool) → a ≡ true → (a || b) ≡ true
    first true b e = refl
    first false b e = absurd (false≢true e)

    later : (a b : Bool) → b ≡ true → (a || b) ≡ true
    later true b e = refl
    later false b e = e

joined_left : (a b c d : Bool) → a ≡ true → b ≡ true → ((a && b) || (c && d)) ≡ true
joined_left true true c d e f = refl
joined_left true false c d e f = absurd (false≢true f)
joined_left false b c d e f = absurd (false≢true e)

joined_right : (a b c d : Bool) → c ≡ true → d ≡ true → ((a && b) || (c && d)) ≡ true
joined_right true true c d e f = refl
joined_right true false true true e f = refl
joined_right true false true false e f = absurd (false≢true f)
joined_right true false false d e f = absurd (false≢true e)
joined_right false b true true e f = refl
joined_right false b true false e f = absurd (false≢true f)
joined_right false b false d e f = absurd (false≢true e)

joined_cases : (a b c d : Bool) → ((a && b) || (c && d)) ≡ true → ((a ≡ true) × (b ≡ true)) ⊎ ((c ≡ true) × (d ≡ true))
joined_cases true true c d e = inl (refl, refl)
joined_cases true false true true e = inr (refl, refl)
joined_cases true false true false e = absurd (false≢true e)
joined_cases true false false d e = absurd (false≢true e)
joined_cases false b true true e = inr (refl, refl)
joined_cases false b true false e = absurd (false≢true e)
joined_cases false b false d e = absurd (false≢true e)

-- the sets of slots are those of the ids
pub record AreSlotSets (slots : List (Option ℕ)) (x y xs ys : List ℕ) : Type 0 where
  pub x_all : (a s : ℕ) → slot_of slots a ≡ Some s → has_id x a ≡ true → has_id xs s ≡ true
  pub x_only : (s : ℕ) → has_id xs s ≡ true → HasSlot slots x s
  pub y_all : (a s : ℕ) → slot_of slots a ≡ Some s → has_id y a ≡ true → has_id ys s ≡ true
  pub y_only : (s : ℕ) → has_id ys s ≡ true → HasSlot slots y s

pub turned_sets : (slots : List (Option ℕ)) (x y xs ys : List ℕ) → AreSlotSets slots x y xs ys → AreSlotSets slots y x ys xs
turned_sets slots x y xs ys h = record { x_all = h.y_all; x_only = h.y_only; y_all = h.x_all; y_only = h.x_only }

hit_is : (slots : List (Option ℕ)) (words : List ℕ) (a b s t : ℕ) → slot_of slots a ≡ Some s → slot_of slots b ≡ Some t
    → hit slots words a b ≡ has_bit words (place_of s t)
hit_is slots words a b s t e f = ap (λ (u : Option ℕ). hit_slots words u (slot_of slots b)) e ∙ ap (hit_slots words (Some s)) f

module _ (slots : List (Option ℕ)) (count : ℕ) (words x y xs ys : List ℕ) (h : ArePacked slots count words)
    (sets : AreSlotSets slots x y xs ys) where
  pub side_touches : SideMeets words count xs ys → are_touched x y (pairs_in slots words) ≡ true
  side_touches m =
      let a = sets.x_only m.s m.is_in in
      let b = sets.y_only m.meets.t m.meets.masked in
      let under : m.meets.t < m.s = elim (cases_lt m.meets.t m.s) [
        | inl l ↦ l
        | inr l ↦ absurd (false≢true (sym (h.below m.s m.meets.t m.low l m.meets.low) ∙ m.meets.bit))
      ] in
      let high : max m.s m.meets.t ≡ m.s = omega (arith, under) in
      let low : min m.s m.meets.t ≡ m.meets.t = omega (arith, under) in
      let place : place_of m.s m.meets.t ≡ 64 * row_start m.s + m.meets.t = ap (λ (z : ℕ). 64 * row_start z + min m.s m.meets.t)
      high ∙ ap (λ (z : ℕ). 64 * row_start m.s + z) low in
      let hits : hit slots words a.id b.id ≡ true = hit_is slots words a.id b.id m.s m.meets.t a.slot b.slot
      ∙ ap (has_bit words) place ∙ m.meets.bit in
      let apart : a.id ≡ b.id → ⊥ = λ e. omega (arith, under, some_is (sym b.slot ∙ ap (slot_of slots) (sym e) ∙ a.slot)) in
      let there : has a.id b.id (pairs_in slots words) ≡ true = packed_has_two slots words a.id b.id apart ∙ hits in
      any_of (joins x y) (pair_of a.id b.id) (pairs_in slots words) there (told a.id b.id a.is_in b.is_in)
    where
      told : (a b : ℕ) → has_id x a ≡ true → has_id y b ≡ true → joins x y (pair_of a b) ≡ true
      told a b e f = elim (cases_lt a b) [
        | inl l ↦
            let low : min a b ≡ a = omega (arith, l) in
            let high : max a b ≡ b = omega (arith, l) in
            joined_left (has_id x (min a b)) (has_id y (max a b)) (has_id x (max a b)) (has_id y (min a b)) (ap (has_id x) low ∙ e)
            (ap (has_id y) high ∙ f)
        | inr l ↦
            let low : min a b ≡ b = omega (arith, l) in
            let high : max a b ≡ a = omega (arith, l) in
            joined_right (has_id x (min a b)) (has_id y (max a b)) (has_id x (max a b)) (has_id y (min a b))
            (ap (has_id x) high ∙ e) (ap (has_id y) low ∙ f)
      ]

  -- a pair's bit lies in the row of the one slot or of the other
  side_of : (s t a b : ℕ) → slot_of slots a ≡ Some s → slot_of slots b ≡ Some t → (a ≡ b → ⊥) → has_bit words (place_of s t) ≡ true
      → has_id xs s ≡ true → has_id ys t ≡ true → SideMeets words count xs ys ⊎ SideMeets words count ys xs
  side_of s t a b ea eb d e f g = elim (cases_lt t s) [
    | inl l ↦
        let high : max s t ≡ s = omega (arith, l) in
        let low : min s t ≡ t = omega (arith, l) in
        let place : 64 * row_start s + t ≡ place_of s t = ap (λ (z : ℕ). 64 * row_start z + t) (sym high)
        ∙ ap (λ (z : ℕ). 64 * row_start (max s t) + z) (sym low) in
        inl (record {
          s = s;
          low = h.low a s ea;
          is_in = f;
          meets = record
              { t = t; low = omega (arith, l); bit = ap (has_bit words) place ∙ e; masked = g };
        })
    | inr l ↦
        let high : max s t ≡ t = omega (arith, l) in
        let low : min s t ≡ s = omega (arith, l) in
        let place : 64 * row_start t + s ≡ place_of s t = ap (λ (z : ℕ). 64 * row_start z + s) (sym high)
        ∙ ap (λ (z : ℕ). 64 * row_start (max s t) + z) (sym low) in
        inr (record {
          s = t;
          low = h.low b t eb;
          is_in = g;
          meets = record
              { t = s; low = omega (arith, l); bit = ap (has_bit words) place ∙ e; masked = f };
        })
  ]

  pub none_touched : (SideMeets words count xs ys → ⊥) → (SideMeets words count ys xs → ⊥) → are_touched x y (pairs_in slots words) ≡ false
  none_touched f g = none_from (joins x y) (pairs_in slots words) (packed_rises slots count words h)
      (λ p l m k. never p l (sym (packed_has slots words p l) ∙ k))
    where
      missing : (c d : Option ℕ) (b : Bool) → hit_slots words c d ≡ true
          → ((s t : ℕ) → c ≡ Some s → d ≡ Some t → has_bit words (place_of s t) ≡ true → b ≡ false) → b ≡ false
      missing None d b e k = absurd (false≢true e)
      missing (Some s) None b e k = absurd (false≢true e)
      missing (Some s) (Some t) b e k = k s t refl refl e

      decided : (b : Bool) → (b ≡ true → ⊥) → b ≡ false
      decided true k = absurd (k refl)
      decided false k = refl

      both : (s t a b : ℕ) → slot_of slots a ≡ Some s → slot_of slots b ≡ Some t → (a ≡ b → ⊥) → has_bit words (place_of s t) ≡ true
          → has_id x a ≡ true → has_id y b ≡ true → ⊥
      both s t a b ea eb d e u v = elim (side_of s t a b ea eb d e (sets.x_all a s ea u) (sets.y_all b t eb v)) [
        | inl m ↦ f m
        | inr m ↦ g m
      ]

      never : (p : ℕ × ℕ) → p.0 < p.1 → hit slots words p.0 p.1 ≡ true → joins x y p ≡ false
      never p l k = missing (slot_of slots p.0) (slot_of slots p.1) (joins x y p) k
          (λ s t ea eb e. decided (joins x y p) (λ j. elim (joined_cases (has_id x p.0) (has_id y p.1) (has_id x p.1) (has_id y p.0) j) [
            | inl u ↦ both s t p.0 p.1 ea eb (λ q. omega (arith, l, q)) e u.0 u.1
            | inr u ↦ both t s p.1 p.0 eb ea (λ q. omega (arith, l, q)) (ap (has_bit words) (place_turned t s) ∙ e) u.0 u.1
          ]))

touched_turned : (x y : List ℕ) (ps : List (ℕ × ℕ)) → are_touched y x ps ≡ are_touched x y ps
touched_turned x y [] = refl
touched_turned x y (p ∷ ps) = ap (λ (b : Bool). b || are_touched y x ps)
    (swapped (has_id y p.0) (has_id x p.1) (has_id y p.1) (has_id x p.0)) ∙ ap (λ (b : Bool). joins x y p || b) (touched_turned x y ps)
  where
    swapped : (a b c d : Bool) → ((a && b) || (c && d)) ≡ ((d && c) || (b && a))
    swapped true true true true = refl
    swapped true true true false = refl
    swapped true true false true = refl
    swapped true true false false = refl
    swapped true false true true = refl
    swapped true false true false = refl
    swapped true false false true = refl
    swapped true false false false = refl
    swapped false true true true = refl
    swapped false true true false = refl
    swapped false true false true = refl
    swapped false true false false = refl
    swapped false false true true = refl
    swapped false false true false = refl
    swapped false false false true = refl
    swapped false false false false = refl

pub other_side_touches : (slots : List (Option ℕ)) (count : ℕ) (words x y xs ys : List ℕ) → ArePacked slots count words
    → AreSlotSets slots x y xs ys → SideMeets words count ys xs → are_touched x y (pairs_in slots words) ≡ true
other_side_touches slots count words x y xs ys h sets m = sym (touched_turned x y (pairs_in slots words))
    ∙ side_touches slots count words y x ys xs h (turned_sets slots x y xs ys sets) m

pub row_met : (words mask : List ℕ) (slot start n word : ℕ) → start ≡ row_start slot → n < slot / 64 + 1 → word ≡ get_or mask n 0
    → AreBothSet (get_or words (start + n) 0) word → RowMeets words slot mask
row_met words mask slot start n word s l e h =
    let here : AreBothSet (get_or words (row_start slot + n) 0) (get_or mask n 0) = subst
    (λ (w : ℕ). AreBothSet (get_or words (row_start slot + n) 0) w) e
    (subst (λ (x : ℕ). AreBothSet (get_or words (x + n) 0) word) s h) in
    let m = words_meet words mask (row_start slot) n here in
    record { t = m.0; low = omega (arith, m.1.0, l); bit = m.1.1.0; masked = m.1.1.1 }

pub side_more : (words xs ys : List ℕ) (slot : ℕ) → ((s : ℕ) → s < slot → has_id xs s ≡ true → RowMeets words s ys → ⊥)
    → (has_id xs slot ≡ true → RowMeets words slot ys → ⊥) → (s : ℕ) → s < slot + 1 → has_id xs s ≡ true → RowMeets words s ys → ⊥
side_more words xs ys slot below here s l e m = elim (cases_lt s slot) [
  | inl k ↦ below s k e m
  | inr k ↦
      let is : s ≡ slot = omega (arith, l, k) in
      here (ap (has_id xs) (sym is) ∙ e) (subst (λ (x : ℕ). RowMeets words x ys) is m)
]

-- the sets of slots so far
abbrev pub AreFound : List (Option ℕ) → List ℕ → List ℕ → ℕ → Type 0
AreFound slots set found id = ((a s : ℕ) → a < id → slot_of slots a ≡ Some s → has_id set a ≡ true → has_id found s ≡ true)
    × ((s : ℕ) → has_id found s ≡ true → HasSlot slots set s)

pub found_same : (slots : List (Option ℕ)) (set found : List ℕ) (id : ℕ) → AreFound slots set found id
    → ((s : ℕ) → slot_of slots id ≡ Some s → has_id set id ≡ true → ⊥) → AreFound slots set found (id + 1)
found_same slots set found id h none = (
  λ a s l e k. elim (cases_lt a id) [
    | inl m ↦ h.0 a s m e k
    | inr m ↦
        let is : a ≡ id = omega (arith, l, m) in
        absurd (none s (ap (slot_of slots) (sym is) ∙ e) (ap (has_id set) (sym is) ∙ k))
  ],
  h.1,
)

pub found_more : (slots : List (Option ℕ)) (set found after : List ℕ) (id slot : ℕ) → AreFound slots set found id
    → slot_of slots id ≡ Some slot → has_id set id ≡ true → ((n : ℕ) → has_id after n ≡ ((n == slot) || has_id found n))
    → AreFound slots set after (id + 1)
found_more slots set found after id slot h at has put = (
  λ a s l e k. put s ∙ elim (cases_lt a id) [
    | inl m ↦ or_later (s == slot) (has_id found s) (h.0 a s m e k)
    | inr m ↦
        let is : a ≡ id = omega (arith, l, m) in
        let same : s ≡ slot = some_is (sym e ∙ ap (slot_of slots) is ∙ at) in
        or_first (s == slot) (has_id found s) (eq-eqb s slot same)
  ],
  λ s k. from s (cases_Bool (s == slot)) k,
)
  where
    or_later : (a b : Bool) → b ≡ true → (a || b) ≡ true
    or_later true b e = refl
    or_later false b e = e

    or_first : (a b : Bool) → a ≡ true → (a || b) ≡ true
    or_first true b e = refl
    or_first false b e = absurd (false≢true e)

    from : (s : ℕ) → ((s == slot) ≡ true) ⊎ ((s == slot) ≡ false) → has_id after s ≡ true → HasSlot slots set s
    from s (inl t) k = record { id = id; slot = at ∙ ap Some (sym (eqb-true s slot t)); is_in = has }
    from s (inr t) k = h.1 s (sym (ap (λ (b : Bool). b || has_id found s) t) ∙ sym (put s) ∙ k)

pub slot_in : (slots : List (Option ℕ)) (a s : ℕ) → slot_of slots a ≡ Some s → a < length slots
slot_in slots a s e = elim (cases_lt a (length slots)) [
  | inl l ↦ l
  | inr l ↦ absurd (none-some s (sym (past_slots slots a l) ∙ e))
]

pub decided : (r t : Bool) → (r ≡ true → t ≡ true) → (r ≡ false → t ≡ false) → r ≡ t
decided true t f g = sym (f refl)
decided false t f g = sym (g refl)
