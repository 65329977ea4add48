-- What the test whether pairs are among others tells, of rising lists and of bits.
use Rattle.std.proofs.Common.{◌≡◌, ℕ, zero, suc, ◌+◌, ◌<◌, ◌≤◌, Bool, true, false, ◌||◌, List, [], ◌∷◌, length, get_or, drop}
use Rattle.std.proofs.Common.{Option, Some, inl, inr, ◌↔◌, refl, sym, ap, subst, ◌∙◌, arith, drop-cons, add-one}
use Rattle.std.specs.Prelude.{slice_get}
use Rattle.std.proofs.lemmas.Bool.{false≢true, cases_lt, cases_eq, cases_Bool, or_left}
use Rattle.std.proofs.lemmas.Option.{slice_get_within, get_or_from_slice_get}
use Rattle.std.proofs.lemmas.List.{drop_all}
use Rattle.abs_cells.specs.PairLists.{pair_of, is_same, IsRising, has_pair, AreAmong}
use Rattle.abs_cells.specs.PackedBits.{hit, pairs_in, ArePacked}
use Rattle.abs_cells.specs.inner.PackedRows.{IsRowAmong}
use Rattle.abs_cells.proofs.PairLaws.{Before, never_both, never_itself, same_is, is_same_from, not_same, or_rest, behind_first}
use Rattle.abs_cells.proofs.PackedLaws.{packed_rises, past_slots, packed_has, packed_has_two}
use Rattle.abs_cells.proofs.PackedCalls.{left_no_hit}
use Rattle.abs_cells.proofs.Checking.{low_pair}

-- ---- rising lists

pub is_low : (p : ℕ × ℕ) (xs : List (ℕ × ℕ)) → IsRising xs → has_pair p xs ≡ true → p.0 < p.1
is_low p [] r h = absurd (false≢true h)
is_low p (x ∷ xs) r h = elim (cases_Bool (is_same p x)) [
  | inl s ↦ subst (λ (q : ℕ × ℕ). q.0 < q.1) (sym (same_is p x s)) r.0.0
  | inr s ↦ is_low p xs r.1.1 (sym (or_rest (is_same p x) (has_pair p xs) s) ∙ h)
]

-- all pairs of the one list stand in the other
abbrev pub AreAllIn : List (ℕ × ℕ) → List (ℕ × ℕ) → Type 0
AreAllIn some others = (p : ℕ × ℕ) → has_pair p some ≡ true → has_pair p others ≡ true

all_in : (some others : List (ℕ × ℕ)) → IsRising some → AreAmong some others → AreAllIn some others
all_in some others r h p k =
    let l = is_low p some r k in
    sym (ap (λ (q : ℕ × ℕ). has_pair q others) (low_pair p l)) ∙ h p.0 p.1 (ap (λ (q : ℕ × ℕ). has_pair q some) (low_pair p l) ∙ k)

both_first : (x : ℕ × ℕ) (xs ys : List (ℕ × ℕ)) → IsRising (x ∷ xs) → (AreAllIn (x ∷ xs) (x ∷ ys) ↔ AreAllIn xs ys)
both_first x xs ys r = (there, back)
  where
    there : AreAllIn (x ∷ xs) (x ∷ ys) → AreAllIn xs ys
    there h p k =
        let n = not_same p x (λ e. never_itself x p (sym e) (behind_first x p xs r.1.0 r.1.1 k)) in
        sym (or_rest (is_same p x) (has_pair p ys) n) ∙ h p (or_rest (is_same p x) (has_pair p xs) n ∙ k)

    back : AreAllIn xs ys → AreAllIn (x ∷ xs) (x ∷ ys)
    back h p k = elim (cases_Bool (is_same p x)) [
      | inl s ↦ or_left (is_same p x) (has_pair p ys) s
      | inr s ↦ or_rest (is_same p x) (has_pair p ys) s ∙ h p (sym (or_rest (is_same p x) (has_pair p xs) s) ∙ k)
    ]

other_first : (x y : ℕ × ℕ) (xs ys : List (ℕ × ℕ)) → IsRising (x ∷ xs) → IsRising (y ∷ ys) → (x ≡ y → ⊥)
    → (AreAllIn (x ∷ xs) (y ∷ ys) ↔ AreAllIn (x ∷ xs) ys)
other_first x y xs ys r q d = (there, back)
  where
    there : AreAllIn (x ∷ xs) (y ∷ ys) → AreAllIn (x ∷ xs) ys
    there h p k = elim (cases_Bool (is_same p y)) [
      | inl s ↦
          let n = not_same p x (λ e. d (sym e ∙ same_is p y s)) in
          let up = behind_first x p xs r.1.0 r.1.1 (sym (or_rest (is_same p x) (has_pair p xs) n) ∙ k) in
          let first = h x (or_left (is_same x x) (has_pair x xs) (is_same_from x x refl)) in
          let down = behind_first y x ys q.1.0 q.1.1 (sym (or_rest (is_same x y) (has_pair x ys) (not_same x y d)) ∙ first) in
          absurd (never_both x y (subst (λ (z : ℕ × ℕ). Before x z) (same_is p y s) up) down)
      | inr s ↦ sym (or_rest (is_same p y) (has_pair p ys) s) ∙ h p k
    ]

    later : (s t : Bool) → t ≡ true → (s || t) ≡ true
    later true t e = refl
    later false t e = e

    back : AreAllIn (x ∷ xs) ys → AreAllIn (x ∷ xs) (y ∷ ys)
    back h p k = later (is_same p y) (has_pair p ys) (h p k)

rising_drop : (n : ℕ) (xs : List (ℕ × ℕ)) → IsRising xs → IsRising (drop n xs)
rising_drop zero xs r = r
rising_drop (suc n) [] r = r
rising_drop (suc n) (x ∷ xs) r = rising_drop n xs r.1.1

first_of_drop : (n : ℕ) (xs : List (ℕ × ℕ)) → slice_get xs n ≡ slice_get (drop n xs) 0
first_of_drop zero xs = refl
first_of_drop (suc n) [] = refl
first_of_drop (suc n) (x ∷ xs) = first_of_drop n xs

-- what is left of both lists tells what the whole lists do
abbrev pub IsLeft : List (ℕ × ℕ) → List (ℕ × ℕ) → ℕ → ℕ → Type 0
IsLeft some others n k = AreAllIn (drop n some) (drop k others) ↔ AreAllIn some others

pub all_left : (some others : List (ℕ × ℕ)) → IsLeft some others 0 0
all_left some others = (λ h. h, λ h. h)

pub met_one : (some others : List (ℕ × ℕ)) (n k : ℕ) (d : ℕ × ℕ) → IsRising some → k < length others
    → slice_get some n ≡ Some (get_or others k d) → IsLeft some others n k → IsLeft some others (n + 1) (k + 1)
met_one some others n k d r l e h =
    let x = get_or others k d in
    let a : drop n some ≡ x ∷ drop (suc n) some = drop-cons some n d (slice_get_within some n x e)
    ∙ ap (λ (y : ℕ × ℕ). y ∷ drop (suc n) some) (get_or_from_slice_get some n x d e) in
    let b : drop k others ≡ x ∷ drop (suc k) others = drop-cons others k d l in
    let both = both_first x (drop (suc n) some) (drop (suc k) others) (subst IsRising a (rising_drop n some r)) in
    let at : AreAllIn (x ∷ drop (suc n) some) (x ∷ drop (suc k) others) ↔ AreAllIn some others =
    subst (λ (ys : List (ℕ × ℕ)). AreAllIn (x ∷ drop (suc n) some) ys ↔ AreAllIn some others) b
    (subst (λ (xs : List (ℕ × ℕ)). AreAllIn xs (drop k others) ↔ AreAllIn some others) a h) in
    subst (λ (i : ℕ). IsLeft some others i (k + 1)) (sym (add-one n))
    (subst (λ (i : ℕ). IsLeft some others (suc n) i) (sym (add-one k)) (λ m. at.0 (both.1 m), λ w. both.0 (at.1 w)))

pub passed_one : (some others : List (ℕ × ℕ)) (n k : ℕ) (d : ℕ × ℕ) → IsRising some → IsRising others → k < length others
    → (slice_get some n ≡ Some (get_or others k d) → ⊥) → IsLeft some others n k → IsLeft some others n (k + 1)
passed_one some others n k d r q l m h = subst (λ (i : ℕ). IsLeft some others n i) (sym (add-one k)) (go (drop n some) refl)
  where
    y : ℕ × ℕ
    y = get_or others k d

    b : drop k others ≡ y ∷ drop (suc k) others
    b = drop-cons others k d l

    at : AreAllIn (drop n some) (y ∷ drop (suc k) others) ↔ AreAllIn some others
    at = subst (λ (ys : List (ℕ × ℕ)). AreAllIn (drop n some) ys ↔ AreAllIn some others) b h

    go : (xs : List (ℕ × ℕ)) → drop n some ≡ xs → IsLeft some others n (suc k)
    go [] e = (
      λ w. at.0 (subst (λ (zs : List (ℕ × ℕ)). AreAllIn zs (y ∷ drop (suc k) others)) (sym e) (λ p f. absurd (false≢true f))),
      λ w. subst (λ (zs : List (ℕ × ℕ)). AreAllIn zs (drop (suc k) others)) (sym e) (λ p f. absurd (false≢true f)),
    )
    go (x ∷ xs) e =
        let apart : x ≡ y → ⊥ = λ s. m (first_of_drop n some ∙ ap (λ (zs : List (ℕ × ℕ)). slice_get zs 0) e ∙ ap Some s) in
        let both = other_first x y xs (drop (suc k) others) (subst IsRising e (rising_drop n some r))
        (subst IsRising b (rising_drop k others q)) apart in (
          λ w. at.0 (subst (λ (zs : List (ℕ × ℕ)). AreAllIn zs (y ∷ drop (suc k) others)) (sym e)
              (both.1 (subst (λ (zs : List (ℕ × ℕ)). AreAllIn zs (drop (suc k) others)) e w))),
          λ w. subst (λ (zs : List (ℕ × ℕ)). AreAllIn zs (drop (suc k) others)) (sym e)
              (both.0 (subst (λ (zs : List (ℕ × ℕ)). AreAllIn zs (y ∷ drop (suc k) others)) e (at.1 w))),
        )

is_all : (n : ℕ) (xs : List (ℕ × ℕ)) → AreAllIn (drop n xs) [] → length xs ≤ n
is_all zero [] h = omega arith
is_all zero (x ∷ xs) h = absurd (false≢true (h x (or_left (is_same x x) (has_pair x xs) (is_same_from x x refl))))
is_all (suc n) [] h = omega arith
is_all (suc n) (x ∷ xs) h = omega (arith, is_all n xs h)

pub list_answer : (some others : List (ℕ × ℕ)) (n k : ℕ) → IsRising some → n ≤ length some → length others ≤ k
    → IsLeft some others n k → ((n ≡ length some → AreAmong some others) × (AreAmong some others → n ≡ length some))
list_answer some others n k r l m h = (yes, back)
  where
    e : drop k others ≡ []
    e = drop_all k others m

    yes : n ≡ length some → AreAmong some others
    yes s a b g = h.0 (subst (λ (zs : List (ℕ × ℕ)). AreAllIn zs (drop k others)) (sym (drop_all n some (omega (arith, s))))
        (λ p f. absurd (false≢true f))) (pair_of a b) g

    back : AreAmong some others → n ≡ length some
    back w =
        let u : length some ≤ n = is_all n some
        (subst (λ (zs : List (ℕ × ℕ)). AreAllIn (drop n some) zs) e (h.1 (all_in some others r w))) in
        omega (arith, l, u)

-- ---- bits

pub rows_more : (some others : ℕ → ℕ → Bool) (n : ℕ) → ((a : ℕ) → a < n → IsRowAmong some others a) → IsRowAmong some others n
    → (a : ℕ) → a < n + 1 → IsRowAmong some others a
rows_more some others n h k a l = elim (cases_eq a n) [
  | inl e ↦ subst (λ (c : ℕ). IsRowAmong some others c) (sym e) k
  | inr d ↦ h a (omega (arith, l, d))
]

module _ (slots : List (Option ℕ)) (count : ℕ) (words : List ℕ) (others_slots : List (Option ℕ)) (others_words : List ℕ) where
  pub all_rows : ArePacked slots count words → (n : ℕ) → length slots ≤ n
      → ((a : ℕ) → a < n → IsRowAmong (hit slots words) (hit others_slots others_words) a)
      → AreAmong (pairs_in slots words) (pairs_in others_slots others_words)
  all_rows r n m h a b e =
      let p = pair_of a b in
      let l = is_low p (pairs_in slots words) (packed_rises slots count words r) e in
      let k : hit slots words p.0 p.1 ≡ true = sym (packed_has slots words p l) ∙ e in
      packed_has others_slots others_words p l ∙ elim (cases_lt p.0 n) [
        | inl i ↦ h p.0 i p.1 l k
        | inr i ↦ absurd (false≢true (sym (left_no_hit slots words p.0 p.1 (past_slots slots p.0 (omega (arith, m, i)))) ∙ k))
      ]

  pub row_of_all : AreAmong (pairs_in slots words) (pairs_in others_slots others_words) → (a : ℕ)
      → IsRowAmong (hit slots words) (hit others_slots others_words) a
  row_of_all h a b l e =
      let d : a ≡ b → ⊥ = λ s. omega (arith, s, l) in
      sym (packed_has_two others_slots others_words a b d) ∙ h a b (packed_has_two slots words a b d ∙ e)
