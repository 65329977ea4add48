-- The least of ids of which something does not hold.
use Rattle.std.proofs.Common.{◌≡◌, ℕ, zero, suc, ◌+◌, ◌<◌, ◌≤◌, Bool, true, false, List, [], ◌∷◌, length, get_or, Option, Some}
use Rattle.std.proofs.Common.{None, slice_get, inl, inr, refl, sym, ap, subst, ◌∙◌, arith, cond, ltb}
use Rattle.std.proofs.lemmas.Bool.{cases_lt, false≢true, ltb-true, lt-ltb}
use Rattle.std.proofs.lemmas.Option.{slice_get_past, slice_get-get_or, none-some}
use Rattle.std.specs.Prelude.{map}
use Rattle.std.specs.Option.{option_map, option_and_then}
use Rattle.jvm_values.proofs.Options.{some_is}
use Rattle.abs_cells.specs.declared.cells.Cell.{Cell}
use Rattle.abs_cells.specs.AbstractStates.{AbstractFrame}
use Rattle.abs_cells.specs.Cells.{cell_in, is_of_sort}
use Rattle.abs_match.specs.inner.Matching.{IsLeastOf, lower_of, HasImage, PlacesMeet, FirstMeet, FirstSame, local_at, FrameMeets}
use Rattle.abs_match.specs.inner.Matching.{FramesMeet, EntryMeets}

-- the same of what holds of the same ids
pub turned : (M N : ℕ → Type 0) (r : Option ℕ) → ((id : ℕ) → M id → N id) → ((id : ℕ) → N id → M id) → IsLeastOf M r → IsLeastOf N r
turned M N None to from l = λ id. to id (l id)
turned M N (Some x) to from l = (λ n. l.0 (from x n), λ lower low. to lower (l.1 lower low))

-- the lower of two is the least of both
pub both : (M N : ℕ → Type 0) (r s : Option ℕ) → IsLeastOf M r → IsLeastOf N s → IsLeastOf (λ id. M id × N id) (lower_of r s)
both M N None None m n = λ id. (m id, n id)
both M N None (Some y) m n = (λ p. n.0 p.1, λ lower low. (m lower, n.1 lower low))
both M N (Some x) None m n = (λ p. m.0 p.0, λ lower low. (m.1 lower low, n lower))
both M N (Some x) (Some y) m n = go (ltb x y) refl
  where
    later : ltb x y ≡ false → y ≤ x
    later e = elim (cases_lt x y) [
      | inl l ↦ absurd (false≢true (sym e ∙ lt-ltb x y l))
      | inr l ↦ omega (arith, l)
    ]

    go : (t : Bool) → ltb x y ≡ t → IsLeastOf (λ id. M id × N id) (cond t (Some x) (Some y))
    go true e = let l = ltb-true x y e in (λ p. m.0 p.0, λ lower low. (m.1 lower low, n.1 lower (omega (arith, low, l))))
    go false e = let l = later e in (λ p. n.0 p.1, λ lower low. (m.1 lower (omega (arith, low, l)), n.1 lower low))

-- ---- numbered items, one after another

module _ (asks : ℕ → ℕ → Type 0) where
  pub next_asked : (i : ℕ) (r item : Option ℕ) → IsLeastOf (FirstMeet asks i) r → IsLeastOf (asks i) item
      → IsLeastOf (FirstMeet asks (i + 1)) (lower_of r item)
  next_asked i r item h one =
      turned (λ id. FirstMeet asks i id × asks i id) (FirstMeet asks (i + 1)) (lower_of r item)
      (λ id p n low. elim (cases_lt n i) [
        | inl l ↦ p.0 n l
        | inr l ↦ subst (λ (k : ℕ). asks k id) (omega (arith, low, l)) p.1
      ])
      (λ id all. (λ n low. all n (omega (arith, low)), all i (omega arith)))
      (both (FirstMeet asks i) (asks i) r item h one)

  -- all of them ask what is to hold
  pub all_asked : (meets : ℕ → Type 0) (count : ℕ) (r : Option ℕ) → ((id : ℕ) → FirstMeet asks count id → meets id)
      → ((id : ℕ) → meets id → FirstMeet asks count id) → IsLeastOf (FirstMeet asks count) r → IsLeastOf meets r
  all_asked meets count r to from h = turned (FirstMeet asks count) meets r to from h

-- what is asked of an id and of what is found, by other names
pub as_asked : (entries : List (ℕ × ℕ)) (x y found there : Option ℕ) (r : Option ℕ) → x ≡ y → found ≡ there
    → IsLeastOf (λ m. x ≡ Some m → HasImage entries m found) r → IsLeastOf (λ m. y ≡ Some m → HasImage entries m there) r
as_asked entries x y found there r e f h =
    subst (λ (a : Option ℕ). IsLeastOf (λ m. a ≡ Some m → HasImage entries m there) r) e
    (subst (λ (b : Option ℕ). IsLeastOf (λ m. x ≡ Some m → HasImage entries m b) r) f h)

-- places past the end have no id
pub places_past : (entries : List (ℕ × ℕ)) (theirs ours : ℕ → Option ℕ) (count : ℕ) (r : Option ℕ)
    → ((n : ℕ) → count ≤ n → theirs n ≡ None)
    → IsLeastOf (FirstMeet (λ n id. theirs n ≡ Some id → HasImage entries id (ours n)) count) r
    → IsLeastOf (PlacesMeet entries theirs ours) r
places_past entries theirs ours count r past h =
    turned (FirstMeet (λ n id. theirs n ≡ Some id → HasImage entries id (ours n)) count) (PlacesMeet entries theirs ours) r
    (λ id all n e. elim (cases_lt n count) [
      | inl l ↦ all n l e
      | inr l ↦ absurd (none-some id (sym (past n (omega (arith, l))) ∙ e))
    ])
    (λ id all n low e. all n e)
    h

-- ---- two lists with the same values

module _ {A B X : Type 0} (f : A → X) (g : B → X) where
  values_at : {C : Type 0} (h : C → X) (xs : List C) (n : ℕ) (d : C) → n < length xs
      → option_map h (slice_get xs n) ≡ Some (h (get_or xs n d))
  values_at h xs n d low = ap (option_map h) (slice_get-get_or xs n d low)

  pub no_values_yet : (xs : List A) (ys : List B) → FirstSame f g xs ys 0
  no_values_yet xs ys n low = absurd (omega (arith, low))

  pub next_value : (xs : List A) (ys : List B) (i : ℕ) (d : A) (e : B) → i < length xs → i < length ys
      → f (get_or xs i d) ≡ g (get_or ys i e) → FirstSame f g xs ys i → FirstSame f g xs ys (i + 1)
  next_value xs ys i d e lx ly same h n low = elim (cases_lt n i) [
    | inl l ↦ h n l
    | inr l ↦
        let is : n ≡ i = omega (arith, low, l) in
        subst (λ (k : ℕ). option_map f (slice_get xs k) ≡ option_map g (slice_get ys k)) (sym is)
        (values_at f xs i d lx ∙ ap Some same ∙ sym (values_at g ys i e ly))
  ]

  pub all_values : (xs : List A) (ys : List B) (count : ℕ) → length xs ≡ length ys → length xs ≤ count → FirstSame f g xs ys count
      → map f xs ≡ map g ys
  all_values [] [] count l m h = refl
  all_values [] (y ∷ ys) count l m h = absurd (omega (arith, l))
  all_values (x ∷ xs) [] count l m h = absurd (omega (arith, l))
  all_values (x ∷ xs) (y ∷ ys) zero l m h = absurd (omega (arith, m))
  all_values (x ∷ xs) (y ∷ ys) (suc count) l m h =
      ap (λ (z : X). z ∷ map f xs) (some_is (h 0 (omega arith)))
      ∙ ap (λ (zs : List X). g y ∷ zs)
      (all_values xs ys count (omega (arith, l)) (omega (arith, m)) (λ n low. h (suc n) (omega (arith, low))))

  pub value_differs : (xs : List A) (ys : List B) (i : ℕ) (d : A) (e : B) → i < length xs → i < length ys
      → (f (get_or xs i d) ≡ g (get_or ys i e) → ⊥) → map f xs ≡ map g ys → ⊥
  value_differs [] ys i d e lx ly n h = absurd (omega (arith, lx))
  value_differs (x ∷ xs) [] i d e lx ly n h = absurd (omega (arith, ly))
  value_differs (x ∷ xs) (y ∷ ys) zero d e lx ly n h = n (some_is (ap (λ (zs : List X). slice_get zs 0) h))
  value_differs (x ∷ xs) (y ∷ ys) (suc i) d e lx ly n h = value_differs xs ys i d e (omega (arith, lx)) (omega (arith, ly)) n
      (ap (λ (zs : List X). tail_of zs) h)
    where
      tail_of : List X → List X
      tail_of [] = []
      tail_of (z ∷ zs) = zs

  pub lengths_agree : (xs : List A) (ys : List B) → map f xs ≡ map g ys → length xs ≡ length ys
  lengths_agree [] [] h = refl
  lengths_agree [] (y ∷ ys) h = absurd (cc)
  lengths_agree (x ∷ xs) [] h = absurd (cc)
  lengths_agree (x ∷ xs) (y ∷ ys) h = ap suc (lengths_agree xs ys (ap (λ (zs : List X). tail_of zs) h))
    where
      tail_of : List X → List X
      tail_of [] = []
      tail_of (z ∷ zs) = zs

-- ---- the ends of loops

pub no_local_past : (locals : List (Option ℕ)) (count : ℕ) → length locals ≤ count → (n : ℕ) → count ≤ n → local_at locals n ≡ None
no_local_past locals count l n m = ap (option_and_then (λ (id : Option ℕ). id)) (slice_get_past locals n (omega (arith, l, m)))

pub no_entry_past : (stack : List ℕ) (count : ℕ) → length stack ≤ count → (n : ℕ) → count ≤ n → slice_get stack n ≡ None
no_entry_past stack count l n m = slice_get_past stack n (omega (arith, l, m))

pub local_is : (locals : List (Option ℕ)) (n : ℕ) → n < length locals → get_or locals n None ≡ local_at locals n
local_is locals n low = sym (ap (option_and_then (λ (id : Option ℕ). id)) (slice_get-get_or locals n None low))

pub entry_is : (stack : List ℕ) (n : ℕ) → n < length stack → Some (get_or stack n 0) ≡ slice_get stack n
entry_is stack n low = sym (slice_get-get_or stack n 0 low)

-- ---- frames and cells, one by one

pub frame_asked : (entries : List (ℕ × ℕ)) (theirs ours : List AbstractFrame) (f : ℕ) (t o : AbstractFrame) (r : Option ℕ)
    → slice_get theirs f ≡ Some t → slice_get ours f ≡ Some o → IsLeastOf (FrameMeets entries t o) r
    → IsLeastOf (FramesMeet entries theirs ours f) r
frame_asked entries theirs ours f t o r e g h =
    turned (FrameMeets entries t o) (FramesMeet entries theirs ours f) r
    (λ id m t2 o2 e2 g2. subst (λ (x : AbstractFrame). FrameMeets entries x o2 id) (some_is (sym e ∙ e2))
    (subst (λ (y : AbstractFrame). FrameMeets entries t y id) (some_is (sym g ∙ g2)) m))
    (λ id m. m t o e g)
    h

-- what an entry of a map asks, said of its key and its image
pub entry_asked : (given : List (ℕ × Cell)) (entries : List (ℕ × ℕ)) (i : ℕ) (d : ℕ × ℕ) (r : Option ℕ) → i < length entries
    → IsLeastOf (λ n. n ≡ (get_or entries i d).0 → is_of_sort (λ _. true) (cell_in given (get_or entries i d).1) ≡ true) r
    → IsLeastOf (EntryMeets given entries i) r
entry_asked given entries i d r low h =
    let e = get_or entries i d in
    let there : slice_get entries i ≡ Some e = slice_get-get_or entries i d low in
    turned (λ n. n ≡ e.0 → is_of_sort (λ _. true) (cell_in given e.1) ≡ true) (EntryMeets given entries i) r
    (λ id m entry at is.
    let same : e ≡ entry = some_is (sym there ∙ at) in
    subst (λ (x : ℕ × ℕ). is_of_sort (λ _. true) (cell_in given x.1) ≡ true) same (m (sym is ∙ ap (λ (x : ℕ × ℕ). x.0) (sym same))))
    (λ id all is. all e there (sym is))
    h
