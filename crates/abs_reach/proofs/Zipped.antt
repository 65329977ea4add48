-- Tests of two lists, place by place.
use Rattle.std.proofs.Common.{◌≡◌, ◌≢◌, ◌<◌, ◌≤◌, ◌+◌, ◌∙◌, ◌&&◌, ℕ, zero, suc, Bool, true, false, List, [], ◌∷◌, length, get_or}
use Rattle.std.proofs.Common.{slice_index_or, drop, inl, inr, refl, sym, ap, subst, arith}
use Rattle.std.proofs.lemmas.Bool.{false≢true, and_parts, and_from, cases_eq}
use Rattle.std.proofs.lemmas.List.{drop_all, drop_more}
use Rattle.std.specs.List.{AllZip}
use Rattle.abs_cells.proofs.list_views.Items.{any_default}
use Rattle.abs_reach.specs.abs_sound.Zips.{all_zip}

-- one place more
pub zip_more : {A B : Type 0} (test : A → B → Bool) (xs : List A) (ys : List B) (n : ℕ) (d : A) (e : B) → n < length xs
    → n < length ys → all_zip test (drop n xs) (drop n ys)
    ≡ (test (get_or xs n d) (get_or ys n e) && all_zip test (drop (n + 1) xs) (drop (n + 1) ys))
zip_more test xs ys n d e l m =
    ap (λ zs. all_zip test zs (drop n ys)) (drop_more xs n d l) ∙ ap (λ zs. all_zip test (get_or xs n d ∷ drop (n + 1) xs) zs)
    (drop_more ys n e m)

-- lists of other lengths
pub zip_apart : {A B : Type 0} (test : A → B → Bool) (xs : List A) (ys : List B) → length xs ≢ length ys → all_zip test xs ys ≡ false
zip_apart test [] [] n = absurd (n refl)
zip_apart test [] (y ∷ ys) n = refl
zip_apart test (x ∷ xs) [] n = refl
zip_apart test (x ∷ xs) (y ∷ ys) n = both (test x y) (zip_apart test xs ys (λ e. n (omega (arith, e))))
  where
    both : (b : Bool) {c : Bool} → c ≡ false → (b && c) ≡ false
    both true e = e
    both false e = refl

-- nothing is left
pub zip_end : {A B : Type 0} (test : A → B → Bool) (xs : List A) (ys : List B) (n : ℕ) → length xs ≤ n → length ys ≤ n
    → all_zip test (drop n xs) (drop n ys) ≡ true
zip_end test xs ys n l m = ap (λ zs. all_zip test zs (drop n ys)) (drop_all n xs l) ∙ ap (λ zs. all_zip test [] zs) (drop_all n ys m)

-- the test answers a relation
pub zip_gives : {A B : Type 0} (test : A → B → Bool) (R : A → B → Type 0) → ((x : A) (y : B) → test x y ≡ true → R x y)
    → (xs : List A) (ys : List B) → all_zip test xs ys ≡ true → AllZip R xs ys
zip_gives test R tells [] [] e = tt
zip_gives test R tells [] (y ∷ ys) e = absurd (false≢true e)
zip_gives test R tells (x ∷ xs) [] e = absurd (false≢true e)
zip_gives test R tells (x ∷ xs) (y ∷ ys) e =
    let both = and_parts (test x y) (all_zip test xs ys) e in
    (tells x y both.0, zip_gives test R tells xs ys both.1)

pub zip_given : {A B : Type 0} (test : A → B → Bool) (R : A → B → Type 0) → ((x : A) (y : B) → R x y → test x y ≡ true)
    → (xs : List A) (ys : List B) → AllZip R xs ys → all_zip test xs ys ≡ true
zip_given test R told [] [] z = refl
zip_given test R told [] (y ∷ ys) z = absurd z
zip_given test R told (x ∷ xs) [] z = absurd z
zip_given test R told (x ∷ xs) (y ∷ ys) z = and_from (test x y) (all_zip test xs ys) (told x y z.0) (zip_given test R told xs ys z.1)

-- ---- each item

-- one item more of which something holds
pub one_more : {X : Type 0} (P : X → Type 0) (xs : List X) (i : ℕ) (x : X) → i < length xs → x ≡ slice_index_or xs i x → P x
    → ((k : ℕ) (d : X) → k < i → P (slice_index_or xs k d)) → (k : ℕ) (d : X) → k < i + 1 → P (slice_index_or xs k d)
one_more P xs i x low is p all k d l = elim (cases_eq k i) [
  | inl e ↦ subst P (is ∙ any_default xs i x d low ∙ ap (λ (n : ℕ). slice_index_or xs n d) (sym e)) p
  | inr n ↦ all k d (omega (arith, l, n))
]
