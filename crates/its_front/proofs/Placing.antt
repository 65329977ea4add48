-- Names by their numbers.
use Rattle.std.proofs.Common.{◌≡◌, ◌∙◌, ◌+◌, ◌<◌, ◌≤◌, ℕ, zero, suc, Bool, true, false, not, cond, ltb, List, [], ◌∷◌, length, drop}
use Rattle.std.proofs.Common.{Option, Some, None, refl, sym, ap, arith}
use Rattle.std.specs.Prelude.{position}
use Rattle.std.specs.List.{position_or_len}
use Rattle.std.proofs.lemmas.List.Quantifiers.{position-Some}
use Rattle.list_views.proofs.Options.{cond_guarded, none_from_place}

pub place_within : (test : List ℕ → Bool) (names : List (List ℕ)) (i : ℕ) → position test names ≡ Some i → i < length names
place_within test names i e = (position-Some test names i [] e).0

pub never_past : (test : List ℕ → Bool) (names : List (List ℕ)) → position_or_len test names ≤ length names
never_past test [] = omega arith
never_past test (name ∷ rest) = by (test name) (never_past test rest)
  where
    by : (b : Bool) → position_or_len test rest ≤ length rest → cond (not b) (1 + position_or_len test rest) 0 ≤ suc (length rest)
    by true later = omega arith
    by false later = omega (arith, later)

pub found_number : (test : List ℕ → Bool) (names : List (List ℕ)) (i : ℕ) → position test names ≡ Some i → i ≡ position_or_len test names
found_number test names i e = same (position_or_len test names) i
    (cond_guarded (ltb (position_or_len test names) (length names)) (Some (position_or_len test names)) i e).1
  where
    same : (a b : ℕ) → ◌≡◌ {A = Option ℕ} (Some a) (Some b) → b ≡ a
    same a b e = cc

pub new_number : (test : List ℕ → Bool) (names : List (List ℕ)) → position test names ≡ None → length names ≡ position_or_len test names
new_number test names e =
    let past = none_from_place (position_or_len test names) (length names) e in
    let most = never_past test names in
    omega (arith, past, most)

two_after : {A : Type 0} (n : ℕ) (xs : List A) → drop (suc (suc n)) xs ≡ drop 2 (drop n xs)
two_after zero xs = refl
two_after (suc n) [] = refl
two_after (suc n) (x ∷ xs) = two_after n xs

pub two_more : {A : Type 0} (n : ℕ) (xs : List A) → drop (n + 2) xs ≡ drop 2 (drop n xs)
two_more n xs = let same : n + 2 ≡ suc (suc n) = omega arith in ap (λ (k : ℕ). drop k xs) same ∙ two_after n xs
