-- Tests that are true.
use Rattle.std.proofs.Common.{◌≡◌, Bool, true, false, ◌&&◌, ◌||◌, not, List, [], ◌∷◌, ◌++◌, refl, ap, ◌∙◌}
use Rattle.std.specs.List.{list_all}

pub both : (a b : Bool) → (a && b) ≡ true → (a ≡ true) × (b ≡ true)
both true b h = (refl, h)
both false b h = absurd cc

pub neither : (a b : Bool) → (a || b) ≡ false → (a ≡ false) × (b ≡ false)
neither true b h = absurd cc
neither false b h = (refl, h)

pub not_true : (a : Bool) → not a ≡ true → a ≡ false
not_true true h = absurd cc
not_true false h = refl

pub all_left : {A : Type 0} (test : A → Bool) (xs ys : List A) → list_all test (xs ++ ys) ≡ true → list_all test xs ≡ true
all_left test [] ys h = refl
all_left test (x ∷ xs) ys h =
    let one = both (test x) (list_all test (xs ++ ys)) h in
    ap (λ (b : Bool). b && list_all test xs) one.0 ∙ all_left test xs ys one.1

pub all_right : {A : Type 0} (test : A → Bool) (xs ys : List A) → list_all test (xs ++ ys) ≡ true → list_all test ys ≡ true
all_right test [] ys h = h
all_right test (x ∷ xs) ys h = all_right test xs ys (both (test x) (list_all test (xs ++ ys)) h).1

pub all_append : {A : Type 0} (test : A → Bool) (xs ys : List A) → list_all test xs ≡ true → list_all test ys ≡ true
    → list_all test (xs ++ ys) ≡ true
all_append test [] ys h k = k
all_append test (x ∷ xs) ys h k =
    let one = both (test x) (list_all test xs) h in
    ap (λ (b : Bool). b && list_all test (xs ++ ys)) one.0 ∙ all_append test xs ys one.1 k
