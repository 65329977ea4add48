-- The first items that a test refuses: the turns of a loop, and that there is none.
use Rattle.std.proofs.Common.{◌≡◌, ℕ, ◌+◌, ◌<◌, ◌≤◌, Bool, true, false, cond, List, [], ◌∷◌, length, get_or, drop, Option, Some}
use Rattle.std.proofs.Common.{None, refl, sym, ap, ◌∙◌, arith}
use Rattle.std.specs.List.{AllZip}
use Rattle.std.proofs.lemmas.List.{at_drop_more, at_drop_all}
use Rattle.input_desc.specs.Typed.{first_unfit}

-- where none is refused, what a test tells holds of each
pub all_fitting : {A B : Type 0} (test : A → B → Bool) (R : A → B → Type 0) → ((x : A) (y : B) → test x y ≡ true → R x y)
    → (n : ℕ) (xs : List A) (ys : List B) → length ys ≡ length xs → first_unfit test n xs ys ≡ None → AllZip R xs ys
all_fitting test R tells n [] [] l e = tt
all_fitting test R tells n [] (y ∷ ys) l e = absurd (omega (arith, l))
all_fitting test R tells n (x ∷ xs) [] l e = absurd (omega (arith, l))
all_fitting test R tells n (x ∷ xs) (y ∷ ys) l e = go (all_fitting test R tells (n + 1) xs ys (omega (arith, l))) (test x y) refl e
  where
    go : (first_unfit test (n + 1) xs ys ≡ None → AllZip R xs ys) → (b : Bool) → test x y ≡ b
        → cond b (first_unfit test (n + 1) xs ys) (Some n) ≡ None → R x y × AllZip R xs ys
    go rest true q f = (tells x y q, rest f)
    go rest false q f = absurd cc
