-- Tests of the items of two lists, place by place.
use Rattle.std.specs.Prelude.{Bool, true, false, ◌&&◌, List, [], ◌∷◌}

-- two lists are of one length, and the items at each place meet a test
abbrev pub all_zip : {A B : Type 0} → (A → B → Bool) → List A → List B → Bool
all_zip test [] [] = true
all_zip test [] (y ∷ ys) = false
all_zip test (x ∷ xs) [] = false
all_zip test (x ∷ xs) (y ∷ ys) = test x y && all_zip test xs ys
