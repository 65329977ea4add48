-- Searches in a mapped list.
use Rattle.std.proofs.Common.{◌≡◌, suc, ◌||◌, Some, None, ◌+◌, Bool, true, false, not, cond, ltb, List, [], ◌∷◌, length, refl, ap, ◌∙◌}
use Rattle.std.specs.Prelude.{map, position}
use Rattle.std.specs.List.{list_any, prefix_len}
use Rattle.list_views.proofs.Items.{length_mapped}

pub any-map : {A B : Type 0} (p : B → Bool) (f : A → B) (xs : List A) → list_any p (map f xs) ≡ list_any (λ x. p (f x)) xs
any-map p f [] = refl
any-map p f (x ∷ xs) = ap (λ b. p (f x) || b) (any-map p f xs)

prefix-map : {A B : Type 0} (p : B → Bool) (f : A → B) (xs : List A) → prefix_len p (map f xs) ≡ prefix_len (λ x. p (f x)) xs
prefix-map p f [] = refl
prefix-map p f (x ∷ xs) = ap (λ n. cond (p (f x)) (1 + n) 0) (prefix-map p f xs)

pub position-map : {A B : Type 0} (p : B → Bool) (f : A → B) (xs : List A) → position p (map f xs) ≡ position (λ x. p (f x)) xs
position-map p f xs =
    ap (λ n. cond (ltb n (length (map f xs))) (Some n) None) (prefix-map (λ x. not (p x)) f xs)
    ∙ ap (λ m. cond (ltb (prefix_len (λ x. not (p (f x))) xs) m) (Some (prefix_len (λ x. not (p (f x))) xs)) None) (length_mapped f xs)

-- what was added was not there
pub was_there : (added there : Bool) → added ≡ not there → there ≡ cond added false true
was_there true false e = refl
was_there false true e = refl
was_there true true e = cc
was_there false false e = cc
