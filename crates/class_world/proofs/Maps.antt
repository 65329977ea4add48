-- What a list gives through a partial function.
use Rattle.std.specs.Option.{option_to_list}
use Rattle.std.proofs.Math.Seq.{drop-cons}
use Rattle.std.proofs.Common.{◌<◌, ◌++◌, drop, get_or, sym, add-one, append_assoc, ◌≡◌, ℕ, Some, None, ◌+◌, List, [], ◌∷◌, length}
use Rattle.std.proofs.Common.{Option, refl, ap, ◌∙◌}
use Rattle.std.specs.Prelude.{map}
use Rattle.std.specs.List.{filter_map, cons_option}

pub filter_map_map : {A B C : Type 0} (f : B → Option C) (g : A → B) (xs : List A) → filter_map f (map g xs) ≡ filter_map (λ x. f (g x)) xs
filter_map_map f g [] = refl
filter_map_map f g (x ∷ xs) = ap (cons_option (f (g x))) (filter_map_map f g xs)

-- one more element of a list that is filtered
pub filter_step : {A B : Type 0} (f : A → Option B) (xs : List A) (i : ℕ) (d : A) (found more : List B) (o : Option B)
    (all : List B) → found ++ filter_map f (drop i xs) ≡ all → i < length xs → o ≡ f (get_or xs i d)
    → more ≡ found ++ option_to_list o → more ++ filter_map f (drop (i + 1) xs) ≡ all
filter_step {B = B} f xs i d found more o all e l p q =
    let rest = filter_map f (drop (i + 1) xs) in
    let a : drop i xs ≡ get_or xs i d ∷ drop (i + 1) xs = rw (add-one) (drop-cons xs i d l) in
    let b : filter_map f (drop i xs) ≡ cons_option (f (get_or xs i d)) rest = ap (filter_map f) a in
    ap (λ ys. ys ++ rest) q ∙ append_assoc found (option_to_list o) rest
    ∙ ap (λ ys. found ++ ys) (listed o ∙ ap (λ z. cons_option z rest) p ∙ sym b) ∙ e
  where
    listed : (z : Option B) → option_to_list z ++ filter_map f (drop (i + 1) xs) ≡ cons_option z (filter_map f (drop (i + 1) xs))
    listed None = refl
    listed (Some y) = refl
