-- One more name.
use Rattle.std.proofs.Common.{◌≡◌, ℕ, ◌+◌, true, List, [], ◌∷◌, ◌++◌, length, length-append, refl, ◌∙◌, ap}
use Rattle.std.specs.List.{list_all}
use Rattle.std.proofs.lemmas.Bool.{and_parts, and_from}
use Rattle.class_base.specs.ClassNames.{is_class_name}

pub named_more : (names : List (List ℕ)) (name : List ℕ) → list_all is_class_name names ≡ true → is_class_name name ≡ true
    → list_all is_class_name (names ++ name ∷ []) ≡ true
named_more [] name all e = and_from (is_class_name name) true e refl
named_more (x ∷ xs) name all e =
    let parts = and_parts (is_class_name x) (list_all is_class_name xs) all in
    and_from (is_class_name x) (list_all is_class_name (xs ++ name ∷ [])) parts.0 (named_more xs name parts.1 e)

pub counted_more : (names : List (List ℕ)) (name : List ℕ) (count : ℕ) → length names ≡ count → length (names ++ name ∷ []) ≡ count + 1
counted_more names name count e = length-append names (name ∷ []) ∙ ap (λ (n : ℕ). n + 1) e
