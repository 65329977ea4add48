-- Names of classes are texts.
use Rattle.std.proofs.Common.{◌≡◌, ℕ, zero, suc, ◌&&◌, Bool, true, false, nat_lt, List, [], ◌∷◌, length, Some, slice_get, subst}
use Rattle.std.specs.List.{list_all}
use Rattle.std.specs.Str.{is_utf8}
use Rattle.std.proofs.lemmas.Bool.{and_parts}
use Rattle.class_base.specs.ClassNames.{is_name_byte, is_class_name}

last_of_three : (a b c : Bool) → (a && b && c) ≡ true → c ≡ true
last_of_three true true c e = e
last_of_three true false c e = let no : ⊥ = cc in absurd no
last_of_three false b c e = let no : ⊥ = cc in absurd no

pub is_text : (name : List ℕ) → is_class_name name ≡ true → is_utf8 name ≡ true
is_text name e = last_of_three (nat_lt 0 (length name)) (list_all is_name_byte name) (is_utf8 name) e

pub each_named : (names : List (List ℕ)) (class : ℕ) (name : List ℕ) → list_all is_class_name names ≡ true
    → slice_get names class ≡ Some name → is_class_name name ≡ true
each_named [] class name all g = let no : ⊥ = cc in absurd no
each_named (x ∷ xs) zero name all g = let same : x ≡ name = cc in subst (λ (n : List ℕ). is_class_name n ≡ true) same
    (and_parts (is_class_name x) (list_all is_class_name xs) all).0
each_named (x ∷ xs) (suc class) name all g = each_named xs class name (and_parts (is_class_name x) (list_all is_class_name xs) all).1 g
