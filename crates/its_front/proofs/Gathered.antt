-- Lists that loops gather item by item.
use Rattle.std.proofs.Common.{◌≡◌, ℕ, ℤ, pos, Bool, true, false, List, [], ◌∷◌, ◌++◌, Option, Some, None, refl, sym, ap, ◌∙◌, append_assoc}
use Rattle.std.specs.Prelude.{if◌then◌else◌}
use Rattle.std.specs.Ordering.{int_eq}
use Rattle.std.specs.Option.{option_map}
use Rattle.its_front.specs.Words.{before}
use Rattle.its_front.specs.Terms.{with_coefficient}

-- what a loop has gathered, and what is still to come
abbrev pub behind : {A : Type 0} → List A → Option (List A) → Option (List A)
behind front rest = option_map (λ items. front ++ items) rest

pub begins : {A : Type 0} (o : Option (List A)) → behind [] o ≡ o
begins None = refl
begins (Some items) = refl

pub goes_on : {A : Type 0} (front : List A) (item : A) (rest : Option (List A))
    → behind front (before (Some item) rest) ≡ behind (front ++ item ∷ []) rest
goes_on front item None = refl
goes_on front item (Some items) = ap Some (sym (append_assoc front (item ∷ []) items))

pub stops : {A : Type 0} (front : List A) (rest : Option (List A)) → behind front (before None rest) ≡ None
stops front rest = refl

-- a term more, unless its coefficient is 0
pub more_terms : (front : List (ℕ × ℤ)) (n : ℕ) (c : ℤ) (rest : Option (List (ℕ × ℤ)))
    → behind front (with_coefficient n c rest) ≡ behind (if int_eq c (pos 0) then front else front ++ (n, c) ∷ []) rest
more_terms front n c rest = by (int_eq c (pos 0))
  where
    by : (b : Bool) → behind front (if b then rest else before (Some (n, c)) rest) ≡ behind
        (if b then front else front ++ (n, c) ∷ []) rest
    by true = refl
    by false = goes_on front (n, c) rest
