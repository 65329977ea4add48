-- Two lists taken place by place.
use Rattle.std.proofs.Common.{◌≡◌, ℕ, suc, ◌+◌, ◌<◌, ◌≤◌, List, [], ◌∷◌, ◌++◌, length, get_or, drop, map, reverse, zip, Some, None}
use Rattle.std.proofs.Common.{refl, sym, ap, subst, ◌∙◌, zero, Bool, min, not, cond, inl, inr, arith, append_assoc}
use Rattle.std.specs.List.{AllZip, position, position_or_len}
use Rattle.std.proofs.lemmas.Bool.{cases_lt, lt-ltb}
use Rattle.std.proofs.lemmas.List.Sums.{prefix_len-le-length}
use Rattle.std.proofs.lemmas.List.{drop_more, drop_all, length-reverse, reverse-append, reverse-reverse, map_push}
use Rattle.std.proofs.lemmas.Option.{none-some}
use Rattle.list_views.proofs.Items.{map_reversed}

module _ {A B : Type 0} where
  pub zip_end : (xs : List A) (ys : List B) (n : ℕ) → length xs ≤ n → zip (drop n xs) (drop n ys) ≡ []
  zip_end xs ys n l = ap (λ (front : List A). zip front (drop n ys)) (drop_all n xs l)

  pub zip_more : (xs : List A) (ys : List B) (n : ℕ) (x : A) (y : B) → n < length xs → n < length ys
      → zip (drop n xs) (drop n ys) ≡ (get_or xs n x, get_or ys n y) ∷ zip (drop (n + 1) xs) (drop (n + 1) ys)
  zip_more xs ys n x y l m =
      ap (λ (front : List A). zip front (drop n ys)) (drop_more xs n x l)
      ∙ ap (λ (front : List B). zip (get_or xs n x ∷ drop (n + 1) xs) front) (drop_more ys n y m)

  no_pairs : (xs : List A) (ys : List B) → ys ≡ [] → zip xs ys ≡ []
  no_pairs [] ys e = refl
  no_pairs (x ∷ xs) ys e = ap (zip (x ∷ xs)) e

  -- behind the end of the second list there are none
  pub zip_short : (xs : List A) (ys : List B) (n : ℕ) → length ys ≤ n → zip (drop n xs) (drop n ys) ≡ []
  zip_short xs ys n l = no_pairs (drop n xs) (drop n ys) (drop_all n ys l)

  -- a list that is made of the pairs in their order, and one more of them
  pub made_more : {C : Type 0} (f : A × B → C) (done whole : List C) (xs : List A) (ys : List B) (n : ℕ) (x : A) (y : B) (z : C)
      → n < length xs → n < length ys
      → z ≡ f (get_or xs n x, get_or ys n y) → done ++ map f (zip (drop n xs) (drop n ys)) ≡ whole
      → (done ++ z ∷ []) ++ map f (zip (drop (n + 1) xs) (drop (n + 1) ys)) ≡ whole
  made_more f done whole xs ys n x y z l m e is =
      append_assoc done (z ∷ []) (map f (zip (drop (n + 1) xs) (drop (n + 1) ys)))
      ∙ ap (λ (c : _). done ++ c ∷ map f (zip (drop (n + 1) xs) (drop (n + 1) ys))) e
      ∙ sym (ap (λ (pairs : List (A × B)). done ++ map f pairs) (zip_more xs ys n x y l m))
      ∙ is

  -- the last items of two lists that are as long
  zip_last : (xs : List A) (ys : List B) (x : A) (y : B) → length xs ≡ length ys
      → zip (xs ++ x ∷ []) (ys ++ y ∷ []) ≡ zip xs ys ++ (x, y) ∷ []
  zip_last [] [] x y e = refl
  zip_last [] (v ∷ ys) x y e = absurd (omega (arith, e))
  zip_last (u ∷ xs) [] x y e = absurd (omega (arith, e))
  zip_last (u ∷ xs) (v ∷ ys) x y e = ap (λ (rest : List (A × B)). (u, v) ∷ rest) (zip_last xs ys x y (omega (arith, e)))

  pub zip_reversed : (xs : List A) (ys : List B) → length xs ≡ length ys → zip (reverse xs) (reverse ys) ≡ reverse (zip xs ys)
  zip_reversed [] [] e = refl
  zip_reversed [] (y ∷ ys) e = absurd (omega (arith, e))
  zip_reversed (x ∷ xs) [] e = absurd (omega (arith, e))
  zip_reversed (x ∷ xs) (y ∷ ys) e =
      let same : length xs ≡ length ys = omega (arith, e) in
      ap (λ (l : List A). zip l (reverse (y ∷ ys))) (reverse-append (x ∷ []) xs)
      ∙ ap (λ (l : List B). zip (reverse xs ++ x ∷ []) l) (reverse-append (y ∷ []) ys)
      ∙ zip_last (reverse xs) (reverse ys) x y (length-reverse xs ∙ same ∙ sym (length-reverse ys))
      ∙ ap (λ (l : List (A × B)). l ++ (x, y) ∷ []) (zip_reversed xs ys same)
      ∙ sym (reverse-append ((x, y) ∷ []) (zip xs ys))

  all_last : (R : A → B → Type 0) (xs : List A) (ys : List B) (x : A) (y : B) → AllZip R xs ys → R x y
      → AllZip R (xs ++ x ∷ []) (ys ++ y ∷ [])
  all_last R [] [] x y h r = (r, tt)
  all_last R [] (v ∷ ys) x y h r = absurd h
  all_last R (u ∷ xs) [] x y h r = absurd h
  all_last R (u ∷ xs) (v ∷ ys) x y h r = (h.0, all_last R xs ys x y h.1 r)

  pub all_reversed : (R : A → B → Type 0) (xs : List A) (ys : List B) → AllZip R xs ys → AllZip R (reverse xs) (reverse ys)
  all_reversed R [] [] h = tt
  all_reversed R [] (y ∷ ys) h = absurd h
  all_reversed R (x ∷ xs) [] h = absurd h
  all_reversed R (x ∷ xs) (y ∷ ys) h =
      subst (λ (l : List A). AllZip R l (reverse (y ∷ ys))) (sym (reverse-append (x ∷ []) xs))
      (subst (λ (l : List B). AllZip R (reverse xs ++ x ∷ []) l) (sym (reverse-append (y ∷ []) ys))
      (all_last R (reverse xs) (reverse ys) x y (all_reversed R xs ys h.1) h.0))

  pub all_at : (R : A → B → Type 0) (xs : List A) (ys : List B) (n : ℕ) (x : A) (y : B) → AllZip R xs ys → n < length xs
      → R (get_or xs n x) (get_or ys n y)
  all_at R [] ys n x y h l = absurd (omega (arith, l))
  all_at R (u ∷ xs) [] n x y h l = absurd h
  all_at R (u ∷ xs) (v ∷ ys) zero x y h l = h.0
  all_at R (u ∷ xs) (v ∷ ys) (suc n) x y h l = all_at R xs ys n x y h.1 (omega (arith, l))

-- from the least of two lengths on there are no pairs
pub zip_least : (xs ys : List ℕ) (n : ℕ) (rest : List (ℕ × ℕ)) → n ≡ min (length xs) (length ys)
    → (n ≤ length xs) × ((n ≤ length ys) × (rest ≡ zip (drop n xs) (drop n ys) ++ rest))
zip_least xs ys n rest e = elim (cases_lt (length xs) (length ys)) [
  | inl l ↦
      let is : n ≡ length xs = omega (arith, e, l) in
      (omega (arith, is), (omega (arith, is, l), sym (ap (λ (pairs : List (ℕ × ℕ)). pairs ++ rest) (zip_end xs ys n (omega (arith, is))))))
  | inr l ↦
      let is : n ≡ length ys = omega (arith, e, l) in (
        omega (arith, is, l),
        (omega (arith, is), sym (ap (λ (pairs : List (ℕ × ℕ)). pairs ++ rest) (zip_short xs ys n (omega (arith, is))))),
      )
]

-- the pairs of the whole lists in the other order
pub mapped_reversed : {A B C : Type 0} (f : A × B → C) (xs : List A) (ys : List B) → length xs ≡ length ys
    → reverse (map f (zip (reverse xs) (reverse ys))) ≡ map f (zip xs ys)
mapped_reversed f xs ys e = ap reverse (ap (map f) (zip_reversed xs ys e) ∙ map_reversed f (zip xs ys))
    ∙ reverse-reverse (map f (zip xs ys))

-- the same of lists that are equal to those
pub all_reversed_as : {A B : Type 0} (R : A → B → Type 0) (xs : List A) (ys : List B) (us : List A) (vs : List B) → us ≡ reverse xs
    → vs ≡ reverse ys → AllZip R xs ys → AllZip R us vs
all_reversed_as {A} {B} R xs ys us vs e f h = subst (λ (l : List A). AllZip R l vs) (sym e)
    (subst (λ (l : List B). AllZip R (reverse xs) l) (sym f) (all_reversed R xs ys h))

-- one more item, made of the items at a place
pub made_at : {A B C : Type 0} (f : A × B → C) (done whole : List C) (xs : List A) (ys : List B) (n : ℕ) (x : A) (y : B) (z : C)
    → n < length xs → n < length ys → x ≡ get_or xs n x → y ≡ get_or ys n y
    → z ≡ f (x, y) → done ++ map f (zip (drop n xs) (drop n ys)) ≡ whole
    → (done ++ z ∷ []) ++ map f (zip (drop (n + 1) xs) (drop (n + 1) ys)) ≡ whole
made_at {A} {B} f done whole xs ys n x y z l m x_is y_is e is =
    made_more f done whole xs ys n x y z l m (e ∙ ap (λ (u : A). f (u, y)) x_is ∙ ap (λ (v : B). f (get_or xs n x, v)) y_is) is

-- a place that isn't found
pub unplaced : {A : Type 0} (p : A → Bool) (xs : List A) → position p xs ≡ None → position_or_len p xs ≡ length xs
unplaced p xs e = elim (cases_lt (position_or_len p xs) (length xs)) [
  | inl l ↦ absurd (none-some (position_or_len p xs)
      (sym e ∙ ap (λ (t : Bool). cond t (Some (position_or_len p xs)) None) (lt-ltb (position_or_len p xs) (length xs) l)))
  | inr l ↦ let m = prefix_len-le-length (λ x. not (p x)) xs in omega (arith, l, m)
]
