-- A list and the list of its numbers, each once, say the same.
use Rattle.std.proofs.Common.{◌≡◌, ◌||◌, ℕ, zero, suc, Bool, true, false, cond, eqb, List, [], ◌∷◌, ◌++◌, length, drop, get_or}
use Rattle.std.proofs.Common.{Option, Some, None, sym, refl, ap, ap₂, ◌∙◌, subst, inl, inr, ◌⊎◌, append_assoc, append-nil, ◌+◌, ◌<◌}
use Rattle.std.proofs.Common.{add-one}
use Rattle.std.specs.List.{list_any, flat_map}
use Rattle.std.specs.Option.{option_map, option_or}
use Rattle.std.proofs.Math.Seq.{drop-cons}
use Rattle.std.proofs.lemmas.Bool.{false≢true}
use Rattle.std.proofs.lemmas.List.Folds.{list_any-append}
use Rattle.std.proofs.lemmas.List.Concat.{flat_map-append}
use Rattle.std.proofs.Math.Bool.{or-false}
use Rattle.code_forms.proofs.list_views.Truths.{or_assoc}
use Rattle.class_world.specs.World.{World, super_of, interfaces_of, supers_of, listed, leads_up, line_of}
use Rattle.class_world.specs.lemmas.Walks.{IsIn, IsIn-from_any, any-from_IsIn, AnyOf-here}
use Rattle.class_world.specs.Resolve.{first_found, with_interfaces, superinterfaces_of}
use Rattle.class_world.specs.inner.Once.{with_number, with_numbers, once, interfaces_once, supers_once}
use Rattle.class_world.proofs.Seeking.{found_append}

-- ---- one more number

pub numbers_more : (numbers xs all : List ℕ) (i x d : ℕ) (more : List ℕ) → with_numbers numbers (drop i xs) ≡ all → i < length xs
    → x ≡ get_or xs i d → more ≡ with_number numbers x → with_numbers more (drop (i + 1) xs) ≡ all
numbers_more numbers xs all i x d more e l q m =
    let a : drop i xs ≡ get_or xs i d ∷ drop (i + 1) xs = rw (add-one) (drop-cons xs i d l) in
    ap (λ ns. with_numbers ns (drop (i + 1) xs)) (m ∙ ap (with_number numbers) q) ∙ sym (ap (with_numbers numbers) a) ∙ e

-- ---- tests

or_same : (a b : Bool) → (b ≡ true → a ≡ true) → (a || b) ≡ a
or_same true b h = refl
or_same false true h = absurd (false≢true (h refl))
or_same false false h = refl

any_with : (p : ℕ → Bool) (numbers : List ℕ) (x : ℕ) → list_any p (with_number numbers x) ≡ (list_any p numbers || p x)
any_with p numbers x = go (list_any (eqb x) numbers) refl
  where
    go : (b : Bool) → list_any (eqb x) numbers ≡ b → list_any p (cond b numbers (numbers ++ x ∷ [])) ≡ (list_any p numbers || p x)
    go true e = sym (or_same (list_any p numbers) (p x) (λ h. AnyOf-here p numbers x (IsIn-from_any x numbers e) h))
    go false e = list_any-append p numbers (x ∷ []) ∙ ap (λ b. list_any p numbers || b) (or-false (p x))

any_numbers : (p : ℕ → Bool) (numbers xs : List ℕ) → list_any p (with_numbers numbers xs) ≡ (list_any p numbers || list_any p xs)
any_numbers p numbers [] = sym (or-false (list_any p numbers))
any_numbers p numbers (x ∷ xs) =
    any_numbers p (with_number numbers x) xs
    ∙ ap (λ b. b || list_any p xs) (any_with p numbers x)
    ∙ or_assoc (list_any p numbers) (p x) (list_any p xs)

pub any_once : (p : ℕ → Bool) (xs : List ℕ) → list_any p (once xs) ≡ list_any p xs
any_once p xs = any_numbers p [] xs

pub In_once : (y : ℕ) (xs : List ℕ) → IsIn y (once xs) → IsIn y xs
In_once y xs h = IsIn-from_any y xs (sym (any_once (eqb y) xs) ∙ any-from_IsIn y (once xs) h)

-- ---- ways up

pub any_supers : (world : World) (a : ℕ) (p : ℕ → Bool) → list_any p (supers_once world a) ≡ list_any p (supers_of world a)
unfolding supers_once interfaces_once supers_of
any_supers world a p =
    let over = listed (super_of world a) in
    list_any-append p over (once (interfaces_of world a))
    ∙ ap (λ b. list_any p over || b) (any_once p (interfaces_of world a))
    ∙ sym (list_any-append p over (interfaces_of world a))

pub any_cong : (p q : ℕ → Bool) (xs : List ℕ) → ((x : ℕ) → p x ≡ q x) → list_any p xs ≡ list_any q xs
any_cong p q [] h = refl
any_cong p q (x ∷ xs) h = ap (λ b. b || list_any p xs) (h x) ∙ ap (λ b. q x || b) (any_cong p q xs h)

pub leads_once : (f g : ℕ → List ℕ) → ((a : ℕ) (p : ℕ → Bool) → list_any p (f a) ≡ list_any p (g a)) → (k a b : ℕ)
    → leads_up f k a b ≡ leads_up g k a b
leads_once f g h zero a b = refl
leads_once f g h (suc k) a b =
    any_cong (λ c. eqb b c || leads_up f k c b) (λ c. eqb b c || leads_up g k c b) (f a)
    (λ c. ap (λ x. eqb b c || x) (leads_once f g h k c b))
    ∙ h a (λ c. eqb b c || leads_up g k c b)

-- ---- what is found first

module _ (place : ℕ → Option ℕ) where
  abbrev found : List ℕ → Option (ℕ × ℕ)
  found = first_found place

  or_idle : (a b c : Option (ℕ × ℕ)) → (a ≡ None → b ≡ None) → option_or a (option_or b c) ≡ option_or a c
  or_idle (Some x) b c h = refl
  or_idle None b c h = ap (λ o. option_or o c) (h refl)

  or_none : (x y : Option (ℕ × ℕ)) → option_or x y ≡ None → (x ≡ None) × (y ≡ None)
  or_none None y e = (refl, e)
  or_none (Some a) y e = cc

  -- where a list of lists has nothing, none of them has
  nothing_in : (f : ℕ → List ℕ) (numbers : List ℕ) (x : ℕ) → IsIn x numbers → first_found place (flat_map f numbers) ≡ None
      → first_found place (f x) ≡ None
  nothing_in f [] x h e = absurd h
  nothing_in f (y ∷ ys) x h e = go h
      (or_none (found (f y)) (found (flat_map f ys)) (sym (found_append place (f y) (flat_map f ys)) ∙ e)) (nothing_in f ys x)
    where
      go : (x ≡ y) ⊎ IsIn x ys → (first_found place (f y) ≡ None) × (first_found place (flat_map f ys) ≡ None)
          → (IsIn x ys → first_found place (flat_map f ys) ≡ None → first_found place (f x) ≡ None) → first_found place (f x) ≡ None
      go (inl same) both further = subst (λ (z : ℕ). first_found place (f z) ≡ None) (sym same) both.0
      go (inr there) both further = further there both.1

  flat_found : (f : ℕ → List ℕ) (xs ys : List ℕ)
      → first_found place (flat_map f (xs ++ ys)) ≡ option_or (first_found place (flat_map f xs)) (first_found place (flat_map f ys))
  flat_found f xs ys = ap found (flat_map-append f xs ys) ∙ found_append place (flat_map f xs) (flat_map f ys)

  found_numbers : (f : ℕ → List ℕ) (numbers xs : List ℕ)
      → first_found place (flat_map f (with_numbers numbers xs)) ≡ first_found place (flat_map f (numbers ++ xs))
  found_numbers f numbers [] = ap (λ ys. found (flat_map f ys)) (sym (append-nil numbers))
  found_numbers f numbers (x ∷ xs) = found_numbers f (with_number numbers x) xs ∙ go (list_any (eqb x) numbers) refl
    where
      go : (b : Bool) → list_any (eqb x) numbers ≡ b
          → first_found place (flat_map f (cond b numbers (numbers ++ x ∷ []) ++ xs)) ≡ first_found place (flat_map f (numbers ++ x ∷ xs))
      go true e =
          flat_found f numbers xs
          ∙ sym (or_idle (found (flat_map f numbers)) (found (f x)) (found (flat_map f xs))
          (nothing_in f numbers x (IsIn-from_any x numbers e)))
          ∙ ap (option_or (found (flat_map f numbers))) (sym (found_append place (f x) (flat_map f xs)))
          ∙ sym (flat_found f numbers (x ∷ xs))
      go false e = ap (λ ys. found (flat_map f ys)) (append_assoc numbers (x ∷ []) xs)

  found_once : (f : ℕ → List ℕ) (xs : List ℕ) → first_found place (flat_map f (once xs)) ≡ first_found place (flat_map f xs)
  found_once f xs = found_numbers f [] xs

  found_cong : (f g : ℕ → List ℕ) → ((x : ℕ) → first_found place (f x) ≡ first_found place (g x)) → (xs : List ℕ)
      → first_found place (flat_map f xs) ≡ first_found place (flat_map g xs)
  found_cong f g h [] = refl
  found_cong f g h (x ∷ xs) = found_append place (f x) (flat_map f xs) ∙ ap₂ option_or (h x) (found_cong f g h xs)
      ∙ sym (found_append place (g x) (flat_map g xs))

  module _ (up : ℕ → List ℕ) where
    abbrev up_once : ℕ → List ℕ
    up_once x = once (up x)

    tree_once : (k x : ℕ) → first_found place (with_interfaces up_once k x) ≡ first_found place (with_interfaces up k x)
    tree_once zero x = refl
    tree_once (suc k) x =
        let below = found_once (with_interfaces up_once k) (up x) ∙ found_cong (with_interfaces up_once k) (with_interfaces up k)
        (tree_once k) (up x) in
        ap (option_or (option_map (λ i. (x, i)) (place x))) below

    line_once : (f : ℕ → List ℕ) (line : List ℕ)
        → first_found place (flat_map f (flat_map up_once line)) ≡ first_found place (flat_map f (flat_map up line))
    line_once f [] = refl
    line_once f (x ∷ xs) = flat_found f (up_once x) (flat_map up_once xs) ∙ ap₂ option_or (found_once f (up x)) (line_once f xs)
        ∙ sym (flat_found f (up x) (flat_map up xs))

    trees_once : (n : ℕ) (line : List ℕ) → first_found place (flat_map (with_interfaces up_once n) (flat_map up_once line))
        ≡ first_found place (flat_map (with_interfaces up n) (flat_map up line))
    trees_once n line = found_cong (with_interfaces up_once n) (with_interfaces up n) (tree_once n) (flat_map up_once line)
        ∙ line_once (with_interfaces up n) line

-- what is sought in a class's superinterfaces
pub sought_once : (world : World) (class : ℕ) (place : ℕ → Option ℕ)
    → first_found place (flat_map (with_interfaces (interfaces_once world) (length world))
    (flat_map (interfaces_once world) (line_of world class))) ≡ first_found place (superinterfaces_of world class)
unfolding interfaces_once superinterfaces_of
sought_once world class place = trees_once place (interfaces_of world) (length world) (line_of world class)
