-- Lists whose items are alike place by place.
use Rattle.std.proofs.Common.{◌≡◌, ℕ, zero, suc, ◌+◌, ◌<◌, ◌≤◌, Bool, true, false, cond, eqb, List, [], ◌∷◌, ◌++◌, length, get_or}
use Rattle.std.proofs.Common.{set, take, drop, replicate, map, reverse, filter, Some, inl, inr, refl, sym, ◌∙◌, subst, arith}
use Rattle.std.specs.Prelude.{slice_get, All, find}
use Rattle.std.specs.List.{AllZip, list_any}
use Rattle.std.proofs.lemmas.List.{reverse-append, length-append}
use Rattle.std.proofs.lemmas.List.Elements.{All-nil, All-cons, All-head, All-tail}
use Rattle.std.proofs.lemmas.Bool.{false≢true, eqb-true, or_cases}
use Rattle.std.proofs.lemmas.Option.{none-some}
use Rattle.jvm_values.proofs.Options.{some_is}

-- ---- options and tests

-- ---- place by place

module _ {A B : Type 0} (R : A → B → Type 0) where
  -- what stands on the right at a place where something stands on the left
  pub record Beside (ys : List B) (i : ℕ) (x : A) : Type 0 where
    pub other : B
    pub there : slice_get ys i ≡ Some other
    pub alike : R x other

  pub zip_get : (xs : List A) (ys : List B) (i : ℕ) (x : A) → AllZip R xs ys → slice_get xs i ≡ Some x → Beside ys i x
  zip_get [] ys i x h e = absurd (none-some x e)
  zip_get (a ∷ xs) [] i x h e = absurd h
  zip_get (a ∷ xs) (b ∷ ys) zero x h e = record { other = b; there = refl; alike = subst (λ (z : A). R z b) (some_is e) h.0 }
  zip_get (a ∷ xs) (b ∷ ys) (suc i) x h e = let k = zip_get xs ys i x h.1 e in record { other = k.other; there = k.there; alike = k.alike }

  pub zip_set : (xs : List A) (ys : List B) (i : ℕ) (x : A) (y : B) → AllZip R xs ys → R x y → AllZip R (set xs i x) (set ys i y)
  zip_set [] [] i x y h r = tt
  zip_set [] (b ∷ ys) i x y h r = absurd h
  zip_set (a ∷ xs) [] i x y h r = absurd h
  zip_set (a ∷ xs) (b ∷ ys) zero x y h r = (r, h.1)
  zip_set (a ∷ xs) (b ∷ ys) (suc i) x y h r = (h.0, zip_set xs ys i x y h.1 r)

  pub zip_set_right : (xs : List A) (ys : List B) (i : ℕ) (x : A) (y : B) → AllZip R xs ys → slice_get xs i ≡ Some x → R x y
      → AllZip R xs (set ys i y)
  zip_set_right [] ys i x y h e r = absurd (none-some x e)
  zip_set_right (a ∷ xs) [] i x y h e r = absurd h
  zip_set_right (a ∷ xs) (b ∷ ys) zero x y h e r = (subst (λ (z : A). R z y) (sym (some_is e)) r, h.1)
  zip_set_right (a ∷ xs) (b ∷ ys) (suc i) x y h e r = (h.0, zip_set_right xs ys i x y h.1 e r)

  pub zip_append : (xs : List A) (ys : List B) (us : List A) (vs : List B) → AllZip R xs ys → AllZip R us vs
      → AllZip R (xs ++ us) (ys ++ vs)
  zip_append [] [] us vs h k = k
  zip_append [] (y ∷ ys) us vs h k = absurd h
  zip_append (x ∷ xs) [] us vs h k = absurd h
  zip_append (x ∷ xs) (y ∷ ys) us vs h k = (h.0, zip_append xs ys us vs h.1 k)

  pub zip_drop : (n : ℕ) (xs : List A) (ys : List B) → AllZip R xs ys → AllZip R (drop n xs) (drop n ys)
  zip_drop zero xs ys h = h
  zip_drop (suc n) [] [] h = tt
  zip_drop (suc n) [] (y ∷ ys) h = absurd h
  zip_drop (suc n) (x ∷ xs) [] h = absurd h
  zip_drop (suc n) (x ∷ xs) (y ∷ ys) h = zip_drop n xs ys h.1

  pub zip_reverse : (xs : List A) (ys : List B) → AllZip R xs ys → AllZip R (reverse xs) (reverse ys)
  zip_reverse [] [] h = tt
  zip_reverse [] (y ∷ ys) h = absurd h
  zip_reverse (x ∷ xs) [] h = absurd h
  zip_reverse (x ∷ xs) (y ∷ ys) h =
      let whole : AllZip R (reverse xs ++ x ∷ []) (reverse ys ++ y ∷ []) = zip_append (reverse xs) (reverse ys) (x ∷ []) (y ∷ [])
      (zip_reverse xs ys h.1) (h.0, tt) in
      let left : AllZip R (reverse (x ∷ xs)) (reverse ys ++ y ∷ []) = subst (λ (zs : List A). AllZip R zs (reverse ys ++ y ∷ []))
      (sym (reverse-append (x ∷ []) xs)) whole in
      subst (λ (zs : List B). AllZip R (reverse (x ∷ xs)) zs) (sym (reverse-append (y ∷ []) ys)) left

-- what is alike in one way is so in another
pub zip_map : {A B : Type 0} (R S : A → B → Type 0) → ((a : A) (b : B) → R a b → S a b) → (xs : List A) (ys : List B)
    → AllZip R xs ys → AllZip S xs ys
zip_map R S f [] [] h = tt
zip_map R S f [] (y ∷ ys) h = absurd h
zip_map R S f (x ∷ xs) [] h = absurd h
zip_map R S f (x ∷ xs) (y ∷ ys) h = (f x y h.0, zip_map R S f xs ys h.1)

-- from one list through another to a third
pub zip_through : {A B C : Type 0} (Q : A → B → Type 0) (R : A → C → Type 0) (S : B → C → Type 0)
    → ((a : A) (b : B) (c : C) → Q a b → R a c → S b c) → (xs : List A) (ys : List B) (zs : List C) → AllZip Q xs ys
    → AllZip R xs zs → AllZip S ys zs
zip_through Q R S f [] [] [] h k = tt
zip_through Q R S f [] [] (z ∷ zs) h k = absurd k
zip_through Q R S f [] (y ∷ ys) zs h k = absurd h
zip_through Q R S f (x ∷ xs) [] zs h k = absurd h
zip_through Q R S f (x ∷ xs) (y ∷ ys) [] h k = absurd k
zip_through Q R S f (x ∷ xs) (y ∷ ys) (z ∷ zs) h k = (f x y z h.0 k.0, zip_through Q R S f xs ys zs h.1 k.1)

-- ---- places of lists

pub get_set_same : {A : Type 0} (xs : List A) (i : ℕ) (v x : A) → slice_get xs i ≡ Some x → slice_get (set xs i v) i ≡ Some v
get_set_same [] i v x e = absurd (none-some x e)
get_set_same (a ∷ xs) zero v x e = refl
get_set_same (a ∷ xs) (suc i) v x e = get_set_same xs i v x e

-- ---- items of a list

-- what holds of each number of a list that is mapped holds of one that is among them
pub all_among : {A : Type 0} (P : A → Type 0) (f : ℕ → A) (xs : List ℕ) (x : ℕ) → All P (map f xs) → list_any (eqb x) xs ≡ true → P (f x)
all_among P f [] x h e = absurd (false≢true e)
all_among P f (y ∷ xs) x h e = elim (or_cases (eqb x y) (list_any (eqb x) xs) e) [
  | inl same ↦ subst (λ (z : ℕ). P (f z)) (sym (eqb-true x y same)) (All-head P (f y) (map f xs) h)
  | inr more ↦ all_among P f xs x (All-tail P (f y) (map f xs) h) more
]

-- the first that passes one test, where what passes it passes another, by which the list is filtered
pub all_found : {A B : Type 0} (P : B → Type 0) (f : A → B) (test other : A → Bool) → ((x : A) → test x ≡ true → other x ≡ true)
    → (xs : List A) (x : A) → All P (map f (filter other xs)) → find test xs ≡ Some x → P (f x)
all_found P f test other k [] x h e = absurd (none-some x e)
all_found {A} P f test other k (y ∷ xs) x h e = go (test y) refl e (all_found P f test other k xs x)
  where
    passed : (b : Bool) → b ≡ true → All P (map f (cond b (y ∷ filter other xs) (filter other xs))) → P (f y)
    passed true p all = All-head P (f y) (map f (filter other xs)) all
    passed false p all = absurd (false≢true p)

    rest : (b : Bool) → All P (map f (cond b (y ∷ filter other xs) (filter other xs))) → All P (map f (filter other xs))
    rest true all = All-tail P (f y) (map f (filter other xs)) all
    rest false all = all

    go : (b : Bool) → test y ≡ b → cond b (Some y) (find test xs) ≡ Some x
        → (All P (map f (filter other xs)) → find test xs ≡ Some x → P (f x)) → P (f x)
    go true p q more = subst (λ (z : A). P (f z)) (some_is q) (passed (other y) (k y p) h)
    go false p q more = more (rest (other y) h) q
