-- Laws of heights: types that grow come nearer to the widest ones.
use Rattle.std.proofs.Common.{◌≡◌, ℕ, zero, suc, ◌+◌, ◌<◌, ◌≤◌, Bool, true, false, cond, List, [], ◌∷◌, ◌++◌, length, map, ◌⊎◌, inl}
use Rattle.std.proofs.Common.{inr, refl, sym, ap, subst, ◌∙◌, arith}
use Rattle.std.specs.Prelude.{IsTrue}
use Rattle.std.specs.List.{AllZip}
use Rattle.std.proofs.lemmas.Bool.{false≢true, cases_lt}
use Rattle.jvm_values.specs.declared.types.Ty.{Ty}
use Rattle.jvm_values.specs.declared.types.Base.{Base}
use Rattle.jvm_values.specs.declared.types.Base.TheVariants.{Class, Num}
use Rattle.jvm_values.specs.declared.types.Kind.{Kind}
use Rattle.jvm_values.specs.declared.types.Kind.TheVariants as kinds
use Rattle.jvm_values.specs.declared.typing.PlaceType.{PlaceType}
use Rattle.jvm_values.specs.declared.typing.PlaceType.TheVariants as places
use Rattle.jvm_values.specs.States.{PlaceTypes}
use Rattle.jvm_values.specs.Subtyping.{IsReference, IsReferenceBase}
use Rattle.jvm_values.specs.TypedHeaps.{WorldTypes, AreLawful}
use Rattle.frame_types.specs.Places.{IsWithin, IsFrameWithin}
use Rattle.frame_types.specs.Heights.{bases, of_dims, types_below, all_types, count, height, rank, ranks, most}

-- ---- sums

pub add_up : (a b c d : ℕ) → a ≤ b → c ≤ d → a + c ≤ b + d
add_up a b c d l k = omega arith

pub add_less : (a b c d : ℕ) → a < b → c ≤ d → a + c < b + d
add_less a b c d l k = omega arith

pub add_up_less : (a b c d : ℕ) → a ≤ b → c < d → a + c < b + d
add_up_less a b c d l k = omega arith

one_more : (a b c : ℕ) → a ≤ 1 → b ≤ c → a + b ≤ suc c
one_more a b c l k = omega arith

pub same_up : (a b : ℕ) → a ≡ b → b ≤ a
same_up a b e = omega arith

not_both : (a b : ℕ) → b < a → a < b → ⊥
not_both a b l k = omega arith

less_up : (a b : ℕ) → a < b → a ≤ b
less_up a b l = omega arith

-- ---- counting

abbrev pub Among : {A : Type 0} → A → List A → Type 0
Among x [] = ⊥
Among x (y ∷ ys) = (x ≡ y) ⊎ Among x ys

among_left : {A : Type 0} (x : A) (xs ys : List A) → Among x xs → Among x (xs ++ ys)
among_left x [] ys h = absurd h
among_left x (y ∷ xs) ys (inl e) = inl e
among_left x (y ∷ xs) ys (inr h) = inr (among_left x xs ys h)

among_right : {A : Type 0} (x : A) (xs ys : List A) → Among x ys → Among x (xs ++ ys)
among_right x [] ys h = h
among_right x (y ∷ xs) ys h = inr (among_right x xs ys h)

among_map : {A B : Type 0} (f : A → B) (x : A) (xs : List A) → Among x xs → Among (f x) (map f xs)
among_map f x [] h = absurd h
among_map f x (y ∷ xs) (inl e) = inl (ap f e)
among_map f x (y ∷ xs) (inr h) = inr (among_map f x xs h)

abbrev one_or_none : Bool → ℕ
one_or_none b = cond b 1 0

less_of : (a b : Bool) → (IsTrue a → IsTrue b) → one_or_none a ≤ one_or_none b
less_of true true h = omega arith
less_of true false h = absurd (false≢true (h refl))
less_of false b h = omega arith

fewer_of : (a b : Bool) → a ≡ false → IsTrue b → one_or_none a < one_or_none b
fewer_of true b e h = absurd (false≢true (sym e))
fewer_of false true e h = omega arith
fewer_of false false e h = absurd (false≢true h)

most_one : (a : Bool) → one_or_none a ≤ 1
most_one true = omega arith
most_one false = omega arith

count_up : {A : Type 0} (p q : A → Bool) (xs : List A) → ((x : A) → IsTrue (p x) → IsTrue (q x)) → count p xs ≤ count q xs
count_up p q [] h = omega arith
count_up p q (x ∷ xs) h =
    add_up (one_or_none (p x)) (one_or_none (q x)) (count p xs) (count q xs) (less_of (p x) (q x) (h x)) (count_up p q xs h)

count_fewer : {A : Type 0} (p q : A → Bool) (y : A) (xs : List A) → ((x : A) → IsTrue (p x) → IsTrue (q x)) → Among y xs
    → p y ≡ false → IsTrue (q y) → count p xs < count q xs
count_fewer p q y [] h m e t = absurd m
count_fewer p q y (x ∷ xs) h (inl s) e t =
    add_less (one_or_none (p x)) (one_or_none (q x)) (count p xs) (count q xs)
    (fewer_of (p x) (q x) (ap p (sym s) ∙ e) (ap q (sym s) ∙ t)) (count_up p q xs h)
count_fewer p q y (x ∷ xs) h (inr m) e t =
    add_up_less (one_or_none (p x)) (one_or_none (q x)) (count p xs) (count q xs) (less_of (p x) (q x) (h x))
    (count_fewer p q y xs h m e t)

count_most : {A : Type 0} (p : A → Bool) (xs : List A) → count p xs ≤ length xs
count_most p [] = omega arith
count_most p (x ∷ xs) =
    one_more (one_or_none (p x)) (count p xs) (length xs) (most_one (p x)) (count_most p xs)

-- ---- the list of all types has each

among_kinds : (kind : Kind) (n : ℕ) → Among (Num kind) (bases n)
among_kinds kind (suc n) = inr (among_kinds kind n)
among_kinds kinds.Boolean zero = inl refl
among_kinds kinds.Char zero = inr (inl refl)
among_kinds kinds.Byte zero = inr (inr (inl refl))
among_kinds kinds.Short zero = inr (inr (inr (inl refl)))
among_kinds kinds.Int zero = inr (inr (inr (inr (inl refl))))

among_classes : (class n : ℕ) → class < n → Among (Class class) (bases n)
among_classes class zero l = absurd (omega arith)
among_classes class (suc n) l = elim (cases_lt class n) [
  | inl m ↦ inr (among_classes class n m)
  | inr m ↦ let e : class ≡ n = omega (arith, l, m) in inl (ap Class e)
]

among_bases : (n dims : ℕ) (base : Base) → IsReferenceBase n dims base → Among base (bases n)
among_bases n dims (Class class) h = among_classes class n h
among_bases n dims (Num kind) h = among_kinds kind n

same_type : (d : ℕ) (t : Ty) → t.dims ≡ d → t ≡ of_dims d t.base
same_type d t p = ap (λ (n : ℕ). of_dims n t.base) p

among_below : (n : ℕ) (t : Ty) (found : List Base) → t.dims < n → Among t.base found → Among t (types_below n found)
among_below zero t found l m = absurd (omega arith)
among_below (suc n) t found l m = elim (cases_lt t.dims n) [
  | inl k ↦ among_right t (map (of_dims n) found) (types_below n found) (among_below n t found k m)
  | inr k ↦
      let e : t.dims ≡ n = omega (arith, l, k) in
      among_left t (map (of_dims n) found) (types_below n found)
      (subst (λ (x : Ty). Among x (map (of_dims n) found)) (sym (same_type n t e)) (among_map (of_dims n) t.base found m))
]

pub among_all : (types : WorldTypes) (t : Ty) → IsReference types.classes t → Among t (all_types types)
unfolding all_types
among_all types t r = among_below 256 t (bases types.classes) (omega (arith, r.0)) (among_bases types.classes t.dims t.base r.1)

-- ---- what is wider ranks lower

module _ (types : WorldTypes) (laws : AreLawful types) where
  below_or_not : (b : Bool) → (IsTrue b) ⊎ (b ≡ false)
  below_or_not true = inl refl
  below_or_not false = inr refl

  fewer_above : (s t : Ty) → IsTrue (types.sub s t) → types.sub t s ≡ false → height types t < height types s
  unfolding height
  fewer_above s t h e = count_fewer (types.sub t) (types.sub s) s (all_types types) (λ x k. laws.transitive s t x h k)
      (among_all types s (laws.of_world s t h).0) e (laws.reflexive s (laws.of_world s t h).0)

  pub higher : (s t : Ty) → IsTrue (types.sub s t) → (s ≡ t) ⊎ (height types t < height types s)
  higher s t h = elim (below_or_not (types.sub t s)) [
    | inl k ↦ inl (laws.antisymmetric s t h k)
    | inr e ↦ inr (fewer_above s t h e)
  ]

  height_most : (t : Ty) → height types t ≤ length (all_types types)
  unfolding height
  height_most t = count_most (types.sub t) (all_types types)

  rank_most : (a : PlaceType) → rank types a ≤ length (all_types types) + 2
  rank_most places.Unset = omega arith
  rank_most places.Int = omega arith
  rank_most places.Null = omega arith
  rank_most (places.Ref t) = let h = height_most t in omega (arith, h)

  ref_rank : (s t : Ty) → (s ≡ t) ⊎ (height types t < height types s) → (places.Ref s ≡ places.Ref t)
      ⊎ (rank types (places.Ref t) < rank types (places.Ref s))
  ref_rank s t (inl e) = inl (ap places.Ref e)
  ref_rank s t (inr l) = inr (omega (arith, l))

  pub lower_rank : (a b : PlaceType) → IsWithin types a b → (a ≡ b) ⊎ (rank types b < rank types a)
  lower_rank places.Unset places.Unset h = inl refl
  lower_rank places.Int places.Unset h = inr (omega arith)
  lower_rank places.Null places.Unset h = inr (omega arith)
  lower_rank (places.Ref s) places.Unset h = inr (omega arith)
  lower_rank places.Int places.Int h = inl refl
  lower_rank places.Null places.Null h = inl refl
  lower_rank places.Null (places.Ref t) h = let m = height_most t in inr (omega (arith, m))
  lower_rank (places.Ref s) (places.Ref t) h = ref_rank s t (higher s t h)
  lower_rank places.Unset places.Int h = absurd h
  lower_rank places.Unset places.Null h = absurd h
  lower_rank places.Unset (places.Ref t) h = absurd h
  lower_rank places.Int places.Null h = absurd h
  lower_rank places.Int (places.Ref t) h = absurd h
  lower_rank places.Null places.Int h = absurd h
  lower_rank (places.Ref s) places.Int h = absurd h
  lower_rank (places.Ref s) places.Null h = absurd h

  -- the same of lists, place by place
  both_lower : (a b : PlaceType) (xs bs : List PlaceType) → (a ≡ b) ⊎ (rank types b < rank types a)
      → (xs ≡ bs) ⊎ (ranks types bs < ranks types xs) → (a ∷ xs ≡ b ∷ bs) ⊎ (ranks types (b ∷ bs) < ranks types (a ∷ xs))
  both_lower a b xs bs (inl e) (inl f) = inl (ap (λ (x : PlaceType). x ∷ xs) e ∙ ap (λ (xs : List PlaceType). b ∷ xs) f)
  both_lower a b xs bs (inl e) (inr l) = inr
      (add_up_less (rank types b) (rank types a) (ranks types bs) (ranks types xs)
      (same_up (rank types a) (rank types b) (ap (rank types) e)) l)
  both_lower a b xs bs (inr l) (inl f) = inr
      (add_less (rank types b) (rank types a) (ranks types bs) (ranks types xs) l
      (same_up (ranks types xs) (ranks types bs) (ap (ranks types) f)))
  both_lower a b xs bs (inr l) (inr m) = inr
      (add_less (rank types b) (rank types a) (ranks types bs) (ranks types xs) l (less_up (ranks types bs) (ranks types xs) m))

  pub lower_ranks : (xs bs : List PlaceType) → AllZip (IsWithin types) xs bs → (xs ≡ bs) ⊎ (ranks types bs < ranks types xs)
  lower_ranks [] [] h = inl refl
  lower_ranks [] (b ∷ bs) h = absurd h
  lower_ranks (a ∷ xs) [] h = absurd h
  lower_ranks (a ∷ xs) (b ∷ bs) h = both_lower a b xs bs (lower_rank a b h.0) (lower_ranks xs bs h.1)

  pub ranks_most : (n : ℕ) (xs : List PlaceType) → length xs ≤ n → ranks types xs ≤ most types n
  ranks_most n [] l = omega arith
  ranks_most zero (a ∷ xs) l = absurd (omega arith)
  ranks_most (suc n) (a ∷ xs) l = add_up (rank types a) (length (all_types types) + 2) (ranks types xs) (most types n) (rank_most a)
      (ranks_most n xs (omega arith))

  -- ---- frames

  abbrev frame_rank : PlaceTypes → ℕ
  frame_rank f = ranks types f.locals + ranks types f.stack

  both_same : (f g : PlaceTypes) → (f.locals ≡ g.locals) ⊎ (ranks types g.locals < ranks types f.locals)
      → (f.stack ≡ g.stack) ⊎ (ranks types g.stack < ranks types f.stack) → (f ≡ g) ⊎ (frame_rank g < frame_rank f)
  both_same f g (inl p) (inl q) =
      let a : List PlaceType → PlaceTypes = λ xs. record { locals = xs; stack = f.stack } in
      let b : List PlaceType → PlaceTypes = λ xs. record { locals = g.locals; stack = xs } in
      inl (ap a p ∙ ap b q)
  both_same f g (inl p) (inr l) = inr (add_up_less (ranks types g.locals) (ranks types f.locals) (ranks types g.stack)
      (ranks types f.stack) (same_up (ranks types f.locals) (ranks types g.locals) (ap (ranks types) p)) l)
  both_same f g (inr l) (inl q) = inr
      (add_less (ranks types g.locals) (ranks types f.locals) (ranks types g.stack) (ranks types f.stack) l
      (same_up (ranks types f.stack) (ranks types g.stack) (ap (ranks types) q)))
  both_same f g (inr l) (inr m) = inr
      (add_less (ranks types g.locals) (ranks types f.locals) (ranks types g.stack) (ranks types f.stack) l
      (less_up (ranks types g.stack) (ranks types f.stack) m))

  pub lower_frame : (f g : PlaceTypes) → IsFrameWithin types f g → (f ≡ g) ⊎ (frame_rank g < frame_rank f)
  lower_frame f g h = both_same f g (lower_ranks f.locals g.locals h.locals) (lower_ranks f.stack g.stack h.stack)

  -- frames within each other are one
  pub frame_antisym : (f g : PlaceTypes) → IsFrameWithin types f g → IsFrameWithin types g f → f ≡ g
  frame_antisym f g p q = elim (lower_frame f g p) [
    | inl e ↦ e
    | inr l ↦ elim (lower_frame g f q) [ inl e ↦ sym e | inr m ↦ absurd (not_both (frame_rank f) (frame_rank g) l m) ]
  ]
