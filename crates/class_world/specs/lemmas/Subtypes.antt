-- The laws of subtypes and erasure, from those of the order of classes.
use Rattle.std.proofs.Common.{◌≡◌, ℕ, zero, suc, ◌+◌, ◌<◌, Bool, true, false, ◌&&◌, cond, eqb, ltb, leb, List, sym, refl, ap, ◌∙◌}
use Rattle.std.proofs.Common.{subst, inl, inr, ◌⊎◌, arith, eq-eqb}
use Rattle.std.specs.Prelude.{All}
use Rattle.std.proofs.lemmas.Bool.{false≢true, eqb-true, ltb-true, leb-true, lt-ltb, le-leb, and_parts, and_from, ne_eqb, cases_lt}
use Rattle.jvm_values.specs.declared.types.Ty.{Ty}
use Rattle.jvm_values.specs.declared.types.Kind.{Kind}
use Rattle.jvm_values.specs.declared.types.Kind.TheVariants.{Boolean, Char, Byte, Short, Int}
use Rattle.jvm_values.specs.declared.types.Base.{Base}
use Rattle.jvm_values.specs.declared.types.Base.TheVariants.{Class, Num}
use Rattle.jvm_values.specs.declared.types.Slot.{Slot}
use Rattle.jvm_values.specs.Subtyping.{class_type, object_type, array_of, array_of_numbers, IsReference, IsReferenceBase, IsSlot}
use Rattle.jvm_values.specs.Subtyping.{IsArrayAbove, SubtypeLaws}
use Rattle.jvm_values.proofs.Joining.{same_type}
use Rattle.class_world.specs.Types.{is_reference, is_reference_base, is_same_kind, is_base_below, is_object, is_sub_by, erased_base}
use Rattle.class_world.specs.Types.{erase_by}

-- The order of n classes: a partial order with class 0 on top, in which of two classes above one and the same one, neither of them an
-- interface, one is below the other; the classes that are interfaces are among the n, and class 0 is none of them.
pub record IsClassOrder (n : ℕ) (below : ℕ → ℕ → Bool) (interface : ℕ → Bool) : Type 0 where
  pub some : 0 < n
  pub same : (a : ℕ) → below a a ≡ true
  pub follows : (a b c : ℕ) → below a b ≡ true → below b c ≡ true → below a c ≡ true
  pub antisymmetric : (a b : ℕ) → below a b ≡ true → below b a ≡ true → a ≡ b
  pub top : (a : ℕ) → below a 0 ≡ true
  pub root : (a : ℕ) → below 0 a ≡ true → a ≡ 0
  pub chain : (t a b : ℕ) → below t a ≡ true → below t b ≡ true → interface a ≡ false → interface b ≡ false
      → (below a b ≡ true) ⊎ (below b a ≡ true)
  pub class_root : interface 0 ≡ false
  pub interface_in : (a : ℕ) → interface a ≡ true → a < n

pub same_kind : (j k : Kind) → is_same_kind j k ≡ true → j ≡ k
same_kind Boolean Boolean e = refl
same_kind Char Char e = refl
same_kind Byte Byte e = refl
same_kind Short Short e = refl
same_kind Int Int e = refl
same_kind _ _ e = absurd (false≢true e)

kind_same : (k : Kind) → is_same_kind k k ≡ true
kind_same Boolean = refl
kind_same Char = refl
kind_same Byte = refl
kind_same Short = refl
kind_same Int = refl

reference_base_from : (n dims : ℕ) (x : Base) → is_reference_base n dims x ≡ true → IsReferenceBase n dims x
reference_base_from n dims (Class c) e = ltb-true c n e
reference_base_from n dims (Num k) e = ltb-true 0 dims e

reference_base_to : (n dims : ℕ) (x : Base) → IsReferenceBase n dims x → is_reference_base n dims x ≡ true
reference_base_to n dims (Class c) h = lt-ltb c n h
reference_base_to n dims (Num k) h = lt-ltb 0 dims h

pub reference_from : (n : ℕ) (t : Ty) → is_reference n t ≡ true → IsReference n t
reference_from n t e =
    let p = and_parts (leb t.dims 255) (is_reference_base n t.dims t.base) e in
    (leb-true t.dims 255 p.0, reference_base_from n t.dims t.base p.1)

pub reference_to : (n : ℕ) (t : Ty) → IsReference n t → is_reference n t ≡ true
reference_to n t h = and_from (leb t.dims 255) (is_reference_base n t.dims t.base) (le-leb t.dims 255 h.0)
    (reference_base_to n t.dims t.base h.1)

is_object_from : (x : Base) → is_object x ≡ true → x ≡ Class 0
is_object_from (Class c) e = ap Class (eqb-true c 0 e)
is_object_from (Num k) e = absurd (false≢true e)

is_object_to : (x : Base) → x ≡ Class 0 → is_object x ≡ true
is_object_to x e = subst (λ (y : Base). is_object y ≡ true) (sym e) refl

module _ (n : ℕ) (below : ℕ → ℕ → Bool) (interface : ℕ → Bool) (h : IsClassOrder n below interface) where
  abbrev sub : Ty → Ty → Bool
  sub = is_sub_by n below

  abbrev BaseBelow : Base → Base → Type 0
  BaseBelow x y = is_base_below below x y ≡ true

  base_same : (x : Base) → BaseBelow x x
  base_same (Class c) = h.same c
  base_same (Num k) = kind_same k

  base_follows : (x y z : Base) → BaseBelow x y → BaseBelow y z → BaseBelow x z
  base_follows (Class a) (Class b) (Class c) e f = h.follows a b c e f
  base_follows (Class a) (Class b) (Num k) e f = f
  base_follows (Class a) (Num j) z e f = absurd (false≢true e)
  base_follows (Num i) (Class b) z e f = absurd (false≢true e)
  base_follows (Num i) (Num j) z e f = subst (λ (k : Kind). BaseBelow (Num k) z) (sym (same_kind i j e)) f

  base_antisym : (x y : Base) → BaseBelow x y → BaseBelow y x → x ≡ y
  base_antisym (Class a) (Class b) e f = ap Class (h.antisymmetric a b e f)
  base_antisym (Class a) (Num j) e f = absurd (false≢true e)
  base_antisym (Num i) (Class b) e f = absurd (false≢true e)
  base_antisym (Num i) (Num j) e f = ap Num (same_kind i j e)

  base_over_root : (x : Base) → BaseBelow (Class 0) x → x ≡ Class 0
  base_over_root (Class c) e = ap Class (h.root c e)
  base_over_root (Num k) e = absurd (false≢true e)

  -- what stands in the relation, in words
  abbrev Stands : Ty → Ty → Type 0
  Stands a b = IsReference n a × IsReference n b
      × (((a.dims ≡ b.dims) × BaseBelow a.base b.base) ⊎ ((b.dims < a.dims) × (b.base ≡ Class 0)))

  pub stands_from : (a b : Ty) → sub a b ≡ true → Stands a b
  unfolding is_sub_by
  stands_from a b e =
      let p = and_parts (is_reference n a && is_reference n b) _ e in
      let q = and_parts (is_reference n a) (is_reference n b) p.0 in
      (reference_from n a q.0, reference_from n b q.1, go (eqb a.dims b.dims) refl p.1)
    where
      go : (r : Bool) → eqb a.dims b.dims ≡ r → cond r (is_base_below below a.base b.base) (ltb b.dims a.dims && is_object b.base)
          ≡ true → ((a.dims ≡ b.dims) × BaseBelow a.base b.base) ⊎ ((b.dims < a.dims) × (b.base ≡ Class 0))
      go true d f = inl (eqb-true a.dims b.dims d, f)
      go false d f = let r = and_parts (ltb b.dims a.dims) (is_object b.base) f in inr
          (ltb-true b.dims a.dims r.0, is_object_from b.base r.1)

  pub stands_to : (a b : Ty) → Stands a b → sub a b ≡ true
  unfolding is_sub_by
  stands_to a b s =
      and_from (is_reference n a && is_reference n b) _
      (and_from (is_reference n a) (is_reference n b) (reference_to n a s.0) (reference_to n b s.1)) (go s.2)
    where
      go : ((a.dims ≡ b.dims) × BaseBelow a.base b.base) ⊎ ((b.dims < a.dims) × (b.base ≡ Class 0))
          → cond (eqb a.dims b.dims) (is_base_below below a.base b.base) (ltb b.dims a.dims && is_object b.base) ≡ true
      go (inl r) = subst (λ (x : Bool). cond x (is_base_below below a.base b.base) (ltb b.dims a.dims && is_object b.base) ≡ true)
          (sym (eq-eqb a.dims b.dims r.0)) r.1
      go (inr r) = subst (λ (x : Bool). cond x (is_base_below below a.base b.base) (ltb b.dims a.dims && is_object b.base) ≡ true)
          (sym (ne_eqb a.dims b.dims (omega (arith, r.0))))
          (and_from (ltb b.dims a.dims) (is_object b.base) (lt-ltb b.dims a.dims r.0) (is_object_to b.base r.1))

  follows_stands : (a b c : Ty) → Stands a b → Stands b c → Stands a c
  follows_stands a b c s t = (s.0, t.1, go s.2 t.2)
    where
      go : ((a.dims ≡ b.dims) × BaseBelow a.base b.base) ⊎ ((b.dims < a.dims) × (b.base ≡ Class 0))
          → ((b.dims ≡ c.dims) × BaseBelow b.base c.base) ⊎ ((c.dims < b.dims) × (c.base ≡ Class 0))
          → ((a.dims ≡ c.dims) × BaseBelow a.base c.base) ⊎ ((c.dims < a.dims) × (c.base ≡ Class 0))
      go (inl p) (inl q) = inl (p.0 ∙ q.0, base_follows a.base b.base c.base p.1 q.1)
      go (inl p) (inr q) = inr (omega (arith, p.0, q.0), q.1)
      go (inr p) (inl q) = inr (omega (arith, p.0, q.0), base_over_root c.base (subst (λ (x : Base). BaseBelow x c.base) p.1 q.1))
      go (inr p) (inr q) = inr (omega (arith, p.0, q.0), q.1)

  antisym_stands : (a b : Ty) → Stands a b → Stands b a → a ≡ b
  antisym_stands a b s t = go s.2 t.2
    where
      go : ((a.dims ≡ b.dims) × BaseBelow a.base b.base) ⊎ ((b.dims < a.dims) × (b.base ≡ Class 0))
          → ((b.dims ≡ a.dims) × BaseBelow b.base a.base) ⊎ ((a.dims < b.dims) × (a.base ≡ Class 0)) → a ≡ b
      go (inl p) (inl q) = same_type a b p.0 (base_antisym a.base b.base p.1 q.1)
      go (inl p) (inr q) = absurd (omega (arith, p.0, q.0))
      go (inr p) (inl q) = absurd (omega (arith, p.0, q.0))
      go (inr p) (inr q) = absurd (omega (arith, p.0, q.0))

  pub object_reference : IsReference n object_type
  object_reference = (omega arith, h.some)

  top_stands : (dims : ℕ) (x : Base) → let t : Ty = record { dims = dims; base = x } in IsReference n t → Stands t object_type
  top_stands zero (Class c) r = (r, object_reference, inl (refl, h.top c))
  top_stands zero (Num k) r = absurd (omega (arith, r.1))
  top_stands (suc d) x r = (r, object_reference, inr (omega arith, refl))

  erase_up_stands : (dims : ℕ) (x : Base) → let t : Ty = record { dims = dims; base = x } in IsReference n t
      → Stands t (erase_by interface t)
  unfolding erase_by
  erase_up_stands dims (Num k) r = (r, r, inl (refl, kind_same k))
  erase_up_stands dims (Class c) r = go (interface c)
    where
      go : (i : Bool) → let t : Ty = record { dims = dims; base = Class c } in let u : Ty = record
          { dims = dims; base = cond i (Class 0) (Class c) } in Stands t u
      go true = (r, (r.0, h.some), inl (refl, h.top c))
      go false = (r, r, inl (refl, h.same c))

  erased_base_twice : (x : Base) → erased_base interface (erased_base interface x) ≡ erased_base interface x
  erased_base_twice (Num k) = refl
  erased_base_twice (Class c) = go (interface c) refl
    where
      go : (i : Bool) → interface c ≡ i → erased_base interface (cond i (Class 0) (Class c)) ≡ cond i (Class 0) (Class c)
      go true e = ap (λ (b : Bool). cond b (Class 0) (Class 0)) h.class_root
      go false e = ap (λ (b : Bool). cond b (Class 0) (Class c)) e

  erased_outside : (dims : ℕ) (x : Base) → (IsReferenceBase n dims x → ⊥) → erased_base interface x ≡ x
  erased_outside dims (Num k) r = refl
  erased_outside dims (Class c) r = go (interface c) refl
    where
      go : (i : Bool) → interface c ≡ i → cond i (Class 0) (Class c) ≡ Class c
      go true e = absurd (r (h.interface_in c e))
      go false e = refl

  -- an erased class is no interface
  erased_class : (x : Base) (c : ℕ) → x ≡ Class c → erased_base interface x ≡ x → interface c ≡ false
  erased_class x c e q = go (interface c) refl (subst (λ (y : Base). erased_base interface y ≡ y) e q)
    where
      go : (i : Bool) → interface c ≡ i → cond i (Class 0) (Class c) ≡ Class c → interface c ≡ false
      go false p f = p
      go true p f = let z : 0 ≡ c = cc in subst (λ (y : ℕ). interface y ≡ false) z h.class_root

  array_stands : (a b : Ty) → IsReference n a → Stands (array_of a) b → (b ≡ object_type) ⊎ IsArrayAbove sub n a b
  array_stands a b r s = go s.2
    where
      under : (x y : Base) → BaseBelow x y → IsReferenceBase n a.dims x → IsReferenceBase n b.dims y → IsReferenceBase n a.dims y
      under x (Class c) e p q = q
      under (Num j) (Num k) e p q = p
      under (Class c) (Num k) e p q = absurd (false≢true e)

      of_root : (d : ℕ) → b.dims ≡ d → b.dims < a.dims + 1 → b.base ≡ Class 0 → (b ≡ object_type) ⊎ IsArrayAbove sub n a b
      of_root zero e l f = inl (same_type b object_type e f)
      of_root (suc d) e l f =
          let item : Ty = record { dims = d; base = Class 0 } in
          let fits : IsReference n item = (omega (arith, s.1.0, e), h.some) in
          inr (item, fits, stands_to a item (r, fits, inr (omega (arith, e, l), refl)), same_type b (array_of item) (omega (arith, e)) f)

      go : ((a.dims + 1 ≡ b.dims) × BaseBelow a.base b.base) ⊎ ((b.dims < a.dims + 1) × (b.base ≡ Class 0))
          → (b ≡ object_type) ⊎ IsArrayAbove sub n a b
      go (inr p) = of_root b.dims refl p.0 p.1
      go (inl p) =
          let item : Ty = record { dims = a.dims; base = b.base } in
          let fits : IsReference n item = (r.0, under a.base b.base p.1 r.1 s.1.1) in
          inr (item, fits, stands_to a item (r, fits, inl (refl, p.1)), same_type b (array_of item) (sym p.0) refl)

  below_array_stands : (a b : Ty) → IsReference n (array_of a) → IsReference n (array_of b) → Stands a b → Stands (array_of a) (array_of b)
  below_array_stands a b r q s = (r, q, go s.2)
    where
      go : ((a.dims ≡ b.dims) × BaseBelow a.base b.base) ⊎ ((b.dims < a.dims) × (b.base ≡ Class 0))
          → ((a.dims + 1 ≡ b.dims + 1) × BaseBelow a.base b.base) ⊎ ((b.dims + 1 < a.dims + 1) × (b.base ≡ Class 0))
      go (inl p) = inl (ap (λ d. d + 1) p.0, p.1)
      go (inr p) = inr (omega (arith, p.0), p.1)

  numbers_stand : (k : Kind) (b : Ty) → Stands (array_of_numbers k) b → (b ≡ object_type) ⊎ (b ≡ array_of_numbers k)
  numbers_stand k b s = go s.2
    where
      over : (y : Base) → BaseBelow (Num k) y → y ≡ Num k
      over (Num j) e = ap Num (sym (same_kind k j e))
      over (Class c) e = absurd (false≢true e)

      go : ((1 ≡ b.dims) × BaseBelow (Num k) b.base) ⊎ ((b.dims < 1) × (b.base ≡ Class 0)) → (b ≡ object_type) ⊎ (b ≡ array_of_numbers k)
      go (inl p) = inr (same_type b (array_of_numbers k) (sym p.0) (over b.base p.1))
      go (inr p) = inl (same_type b object_type (omega (arith, p.0)) p.1)

  class_stands : (c : ℕ) (b : Ty) → Stands (class_type c) b → b.dims ≡ 0
  class_stands c b s = go s.2
    where
      go : ((0 ≡ b.dims) × BaseBelow (Class c) b.base) ⊎ ((b.dims < 0) × (b.base ≡ Class 0)) → b.dims ≡ 0
      go (inl p) = sym p.0
      go (inr p) = absurd (omega (arith, p.0))

  base_chain : (t x y : Base) → BaseBelow t x → BaseBelow t y → erased_base interface x ≡ x → erased_base interface y ≡ y
      → BaseBelow x y ⊎ BaseBelow y x
  base_chain (Class c) (Class a) (Class b) e f i j = h.chain c a b e f (erased_class (Class a) a refl i) (erased_class (Class b) b refl j)
  base_chain (Class c) (Class a) (Num k) e f i j = absurd (false≢true f)
  base_chain (Class c) (Num k) y e f i j = absurd (false≢true e)
  base_chain (Num k) (Class a) y e f i j = absurd (false≢true e)
  base_chain (Num k) (Num l) y e f i j = inl (subst (λ (m : Kind). BaseBelow (Num m) y) (same_kind k l e) f)

  chain_stands : (t a b : Ty) → Stands t a → Stands t b → erased_base interface a.base ≡ a.base
      → erased_base interface b.base ≡ b.base → Stands a b ⊎ Stands b a
  chain_stands t a b s q i j = go s.2 q.2
    where
      by_dims : a.base ≡ Class 0 → b.base ≡ Class 0 → Stands a b ⊎ Stands b a
      by_dims e f = elim (cases_lt a.dims b.dims) [
        | inl l ↦ inr (q.1, s.1, inr (l, e))
        | inr l ↦ elim (cases_lt b.dims a.dims) [
          | inl m ↦ inl (s.1, q.1, inr (m, f))
          | inr m ↦ inl (s.1, q.1, inl (omega (arith, l, m), subst (λ (x : Base). BaseBelow a.base x) (e ∙ sym f) (base_same a.base)))
        ]
      ]

      go : ((t.dims ≡ a.dims) × BaseBelow t.base a.base) ⊎ ((a.dims < t.dims) × (a.base ≡ Class 0))
          → ((t.dims ≡ b.dims) × BaseBelow t.base b.base) ⊎ ((b.dims < t.dims) × (b.base ≡ Class 0)) → Stands a b ⊎ Stands b a
      go (inl p) (inl r) = elim (base_chain t.base a.base b.base p.1 r.1 i j) [
        | inl x ↦ inl (s.1, q.1, inl (sym p.0 ∙ r.0, x))
        | inr x ↦ inr (q.1, s.1, inl (sym r.0 ∙ p.0, x))
      ]
      go (inl p) (inr r) = inl (s.1, q.1, inr (omega (arith, p.0, r.0), r.1))
      go (inr p) (inl r) = inr (q.1, s.1, inr (omega (arith, p.0, r.0), p.1))
      go (inr p) (inr r) = by_dims p.1 r.1

  pub laws_of : (fields : ℕ → List Slot) → ((class : ℕ) → class < n → All (IsSlot n) (fields class))
      → (made : ℕ → Bool) → ((class : ℕ) → class < n → made class ≡ true → interface class ≡ false)
      → SubtypeLaws sub (erase_by interface) n fields made
  unfolding erase_by
  laws_of fields slots made no_interface = record {
    of_world = λ a b e. let s = stands_from a b e in (s.0, s.1);
    reflexive = λ a r. stands_to a a (r, r, inl (refl, base_same a.base));
    transitive = λ a b c e f. stands_to a c (follows_stands a b c (stands_from a b e) (stands_from b c f));
    antisymmetric = λ a b e f. antisym_stands a b (stands_from a b e) (stands_from b a f);
    object_on_top = λ a r. stands_to a object_type (top_stands a.dims a.base r);
    erase_up = λ a r. stands_to a (erase_by interface a) (erase_up_stands a.dims a.base r);
    erase_erased = λ a r. same_type _ _ refl (erased_base_twice a.base);
    erase_outside = λ a d r. same_type _ _ refl (erased_outside a.dims a.base (λ x. r (d, x)));
    erase_array = λ a r q. refl;
    erase_numbers = λ k. refl;
    array_below = λ a b r e. array_stands a b r (stands_from (array_of a) b e);
    below_array = λ a b r q e. stands_to (array_of a) (array_of b) (below_array_stands a b r q (stands_from a b e));
    numbers_below = λ k b e. numbers_stand k b (stands_from (array_of_numbers k) b e);
    class_below = λ c b e. class_stands c b (stands_from (class_type c) b e);
    chain = λ t a b e f i j. elim (chain_stands t a b (stands_from t a e) (stands_from t b f) (ap (λ (x : Ty). x.base) i)
        (ap (λ (x : Ty). x.base) j)) [
          | inl s ↦ inl (stands_to a b s)
          | inr s ↦ inr (stands_to b a s)
        ];
    slots_of_world = slots;
    made_is_erased = λ class l m. let at : Bool
        → Ty = λ b. record { dims = 0; base = cond b (Class 0) (Class class) } in ap at (no_interface class l m);
  }
