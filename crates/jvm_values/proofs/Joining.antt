-- The join of two types, from the laws of subtypes and erasure.
use Rattle.std.proofs.Common.{◌≡◌, ℕ, zero, suc, ◌+◌, ◌-◌, ◌<◌, ◌≤◌, Bool, true, false, cond, ltb, List, Option, Some, None, ◌⊎◌}
use Rattle.std.proofs.Common.{inl, inr, refl, sym, ap, subst, ◌∙◌, arith}
use Rattle.std.specs.Prelude.{IsTrue}
use Rattle.std.proofs.lemmas.Bool.{ltb-true, ltb-false, cases_lt}
use Rattle.std.proofs.lemmas.Option.{none-some}
use Rattle.jvm_values.specs.declared.types.Ty.{Ty}
use Rattle.jvm_values.specs.declared.types.Kind.{Kind}
use Rattle.jvm_values.specs.declared.types.Base.{Base}
use Rattle.jvm_values.specs.declared.types.Base.TheVariants.{Class, Num}
use Rattle.jvm_values.specs.declared.types.Slot.{Slot}
use Rattle.jvm_values.specs.Subtyping.{class_type, object_type, array_of, array_of_numbers, IsReference, IsReferenceBase, SubtypeLaws}
use Rattle.jvm_values.specs.Joins.{IsErasedAbove, IsJoin, item_under, item_of, AreApart}
use Rattle.jvm_values.proofs.Options.{some_is}

pub same_type : (a b : Ty) → a.dims ≡ b.dims → a.base ≡ b.base → a ≡ b
same_type a b p q =
    let f : ℕ → Ty = λ d. record { dims = d; base = a.base } in
    let g : Base → Ty = λ x. record { dims = b.dims; base = x } in
    ap f p ∙ ap g q

pub array_inside : (a b : Ty) → array_of a ≡ array_of b → a ≡ b
array_inside a b e =
    let d : a.dims + 1 ≡ b.dims + 1 = ap (λ (t : Ty). t.dims) e in
    same_type a b (omega arith) (ap (λ (t : Ty). t.base) e)

pub no_dims : (t item : Ty) → t.dims ≡ 0 → t ≡ array_of item → ⊥
no_dims t item z e = let d : t.dims ≡ item.dims + 1 = ap (λ (x : Ty). x.dims) e in omega arith

-- the items' type: what it is, and that the array is the array of it
item_is : (dims : ℕ) (base : Base) (item : Ty) → item_under dims base ≡ Some item
    → (dims ≡ item.dims + 1) × ((base ≡ item.base) × ((k : Kind) → base ≡ Num k → 0 < item.dims))
item_is dims (Class class) item e = by_test (ltb 0 dims) refl e
  where
    by_test : (t : Bool) → ltb 0 dims ≡ t → cond t (Some (record { dims = dims - 1; base = Class class })) None ≡ Some item
        → (dims ≡ item.dims + 1) × ((Class class ≡ item.base) × ((k : Kind) → Class class ≡ Num k → 0 < item.dims))
    by_test true h f =
        let is = some_is f in
        let d : dims - 1 ≡ item.dims = ap (λ (x : Ty). x.dims) is in
        let l : 0 < dims = ltb-true 0 dims h in
        (omega arith, (ap (λ (x : Ty). x.base) is, λ k (n : Class class ≡ Num k). cc))
    by_test false h f = absurd (none-some item f)
item_is dims (Num kind) item e = by_test (ltb 1 dims) refl e
  where
    by_test : (t : Bool) → ltb 1 dims ≡ t → cond t (Some (record { dims = dims - 1; base = Num kind })) None ≡ Some item
        → (dims ≡ item.dims + 1) × ((Num kind ≡ item.base) × ((k : Kind) → Num kind ≡ Num k → 0 < item.dims))
    by_test true h f =
        let is = some_is f in
        let d : dims - 1 ≡ item.dims = ap (λ (x : Ty). x.dims) is in
        let l : 1 < dims = ltb-true 1 dims h in
        (omega arith, (ap (λ (x : Ty). x.base) is, λ k n. omega arith))
    by_test false h f = absurd (none-some item f)

narrower : (n d e : ℕ) (base : Base) → IsReferenceBase n d base → ((k : Kind) → base ≡ Num k → 0 < e) → IsReferenceBase n e base
narrower n d e (Class k) r h = r
narrower n d e (Num kind) r h = h kind refl

item_or_none : (t : Ty) → (item_of t ≡ None) ⊎ ((item : Ty) × (item_of t ≡ Some item))
item_or_none t = elim (item_of t) as (λ (x : Option Ty). (x ≡ None) ⊎ ((item : Ty) × (x ≡ Some item))) [
  | None ↦ inl refl
  | Some item ↦ inr (item, refl)
]

pub array_of_item : (t item : Ty) → item_of t ≡ Some item → t ≡ array_of item
array_of_item t item e = let h = item_is t.dims t.base item e in same_type t (array_of item) h.0 h.1.0

pub item_reference : (n : ℕ) (t item : Ty) → item_of t ≡ Some item → IsReference n t → IsReference n item
item_reference n t item e r =
    let h = item_is t.dims t.base item e in
    (omega (arith, h.0, r.0), subst (λ (x : Base). IsReferenceBase n item.dims x) h.1.0 (narrower n t.dims item.dims t.base r.1 h.1.1))

-- the least class so far, among those that were looked at
pub record IsLeastBelow (sub : Ty → Ty → Bool) (erase : Ty → Ty) (a b : Ty) (count : ℕ) (least : Ty) : Type 0 where
  pub above : IsErasedAbove sub erase a b least
  pub so_far : (k : ℕ) → k < count → IsErasedAbove sub erase a b (class_type k) → IsTrue (sub least (class_type k))

module _ (sub : Ty → Ty → Bool) (erase : Ty → Ty) (n : ℕ) (fields : ℕ → List Slot) (can_be_made : ℕ → Bool)
    (laws : SubtypeLaws sub erase n fields can_be_made) where
  abbrev Above : Ty → Ty → Ty → Type 0
  Above a b top = IsErasedAbove sub erase a b top

  pub swapped : (a b j : Ty) → IsJoin sub erase a b j → IsJoin sub erase b a j
  swapped a b j h = record {
    above = record { left = h.above.right; right = h.above.left; erased = h.above.erased };
    least = λ top t. h.least top (record { left = t.right; right = t.left; erased = t.erased });
  }

  pub object_above : (a b : Ty) → IsReference n a → IsReference n b → Above a b object_type
  object_above a b r s =
      let up = laws.object_on_top a r in
      let o = (laws.of_world a object_type up).1 in
      let e = laws.erase_up object_type o in
      record {
        left = up;
        right = laws.object_on_top b s;
        erased = laws.antisymmetric (erase object_type) object_type
            (laws.object_on_top (erase object_type) (laws.of_world object_type (erase object_type) e).1) e;
      }

  -- one of the two types itself
  pub left_itself : (a b : Ty) → Above a b a → IsJoin sub erase a b a
  left_itself a b h = record { above = h; least = λ top t. t.left }

  pub right_itself : (a b : Ty) → Above a b b → IsJoin sub erase a b b
  right_itself a b h = record { above = h; least = λ top t. t.right }

  -- ---- classes

  base_class : (base : Base) → IsReferenceBase n 0 base → (k : ℕ) × ((k < n) × (base ≡ Class k))
  base_class (Class k) h = (k, (h, refl))
  base_class (Num kind) h = absurd (omega arith)

  class_of : (t : Ty) → t.dims ≡ 0 → IsReference n t → (k : ℕ) × ((k < n) × (t ≡ class_type k))
  class_of t z r =
      let h = base_class t.base (subst (λ (d : ℕ). IsReferenceBase n d t.base) z r.1) in
      (h.0, (h.1.0, same_type t (class_type h.0) z h.1.1))

  class_above : (a top : Ty) → a.dims ≡ 0 → IsReference n a → IsTrue (sub a top) → (k : ℕ) × ((k < n) × (top ≡ class_type k))
  class_above a top z r e =
      let c = class_of a z r in
      let flat = laws.class_below c.0 top (subst (λ (t : Ty). IsTrue (sub t top)) c.1.1 e) in
      class_of top flat (laws.of_world a top e).1

  pub none_looked_at : (a b : Ty) → IsReference n a → IsReference n b → IsLeastBelow sub erase a b 0 object_type
  none_looked_at a b r s = record { above = object_above a b r s; so_far = λ k h t. absurd (omega arith) }

  below_next : (k i : ℕ) → k < i + 1 → (k < i) ⊎ (k ≡ i)
  below_next k i h = elim (cases_lt k i) [ inl l ↦ inl l | inr l ↦ inr (omega (arith, l, h)) ]

  -- the next class is taken
  pub taken : (a b : Ty) (i : ℕ) (least : Ty) → IsLeastBelow sub erase a b i least → Above a b (class_type i)
      → IsTrue (sub (class_type i) least) → IsLeastBelow sub erase a b (i + 1) (class_type i)
  taken a b i least h t e = record {
    above = t;
    so_far = λ k l u. elim (below_next k i l) [
      | inl m ↦ laws.transitive (class_type i) least (class_type k) e (h.so_far k m u)
      | inr m ↦ subst (λ (x : ℕ). IsTrue (sub (class_type i) (class_type x))) (sym m)
          (laws.reflexive (class_type i) (laws.of_world a (class_type i) t.left).1)
    ];
  }

  -- or left
  pub left_out : (a b : Ty) (i : ℕ) (least : Ty) → IsLeastBelow sub erase a b i least
      → (Above a b (class_type i) → IsTrue (sub (class_type i) least) → ⊥) → IsLeastBelow sub erase a b (i + 1) least
  left_out a b i least h not_so = record {
    above = h.above;
    so_far = λ k l u. elim (below_next k i l) [
      | inl m ↦ h.so_far k m u
      | inr m ↦ let v : Above a b (class_type i) = subst (λ (x : ℕ). Above a b (class_type x)) m u in
          subst (λ (x : ℕ). IsTrue (sub least (class_type x))) (sym m)
          (elim (laws.chain a least (class_type i) h.above.left v.left h.above.erased v.erased) [
            | inl s ↦ s
            | inr s ↦ absurd (not_so v s)
          ])
    ];
  }

  pub least_of_all : (a b : Ty) (least : Ty) → a.dims ≡ 0 → IsReference n a → IsLeastBelow sub erase a b n least
      → IsJoin sub erase a b least
  least_of_all a b least z r h = record {
    above = h.above;
    least = λ top t.
        let c = class_above a top z r t.left in
        subst (λ (x : Ty). IsTrue (sub least x)) (sym c.1.1) (h.so_far c.0 c.1.0 (subst (λ (x : Ty). Above a b x) c.1.1 t));
  }

  -- ---- arrays

  numbers_under : (dims : ℕ) (base : Base) → item_under dims base ≡ None → 0 < dims → (k : Kind) × ((dims ≡ 1) × (base ≡ Num k))
  numbers_under dims (Class class) e h = by_test (ltb 0 dims) refl e
    where
      by_test : (t : Bool) → ltb 0 dims ≡ t → cond {A = Option Ty} t (Some (record { dims = dims - 1; base = Class class })) None
          ≡ None → (k : Kind) × ((dims ≡ 1) × (Class class ≡ Num k))
      by_test true l f = absurd (none-some (record { dims = dims - 1; base = Class class }) (sym f))
      by_test false l f = absurd (omega (arith, ltb-false 0 dims l, h))
  numbers_under dims (Num kind) e h = by_test (ltb 1 dims) refl e
    where
      by_test : (t : Bool) → ltb 1 dims ≡ t → cond {A = Option Ty} t (Some (record { dims = dims - 1; base = Num kind })) None
          ≡ None → (k : Kind) × ((dims ≡ 1) × (Num kind ≡ Num k))
      by_test true l f = absurd (none-some (record { dims = dims - 1; base = Num kind }) (sym f))
      by_test false l f = (kind, (omega (arith, ltb-false 1 dims l, h), refl))

  numbers_of : (t : Ty) → item_of t ≡ None → 0 < t.dims → (k : Kind) × (t ≡ array_of_numbers k)
  numbers_of t e h = let p = numbers_under t.dims t.base e h in (p.0, same_type t (array_of_numbers p.0) p.1.0 p.1.1)

  above_numbers : (t top : Ty) → item_of t ≡ None → 0 < t.dims → IsTrue (sub t top) → (top ≡ object_type) ⊎ (top ≡ t)
  above_numbers t top e h s =
      let p = numbers_of t e h in
      elim (laws.numbers_below p.0 top (subst (λ (x : Ty). IsTrue (sub x top)) p.1 s)) [
        | inl o ↦ inl o
        | inr o ↦ inr (o ∙ sym p.1)
      ]

  pub object_joins : (a b : Ty) → IsReference n a → IsReference n b → AreApart a b → 0 < a.dims → 0 < b.dims → (Above a b a → ⊥)
      → (Above a b b → ⊥) → IsJoin sub erase a b object_type
  object_joins a b r s apart p q no_left no_right = record {
    above = object_above a b r s;
    least = λ top t. elim apart [
      | inl e ↦ elim (above_numbers a top e p t.left) [
        | inl o ↦ subst (λ (x : Ty). IsTrue (sub object_type x)) (sym o)
            (laws.reflexive object_type (laws.of_world a object_type (laws.object_on_top a r)).1)
        | inr o ↦ absurd (no_left (subst (λ (x : Ty). Above a b x) o t))
      ]
      | inr e ↦ elim (above_numbers b top e q t.right) [
        | inl o ↦ subst (λ (x : Ty). IsTrue (sub object_type x)) (sym o)
            (laws.reflexive object_type (laws.of_world a object_type (laws.object_on_top a r)).1)
        | inr o ↦ absurd (no_right (subst (λ (x : Ty). Above a b x) o t))
      ]
    ];
  }

  -- what is above a type has no more dimensions
  pub dims_above : (d : ℕ) (t top : Ty) → t.dims ≤ d → IsReference n t → IsTrue (sub t top) → top.dims ≤ t.dims
  dims_above zero t top l r e =
      let z : t.dims ≡ 0 = omega (arith, l) in
      let c = class_above t top z r e in
      omega (arith, ap (λ (x : Ty). x.dims) c.1.1)
  dims_above (suc d) t top l r e = elim (item_or_none t) [
    | inl none ↦ elim (cases_lt 0 t.dims) [
      | inl some ↦ elim (above_numbers t top none some e) [
        | inl o ↦ omega (arith, ap (λ (x : Ty). x.dims) o)
        | inr o ↦ omega (arith, ap (λ (x : Ty). x.dims) o)
      ]
      | inr z ↦ omega (arith, ap (λ (x : Ty). x.dims) (class_above t top (omega (arith, z)) r e).1.1)
    ]
    | inr given ↦
        let is = array_of_item t given.0 given.1 in
        let one : t.dims ≡ given.0.dims + 1 = ap (λ (x : Ty). x.dims) is in
        elim (laws.array_below given.0 top (item_reference n t given.0 given.1 r) (subst (λ (x : Ty). IsTrue (sub x top)) is e)) [
          | inl o ↦ omega (arith, ap (λ (x : Ty). x.dims) o)
          | inr p ↦ omega (
            arith,
            one,
            ap (λ (x : Ty). x.dims) p.3,
            dims_above d given.0 p.0 (omega (arith, one, l))
                (item_reference n t given.0 given.1 r) p.2,
          )
        ]
  ]

  base_wider : (d e : ℕ) (base : Base) → 0 < e → IsReferenceBase n d base → IsReferenceBase n e base
  base_wider d e (Class k) h r = r
  base_wider d e (Num kind) h r = h

  pub array_reference : (t : Ty) → IsReference n t → t.dims < 255 → IsReference n (array_of t)
  array_reference t r h = (omega arith, base_wider t.dims (t.dims + 1) t.base (omega arith) r.1)

  pub arrays_join : (a b j : Ty) → IsReference n a → IsReference n b → IsReference n (array_of a) → IsReference n (array_of b)
      → IsJoin sub erase a b j → IsJoin sub erase (array_of a) (array_of b) (array_of j)
  arrays_join a b j r s ra sb h =
      let jr = (laws.of_world a j h.above.left).1 in
      let low = dims_above a.dims a j (omega arith) r h.above.left in
      let ar = array_reference j jr (omega (arith, ra.0)) in
      record {
        above = record {
          left = laws.below_array a j ra ar h.above.left;
          right = laws.below_array b j sb ar h.above.right;
          erased = laws.erase_array j jr ar ∙ ap array_of h.above.erased;
        };
        least = λ top t. elim (laws.array_below a top r t.left) [
          | inl o ↦ subst (λ (x : Ty). IsTrue (sub (array_of j) x)) (sym o) (laws.object_on_top (array_of j) ar)
          | inr p ↦ elim (laws.array_below b top s t.right) [
            | inl o ↦ absurd (no_dims object_type p.0 refl (sym o ∙ p.3))
            | inr q ↦
                let same = array_inside q.0 p.0 (sym q.3 ∙ p.3) in
                let array = subst (λ (x : Ty). IsReference n x) p.3 (laws.of_world (array_of a) top t.left).1 in
                let erased = array_inside (erase p.0) p.0 (sym (laws.erase_array p.0 p.1 array)
                ∙ subst (λ (x : Ty). erase x ≡ x) p.3 t.erased) in
                subst (λ (x : Ty). IsTrue (sub (array_of j) x)) (sym p.3)
                (laws.below_array j p.0 ar array
                (h.least p.0 (record { left = p.2; right = subst (λ (x : Ty). IsTrue (sub b x)) same q.2; erased = erased })))
          ]
        ];
      }

  pub items_fit : (a x y j : Ty) → item_of a ≡ Some x → IsReference n a → IsJoin sub erase x y j → j.dims + 1 < 256
  items_fit a x y j e r h =
      let one : a.dims ≡ x.dims + 1 = ap (λ (t : Ty). t.dims) (array_of_item a x e) in
      omega (arith, one, r.0, dims_above x.dims x j (omega arith) (item_reference n a x e r) h.above.left)

  -- two arrays of references, from their items
  pub items_join : (a b x y j : Ty) → item_of a ≡ Some x → item_of b ≡ Some y → IsReference n a → IsReference n b
      → IsJoin sub erase x y j → IsJoin sub erase a b (array_of j)
  items_join a b x y j e f r s h =
      let p = array_of_item a x e in
      let q = array_of_item b y f in
      subst (λ (t : Ty). IsJoin sub erase t b (array_of j)) (sym p) (
      subst (λ (t : Ty). IsJoin sub erase (array_of x) t (array_of j)) (sym q) (
      arrays_join x y j (item_reference n a x e r) (item_reference n b y f s) (subst (λ (t : Ty). IsReference n t) p r)
      (subst (λ (t : Ty). IsReference n t) q s) h
      )
      )
