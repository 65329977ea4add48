-- Reference types by what they are: a class, an array of numbers, or an array of references.
use Rattle.std.proofs.Common.{◌≡◌, ℕ, zero, suc, ◌+◌, ◌-◌, ◌<◌, ◌≤◌, Bool, true, false, cond, ltb, eqb, ◌&&◌, Option, Some, None}
use Rattle.std.proofs.Common.{◌⊎◌, inl, inr, refl, sym, ap, subst, ◌∙◌, arith}
use Rattle.std.specs.Prelude.{IsTrue}
use Rattle.std.specs.Option.{is_some}
use Rattle.std.proofs.lemmas.Bool.{false≢true, ltb-true, lt-ltb, cases_lt}
use Rattle.std.proofs.lemmas.Option.{none-some}
use Rattle.jvm_values.specs.declared.types.Ty.{Ty}
use Rattle.jvm_values.specs.declared.types.Kind.{Kind}
use Rattle.jvm_values.specs.declared.types.Base.{Base}
use Rattle.jvm_values.specs.declared.types.Base.TheVariants.{Class, Num}
use Rattle.jvm_values.specs.Subtyping.{class_type, object_type, array_of, array_of_numbers, IsReference, IsReferenceBase, IsErased}
use Rattle.jvm_values.specs.Subtyping.{IsArrayAbove}
use Rattle.jvm_values.specs.TypedHeaps.{WorldTypes, AreLawful}
use Rattle.jvm_values.specs.Joins.{item_under, item_of}
use Rattle.jvm_values.proofs.Options.{some_is}
use Rattle.jvm_values.proofs.Joining.{same_type, array_inside}

-- what a reference type is
pub data Shape (n : ℕ) (t : Ty) : Type 0 where
  class : (k : ℕ) → t ≡ class_type k → Shape n t
  numbers : (kind : Kind) → t ≡ array_of_numbers kind → Shape n t
  references : (item : Ty) → IsReference n item → t ≡ array_of item → Shape n t

shape_of_base : (n d : ℕ) (base : Base) → d ≤ 255 → IsReferenceBase n d base → Shape n (record { dims = d; base = base })
shape_of_base n zero (Class k) l r = class k refl
shape_of_base n (suc d) (Class k) l r = references (record { dims = d; base = Class k }) (omega arith, r)
    (same_type (record { dims = suc d; base = Class k }) (array_of (record { dims = d; base = Class k })) (omega arith) refl)
shape_of_base n zero (Num kind) l r = absurd (omega arith)
shape_of_base n (suc zero) (Num kind) l r = numbers kind refl
shape_of_base n (suc (suc d)) (Num kind) l r = references (record { dims = suc d; base = Num kind }) (omega arith, omega arith)
    (same_type (record { dims = suc (suc d); base = Num kind }) (array_of (record { dims = suc d; base = Num kind })) (omega arith) refl)

pub shape_of : (n : ℕ) (t : Ty) → IsReference n t → Shape n t
shape_of n t r = shape_of_base n t.dims t.base r.0 r.1

-- ---- items

under_array : (n d : ℕ) (base : Base) → IsReferenceBase n d base → item_under (d + 1) base ≡ Some (record { dims = d; base = base })
under_array n d (Class k) r =
    let e : (d + 1) - 1 ≡ d = omega arith in
    ap (λ (b : Bool). cond b (Some (record { dims = (d + 1) - 1; base = Class k })) None) (lt-ltb 0 (d + 1) (omega arith))
    ∙ ap (λ x. Some (record { dims = x; base = Class k })) e
under_array n d (Num kind) r =
    let e : (d + 1) - 1 ≡ d = omega arith in
    ap (λ (b : Bool). cond b (Some (record { dims = (d + 1) - 1; base = Num kind })) None) (lt-ltb 1 (d + 1) (omega arith))
    ∙ ap (λ x. Some (record { dims = x; base = Num kind })) e

-- the items of an array of references
pub item_of_array : (n : ℕ) (item : Ty) → IsReference n item → item_of (array_of item) ≡ Some item
item_of_array n item r = under_array n item.dims item.base r.1

-- what has items is an array of references
pub array_of_item : (n : ℕ) (t item : Ty) → IsReference n t → item_of t ≡ Some item → (t ≡ array_of item) × IsReference n item
array_of_item n t item r e = by (shape_of n t r)
  where
    by : Shape n t → (t ≡ array_of item) × IsReference n item
    by (class k s) = absurd (none-some item (ap item_of (sym s) ∙ e))
    by (numbers kind s) = absurd (none-some item (ap item_of (sym s) ∙ e))
    by (references x q s) =
        let same : x ≡ item = some_is (sym (item_of_array n x q) ∙ ap item_of (sym s) ∙ e) in
        (s ∙ ap array_of same, subst (IsReference n) same q)

module _ (types : WorldTypes) (laws : AreLawful types) where
  -- what is below an array of references is one, and its items are below
  pub items_below : (s t item : Ty) → IsReference types.classes s → IsTrue (types.sub s t) → item_of t ≡ Some item
      → (x : Ty) × ((item_of s ≡ Some x) × IsTrue (types.sub x item))
  items_below s t item r below e = by (shape_of types.classes s r)
    where
      target : (t ≡ array_of item) × IsReference types.classes item
      target = array_of_item types.classes t item (laws.of_world s t below).1 e

      above : (x : Ty) → IsReference types.classes x → s ≡ array_of x → (t ≡ object_type) ⊎ IsArrayAbove types.sub types.classes x t
          → IsTrue (types.sub x item)
      above x q is (inl o) = absurd (none-some item (ap item_of (sym o) ∙ e))
      above x q is (inr h) = subst (λ (y : Ty). IsTrue (types.sub x y)) (array_inside h.0 item (sym h.3 ∙ target.0)) h.2

      numbers_no : (kind : Kind) → s ≡ array_of_numbers kind → (t ≡ object_type) ⊎ (t ≡ array_of_numbers kind) → ⊥
      numbers_no kind is (inl o) = none-some item (ap item_of (sym o) ∙ e)
      numbers_no kind is (inr o) = none-some item (ap item_of (sym o) ∙ e)

      flat_no : t.dims ≡ 0 → ⊥
      flat_no z = let d : t.dims ≡ item.dims + 1 = ap (λ (x : Ty). x.dims) target.0 in omega arith

      by : Shape types.classes s → (x : Ty) × ((item_of s ≡ Some x) × IsTrue (types.sub x item))
      by (class k is) = absurd (flat_no (laws.class_below k t (subst (λ (x : Ty). IsTrue (types.sub x t)) is below)))
      by (numbers kind is) = absurd (numbers_no kind is (laws.numbers_below kind t (subst (λ (x : Ty). IsTrue (types.sub x t)) is below)))
      by (references x q is) = (
        x,
        (
          ap item_of is ∙ item_of_array types.classes x q,
          above x q is
              (laws.array_below x t q (subst (λ (y : Ty). IsTrue (types.sub y t)) is below)),
        ),
      )

  -- what is below an array of numbers is that array
  pub numbers_below_same : (s t : Ty) (kind : Kind) → IsReference types.classes s → IsTrue (types.sub s t)
      → t ≡ array_of_numbers kind → s ≡ t
  numbers_below_same s t kind r below e = by (shape_of types.classes s r)
    where
      no_object : t ≡ object_type → ⊥
      no_object o = let z : t.dims ≡ 0 = ap (λ (x : Ty). x.dims) o in let d : t.dims ≡ 1 = ap (λ (x : Ty). x.dims) e in omega arith

      one : t.dims ≡ 1
      one = ap (λ (x : Ty). x.dims) e

      by_numbers : (k : Kind) → s ≡ array_of_numbers k → (t ≡ object_type) ⊎ (t ≡ array_of_numbers k) → s ≡ t
      by_numbers k is (inl o) = absurd (no_object o)
      by_numbers k is (inr o) = is ∙ sym o

      base_no : (d : ℕ) (base : Base) → IsReferenceBase types.classes d base → d ≡ 0 → base ≡ Num kind → ⊥
      base_no d (Class c) q z b = cc
      base_no d (Num j) q z b = omega arith

      by_items : (x : Ty) → IsReference types.classes x → (t ≡ object_type) ⊎ IsArrayAbove types.sub types.classes x t → ⊥
      by_items x q (inl o) = no_object o
      by_items x q (inr h) =
          let d : t.dims ≡ h.0.dims + 1 = ap (λ (y : Ty). y.dims) h.3 in
          base_no h.0.dims h.0.base h.1.1 (omega (arith, d, one)) (ap (λ (y : Ty). y.base) (sym h.3 ∙ e))

      by : Shape types.classes s → s ≡ t
      by (class k is) = absurd (let z : t.dims ≡ 0 = laws.class_below k t (subst (λ (x : Ty). IsTrue (types.sub x t)) is below) in
          omega (arith, z, one))
      by (numbers k is) = by_numbers k is (laws.numbers_below k t (subst (λ (x : Ty). IsTrue (types.sub x t)) is below))
      by (references x q is) = absurd (by_items x q (laws.array_below x t q (subst (λ (y : Ty). IsTrue (types.sub y t)) is below)))

  -- what is below an array is one
  pub dims_below : (s t : Ty) → IsReference types.classes s → IsTrue (types.sub s t) → 0 < t.dims → 0 < s.dims
  dims_below s t r below l = by (shape_of types.classes s r)
    where
      by : Shape types.classes s → 0 < s.dims
      by (class k is) = absurd (let z : t.dims ≡ 0 = laws.class_below k t (subst (λ (x : Ty). IsTrue (types.sub x t)) is below) in
          omega arith)
      by (numbers k is) = let d : s.dims ≡ 1 = ap (λ (x : Ty). x.dims) is in omega arith
      by (references x q is) = let d : s.dims ≡ x.dims + 1 = ap (λ (y : Ty). y.dims) is in omega arith

  -- the items of an erased array are erased
  pub item_erased : (t item : Ty) → IsReference types.classes t → IsErased types.erase t → item_of t ≡ Some item
      → IsErased types.erase item
  item_erased t item r e is =
      let h = array_of_item types.classes t item r is in
      array_inside (types.erase item) item (sym (laws.erase_array item h.1 (subst (IsReference types.classes) h.0 r))
      ∙ ap types.erase (sym h.0) ∙ e ∙ h.0)

  pub erased_of_world : (t : Ty) → IsReference types.classes t → IsReference types.classes (types.erase t)
      × IsErased types.erase (types.erase t)
  erased_of_world t r = ((laws.of_world t (types.erase t) (laws.erase_up t r)).1, laws.erase_erased t r)
