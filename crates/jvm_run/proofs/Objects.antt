-- Objects of a typed heap, by a type that they are below.
use Rattle.std.proofs.Common.{◌≡◌, ℕ, zero, suc, ◌+◌, ◌-◌, ◌<◌, ◌≤◌, ℤ, pos, Bool, true, false, cond, ◌&&◌, ◌||◌, eqb, ltb, List}
use Rattle.std.proofs.Common.{[], ◌∷◌, length, map, replicate, Option, Some, None, IsTrue, refl, sym, ap, ◌∙◌, subst, ◌⊎◌, inl, inr}
use Rattle.std.proofs.Common.{eqb→eq, arith}
use Rattle.std.specs.Prelude.{slice_get, All, nat_lt, ◌==◌}
use Rattle.std.specs.List.{AllZip, list_any}
use Rattle.std.specs.Option.{option_map, is_some}
use Rattle.std.proofs.lemmas.Bool.{false≢true, and_parts, ltb-true, eqb-true, or_cases}
use Rattle.std.proofs.lemmas.Option.{none-some}
use Rattle.list_views.proofs.Quantified.{all_at}
use Rattle.jvm_values.specs.declared.heap.Value.{Value}
use Rattle.jvm_values.specs.declared.heap.Value.TheVariants as values
use Rattle.jvm_values.specs.declared.heap.Object.{Object}
use Rattle.jvm_values.specs.declared.heap.Object.TheVariants.{Instance, Nums, Refs}
use Rattle.jvm_values.specs.declared.heap.Heap.{Heap}
use Rattle.jvm_values.specs.declared.types.Ty.{Ty}
use Rattle.jvm_values.specs.declared.types.Base.{Base}
use Rattle.jvm_values.specs.declared.types.Base.TheVariants as bases
use Rattle.jvm_values.specs.declared.types.Kind.{Kind}
use Rattle.jvm_values.specs.declared.types.Kind.TheVariants as kinds
use Rattle.jvm_values.specs.declared.types.Slot.{Slot}
use Rattle.jvm_values.specs.declared.types.Slot.TheVariants as slots
use Rattle.jvm_values.specs.declared.typing.PlaceType.TheVariants as places
use Rattle.jvm_values.specs.Subtyping.{class_type, object_type, array_of, array_of_numbers, IsReference, IsReferenceBase}
use Rattle.jvm_values.specs.TypedHeaps.{WorldTypes, AreLawful, type_of, Holds, IsTypedObject, IsTypedHeap}
use Rattle.jvm_values.specs.Joins.{item_of, item_under}
use Rattle.jvm_values.proofs.Joining.{array_of_item, same_type}
use Rattle.class_program.specs.class_world.World.{World, is_interface_class, super_of, supers_of, leads_up, is_above}
use Rattle.class_program.specs.class_world.lemmas.Walks.{IsIn}
use Rattle.class_program.specs.class_world.lemmas.Classes.{IsHierarchy}
use Rattle.class_program.specs.class_world.Types.{is_class_below, is_sub, erase, erase_by}
use Rattle.class_program.specs.class_world.Linking.{is_linked}
use Rattle.class_program.specs.class_world.WorldTypes.{types_of}
use Rattle.class_program.specs.class_world.lemmas.Subtypes.{stands_from, stands_to}
use Rattle.class_program.specs.class_world.lemmas.Linked.{linked_from, hierarchy, class_order}
use Rattle.jvm_step.specs.op_forms.declared.form.ItemKind.{ItemKind}
use Rattle.jvm_step.specs.op_forms.declared.form.ItemKind.TheVariants as items
use Rattle.code_verify.specs.Operands.{is_numbers, is_base_for, is_for as typed_for}
use Rattle.jvm_step.specs.Effects.{is_for, numbers_in, length_of}
use Rattle.jvm_values.specs.Slots.{initial_value}
use Rattle.jvm_run.proofs.Numbers.{zero_is}

-- ---- types

abbrev dims_of : Ty → ℕ
dims_of t = t.dims

-- an interface apart, a class stands for itself in assignments
pub erased_class : (world : World) (class : ℕ) → is_interface_class world class ≡ false → erase world (class_type class) ≡ class_type class
unfolding erase_by
erased_class world class e = let at : Bool → Ty = λ b. record { dims = 0; base = cond b (bases.Class 0) (bases.Class class) } in ap at e

pub class_same : (a b : ℕ) → class_type a ≡ class_type b → a ≡ b
class_same a b e = base_same (bases.Class a) (bases.Class b) (ap (λ (t : Ty). t.base) e)
  where
    class_in : Base → ℕ
    class_in (bases.Class class) = class
    class_in (bases.Num kind) = 0

    base_same : (x y : Base) → x ≡ y → class_in x ≡ class_in y
    base_same x y f = ap class_in f

pub reference_numbers : (classes : ℕ) (kind : Kind) → IsReference classes (array_of_numbers kind)
reference_numbers classes kind = (omega arith, omega arith)

-- what is below a class is so in the order of classes
pub class_below_by : (world : World) → is_linked world ≡ true → (a b : ℕ) → is_sub world (class_type a) (class_type b) ≡ true
    → is_class_below world a b ≡ true
class_below_by world linked a b e =
    let s = stands_from (length world) (is_class_below world) (is_interface_class world) (class_order world linked) (class_type a)
    (class_type b) e in
    elim s.2 [ inl p ↦ p.1 | inr p ↦ absurd (omega (arith, p.0)) ]

pub below_class_by : (world : World) → is_linked world ≡ true → (a b : ℕ) → a < length world → b < length world
    → is_class_below world a b ≡ true → is_sub world (class_type a) (class_type b) ≡ true
below_class_by world linked a b l k e =
    stands_to (length world) (is_class_below world) (is_interface_class world) (class_order world linked) (class_type a)
    (class_type b) ((omega arith, l), (omega arith, k), inl (refl, e))

-- some item of a list passes a test
some_passes : (test : ℕ → Bool) (xs : List ℕ) → list_any test xs ≡ true → (x : ℕ) × (IsIn x xs × (test x ≡ true))
some_passes test [] e = absurd (false≢true e)
some_passes test (y ∷ xs) e = go (test y) refl e (some_passes test xs)
  where
    go : (b : Bool) → test y ≡ b → (b || list_any test xs) ≡ true
        → (list_any test xs ≡ true → (x : ℕ) × (IsIn x xs × (test x ≡ true))) → (x : ℕ) × (IsIn x (y ∷ xs) × (test x ≡ true))
    go true p f more = (y, (inl refl, p))
    go false p f more = let k = more f in (k.0, (inr k.1.0, k.1.1))

-- above an interface is no class but Object
over_interface : (world : World) → is_linked world ≡ true → (steps a b : ℕ) → leads_up (supers_of world) steps a b ≡ true
    → is_interface_class world a ≡ true → is_interface_class world b ≡ false → b ≡ 0
over_interface world linked zero a b e i o = absurd (false≢true e)
over_interface world linked (suc steps) a b e i o =
    let h = hierarchy world (linked_from world linked) in
    let k = some_passes (λ (c : ℕ). eqb b c || leads_up (supers_of world) steps c b) (supers_of world a) e in
    by h k.0 k.1.0 (is_interface_class world k.0) refl (or_cases (eqb b k.0) (leads_up (supers_of world) steps k.0 b) k.1.1)
    (over_interface world linked steps k.0 b)
  where
    no_root : (h : IsHierarchy (length world) (super_of world) (supers_of world) (is_interface_class world)) (n : ℕ)
        → leads_up (supers_of world) n 0 b ≡ true → ⊥
    no_root h zero f = false≢true f
    no_root h (suc n) f = let k = some_passes (λ (c : ℕ). eqb b c || leads_up (supers_of world) n c b) (supers_of world 0) f in
        h.root k.0 k.1.0

    by : (h : IsHierarchy (length world) (super_of world) (supers_of world) (is_interface_class world)) (c : ℕ)
        → IsIn c (supers_of world a) → (x : Bool) → is_interface_class world c ≡ x
        → (eqb b c ≡ true) ⊎ (leads_up (supers_of world) steps c b ≡ true)
        → (leads_up (supers_of world) steps c b ≡ true → is_interface_class world c ≡ true → is_interface_class world b ≡ false
        → b ≡ 0) → b ≡ 0
    by h c there true p (inl same) more = absurd (false≢true (sym o ∙ (ap (is_interface_class world) (eqb-true b c same) ∙ p)))
    by h c there true p (inr up) more = more up p o
    by h c there false p (inl same) more = eqb-true b c same ∙ h.under a c i there p
    by h c there false p (inr up) more = absurd
        (no_root h steps (subst (λ (x : ℕ). leads_up (supers_of world) steps x b ≡ true) (h.under a c i there p) up))

pub erased_interface : (world : World) (class : ℕ) → is_interface_class world class ≡ true → erase world (class_type class) ≡ object_type
unfolding erase_by
erased_interface world class e = let at : Bool → Ty = λ b. record { dims = 0; base = cond b (bases.Class 0) (bases.Class class) } in
    ap at e

above_root : (world : World) → is_linked world ≡ true → (a b : ℕ) → is_class_below world a b ≡ true
    → is_interface_class world a ≡ true → is_interface_class world b ≡ false → b ≡ 0
unfolding is_class_below is_above
above_root world linked a b e i o = elim (or_cases (eqb b 0 || eqb a b) (leads_up (supers_of world) (length world) a b) e) [
  | inl near ↦ elim (or_cases (eqb b 0) (eqb a b) near) [
    | inl z ↦ eqb-true b 0 z
    | inr same ↦ absurd (false≢true (sym o ∙ (ap (is_interface_class world) (sym (eqb-true a b same)) ∙ i)))
  ]
  | inr up ↦ over_interface world linked (length world) a b up i o
]

-- what a class is below, it is below as assignments see it, though they see an interface as Object
pub erased_above : (world : World) → is_linked world ≡ true → AreLawful (types_of world) → (t : Ty) (a b : ℕ) → a < length world
    → b < length world → is_class_below world a b ≡ true → is_sub world t (erase world (class_type a)) ≡ true
    → is_sub world t (erase world (class_type b)) ≡ true
erased_above world linked laws t a b l k below e = by (is_interface_class world a) refl (is_interface_class world b) refl
  where
    up : erase world (class_type a) ≡ class_type a → is_sub world t (erase world (class_type b)) ≡ true
    up same =
        let here : is_sub world t (class_type a) ≡ true = subst (λ (x : Ty). is_sub world t x ≡ true) same e in
        let over : is_sub world t (class_type b) ≡ true = laws.transitive t (class_type a) (class_type b) here
        (below_class_by world linked a b l k below) in
        laws.transitive t (class_type b) (erase world (class_type b)) over (laws.erase_up (class_type b) (omega arith, k))

    at_root : erase world (class_type b) ≡ object_type → is_sub world t (erase world (class_type b)) ≡ true
    at_root same = subst (λ (x : Ty). is_sub world t x ≡ true) (sym same)
        (laws.object_on_top t (laws.of_world t (erase world (class_type a)) e).0)

    by : (x : Bool) → is_interface_class world a ≡ x → (y : Bool) → is_interface_class world b ≡ y
        → is_sub world t (erase world (class_type b)) ≡ true
    by false p y q = up (erased_class world a p)
    by true p true q = at_root (erased_interface world b q)
    by true p false q = at_root (erased_class world b q ∙ ap class_type (above_root world linked a b below p q))

-- ---- what an object is, by a type above it

-- an instance of a class
pub record IsInstance (types : WorldTypes) (heap : Heap) (object : Object) : Type 0 where
  pub own : ℕ
  pub fields : List Value
  pub object_is : object ≡ Instance own fields
  pub typed : IsTypedObject types heap (Instance own fields)

-- an array is below no class but Object
pub numbers_root : (types : WorldTypes) → AreLawful types → (kind : Kind) (class : ℕ)
    → IsTrue (types.sub (array_of_numbers kind) (class_type class)) → class ≡ 0
numbers_root types laws kind class s = elim (laws.numbers_below kind (class_type class) s) [
  | inl e ↦ class_same class 0 e
  | inr e ↦ let d : 0 ≡ 1 = ap dims_of e in absurd (omega (arith, d))
]

pub references_root : (types : WorldTypes) → AreLawful types → (element : Ty) (class : ℕ) → IsReference types.classes element
    → IsTrue (types.sub (array_of element) (class_type class)) → class ≡ 0
references_root types laws element class r s = elim (laws.array_below element (class_type class) r s) [
  | inl e ↦ class_same class 0 e
  | inr above ↦ let d : 0 ≡ above.0.dims + 1 = ap dims_of above.3 in absurd (omega (arith, d))
]

-- below a class is an instance, or an array, and then the class is Object
pub instance_or_root : (types : WorldTypes) → AreLawful types → (heap : Heap) (object : Object) (class : ℕ)
    → IsTypedObject types heap object → IsTrue (types.sub (type_of object) (class_type class)) → IsInstance types heap object ⊎ (class ≡ 0)
instance_or_root types laws heap (Instance own fields) class h s = inl (record { own = own; fields = fields; object_is = refl; typed = h })
instance_or_root types laws heap (Nums kind items) class h s = inr (numbers_root types laws kind class s)
instance_or_root types laws heap (Refs element items) class h s = inr (references_root types laws element class h.1.1.0 s)

-- ---- arrays of numbers

same_for : (for : ItemKind) (kind : Kind) → typed_for for kind ≡ true → is_for for kind ≡ true
same_for items.Int kinds.Boolean e = absurd (false≢true e)
same_for items.Int kinds.Char e = absurd (false≢true e)
same_for items.Int kinds.Byte e = absurd (false≢true e)
same_for items.Int kinds.Short e = absurd (false≢true e)
same_for items.Int kinds.Int e = refl
same_for items.Byte kinds.Boolean e = refl
same_for items.Byte kinds.Char e = absurd (false≢true e)
same_for items.Byte kinds.Byte e = refl
same_for items.Byte kinds.Short e = absurd (false≢true e)
same_for items.Byte kinds.Int e = absurd (false≢true e)
same_for items.Char kinds.Boolean e = absurd (false≢true e)
same_for items.Char kinds.Char e = refl
same_for items.Char kinds.Byte e = absurd (false≢true e)
same_for items.Char kinds.Short e = absurd (false≢true e)
same_for items.Char kinds.Int e = absurd (false≢true e)
same_for items.Short kinds.Boolean e = absurd (false≢true e)
same_for items.Short kinds.Char e = absurd (false≢true e)
same_for items.Short kinds.Byte e = absurd (false≢true e)
same_for items.Short kinds.Short e = refl
same_for items.Short kinds.Int e = absurd (false≢true e)

pub record NumberArray (types : WorldTypes) (heap : Heap) (for : ItemKind) (object : Object) : Type 0 where
  pub kind : Kind
  pub list : List ℤ
  pub object_is : object ≡ Nums kind list
  pub found : numbers_in for (Nums kind list) ≡ Some (kind, list)
  pub typed : IsTypedObject types heap (Nums kind list)

numbers_found : (for : ItemKind) (kind : Kind) (list : List ℤ) → is_for for kind ≡ true
    → numbers_in for (Nums kind list) ≡ Some (kind, list)
numbers_found for kind list e =
    let pair : Kind × List ℤ = (kind, list) in
    subst (λ (b : Bool). cond {A = Option (Kind × List ℤ)} b (Some pair) None ≡ Some pair) (sym e) refl

no_class_for : (for : ItemKind) (classes : ℕ) (x : Base) → is_base_for for x ≡ true → IsReferenceBase classes 0 x → ⊥
no_class_for for classes (bases.Class class) e r = false≢true e
no_class_for for classes (bases.Num kind) e r = omega (arith, r)

pub number_array : (types : WorldTypes) → AreLawful types → (heap : Heap) (for : ItemKind) (object : Object) (t : Ty)
    → IsTypedObject types heap object → IsTrue (types.sub (type_of object) t) → is_numbers for (places.Ref t) ≡ true
    → NumberArray types heap for object
number_array types laws heap for (Instance class fields) t h s e =
    let one = eqb-true t.dims 1 (and_parts (eqb t.dims 1) (is_base_for for t.base) e).0 in
    absurd (omega (arith, one, laws.class_below class t s))
number_array types laws heap for (Nums kind list) t h s e =
    let p = and_parts (eqb t.dims 1) (is_base_for for t.base) e in
    elim (laws.numbers_below kind t s) [
      | inl o ↦ let d : t.dims ≡ 0 = ap dims_of o in let one : t.dims ≡ 1 = eqb-true t.dims 1 p.0 in absurd (omega (arith, d, one))
      | inr a ↦ record {
        kind = kind;
        list = list;
        object_is = refl;
        found = numbers_found for kind list (same_for for kind (subst (λ (x : Ty). is_base_for for x.base ≡ true) a p.1));
        typed = h;
      }
    ]
number_array types laws heap for (Refs element list) t h s e =
    let p = and_parts (eqb t.dims 1) (is_base_for for t.base) e in
    elim (laws.array_below element t h.1.1.0 s) [
      | inl o ↦ let d : t.dims ≡ 0 = ap dims_of o in let one : t.dims ≡ 1 = eqb-true t.dims 1 p.0 in absurd (omega (arith, d, one))
      | inr above ↦
          let item : Ty = above.0 in
          let d : t.dims ≡ item.dims + 1 = ap dims_of above.3 in
          let one : t.dims ≡ 1 = eqb-true t.dims 1 p.0 in
          let flat : item.dims ≡ 0 = omega (arith, one, d) in
          absurd (no_class_for for types.classes item.base (subst (λ (x : Ty). is_base_for for x.base ≡ true) above.3 p.1)
          (subst (λ (d : ℕ). IsReferenceBase types.classes d item.base) flat above.1.1))
    ]

-- ---- arrays of references

pub record ReferenceArray (types : WorldTypes) (heap : Heap) (item : Ty) (object : Object) : Type 0 where
  pub element : Ty
  pub list : List Value
  pub object_is : object ≡ Refs element list
  pub below : IsTrue (types.sub element item)
  pub typed : IsTypedObject types heap (Refs element list)

item_deep : (dims : ℕ) (base : Base) (item : Ty) → item_under dims base ≡ Some item → 0 < dims
item_deep zero (bases.Class class) item e = absurd (none-some item e)
item_deep zero (bases.Num kind) item e = absurd (none-some item e)
item_deep (suc dims) base item e = omega arith

item_of_numbers : (kind : Kind) (item : Ty) → item_of (array_of_numbers kind) ≡ Some item → ⊥
item_of_numbers kind item e = none-some item e

pub reference_array_of : (types : WorldTypes) → AreLawful types → (heap : Heap) (object : Object) (t item : Ty)
    → IsTypedObject types heap object → IsTrue (types.sub (type_of object) t) → item_of t ≡ Some item
    → ReferenceArray types heap item object
reference_array_of types laws heap (Instance class fields) t item h s e = absurd
    (omega (arith, item_deep t.dims t.base item e, laws.class_below class t s))
reference_array_of types laws heap (Nums kind list) t item h s e = elim (laws.numbers_below kind t s) [
  | inl o ↦ let d : t.dims ≡ 0 = ap dims_of o in absurd (omega (arith, item_deep t.dims t.base item e, d))
  | inr a ↦ absurd (item_of_numbers kind item (subst (λ (x : Ty). item_of x ≡ Some item) a e))
]
reference_array_of types laws heap (Refs element list) t item h s e = elim (laws.array_below element t h.1.1.0 s) [
  | inl o ↦ let d : t.dims ≡ 0 = ap dims_of o in absurd (omega (arith, item_deep t.dims t.base item e, d))
  | inr above ↦
      let under : Ty = above.0 in
      let arrays : array_of item ≡ array_of under = sym (array_of_item t item e) ∙ above.3 in
      let same : item ≡ under = same_type item under
      (let d : item.dims + 1 ≡ under.dims + 1 = ap dims_of arrays in omega (arith, d)) (ap (λ (x : Ty). x.base) arrays) in
      record {
        element = element;
        list = list;
        object_is = refl;
        below = subst (λ (x : Ty). IsTrue (types.sub element x)) (sym same)
            above.2;
        typed = h;
      }
]

-- ---- arrays of any kind

pub record SomeArray (object : Object) : Type 0 where
  pub count : ℕ
  pub count_is : length_of object ≡ Some count
  pub small : count ≤ 2147483647

pub some_array : (types : WorldTypes) → AreLawful types → (heap : Heap) (object : Object) (t : Ty) → IsTypedObject types heap object
    → IsTrue (types.sub (type_of object) t) → 0 < t.dims → SomeArray object
some_array types laws heap (Instance class fields) t h s l = absurd (omega (arith, l, laws.class_below class t s))
some_array types laws heap (Nums kind list) t h s l = record { count = length list; count_is = refl; small = h.0 }
some_array types laws heap (Refs element list) t h s l = record { count = length list; count_is = refl; small = h.0 }

-- ---- new objects

pub defaults_held : (types : WorldTypes) (heap : Heap) (fields : List Slot) → AllZip (Holds types heap) fields (map initial_value fields)
defaults_held types heap [] = tt
defaults_held types heap (slots.Num kind ∷ fields) = (zero_is kind, defaults_held types heap fields)
defaults_held types heap (slots.Ref t ∷ fields) = (tt, defaults_held types heap fields)

pub typed_at : (types : WorldTypes) (heap : Heap) (r : ℕ) (object : Object) → IsTypedHeap types heap
    → slice_get heap.objects r ≡ Some object → IsTypedObject types heap object
typed_at types heap r object h e = all_at (IsTypedObject types heap) heap.objects r object h e
