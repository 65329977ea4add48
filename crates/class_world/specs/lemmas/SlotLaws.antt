-- What fields hold is of the world.
use Rattle.std.proofs.Common.{◌≡◌, ◌++◌, ℕ, zero, suc, ◌≤◌, Bool, true, false, cond, ltb, List, [], ◌∷◌, length, drop, Option, Some}
use Rattle.std.proofs.Common.{None, sym, refl, ap, subst, arith}
use Rattle.std.specs.Prelude.{option_and_then, slice_get, All}
use Rattle.std.specs.List.{filter_map, flat_map, cons_option, AllByRecursion}
use Rattle.std.specs.Option.{option_map_or}
use Rattle.std.proofs.lemmas.Bool.{ltb-false, ne_eqb}
use Rattle.code_forms.specs.class_base.declared.types.Element.{Element}
use Rattle.code_forms.specs.class_base.declared.types.Element.TheVariants.{Primitive, Object}
use Rattle.code_forms.specs.class_base.declared.types.FieldType.{FieldType}
use Rattle.code_forms.specs.class_base.Types.{type_at, element_at, array_depth}
use Rattle.class_read.specs.Content.{ClassContent, FieldContent}
use Rattle.jvm_values.specs.declared.types.Kind.{Kind}
use Rattle.jvm_values.specs.declared.types.Slot.{Slot}
use Rattle.jvm_values.specs.declared.types.Slot.TheVariants.{Num, Ref}
use Rattle.jvm_values.specs.declared.types.Base.TheVariants as bases
use Rattle.jvm_values.specs.Kinds.{kind_of_letter}
use Rattle.jvm_values.specs.Subtyping.{IsSlot}
use Rattle.class_world.specs.World.{World, class_of, is_static}
use Rattle.class_world.specs.Descriptors.{number_slot, class_slot, primitive_meaning, object_meaning, meaning_of, known_slot, slot_of}
use Rattle.class_world.specs.Fields.{field_slot, own_slots, fields_of}
use Rattle.class_world.specs.lemmas.Linked.{class_of_within}

pub every_append : {A : Type 0} (P : A → Type 0) (xs ys : List A) → AllByRecursion P xs → AllByRecursion P ys → AllByRecursion P (xs ++ ys)
every_append P [] ys h k = k
every_append P (x ∷ xs) ys h k = (h.0, every_append P xs ys h.1 k)

pub every_filter : {A B : Type 0} (P : B → Type 0) (f : A → Option B) (xs : List A) → ((x : A) (y : B) → f x ≡ Some y → P y)
    → AllByRecursion P (filter_map f xs)
every_filter P f [] h = tt
every_filter {B = B} P f (x ∷ xs) h = go (f x) refl (every_filter P f xs h)
  where
    go : (o : Option B) → f x ≡ o → AllByRecursion P (filter_map f xs) → AllByRecursion P (cons_option o (filter_map f xs))
    go None e rest = rest
    go (Some y) e rest = (h x y e, rest)

every_flat : {A B : Type 0} (P : B → Type 0) (f : A → List B) (xs : List A) → ((x : A) → AllByRecursion P (f x))
    → AllByRecursion P (flat_map f xs)
every_flat P f [] h = tt
every_flat P f (x ∷ xs) h = every_append P (f x) (flat_map f xs) (h x) (every_flat P f xs h)

pub every_all : {A : Type 0} (P : A → Type 0) (xs : List A) → AllByRecursion P xs → All P xs
every_all P [] h k d l = absurd (omega (arith, l))
every_all P (x ∷ xs) h zero d l = h.0
every_all P (x ∷ xs) h (suc k) d l = every_all P xs h.1 k d (omega (arith, l))

pub type_dims : (bytes rest : List ℕ) (t : FieldType) → type_at bytes ≡ Some (t, rest) → t.dims ≤ 255
unfolding type_at
type_dims bytes rest t e = go (ltb 255 (array_depth bytes)) refl (element_at (drop (array_depth bytes) bytes)) e
  where
    go : (b : Bool) → ltb 255 (array_depth bytes) ≡ b → (o : Option (Element × List ℕ))
        → cond {A = Option (FieldType × List ℕ)} b None
        (option_and_then (λ x. Some (record { dims = array_depth bytes; element = x.0 }, x.1)) o) ≡ Some (t, rest) → t.dims ≤ 255
    go true d o f = cc
    go false d None f = cc
    go false d (Some x) f =
        let same : Some (record { dims = array_depth bytes; element = x.0 }, x.1) ≡ Some (t, rest) = f in
        let dims : array_depth bytes ≡ t.dims = ap (λ o. option_map_or (λ p. p.0.dims) o 0) same in
        omega (arith, dims, ltb-false 255 (array_depth bytes) d)

number_is : (n dims : ℕ) (kind : Kind) → dims ≤ 255 → IsSlot n (number_slot dims kind)
number_is n zero kind l = tt
number_is n (suc d) kind l = subst
    (λ (b : Bool). IsSlot n (cond b (Num kind) (Ref (record { dims = suc d; base = bases.Num kind }))))
    (sym (ne_eqb (suc d) 0 (λ e. omega (arith, e)))) (l, omega arith)

pub meaning_is : (world : World) (t : FieldType) (slot : Slot) → t.dims ≤ 255 → known_slot (meaning_of world t) ≡ Some slot
    → IsSlot (length world) slot
meaning_is world t slot l e = by t.element e
  where
    by : (x : Element) → known_slot (meaning_of world (record { dims = t.dims; element = x })) ≡ Some slot → IsSlot (length world) slot
    by (Primitive b) f = go (kind_of_letter b) f
      where
        go : (k : Option Kind) → known_slot (primitive_meaning t.dims k) ≡ Some slot → IsSlot (length world) slot
        go None g = cc
        go (Some k) g = let same : number_slot t.dims k ≡ slot = cc in subst (λ (s : Slot). IsSlot (length world) s) same
            (number_is (length world) t.dims k l)
    by (Object name) f = go (class_of world name) refl f
      where
        go : (o : Option ℕ) → class_of world name ≡ o → known_slot (object_meaning t.dims name o) ≡ Some slot → IsSlot (length world) slot
        go None c g = cc
        go (Some class) c g =
            let same : class_slot t.dims class ≡ slot = cc in
            subst (λ (s : Slot). IsSlot (length world) s) same (l, class_of_within world name class c)

pub slot_is : (world : World) (desc : List ℕ) (slot : Slot) → slot_of world desc ≡ Some slot → IsSlot (length world) slot
unfolding slot_of
slot_is world desc slot e = go (type_at desc) refl e
  where
    go : (o : Option (FieldType × List ℕ)) → type_at desc ≡ o
        → option_and_then (λ x. known_slot (meaning_of world x.0)) o ≡ Some slot → IsSlot (length world) slot
    go None t f = cc
    go (Some x) t f = meaning_is world x.0 slot (type_dims desc x.1 x.0 t) f

pub field_is : (world : World) (f : FieldContent) (slot : Slot) → field_slot world f ≡ Some slot → IsSlot (length world) slot
field_is world f slot e = go (is_static f.flags) e
  where
    go : (b : Bool) → cond b None (slot_of world f.desc) ≡ Some slot → IsSlot (length world) slot
    go true g = cc
    go false g = slot_is world f.desc slot g

own_are : (world : World) (class : ℕ) → AllByRecursion (IsSlot (length world)) (own_slots world class)
unfolding own_slots
own_are world class = go (slice_get world class)
  where
    go : (o : Option ClassContent)
        → AllByRecursion (IsSlot (length world)) (option_map_or (λ c. filter_map (field_slot world) c.fields) o [])
    go None = tt
    go (Some c) = every_filter (IsSlot (length world)) (field_slot world) c.fields (field_is world)

pub fields_are : (world : World) (class : ℕ) → All (IsSlot (length world)) (fields_of world class)
unfolding fields_of
fields_are world class = every_all (IsSlot (length world)) (fields_of world class)
    (every_flat (IsSlot (length world)) (own_slots world) _ (own_are world))
