-- Values that have types: in heaps that grow, and of wider types.
use Rattle.std.proofs.Common.{◌≡◌, ℕ, zero, suc, ◌+◌, ◌<◌, ◌≤◌, ℤ, pos, negsuc, Bool, true, false, List, [], ◌∷◌, ◌++◌, length}
use Rattle.std.proofs.Common.{get_or, set, Option, Some, None, IsTrue, refl, sym, ap, ◌∙◌, subst, length-append, length-set, arith}
use Rattle.std.specs.Prelude.{slice_get, All, IfSome}
use Rattle.std.specs.List.{AllZip}
use Rattle.std.proofs.lemmas.Option.{slice_get_within, none-some}
use Rattle.std.proofs.lemmas.List.Elements.{All-push, All-set, All-weaker}
use Rattle.list_views.proofs.Items.{get_before}
use Rattle.jvm_values.specs.declared.heap.Value.{Value}
use Rattle.jvm_values.specs.declared.heap.Value.TheVariants as values
use Rattle.jvm_values.specs.declared.heap.Object.{Object}
use Rattle.jvm_values.specs.declared.heap.Object.TheVariants.{Instance, Nums, Refs}
use Rattle.jvm_values.specs.declared.heap.Heap.{Heap}
use Rattle.jvm_values.specs.declared.types.Ty.{Ty}
use Rattle.jvm_values.specs.declared.types.Kind.{Kind}
use Rattle.jvm_values.specs.declared.types.Kind.TheVariants as kinds
use Rattle.jvm_values.specs.declared.types.Slot.{Slot}
use Rattle.jvm_values.specs.declared.types.Slot.TheVariants as slots
use Rattle.jvm_values.specs.declared.typing.PlaceType.{PlaceType}
use Rattle.jvm_values.specs.declared.typing.PlaceType.TheVariants as places
use Rattle.jvm_values.specs.Heaps.{IsInHeap}
use Rattle.jvm_values.specs.TypedHeaps.{WorldTypes, AreLawful, type_of, HasType, Holds, IsTypedObject, IsTypedHeap}
use Rattle.jvm_values.proofs.Options.{some_is}
use Rattle.jvm_values.proofs.Typed.{value_in_heap}
use Rattle.code_verify.specs.FrameTypesPlaces.{IsWithin}
use Rattle.code_verify.specs.Operands.{place_of}
use Rattle.code_verify.specs.TypedStates.{HasPlaceType}
use Rattle.jvm_run.proofs.Lists.{zip_map}
use Rattle.jvm_run.proofs.Numbers.{of_int}

-- ---- heaps that grow

-- every object is still there, of the type that it had
pub record Grows (old new : Heap) : Type 0 where
  pub kept : (r : ℕ) (object : Object) → slice_get old.objects r ≡ Some object
      → (after : Object) × ((slice_get new.objects r ≡ Some after) × (type_of after ≡ type_of object))
  pub longer : length old.objects ≤ length new.objects

pub grows_same : (heap : Heap) → Grows heap heap
grows_same heap = record { kept = λ r object e. (object, (e, refl)); longer = omega arith }

pub grows_by : (heap : Heap) (object : Object) → Grows heap (record { objects = heap.objects ++ object ∷ [] })
grows_by heap object = record {
  kept = λ r other e. (other, (get_before heap.objects (object ∷ []) r other e, refl));
  longer = omega (arith, length-append heap.objects (object ∷ []));
}

place_after : (objects : List Object) (r : ℕ) (object new : Object) → slice_get objects r ≡ Some object
    → type_of new ≡ type_of object → (k : ℕ) (other : Object) → slice_get objects k ≡ Some other
    → (after : Object) × ((slice_get (set objects r new) k ≡ Some after) × (type_of after ≡ type_of other))
place_after [] r object new e t k other f = absurd (none-some other f)
place_after (first ∷ more) zero object new e t zero other f = (new, (refl, t ∙ ap type_of (sym (some_is e) ∙ some_is f)))
place_after (first ∷ more) zero object new e t (suc k) other f = (other, (f, refl))
place_after (first ∷ more) (suc r) object new e t zero other f = (other, (f, refl))
place_after (first ∷ more) (suc r) object new e t (suc k) other f = place_after more r object new e t k other f

pub grows_set : (heap : Heap) (r : ℕ) (object new : Object) → slice_get heap.objects r ≡ Some object → type_of new ≡ type_of object
    → Grows heap (record { objects = set heap.objects r new })
grows_set heap r object new e t = record {
  kept = place_after heap.objects r object new e t;
  longer = omega (arith, length-set heap.objects r new);
}

-- ---- what grows keeps

pub type_grown : (types : WorldTypes) (old new : Heap) → Grows old new → (value : Value) (t : Ty) → HasType types old value t
    → HasType types new value t
type_grown types old new g (values.Int n) t h = absurd h
type_grown types old new g values.Null t h = tt
type_grown types old new g (values.Ref r) t h =
    let k = g.kept r h.0 h.1.0 in
    (k.0, (k.1.0, subst (λ (s : Ty). IsTrue (types.sub s t)) (sym k.1.1) h.1.1))

pub holds_grown : (types : WorldTypes) (old new : Heap) → Grows old new → (slot : Slot) (value : Value) → Holds types old slot value
    → Holds types new slot value
holds_grown types old new g (slots.Num kind) (values.Int n) h = h
holds_grown types old new g (slots.Num kind) values.Null h = absurd h
holds_grown types old new g (slots.Num kind) (values.Ref r) h = absurd h
holds_grown types old new g (slots.Ref t) value h = type_grown types old new g value (types.erase t) h

pub object_grown : (types : WorldTypes) (old new : Heap) → Grows old new → (object : Object) → IsTypedObject types old object
    → IsTypedObject types new object
object_grown types old new g (Instance class fields) h =
    (h.0, (h.1.0, zip_map (Holds types old) (Holds types new) (holds_grown types old new g) (types.fields class) fields h.1.1))
object_grown types old new g (Nums kind items) h = h
object_grown types old new g (Refs element items) h =
    (h.0, (h.1.0, (h.1.1.0, λ k d l. type_grown types old new g (get_or items k d) element (h.1.1.1 k d l))))

pub place_grown : (types : WorldTypes) (old new : Heap) → Grows old new → (place : PlaceType) (local : Option Value)
    → HasPlaceType types old place local → HasPlaceType types new place local
place_grown types old new g places.Unset local h = tt
place_grown types old new g places.Int (Some (values.Int n)) h = h
place_grown types old new g places.Int (Some values.Null) h = absurd h
place_grown types old new g places.Int (Some (values.Ref r)) h = absurd h
place_grown types old new g places.Int None h = absurd h
place_grown types old new g places.Null (Some (values.Int n)) h = absurd h
place_grown types old new g places.Null (Some values.Null) h = tt
place_grown types old new g places.Null (Some (values.Ref r)) h = absurd h
place_grown types old new g places.Null None h = absurd h
place_grown types old new g (places.Ref t) (Some value) h = type_grown types old new g value t h
place_grown types old new g (places.Ref t) None h = absurd h

pub in_heap_grown : (old new : Heap) → Grows old new → (value : Value) → IsInHeap (length old.objects) value
    → IsInHeap (length new.objects) value
in_heap_grown old new g value h a e = omega (arith, h a e, g.longer)

pub local_grown : (old new : Heap) → Grows old new → (local : Option Value) → IfSome local (IsInHeap (length old.objects))
    → IfSome local (IsInHeap (length new.objects))
local_grown old new g (Some value) h = in_heap_grown old new g value h
local_grown old new g None h = tt

-- ---- typed heaps

pub heap_with : (types : WorldTypes) (heap : Heap) (object : Object) → IsTypedHeap types heap → IsTypedObject types heap object
    → IsTypedHeap types (record { objects = heap.objects ++ object ∷ [] })
heap_with types heap object h k =
    let new : Heap = record { objects = heap.objects ++ object ∷ [] } in
    let g = grows_by heap object in
    All-push (IsTypedObject types new) heap.objects object
    (All-weaker (IsTypedObject types heap) (IsTypedObject types new) (object_grown types heap new g) heap.objects h)
    (object_grown types heap new g object k)

pub heap_set : (types : WorldTypes) (heap : Heap) (r : ℕ) (object new : Object) → slice_get heap.objects r ≡ Some object
    → type_of new ≡ type_of object → IsTypedHeap types heap → IsTypedObject types heap new
    → IsTypedHeap types (record { objects = set heap.objects r new })
heap_set types heap r object new e t h k =
    let after : Heap = record { objects = set heap.objects r new } in
    let g = grows_set heap r object new e t in
    All-set (IsTypedObject types after) heap.objects r new (object_grown types heap after g new k)
    (All-weaker (IsTypedObject types heap) (IsTypedObject types after) (object_grown types heap after g) heap.objects h)

-- ---- wider types

pub type_wider : (types : WorldTypes) → AreLawful types → (heap : Heap) (value : Value) (s t : Ty) → IsTrue (types.sub s t)
    → HasType types heap value s → HasType types heap value t
type_wider types laws heap (values.Int n) s t w h = absurd h
type_wider types laws heap values.Null s t w h = tt
type_wider types laws heap (values.Ref r) s t w h = (h.0, (h.1.0, laws.transitive (type_of h.0) s t h.1.1 w))

pub place_wider : (types : WorldTypes) → AreLawful types → (heap : Heap) (a b : PlaceType) (local : Option Value)
    → IsWithin types a b → HasPlaceType types heap a local → HasPlaceType types heap b local
place_wider types laws heap a places.Unset local w h = tt
place_wider types laws heap places.Int places.Int local w h = h
place_wider types laws heap places.Null places.Null local w h = h
place_wider types laws heap places.Null (places.Ref t) (Some (values.Int n)) w h = absurd h
place_wider types laws heap places.Null (places.Ref t) (Some values.Null) w h = tt
place_wider types laws heap places.Null (places.Ref t) (Some (values.Ref r)) w h = absurd h
place_wider types laws heap places.Null (places.Ref t) None w h = absurd h
place_wider types laws heap (places.Ref s) (places.Ref t) (Some value) w h = type_wider types laws heap value s t w h
place_wider types laws heap (places.Ref s) (places.Ref t) None w h = absurd h
place_wider types laws heap places.Unset places.Int local w h = absurd w
place_wider types laws heap places.Unset places.Null local w h = absurd w
place_wider types laws heap places.Unset (places.Ref t) local w h = absurd w
place_wider types laws heap places.Int places.Null local w h = absurd w
place_wider types laws heap places.Int (places.Ref t) local w h = absurd w
place_wider types laws heap places.Null places.Int local w h = absurd w
place_wider types laws heap (places.Ref s) places.Int local w h = absurd w
place_wider types laws heap (places.Ref s) places.Null local w h = absurd w

-- ---- what slots hold

-- what a field may hold has the type of its place
pub held : (types : WorldTypes) (heap : Heap) (slot : Slot) (value : Value) → Holds types heap slot value
    → HasPlaceType types heap (place_of types slot) (Some value)
held types heap (slots.Num kind) (values.Int n) h = of_int kind n h
held types heap (slots.Num kind) values.Null h = absurd h
held types heap (slots.Num kind) (values.Ref r) h = absurd h
held types heap (slots.Ref t) value h = h

-- what an int or a reference of a type is lies in the heap
pub placed_in_heap : (types : WorldTypes) (heap : Heap) (place : PlaceType) (value : Value) → (place ≡ places.Unset → ⊥)
    → HasPlaceType types heap place (Some value) → IsInHeap (length heap.objects) value
placed_in_heap types heap places.Unset value s h = absurd (s refl)
placed_in_heap types heap places.Int (values.Int n) s h = λ a e. absurd (none-some a e)
placed_in_heap types heap places.Int values.Null s h = absurd h
placed_in_heap types heap places.Int (values.Ref r) s h = absurd h
placed_in_heap types heap places.Null (values.Int n) s h = absurd h
placed_in_heap types heap places.Null values.Null s h = λ a e. absurd (none-some a e)
placed_in_heap types heap places.Null (values.Ref r) s h = absurd h
placed_in_heap types heap (places.Ref t) value s h = value_in_heap types heap value t h

-- an object of the heap has its own type
pub own_type : (types : WorldTypes) (heap : Heap) (r : ℕ) (object : Object) (t : Ty) → slice_get heap.objects r ≡ Some object
    → IsTrue (types.sub (type_of object) t) → HasType types heap (values.Ref r) t
own_type types heap r object t e s = (object, (e, s))
