-- What typed heaps are.
use Rattle.std.proofs.Common.{◌≡◌, ℕ, ◌<◌, List, [], ◌∷◌, length, Option, Some, None, sym, ap, subst, ◌∙◌}
use Rattle.std.specs.Prelude.{All, slice_get}
use Rattle.std.proofs.lemmas.List.Elements.{All-nil, All-cons}
use Rattle.std.proofs.lemmas.Option.{slice_get_within, none-some}
use Rattle.std.specs.List.{AllZip}
use Rattle.jvm_values.specs.declared.types.Ty.{Ty}
use Rattle.jvm_values.specs.declared.types.Slot.{Slot}
use Rattle.jvm_values.specs.declared.types.Slot.TheVariants as slots
use Rattle.jvm_values.specs.declared.heap.Value.{Value}
use Rattle.jvm_values.specs.declared.heap.Value.TheVariants as values
use Rattle.jvm_values.specs.declared.heap.Object.{Object}
use Rattle.jvm_values.specs.declared.heap.Object.TheVariants.{Instance, Nums, Refs}
use Rattle.jvm_values.specs.declared.heap.Heap.{Heap}
use Rattle.jvm_values.specs.Heaps.{values_of, IsInHeap}
use Rattle.jvm_values.specs.TypedHeaps.{WorldTypes, HasType, Holds, IsTypedObject, TypedHeapsAreClosed}
use Rattle.jvm_values.proofs.Options.{some_is}

pub value_in_heap : (types : WorldTypes) (heap : Heap) (value : Value) (t : Ty) → HasType types heap value t
    → IsInHeap (length heap.objects) value
value_in_heap types heap (values.Int n) t h = absurd h
value_in_heap types heap values.Null t h = λ a e. absurd (none-some a e)
value_in_heap types heap (values.Ref r) t h = λ a e. slice_get_within heap.objects a h.0
    (ap (slice_get heap.objects) (sym (some_is e)) ∙ h.1.0)

held_in_heap : (types : WorldTypes) (heap : Heap) (slot : Slot) (value : Value) → Holds types heap slot value
    → IsInHeap (length heap.objects) value
held_in_heap types heap (slots.Num kind) (values.Int n) h = λ a e. absurd (none-some a e)
held_in_heap types heap (slots.Num kind) values.Null h = absurd h
held_in_heap types heap (slots.Num kind) (values.Ref r) h = absurd h
held_in_heap types heap (slots.Ref t) value h = value_in_heap types heap value (types.erase t) h

all_held : (types : WorldTypes) (heap : Heap) (fields : List Slot) (items : List Value) → AllZip (Holds types heap) fields items
    → All (IsInHeap (length heap.objects)) items
all_held types heap [] [] h = All-nil (IsInHeap (length heap.objects))
all_held types heap [] (value ∷ values) h = absurd h
all_held types heap (slot ∷ slots) [] h = absurd h
all_held types heap (slot ∷ slots) (value ∷ values) h = All-cons (IsInHeap (length heap.objects)) value values
    (held_in_heap types heap slot value h.0) (all_held types heap slots values h.1)

object_in_heap : (types : WorldTypes) (heap : Heap) (object : Object) → IsTypedObject types heap object
    → All (IsInHeap (length heap.objects)) (values_of object)
object_in_heap types heap (Instance class fields) h = all_held types heap (types.fields class) fields h.1.1
object_in_heap types heap (Nums kind items) h = All-nil (IsInHeap (length heap.objects))
object_in_heap types heap (Refs element items) h = λ k d l. value_in_heap types heap _ element (h.1.1.1 k d l)

pub closed : TypedHeapsAreClosed
closed types heap h = λ k d l. object_in_heap types heap _ (h k d l)
