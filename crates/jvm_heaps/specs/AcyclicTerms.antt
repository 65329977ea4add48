-- Where values have terms: each reference and each null whose region has no cycle.
use Rattle.std.specs.Prelude.{length}
use Rattle.jvm_values.specs.declared.types.Ty.{Ty}
use Rattle.jvm_values.specs.declared.heap.Value.{Value}
use Rattle.jvm_values.specs.declared.heap.Value.TheVariants.{Int, Null, Ref}
use Rattle.jvm_values.specs.declared.heap.Heap.{Heap}
use Rattle.jvm_values.specs.Heaps.{IsDag, IsInHeap, IsClosed}
use Rattle.jvm_values.specs.Terms.{HeapTerm, IsTerm}
use Rattle.jvm_values.specs.TypedHeaps.{WorldTypes, HasType, IsTypedHeap}

-- a value is a reference or null: ints have no terms
abbrev pub IsNoInt : Value → Type 0
IsNoInt (Int n) = ⊥
IsNoInt Null = Unit {0}
IsNoInt (Ref r) = Unit {0}

-- some term is that of a value
abbrev pub HasTerm : Heap → Value → Type 0
HasTerm heap value = (term : HeapTerm) × IsTerm heap value term

-- Where no reference leads past the heap's end, a reference or null whose region has no cycle has a term.
abbrev pub AcyclicHaveTerms : Type 0
AcyclicHaveTerms = (heap : Heap) (value : Value) → IsClosed heap → IsInHeap (length heap.objects) value → IsNoInt value
    → IsDag heap value → HasTerm heap value

-- And so, in a typed heap, has each value of a reference type.
abbrev pub TypedHaveTerms : Type 0
TypedHaveTerms = (types : WorldTypes) (heap : Heap) (value : Value) (t : Ty) → IsTypedHeap types heap → HasType types heap value t
    → IsDag heap value → HasTerm heap value
