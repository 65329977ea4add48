-- The operands of instructions: values on a stack and in locals, the objects that references name, and the types that are
-- asked of them. Stacks are lists, the top first.
use Rattle.std.specs.Prelude.{ℕ, ◌==◌, Bool, true, false, List, [], ◌∷◌, slice_get, Option, Some, None, ℤ}
use Rattle.std.specs.Option.{option_map, option_map_or}
use Rattle.jvm_values.specs.declared.heap.Value.{Value}
use Rattle.jvm_values.specs.declared.heap.Value.TheVariants as values
use Rattle.jvm_values.specs.declared.heap.Object.{Object}
use Rattle.jvm_values.specs.declared.heap.Heap.{Heap}
use Rattle.jvm_values.specs.declared.types.Ty.{Ty}
use Rattle.jvm_values.specs.declared.types.Slot.{Slot}
use Rattle.jvm_values.specs.declared.types.Slot.TheVariants as slots
use Rattle.jvm_values.specs.Kinds.{narrowed}
use Rattle.jvm_values.specs.TypedHeaps.{WorldTypes, type_of}

-- ---- values

-- the int that a value is, if it is one
abbrev pub int_of : Value → Option ℤ
int_of (values.Int n) = Some n
int_of values.Null = None
int_of (values.Ref r) = None

-- the reference that a value is, null or one to an object, if it is one
abbrev pub reference_of : Value → Option Value
reference_of (values.Int n) = None
reference_of values.Null = Some values.Null
reference_of (values.Ref r) = Some (values.Ref r)

-- two references are one: both are null, or both are to one object (JVM specification 6.5.if_acmp<cond>)
abbrev pub same_reference : Value → Value → Bool
same_reference values.Null values.Null = true
same_reference (values.Ref a) (values.Ref b) = a == b
same_reference _ _ = false

-- a value is null
abbrev pub is_null : Value → Bool
is_null values.Null = true
is_null _ = false

-- ---- stacks

-- the top of an operand stack, and what is below it
abbrev pub top : List Value → Option (Value × List Value)
top [] = None
top (value ∷ below) = Some (value, below)

-- the int on the top of an operand stack, and what is below it
abbrev pub top_int : List Value → Option (ℤ × List Value)
top_int [] = None
top_int (value ∷ below) = option_map (λ n. (n, below)) (int_of value)

-- the reference on the top of an operand stack, and what is below it
abbrev pub top_reference : List Value → Option (Value × List Value)
top_reference [] = None
top_reference (value ∷ below) = option_map (λ r. (r, below)) (reference_of value)

-- ---- objects and types

-- the object that a number names in a heap
abbrev pub object_at : Heap → ℕ → Option Object
object_at heap r = slice_get heap.objects r

-- an object is of a type as assignments see it: it is of the erased type, or of one below
abbrev pub is_assignable : WorldTypes → Object → Ty → Bool
is_assignable types object t = types.sub (type_of object) (types.erase t)

-- a value is of a type as assignments see it: null, or a reference to such an object
abbrev pub is_of_type : WorldTypes → Heap → Ty → Value → Bool
is_of_type types heap t (values.Int n) = false
is_of_type types heap t values.Null = true
is_of_type types heap t (values.Ref r) = option_map_or (λ object. is_assignable types object t) (object_at heap r) false

-- a value can be passed where a type is taken: any int for a number, and for a reference a value of its type
abbrev pub is_passed : WorldTypes → Heap → Slot → Value → Bool
is_passed types heap (slots.Num kind) (values.Int n) = true
is_passed types heap (slots.Num kind) values.Null = false
is_passed types heap (slots.Num kind) (values.Ref r) = false
is_passed types heap (slots.Ref t) value = is_of_type types heap t value

-- a reference is null, or to an object of a type or one below it; none where its object is not there
abbrev pub is_null_or_below : WorldTypes → Heap → Ty → Value → Option Bool
is_null_or_below types heap t (values.Int n) = None
is_null_or_below types heap t values.Null = Some true
is_null_or_below types heap t (values.Ref r) = option_map (λ object. types.sub (type_of object) t) (object_at heap r)

-- a reference is to an object of a type or one below it, which null is not; none where its object is not there
abbrev pub is_below : WorldTypes → Heap → Ty → Value → Option Bool
is_below types heap t (values.Int n) = None
is_below types heap t values.Null = Some false
is_below types heap t (values.Ref r) = option_map (λ object. types.sub (type_of object) t) (object_at heap r)

-- what a field keeps of a value that is put into it (JVM specification 6.5.putfield and 2.3): a boolean the lowest bit of
-- an int, a byte, char or short its low bits
abbrev pub kept : Slot → Value → Value
kept (slots.Num kind) (values.Int n) = values.Int (narrowed kind n)
kept _ value = value
