-- What fields, parameters and array items hold.
use Rattle.std.specs.Prelude.{Bool, true, false, pos}
use Rattle.jvm_values.specs.declared.types.Slot.{Slot}
use Rattle.jvm_values.specs.declared.types.Slot.TheVariants as slots
use Rattle.jvm_values.specs.declared.heap.Value.{Value}
use Rattle.jvm_values.specs.declared.heap.Value.TheVariants as values

-- a slot holds references
abbrev pub is_reference_slot : Slot → Bool
is_reference_slot (slots.Num kind) = false
is_reference_slot (slots.Ref t) = true

-- what a field holds before anything is put into it (JVM specification, sections 2.3 and 2.4)
abbrev pub initial_value : Slot → Value
initial_value (slots.Num kind) = values.Int (pos 0)
initial_value (slots.Ref t) = values.Null
