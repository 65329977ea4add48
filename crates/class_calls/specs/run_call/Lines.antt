-- The line that says how a run ended.
use Rattle.std.specs.Prelude.{ℕ, List, [], ◌∷◌, replicate, slice_get, Some, None, codes}
use Rattle.std.specs.Fmt.{decimal, signed_decimal}
use Rattle.std.specs.Option.{option_map_or}
use Rattle.list_views.specs.FaultWords.{joined}
use Rattle.jvm_values.specs.declared.types.Kind.{Kind}
use Rattle.jvm_values.specs.declared.types.Kind.TheVariants as kinds
use Rattle.jvm_values.specs.declared.types.Base.{Base}
use Rattle.jvm_values.specs.declared.types.Base.TheVariants as bases
use Rattle.jvm_values.specs.declared.types.Ty.{Ty}
use Rattle.jvm_values.specs.declared.heap.Value.{Value}
use Rattle.jvm_values.specs.declared.heap.Value.TheVariants as values
use Rattle.jvm_values.specs.declared.heap.Object.{Object}
use Rattle.jvm_values.specs.declared.heap.Object.TheVariants.{Instance, Nums, Refs}
use Rattle.jvm_values.specs.declared.heap.Heap.{Heap}
use Rattle.class_world.specs.World.{World}
use Rattle.class_program.specs.Methods.{class_name}
use Rattle.jvm_run.specs.declared.ended.Ended.{Ended}
use Rattle.jvm_run.specs.declared.ended.Ended.TheVariants as ends

-- ---- objects

-- the letter of a kind of numbers in descriptors (JVM specification, section 4.3.2)
abbrev pub kind_letter : Kind → List ℕ
kind_letter kinds.Boolean = codes "Z"
kind_letter kinds.Char = codes "C"
kind_letter kinds.Byte = codes "B"
kind_letter kinds.Short = codes "S"
kind_letter kinds.Int = codes "I"

-- the descriptor of a type without array dimensions: a class by its name, a kind of numbers by its letter (JVM
-- specification, section 4.3.2)
abbrev pub base_descriptor : World → Base → List ℕ
base_descriptor world (bases.Class class) = joined (codes "L" ∷ class_name world class ∷ codes ";" ∷ [])
base_descriptor world (bases.Num kind) = kind_letter kind

-- the descriptor of an array whose items are of that type
abbrev pub array_descriptor : World → Ty → List ℕ
array_descriptor world element = joined (codes "[" ∷ replicate element.dims 91 ∷ base_descriptor world element.base ∷ [])

-- the type of an object in words: an instance by its class's name, an array by its descriptor
abbrev pub object_text : World → Object → List ℕ
object_text world (Instance class fields) = class_name world class
object_text world (Nums kind items) = joined (codes "[" ∷ kind_letter kind ∷ [])
object_text world (Refs element items) = array_descriptor world element

-- the type of the object that a number of a heap stands for, in words; past the heap's end there is none
abbrev pub reference_text : World → Heap → ℕ → List ℕ
reference_text world heap r = option_map_or (object_text world) (slice_get heap.objects r) []

-- ---- lines

-- the line of a run that goes on after all its steps
abbrev pub going_line : ℕ → List ℕ
going_line fuel = joined (codes "GOING " ∷ decimal fuel ∷ codes "\n" ∷ [])

-- the line of a run that returned a value
abbrev pub value_line : World → Heap → Value → List ℕ
value_line world heap (values.Int n) = joined (codes "RETURNED int " ∷ signed_decimal n ∷ codes "\n" ∷ [])
value_line world heap values.Null = codes "RETURNED null\n"
value_line world heap (values.Ref r) = joined (codes "RETURNED ref " ∷ reference_text world heap r ∷ codes "\n" ∷ [])

-- the line of a run that ended with a throw that nothing catches
abbrev pub threw_line : World → Heap → ℕ → List ℕ
threw_line world heap r = joined (codes "THREW " ∷ reference_text world heap r ∷ codes "\n" ∷ [])

-- the line of a run of so many steps that ended so, with this heap
abbrev pub ended_line : World → Heap → ℕ → Ended → List ℕ
ended_line world heap fuel ends.Out = going_line fuel
ended_line world heap fuel (ends.Returned None) = codes "RETURNED\n"
ended_line world heap fuel (ends.Returned (Some value)) = value_line world heap value
ended_line world heap fuel (ends.Threw r) = threw_line world heap r
