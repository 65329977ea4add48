-- What method descriptors mean in a world (JVM specification, section 4.3.3).
use Rattle.std.specs.Prelude.{ℕ, ◌++◌, Bool, true, false, if◌then◌else◌, List, [], ◌∷◌, Option, Some, None, option_and_then, Result}
use Rattle.std.specs.Prelude.{Ok, Err}
use Rattle.std.specs.List.{list_any, filter_map}
use Rattle.std.specs.Option.{option_or, option_to_list}
use Rattle.class_world.specs.class_base.declared.types.FieldType.{FieldType}
use Rattle.class_world.specs.class_base.declared.methods.MethodType.{MethodType}
use Rattle.class_world.specs.class_base.MethodTypes.{method_type}
use Rattle.jvm_values.specs.declared.types.Slot.{Slot}
use Rattle.class_program.specs.declared.refusal.Refusal.{Refusal}
use Rattle.class_program.specs.declared.refusal.Refusal.TheVariants.{MissingClass, UnsupportedType}
use Rattle.class_program.specs.declared.signature.Signature.{Signature}
use Rattle.class_world.specs.World.{World}
use Rattle.class_program.specs.Refusals.{◌>>=◌, wanted}
use Rattle.class_world.specs.Descriptors.{meaning_of, known_slot}
use Rattle.class_world.specs.declared.meaning.Meaning.{Meaning}
use Rattle.class_world.specs.declared.meaning.Meaning.TheVariants.{Known, Unsupported, Missing}

-- all types of a method's descriptor, from left to right: those of its parameters, and that of its result unless it is void
abbrev pub types_of : MethodType → List FieldType
types_of m = m.params ++ option_to_list m.returned

-- ---- meaning

-- a type is one that no value here has: long, float or double, or an array of them
abbrev pub is_unsupported : Meaning → Bool
is_unsupported (Known slot) = false
is_unsupported Unsupported = true
is_unsupported (Missing name) = false

-- the name of the class of a type that the world lacks
abbrev pub missing_class : Meaning → Option (List ℕ)
missing_class (Known slot) = None
missing_class Unsupported = None
missing_class (Missing name) = Some name

-- some type is, or is an array of, long, float or double
abbrev pub has_unsupported : World → List FieldType → Bool
has_unsupported world types = list_any (λ t. is_unsupported (meaning_of world t)) types

-- the name of the first class among the types that isn't there
abbrev pub first_missing_class : World → List FieldType → Option (List ℕ)
first_missing_class world [] = None
first_missing_class world (t ∷ types) = option_or (missing_class (meaning_of world t)) (first_missing_class world types)

-- what slots of these types hold; types that are not known are passed over
abbrev pub slots_of : World → List FieldType → List Slot
slots_of world types = filter_map (λ t. known_slot (meaning_of world t)) types

-- what a slot of the result of a method holds; nothing for void
abbrev pub returned_slot : World → Option FieldType → Option Slot
returned_slot world returned = option_and_then (λ t. known_slot (meaning_of world t)) returned

-- what the parameters and the result of a method hold, where all of their types are known
abbrev pub signature : World → MethodType → Signature
signature world m = record { params = slots_of world m.params; result = returned_slot world m.returned }

-- that a class is missing, as the refusal of the instruction that names it
abbrev pub absent : Option (List ℕ) → Result (Unit {0}) Refusal
absent (Some name) = Err (MissingClass name)
absent None = Ok tt

-- each class among the types is in the world, else the first one that isn't
unfoldable pub all_there : World → List FieldType → Result (Unit {0}) Refusal
all_there world types = absent (first_missing_class world types)

-- each type is supported, else that one isn't
unfoldable pub all_supported : World → List FieldType → Result (Unit {0}) Refusal
all_supported world types = if has_unsupported world types then Err UnsupportedType else Ok tt

-- What a method descriptor means where an instruction names it. One that can't be read is as good as not there; a class
-- that isn't there comes before a type that isn't supported.
unfoldable pub signature_of : World → List ℕ → Result Signature Refusal
signature_of world desc = do
  m ← wanted (method_type desc)
  there ← all_there world (types_of m)
  supported ← all_supported world (types_of m)
  Ok (signature world m)

-- What the descriptor of a method means that a class declares: it can be read, and a type that isn't supported comes
-- before a class that isn't there.
unfoldable pub declared_signature : World → List ℕ → Result Signature Refusal
declared_signature world desc = do
  m ← wanted (method_type desc)
  supported ← all_supported world (types_of m)
  there ← all_there world (types_of m)
  Ok (signature world m)
