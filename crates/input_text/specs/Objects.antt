-- Objects of states: an object with a field `class` is an instance, else one with a field `nums` an array of numbers, and
-- every other value is read as an array of references.
use Rattle.std.specs.Prelude.{ℕ, pos, nat_abs, List, codes, if◌then◌else◌, Ok}
use Rattle.std.specs.Option.{ok_or}
use Rattle.json_view.specs.Reading.{only_of, has_field, int_of, text_of}
use Rattle.json_view.specs.declared.fault.JsonFault.TheVariants.{OutOfRange}
use Rattle.jvm_values.specs.Kinds.{kind_of_code}
use Rattle.jvm_values.specs.declared.types.Kind.{Kind}
use Rattle.input_text.specs.Answers.{Reader}
use Rattle.input_text.specs.Fields.{◌>>=◌, field, list_of, an_int}
use Rattle.input_text.specs.Values.{value_of}
use Rattle.input_text.specs.declared.texts.ObjectText.{ObjectText}
use Rattle.input_text.specs.declared.texts.ObjectText.TheVariants.{Instance, Nums, Refs}

-- the names of the fields of an instance's object
abbrev pub instance_names : List ℕ
instance_names = codes "class fields"

-- an instance: the name of its class, and the values of its fields in their order
unfoldable pub instance_of : Reader ObjectText
instance_of here = do
  only ← only_of instance_names here
  class ← field (codes "class") text_of here
  fields ← field (codes "fields") (list_of value_of) here
  Ok (Instance class fields)

-- a number from 0 to 255
unfoldable pub a_byte : Reader ℕ
a_byte here = int_of (pos 0) (pos 255) here >>= λ n. Ok (nat_abs n)

-- a kind by its number in `newarray` (JVM specification, SE 8, section 6.5); every other number is out of range
unfoldable pub kind_of : Reader Kind
kind_of here = a_byte here >>= λ n. ok_or (kind_of_code n) (OutOfRange here.place)

-- an array of numbers: the kind of its items, and the items as ints
unfoldable pub nums_of : Reader ObjectText
nums_of here = do
  only ← only_of (codes "nums items") here
  kind ← field (codes "nums") kind_of here
  items ← field (codes "items") (list_of an_int) here
  Ok (Nums kind items)

-- an array of references: the type of its items, and the items
unfoldable pub refs_of : Reader ObjectText
refs_of here = do
  only ← only_of (codes "refs items") here
  element ← field (codes "refs") text_of here
  items ← field (codes "items") (list_of value_of) here
  Ok (Refs element items)

-- an object of a state's heap: an instance, an array of numbers, or an array of references
unfoldable pub object_of : Reader ObjectText
object_of here =
    if has_field (codes "class") here then instance_of here
    else if has_field (codes "nums") here then nums_of here else refs_of here
