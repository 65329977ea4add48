-- Values of states: a whole number, `null`, or an object with the field `ref`.
use Rattle.std.specs.Prelude.{codes, Ok}
use Rattle.serde_json.specs.Data.{Data, null, boolean, number, string, array, object}
use Rattle.json_view.specs.Reading.{only_of}
use Rattle.jvm_values.specs.declared.heap.Value.{Value}
use Rattle.jvm_values.specs.declared.heap.Value.TheVariants.{Int, Null, Ref}
use Rattle.input_text.specs.Answers.{Reader}
use Rattle.input_text.specs.Fields.{◌>>=◌, field, an_int, a_number}

-- a value of a state that is a whole number, an int
unfoldable pub int_value : Reader Value
int_value here = an_int here >>= λ n. Ok (Int n)

-- an object with exactly the field `ref`, the number of an object of the heap
unfoldable pub ref_value : Reader Value
ref_value here = do
  only ← only_of (codes "ref") here
  n ← field (codes "ref") a_number here
  Ok (Ref n)

-- a value by the kind of JSON that it is: a number is an int, `null` is null, and everything else is read as a
-- reference
abbrev pub value_by : Data → Reader Value
value_by null here = Ok Null
value_by (number n) here = int_value here
value_by (boolean b) here = ref_value here
value_by (string s) here = ref_value here
value_by (array items) here = ref_value here
value_by (object fields) here = ref_value here

-- a value of a state: an int, null, or a reference to an object of its heap
unfoldable pub value_of : Reader Value
value_of here = value_by here.value here
