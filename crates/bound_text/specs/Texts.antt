-- Texts of bounds: objects with exactly the fields `form` and `ranks`. The names of the fields are tested first, then `form` is read, which
-- is 1, and then `ranks`: a list of entries `[step, [[cut, constant, [[id, multiple], ..], [[id, multiple], ..]], ..], [[rule, M], ..]]`,
-- where M is a list `[[row, multiplier], ..]`. Whether lists rise is no matter of reading.
use Rattle.std.specs.Prelude.{ℕ, ℤ, pos, negsuc, nat_abs, nat_lt, List, ◌==◌, if◌then◌else◌, Option, Some, None, codes, Result, Ok, Err}
use Rattle.json_view.specs.Located.{Located}
use Rattle.json_view.specs.Reading.{only_of, field_of, items_of, item_of, int_of}
use Rattle.json_view.specs.declared.fault.JsonFault.{JsonFault}
use Rattle.json_view.specs.declared.fault.JsonFault.TheVariants.{WrongKind, OutOfRange}
use Rattle.input_text.specs.Answers.{Reader}
use Rattle.input_text.specs.Fields.{◌>>=◌, list_of}
use Rattle.descent.specs.declared.proof.CutForm.{CutForm}
use Rattle.bound_text.specs.declared.texts.BoundRule.{BoundRule}
use Rattle.bound_text.specs.declared.texts.BoundEntry.{BoundEntry}
use Rattle.bound_text.specs.declared.texts.BoundText.{BoundText}

-- ---- lists

-- a list of at most so many entries; a longer one is out of range, whatever its entries are
unfoldable pub at_most : {A : Type 0} → ℕ → Reader A → Reader A
at_most most reader here = items_of here >>= λ count. if nat_lt most count then Err (OutOfRange here.place) else reader here

-- a list of exactly so many entries; one of another length is of the wrong kind
unfoldable pub of_length : {A : Type 0} → ℕ → Reader A → Reader A
of_length size reader here = items_of here >>= λ count. if count == size then reader here else Err (WrongKind here.place)

-- what a reader says of an entry, if it is there; a list without it is of the wrong kind
abbrev pub there_or : {A : Type 0} → Located → Reader A → Option Located → Result A JsonFault
there_or here reader (Some there) = reader there
there_or here reader None = Err (WrongKind here.place)

-- what a reader says of entry n of a list
unfoldable pub nth : {A : Type 0} → ℕ → Reader A → Reader A
nth n reader here = there_or here reader (item_of n here)

-- ---- numbers

-- a number from 0 up to one
unfoldable pub number_to : ℕ → Reader ℕ
number_to most here = int_of (pos 0) (pos most) here >>= λ n. Ok (nat_abs n)

-- the number of a step, cut, rule or row: it is of 32 bits
unfoldable pub a_number : Reader ℕ
a_number here = number_to 4294967295 here

-- an id: it is below 2,048
unfoldable pub an_id : Reader ℕ
an_id here = number_to 2047 here

-- a multiple or a multiplier: its size is at most 2^31
unfoldable pub a_multiple : Reader ℤ
a_multiple here = int_of (negsuc 2147483647) (pos 2147483648) here

-- the constant of a form: its size is at most 2^40
unfoldable pub a_constant : Reader ℤ
a_constant here = int_of (negsuc 1099511627775) (pos 1099511627776) here

-- ---- parts

-- a row and its multiplier, from a list of two entries
unfoldable pub row_parts : Reader (ℕ × ℤ)
row_parts here = do
  row ← nth 0 a_number here
  multiplier ← nth 1 a_multiple here
  Ok (row, multiplier)

-- a row with its multiplier: `[row, multiplier]`
unfoldable pub row_of : Reader (ℕ × ℤ)
row_of here = of_length 2 row_parts here

-- a list of rows with multipliers, of at most 65,536 entries
unfoldable pub multipliers_of : Reader (List (ℕ × ℤ))
multipliers_of here = at_most 65536 (list_of row_of) here

-- an id and its multiple, from a list of two entries
unfoldable pub multiple_parts : Reader (ℕ × ℤ)
multiple_parts here = do
  id ← nth 0 an_id here
  multiple ← nth 1 a_multiple here
  Ok (id, multiple)

-- an id with its multiple: `[id, multiple]`
unfoldable pub multiple_of : Reader (ℕ × ℤ)
multiple_of here = of_length 2 multiple_parts here

-- a list of ids with their multiples
unfoldable pub multiples_of : Reader (List (ℕ × ℤ))
multiples_of here = list_of multiple_of here

-- a form's cut, constant, multiples of ints and multiples of sizes, from a list of four entries
unfoldable pub form_parts : Reader CutForm
form_parts here = do
  cut ← nth 0 a_number here
  constant ← nth 1 a_constant here
  ints ← nth 2 multiples_of here
  sizes ← nth 3 multiples_of here
  Ok (record { cut = cut; constant = constant; ints = ints; sizes = sizes })

-- the form of a cut: `[cut, constant, ints, sizes]`
unfoldable pub form_of : Reader CutForm
form_of here = of_length 4 form_parts here

-- a list of forms
unfoldable pub forms_of : Reader (List CutForm)
forms_of here = list_of form_of here

-- the number of a rule and the multipliers of its rows, from a list of two entries
unfoldable pub rule_parts : Reader BoundRule
rule_parts here = do
  rule ← nth 0 a_number here
  fall ← nth 1 multipliers_of here
  Ok (record { rule = rule; fall = fall })

-- a rule with the multipliers that show that a form never rises on it: `[rule, multipliers]`
unfoldable pub rule_of : Reader BoundRule
rule_of here = of_length 2 rule_parts here

-- a list of rules with multipliers
unfoldable pub rules_of : Reader (List BoundRule)
rules_of here = list_of rule_of here

-- ---- entries and texts

-- a step's number, the forms that are added to its own, and rules with multipliers, from a list of three entries
unfoldable pub entry_parts : Reader BoundEntry
entry_parts here = do
  step ← nth 0 a_number here
  forms ← nth 1 forms_of here
  rules ← nth 2 rules_of here
  Ok (record { step = step; forms = forms; rules = rules })

-- the entry of a rank step: `[step, forms, rules]`
unfoldable pub entry_of : Reader BoundEntry
entry_of here = of_length 3 entry_parts here

-- a list of entries of rank steps
unfoldable pub ranks_of : Reader (List BoundEntry)
ranks_of here = list_of entry_of here

-- the text of a bound: an object whose field `form` is 1, and whose field `ranks` lists the entries
unfoldable pub bound_text_of : Reader BoundText
bound_text_of here = do
  listed ← only_of (codes "form ranks") here
  at_form ← field_of (codes "form") here
  form ← int_of (pos 1) (pos 1) at_form
  at_ranks ← field_of (codes "ranks") here
  ranks ← ranks_of at_ranks
  Ok (record { ranks = ranks })
