-- The cases of a `lookupswitch` with their keys and places, as a loop makes them.
use Rattle.std.proofs.Common.{List, ◌++◌, Option, Some, None}
use Rattle.code_forms.specs.declared.insn.Case.{Case}

-- the cases so far, and those that are still made
abbrev pub with_front : List Case → Option (List Case) → Option (List Case)
with_front front None = None
with_front front (Some cases) = Some (front ++ cases)
