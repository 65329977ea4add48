-- What the rows of the table have in common.
use Rattle.std.specs.Prelude.{◌≡◌, ℕ, List, length}
use Rattle.class_calls.specs.declared.command_rows.table.Request.{Request}
use Rattle.class_calls.specs.command_rows.Rows.{Takes}
use Rattle.class_calls.specs.command_rows.Words.{IsCommand}

-- words ask for one thing, and name the same files
abbrev pub CommandsAreOne : Type 0
CommandsAreOne = (words : List (List ℕ)) (r s : Request) (m n : List (List ℕ)) → IsCommand words r m → IsCommand words s n → (r ≡ s)
    × (m ≡ n)

-- the words of a command name as many files as its row takes, and its number lies in the row's range
abbrev pub CommandsAreTaken : Type 0
CommandsAreTaken = (words : List (List ℕ)) (request : Request) (names : List (List ℕ)) → IsCommand words request names
    → Takes request (length names)
