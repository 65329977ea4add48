-- What the usage says of each command.
use Rattle.std.specs.Prelude.{ℕ, List, [], ◌∷◌, ◌++◌, codes, if◌then◌else◌}
use Rattle.std.specs.List.{flat_map}
use Rattle.class_calls.specs.declared.command_rows.table.Command.{Command}
use Rattle.class_calls.specs.declared.command_rows.row.FileWord.{FileWord}
use Rattle.class_calls.specs.declared.command_rows.row.FileWord.TheVariants.{Cert, Desc, State, Listing, Rules, Bounds, Class}
use Rattle.class_calls.specs.declared.command_rows.row.NumberWord.{NumberWord}
use Rattle.class_calls.specs.declared.command_rows.row.NumberWord.TheVariants.{Needed}
use Rattle.class_calls.specs.command_rows.Rows.{commands, row_of}

-- a word of a usage line, with a blank in front of it
abbrev pub behind_blank : List ℕ → List ℕ
behind_blank word = 32 ∷ word

-- the word by which a usage line calls a file of a row
abbrev pub file_name : FileWord → List ℕ
file_name Cert = codes "CERT"
file_name Desc = codes "DESC"
file_name State = codes "STATE"
file_name Listing = codes "LISTING"
file_name Rules = codes "RULES"
file_name Bounds = codes "BOUND"
file_name Class = codes "CLASS"

-- the word by which a usage line calls the number that has to stand; an optional number has none
abbrev pub number_name : NumberWord → List ℕ
number_name (Needed name range) = behind_blank name
number_name kind = []

-- the usage line of a command: its word, its number, its files and its class files, as they have to stand
abbrev pub usage_line : Command → List ℕ
usage_line command =
    let row = row_of command in
    row.word ++ number_name row.number ++ flat_map (λ word. behind_blank (file_name word)) row.files
    ++ (if row.classes then codes " CLASS.." else []) ++ codes "\n"

-- what is said on `err` where the words are no command: a line that says so, and the usage line of each command
abbrev pub usage_lines : List ℕ
usage_lines = codes "jterm: usage\n" ++ flat_map usage_line commands
