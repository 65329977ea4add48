-- Words for the private calls that read a command line.
use Rattle.std.specs.Prelude.{◌≡◌, ℕ, ◌<◌, ◌^◌, ◌==◌, Bool, true, false, ⊤, List, [], ◌∷◌, ◌++◌, length, Option, Some, None, if◌then◌else◌}
use Rattle.std.specs.Str.{bytes_eq}
use Rattle.class_calls.specs.declared.command_rows.table.Command.{Command}
use Rattle.class_calls.specs.declared.command_rows.row.NumberRange.{NumberRange}
use Rattle.class_calls.specs.declared.command_rows.row.NumberWord.{NumberWord}
use Rattle.class_calls.specs.declared.command_rows.row.NumberWord.TheVariants.{Absent, Needed, Optional}
use Rattle.class_calls.specs.declared.command_rows.row.Row.{Row}
use Rattle.class_calls.specs.command_rows.Rows.{row_of}
use Rattle.class_calls.specs.command_rows.Words.{is_file_word, AreFiles, SaysNumber}

-- the first of the commands whose word this is
abbrev pub command_named : List Command → List ℕ → Option Command
command_named [] word = None
command_named (command ∷ commands) word = if bytes_eq word (row_of command).word then Some command else command_named commands word

-- no sign and no leading zero
abbrev pub is_plain : List ℕ → Bool
is_plain [] = true
is_plain (first ∷ rest) = if first == 43 then false else (if first == 48 then length (first ∷ rest) == 1 else true)

-- the first of the words is this one
abbrev pub BeginWith : List (List ℕ) → List ℕ → Type 0
BeginWith [] option = ⊥
BeginWith (word ∷ words) option = word ≡ option

-- the words begin with the option of the row, and a number of this range stands behind it
pub record IsLimited (row : Row) (range : NumberRange) (words : List (List ℕ)) : Type 0 where
  pub option : List ℕ
  pub otherwise : ℕ
  pub kind : row.number ≡ Optional option range otherwise
  pub no_file : is_file_word option ≡ false
  pub begins : BeginWith words option

-- the words behind a command's word are those of a row: they say this number, and these of them name files
pub record Reads (row : Row) (words : List (List ℕ)) (number : ℕ) (files : List (List ℕ)) : Type 0 where
  pub numbers : List (List ℕ)
  pub spelled : words ≡ numbers ++ files
  pub says : SaysNumber row.number numbers number
  pub named : AreFiles row files

-- what each row of the table keeps: numbers have at most 64 bits, and the word of an option names no file
abbrev pub IsGoodNumber : NumberWord → Type 0
IsGoodNumber Absent = ⊤
IsGoodNumber (Needed name range) = range.most < 2 ^ 64
IsGoodNumber (Optional option range otherwise) = (range.most < 2 ^ 64) × (is_file_word option ≡ false)
