-- The words of the command line.
use Rattle.std.specs.Prelude.{◌≡◌, ℕ, ◌≤◌, ◌==◌, not, Bool, true, List, [], ◌∷◌, ◌++◌, length, IsTrue}
use Rattle.std.specs.Fmt.{decimal}
use Rattle.std.specs.List.{list_all}
use Rattle.class_calls.specs.declared.command_rows.table.Request.{Request}
use Rattle.class_calls.specs.declared.command_rows.row.NumberRange.{NumberRange}
use Rattle.class_calls.specs.declared.command_rows.row.NumberWord.{NumberWord}
use Rattle.class_calls.specs.declared.command_rows.row.NumberWord.TheVariants.{Absent, Needed, Optional}
use Rattle.class_calls.specs.declared.command_rows.row.Row.{Row}
use Rattle.class_calls.specs.command_rows.Rows.{row_at, number_of, least_files, most_files}

-- a word that names a file does not begin with `-`
abbrev pub is_file_word : List ℕ → Bool
is_file_word [] = true
is_file_word (first ∷ rest) = not (first == 45)

-- words name the files of a row: each is a file's name, and there are as many as the row takes
pub record AreFiles (row : Row) (files : List (List ℕ)) : Type 0 where
  pub some : least_files row ≤ length files
  pub few : length files ≤ most_files row
  pub each : IsTrue (list_all is_file_word files)

-- a word is a number of a range, in digits without a sign or a leading zero
pub record IsNumber (range : NumberRange) (word : List ℕ) (number : ℕ) : Type 0 where
  pub spelled : word ≡ decimal number
  pub some : range.least ≤ number
  pub few : number ≤ range.most

-- The words between the command's own and its files say this number: none, where there is no number; the number; or an option and the
-- number, without which it is the usual one.
abbrev pub SaysNumber : NumberWord → List (List ℕ) → ℕ → Type 0
SaysNumber Absent [] number = number ≡ 0
SaysNumber (Needed name range) (word ∷ []) number = IsNumber range word number
SaysNumber (Optional option range otherwise) [] number = number ≡ otherwise
SaysNumber (Optional option range otherwise) (first ∷ word ∷ []) number = (first ≡ option) × IsNumber range word number
SaysNumber kind words number = ⊥

-- The words are a row of the table: they ask for this, and these of them name files, in this order.
pub record IsCommand (words : List (List ℕ)) (request : Request) (files : List (List ℕ)) : Type 0 where
  pub numbers : List (List ℕ)
  pub spelled : words ≡ (row_at request).word ∷ (numbers ++ files)
  pub says : SaysNumber (row_at request).number numbers (number_of request)
  pub named : AreFiles (row_at request) files
