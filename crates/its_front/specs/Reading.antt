-- Texts of rules, line by line. The text is `vars NAME..`, and then rules: `rule FROM TO`, rows `geq K C NAME ..` and `eq K C NAME ..`,
-- and `end`. A row says that K plus the sum of C times NAME is at least 0, or is 0.
use Rattle.std.specs.Prelude.{ℕ, ◌+◌, pos, Bool, true, false, ◌&&◌, ◌||◌, ◌==◌, not, nat_le, nat_lt, List, [], ◌∷◌, ◌++◌, length}
use Rattle.std.specs.Prelude.{map, Option, Some, None, is_some, Ok, Err, codes, if◌then◌else◌}
use Rattle.std.specs.List.{list_all}
use Rattle.std.specs.Option.{option_map_or}
use Rattle.std.specs.Str.{bytes_eq}
use Rattle.list_views.specs.Lists.{numbers_from}
use Rattle.list_views.specs.Results.{◌>>=◌, wanted, required}
use Rattle.lin_core.specs.declared.rows.RowKind.{RowKind}
use Rattle.lin_core.specs.declared.rows.RowKind.TheVariants.{AtLeastZero, IsZero}
use Rattle.lin_core.specs.declared.rows.WRow.{WRow}
use Rattle.descent.specs.declared.rules.PathRule.{PathRule}
use Rattle.descent.specs.declared.rules.Place.{Place}
use Rattle.descent.specs.declared.rules.SlotForm.{SlotForm}
use Rattle.its_front.specs.text_lines.LinesAndWords.{lines_of, words_of}
use Rattle.its_front.specs.declared.fault.ItsFault.TheVariants.{Syntax, DuplicateVariable, Limit}
use Rattle.its_front.specs.declared.reading.Its.{Its}
use Rattle.its_front.specs.declared.reading.OpenRule.{OpenRule}
use Rattle.its_front.specs.declared.reading.Reading.{Reading}
use Rattle.its_front.specs.Faults.{Said}
use Rattle.its_front.specs.Names.{Names, added, with_name, number_of}
use Rattle.its_front.specs.Words.{Words, are_names, row_words, two_names}
use Rattle.its_front.specs.Rows.{row_of}

-- the most variables of a text of rules
abbrev pub most_variables : ℕ
most_variables = 256

-- the most rules of a text
abbrev pub most_rules : ℕ
most_rules = 4096

-- the most rows of all rules of a text together
abbrev pub most_rows : ℕ
most_rows = 65536

-- ---- rules

-- the slot of a variable at an end of a rule: variable i stands at local i of frame 0, and is the variable `from + i` of the rows
abbrev pub slot_of : ℕ → ℕ → SlotForm
slot_of from i = record {
  id = i;
  size = false;
  places = record { frame = 0; stack = false; index = i } ∷ [];
  terms = (from + i, pos 1) ∷ [];
  constant = pos 0;
  weights = [];
}

-- the slots of so many variables at an end of a rule
abbrev pub slots_of : ℕ → ℕ → List SlotForm
slots_of count from = map (slot_of from) (numbers_from 0 count)

-- the rule that is read, over so many variables: the rows' first variables are the values before the rule, and behind them are those
-- after it
abbrev pub rule_of : ℕ → OpenRule → PathRule
rule_of count unended = record {
  from = unended.from;
  to = unended.to;
  vars = count + count;
  rows = unended.rows;
  first = slots_of count 0;
  last = slots_of count count;
}

-- ---- what is read so far

-- what is read of a text before its first line: nothing
abbrev pub unread : Reading
unread = record { vars = []; places = []; rules = []; rows = 0; unended = None }

-- the variables are named, as at the beginning of each text
abbrev pub is_begun : Reading → Bool
is_begun reading = nat_lt 0 (length reading.vars)

-- the text may end here: its variables are named, and no rule is open
abbrev pub is_whole : Reading → Bool
is_whole reading = is_begun reading && not (is_some reading.unended)

-- the line `vars NAME..` behind its first word, which stands once, before all rules
unfoldable pub vars_line : Reading → ℕ → Words → Said Reading
vars_line reading line names = do
  _ ← required (Syntax line) (not (is_begun reading) && are_names names)
  vars ← wanted (DuplicateVariable line) (added reading.vars names)
  _ ← required (Limit line) (nat_le (length vars) most_variables)
  Ok (record reading { vars = vars })

-- a rule between two locations that has no rows yet
abbrev pub open_rule : Names → List ℕ → List ℕ → OpenRule
open_rule places from to = record { from = number_of places from; to = number_of (with_name places from) to; rows = [] }

-- what is read, with a rule that is open now; locations have numbers by their first appearance
abbrev pub opened : Reading → List ℕ × List ℕ → Reading
opened reading ends = record reading {
  places = with_name (with_name reading.places ends.0) ends.1;
  unended = Some (open_rule reading.places ends.0 ends.1);
}

-- the line `rule FROM TO` behind its first word, which opens a rule where none is open
unfoldable pub rule_line : Reading → Bool → ℕ → Words → Said Reading
rule_line reading is_last line words = do
  _ ← required (Syntax line) (is_whole reading && not is_last)
  ends ← wanted (Syntax line) (two_names words)
  _ ← required (Limit line) (nat_lt (length reading.rules) most_rules)
  Ok (opened reading ends)

-- an open rule with one more row
abbrev pub with_row : OpenRule → WRow → OpenRule
with_row unended row = record unended { rows = unended.rows ++ row ∷ [] }

-- what is read, with one more row of the rule that is open
abbrev pub longer : Reading → OpenRule → WRow → Reading
longer reading unended row = record reading { rows = reading.rows + 1; unended = Some (with_row unended row) }

-- the row that the words behind `geq` or `eq` say over these variables
unfoldable pub said_row : Names → ℕ → RowKind → Words → Said WRow
said_row vars line kind words = do
  said ← wanted (Syntax line) (row_words words)
  row_of vars line kind said

-- the line of a row behind its first word, in the rule that is open; all rules together have at most so many rows
unfoldable pub row_in : Reading → OpenRule → ℕ → RowKind → Words → Said Reading
row_in reading unended line kind words = do
  row ← said_row reading.vars line kind words
  _ ← required (Limit line) (nat_lt reading.rows most_rows)
  Ok (longer reading unended row)

-- the line of a row behind its first word, which stands in a rule that is open, and never is the last line
unfoldable pub row_line : Reading → Bool → ℕ → RowKind → Words → Said Reading
row_line reading is_last line kind words = do
  unended ← wanted (Syntax line) reading.unended
  _ ← required (Syntax line) (not is_last)
  row_in reading unended line kind words

-- what is read, with the rule that was open among its rules
abbrev pub closed : Reading → OpenRule → Reading
closed reading unended = record reading { rules = reading.rules ++ rule_of (length reading.vars) unended ∷ []; unended = None }

-- the line `end`, which ends the rule that is open
unfoldable pub end_line : Reading → ℕ → Words → Said Reading
end_line reading line words = do
  unended ← wanted (Syntax line) reading.unended
  _ ← required (Syntax line) (length words == 0)
  Ok (closed reading unended)

-- ---- lines

-- a line that says nothing; where it is the last line, the text has to be one that may end
abbrev pub skipped_line : Reading → Bool → ℕ → Said Reading
skipped_line reading is_last line = required (Syntax line) (not is_last || is_whole reading) >>= λ _. Ok reading

-- a byte is at most 127
abbrev pub is_low : ℕ → Bool
is_low b = nat_le b 127

-- a line says nothing: it has no words, or its first word is `#` and its bytes are at most 127
abbrev pub is_skipped : List ℕ → Words → Bool
is_skipped text [] = true
is_skipped text (word ∷ words) = bytes_eq word (codes "#") && list_all is_low text

-- what a line says by its first word: `vars`, `rule`, `geq`, `eq` or `end`
unfoldable pub said_line : Reading → Bool → ℕ → Words → Said Reading
said_line reading is_last line [] = Err (Syntax line)
said_line reading is_last line (word ∷ words) =
    if bytes_eq word (codes "vars") then vars_line reading line words
    else (if bytes_eq word (codes "rule") then rule_line reading is_last line words
    else (if bytes_eq word (codes "geq") then row_line reading is_last line AtLeastZero words
    else (if bytes_eq word (codes "eq") then row_line reading is_last line IsZero words
    else (if bytes_eq word (codes "end") then end_line reading line words
    else Err (Syntax line)))))

-- what is read, with one more line
abbrev pub with_line : Reading → Bool → ℕ → List ℕ → Said Reading
with_line reading is_last line text = if is_skipped text (words_of text) then skipped_line reading is_last line else said_line
    reading is_last line (words_of text)

-- what is read, with the lines from this number on, one after another; of so many lines the last one has the number `count`
abbrev pub with_lines : ℕ → ℕ → Reading → List (List ℕ) → Said Reading
with_lines count line reading [] = Ok reading
with_lines count line reading (text ∷ rest) = with_line reading (line == count) line text >>= λ next. with_lines count (line + 1) next rest

-- the system of rules that is read: its variables, its locations and its rules
abbrev pub system_of : Reading → Its
system_of reading = record { vars = reading.vars; places = reading.places; rules = reading.rules }

-- the system of rules that the lines of a text say, or the text's first fault; a text has one line at least
abbrev pub lines_said : List (List ℕ) → Said Its
lines_said lines = required (Syntax 1) (not (length lines == 0)) >>= λ _. with_lines (length lines) 1 unread lines >>= λ reading. Ok
    (system_of reading)

-- the system of rules that a text says, or its first fault
abbrev pub rules_of : List ℕ → Said Its
rules_of text = lines_said (lines_of text)
