-- The lines of a survey, as they are written.
use Rattle.std.specs.Prelude.{ℕ, ◌==◌, ◌||◌, ◌&&◌, not, Bool, List, [], ◌∷◌, ◌++◌, nat_lt, codes, if◌then◌else◌}
use Rattle.std.specs.List.{list_all, flat_map}
use Rattle.list_views.specs.FaultWords.{joined}
use Rattle.survey.specs.declared.survey_notes.touching.Touched.{Touched}

-- ---- where every run ends

-- the word behind a method whose description was handed in
abbrev pub given_text : Bool → List ℕ
given_text given = if given then codes " described" else []

-- the word behind a method in whose program a handler can take an Error: a premise of the proof is that none is
-- thrown where the machine goes on
abbrev pub errors_text : Touched → List ℕ
errors_text touched = if touched.errors then codes " handles-errors" else []

-- the word behind a method whose program compares two exceptions that the machine itself can have raised: a premise
-- of the proof is that they are two objects
abbrev pub exceptions_text : Touched → List ℕ
exceptions_text touched = if touched.exceptions then codes " compares-exceptions" else []

-- the word behind a method whose program has a static field with a constant as its first value, which the machine
-- doesn't look at
abbrev pub constants_text : Touched → List ℕ
constants_text touched = if touched.constants then codes " constant-value" else []

-- the words behind a proved method: whether its description was handed in, and the premises that its program touches
abbrev pub words_text : Bool → Touched → List ℕ
words_text given touched = ((given_text given ++ errors_text touched) ++ exceptions_text touched) ++ constants_text touched

-- the line of a proved method: `YES CLASS.NAMEDESC`, and its words
abbrev pub yes_line : List ℕ → List ℕ → List ℕ → Bool → Touched → List ℕ
yes_line class name desc given touched = joined (codes "YES " ∷ class ∷ codes "." ∷ name ∷ desc ∷ []) ++ words_text given touched

-- A name stands in such a line as it is, so none of its bytes ends or divides the line: it has no blank and no control character.
abbrev pub is_name_byte : ℕ → Bool
is_name_byte b = nat_lt 32 b && not (b == 127)

-- a name stands in a line as it is: none of its bytes is a blank or a control character
abbrev pub is_plain : List ℕ → Bool
is_plain name = list_all is_name_byte name

-- ---- every other line

-- a byte in a line that claims nothing: bytes that would end or blur the line stand as `?`
abbrev pub printed : ℕ → ℕ
printed b = if nat_lt b 32 || (b == 127) then 63 else b

-- ---- texts

-- a line with the newline that ends it
abbrev pub ended : List ℕ → List ℕ
ended line = line ++ 10 ∷ []

-- the text of some lines, each ended by a newline
abbrev pub text_of : List (List ℕ) → List ℕ
text_of lines = flat_map ended lines
