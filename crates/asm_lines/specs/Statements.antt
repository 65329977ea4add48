-- What the lines outside methods say, word by word.
use Rattle.std.specs.Prelude.{ℕ, Bool, true, false, ◌==◌, not, bit_and, bit_or, List, [], ◌∷◌, Option, Some, None, Result, Ok, Err}
use Rattle.std.specs.Prelude.{codes, if◌then◌else◌}
use Rattle.std.specs.Option.{option_map_or}
use Rattle.std.specs.Str.{bytes_eq}
use Rattle.list_views.specs.Results as steps
use Rattle.list_views.specs.Results.{◌>>=◌}
use Rattle.asm_lines.specs.declared.fault.AsmFault.{AsmFault}
use Rattle.asm_lines.specs.declared.fault.AsmFault.TheVariants.{Syntax, Memory}
use Rattle.asm_lines.specs.declared.number.Number.{Number}
use Rattle.asm_lines.specs.declared.statement.Constant.{Constant}
use Rattle.asm_lines.specs.declared.statement.Constant.TheVariants.{Long, Float, Double, Str}
use Rattle.asm_lines.specs.declared.statement.FieldLine.{FieldLine}
use Rattle.asm_lines.specs.declared.statement.MethodLine.{MethodLine}
use Rattle.asm_lines.specs.declared.statement.AttributeLine.{AttributeLine}
use Rattle.asm_lines.specs.Numbers.{number_of, bytes_of}

-- what is read of a line, or the fault of the line
abbrev pub Said : Type 0 → Type 0
Said A = Result A AsmFault

-- the fault says that memory ran out
abbrev pub is_memory : AsmFault → Bool
is_memory Memory = true
is_memory fault = false

-- a call of the reader of listings answers, seen by `view`, what is said, unless memory ran out
abbrev pub Gives : {X Y : Type 0} → (X → Y) → Result X AsmFault → Result Y AsmFault → Type 0
Gives view answer said = steps.Gives is_memory view answer said

-- the words of a line, in order
abbrev pub Words : Type 0
Words = List (List ℕ)

-- ---- words

-- the next word of the line, and those behind it
abbrev pub next_word : ℕ → Words → Said (List ℕ × Words)
next_word line [] = Err (Syntax line)
next_word line (word ∷ words) = Ok (word, words)

-- no word of the line is left over
abbrev pub no_more : ℕ → Words → Said (Unit {0})
no_more line [] = Ok tt
no_more line (word ∷ words) = Err (Syntax line)

-- a line is faulty where this holds, as that a word stood before which may stand but once
abbrev pub is_new : ℕ → Bool → Said (Unit {0})
is_new line true = Err (Syntax line)
is_new line false = Ok tt

-- the number that a word of the line is
abbrev pub number_word : ℕ → List ℕ → Said Number
number_word line word = option_map_or (λ n. Ok n) (number_of word) (Err (Syntax line))

-- the one word that is left on the line
unfoldable pub one_word : ℕ → Words → Said (List ℕ)
one_word line words = do
  word ← next_word line words
  _ ← no_more line word.1
  Ok word.0

-- ---- `constant long N`, `constant float BITS`, `constant double BITS`, `constant string WORD`

-- a constant by its kind, which is `long`, `float`, `double` or `string`, and by its value
unfoldable pub constant_of : ℕ → List ℕ → List ℕ → Said Constant
constant_of line kind value =
    if bytes_eq kind (codes "long") then (number_word line value >>= λ n. Ok (Long n))
    else (if bytes_eq kind (codes "float") then (number_word line value >>= λ n. Ok (Float n))
    else (if bytes_eq kind (codes "double") then (number_word line value >>= λ n. Ok (Double n))
    else (if bytes_eq kind (codes "string") then Ok (Str value) else Err (Syntax line))))

-- the line `constant KIND VALUE` behind its first word
unfoldable pub constant_line : ℕ → Words → Said Constant
constant_line line words = do
  kind ← next_word line words
  value ← next_word line kind.1
  _ ← no_more line value.1
  constant_of line kind.0 value.0

-- ---- `field NAME DESC`, then optionally `static`

-- whether the line of a field ends with `static`, which may be missing
unfoldable pub static_word : ℕ → Words → Said Bool
static_word line [] = Ok false
static_word line (word ∷ words) =
    if bytes_eq word (codes "static") then (no_more line words >>= λ _. Ok true) else Err (Syntax line)

-- a field as a listing writes it: its name, its descriptor, and whether it is static
abbrev pub make_field : List ℕ → List ℕ → Bool → FieldLine
make_field name desc is_static = record { name = name; desc = desc; is_static = is_static }

-- the line `field NAME DESC`, then optionally `static`, behind its first word
unfoldable pub field_line : ℕ → Words → Said FieldLine
field_line line words = do
  name ← next_word line words
  desc ← next_word line name.1
  is_static ← static_word line desc.1
  Ok (make_field name.0 desc.0 is_static)

-- ---- `method NAME DESC`, then any of the words of flags, then `stack N locals N`

-- the access flag that a word stands for (JVM specification, table 4.6-A)
abbrev pub flag_of : List ℕ → Option ℕ
flag_of word =
    if bytes_eq word (codes "static") then Some 0x0008
    else (if bytes_eq word (codes "private") then Some 0x0002
    else (if bytes_eq word (codes "abstract") then Some 0x0400
    else (if bytes_eq word (codes "native") then Some 0x0100
    else (if bytes_eq word (codes "synchronized") then Some 0x0020 else None))))

-- the flags of the words at the front, each of which stands once, and the words behind them
abbrev pub flag_words : ℕ → ℕ → Words → Said (ℕ × Words)
flag_words line flags [] = Ok (flags, [])
flag_words line flags (word ∷ words) =
    option_map_or (λ flag. if bit_and flags flag == 0 then flag_words line (bit_or flags flag) words else Err (Syntax line))
    (flag_of word) (Ok (flags, word ∷ words))

-- the two sizes of a method with code, from `stack N locals N` word by word
unfoldable pub sizes_said : ℕ → List ℕ → List ℕ → List ℕ → List ℕ → Said (Number × Number)
sizes_said line stack max_stack locals max_locals = do
  _ ← is_new line (not (bytes_eq stack (codes "stack")))
  _ ← is_new line (not (bytes_eq locals (codes "locals")))
  most_stack ← number_word line max_stack
  most_locals ← number_word line max_locals
  Ok (most_stack, most_locals)

-- the words `stack N locals N`, with which the line of a method with code ends
unfoldable pub size_words : ℕ → Words → Said (Number × Number)
size_words line words = do
  stack ← next_word line words
  max_stack ← next_word line stack.1
  locals ← next_word line max_stack.1
  max_locals ← next_word line locals.1
  _ ← no_more line max_locals.1
  sizes_said line stack.0 max_stack.0 locals.0 max_locals.0

-- the sizes of a method with these flags; an abstract or native method has none
unfoldable pub sizes_of : ℕ → ℕ → Words → Said (Option (Number × Number))
sizes_of line flags words =
    if bit_and flags 0x0500 == 0 then (size_words line words >>= λ sizes. Ok (Some sizes))
    else (no_more line words >>= λ _. Ok None)

-- a method's first line: its name, its descriptor, its flags, and its sizes where it has code
abbrev pub make_method : List ℕ → List ℕ → ℕ → Option (Number × Number) → MethodLine
make_method name desc flags sizes = record { name = name; desc = desc; flags = flags; sizes = sizes }

-- the line `method NAME DESC ..` behind its first word
unfoldable pub method_line : ℕ → Words → Said MethodLine
method_line line words = do
  name ← next_word line words
  desc ← next_word line name.1
  flags ← flag_words line 0 desc.1
  sizes ← sizes_of line flags.0 flags.1
  Ok (make_method name.0 desc.0 flags.0 sizes)

-- ---- `attribute NAME HEX`

-- the bytes that a word of hexadecimal digits writes
abbrev pub hex_word : ℕ → List ℕ → Said (List ℕ)
hex_word line word = option_map_or (λ bytes. Ok bytes) (bytes_of word) (Err (Syntax line))

-- an attribute as a listing writes it: its name and its content
abbrev pub make_attribute : List ℕ → List ℕ → AttributeLine
make_attribute name content = record { name = name; content = content }

-- the line `attribute NAME HEX` behind its first word
unfoldable pub attribute_line : ℕ → Words → Said AttributeLine
attribute_line line words = do
  name ← next_word line words
  hex ← next_word line name.1
  _ ← no_more line hex.1
  content ← hex_word line hex.0
  Ok (make_attribute name.0 content)
