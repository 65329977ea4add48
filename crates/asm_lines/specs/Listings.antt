-- The lines of a listing, sorted by what they are part of.
use Rattle.std.specs.Prelude.{ℕ, ◌+◌, Bool, true, false, ◌&&◌, List, [], ◌∷◌, ◌++◌, Option, Some, None, is_some, Ok, Err, codes}
use Rattle.std.specs.Prelude.{if◌then◌else◌, ◌-◌, ◌==◌, not, length, drop}
use Rattle.std.specs.Option.{option_map_or}
use Rattle.std.specs.Str.{bytes_eq}
use Rattle.asm_lines.specs.declared.fault.AsmFault.{AsmFault}
use Rattle.asm_lines.specs.declared.fault.AsmFault.TheVariants.{Syntax, NoEnd}
use Rattle.asm_lines.specs.declared.item.Item.{Item}
use Rattle.asm_lines.specs.declared.item.Item.TheVariants as items
use Rattle.asm_lines.specs.declared.statement.MethodLine.{MethodLine}
use Rattle.asm_lines.specs.declared.listing.CodeLine.{CodeLine}
use Rattle.asm_lines.specs.declared.listing.MethodLines.{MethodLines}
use Rattle.asm_lines.specs.declared.listing.Outside.{Outside}
use Rattle.asm_lines.specs.declared.listing.Outside.TheVariants.{Constant, Field, Attribute, Method}
use Rattle.asm_lines.specs.declared.listing.Listing.{Listing}
use Rattle.asm_lines.specs.LinesAndWords.{is_plain, lines_of, words_of}
use Rattle.asm_lines.specs.Firsts.{with_fault}
use Rattle.list_views.specs.Results.{◌>>=◌}
use Rattle.asm_lines.specs.Statements.{Said, Words, constant_line, field_line, attribute_line, method_line}
use Rattle.asm_lines.specs.declared.statement.ClassLine.{ClassLine}
use Rattle.asm_lines.specs.ClassLines.{class_line}
use Rattle.asm_lines.specs.Operations.{all_names}
use Rattle.asm_lines.specs.Items.{Names, label_of, item_of}

-- a line says nothing: it has no words, or its first word is `#`
abbrev pub is_skipped : Words → Bool
is_skipped [] = true
is_skipped (word ∷ words) = bytes_eq word (codes "#")

-- ---- outside methods

-- what a line outside methods says, by its first word: a constant, a field, an attribute of the class, or the beginning of a method
unfoldable pub outside_of : ℕ → Words → Said Outside
outside_of line [] = Err (Syntax line)
outside_of line (word ∷ words) =
    if bytes_eq word (codes "constant") then (constant_line line words >>= λ x. Ok (Constant x))
    else (if bytes_eq word (codes "field") then (field_line line words >>= λ x. Ok (Field x))
    else (if bytes_eq word (codes "attribute") then (attribute_line line words >>= λ x. Ok (Attribute x))
    else (if bytes_eq word (codes "method") then (method_line line words >>= λ x. Ok (Method x))
    else Err (Syntax line))))

-- a method of the listing: the number of its first line, what that line says, and the lines of its code
abbrev pub make_method : ℕ → MethodLine → List CodeLine → MethodLines
make_method line head lines = record { line = line; head = head; lines = lines }

-- the listing and one more method, which is open up to its `end` where it has code
abbrev pub with_method : Listing → MethodLines → Listing
with_method listing method =
    if is_some method.head.sizes then record listing { unended = Some method }
    else record listing { methods = listing.methods ++ method ∷ [] }

-- the listing and what one more line outside methods says
abbrev pub with_outside : Listing → ℕ → Outside → Listing
with_outside listing line (Constant x) = record listing { constants = listing.constants ++ (line, x) ∷ [] }
with_outside listing line (Field x) = record listing { fields = listing.fields ++ (line, x) ∷ [] }
with_outside listing line (Attribute x) = record listing { attributes = listing.attributes ++ (line, x) ∷ [] }
with_outside listing line (Method head) = with_method listing (make_method line head [])

-- the listing and one more fault of it, of which the first is kept
abbrev pub with_first : Listing → AsmFault → Listing
with_first listing fault = record listing { first = record { fault = with_fault listing.first.fault fault } }

-- the listing and one more line outside methods, which says something or is faulty
abbrev pub outside_line : Listing → ℕ → Said Outside → Listing
outside_line listing line (Ok said) = with_outside listing line said
outside_line listing line (Err fault) = with_first listing fault

-- ---- in a method

-- the label that stands first on a line, if one does, and the words behind it
abbrev pub labelled : Words → Option (List ℕ) × Words
labelled [] = (None, [])
labelled (word ∷ words) = option_map_or (λ label. (Some label, words)) (label_of word) (None, word ∷ words)

-- a line behind its label begins with `end`, which ends the method, also where more is wrong with the line
abbrev pub is_end : Words → Bool
is_end [] = false
is_end (word ∷ words) = bytes_eq word (codes "end")

-- what a line of a method says; one with another byte than printable ASCII and spaces is faulty
abbrev pub read_item : Names → ℕ → Bool → Bool → Words → Said Item
read_item names line true has_label words = item_of names line has_label words
read_item names line false has_label words = Err (Syntax line)

-- what a line of a method says, which is nothing where the line is faulty
abbrev pub item_in : Said Item → Item
item_in (Ok item) = item
item_in (Err fault) = items.Nothing

-- a line of a method's code: its number, its label, what it says, and whether it ends the method
abbrev pub make_code_line : ℕ → Option (List ℕ) → Item → Bool → CodeLine
make_code_line line label item ends = record { line = line; label = label; item = item; ends = ends }

-- a line of a method's code by its label and its words; of a faulty line the label is kept, and whether it ends the method
abbrev pub code_line : ℕ → Option (List ℕ) × Words → Said Item → CodeLine
code_line line words said = make_code_line line words.0 (item_in said) (is_end words.1)

-- the listing and one more line of the method that is open, which the line may end
abbrev pub with_code : Listing → MethodLines → CodeLine → Listing
with_code listing method code =
    let longer = make_method method.line method.head (method.lines ++ code ∷ []) in
    if code.ends then record listing { methods = listing.methods ++ longer ∷ []; unended = None }
    else record listing { unended = Some longer }

-- the listing and the fault of one more line, if that is faulty
abbrev pub with_said : Listing → Said Item → Listing
with_said listing (Ok item) = listing
with_said listing (Err fault) = with_first listing fault

-- the listing and one more line of the method that is open
abbrev pub method_of_line : Names → Listing → MethodLines → ℕ → Bool → Option (List ℕ) × Words → Listing
method_of_line names listing method line is_good words =
    let said = read_item names line is_good (is_some words.0) words.1 in
    with_code (with_said listing said) method (code_line line words said)

-- ---- all lines

-- what a line outside methods says; one with another byte than printable ASCII and spaces is faulty
abbrev pub plain_outside : ℕ → Bool → Words → Said Outside
plain_outside line true words = outside_of line words
plain_outside line false words = Err (Syntax line)

-- the listing and one more line, which is skipped, belongs to the method that is open, or stands outside methods
abbrev pub with_line : Names → ℕ → List ℕ → Listing → Listing
with_line names line text listing =
    if is_plain text && is_skipped (words_of text) then listing
    else option_map_or (λ method. method_of_line names (record listing { unended = None }) method line (is_plain text)
    (labelled (words_of text))) listing.unended
    (outside_line listing line (plain_outside line (is_plain text) (words_of text)))

-- the listing and more lines, the first of which has the given number
abbrev pub with_lines : Names → ℕ → List (List ℕ) → Listing → Listing
with_lines names line [] listing = listing
with_lines names line (text ∷ texts) listing = with_lines names (line + 1) texts (with_line names line text listing)

-- the listing behind the line that begins it, before any other line
abbrev pub no_lines : Listing
no_lines = record { constants = []; fields = []; methods = []; attributes = []; unended = None; first = record { fault = None } }

-- a listing whose last line is over while a method is open: it ends that method, and it is a NoEnd of that line
abbrev pub with_unended : Listing → MethodLines → ℕ → Listing
with_unended listing method last = with_first (record listing { methods = listing.methods ++ method ∷ []; unended = None }) (NoEnd last)

-- the listing behind its last line: a method that is still open is ended there, with a fault
abbrev pub ended : Listing → ℕ → Listing
ended listing last = option_map_or (λ method. with_unended listing method last) listing.unended listing

-- ---- the line that begins the listing

-- what the line that begins a listing says; a line whose first word isn't `class` begins none
unfoldable pub class_said : ℕ → Words → Said ClassLine
class_said line [] = Err (Syntax line)
class_said line (word ∷ words) = if bytes_eq word (codes "class") then class_line line words else Err (Syntax line)

-- The first line that isn't skipped: its number, and what it says. A listing without such a line is faulty at its last
-- line, one without lines at line 1.
abbrev pub first_line : ℕ → List (List ℕ) → Said (ℕ × ClassLine)
first_line line [] = Err (Syntax (if line == 1 then 1 else line - 1))
first_line line (text ∷ texts) =
    if not (is_plain text) then Err (Syntax line)
    else (if is_skipped (words_of text) then first_line (line + 1) texts
    else (class_said line (words_of text) >>= λ class. Ok (line, class)))

-- ---- a listing

-- what the lines of a listing say: the number of the line that begins it, what that line says, and all lines behind it
abbrev pub lines_said : Names → List (List ℕ) → Said (ℕ × ClassLine × Listing)
lines_said names lines =
    first_line 1 lines >>= λ begin. Ok (
      begin.0,
      begin.1,
      ended (with_lines names (begin.0 + 1) (drop begin.0 lines) no_lines)
          (length lines),
    )

-- what the text of a listing says, with the names of all instructions
unfoldable pub listing_of : List ℕ → Said (ℕ × ClassLine × Listing)
listing_of text = lines_said all_names (lines_of text)
