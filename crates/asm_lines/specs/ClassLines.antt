-- What the line that begins a listing says: `class NAME`, then any of `extends NAME`, `implements NAME`, `interface`,
-- `abstract` and `major N`, of which `implements` alone may stand several times.
use Rattle.std.specs.Prelude.{ℕ, true, false, List, [], ◌∷◌, ◌++◌, Some, None, is_some, Ok, Err, codes, if◌then◌else◌}
use Rattle.std.specs.Str.{bytes_eq}
use Rattle.asm_lines.specs.declared.fault.AsmFault.TheVariants.{Syntax}
use Rattle.asm_lines.specs.declared.statement.ClassLine.{ClassLine}
use Rattle.asm_lines.specs.declared.class_line.Expected.{Expected}
use Rattle.asm_lines.specs.declared.class_line.Expected.TheVariants.{Any, SuperName, InterfaceName, Major}
use Rattle.list_views.specs.Results.{◌>>=◌}
use Rattle.asm_lines.specs.Statements.{Said, Words, next_word, is_new, number_word}

-- what a word of the line adds: what is expected next, and the class so far, or the fault of the line
abbrev pub Step : Type 0
Step = Said (Expected × ClassLine)

-- the class of this name of which the line says nothing else yet
abbrev pub plain_class : List ℕ → ClassLine
plain_class name = record { name = name; super_name = None; interfaces = []; is_interface = false; is_abstract = false; major = None }

-- a word that none before it asks for: `interface`, `abstract`, or one that asks for a word behind it; all but `implements` stand once
unfoldable pub any_word : ℕ → ClassLine → List ℕ → Step
any_word line class word =
    if bytes_eq word (codes "extends") then (is_new line (is_some class.super_name) >>= λ _. Ok (SuperName, class))
    else (if bytes_eq word (codes "implements") then Ok (InterfaceName, class)
    else (if bytes_eq word (codes "interface") then
    (is_new line class.is_interface >>= λ _. Ok (Any, record class { is_interface = true }))
    else (if bytes_eq word (codes "abstract") then (is_new line class.is_abstract >>= λ _. Ok (Any, record class { is_abstract = true }))
    else (if bytes_eq word (codes "major") then (is_new line (is_some class.major) >>= λ _. Ok (Major, class))
    else Err (Syntax line)))))

-- one word of the line, and what it adds by what the words before it ask for
unfoldable pub class_word : ℕ → Expected → ClassLine → List ℕ → Step
class_word line Any class word = any_word line class word
class_word line SuperName class word = Ok (Any, record class { super_name = Some word })
class_word line InterfaceName class word = Ok (Any, record class { interfaces = class.interfaces ++ word ∷ [] })
class_word line Major class word = number_word line word >>= λ n. Ok (Any, record class { major = Some n })

-- the line ends here, and no word that an earlier one asks for is missing
abbrev pub ends_class : ℕ → Expected → ClassLine → Said ClassLine
ends_class line Any class = Ok class
ends_class line _ class = Err (Syntax line)

-- the words of the line that are left, one after the other
abbrev pub class_words : ℕ → Expected → ClassLine → Words → Said ClassLine
class_words line expected class [] = ends_class line expected class
class_words line expected class (word ∷ words) = class_word line expected class word >>= λ x. class_words line x.0 x.1 words

-- the line behind `class`: the class's name, and then its other words
unfoldable pub class_line : ℕ → Words → Said ClassLine
class_line line words = do
  name ← next_word line words
  class_words line Any (plain_class name.0) name.1
