-- What the class of a listing says, line by line: a reading of the class that leans on no assembler. Names, descriptors and
-- constants are given by what they say, not by their index.
-- JVM specification, chapter 4.
use Rattle.std.specs.Prelude.{◌≡◌, ℕ, ◌+◌, ℤ, List, [], ◌∷◌, map, Option, Some, None, option_map}
use Rattle.std.specs.List.{AllByRecursion}
use Rattle.std.specs.Option.{option_and_then}
use Rattle.class_pool.specs.Text.{entry_at, utf8_at, integer_at, class_name_at, member_at}
use Rattle.class_pool.specs.declared.entry.PoolEntry.{PoolEntry}
use Rattle.class_pool.specs.declared.entry.PoolEntry.TheVariants as files
use Rattle.class_read.specs.Content.{FieldContent, CodeContent, MethodContent, ClassContent}
use Rattle.class_base.specs.MethodTypes.{method_words}
use Rattle.asm_lines.specs.Numbers.{pair_of, int_of}
use Rattle.asm_lines.specs.declared.listing.Listing.{Listing}
use Rattle.asm_lines.specs.declared.listing.MethodLines.{MethodLines}
use Rattle.asm_lines.specs.declared.number.Number.{Number}
use Rattle.asm_lines.specs.declared.operation.Operation.{Operation}
use Rattle.asm_lines.specs.declared.operation.Operation.TheVariants.{LoadInt, LoadString, Member, Class}
use Rattle.asm_lines.specs.declared.statement.ClassLine.{ClassLine}
use Rattle.asm_lines.specs.declared.statement.FieldLine.{FieldLine}
use Rattle.class_asm.specs.asm_codes.Said.{InTurn, SaysCode}
use Rattle.class_asm.specs.declared.asm_codes.pooled.PoolOperand.{PoolOperand}
use Rattle.class_asm.specs.asm_pool.Needs.{member_tag, super_of}
use Rattle.class_asm.specs.Rules.{field_flags, method_flags, major_of}
use Rattle.class_asm.specs.Classes.{class_flags}

-- ---- what the code names in the pool

-- the text that an entry of a pool names, where it is a String
abbrev pub string_of : List PoolEntry → PoolEntry → Option (List ℕ)
string_of pool (files.Str text) = utf8_at pool text
string_of pool entry = None

-- the text of the String entry of that number
abbrev pub string_at : List PoolEntry → ℕ → Option (List ℕ)
string_at pool i = option_and_then (string_of pool) (entry_at pool i)

-- The pool entry of an instruction is the int, the string, the member or the class of its line. `invokeinterface` (185)
-- counts the words of the receiver and the arguments.
abbrev pub NamesEntry : List PoolEntry → Operation → PoolOperand → Type 0
NamesEntry pool (LoadInt op n) need = (value : ℤ) × (int_of n ≡ Some value) × (integer_at pool need.entry ≡ Some value)
NamesEntry pool (LoadString op text) need = string_at pool need.entry ≡ Some text
NamesEntry pool (Member op class name desc) need =
    (member_at pool need.entry ≡ Some (member_tag op, class, name, desc))
    × (op ≡ 185 → option_map (λ words. words + 1) (method_words desc) ≡ Some need.words)
NamesEntry pool (Class op name) need = class_name_at pool need.entry ≡ Some name
NamesEntry pool operation need = Unit {0}

-- what an entry of the exception table catches is the class of its line, or everything where that says `any`
abbrev pub NamesCaught : List PoolEntry → Option (List ℕ) → ℕ → Type 0
NamesCaught pool None index = index ≡ 0
NamesCaught pool (Some name) index = class_name_at pool index ≡ Some name

-- ---- methods

-- a code is the one that a method's lines say: its sizes are those of the method's first line, and its instructions and its
-- exception table are those of the lines
pub record SaysBody (pool : List PoolEntry) (m : MethodLines) (sizes : Number × Number) (code : CodeContent) : Type 0 where
  pub max_stack : pair_of sizes.0 ≡ Some code.max_stack
  pub max_locals : pair_of sizes.1 ≡ Some code.max_locals
  pub lines : SaysCode (NamesEntry pool) (NamesCaught pool) m.lines code.code code.table

-- a method has a code exactly where its first line has sizes, and then it is the one that the lines say
abbrev pub SaysSizes : List PoolEntry → MethodLines → Option (Number × Number) → Option CodeContent → Type 0
SaysSizes pool m None None = Unit {0}
SaysSizes pool m (Some sizes) (Some code) = SaysBody pool m sizes code
SaysSizes pool m sizes code = ⊥

-- a method of the class is the one that the lines say: its flags, its name, its descriptor and its code are theirs
pub record SaysMethod (pool : List PoolEntry) (m : MethodLines) (c : MethodContent) : Type 0 where
  pub flags : c.flags ≡ method_flags m.head
  pub name : c.name ≡ m.head.name
  pub desc : c.desc ≡ m.head.desc
  pub code : SaysSizes pool m m.head.sizes c.code

-- ---- the class

-- the field that a line says, with its flags, its name and its descriptor
abbrev pub field_said : ℕ × FieldLine → FieldContent
field_said f = record { flags = field_flags f.1; name = f.1.name; desc = f.1.desc }

-- The class is the one that a listing says: it has the name, super class, interfaces, flags and major version of the line that
-- begins the listing, and the fields and methods of its lines, in their order.
pub record SaysClass (class : ClassLine) (listing : Listing) (c : ClassContent) : Type 0 where
  pub major : major_of class ≡ Some c.major
  pub flags : c.flags ≡ class_flags class
  pub name : c.name ≡ class.name
  pub super_name : c.super_name ≡ super_of class
  pub interfaces : c.interfaces ≡ class.interfaces
  pub fields : c.fields ≡ map field_said listing.fields
  pub methods : InTurn (SaysMethod c.pool) listing.methods c.methods
