-- The class that a listing says, or its first fault.
use Rattle.std.specs.Prelude.{ℕ, ◌+◌, ◌*◌, ◌^◌, Bool, true, false, ◌==◌, nat_lt, bit_or, List, [], ◌∷◌, ◌++◌, length, map, Option}
use Rattle.std.specs.Prelude.{Some, None, is_some, Ok, Err, if◌then◌else◌}
use Rattle.std.specs.List.{flat_map}
use Rattle.std.specs.Option.{option_map, option_map_or, unwrap_or}
use Rattle.class_read.specs.Text.{class_bytes}
use Rattle.class_read.specs.declared.text.ClassText.{ClassText}
use Rattle.class_read.specs.declared.text.MemberText.{MemberText}
use Rattle.class_read.specs.declared.text.AttrText.{AttrText}
use Rattle.class_read.specs.declared.text.AttrText.TheVariants as attrs
use Rattle.asm_lines.specs.declared.fault.AsmFault.{AsmFault}
use Rattle.asm_lines.specs.declared.number.Number.{Number}
use Rattle.asm_lines.specs.declared.operation.Operation.{Operation}
use Rattle.asm_lines.specs.declared.operation.Operation.TheVariants as operations
use Rattle.asm_lines.specs.declared.item.Item.{Item}
use Rattle.asm_lines.specs.declared.item.Item.TheVariants.{Insn, Catch, Attribute}
use Rattle.asm_lines.specs.declared.listing.CodeLine.{CodeLine}
use Rattle.asm_lines.specs.declared.listing.MethodLines.{MethodLines}
use Rattle.asm_lines.specs.declared.listing.Listing.{Listing}
use Rattle.asm_lines.specs.declared.statement.FieldLine.{FieldLine}
use Rattle.asm_lines.specs.declared.statement.AttributeLine.{AttributeLine}
use Rattle.asm_lines.specs.declared.statement.ClassLine.{ClassLine}
use Rattle.class_asm.specs.declared.asm_codes.pooled.PoolOperand.{PoolOperand}
use Rattle.class_asm.specs.asm_codes.Pooled.{Pooled, pooled_line}
use Rattle.class_asm.specs.declared.asm_codes.code.MethodCode.{MethodCode}
use Rattle.asm_lines.specs.Numbers.{pair_of}
use Rattle.list_views.specs.Results.{◌>>=◌}
use Rattle.asm_lines.specs.Statements.{Said}
use Rattle.asm_lines.specs.Firsts.{with_faults, unless}
use Rattle.asm_lines.specs.Listings.{listing_of}
use Rattle.class_asm.specs.asm_pool.Entries.{Entry, Utf8, Class}
use Rattle.class_asm.specs.asm_pool.Pools.{Numbered, number_of, pool_entry, pool_in, pool_faults}
use Rattle.class_asm.specs.asm_pool.Needs.{counted_words, takes_entry, operation_entry, catch_entry, code_name, super_of, listing_needs}
use Rattle.class_asm.specs.Rules.{field_flags, method_flags, content_fits, major_of, rule_faults}
use Rattle.class_asm.specs.asm_codes.MethodCodes.{make_code, method_code}

-- ---- codes

-- what a line names in the pool: the number of an entry, and the words that a call counts
abbrev pub make_need : ℕ → ℕ → PoolOperand
make_need entry words = record { entry = entry; words = words }

-- a line names nothing in the pool
abbrev pub no_need : PoolOperand
no_need = make_need 0 0

-- what a line names by an entry of the pool, none where there is no entry
abbrev pub entry_need : Numbered → ℕ → Option Entry → Option PoolOperand
entry_need pool words entry = option_map (λ e. make_need (number_of pool e) words) entry

-- the words that a call writes beside its entry, as `invokeinterface` alone does (JVM specification, 6.5.invokeinterface)
abbrev pub call_words : Operation → ℕ
call_words (operations.Member op class name desc) = if op == 185 then counted_words desc else 0
call_words operation = 0

-- What a line of a method needs of the pool, none where it breaks a rule on names, descriptors and numbers.
abbrev pub item_need : Numbered → Item → Option PoolOperand
item_need pool (Insn operation) =
    if takes_entry operation then entry_need pool (call_words operation) (operation_entry operation) else Some no_need
item_need pool (Catch x) = if is_some x.class then entry_need pool 0 (catch_entry x.class) else Some no_need
item_need pool (Attribute x) = if content_fits x.content then Some no_need else None
item_need pool item = Some no_need

-- a line of a method together with what it names in the pool
abbrev pub pooled : Numbered → CodeLine → Pooled
pooled pool code = pooled_line code (item_need pool code.item)

-- the code that the lines of a method say, or the first fault of these lines
abbrev pub code_said : Numbered → MethodLines → Said MethodCode
code_said pool m = method_code (map (pooled pool) m.lines)

-- the code of a method, which is empty where its lines are faulty
abbrev pub code_in : Said MethodCode → MethodCode
code_in (Ok code) = code
code_in (Err fault) = make_code [] []

-- the fault of a method's lines, if they have one
abbrev pub said_faults : Said MethodCode → List AsmFault
said_faults (Ok code) = []
said_faults (Err fault) = fault ∷ []

-- the attribute of a code that a line says, with the number of its name in the pool
abbrev pub item_attributes : Numbered → Item → List (ℕ × List ℕ)
item_attributes pool (Attribute x) = (number_of pool (Utf8 x.name), x.content) ∷ []
item_attributes pool item = []

-- the attributes of a code, in the order of the lines that say them
abbrev pub code_attributes : Numbered → List CodeLine → List (ℕ × List ℕ)
code_attributes pool lines = flat_map (λ code. item_attributes pool code.item) lines

-- how many bytes attributes have in a class file: six each, and their contents (JVM specification, section 4.7)
abbrev pub attributes_size : List (ℕ × List ℕ) → ℕ
attributes_size [] = 0
attributes_size (attribute ∷ attributes) = 6 + length attribute.1 + attributes_size attributes

-- how many bytes the content of a Code attribute has (JVM specification, section 4.7.3)
abbrev pub code_size : MethodCode → List (ℕ × List ℕ) → ℕ
code_size code attributes = 12 + length code.bytes + 8 * length code.table + attributes_size attributes

-- the length of a Code attribute's content fits its four bytes
abbrev pub code_fits : MethodCode → List (ℕ × List ℕ) → Bool
code_fits code attributes = nat_lt (code_size code attributes) (2 ^ 32)

-- the faults of a method's code: the first of its lines, and that of the method's first line where the content of the Code
-- attribute is too long for its length
abbrev pub code_faults : Numbered → MethodLines → List AsmFault
code_faults pool m =
    if is_some m.head.sizes then said_faults (code_said pool m) ++ unless
    (code_fits (code_in (code_said pool m)) (code_attributes pool m.lines)) m.line
    else []

-- ---- members

-- a field or a method of a class file: its flags, the numbers of its name and its descriptor in the pool, and its attributes
abbrev pub make_member : ℕ → ℕ → ℕ → List AttrText → MemberText
make_member flags name desc attributes = record { flags = flags; name = name; desc = desc; attributes = attributes }

-- the field of the class file that the line of a field says
abbrev pub field_text : Numbered → ℕ × FieldLine → MemberText
field_text pool f = make_member (field_flags f.1) (number_of pool (Utf8 f.1.name)) (number_of pool (Utf8 f.1.desc)) []

-- a size of a method's code, which is 0 where the number of the line has no room in two bytes
abbrev pub size_of : Number → ℕ
size_of n = unwrap_or (pair_of n) 0

-- the Code attribute of a method with this code and these sizes (JVM specification, section 4.7.3)
abbrev pub code_text : Numbered → MethodLines → MethodCode → Number × Number → AttrText
code_text pool m code sizes =
    attrs.Code (number_of pool code_name) (size_of sizes.0) (size_of sizes.1) code.bytes code.table (code_attributes pool m.lines)

-- the attributes of a method: a Code where its first line has sizes, else none
abbrev pub method_attributes : Numbered → MethodLines → List AttrText
method_attributes pool m = option_map_or (λ sizes. code_text pool m (code_in (code_said pool m)) sizes ∷ []) m.head.sizes []

-- the method of the class file that the lines of a method say
abbrev pub method_text : Numbered → MethodLines → MemberText
method_text pool m =
    make_member (method_flags m.head) (number_of pool (Utf8 m.head.name)) (number_of pool (Utf8 m.head.desc)) (method_attributes pool m)

-- ---- the class

-- the access flags of a class: PUBLIC and SUPER, for an interface PUBLIC, INTERFACE and ABSTRACT (JVM specification, table 4.1-A)
abbrev pub class_flags : ClassLine → ℕ
class_flags class = bit_or (if class.is_interface then 0x0601 else 0x0021) (if class.is_abstract then 0x0400 else 0)

-- an attribute of the class: the number of its name, and its content
abbrev pub attribute_text : Numbered → ℕ × AttributeLine → AttrText
attribute_text pool a = attrs.Skipped (number_of pool (Utf8 a.1.name)) a.1.content

-- the class file that a listing says, with this pool; its minor version is 0
abbrev pub class_text : Numbered → ClassLine → Listing → ClassText
class_text pool class listing = record {
  minor = 0;
  major = unwrap_or (major_of class) 0;
  pool = map (pool_entry pool) pool.0;
  flags = class_flags class;
  this_index = number_of pool (Class class.name);
  super_index = number_of pool (Class (super_of class));
  interfaces = map (λ name. number_of pool (Class name)) class.interfaces;
  fields = map (field_text pool) listing.fields;
  methods = map (method_text pool) listing.methods;
  attributes = map (attribute_text pool) listing.attributes;
}

-- ---- the faults

-- the faults of a listing besides those of its single lines: of the rules on a class, of the pool, and of the codes of methods
abbrev pub all_faults : ℕ → ClassLine → Listing → List AsmFault
all_faults line class listing =
    let needs = listing_needs line class listing in
    rule_faults line class listing ++ pool_faults needs ++ flat_map (code_faults (pool_in needs)) listing.methods

-- the class of a listing, or the listing's first fault where it has one
abbrev pub unless_faulty : Option AsmFault → ClassText → Said ClassText
unless_faulty (Some fault) class = Err fault
unless_faulty None class = Ok class

-- what a listing's lines say together: the class, or the first fault of all
unfoldable pub class_of : ℕ → ClassLine → Listing → Said ClassText
class_of line class listing =
    unless_faulty (with_faults listing.first.fault (all_faults line class listing))
    (class_text (pool_in (listing_needs line class listing)) class listing)

-- the bytes of the class that the text of a listing says, or the listing's first fault
unfoldable pub assembled : List ℕ → Said (List ℕ)
assembled text = do
  lines ← listing_of text
  class ← class_of lines.0 lines.1 lines.2
  Ok (class_bytes class)
