-- The rules on a listing that no line keeps by itself, and those on names, descriptors and numbers (JVM specification,
-- sections 4.1, 4.2.1 and 4.3). A line that breaks one is out of range.
use Rattle.std.specs.Prelude.{ℕ, ◌^◌, Bool, true, false, ◌&&◌, nat_lt, bit_and, bit_or, ◌==◌, List, [], ◌∷◌, ◌++◌, length, map}
use Rattle.std.specs.Prelude.{slice_get, Option, Some, None, is_some, if◌then◌else◌}
use Rattle.std.specs.List.{flat_map, list_all, list_any}
use Rattle.std.specs.Option.{option_map_or}
use Rattle.class_base.specs.declared.member_kind.MemberKind.TheVariants.{Field, Method}
use Rattle.class_base.specs.ClassNames.{is_class_name}
use Rattle.class_base.specs.MemberKinds.{is_descriptor}
use Rattle.class_read.specs.Rules.{same_key}
use Rattle.asm_lines.specs.declared.fault.AsmFault.{AsmFault}
use Rattle.asm_lines.specs.declared.fault.AsmFault.TheVariants.{OutOfRange}
use Rattle.asm_lines.specs.declared.number.Number.{Number}
use Rattle.asm_lines.specs.declared.listing.CodeLine.{CodeLine}
use Rattle.asm_lines.specs.declared.listing.MethodLines.{MethodLines}
use Rattle.asm_lines.specs.declared.listing.Listing.{Listing}
use Rattle.asm_lines.specs.declared.statement.Constant.{Constant}
use Rattle.asm_lines.specs.declared.statement.FieldLine.{FieldLine}
use Rattle.asm_lines.specs.declared.statement.AttributeLine.{AttributeLine}
use Rattle.asm_lines.specs.declared.statement.ClassLine.{ClassLine}
use Rattle.asm_lines.specs.declared.statement.MethodLine.{MethodLine}
use Rattle.asm_lines.specs.Numbers.{pair_of}
use Rattle.asm_lines.specs.Firsts.{unless}
use Rattle.class_asm.specs.asm_pool.Needs.{super_of, constant_entry, attribute_entries, line_needs}

-- ---- lists

-- the fault of a list whose count has two bytes: of the line that adds an item past it
abbrev pub past_count : {A : Type 0} → (A → ℕ) → List A → List AsmFault
past_count line_of items = option_map_or (λ item. OutOfRange (line_of item) ∷ []) (slice_get items 65535) []

-- ---- members

-- a key of a field or method of the listing: its name and its descriptor
abbrev pub Key : Type 0
Key = List ℕ × List ℕ

-- the faults of members whose name and descriptor an earlier one has, each at its line
abbrev pub seconds : List Key → List (Key × ℕ) → List AsmFault
seconds earlier [] = []
seconds earlier (member ∷ members) =
    if list_any (same_key member.0) earlier then OutOfRange member.1 ∷ seconds earlier members
    else seconds (earlier ++ member.0 ∷ []) members

-- the key of a field, and its line
abbrev pub field_key : ℕ × FieldLine → Key × ℕ
field_key f = ((f.1.name, f.1.desc), f.0)

-- the key of a method, and its line
abbrev pub method_key : MethodLines → Key × ℕ
method_key m = ((m.head.name, m.head.desc), m.line)

-- the access flags of a field: it is public, and static where its line says so (JVM specification, table 4.5-A)
abbrev pub field_flags : FieldLine → ℕ
field_flags f = if f.is_static then 0x0009 else 0x0001

-- the access flags of a method: those of its line, and public where it isn't private (JVM specification, table 4.6-A)
abbrev pub method_flags : MethodLine → ℕ
method_flags head = if bit_and head.flags 0x0002 == 0 then bit_or head.flags 0x0001 else head.flags

-- the fault of a field whose descriptor isn't one (JVM specification, section 4.3.2)
abbrev pub field_faults : ℕ × FieldLine → List AsmFault
field_faults f = unless (is_descriptor Field (field_flags f.1) f.1.desc) f.0

-- the sizes of a method's code, where it has them, have room in two bytes each
abbrev pub sizes_fit : Option (Number × Number) → Bool
sizes_fit None = true
sizes_fit (Some sizes) = is_some (pair_of sizes.0) && is_some (pair_of sizes.1)

-- the lines of the attributes of a method's code
abbrev pub attribute_lines : List CodeLine → List ℕ
attribute_lines lines = map (λ need. need.1) (flat_map (line_needs attribute_entries) lines)

-- the faults of a method: its descriptor isn't one (JVM specification, section 4.3.3), its sizes have no room, or its code has too
-- many attributes
abbrev pub method_faults : MethodLines → List AsmFault
method_faults m =
    unless (is_descriptor Method (method_flags m.head) m.head.desc && sizes_fit m.head.sizes) m.line
    ++ past_count (λ line. line) (attribute_lines m.lines)

-- the faults of the fields of a listing: of each alone, of those whose key an earlier one has, and of one too many
abbrev pub fields_faults : List (ℕ × FieldLine) → List AsmFault
fields_faults fields = flat_map field_faults fields ++ seconds [] (map field_key fields) ++ past_count (λ f. f.0) fields

-- the faults of the methods of a listing: of each alone, of those whose key an earlier one has, and of one too many
abbrev pub methods_faults : List MethodLines → List AsmFault
methods_faults methods = flat_map method_faults methods ++ seconds [] (map method_key methods) ++ past_count (λ m. m.line) methods

-- ---- other lines

-- the length of an attribute's content fits its four bytes
abbrev pub content_fits : List ℕ → Bool
content_fits content = nat_lt (length content) (2 ^ 32)

-- the fault of an attribute of the class whose content is too long
abbrev pub attribute_faults : ℕ × AttributeLine → List AsmFault
attribute_faults a = unless (content_fits a.1.content) a.0

-- the faults of the attributes of the class: of each alone, and of one too many
abbrev pub attributes_faults : List (ℕ × AttributeLine) → List AsmFault
attributes_faults attributes = flat_map attribute_faults attributes ++ past_count (λ a. a.0) attributes

-- the fault of a `constant` line whose number has no room in its entry
abbrev pub constant_faults : ℕ × Constant → List AsmFault
constant_faults c = unless (is_some (constant_entry c.1)) c.0

-- the major version that the first line says; without `major` it is 50
abbrev pub major_of : ClassLine → Option ℕ
major_of class = option_map_or pair_of class.major (Some 50)

-- The first line keeps the rules: the class, its super class and its interfaces have class names, there are at most 65,535
-- interfaces, and the major version has room in two bytes.
abbrev pub class_is_good : ClassLine → Bool
class_is_good class =
    is_class_name class.name && is_class_name (super_of class) && list_all is_class_name class.interfaces
    && nat_lt (length class.interfaces) (2 ^ 16) && is_some (major_of class)

-- ---- a listing

-- the faults of a listing besides those of its pool and its codes
abbrev pub rule_faults : ℕ → ClassLine → Listing → List AsmFault
rule_faults line class listing =
    unless (class_is_good class) line ++ fields_faults listing.fields ++ methods_faults listing.methods
    ++ attributes_faults listing.attributes ++ flat_map constant_faults listing.constants
