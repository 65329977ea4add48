-- Which entries of the pool the lines of a listing need, and in which order.
use Rattle.std.specs.Prelude.{ℕ, ◌+◌, ◌^◌, Bool, true, false, ◌&&◌, ◌||◌, ◌==◌, not, nat_le, nat_lt, List, [], ◌∷◌, ◌++◌, map}
use Rattle.std.specs.Prelude.{Option, Some, None, is_some, codes, if◌then◌else◌}
use Rattle.std.specs.Int.{w64, cast_unsigned}
use Rattle.std.specs.List.{flat_map, list_all}
use Rattle.std.specs.Option.{option_map, option_map_or, option_and_then, option_to_list, unwrap_or}
use Rattle.class_base.specs.declared.member_kind.MemberKind.TheVariants.{Field}
use Rattle.class_base.specs.ClassNames.{is_class_name}
use Rattle.class_base.specs.MemberKinds.{is_descriptor}
use Rattle.class_base.specs.MethodTypes.{method_words}
use Rattle.class_base.specs.Types.{array_depth}
use Rattle.asm_lines.specs.declared.operation.Operation.{Operation}
use Rattle.asm_lines.specs.declared.operation.Operation.TheVariants as operations
use Rattle.asm_lines.specs.declared.item.Item.{Item}
use Rattle.asm_lines.specs.declared.item.Item.TheVariants.{Insn, Catch, Attribute}
use Rattle.asm_lines.specs.declared.listing.CodeLine.{CodeLine}
use Rattle.asm_lines.specs.declared.listing.MethodLines.{MethodLines}
use Rattle.asm_lines.specs.declared.listing.Listing.{Listing}
use Rattle.asm_lines.specs.declared.statement.Constant.{Constant}
use Rattle.asm_lines.specs.declared.statement.Constant.TheVariants as constants
use Rattle.asm_lines.specs.declared.statement.FieldLine.{FieldLine}
use Rattle.asm_lines.specs.declared.statement.AttributeLine.{AttributeLine}
use Rattle.asm_lines.specs.declared.statement.ClassLine.{ClassLine}
use Rattle.asm_lines.specs.Numbers.{unsigned_of, signed_of, int_of}
use Rattle.class_asm.specs.asm_pool.Entries.{Entry, Utf8, Integer, Float, Long, Double, Class, Str, Member, has_text}
use Rattle.class_asm.specs.asm_pool.Pools.{Need, needed}

-- ---- instructions

-- the tag of the entry that an instruction on a member names: a field's instruction names a Fieldref, `invokeinterface` an
-- InterfaceMethodref, another call a Methodref (JVM specification, section 4.4.2)
abbrev pub member_tag : ℕ → ℕ
member_tag op = if nat_le op 181 then 9 else (if op == 185 then 11 else 10)

-- what the count byte of `invokeinterface` holds: the words of the receiver and the arguments, and 0 where a byte can't hold them
-- (JVM specification, 6.5.invokeinterface)
abbrev pub counted_words : List ℕ → ℕ
counted_words desc = option_map_or (λ words. if nat_le words 254 then words + 1 else 0) (method_words desc) 0

-- a descriptor is one for the opcode: that of a field for a field's instruction, that of a method for a call, whose words the count
-- byte can hold where it is `invokeinterface`
abbrev pub is_member_descriptor : ℕ → List ℕ → Bool
is_member_descriptor op desc =
    if nat_le op 181 then is_descriptor Field 0 desc
    else (if op == 185 then nat_lt 0 (counted_words desc) else is_some (method_words desc))

-- a name of a Class entry: a class name, or the descriptor of an array type (JVM specification, section 4.4.1)
abbrev pub is_class_or_array : List ℕ → Bool
is_class_or_array name = is_class_name name || (nat_lt 0 (array_depth name) && is_descriptor Field 0 name)

-- an entry, unless a rule is broken or the entry has no text in a class file
abbrev pub allowed : Bool → Entry → Option Entry
allowed good entry = if good && has_text entry then Some entry else None

-- an instruction needs an entry of the pool
abbrev pub takes_entry : Operation → Bool
takes_entry (operations.LoadInt op n) = true
takes_entry (operations.LoadString op text) = true
takes_entry (operations.Member op class name desc) = true
takes_entry (operations.Class op name) = true
takes_entry operation = false

-- the entry that an instruction needs, unless a rule on names, descriptors or numbers is broken
abbrev pub operation_entry : Operation → Option Entry
operation_entry (operations.LoadInt op n) = option_map (λ value. Integer value) (int_of n)
operation_entry (operations.LoadString op text) = allowed true (Str text)
operation_entry (operations.Member op class name desc) =
    allowed (is_class_name class && is_member_descriptor op desc) (Member (member_tag op) class name desc)
operation_entry (operations.Class op name) = allowed (is_class_or_array name) (Class name)
operation_entry operation = None

-- the entry of the class that a line of the exception table catches; none where it catches everything or the name is no class name
abbrev pub catch_entry : Option (List ℕ) → Option Entry
catch_entry class = option_and_then (λ name. allowed (is_class_name name) (Class name)) class

-- ---- lines of a method

-- the entry that a line needs for its instruction
abbrev pub insn_entries : Item → List Entry
insn_entries (Insn operation) = option_to_list (operation_entry operation)
insn_entries item = []

-- the entry that a line needs for the class that it catches
abbrev pub catch_entries : Item → List Entry
catch_entries (Catch x) = option_to_list (catch_entry x.class)
catch_entries item = []

-- the entry that a line needs for the name of an attribute
abbrev pub attribute_entries : Item → List Entry
attribute_entries (Attribute x) = Utf8 x.name ∷ []
attribute_entries item = []

-- what a line of a method needs, of one of these kinds
abbrev pub line_needs : (Item → List Entry) → CodeLine → List Need
line_needs entries code = needed code.line (entries code.item)

-- the entry of the name `Code` (JVM specification, section 4.7.3)
abbrev pub code_name : Entry
code_name = Utf8 (codes "Code")

-- What a method's code needs, in the order of the file: the name of the attribute, then what the instructions, the exception table
-- and the attributes of the code need.
abbrev pub code_needs : MethodLines → List Need
code_needs m =
    needed m.line (code_name ∷ []) ++ flat_map (line_needs insn_entries) m.lines ++ flat_map (line_needs catch_entries) m.lines
    ++ flat_map (line_needs attribute_entries) m.lines

-- ---- members, attributes, constants

-- what a field needs: the entries of its name and its descriptor
abbrev pub field_needs : ℕ × FieldLine → List Need
field_needs f = needed f.0 (Utf8 f.1.name ∷ Utf8 f.1.desc ∷ [])

-- what a method needs: the entries of its name and its descriptor, and what its code needs where it has one
abbrev pub method_needs : MethodLines → List Need
method_needs m = needed m.line (Utf8 m.head.name ∷ Utf8 m.head.desc ∷ []) ++ (if is_some m.head.sizes then code_needs m else [])

-- what an attribute of the class needs: the entry of its name
abbrev pub attribute_needs : ℕ × AttributeLine → List Need
attribute_needs a = needed a.0 (Utf8 a.1.name ∷ [])

-- the entry that a `constant` line says, unless its number doesn't fit
abbrev pub constant_entry : Constant → Option Entry
constant_entry (constants.Long n) = option_map (λ value. Long (cast_unsigned w64 value)) (signed_of n)
constant_entry (constants.Float n) = option_and_then (λ bits. if nat_lt bits (2 ^ 32) then Some (Float bits) else None) (unsigned_of n)
constant_entry (constants.Double n) = option_map (λ bits. Double bits) (unsigned_of n)
constant_entry (constants.Str text) = Some (Str text)

-- what a `constant` line needs: its entry
abbrev pub constant_needs : ℕ × Constant → List Need
constant_needs c = needed c.0 (option_to_list (constant_entry c.1))

-- ---- the class

-- the name of the super class that the first line says; without `extends` it is java/lang/Object
abbrev pub super_of : ClassLine → List ℕ
super_of class = unwrap_or class.super_name (codes "java/lang/Object")

-- what the first line needs: the entries of the class, of its super class and of its interfaces
abbrev pub class_needs : ℕ → ClassLine → List Need
class_needs line class = needed line (Class class.name ∷ Class (super_of class) ∷ map (λ name. Class name) class.interfaces)

-- What a listing needs, in the order of the class file; last the entries of the `constant` lines, in the order of these lines.
abbrev pub listing_needs : ℕ → ClassLine → Listing → List Need
listing_needs line class listing =
    class_needs line class ++ flat_map field_needs listing.fields ++ flat_map method_needs listing.methods
    ++ flat_map attribute_needs listing.attributes ++ flat_map constant_needs listing.constants
