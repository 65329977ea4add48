-- The class that bytes spell, or the first fault: the fields of the file in their order, and each rule where the last
-- field that it speaks of ends.
use Rattle.std.specs.Prelude.{◌≡◌, ◌&&◌, ◌||◌, ◌==◌, ℕ, ◌-◌, not, Bool, false, List, [], length, map, drop, Option, Some, None}
use Rattle.std.specs.Prelude.{Result, Ok, Err, is_some, is_none, nat_lt, nat_le, if◌then◌else◌}
use Rattle.std.specs.Option.{option_map_or}
use Rattle.std.specs.List.{list_any}
use Rattle.std.specs.Str.{bytes_eq}
use Rattle.class_pool.specs.Text.{utf8_at, class_name_at}
use Rattle.class_pool.specs.declared.entry.PoolEntry.{PoolEntry}
use Rattle.class_pool.specs.declared.fault.PoolFault.{PoolFault}
use Rattle.class_pool.specs.declared.fault.PoolFault.TheVariants as pools
use Rattle.class_pool.specs.Text.{Unread}
use Rattle.class_pool.specs.Reading.{pool_at}
use Rattle.class_read.specs.declared.fault.ClassFault.{ClassFault}
use Rattle.class_read.specs.declared.fault.ClassFault.TheVariants.{BadMagic, Version, Pool, BadDescriptor, DuplicateMember}
use Rattle.class_read.specs.declared.fault.ClassFault.TheVariants.{CodeLength, MissingCode, ExtraCode, TrailingBytes, Memory}
use Rattle.class_base.specs.declared.member_kind.MemberKind.{MemberKind}
use Rattle.class_base.specs.declared.member_kind.MemberKind.TheVariants.{Field, Method}
use Rattle.class_base.specs.ClassNames.{is_class_name}
use Rattle.class_base.specs.MemberKinds.{is_descriptor}
pub use Rattle.class_base.specs.Members.{Key}
use Rattle.class_read.specs.Content.{Handler, FieldContent, CodeContent, MethodContent, ClassContent}
use Rattle.class_read.specs.Reading.{Read, ◌>>=◌, pure, place, passing, holding, u2_at, u4_at, bytes_at, named_at, sized_at}
use Rattle.class_read.specs.Reading.{repeated, collected}
use Rattle.class_read.specs.Text.{magic_number}
use Rattle.class_read.specs.Rules.{code_name, has_code, same_key, is_read_major}

-- ---- indexes

-- an index of a Class entry whose name is a class name (JVM specification, section 4.4.1), read as that name
unfoldable pub class_index_at : ℕ → List PoolEntry → List ℕ → Read (List ℕ)
class_index_at total pool = passing is_class_name (λ _. BadDescriptor) total (named_at (class_name_at pool) total)

-- an entry of an exception table may catch this index: it is 0, which catches everything, or that of a Class entry whose name is
-- a class name (JVM specification, section 4.7.3, catch_type)
abbrev pub is_catch : List PoolEntry → ℕ → Bool
is_catch pool i = (i == 0) || option_map_or is_class_name (class_name_at pool i) false

-- ---- attributes

-- an index of a Utf8 entry, read as the name of an attribute (JVM specification, section 4.7)
abbrev pub attribute_name_at : ℕ → List PoolEntry → List ℕ → Read (List ℕ)
attribute_name_at total pool = named_at (utf8_at pool) total

-- an attribute's length and a content of that length, which is skipped
unfoldable pub content_at : ℕ → List ℕ → Read (Unit {0})
content_at total = do
  size ← u4_at total
  content ← bytes_at total size
  pure tt

-- one attribute that is skipped, whatever its name
unfoldable pub skipped_at : ℕ → List PoolEntry → Unit {0} → List ℕ → Read (Unit {0})
skipped_at total pool _ = do
  name ← attribute_name_at total pool
  content_at total

-- a count of attributes, and so many attributes that are skipped
unfoldable pub attributes_at : ℕ → List PoolEntry → List ℕ → Read (Unit {0})
attributes_at total pool = do
  count ← u2_at total
  repeated (skipped_at total pool) count tt

-- ---- code

-- what an entry of an exception table catches, as an index that it may catch
abbrev pub catch_at : ℕ → List PoolEntry → List ℕ → Read ℕ
catch_at total pool = passing (is_catch pool) (λ _. BadDescriptor) total (u2_at total)

-- an entry of an exception table: start, end, handler and what it catches, each in two bytes (JVM specification, section 4.7.3)
unfoldable pub handler_at : ℕ → List PoolEntry → List ℕ → Read Handler
handler_at total pool = do
  start ← u2_at total
  end ← u2_at total
  handler ← u2_at total
  catch ← catch_at total pool
  pure (record { start = start; end = end; handler = handler; catch = catch })

-- an exception table: the count of its entries, and then the entries in order
unfoldable pub table_at : ℕ → List PoolEntry → List ℕ → Read (List Handler)
table_at total pool = do
  count ← u2_at total
  repeated (collected (handler_at total pool)) count []

-- a code has this many bytes: at least one and at most 65,535 (JVM specification, section 4.7.3, code_length)
abbrev pub is_code_length : ℕ → Bool
is_code_length n = nat_lt 0 n && nat_le n 65535

-- the number of bytes of a code, which is a CodeLength where no code has so many
abbrev pub code_length_at : ℕ → List ℕ → Read ℕ
code_length_at total = passing is_code_length (λ _. CodeLength) total (u4_at total)

-- the content of a Code attribute (JVM specification, section 4.7.3), whose own attributes are skipped
unfoldable pub code_at : ℕ → List PoolEntry → List ℕ → Read CodeContent
code_at total pool = do
  max_stack ← u2_at total
  max_locals ← u2_at total
  size ← code_length_at total
  code ← bytes_at total size
  table ← table_at total pool
  skipped ← attributes_at total pool
  pure (record { max_stack = max_stack; max_locals = max_locals; code = code; table = table })

-- an attribute's name is `Code`
abbrev pub is_code_name : List ℕ → Bool
is_code_name name = bytes_eq name code_name

-- An attribute of this name may stand in a method: `Code` stands only where the method has code, and only once. `found` is the
-- code that was found before.
abbrev pub may_stand : Bool → Option CodeContent → List ℕ → Bool
may_stand coded found name = not (is_code_name name) || (coded && is_none found)

-- the name of one more attribute of a method, which is an ExtraCode where it may not stand
abbrev pub method_name_at : ℕ → List PoolEntry → Bool → Option CodeContent → List ℕ → Read (List ℕ)
method_name_at total pool coded found = passing (may_stand coded found) (λ _. ExtraCode) total (attribute_name_at total pool)

-- a Code attribute behind its name: its length, and a content that ends where the length says
unfoldable pub code_found_at : ℕ → List PoolEntry → List ℕ → Read (Option CodeContent)
code_found_at total pool = do
  code ← sized_at total (code_at total pool)
  pure (Some code)

-- an attribute of a method that isn't `Code`, behind its name: it is skipped, and the code found before stays
unfoldable pub no_code_at : ℕ → Option CodeContent → List ℕ → Read (Option CodeContent)
no_code_at total found = do
  content ← content_at total
  pure found

-- one attribute of a method, which has code or hasn't: the code found so far, this attribute's if it is `Code`
unfoldable pub method_attribute_at : ℕ → List PoolEntry → Bool → Option CodeContent → List ℕ → Read (Option CodeContent)
method_attribute_at total pool coded found = do
  name ← method_name_at total pool coded found
  if is_code_name name then code_found_at total pool else no_code_at total found

-- the attributes of a method, read as its code: a method that has code has one `Code`, else it is a MissingCode where they end
unfoldable pub method_attributes_at : ℕ → List PoolEntry → Bool → List ℕ → Read (Option CodeContent)
method_attributes_at total pool coded = do
  count ← u2_at total
  found ← repeated (method_attribute_at total pool coded) count None
  ended ← holding (is_some found || not coded) MissingCode total
  pure found

-- ---- members

-- no earlier member has this key
abbrev pub is_new : List Key → Key → Bool
is_new earlier key = not (list_any (same_key key) earlier)

-- an index of a Utf8 entry that is the descriptor of a field, or of a method with these flags
abbrev pub descriptor_at : ℕ → List PoolEntry → MemberKind → ℕ → List ℕ → Read (List ℕ)
descriptor_at total pool kind flags = passing (is_descriptor kind flags) (λ _. BadDescriptor) total (named_at (utf8_at pool) total)

-- the descriptor of a member with this name, which is a DuplicateMember where an earlier one has the name and the descriptor
abbrev pub new_descriptor_at : ℕ → List PoolEntry → MemberKind → List Key → ℕ → List ℕ → List ℕ → Read (List ℕ)
new_descriptor_at total pool kind earlier flags name =
    passing (λ desc. is_new earlier (name, desc)) (λ _. DuplicateMember) total (descriptor_at total pool kind flags)

-- a field or a method up to its attributes, after members of the same kind with the keys `earlier`
unfoldable pub head_at : ℕ → List PoolEntry → MemberKind → List Key → List ℕ → Read FieldContent
head_at total pool kind earlier = do
  flags ← u2_at total
  name ← named_at (utf8_at pool) total
  desc ← new_descriptor_at total pool kind earlier flags name
  pure (record { flags = flags; name = name; desc = desc })

-- the keys of fields, in order
abbrev pub field_keys : List FieldContent → List Key
field_keys fields = map (λ f. (f.name, f.desc)) fields

-- the keys of methods, in order
abbrev pub method_keys : List MethodContent → List Key
method_keys methods = map (λ m. (m.name, m.desc)) methods

-- a field (JVM specification, section 4.5), after fields with the keys `earlier`
unfoldable pub field_at : ℕ → List PoolEntry → List Key → List ℕ → Read FieldContent
field_at total pool earlier = do
  field ← head_at total pool Field earlier
  skipped ← attributes_at total pool
  pure field

-- a method (JVM specification, section 4.6), after methods with the keys `earlier`
unfoldable pub method_at : ℕ → List PoolEntry → List Key → List ℕ → Read MethodContent
method_at total pool earlier = do
  head ← head_at total pool Method earlier
  code ← method_attributes_at total pool (has_code head.flags)
  pure (record { flags = head.flags; name = head.name; desc = head.desc; code = code })

-- one more field after those that are read
unfoldable pub more_fields_at : ℕ → List PoolEntry → List FieldContent → List ℕ → Read (List FieldContent)
more_fields_at total pool made = collected (field_at total pool (field_keys made)) made

-- one more method after those that are read
unfoldable pub more_methods_at : ℕ → List PoolEntry → List MethodContent → List ℕ → Read (List MethodContent)
more_methods_at total pool made = collected (method_at total pool (method_keys made)) made

-- the fields of a class: their count, and then the fields in order
unfoldable pub fields_at : ℕ → List PoolEntry → List ℕ → Read (List FieldContent)
fields_at total pool = do
  count ← u2_at total
  repeated (more_fields_at total pool) count []

-- the methods of a class: their count, and then the methods in order
unfoldable pub methods_at : ℕ → List PoolEntry → List ℕ → Read (List MethodContent)
methods_at total pool = do
  count ← u2_at total
  repeated (more_methods_at total pool) count []

-- ---- the class

-- the interfaces that a class names: their count, and then an index of each, read as its name
unfoldable pub interfaces_at : ℕ → List PoolEntry → List ℕ → Read (List (List ℕ))
interfaces_at total pool = do
  count ← u2_at total
  repeated (collected (class_index_at total pool)) count []

-- the file ends here; a byte that follows is a TrailingBytes
abbrev pub end_at : ℕ → List ℕ → Read (Unit {0})
end_at total bytes = holding (length bytes == 0) TrailingBytes total bytes

-- the interfaces, fields, methods and attributes of a class whose file says this before them
unfoldable pub lists_at : ℕ → List PoolEntry → ℕ → ℕ → List ℕ → List ℕ → List ℕ → Read ClassContent
lists_at total pool major flags name super_name = do
  interfaces ← interfaces_at total pool
  fields ← fields_at total pool
  methods ← methods_at total pool
  skipped ← attributes_at total pool
  pure (record {
    major = major;
    flags = flags;
    name = name;
    super_name = super_name;
    interfaces = interfaces;
    fields = fields;
    methods = methods;
    pool = pool;
  })

-- what follows the constant pool in a class file of this major version (JVM specification, section 4.1)
unfoldable pub body_at : ℕ → ℕ → List PoolEntry → List ℕ → Read ClassContent
body_at total major pool = do
  flags ← u2_at total
  name ← class_index_at total pool
  super_name ← class_index_at total pool
  lists_at total pool major flags name super_name

-- what reading a constant pool gave, as a step of reading the class file
abbrev pub pool_read : Result (List PoolEntry × Unread) PoolFault → Read (List PoolEntry)
pool_read (Ok x) = Ok (x.0, x.1.bytes)
pool_read (Err fault) = Err (Pool fault)

-- the fault of a class file whose pool has this fault; want of memory is the same for both
abbrev pub of_pool : PoolFault → ClassFault
of_pool pools.Memory = Memory
of_pool fault = Pool fault

-- the bytes are what stands in the file from some place on
abbrev pub IsEnd : List ℕ → List ℕ → Type 0
IsEnd file rest = rest ≡ drop (length file - length rest) file

-- the constant pool of a class file, where the bytes that are left begin
abbrev pub pool_field_at : ℕ → List ℕ → Read (List PoolEntry)
pool_field_at total bytes = pool_read (pool_at (record { at = place total bytes; bytes = bytes }))

-- the number with which every class file begins; another one is a BadMagic
abbrev pub magic_at : ℕ → List ℕ → Read ℕ
magic_at total = passing (λ n. n == magic_number) (λ _ _. BadMagic) total (u4_at total)

-- the major version of a class file, which is the fault Version where it isn't read
abbrev pub major_at : ℕ → List ℕ → Read ℕ
major_at total = passing is_read_major (λ n _. Version n) total (u2_at total)

-- a class file from its first field to its last (JVM specification, section 4.1)
unfoldable pub file_at : ℕ → List ℕ → Read ClassContent
file_at total = do
  magic ← magic_at total
  minor ← u2_at total
  major ← major_at total
  pool ← pool_field_at total
  body_at total major pool

-- a class file, and no byte after it
unfoldable pub whole_at : ℕ → List ℕ → Read ClassContent
whole_at total = do
  class ← file_at total
  ended ← end_at total
  pure class

-- the class that was read, without the bytes that are left, or the fault
abbrev pub without_rest : Read ClassContent → Result ClassContent ClassFault
without_rest (Ok x) = Ok x.0
without_rest (Err fault) = Err fault

-- the class that the bytes spell, or the first fault of the class file that they would be
unfoldable pub class_in : List ℕ → Result ClassContent ClassFault
class_in bytes = without_rest (whole_at (length bytes) bytes)
