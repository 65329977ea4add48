-- The rules that a class file keeps, and the class that it spells (JVM specification, SE 8, chapter 4).
use Rattle.std.specs.Prelude.{◌≡◌, ◌≢◌, ◌&&◌, ◌||◌, ℕ, ◌<◌, ◌^◌, ◌⊎◌, not, Bool, true, false, List, [], ◌∷◌, length, map, Option}
use Rattle.std.specs.Prelude.{Some, None, IsSome, unwrap_or, nat_le, if◌then◌else◌}
use Rattle.std.specs.List.{AllByRecursion, IsDistinct}
use Rattle.class_pool.specs.Text.{IsPool, utf8_at, class_name_at}
use Rattle.class_pool.specs.declared.entry.PoolEntry.{PoolEntry}
use Rattle.class_read.specs.declared.text.ClassText.{ClassText}
use Rattle.class_read.specs.declared.text.MemberText.{MemberText}
use Rattle.class_read.specs.declared.text.AttrText.{AttrText}
use Rattle.class_read.specs.declared.text.AttrText.TheVariants.{Skipped, Code}
use Rattle.class_base.specs.declared.member_kind.MemberKind.{MemberKind}
use Rattle.class_base.specs.declared.member_kind.MemberKind.TheVariants.{Field, Method}
use Rattle.class_base.specs.ClassNames.{is_class_name}
use Rattle.class_base.specs.Flags.{is_abstract, is_native}
use Rattle.class_base.specs.MemberKinds.{IsDescriptor}
pub use Rattle.class_base.specs.Members.{Key, same_key}
use Rattle.class_read.specs.Content.{Handler, FieldContent, CodeContent, MethodContent, ClassContent}
use Rattle.class_read.specs.Text.{code_text, class_bytes}

-- ---- what indexes name

-- the text of the Utf8 entry of that number; the rules ask that it is there
abbrev pub text_of : List PoolEntry → ℕ → List ℕ
text_of pool i = unwrap_or (utf8_at pool i) []

-- the name of the class by the Class entry of that number; the rules ask that it is there
abbrev pub name_of : List PoolEntry → ℕ → List ℕ
name_of pool i = unwrap_or (class_name_at pool i) []

-- an index names a Utf8 entry (JVM specification, section 4.4.7)
pub record IsText (pool : List PoolEntry) (i : ℕ) : Type 0 where
  pub fits : i < 2 ^ 16
  pub there : IsSome (utf8_at pool i)

-- an index names a Class entry whose name is a class name (JVM specification, section 4.4.1)
pub record IsClass (pool : List PoolEntry) (i : ℕ) : Type 0 where
  pub fits : i < 2 ^ 16
  pub there : IsSome (class_name_at pool i)
  pub good : is_class_name (name_of pool i) ≡ true

-- ---- attributes

-- the name `Code`, which makes a method's attribute its code (JVM specification, section 4.7.3)
abbrev pub code_name : List ℕ
code_name = 67 ∷ 111 ∷ 100 ∷ 101 ∷ []

-- an attribute that is skipped: its name is a text, and its length fits four bytes (JVM specification, section 4.7)
pub record IsAttribute (pool : List PoolEntry) (a : ℕ × List ℕ) : Type 0 where
  pub name : IsText pool a.0
  pub fits : length a.1 < 2 ^ 32

-- an entry of an exception table (JVM specification, section 4.7.3): its numbers fit two bytes, and what it catches is a class, or
-- everything (0)
pub record IsHandler (pool : List PoolEntry) (h : Handler) : Type 0 where
  pub start : h.start < 2 ^ 16
  pub end : h.end < 2 ^ 16
  pub handler : h.handler < 2 ^ 16
  pub catch : (h.catch ≡ 0) ⊎ IsClass pool h.catch

-- A Code attribute (JVM specification, section 4.7.3): it is named `Code`, it has 1 to 65,535 bytes of code, the entries of its
-- exception table keep their rules, its own attributes are skipped, and every number and length fits its field.
pub record IsCode (pool : List PoolEntry) (name max_stack max_locals : ℕ) (code : List ℕ) (table : List Handler)
    (attributes : List (ℕ × List ℕ)) : Type 0 where
  pub name_is : IsText pool name
  pub named : text_of pool name ≡ code_name
  pub stack_fits : max_stack < 2 ^ 16
  pub locals_fit : max_locals < 2 ^ 16
  pub some : 0 < length code
  pub most : length code < 2 ^ 16
  pub table_fits : length table < 2 ^ 16
  pub handlers : AllByRecursion (IsHandler pool) table
  pub attributes_fit : length attributes < 2 ^ 16
  pub skipped : AllByRecursion (IsAttribute pool) attributes
  pub content_fits : length (code_text max_stack max_locals code table attributes) < 2 ^ 32

-- an attribute of a method: one that is named `Code` is read as code, and every other is skipped
abbrev pub IsMethodAttribute : List PoolEntry → AttrText → Type 0
IsMethodAttribute pool (Skipped name content) = IsAttribute pool (name, content) × (text_of pool name ≢ code_name)
IsMethodAttribute pool (Code name max_stack max_locals code table attributes) = IsCode pool name max_stack max_locals code table attributes

-- an attribute of a field or of the class: each is skipped, whatever its name
abbrev pub IsOtherAttribute : List PoolEntry → AttrText → Type 0
IsOtherAttribute pool (Skipped name content) = IsAttribute pool (name, content)
IsOtherAttribute pool (Code name max_stack max_locals code table attributes) = ⊥

-- an attribute is read as code
abbrev pub is_code_attribute : AttrText → Bool
is_code_attribute (Skipped name content) = false
is_code_attribute (Code name max_stack max_locals code table attributes) = true

-- the codes among a method's attributes, in order
abbrev pub codes_in : List AttrText → List CodeContent
codes_in [] = []
codes_in (Skipped name content ∷ rest) = codes_in rest
codes_in (Code name max_stack max_locals code table attributes ∷ rest) =
    record { max_stack = max_stack; max_locals = max_locals; code = code; table = table } ∷ codes_in rest

-- the first of these codes, none where there is none
abbrev pub first_of : List CodeContent → Option CodeContent
first_of [] = None
first_of (code ∷ codes) = Some code

-- ---- members

-- a method with these flags has code: it is neither abstract nor native (JVM specification, section 4.7.3)
abbrev pub has_code : ℕ → Bool
has_code flags = not (is_abstract flags || is_native flags)

-- what fields and methods have in common (JVM specification, sections 4.5 and 4.6): flags, a name and a descriptor of the member's
-- kind, and as many attributes as fit their count
pub record IsMember (pool : List PoolEntry) (kind : MemberKind) (m : MemberText) : Type 0 where
  pub flags_fit : m.flags < 2 ^ 16
  pub name : IsText pool m.name
  pub desc : IsText pool m.desc
  pub descriptor : IsDescriptor kind m.flags (text_of pool m.desc)
  pub attributes_fit : length m.attributes < 2 ^ 16

-- a field of a class file (JVM specification, section 4.5)
pub record IsField (pool : List PoolEntry) (m : MemberText) : Type 0 where
  pub member : IsMember pool Field m
  pub attributes : AllByRecursion (IsOtherAttribute pool) m.attributes

-- a method of a class file (JVM specification, section 4.6): one that is neither abstract nor native has exactly one Code, and
-- the others have none
pub record IsMethod (pool : List PoolEntry) (m : MemberText) : Type 0 where
  pub member : IsMember pool Method m
  pub attributes : AllByRecursion (IsMethodAttribute pool) m.attributes
  pub codes : length (codes_in m.attributes) ≡ (if has_code m.flags then 1 else 0)

-- the key of a field or a method: its name and its descriptor, by the texts of the pool
abbrev pub key_of : List PoolEntry → MemberText → List ℕ × List ℕ
key_of pool m = (text_of pool m.name, text_of pool m.desc)

-- no two of these members have the same name and descriptor (JVM specification, sections 4.5 and 4.6)
abbrev pub AreDistinct : List PoolEntry → List MemberText → Type 0
AreDistinct pool members = IsDistinct same_key (map (key_of pool) members)

-- ---- classes

-- A class file keeps every rule of JVM specification 4.1 that is asked here but the one on majors: its numbers and counts fit their
-- fields, its pool is one, its indexes name classes, its fields, methods and attributes keep their rules, and no two fields and no
-- two methods have the same name and descriptor.
pub record WellFormed (c : ClassText) : Type 0 where
  pub minor_fits : c.minor < 2 ^ 16
  pub major_fits : c.major < 2 ^ 16
  pub pool : IsPool c.pool
  pub flags_fit : c.flags < 2 ^ 16
  pub this_class : IsClass c.pool c.this_index
  pub super_class : IsClass c.pool c.super_index
  pub interfaces_fit : length c.interfaces < 2 ^ 16
  pub interfaces : AllByRecursion (IsClass c.pool) c.interfaces
  pub fields_fit : length c.fields < 2 ^ 16
  pub fields : AllByRecursion (IsField c.pool) c.fields
  pub fields_differ : AreDistinct c.pool c.fields
  pub methods_fit : length c.methods < 2 ^ 16
  pub methods : AllByRecursion (IsMethod c.pool) c.methods
  pub methods_differ : AreDistinct c.pool c.methods
  pub attributes_fit : length c.attributes < 2 ^ 16
  pub attributes : AllByRecursion (IsOtherAttribute c.pool) c.attributes

-- the major versions of the class files that are read: 46 to 52
abbrev pub is_read_major : ℕ → Bool
is_read_major major = nat_le 46 major && nat_le major 52

-- ---- the content

-- what a field of the file says, with the texts that its indexes name
abbrev pub field_of : List PoolEntry → MemberText → FieldContent
field_of pool m = record { flags = m.flags; name = text_of pool m.name; desc = text_of pool m.desc }

-- what a method of the file says, with the texts that its indexes name, and with its code if it has one
abbrev pub method_of : List PoolEntry → MemberText → MethodContent
method_of pool m = record {
  flags = m.flags;
  name = text_of pool m.name;
  desc = text_of pool m.desc;
  code = first_of
      (codes_in m.attributes);
}

-- what a class file says, with the texts and the names in place of the indexes
abbrev pub content_of : ClassText → ClassContent
content_of c = record {
  major = c.major;
  flags = c.flags;
  name = name_of c.pool c.this_index;
  super_name = name_of c.pool c.super_index;
  interfaces = map (name_of c.pool) c.interfaces;
  fields = map (field_of c.pool) c.fields;
  methods = map (method_of c.pool) c.methods;
  pool = c.pool;
}

-- The bytes spell this class: they are those of a class file that keeps the rules and has a major that is read, and the class
-- is what the file says.
pub record Spells (bytes : List ℕ) (class : ClassContent) : Type 0 where
  pub text : ClassText
  pub rules : WellFormed text
  pub major : is_read_major text.major ≡ true
  pub bytes_are : class_bytes text ≡ bytes
  pub content : content_of text ≡ class
