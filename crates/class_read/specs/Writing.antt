-- What has a text: each list fits its count, and each content its length.
use Rattle.std.specs.Prelude.{ℕ, ◌<◌, ◌^◌, List, ◌++◌, length}
use Rattle.std.specs.List.{AllByRecursion}
use Rattle.class_pool.specs.Text.{HasTexts, pool_bytes}
use Rattle.class_read.specs.declared.text.ClassText.{ClassText}
use Rattle.class_read.specs.declared.text.MemberText.{MemberText}
use Rattle.class_read.specs.declared.text.AttrText.{AttrText}
use Rattle.class_read.specs.declared.text.AttrText.TheVariants.{Skipped, Code}
use Rattle.class_read.specs.Text.{u2, u4, counted, code_text, attr_text, member_text, magic_number}

-- an attribute that is skipped can be written: the length of its content fits four bytes
abbrev pub HasAttributeText : ℕ × List ℕ → Type 0
HasAttributeText a = length a.1 < 2 ^ 32

-- an attribute can be written: the length of its content fits four bytes, and in a Code each list fits its count and each attribute
-- can be written
abbrev pub HasAttrText : AttrText → Type 0
HasAttrText (Skipped name content) = length content < 2 ^ 32
HasAttrText (Code name max_stack max_locals code table attributes) =
    (length code < 2 ^ 32) × (length table < 2 ^ 16) × (length attributes < 2 ^ 16) × AllByRecursion HasAttributeText attributes
    × (length (code_text max_stack max_locals code table attributes) < 2 ^ 32)

-- a field or a method can be written: the number of its attributes fits its count, and each of them can be written
pub record HasMemberText (m : MemberText) : Type 0 where
  pub count : length m.attributes < 2 ^ 16
  pub each : AllByRecursion HasAttrText m.attributes

-- a class file can be written: its pool can, each of its lists fits its count, and each item can be written
pub record HasClassText (c : ClassText) : Type 0 where
  pub pool : HasTexts c.pool
  pub interfaces : length c.interfaces < 2 ^ 16
  pub fields : length c.fields < 2 ^ 16
  pub each_field : AllByRecursion HasMemberText c.fields
  pub methods : length c.methods < 2 ^ 16
  pub each_method : AllByRecursion HasMemberText c.methods
  pub attributes : length c.attributes < 2 ^ 16
  pub each_attribute : AllByRecursion HasAttrText c.attributes

-- a class file's bytes from the magic number to the index of its super class
abbrev pub front_text : ClassText → List ℕ
front_text c = u4 magic_number
    ++ (u2 c.minor ++ (u2 c.major ++ (pool_bytes c.pool ++ (u2 c.flags ++ (u2 c.this_index ++ u2 c.super_index)))))

-- a class file's bytes from the interfaces on
abbrev pub lists_text : ClassText → List ℕ
lists_text c = counted u2 c.interfaces
    ++ (counted member_text c.fields ++ (counted member_text c.methods ++ counted attr_text c.attributes))
