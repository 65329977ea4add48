-- The bytes of a class file (JVM specification, SE 8, sections 4.1, 4.5, 4.6, 4.7 and 4.7.3).
use Rattle.std.specs.Prelude.{ℕ, List, ◌++◌, length}
use Rattle.std.specs.List.{flat_map}
use Rattle.std.specs.Int.{w16, w32, to_be_bytes}
use Rattle.class_pool.specs.Text.{pool_bytes}
use Rattle.class_read.specs.declared.text.ClassText.{ClassText}
use Rattle.class_read.specs.declared.text.MemberText.{MemberText}
use Rattle.class_read.specs.declared.text.AttrText.{AttrText}
use Rattle.class_read.specs.declared.text.AttrText.TheVariants.{Skipped, Code}
use Rattle.class_read.specs.Content.{Handler}

-- a number in two bytes, the higher first
abbrev pub u2 : ℕ → List ℕ
u2 n = to_be_bytes w16 n

-- a number in four bytes, the highest first
abbrev pub u4 : ℕ → List ℕ
u4 n = to_be_bytes w32 n

-- a list of items: in two bytes how many there are, and then the items in order
abbrev pub counted : {T : Type 0} → (T → List ℕ) → List T → List ℕ
counted text items = u2 (length items) ++ flat_map text items

-- an attribute (JVM specification, section 4.7): the index of its name, the length of its content, and the content
abbrev pub attribute_text : ℕ × List ℕ → List ℕ
attribute_text a = u2 a.0 ++ (u4 (length a.1) ++ a.1)

-- an entry of an exception table (JVM specification, section 4.7.3): start, end, handler and what it catches
abbrev pub handler_text : Handler → List ℕ
handler_text h = u2 h.start ++ (u2 h.end ++ (u2 h.handler ++ u2 h.catch))

-- The content of a Code attribute (JVM specification, section 4.7.3): the most words of the operand stack and of the locals, the
-- length of the code, the code, the exception table and the attribute's own attributes.
abbrev pub code_text : ℕ → ℕ → List ℕ → List Handler → List (ℕ × List ℕ) → List ℕ
code_text max_stack max_locals code table attributes =
    u2 max_stack ++ (u2 max_locals ++ (u4 (length code) ++ (code ++ (counted handler_text table ++ counted attribute_text attributes))))

-- an attribute whose content is bytes that are skipped, or the parts of a Code
abbrev pub attr_text : AttrText → List ℕ
attr_text (Skipped name content) = attribute_text (name, content)
attr_text (Code name max_stack max_locals code table attributes) = attribute_text
    (name, code_text max_stack max_locals code table attributes)

-- a field or a method (JVM specification, sections 4.5 and 4.6): its flags, the indexes of its name and its descriptor, and its
-- attributes
abbrev pub member_text : MemberText → List ℕ
member_text m = u2 m.flags ++ (u2 m.name ++ (u2 m.desc ++ counted attr_text m.attributes))

-- the number with which every class file begins (JVM specification, section 4.1)
abbrev pub magic_number : ℕ
magic_number = 0xcafebabe

-- A class file (JVM specification, section 4.1): the magic number, the versions, the pool, the flags, the class, its super class,
-- its interfaces, fields, methods and attributes.
abbrev pub class_bytes : ClassText → List ℕ
class_bytes c =
    u4 magic_number ++ (u2 c.minor ++ (u2 c.major ++ (pool_bytes c.pool ++ (u2 c.flags ++ (u2 c.this_index ++ (u2 c.super_index
    ++ (counted u2 c.interfaces
    ++ (counted member_text c.fields ++ (counted member_text c.methods ++ counted attr_text c.attributes)))))))))
