-- Entries of a pool by what they say, in place of the numbers by which the file names other entries (JVM specification,
-- section 4.4).
use Rattle.std.specs.Prelude.{ℕ, ℤ, Bool, true, false, ◌&&◌, ◌==◌, nat_lt, nat_le, ◌^◌, List, [], ◌∷◌, length}
use Rattle.std.specs.Ordering.{int_eq}
use Rattle.std.specs.Str.{bytes_eq}
use Rattle.class_asm.specs.declared.asm_pool.entry.Entry.{Entry as Kept}
use Rattle.class_asm.specs.declared.asm_pool.entry.Entry.TheVariants as kept

-- an entry of a constant pool by what it says: its number or bits, or the texts that the entries it names would give
pub data Entry : Type 0 where
  Utf8 : List ℕ → Entry
  Integer : ℤ → Entry
  Float : ℕ → Entry
  Long : ℕ → Entry
  Double : ℕ → Entry
  Class : List ℕ → Entry
  Str : List ℕ → Entry
  -- the tag, the class, the name and the descriptor
  Member : ℕ → List ℕ → List ℕ → List ℕ → Entry
  NameAndType : List ℕ → List ℕ → Entry

-- two entries are of one kind and agree in all that they say
abbrev pub same : Entry → Entry → Bool
same (Utf8 a) (Utf8 b) = bytes_eq a b
same (Integer a) (Integer b) = int_eq a b
same (Float a) (Float b) = a == b
same (Long a) (Long b) = a == b
same (Double a) (Double b) = a == b
same (Class a) (Class b) = bytes_eq a b
same (Str a) (Str b) = bytes_eq a b
same (Member t c n d) (Member u e m f) = (t == u) && (bytes_eq c e && (bytes_eq n m && bytes_eq d f))
same (NameAndType a b) (NameAndType c d) = bytes_eq a c && bytes_eq b d
same _ _ = false

-- an entry behind those that it names, which stand in the order of its fields
abbrev pub with_named : Entry → List Entry
with_named (Class name) = Utf8 name ∷ Class name ∷ []
with_named (Str text) = Utf8 text ∷ Str text ∷ []
with_named (NameAndType name desc) = Utf8 name ∷ Utf8 desc ∷ NameAndType name desc ∷ []
with_named (Member tag class name desc) =
    Utf8 class ∷ Class class ∷ Utf8 name ∷ Utf8 desc ∷ NameAndType name desc ∷ Member tag class name desc ∷ []
with_named entry = entry ∷ []

-- a text has a length that fits the two bytes of a Utf8 entry
abbrev pub is_short : List ℕ → Bool
is_short text = nat_lt (length text) (2 ^ 16)

-- An entry has a text in a class file: its texts are short, and a member's tag is that of a Fieldref, a Methodref or an
-- InterfaceMethodref. The numbers fit where they are made.
abbrev pub has_text : Entry → Bool
has_text (Utf8 text) = is_short text
has_text (Class name) = is_short name
has_text (Str text) = is_short text
has_text (Member tag class name desc) = (nat_le 9 tag && nat_le tag 11) && (is_short class && (is_short name && is_short desc))
has_text (NameAndType name desc) = is_short name && is_short desc
has_text entry = true

-- how many places of the pool an entry takes: two for a Long and a Double (JVM specification, section 4.4.5), else one
abbrev pub width : Entry → ℕ
width (Long bits) = 2
width (Double bits) = 2
width entry = 1

-- an entry that keeps parts of the listing, seen as the entry that they say
abbrev pub seen : Kept → Entry
seen (kept.Utf8 text) = Utf8 text.now
seen (kept.Integer value) = Integer value
seen (kept.Float bits) = Float bits
seen (kept.Long bits) = Long bits
seen (kept.Double bits) = Double bits
seen (kept.Class name) = Class name.now
seen (kept.Str text) = Str text.now
seen (kept.Member tag class name desc) = Member tag class.now name.now desc.now
seen (kept.NameAndType name desc) = NameAndType name.now desc.now
