-- JSON pointers (RFC 6901), as bytes.
use Rattle.std.specs.Prelude.{ℕ, ◌++◌, List, [], ◌∷◌, ◌==◌, if◌then◌else◌, decimal, codes}
use Rattle.std.specs.List.{flat_map}
use Rattle.json_view.specs.declared.place.Place.{Place, Root, Field', Item'}

-- in a reference token `~` is written `~0`, and `/` is written `~1` (section 3)
abbrev pub escaped_byte : ℕ → List ℕ
escaped_byte byte = if byte == 126 then codes "~0" else (if byte == 47 then codes "~1" else byte ∷ [])

-- a name as a reference token, each byte escaped
abbrev pub escaped : List ℕ → List ℕ
escaped name = flat_map escaped_byte name

-- the pointer to the member `name` of the object at `place` (section 4)
abbrev pub member_pointer : List ℕ → List ℕ → List ℕ
member_pointer place name = place ++ codes "/" ++ escaped name

-- the pointer to the item `index`, counted from 0, of the array at `place` (section 4)
abbrev pub item_pointer : List ℕ → ℕ → List ℕ
item_pointer place index = place ++ codes "/" ++ decimal index

-- the pointer of a way from the root, whose own pointer is empty (section 5)
abbrev pub pointer_of : Place → List ℕ
pointer_of Root = []
pointer_of (Field' _ parent name) = member_pointer (pointer_of parent) name.now
pointer_of (Item' _ parent index) = item_pointer (pointer_of parent) index
