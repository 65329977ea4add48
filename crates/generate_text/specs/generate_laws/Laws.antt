-- That the listings of so many blocks say classes.
use Rattle.std.specs.Prelude.{◌≡◌, ◌<◌, ◌≤◌, ℕ, List, Ok}
use Rattle.class_asm.specs.Classes.{assembled}
use Rattle.generate_text.specs.Listings.{listing_of}

-- the listing of each number of loops from 1 to 100 is assembled: it says a class, and no line of it has a fault
abbrev pub ListingsAssemble : Type 0
ListingsAssemble = (n : ℕ) → 0 < n → n ≤ 100 → (class : List ℕ) × (assembled (listing_of n) ≡ Ok class)
