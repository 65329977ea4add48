-- The class file of a listing, and the rules that it keeps.
use Rattle.std.specs.Prelude.{◌≡◌, ℕ, true, List, None, Ok}
use Rattle.class_read.specs.declared.text.ClassText.{ClassText}
use Rattle.class_read.specs.Rules.{WellFormed, is_read_major, content_of, Spells}
use Rattle.class_read.specs.Text.{class_bytes}
use Rattle.asm_lines.specs.declared.listing.Listing.{Listing}
use Rattle.asm_lines.specs.declared.statement.ClassLine.{ClassLine}
use Rattle.asm_lines.specs.Listings.{listing_of}
use Rattle.class_asm.specs.Said.{SaysClass}

-- The bytes are a class file of the listing that the text is: every line of the text could be read, the bytes are those of a class
-- that says what the lines say, and this class keeps every rule of class files. So where its major version is one that is read, the
-- bytes spell exactly that class.
pub record IsClassFile (text bytes : List ℕ) : Type 0 where
  pub line : ℕ
  pub class : ClassLine
  pub listing : Listing
  pub lines : listing_of text ≡ Ok (line, class, listing)
  pub whole : listing.first.fault ≡ None
  pub file : ClassText
  pub minor : file.minor ≡ 0
  pub bytes_are : class_bytes file ≡ bytes
  pub says : SaysClass class listing (content_of file)
  pub rules : WellFormed file
  pub spelled : is_read_major file.major ≡ true → Spells bytes (content_of file)
