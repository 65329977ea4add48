-- A place leads to the value that stands there, as `serde_json` follows a JSON pointer (RFC 6901, section 4).
use Rattle.std.specs.Prelude.{◌≡◌, ◌<◌, ◌^◌, ℕ, List, Some, Ok}
use Rattle.serde_json.specs.Data.{Data}
use Rattle.serde_json.specs.Find.{pointer}
use Rattle.json_view.specs.Located.{Located, root_of}
use Rattle.json_view.specs.Reading.{field_of, item_of}

-- a place leads to its value: the JSON pointer, followed from the root, ends at that value
abbrev pub LeadsFrom : Data → Located → Type 0
LeadsFrom root here = pointer here.place root ≡ Some here.value

-- every place that a reader makes leads to its value: the root's own, and from a place that leads there those of its
-- members and items
pub record PlacesLead : Type 0 where
  pub of_root : (root : Data) → LeadsFrom root (root_of root)
  pub of_field : (root : Data) (name : List ℕ) (here there : Located) → LeadsFrom root here → field_of name here ≡ Ok there
      → LeadsFrom root there
  pub of_item : (root : Data) (n : ℕ) (here there : Located) → n < 2 ^ 64 → LeadsFrom root here → item_of n here ≡ Some there
      → LeadsFrom root there
