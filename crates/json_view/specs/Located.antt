-- A JSON value with its place.
use Rattle.std.specs.Prelude.{ℕ, List, []}
use Rattle.serde_json.specs.Data.{Data}
use Rattle.serde_json.specs.View.{view as value_of}
use Rattle.json_view.specs.Place.{pointer_of}
use Rattle.json_view.specs.declared.view.View.{View}

-- a JSON value together with the place at which it stands in the text
pub record Located : Type 0 where
  pub value : Data
  -- a JSON pointer (RFC 6901)
  pub place : List ℕ

-- the value of a whole text
abbrev pub root_of : Data → Located
root_of value = record { value = value; place = [] }

-- what a view shows
unfoldable pub located : View → Located
located view = record { value = value_of view.value.now; place = pointer_of view.place }
