-- Tables by which a world finds members: for each class the names and descriptors of its members, whether it has a static
-- initialiser, and how many of its first fields are part of objects.
use Rattle.std.specs.Prelude.{◌≡◌, ℕ, ◌+◌, ◌^◌, Bool, List, [], map, take, length, slice_get, nat_lt}
use Rattle.std.specs.List.{filter_map, IsDistinct}
use Rattle.std.specs.Option.{option_map_or}
use Rattle.jvm_values.specs.declared.types.Slot.{Slot}
use Rattle.class_read.specs.declared.view.FieldView.{FieldView}
use Rattle.class_read.specs.declared.view.MethodView.{MethodView}
use Rattle.class_read.specs.Content.{ClassContent, FieldContent, MethodContent}
pub use Rattle.code_forms.specs.class_base.Members.{Key, same_key}
use Rattle.class_world.specs.declared.index.MemberIndex.{MemberIndex}
use Rattle.class_world.specs.World.{World}
use Rattle.class_world.specs.Fields.{field_slot}
use Rattle.class_world.specs.Resolve.{is_initialised}
use Rattle.class_world.specs.inner.Tables.{values_to}

-- the name and descriptor of a field, as the code holds it
abbrev pub field_key : FieldView → Key
field_key f = (f.name.now, f.desc.now)

-- the name and descriptor of a method, as the code holds it
abbrev pub method_key : MethodView → Key
method_key m = (m.name.now, m.desc.now)

-- the name and descriptor of a field of a class file's content
abbrev pub field_content_key : FieldContent → Key
field_content_key f = (f.name, f.desc)

-- the name and descriptor of a method of a class file's content
abbrev pub method_content_key : MethodContent → Key
method_content_key m = (m.name, m.desc)

-- no two methods of a class, and no two of its fields, have the same name and descriptor
pub record HasDistinctMembers (class : ClassContent) : Type 0 where
  pub methods : IsDistinct same_key (map method_content_key class.methods)
  pub fields : IsDistinct same_key (map field_content_key class.fields)

-- the names and descriptors of the methods that a class declares
unfoldable pub method_keys : World → ℕ → List Key
method_keys world class = option_map_or (λ c. map method_content_key c.methods) (slice_get world class) []

-- the names and descriptors of the fields that a class declares
unfoldable pub field_keys : World → ℕ → List Key
field_keys world class = option_map_or (λ c. map field_content_key c.fields) (slice_get world class) []

-- how many of the first i of these fields are part of objects
unfoldable pub kept_before : World → List FieldContent → ℕ → ℕ
kept_before world fields i = length (filter_map (field_slot world) (take i fields))

-- for each i, from 0 to their number, how many of the first i of these fields are part of objects
abbrev pub kept_counts : World → List FieldContent → List ℕ
kept_counts world fields = values_to (kept_before world fields) (length fields + 1)

-- for each place among the fields that a class declares, and one behind them, how many earlier ones are part of objects
unfoldable pub kept_row : World → ℕ → List ℕ
kept_row world class = option_map_or (λ c. kept_counts world c.fields) (slice_get world class) []

-- there are numbers of 32 bits for the places of so many fields
abbrev pub has_places : List Slot → Bool
has_places slots = nat_lt (length slots) (2 ^ 32)

-- the tables of an index hold for each class of the world what the definitions say
pub record IsIndex (world : World) (index : MemberIndex) : Type 0 where
  pub methods : index.methods ≡ values_to (method_keys world) (length world)
  pub fields : index.fields ≡ values_to (field_keys world) (length world)
  pub initialised : index.initialised ≡ values_to (is_initialised world) (length world)
  pub kept : index.kept ≡ values_to (kept_row world) (length world)
