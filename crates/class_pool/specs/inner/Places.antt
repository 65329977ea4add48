-- The entries that begin at given places of an input: what a pool's reader keeps, and what it means.
use Rattle.std.specs.Prelude.{◌≡◌, ℕ, List, map, Option}
use Rattle.std.specs.List.{filter_map}
use Rattle.std.specs.Option.{option_map}
use Rattle.std.specs.Result.{result_ok}
use Rattle.class_pool.specs.declared.entry.PoolEntry.{PoolEntry}
use Rattle.class_pool.specs.Text.{places_of}
use Rattle.class_pool.specs.Reading.{unread, entry_text_at}

-- the entry that begins at a place, none where no entry's text begins
abbrev pub slot_in : List ℕ → ℕ → Option PoolEntry
slot_in bytes place = option_map (λ e. e.0) (result_ok (entry_text_at (unread bytes place)))

-- the entries that begin at each of these places, none where no entry's text begins
abbrev pub slots_in : List ℕ → List ℕ → List (Option PoolEntry)
slots_in bytes places = map (slot_in bytes) places

-- the entries that begin at these places, without the places where none begins
abbrev pub entries_in : List ℕ → List ℕ → List PoolEntry
entries_in bytes places = filter_map (λ slot. slot) (slots_in bytes places)

-- Places of an input agree with the entries that begin there: counted from place 0 on, with an empty place behind each Long
-- and Double, the entries stand at these places.
abbrev pub Agrees : List ℕ → List ℕ → Type 0
Agrees bytes places = places_of (entries_in bytes places) ≡ slots_in bytes places
