-- What the texts of a pool may stand for.
use Rattle.std.specs.Prelude.{ℕ, List, false, Option, Some, None, option_and_then, is_some}
use Rattle.class_base.specs.ClassNames.{is_class_name}
use Rattle.class_base.specs.Types.{field_type}
use Rattle.class_base.specs.MethodTypes.{method_words}
use Rattle.class_pool.specs.declared.entry.PoolEntry.{PoolEntry}
use Rattle.class_pool.specs.Text.{text_of}
use Rattle.class_read.specs.declared.known.Kinds.{Kinds}

-- what a text of a pool may stand for: whether it is a class name, whether it is a field's descriptor, and the words of the
-- parameters where it is a method's
abbrev pub kinds_of : Option (List ℕ) → Kinds
kinds_of None = record { class = false; field = false; words = None }
kinds_of (Some text) = record { class = is_class_name text; field = is_some (field_type text); words = method_words text }

-- what the text of the entry at a place may stand for; an entry that isn't a Utf8, and an empty place, have no text
abbrev pub place_kinds : Option PoolEntry → Kinds
place_kinds place = kinds_of (option_and_then text_of place)
