-- An entry where it stands in the input is seen as the entry that it spells.
use Rattle.class_pool.specs.declared.entry.PoolEntry.{PoolEntry}
use Rattle.class_pool.specs.declared.entry.PoolEntry.TheVariants as entries
use Rattle.class_pool.specs.declared.entry.EntryView.{EntryView}
use Rattle.class_pool.specs.declared.entry.EntryView.TheVariants as views

-- an entry where it stands in the input, seen as the entry that it spells: the bytes of a Utf8 are those that the input has now
abbrev pub entry_of : EntryView → PoolEntry
entry_of (views.Utf8 text) = entries.Utf8 text.now
entry_of (views.Integer value) = entries.Integer value
entry_of (views.Float bits) = entries.Float bits
entry_of (views.Long bits) = entries.Long bits
entry_of (views.Double bits) = entries.Double bits
entry_of (views.Class name) = entries.Class name
entry_of (views.Str text) = entries.Str text
entry_of (views.Member tag class name_and_type) = entries.Member tag class name_and_type
entry_of (views.NameAndType name descriptor) = entries.NameAndType name descriptor
entry_of (views.MethodHandle kind entry) = entries.MethodHandle kind entry
entry_of (views.MethodType descriptor) = entries.MethodType descriptor
entry_of (views.InvokeDynamic first name_and_type) = entries.InvokeDynamic first name_and_type
