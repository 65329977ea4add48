-- The pool: the entries that are needed, each once, with their numbers.
use Rattle.std.specs.Prelude.{ℕ, ◌+◌, Bool, nat_lt, ◌^◌, List, [], ◌∷◌, ◌++◌, map, min, position, slice_index_or, is_some, if◌then◌else◌}
use Rattle.std.specs.List.{fold, flat_map}
use Rattle.std.specs.Option.{option_map_or}
use Rattle.class_pool.specs.declared.entry.PoolEntry.{PoolEntry}
use Rattle.class_pool.specs.declared.entry.PoolEntry.TheVariants as files
use Rattle.asm_lines.specs.declared.fault.AsmFault.{AsmFault}
use Rattle.asm_lines.specs.Firsts.{unless}
use Rattle.class_asm.specs.asm_pool.Entries.{Entry, Utf8, Integer, Float, Long, Double, Class, Str, Member, NameAndType, same, with_named}
use Rattle.class_asm.specs.asm_pool.Entries.{has_text, width}

-- an entry of the pool, and the line that needs it
abbrev pub Need : Type 0
Need = Entry × ℕ

-- these entries, each needed by the line
abbrev pub needed : ℕ → List Entry → List Need
needed line entries = map (λ entry. (entry, line)) entries

-- the fault of a line that needs an entry without a text, as one whose text is too long; such an entry comes into no pool
abbrev pub need_faults : Need → List AsmFault
need_faults need = unless (has_text need.0) need.1

-- what a need brings into the pool: its entry and those that it names, where it has a text
abbrev pub brought : Need → List Need
brought need = if has_text need.0 then needed need.1 (with_named need.0) else []

-- ---- each once

-- the first needs so far and one more, which is left out where its entry is there already
abbrev pub with_first : List Need → Need → List Need
with_first firsts need = if is_some (position (λ first. same need.0 first.0) firsts) then firsts else firsts ++ need ∷ []

-- the first need of each entry, in order
abbrev pub firsts_of : List Need → List Need
firsts_of needs = fold with_first [] needs

-- ---- numbers

-- the number of each entry, where the first has the number `next`; one past what a pool can count is written as 65,535
abbrev pub numbers_from : ℕ → List Entry → List ℕ
numbers_from next [] = []
numbers_from next (entry ∷ entries) = min next 65535 ∷ numbers_from (next + width entry) entries

-- The faults of the lines that first need an entry past a pool's count, which is one more than its last number and has two bytes.
abbrev pub count_faults : ℕ → List Need → List AsmFault
count_faults next [] = []
count_faults next (need ∷ needs) = unless (nat_lt (next + width need.0) (2 ^ 16)) need.1 ++ count_faults (next + width need.0) needs

-- the entries of a pool in the order of their numbers, and these numbers
abbrev pub Numbered : Type 0
Numbered = List Entry × List ℕ

-- the entries with their numbers, which begin with 1
abbrev pub numbered : List Entry → Numbered
numbered entries = (entries, numbers_from 1 entries)

-- the number of an entry in a pool, 0 where it isn't there
abbrev pub number_of : Numbered → Entry → ℕ
number_of pool entry = option_map_or (λ place. slice_index_or pool.1 place 0) (position (same entry) pool.0) 0

-- an entry as the class file has it: with the numbers of the entries that it names (JVM specification, section 4.4)
abbrev pub pool_entry : Numbered → Entry → PoolEntry
pool_entry pool (Utf8 text) = files.Utf8 text
pool_entry pool (Integer value) = files.Integer value
pool_entry pool (Float bits) = files.Float bits
pool_entry pool (Long bits) = files.Long bits
pool_entry pool (Double bits) = files.Double bits
pool_entry pool (Class name) = files.Class (number_of pool (Utf8 name))
pool_entry pool (Str text) = files.Str (number_of pool (Utf8 text))
pool_entry pool (Member tag class name desc) = files.Member tag (number_of pool (Class class)) (number_of pool (NameAndType name desc))
pool_entry pool (NameAndType name desc) = files.NameAndType (number_of pool (Utf8 name)) (number_of pool (Utf8 desc))

-- ---- a pool

-- the entries that needs bring, each once, with the line that first needs it
abbrev pub firsts_in : List Need → List Need
firsts_in needs = firsts_of (flat_map brought needs)

-- the pool of these needs: each entry once, with its number
abbrev pub pool_in : List Need → Numbered
pool_in needs = numbered (map (λ need. need.0) (firsts_in needs))

-- the faults of these needs: of lines whose entry has no text, and of lines that first need an entry past the pool's count
abbrev pub pool_faults : List Need → List AsmFault
pool_faults needs = flat_map need_faults needs ++ count_faults 1 (firsts_in needs)
