-- A pool's first fault, by a plain computation on the bytes that are left and the place where they begin.
use Rattle.std.specs.Prelude.{ℕ, ℤ, zero, suc, ◌+◌, ◌-◌, Bool, true, false, ◌&&◌, ◌||◌, ◌==◌, nat_lt, nat_le, List, [], ◌∷◌, length}
use Rattle.std.specs.Prelude.{take, drop, position, Result, Ok, Err, if◌then◌else◌}
use Rattle.std.specs.Int.{w32, cast_signed}
use Rattle.std.specs.Option.{option_map_or}
use Rattle.byteorder.specs.Endian.{big_number}
use Rattle.class_pool.specs.declared.entry.PoolEntry.{PoolEntry}
use Rattle.class_pool.specs.declared.entry.PoolEntry.TheVariants.{Utf8, Integer, Float, Long, Double, Class, Str, Member}
use Rattle.class_pool.specs.declared.entry.PoolEntry.TheVariants.{NameAndType, MethodHandle, MethodType, InvokeDynamic}
use Rattle.class_pool.specs.declared.fault.PoolFault.{PoolFault}
use Rattle.class_pool.specs.declared.fault.PoolFault.TheVariants.{Truncated, BadTag, BadUtf8, BadIndex, Memory}
use Rattle.class_pool.specs.Entry.{is_wide, is_barred}
use Rattle.class_pool.specs.Text.{first_bad_index}
pub use Rattle.class_pool.specs.Text.{Unread, unread}
pub use Rattle.list_views.specs.Results.{◌>>=◌}
use Rattle.list_views.specs.Results as results

-- a step that reads: what it read and the bytes that it left, or the fault that it met
abbrev pub Read : Type 0 → Type 0
Read A = Result (A × Unread) PoolFault

-- a call of the reader answers, seen by view, what reading gives
abbrev pub Answers : {X Y : Type 0} → (X → Y) → Result X PoolFault → Result Y PoolFault → Type 0
Answers view answer read = results.Answers view answer read

-- the fault says that memory ran out
abbrev pub is_memory : PoolFault → Bool
is_memory Memory = true
is_memory fault = false

-- a call of the reader that takes memory answers, seen by view, what reading gives, unless memory ran out
abbrev pub Gives : {X Y : Type 0} → (X → Y) → Result X PoolFault → Result Y PoolFault → Type 0
Gives view answer read = results.Gives is_memory view answer read

-- a field of n bytes, which is Truncated at its first byte where fewer are left
abbrev pub field_at : ℕ → Unread → Read (List ℕ)
field_at n u =
    if nat_lt (length u.bytes) n then Err (Truncated u.at)
    else Ok (take n u.bytes, record { at = u.at + n; bytes = drop n u.bytes })

-- a number of n bytes, the highest byte first
abbrev pub number_at : ℕ → Unread → Read ℕ
number_at n u = field_at n u >>= λ f. Ok (big_number n f.0, f.1)

-- a signed number of four bytes in two's complement, the highest byte first
abbrev pub signed_at : Unread → Read ℤ
signed_at u = field_at 4 u >>= λ f. Ok (cast_signed w32 (big_number 4 f.0), f.1)

-- a field whose length stands before it in two bytes
unfoldable pub counted_at : Unread → Read (List ℕ)
counted_at u = do
  n ← number_at 2 u
  field_at n.0 n.1

-- two numbers of entries, each in two bytes
unfoldable pub indexes_at : Unread → Read (ℕ × ℕ)
indexes_at u = do
  first ← number_at 2 u
  second ← number_at 2 first.1
  Ok ((first.0, second.0), second.1)

-- the byte and the index of a method handle
unfoldable pub handle_at : Unread → Read (ℕ × ℕ)
handle_at u = do
  kind ← number_at 1 u
  entry ← number_at 2 kind.1
  Ok ((kind.0, entry.0), entry.1)

-- the content of an entry whose tag stands at the place `at`; a tag that no entry has is a BadTag there
unfoldable pub content_at : ℕ → ℕ → Unread → Read PoolEntry
content_at at tag u =
    if tag == 1 then (counted_at u >>= λ t. Ok (Utf8 t.0, t.1))
    else (if tag == 3 then (signed_at u >>= λ n. Ok (Integer n.0, n.1))
    else (if tag == 4 then (number_at 4 u >>= λ n. Ok (Float n.0, n.1))
    else (if tag == 5 then (number_at 8 u >>= λ n. Ok (Long n.0, n.1))
    else (if tag == 6 then (number_at 8 u >>= λ n. Ok (Double n.0, n.1))
    else (if tag == 7 then (number_at 2 u >>= λ n. Ok (Class n.0, n.1))
    else (if tag == 8 then (number_at 2 u >>= λ n. Ok (Str n.0, n.1))
    else (if (nat_le 9 tag && nat_le tag 11) then (indexes_at u >>= λ p. Ok (Member tag p.0.0 p.0.1, p.1))
    else (if tag == 12 then (indexes_at u >>= λ p. Ok (NameAndType p.0.0 p.0.1, p.1))
    else (if tag == 15 then (handle_at u >>= λ p. Ok (MethodHandle p.0.0 p.0.1, p.1))
    else (if tag == 16 then (number_at 2 u >>= λ n. Ok (MethodType n.0, n.1))
    else (if tag == 18 then (indexes_at u >>= λ p. Ok (InvokeDynamic p.0.0 p.0.1, p.1))
    else Err (BadTag at))))))))))))

-- an entry as its text spells it: a tag and its content
unfoldable pub entry_text_at : Unread → Read PoolEntry
entry_text_at u = do
  tag ← number_at 1 u
  content_at u.at tag.0 tag.1

-- the rule on the bytes of a Utf8 entry, whose text ends at the place `next`: none of them is barred
abbrev pub text_rule : PoolEntry → ℕ → Result (Unit {0}) PoolFault
text_rule (Utf8 text) next = option_map_or (λ k. Err (BadUtf8 (next - length text + k))) (position is_barred text) (Ok tt)
text_rule _ next = Ok tt

-- the tags of Long and Double, the entries that take two places
abbrev pub is_wide_tag : ℕ → Bool
is_wide_tag tag = (tag == 5) || (tag == 6)

-- the entry at the front is a Long or a Double, by its tag
abbrev pub starts_wide : List ℕ → Bool
starts_wide [] = false
starts_wide (tag ∷ _) = is_wide_tag tag

-- An entry under its rules. At the last place of a pool no Long or Double stands, for its second place would be behind the
-- last.
unfoldable pub entry_at_place : Bool → Unread → Read PoolEntry
entry_at_place last u =
    if last && starts_wide u.bytes then Err (BadTag u.at)
    else (entry_text_at u >>= λ e. text_rule e.0 e.1.at >>= λ _. Ok e)

-- the entries that fill so many places
unfoldable pub entries_at : ℕ → Unread → Read (List PoolEntry)
entries_at zero u = Ok ([], u)
entries_at (suc zero) u = do
  e ← entry_at_place true u
  Ok (e.0 ∷ [], e.1)
entries_at (suc (suc n)) u = do
  e ← entry_at_place false u
  es ← if is_wide e.0 then entries_at n e.1 else entries_at (suc n) e.1
  Ok (e.0 ∷ es.0, es.1)

-- A pool: the count, the entries of the places 1 to count - 1, and then the rule on what entries name.
unfoldable pub pool_at : Unread → Read (List PoolEntry)
pool_at u = do
  count ← number_at 2 u
  es ← entries_at (count.0 - 1) count.1
  option_map_or (λ i. Err (BadIndex i)) (first_bad_index es.0) (Ok es)
