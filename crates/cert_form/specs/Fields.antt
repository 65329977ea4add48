-- Readers of JSON values, one after another: the first fault stands for all.
use Rattle.std.specs.Prelude.{ℕ, suc, ℤ, pos, negsuc, nat_abs, nat_le, nat_lt, unsigned_abs, Bool, List, [], ◌∷◌, ◌++◌, ◌==◌}
use Rattle.std.specs.Prelude.{if◌then◌else◌, ◌+◌, ◌-◌, length, slice_get, Option, Some, None, Result, Ok}
use Rattle.std.specs.Option.{option_map_or}
pub use Rattle.list_views.specs.Results.{◌>>=◌}
use Rattle.serde_json.specs.Data.{Items, no_items, item}
use Rattle.serde_json.specs.Find.{as_array}
use Rattle.json_view.specs.Located.{Located}
use Rattle.json_view.specs.Reading.{of_kind, only_of, field_of, items_of, item_of, at_item, int_of, text_of}
use Rattle.cert_form.specs.declared.fault.CertFault.{CertFault}
use Rattle.cert_form.specs.Answers.{Reader, json, wrong_kind, out_of_range, past_limit}

-- ---- objects

-- the value is an object with exactly these fields
unfoldable pub only : List ℕ → Reader (Unit {0})
only names here = json (only_of names here)

-- what a reader says of an object's field of this name
unfoldable pub field : {A : Type 0} → List ℕ → Reader A → Reader A
field name reader here = json (field_of name here) >>= reader

-- ---- lists

-- what a reader says of each entry of a list, from number n on, one after another; it is told of the entries in front of it
abbrev pub entries_from : {A : Type 0} → (List A → Reader A) → List A → List ℕ → ℕ → Items → Result (List A) CertFault
entries_from reader front place n no_items = Ok front
entries_from reader front place n (item value rest) = reader front (at_item place n value) >>= λ x. entries_from reader
    (front ++ x ∷ []) place (suc n) rest

-- what a reader says of each entry of a list, in order; it is told of the entries in front of it
unfoldable pub entries_of : {A : Type 0} → (List A → Reader A) → Reader (List A)
entries_of reader here = json (of_kind as_array here) >>= entries_from reader [] here.place 0

-- what a reader says of a list of at most so many entries; a longer one passes a limit, whatever its entries are
unfoldable pub at_most : {A : Type 0} → ℕ → Reader A → Reader A
at_most most reader here = json (items_of here) >>= λ count. if nat_lt most count then past_limit here else reader here

-- what a reader says of a list of exactly so many entries; one of another length is of the wrong kind
unfoldable pub of_length : {A : Type 0} → ℕ → Reader A → Reader A
of_length size reader here = json (items_of here) >>= λ count. if count == size then reader here else wrong_kind here

-- what a reader says of an entry of a list; where there is none, the list is of the wrong kind
abbrev pub there_or : {A : Type 0} → Located → Reader A → Option Located → Result A CertFault
there_or here reader (Some there) = reader there
there_or here reader None = wrong_kind here

-- what a reader says of entry n of a list; a list that is too short is of the wrong kind
unfoldable pub nth : {A : Type 0} → ℕ → Reader A → Reader A
nth n reader here = there_or here reader (item_of n here)

-- what a reader says of a list of more than so many entries; a shorter one is of the wrong kind
unfoldable pub longer_than : {A : Type 0} → ℕ → Reader A → Reader A
longer_than least reader here = json (items_of here) >>= λ count. if nat_lt least count then reader here else wrong_kind here

-- what a word stands for; one that stands for nothing is of the wrong kind
abbrev pub word_or : {A : Type 0} → Located → Option A → Result A CertFault
word_or here (Some meant) = Ok meant
word_or here None = wrong_kind here

-- what the word stands for that is read here
unfoldable pub a_word : {A : Type 0} → (List ℕ → Option A) → Reader A
a_word means here = json (text_of here) >>= λ word. word_or here (means word)

-- an entry stands in the order of its list; one that doesn't is out of range
abbrev pub in_order : Bool → Reader (Unit {0})
in_order stands here = if stands then Ok tt else out_of_range here

-- ---- numbers

-- a number from 0 up to this one
unfoldable pub number_to : ℕ → Reader ℕ
number_to most here = json (int_of (pos 0) (pos most) here) >>= λ n. Ok (nat_abs n)

-- the number of a node, cut, rule, row, step, method or class: 32 bits without a sign
unfoldable pub a_number : Reader ℕ
a_number here = number_to 4294967295 here

-- the place of an instruction in its method's code, in two bytes
unfoldable pub a_place : Reader ℕ
a_place here = number_to 65535 here

-- an id of a state, which is below 2,048; another one passes a limit
abbrev pub id_within : Located → ℕ → Result ℕ CertFault
id_within here n = if nat_lt n 2048 then Ok n else past_limit here

-- an id of a state
unfoldable pub an_id : Reader ℕ
an_id here = number_to 65535 here >>= id_within here

-- an int (JVM specification, section 2.3.1)
unfoldable pub an_int : Reader ℤ
an_int here = json (int_of (negsuc 2147483647) (pos 2147483647) here)

-- a number that isn't negative, none for -1
abbrev pub unless_negative : ℤ → Option ℕ
unless_negative (pos n) = Some n
unless_negative (negsuc n) = None

-- a number from 0 up to this one, or none, which is written -1
unfoldable pub maybe_to : ℕ → Reader (Option ℕ)
maybe_to most here = json (int_of (negsuc 0) (pos most) here) >>= λ n. Ok (unless_negative n)

-- a number of 32 bits without a sign, or none, which is written -1
unfoldable pub maybe_number : Reader (Option ℕ)
maybe_number here = maybe_to 4294967295 here

-- an id of a state, which is below 2,048, or none
abbrev pub maybe_within : Located → Option ℕ → Result (Option ℕ) CertFault
maybe_within here (Some n) = if nat_lt n 2048 then Ok (Some n) else past_limit here
maybe_within here None = Ok None

-- an id of a state, or none, which is written -1
unfoldable pub maybe_id : Reader (Option ℕ)
maybe_id here = maybe_to 65535 here >>= maybe_within here

-- a number of 64 bits with a sign, whose size is at most this; a greater one passes a limit
unfoldable pub long_to : ℕ → Reader ℤ
long_to most here = json (int_of (negsuc 9223372036854775807) (pos 9223372036854775807) here) >>= λ n. if nat_le (unsigned_abs n)
    most then Ok n else past_limit here

-- a coefficient or a multiplier, whose size is at most 2^31
unfoldable pub a_multiple : Reader ℤ
a_multiple here = long_to 2147483648 here

-- the constant of a form, whose size is at most 2^40
unfoldable pub a_constant : Reader ℤ
a_constant here = long_to 1099511627776 here

-- ---- keys that rise

-- the last entry of a list, if it has one
abbrev pub last_of : {A : Type 0} → List A → Option A
last_of xs = slice_get xs (length xs - 1)

-- the least key that may come behind these entries
abbrev pub next_key : {A : Type 0} → List (ℕ × A) → ℕ
next_key front = option_map_or (λ x. x.0 + 1) (last_of front) 0

-- the key stands behind those of `front`: it is above the last of them
abbrev pub key_in : {A : Type 0} → List (ℕ × A) → ℕ → Reader (Unit {0})
key_in front key here = in_order (nat_le (next_key front) key) here
