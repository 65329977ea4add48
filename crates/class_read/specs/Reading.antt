-- Reading from left to right: a field's value and the bytes after it, or the first fault and its place.
use Rattle.std.specs.Prelude.{ℕ, zero, suc, ◌-◌, Bool, true, false, List, [], ◌∷◌, ◌++◌, length, take, drop, Option, Some, None}
use Rattle.std.specs.Prelude.{Result, Ok, Err, nat_lt, ◌==◌, if◌then◌else◌}
use Rattle.std.specs.Int.{w16, w32, from_be_bytes}
use Rattle.class_base.specs.list_views.Results as results
use Rattle.class_base.specs.list_views.Results.{IsDue}
use Rattle.class_read.specs.declared.fault.ClassFault.{ClassFault}
use Rattle.class_read.specs.declared.fault.ClassFault.TheVariants.{Truncated, BadDescriptor, CodeLength, Memory}

-- a step of reading a class file: a value and the bytes after it, or the first fault
abbrev pub Read : Type 0 → Type 0
Read A = Result (A × List ℕ) ClassFault

-- what follows a step of reading that gave a value; after a fault nothing follows
abbrev pub and_then : {A B : Type 0} → Read A → (A → List ℕ → Read B) → Read B
and_then (Ok x) next = next x.0 x.1
and_then (Err e) next = Err e

infixl 10 ◌>>=◌
-- one step of reading, and then the steps that its value asks for
abbrev pub ◌>>=◌ : {A B : Type 0} → (List ℕ → Read A) → (A → List ℕ → Read B) → List ℕ → Read B
(read >>= next) bytes = and_then (read bytes) next

-- a value that takes no bytes of the file
abbrev pub pure : {A : Type 0} → A → List ℕ → Read A
pure x bytes = Ok (x, bytes)

-- where a field stands in a file of `total` bytes: how many bytes are before it, by the bytes from it on
abbrev pub place : ℕ → List ℕ → ℕ
place total bytes = total - length bytes

-- a field whose value has to pass a test; the fault is made of the value and of the place where the field begins
abbrev pub passing : {A : Type 0} → (A → Bool) → (A → ℕ → ClassFault) → ℕ → (List ℕ → Read A) → List ℕ → Read A
passing test fault total read bytes = and_then (read bytes) (λ x rest. if test x then Ok (x, rest) else Err (fault x (place total bytes)))

-- a rule on what was read before this place, which takes no bytes
abbrev pub holding : Bool → (ℕ → ClassFault) → ℕ → List ℕ → Read (Unit {0})
holding test fault total bytes = if test then Ok (tt, bytes) else Err (fault (place total bytes))

-- a number of two bytes, the higher first
abbrev pub u2_at : ℕ → List ℕ → Read ℕ
u2_at total bytes = if nat_lt (length bytes) 2 then Err (Truncated (place total bytes)) else Ok
    (from_be_bytes w16 (take 2 bytes), drop 2 bytes)

-- a number of four bytes, the highest first
abbrev pub u4_at : ℕ → List ℕ → Read ℕ
u4_at total bytes = if nat_lt (length bytes) 4 then Err (Truncated (place total bytes)) else Ok
    (from_be_bytes w32 (take 4 bytes), drop 4 bytes)

-- a field of `count` bytes
abbrev pub bytes_at : ℕ → ℕ → List ℕ → Read (List ℕ)
bytes_at total count bytes = if nat_lt (length bytes) count then Err (Truncated (place total bytes)) else Ok
    (take count bytes, drop count bytes)

-- what was looked up, which takes no bytes, or the fault where nothing is there
abbrev pub found : {A : Type 0} → Option A → ClassFault → List ℕ → Read A
found (Some x) fault rest = Ok (x, rest)
found None fault rest = Err fault

-- an index of two bytes, read as what it names in the pool; it is a BadDescriptor where it names nothing of that kind
abbrev pub named_at : {A : Type 0} → (ℕ → Option A) → ℕ → List ℕ → Read A
named_at look total bytes = and_then (u2_at total bytes) (λ i rest. found (look i) (BadDescriptor (place total bytes)) rest)

-- A length of four bytes, and a content that is read by its own fields. Where the content ends it has to have that length, else
-- it is a CodeLength at the place of the length.
abbrev pub sized_at : {A : Type 0} → ℕ → (List ℕ → Read A) → List ℕ → Read A
sized_at total read bytes =
    and_then (u4_at total bytes) (λ size content.
    and_then (read content) (λ x rest.
    if length content - length rest == size then Ok (x, rest) else Err (CodeLength (place total bytes))))

-- `count` steps of reading, each from what the earlier ones made
unfoldable pub repeated : {S : Type 0} → (S → List ℕ → Read S) → ℕ → S → List ℕ → Read S
repeated step zero made = pure made
repeated step (suc count) made = step made >>= repeated step count

-- one more value, behind those that were read before
unfoldable pub collected : {A : Type 0} → (List ℕ → Read A) → List A → List ℕ → Read (List A)
collected read made = do
  more ← read
  pure (made ++ more ∷ [])

-- the fault says that memory ran out
abbrev pub is_memory : ClassFault → Bool
is_memory Memory = true
is_memory fault = false

-- reading ends with this fault; where the fault is want of memory, reading may give anything
abbrev pub Fails : {Y : Type 0} → ClassFault → Result Y ClassFault → Type 0
Fails fault read = IsDue is_memory fault read

-- what a function returned, seen by `view`, is what reading a class file gives, unless memory ran out
abbrev pub Gives : {X Y : Type 0} → (X → Y) → Result X ClassFault → Result Y ClassFault → Type 0
Gives view answer read = results.Gives is_memory view answer read
