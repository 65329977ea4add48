-- The instructions of a method: each stands at its place, in bytes from the code's start (JVM specification, section
-- 4.7.3).
use Rattle.std.specs.Prelude.{ℕ, ◌+◌, ◌==◌, ◌&&◌, nat_le, Bool, true, if◌then◌else◌, List, [], ◌∷◌, slice_get, Option, Some, None}
use Rattle.std.specs.Prelude.{option_and_then}
use Rattle.std.specs.Option.{option_map}
use Rattle.std.specs.Borrow.{Bor}

-- the place of the first of these instructions; there is none at the code's end
abbrev pub first_place : {A : Type 0} → List (ℕ × A) → Option ℕ
first_place [] = None
first_place (x ∷ rest) = Some x.0

-- the instruction at a place, and the place of the next one
abbrev pub instruction_at : {A : Type 0} → List (ℕ × A) → ℕ → Option (A × Option ℕ)
instruction_at [] place = None
instruction_at (x ∷ rest) place = if x.0 == place then Some (x.1, first_place rest) else instruction_at rest place

-- the places of instructions rise strictly, and the first is at least this one
abbrev pub rises_from : {A : Type 0} → ℕ → List (ℕ × A) → Bool
rises_from place [] = true
rises_from place (x ∷ rest) = nat_le place x.0 && rises_from (x.0 + 1) rest

-- the first of these instructions, if there is any, stands at the code's start, place 0
abbrev pub starts_at_zero : {A : Type 0} → List (ℕ × A) → Bool
starts_at_zero [] = true
starts_at_zero (x ∷ rest) = x.0 == 0

-- the instructions of a code stand where they can: the first at place 0, and each later one at a higher place
abbrev pub is_placed : {A : Type 0} → List (ℕ × A) → Bool
is_placed insns = starts_at_zero insns && rises_from 0 insns

-- ---- what a look-up gives

-- an instruction that is borrowed, and the place of the next one
abbrev pub at_seen : {A : Type 0} → Bor A × Option ℕ → A × Option ℕ
at_seen x = (x.0.now, x.1)

-- the place of the instruction with so many before it
abbrev pub place_of : {A : Type 0} → List (ℕ × A) → ℕ → Option ℕ
place_of insns i = option_map (λ x. x.0) (slice_get insns i)

-- an instruction, where it stands at a place
abbrev pub if_at : {A : Type 0} → ℕ → Option ℕ → ℕ × A → Option (A × Option ℕ)
if_at place next x = if x.0 == place then Some (x.1, next) else None

-- the instruction with so many before it, where it stands at a place
abbrev pub nth_at : {A : Type 0} → List (ℕ × A) → ℕ → ℕ → Option (A × Option ℕ)
nth_at insns i place = option_and_then (if_at place (place_of insns (i + 1))) (slice_get insns i)
