-- Why an instruction is refused, and which of several reasons is named.
use Rattle.std.specs.Prelude.{ℕ, Bool, true, false, if◌then◌else◌, nat_lt, Option, Result, Ok, Err}
use Rattle.list_views.specs.Results as results
pub use Rattle.list_views.specs.Results.{◌>>=◌}
use Rattle.class_world.specs.declared.fault.MethodName.{MethodName}
use Rattle.class_world.specs.declared.fault.LinkFault.{LinkFault}
use Rattle.class_world.specs.declared.fault.LinkFault.TheVariants as faults
use Rattle.class_program.specs.declared.refusal.Refusal.{Refusal}
use Rattle.class_program.specs.declared.refusal.Refusal.TheVariants.{MissingClass, StaticInit, UnsupportedType, Unresolved}
use Rattle.class_program.specs.declared.refusal.Refusal.TheVariants.{PrivateVirtual, Memory}

-- ---- what an operand names

-- what an operand names where it is there, else that the operand is unresolved
abbrev pub wanted : {A : Type 0} → Option A → Result A Refusal
wanted found = results.wanted Unresolved found

-- nothing where a test of what an operand names holds, else that the operand is unresolved
abbrev pub required : Bool → Result (Unit {0}) Refusal
required test = results.required Unresolved test

-- ---- which refusal is named

-- the place of a refusal among the faults of linking; want of memory is none of them
abbrev pub rank : Refusal → ℕ
rank Memory = 0
rank (MissingClass name) = 2
rank (StaticInit name) = 6
rank UnsupportedType = 9
rank Unresolved = 10
rank PrivateVirtual = 11

-- of two refusals the one with the lower place, and of two with one place the first
abbrev pub first_refusal : Refusal → Refusal → Refusal
first_refusal a b = if nat_lt (rank b) (rank a) then b else a

-- both answers, or the first of their refusals
abbrev pub together : {A B : Type 0} → Result A Refusal → Result B Refusal → Result (A × B) Refusal
together (Ok a) (Ok b) = Ok (a, b)
together (Ok a) (Err refusal) = Err refusal
together (Err refusal) (Ok b) = Err refusal
together (Err a) (Err b) = Err (first_refusal a b)

-- ---- the faults

-- the refusal of an instruction of a method at a place, as a fault
abbrev pub fault_at : MethodName → ℕ → Refusal → LinkFault
fault_at method pc (MissingClass name) = faults.MissingClass name
fault_at method pc (StaticInit name) = faults.StaticInit name
fault_at method pc UnsupportedType = faults.UnsupportedType method pc
fault_at method pc Unresolved = faults.Unresolved method pc
fault_at method pc PrivateVirtual = faults.PrivateVirtual method pc
fault_at method pc Memory = faults.Memory

-- what is said of an instruction of a method at a place, with its refusal as a fault
abbrev pub with_fault : {A : Type 0} → MethodName → ℕ → Result A Refusal → Result A LinkFault
with_fault method pc said = results.with_fault (fault_at method pc) said

-- ---- answers

-- a refusal that is none of the instruction: want of memory
abbrev pub is_memory : Refusal → Bool
is_memory Memory = true
is_memory refusal = false

-- what a call answers, seen by `view`, is what is due, unless memory ran out
abbrev pub Gives : {X Y : Type 0} → (X → Y) → Result X Refusal → Result Y Refusal → Type 0
Gives view answer said = results.Gives is_memory view answer said
