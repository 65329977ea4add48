-- Faults that are due.
use Rattle.std.specs.Prelude.{◌≡◌, Bool, true, false, if◌then◌else◌, Option, Some, None, Result, Ok, Err}
pub use Rattle.list_views.specs.Results.{IsFault}
use Rattle.input_text.specs.declared.fault.DescFault.{DescFault}
use Rattle.input_text.specs.declared.fault.DescFault.TheVariants.{Memory}

-- a fault is want of memory
abbrev pub is_memory : DescFault → Bool
is_memory Memory = true
is_memory fault = false

-- a fault that is due where a test passes
abbrev pub fault_if : Bool → DescFault → Option DescFault
fault_if test fault = if test then Some fault else None

-- a value of which something holds, or want of memory
abbrev pub IsMemoryOr : {A : Type 0} → Result A DescFault → (A → Type 0) → Type 0
IsMemoryOr (Ok x) P = P x
IsMemoryOr (Err fault) P = fault ≡ Memory
