-- Which of several faults comes first.
use Rattle.std.specs.Prelude.{ℕ, Bool, ◌&&◌, ◌||◌, ◌==◌, nat_lt, List, [], ◌∷◌, Option, Some, None, if◌then◌else◌}
use Rattle.std.specs.List.{fold}
use Rattle.asm_lines.specs.declared.fault.AsmFault.{AsmFault}
use Rattle.asm_lines.specs.declared.fault.AsmFault.TheVariants.{Syntax, UnknownOpcode, UnknownLabel, DuplicateLabel, OutOfRange}
use Rattle.asm_lines.specs.declared.fault.AsmFault.TheVariants.{NoEnd, Memory}

-- the rank of a fault of a listing: its line, and the number of its kind among the faults of one line; want of memory is no
-- fault of a listing
abbrev pub rank : AsmFault → ℕ × ℕ
rank (Syntax line) = (line, 1)
rank (UnknownOpcode line) = (line, 2)
rank (UnknownLabel line) = (line, 3)
rank (DuplicateLabel line) = (line, 4)
rank (OutOfRange line) = (line, 5)
rank (NoEnd line) = (line, 6)
rank Memory = (0, 0)

-- one fault comes before another: its line is the earlier one, or on one line its kind has the lesser number
abbrev pub is_before : AsmFault → AsmFault → Bool
is_before a b = nat_lt (rank a).0 (rank b).0 || (((rank a).0 == (rank b).0) && nat_lt (rank a).1 (rank b).1)

-- the first of the faults so far and of one more
abbrev pub with_fault : Option AsmFault → AsmFault → Option AsmFault
with_fault None fault = Some fault
with_fault (Some first) fault = if is_before fault first then Some fault else Some first

-- the first of the faults so far and of those of a list
abbrev pub with_faults : Option AsmFault → List AsmFault → Option AsmFault
with_faults first faults = fold with_fault first faults

-- the faults of a line with a number, name, count or distance: none where it is good, else one OutOfRange
abbrev pub unless : Bool → ℕ → List AsmFault
unless good line = if good then [] else OutOfRange line ∷ []
