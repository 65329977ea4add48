-- The lines that say why a call has no output.
use Rattle.std.specs.Prelude.{ℕ, List, [], ◌∷◌, codes}
use Rattle.list_views.specs.FaultWords.{joined}
use Rattle.io_ports.specs.declared.files.FileFault.{FileFault}
use Rattle.io_ports.specs.FileFault.{fault_name}

-- the line of a call that wants memory
abbrev pub memory_line : List ℕ
memory_line = codes "jterm: memory\n"

-- the line of a call whose output was not taken
abbrev pub write_line : List ℕ
write_line = codes "jterm: write: Failed\n"

-- the line of a file that was not read, with this cause
abbrev pub file_line : List ℕ → List ℕ → List ℕ
file_line name cause = joined (codes "jterm: read " ∷ name ∷ codes ": " ∷ cause ∷ codes "\n" ∷ [])

-- the line of a file that was not read, with the name of the fault
abbrev pub read_line : List ℕ → FileFault → List ℕ
read_line name fault = file_line name (fault_name fault)
