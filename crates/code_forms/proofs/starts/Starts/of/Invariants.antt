use Rattle.std.proofs.Common.{◌≡◌, ℕ, take}
use Rattle.code_forms.specs.Marks.{marked, starts, stands}
use Rattle.code_forms.proofs.starts.Starts.of.Given as goal

abbrev pub invariant-loop-insn : goal.invariant-loop-insn
invariant-loop-insn l = (place : ℕ) → marked l.found place ≡ stands (starts (take l.insn-index l.insns)) place
