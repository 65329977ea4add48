use Rattle.std.proofs.Common.{◌≡◌, drop}
use Rattle.code_forms.specs.Marks.{marked}
use Rattle.code_decode.specs.Codes.{first_stray}
use Rattle.code_decode.proofs.code.first_stray.Given as goal

abbrev pub invariant-loop-insn : goal.invariant-loop-insn
invariant-loop-insn l = first_stray (marked l.starts) (drop l.insn-index l.insns) ≡ first_stray (marked l.starts) l.insns
