use Rattle.std.proofs.Common.{◌≡◌, take}
use Rattle.code_decode.specs.Encoding.{code_of}
use Rattle.code_decode.proofs.writing.code_of.Given as goal

abbrev pub invariant-loop-insn : goal.invariant-loop-insn
invariant-loop-insn l = l.out.items ≡ code_of (take l.insn-index l.insns)
