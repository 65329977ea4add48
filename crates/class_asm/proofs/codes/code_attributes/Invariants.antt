use Rattle.std.proofs.Common.{◌≡◌, take}
use Rattle.class_asm.specs.Classes.{code_attributes}
use Rattle.class_asm.proofs.codes.code_attributes.Given as goal

abbrev pub invariant-loop-code : goal.invariant-loop-code
invariant-loop-code l = l.attributes ≡ code_attributes l.pool (take l.code-index l.lines)
