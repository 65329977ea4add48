use Rattle.std.proofs.Common.{◌++◌, drop}
use Rattle.class_program.specs.Statics.{SameFields, fields_in}
use Rattle.class_program.proofs.statics.add_fields.Given as goal

abbrev pub invariant-loop-insn : goal.invariant-loop-insn
invariant-loop-insn l = SameFields (l.fields ++ fields_in (drop l.insn-index l.insns)) (l.initial.fields ++ fields_in l.insns)
