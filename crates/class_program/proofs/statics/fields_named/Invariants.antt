use Rattle.std.proofs.Common.{◌++◌, drop}
use Rattle.std.specs.List.{flat_map}
use Rattle.class_program.specs.Statics.{SameFields, fields_in}
use Rattle.class_program.proofs.statics.fields_named.Given as goal

abbrev pub invariant-loop-method : goal.invariant-loop-method
invariant-loop-method l = SameFields (l.fields ++ flat_map (λ m. fields_in m.insns) (drop l.method-index l.methods))
    (flat_map (λ m. fields_in m.insns) l.methods)
