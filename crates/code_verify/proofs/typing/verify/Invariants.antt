use Rattle.class_program.specs.Views.{program_of}
use Rattle.code_verify.proofs.Listed.{AreTyped}
use Rattle.code_verify.proofs.typing.verify.Given as goal

abbrev pub invariant-loop-method : goal.invariant-loop-method
invariant-loop-method l = AreTyped (program_of l.program) l.method-index l.methods
