use Rattle.std.proofs.Common.{arith, refl}
use Rattle.class_program.specs.Views.{program_of}
use Rattle.jvm_step.proofs.Applied.{few_mapped, ended}
use Rattle.jvm_step.proofs.applying.return_from.Goals as goal

pub returns-then-len-lt2-clause-state : goal.returns-then-len-lt2-clause-state
returns-then-len-lt2-clause-state c next = ended (program_of c.args.program.now) next c.args.state.now.heap c.args.state.now.mode
    c.args.state.now.statics _ c.args.value _
    (few_mapped 2 c.args.state.now.frames.0 (omega (arith, c.if-len-lt2.true, c.len.ensures))) refl
