use Rattle.std.proofs.Common.{sym, subst, Option}
use Rattle.class_program.specs.declared.program.CatchRange.{CatchRange}
use Rattle.jvm_step.specs.Memory.{CatchLacks}
use Rattle.jvm_step.proofs.Wanted.{any_err}
use Rattle.jvm_step.proofs.throwing.handle.Goals as goal

pub returns-in_err-catch_at-in-Some-clause-memory : goal.returns-in_err-catch_at-in-Some-clause-memory
returns-in_err-catch_at-in-Some-clause-memory c = any_err c.from_residual.result
    (subst (λ (found : Option CatchRange). CatchLacks found c.args.state.now.frames.0) (sym c.in-Some.is)
    c.in_err-catch_at-in-Some.ensures.memory)
