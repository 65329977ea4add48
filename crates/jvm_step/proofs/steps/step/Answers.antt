use Rattle.std.proofs.Common.{sym, subst}
use Rattle.jvm_values.specs.States.{state_of}
use Rattle.class_program.specs.Views.{program_of}
use Rattle.jvm_step.specs.Running.{Step}
use Rattle.jvm_step.specs.Steps.{Steps}
use Rattle.jvm_step.proofs.NormalSteps.{step_normal, step_throwing, does_steps}
use Rattle.jvm_step.specs.Memory.{TakesNone}
use Rattle.jvm_step.proofs.steps.step.Goals as goal

pub returns-in-Normal-clause-step : goal.returns-in-Normal-clause-step
returns-in-Normal-clause-step c = subst
    (λ (x : Step). Steps x c.normal_step.result (state_of c.args.state.now) (state_of c.normal_step.new.state))
    (sym (step_normal (program_of c.args.program.now) (state_of c.args.state.now) c.in-Normal.is)) c.normal_step.ensures.state

pub returns-in-Throwing-clause-step : goal.returns-in-Throwing-clause-step
returns-in-Throwing-clause-step c = subst
    (λ (x : Step). Steps x c.throwing_step.result (state_of c.args.state.now) (state_of c.throwing_step.new.state))
    (sym (step_throwing (program_of c.args.program.now) (state_of c.args.state.now) c.in-Throwing.r c.in-Throwing.is))
    (does_steps _ c.throwing_step.result _ _ c.throwing_step.ensures.state)

pub returns-in-Normal-clause-memory : goal.returns-in-Normal-clause-memory
returns-in-Normal-clause-memory c light = c.normal_step.ensures.memory
    (subst (TakesNone c.args.program.now.methods c.args.state.now.frames.0 (state_of c.args.state.now))
    (step_normal (program_of c.args.program.now) (state_of c.args.state.now) c.in-Normal.is) light)

pub returns-in-Throwing-clause-memory : goal.returns-in-Throwing-clause-memory
returns-in-Throwing-clause-memory c light = c.throwing_step.ensures.memory
    (subst (TakesNone c.args.program.now.methods c.args.state.now.frames.0 (state_of c.args.state.now))
    (step_throwing (program_of c.args.program.now) (state_of c.args.state.now) c.in-Throwing.r c.in-Throwing.is) light)
