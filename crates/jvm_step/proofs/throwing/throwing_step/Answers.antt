use Rattle.std.proofs.Common.{rules, ◌≡◌, length, sym, subst}
use Rattle.jvm_values.specs.States.{state_of}
use Rattle.class_program.specs.Views.{program_of}
use Rattle.jvm_step.specs.declared.outcome.Outcome.TheVariants as outcomes
use Rattle.jvm_step.specs.Running.{Step}
use Rattle.jvm_step.specs.Steps.{Stepped}
use Rattle.jvm_step.proofs.Handlers.{handled_found, stuck_without, stuck_empty}
use Rattle.jvm_step.proofs.Light.{catch_heavy}
use Rattle.jvm_step.proofs.throwing.throwing_step.Goals as goal

pub returns-then-is_empty-clause-state : goal.returns-then-is_empty-clause-state
returns-then-is_empty-clause-state c =
    let empty : length c.args.state.now.frames.0 ≡ 0 = search rules in
    subst (λ (s : Step). Stepped s outcomes.Going (state_of c.args.state.now) (state_of c.args.state.now))
    (sym (stuck_empty (program_of c.args.program.now) (state_of c.args.state.now) c.args.r c.args.state.now.frames.0 empty)) tt

pub returns-in-Some-clause-state : goal.returns-in-Some-clause-state
returns-in-Some-clause-state c = handled_found (program_of c.args.program.now) (state_of c.args.state.now) c.args.r
    (state_of c.args.state.now).frames c.handler_in.result c.in-Some.found c.handle.result (state_of c.handle.new.state)
    c.handler_in.ensures c.in-Some.is c.handle.ensures.state

pub returns-in-None-clause-state : goal.returns-in-None-clause-state
returns-in-None-clause-state c = subst
    (λ (s : Step). Stepped s outcomes.Going (state_of c.args.state.now) (state_of c.args.state.now))
    (sym (stuck_without (program_of c.args.program.now) (state_of c.args.state.now) c.args.r (state_of c.args.state.now).frames
    c.handler_in.result c.handler_in.ensures c.in-None.is)) tt

pub returns-in-Some-clause-memory : goal.returns-in-Some-clause-memory
returns-in-Some-clause-memory c light = catch_heavy (program_of c.args.program.now) (state_of c.args.state.now) c.args.r
    c.args.state.now.frames.0 c.handler_in.result c.in-Some.found c.handle.result c.handler_in.ensures c.in-Some.is
    c.handle.ensures.memory light
