use Rattle.std.proofs.Common.{List, ap, sym, ◌∙◌}
use Rattle.jvm_values.specs.declared.heap.Value.{Value}
use Rattle.jvm_values.specs.States.{state_of}
use Rattle.class_program.specs.Views.{program_of}
use Rattle.jvm_step.specs.Running.{start}
use Rattle.class_calls.proofs.Inputs.{input_never_stuck}
use Rattle.class_calls.proofs.run_call.running.run_input.Goals as goal

pub returns : goal.returns
returns c =
    let p = program_of c.args.program.now in
    let first = state_of c.in_ok-state.state in
    let begins = ap (λ (args : List Value). start p args c.args.input.statics c.args.input.heap) (sym c.as_slice.ensures)
    ∙ c.in_ok-state.ensures.state in
    let never = input_never_stuck p c.args.input first c.is_good.ensures.closed c.is_good.ensures.widths c.requires.typings
    c.requires.typed begins in
    record { first = first; starts = begins; ends = c.in_ok-ended.ensures.run never }
