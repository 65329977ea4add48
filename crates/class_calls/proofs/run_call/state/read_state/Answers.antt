use Rattle.std.proofs.Common.{sym, subst}
use Rattle.input_text.specs.States.{state_of}
use Rattle.input_steps.specs.declared.refused.Place.TheVariants.{State}
use Rattle.input_steps.specs.Steps.{IsCaused}
use Rattle.input_steps.specs.Texts.{IsTextFault}
use Rattle.input_steps.proofs.Texts.{caused}
use Rattle.class_calls.specs.run_call.Answers.{RefusesState}
use Rattle.class_calls.proofs.run_call.state.read_state.Goals as goal

pub returns-in-Err : goal.returns-in-Err
returns-in-Err c = record {
  text = tt;
  refused = subst (IsCaused (RefusesState c.args.bytes.now)) (sym c.refuse_desc.ensures)
      (caused State (IsTextFault state_of c.args.bytes.now) c.in-Err.fault (λ other. (other, c.in-Err.ensures)));
}
