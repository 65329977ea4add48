use Rattle.std.proofs.Common.{◌≡◌, Some, sym, subst}
use Rattle.class_program.specs.Views.{program_of}
use Rattle.input_desc.proofs.Faultless.{due_is}
use Rattle.input_steps.specs.declared.refused.Place.TheVariants.{State}
use Rattle.input_steps.specs.Steps.{IsCaused}
use Rattle.input_steps.proofs.Texts.{caused}
use Rattle.class_calls.specs.run_call.Answers.{input_fault, RefusesInput}
use Rattle.class_calls.proofs.run_call.state.input_of.Goals as goal

pub returns-in-Err : goal.returns-in-Err
returns-in-Err c =
    let wanted = input_fault (program_of c.args.program.now) c.args.text in record {
      input = tt;
      typed = tt;
      refused = subst (IsCaused (RefusesInput (program_of c.args.program.now) c.args.text)) (sym c.refuse_desc.ensures)
          (caused State (λ fault. wanted ≡ Some fault) c.in-Err.fault
          (λ other. due_is c.in-Err.fault wanted other c.in-Err.ensures.given));
    }
