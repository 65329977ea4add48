use Rattle.std.proofs.Common.{◌≡◌, Err, sym, subst}
use Rattle.class_world.specs.Worlds.{classes_of}
use Rattle.input_desc.specs.Entries.{entry_of}
use Rattle.input_steps.specs.declared.refused.Place.TheVariants.{State}
use Rattle.input_steps.specs.Steps.{IsCaused}
use Rattle.input_steps.proofs.Texts.{caused}
use Rattle.class_calls.specs.run_call.Answers.{RefusesEntry}
use Rattle.class_calls.proofs.run_call.state.entry_of.Goals as goal

pub returns-in-Err : goal.returns-in-Err
returns-in-Err c = record {
  entry = tt;
  body = tt;
  refused = subst (IsCaused (RefusesEntry (classes_of c.args.world.now) c.args.text.now)) (sym c.refuse_desc.ensures)
      (caused State (λ fault. entry_of (classes_of c.args.world.now) c.args.text.now.entry ≡ Err fault) c.in-Err.fault
      (λ other. sym c.in-Err.ensures.found));
}
