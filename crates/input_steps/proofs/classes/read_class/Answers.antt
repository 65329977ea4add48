use Rattle.std.proofs.Common.{sym, subst}
use Rattle.input_steps.specs.Steps.{IsCaused}
use Rattle.input_steps.specs.Classes.{RefusesFile}
use Rattle.input_steps.proofs.Files.{refuses_file}
use Rattle.input_steps.proofs.classes.read_class.Goals as goal

pub returns-in-Err : goal.returns-in-Err
returns-in-Err c = record {
  class = tt;
  refused = subst (IsCaused (RefusesFile c.args.number c.args.file.now)) (sym c.class_refusal.ensures)
      (refuses_file c.args.number c.args.file.now c.in-Err.fault c.in-Err.ensures.only c.in-Err.ensures.exact);
}
