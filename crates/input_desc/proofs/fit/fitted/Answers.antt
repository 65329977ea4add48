use Rattle.class_program.specs.Views.{program_of}
use Rattle.input_desc.proofs.Fitted.{fitted_is_good}
use Rattle.input_desc.proofs.fit.fitted.Goals as goal

pub returns-clause-good : goal.returns-clause-good
returns-clause-good c = fitted_is_good (program_of c.args.program.now) c.args.texts.now c.args.same c.args.share c.fitting.result
    c.requires c.fitting.ensures
