use Rattle.class_program.specs.Views.{program_of}
use Rattle.input_desc.proofs.Fitted.{own_if}
use Rattle.input_desc.proofs.desc.Desc.fit.Goals as goal

pub returns-clause-own : goal.returns-clause-own
returns-clause-own c = own_if (program_of c.args.program.now) c.args.text c.of_text.result c.of_text.ensures.described
    c.of_text.ensures.good
