use Rattle.jterm.proofs.GenerateMaking.{class_refused, class_goes, class_ends}
use Rattle.jterm.proofs.generate.generate_line.Goals as goal

pub returns-in-Ok-clause-answers : goal.returns-in-Ok-clause-answers
returns-in-Ok-clause-answers c = class_goes c.args.n c.in-Ok.class c.of_class.result c.in-Ok.ensures c.of_class.ensures.answers

pub returns-in-Ok-clause-headline : goal.returns-in-Ok-clause-headline
returns-in-Ok-clause-headline c = class_ends c.args.n c.in-Ok.class c.of_class.result c.in-Ok.ensures c.of_class.ensures.headline

pub returns-in-Err-clause-answers : goal.returns-in-Err-clause-answers
returns-in-Err-clause-answers c = class_refused c.args.n c.in-Err.refused c.in-Err.ensures
