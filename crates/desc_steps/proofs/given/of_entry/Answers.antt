use Rattle.class_world.specs.Worlds.{classes_of}
use Rattle.class_program.specs.Views.{program_of}
use Rattle.desc_steps.proofs.Answering.{program_refused, entry_goes}
use Rattle.desc_steps.proofs.given.of_entry.Goals as goal

pub returns-in-Err-clause-answers : goal.returns-in-Err-clause-answers
returns-in-Err-clause-answers c = program_refused c.args.text (classes_of c.args.world) c.args.entry c.in-Err.refused
    c.in-Err.ensures.refused

pub returns-in-Ok-clause-answers : goal.returns-in-Ok-clause-answers
returns-in-Ok-clause-answers c = entry_goes c.args.text (classes_of c.args.world) c.args.entry (program_of c.in-Ok.program)
    c.of_program.result c.in-Ok.ensures.program c.of_program.ensures.answers
