use Rattle.class_world.specs.Worlds.{classes_of}
use Rattle.desc_steps.proofs.Answering.{named_goes}
use Rattle.desc_steps.proofs.given.of_world.Goals as goal

pub returns-in-Ok-clause-answers : goal.returns-in-Ok-clause-answers
returns-in-Ok-clause-answers c = named_goes c.args.text (classes_of c.args.world) c.in-Ok.entry c.of_entry.result
    c.in-Ok.ensures.entry c.of_entry.ensures.answers
