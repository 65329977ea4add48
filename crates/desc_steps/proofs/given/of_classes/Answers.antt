use Rattle.class_world.specs.Worlds.{classes_of}
use Rattle.desc_steps.proofs.Answering.{world_refused, world_goes}
use Rattle.desc_steps.proofs.given.of_classes.Goals as goal

pub returns-in-Err-clause-answers : goal.returns-in-Err-clause-answers
returns-in-Err-clause-answers c = world_refused c.args.text c.args.classes.items c.in-Err.refused c.in-Err.ensures.refused

pub returns-in-Ok-clause-answers : goal.returns-in-Ok-clause-answers
returns-in-Ok-clause-answers c = world_goes c.args.text c.args.classes.items (classes_of c.in-Ok.world) c.of_world.result
    c.in-Ok.ensures.world c.of_world.ensures.answers
