use Rattle.jvm_step.proofs.Light.{lacks_caller}
use Rattle.jvm_step.proofs.tops.give_to_caller.Goals as goal
use Rattle.std.proofs.lemmas.Result.{on_err_weaker}

pub returns-clause-memory : goal.returns-clause-memory
returns-clause-memory c = on_err_weaker c.give.result
    (lacks_caller c.args.frames.now.0 c.at_mut.result.now c.args.value c.requires c.at_mut.ensures.item) c.give.ensures.memory
