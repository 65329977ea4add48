use Rattle.jvm_step.proofs.Light.{lacks_top}
use Rattle.jvm_step.proofs.tops.handle_in_top.Goals as goal
use Rattle.std.proofs.lemmas.Result.{on_err_weaker}

pub returns-clause-memory : goal.returns-clause-memory
returns-clause-memory c = on_err_weaker c.begin_handler.result
    (lacks_top c.args.frames.now.0 c.at_mut.result.now c.requires c.at_mut.ensures.item) c.begin_handler.ensures.memory
