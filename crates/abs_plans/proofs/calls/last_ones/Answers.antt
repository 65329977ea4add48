use Rattle.abs_turns.proofs.jvm_step.Stacks.{last_of}
use Rattle.abs_plans.proofs.calls.last_ones.Goals as goal

pub returns : goal.returns
returns c = last_of c.as_slice.result.now c.args.stack.now.0 c.without.result c.len.result c.args.count c.as_slice.ensures
    c.len.ensures c.without.ensures
