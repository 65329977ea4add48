use Rattle.filled_graphs.proofs.SlotStates.{none_empty, more_empty, all_empty}
use Rattle.filled_graphs.proofs.filled_nodes.slots.empty_slots.Goals as goal

pub loop-init : goal.loop-init
loop-init g c = none_empty c.new-slots.result c.new-slots.ensures

pub loop-preserved : goal.loop-preserved
loop-preserved g c = more_empty c.loop.slots c.push.new.self c.loop.counter c.loop.invariant c.in_ok-push.ensures.items

pub returns : goal.returns
returns g c = all_empty c.loop.slots c.loop.counter c.args.count c.loop.invariant c.loop-test.false
    c.loop.auto.counter-end
