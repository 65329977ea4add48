use Rattle.abs_heap.proofs.Freshness.{only_one}
use Rattle.abs_heap.proofs.fresh.fresh_id.Goals as goal

pub returns-clause-fresh : goal.returns-clause-fresh
returns-clause-fresh g c = only_one c.args.state.now c.in_ok-ids.ids c.at.result.now c.in_ok-ids.ensures.fresh
    c.in_ok-ids.ensures.count c.at.ensures
