use Rattle.abs_reach.proofs.Beginning.{begun_more}
use Rattle.abs_reach.proofs.walk.begin_at.Goals as goal

pub returns-clause-begun : goal.returns-clause-begun
returns-clause-begun c = begun_more c.args.cells.now c.args.found.now c.put.new.self c.args.trail.now.0 c.put_on.new.trail.0
    c.args.id c.requires.fresh c.requires.there c.requires.begun c.put.ensures c.put_on.ensures.items
