use Rattle.abs_reach.specs.inner.Steps.{steps_in}
use Rattle.abs_reach.proofs.Room.{has_cell_low}
use Rattle.abs_reach.proofs.Beginning.{begun_none, reached_one}
use Rattle.abs_reach.proofs.walk.walk.Goals as goal

pub begin_at-requires-clause-low : goal.begin_at-requires-clause-low
begin_at-requires-clause-low c = has_cell_low c.args.cells.now c.args.start c.requires.rising c.requires.start

pub begin_at-requires-clause-begun : goal.begin_at-requires-clause-begun
begin_at-requires-clause-begun c = begun_none c.args.cells.now c.nothing_found-found.result c.clear.new.self.0 c.clear.ensures.items
    c.nothing_found-found.ensures.met c.nothing_found-found.ensures.left c.nothing_found-found.ensures.cyclic
    c.nothing_found-found.ensures.twice

pub returns-clause-met : goal.returns-clause-met
returns-clause-met c id =
    let one = reached_one (steps_in c.args.names c.args.cells.now) c.nothing_found-found.result.met c.begin_at.new.found.met
    c.args.start id c.nothing_found-found.ensures.met c.begin_at.ensures.met in
    (λ h. one.0 ((c.run.ensures.met id).0 h), λ r. (c.run.ensures.met id).1 (one.1 r))
