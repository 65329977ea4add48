use Rattle.abs_reach.proofs.Beginning.{reached_inside}
use Rattle.abs_reach.proofs.walk.walk_all.Goals as goal

pub returns-clause-met : goal.returns-clause-met
returns-clause-met c id =
    let inside = reached_inside c.args.names c.args.cells.now c.args.starts.now c.begin_at_all-found.result.met id
    c.begin_at_all-found.ensures.met in
    (λ h. inside.0 ((c.run.ensures.met id).0 h), λ r. (c.run.ensures.met id).1 (inside.1 r))
