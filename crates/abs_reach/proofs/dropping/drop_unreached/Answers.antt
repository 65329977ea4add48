use Rattle.std.proofs.Common.{sym, subst}
use Rattle.abs_cells.specs.AbstractStates.{AbstractState}
use Rattle.abs_cells.specs.Sound.{IsWellFormed}
use Rattle.abs_reach.specs.Reached.{IsDropped, IsRestricted}
use Rattle.abs_reach.proofs.Dropped.{dropped, well}
use Rattle.abs_reach.proofs.Restricting.{dropped_restricted}
use Rattle.abs_reach.proofs.dropping.drop_unreached.Goals as goal

pub returns-clause-dropped : goal.returns-clause-dropped
returns-clause-dropped g c = subst (λ (s : AbstractState). IsDropped c.args.state s) (sym c.kept.ensures)
    (dropped c.args.state c.requires c.positions-starts.result c.walk_names-reached.result.met c.positions-starts.ensures
    c.walk_names-reached.ensures)

pub returns-clause-restricted : goal.returns-clause-restricted
returns-clause-restricted g c = subst (λ (s : AbstractState). IsRestricted c.args.state s) (sym c.kept.ensures)
    (dropped_restricted c.args.state _ (dropped c.args.state c.requires c.positions-starts.result c.walk_names-reached.result.met
    c.positions-starts.ensures c.walk_names-reached.ensures))

pub returns-clause-good : goal.returns-clause-good
returns-clause-good g c = subst (λ (s : AbstractState). IsWellFormed s) (sym c.kept.ensures)
    (well c.args.state c.requires c.positions-starts.result c.walk_names-reached.result.met c.positions-starts.ensures
    c.walk_names-reached.ensures)
