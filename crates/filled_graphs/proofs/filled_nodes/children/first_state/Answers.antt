use Rattle.std.proofs.Common.{◌∙◌, Some, ap}
use Rattle.filled_graphs.proofs.Knowing.{part_there, first_given}
use Rattle.filled_graphs.proofs.filled_nodes.children.first_state.Goals as goal

pub returns : goal.returns
returns g c = part_there (g.S.PartSource.parts c.args.ground.now.parts.now) 0 (Some c.in-Some.state)
    (c.in_ok-given.ensures ∙ ap Some c.in-Some.is)

pub unreachable-requires : goal.unreachable-requires
unreachable-requires g c = absurd (first_given (g.S.PartSource.parts c.args.ground.now.parts.now) c.args.ground.now.origins
    c.args.ground.now.sources (c.in_ok-given.ensures ∙ ap Some c.in-None.is))
