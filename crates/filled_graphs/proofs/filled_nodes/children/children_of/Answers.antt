use Rattle.filled_graphs.proofs.Knowing.{children_there}
use Rattle.filled_graphs.proofs.filled_nodes.children.children_of.Goals as goal

pub returns : goal.returns
returns g c = children_there (g.E.Expands.rules c.args.ground.now.expander) (g.S.PartSource.parts c.args.ground.now.parts.now)
    c.args.ground.now.known c.args.ground.now.filling.0 c.args.ground.now.filling.1 c.args.slots.now c.args.namer
    c.state_in-state.result.now c.in_ok-children.children c.requires.known c.requires.kept c.state_in-state.ensures
    c.in_ok-children.ensures
