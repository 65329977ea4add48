use Rattle.filled_graphs.proofs.Knowing.{named_within}
use Rattle.filled_graphs.proofs.Putting.{slot_in, full_in, child_in}
use Rattle.filled_graphs.proofs.SlotStates.{full_kept}
use Rattle.filled_graphs.proofs.filled_nodes.holding.put_child.Goals as goal

pub put_state-requires : goal.put_state-requires
put_state-requires g c = slot_in (g.E.Expands.rules c.args.ground.now.expander) (g.S.PartSource.parts c.args.ground.now.parts.now)
    c.args.ground.now.filling.0 c.args.slots.now c.requires.kept c.args.number
    (named_within (g.S.PartSource.parts c.args.ground.now.parts.now) c.args.ground.now.origins c.args.ground.now.sources c.args.namer
    c.args.place c.args.number c.requires.named)

pub returns-clause-full : goal.returns-clause-full
returns-clause-full g c = full_in (g.E.Expands.rules c.args.ground.now.expander) (g.S.PartSource.parts c.args.ground.now.parts.now)
    c.args.ground.now.filling.0 c.args.slots.now c.requires.kept c.args.number c.in_ok-state.state c.put_state.new.slots
    (named_within (g.S.PartSource.parts c.args.ground.now.parts.now) c.args.ground.now.origins c.args.ground.now.sources c.args.namer
    c.args.place c.args.number c.requires.named) c.put_state.ensures

pub returns-clause-keeps : goal.returns-clause-keeps
returns-clause-keeps g c = λ n full. full_kept c.args.slots.now c.put_state.new.slots c.args.number n c.in_ok-state.state
    c.put_state.ensures full

pub returns-clause-kept : goal.returns-clause-kept
returns-clause-kept g c = child_in (g.E.Expands.rules c.args.ground.now.expander) (g.S.PartSource.parts c.args.ground.now.parts.now)
    c.args.ground.now.known c.args.ground.now.filling.0 c.args.ground.now.origins c.args.ground.now.filling.1 c.args.ground.now.sources
    c.args.slots.now c.requires.kept c.args.namer c.args.place c.args.number c.args.children.now c.in_ok-state.state
    c.put_state.new.slots c.requires.known c.requires.children c.requires.named c.in_ok-state.ensures c.put_state.ensures
