use Rattle.std.proofs.Common.{◌∙◌, Some, ap}
use Rattle.filled_graphs.proofs.Knowing.{not_lacking}
use Rattle.filled_graphs.proofs.Putting.{slot_in, full_in, given_in}
use Rattle.filled_graphs.proofs.filled_nodes.holding.put_given.Goals as goal

pub put_state-requires : goal.put_state-requires
put_state-requires g c = slot_in (g.E.Expands.rules c.args.ground.now.expander)
    (g.S.PartSource.parts c.args.ground.now.parts.now) c.args.ground.now.filling.0 c.args.slots.now c.requires.kept c.args.number
    c.requires.there

pub returns-clause-full : goal.returns-clause-full
returns-clause-full g c = full_in (g.E.Expands.rules c.args.ground.now.expander)
    (g.S.PartSource.parts c.args.ground.now.parts.now) c.args.ground.now.filling.0 c.args.slots.now c.requires.kept c.args.number
    c.in-Some.state c.put_state.new.slots c.requires.there c.put_state.ensures

pub returns-clause-kept : goal.returns-clause-kept
returns-clause-kept g c = given_in (g.E.Expands.rules c.args.ground.now.expander)
    (g.S.PartSource.parts c.args.ground.now.parts.now) c.args.ground.now.filling.0 c.args.slots.now c.requires.kept c.args.number
    c.in-Some.state c.put_state.new.slots (c.in_ok-given.ensures ∙ ap Some c.in-Some.is) c.put_state.ensures

pub unreachable-requires : goal.unreachable-requires
unreachable-requires g c = absurd (not_lacking (g.S.PartSource.parts c.args.ground.now.parts.now) c.args.ground.now.origins
    c.args.ground.now.sources c.args.number (c.in_ok-given.ensures ∙ ap Some c.in-None.is) c.requires.given)
