use Rattle.filled_graphs.proofs.Putting.{slot_in, looked_at, full_after, known_part}
use Rattle.filled_graphs.proofs.filled_nodes.holding.expand_namer.Goals as goal

pub look_at-requires : goal.look_at-requires
look_at-requires g c = slot_in (g.E.Expands.rules c.args.ground.now.expander)
    (g.S.PartSource.parts c.args.ground.now.parts.now) c.args.ground.now.filling.0 c.put_named.new.slots
    c.in_ok-put_named.ensures.kept c.args.namer (known_part c.args.ground.now.known _ c.args.namer c.requires.known c.args.ground.now.few)

pub returns-clause-full : goal.returns-clause-full
returns-clause-full g c = full_after (g.S.PartSource.parts c.args.ground.now.parts.now) c.args.ground.now.origins
    c.args.ground.now.sources c.put_named.new.slots c.look_at.new.slots c.args.namer c.look_at.ensures c.in_ok-put_named.ensures.full

pub returns-clause-kept : goal.returns-clause-kept
returns-clause-kept g c = looked_at (g.E.Expands.rules c.args.ground.now.expander)
    (g.S.PartSource.parts c.args.ground.now.parts.now) c.args.ground.now.filling.0 c.put_named.new.slots
    c.in_ok-put_named.ensures.kept c.args.namer c.look_at.new.slots c.look_at.ensures
