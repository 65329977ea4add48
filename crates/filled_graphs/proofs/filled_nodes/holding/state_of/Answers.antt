use Rattle.std.proofs.Common.{arith}
use Rattle.filled_graphs.proofs.Knowing.{outside, state_given}
use Rattle.filled_graphs.proofs.Putting.{looked_at, known_there}
use Rattle.filled_graphs.proofs.filled_nodes.holding.state_of.Goals as goal

pub hold-requires-clause-there : goal.hold-requires-clause-there
hold-requires-clause-there g c = known_there (g.E.Expands.rules c.args.ground.now.expander)
    (g.S.PartSource.parts c.args.ground.now.parts.now) c.args.ground.now.known c.args.ground.now.filling.0 c.args.ground.now.filling.1
    c.args.ground.now.few c.args.n c.requires.there

pub hold-requires-clause-known : goal.hold-requires-clause-known
hold-requires-clause-known g c = omega (
  arith,
  outside (g.E.Expands.rules c.args.ground.now.expander)
      (g.S.PartSource.parts c.args.ground.now.parts.now) c.args.ground.now.known c.args.ground.now.filling.0 c.args.ground.now.filling.1
      c.args.n c.requires.there,
)

pub returns-clause-state : goal.returns-clause-state
returns-clause-state g c = state_given (g.E.Expands.rules c.args.ground.now.expander)
    (g.S.PartSource.parts c.args.ground.now.parts.now) c.args.ground.now.known c.args.ground.now.filling.0 c.args.ground.now.filling.1
    c.hold.new.slots c.in_ok-hold.ensures.kept c.args.n c.in_ok-state.state c.requires.there c.in_ok-state.ensures.state

pub returns-clause-kept : goal.returns-clause-kept
returns-clause-kept g c = looked_at (g.E.Expands.rules c.args.ground.now.expander)
    (g.S.PartSource.parts c.args.ground.now.parts.now) c.args.ground.now.filling.0 c.hold.new.slots c.in_ok-hold.ensures.kept
    c.args.n c.take_look.new.slots c.in_ok-state.ensures.drop

pub returns-in_err-state-clause-kept : goal.returns-in_err-state-clause-kept
returns-in_err-state-clause-kept g c = looked_at (g.E.Expands.rules c.args.ground.now.expander)
    (g.S.PartSource.parts c.args.ground.now.parts.now) c.args.ground.now.filling.0 c.hold.new.slots c.in_ok-hold.ensures.kept
    c.args.n c.take_look.new.slots c.in_err-state.ensures.drop
