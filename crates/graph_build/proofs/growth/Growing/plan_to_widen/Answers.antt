use Rattle.std.proofs.Common.{inr}
use Rattle.graph_build.proofs.Adding.{no_room}
use Rattle.graph_build.proofs.Nodes.{node_is}
use Rattle.graph_build.proofs.growth.Growing.plan_to_widen.Goals as goal

pub returns-then-not-has_room-clause-plan : goal.returns-then-not-has_room-clause-plan
returns-then-not-has_room-clause-plan g c = inr (
  record {
    u = c.args.u;
    due = c.requires.due;
    above = c.state.result.now;
    is_above = record {
      by = c.at.result.now.by;
      is = node_is c.args.self.now.graph c.args.u c.at.result.now c.state.result.now
          c.at.ensures c.state.ensures;
    };
    is = (c.in-Ok.wide, c.in-Ok.ensures.wide.widened);
  },
  no_room c.has_room.result _ c.args.limit c.has_room.ensures c.if-not-has_room.true,
)
