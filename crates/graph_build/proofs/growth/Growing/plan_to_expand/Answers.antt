use Rattle.std.proofs.Common.{inl, ◌+◌, length, arith}
use Rattle.graph_build.proofs.Adding.{no_room}
use Rattle.graph_build.proofs.growth.Growing.plan_to_expand.Goals as goal

pub returns-else-has_room-clause-plan : goal.returns-else-has_room-clause-plan
returns-else-has_room-clause-plan g c = inl (
  c.requires.due,
  record {
    children = c.in-Ok-Children.children;
    are = (rw c.in-Ok-Children.field-0-is at c.in-Ok-Children.ensures.grown).0;
    many = omega (
      arith,
      c.len.ensures,
      no_room c.has_room.result (length c.args.self.now.graph + c.len.result) c.args.limit
          c.has_room.ensures c.if-has_room.false,
    );
  },
)
