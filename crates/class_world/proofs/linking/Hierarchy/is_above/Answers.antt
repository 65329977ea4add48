use Rattle.std.proofs.Common.{arith, get_or}
use Rattle.class_world.proofs.Rules.{table_length, above_length, above_mark, get_or_twice}
use Rattle.class_world.proofs.linking.Hierarchy.is_above.Goals as goal

pub bounds-self-a : goal.bounds-self-a
bounds-self-a c = omega (
  arith,
  c.requires.a,
  table_length c.args.self.now.roster.now.classes c.args.self.now.above.now
      c.args.self.now.marked,
)

pub at-requires : goal.at-requires
at-requires c = omega (
  arith,
  c.requires.b,
  above_length c.args.self.now.roster.now.classes c.args.self.now.above.now c.args.a
      c.index-self-a.result c.args.self.now.marked c.requires.a,
)

pub returns : goal.returns
returns c = above_mark c.args.self.now.roster.now.classes c.args.self.now.above.now
    (get_or c.args.self.now.above.now c.args.a c.index-self-a.result) c.args.a c.args.b _ c.args.self.now.marked c.requires.a
    c.requires.b (get_or_twice c.args.self.now.above.now c.args.a c.index-self-a.result) c.at.ensures
