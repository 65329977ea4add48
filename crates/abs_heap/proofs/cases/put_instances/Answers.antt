use Rattle.std.proofs.Common.{arith}
use Rattle.jvm_values.specs.TypedHeaps.{world_types}
use Rattle.abs_heap.proofs.Listing.{none_there, number_at, below_length, past_length, adds_none, adds_next, adds_all}
use Rattle.abs_heap.proofs.cases.put_instances.Goals as goal

pub put_instance-requires-clause-room : goal.put_instance-requires-clause-room
put_instance-requires-clause-room g c = none_there _ _ _ _ c.loop-class.class c.loop-class.class
    (below_length (g.T.Types.classes c.args.types.now) c.loop-class.class _ c.classes.ensures c.loop-class-test.true)
    (number_at (g.T.Types.classes c.args.types.now) c.loop-class.class (omega (arith, c.loop-class-test.true, c.classes.ensures)))
    c.requires.room

pub loop-class-init : goal.loop-class-init
loop-class-init g c = adds_none (world_types (g.T.Types.sub c.args.types.now) (g.T.Types.erase c.args.types.now)
    (g.T.Types.classes c.args.types.now) (g.T.Types.fields c.args.types.now) (g.T.Types.can_be_made c.args.types.now))
    c.args.state.now c.args.x c.args.shape c.args.children.now

pub loop-class-preserved : goal.loop-class-preserved
loop-class-preserved g c = adds_next (world_types (g.T.Types.sub c.args.types.now) (g.T.Types.erase c.args.types.now)
    (g.T.Types.classes c.args.types.now) (g.T.Types.fields c.args.types.now) (g.T.Types.can_be_made c.args.types.now))
    c.args.state.now c.args.x c.args.shape _ _ _ c.loop-class.class c.loop-class.class c.args.children.now c.loop-class.children
    c.put_instance.new.children (below_length (g.T.Types.classes c.args.types.now) c.loop-class.class _ c.classes.ensures
    c.loop-class-test.true)
    (number_at (g.T.Types.classes c.args.types.now) c.loop-class.class (omega (arith, c.loop-class-test.true, c.classes.ensures)))
    c.loop-class.invariant c.in_ok-put_instance.ensures

pub returns : goal.returns
returns g c = adds_all (world_types (g.T.Types.sub c.args.types.now) (g.T.Types.erase c.args.types.now)
    (g.T.Types.classes c.args.types.now) (g.T.Types.fields c.args.types.now) (g.T.Types.can_be_made c.args.types.now))
    c.args.state.now c.args.x c.args.shape _ _ _ c.loop-class.class c.args.children.now c.loop-class.children
    (past_length (g.T.Types.classes c.args.types.now) c.loop-class.class _ c.classes.ensures c.loop-class-test.false)
    c.loop-class.invariant
