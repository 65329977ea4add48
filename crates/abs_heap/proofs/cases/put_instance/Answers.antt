use Rattle.jvm_values.specs.TypedHeaps.{world_types}
use Rattle.abs_heap.specs.Refining.{instance}
use Rattle.abs_heap.proofs.Listing.{instance_yes, instance_no, instance_room, adds_this, adds_nothing}
use Rattle.abs_heap.proofs.cases.put_instance.Goals as goal

pub instance_child-requires-clause-room : goal.instance_child-requires-clause-room
instance_child-requires-clause-room g c = instance_room
    (world_types (g.T.Types.sub c.args.types.now) (g.T.Types.erase c.args.types.now) (g.T.Types.classes c.args.types.now)
    (g.T.Types.fields c.args.types.now) (g.T.Types.can_be_made c.args.types.now)) c.args.state.now c.args.bound c.args.class _
    c.is_instance_below.ensures c.if-is_instance_below.true c.requires.room

pub returns-in_ok-push : goal.returns-in_ok-push
returns-in_ok-push g c = adds_this (world_types (g.T.Types.sub c.args.types.now) (g.T.Types.erase c.args.types.now)
    (g.T.Types.classes c.args.types.now) (g.T.Types.fields c.args.types.now) (g.T.Types.can_be_made c.args.types.now))
    c.args.state.now c.args.x c.args.shape _ (instance c.args.class) _ c.args.children.now c.push.new.self
    (instance_yes (world_types (g.T.Types.sub c.args.types.now) (g.T.Types.erase c.args.types.now)
    (g.T.Types.classes c.args.types.now) (g.T.Types.fields c.args.types.now) (g.T.Types.can_be_made c.args.types.now))
    c.args.state.now c.args.bound c.args.class _ c.is_instance_below.ensures c.if-is_instance_below.true)
    c.in_ok-instance_child.ensures c.in_ok-push.ensures.items

pub returns-else-is_instance_below : goal.returns-else-is_instance_below
returns-else-is_instance_below g c = adds_nothing (world_types (g.T.Types.sub c.args.types.now) (g.T.Types.erase c.args.types.now)
    (g.T.Types.classes c.args.types.now) (g.T.Types.fields c.args.types.now) (g.T.Types.can_be_made c.args.types.now))
    c.args.state.now c.args.x c.args.shape _ c.args.children.now
    (instance_no (world_types (g.T.Types.sub c.args.types.now) (g.T.Types.erase c.args.types.now)
    (g.T.Types.classes c.args.types.now) (g.T.Types.fields c.args.types.now) (g.T.Types.can_be_made c.args.types.now))
    c.args.state.now c.args.bound c.args.class _ c.is_instance_below.ensures c.if-is_instance_below.false)
