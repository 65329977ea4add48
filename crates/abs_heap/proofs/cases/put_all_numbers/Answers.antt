use Rattle.jvm_values.specs.TypedHeaps.{world_types}
use Rattle.abs_heap.proofs.Listing.{none_there_at, adds_none, adds_next_at, adds_all}
use Rattle.abs_heap.proofs.cases.put_all_numbers.Goals as goal

pub put_numbers-requires-clause-room : goal.put_numbers-requires-clause-room
put_numbers-requires-clause-room g c = none_there_at _ _ _ c.args.kinds.now c.loop-kind.kind-index _ c.loop-kind-test.true c.requires.room

pub loop-kind-init : goal.loop-kind-init
loop-kind-init g c = adds_none (world_types (g.T.Types.sub c.args.types.now) (g.T.Types.erase c.args.types.now)
    (g.T.Types.classes c.args.types.now) (g.T.Types.fields c.args.types.now) (g.T.Types.can_be_made c.args.types.now))
    c.args.state.now c.args.x c.args.shape c.args.children.now

pub loop-kind-preserved : goal.loop-kind-preserved
loop-kind-preserved g c = adds_next_at (world_types (g.T.Types.sub c.args.types.now) (g.T.Types.erase c.args.types.now)
    (g.T.Types.classes c.args.types.now) (g.T.Types.fields c.args.types.now) (g.T.Types.can_be_made c.args.types.now))
    c.args.state.now c.args.x c.args.shape _ _ c.args.kinds.now c.loop-kind.kind-index _ c.args.children.now c.loop-kind.children
    c.put_numbers.new.children c.loop-kind-test.true c.loop-kind.invariant c.in_ok-put_numbers.ensures

pub returns : goal.returns
returns g c = adds_all (world_types (g.T.Types.sub c.args.types.now) (g.T.Types.erase c.args.types.now)
    (g.T.Types.classes c.args.types.now) (g.T.Types.fields c.args.types.now) (g.T.Types.can_be_made c.args.types.now))
    c.args.state.now c.args.x c.args.shape _ _ c.args.kinds.now c.loop-kind.kind-index c.args.children.now c.loop-kind.children
    c.loop-kind-test.false c.loop-kind.invariant
