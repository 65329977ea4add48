use Rattle.jvm_values.specs.TypedHeaps.{world_types}
use Rattle.abs_cells.specs.declared.cells.Cell.TheVariants.{Nums}
use Rattle.abs_heap.specs.Refining.{numbers}
use Rattle.abs_heap.proofs.Listing.{numbers_yes, numbers_no, numbers_room, array_is, adds_this, adds_nothing}
use Rattle.abs_heap.proofs.cases.put_numbers.Goals as goal

pub numbers_child-requires-clause-room : goal.numbers_child-requires-clause-room
numbers_child-requires-clause-room g c = numbers_room
    (world_types (g.T.Types.sub c.args.types.now) (g.T.Types.erase c.args.types.now) (g.T.Types.classes c.args.types.now)
    (g.T.Types.fields c.args.types.now) (g.T.Types.can_be_made c.args.types.now)) c.args.state.now c.args.bound c.args.kind _
    c.is_numbers_below.ensures c.if-is_numbers_below.true c.requires.room

pub returns-in_ok-push : goal.returns-in_ok-push
returns-in_ok-push g c = adds_this (world_types (g.T.Types.sub c.args.types.now) (g.T.Types.erase c.args.types.now)
    (g.T.Types.classes c.args.types.now) (g.T.Types.fields c.args.types.now) (g.T.Types.can_be_made c.args.types.now))
    c.args.state.now c.args.x c.args.shape _ (numbers c.args.kind) _ c.args.children.now c.push.new.self
    (numbers_yes (world_types (g.T.Types.sub c.args.types.now) (g.T.Types.erase c.args.types.now)
    (g.T.Types.classes c.args.types.now) (g.T.Types.fields c.args.types.now) (g.T.Types.can_be_made c.args.types.now))
    c.args.state.now c.args.bound c.args.kind _ c.is_numbers_below.ensures c.if-is_numbers_below.true)
    (array_is (world_types (g.T.Types.sub c.args.types.now) (g.T.Types.erase c.args.types.now) (g.T.Types.classes c.args.types.now)
    (g.T.Types.fields c.args.types.now) (g.T.Types.can_be_made c.args.types.now)) c.args.state.now c.args.x c.args.shape
    (numbers c.args.kind) (λ len. Nums c.args.kind len) _ (λ after h. h) c.in_ok-numbers_child.ensures) c.in_ok-push.ensures.items

pub returns-else-is_numbers_below : goal.returns-else-is_numbers_below
returns-else-is_numbers_below g c = adds_nothing (world_types (g.T.Types.sub c.args.types.now) (g.T.Types.erase c.args.types.now)
    (g.T.Types.classes c.args.types.now) (g.T.Types.fields c.args.types.now) (g.T.Types.can_be_made c.args.types.now))
    c.args.state.now c.args.x c.args.shape _ c.args.children.now
    (numbers_no (world_types (g.T.Types.sub c.args.types.now) (g.T.Types.erase c.args.types.now)
    (g.T.Types.classes c.args.types.now) (g.T.Types.fields c.args.types.now) (g.T.Types.can_be_made c.args.types.now))
    c.args.state.now c.args.bound c.args.kind _ c.is_numbers_below.ensures c.if-is_numbers_below.false)
