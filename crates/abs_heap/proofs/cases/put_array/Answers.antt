use Rattle.std.proofs.Common.{length}
use Rattle.jvm_values.specs.TypedHeaps.{world_types}
use Rattle.abs_cells.specs.declared.cells.Cell.TheVariants.{Refs}
use Rattle.abs_heap.specs.Refining.{references, element_below}
use Rattle.abs_heap.specs.inner.Splitting.{crowds}
use Rattle.abs_heap.proofs.Listing.{has_room_for, listed_room, listed_is, listed_none, array_is, adds_this, adds_nothing}
use Rattle.abs_heap.proofs.cases.put_array.Goals as goal

pub references_child-requires-clause-room : goal.references_child-requires-clause-room
references_child-requires-clause-room g c = has_room_for (length c.args.state.now.cells) 1
    (listed_room (crowds (world_types (g.T.Types.sub c.args.types.now) (g.T.Types.erase c.args.types.now)
    (g.T.Types.classes c.args.types.now) (g.T.Types.fields c.args.types.now) (g.T.Types.can_be_made c.args.types.now))
    c.args.state.now) (element_below (world_types (g.T.Types.sub c.args.types.now) (g.T.Types.erase c.args.types.now)
    (g.T.Types.classes c.args.types.now) (g.T.Types.fields c.args.types.now) (g.T.Types.can_be_made c.args.types.now))
    c.args.bound) c.element_below.result c.in-Some.element c.element_below.ensures c.in-Some.is c.requires.room)

pub returns-in_ok-push : goal.returns-in_ok-push
returns-in_ok-push g c = adds_this (world_types (g.T.Types.sub c.args.types.now) (g.T.Types.erase c.args.types.now)
    (g.T.Types.classes c.args.types.now) (g.T.Types.fields c.args.types.now) (g.T.Types.can_be_made c.args.types.now))
    c.args.state.now c.args.x c.args.shape _ (references c.in-Some.element) _ c.args.children.now c.push.new.self
    (listed_is (element_below (world_types (g.T.Types.sub c.args.types.now) (g.T.Types.erase c.args.types.now)
    (g.T.Types.classes c.args.types.now) (g.T.Types.fields c.args.types.now) (g.T.Types.can_be_made c.args.types.now))
    c.args.bound) c.element_below.result c.in-Some.element c.element_below.ensures c.in-Some.is)
    (array_is (world_types (g.T.Types.sub c.args.types.now) (g.T.Types.erase c.args.types.now) (g.T.Types.classes c.args.types.now)
    (g.T.Types.fields c.args.types.now) (g.T.Types.can_be_made c.args.types.now)) c.args.state.now c.args.x c.args.shape
    (references c.in-Some.element) (λ len. Refs c.in-Some.element len c.args.shape) _ (λ after h. h)
    c.in_ok-references_child.ensures) c.in_ok-push.ensures.items

pub returns-in_default : goal.returns-in_default
returns-in_default g c = adds_nothing (world_types (g.T.Types.sub c.args.types.now) (g.T.Types.erase c.args.types.now)
    (g.T.Types.classes c.args.types.now) (g.T.Types.fields c.args.types.now) (g.T.Types.can_be_made c.args.types.now))
    c.args.state.now c.args.x c.args.shape _ c.args.children.now
    (listed_none (element_below (world_types (g.T.Types.sub c.args.types.now) (g.T.Types.erase c.args.types.now)
    (g.T.Types.classes c.args.types.now) (g.T.Types.fields c.args.types.now) (g.T.Types.can_be_made c.args.types.now))
    c.args.bound) c.element_below.result c.element_below.ensures c.in_default.is)
