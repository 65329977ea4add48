use Rattle.std.proofs.Common.{List, subst}
use Rattle.jvm_values.specs.TypedHeaps.{world_types}
use Rattle.term_graph.specs.Graphs.{GraphChild}
use Rattle.abs_heap.specs.Refining.{instances_below, numbers_below, element_below, listed, cases_below}
use Rattle.abs_heap.specs.inner.Splitting.{crowds, AddsCases}
use Rattle.abs_heap.proofs.Listing.{none_first, none_second, none_third, adds_both}
use Rattle.abs_heap.proofs.cases.case_children.Goals as goal

pub put_instances-requires-clause-room : goal.put_instances-requires-clause-room
put_instances-requires-clause-room g c = none_first
    (crowds (world_types (g.T.Types.sub c.args.types.now) (g.T.Types.erase c.args.types.now) (g.T.Types.classes c.args.types.now)
    (g.T.Types.fields c.args.types.now) (g.T.Types.can_be_made c.args.types.now)) c.args.state.now)
    (instances_below (world_types (g.T.Types.sub c.args.types.now) (g.T.Types.erase c.args.types.now)
    (g.T.Types.classes c.args.types.now) (g.T.Types.fields c.args.types.now) (g.T.Types.can_be_made c.args.types.now))
    c.args.bound) (numbers_below (world_types (g.T.Types.sub c.args.types.now) (g.T.Types.erase c.args.types.now)
    (g.T.Types.classes c.args.types.now) (g.T.Types.fields c.args.types.now) (g.T.Types.can_be_made c.args.types.now))
    c.args.bound) (listed
    (element_below (world_types (g.T.Types.sub c.args.types.now) (g.T.Types.erase c.args.types.now)
    (g.T.Types.classes c.args.types.now) (g.T.Types.fields c.args.types.now) (g.T.Types.can_be_made c.args.types.now))
    c.args.bound)) c.requires.room

pub put_all_numbers-requires-clause-room : goal.put_all_numbers-requires-clause-room
put_all_numbers-requires-clause-room g c = none_second
    (crowds (world_types (g.T.Types.sub c.args.types.now) (g.T.Types.erase c.args.types.now) (g.T.Types.classes c.args.types.now)
    (g.T.Types.fields c.args.types.now) (g.T.Types.can_be_made c.args.types.now)) c.args.state.now)
    (instances_below (world_types (g.T.Types.sub c.args.types.now) (g.T.Types.erase c.args.types.now)
    (g.T.Types.classes c.args.types.now) (g.T.Types.fields c.args.types.now) (g.T.Types.can_be_made c.args.types.now))
    c.args.bound) (numbers_below (world_types (g.T.Types.sub c.args.types.now) (g.T.Types.erase c.args.types.now)
    (g.T.Types.classes c.args.types.now) (g.T.Types.fields c.args.types.now) (g.T.Types.can_be_made c.args.types.now))
    c.args.bound) (listed
    (element_below (world_types (g.T.Types.sub c.args.types.now) (g.T.Types.erase c.args.types.now)
    (g.T.Types.classes c.args.types.now) (g.T.Types.fields c.args.types.now) (g.T.Types.can_be_made c.args.types.now))
    c.args.bound)) c.requires.room

pub put_array-requires-clause-room : goal.put_array-requires-clause-room
put_array-requires-clause-room g c = none_third
    (crowds (world_types (g.T.Types.sub c.args.types.now) (g.T.Types.erase c.args.types.now) (g.T.Types.classes c.args.types.now)
    (g.T.Types.fields c.args.types.now) (g.T.Types.can_be_made c.args.types.now)) c.args.state.now)
    (instances_below (world_types (g.T.Types.sub c.args.types.now) (g.T.Types.erase c.args.types.now)
    (g.T.Types.classes c.args.types.now) (g.T.Types.fields c.args.types.now) (g.T.Types.can_be_made c.args.types.now))
    c.args.bound) (numbers_below (world_types (g.T.Types.sub c.args.types.now) (g.T.Types.erase c.args.types.now)
    (g.T.Types.classes c.args.types.now) (g.T.Types.fields c.args.types.now) (g.T.Types.can_be_made c.args.types.now))
    c.args.bound) (listed
    (element_below (world_types (g.T.Types.sub c.args.types.now) (g.T.Types.erase c.args.types.now)
    (g.T.Types.classes c.args.types.now) (g.T.Types.fields c.args.types.now) (g.T.Types.can_be_made c.args.types.now))
    c.args.bound)) c.requires.room

pub returns : goal.returns
returns g c = subst (λ (cs : List GraphChild). AddsCases
    (world_types (g.T.Types.sub c.args.types.now) (g.T.Types.erase c.args.types.now) (g.T.Types.classes c.args.types.now)
    (g.T.Types.fields c.args.types.now) (g.T.Types.can_be_made c.args.types.now)) c.args.state.now c.args.x c.args.shape
    (cases_below (world_types (g.T.Types.sub c.args.types.now) (g.T.Types.erase c.args.types.now)
    (g.T.Types.classes c.args.types.now) (g.T.Types.fields c.args.types.now) (g.T.Types.can_be_made c.args.types.now))
    c.args.bound) cs c.put_array.new.children) c.new-children.ensures
    (adds_both (world_types (g.T.Types.sub c.args.types.now) (g.T.Types.erase c.args.types.now) (g.T.Types.classes c.args.types.now)
    (g.T.Types.fields c.args.types.now) (g.T.Types.can_be_made c.args.types.now)) c.args.state.now c.args.x c.args.shape _ _
    _ _ _ c.in_ok-put_instances.ensures
    (adds_both (world_types (g.T.Types.sub c.args.types.now) (g.T.Types.erase c.args.types.now)
    (g.T.Types.classes c.args.types.now) (g.T.Types.fields c.args.types.now) (g.T.Types.can_be_made c.args.types.now))
    c.args.state.now c.args.x c.args.shape _ _ _ _ _ c.in_ok-put_all_numbers.ensures c.in_ok-put_array.ensures))
