use Rattle.std.proofs.Common.{◌-◌, take}
use Rattle.jvm_values.specs.TypedHeaps.{world_types}
use Rattle.list_views.specs.Lists.{numbers_from}
use Rattle.abs_heap.specs.inner.Splitting.{instances_among, AddsCases}
use Rattle.abs_heap.proofs.cases.put_instances.Given as goal

abbrev pub invariant-loop-class : goal.invariant-loop-class
invariant-loop-class g l = AddsCases (world_types (g.T.Types.sub l.types) (g.T.Types.erase l.types) (g.T.Types.classes l.types)
    (g.T.Types.fields l.types) (g.T.Types.can_be_made l.types)) l.state l.x l.shape
    (instances_among (world_types (g.T.Types.sub l.types) (g.T.Types.erase l.types) (g.T.Types.classes l.types)
    (g.T.Types.fields l.types) (g.T.Types.can_be_made l.types)) l.bound
    (take l.class (numbers_from 0 (g.T.Types.classes l.types)))) l.initial.children l.children

abbrev pub decreases-loop-class : goal.decreases-loop-class
decreases-loop-class g l = g.T.Types.classes l.types - l.class
