use Rattle.std.proofs.Common.{◌≡◌, ◌-◌, take, Ok}
use Rattle.jvm_values.specs.TypedHeaps.{world_types}
use Rattle.list_views.specs.Lists.{numbers_from}
use Rattle.abs_heap.specs.inner.Splitting.{instances_among, crowds, first_crowd}
use Rattle.abs_heap.proofs.crowds.past_instances.Given as goal

abbrev pub invariant-loop-class : goal.invariant-loop-class
invariant-loop-class g l = first_crowd
    (crowds (world_types (g.T.Types.sub l.types) (g.T.Types.erase l.types) (g.T.Types.classes l.types) (g.T.Types.fields l.types)
    (g.T.Types.can_be_made l.types)) l.state)
    (instances_among (world_types (g.T.Types.sub l.types) (g.T.Types.erase l.types) (g.T.Types.classes l.types)
    (g.T.Types.fields l.types) (g.T.Types.can_be_made l.types)) l.bound
    (take l.class (numbers_from 0 (g.T.Types.classes l.types)))) 0 ≡ Ok l.passed

abbrev pub decreases-loop-class : goal.decreases-loop-class
decreases-loop-class g l = g.T.Types.classes l.types - l.class
