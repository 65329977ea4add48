use Rattle.std.proofs.Common.{◌≡◌, take, Ok}
use Rattle.jvm_values.specs.TypedHeaps.{world_types}
use Rattle.abs_heap.specs.inner.Splitting.{numbers_among, crowds, first_crowd}
use Rattle.abs_heap.proofs.crowds.past_all_numbers.Given as goal

abbrev pub invariant-loop-kind : goal.invariant-loop-kind
invariant-loop-kind g l = first_crowd
    (crowds (world_types (g.T.Types.sub l.types) (g.T.Types.erase l.types) (g.T.Types.classes l.types) (g.T.Types.fields l.types)
    (g.T.Types.can_be_made l.types)) l.state)
    (numbers_among (world_types (g.T.Types.sub l.types) (g.T.Types.erase l.types) (g.T.Types.classes l.types)
    (g.T.Types.fields l.types) (g.T.Types.can_be_made l.types)) l.bound (take l.kind-index l.kinds)) l.passed ≡ Ok l.all
