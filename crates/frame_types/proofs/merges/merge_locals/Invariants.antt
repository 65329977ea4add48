use Rattle.jvm_values.specs.TypedHeaps.{world_types}
use Rattle.frame_types.proofs.Merging.{AreMerging}
use Rattle.frame_types.proofs.merges.merge_locals.Given as goal

abbrev pub invariant-loop-i : goal.invariant-loop-i
invariant-loop-i g l = AreMerging (world_types (g.T.Types.sub l.types) (g.T.Types.erase l.types) (g.T.Types.classes l.types)
    (g.T.Types.fields l.types) (g.T.Types.can_be_made l.types)) l.i l.fn.locals l.more l.locals l.grew
