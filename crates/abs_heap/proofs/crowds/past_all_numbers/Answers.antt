use Rattle.std.proofs.Common.{◌+◌, sym, ◌∙◌, arith}
use Rattle.jvm_values.specs.Subtyping.{array_of_numbers}
use Rattle.jvm_values.specs.TypedHeaps.{world_types}
use Rattle.abs_heap.specs.Refining.{numbers}
use Rattle.abs_heap.specs.inner.Splitting.{crowds}
use Rattle.abs_heap.proofs.FirstCrowds.{crowd_more_at, crowd_found, crowd_all, crowd_low, passed_on}
use Rattle.abs_heap.proofs.crowds.past_all_numbers.Goals as goal

pub past_numbers-requires : goal.past_numbers-requires
past_numbers-requires g c = let low = crowd_low numbers
    (λ kind. g.T.Types.sub c.args.types.now (array_of_numbers kind) c.args.bound)
    (crowds (world_types (g.T.Types.sub c.args.types.now) (g.T.Types.erase c.args.types.now) (g.T.Types.classes c.args.types.now)
    (g.T.Types.fields c.args.types.now) (g.T.Types.can_be_made c.args.types.now)) c.args.state.now) c.args.kinds.now
    c.loop-kind.kind-index c.args.passed c.loop-kind.all c.loop-kind.invariant in omega (arith, low, c.loop-kind-test.true, c.requires)

pub loop-kind-preserved : goal.loop-kind-preserved
loop-kind-preserved g c = crowd_more_at numbers (λ kind. g.T.Types.sub c.args.types.now (array_of_numbers kind) c.args.bound)
    (crowds (world_types (g.T.Types.sub c.args.types.now) (g.T.Types.erase c.args.types.now) (g.T.Types.classes c.args.types.now)
    (g.T.Types.fields c.args.types.now) (g.T.Types.can_be_made c.args.types.now)) c.args.state.now) c.args.kinds.now
    c.loop-kind.kind-index _ c.args.passed c.loop-kind.all _ c.loop-kind-test.true c.loop-kind.invariant
    (sym c.in_ok-all.was ∙ c.past_numbers.ensures)

pub returns-in_err-all-clause-is : goal.returns-in_err-all-clause-is
returns-in_err-all-clause-is g c =
    passed_on _ _ _ c.from_residual.ensures.1
    (crowd_found numbers (λ kind. g.T.Types.sub c.args.types.now (array_of_numbers kind) c.args.bound)
    (crowds (world_types (g.T.Types.sub c.args.types.now) (g.T.Types.erase c.args.types.now)
    (g.T.Types.classes c.args.types.now) (g.T.Types.fields c.args.types.now) (g.T.Types.can_be_made c.args.types.now))
    c.args.state.now) c.args.kinds.now (c.loop-kind.kind-index + 1) c.args.passed _
    (crowd_more_at numbers (λ kind. g.T.Types.sub c.args.types.now (array_of_numbers kind) c.args.bound)
    (crowds (world_types (g.T.Types.sub c.args.types.now) (g.T.Types.erase c.args.types.now)
    (g.T.Types.classes c.args.types.now) (g.T.Types.fields c.args.types.now) (g.T.Types.can_be_made c.args.types.now))
    c.args.state.now) c.args.kinds.now c.loop-kind.kind-index _ c.args.passed c.loop-kind.all _ c.loop-kind-test.true
    c.loop-kind.invariant (sym c.in_err-all.was ∙ c.past_numbers.ensures)))

pub returns-clause-is : goal.returns-clause-is
returns-clause-is g c = sym (crowd_all numbers (λ kind. g.T.Types.sub c.args.types.now (array_of_numbers kind) c.args.bound)
    (crowds (world_types (g.T.Types.sub c.args.types.now) (g.T.Types.erase c.args.types.now) (g.T.Types.classes c.args.types.now)
    (g.T.Types.fields c.args.types.now) (g.T.Types.can_be_made c.args.types.now)) c.args.state.now) c.args.kinds.now
    c.loop-kind.kind-index c.args.passed _ c.loop-kind-test.false c.loop-kind.invariant)

pub returns-clause-low : goal.returns-clause-low
returns-clause-low g c = let low = crowd_low numbers (λ kind. g.T.Types.sub c.args.types.now (array_of_numbers kind) c.args.bound)
    (crowds (world_types (g.T.Types.sub c.args.types.now) (g.T.Types.erase c.args.types.now) (g.T.Types.classes c.args.types.now)
    (g.T.Types.fields c.args.types.now) (g.T.Types.can_be_made c.args.types.now)) c.args.state.now) c.args.kinds.now
    c.loop-kind.kind-index c.args.passed c.loop-kind.all c.loop-kind.invariant in omega (arith, low, c.loop-kind-test.false)
