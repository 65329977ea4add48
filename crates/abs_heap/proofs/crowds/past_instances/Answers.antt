use Rattle.std.proofs.Common.{◌&&◌, ◌+◌, sym, ◌∙◌, arith}
use Rattle.jvm_values.specs.Subtyping.{class_type}
use Rattle.jvm_values.specs.TypedHeaps.{world_types}
use Rattle.list_views.specs.Lists.{numbers_from}
use Rattle.abs_heap.specs.Refining.{instance}
use Rattle.abs_heap.specs.inner.Splitting.{crowds}
use Rattle.abs_heap.proofs.FirstCrowds.{crowd_more, crowd_found, crowd_all, crowd_low, passed_on}
use Rattle.abs_heap.proofs.Listing.{number_at, below_length, past_length}
use Rattle.abs_heap.proofs.crowds.past_instances.Goals as goal

pub past_instance-requires-clause-low : goal.past_instance-requires-clause-low
past_instance-requires-clause-low g c = let low = crowd_low instance
    (λ class. g.T.Types.can_be_made c.args.types.now class && g.T.Types.sub c.args.types.now (class_type class) c.args.bound)
    (crowds (world_types (g.T.Types.sub c.args.types.now) (g.T.Types.erase c.args.types.now) (g.T.Types.classes c.args.types.now)
    (g.T.Types.fields c.args.types.now) (g.T.Types.can_be_made c.args.types.now)) c.args.state.now)
    (numbers_from 0 (g.T.Types.classes c.args.types.now)) c.loop-class.class 0 c.loop-class.passed c.loop-class.invariant in omega
    (arith, low)

pub loop-class-preserved : goal.loop-class-preserved
loop-class-preserved g c = crowd_more instance
    (λ class. g.T.Types.can_be_made c.args.types.now class && g.T.Types.sub c.args.types.now (class_type class) c.args.bound)
    (crowds (world_types (g.T.Types.sub c.args.types.now) (g.T.Types.erase c.args.types.now) (g.T.Types.classes c.args.types.now)
    (g.T.Types.fields c.args.types.now) (g.T.Types.can_be_made c.args.types.now)) c.args.state.now)
    (numbers_from 0 (g.T.Types.classes c.args.types.now)) c.loop-class.class c.loop-class.class 0 c.loop-class.passed _
    (below_length (g.T.Types.classes c.args.types.now) c.loop-class.class _ c.classes.ensures c.loop-class-test.true)
    (number_at (g.T.Types.classes c.args.types.now) c.loop-class.class (omega (arith, c.loop-class-test.true, c.classes.ensures)))
    c.loop-class.invariant (sym c.in_ok-passed.was ∙ c.past_instance.ensures)

pub returns-in_err-passed-clause-is : goal.returns-in_err-passed-clause-is
returns-in_err-passed-clause-is g c =
    passed_on _ _ _ c.from_residual.ensures.1
    (crowd_found instance (λ class. g.T.Types.can_be_made c.args.types.now class && g.T.Types.sub c.args.types.now
    (class_type class) c.args.bound)
    (crowds (world_types (g.T.Types.sub c.args.types.now) (g.T.Types.erase c.args.types.now)
    (g.T.Types.classes c.args.types.now) (g.T.Types.fields c.args.types.now) (g.T.Types.can_be_made c.args.types.now))
    c.args.state.now) (numbers_from 0 (g.T.Types.classes c.args.types.now)) (c.loop-class.class + 1) 0 _
    (crowd_more instance (λ class. g.T.Types.can_be_made c.args.types.now class && g.T.Types.sub c.args.types.now
    (class_type class) c.args.bound)
    (crowds (world_types (g.T.Types.sub c.args.types.now) (g.T.Types.erase c.args.types.now)
    (g.T.Types.classes c.args.types.now) (g.T.Types.fields c.args.types.now) (g.T.Types.can_be_made c.args.types.now))
    c.args.state.now) (numbers_from 0 (g.T.Types.classes c.args.types.now)) c.loop-class.class c.loop-class.class 0
    c.loop-class.passed _ (below_length (g.T.Types.classes c.args.types.now) c.loop-class.class _ c.classes.ensures
    c.loop-class-test.true)
    (number_at (g.T.Types.classes c.args.types.now) c.loop-class.class
    (omega (arith, c.loop-class-test.true, c.classes.ensures))) c.loop-class.invariant
    (sym c.in_err-passed.was ∙ c.past_instance.ensures)))

pub returns-clause-is : goal.returns-clause-is
returns-clause-is g c = sym
    (crowd_all instance (λ class. g.T.Types.can_be_made c.args.types.now class && g.T.Types.sub c.args.types.now (class_type class)
    c.args.bound) (crowds (world_types (g.T.Types.sub c.args.types.now) (g.T.Types.erase c.args.types.now)
    (g.T.Types.classes c.args.types.now) (g.T.Types.fields c.args.types.now) (g.T.Types.can_be_made c.args.types.now))
    c.args.state.now) (numbers_from 0 (g.T.Types.classes c.args.types.now)) c.loop-class.class 0 _
    (past_length (g.T.Types.classes c.args.types.now) c.loop-class.class _ c.classes.ensures c.loop-class-test.false)
    c.loop-class.invariant)

pub returns-clause-low : goal.returns-clause-low
returns-clause-low g c = let low = crowd_low instance
    (λ class. g.T.Types.can_be_made c.args.types.now class && g.T.Types.sub c.args.types.now (class_type class) c.args.bound)
    (crowds (world_types (g.T.Types.sub c.args.types.now) (g.T.Types.erase c.args.types.now) (g.T.Types.classes c.args.types.now)
    (g.T.Types.fields c.args.types.now) (g.T.Types.can_be_made c.args.types.now)) c.args.state.now)
    (numbers_from 0 (g.T.Types.classes c.args.types.now)) c.loop-class.class 0 c.loop-class.passed c.loop-class.invariant in omega
    (arith, low)
