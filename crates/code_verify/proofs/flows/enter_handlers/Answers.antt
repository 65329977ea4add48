use Rattle.std.proofs.Common.{◌≡◌, length, arith, refl, sym, ◌∙◌}
use Rattle.frame_types.proofs.GrowthLaws.{grown_none}
use Rattle.jvm_values.specs.States.{types_of as seen}
use Rattle.class_program.specs.class_world.Worlds.{classes_of}
use Rattle.code_verify.specs.Flows.{caught}
use Rattle.code_verify.proofs.WorldOf.{laws_at}
use Rattle.code_verify.proofs.FlowLaws.{caught_adds, came, did_not_come, next_comes, next_refuses, all_came}
use Rattle.code_verify.proofs.flows.enter_handlers.Goals as goal

pub loop-range-init : goal.loop-range-init
loop-range-init c = (grown_none _ (laws_at c.args.world.now) _ c.requires.table, refl)

pub returns-then-not-entered : goal.returns-then-not-entered
returns-then-not-entered c =
    next_refuses _ (laws_at c.args.world.now) (caught (classes_of c.args.world.now) c.args.place (seen c.args.frame.now))
    (caught_adds (classes_of c.args.world.now) c.args.place (seen c.args.frame.now)) c.args.ranges.now c.loop-range.range-index
    _ _ _ (omega (arith, c.loop-range-test.true)) c.loop-range.invariant.0
    (did_not_come _ (laws_at c.args.world.now) _ _ _ _ c.if-not-entered.true
    (c.in_ok-entered.ensures.comes (seen c.args.frame.now) (sym c.loop-range.invariant.1)))

pub loop-range-preserved : goal.loop-range-preserved
loop-range-preserved c = (
  next_comes _ (laws_at c.args.world.now) (caught (classes_of c.args.world.now) c.args.place (seen c.args.frame.now))
      (caught_adds (classes_of c.args.world.now) c.args.place (seen c.args.frame.now)) c.args.ranges.now c.loop-range.range-index _
      _ _ _ (omega (arith, c.loop-range-test.true)) c.loop-range.invariant.0
      (came _ (laws_at c.args.world.now) _ _ _ _ c.if-not-entered.false
      (c.in_ok-entered.ensures.comes (seen c.args.frame.now) (sym c.loop-range.invariant.1))),
  c.in_ok-entered.ensures.locals ∙ c.loop-range.invariant.1,
)

pub returns : goal.returns
returns c =
    let e : c.loop-range.range-index ≡ length c.args.ranges.now = omega (arith, c.loop-range-test.false) in
    all_came _ (laws_at c.args.world.now) (caught (classes_of c.args.world.now) c.args.place (seen c.args.frame.now))
    (caught_adds (classes_of c.args.world.now) c.args.place (seen c.args.frame.now)) c.args.ranges.now c.loop-range.range-index
    _ _ e c.loop-range.invariant.0
