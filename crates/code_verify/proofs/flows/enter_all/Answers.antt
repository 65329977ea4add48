use Rattle.std.proofs.Common.{◌≡◌, length, arith, refl}
use Rattle.frame_types.proofs.GrowthLaws.{grown_none}
use Rattle.jvm_values.specs.States.{types_of as seen}
use Rattle.code_verify.specs.Flows.{onward}
use Rattle.code_verify.proofs.WorldOf.{laws_at}
use Rattle.code_verify.proofs.FlowLaws.{onward_adds, came, did_not_come, next_comes, next_refuses, all_came}
use Rattle.code_verify.proofs.flows.enter_all.Goals as goal

pub loop-place-init : goal.loop-place-init
loop-place-init c = grown_none _ (laws_at c.args.world.now) _ c.requires.table

pub returns-then-not-entered : goal.returns-then-not-entered
returns-then-not-entered c =
    next_refuses _ (laws_at c.args.world.now) (onward (seen c.args.frame.now)) (onward_adds (seen c.args.frame.now))
    c.args.places.now c.loop-place.place-index 0 _ _ (omega (arith, c.loop-place-test.true)) c.loop-place.invariant
    (did_not_come _ (laws_at c.args.world.now) _ _ _ _ c.if-not-entered.true c.in_ok-entered.ensures)

pub loop-place-preserved : goal.loop-place-preserved
loop-place-preserved c =
    next_comes _ (laws_at c.args.world.now) (onward (seen c.args.frame.now)) (onward_adds (seen c.args.frame.now)) c.args.places.now
    c.loop-place.place-index 0 _ _ _ (omega (arith, c.loop-place-test.true)) c.loop-place.invariant
    (came _ (laws_at c.args.world.now) _ _ _ _ c.if-not-entered.false c.in_ok-entered.ensures)

pub returns : goal.returns
returns c =
    let e : c.loop-place.place-index ≡ length c.args.places.now = omega (arith, c.loop-place-test.false) in
    all_came _ (laws_at c.args.world.now) (onward (seen c.args.frame.now)) (onward_adds (seen c.args.frame.now)) c.args.places.now
    c.loop-place.place-index _ _ e c.loop-place.invariant
