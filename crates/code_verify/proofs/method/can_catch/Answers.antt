use Rattle.std.proofs.Common.{◌≡◌, length, arith}
use Rattle.class_program.specs.class_world.Worlds.{classes_of}
use Rattle.code_verify.proofs.Beginning.{catches_more, catches_not, catches_all}
use Rattle.code_verify.proofs.method.can_catch.Goals as goal

pub loop-range-preserved : goal.loop-range-preserved
loop-range-preserved c = catches_more (classes_of c.args.world.now) c.args.ranges.now c.loop-range.range-index _ c.sub.result _ _
    (omega (arith, c.loop-range-test.true)) c.loop-range.invariant c.sub.ensures c.caught_class.ensures c.class_type.ensures
    c.if-not-sub.false

pub returns-then-not-sub : goal.returns-then-not-sub
returns-then-not-sub c = catches_not (classes_of c.args.world.now) c.args.ranges.now c.loop-range.range-index _ c.sub.result _ _
    (omega (arith, c.loop-range-test.true)) c.sub.ensures c.caught_class.ensures c.class_type.ensures c.if-not-sub.true

pub returns : goal.returns
returns c =
    let e : c.loop-range.range-index ≡ length c.args.ranges.now = omega (arith, c.loop-range-test.false) in
    catches_all (classes_of c.args.world.now) c.args.ranges.now c.loop-range.range-index e c.loop-range.invariant
