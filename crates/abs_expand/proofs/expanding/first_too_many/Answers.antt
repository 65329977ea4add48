use Rattle.std.proofs.Common.{arith}
use Rattle.class_program.specs.Views.{program_of}
use Rattle.class_program.specs.class_world.WorldTypes.{types_of}
use Rattle.abs_plans.specs.abs_turns.GoodPlans.{IsGoodTurn}
use Rattle.abs_expand.proofs.ChildLists.{few_next, many_at, few_all}
use Rattle.abs_expand.proofs.TurnChildren.{turn_at}
use Rattle.abs_expand.proofs.expanding.first_too_many.Goals as goal

pub made-requires : goal.made-requires
made-requires g c =
    turn_at (IsGoodTurn (types_of (program_of c.args.program.now).world) c.args.state.now) c.args.turns.now c.loop-n.n
    c.index-turns-n.result c.requires.turns c.loop-n-test.true
    c.index-turns-n.is

pub returns-then-count-made-gt-MOST_IDS : goal.returns-then-count-made-gt-MOST_IDS
returns-then-count-made-gt-MOST_IDS g c =
    many_at (types_of (program_of c.args.program.now).world) c.args.count c.args.turns.now c.loop-n.n c.made.result
    c.index-turns-n.result c.loop-n-test.true c.index-turns-n.is
    c.made.ensures.is (omega (arith, c.if-count-made-gt-MOST_IDS.true)) c.loop-n.invariant

pub loop-n-preserved : goal.loop-n-preserved
loop-n-preserved g c =
    few_next (types_of (program_of c.args.program.now).world) c.args.count c.args.turns.now c.loop-n.n c.made.result
    c.index-turns-n.result c.loop-n-test.true c.index-turns-n.is
    c.made.ensures.is (omega (arith, c.if-count-made-gt-MOST_IDS.false)) c.loop-n.invariant

pub returns : goal.returns
returns g c = few_all (types_of (program_of c.args.program.now).world) c.args.count c.args.turns.now c.loop-n.n c.loop-n-test.false
    c.loop-n.invariant
