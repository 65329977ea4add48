use Rattle.std.proofs.Common.{arith}
use Rattle.survey.proofs.Kept.{stay_on}
use Rattle.survey.proofs.Telling.{told_all, begun_all}
use Rattle.survey.proofs.leaving.leave_out.Goals as goal

pub returns-in-Ok-false-clause-told : goal.returns-in-Ok-false-clause-told
returns-in-Ok-false-clause-told g c = told_all g.O.Sink.taken c.args.out.now c.loop-round.out c.leave_one.new.out
    c.loop-round.invariant.told c.in-Ok-false.ensures.told

pub returns-in-Err-clause-begun : goal.returns-in-Err-clause-begun
returns-in-Err-clause-begun g c = begun_all g.O.Sink.taken c.args.out.now c.loop-round.out c.leave_one.new.out
    c.loop-round.invariant.told c.in-Err.ensures.begun

pub loop-round-preserved : goal.loop-round-preserved
loop-round-preserved g c = record {
  told = told_all g.O.Sink.taken c.args.out.now c.loop-round.out c.leave_one.new.out c.loop-round.invariant.told
      c.in-Ok-true.ensures.told;
  stay = stay_on _ _ _ c.loop-round.invariant.stay c.in-Ok-true.ensures.stay;
  few = (let fewer = c.in-Ok-true.ensures.fewer in let few = c.loop-round.invariant.few in omega (arith, fewer, few));
}
