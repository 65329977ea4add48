use Rattle.survey.proofs.Telling.{told_all, begun_all}
use Rattle.survey.proofs.surveying.put_all_lost.Goals as goal

pub returns-in-Err-clause-begun : goal.returns-in-Err-clause-begun
returns-in-Err-clause-begun g c = begun_all g.O.Sink.taken c.args.out.now c.loop-n.out c.put_lost.new.out c.loop-n.invariant
    c.in-Err.ensures.begun

pub loop-n-preserved : goal.loop-n-preserved
loop-n-preserved g c = told_all g.O.Sink.taken c.args.out.now c.loop-n.out c.put_lost.new.out c.loop-n.invariant c.in-Ok.ensures.told
