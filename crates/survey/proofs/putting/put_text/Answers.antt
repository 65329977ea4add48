use Rattle.survey.proofs.Telling.{begun}
use Rattle.survey.proofs.putting.put_text.Goals as goal

pub returns-in-Err-clause-begun : goal.returns-in-Err-clause-begun
returns-in-Err-clause-begun g c = λ s are. begun g.O.Sink.taken s c.args.out.now c.put.new.self c.args.text.now
    c.in-Err.ensures.prefix are
