use Rattle.survey.specs.Claims.{Surveyed}
use Rattle.survey.specs.Outside.{Tells}
use Rattle.survey.proofs.surveying.put_all_lost.Given as goal

-- what was put
abbrev pub invariant-loop-n : goal.invariant-loop-n
invariant-loop-n g l = (s : Surveyed) → Tells g.O.Sink.taken s l.fn.out l.out
