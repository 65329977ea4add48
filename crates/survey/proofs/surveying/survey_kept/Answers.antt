use Rattle.std.proofs.Common.{◌≡◌, IfOk, OnErr, subst}
use Rattle.survey.specs.Claims.{AreAllProved}
use Rattle.survey.specs.Outside.{BeginsToTell}
use Rattle.survey.specs.inner.Wording.{surveyed}
use Rattle.survey.proofs.surveying.survey_kept.Goals as goal

pub returns-clause-begun : goal.returns-clause-begun
returns-clause-begun g c = subst
    (λ files. OnErr c.survey_scope.result (BeginsToTell g.O.Sink.taken (surveyed files c.args.descs.now) c.args.out.now c.survey_scope.new.out))
    c.as_slice-2.ensures.value c.survey_scope.ensures.begun

pub returns-clause-all : goal.returns-clause-all
returns-clause-all g c = subst
    (λ files. IfOk c.survey_scope.result (λ status. status ≡ 0 → AreAllProved (surveyed files c.args.descs.now)))
    c.as_slice-2.ensures.value c.survey_scope.ensures.all
