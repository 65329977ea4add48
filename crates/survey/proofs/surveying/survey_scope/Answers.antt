use Rattle.survey.specs.inner.Wording.{surveyed}
use Rattle.survey.proofs.Telling.{told_thrice, begun_on, begun_third}
use Rattle.survey.proofs.surveying.survey_scope.Goals as goal

pub returns-in-Err-survey_classes-clause-begun : goal.returns-in-Err-survey_classes-clause-begun
returns-in-Err-survey_classes-clause-begun g c =
    let s = surveyed c.args.scope.now.files.now c.args.scope.now.descs.now in
    begun_on g.O.Sink.taken s c.args.out.now c.put_all_lost.new.out c.survey_classes.new.out (c.in-Ok.ensures.told s)
    c.in-Err-survey_classes.ensures.begun

pub returns-in-Ok-put_counts-clause-told : goal.returns-in-Ok-put_counts-clause-told
returns-in-Ok-put_counts-clause-told g c =
    let s = surveyed c.args.scope.now.files.now c.args.scope.now.descs.now in
    told_thrice g.O.Sink.taken s c.args.out.now c.put_all_lost.new.out c.survey_classes.new.out c.put_counts.new.out
    c.in-Ok.ensures.told c.in-Ok-survey_classes.ensures.told c.in-Ok-put_counts.ensures.told

pub returns-in-Err-put_counts-clause-begun : goal.returns-in-Err-put_counts-clause-begun
returns-in-Err-put_counts-clause-begun g c =
    let s = surveyed c.args.scope.now.files.now c.args.scope.now.descs.now in
    begun_third g.O.Sink.taken s c.args.out.now c.put_all_lost.new.out c.survey_classes.new.out c.put_counts.new.out
    c.in-Ok.ensures.told c.in-Ok-survey_classes.ensures.told c.in-Err-put_counts.ensures.begun
