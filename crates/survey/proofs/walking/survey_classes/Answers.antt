use Rattle.std.proofs.Common.{arith}
use Rattle.survey.specs.Claims.{IsProvedClass}
use Rattle.survey.specs.inner.Wording.{surveyed}
use Rattle.survey.proofs.Telling.{told_on, begun_on}
use Rattle.survey.proofs.Walks.{item_more}
use Rattle.survey.proofs.walking.survey_classes.Goals as goal

pub returns-in-Err-clause-begun : goal.returns-in-Err-clause-begun
returns-in-Err-clause-begun g c = begun_on g.O.Sink.taken (surveyed c.args.scope.now.files.now c.args.scope.now.descs.now) c.args.out.now
    c.loop-class.out c.survey_class.new.out c.loop-class.invariant.told c.in-Err.ensures.begun

pub loop-class-preserved : goal.loop-class-preserved
loop-class-preserved g c =
    let s = surveyed c.args.scope.now.files.now c.args.scope.now.descs.now in
    record {
      told = told_on g.O.Sink.taken s c.args.out.now c.loop-class.out c.survey_class.new.out c.loop-class.invariant.told
          c.in-Ok.ensures.told;
      proved = λ all. item_more (IsProvedClass s) c.args.scope.now.classes.now c.loop-class.class-index c.class-item.result (omega arith)
          c.class-item.is (c.in-Ok.ensures.proved all) (c.loop-class.invariant.proved (c.in-Ok.ensures.before all));
    }
