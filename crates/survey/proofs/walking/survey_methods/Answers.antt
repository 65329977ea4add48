use Rattle.std.proofs.Common.{arith}
use Rattle.class_read.specs.View.{method_content}
use Rattle.survey.specs.Claims.{IsProvedMethod}
use Rattle.survey.specs.inner.Wording.{surveyed}
use Rattle.survey.proofs.Telling.{told_on, begun_on}
use Rattle.survey.proofs.Walks.{each_more}
use Rattle.survey.proofs.walking.survey_methods.Goals as goal

pub returns-in-Err-clause-begun : goal.returns-in-Err-clause-begun
returns-in-Err-clause-begun g c = begun_on g.O.Sink.taken (surveyed c.args.scope.now.files.now c.args.scope.now.descs.now) c.args.out.now
    c.loop-method.out c.survey_method.new.out c.loop-method.invariant.told c.in-Err.ensures.begun

pub loop-method-preserved : goal.loop-method-preserved
loop-method-preserved g c =
    let s = surveyed c.args.scope.now.files.now c.args.scope.now.descs.now in
    record {
      told = told_on g.O.Sink.taken s c.args.out.now c.loop-method.out c.survey_method.new.out c.loop-method.invariant.told
          c.in-Ok.ensures.told;
      before = λ all. c.loop-method.invariant.before (c.in-Ok.ensures.before all);
      proved = λ all. each_more (IsProvedMethod s c.args.class.now) method_content c.args.methods.now c.loop-method.method-index
          c.method-item.result (omega arith) c.method-item.is (c.in-Ok.ensures.proved all)
          (c.loop-method.invariant.proved (c.in-Ok.ensures.before all));
    }
