use Rattle.std.proofs.Common.{map, drop}
use Rattle.std.specs.Prelude.{IsTrue}
use Rattle.std.specs.List.{AllByRecursion}
use Rattle.class_read.specs.View.{method_content}
use Rattle.survey.specs.Claims.{IsProvedMethod}
use Rattle.survey.specs.Outside.{Tells}
use Rattle.survey.specs.inner.Wording.{surveyed}
use Rattle.survey.proofs.walking.survey_methods.Given as goal

-- what was put, and that the methods so far are proved where all lines begin with YES
abbrev pub invariant-loop-method : goal.invariant-loop-method
invariant-loop-method g l =
    let s = surveyed l.scope.files.now l.scope.descs.now in
    let each = AllByRecursion (IsProvedMethod s l.class) in
    record {
      told : Tells g.O.Sink.taken s l.fn.out l.out;
      before : IsTrue l.so_far.all → IsTrue l.fn.tally.all;
      proved : IsTrue l.so_far.all → each (map method_content (drop l.method-index l.methods)) → each
          (map method_content l.methods);
    }
