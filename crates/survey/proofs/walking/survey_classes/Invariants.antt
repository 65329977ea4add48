use Rattle.std.proofs.Common.{drop}
use Rattle.std.specs.Prelude.{IsTrue}
use Rattle.std.specs.List.{AllByRecursion}
use Rattle.survey.specs.Claims.{IsProvedClass}
use Rattle.survey.specs.Outside.{Tells}
use Rattle.survey.specs.inner.Wording.{surveyed}
use Rattle.survey.proofs.walking.survey_classes.Given as goal

-- what was put, and that the classes so far are proved where all lines begin with YES
abbrev pub invariant-loop-class : goal.invariant-loop-class
invariant-loop-class g l =
    let s = surveyed l.scope.files.now l.scope.descs.now in
    let each = AllByRecursion (IsProvedClass s) in
    record {
      told : Tells g.O.Sink.taken s l.fn.out l.out;
      proved : IsTrue l.so_far.all → each (drop l.class-index l.scope.classes.now) → each l.scope.classes.now;
    }
