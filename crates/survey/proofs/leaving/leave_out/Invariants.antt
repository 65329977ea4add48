use Rattle.std.proofs.Common.{◌≤◌, length, map}
use Rattle.class_base.specs.Limits.{most_classes}
use Rattle.survey.specs.Claims.{Surveyed}
use Rattle.survey.specs.Outside.{Tells}
use Rattle.survey.specs.inner.Wording.{StayRead}
use Rattle.survey.proofs.leaving.leave_out.Given as goal

-- what was put, and which files are left
abbrev pub invariant-loop-round : goal.invariant-loop-round
invariant-loop-round g l = record {
  told : (s : Surveyed) → Tells g.O.Sink.taken s l.fn.out l.out;
  stay : StayRead (map (λ file. file.items) l.fn.kept.files.items) (map (λ file. file.items) l.kept.files.items);
  few : length l.kept.files.items ≤ most_classes;
}
