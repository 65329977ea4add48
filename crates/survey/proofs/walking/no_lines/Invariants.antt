use Rattle.survey.specs.Claims.{Surveyed, AreTrue}
use Rattle.survey.proofs.walking.no_lines.Given as goal

abbrev pub invariant-loop-line : goal.invariant-loop-line
invariant-loop-line l = (s : Surveyed) → AreTrue s l.text
