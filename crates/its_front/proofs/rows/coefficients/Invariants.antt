use Rattle.std.proofs.Common.{◌≡◌, drop}
use Rattle.its_front.specs.Terms.{coefficients}
use Rattle.its_front.proofs.Gathered.{behind}
use Rattle.its_front.proofs.rows.coefficients.Given as goal

abbrev pub invariant-loop-n : goal.invariant-loop-n
invariant-loop-n l = behind l.found (coefficients l.n (drop l.n l.table)) ≡ coefficients 0 l.table
