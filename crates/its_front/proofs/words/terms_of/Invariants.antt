use Rattle.std.proofs.Common.{◌≡◌, ◌-◌, length, drop}
use Rattle.its_front.specs.Words.{terms_of}
use Rattle.its_front.proofs.Gathered.{behind}
use Rattle.its_front.proofs.words.terms_of.Given as goal

abbrev pub invariant-loop-n : goal.invariant-loop-n
invariant-loop-n l = behind l.terms (terms_of (drop l.n l.words)) ≡ terms_of l.words

abbrev pub decreases-loop-n : goal.decreases-loop-n
decreases-loop-n l = length l.words - l.n
