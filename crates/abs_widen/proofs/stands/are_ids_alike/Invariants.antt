use Rattle.std.proofs.Common.{◌≡◌, ◌<◌, ℕ, get_or, true}
use Rattle.abs_widen.specs.Visits.{are_alike}
use Rattle.abs_widen.proofs.stands.are_ids_alike.Given as goal

abbrev pub invariant-loop-n : goal.invariant-loop-n
invariant-loop-n g l = (k d e : ℕ) → k < l.n → are_alike l.a l.b (get_or l.ids k d) (get_or l.others k e) ≡ true
