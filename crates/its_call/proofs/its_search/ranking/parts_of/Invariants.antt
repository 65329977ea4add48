use Rattle.std.proofs.Common.{◌≡◌, map, take}
use Rattle.its_call.specs.its_search.inner.Following.{part_of}
use Rattle.its_call.proofs.its_search.ranking.parts_of.Given as goal

abbrev pub invariant-loop-term : goal.invariant-loop-term
invariant-loop-term l = l.parts ≡ map part_of (take l.term-index l.form)
