use Rattle.std.proofs.Common.{◌≡◌, drop}
use Rattle.its_front.specs.Names.{added}
use Rattle.its_front.proofs.reading.added.Given as goal

abbrev pub invariant-loop-word : goal.invariant-loop-word
invariant-loop-word l = added l.names (drop l.word-index l.words) ≡ added l.initial.names l.words
