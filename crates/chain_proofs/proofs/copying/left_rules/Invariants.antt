use Rattle.std.proofs.Common.{take}
use Rattle.chain_proofs.specs.inner.Sets.{AreLeft}
use Rattle.chain_proofs.proofs.copying.left_rules.Given as goal

abbrev pub invariant-loop-number : goal.invariant-loop-number
invariant-loop-number l = AreLeft l.rules (take l.number-index l.set) l.left
