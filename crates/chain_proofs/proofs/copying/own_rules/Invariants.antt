use Rattle.std.proofs.Common.{take}
use Rattle.chain_proofs.specs.Sets.{AreOwn}
use Rattle.chain_proofs.proofs.copying.own_rules.Given as goal

abbrev pub invariant-loop-number : goal.invariant-loop-number
invariant-loop-number l = AreOwn l.rules (take l.number-index l.set) l.own
