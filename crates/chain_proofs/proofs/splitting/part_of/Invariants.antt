use Rattle.std.proofs.Common.{take}
use Rattle.chain_proofs.specs.inner.Sets.{AreAt}
use Rattle.chain_proofs.proofs.splitting.part_of.Given as goal

abbrev pub invariant-loop-place : goal.invariant-loop-place
invariant-loop-place l = AreAt l.set (take l.place-index l.class) l.part
