use Rattle.std.proofs.Common.{length}
use Rattle.chain_proofs.proofs.Parting.{IsDivided}
use Rattle.chain_proofs.proofs.splitting.split.Given as goal

abbrev pub invariant-loop-class : goal.invariant-loop-class
invariant-loop-class l = IsDivided (length l.rules) l.own l.set l.classes l.class-index l.number l.fn.sets.given.items l.parts l.steps
    l.sets.given.items
