use Rattle.chain_proofs.proofs.Turning.{IsProof}
use Rattle.chain_proofs.proofs.proving.prove_by.Given as goal

abbrev pub invariant-loop-number : goal.invariant-loop-number
invariant-loop-number g l = IsProof l.rules l.below l.number l.steps l.sets.given.items
