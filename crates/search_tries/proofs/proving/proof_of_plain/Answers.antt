use Rattle.chain_proofs.proofs.Plainly.{own_are_plain}
use Rattle.search_tries.proofs.proving.proof_of_plain.Goals as goal

pub prove_by-requires : goal.prove_by-requires
prove_by-requires c = λ set own rise are. own_are_plain c.args.rules.now set own c.requires rise are
