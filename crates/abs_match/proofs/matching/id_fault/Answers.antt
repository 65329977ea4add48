use Rattle.abs_match.specs.inner.Matching.{clause_of}
use Rattle.abs_match.proofs.Testing.{tested, agrees_free}
use Rattle.abs_match.proofs.matching.id_fault.Goals as goal

pub returns : goal.returns
returns g c = tested (g.T.Types.sub c.args.types.now) c.args.state.now c.args.target.now c.args.entries.now
    (clause_of c.args.clause) c.least_failing.result
    (agrees_free (g.T.Types.sub c.args.types.now) c.args.state.now c.args.target.now c.args.entries.now c.args.clause)
    c.least_failing.ensures
