use Rattle.std.proofs.Common.{◌∙◌, sym}
use Rattle.std.proofs.lemmas.Bool.{false≢true}
use Rattle.abs_match.proofs.Testing.{id_keeps, id_fails}
use Rattle.abs_match.proofs.matching.failing.Goals as goal

pub returns-then-keeps : goal.returns-then-keeps
returns-then-keeps g c = id_keeps (g.T.Types.sub c.args.types.now) c.args.state.now c.args.target.now c.args.entries.now
    c.args.clause c.args.id (c.keeps.ensures.0 c.if-keeps.true)

pub returns-else-keeps : goal.returns-else-keeps
returns-else-keeps g c = id_fails (g.T.Types.sub c.args.types.now) c.args.state.now c.args.target.now c.args.entries.now
    c.args.clause c.args.id (λ m. false≢true (sym c.if-keeps.false ∙ c.keeps.ensures.1 m))
