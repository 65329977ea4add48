use Rattle.std.proofs.Common.{◌∙◌, sym, subst}
use Rattle.std.proofs.lemmas.Bool.{false≢true}
use Rattle.abs_cells.specs.AbstractStates.{AbstractState}
use Rattle.graph_build.proofs.Climbing.{node_matches}
use Rattle.graph_build.proofs.due.match_with.Goals as goal

pub returns-then-not-is_alike-clause-found : goal.returns-then-not-is_alike-clause-found
returns-then-not-is_alike-clause-found g c = λ a entries i. false≢true (sym c.if-not-is_alike.true ∙ c.is_alike.ensures.1 a)

pub matches-requires-clause-other : goal.matches-requires-clause-other
matches-requires-clause-other g c = subst (λ (s : AbstractState). g.G.Grower.good (g.G.Grower.meaning c.args.grower.now) s)
    (sym c.state.ensures) c.requires.node

pub returns-clause-found : goal.returns-clause-found
returns-clause-found g c = node_matches (g.G.Grower.rules (g.G.Grower.meaning c.args.grower.now)) c.args.state.now c.args.node.now
    c.state.result.now c.matches.result c.state.ensures (c.is_alike.ensures.0 c.if-not-is_alike.false) c.matches.ensures.found
