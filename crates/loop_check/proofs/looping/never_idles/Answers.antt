use Rattle.std.proofs.Common.{◌∙◌, ℕ, List, subst}
use Rattle.number_graphs.specs.declared.ranking.Ranking.{Ranking}
use Rattle.number_graphs.specs.Graphs.{IsOnCycle}
use Rattle.number_graphs.specs.Lists.{Edge, Ranked}
use Rattle.loop_check.proofs.Answering.{few_rows}
use Rattle.loop_check.proofs.looping.never_idles.Goals as goal

pub rank-requires : goal.rank-requires
rank-requires g c = few_rows (g.S.NodeSource.graph c.args.source.now) c.args.links.now.nodes c.as_slice.result.now
    (c.as_slice.ensures ∙ c.in_ok-rows.ensures.rows) c.requires.few

pub returns-in-Ranks-clause-idles : goal.returns-in-Ranks-clause-idles
returns-in-Ranks-clause-idles g c = subst (λ (rows : List (List ℕ)). (n : ℕ) → IsOnCycle (Edge rows) n → ⊥)
    (c.as_slice.ensures ∙ c.in_ok-rows.ensures.rows) (c.falling_has_no_cycle.ensures c.as_slice.result.now c.in-Ranks._ranks
    (subst (λ (r : Ranking). Ranked c.as_slice.result.now r) c.in-Ranks.is c.in_ok-_ranks.ensures))
