use Rattle.std.proofs.Common.{◌∙◌, List, Some, ap, subst, sym, arith}
use Rattle.abs_cells.specs.Sound.{IsWellFormed}
use Rattle.term_graph.specs.declared.links.Link.{Link}
use Rattle.term_graph.specs.Graphs.{GraphNode}
use Rattle.path_rules.specs.Stops.{leg_by}
use Rattle.path_rules.proofs.Riding.{is_over, links_small, keyed_at, good_state}
use Rattle.path_rules.proofs.walks.Walk.over.Goals as goal

pub new-requires-clause-good : goal.new-requires-clause-good
new-requires-clause-good g c = good_state _ _ _ c.requires.good.states c.in_ok-node.ensures.node

pub new-requires-clause-low : goal.new-requires-clause-low
new-requires-clause-low g c = let is = c.next.ensures in let few = c.requires.few in omega (arith, is, few)

pub rows_over-requires-clause-small : goal.rows_over-requires-clause-small
rows_over-requires-clause-small g c link is =
    links_small _ _ _ c.args.place c.in-Some.to _ c.requires.good c.requires.here (sym c.in-Some.ensures) link
    (ap (λ (l : List Link). leg_by c.args.self.stop.node.by l c.args.place) (sym c.links_of-legs.ensures) ∙ is)

pub rows_over-requires-clause-keyed : goal.rows_over-requires-clause-keyed
rows_over-requires-clause-keyed g c = keyed_at _ _ _ _ c.requires.good c.requires.here

pub rows_over-requires-clause-here : goal.rows_over-requires-clause-here
rows_over-requires-clause-here g c = good_state _ _ _ c.requires.good.states c.requires.here

pub rows_over-requires-clause-there : goal.rows_over-requires-clause-there
rows_over-requires-clause-there g c = subst (λ (n : GraphNode). IsWellFormed n.state) (sym c.in_ok-after.ensures.0)
    (good_state _ _ _ c.requires.good.states c.in_ok-node.ensures.node)

pub returns-clause-gone : goal.returns-clause-gone
returns-clause-gone g c =
    is_over _ _ c.args.self.at c.args.place c.in-Some.to c.args.self.stop.node c.in_ok-after.after.node c.args.self.stop.first
    c.in_ok-after.after.first c.args.self.rows c.in_ok-rows.rows c.requires.here (sym c.in-Some.ensures)
    (c.in_ok-node.ensures.node ∙ ap (λ (n : GraphNode). Some n) (sym c.in_ok-after.ensures.0)) (c.in_ok-after.ensures.1 ∙ c.next.ensures)
    (λ leg is. c.in_ok-rows.ensures.rows leg
    (ap (λ (l : List Link). leg_by c.args.self.stop.node.by l c.args.place) c.links_of-legs.ensures ∙ is))
    c.in_ok-rows.ensures.bounded
