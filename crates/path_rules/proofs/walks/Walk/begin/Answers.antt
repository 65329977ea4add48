use Rattle.std.proofs.Common.{◌∙◌, ◌++◌, ℕ, List, Some, refl, ap, sym}
use Rattle.lin_core.specs.declared.rows.WRow.{WRow}
use Rattle.term_graph.specs.Graphs.{GraphNode}
use Rattle.path_rules.specs.Rules.{rows_of_stop}
use Rattle.path_rules.proofs.Riding.{good_state}
use Rattle.path_rules.proofs.walks.Walk.begin.Goals as goal

pub new-requires-clause-good : goal.new-requires-clause-good
new-requires-clause-good g c = good_state _ _ _ c.requires.states c.in_ok-node.ensures.node

pub returns-clause-begun : goal.returns-clause-begun
returns-clause-begun g c = (
  refl,
  record {
    there = c.in_ok-node.ensures.node ∙ ap (λ (n : GraphNode). Some n) (sym c.in_ok-stop.ensures.0);
    first_is = c.in_ok-stop.ensures.1;
    rows_are =
        c.in_ok-push_stop.ensures.rows
        ∙ (ap (λ (r : List WRow). r ++ rows_of_stop c.in_ok-stop.stop.first c.in_ok-stop.stop.node.state) c.new-rows.ensures
        ∙ ap (λ (n : ℕ). rows_of_stop n c.in_ok-stop.stop.node.state) c.in_ok-stop.ensures.1);
    bounded = c.in_ok-push_stop.ensures.bounded;
  },
)
