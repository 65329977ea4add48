use Rattle.std.proofs.Common.{sym, subst, arith}
use Rattle.std.proofs.lemmas.Option.{get_or_from_slice_get}
use Rattle.list_views.proofs.Quantified.{every_one_more, every_whole}
use Rattle.abs_cells.specs.AbstractStates.{AbstractState}
use Rattle.term_graph.specs.Graphs.{GraphNode}
use Rattle.prove_core.specs.Stored.{IsStored}
use Rattle.prove_core.proofs.stored.graph_is_stored.Goals as goal

pub loop-n-preserved : goal.loop-n-preserved
loop-n-preserved g c =
    let node = c.at.result.now in
    every_one_more (λ (n : GraphNode). IsStored n.state) c.args.graph.now c.loop-n.n node
    (omega (arith, c.loop-n-test.true, c.len-n-end.ensures)) (sym (get_or_from_slice_get c.args.graph.now c.loop-n.n node node c.at.ensures))
    c.loop-n.invariant (subst IsStored c.state.ensures c.state_is_stored.ensures)

pub returns : goal.returns
returns g c = every_whole (λ (n : GraphNode). IsStored n.state) c.args.graph.now c.loop-n.n
    (omega (arith, c.loop-n-test.false, c.len-n-end.ensures)) c.loop-n.invariant
