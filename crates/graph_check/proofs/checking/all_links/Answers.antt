use Rattle.std.proofs.Common.{◌∙◌, ◌+◌, List, Err, Ok, sym, subst, take}
use Rattle.std.specs.List.{AllZip}
use Rattle.class_program.specs.Views.{program_of}
use Rattle.code_verify.specs.Typings.{typing_at}
use Rattle.term_graph.specs.declared.links.Link.{Link}
use Rattle.term_graph.specs.Graphs.{GraphNode}
use Rattle.graph_check.specs.declared.fault.CheckFault.{CheckFault}
use Rattle.graph_check.specs.Good.{IsGoodNode}
use Rattle.graph_check.specs.inner.Checked.{NodeLeavesOr, GoodNodesOr}
use Rattle.graph_check.proofs.Answering.{one_more_good, first_bad}
use Rattle.graph_check.proofs.checking.all_links.Goals as goal

pub returns-in-Err-clause-nodes : goal.returns-in-Err-clause-nodes
returns-in-Err-clause-nodes g c =
    let p = program_of c.args.program.now in
    let typing = typing_at c.args.typing.now in
    let nodes = g.S.NodeSource.graph c.args.source.now in
    subst (λ (f : CheckFault). GoodNodesOr p typing nodes (Err f)) (sym c.fault_of.ensures)
    (first_bad p typing nodes c.loop-number.number c.loop-number.links c.in-Err.failure
    (subst (λ (ns : List GraphNode). NodeLeavesOr p typing ns c.loop-number.number (Err c.in-Err.failure))
    c.loop-number.invariant.same c.in-Err.ensures.leaves)
    c.loop-number.invariant.good)

pub loop-number-preserved : goal.loop-number-preserved
loop-number-preserved g c =
    let p = program_of c.args.program.now in
    let typing = typing_at c.args.typing.now in
    let nodes = g.S.NodeSource.graph c.args.source.now in
    record {
      same = c.node_links.ensures.same ∙ c.loop-number.invariant.same;
      good = subst (λ (ls : List (List Link)). AllZip (IsGoodNode p typing nodes) (take (c.loop-number.number + 1) nodes) ls)
          (sym c.in_ok-push-in-Ok.ensures.items)
          (one_more_good p typing nodes c.loop-number.number c.loop-number.links c.in-Ok.found
          (subst (λ (ns : List GraphNode). NodeLeavesOr p typing ns c.loop-number.number (Ok c.in-Ok.found))
          c.loop-number.invariant.same c.in-Ok.ensures.leaves)
          c.loop-number.invariant.good);
    }
