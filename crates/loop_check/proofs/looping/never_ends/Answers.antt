use Rattle.std.proofs.Common.{◌∙◌, ◌≤◌, ◌^◌, ◌-◌, ℕ, List, Option, Err, length, sym, subst}
use Rattle.class_program.specs.Views.{program_of}
use Rattle.code_verify.specs.Typings.{typing_at}
use Rattle.term_graph.specs.Graphs.{GraphNode}
use Rattle.loop_check.specs.declared.fault.LoopFault.{LoopFault}
use Rattle.loop_check.specs.Loops.{IsFirstEnd}
use Rattle.loop_check.specs.inner.Words.{Answers, Idles}
use Rattle.loop_check.proofs.Answering.{graph_fails, end_fails, idling_told}
use Rattle.loop_check.proofs.looping.never_ends.Goals as goal

pub returns-in-Err-clause-tells : goal.returns-in-Err-clause-tells
returns-in-Err-clause-tells g c =
    let p = program_of c.args.program.now in
    let typing = typing_at c.args.typing.now in
    let nodes = g.S.NodeSource.graph c.args.source.now in
    subst (λ (f : LoopFault). Answers p typing nodes c.args.root.now (Err f)) (sym c.fault_of.ensures)
    (graph_fails p typing nodes c.args.root.now c.in-Err.fault c.in-Err.ensures.tells)

pub returns-in-Some-clause-tells : goal.returns-in-Some-clause-tells
returns-in-Some-clause-tells g c =
    let nodes = g.S.NodeSource.graph c.args.source.now in
    end_fails (program_of c.args.program.now) (typing_at c.args.typing.now) nodes c.args.root.now c.in-Ok.links.nodes c.in-Some.node
    c.in-Ok.ensures.tells (subst (λ (o : Option ℕ). IsFirstEnd nodes o) c.in-Some.is
    (subst (λ (ns : List GraphNode). IsFirstEnd ns c.in_ok-found.found) c.in-Ok.ensures.same c.in_ok-found.ensures.first))

pub never_idles-requires : goal.never_idles-requires
never_idles-requires g c = record {
  few = subst (λ (ns : List GraphNode). length ns ≤ 2 ^ 32 - 16) (sym (c.in_ok-found.ensures.same ∙ c.in-Ok.ensures.same)) c.requires.few;
}

pub returns-clause-tells : goal.returns-clause-tells
returns-clause-tells g c =
    let nodes = g.S.NodeSource.graph c.args.source.now in
    idling_told (program_of c.args.program.now) (typing_at c.args.typing.now) nodes c.args.root.now c.in-Ok.links.nodes
    c.never_idles.result c.in-Ok.ensures.tells (subst (λ (o : Option ℕ). IsFirstEnd nodes o) c.in-None.is
    (subst (λ (ns : List GraphNode). IsFirstEnd ns c.in_ok-found.found) c.in-Ok.ensures.same c.in_ok-found.ensures.first))
    (subst (λ (ns : List GraphNode). Idles ns c.in-Ok.links.nodes c.never_idles.result)
    (c.in_ok-found.ensures.same ∙ c.in-Ok.ensures.same) c.never_idles.ensures.idles)
