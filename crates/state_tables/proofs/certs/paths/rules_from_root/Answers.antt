use Rattle.std.proofs.Common.{List, [], sym, subst}
use Rattle.class_program.specs.Views.{program_of}
use Rattle.code_verify.specs.Typings.{typing_at}
use Rattle.term_graph.specs.Graphs.{GraphNode}
use Rattle.cert_check.specs.graph_check.Good.{GraphOk}
use Rattle.state_tables.proofs.certs.paths.rules_from_root.Goals as goal

pub rules_between-requires-clause-graph : goal.rules_between-requires-clause-graph
rules_between-requires-clause-graph c =
    subst (λ (ns : List GraphNode). GraphOk (program_of c.args.program.now) (typing_at c.args.typing.now) ns c.args.root.now
    c.in-Ok.links.nodes)
    (sym c.in-Ok.ensures.same) (c.in-Ok.ensures.graph [] [])
