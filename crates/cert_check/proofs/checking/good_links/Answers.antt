use Rattle.class_program.specs.Views.{program_of}
use Rattle.code_verify.specs.Typings.{typing_at}
use Rattle.cert_check.proofs.Telling.{links_good, links_refused}
use Rattle.cert_check.proofs.checking.good_links.Goals as goal

pub returns-in-Ok-clause-graph : goal.returns-in-Ok-clause-graph
returns-in-Ok-clause-graph g c = links_good (program_of c.args.program.now) (typing_at c.args.typing.now) c.args.root.now
    (g.S.NodeSource.graph c.args.source.now) c.in-Ok.links c.in-Ok.ensures.tells

pub returns-in-Err-clause-graph : goal.returns-in-Err-clause-graph
returns-in-Err-clause-graph g c =
    links_refused (program_of c.args.program.now) (typing_at c.args.typing.now) c.args.root.now
    (g.S.NodeSource.graph c.args.source.now) c.in-Err.fault c.graph_refusal.result c.in-Err.ensures.tells c.graph_refusal.ensures
