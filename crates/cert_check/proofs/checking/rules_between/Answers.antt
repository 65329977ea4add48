use Rattle.class_program.specs.Views.{program_of}
use Rattle.code_verify.specs.Typings.{typing_at}
use Rattle.cert_check.proofs.Preparing.{prepared}
use Rattle.cert_check.proofs.Telling.{ready_for, paths_refused, rules_given}
use Rattle.cert_check.proofs.checking.rules_between.Goals as goal

pub paths-requires-clause-ready : goal.paths-requires-clause-ready
paths-requires-clause-ready g c =
    let nodes = g.S.NodeSource.graph c.args.source.now in
    let links = c.args.links.now.nodes in
    ready_for nodes links c.args.cuts.now c.count-nodes.result c.are_cuts.result
    (prepared c.links_fit.ensures (program_of c.args.program.now) (typing_at c.args.typing.now) c.is_good.ensures.widths nodes
    c.args.root.now links c.requires.typing c.requires.graph) c.count-nodes.ensures c.are_cuts.ensures c.if-not-are_cuts.false

pub returns-in-Ok-clause-rules : goal.returns-in-Ok-clause-rules
returns-in-Ok-clause-rules g c =
    rules_given (program_of c.args.program.now) (typing_at c.args.typing.now) c.args.root.now
    (g.S.NodeSource.graph c.args.source.now) c.args.links.now.nodes c.args.cuts.now c.count-nodes.result c.requires.graph
    c.count-nodes.ensures
    c.are_cuts.result c.in-Ok.rules c.are_cuts.ensures c.if-not-are_cuts.false c.in-Ok.ensures.answers

pub returns-in-Err-clause-rules : goal.returns-in-Err-clause-rules
returns-in-Err-clause-rules g c =
    paths_refused (program_of c.args.program.now) (typing_at c.args.typing.now) c.args.root.now
    (g.S.NodeSource.graph c.args.source.now) c.args.links.now.nodes c.args.cuts.now c.count-nodes.result c.requires.graph
    c.count-nodes.ensures
    c.are_cuts.result c.in-Err.fault c.path_refusal.result c.are_cuts.ensures c.if-not-are_cuts.false c.in-Err.ensures.answers
    c.path_refusal.ensures
