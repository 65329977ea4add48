use Rattle.class_program.specs.Views.{program_of}
use Rattle.code_verify.specs.Typings.{typing_at}
use Rattle.graph_fill.proofs.Lacking.{can_be_filled}
use Rattle.cert_making.proofs.MigrateSaying.{within_limits}
use Rattle.cert_making.proofs.migrate_call.certs.of_text.Goals as goal

pub filled-requires : goal.filled-requires
filled-requires c = record { named = can_be_filled c.args.text.now.parts c.requires.named }

pub of_graph-requires-clause-limits : goal.of_graph-requires-clause-limits
of_graph-requires-clause-limits c = within_limits (program_of c.args.program.now) (typing_at c.args.typing.now) c.args.names.now
    c.args.text.now c.in_ok-nodes.nodes c.in_ok-graph.graph c.proof.result.now.steps c.read_certificates_keep_limits.ensures
    c.is_good.ensures.good c.requires.read c.in_ok-nodes.ensures c.in_ok-graph.ensures.graph c.proof.ensures
