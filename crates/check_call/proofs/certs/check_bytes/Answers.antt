use Rattle.class_program.specs.Views.{program_of}
use Rattle.code_verify.specs.Typings.{typing_at}
use Rattle.check_call.proofs.Saying.{said_ends}
use Rattle.check_call.proofs.certs.check_bytes.Goals as goal

pub returns-clause-ends : goal.returns-clause-ends
returns-clause-ends c = said_ends c.args.cert.now (program_of c.args.program.now) (typing_at c.args.typing.now) c.args.desc.now
    c.in_ok-names.names c.in_ok-root.root c.in_ok-verdict.verdict c.said.result c.in_ok-names.ensures c.in_ok-root.ensures
    c.in_ok-verdict.ensures c.said.ensures c.certified_runs_end.ensures c.is_good.ensures.closed c.is_good.ensures.widths
    c.requires.typing c.requires.own
