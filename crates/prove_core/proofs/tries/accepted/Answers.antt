use Rattle.std.proofs.Common.{ℕ, List, subst, arith}
use Rattle.class_program.specs.Views.{program_of}
use Rattle.code_verify.specs.Typings.{typing_at}
use Rattle.cert_verdict.specs.declared.verdict.CertVerdict.{CertVerdict}
use Rattle.cert_verdict.specs.Verdicts.{Judges}
use Rattle.prove_core.specs.Answers.{SaysValid}
use Rattle.prove_core.specs.Reasons.{aim_of}
use Rattle.prove_core.proofs.Giving.{is_certificate}
use Rattle.prove_core.proofs.tries.accepted.Goals as goal

pub returns-in-Accepted : goal.returns-in-Accepted
returns-in-Accepted g c =
    let p = program_of c.args.program.now in
    let typing = typing_at c.args.typing.now in
    let root = c.args.root.now in
    let names = c.args.names.now in
    let accepted = subst (λ (verdict : CertVerdict). Judges p typing root names c.as_slice.result.now verdict) c.in-Accepted.is
    c.in_ok-verdict.ensures in
    let valid = subst (λ (bytes : List ℕ). SaysValid (aim_of p typing root) names bytes) c.as_slice.ensures accepted in
    is_certificate (aim_of p typing root) names c.args.graph.now c.args.cuts.now c.args.proof.now.steps c.in_ok-bytes.bytes
    c.in_ok-bytes.ensures.text (omega (arith, c.len.ensures, c.if-len-gt-MOST_CERTIFICATE_BYTES.false)) valid
