use Rattle.std.proofs.Common.{ℕ, List, Ok, sym, subst, arith}
use Rattle.class_program.specs.Views.{program_of}
use Rattle.code_verify.specs.Typings.{typing_at}
use Rattle.cert_form.specs.Certificates.{cert_of, SaysOf}
use Rattle.cert_form.specs.cert_write.Data.{content_of}
use Rattle.cert_verdict.specs.declared.verdict.CertVerdict.{CertVerdict}
use Rattle.cert_verdict.specs.Verdicts.{Judges}
use Rattle.prove_core.specs.Answers.{SaysValid}
use Rattle.prove_core.specs.Reasons.{aim_of}
use Rattle.prove_core.specs.inner.Words.{IsProved}
use Rattle.prove_core.proofs.Giving.{is_certificate}
use Rattle.prove_core.proofs.Reading.{readable, only_accepted}
use Rattle.prove_core.proofs.finding.given.Goals as goal

pub returns : goal.returns
returns g c =
    let p = program_of c.args.program.now in
    let typing = typing_at c.args.typing.now in
    let root = c.args.root.now in
    let names = c.args.names.now in
    let accepted = subst (λ (verdict : CertVerdict). Judges p typing root names c.as_slice-2.result.now verdict) c.in-Accepted.is
    c.in_ok-verdict.ensures in
    let valid = subst (λ (bytes : List ℕ). SaysValid (aim_of p typing root) names bytes) c.as_slice-2.ensures accepted in
    λ limit few. is_certificate (aim_of p typing root) names c.args.cert.graph c.as_slice.result.now c.args.cert.proof.steps
    c.in_ok-bytes.bytes c.in_ok-bytes.ensures.text (omega (arith, c.len.ensures, c.if-len-gt-MOST_CERTIFICATE_BYTES.false)) valid

-- the bytes say the certificate again, and so there is one verdict on them
pub unreachable-requires : goal.unreachable-requires
unreachable-requires g c =
    let p = program_of c.args.program.now in
    let typing = typing_at c.args.typing.now in
    let root = c.args.root.now in
    let graph = c.args.cert.graph in
    let cuts = c.as_slice.result.now in
    let steps = c.args.cert.proof.steps in
    let names = c.args.names.now in
    let proved = subst (λ (cs : List ℕ). IsProved (aim_of p typing root) graph cs steps) (sym c.as_slice.ensures) c.requires.proved in
    let is = readable p typing root graph cuts steps proved c.links_fit.ensures c.is_good.ensures.good c.is_good.ensures.closed
    c.is_good.ensures.widths c.requires.typing c.requires.few c.requires.root_ids c.graph_is_stored.ensures names c.requires.names
    c.requires.own_names in
    let says = subst (λ (bytes : List ℕ). SaysOf (cert_of names) bytes (Ok (content_of graph cuts steps))) (sym c.as_slice-2.ensures)
    (c.in_ok-bytes.ensures.again is) in
    c.in_default.not-Accepted (only_accepted p typing root graph cuts steps proved names c.as_slice-2.result.now says
    c.in_ok-verdict.verdict c.in_ok-verdict.ensures)
