use Rattle.std.proofs.Common.{◌∙◌, ℕ, List, Some, IsUtf8, ap, sym, subst}
use Rattle.serde_json.specs.Data.{Data}
use Rattle.serde_json.specs.Read.{read}
use Rattle.serde_json.specs.View.{view}
use Rattle.serde_json.specs.Written.{compact_text, has_float}
use Rattle.cert_form.proofs.Plain.{whole, shallow}
use Rattle.cert_form.proofs.cert_write.certs.text.Goals as goal

pub returns-clause-text : goal.returns-clause-text
returns-clause-text c =
    let plain = whole c.args.second c.args.cuts.now (view c.args.nodes) c.args.proof.now.steps
    (record { floats = c.requires.floats; nests = c.requires.nests }) in
    c.from_vec.ensures ∙ c.in_ok-to_vec.ensures.text (ap (λ (d : Data). has_float d) c.in_ok-value.ensures ∙ plain.floats)
    ∙ ap (λ (d : Data). compact_text d) c.in_ok-value.ensures

pub returns-clause-reads : goal.returns-clause-reads
returns-clause-reads c =
    let plain = whole c.args.second c.args.cuts.now (view c.args.nodes) c.args.proof.now.steps
    (record { floats = c.requires.floats; nests = c.requires.nests }) in (
      subst (λ (bs : List ℕ). IsUtf8 bs) (sym c.from_vec.ensures) c.in_ok-to_vec.ensures.utf8,
      ap (λ (bs : List ℕ). read bs)
          c.from_vec.ensures ∙ c.in_ok-to_vec.ensures.reads_back (shallow (view c.in_ok-value.value) _ c.in_ok-value.ensures plain)
          ∙ ap (λ (d : Data). Some d) c.in_ok-value.ensures,
    )
