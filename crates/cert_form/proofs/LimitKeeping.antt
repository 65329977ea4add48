-- What a certificate that was read keeps.
use Rattle.std.proofs.Common.{◌≡◌, ℕ, List, Ok, All}
use Rattle.std.proofs.lemmas.List.Elements.{All-nil, All-push}
use Rattle.json_view.specs.Located.{Located, root_of}
use Rattle.term_graph.specs.Graphs.{GraphPart}
use Rattle.cert_form.specs.Certificates.{CertContent, cert_of, node_in}
use Rattle.cert_form.proofs.Keeping.{entries_keep}
use Rattle.cert_form.proofs.Parts.{cert_is}
use Rattle.cert_form.specs.cert_limits.Limits.{HasFewIds, KeepsLimits, ReadCertificatesKeepLimits}
use Rattle.cert_form.proofs.StateLimits.{node_few}
use Rattle.cert_form.proofs.StepLimits.{proof_keeps}

keeps : (names : List (List ℕ)) (here : Located) (content : CertContent) → cert_of names here ≡ Ok content → KeepsLimits content
keeps names here content e =
    let is = cert_is names here content e in
    let nodes = is.nodes in record {
      steps = proof_keeps here content.proof is.proof;
      ids = entries_keep (λ (parts : List GraphPart). All (λ (part : GraphPart). HasFewIds part.state) parts) (node_in names nodes.second)
          nodes.there content.parts (All-nil (λ (part : GraphPart). HasFewIds part.state))
          (λ f there x k r. All-push (λ (part : GraphPart). HasFewIds part.state) f x k (node_few names nodes.second f there x r)) nodes.read;
    }

pub read_keeps : ReadCertificatesKeepLimits
read_keeps names bytes content says = keeps names (root_of says.0) content says.1.1
