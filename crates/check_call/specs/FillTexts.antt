-- The text of a filled certificate: in form 1, each node with its state.
use Rattle.std.specs.Prelude.{ℕ, List, ◌++◌, false, codes}
use Rattle.serde_json.specs.Written.{compact_text}
use Rattle.term_graph.specs.Graphs.{GraphNode}
use Rattle.descent.specs.declared.proof.ProofStep.{ProofStep}
use Rattle.cert_form.specs.cert_write.Data.{content_in, certificate_in}

-- the compact text of the certificate of a graph with cuts and a proof, in form 1 over the names of classes, and a newline
abbrev pub filled_text : List (List ℕ) → List GraphNode → List ℕ → List ProofStep → List ℕ
filled_text names nodes cuts proof = compact_text (certificate_in false names (content_in false nodes cuts proof)) ++ codes "\n"
