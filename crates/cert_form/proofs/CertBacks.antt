-- Certificates are read again.
use Rattle.std.proofs.Common.{◌≡◌, ℕ, ◌≤◌, Bool, true, false, List, [], map, length, Result, Ok, Err, IfOk, refl, sym, subst}
use Rattle.serde_json.specs.Data.{Data}
use Rattle.json_view.specs.Answers.{Reads}
use Rattle.json_view.specs.Names.{least_unlisted, first_missing}
use Rattle.json_view.specs.Reading.{only_of, field_of, int_of}
use Rattle.term_graph.specs.Graphs.{GraphNode, GraphPart}
use Rattle.descent.specs.declared.proof.ProofStep.{ProofStep}
use Rattle.cert_form.specs.Fields.{only, field}
use Rattle.cert_form.specs.Certificates.{CertContent, node_in, nodes_of, form_of, cert_of, SaysOf}
use Rattle.cert_form.specs.cert_write.Data.{natural, list, node, form_number, content_in, certificate_in}
use Rattle.cert_form.specs.cert_write.Readable.{AreParts, IsReadable, IsReadableGraph}
use Rattle.cert_form.proofs.Backs.{Back, then_back, most_back, list_back}
use Rattle.cert_form.proofs.WordBacks.{AreNames}
use Rattle.cert_form.proofs.NodeBacks.{numbers_back, each_part, graph_parts, graph_count}
use Rattle.cert_form.proofs.StepBacks.{proof_back}

form_back : (second : Bool) → Back form_of (natural (form_number second)) second
unfolding form_of int_of
form_back true place = refl
form_back false place = refl

nodes_back : (second : Bool) (names : List (List ℕ)) (parts : List GraphPart) → AreNames names → length parts ≤ 20000
    → AreParts second names [] parts → Back (nodes_of names second) (list (map (node names) parts)) parts
unfolding nodes_of
nodes_back second names parts all few are place = most_back 20000 _ (node names) parts parts few
    (list_back (node_in names second) (node names) parts (each_part second names [] parts all are)) place

pub cert_back : (second : Bool) (names : List (List ℕ)) (content : CertContent) → IsReadable second names content
    → Back (cert_of names) (certificate_in second names content) content
unfolding cert_of only only_of least_unlisted first_missing field field_of
cert_back second names content is place =
    then_back _ _ second _ (form_back second _)
    (then_back _ _ content.cuts _ (numbers_back content.cuts is.cuts _)
    (then_back _ _ content.parts _ (nodes_back second names content.parts (record { named = is.named; distinct = is.distinct })
    is.few is.parts _)
    (then_back _ _ content.proof _ (proof_back content.proof is.proof _) refl)))

-- bytes that read as what is written say the content
pub says : (second : Bool) (names : List (List ℕ)) (content : CertContent) (bytes : List ℕ)
    → Reads bytes (certificate_in second names content) → IsReadable second names content → SaysOf (cert_of names) bytes (Ok content)
says second names content bytes reads is = (certificate_in second names content, (reads, cert_back second names content is []))

pub graph_is : (second : Bool) (names : List (List ℕ)) (graph : List GraphNode) (cuts : List ℕ) (proof : List ProofStep)
    → IsReadableGraph names graph cuts proof → IsReadable second names (content_in second graph cuts proof)
graph_is second names graph cuts proof is =
    record {
      named = is.named;
      distinct = is.distinct;
      cuts = is.numbers;
      few = subst (λ (n : ℕ). n ≤ 20000) (sym (graph_count second graph)) is.few;
      parts = graph_parts second names graph is.nodes;
      proof = is.steps;
    }

-- the same of what may be bytes
pub says_if : {E : Type 0} (second : Bool) (names : List (List ℕ)) (content : CertContent) (value : Data) (result : Result (List ℕ) E)
    → value ≡ certificate_in second names content → IfOk result (λ bytes. Reads bytes value) → IsReadable second names content
    → IfOk result (λ bytes. SaysOf (cert_of names) bytes (Ok content))
says_if second names content value (Ok bytes) e reads is = says second names content bytes
    (subst (λ (v : Data). Reads bytes v) e reads) is
says_if second names content value (Err error) e reads is = tt
