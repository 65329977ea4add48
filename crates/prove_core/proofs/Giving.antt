-- What is given, by what was found of its bytes.
use Rattle.std.proofs.Common.{◌≡◌, ◌<◌, ◌≤◌, ℕ, List, length, ap}
use Rattle.serde_json.specs.Written.{compact_text}
use Rattle.abs_cells.specs.AbstractStates.{AbstractState}
use Rattle.class_program.specs.Programs.{Program}
use Rattle.frame_types.specs.Tables.{CodeTypes}
use Rattle.cert_form.specs.cert_write.Data.{certificate, content_of}
use Rattle.descent.specs.declared.proof.ProofStep.{ProofStep}
use Rattle.term_graph.specs.Graphs.{GraphNode}
use Rattle.prove_core.specs.Answers.{IsCertificate, SaysValid}
use Rattle.prove_core.specs.Reasons.{Aim, IsTooLong}
use Rattle.prove_core.specs.Reasons.{aim_of}
use Rattle.prove_core.specs.inner.Words.{IsProved}

pub is_certificate : (aim : Aim) (names : List (List ℕ)) (nodes : List GraphNode) (cuts : List ℕ) (steps : List ProofStep)
    (bytes : List ℕ) → bytes ≡ compact_text (certificate names (content_of nodes cuts steps)) → length bytes ≤ 16777216
    → SaysValid aim names bytes → IsCertificate aim names bytes
is_certificate aim names nodes cuts steps bytes e short valid = record
    { short = short; form = record { content = content_of nodes cuts steps; is = e }; says = valid }

pub too_long : (p : Program) (typing : ℕ → CodeTypes) (root : AbstractState) (names : List (List ℕ)) (nodes : List GraphNode)
    (cuts : List ℕ) (steps : List ProofStep) (bytes : List ℕ)
    → bytes ≡ compact_text (certificate names (content_of nodes cuts steps)) → 16777216 < length bytes
    → IsProved (aim_of p typing root) nodes cuts steps
    → (limit : ℕ) → length nodes ≤ limit → IsTooLong (aim_of p typing root) limit names nodes cuts steps (length bytes)
too_long p typing root names nodes cuts steps bytes e many proved limit few = record {
  few = few;
  links = proved.links;
  whole = proved.whole;
  valid = proved.valid;
  rules = proved.rules;
  paths = proved.paths;
  limits = proved.limits;
  lean = proved.lean;
  size_is = ap (λ (xs : List ℕ). length xs) e;
  many = many;
}
