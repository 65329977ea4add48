-- What is written of a valid certificate that was read is read again.
use Rattle.std.proofs.Common.{◌≡◌, ◌≤◌, ◌<◌, ℕ, List, length, Some, slice_get, subst, arith}
use Rattle.std.proofs.lemmas.List.Elements.{All-weaker}
use Rattle.abs_cells.specs.AbstractStates.{AbstractState}
use Rattle.class_program.specs.Programs.{Program, IsClosed}
use Rattle.frame_types.specs.Tables.{CodeTypes}
use Rattle.descent.specs.declared.proof.ProofStep.{ProofStep}
use Rattle.term_graph.specs.Graphs.{GraphNode}
use Rattle.cert_check.specs.Parts.{case_of}
use Rattle.cert_check.specs.Valid.{IsValid}
use Rattle.cert_form.specs.cert_write.Readable.{IsNumber, IsReadableGraph}
use Rattle.prove_core.specs.Stored.{IsStoredGraph}
use Rattle.prove_core.specs.TextLaws.{GoodGraphsAreReadable}
use Rattle.cert_making.specs.migrate_call.inner.Words.{IsWithinLimits, AreNames}
use Rattle.prove_core.proofs.Names.{names_differ}

pub readable : (p : Program) (typing : ℕ → CodeTypes) (root : AbstractState) (names : List (List ℕ)) (nodes : List GraphNode)
    (cuts : List ℕ) (steps : List ProofStep) → GoodGraphsAreReadable → IsClosed p → AreNames p names → length nodes ≤ 20000 → IsWithinLimits nodes steps
    → IsStoredGraph nodes → IsValid (case_of p typing root nodes cuts steps) → IsReadableGraph names nodes cuts steps
readable p typing root names nodes cuts steps law closed named few limits stored valid = record {
  named = named.named;
  distinct = λ m n name e f. names_differ p.world closed.known.linked m n name
      (subst (λ (ns : List (List ℕ)). slice_get ns m ≡ Some name) named.own e)
      (subst (λ (ns : List (List ℕ)). slice_get ns n ≡ Some name) named.own f);
  numbers = All-weaker (λ (cut : ℕ). cut < length nodes) IsNumber (λ cut low. omega (arith, low, few)) cuts valid.cuts.nodes;
  few = few;
  nodes = law p typing nodes root valid.links names named.own valid.graph few stored limits.ids;
  steps = limits.proof;
}
