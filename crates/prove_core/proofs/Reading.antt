-- What is found is accepted: its text is read again, is filled to the graph itself, and is valid.
use Rattle.std.proofs.Common.{◌≡◌, ◌<◌, ◌≤◌, ℕ, true, List, map, length, Some, slice_get, Ok, refl, subst, arith}
use Rattle.std.specs.Prelude.{All, IsTrue}
use Rattle.std.specs.List.{list_all}
use Rattle.std.proofs.lemmas.List.Elements.{All-from_recursion, All-weaker}
use Rattle.list_views.proofs.Quantified.{all_places}
use Rattle.class_base.specs.ClassNames.{is_class_name}
use Rattle.class_read.specs.Content.{ClassContent}
use Rattle.class_program.specs.Good.{IsGood}
use Rattle.class_program.specs.Programs.{Program, IsClosed as IsClosedProgram}
use Rattle.class_program.specs.Widths.{HasWidths}
use Rattle.frame_types.specs.Tables.{CodeTypes}
use Rattle.code_verify.specs.Typings.{IsTypingOf}
use Rattle.abs_cells.specs.AbstractStates.{AbstractState}
use Rattle.descent.specs.declared.proof.ProofStep.{ProofStep}
use Rattle.term_graph.specs.Graphs.{GraphNode}
use Rattle.plan_links.specs.Laws.{LinksFit}
use Rattle.cert_verdict.specs.GraphFillChildrenOfStates.{IsFilledGraph}
use Rattle.cert_verdict.proofs.GraphFillOnce.{good_fills}
use Rattle.cert_form.specs.declared.fault.CertFault.{CertFault}
use Rattle.cert_form.specs.Certificates.{CertContent, cert_of, SaysOf}
use Rattle.cert_verdict.specs.CertCheckCause.{Cause}
use Rattle.cert_verdict.specs.CertCheckParts.{case_of}
use Rattle.cert_verdict.specs.CertCheckValid.{IsFirstFault}
use Rattle.cert_form.specs.cert_write.Data.{content_of}
use Rattle.cert_form.specs.cert_write.Readable.{IsNumber, IsReadableGraph}
use Rattle.cert_verdict.specs.declared.verdict.CertVerdict.{CertVerdict}
use Rattle.cert_verdict.specs.declared.verdict.CertVerdict.TheVariants.{Accepted, Refused, NoText}
use Rattle.cert_verdict.specs.Verdicts.{SaysFaulty, SaysNone, Judges}
use Rattle.cert_verdict.proofs.OneText.{same_content, never_none, valid_or_fault}
use Rattle.prove_core.specs.Stored.{IsStoredGraph}
use Rattle.prove_core.proofs.Names.{names_differ}
use Rattle.prove_core.proofs.NodeCounts.{few_ids}
use Rattle.prove_core.proofs.Parts.{written_parts}
use Rattle.prove_core.proofs.States.{good_graphs_are_readable}
use Rattle.prove_core.proofs.Steps.{proofs_are_readable}
use Rattle.prove_core.specs.Heads.{is_head}
use Rattle.prove_core.specs.Reasons.{aim_of}
use Rattle.prove_core.specs.inner.Words.{IsProved}
use Rattle.prove_core.proofs.ReadableRules.{rules_are_readable}
use Rattle.prove_core.proofs.Readying.{ready}

module _ (p : Program) (typing : ℕ → CodeTypes) (root : AbstractState) (nodes : List GraphNode) (cuts : List ℕ)
    (steps : List ProofStep) (proved : IsProved (aim_of p typing root) nodes cuts steps) where
  small_nodes : IsGood p → length root.cells ≤ 512 → All (λ (node : GraphNode). length node.state.cells ≤ 512) nodes
  small_nodes good few = All-from_recursion (λ (node : GraphNode). length node.state.cells ≤ 512) nodes
      (all_places (λ (node : GraphNode). length node.state.cells ≤ 512) nodes (λ n node e.
      few_ids p typing (is_head p) root nodes good few proved.whole.disciplined n node.state node.by e))

  -- all of it is within the limits of the text
  pub readable : LinksFit → IsGood p → IsClosedProgram p → HasWidths p → IsTypingOf p typing → length nodes ≤ 20000
      → length root.cells ≤ 512 → IsStoredGraph nodes → (names : List (List ℕ)) → IsTrue (list_all is_class_name names)
      → names ≡ map (λ (class : ClassContent). class.name) p.world → IsReadableGraph names nodes cuts steps
  readable fit good closed widths typing_is few root_few stored names named own =
      let whole = proved.whole in
      let links = proved.links in
      let is_ready = ready fit p typing nodes root links cuts widths typing_is whole.good whole.targets in
      let rules = rules_are_readable nodes links cuts proved.rules few is_ready proved.paths in
      record {
        named = named;
        distinct = λ m n name e f. names_differ p.world closed.known.linked m n name
            (subst (λ (ns : List (List ℕ)). slice_get ns m ≡ Some name) own e)
            (subst (λ (ns : List (List ℕ)). slice_get ns n ≡ Some name) own f);
        numbers = All-weaker (λ (cut : ℕ). cut < length nodes) IsNumber (λ cut low. omega (arith, low, few)) cuts whole.targets.within;
        few = few;
        nodes = good_graphs_are_readable p typing nodes root links names own whole.good few stored (small_nodes good root_few);
        steps = proofs_are_readable proved.rules steps rules proved.closed proved.limits proved.lean;
      }

  module _ (names : List (List ℕ)) (bytes : List ℕ) (says : SaysOf (cert_of names) bytes (Ok (content_of nodes cuts steps))) where
    fails_not : (content : CertContent) (filled : List GraphNode) (item : ℕ) (cause : Cause) → content ≡ content_of nodes cuts steps
        → IsFilledGraph p typing content.parts filled
        → IsFirstFault (case_of p typing root filled content.cuts content.proof) item cause → ⊥
    fails_not content filled item cause same is fails =
        let own = subst (λ (c : CertContent). IsFilledGraph p typing c.parts filled) same is in
        let own_fails = subst (λ (c : CertContent). IsFirstFault (case_of p typing root filled c.cuts c.proof) item cause) same fails in
        let graph = good_fills p typing nodes filled root proved.links (content_of nodes cuts steps).parts proved.whole.good
        (written_parts true nodes) own in
        valid_or_fault (case_of p typing root nodes cuts steps) item cause proved.valid
        (subst (λ (ns : List GraphNode). IsFirstFault (case_of p typing root ns cuts steps) item cause) graph own_fails)

    never_refused : (item : ℕ) (cause : Cause) → SaysFaulty p typing root names bytes item cause → ⊥
    never_refused item cause h = fails_not h.content h.nodes item cause
        (same_content names bytes (content_of nodes cuts steps) says h.content h.says) h.filled h.fails

    never_unread : (fault : CertFault) → SaysNone names bytes fault → ⊥
    never_unread fault h = never_none names bytes (content_of nodes cuts steps) says fault h

    -- so there is one verdict
    pub only_accepted : (verdict : CertVerdict) → Judges p typing root names bytes verdict → verdict ≡ Accepted
    only_accepted Accepted judges = refl
    only_accepted (Refused item cause) judges = absurd (never_refused item cause judges)
    only_accepted (NoText fault) judges = absurd (never_unread fault judges)
