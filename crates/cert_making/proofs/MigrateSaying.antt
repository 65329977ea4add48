-- What is said of a certificate, and that it is read again.
use Rattle.std.proofs.Common.{◌≡◌, ◌∙◌, ◌++◌, ◌∷◌, [], ◌≤◌, ℕ, List, length, Result, Ok, Err, inl, sym, ap, subst, arith}
use Rattle.std.specs.Prelude.{IfOk, IsTrue}
use Rattle.std.specs.List.{list_all}
use Rattle.class_base.specs.ClassNames.{is_class_name}
use Rattle.serde_json.specs.Written.{compact_text}
use Rattle.abs_cells.specs.AbstractStates.{AbstractState}
use Rattle.class_program.specs.Good.{IsGood}
use Rattle.class_program.specs.Programs.{Program, IsClosed}
use Rattle.frame_types.specs.Tables.{CodeTypes}
use Rattle.input_desc.specs.declared.desc.Desc.{Desc}
use Rattle.input_desc.specs.Initial.{initial_of}
use Rattle.input_steps.specs.declared.refused.Refused.{Refused}
use Rattle.input_steps.specs.declared.refused.Refused.TheVariants.{At, Memory}
use Rattle.descent.specs.declared.proof.ProofStep.{ProofStep}
use Rattle.term_graph.specs.Graphs.{GraphNode}
use Rattle.graph_fill.specs.ChildrenOfStates.{IsFilledGraph}
use Rattle.cert_form.specs.declared.fault.CertFault.{CertFault}
use Rattle.cert_form.specs.declared.fault.CertFault.TheVariants as certs
use Rattle.cert_form.specs.Certificates.{CertContent, cert_of, SaysOf, AnswersText}
use Rattle.cert_check.specs.Parts.{case_of}
use Rattle.cert_check.specs.Valid.{Case, IsValid}
use Rattle.cert_form.specs.cert_limits.Limits.{ReadCertificatesKeepLimits}
use Rattle.cert_form.specs.cert_write.Data.{content_of, certificate}
use Rattle.cert_form.specs.cert_write.Readable.{IsReadableGraph}
use Rattle.desc_steps.specs.Answers.{AnswersAs}
use Rattle.desc_steps.specs.Names.{names_of}
use Rattle.prove_core.specs.Stored.{IsStoredGraph}
use Rattle.prove_core.specs.TextLaws.{GoodGraphsAreReadable}
use Rattle.check_call.specs.declared.outcome.Outcome.{Outcome}
use Rattle.check_call.specs.Answers.{OfCase}
use Rattle.check_call.specs.Lines.{refused_at}
use Rattle.check_call.specs.Answers.{IsSaidOfText}
use Rattle.cert_making.specs.migrate_call.Answers.{SaysMigrated}
use Rattle.cert_making.specs.migrate_call.Texts.{migrated}
use Rattle.cert_making.specs.migrate_call.inner.Words.{IsWithinLimits, WasRead, IsWrittenIfDone, IsWrittenOf, IsWrittenOfIfDone, AreNames}
use Rattle.cert_making.specs.migrate_call.inner.Words.{IsWrittenAgainIfDone}
use Rattle.cert_making.proofs.Again.{readable}
use Rattle.cert_making.proofs.FewIds.{few_ids}

abbrev Answer : Type 0
Answer = Result Outcome Refused

-- ---- graphs

-- what is written by the names of a program's classes is what is to be said
abbrev written_by : List (List ℕ) → List GraphNode → List ℕ → List ProofStep → Outcome
written_by names nodes cuts steps = record { status = 0; out = compact_text (certificate names (content_of nodes cuts steps)) ++ 10 ∷ [] }

module _ (p : Program) (typing : ℕ → CodeTypes) (root : AbstractState) (names : List (List ℕ)) (nodes : List GraphNode)
    (cuts : List ℕ) (steps : List ProofStep) (named : AreNames p names) where
  abbrev own : Case
  own = case_of p typing root nodes cuts steps

  is_own : (outcome : Outcome) → outcome ≡ written_by names nodes cuts steps → outcome ≡ migrated own
  is_own outcome e = e ∙ ap (λ (ns : List (List ℕ)). written_by ns nodes cuts steps) named.own

  pub case_migrated : (result : Answer) → IsValid own → AnswersAs (written_by names nodes cuts steps) result
      → OfCase SaysMigrated own result
  case_migrated (Ok outcome) valid said = inl (valid, is_own outcome said)
  case_migrated (Err (At place fault)) valid said = said
  case_migrated (Err Memory) valid said = tt

  pub case_written : (result : Answer) → GoodGraphsAreReadable → IsClosed p → length nodes ≤ 20000 → IsWithinLimits nodes steps → IsStoredGraph nodes
      → IsValid own → AnswersAs (written_by names nodes cuts steps) result
      → (IsReadableGraph names nodes cuts steps → IfOk result (λ outcome. SaysOf (cert_of names)
      (compact_text (certificate names (content_of nodes cuts steps))) (Ok (content_of nodes cuts steps))))
      → IsWrittenIfDone own result
  case_written (Ok outcome) law closed few limits stored valid said again = λ done. record {
    valid = valid;
    is = is_own outcome said;
    again = subst (λ (ns : List (List ℕ)). SaysOf (cert_of ns) (compact_text (certificate ns (content_of nodes cuts steps)))
        (Ok (content_of nodes cuts steps))) named.own (again (readable p typing root names nodes cuts steps law closed named few limits stored valid));
  }
  case_written (Err refused) law closed few limits stored valid said again = tt

-- a refusal claims nothing
pub refused_unwritten : (case : Case) (item : ℕ) (cause : List ℕ) (result : Answer) → AnswersAs (refused_at item cause) result
    → IsWrittenIfDone case result
refused_unwritten case item cause (Ok outcome) said = λ done. absurd (omega (arith, ap (λ (o : Outcome). o.status) said, done))
refused_unwritten case item cause (Err refused) said = tt

-- ---- what a certificate says

-- what was read is within the limits, when it is filled
pub within_limits : (p : Program) (typing : ℕ → CodeTypes) (names : List (List ℕ)) (content : CertContent) (nodes graph : List GraphNode)
    (steps : List ProofStep) → ReadCertificatesKeepLimits → IsGood p → WasRead names content → IsFilledGraph p typing content.parts nodes
    → graph ≡ nodes → steps ≡ content.proof → IsWithinLimits graph steps
within_limits p typing names content nodes graph steps law good read filled same own =
    let keeps = law names read.0 content read.1 in
    subst (λ (ns : List GraphNode). IsWithinLimits ns steps) (sym same) (subst (IsWithinLimits nodes) (sym own)
    (record { ids = few_ids p typing content.parts nodes good keeps.ids filled; proof = keeps.steps }))

pub content_written : (p : Program) (typing : ℕ → CodeTypes) (root : AbstractState) (content : CertContent) (nodes : List GraphNode)
    (result : Answer) → IsFilledGraph p typing content.parts nodes
    → IsWrittenIfDone (case_of p typing root nodes content.cuts content.proof) result → IsWrittenOfIfDone p typing root content result
content_written p typing root content nodes (Ok outcome) filled h = λ done. record { nodes = nodes; filled = filled; written = h done }
content_written p typing root content nodes (Err refused) filled h = tt

-- ---- the bytes

module _ (cert : List ℕ) (p : Program) (typing : ℕ → CodeTypes) (desc : Desc) where
  pub cert_written : (names : List (List ℕ)) (root : AbstractState) (content : CertContent) (result : Answer) → names ≡ names_of p.world
      → root ≡ initial_of p desc → AnswersText (cert_of names) cert (Ok content) → IsWrittenOfIfDone p typing root content result
      → IsWrittenAgainIfDone cert p typing desc result
  cert_written names root content (Ok outcome) e is said h = λ done. record {
    content = content;
    says = subst (λ (ns : List (List ℕ)). SaysOf (cert_of ns) cert (Ok content)) e said;
    written = subst (λ (state : AbstractState). IsWrittenOf p typing state content outcome) is (h done);
  }
  cert_written names root content (Err refused) e is said h = tt

  pub none_written : (fault : CertFault) (result : Answer) → IsSaidOfText fault result → IsWrittenAgainIfDone cert p typing desc result
  none_written (certs.Json fault) (Ok outcome) said = λ done. absurd (omega (arith, ap (λ (o : Outcome). o.status) said, done))
  none_written (certs.Limit place) (Ok outcome) said = λ done. absurd (omega (arith, ap (λ (o : Outcome). o.status) said, done))
  none_written certs.Memory (Ok outcome) said = absurd (cc)
  none_written fault (Err refused) said = tt

-- ---- what is handed on

pub are_names : (p : Program) (names : List (List ℕ)) → names ≡ names_of p.world → IsTrue (list_all is_class_name (names_of p.world))
    → AreNames p names
are_names p names own named = record {
  named = subst (λ (ns : List (List ℕ)). IsTrue (list_all is_class_name ns)) (sym own) named;
  own = own;
}

pub was_read : (names : List (List ℕ)) (bytes : List ℕ) (content : CertContent) → AnswersText (cert_of names) bytes (Ok content)
    → WasRead names content
was_read names bytes content says = (bytes, says)
