-- There is a new certificate exactly where `check` accepts the old one, and every other answer is that of `check`.
use Rattle.std.specs.Prelude.{◌↔◌}
use Rattle.std.proofs.Common.{◌≡◌, ℕ, List, Result, Ok, Err, inl, inr, refl, ap, arith}
use Rattle.class_program.specs.Programs.{Program}
use Rattle.frame_types.specs.Tables.{CodeTypes}
use Rattle.input_desc.specs.declared.desc.Desc.{Desc}
use Rattle.input_steps.specs.declared.refused.Refused.{Refused}
use Rattle.input_steps.specs.declared.refused.Refused.TheVariants.{At}
use Rattle.input_steps.specs.declared.refused.Place.{Place}
use Rattle.input_steps.specs.declared.refused.Fault.{Fault}
use Rattle.term_graph.specs.Graphs.{GraphNode}
use Rattle.cert_form.specs.Certificates.{CertContent}
use Rattle.graph_fill.specs.ChildrenOfStates.{IsFilledGraph}
use Rattle.cert_check.specs.Parts.{case_of}
use Rattle.input_desc.specs.Initial.{initial_of}
use Rattle.desc_steps.proofs.Answering.{files_turned}
use Rattle.check_call.specs.declared.outcome.Outcome.{Outcome}
use Rattle.check_call.specs.Answers.{IsCertText, OfCase, OfCert, OfBytes, SaysAccepted}
use Rattle.check_call.specs.Lines.{accepted}
use Rattle.check_call.proofs.Outcomes.{refusal_status, bytes_turned}
use Rattle.cert_making.specs.migrate_call.Answers.{SaysMigrated, Answers}
use Rattle.cert_making.specs.migrate_call.Laws.{Migrates, MigratesWhatIsAccepted}
use Rattle.cert_making.specs.migrate_call.Texts.{migrated}

module _ (cert desc : List ℕ) (files : List (List ℕ)) where
  -- what is migrated is accepted
  to_check : Migrates cert desc files → OfBytes SaysAccepted cert desc files (Ok accepted)
  to_check m = bytes_turned SaysMigrated SaysAccepted m.outcome accepted (λ case valid e. inl (valid, refl))
      (λ refusal. absurd (omega (arith, refusal_status m.outcome refusal, m.done))) cert desc files m.answer

  -- of one that is accepted the case is valid
  abbrev Found : Program → (ℕ → CodeTypes) → Desc → Type 0
  Found p typing described = (outcome : Outcome) × ((outcome.status ≡ 0) × OfCert SaysMigrated cert p typing described (Ok outcome))

  in_case : (p : Program) (typing : ℕ → CodeTypes) (described : Desc) (content : CertContent) (text : IsCertText p cert content)
      (nodes : List GraphNode) (fills : IsFilledGraph p typing content.parts nodes)
      → OfCase SaysAccepted (case_of p typing (initial_of p described) nodes content.cuts content.proof) (Ok accepted)
      → Found p typing described
  in_case p typing described content text nodes fills (inl v) = (
    migrated (case_of p typing (initial_of p described) nodes content.cuts content.proof),
    (
      refl,
      inr (content, (text, (nodes, (fills, inl (v.0, refl))))),
    ),
  )
  in_case p typing described content text nodes fills (inr f) = absurd (let two = ap (λ (o : Outcome). o.status) f.1.1.1 in omega (arith, two))

  found : (p : Program) (typing : ℕ → CodeTypes) (described : Desc) → OfCert SaysAccepted cert p typing described (Ok accepted)
      → Found p typing described
  found p typing described (inl h) = absurd (let two = ap (λ (o : Outcome). o.status) h.1.1 in omega (arith, two))
  found p typing described (inr h) = in_case p typing described h.0 h.1.0 h.1.1.0 h.1.1.1.0 h.1.1.1.1

  -- what is accepted is migrated
  from_check : OfBytes SaysAccepted cert desc files (Ok accepted) → Migrates cert desc files
  from_check a =
      let text = a.1.1 in
      let world = text.1.1 in
      let entry = world.1.1 in
      let program = entry.1.1 in
      let calls = program.1.1 in
      let typing = calls.1.1 in
      let described = typing.1.1 in
      let is = found program.0 typing.0 described.0 described.1.1 in
      record {
        outcome = is.0;
        done = is.1.0;
        answer = (
          a.0,
          (
            a.1.0,
            (
              text.0,
              (
                text.1.0,
                (
                  world.0,
                  (
                    world.1.0,
                    (
                      entry.0,
                      (
                        entry.1.0,
                        (
                          program.0,
                          (
                            program.1.0,
                            (calls.0, (calls.1.0, (typing.0, (typing.1.0, (described.0, (described.1.0, is.1.1)))))),
                          ),
                        ),
                      ),
                    ),
                  ),
                ),
              ),
            ),
          ),
        );
      }

  -- other outcomes
  same_refusal : (outcome : Outcome) → outcome.status ≡ 2 → Answers cert desc files (Ok outcome) ↔ OfBytes SaysAccepted cert desc files (Ok outcome)
  same_refusal outcome two = (
    bytes_turned SaysMigrated SaysAccepted outcome outcome
        (λ case valid e. absurd (let none = ap (λ (o : Outcome). o.status) e in omega (arith, none, two))) (λ refusal. refl) cert desc files,
    bytes_turned SaysAccepted SaysMigrated outcome outcome
        (λ case valid e. absurd (let none = ap (λ (o : Outcome). o.status) e in omega (arith, none, two))) (λ refusal. refl) cert desc files,
  )

  abbrev at_fault : Place → Fault → Result Outcome Refused
  at_fault place fault = Err (At place fault)

  same_fault : (place : Place) (fault : Fault) → Answers cert desc files (Err (At place fault))
      ↔ OfBytes SaysAccepted cert desc files (Err (At place fault))
  same_fault place fault = (
    files_turned (at_fault place fault) (at_fault place fault) refl (OfCert SaysMigrated cert) (OfCert SaysAccepted cert)
        (λ p typing described none. absurd none) desc files,
    files_turned (at_fault place fault) (at_fault place fault) refl (OfCert SaysAccepted cert) (OfCert SaysMigrated cert)
        (λ p typing described none. absurd none) desc files,
  )

pub what_is_accepted : MigratesWhatIsAccepted
what_is_accepted cert desc files = record {
  done = (to_check cert desc files, from_check cert desc files);
  refused = same_refusal cert desc files;
  at = same_fault cert desc files;
}
