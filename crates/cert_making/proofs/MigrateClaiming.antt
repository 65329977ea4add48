-- What the output of `migrate` claims.
use Rattle.std.proofs.Common.{ℕ, List, Result, Ok, Err, true, inl, inr, refl, ap}
use Rattle.class_program.specs.Programs.{Program}
use Rattle.code_verify.specs.Typings.{IsTypingOf, typing_at}
use Rattle.frame_types.specs.Tables.{CodeTypes}
use Rattle.class_program.specs.Views.{program_of}
use Rattle.json_view.specs.Located.{root_of}
use Rattle.input_desc.specs.declared.desc.Desc.{Desc}
use Rattle.input_desc.specs.Initial.{initial_of}
use Rattle.input_steps.specs.declared.refused.Refused.{Refused}
use Rattle.term_graph.specs.Graphs.{GraphNode}
use Rattle.graph_fill.specs.ChildrenOfStates.{IsFilledGraph}
use Rattle.graph_fill.proofs.Lacking.{can_be_filled}
use Rattle.cert_form.specs.Certificates.{CertContent}
use Rattle.cert_form.proofs.Lacking.{lacking_named}
use Rattle.cert_check.specs.Parts.{case_of}
use Rattle.cert_check.specs.Valid.{IsValid}
use Rattle.cert_form.specs.cert_write.Data.{content_of}
use Rattle.desc_steps.specs.declared.given.DescribedProgram.{DescribedProgram}
use Rattle.desc_steps.specs.Answers.{OfFiles}
use Rattle.desc_steps.specs.Given.{IsGiven}
use Rattle.desc_steps.specs.Headline.{NameProgram}
use Rattle.desc_steps.specs.Names.{names_of}
use Rattle.desc_steps.proofs.Answering.{given_goes}
use Rattle.prove_core.proofs.Parts.{written_parts}
use Rattle.check_call.specs.declared.outcome.Outcome.{Outcome}
use Rattle.check_call.specs.Answers.{IsCertText, AnswersCert}
use Rattle.check_call.specs.Lines.{accepted}
use Rattle.cert_making.specs.migrate_call.Headline.{IsMigrated, IsMigratedIfDone}
use Rattle.cert_making.specs.migrate_call.Texts.{second_form}
use Rattle.cert_making.specs.migrate_call.inner.Words.{IsWrittenAgain, IsWrittenAgainIfDone}
use Rattle.cert_making.proofs.SelfFilled.{fills_itself}

-- a certificate whose filled graph is valid is accepted
accepts : (cert : List ℕ) (p : Program) (typing : ℕ → CodeTypes) (desc : Desc) (content : CertContent) (nodes : List GraphNode)
    → IsCertText p cert content → IsFilledGraph p typing content.parts nodes
    → IsValid (case_of p typing (initial_of p desc) nodes content.cuts content.proof) → AnswersCert cert p typing desc (Ok accepted)
accepts cert p typing desc content nodes says filled valid = inr (content, (says, (nodes, (filled, inl (valid, refl)))))

module _ (desc : List ℕ) (files : List (List ℕ)) (given : DescribedProgram) (cert : List ℕ) (outcome : Outcome)
    (answers : OfFiles IsGiven desc files (Ok given)) (named : NameProgram files desc (program_of given.program) given.desc)
    (typed : IsTypingOf (program_of given.program) (typing_at given.typing))
    (again : IsWrittenAgain cert (program_of given.program) (typing_at given.typing) given.desc outcome) where
  abbrev p : Program
  p = program_of given.program

  abbrev typing : ℕ → CodeTypes
  typing = typing_at given.typing

  abbrev was : CertContent
  was = again.content

  abbrev nodes : List GraphNode
  nodes = again.written.nodes

  abbrev now : CertContent
  now = content_of nodes was.cuts was.proof

  abbrev new : List ℕ
  new = second_form (case_of p typing (initial_of p given.desc) nodes was.cuts was.proof)

  says_new : IsCertText p new now
  says_new = again.written.written.again

  valid : IsValid (case_of p typing (initial_of p given.desc) nodes was.cuts was.proof)
  valid = again.written.written.valid

  filled_new : IsFilledGraph p typing now.parts nodes
  filled_new = fills_itself p typing nodes (initial_of p given.desc) valid.links now.parts valid.graph (written_parts true nodes)
      (can_be_filled now.parts (lacking_named (names_of p.world) (root_of says_new.0) now says_new.1.1))

  is_migrated : IsMigrated files desc cert outcome.out
  is_migrated = record {
    new = new;
    out_is = ap (λ (o : Outcome). o.out) again.written.written.is;
    program = p;
    described = given.desc;
    named = named;
    both = record {
      typing = typing;
      typed = typed;
      was = was;
      is = now;
      says_was = again.says;
      says_is = says_new;
      nodes = nodes;
      filled_was = again.written.filled;
      filled_is = filled_new;
      cuts = refl;
      proof = refl;
      second = refl;
    };
    old_accepted = given_goes (AnswersCert cert) desc files given (Ok accepted) answers
        (accepts cert p typing given.desc was nodes again.says again.written.filled valid);
    new_accepted = given_goes (AnswersCert new) desc files given (Ok accepted) answers
        (accepts new p typing given.desc now nodes says_new filled_new valid);
  }

pub claimed : (desc : List ℕ) (files : List (List ℕ)) (given : DescribedProgram) (cert : List ℕ) (result : Result Outcome Refused)
    → OfFiles IsGiven desc files (Ok given) → NameProgram files desc (program_of given.program) given.desc
    → IsTypingOf (program_of given.program) (typing_at given.typing)
    → IsWrittenAgainIfDone cert (program_of given.program) (typing_at given.typing) given.desc result
    → IsMigratedIfDone files desc cert result
claimed desc files given cert (Ok outcome) answers named typed h = λ done. is_migrated desc files given cert outcome answers named typed (h done)
claimed desc files given cert (Err refused) answers named typed h = tt
