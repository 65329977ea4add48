-- What an answer of `prove` says: a certificate that `check` accepts for the same files, or a reason.
use Rattle.std.proofs.Common.{◌≡◌, ◌⊎◌, ◌≤◌, ℕ, List, length, get_or, Some, None, Result, Ok, refl, sym, ap, ◌∙◌, inl, inr}
use Rattle.abs_cells.specs.declared.packed.PackedPairs.{PackedPairs}
use Rattle.cert_form.specs.Limits.{most_certificate_bytes}
use Rattle.class_program.specs.Programs.{Program}
use Rattle.desc_steps.proofs.Said.{Given, given, said_of_files}
use Rattle.prove_core.specs.declared.found.Reason.{Reason}
use Rattle.prove_core.specs.declared.found.Reason.TheVariants.{Nodes, Ids, Paths, Bytes, Component}
use Rattle.prove_call.specs.declared.answer.Answer.{Answer}
use Rattle.prove_call.specs.Answers as prove
use Rattle.prove_call.specs.Lines.{yes_text, reason_text}
use Rattle.prove_call.specs.Answers.{yes_with}
use Rattle.check_call.specs.Answers as check
use Rattle.check_call.specs.Lines as lines
use Rattle.jterm.specs.GenerateAnswers.{maybe_of}
use Rattle.jterm.specs.GenerateLines.{first_line}

-- ---- texts

-- the text of a reason begins with MAYBE, in its first line
pub maybe_first : (p : Program) (reason : Reason PackedPairs) → get_or (reason_text p reason) 0 0 ≡ 77
maybe_first p (Nodes nodes) = refl
maybe_first p (Ids nodes) = refl
maybe_first p (Paths nodes) = refl
maybe_first p (Bytes cert size) = refl
maybe_first p (Component cert left) = refl

maybe_line : (p : Program) (reason : Reason PackedPairs) → get_or (first_line (reason_text p reason)) 0 0 ≡ 77
maybe_line p (Nodes nodes) = refl
maybe_line p (Ids nodes) = refl
maybe_line p (Paths nodes) = refl
maybe_line p (Bytes cert size) = refl
maybe_line p (Component cert left) = refl

-- ---- answers

-- a certificate, which a check of the same files accepts
pub record Certifies (desc : List ℕ) (files : List (List ℕ)) (answer : Answer) : Type 0 where
  pub cert : List ℕ
  pub short : length cert ≤ most_certificate_bytes
  pub accepted : check.Answers cert desc files (Ok lines.accepted)
  pub is : answer ≡ yes_with cert

-- a reason, and what the text begins with
pub record Reasons (answer : Answer) : Type 0 where
  pub why : Reason PackedPairs
  pub is : answer ≡ maybe_of answer.out why
  pub first : get_or answer.out 0 0 ≡ 77
  pub line : get_or (first_line answer.out) 0 0 ≡ 77

module _ (nodes : ℕ) (desc : List ℕ) (files : List (List ℕ)) (answer : Answer) (answers : prove.Answers nodes desc files (Ok answer)) where
  abbrev here : Given (prove.SaysOf nodes) answer
  here = given (prove.SaysOf nodes) desc files answer answers

  abbrev Said : Type 0
  Said = prove.IsYes here.program here.typing here.described answer ⊎ prove.IsMaybe nodes here.program here.typing here.described answer

  by : Said → Certifies desc files answer ⊎ Reasons answer
  by (inl sure) =
      let valid = sure.is.says in
      let built : check.AnswersCert sure.cert here.program here.typing here.described (Ok lines.accepted) =
      inr (valid.content, (valid.says, (valid.nodes, (valid.filled, inl (valid.valid, refl))))) in
      inl
      (record {
        cert = sure.cert;
        short = sure.is.short;
        accepted = said_of_files (prove.SaysOf nodes) (check.AnswersCert sure.cert) desc files answer lines.accepted answers built;
        is = λ i. record { status = sure.status i; out = sure.out i; reason = sure.reason i };
      })
  by (inr maybe) =
      let text : answer.out ≡ reason_text here.program maybe.reason = maybe.out in
      inr
      (record {
        why = maybe.reason;
        is = λ i. record { status = maybe.status i; out = answer.out; reason = maybe.kept i };
        first = ap (λ (bs : List ℕ). get_or bs 0 0) text ∙ maybe_first here.program maybe.reason;
        line = ap (λ (bs : List ℕ). get_or (first_line bs) 0 0) text ∙ maybe_line here.program maybe.reason;
      })

  pub certifies_or_reasons : Certifies desc files answer ⊎ Reasons answer
  certifies_or_reasons = by here.said
