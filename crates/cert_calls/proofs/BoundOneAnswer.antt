-- A bound, a certificate, a description and class files have one answer.
use Rattle.std.proofs.Common.{◌≡◌, ◌∙◌, inl, inr, ℕ, List, sym, ap}
use Rattle.cert_check.specs.Valid.{Case, IsValid}
use Rattle.check_call.specs.declared.outcome.Outcome.{Outcome}
use Rattle.check_call.proofs.OneAnswer.{bytes_one}
use Rattle.cert_calls.specs.bound_call.Answers.{SaysBound}
use Rattle.cert_calls.specs.bound_call.Laws.{AnswersAreOne}
use Rattle.cert_calls.specs.bound_call.Lines.{bounded, refused_for}
use Rattle.cert_calls.proofs.OneBound.{bound_one, refusal_one, bound_or_refusal}

says_one : (bytes : List ℕ) (case : Case) (v w : IsValid case) (x y : Outcome) → SaysBound bytes case v x → SaysBound bytes case w y → x ≡ y
says_one bytes case v w x y (inl h) (inl k) =
    h.1.1 ∙ (ap (bounded case.program.world) (bound_one case bytes h.0 k.0 h.1.0 k.1.0) ∙ sym k.1.1)
says_one bytes case v w x y (inl h) (inr k) = absurd (bound_or_refusal case bytes h.0 k.0 h.1.0 k.1.0)
says_one bytes case v w x y (inr h) (inl k) = absurd (bound_or_refusal case bytes k.0 h.0 k.1.0 h.1.0)
says_one bytes case v w x y (inr h) (inr k) = h.1.1 ∙ (ap refused_for (refusal_one case bytes h.0 k.0 h.1.0 k.1.0) ∙ sym k.1.1)

pub answers_one : AnswersAreOne
answers_one bound = bytes_one (SaysBound bound) (says_one bound)
