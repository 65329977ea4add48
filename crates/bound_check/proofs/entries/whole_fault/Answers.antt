use Rattle.std.proofs.Common.{ℕ, ℤ, List, ◌∙◌, sym, subst}
use Rattle.lin_core.specs.Weights.{AreWeights}
use Rattle.bound_check.proofs.Limited.{whole_good}
use Rattle.bound_check.proofs.entries.whole_fault.Goals as goal

pub rules_fault-requires-clause-ready : goal.rules_fault-requires-clause-ready
rules_fault-requires-clause-ready c = (
  whole_good c.args.step.now c.args.entry.now c.as_slice-forms.result.now c.requires.step c.requires.entry c.requires.rise
      (c.as_slice-forms.ensures ∙ c.in_ok-whole.ensures),
  subst (λ (w : List (ℕ × ℤ)). AreWeights w) (sym c.as_slice-weights.ensures) c.requires.step.weights,
)

pub rules_fault-requires-else-step-clause-ready : goal.rules_fault-requires-else-step-clause-ready
rules_fault-requires-else-step-clause-ready c =
    whole_good c.args.step.now c.args.entry.now c.as_slice-forms.result.now c.requires.step c.requires.entry c.requires.rise
    (c.as_slice-forms.ensures ∙ c.in_ok-whole.ensures)
