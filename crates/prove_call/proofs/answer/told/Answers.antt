use Rattle.std.proofs.Common.{ℕ, List, sym, subst}
use Rattle.abs_cells.specs.declared.packed.PackedPairs.{PackedPairs}
use Rattle.class_program.specs.Views.{program_of}
use Rattle.desc_steps.specs.Answers.{AnswersAs}
use Rattle.prove_core.specs.declared.found.Found.{Found}
use Rattle.prove_call.specs.Answers.{yes_with}
use Rattle.prove_call.specs.inner.Said.{Tells}
use Rattle.prove_call.proofs.answer.told.Goals as goal

pub returns-in-Certificate : goal.returns-in-Certificate
returns-in-Certificate c =
    subst (λ (found : Found PackedPairs). Tells (program_of c.args.program.now) found c.yes.result) (sym c.in-Certificate.is)
    (subst (λ (bytes : List ℕ). AnswersAs (yes_with bytes) c.yes.result) c.as_slice.ensures c.yes.ensures)

pub returns-in-Maybe : goal.returns-in-Maybe
returns-in-Maybe c = subst (λ (found : Found PackedPairs). Tells (program_of c.args.program.now) found c.maybe.result)
    (sym c.in-Maybe.is) c.maybe.ensures
