-- Words for the calls that put an answer together.
use Rattle.std.specs.Prelude.{Some, Result}
use Rattle.abs_cells.specs.declared.packed.PackedPairs.{PackedPairs}
use Rattle.class_program.specs.Programs.{Program}
use Rattle.input_steps.specs.declared.refused.Refused.{Refused}
use Rattle.desc_steps.specs.Answers.{AnswersAs}
use Rattle.prove_core.specs.declared.found.Found.{Found}
use Rattle.prove_core.specs.declared.found.Found.TheVariants.{Certificate, Maybe}
use Rattle.prove_core.specs.declared.found.Reason.{Reason}
use Rattle.prove_call.specs.declared.answer.Answer.{Answer}
use Rattle.prove_call.specs.Answers.{yes_with}
use Rattle.prove_call.specs.Lines.{reason_text}

-- maybe, for this reason
abbrev pub maybe_with : Program → Reason PackedPairs → Answer
maybe_with p reason = record { status = 1; out = reason_text p reason; reason = Some reason }

-- what is said of what was found
abbrev pub Tells : Program → Found PackedPairs → Result Answer Refused → Type 0
Tells p (Certificate cert) result = AnswersAs (yes_with cert) result
Tells p (Maybe reason) result = AnswersAs (maybe_with p reason) result
