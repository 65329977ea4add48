-- What `NO` claims.
use Rattle.std.specs.Prelude.{◌≡◌, ℕ, List, Result, IfOk}
use Rattle.class_program.specs.Programs.{Program}
use Rattle.input_text.specs.declared.texts.StateText.{StateText}
use Rattle.input_desc.specs.declared.desc.Desc.{Desc}
use Rattle.input_desc.specs.declared.states.StateInput.{StateInput}
use Rattle.input_steps.specs.declared.refused.Refused.{Refused}
use Rattle.desc_steps.specs.Headline.{NameProgram}
use Rattle.class_calls.specs.run_call.Answers.{IsStateText, IsInput}
use Rattle.loop_check.specs.InputFitsGivens.{IsFitting}
use Rattle.loop_check.specs.Laws.{AllGoOn}
use Rattle.check_call.specs.declared.outcome.Outcome.{Outcome}

-- The files and the description name a program and a description of its inputs. The run of every state that fits this goes on after every
-- number of steps; and the state that the bytes of the state say is one.
pub record AllGoOnForEver (files : List (List ℕ)) (desc state : List ℕ) : Type 0 where
  pub program : Program
  pub described : Desc
  pub named : NameProgram files desc program described
  pub for_ever : AllGoOn program described
  pub text : StateText
  pub said : IsStateText state text
  pub input : StateInput
  pub given : IsInput program text input
  pub fits : IsFitting program described input.args input.statics input.heap

-- The headline of `loop`: where the status is 0, every state that the description fits goes on for ever, the given
-- one among them.
abbrev pub AllGoOnIfDone : List (List ℕ) → List ℕ → List ℕ → Result Outcome Refused → Type 0
AllGoOnIfDone files desc state result = IfOk result (λ outcome. outcome.status ≡ 0 → AllGoOnForEver files desc state)
