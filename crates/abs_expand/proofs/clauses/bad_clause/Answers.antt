use Rattle.std.proofs.Common.{◌∙◌, sym}
use Rattle.std.proofs.lemmas.Bool.{false≢true}
use Rattle.class_program.specs.Views.{program_of}
use Rattle.abs_plans.specs.abs_turns.code_verify.Typings.{typing_at}
use Rattle.abs_expand.specs.BadStates.{unsound, misplaced, uncalled}
use Rattle.abs_expand.proofs.Placed.{all_from, all_to, calls_from, calls_to}
use Rattle.abs_expand.proofs.clauses.bad_clause.Goals as goal

pub are_placed-requires : goal.are_placed-requires
are_placed-requires g c = (c.is_sound.ensures.0 c.if-not-is_sound.false).well_formed.rising

pub returns-then-not-is_sound : goal.returns-then-not-is_sound
returns-then-not-is_sound g c = unsound (λ s. false≢true (sym c.if-not-is_sound.true ∙ c.is_sound.ensures.1 s))

pub returns-then-not-are_placed : goal.returns-then-not-are_placed
returns-then-not-are_placed g c = misplaced (c.is_sound.ensures.0 c.if-not-is_sound.false)
    (λ h. false≢true (sym c.if-not-are_placed.true ∙ c.are_placed.ensures
    ∙ all_to (program_of c.args.program.now) (typing_at c.args.typing.now) c.args.state.now c.args.state.now.frames h))

pub returns-then-not-are_below_at_calls : goal.returns-then-not-are_below_at_calls
returns-then-not-are_below_at_calls g c =
    uncalled (c.is_sound.ensures.0 c.if-not-is_sound.false) (all_from (program_of c.args.program.now) (typing_at c.args.typing.now)
    c.args.state.now c.args.state.now.frames (sym c.are_placed.ensures ∙ c.if-not-are_placed.false))
    (λ h. false≢true (sym c.if-not-are_below_at_calls.true ∙ c.are_below_at_calls.ensures
    ∙ calls_to (program_of c.args.program.now) c.args.state.now.frames h))

pub returns : goal.returns
returns g c = record {
  sound = c.is_sound.ensures.0 c.if-not-is_sound.false;
  placed = all_from (program_of c.args.program.now) (typing_at c.args.typing.now) c.args.state.now c.args.state.now.frames
      (sym c.are_placed.ensures ∙ c.if-not-are_placed.false);
  called = calls_from (program_of c.args.program.now) c.args.state.now.frames (sym c.are_below_at_calls.ensures
      ∙ c.if-not-are_below_at_calls.false);
}
