use Rattle.std.proofs.Common.{◌≡◌, ◌≤◌, length, take, reverse}
use Rattle.class_program.specs.Views.{program_of}
use Rattle.abs_plans.specs.abs_turns.code_verify.Typings.{typing_at}
use Rattle.abs_expand.specs.inner.PlaceTests.{callers_test}
use Rattle.abs_expand.proofs.places.are_callers_placed.Given as goal

abbrev pub invariant-loop-n : goal.invariant-loop-n
invariant-loop-n g l = record {
  within : l.n ≤ length l.frames;
  rest : callers_test (program_of l.program) (typing_at l.typing) l.state.cells (reverse (take l.n l.frames))
      ≡ callers_test (program_of l.program) (typing_at l.typing) l.state.cells (reverse l.frames);
}

abbrev pub decreases-loop-n : goal.decreases-loop-n
decreases-loop-n g l = l.n
