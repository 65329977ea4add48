use Rattle.std.proofs.Common.{ap, not, inl, inr}
use Rattle.std.proofs.lemmas.Bool.{false≢true, not-true, cases_Bool}
use Rattle.abs_cells.specs.declared.cells.Cell.{Cell}
use Rattle.abs_cells.specs.Cells.{may_have_cycle, shape_of}
use Rattle.abs_reach.proofs.Answering.{no_cycles, has_cycle, has_wild, both_of, none_of}
use Rattle.abs_reach.proofs.shapes.is_finite.Goals as goal

pub returns-then-found : goal.returns-then-found
returns-then-found g c = (
  λ h. absurd (false≢true h),
  λ f. absurd (has_cycle c.args.state.now c.requires.good c.args.x c.walk-found.result.met c.walk-found.ensures.met
      c.walk-found.result.cyclic c.walk-found.ensures.cyclic c.if-found.true f),
)

pub returns : goal.returns
returns g c = (
  λ h. no_cycles c.args.state.now c.requires.good c.args.x c.walk-found.result.met c.walk-found.ensures.met
      c.walk-found.result.cyclic c.walk-found.ensures.cyclic c.if-found.false
      (none_of (λ (cell : Cell). may_have_cycle (shape_of cell)) c.walk-found.result.met c.walk-found.result.met c.cells.result.now
      c.args.state.now.cells c.have_one.result c.cells.ensures c.have_one.ensures (not-true c.have_one.result h)),
  λ f. elim (cases_Bool c.have_one.result) [
    | inl t ↦ absurd (has_wild c.args.state.now c.requires.good c.args.x c.walk-found.result.met c.walk-found.ensures.met
        (both_of (λ (cell : Cell). may_have_cycle (shape_of cell)) c.walk-found.result.met c.walk-found.result.met
        c.cells.result.now c.args.state.now.cells c.have_one.result c.cells.ensures c.requires.good.rising c.have_one.ensures t) f)
    | inr t ↦ ap not t
  ],
)
