use Rattle.std.proofs.Common.{◌∙◌, ap, sym}
use Rattle.std.proofs.lemmas.Bool.{false≢true}
use Rattle.abs_reach.specs.Instances.{is_thrown}
use Rattle.search_tries.proofs.Heads.{have_same, same_heads}
use Rattle.search_tries.proofs.due.have_same_positions.Goals as goal

pub returns-then-not-is_same_mode : goal.returns-then-not-is_same_mode
returns-then-not-is_same_mode g c = (
  λ t. absurd (false≢true t),
  λ h. absurd (false≢true (sym c.if-not-is_same_mode.true
      ∙ c.is_same_mode.ensures.1 (ap is_thrown c.throwing.ensures ∙ h.thrown ∙ ap is_thrown (sym c.throwing-2.ensures)))),
)

pub returns : goal.returns
returns g c = (
  λ t. have_same c.args.a.now c.args.b.now c.frames.result.now c.frames-2.result.now c.frames.ensures c.frames-2.ensures
      (ap is_thrown (sym c.throwing.ensures) ∙ c.is_same_mode.ensures.0 c.if-not-is_same_mode.false
      ∙ ap is_thrown c.throwing-2.ensures) (c.are_same_heads.ensures.0 t),
  λ h. c.are_same_heads.ensures.1 (same_heads c.args.a.now c.args.b.now c.frames.result.now c.frames-2.result.now c.frames.ensures
      c.frames-2.ensures h),
)
