use Rattle.std.proofs.Common.{sym, ◌∙◌}
use Rattle.std.proofs.lemmas.Bool.{false≢true}
use Rattle.abs_heap.proofs.WriteChildren.{no_cycle_is}
use Rattle.abs_heap.proofs.writes.makes_no_cycle.Goals as goal

pub returns-then-not-is_finite : goal.returns-then-not-is_finite
returns-then-not-is_finite g c =
    (λ t. absurd (false≢true t), λ h. absurd (false≢true (sym c.if-not-is_finite.true ∙ c.is_finite.ensures.1 h.finite)))

pub returns : goal.returns
returns g c = no_cycle_is c.args.state.now c.args.k c.args.w _ (c.is_finite.ensures.0 c.if-not-is_finite.false) c.may_be_in.ensures
