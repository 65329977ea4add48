use Rattle.std.proofs.Common.{◌≡◌, ◌∙◌, ap}
use Rattle.lin_core.specs.Rows.{Rise}
use Rattle.rank_forms.specs.Weighing.{AreOnes}
use Rattle.rank_forms.specs.inner.Weighing.{ones_from}
use Rattle.rank_forms.proofs.Weighed.{are_ones, if_ok_both}
use Rattle.rank_forms.proofs.weights.ones.Goals as goal

pub returns : goal.returns
returns c = if_ok_both _ _ c.ones_of.result (λ weights. weights ≡ ones_from 0 c.as_slice.result.now)
    (λ weights. Rise 4294967296 weights) (λ weights. AreOnes c.args.rules.now weights) c.ones_of.ensures.ones c.ones_of.ensures.rise
    (λ weights e rise. are_ones c.args.rules.now _ _ weights (c.into_vec-classes.ensures ∙ c.in_ok-all_classes.ensures)
    c.sort_classes.ensures.same c.in_ok-sort_classes.ensures.order (e ∙ ap (ones_from 0) c.as_slice.ensures.value) rise)
