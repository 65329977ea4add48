use Rattle.std.proofs.Common.{◌∙◌, rules, pos, FitsSigned, to_z, to_z-of_z, w64}
use Rattle.std.proofs.lemmas.Option.{slice_get-get_or}
use Rattle.rank_forms.proofs.Sized.{weighed_more}
use Rattle.rank_forms.proofs.rule_links.sizes.weighed_once.Goals as goal

pub loop-weight-preserved : goal.loop-weight-preserved
loop-weight-preserved c =
    let f : FitsSigned w64 c.in-Some.more = search rules in
    weighed_more c.args.weights.now c.loop-weight.weight-index _ (to_z w64 c.loop-weight.weighed-bits) _ _
    (slice_get-get_or c.args.weights.now c.loop-weight.weight-index (0, pos 0) c.loop-weight-test.true)
    (to_z-of_z f ∙ c.in-Some.ensures.1) c.loop-weight.invariant
