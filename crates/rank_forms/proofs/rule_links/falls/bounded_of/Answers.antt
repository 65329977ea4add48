use Rattle.std.proofs.Common.{None, true}
use Rattle.std.proofs.lemmas.Option.{slice_get-get_or}
use Rattle.rank_forms.specs.rule_links.Falls.{TellsSteps}
use Rattle.rank_forms.proofs.Told.{told_first, told_more, told_all}
use Rattle.rank_forms.proofs.Falling.{bounded_told}
use Rattle.rank_forms.proofs.rule_links.falls.bounded_of.Goals as goal

pub loop-n-init : goal.loop-n-init
loop-n-init c = told_first (TellsSteps true c.args.negative c.args.rule.now) c.args.places.now None _ c.new-bounded.ensures

pub loop-n-preserved : goal.loop-n-preserved
loop-n-preserved c = told_more (TellsSteps true c.args.negative c.args.rule.now) c.args.places.now None c.loop-n.bounded _
    c.bounded_fall.result _ c.loop-n.n c.in_ok-push.ensures.items
    (slice_get-get_or c.args.places.now c.loop-n.n _ c.loop-n-test.true)
    (bounded_told c.args.negative c.args.rule.now c.args.places.now c.args.falls.now c.loop-n.n _ c.found_at.result
    c.bounded_fall.result (slice_get-get_or c.args.places.now c.loop-n.n _ c.loop-n-test.true) c.found_at.ensures
    c.bounded_fall.ensures c.requires) c.loop-n.invariant

pub returns : goal.returns
returns c = told_all (TellsSteps true c.args.negative c.args.rule.now) c.args.places.now None c.loop-n.bounded c.loop-n.n
    c.loop-n-test.false c.loop-n.invariant
