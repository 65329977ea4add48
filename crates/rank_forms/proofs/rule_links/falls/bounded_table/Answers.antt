use Rattle.std.proofs.Common.{refl, subst, sym, [], false, true}
use Rattle.std.proofs.lemmas.Option.{slice_get_read}
use Rattle.rank_forms.specs.rule_links.Falls.{TellAll, TellsSteps}
use Rattle.rank_forms.proofs.Told.{told_first, told_more, told_all}
use Rattle.rank_forms.proofs.rule_links.falls.bounded_table.Goals as goal

pub loop-n-init : goal.loop-n-init
loop-n-init c = told_first (λ rule. TellAll (TellsSteps true c.args.negative rule) c.args.places.now) c.args.rules.now [] _
    c.new-bounded.ensures

pub loop-n-preserved : goal.loop-n-preserved
loop-n-preserved c = told_more (λ rule. TellAll (TellsSteps true c.args.negative rule) c.args.places.now) c.args.rules.now []
    c.loop-n.bounded _ c.in_ok-bounded_of.field-0 _ c.loop-n.n c.in_ok-push.ensures.items
    (slice_get_read c.args.rules.now _ c.loop-n.n c.index-rules-n.result refl c.loop-n-test.true c.index-rules-n.is)
    c.in_ok-bounded_of.ensures c.loop-n.invariant

pub returns : goal.returns
returns c = told_all (λ rule. TellAll (TellsSteps true c.args.negative rule) c.args.places.now) c.args.rules.now [] c.loop-n.bounded
    c.loop-n.n c.loop-n-test.false c.loop-n.invariant

pub bounded_of-requires : goal.bounded_of-requires
bounded_of-requires c = subst (TellAll (TellsSteps false c.args.negative c.index-rules-n.result) c.args.places.now)
    (sym c.list_at.ensures)
    (c.requires.1 c.loop-n.n c.index-rules-n.result
    (slice_get_read c.args.rules.now _ c.loop-n.n c.index-rules-n.result refl c.loop-n-test.true c.index-rules-n.is))
