use Rattle.std.proofs.lemmas.Option.{slice_get-get_or}
use Rattle.chain_proofs.specs.inner.Sets.{IsLeftOf}
use Rattle.chain_proofs.proofs.Owning.{zip_more}
use Rattle.chain_proofs.proofs.copying.left_rules.Goals as goal

pub loop-number-preserved : goal.loop-number-preserved
loop-number-preserved c =
    zip_more (IsLeftOf c.args.rules.now) c.args.set.now c.loop-number.left _ c.loop-number.number-index _ c.left_rule.result
    (slice_get-get_or c.args.set.now c.loop-number.number-index 0 c.loop-number-test.true) c.loop-number.invariant
    c.left_rule.ensures c.in_ok-push.ensures.items
