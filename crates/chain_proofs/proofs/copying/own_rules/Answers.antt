use Rattle.std.proofs.Common.{ℕ, Some, slice_get, ◌≡◌, ◌∙◌, ap, sym}
use Rattle.std.proofs.lemmas.Option.{slice_get-get_or}
use Rattle.descent.specs.declared.rules.PathRule.{PathRule}
use Rattle.chain_proofs.proofs.Owning.{zip_more}
use Rattle.chain_proofs.proofs.copying.own_rules.Goals as goal

pub loop-number-preserved : goal.loop-number-preserved
loop-number-preserved c =
    zip_more (λ (n : ℕ) (rule : PathRule). slice_get c.args.rules.now n ≡ Some rule) c.args.set.now c.loop-number.own _
    c.loop-number.number-index _ c.in_ok-copied_rule.field-0
    (slice_get-get_or c.args.set.now c.loop-number.number-index 0 c.loop-number-test.true) c.loop-number.invariant
    (c.rule_at.ensures ∙ ap Some (sym c.in_ok-copied_rule.ensures)) c.in_ok-push.ensures.items
