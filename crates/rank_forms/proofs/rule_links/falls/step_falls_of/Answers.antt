use Rattle.std.proofs.Common.{false}
use Rattle.descent.proofs.Classes.{if_ok_then}
use Rattle.rank_forms.specs.rule_links.Falls.{TellAll, TellsSteps}
use Rattle.rank_forms.proofs.Falling.{steps_told}
use Rattle.rank_forms.proofs.rule_links.falls.step_falls_of.Goals as goal

pub returns : goal.returns
returns c = if_ok_then _ _ c.falls_at.result _
    (λ falls. TellAll (TellsSteps false c.args.negative c.args.rule.now) c.args.places.now falls) c.falls_at.ensures
    (λ falls tells. steps_told c.args.negative c.args.rule.now _ c.in_ok-ties.ties.items _ c.args.places.now falls
    c.as_slice.ensures c.as_slice-2.ensures.value c.in_ok-ties.ensures.sound c.in_ok-ties.ensures.complete tells)
