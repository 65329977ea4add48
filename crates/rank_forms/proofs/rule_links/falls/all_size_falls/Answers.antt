use Rattle.rank_forms.specs.rule_links.Falls.{TellAll, TellsSize}
use Rattle.rank_forms.proofs.Falling.{sizes_told}
use Rattle.rank_forms.proofs.rule_links.falls.all_size_falls.Goals as goal
use Rattle.descent.proofs.Classes.{if_ok_then}

pub returns : goal.returns
returns c = if_ok_then _ _ c.falls_at.result _ (λ falls. TellAll (TellsSize c.args.rule.now) c.args.places.now falls)
    c.falls_at.ensures (λ falls tells. sizes_told c.args.rule.now _ c.in_ok-ties.ties.items _ c.args.places.now falls
    c.as_slice.ensures c.as_slice-2.ensures.value c.in_ok-ties.ensures.sound c.in_ok-ties.ensures.complete tells)
