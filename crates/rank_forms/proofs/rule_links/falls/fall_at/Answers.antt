use Rattle.std.proofs.Common.{ap, sym, ◌∙◌, List}
use Rattle.descent.proofs.Classes.{if_ok_then}
use Rattle.descent.specs.declared.rules.SlotForm.{SlotForm}
use Rattle.rank_forms.specs.rule_links.inner.Rising.{TellsWays}
use Rattle.rank_forms.specs.rule_links.Ties.{variable_at}
use Rattle.rank_forms.proofs.Falling.{ways_told}
use Rattle.rank_forms.proofs.rule_links.falls.fall_at.Goals as goal

pub returns : goal.returns
returns c = if_ok_then _ _ c.fall_between.result _
    (λ fall. TellsWays c.args.size c.args.ties.now c.args.rule.now c.args.place.now fall) c.fall_between.ensures
    (λ fall tells. ways_told c.args.size c.args.ties.now c.args.rule.now c.args.place.now c.in-Some.start
    c.in-Some-variable_at.finish fall
    (ap (λ (l : List SlotForm). variable_at l c.args.size c.args.place.now) (sym c.as_slice.ensures) ∙ sym c.variable_at.ensures
    ∙ c.in-Some.is) (ap (λ (l : List SlotForm). variable_at l c.args.size c.args.place.now) (sym c.as_slice-2.ensures)
    ∙ sym c.variable_at-2.ensures ∙ c.in-Some-variable_at.is) tells)
