use Rattle.std.proofs.Common.{ap, sym, ◌∙◌, false, List}
use Rattle.descent.proofs.Classes.{if_ok_then}
use Rattle.descent.specs.declared.rules.SlotForm.{SlotForm}
use Rattle.rank_forms.specs.rule_links.Ties.{variable_at, TellsChange}
use Rattle.rank_forms.proofs.Changed.{change_told}
use Rattle.rank_forms.proofs.rule_links.changes.change_at.Goals as goal

pub returns : goal.returns
returns c = if_ok_then _ _ c.difference.result _ (λ change. TellsChange c.args.rule.now c.args.place.now change)
    c.difference.ensures (λ more d. change_told c.args.rule.now c.args.place.now c.args.ties.now c.in-Some.start
    c.in-Some-variable_at.finish more c.requires
    (ap (λ (l : List SlotForm). variable_at l false c.args.place.now) (sym c.as_slice.ensures) ∙ sym c.variable_at.ensures
    ∙ c.in-Some.is) (ap (λ (l : List SlotForm). variable_at l false c.args.place.now) (sym c.as_slice-2.ensures)
    ∙ sym c.variable_at-2.ensures ∙ c.in-Some-variable_at.is) d)
