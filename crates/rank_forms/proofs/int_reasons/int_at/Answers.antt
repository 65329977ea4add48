use Rattle.std.proofs.Common.{List, false, subst, ap, ◌∙◌, sym}
use Rattle.descent.proofs.Classes.{if_ok_then}
use Rattle.lin_core.specs.declared.rows.WRow.{WRow}
use Rattle.descent.specs.declared.rules.SlotForm.{SlotForm}
use Rattle.rank_forms.specs.Reasons.{TellsInt, TellsIntAt}
use Rattle.rank_forms.specs.rule_links.Ties.{variable_at}
use Rattle.rank_forms.proofs.Ended.{int_ends}
use Rattle.rank_forms.proofs.int_reasons.int_at.Goals as goal

pub returns : goal.returns
returns c = if_ok_then _ _ c.int_between.result _ (λ found. TellsIntAt c.args.rule.now c.args.ties.now c.args.term.now found)
    c.int_between.ensures (λ found told. int_ends c.args.rule.now c.args.ties.now c.args.term.now c.in-Some.start
    c.in-Some-variable_at.finish found (ap (λ (l : List SlotForm). variable_at l false c.args.term.now.0) (sym c.as_slice.ensures)
    ∙ sym c.variable_at.ensures ∙ c.in-Some.is)
    (ap (λ (l : List SlotForm). variable_at l false c.args.term.now.0) (sym c.as_slice-2.ensures) ∙ sym c.variable_at-2.ensures
    ∙ c.in-Some-variable_at.is)
    (subst (λ (l : List WRow). TellsInt l c.args.ties.now c.in-Some.start c.in-Some-variable_at.finish c.args.term.now.1 found)
    c.as_slice-3.ensures told))
