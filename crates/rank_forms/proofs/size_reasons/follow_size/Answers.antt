use Rattle.std.proofs.Common.{ℕ, List, true, subst, ap, ◌∙◌, sym}
use Rattle.descent.proofs.Classes.{if_ok_then}
use Rattle.lin_core.specs.declared.rows.WRow.{WRow}
use Rattle.descent.specs.declared.rules.SlotForm.{SlotForm}
use Rattle.rank_forms.specs.Reasons.{followed_of}
use Rattle.rank_forms.specs.SizeReasons.{TellsSizeAt, TellsSizeReasons}
use Rattle.rank_forms.specs.rule_links.Ties.{variable_at}
use Rattle.rank_forms.proofs.Ended.{size_ends}
use Rattle.rank_forms.proofs.size_reasons.follow_size.Goals as goal

pub returns : goal.returns
returns c = if_ok_then _ _ c.followed_of.result _ (λ found. TellsSizeAt c.args.place.now c.args.rule.now found)
    c.followed_of.ensures (λ found e. size_ends c.args.place.now c.args.rule.now c.in-Some.start c.in-Some-variable_at.finish
    c.in_ok-reasons.reasons found (ap (λ (l : List SlotForm). variable_at l true c.args.place.now) (sym c.as_slice.ensures)
    ∙ sym c.variable_at.ensures ∙ c.in-Some.is)
    (ap (λ (l : List SlotForm). variable_at l true c.args.place.now) (sym c.as_slice-2.ensures) ∙ sym c.variable_at-2.ensures
    ∙ c.in-Some-variable_at.is)
    (subst (λ (l : List WRow). TellsSizeReasons l c.in-Some.start c.in-Some-variable_at.finish c.in_ok-reasons.reasons)
    c.as_slice-3.ensures c.in_ok-reasons.ensures) (e ∙ ap (λ (k : ℕ). followed_of k c.in_ok-reasons.reasons) c.len.ensures))
