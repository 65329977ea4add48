use Rattle.std.proofs.Common.{ap, sym, subst, ◌∙◌, List, false}
use Rattle.descent.proofs.Classes.{if_ok_then}
use Rattle.lin_core.specs.declared.rows.WRow.{WRow}
use Rattle.descent.specs.declared.rules.SlotForm.{SlotForm}
use Rattle.rank_forms.specs.inner.Following.{SmallConstants, TellsBetween}
use Rattle.rank_forms.specs.Following.{TellsFollowed}
use Rattle.rank_forms.specs.rule_links.Ties.{variable_at}
use Rattle.rank_forms.proofs.Along.{along_is, finish_low, small_constants}
use Rattle.rank_forms.proofs.following.follow_steps.Goals as goal

pub steps_between-requires-clause-rows : goal.steps_between-requires-clause-rows
steps_between-requires-clause-rows c = subst SmallConstants (sym c.as_slice-3.ensures)
    (small_constants c.args.rule.now.vars c.args.rule.now.rows c.requires.rule.rows)

pub steps_between-requires-clause-finish : goal.steps_between-requires-clause-finish
steps_between-requires-clause-finish c = finish_low c.args.rule.now.vars c.args.rule.now.last false c.args.place.now
    c.in-Some-variable_at.finish c.requires.rule.last c.requires.few.variables
    (ap (λ (l : List SlotForm). variable_at l false c.args.place.now) (sym c.as_slice-2.ensures) ∙ sym c.variable_at-2.ensures
    ∙ c.in-Some-variable_at.is)

pub returns : goal.returns
returns c = if_ok_then _ _ c.steps_between.result _ (λ found. TellsFollowed c.args.negative c.args.rule.now c.args.place.now found)
    c.steps_between.ensures (λ found tells. along_is c.args.negative c.args.rule.now c.args.place.now c.in-Some.start
    c.in-Some-variable_at.finish found (ap (λ (l : List SlotForm). variable_at l false c.args.place.now) (sym c.as_slice.ensures)
    ∙ sym c.variable_at.ensures ∙ c.in-Some.is)
    (ap (λ (l : List SlotForm). variable_at l false c.args.place.now) (sym c.as_slice-2.ensures) ∙ sym c.variable_at-2.ensures
    ∙ c.in-Some-variable_at.is)
    (subst (λ (l : List WRow). TellsBetween c.args.negative l c.in-Some.start c.in-Some-variable_at.finish found)
    c.as_slice-3.ensures tells))
