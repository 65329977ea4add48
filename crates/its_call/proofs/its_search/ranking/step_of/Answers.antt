use Rattle.std.proofs.Common.{◌≡◌, ◌∙◌, ap, None, false, ℤ, FitsSigned, to_z, of_z, to_z-of_z, w64}
use Rattle.rank_forms.specs.Forms.{forms_over, list_from, needed, or_zero}
use Rattle.its_call.proofs.Shown.{step_is}
use Rattle.its_call.proofs.its_search.ranking.step_of.Goals as goal

-- src/ranking.rt:173:1
pub returns : goal.returns
returns c =
    let other : FitsSigned w64 c.or_zero-constant.result = record { sfits = c.or_zero-constant.type_inv } in
    let base : to_z w64 (of_z w64 c.or_zero-constant.result) ≡ c.or_zero-constant.result = to_z-of_z other in
    step_is c.args.count c.args.rules.now c.args.form.now c.in_ok-all.all c.or_zero-constant.result c.as_slice-2.result.now
    c.in_ok-forms.ensures.0 c.in_ok-forms.forms c.in_ok-listed.listed c.new.result c.requires.some c.requires.rules
    c.requires.plain c.requires.ranks c.in_ok-all.ensures
    (c.or_zero-constant.ensures ∙ ap or_zero (c.needed.ensures ∙ ap (needed None) c.as_slice.ensures))
    (c.as_slice-2.ensures ∙ c.in_ok-parts.ensures) c.in_ok-forms.ensures.1
    (c.in_ok-forms.ensures.2
    ∙ ap (λ (k : ℤ). forms_over c.args.rules.now false c.as_slice-2.result.now k c.in_ok-forms.ensures.0) base)
    (c.in_ok-listed.ensures ∙ ap (list_from 0) c.as_slice-3.ensures) c.new.ensures
