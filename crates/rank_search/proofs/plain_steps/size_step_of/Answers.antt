use Rattle.std.proofs.Common.{◌≡◌, ◌∙◌, ap, true, ℤ, List, FitsSigned, to_z, of_z, to_z-of_z, w64}
use Rattle.descent.specs.declared.rules.Place.{Place}
use Rattle.rank_forms.specs.Forms.{forms_over, or_zero}
use Rattle.rank_search.proofs.SizeForms.{size_step_is}
use Rattle.rank_search.proofs.plain_steps.size_step_of.Goals as goal

pub returns : goal.returns
returns c =
    let other : FitsSigned w64 c.or_zero-constant.result = record { sfits = c.or_zero-constant.type_inv } in
    let base : to_z w64 (of_z w64 c.or_zero-constant.result) ≡ c.or_zero-constant.result = to_z-of_z other in
    size_step_is c.args.rules.now c.args.place.now c.args.all.now c.or_zero-constant.result c.in_ok-part.part
    c.in_ok-weights.weights c.in_ok-forms.ensures.0 c.in_ok-forms.forms c.in_ok-listed.listed c.requires.rules c.requires.form
    c.requires.followed c.in_ok-weights.ensures (c.or_zero-constant.ensures ∙ ap or_zero c.needed.ensures) c.in_ok-part.ensures
    c.in_ok-forms.ensures.1
    (c.in_ok-forms.ensures.2
    ∙ ap (λ (t : List (Place × ℤ)). forms_over c.args.rules.now true t (to_z w64 (of_z w64 c.or_zero-constant.result))
    c.in_ok-forms.ensures.0) c.as_slice.ensures
    ∙ ap (λ (k : ℤ). forms_over c.args.rules.now true c.in_ok-part.part k c.in_ok-forms.ensures.0) base) c.in_ok-listed.ensures
