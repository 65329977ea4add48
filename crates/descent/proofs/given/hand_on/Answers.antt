use Rattle.std.proofs.Common.{◌∙◌, ap, sym, [], ◌∷◌}
use Rattle.descent.specs.Steps.{leaves, weak_ones}
use Rattle.descent.proofs.Checked.{handed_one}
use Rattle.descent.proofs.given.hand_on.Goals as goal

pub returns-in_ok-weak_ones-in-Rank : goal.returns-in_ok-weak_ones-in-Rank
returns-in_ok-weak_ones-in-Rank c = handed_one c.args.number _ _ _ _ _
    (ap (λ s. (c.in-Rank.rest, s) ∷ []) (c.in_ok-weak_ones-in-Rank.ensures ∙ ap weak_ones c.as_slice-in-Rank.ensures)
    ∙ ap (leaves c.args.set.now) (sym c.in-Rank.is)) c.give.ensures

pub returns-in_ok-without-in-Dead : goal.returns-in_ok-without-in-Dead
returns-in_ok-without-in-Dead c = handed_one c.args.number _ _ _ _ _
    (ap (λ s. (c.in-Dead.rest, s) ∷ []) c.in_ok-without-in-Dead.ensures ∙ ap (leaves c.args.set.now) (sym c.in-Dead.is))
    c.give-in-Dead.ensures
