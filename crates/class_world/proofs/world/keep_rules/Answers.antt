use Rattle.std.proofs.Common.{◌∙◌}
use Rattle.class_world.specs.Linking.{later_fault}
use Rattle.class_world.proofs.Rules.{passed_on, first_says, says_along, after_none, refuses_along}
use Rattle.class_world.proofs.world.keep_rules.Goals as goal

pub returns-in_err-keeps : goal.returns-in_err-keeps
unfolding later_fault
returns-in_err-keeps c = passed_on _ _ _ c.from_residual.ensures.1 (first_says _ _ _ c.in_err-keeps.ensures)

pub returns-in_err-keeps-2 : goal.returns-in_err-keeps-2
unfolding later_fault
returns-in_err-keeps-2 c =
    passed_on _ _ _ c.from_residual-in_err-keeps-2.ensures.1
    (says_along _ _ _ (after_none _ _ c.in_ok-keeps.ensures) (first_says _ _ _ c.in_err-keeps-2.ensures))

pub returns-in_err-keeps-3 : goal.returns-in_err-keeps-3
unfolding later_fault
returns-in_err-keeps-3 c =
    passed_on _ _ _ c.from_residual-in_err-keeps-3.ensures.1
    (says_along _ _ _ (after_none _ _ c.in_ok-keeps.ensures ∙ after_none _ _ c.in_ok-keeps-2.ensures)
    (first_says _ _ _ c.in_err-keeps-3.ensures))

pub returns : goal.returns
unfolding later_fault
returns c =
    refuses_along _ _ _ (after_none _ _ c.in_ok-keeps.ensures ∙ after_none _ _ c.in_ok-keeps-2.ensures
    ∙ after_none _ _ c.in_ok-keeps-3.ensures) c.keeps-4.ensures
