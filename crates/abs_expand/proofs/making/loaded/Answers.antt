use Rattle.std.proofs.Common.{sym, subst, ap}
use Rattle.abs_cells.specs.AbstractStates.{AbstractState}
use Rattle.abs_cells.specs.Sound.{IsWellFormed}
use Rattle.abs_plans.specs.abs_turns.GoodPlans.{IsThere}
use Rattle.abs_expand.proofs.Acting.{loaded_good}
use Rattle.abs_expand.proofs.making.loaded.Goals as goal

pub returns-clause-good : goal.returns-clause-good
returns-clause-good g c =
    subst IsWellFormed (sym (ap (λ x. x.0) c.into_parts-after.ensures))
    (loaded_good _ c.args.state.now c.in_ok-child.child.state c.args.k c.in_ok-child.id c.requires.good c.requires.array
    c.in_ok-child.ensures.child).0

pub returns-clause-there : goal.returns-clause-there
returns-clause-there g c =
    subst (λ (s : AbstractState). IsThere s c.in_ok-child.id) (sym (ap (λ x. x.0) c.into_parts-after.ensures))
    (loaded_good _ c.args.state.now c.in_ok-child.child.state c.args.k c.in_ok-child.id c.requires.good c.requires.array
    c.in_ok-child.ensures.child).1
