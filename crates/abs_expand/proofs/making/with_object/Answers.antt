use Rattle.std.proofs.Common.{sym, subst, ap}
use Rattle.abs_cells.specs.AbstractStates.{AbstractState}
use Rattle.abs_cells.specs.Sound.{IsWellFormed}
use Rattle.abs_cells.specs.declared.cells.Cell.TheVariants.{Obj}
use Rattle.abs_plans.specs.abs_turns.GoodPlans.{IsThere}
use Rattle.abs_expand.proofs.HeapChildren.{well_object}
use Rattle.abs_expand.proofs.Acting.{first_there}
use Rattle.abs_expand.proofs.making.with_object.Goals as goal

pub returns-clause-good : goal.returns-clause-good
returns-clause-good g c =
    subst IsWellFormed (sym (ap (λ x. x.0) c.into_parts-after.ensures))
    (well_object c.args.state.now c.requires.good _ c.args.class c.in_ok-child.id c.in_ok-child.child.state c.in_ok-child.ensures.child)

pub returns-clause-there : goal.returns-clause-there
returns-clause-there g c =
    let h = c.in_ok-child.ensures.child in
    subst (λ (s : AbstractState). IsThere s c.in_ok-child.id) (sym (ap (λ x. x.0) c.into_parts-after.ensures))
    (first_there c.args.state.now c.in_ok-child.child.state c.in_ok-child.id (Obj c.args.class h.ids) _ c.args.state.now.frames
    c.args.state.now.throwing _ _ h.is)
