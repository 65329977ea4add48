use Rattle.std.proofs.Common.{None, sym, subst, ap}
use Rattle.abs_cells.specs.Sound.{IsWellFormed}
use Rattle.abs_expand.proofs.HeapChildren.{well_write}
use Rattle.abs_expand.proofs.making.item_written.Goals as goal

pub returns-clause-good : goal.returns-clause-good
returns-clause-good g c =
    subst IsWellFormed (sym (ap (λ x. x.0) c.into_parts-after.ensures))
    (well_write c.args.state.now c.requires.good (record { object = c.args.k; field = None; value = c.args.w })
    c.in_ok-child.child.state c.requires.value c.in_ok-child.ensures.child)
