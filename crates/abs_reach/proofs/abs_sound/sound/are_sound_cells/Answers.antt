use Rattle.std.proofs.Common.{refl, ℕ, arith}
use Rattle.jvm_values.specs.TypedHeaps.{world_types}
use Rattle.abs_cells.specs.declared.cells.Cell.{Cell}
use Rattle.abs_cells.specs.Sound.{IsSoundCell}
use Rattle.abs_reach.proofs.Zipped.{one_more}
use Rattle.abs_reach.proofs.abs_sound.sound.are_sound_cells.Goals as goal

pub loop-item-preserved : goal.loop-item-preserved
loop-item-preserved g c =
    one_more (λ (x : ℕ × Cell). IsSoundCell (world_types (g.T.Types.sub c.args.types.now) (g.T.Types.erase c.args.types.now)
    (g.T.Types.classes c.args.types.now) (g.T.Types.fields c.args.types.now) (g.T.Types.can_be_made c.args.types.now))
    c.args.state.now x.1) c.args.cells.now c.loop-item.item-index c.item-item.result c.loop-item-test.true c.item-item.is
    (c.is_sound_cell.ensures.0 c.if-not-is_sound_cell.false) c.loop-item.invariant

pub returns : goal.returns
returns g c = (λ h k d l. c.loop-item.invariant k d (omega (arith, l, c.loop-item-test.false)), λ h. refl)
