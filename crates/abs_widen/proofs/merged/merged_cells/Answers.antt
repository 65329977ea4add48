use Rattle.std.proofs.Common.{◌≡◌, sym, subst, length, List, ℕ}
use Rattle.std.proofs.lemmas.Option.{slice_get-get_or}
use Rattle.jvm_values.specs.TypedHeaps.{world_types}
use Rattle.abs_cells.specs.declared.cells.Cell.{Cell}
use Rattle.abs_widen.specs.inner.Visiting.{ArePairCells}
use Rattle.abs_widen.specs.Widening.{AreMergedCells}
use Rattle.abs_widen.proofs.Merging.{holds_at, merged_goes, merged_ends}
use Rattle.abs_widen.proofs.merged.merged_cells.Goals as goal

pub merged_cell-requires-clause-cells : goal.merged_cell-requires-clause-cells
merged_cell-requires-clause-cells g c = holds_at
    (ArePairCells (world_types (g.T.Types.sub c.args.types.now) (g.T.Types.erase c.args.types.now)
    (g.T.Types.classes c.args.types.now) (g.T.Types.fields c.args.types.now) (g.T.Types.can_be_made c.args.types.now))
    c.args.a.now c.args.b.now) c.args.pairs.now c.loop-n.n (0, 0) c.requires.cells c.loop-n-test.true

pub loop-n-preserved : goal.loop-n-preserved
loop-n-preserved g c =
    merged_goes _ c.args.a.now c.args.b.now c.args.pairs.now c.loop-n.cells.items c.push.new.self.items c.loop-n.n _ c.in-Some.cell
    c.in_ok-found.found c.in-Some.is c.in_ok-found.ensures
    (slice_get-get_or c.args.pairs.now c.loop-n.n (0, 0) c.loop-n-test.true) c.in_ok-push.ensures.items c.loop-n.invariant

pub returns : goal.returns
returns g c =
    subst (λ (l : List (ℕ × Cell)). (length l ≡ length c.args.pairs.now)
    × AreMergedCells (world_types (g.T.Types.sub c.args.types.now) (g.T.Types.erase c.args.types.now)
    (g.T.Types.classes c.args.types.now) (g.T.Types.fields c.args.types.now) (g.T.Types.can_be_made c.args.types.now))
    c.args.a.now c.args.b.now c.args.pairs.now l) (sym c.from_vec.ensures)
    (merged_ends (world_types (g.T.Types.sub c.args.types.now) (g.T.Types.erase c.args.types.now)
    (g.T.Types.classes c.args.types.now) (g.T.Types.fields c.args.types.now) (g.T.Types.can_be_made c.args.types.now))
    c.args.a.now c.args.b.now c.args.pairs.now c.loop-n.cells.items c.loop-n.n c.loop-n-test.false c.loop-n.auto.n-end
    c.loop-n.invariant)
