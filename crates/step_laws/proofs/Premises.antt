-- What steps ask of lower crates, from the laws of these.
use Rattle.std.proofs.Common.{◌≡◌, ℕ, Bool, true, false, [], ◌∷◌, Option, None, refl}
use Rattle.std.proofs.lemmas.List.Elements.{All-head}
use Rattle.abs_cells.specs.declared.cells.Cell.{Cell}
use Rattle.abs_cells.specs.declared.cells.Cell.TheVariants as cells
use Rattle.abs_cells.specs.Cells.{is_reference, cell_at}
use Rattle.abs_reach.specs.Laws.{DroppedIdsKeepSizes}
use Rattle.abs_heap.specs.Laws.{ValuesGoOn}
use Rattle.class_world.specs.World.{World}
use Rattle.class_world.specs.BuiltIns.{IsWorld, HasNoInterfacesBelow}
use Rattle.jvm_step.specs.class_program.Programs.{Program, IsClosed}
use Rattle.object_steps.specs.form_steps.inner.Lows.{IsPlainCell, FreshIdsGoOn, DroppedKeepSized}
use Rattle.object_steps.specs.form_steps.inner.Lows.{AreThrowablesErased}

plain_none : (cell : Cell) → IsPlainCell cell → is_reference cell ≡ false
plain_none (cells.Int interval) plain = refl
plain_none cells.Null plain = refl
plain_none (cells.Obj class ids) plain = absurd plain
plain_none (cells.Nums kind len) plain = absurd plain
plain_none (cells.Refs element len shape) plain = absurd plain
plain_none (cells.Unk bound nullable shape) plain = absurd plain

pub fresh_ids : ValuesGoOn → FreshIdsGoOn
fresh_ids values types state child machine meaning id cell value formed fits plain described fresh given =
    values types state child machine meaning id cell value formed fits (plain_none cell plain) described
    (All-head (λ (k : ℕ). cell_at state k ≡ None) id [] fresh.free) given

pub sizes_kept : DroppedIdsKeepSizes → DroppedKeepSized
sizes_kept alike whole part id dropped own sized =
    let same = alike whole part id dropped own in
    record {
      finite = same.finite.0 sized.finite;
      pattern = sized.pattern;
      is = (same.pattern sized.pattern).0 sized.is;
      small =
          sized.small;
    }

pub throwables_erased : ((world : World) → IsWorld world → HasNoInterfacesBelow world) → (p : Program) → IsClosed p → AreThrowablesErased p
throwables_erased below p closed t e = (below p.world closed.known).throwable_type t e
