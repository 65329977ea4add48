-- Ids that keep their numbers and sorts: what is asked of positions and cells stays so.
use Rattle.std.proofs.Common.{◌≡◌, ◌∙◌, ℕ, List, map, Option, refl, sym, ap, subst}
use Rattle.std.specs.List.{AllByRecursion, AllZip}
use Rattle.std.specs.Option.{option_map}
use Rattle.jvm_values.specs.declared.types.Slot.{Slot}
use Rattle.jvm_values.specs.declared.typing.PlaceType.{PlaceType}
use Rattle.jvm_values.specs.TypedHeaps.{WorldTypes}
use Rattle.abs_cells.specs.declared.cells.Cell.{Cell}
use Rattle.abs_cells.specs.declared.cells.Cell.TheVariants as cells
use Rattle.abs_cells.specs.AbstractStates.{AbstractFrame, AbstractState}
use Rattle.abs_cells.specs.Cells.{ids_in}
use Rattle.abs_cells.specs.Sound.{given_ids, ids_of_frame, IsSoundCell}
use Rattle.abs_turns.specs.abs_heap.Names.{frame_named, cell_named}
use Rattle.class_program.specs.Programs.{Program}
use Rattle.frame_types.specs.Tables.{CodeTypes}
use Rattle.abs_expand.specs.BadStates.{IsOfPlace, IsOfField, HasStackOf, AreCallersPlaced, ArePlaced}
use Rattle.place_sorts.proofs.Following.{Follows, locals_follow, fields_follow, stack_follows, cell_follows, callers_follow, frames_follow}
use Rattle.place_sorts.proofs.SortLists.{all_any, mapped_same, option_same}

-- ---- the same names

abbrev pub itself : ℕ → ℕ
itself id = id

frame_same : (frame : AbstractFrame) → frame_named itself frame ≡ frame
frame_same frame =
    ap (λ (locals : List (Option ℕ)). record frame { locals = locals; stack = map itself frame.stack })
    (mapped_same (option_map itself) option_same frame.locals)
    ∙ ap (λ (stack : List ℕ). record frame { stack = stack }) (mapped_same itself (λ id. refl) frame.stack)

pub frames_same : (frames : List AbstractFrame) → map (frame_named itself) frames ≡ frames
frames_same frames = mapped_same (frame_named itself) frame_same frames

pub cell_same : (c : Cell) → cell_named itself c ≡ c
cell_same (cells.Int interval) = refl
cell_same cells.Null = refl
cell_same (cells.Obj class ids) = ap (cells.Obj class) (mapped_same itself (λ id. refl) ids)
cell_same (cells.Nums kind len) = refl
cell_same (cells.Refs element len shape) = refl
cell_same (cells.Unk bound nullable shape) = refl

-- ---- states

-- each id of the one state is in the other one, an int in both or in neither
abbrev pub KeepsSorts : AbstractState → AbstractState → Type 0
KeepsSorts before after = (id : ℕ) → Follows before after id id

pub keeps_then : (first second third : AbstractState) → KeepsSorts first second → KeepsSorts second third → KeepsSorts first third
keeps_then first second third k l id = record { int = λ h. (l id).int ((k id).int h); other = λ h. (l id).other ((k id).other h) }

module _ (before after : AbstractState) (keeps : KeepsSorts before after) where
  pub locals_kept : (wanted : List PlaceType) (locals : List (Option ℕ)) → AllZip (IsOfPlace before) wanted locals
      → AllZip (IsOfPlace after) wanted locals
  locals_kept wanted locals h =
      subst (AllZip (IsOfPlace after) wanted) (mapped_same (option_map itself) option_same locals)
      (locals_follow before after itself wanted locals (all_any _ keeps (given_ids locals)) h)

  pub fields_kept : (wanted : List Slot) (locals : List (Option ℕ)) → AllZip (IsOfField before) wanted locals
      → AllZip (IsOfField after) wanted locals
  fields_kept wanted locals h =
      subst (AllZip (IsOfField after) wanted) (mapped_same (option_map itself) option_same locals)
      (fields_follow before after itself wanted locals (all_any _ keeps (given_ids locals)) h)

  pub stack_kept : (wanted : List PlaceType) (stack : List ℕ) → HasStackOf before wanted stack → HasStackOf after wanted stack
  stack_kept wanted stack h =
      subst (HasStackOf after wanted) (mapped_same itself (λ id. refl) stack)
      (stack_follows before after itself wanted stack (all_any _ keeps stack) h)

  pub cell_kept : (types : WorldTypes) (c : Cell) → IsSoundCell types before c → IsSoundCell types after c
  cell_kept types c h = subst (IsSoundCell types after) (cell_same c)
      (cell_follows before after itself types c (all_any _ keeps (ids_in c)) h)

  module _ (p : Program) (typing : ℕ → CodeTypes) where
    all_kept : (frames : List AbstractFrame)
        → AllByRecursion (λ (frame : AbstractFrame). AllByRecursion (λ (id : ℕ). Follows before after id id) (ids_of_frame frame)) frames
    all_kept frames = all_any _ (λ (frame : AbstractFrame). all_any _ keeps (ids_of_frame frame)) frames

    pub callers_kept : (frames : List AbstractFrame) → AreCallersPlaced p typing before frames → AreCallersPlaced p typing after frames
    callers_kept frames h = subst (AreCallersPlaced p typing after) (frames_same frames)
        (callers_follow before after itself p typing frames (all_kept frames) h)

    pub frames_kept : (frames : List AbstractFrame) → after.throwing ≡ before.throwing → ArePlaced p typing before frames
        → ArePlaced p typing after frames
    frames_kept frames t h =
        subst (ArePlaced p typing after) (frames_same frames)
        (frames_follow before after itself p typing frames (t ∙ sym (option_same before.throwing)) (all_kept frames) h)
