-- Ids of a state that have names in another one of the same sorts: what is asked of positions and cells carries over.
use Rattle.std.proofs.Common.{◌≡◌, ◌∙◌, ℕ, List, [], ◌∷◌, take, drop, map, Option, Some, None, refl, sym, ap, subst}
use Rattle.std.specs.List.{AllByRecursion, AllZip}
use Rattle.std.specs.Option.{option_map}
use Rattle.std.proofs.lemmas.List.{length-map}
use Rattle.list_views.proofs.Quantified.{all_front, all_back}
use Rattle.jvm_values.specs.declared.types.Slot.{Slot}
use Rattle.jvm_values.specs.declared.types.Slot.TheVariants as slots
use Rattle.jvm_values.specs.declared.typing.PlaceType.{PlaceType}
use Rattle.jvm_values.specs.declared.typing.PlaceType.TheVariants as places
use Rattle.jvm_values.specs.States.{PlaceTypes}
use Rattle.jvm_values.specs.TypedHeaps.{WorldTypes}
use Rattle.abs_cells.specs.declared.cells.Cell.{Cell}
use Rattle.abs_cells.specs.declared.cells.Cell.TheVariants as cells
use Rattle.abs_cells.specs.AbstractStates.{AbstractFrame, AbstractState}
use Rattle.abs_cells.specs.Cells.{is_int, ids_in, HasCell}
use Rattle.abs_cells.specs.Sound.{given_ids, ids_of_frame, IsOfSlot, IsSoundCell}
use Rattle.abs_reach.specs.Instances.{is_no_int}
use Rattle.abs_turns.specs.abs_heap.Names.{frame_named, cell_named}
use Rattle.class_program.specs.Programs.{Program}
use Rattle.frame_types.specs.Tables.{CodeTypes}
use Rattle.abs_expand.specs.BadStates.{IsOfPlace, IsOfField, HasStackOf, call_at, IsPlaced, statics_under, HasCallersStack}
use Rattle.abs_expand.specs.BadStates.{IsCallerPlaced, AreCallersPlaced, HasRunningStack, IsRunningPlaced, ArePlaced}
use Rattle.place_sorts.proofs.SortLists.{take_mapped, drop_mapped, given_taken, given_dropped}

-- an id of one state is an int, or is none, only if another one is so in another state
pub record Follows (before after : AbstractState) (id to : ℕ) : Type 0 where
  pub int : HasCell is_int before id → HasCell is_int after to
  pub other : HasCell is_no_int before id → HasCell is_no_int after to

module _ (before after : AbstractState) (name : ℕ → ℕ) where
  abbrev pub Moves : ℕ → Type 0
  Moves id = Follows before after id (name id)

  -- ---- positions

  place_follows : (place : PlaceType) (local : Option ℕ) → AllByRecursion Moves (given_ids (local ∷ []))
      → IsOfPlace before place local → IsOfPlace after place (option_map name local)
  place_follows places.Unset local a h = tt
  place_follows places.Int None a h = absurd h
  place_follows places.Int (Some id) a h = a.0.int h
  place_follows places.Null None a h = absurd h
  place_follows places.Null (Some id) a h = a.0.other h
  place_follows (places.Ref t) None a h = absurd h
  place_follows (places.Ref t) (Some id) a h = a.0.other h

  field_follows : (slot : Slot) (local : Option ℕ) → AllByRecursion Moves (given_ids (local ∷ [])) → IsOfField before slot local
      → IsOfField after slot (option_map name local)
  field_follows (slots.Num kind) None a h = absurd h
  field_follows (slots.Num kind) (Some id) a h = a.0.int h
  field_follows (slots.Ref t) None a h = absurd h
  field_follows (slots.Ref t) (Some id) a h = a.0.other h

  pub locals_follow : (wanted : List PlaceType) (locals : List (Option ℕ)) → AllByRecursion Moves (given_ids locals)
      → AllZip (IsOfPlace before) wanted locals
      → AllZip (IsOfPlace after) wanted (map (option_map name) locals)
  locals_follow [] [] a h = tt
  locals_follow [] (local ∷ locals) a h = absurd h
  locals_follow (place ∷ wanted) [] a h = absurd h
  locals_follow (place ∷ wanted) (None ∷ locals) a h = (place_follows place None tt h.0, locals_follow wanted locals a h.1)
  locals_follow (place ∷ wanted) (Some id ∷ locals) a h =
      (place_follows place (Some id) (a.0, tt) h.0, locals_follow wanted locals a.1 h.1)

  pub fields_follow : (wanted : List Slot) (locals : List (Option ℕ)) → AllByRecursion Moves (given_ids locals)
      → AllZip (IsOfField before) wanted locals
      → AllZip (IsOfField after) wanted (map (option_map name) locals)
  fields_follow [] [] a h = tt
  fields_follow [] (local ∷ locals) a h = absurd h
  fields_follow (slot ∷ wanted) [] a h = absurd h
  fields_follow (slot ∷ wanted) (None ∷ locals) a h = (field_follows slot None tt h.0, fields_follow wanted locals a h.1)
  fields_follow (slot ∷ wanted) (Some id ∷ locals) a h = (field_follows slot (Some id) (a.0, tt) h.0, fields_follow wanted locals a.1 h.1)

  pub stack_follows : (wanted : List PlaceType) (stack : List ℕ) → AllByRecursion Moves stack → HasStackOf before wanted stack
      → HasStackOf after wanted (map name stack)
  stack_follows [] [] a h = tt
  stack_follows [] (id ∷ stack) a h = absurd h
  stack_follows (place ∷ wanted) [] a h = absurd h
  stack_follows (place ∷ wanted) (id ∷ stack) a h = (place_follows place (Some id) (a.0, tt) h.0, stack_follows wanted stack a.1 h.1)

  -- ---- cells

  slots_follow : (fields : List Slot) (ids : List ℕ) → AllByRecursion Moves ids → AllZip (IsOfSlot before) fields ids
      → AllZip (IsOfSlot after) fields (map name ids)
  slots_follow [] [] a h = tt
  slots_follow [] (id ∷ ids) a h = absurd h
  slots_follow (slot ∷ fields) [] a h = absurd h
  slots_follow (slots.Num kind ∷ fields) (id ∷ ids) a h = (a.0.int h.0, slots_follow fields ids a.1 h.1)
  slots_follow (slots.Ref t ∷ fields) (id ∷ ids) a h = (a.0.other h.0, slots_follow fields ids a.1 h.1)

  pub cell_follows : (types : WorldTypes) (c : Cell) → AllByRecursion Moves (ids_in c) → IsSoundCell types before c
      → IsSoundCell types after (cell_named name c)
  cell_follows types (cells.Int interval) a h = h
  cell_follows types cells.Null a h = tt
  cell_follows types (cells.Obj class ids) a h = (h.0, (h.1.0, slots_follow (types.fields class) ids a h.1.1))
  cell_follows types (cells.Nums kind len) a h = a.0.int h
  cell_follows types (cells.Refs element len shape) a h = (a.0.int h.0, h.1)
  cell_follows types (cells.Unk bound nullable shape) a h = h

  -- ---- frames

  module _ (p : Program) (typing : ℕ → CodeTypes) where
    abbrev Holds : AbstractFrame → Type 0
    Holds frame = AllByRecursion Moves (ids_of_frame frame)

    pub placed_follows : (statics : List Slot) (frame : AbstractFrame) (there : PlaceTypes) → Holds frame
        → IsPlaced p typing before statics frame there
        → IsPlaced p typing after statics (frame_named name frame) there
    placed_follows statics frame there a h =
        let given = all_front Moves (given_ids frame.locals) frame.stack a in
        let max = h.method.max_locals in
        record {
          method = h.method;
          is_method = h.is_method;
          is_there = h.is_there;
          count = length-map frame.locals (option_map name) ∙ h.count;
          locals = subst (AllZip (IsOfPlace after) there.locals) (sym (take_mapped (option_map name) max frame.locals))
              (locals_follow there.locals (take max frame.locals) (given_taken Moves max frame.locals given) h.locals);
          fields = subst (AllZip (IsOfField after) statics) (sym (drop_mapped (option_map name) max frame.locals))
              (fields_follow statics (drop max frame.locals) (given_dropped Moves max frame.locals given) h.fields);
        }

    callers_stack : (count : Option ℕ) (wanted : List PlaceType) (stack : List ℕ) → AllByRecursion Moves stack
        → HasCallersStack before count wanted stack
        → HasCallersStack after count wanted (map name stack)
    callers_stack None wanted stack a h = tt
    callers_stack (Some count) wanted stack a h = stack_follows (drop count wanted) stack a h

    running_stack : (thrown : Option ℕ) (wanted : List PlaceType) (stack : List ℕ) → AllByRecursion Moves stack
        → HasRunningStack before thrown wanted stack
        → HasRunningStack after (option_map name thrown) wanted (map name stack)
    running_stack None wanted stack a h = stack_follows wanted stack a h
    running_stack (Some x) wanted stack a h = ap (map name) h

    same_statics : (below : List AbstractFrame) → statics_under p (map (frame_named name) below) ≡ statics_under p below
    same_statics [] = refl
    same_statics (frame ∷ below) = refl

    caller_follows : (statics : List Slot) (frame : AbstractFrame) → Holds frame → IsCallerPlaced p typing before statics frame
        → IsCallerPlaced p typing after statics (frame_named name frame)
    caller_follows statics frame a h = record {
      there = h.there;
      placed = placed_follows statics frame h.there a h.placed;
      stack = callers_stack (call_at p frame) h.there.stack frame.stack (all_back Moves (given_ids frame.locals) frame.stack a) h.stack;
    }

    pub callers_follow : (frames : List AbstractFrame) → AllByRecursion Holds frames → AreCallersPlaced p typing before frames
        → AreCallersPlaced p typing after (map (frame_named name) frames)
    callers_follow [] a h = tt
    callers_follow (frame ∷ below) a h = (
      subst (λ (statics : List Slot). IsCallerPlaced p typing after statics (frame_named name frame)) (sym (same_statics below))
          (caller_follows (statics_under p below) frame a.0 h.0),
      callers_follow below a.1 h.1,
    )

    running_follows : (statics : List Slot) (frame : AbstractFrame) → after.throwing ≡ option_map name before.throwing → Holds frame
        → IsRunningPlaced p typing before statics frame
        → IsRunningPlaced p typing after statics (frame_named name frame)
    running_follows statics frame t a h = record {
      there = h.there;
      placed = placed_follows statics frame h.there a h.placed;
      stack =
          subst (λ (thrown : Option ℕ). HasRunningStack after thrown h.there.stack (map name frame.stack)) (sym t)
          (running_stack before.throwing h.there.stack frame.stack (all_back Moves (given_ids frame.locals) frame.stack a) h.stack);
    }

    pub frames_follow : (frames : List AbstractFrame) → after.throwing ≡ option_map name before.throwing
        → AllByRecursion Holds frames → ArePlaced p typing before frames
        → ArePlaced p typing after (map (frame_named name) frames)
    frames_follow [] t a h = tt
    frames_follow (frame ∷ below) t a h = (
      subst (λ (statics : List Slot). IsRunningPlaced p typing after statics (frame_named name frame)) (sym (same_statics below))
          (running_follows (statics_under p below) frame t a.0 h.0),
      callers_follow below a.1 h.1,
    )
