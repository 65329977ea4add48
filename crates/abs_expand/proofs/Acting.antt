-- What a step does to ids, in a state whose cells have changed.
use Rattle.std.specs.Prelude.{Result, Ok, Err, IfOk}
use Rattle.std.proofs.Common.{◌≡◌, ◌∙◌, ◌<◌, ◌≤◌, ◌+◌, ℕ, Bool, true, if◌then◌else◌, List, [], ◌∷◌, Option, Some, None, refl, ap}
use Rattle.std.proofs.Common.{subst, length}
use Rattle.std.proofs.lemmas.Bool.{false≢true, eq-eqb}
use Rattle.jvm_values.specs.declared.types.Ty.{Ty}
use Rattle.jvm_values.specs.declared.types.Slot.{Slot}
use Rattle.jvm_values.specs.TypedHeaps.{WorldTypes}
use Rattle.abs_cells.specs.declared.cells.Cell.{Cell}
use Rattle.abs_cells.specs.declared.cells.Cell.TheVariants.{Int, Null, Obj, Nums, Refs, Unk}
use Rattle.abs_cells.specs.AbstractStates.{AbstractFrame, AbstractState}
use Rattle.abs_cells.specs.Cells.{ids_in, cell_in, cell_at, HasCell, AreEqual, Share}
use Rattle.abs_cells.specs.Limits.{most_ids}
use Rattle.abs_cells.specs.Sound.{IsWellFormed}
use Rattle.abs_heap.specs.Answers.{IsLoaded}
use Rattle.abs_heap.specs.Given.{IsGiven, first_cell, with_cells}
use Rattle.abs_heap.specs.Writing.{Write, is_array_of_references}
use Rattle.abs_plans.specs.abs_turns.Plans.{Act, nothing, makes, writes, item, object, array, Goal, nowhere, on_stack, in_local, in_bottom}
use Rattle.abs_plans.specs.abs_turns.Plans.{in_field, is_thrown, ids_made}
use Rattle.abs_plans.specs.abs_turns.GoodPlans.{IsThere, IsGoodAct}
use Rattle.abs_expand.specs.inner.Making.{GoesSomewhere}
use Rattle.abs_plans.proofs.WellFormed.{still_in}
use Rattle.abs_expand.proofs.HeapChildren.{well_item}

-- an id that a state has stands also in one in which cells have changed
pub still_there : (state child : AbstractState) (changed : List (ℕ × Cell)) (frames : List AbstractFrame) (throwing : Option ℕ)
    → IsWellFormed state
    → IsGiven frames throwing (with_cells changed state) (AreEqual state) (Share state) child → (id : ℕ) → IsThere state id
    → IsThere child id
still_there state child changed frames throwing good g id h =
    let i = still_in state good changed id h in
    record { cell = i.found; is = g.cells id ∙ i.is; sort_is = refl }

array_kept : (state child : AbstractState) (changed : List (ℕ × Cell)) (frames : List AbstractFrame) (throwing : Option ℕ)
    → IsGiven frames throwing (with_cells changed state) (AreEqual state) (Share state) child → (k : ℕ)
    → HasCell is_array_of_references state k → cell_in changed k ≡ None
    → HasCell is_array_of_references child k
array_kept state child changed frames throwing g k h n = record {
  cell = h.cell;
  is = g.cells k
      ∙ ap (λ (o : Option Cell). first_cell o (cell_at state k)) n ∙ h.is;
  sort_is = h.sort_is;
}

module _ (types : WorldTypes) (state child : AbstractState) (changed : List (ℕ × Cell)) (frames : List AbstractFrame)
    (throwing : Option ℕ) (good : IsWellFormed state)
    (g : IsGiven frames throwing (with_cells changed state) (AreEqual state) (Share state) child) where
  there : (id : ℕ) → IsThere state id → IsThere child id
  there = still_there state child changed frames throwing good g

  pub act_moves : (act : Act) (goal : Goal) → IsGoodAct types state changed act goal → IsGoodAct types child [] act goal
  act_moves nothing nowhere h = tt
  act_moves nothing on_stack h = absurd h
  act_moves nothing (in_local n) h = absurd h
  act_moves nothing (in_bottom n) h = absurd h
  act_moves nothing (in_field k place) h = absurd h
  act_moves nothing is_thrown h = absurd h
  act_moves (makes cell) nowhere h = absurd h
  act_moves (makes cell) on_stack h = h
  act_moves (makes cell) (in_local n) h = h
  act_moves (makes cell) (in_bottom n) h = h
  act_moves (makes cell) (in_field k place) h = h
  act_moves (makes cell) is_thrown h = h
  act_moves (writes write) nowhere h = (there write.object h.0, there write.value h.1)
  act_moves (writes write) on_stack h = absurd h
  act_moves (writes write) (in_local n) h = absurd h
  act_moves (writes write) (in_bottom n) h = absurd h
  act_moves (writes write) (in_field k place) h = absurd h
  act_moves (writes write) is_thrown h = absurd h
  act_moves (item k) nowhere h = absurd h
  act_moves (item k) on_stack h = (array_kept state child changed frames throwing g k h.0 h.1, refl)
  act_moves (item k) (in_local n) h = absurd h
  act_moves (item k) (in_bottom n) h = absurd h
  act_moves (item k) (in_field k2 place) h = absurd h
  act_moves (item k) is_thrown h = absurd h
  act_moves (object class) nowhere h = absurd h
  act_moves (object class) on_stack h = h
  act_moves (object class) (in_local n) h = absurd h
  act_moves (object class) (in_bottom n) h = absurd h
  act_moves (object class) (in_field k place) h = absurd h
  act_moves (object class) is_thrown h = absurd h
  act_moves (array slot len) nowhere h = absurd h
  act_moves (array slot len) on_stack h = there len h
  act_moves (array slot len) (in_local n) h = absurd h
  act_moves (array slot len) (in_bottom n) h = absurd h
  act_moves (array slot len) (in_field k place) h = absurd h
  act_moves (array slot len) is_thrown h = absurd h

-- what acts ask, by the act
pub made_names : (types : WorldTypes) (state : AbstractState) (changed : List (ℕ × Cell)) (cell : Cell) (goal : Goal)
    → IsGoodAct types state changed (makes cell) goal → ids_in cell ≡ []
made_names types state changed cell nowhere h = absurd h
made_names types state changed cell on_stack h = h
made_names types state changed cell (in_local n) h = h
made_names types state changed cell (in_bottom n) h = h
made_names types state changed cell (in_field k place) h = h
made_names types state changed cell is_thrown h = h

pub written_there : (types : WorldTypes) (state : AbstractState) (changed : List (ℕ × Cell)) (write : Write) (goal : Goal)
    → IsGoodAct types state changed (writes write) goal
    → IsThere state write.object × IsThere state write.value
written_there types state changed write nowhere h = h
written_there types state changed write on_stack h = absurd h
written_there types state changed write (in_local n) h = absurd h
written_there types state changed write (in_bottom n) h = absurd h
written_there types state changed write (in_field k place) h = absurd h
written_there types state changed write is_thrown h = absurd h

pub item_array : (types : WorldTypes) (state : AbstractState) (changed : List (ℕ × Cell)) (k : ℕ) (goal : Goal)
    → IsGoodAct types state changed (item k) goal → HasCell is_array_of_references state k
item_array types state changed k nowhere h = absurd h
item_array types state changed k on_stack h = h.0
item_array types state changed k (in_local n) h = absurd h
item_array types state changed k (in_bottom n) h = absurd h
item_array types state changed k (in_field k2 place) h = absurd h
item_array types state changed k is_thrown h = absurd h

pub object_class : (types : WorldTypes) (state : AbstractState) (changed : List (ℕ × Cell)) (class : ℕ) (goal : Goal)
    → IsGoodAct types state changed (object class) goal → class < types.classes
object_class types state changed class nowhere h = absurd h
object_class types state changed class on_stack h = h
object_class types state changed class (in_local n) h = absurd h
object_class types state changed class (in_bottom n) h = absurd h
object_class types state changed class (in_field k place) h = absurd h
object_class types state changed class is_thrown h = absurd h

pub array_length : (types : WorldTypes) (state : AbstractState) (changed : List (ℕ × Cell)) (slot : Slot) (len : ℕ) (goal : Goal)
    → IsGoodAct types state changed (array slot len) goal
    → IsThere state len
array_length types state changed slot len nowhere h = absurd h
array_length types state changed slot len on_stack h = h
array_length types state changed slot len (in_local n) h = absurd h
array_length types state changed slot len (in_bottom n) h = absurd h
array_length types state changed slot len (in_field k place) h = absurd h
array_length types state changed slot len is_thrown h = absurd h

-- an act that makes no id has no goal
pub no_goal : (types : WorldTypes) (state : AbstractState) (changed : List (ℕ × Cell)) (goal : Goal)
    → IsGoodAct types state changed nothing goal → GoesSomewhere goal → ⊥
no_goal types state changed nowhere h g = g
no_goal types state changed on_stack h g = h
no_goal types state changed (in_local n) h g = h
no_goal types state changed (in_bottom n) h g = h
no_goal types state changed (in_field k place) h g = h
no_goal types state changed is_thrown h g = h

pub no_written_goal : (types : WorldTypes) (state : AbstractState) (changed : List (ℕ × Cell)) (write : Write) (goal : Goal)
    → IsGoodAct types state changed (writes write) goal
    → GoesSomewhere goal → ⊥
no_written_goal types state changed write nowhere h g = g
no_written_goal types state changed write on_stack h g = h
no_written_goal types state changed write (in_local n) h g = h
no_written_goal types state changed write (in_bottom n) h g = h
no_written_goal types state changed write (in_field k place) h g = h
no_written_goal types state changed write is_thrown h g = h

-- a new id stands
pub first_there : (state child : AbstractState) (id : ℕ) (cell : Cell) (rest : List (ℕ × Cell)) (frames : List AbstractFrame)
    (throwing : Option ℕ) (equal sharing : ℕ → ℕ → Type 0)
    → IsGiven frames throwing (with_cells ((id, cell) ∷ rest) state) equal sharing child → IsThere child id
first_there state child id cell rest frames throwing equal sharing g = record {
  cell = cell;
  is = g.cells id ∙ ap (λ (b : Bool). first_cell (if b then Some cell else cell_in rest id) (cell_at state id)) (eq-eqb id id refl);
  sort_is = refl;
}

-- the child in which an item is read is well-formed, and the item's id stands
pub loaded_good : (sub : Ty → Ty → Bool) (state child : AbstractState) (k id : ℕ) → IsWellFormed state
    → HasCell is_array_of_references state k → IsLoaded sub state k id child
    → IsWellFormed child × IsThere child id
loaded_good sub state child k id good h l = at h.cell h.is h.sort_is
  where
    at : (c : Cell) → cell_at state k ≡ Some c → is_array_of_references c ≡ true → IsWellFormed child × IsThere child id
    at (Int interval) e f = absurd (false≢true f)
    at Null e f = absurd (false≢true f)
    at (Obj class ids) e f = absurd (false≢true f)
    at (Nums kind len) e f = absurd (false≢true f)
    at (Refs element len shape) e f =
        let is = l element len shape e in (
          well_item state good sub k element shape id child is,
          first_there state child id (Unk element true shape) [] state.frames
              state.throwing _ _ is.is,
        )
    at (Unk bound nullable shape) e f = absurd (false≢true f)

-- ---- what an act asks of its call, by what it is

module _ (types : WorldTypes) (state : AbstractState) (act : Act) (goal : Goal) (few : length state.cells + ids_made types act
    ≤ most_ids) (good : IsGoodAct types state [] act goal) where
  room_as : (wanted : Act) → act ≡ wanted → length state.cells + ids_made types wanted ≤ most_ids
  room_as wanted e = subst (λ (a : Act). length state.cells + ids_made types a ≤ most_ids) e few

  good_as : (wanted : Act) → act ≡ wanted → IsGoodAct types state [] wanted goal
  good_as wanted e = subst (λ (a : Act). IsGoodAct types state [] a goal) e good

  pub makes_asks : (cell : Cell) → act ≡ makes cell → (length state.cells + 1 ≤ most_ids) × (ids_in cell ≡ [])
  makes_asks cell e = (room_as (makes cell) e, made_names types state [] cell goal (good_as (makes cell) e))

  pub writes_asks : (write : Write) → act ≡ writes write → (length state.cells + 0 ≤ most_ids)
      × (IsThere state write.object × IsThere state write.value)
  writes_asks write e = (room_as (writes write) e, written_there types state [] write goal (good_as (writes write) e))

  pub item_asks : (k : ℕ) → act ≡ item k → (length state.cells + 1 ≤ most_ids) × HasCell is_array_of_references state k
  item_asks k e = (room_as (item k) e, item_array types state [] k goal (good_as (item k) e))

  pub object_asks : (class : ℕ) → act ≡ object class → (length state.cells + (1 + length (types.fields class)) ≤ most_ids)
      × (class < types.classes)
  object_asks class e = (room_as (object class) e, object_class types state [] class goal (good_as (object class) e))

  pub array_asks : (slot : Slot) (len : ℕ) → act ≡ array slot len → (length state.cells + 1 ≤ most_ids) × IsThere state len
  array_asks slot len e = (room_as (array slot len) e, array_length types state [] slot len goal (good_as (array slot len) e))

  -- an id that goes nowhere may be any
  pub nothing_goes : act ≡ nothing → (after : AbstractState) (id : ℕ) → GoesSomewhere goal → IsThere after id
  nothing_goes e after id goes = absurd (no_goal types state [] goal (good_as nothing e) goes)

  pub writing_goes : (write : Write) → act ≡ writes write → (after : AbstractState) (id : ℕ) → GoesSomewhere goal → IsThere after id
  writing_goes write e after id goes = absurd (no_written_goal types state [] write goal (good_as (writes write) e) goes)

-- an id that stands does so whether it goes anywhere or not
pub stands_anyway : {E : Type 0} (goal : Goal) (answer : Result (AbstractState × ℕ) E) → IfOk answer (λ r. IsThere r.0 r.1)
    → IfOk answer (λ r. GoesSomewhere goal → IsThere r.0 r.1)
stands_anyway goal (Ok r) h = λ _. h
stands_anyway goal (Err e) h = h
