-- A write of a reference: each id has a new name or its own, and is of its sort there; cells say what is of the world.
use Rattle.std.proofs.Common.{◌≡◌, ◌∙◌, ◌==◌, eqb, ℕ, Bool, true, false, if◌then◌else◌, List, [], ◌∷◌, map, Option, Some, None}
use Rattle.std.proofs.Common.{slice_get, refl, sym, ap, subst, inl, inr}
use Rattle.std.specs.List.{AllByRecursion}
use Rattle.std.proofs.lemmas.Bool.{cases_eq, eqb-true}
use Rattle.std.proofs.lemmas.Option.{none-some}
use Rattle.jvm_values.specs.declared.shape.Shape.{Shape}
use Rattle.jvm_values.specs.declared.types.Slot.TheVariants as slots
use Rattle.jvm_values.specs.declared.types.Ty.{Ty}
use Rattle.jvm_values.specs.TypedHeaps.{WorldTypes}
use Rattle.jvm_values.proofs.Options.{some_is}
use Rattle.place_sorts.proofs.JvmRunLists.{zip_set_right}
use Rattle.abs_cells.specs.declared.cells.Cell.{Cell}
use Rattle.abs_cells.specs.declared.cells.Cell.TheVariants as cells
use Rattle.abs_cells.specs.AbstractStates.{AbstractState}
use Rattle.abs_cells.specs.Cells.{is_int, ids_in, cell_in, cell_at, HasCell}
use Rattle.abs_cells.specs.Sound.{IsOfSlot, IsSoundCell, IsWellFormed}
use Rattle.abs_reach.specs.Instances.{is_no_int}
use Rattle.abs_heap.specs.Names.{name_in, cell_named}
use Rattle.abs_heap.specs.Writing.{with_shape, with_field, is_renamed, Write, reshaped, cell_after, shape_after, IsWriteChild}
use Rattle.abs_heap.proofs.Placing.{cell_here, cell_later}
use Rattle.abs_heap.proofs.Renamed.{old_in, back_again}
use Rattle.place_sorts.proofs.Following.{Follows, cell_follows}
use Rattle.place_sorts.proofs.SortLists.{all_any, each_listed}
use Rattle.grow_laws.proofs.NewCells.{AreSound, follows_of}

-- ---- sorts

shaped_sort : (change : Shape → Shape) (c : Cell) → is_int (with_shape change c) ≡ is_int c
shaped_sort change (cells.Int interval) = refl
shaped_sort change cells.Null = refl
shaped_sort change (cells.Obj class ids) = refl
shaped_sort change (cells.Nums kind len) = refl
shaped_sort change (cells.Refs element len shape) = refl
shaped_sort change (cells.Unk bound nullable shape) = refl

fielded_sort : (field : Option ℕ) (w : ℕ) (c : Cell) → is_int (with_field field w c) ≡ is_int c
fielded_sort None w c = refl
fielded_sort (Some f) w (cells.Int interval) = refl
fielded_sort (Some f) w cells.Null = refl
fielded_sort (Some f) w (cells.Obj class ids) = refl
fielded_sort (Some f) w (cells.Nums kind len) = refl
fielded_sort (Some f) w (cells.Refs element len shape) = refl
fielded_sort (Some f) w (cells.Unk bound nullable shape) = refl

pub named_sort : (name : ℕ → ℕ) (c : Cell) → is_int (cell_named name c) ≡ is_int c
named_sort name (cells.Int interval) = refl
named_sort name cells.Null = refl
named_sort name (cells.Obj class ids) = refl
named_sort name (cells.Nums kind len) = refl
named_sort name (cells.Refs element len shape) = refl
named_sort name (cells.Unk bound nullable shape) = refl

either_sort : (b : Bool) (c d : Cell) (sort : Bool) → is_int c ≡ sort → is_int d ≡ sort → is_int (if b then c else d) ≡ sort
either_sort true c d sort h k = h
either_sort false c d sort h k = k

either_cell : (P : Cell → Type 0) (b : Bool) (c d : Cell) → P c → P d → P (if b then c else d)
either_cell P true c d x y = x
either_cell P false c d x y = y

-- ---- what cells say

module _ (types : WorldTypes) (state : AbstractState) where
  shaped_sound : (change : Shape → Shape) (c : Cell) → IsSoundCell types state c → IsSoundCell types state (with_shape change c)
  shaped_sound change (cells.Int interval) h = h
  shaped_sound change cells.Null h = h
  shaped_sound change (cells.Obj class ids) h = h
  shaped_sound change (cells.Nums kind len) h = h
  shaped_sound change (cells.Refs element len shape) h = h
  shaped_sound change (cells.Unk bound nullable shape) h = h

  -- the field of an instance is one of a reference
  abbrev pub HasField : ℕ → Cell → Type 0
  HasField place c = (class : ℕ) (ids : List ℕ) → c ≡ cells.Obj class ids → (t : Ty)
      × (slice_get (types.fields class) place ≡ Some (slots.Ref t))

  shaped_field : (change : Shape → Shape) (place : ℕ) (c : Cell) → HasField place c → HasField place (with_shape change c)
  shaped_field change place (cells.Int interval) h = h
  shaped_field change place cells.Null h = h
  shaped_field change place (cells.Obj class ids) h = h
  shaped_field change place (cells.Nums kind len) h = λ other ids e. absurd cc
  shaped_field change place (cells.Refs element len shape) h = λ other ids e. absurd cc
  shaped_field change place (cells.Unk bound nullable shape) h = λ other ids e. absurd cc

  fielded_sound : (field : Option ℕ) (w : ℕ) (c : Cell)
      → ((place : ℕ) → field ≡ Some place → HasCell is_no_int state w × HasField place c) → IsSoundCell types state c
      → IsSoundCell types state (with_field field w c)
  fielded_sound None w c f h = h
  fielded_sound (Some place) w (cells.Int interval) f h = h
  fielded_sound (Some place) w cells.Null f h = h
  fielded_sound (Some place) w (cells.Obj class ids) f h =
      let k = f place refl in
      let slot = k.1 class ids refl in
      (h.0, (h.1.0, zip_set_right (IsOfSlot state) (types.fields class) ids place (slots.Ref slot.0) w h.1.1 slot.1 k.0))
  fielded_sound (Some place) w (cells.Nums kind len) f h = h
  fielded_sound (Some place) w (cells.Refs element len shape) f h = h
  fielded_sound (Some place) w (cells.Unk bound nullable shape) f h = h

-- ---- the state after the write

module _ (types : WorldTypes) (state after : AbstractState) (write : Write) (good : IsWellFormed state)
    (h : IsWriteChild state write after) where
  abbrev pub Name : ℕ → ℕ
  Name = name_in h.names

  abbrev Change : Shape → Shape
  Change = shape_after h.null h.no_cycle

  abbrev After : ℕ × Cell → ℕ × Cell
  After = cell_after h.names Change write

  abbrev Before : ℕ × Cell → Cell
  Before c = if c.0 == write.object then with_field write.field write.value (reshaped h.names Change c) else reshaped h.names Change c

  abbrev Has : ℕ → Type 0
  Has = HasCell (λ _. true) state

  one_to_one : (x id : ℕ) → Has x → Has id → Name x ≡ Name id → x ≡ id
  one_to_one x id a b e =
      sym (back_again state h.names h.renamed.fresh.rise h.renamed.fresh.free x a) ∙ ap (old_in h.names) e
      ∙ back_again state h.names h.renamed.fresh.rise h.renamed.fresh.free id b

  after_at : (list : List (ℕ × Cell)) → AllByRecursion (λ (c : ℕ × Cell). Has c.0) list → (id : ℕ) (old : Cell) → Has id
      → cell_in list id ≡ Some old → cell_in (map After list) (Name id) ≡ Some (After (id, old)).1
  after_at [] a id old there e = absurd (none-some old e)
  after_at (d ∷ list) a id old there e = elim (cases_eq d.0 id) [
    | inl s ↦
        let cell : d.1 ≡ old = some_is (sym (cell_here d list id s) ∙ e) in
        cell_here (After d) (map After list) (Name id) (ap Name s) ∙ ap (λ (n : ℕ). Some (After (n, d.1)).1) s
        ∙ ap (λ (c : Cell). Some (After (id, c)).1) cell
    | inr s ↦ cell_later (After d) (map After list) (Name id) (λ t. s (one_to_one d.0 id a.0 there t))
        ∙ after_at list a.1 id old there (sym (cell_later d list id s) ∙ e)
  ]

  all_there : AllByRecursion (λ (c : ℕ × Cell). Has c.0) state.cells
  all_there = each_listed (λ id c. Has id) 0 state.cells good.rising (λ id c e. record { cell = c; is = e; sort_is = refl })

  after_sort : (c : ℕ × Cell) → is_int (After c).1 ≡ is_int c.1
  after_sort c =
      let shaped : is_int (reshaped h.names Change c) ≡ is_int c.1 = either_sort (is_renamed h.names c.0) (with_shape Change c.1)
      c.1 (is_int c.1) (shaped_sort Change c.1) refl in
      named_sort Name (Before c)
      ∙ either_sort (c.0 == write.object) (with_field write.field write.value (reshaped h.names Change c))
      (reshaped h.names Change c) (is_int c.1)
      (fielded_sort write.field write.value (reshaped h.names Change c) ∙ shaped) shaped

  pub written_moves : (id : ℕ) → Follows state after id (Name id)
  written_moves id = follows_of state after id (Name id) (λ old e. record {
    now = (After (id, old)).1;
    is = h.is.cells (Name id) ∙ after_at state.cells all_there id old (record { cell = old; is = e; sort_is = refl }) e;
    same = sym (after_sort (id, old));
  })

  -- a cell after it is that of an id before it
  was_at : (list : List (ℕ × Cell)) → AllByRecursion (λ (d : ℕ × Cell). cell_at state d.0 ≡ Some d.1) list → (n : ℕ) (c : Cell)
      → cell_in (map After list) n ≡ Some c
      → (d : ℕ × Cell) × ((cell_at state d.0 ≡ Some d.1) × (cell_named Name (Before d) ≡ c))
  was_at [] a n c e = absurd (none-some c e)
  was_at (d ∷ list) a n c e = elim (cases_eq (Name d.0) n) [
    | inl s ↦ (d, (a.0, some_is (sym (cell_here (After d) (map After list) n s) ∙ e)))
    | inr s ↦ was_at list a.1 n c (sym (cell_later (After d) (map After list) n s) ∙ e)
  ]

  pub written_sound : AreSound types state
      → ((place : ℕ) → write.field ≡ Some place → HasCell is_no_int state write.value
      × ((class : ℕ) (ids : List ℕ) → cell_at state write.object ≡ Some (cells.Obj class ids) → (t : Ty)
      × (slice_get (types.fields class) place ≡ Some (slots.Ref t))))
      → AreSound types after
  written_sound sound field n c e =
      let was = was_at state.cells (each_listed (λ id d. cell_at state id ≡ Some d) 0 state.cells good.rising (λ id d f. f)) n c
      (sym (h.is.cells n) ∙ e) in
      let d = was.0 in
      let shaped : IsSoundCell types state (reshaped h.names Change d) =
      either_cell (IsSoundCell types state) (is_renamed h.names d.0) (with_shape Change d.1) d.1
      (shaped_sound types state Change d.1 (sound d.0 d.1 was.1.0)) (sound d.0 d.1 was.1.0) in
      let before : IsSoundCell types state (Before d) = by d was.1.0 shaped (d.0 == write.object) refl in
      subst (IsSoundCell types after) was.1.1
      (cell_follows state after Name types (Before d) (all_any _ written_moves (ids_in (Before d))) before)
    where
      by : (d : ℕ × Cell) → cell_at state d.0 ≡ Some d.1 → IsSoundCell types state (reshaped h.names Change d) → (b : Bool)
          → eqb d.0 write.object ≡ b
          → IsSoundCell types state (if b then with_field write.field write.value (reshaped h.names Change d) else reshaped h.names
          Change d)
      by d at shaped false q = shaped
      by d at shaped true q =
          fielded_sound types state write.field write.value (reshaped h.names Change d) (λ place f.
          let k = field place f in
          let own : HasField types state place d.1 = λ class ids g. k.1 class ids
          (ap (cell_at state) (sym (eqb-true d.0 write.object q)) ∙ at ∙ ap Some g) in (
            k.0,
            either_cell (HasField types state place) (is_renamed h.names d.0) (with_shape Change d.1) d.1
                (shaped_field types state Change place d.1 own) own,
          )) shaped
