-- The child of a step: ids keep their sorts, cells say what is of the world, and frames stand where the step leads.
use Rattle.std.proofs.Common.{◌≡◌, ◌∙◌, ◌==◌, ◌<◌, eqb, ℕ, Bool, true, false, not, if◌then◌else◌, List, [], ◌∷◌, map}
use Rattle.std.proofs.Common.{Option, Some, None, slice_get, refl, sym, ap, subst, arith, inl, inr}
use Rattle.std.specs.Prelude.{IsTrue, zip}
use Rattle.std.specs.List.{AllByRecursion}
use Rattle.std.specs.Option.{option_map}
use Rattle.std.proofs.lemmas.Bool.{false≢true, cases_eq, eqb-true}
use Rattle.std.proofs.lemmas.Int.{ints}
use Rattle.std.proofs.lemmas.List.Elements.{recursion_from_All}
use Rattle.std.proofs.lemmas.Option.{none-some}
use Rattle.list_views.proofs.Quantified.{all_joined, all_weaker}
use Rattle.jvm_values.specs.declared.types.Kind.{Kind}
use Rattle.jvm_values.specs.declared.types.Slot.{Slot}
use Rattle.jvm_values.specs.declared.types.Slot.TheVariants as slots
use Rattle.jvm_values.specs.declared.types.Ty.{Ty}
use Rattle.jvm_values.specs.Subtyping.{array_of, IsReference, IsErased}
use Rattle.jvm_values.specs.TypedHeaps.{WorldTypes, AreLawful}
use Rattle.jvm_values.proofs.Options.{some_is}
use Rattle.place_sorts.proofs.JvmRunLists.{zip_set_right}
use Rattle.abs_cells.specs.declared.cells.Cell.{Cell}
use Rattle.abs_cells.specs.declared.cells.Cell.TheVariants as cells
use Rattle.abs_cells.specs.AbstractStates.{AbstractFrame, AbstractState}
use Rattle.abs_cells.specs.Cells.{is_int, ids_in, cell_in, cell_at, HasCell, AreEqual, Share}
use Rattle.abs_cells.specs.Sound.{given_ids, ids_of_frame, is_object, IsOfSlot, IsSoundCell, IsWellFormed}
use Rattle.abs_reach.specs.Instances.{is_no_int}
use Rattle.abs_heap.specs.Given.{IsGiven, first_cell, with_cells, AreRising}
use Rattle.abs_heap.specs.Names.{frame_named, name_in}
use Rattle.abs_heap.specs.Writing.{Write, zero_cell, array_cell, IsWriteChild, IsObjectChild, IsNewArrayChild}
use Rattle.abs_heap.proofs.Placing.{cell_here, cell_later}
use Rattle.class_world.specs.WorldTypes.{types_of}
use Rattle.class_program.specs.Programs.{Program}
use Rattle.frame_types.specs.Tables.{CodeTypes}
use Rattle.code_verify.proofs.RowLaws.{array_reference}
use Rattle.code_verify.proofs.TypeShapes.{erased_of_world}
use Rattle.term_graph.specs.Graphs.{GraphChild}
use Rattle.place_sorts.specs.AbsTurnsGoodPlans.{IsThere, HoldsIds, IsChange, IsGoodAct, IsGoodTurn}
use Rattle.place_sorts.specs.AbsTurnsPlans.{Act, nothing, makes, writes, item, object, array, Goal, nowhere, on_stack, in_local, in_bottom}
use Rattle.place_sorts.specs.AbsTurnsPlans.{in_field, is_thrown, Turn}
use Rattle.place_sorts.proofs.AbsPlansWellFormed.{well_with, all_still}
use Rattle.place_sorts.specs.AbsExpandBadStates.{ArePlaced}
use Rattle.place_sorts.specs.AbsExpandChildren.{IsActed, IsTurnChild, gone_to, set_field, field_with}
use Rattle.place_sorts.specs.AbsExpandMaking.{frames_to, thrown_to, cells_to}
use Rattle.place_sorts.proofs.AbsExpandActing.{still_there, made_names}
use Rattle.place_sorts.proofs.AbsExpandGoingTo.{gone_is, gone_good}
use Rattle.place_sorts.proofs.AbsExpandHeapChildren.{well_with_cell, well_object, well_item, well_new_array, well_write}
use Rattle.place_sorts.specs.Growing.{AreWaiting, WaitBelow}
use Rattle.place_sorts.proofs.Following.{frames_follow}
use Rattle.place_sorts.proofs.Keeping.{KeepsSorts, keeps_then, cell_kept}
use Rattle.place_sorts.proofs.SortLists.{all_any}
use Rattle.place_sorts.proofs.Turns.{IsOfSort, IsMade, IsItem, IsSoundChange, AreSoundChanges, IsIntField, IsReferenceField}
use Rattle.place_sorts.proofs.Turns.{IsSoundWrite, IsSoundAct, Places, IsGrowingTurn}
use Rattle.place_sorts.proofs.MoveRows.{wait_with}
use Rattle.grow_laws.proofs.NewCells.{AreSound, follows_of, listed_at, IsLike, given_keeps, given_sound, new_cell}
use Rattle.grow_laws.proofs.NewCells.{free_like, zip_above, free_zipped, sound_zipped, fields_hold}
use Rattle.grow_laws.proofs.Wholes.{IsWhole}
use Rattle.grow_laws.proofs.Writes.{Name, written_moves, written_sound}

-- ---- an id that goes to a field

fielded_at : (k place id : ℕ) (list : List (ℕ × Cell)) (n : ℕ) → cell_in (map (field_with k place id) list) n ≡ option_map
    (λ (c : Cell). if n == k then set_field place id c else c) (cell_in list n)
fielded_at k place id [] n = refl
fielded_at k place id (c ∷ list) n = by (c.0 == n) refl (fielded_at k place id list n)
  where
    by : (b : Bool) → eqb c.0 n ≡ b → cell_in (map (field_with k place id) list) n ≡ option_map
        (λ (d : Cell). if n == k then set_field place id d else d) (cell_in list n)
        → (if b then Some (if c.0 == k then set_field place id c.1 else c.1) else cell_in (map (field_with k place id) list) n)
        ≡ option_map (λ (d : Cell). if n == k then set_field place id d else d) (if b then Some c.1 else cell_in list n)
    by true q rest = ap (λ (x : ℕ). Some (if x == k then set_field place id c.1 else c.1)) (eqb-true c.0 n q)
    by false q rest = rest

set_sort : (place id : ℕ) (c : Cell) → is_int c ≡ is_int (set_field place id c)
set_sort place id (cells.Int interval) = refl
set_sort place id cells.Null = refl
set_sort place id (cells.Obj class ids) = refl
set_sort place id (cells.Nums kind len) = refl
set_sort place id (cells.Refs element len shape) = refl
set_sort place id (cells.Unk bound nullable shape) = refl

either_same : (b : Bool) (c d e : Cell) → is_int c ≡ is_int d → is_int c ≡ is_int e → is_int c ≡ is_int (if b then d else e)
either_same true c d e x y = x
either_same false c d e x y = y

-- each id keeps its sort, and each cell says what is of the world
record IsMoved (types : WorldTypes) (before after : AbstractState) : Type 0 where
  keeps : KeepsSorts before after
  sound : AreSound types before → AreSound types after

same_moved : (types : WorldTypes) (before : AbstractState) (frames : List AbstractFrame) (throwing : Option ℕ)
    → IsMoved types before (record before { frames = frames; throwing = throwing })
same_moved types before frames throwing =
    let after : AbstractState = record before { frames = frames; throwing = throwing } in
    let keeps : KeepsSorts before after = λ id. follows_of before after id id (λ old e. record { now = old; is = e; same = refl }) in
    record { keeps = keeps; sound = λ sound id c e. cell_kept before after keeps types c (sound id c e) }

-- a field of an instance is one of numbers
abbrev HasIntField : WorldTypes → AbstractState → ℕ → ℕ → Type 0
HasIntField types state k place = (class : ℕ) (ids : List ℕ) → cell_at state k ≡ Some (cells.Obj class ids) → (kind : Kind)
    × (slice_get (types.fields class) place ≡ Some (slots.Num kind))

field_moved : (types : WorldTypes) (before : AbstractState) (k place id : ℕ) → HasCell is_int before id
    → HasIntField types before k place → IsMoved types before (record before { cells = map (field_with k place id) before.cells })
field_moved types before k place id int field =
    let after : AbstractState = record before { cells = map (field_with k place id) before.cells } in
    let keeps : KeepsSorts before after = λ n. follows_of before after n n (λ old e. record {
      now = if n == k then set_field place id old else old;
      is = fielded_at k place id before.cells n ∙ ap (option_map (λ (c : Cell). if n == k then set_field place id c else c)) e;
      same = either_same (n == k) old (set_field place id old) old (set_sort place id old) refl;
    }) in
    record {
      keeps = keeps;
      sound = λ sound n c e. at after keeps sound n c (cell_in before.cells n) refl
          (sym (fielded_at k place id before.cells n) ∙ e);
    }
  where
    set : (after : AbstractState) → KeepsSorts before after → (c : Cell)
        → ((class : ℕ) (ids : List ℕ) → c ≡ cells.Obj class ids → (kind : Kind)
        × (slice_get (types.fields class) place ≡ Some (slots.Num kind))) → IsSoundCell types after c
        → IsSoundCell types after (set_field place id c)
    set after keeps (cells.Int interval) f h = h
    set after keeps cells.Null f h = h
    set after keeps (cells.Obj class ids) f h =
        let slot = f class ids refl in (
          h.0,
          (
            h.1.0,
            zip_set_right (IsOfSlot after) (types.fields class) ids place (slots.Num slot.0) id h.1.1 slot.1
                ((keeps id).int int),
          ),
        )
    set after keeps (cells.Nums kind len) f h = h
    set after keeps (cells.Refs element len shape) f h = h
    set after keeps (cells.Unk bound nullable shape) f h = h

    either : (after : AbstractState) → KeepsSorts before after → (n : ℕ) (old : Cell) → cell_at before n ≡ Some old
        → IsSoundCell types after old → (b : Bool) → eqb n k ≡ b → IsSoundCell types after (if b then set_field place id old else old)
    either after keeps n old e h false q = h
    either after keeps n old e h true q = set after keeps old
        (λ class ids f. field class ids (ap (cell_at before) (sym (eqb-true n k q)) ∙ e ∙ ap Some f)) h

    at : (after : AbstractState) → KeepsSorts before after → AreSound types before → (n : ℕ) (c : Cell) (found : Option Cell)
        → cell_in before.cells n ≡ found
        → option_map (λ (d : Cell). if n == k then set_field place id d else d) found ≡ Some c → IsSoundCell types after c
    at after keeps sound n c None e f = absurd (none-some c f)
    at after keeps sound n c (Some old) e f = subst (IsSoundCell types after) (some_is f)
        (either after keeps n old e (cell_kept before after keeps types old (sound n old e)) (n == k) refl)

-- ---- acts

zero_sound : (types : WorldTypes) (state : AbstractState) (slot : Slot) → IsSoundCell types state (zero_cell slot)
zero_sound types state (slots.Num kind) = ((omega (arith, ints), omega (arith, ints)), (omega (arith, ints), omega (arith, ints)))
zero_sound types state (slots.Ref t) = tt

zero_slot : (state : AbstractState) (slot : Slot) (id : ℕ) → cell_at state id ≡ Some (zero_cell slot) → IsOfSlot state slot id
zero_slot state (slots.Num kind) id e = record { cell = zero_cell (slots.Num kind); is = e; sort_is = refl }
zero_slot state (slots.Ref t) id e = record { cell = zero_cell (slots.Ref t); is = e; sort_is = refl }

array_sort : (erase : Ty → Ty) (slot : Slot) (len : ℕ) → is_no_int (array_cell erase slot len) ≡ true
array_sort erase (slots.Num kind) len = refl
array_sort erase (slots.Ref t) len = refl

array_sound : (types : WorldTypes) (laws : AreLawful types) (state : AbstractState) (slot : Slot) (len : ℕ)
    → HasCell is_int state len → IsItem types slot → IsSoundCell types state (array_cell types.erase slot len)
array_sound types laws state (slots.Num kind) len h w = h
array_sound types laws state (slots.Ref t) len h w =
    let inside = array_reference types.classes t w.0 w.1 in (
      h,
      (
        erased_of_world types laws t w.0,
        subst (λ (s : Ty). IsReference types.classes s × IsErased types.erase s)
            (laws.erase_array t w.0 inside) (erased_of_world types laws (array_of t) inside),
      ),
    )

sort_made : (b : Bool) (state : AbstractState) (id : ℕ) (c : Cell) → cell_at state id ≡ Some c → is_int c ≡ b → IsOfSort b state id
sort_made true state id c e q = record { cell = c; is = e; sort_is = q }
sort_made false state id c e q = record { cell = c; is = e; sort_is = ap not q }

sort_kept : (b : Bool) (before after : AbstractState) → KeepsSorts before after → (id : ℕ) → IsOfSort b before id → IsOfSort b after id
sort_kept true before after keeps id h = (keeps id).int h
sort_kept false before after keeps id h = (keeps id).other h

made_kept : (act : Act) (before after : AbstractState) → KeepsSorts before after → (id : ℕ) → IsMade act before id → IsMade act after id
made_kept nothing before after keeps id h = tt
made_kept (makes cell) before after keeps id h = sort_kept (is_int cell) before after keeps id h
made_kept (writes write) before after keeps id h = tt
made_kept (item k) before after keeps id h = (keeps id).other h
made_kept (object class) before after keeps id h = (keeps id).other h
made_kept (array slot len) before after keeps id h = (keeps id).other h

-- ---- frames

to_waits : (p : Program) (goal : Goal) (id : ℕ) (frames : List AbstractFrame) → WaitBelow p frames → WaitBelow p (frames_to goal id frames)
to_waits p nowhere id frames w = w
to_waits p on_stack id [] w = tt
to_waits p on_stack id (frame ∷ below) w = w
to_waits p (in_local n) id [] w = tt
to_waits p (in_local n) id (frame ∷ below) w = w
to_waits p (in_bottom n) id frames w = wait_with p (λ number. λ place. None)
    (record { frames = []; throwing = None; cells = []; eq = []; share = [] }) n id frames w
to_waits p (in_field k place) id frames w = w
to_waits p is_thrown id frames w = w

to_some : (goal : Goal) (id : ℕ) (frames : List AbstractFrame) → (frames ≡ [] → ⊥) → frames_to goal id frames ≡ [] → ⊥
to_some nowhere id frames h e = h e
to_some on_stack id [] h e = h refl
to_some on_stack id (frame ∷ below) h e = cc
to_some (in_local n) id [] h e = h refl
to_some (in_local n) id (frame ∷ below) h e = cc
to_some (in_bottom n) id [] h e = h refl
to_some (in_bottom n) id (frame ∷ []) h e = cc
to_some (in_bottom n) id (frame ∷ next ∷ below) h e = cc
to_some (in_field k place) id frames h e = h e
to_some is_thrown id frames h e = h e

named_waiting : (p : Program) (name : ℕ → ℕ) (callee : ℕ) (frames : List AbstractFrame) → AreWaiting p callee frames
    → AreWaiting p callee (map (frame_named name) frames)
named_waiting p name callee [] w = tt
named_waiting p name callee (frame ∷ below) w = (
  record { op = w.0.op; stands = w.0.stands; runs = w.0.runs },
  named_waiting p name
      frame.method below w.1,
)

pub named_waits : (p : Program) (name : ℕ → ℕ) (frames : List AbstractFrame) → WaitBelow p frames
    → WaitBelow p (map (frame_named name) frames)
named_waits p name [] w = tt
named_waits p name (frame ∷ below) w = named_waiting p name frame.method below w

pub named_some : (name : ℕ → ℕ) (frames : List AbstractFrame) → (frames ≡ [] → ⊥) → map (frame_named name) frames ≡ [] → ⊥
named_some name [] h e = h refl
named_some name (frame ∷ below) h e = cc

-- ---- steps

module _ (p : Program) (typing : ℕ → CodeTypes) (laws : AreLawful (types_of p.world)) (state : AbstractState)
    (formed : IsWellFormed state) (sound : AreSound (types_of p.world) state)
    (changes : List (ℕ × Cell)) (frames : List AbstractFrame) (throwing : Option ℕ)
    (are_changes : AllByRecursion (IsChange state) changes) (held : AllByRecursion (HoldsIds state) frames)
    (thrown_held : AllByRecursion (IsThere state) (given_ids (throwing ∷ [])))
    (sound_changes : AreSoundChanges (types_of p.world) state changes)
    (waits : WaitBelow p frames) (framed : frames ≡ [] → ⊥)
    (changed : AbstractState) (g : IsGiven frames throwing (with_cells changes state) (AreEqual state) (Share state) changed) where
  abbrev Types : WorldTypes
  Types = types_of p.world

  changed_formed : IsWellFormed changed
  changed_formed =
      well_with state formed changes frames throwing (AreEqual state) (Share state) changed g formed.shared
      (all_weaker (HoldsIds state) (λ (frame : AbstractFrame). AllByRecursion (IsThere state) (ids_of_frame frame))
      (λ frame h. all_joined (IsThere state) (given_ids frame.locals) frame.stack h.locals h.stack) frames held)
      thrown_held
      (λ id c e. all_still state formed changes (ids_in c) (listed_at (IsChange state) changes id c are_changes e).names)

  alike : AllByRecursion (IsLike state) changes
  alike = all_weaker (IsSoundChange Types state) (IsLike state) (λ c h. h.sort) changes sound_changes

  changed_keeps : KeepsSorts state changed
  changed_keeps = given_keeps Types state changed changes g.cells alike

  changed_sound : AreSound Types changed
  changed_sound =
      given_sound Types state changed changes g.cells alike sound
      (all_weaker (IsSoundChange Types state) (λ (c : ℕ × Cell). IsSoundCell Types changed c.1)
      (λ c h. h.sound changed changed_keeps) changes sound_changes)

  -- nothing has changed where no cell has
  unchanged : (none : changes ≡ []) → (id : ℕ) → cell_at changed id ≡ cell_at state id
  unchanged none id = g.cells id ∙ ap (λ (list : List (ℕ × Cell)). with_cells list state id) none

  -- a state with the id that an act made
  record IsStepped (act : Act) (id : ℕ) (acted : AbstractState) : Type 0 where
    well : IsWellFormed acted
    keeps : KeepsSorts changed acted
    fine : AreSound Types acted
    frames_are : acted.frames ≡ frames
    throwing_is : acted.throwing ≡ throwing
    made : IsMade act acted id
    there : IsThere acted id

  stepped : (act : Act) (id : ℕ) (acted : AbstractState) (news : List (ℕ × Cell)) (equal sharing : ℕ → ℕ → Type 0) → IsWellFormed acted
      → IsGiven changed.frames changed.throwing (with_cells news changed) equal sharing acted → AllByRecursion (IsLike changed) news
      → (KeepsSorts changed acted → AllByRecursion (λ (c : ℕ × Cell). IsSoundCell Types acted c.1) news) → IsMade act acted id
      → IsThere acted id → IsStepped act id acted
  stepped act id acted news equal sharing well is like new made there =
      let keeps = given_keeps Types changed acted news is.cells like in
      record {
        well = well;
        keeps = keeps;
        fine = given_sound Types changed acted news is.cells like changed_sound (new keeps);
        frames_are = is.frames_are ∙ g.frames_are;
        throwing_is = is.throwing_is ∙ g.throwing_is;
        made = made;
        there = there;
      }

  makes_stepped : (cell : Cell) (goal : Goal) → IsGoodAct Types state changes (makes cell) goal
      → IsSoundAct Types state changes (makes cell) goal → (id : ℕ) (acted : AbstractState) → IsActed Types (makes cell) id changed acted
      → IsStepped (makes cell) id acted
  makes_stepped cell goal good act id acted is =
      let free = recursion_from_All (λ (n : ℕ). cell_at changed n ≡ None) (id ∷ []) is.0.free in
      let here = new_cell Types changed acted ((id, cell) ∷ []) is.1.cells id cell (cell_here (id, cell) [] id refl) in
      stepped (makes cell) id acted ((id, cell) ∷ []) (AreEqual changed) (Share changed)
      (well_with_cell changed changed_formed id cell acted is.1
      (subst (AllByRecursion (IsThere changed)) (sym (made_names Types state changes cell goal good)) tt)) is.1
      (free_like changed id cell free.0, tt)
      (λ keeps. (act.0 acted (keeps_then state changed acted changed_keeps keeps), tt)) (sort_made (is_int cell) acted id cell here refl)
      (record { cell = cell; is = here; sort_is = refl })

  item_stepped : (k id : ℕ) (acted : AbstractState) → IsActed Types (item k) id changed acted → IsStepped (item k) id acted
  item_stepped k id acted is =
      let cell : Cell = cells.Unk is.0 true is.2 in
      let free = recursion_from_All (λ (n : ℕ). cell_at changed n ≡ None) (id ∷ []) is.3.1.fresh.free in
      let here = new_cell Types changed acted ((id, cell) ∷ []) is.3.1.is.cells id cell (cell_here (id, cell) [] id refl) in
      stepped (item k) id acted ((id, cell) ∷ []) _ _ (well_item changed changed_formed Types.sub k is.0 is.2 id acted is.3.1)
      is.3.1.is (free_like changed id cell free.0, tt)
      (λ keeps. ((changed_sound k (cells.Refs is.0 is.1 is.2) is.3.0).1.0, tt)) (record { cell = cell; is = here; sort_is = refl })
      (record { cell = cell; is = here; sort_is = refl })

  object_stepped : (class id : ℕ) (acted : AbstractState) → class < Types.classes → IsTrue (Types.can_be_made class)
      → IsObjectChild Types changed class id acted → IsStepped (object class) id acted
  object_stepped class id acted within can is =
      let fields = Types.fields class in
      let cell : Cell = cells.Obj class is.ids in
      let rest = zip is.ids (map zero_cell fields) in
      let free = recursion_from_All (λ (n : ℕ). cell_at changed n ≡ None) (id ∷ is.ids) is.fresh.free in
      let here = new_cell Types changed acted ((id, cell) ∷ rest) is.is.cells id cell (cell_here (id, cell) rest id refl) in
      stepped (object class) id acted ((id, cell) ∷ rest) (AreEqual changed) (Share changed)
      (well_object changed changed_formed Types class id acted is) is.is
      (free_like changed id cell free.0, free_zipped changed is.ids (map zero_cell fields) free.1)
      (λ keeps. (
        (
          within,
          (
            can,
            fields_hold acted zero_cell (zero_slot acted) fields is.ids is.count is.fresh.rise.1
                (λ n c e. new_cell Types changed acted ((id, cell) ∷ rest) is.is.cells n c
                (cell_later (id, cell) rest n (apart id is.ids (map zero_cell fields) is.fresh.rise n c e) ∙ e)),
          ),
        ),
        sound_zipped Types acted zero_cell fields is.ids
            (all_any (λ (slot : Slot). IsSoundCell Types acted (zero_cell slot)) (zero_sound Types acted) fields),
      ))
      (record { cell = cell; is = here; sort_is = refl })
      (record { cell = cell; is = here; sort_is = refl })
    where
      apart : (id : ℕ) (ids : List ℕ) (list : List Cell) → AreRising (id ∷ ids) → (n : ℕ) (c : Cell)
          → cell_in (zip ids list) n ≡ Some c → id ≡ n → ⊥
      apart id ids list r n c e q = let l = zip_above id ids list r.0 r.1 n c e in omega (arith, l, q)

  array_stepped : (slot : Slot) (len id : ℕ) (acted : AbstractState) → HasCell is_int state len → IsItem Types slot
      → IsNewArrayChild Types.erase changed slot len id acted → IsStepped (array slot len) id acted
  array_stepped slot len id acted int w is =
      let cell : Cell = array_cell Types.erase slot len in
      let kept = (changed_keeps len).int int in
      let free = recursion_from_All (λ (n : ℕ). cell_at changed n ≡ None) (id ∷ []) is.fresh.free in
      let here = new_cell Types changed acted ((id, cell) ∷ []) is.is.cells id cell (cell_here (id, cell) [] id refl) in
      stepped (array slot len) id acted ((id, cell) ∷ []) (AreEqual changed) (Share changed)
      (well_new_array changed changed_formed Types.erase slot len id acted
      (record { cell = kept.cell; is = kept.is; sort_is = refl }) is) is.is (free_like changed id cell free.0, tt)
      (λ keeps. (array_sound Types laws acted slot len ((keeps len).int kept) w, tt))
      (record { cell = cell; is = here; sort_is = array_sort Types.erase slot len })
      (record { cell = cell; is = here; sort_is = refl })

  -- ---- goals

  abbrev Gone : Goal → ℕ → AbstractState → AbstractState
  Gone goal id acted = record acted {
    frames = frames_to goal id acted.frames;
    throwing = thrown_to goal id acted.throwing;
    cells =
        cells_to goal id acted.cells;
  }

  -- what a field's goal asks
  abbrev Fielded : Goal → ℕ → AbstractState → Type 0
  Fielded (in_field k place) id acted = HasCell is_int acted id × HasIntField Types acted k place
  Fielded _ id acted = Unit {0}

  abbrev Thrown : Goal → ℕ → AbstractState → Type 0
  Thrown is_thrown id acted = HasCell is_object acted id
  Thrown _ id acted = Unit {0}

  moved_to : (goal : Goal) (id : ℕ) (acted : AbstractState) → Fielded goal id acted → IsMoved Types acted (Gone goal id acted)
  moved_to nowhere id acted f = same_moved Types acted acted.frames acted.throwing
  moved_to on_stack id acted f = same_moved Types acted (frames_to on_stack id acted.frames) acted.throwing
  moved_to (in_local n) id acted f = same_moved Types acted (frames_to (in_local n) id acted.frames) acted.throwing
  moved_to (in_bottom n) id acted f = same_moved Types acted (frames_to (in_bottom n) id acted.frames) acted.throwing
  moved_to (in_field k place) id acted f = field_moved Types acted k place id f.0 f.1
  moved_to is_thrown id acted f = same_moved Types acted acted.frames (Some id)

  thrown_in : (goal : Goal) (id : ℕ) (acted : AbstractState) → Thrown goal id acted → ((x : ℕ) → acted.throwing ≡ Some x → ⊥)
      → (x : ℕ) → thrown_to goal id acted.throwing ≡ Some x → HasCell is_object (Gone goal id acted) x
  thrown_in nowhere id acted h none x e = absurd (none x e)
  thrown_in on_stack id acted h none x e = absurd (none x e)
  thrown_in (in_local n) id acted h none x e = absurd (none x e)
  thrown_in (in_bottom n) id acted h none x e = absurd (none x e)
  thrown_in (in_field k place) id acted h none x e = absurd (none x e)
  thrown_in is_thrown id acted h none x e = let same : id ≡ x = some_is e in record
      { cell = h.cell; is = subst (λ (n : ℕ). cell_at acted n ≡ Some h.cell) same h.is; sort_is = h.sort_is }

  gone_whole : (act : Act) (goal : Goal) (id : ℕ) (acted : AbstractState) → IsStepped act id acted
      → Places p typing state frames throwing act goal → ((x : ℕ) → throwing ≡ Some x → ⊥) → Fielded goal id acted → Thrown goal id acted
      → IsWhole p typing (gone_to goal id acted)
  gone_whole act goal id acted s places none fielded thrown =
      let gone = Gone goal id acted in
      let moved = moved_to goal id acted fielded in
      let keeps = keeps_then changed acted gone s.keeps moved.keeps in
      subst (IsWhole p typing) (gone_is goal id acted) (record {
        formed = subst IsWellFormed (sym (gone_is goal id acted)) (gone_good acted s.well id s.there goal);
        framed = to_some goal id acted.frames (λ e. framed (sym s.frames_are ∙ e));
        cells = moved.sound s.fine;
        thrown = thrown_in goal id acted thrown (λ x e. none x (sym s.throwing_is ∙ e));
        placed = subst (λ (fs : List AbstractFrame). ArePlaced p typing gone (frames_to goal id fs)) (sym s.frames_are)
            (places gone id (keeps_then state changed gone changed_keeps keeps) (made_kept act acted gone moved.keeps id s.made)
            (ap (thrown_to goal id) s.throwing_is));
        waiting = to_waits p goal id acted.frames (subst (WaitBelow p) (sym s.frames_are) waits);
      })

  nothing_whole : (id : ℕ) → Places p typing state frames throwing nothing nowhere
      → ((x : ℕ) → throwing ≡ Some x → (changes ≡ []) × HasCell is_object state x) → IsWhole p typing changed
  nothing_whole id places thrown = record {
    formed = changed_formed;
    framed = λ e. framed (sym g.frames_are ∙ e);
    cells = changed_sound;
    thrown = λ x e. let t = thrown x (sym g.throwing_is ∙ e) in record {
      cell = t.1.cell;
      is = unchanged t.0 x
          ∙ t.1.is;
      sort_is = t.1.sort_is;
    };
    placed = subst (ArePlaced p typing changed) (sym g.frames_are) (places changed id changed_keeps tt g.throwing_is);
    waiting = subst (WaitBelow p) (sym g.frames_are) waits;
  }

  writes_whole : (write : Write) (id : ℕ) (acted : AbstractState) → IsThere state write.value
      → IsSoundWrite Types state changes write.object write.value write.field → Places p typing state frames throwing (writes write)
      nowhere
      → ((x : ℕ) → throwing ≡ Some x → ⊥) → IsWriteChild changed write acted → IsWhole p typing acted
  writes_whole write id acted value w places none is =
      let moves = written_moves Types changed acted write changed_formed is in
      let name = Name Types changed acted write changed_formed is in
      record {
        formed = well_write changed changed_formed write acted
            (still_there state changed changes frames throwing formed g write.value value) is;
        framed = λ e. named_some name changed.frames (λ f. framed (sym g.frames_are ∙ f)) (sym is.is.frames_are ∙ e);
        cells = written_sound Types changed acted write changed_formed is changed_sound (field write.field w);
        thrown = λ x e. absurd (unthrown x e);
        placed = subst (ArePlaced p typing acted) (sym is.is.frames_are)
            (frames_follow changed acted name p typing changed.frames is.is.throwing_is
            (all_any _ (λ (frame : AbstractFrame). all_any _ moves (ids_of_frame frame)) changed.frames)
            (subst (ArePlaced p typing changed) (sym g.frames_are) (places changed id changed_keeps tt g.throwing_is)));
        waiting = subst (WaitBelow p) (sym is.is.frames_are)
            (named_waits p name changed.frames (subst (WaitBelow p) (sym g.frames_are) waits));
      }
    where
      field : (place_ : Option ℕ) → IsSoundWrite Types state changes write.object write.value place_ → (place : ℕ) → place_ ≡ Some place
          → HasCell is_no_int changed write.value × IsReferenceField Types changed write.object place
      field None w place e = absurd (none-some place e)
      field (Some n) w place e = (
        (changed_keeps write.value).other w.1.0,
        λ class ids f. subst
            (λ (m : ℕ). (t : Ty) × (slice_get (Types.fields class) m ≡ Some (slots.Ref t))) (some_is e)
            (w.1.1 class ids (sym (unchanged w.0 write.object) ∙ f)),
      )

      named_none : (x : ℕ) (o : Option ℕ) → changed.throwing ≡ o → option_map (name_in is.names) o ≡ Some x → ⊥
      named_none x None q f = none-some x f
      named_none x (Some y) q f = none y (sym g.throwing_is ∙ q)

      unthrown : (x : ℕ) → acted.throwing ≡ Some x → ⊥
      unthrown x e = named_none x changed.throwing refl (sym is.is.throwing_is ∙ e)

  -- ---- any act

  -- what is thrown is an object, and nothing else is done
  abbrev Alone : Act → Type 0
  Alone act = (x : ℕ) → throwing ≡ Some x → HasCell is_object state x × ((changes ≡ []) × (act ≡ nothing))

  made_whole : (cell : Cell) (goal : Goal) → IsGoodAct Types state changes (makes cell) goal
      → IsSoundAct Types state changes (makes cell) goal → Places p typing state frames throwing (makes cell) goal → Alone (makes cell)
      → (id : ℕ) (acted : AbstractState) → IsActed Types (makes cell) id changed acted
      → (cell_at acted id ≡ Some cell → Fielded goal id acted) → (cell_at acted id ≡ Some cell → Thrown goal id acted)
      → IsWhole p typing (gone_to goal id acted)
  made_whole cell goal good act places alone id acted is fielded thrown =
      let here = new_cell Types changed acted ((id, cell) ∷ []) is.1.cells id cell (cell_here (id, cell) [] id refl) in
      gone_whole (makes cell) goal id acted (makes_stepped cell goal good act id acted is) places
      (λ x e. absurd (no_act cell (alone x e).1.1)) (fielded here) (thrown here)
    where
      no_act : (cell : Cell) → makes cell ≡ nothing → ⊥
      no_act cell e = cc

  -- the field of an int
  int_field : (cell : Cell) (k place id : ℕ) (acted : AbstractState) → IsActed Types (makes cell) id changed acted → changes ≡ []
      → is_int cell ≡ true → IsIntField Types state k place → cell_at acted id ≡ Some cell
      → HasIntField Types acted k place
  int_field cell k place id acted is none int field here class ids e = elim (cases_eq id k) [
    | inl s ↦ absurd (false≢true (ap is_int (some_is (sym (ap (cell_at acted) s ∙ e) ∙ here)) ∙ int))
    | inr s ↦
        field class ids (sym (unchanged none k)
        ∙ sym (is.1.cells k ∙ ap (λ (o : Option Cell). first_cell o (cell_at changed k)) (cell_later (id, cell) [] k s)) ∙ e)
  ]

  pub act_whole : (act : Act) (goal : Goal) → IsGoodAct Types state changes act goal → IsSoundAct Types state changes act goal
      → Places p typing state frames throwing act goal → Alone act
      → (id : ℕ) (acted : AbstractState) → IsActed Types act id changed acted → IsWhole p typing (gone_to goal id acted)
  act_whole nothing nowhere good act places alone id acted is = subst (IsWhole p typing) (sym is)
      (nothing_whole id places (λ x e. let t = alone x e in (t.1.0, t.0)))
  act_whole nothing on_stack good act places alone id acted is = absurd good
  act_whole nothing (in_local n) good act places alone id acted is = absurd good
  act_whole nothing (in_bottom n) good act places alone id acted is = absurd good
  act_whole nothing (in_field k place) good act places alone id acted is = absurd good
  act_whole nothing is_thrown good act places alone id acted is = absurd good
  act_whole (makes cell) nowhere good act places alone id acted is = absurd good
  act_whole (makes cell) on_stack good act places alone id acted is = made_whole cell on_stack good act places alone id acted is
      (λ e. tt) (λ e. tt)
  act_whole (makes cell) (in_local n) good act places alone id acted is = made_whole cell (in_local n) good act places alone id
      acted is (λ e. tt) (λ e. tt)
  act_whole (makes cell) (in_bottom n) good act places alone id acted is = made_whole cell (in_bottom n) good act places alone id
      acted is (λ e. tt) (λ e. tt)
  act_whole (makes cell) (in_field k place) good act places alone id acted is =
      made_whole cell (in_field k place) good act places alone id acted is
      (λ e. (record { cell = cell; is = e; sort_is = act.1.1.0 }, int_field cell k place id acted is act.1.0 act.1.1.0 act.1.1.1 e))
      (λ e. tt)
  act_whole (makes cell) is_thrown good act places alone id acted is = made_whole cell is_thrown good act places alone id acted is
      (λ e. tt) (λ e. record { cell = cell; is = e; sort_is = act.1 })
  act_whole (writes write) nowhere good act places alone id acted is =
      writes_whole write id acted good.1 act places (λ x e. absurd (no_act write (alone x e).1.1)) is
    where
      no_act : (write : Write) → writes write ≡ nothing → ⊥
      no_act write e = cc
  act_whole (writes write) on_stack good act places alone id acted is = absurd good
  act_whole (writes write) (in_local n) good act places alone id acted is = absurd good
  act_whole (writes write) (in_bottom n) good act places alone id acted is = absurd good
  act_whole (writes write) (in_field k place) good act places alone id acted is = absurd good
  act_whole (writes write) is_thrown good act places alone id acted is = absurd good
  act_whole (item k) nowhere good act places alone id acted is = absurd good
  act_whole (item k) on_stack good act places alone id acted is = gone_whole (item k) on_stack id acted (item_stepped k id acted is)
      places (λ x e. absurd (no_act k (alone x e).1.1)) tt tt
    where
      no_act : (k : ℕ) → item k ≡ nothing → ⊥
      no_act k e = cc
  act_whole (item k) (in_local n) good act places alone id acted is = absurd good
  act_whole (item k) (in_bottom n) good act places alone id acted is = absurd good
  act_whole (item k) (in_field l place) good act places alone id acted is = absurd good
  act_whole (item k) is_thrown good act places alone id acted is = absurd good
  act_whole (object class) nowhere good act places alone id acted is = absurd good
  act_whole (object class) on_stack good act places alone id acted is = gone_whole (object class) on_stack id acted
      (object_stepped class id acted good act is) places (λ x e. absurd (no_act class (alone x e).1.1)) tt tt
    where
      no_act : (class : ℕ) → object class ≡ nothing → ⊥
      no_act class e = cc
  act_whole (object class) (in_local n) good act places alone id acted is = absurd good
  act_whole (object class) (in_bottom n) good act places alone id acted is = absurd good
  act_whole (object class) (in_field k place) good act places alone id acted is = absurd good
  act_whole (object class) is_thrown good act places alone id acted is = absurd good
  act_whole (array slot len) nowhere good act places alone id acted is = absurd good
  act_whole (array slot len) on_stack good act places alone id acted is =
      gone_whole (array slot len) on_stack id acted (array_stepped slot len id acted act.0 act.1 is) places
      (λ x e. absurd (no_act slot len (alone x e).1.1)) tt tt
    where
      no_act : (slot : Slot) (len : ℕ) → array slot len ≡ nothing → ⊥
      no_act slot len e = cc
  act_whole (array slot len) (in_local n) good act places alone id acted is = absurd good
  act_whole (array slot len) (in_bottom n) good act places alone id acted is = absurd good
  act_whole (array slot len) (in_field k place) good act places alone id acted is = absurd good
  act_whole (array slot len) is_thrown good act places alone id acted is = absurd good

-- ---- the child of a step

pub turn_whole : (p : Program) (typing : ℕ → CodeTypes) → AreLawful (types_of p.world) → (state : AbstractState)
    → IsWellFormed state → AreSound (types_of p.world) state → (turn : Turn) → IsGoodTurn (types_of p.world) state turn
    → IsGrowingTurn p typing state turn → (child : GraphChild) → IsTurnChild (types_of p.world) state turn child
    → IsWhole p typing child.state
turn_whole p typing laws state formed sound turn good grows child is =
    subst (IsWhole p typing) (sym is.is)
    (act_whole p typing laws state formed sound turn.changed turn.frames turn.throwing good.changed good.frames good.thrown
    grows.changed grows.waiting grows.framed is.changed is.is_changed turn.act turn.goal good.act grows.act grows.placed
    (λ x e. let t = grows.thrown x e in (t.object, (t.changed, t.act))) is.id is.acted is.is_acted)
