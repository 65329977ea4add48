-- Steps of fields, of new objects and arrays, of accesses of arrays, and of casts.
use Rattle.std.proofs.Common.{◌≡◌, ◌∙◌, ◌==◌, ◌<◌, ℕ, zero, suc, ℤ, pos, Bool, true, false, not, ◌&&◌, if◌then◌else◌}
use Rattle.std.proofs.Common.{List, [], ◌∷◌, ◌++◌, length, Option, Some, None, slice_get, slice_index_or, refl, sym, ap}
use Rattle.std.proofs.Common.{subst, arith}
use Rattle.std.specs.Prelude.{slice_set}
use Rattle.std.specs.List.{AllByRecursion, AllZip}
use Rattle.std.specs.Option.{IfSome, option_map, option_map_or, option_and_then, option_to_list}
use Rattle.std.proofs.lemmas.Bool.{false≢true}
use Rattle.std.proofs.lemmas.Int.{ints}
use Rattle.std.proofs.lemmas.List.Elements.{recursion_from_All}
use Rattle.std.proofs.lemmas.Option.{none-some}
use Rattle.list_views.proofs.Options.{map_some, then_some}
use Rattle.list_views.proofs.Quantified.{all_joined}
use Rattle.lin_core.specs.Intervals.{Bounds}
use Rattle.jvm_values.specs.declared.types.Kind.{Kind}
use Rattle.jvm_values.specs.declared.types.Slot.{Slot}
use Rattle.jvm_values.specs.declared.types.Slot.TheVariants as slots
use Rattle.jvm_values.specs.declared.types.Ty.{Ty}
use Rattle.jvm_values.specs.declared.typing.PlaceType.{PlaceType}
use Rattle.jvm_values.specs.declared.typing.PlaceType.TheVariants as places
use Rattle.jvm_values.specs.Joins.{item_of}
use Rattle.jvm_values.specs.States.{PlaceTypes}
use Rattle.jvm_values.specs.Subtyping.{class_type, array_of, array_of_numbers, IsReference, IsErased}
use Rattle.jvm_values.specs.TypedHeaps.{WorldTypes}
use Rattle.jvm_values.proofs.Options.{some_is}
use Rattle.jvm_run.proofs.Lists.{zip_get, zip_set_right}
use Rattle.jvm_run.proofs.Objects.{erased_class, class_below_by}
use Rattle.abs_cells.specs.declared.cells.Cell.{Cell}
use Rattle.abs_cells.specs.declared.cells.Cell.TheVariants as cells
use Rattle.abs_cells.specs.AbstractStates.{AbstractState}
use Rattle.abs_cells.specs.Cells.{is_int, cell_at, HasCell}
use Rattle.abs_cells.specs.Sound.{IsOfSlot, IsSoundCell}
use Rattle.abs_reach.specs.Instances.{is_no_int}
use Rattle.abs_ints.specs.Comparing.{related}
use Rattle.abs_ints.specs.IntIntervals.{just, meet_of}
use Rattle.abs_ints.specs.declared.cases.IntCase.{IntCase}
use Rattle.abs_ints.specs.declared.cases.Way.TheVariants.{Taken}
use Rattle.abs_ints.specs.declared.relations.Relation.TheVariants.{Below, AtLeast}
use Rattle.abs_ints.proofs.OperatorCases.{if_either}
use Rattle.class_world.specs.BuiltIns.{null_pointer_exception, array_index_out_of_bounds_exception, negative_array_size_exception}
use Rattle.class_world.specs.BuiltIns.{class_cast_exception, array_store_exception}
use Rattle.class_program.specs.declared.op.FieldUse.{FieldUse}
use Rattle.class_program.specs.declared.op.Op.{Op}
use Rattle.class_program.specs.Good.{IsGoodField}
use Rattle.op_forms.specs.declared.form.ItemKind.{ItemKind}
use Rattle.op_forms.specs.Forms.{Form}
use Rattle.op_forms.specs.Forms.Form.{Getfield, Putfield, New, Newarray, Anewarray, Arraylength, NumberLoad, Aaload, NumberStore}
use Rattle.op_forms.specs.Forms.Form.{Aastore, Checkcast, Instanceof}
use Rattle.frame_types.specs.Places.{IsOfWorld}
use Rattle.frame_types.specs.Tables.{CodeTypes, Takes}
use Rattle.code_verify.specs.declared.want.Want.{Want}
use Rattle.code_verify.specs.declared.want.Want.TheVariants as wants
use Rattle.code_verify.specs.Flows.{falls}
use Rattle.code_verify.specs.Operands.{is_below, place_of, want_of, item_place}
use Rattle.code_verify.specs.Rows.{taken, acted, top_place, aaload_types}
use Rattle.abs_turns.specs.Needs.{passes, fails, passes_if, is_below_place, passing, passing_id, may_be_null, need_null}
use Rattle.abs_turns.specs.Needs.{is_unknown, known_partner, split_unknown, split_below}
use Rattle.abs_turns.specs.Plans.{on_stack, in_field, makes, item, object, array, Turn, Plan, steps, by_null}
use Rattle.abs_turns.specs.Plans.{no_child, no_rows}
use Rattle.abs_turns.specs.Table.{types_here, place_under, cell_here, is_null_here, unless_null, accessed, one_step}
use Rattle.abs_turns.specs.Table.{number_cell, field_id, getfield_plan, on_instance, put_slot, putfield_plan}
use Rattle.abs_turns.specs.Table.{new_plan, array_turn, natural, negative, negative, array_plan, length_id, items_length_id}
use Rattle.abs_turns.specs.Table.{items_of, length_plan, in_bounds, out_of_bounds, access_at, access_of, of_kind, number_load_plan}
use Rattle.abs_turns.specs.Table.{number_store_plan, aaload_plan, aastore_plan, Cast, checkcast_of, instanceof_of, bounded}
use Rattle.abs_turns.specs.Table.{with_bound, cell_bound, is_bound_below, may_be_below, is_known_cell, undecided, cast_plan}
use Rattle.abs_turns.specs.Table.{checkcast_plan, instanceof_plan, row_of, taken_by}
use Rattle.abs_turns.specs.Turns.{Here, id, with_stack, moves, throws, throws_after, narrowings, interval_of_id, rows_over}
use Rattle.abs_turns.proofs.OptionLists.{if_there}
use Rattle.abs_turns.proofs.SoundCells.{cell_sound}
use Rattle.term_graph.specs.declared.links.LinkRow.{LinkRow}
use Rattle.abs_expand.specs.BadStates.{IsOfPlace, HasStackOf}
use Rattle.place_sorts.specs.Laws.{HasIntEnds, IsIntCase, ResultsStayInts, BranchesStayInts}
use Rattle.place_sorts.proofs.IntCases.{all_are, met_is, kind_bounds}
use Rattle.place_sorts.proofs.Keeping.{stack_kept, cell_kept}
use Rattle.place_sorts.proofs.Landing.{sort_of_want, pop, left_typed, asked_at, operand_at}
use Rattle.place_sorts.proofs.Turns.{AreSoundChanges, IsSoundChange, IsItem, int_change}
use Rattle.place_sorts.proofs.Spots.{Spot, StandsAt, Grows, GrowsPlan, Comes, stack_lands, some_frame, narrowed_moves, goes_grows}
use Rattle.place_sorts.proofs.Spots.{throws_grows, pushes_grows, acts}
use Rattle.place_sorts.proofs.IntRows.{PlacesInt, id_bounds, are_narrowed, kinds_grow}
use Rattle.place_sorts.proofs.MoveRows.{pushed_grows, need_null_grows}

-- ---- lists

pub place_in_list : (P : PlaceType → Type 0) (xs : List PlaceType) (n : ℕ) → P places.Unset → AllByRecursion P xs
    → P (slice_index_or xs n places.Unset)
place_in_list P [] n u a = u
place_in_list P (x ∷ xs) zero u a = a.0
place_in_list P (x ∷ xs) (suc n) u a = place_in_list P xs n u a.1

slot_at : (state : AbstractState) (fields : List Slot) (ids : List ℕ) (n : ℕ) (slot : Slot) (x : ℕ)
    → AllZip (IsOfSlot state) fields ids → slice_get fields n ≡ Some slot → slice_get ids n ≡ Some x → IsOfSlot state slot x
slot_at state fields ids n slot x h e f =
    let found = zip_get (IsOfSlot state) fields ids n slot h e in
    subst (IsOfSlot state slot) (some_is (sym found.there ∙ f)) found.alike

slot_place : (types : WorldTypes) (state : AbstractState) (slot : Slot) (x : ℕ) → IsOfSlot state slot x
    → IsOfPlace state (place_of types slot) (Some x)
slot_place types state (slots.Num kind) x h = h
slot_place types state (slots.Ref t) x h = h

-- what is passed by a test
pub passed_below : (b : Bool) → passes_if b fails ≡ passes → b ≡ true
passed_below true e = refl
passed_below false e = cc

pub below_place : (types : WorldTypes) (place : PlaceType) (t : Ty) → is_below_place types place (Some t) ≡ true → (s : Ty)
    × ((place ≡ places.Ref s) × (types.sub t s ≡ true))
below_place types places.Unset t e = absurd (false≢true e)
below_place types places.Int t e = absurd (false≢true e)
below_place types places.Null t e = absurd (false≢true e)
below_place types (places.Ref s) t e = (s, (refl, e))

item_is : (place wanted : PlaceType) (state : AbstractState) (x : ℕ) → item_place place ≡ Some wanted → HasCell is_no_int state x
    → IsOfPlace state wanted (Some x)
item_is places.Unset wanted state x e h = absurd (none-some wanted e)
item_is places.Int wanted state x e h = absurd (none-some wanted e)
item_is places.Null wanted state x e h = subst (λ (p : PlaceType). IsOfPlace state p (Some x)) (some_is e) h
item_is (places.Ref t) wanted state x e h = by (item_of t) e
  where
    by : (found : Option Ty) → option_map places.Ref found ≡ Some wanted → IsOfPlace state wanted (Some x)
    by None f = absurd (none-some wanted f)
    by (Some s) f = subst (λ (p : PlaceType). IsOfPlace state p (Some x)) (some_is f) h

one_is : HasIntEnds (just (pos 1))
one_is = ((omega (arith, ints), omega (arith, ints)), (omega (arith, ints), omega (arith, ints)))

none_is : HasIntEnds (just (pos 0))
none_is = ((omega (arith, ints), omega (arith, ints)), (omega (arith, ints), omega (arith, ints)))

-- ---- rows

module _ (typing : ℕ → CodeTypes) (here : Here) (spot : Spot typing here) (op : Op) where
  abbrev Types : WorldTypes
  Types = types_here here

  abbrev Stands : Form → Type 0
  Stands form = StandsAt typing here spot op form

  abbrev Plans : Plan → Type 0
  Plans = GrowsPlan typing here spot

  abbrev Growing : Turn → Type 0
  Growing = Grows typing here spot

  abbrev ComesTo : ℕ → List PlaceType → List PlaceType → Type 0
  ComesTo = Comes typing here spot

  abbrev Typed : List PlaceType → List ℕ → Type 0
  Typed = HasStackOf here.state

  abbrev Changes : List (ℕ × Cell) → Type 0
  Changes = AreSoundChanges Types here.state

  sound_at : (x : ℕ) (c : Cell) → cell_at here.state x ≡ Some c → IsSoundCell Types here.state c
  sound_at x c e = cell_sound Types here.state spot.sound x c e

  pub thrown_one : (class : ℕ) → class < 15 → Plans (steps (throws here class ∷ []))
  thrown_one class l = (throws_grows typing here spot [] no_rows class l tt, tt)

  -- ---- objects that are looked at

  world_place : (depth : ℕ) → IsOfWorld Types (place_under here depth)
  world_place depth =
      subst (λ (ps : List PlaceType). IsOfWorld Types (slice_index_or ps depth places.Unset)) (sym spot.places_are)
      (place_in_list (IsOfWorld Types) spot.there.stack depth tt
      (recursion_from_All (IsOfWorld Types) spot.there.stack spot.limits.proper.stack))

  unknown_grows : (x : ℕ) (t : Ty) → IsReference Types.classes t × IsErased Types.erase t → (partner : Option ℕ)
      → Plans (split_unknown x t partner)
  unknown_grows x t w None = w
  unknown_grows x t w (Some other) = tt

  pub split_grows : (x : ℕ) (place : PlaceType) → IsOfWorld Types place → Plans (split_below here.state x place)
  split_grows x places.Unset w = tt
  split_grows x places.Int w = tt
  split_grows x places.Null w = tt
  split_grows x (places.Ref t) w = unknown_grows x t w (known_partner here.state x)

  pub unless_null_grows : (x : ℕ) (plan : Plan) → (is_null_here here x ≡ false → Plans plan) → Plans (unless_null here x plan)
  unless_null_grows x plan h = if_either Plans (is_null_here here x) (steps (throws here null_pointer_exception ∷ [])) plan
      (λ _. thrown_one null_pointer_exception (omega arith)) h

  -- what is known of an id whose access goes on
  pub record IsAccessed (x : ℕ) : Type 0 where
    pub not_nullable : may_be_null (cell_at here.state x) ≡ false
    pub not_unknown : is_unknown (cell_at here.state x) ≡ false
    pub not_null : is_null_here here x ≡ false

  pub accessed_grows : (depth x : ℕ) (plan : Plan) → (IsAccessed x → Plans plan) → Plans (accessed here depth x plan)
  accessed_grows depth x plan h =
      if_either Plans (may_be_null (cell_at here.state x)) (by_null x) _ (λ _. tt) (λ n.
      if_either Plans (is_unknown (cell_at here.state x)) (split_below here.state x (place_under here depth)) _
      (λ _. split_grows x (place_under here depth) (world_place depth)) (λ u.
      unless_null_grows x plan (λ o. h (record { not_nullable = n; not_unknown = u; not_null = o }))))

  -- ---- instances

  -- the operand under so many others passed its test
  pub operand_passes : (form : Form) (s : Stands form) (n : ℕ) (place : PlaceType) (x : ℕ) → n < taken_by form
      → slice_get spot.there.stack n ≡ Some place → slice_get here.frame.stack n ≡ Some x
      → passing_id Types here.state place x ≡ passes
  operand_passes form s n place x l e f =
      operand_at (λ (operand : PlaceType × ℕ). passing_id Types here.state operand.0 operand.1 ≡ passes) (taken_by form) n
      here.places here.frame.stack place x s.tested l
      (ap (λ (ps : List PlaceType). slice_get ps n) spot.places_are ∙ e) f

  -- an instance that passed is of a class below the one that is named
  pub class_passes : (place : PlaceType) (x class : ℕ) (ids : List ℕ) (named : ℕ) → passing_id Types here.state place x ≡ passes
      → cell_at here.state x ≡ Some (cells.Obj class ids)
      → is_below Types (class_type named) place ≡ true → Types.sub (class_type class) (Types.erase (class_type named)) ≡ true
  class_passes place x class ids named p e f =
      let below = below_place Types place (class_type class)
      (passed_below _ (ap (λ (found : Option Cell). option_map_or (passing Types place) found passes) (sym e) ∙ p)) in
      let fit : Types.sub below.0 (Types.erase (class_type named)) ≡ true = ap (is_below Types (class_type named)) (sym below.1.0) ∙ f in
      spot.laws.transitive (class_type class) below.0 (Types.erase (class_type named)) below.1.1 fit

  -- ---- fields

  -- an instance at an access has the named field at its place
  field_right : (used : FieldUse) (form : Form) (s : Stands form) (first : List Want) (below : List PlaceType) (k : ℕ)
      → taken Types (first ++ wants.Below (class_type used.class) ∷ []) spot.there.stack ≡ Some below
      → length first < taken_by form → slice_get here.frame.stack (length first) ≡ Some k → IsGoodField here.program.world used
      → (class : ℕ) (ids : List ℕ) → cell_at here.state k ≡ Some (cells.Obj class ids)
      → slice_get (Types.fields class) used.place ≡ Some used.slot
  field_right used form s first below k e l f good class ids at =
      let asked = asked_at Types (wants.Below (class_type used.class)) first [] below spot.there.stack e in
      let up = class_passes asked.place k class ids used.class (operand_passes form s (length first) asked.place k l asked.is f) at
      asked.fit in
      let plain : Types.sub (class_type class) (class_type used.class) ≡ true = ap (Types.sub (class_type class))
      (sym (erased_class here.program.world used.class good.no_interface)) ∙ up in
      good.right class (sound_at k (cells.Obj class ids) at).0 (class_below_by here.program.world spot.linked class used.class plain)

  pub getfield_grows : (used : FieldUse) → Stands (Getfield used) → Plans (row_of here (Getfield used))
  getfield_grows used s = by here.frame.stack refl spot.stack
    where
      field_typed : (k : ℕ) (found : Option Cell) (x : ℕ) → cell_at here.state k ≡ found
          → ((class : ℕ) (ids : List ℕ) → cell_at here.state k ≡ Some (cells.Obj class ids)
          → slice_get (Types.fields class) used.place ≡ Some used.slot)
          → field_id found used.place ≡ Some x → IsOfPlace here.state (place_of Types used.slot) (Some x)
      field_typed k None x e right f = absurd (none-some x f)
      field_typed k (Some (cells.Int interval)) x e right f = absurd (none-some x f)
      field_typed k (Some cells.Null) x e right f = absurd (none-some x f)
      field_typed k (Some (cells.Obj class ids)) x e right f =
          slot_place Types here.state used.slot x
          (slot_at here.state (Types.fields class) ids used.place used.slot x (sound_at k (cells.Obj class ids) e).1.1
          (right class ids e) f)
      field_typed k (Some (cells.Nums kind len)) x e right f = absurd (none-some x f)
      field_typed k (Some (cells.Refs element len shape)) x e right f = absurd (none-some x f)
      field_typed k (Some (cells.Unk bound nullable shape)) x e right f = absurd (none-some x f)

      by : (stack : List ℕ) → here.frame.stack ≡ stack → Typed spot.there.stack stack → Plans (getfield_plan here used stack)
      by [] q h = tt
      by (k ∷ rest) q h =
          let a = acts typing here spot op (Getfield used) s (wants.Below (class_type used.class) ∷ [])
          (Some (place_of Types used.slot)) s.types_are in
          let one = pop Types here.state (wants.Below (class_type used.class)) [] a.below spot.there.stack k rest a.taken_is h in
          let right = field_right used (Getfield used) s [] a.below k a.taken_is (omega arith)
          (ap (λ (ids : List ℕ). slice_get ids 0) q) s.named in
          accessed_grows 0 k _ (λ _. pushed_grows typing here spot op (field_id (cell_here here k) used.place)
          (place_of Types used.slot) a.below rest (a.next refl)
          (left_typed Types here.state a.below one.under rest one.others one.typed) (λ x. field_typed k (cell_here here k) x refl right))

  pub putfield_grows : ResultsStayInts → (used : FieldUse) → Stands (Putfield used) → Plans (row_of here (Putfield used))
  putfield_grows stay used s = by here.frame.stack refl spot.stack
    where
      frames_land : (below : List PlaceType) (rest : List ℕ) (k : ℕ) → ComesTo here.next spot.there.locals below → Typed below rest
          → PlacesInt typing here spot (with_stack here here.next rest) (in_field k used.place)
      frames_land below rest k takes h = record {
        placed = λ after y keeps made t. stack_lands typing here spot here.next below rest takes after keeps
            (stack_kept here.state after keeps below rest h) t;
        waiting = spot.waiting;
        framed = some_frame typing here spot here.next here.frame.locals rest;
      }

      put : (slot : Slot) (below : List PlaceType) (rest : List ℕ) (k x : ℕ) → used.slot ≡ slot
          → ComesTo here.next spot.there.locals below → Typed below rest → HasCell (sort_of_want (want_of slot)) here.state x
          → ((class : ℕ) (ids : List ℕ) → cell_at here.state k ≡ Some (cells.Obj class ids)
          → slice_get (Types.fields class) used.place ≡ Some slot)
          → (class : ℕ) (ids : List ℕ) → cell_at here.state k ≡ Some (cells.Obj class ids)
          → Plans (put_slot here slot k used.place x rest class ids)
      put (slots.Num kind) below rest k x q takes h has right class ids at =
          let sound = sound_at k (cells.Obj class ids) at in
          let change : IsSoundChange Types here.state (k, cells.Obj class (slice_set ids used.place x)) = record {
            sort = λ old e. ap is_int (some_is (sym e ∙ at));
            sound = λ after keeps.
                let kept = cell_kept here.state after keeps Types (cells.Obj class ids) sound in (
                  kept.0,
                  (
                    kept.1.0,
                    zip_set_right (IsOfSlot after) (Types.fields class) ids used.place (slots.Num kind) x kept.1.1
                        (right class ids at) ((keeps x).int has),
                  ),
                );
          } in
          kinds_grow typing here spot stay kind x
          (record (moves (with_stack here here.next rest)) { changed = (k, cells.Obj class (slice_set ids used.place x)) ∷ [] })
          (with_stack here here.next rest) (in_field k used.place)
          (narrowed_moves typing here spot ((k, cells.Obj class (slice_set ids used.place x)) ∷ []) no_rows here.next below rest
          (change, tt) takes h) (frames_land below rest k takes h)
          (λ r. (refl, (refl, λ other more e. (kind, right other more e))))
      put (slots.Ref t) below rest k x q takes h has right class ids at = (
        record {
          changed = tt;
          act = (refl, (has, λ other more e. (t, right other more e)));
          placed = λ after y keeps made t. stack_lands typing here spot here.next below rest takes after keeps
              (stack_kept here.state after keeps below rest h) t;
          waiting = spot.waiting;
          framed = some_frame typing here spot here.next here.frame.locals rest;
          thrown = λ y r. absurd (none-some y r);
        },
        tt,
      )

      on_instance_grows : (k : ℕ) (found : Option Cell) (plan : ℕ → List ℕ → Plan)
          → ((class : ℕ) (ids : List ℕ) → found ≡ Some (cells.Obj class ids) → Plans (plan class ids)) → Plans (on_instance found plan)
      on_instance_grows k None plan h = tt
      on_instance_grows k (Some (cells.Int interval)) plan h = tt
      on_instance_grows k (Some cells.Null) plan h = tt
      on_instance_grows k (Some (cells.Obj class ids)) plan h = h class ids refl
      on_instance_grows k (Some (cells.Nums kind len)) plan h = tt
      on_instance_grows k (Some (cells.Refs element len shape)) plan h = tt
      on_instance_grows k (Some (cells.Unk bound nullable shape)) plan h = tt

      by : (stack : List ℕ) → here.frame.stack ≡ stack → Typed spot.there.stack stack → Plans (putfield_plan here used stack)
      by [] q h = tt
      by (x ∷ []) q h = tt
      by (x ∷ k ∷ rest) q h =
          let a = acts typing here spot op (Putfield used) s (want_of used.slot ∷ wants.Below (class_type used.class) ∷ []) None
          s.types_are in
          let one = pop Types here.state (want_of used.slot) (wants.Below (class_type used.class) ∷ []) a.below spot.there.stack x
          (k ∷ rest) a.taken_is h in
          let two = pop Types here.state (wants.Below (class_type used.class)) [] a.below one.under k rest one.others one.typed in
          let right = field_right used (Putfield used) s (want_of used.slot ∷ []) a.below k a.taken_is (omega arith)
          (ap (λ (ids : List ℕ). slice_get ids 1) q) s.named in
          accessed_grows 1 k _ (λ _. on_instance_grows k (cell_here here k) _
          (put used.slot a.below rest k x refl (a.next refl)
          (left_typed Types here.state a.below two.under rest two.others two.typed) one.sort right))

  -- ---- new objects and arrays

  pub new_grows : (t : Ty) → Stands (New t) → Plans (row_of here (New t))
  new_grows t s =
      let a = acts typing here spot op (New t) s [] (Some (places.Ref (Types.erase t))) s.types_are in
      let made : Plans (new_plan here (class_type s.named.class)) = (
        pushes_grows typing here spot [] no_rows (object s.named.class) here.next (places.Ref (Types.erase t)) a.below
            here.frame.stack tt s.named.made (λ after x is. is) (a.next refl)
            (left_typed Types here.state a.below spot.there.stack here.frame.stack a.taken_is spot.stack),
        tt,
      ) in
      subst (λ (u : Ty). Plans (new_plan here u)) (sym s.named.type_is) made

  if_some : {X : Type 0} (f : X → Turn) (found : Option X) → ((x : X) → found ≡ Some x → Growing (f x))
      → AllByRecursion Growing (option_to_list (option_map f found))
  if_some f None h = tt
  if_some f (Some x) h = (h x refl, tt)

  -- an int that is narrowed before a throw
  narrowed_thrown : (x class : ℕ) (b : Bounds) → class < 15 → HasCell is_int here.state x
      → AllByRecursion Growing
      (option_to_list (option_map (λ both. throws_after here ((x, cells.Int both) ∷ []) no_rows class)
      (meet_of (interval_of_id here.state x) b)))
  narrowed_thrown x class b l h =
      if_some (λ both. throws_after here ((x, cells.Int both) ∷ []) no_rows class) (meet_of (interval_of_id here.state x) b)
      (λ both e. throws_grows typing here spot ((x, cells.Int both) ∷ []) no_rows class l (
        int_change Types here.state x both h
            (met_is (interval_of_id here.state x) b both (id_bounds Types here.state spot.sound x) e),
        tt,
      ))

  array_made : (form : Form) (s : Stands form) (slot : Slot) (t : Ty) → falls form ≡ true
      → acted Types (wants.Int ∷ []) (Some (places.Ref t)) spot.there ≡ Some s.after → IsItem Types slot
      → (stack : List ℕ) → Typed spot.there.stack stack → Plans (array_plan here slot stack)
  array_made form s slot t f e w [] h = tt
  array_made form s slot t f e w (count ∷ rest) h =
      let a = acts typing here spot op form s (wants.Int ∷ []) (Some (places.Ref t)) e in
      let one = pop Types here.state wants.Int [] a.below spot.there.stack count rest a.taken_is h in
      all_joined Growing _ _
      (if_some (array_turn here slot count rest) (meet_of (interval_of_id here.state count) natural) (λ both g.
      pushes_grows typing here spot ((count, cells.Int both) ∷ []) no_rows (array slot count) here.next (places.Ref t) a.below rest (
        int_change Types here.state count both one.sort
            (met_is (interval_of_id here.state count) natural both (id_bounds Types here.state spot.sound count) g),
        tt,
      )
      (one.sort, w) (λ after x is. is) (a.next f)
      (left_typed Types here.state a.below one.under rest one.others one.typed)))
      (narrowed_thrown count negative_array_size_exception negative (omega arith) one.sort)

  pub newarray_grows : (kind : Kind) → Stands (Newarray kind) → Plans (row_of here (Newarray kind))
  newarray_grows kind s = array_made (Newarray kind) s (slots.Num kind) (array_of_numbers kind) refl s.types_are tt here.frame.stack
      spot.stack

  pub anewarray_grows : (t : Ty) → Stands (Anewarray t) → Plans (row_of here (Anewarray t))
  anewarray_grows t s = array_made (Anewarray t) s (slots.Ref t) (Types.erase (array_of t)) refl s.types_are s.named
      here.frame.stack spot.stack

  -- ---- lengths

  length_int : (k len : ℕ) (found : Option Cell) → cell_at here.state k ≡ found → length_id found ≡ Some len
      → HasCell is_int here.state len
  length_int k len None e f = absurd (none-some len f)
  length_int k len (Some (cells.Int interval)) e f = absurd (none-some len f)
  length_int k len (Some cells.Null) e f = absurd (none-some len f)
  length_int k len (Some (cells.Obj class ids)) e f = absurd (none-some len f)
  length_int k len (Some (cells.Nums kind n)) e f = subst (HasCell is_int here.state) (some_is f) (sound_at k (cells.Nums kind n) e)
  length_int k len (Some (cells.Refs element n shape)) e f = subst (HasCell is_int here.state) (some_is f)
      (sound_at k (cells.Refs element n shape) e).0
  length_int k len (Some (cells.Unk bound nullable shape)) e f = absurd (none-some len f)

  items_length : (k len : ℕ) (found : Option Cell) → items_length_id found ≡ Some len → length_id found ≡ Some len
  items_length k len None f = f
  items_length k len (Some (cells.Int interval)) f = f
  items_length k len (Some cells.Null) f = f
  items_length k len (Some (cells.Obj class ids)) f = f
  items_length k len (Some (cells.Nums kind n)) f = absurd (none-some len f)
  items_length k len (Some (cells.Refs element n shape)) f = f
  items_length k len (Some (cells.Unk bound nullable shape)) f = f

  pub length_grows : Stands Arraylength → Plans (row_of here Arraylength)
  length_grows s = by here.frame.stack spot.stack
    where
      by : (stack : List ℕ) → Typed spot.there.stack stack → Plans (length_plan here stack)
      by [] h = tt
      by (k ∷ rest) h =
          let a = acts typing here spot op Arraylength s (wants.Array ∷ []) (Some places.Int) s.types_are in
          let one = pop Types here.state wants.Array [] a.below spot.there.stack k rest a.taken_is h in
          accessed_grows 0 k _ (λ _. pushed_grows typing here spot op (length_id (cell_here here k)) places.Int a.below rest (a.next refl)
          (left_typed Types here.state a.below one.under rest one.others one.typed) (λ len. length_int k len (cell_here here k) refl))

  -- ---- accesses at an index

  abbrev Inside : Type 0
  Inside = List (ℕ × Cell) × (ℕ → List LinkRow)

  inside_sound : BranchesStayInts → (index len : ℕ) (inside : Inside) → HasCell is_int here.state index
      → HasCell is_int here.state len → in_bounds here index len ≡ Some inside → Changes inside.0
  inside_sound stay index len inside hi hl e =
      let own = id_bounds Types here.state spot.sound index in
      let other = id_bounds Types here.state spot.sound len in
      let a = then_some _ (meet_of (interval_of_id here.state index) natural) inside e in
      let i = met_is (interval_of_id here.state index) natural a.0 own a.1.0 in
      let b = then_some _ (related Below Taken a.0 (interval_of_id here.state len)) inside a.1.1 in
      let ranges = subst (λ (found : Option IntCase). IfSome found IsIntCase) b.1.0
      ((stay a.0 (interval_of_id here.state len) i other).related Below Taken) in
      let c = map_some (λ (narrowed : List (ℕ × Cell)). (narrowed, rows_over (id index) (id len) b.0.rows))
      (narrowings (id index) b.0.left (id len) b.0.right) inside b.1.1 in
      subst (λ (x : Inside). Changes x.0) c.1.1
      (are_narrowed typing here spot (id index) (id len) b.0.left b.0.right c.0 hi hl ranges.left ranges.right c.1.0)

  outside_grows : BranchesStayInts → (index len : ℕ) → HasCell is_int here.state index → HasCell is_int here.state len
      → AllByRecursion Growing (out_of_bounds here index len)
  outside_grows stay index len hi hl =
      let own = id_bounds Types here.state spot.sound index in
      let other = id_bounds Types here.state spot.sound len in
      all_joined Growing _ _ (narrowed_thrown index array_index_out_of_bounds_exception negative (omega arith) hi)
      (if_there Growing _ (λ turn e.
      let b = then_some _ (related AtLeast Taken (interval_of_id here.state index) (interval_of_id here.state len)) turn e in
      let ranges = subst (λ (found : Option IntCase). IfSome found IsIntCase) b.1.0
      ((stay (interval_of_id here.state index) (interval_of_id here.state len) own other).related AtLeast Taken) in
      let c = map_some (λ (narrowed : List (ℕ × Cell)). throws_after here narrowed (rows_over (id index) (id len) b.0.rows)
      array_index_out_of_bounds_exception) (narrowings (id index) b.0.left (id len) b.0.right) turn b.1.1 in
      subst Growing c.1.1 (throws_grows typing here spot c.0 (rows_over (id index) (id len) b.0.rows)
      array_index_out_of_bounds_exception (omega arith)
      (are_narrowed typing here spot (id index) (id len) b.0.left b.0.right c.0 hi hl ranges.left ranges.right c.1.0))))

  access_grows : BranchesStayInts → (depth k index : ℕ) (found : Option ℕ) (good : List (ℕ × Cell) → (ℕ → List LinkRow) → List Turn)
      → HasCell is_int here.state index
      → ((len : ℕ) → found ≡ Some len → HasCell is_int here.state len)
      → ((narrowed : List (ℕ × Cell)) (rows : ℕ → List LinkRow) → Changes narrowed → AllByRecursion Growing (good narrowed rows))
      → Plans (access_of here depth k index found good)
  access_grows stay depth k index found good hi hl h = accessed_grows depth k _ (λ _. by found refl)
    where
      inside : (len : ℕ) → HasCell is_int here.state len → (bounds : Option Inside) → in_bounds here index len ≡ bounds
          → AllByRecursion Growing (option_map_or (λ (i : Inside). good i.0 i.1) bounds [])
      inside len l None e = tt
      inside len l (Some i) e = h i.0 i.1 (inside_sound stay index len i hi l e)

      by : (o : Option ℕ) → found ≡ o → Plans (option_map_or (λ len. access_at here index len good) o no_child)
      by None e = tt
      by (Some len) e = all_joined Growing _ _ (inside len (hl len e) (in_bounds here index len) refl)
          (outside_grows stay index len hi (hl len e))

  kind_of_ends : (found : Option Cell) → HasIntEnds (of_kind found)
  kind_of_ends None = all_are
  kind_of_ends (Some (cells.Int interval)) = all_are
  kind_of_ends (Some cells.Null) = all_are
  kind_of_ends (Some (cells.Obj class ids)) = all_are
  kind_of_ends (Some (cells.Nums kind len)) = kind_bounds kind
  kind_of_ends (Some (cells.Refs element len shape)) = all_are
  kind_of_ends (Some (cells.Unk bound nullable shape)) = all_are

  pub number_load_grows : BranchesStayInts → (for : ItemKind) → Stands (NumberLoad for) → Plans (row_of here (NumberLoad for))
  number_load_grows stay for s = by here.frame.stack spot.stack
    where
      by : (stack : List ℕ) → Typed spot.there.stack stack → Plans (number_load_plan here stack)
      by [] h = tt
      by (index ∷ []) h = tt
      by (index ∷ k ∷ rest) h =
          let a = acts typing here spot op (NumberLoad for) s (wants.Int ∷ wants.Numbers for ∷ []) (Some places.Int) s.types_are in
          let one = pop Types here.state wants.Int (wants.Numbers for ∷ []) a.below spot.there.stack index (k ∷ rest) a.taken_is h in
          let two = pop Types here.state (wants.Numbers for) [] a.below one.under k rest one.others one.typed in
          access_grows stay 1 k index (length_id (cell_here here k)) _ one.sort (λ len. length_int k len (cell_here here k) refl)
          (λ narrowed rows n. (
            pushes_grows typing here spot narrowed rows (makes (cells.Int (of_kind (cell_here here k)))) here.next places.Int a.below
                rest n ((λ after keeps. kind_of_ends (cell_here here k)), tt) (λ after x is. is) (a.next refl)
                (left_typed Types here.state a.below two.under rest two.others two.typed),
            tt,
          ))

  pub number_store_grows : BranchesStayInts → (for : ItemKind) → Stands (NumberStore for) → Plans (row_of here (NumberStore for))
  number_store_grows stay for s = by here.frame.stack spot.stack
    where
      by : (stack : List ℕ) → Typed spot.there.stack stack → Plans (number_store_plan here stack)
      by [] h = tt
      by (value ∷ []) h = tt
      by (value ∷ index ∷ []) h = tt
      by (value ∷ index ∷ k ∷ rest) h =
          let a = acts typing here spot op (NumberStore for) s (wants.Int ∷ wants.Int ∷ wants.Numbers for ∷ []) None s.types_are in
          let one = pop Types here.state wants.Int (wants.Int ∷ wants.Numbers for ∷ []) a.below spot.there.stack value
          (index ∷ k ∷ rest) a.taken_is h in
          let two = pop Types here.state wants.Int (wants.Numbers for ∷ []) a.below one.under index (k ∷ rest) one.others one.typed in
          let three = pop Types here.state (wants.Numbers for) [] a.below two.under k rest two.others two.typed in
          access_grows stay 2 k index (length_id (cell_here here k)) _ two.sort (λ len. length_int k len (cell_here here k) refl)
          (λ narrowed rows n. (
            narrowed_moves typing here spot narrowed rows here.next a.below rest n (a.next refl)
                (left_typed Types here.state a.below three.under rest three.others three.typed),
            tt,
          ))

  items_int : (k index len : ℕ) → items_of here k index ≡ Some len → HasCell is_int here.state len
  items_int k index len e = by (k == index) e
    where
      by : (b : Bool) → (if b then None else items_length_id (cell_here here k)) ≡ Some len → HasCell is_int here.state len
      by true f = absurd (none-some len f)
      by false f = length_int k len (cell_here here k) refl (items_length k len (cell_here here k) f)

  pub aaload_grows : BranchesStayInts → Stands Aaload → Plans (row_of here Aaload)
  unfolding aaload_types
  aaload_grows stay s =
      let below = then_some _ (taken Types (wants.Int ∷ []) spot.there.stack) s.after s.types_are in
      let top = then_some _ (top_place below.0) s.after below.1.1 in
      let wanted = then_some _ (item_place top.0.0) s.after top.1.1 in
      by below.0 below.1.0 top.0 top.1.0 wanted.0 wanted.1.0
      (subst (λ (after : PlaceTypes). Takes Types (typing here.frame.method) (record { to = here.next; frame = after }))
      (sym (some_is wanted.1.1)) (s.next refl)) here.frame.stack spot.stack
    where
      rest_typed : (below : List PlaceType) (top : PlaceType × List PlaceType) (k : ℕ) (rest : List ℕ) → top_place below ≡ Some top
          → Typed below (k ∷ rest) → Typed top.1 rest
      rest_typed [] top k rest e h = absurd h
      rest_typed (place ∷ under) top k rest e h = subst (λ (t : PlaceType × List PlaceType). Typed t.1 rest) (some_is e) h.1

      by : (below : List PlaceType) → taken Types (wants.Int ∷ []) spot.there.stack ≡ Some below
          → (top : PlaceType × List PlaceType) → top_place below ≡ Some top → (wanted : PlaceType) → item_place top.0 ≡ Some wanted
          → ComesTo here.next spot.there.locals (wanted ∷ top.1) → (stack : List ℕ) → Typed spot.there.stack stack
          → Plans (aaload_plan here stack)
      by below t top e wanted w takes [] h = tt
      by below t top e wanted w takes (index ∷ []) h = tt
      by below t top e wanted w takes (index ∷ k ∷ rest) h =
          let one = pop Types here.state wants.Int [] below spot.there.stack index (k ∷ rest) t h in
          let under = left_typed Types here.state below one.under (k ∷ rest) one.others one.typed in
          access_grows stay 1 k index (items_of here k index) _ one.sort (λ len. items_int k index len) (λ narrowed rows n. (
            pushes_grows typing here spot narrowed rows (item k) here.next wanted top.1 rest n tt
                (λ after x is. item_is top.0 wanted after x w is) takes (rest_typed below top k rest e under),
            tt,
          ))

  pub aastore_grows : BranchesStayInts → Stands Aastore → Plans (row_of here Aastore)
  aastore_grows stay s = by here.frame.stack spot.stack
    where
      unless_thrown : (b : Bool) (turn : Turn) → Growing turn → AllByRecursion Growing (if b then [] else turn ∷ [])
      unless_thrown true turn h = tt
      unless_thrown false turn h = (h, tt)

      by : (stack : List ℕ) → Typed spot.there.stack stack → Plans (aastore_plan here stack)
      by [] h = tt
      by (value ∷ []) h = tt
      by (value ∷ index ∷ []) h = tt
      by (value ∷ index ∷ k ∷ rest) h =
          let a = acts typing here spot op Aastore s (wants.Reference ∷ wants.Int ∷ wants.References ∷ []) None s.types_are in
          let one = pop Types here.state wants.Reference (wants.Int ∷ wants.References ∷ []) a.below spot.there.stack value
          (index ∷ k ∷ rest) a.taken_is h in
          let two = pop Types here.state wants.Int (wants.References ∷ []) a.below one.under index (k ∷ rest) one.others one.typed in
          let three = pop Types here.state wants.References [] a.below two.under k rest two.others two.typed in
          let under = left_typed Types here.state a.below three.under rest three.others three.typed in
          access_grows stay 2 k index (length_id (cell_here here k)) _ two.sort (λ len. length_int k len (cell_here here k) refl)
          (λ narrowed rows n. (
            record {
              changed = n;
              act = tt;
              placed = λ after y keeps made t. stack_lands typing here spot here.next a.below rest (a.next refl) after keeps
                  (stack_kept here.state after keeps a.below rest under) t;
              waiting = spot.waiting;
              framed = some_frame typing here spot here.next here.frame.locals rest;
              thrown = λ y r. absurd (none-some y r);
            },
            unless_thrown (is_null_here here value) _ (throws_grows typing here spot narrowed rows array_store_exception (omega arith) n),
          ))

  -- ---- casts and tests of types

  pub record IsCast (cast : Cast) : Type 0 where
    pub passed : Growing cast.passed
    pub changed : (changed : List (ℕ × Cell)) → Changes changed → Growing (record cast.passed { changed = changed })
    pub failed : Growing cast.failed
    pub null : Growing cast.null

  bound_change : (t : Ty) → IsReference Types.classes t → (x : ℕ) (found : Option Cell) (c : Cell) → cell_at here.state x ≡ found
      → option_and_then (bounded Types (Types.erase t)) found ≡ Some c
      → IsSoundChange Types here.state (x, c)
  bound_change t r x None c e f = absurd (none-some c f)
  bound_change t r x (Some (cells.Int interval)) c e f = absurd (none-some c f)
  bound_change t r x (Some cells.Null) c e f = absurd (none-some c f)
  bound_change t r x (Some (cells.Obj class ids)) c e f = absurd (none-some c f)
  bound_change t r x (Some (cells.Nums kind len)) c e f = absurd (none-some c f)
  bound_change t r x (Some (cells.Refs element len shape)) c e f = absurd (none-some c f)
  bound_change t r x (Some (cells.Unk bound nullable shape)) c e f = by
      (Types.sub (Types.erase t) bound && not (Types.sub bound (Types.erase t))) f
    where
      by : (b : Bool) → (if b then Some (cells.Unk (Types.erase t) nullable shape) else None) ≡ Some c
          → IsSoundChange Types here.state (x, c)
      by true g = subst (λ (d : Cell). IsSoundChange Types here.state (x, d)) (some_is g) (record {
        sort = λ old h. ap is_int (some_is (sym h ∙ e));
        sound = λ after keeps. ((spot.laws.of_world t (Types.erase t) (spot.laws.erase_up t r)).1, spot.laws.erase_erased t r);
      })
      by false g = absurd (none-some c g)

  bound_grows : (x : ℕ) (found : Option Cell) (cast : Cast) → IsCast cast
      → ((c : Cell) → found ≡ Some c → IsSoundChange Types here.state (x, c)) → Growing (with_bound x found cast.passed)
  bound_grows x None cast k h = k.passed
  bound_grows x (Some c) cast k h = k.changed ((x, c) ∷ []) (h c refl, tt)

  if_first : (b : Bool) (turn : Turn) → Growing turn → AllByRecursion Growing (if b then turn ∷ [] else [])
  if_first true turn h = (h, tt)
  if_first false turn h = tt

  undecided_grows : (t : Ty) (x : ℕ) (cast : Cast) → IsReference Types.classes t → IsCast cast
      → AllByRecursion Growing (undecided here t x cast)
  undecided_grows t x cast r k =
      all_joined Growing _ _ (if_first (may_be_below here t (cell_bound (cell_here here x))) _
      (bound_grows x (option_and_then (bounded Types (Types.erase t)) (cell_here here x)) cast k
      (λ c e. bound_change t r x (cell_here here x) c refl e))) (k.failed, tt)

  cast_grows : (t : Ty) (x : ℕ) (asks : Bool) (cast : Cast) → IsReference Types.classes t → IsCast cast
      → Plans (cast_plan here t x asks cast)
  cast_grows t x asks cast r k =
      if_either Plans (is_null_here here x) (one_step cast.null) _ (λ _. (k.null, tt)) (λ _.
      if_either Plans (is_bound_below here t (cell_bound (cell_here here x)))
      (if asks then need_null here.state x (one_step cast.passed) else one_step cast.passed) _ (λ _.
      if_either Plans asks (need_null here.state x (one_step cast.passed)) (one_step cast.passed)
      (λ _. need_null_grows typing here spot op x (one_step cast.passed) (k.passed, tt)) (λ _. (k.passed, tt))) (λ _.
      need_null_grows typing here spot op x _
      (if_either Plans (is_known_cell (cell_here here x)) (one_step cast.failed) (steps (undecided here t x cast))
      (λ _. (k.failed, tt)) (λ _. undecided_grows t x cast r k))))

  pub checkcast_grows : (t : Ty) → Stands (Checkcast t) → Plans (row_of here (Checkcast t))
  checkcast_grows t s = by here.frame.stack spot.stack
    where
      by : (stack : List ℕ) → Typed spot.there.stack stack → Plans (checkcast_plan here t stack)
      by [] h = tt
      by (x ∷ rest) h =
          let a = acts typing here spot op (Checkcast t) s (wants.Reference ∷ []) (Some (places.Ref (Types.erase t))) s.types_are in
          let one = pop Types here.state wants.Reference [] a.below spot.there.stack x rest a.taken_is h in
          let typed : Typed (places.Ref (Types.erase t) ∷ a.below) (x ∷ rest) =
          (one.sort, left_typed Types here.state a.below one.under rest one.others one.typed) in
          let goes = goes_grows typing here spot here.next (places.Ref (Types.erase t) ∷ a.below) (x ∷ rest) (a.next refl) typed in
          cast_grows t x false (checkcast_of here (x ∷ rest)) s.named (record {
            passed = goes;
            changed = λ changed n. narrowed_moves typing here spot changed no_rows here.next (places.Ref (Types.erase t) ∷ a.below)
                (x ∷ rest) n (a.next refl) typed;
            failed = throws_grows typing here spot [] no_rows class_cast_exception (omega arith) tt;
            null = goes;
          })

  pub instanceof_grows : (t : Ty) → Stands (Instanceof t) → Plans (row_of here (Instanceof t))
  instanceof_grows t s = by here.frame.stack spot.stack
    where
      by : (stack : List ℕ) → Typed spot.there.stack stack → Plans (instanceof_plan here t stack)
      by [] h = tt
      by (x ∷ rest) h =
          let a = acts typing here spot op (Instanceof t) s (wants.Reference ∷ []) (Some places.Int) s.types_are in
          let one = pop Types here.state wants.Reference [] a.below spot.there.stack x rest a.taken_is h in
          let under = left_typed Types here.state a.below one.under rest one.others one.typed in
          let number : (changed : List (ℕ × Cell)) (n : ℤ) → Changes changed → HasIntEnds (just n)
          → Growing (record {
            changed = changed;
            frames = with_stack here here.next rest;
            throwing = None;
            act = makes
                (number_cell n);
            goal = on_stack;
            rows = no_rows;
          }) =
          λ changed n c w. pushes_grows typing here spot changed no_rows (makes (number_cell n)) here.next places.Int a.below rest c
          ((λ after keeps. w), tt) (λ after y is. is) (a.next refl) under in
          cast_grows t x true (instanceof_of here rest) s.named (record {
            passed = number [] (pos 1) tt one_is;
            changed = λ changed n. number changed (pos 1) n one_is;
            failed = number [] (pos 0) tt none_is;
            null = number [] (pos 0) tt none_is;
          })
