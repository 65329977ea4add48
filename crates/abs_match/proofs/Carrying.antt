-- What fits a state fits each state of which it is an instance.
use Rattle.std.proofs.Common.{◌≡◌, ◌≢◌, ℕ, zero, suc, ◌≤ℤ◌, Bool, true, false, not, IsTrue, List, [], ◌∷◌, length, map, Option}
use Rattle.std.proofs.Common.{Some, None, slice_get, ◌⊎◌, inl, inr, ℤ, pos, refl, sym, ap, subst, ◌∙◌, arith}
use Rattle.std.proofs.lemmas.Int.{ints}
use Rattle.std.proofs.lemmas.Bool.{cases_eq, false≢true}
use Rattle.std.proofs.lemmas.Slice.Zip.{AllZip-long}
use Rattle.std.specs.List.{AllZip}
use Rattle.std.proofs.lemmas.Option.{none-some}
use Rattle.list_views.proofs.Zipped.{zip_right}
use Rattle.jvm_values.specs.declared.heap.Value.{Value}
use Rattle.jvm_values.specs.declared.heap.Value.TheVariants as values
use Rattle.jvm_values.specs.declared.heap.Object.{Object}
use Rattle.jvm_values.specs.declared.heap.Object.TheVariants as objects
use Rattle.jvm_values.specs.declared.shape.Shape.{Shape}
use Rattle.jvm_values.specs.declared.shape.Shape.TheVariants.{Tree, Dag, Any}
use Rattle.jvm_values.specs.declared.state.Mode.{Mode}
use Rattle.jvm_values.specs.declared.state.Mode.TheVariants.{Normal, Throwing}
use Rattle.jvm_values.specs.declared.types.Ty.{Ty}
use Rattle.jvm_values.specs.Heaps.{target, Region, HasShape}
use Rattle.jvm_values.specs.States.{MachineFrame, MachineState}
use Rattle.jvm_values.specs.Subtyping.{class_type, array_of, array_of_numbers}
use Rattle.jvm_values.specs.TypedHeaps.{WorldTypes, AreLawful, type_of}
use Rattle.jvm_values.proofs.Options.{some_is}
use Rattle.abs_cells.specs.declared.cells.Cell.{Cell}
use Rattle.abs_cells.specs.declared.cells.Cell.TheVariants.{Int, Null, Obj, Nums, Refs, Unk}
use Rattle.abs_cells.specs.AbstractStates.{AbstractFrame, AbstractState}
use Rattle.abs_cells.specs.Cells.{is_known, is_hazy, is_reference, shape_of, cell_at, HasCell, AreEqual, Share, can_be_null}
use Rattle.abs_cells.specs.Sound.{IsWellFormed}
use Rattle.abs_cells.specs.Fits.{Meaning, FitsFrame, FitsMode, with_statics, IsObject, Describes, Fits}
use Rattle.abs_reach.specs.Instances.{image_in, IsOver, IsNullOrBelow, is_no_int, is_thrown, HasImageUnder, MayBeOne, HasIdShape}
use Rattle.abs_reach.specs.Instances.{InstanceOf, positions, mode, cells, aliases, sharing, shapes}
use Rattle.abs_reach.proofs.Sound.{may_meet, may_be_in, finite, tree}
use Rattle.abs_reach.proofs.Walks.{not_one}
use Rattle.abs_match.specs.Laws.{MatchesCarryFitting, HasArraysOfWorld, value_of_image, after}
use Rattle.abs_match.proofs.Positions.{IsFrameUnder, zipped, same_maps, as_many, frame_under}

module _ (types : WorldTypes) (state target_state : AbstractState) (entries : List (ℕ × ℕ)) (machine : MachineState)
    (meaning : Meaning) (laws : AreLawful types) (arrays : HasArraysOfWorld types machine.heap) (good : IsWellFormed state)
    (is : InstanceOf types.sub state target_state entries) (h : Fits types state machine meaning) where
  m : Meaning
  m = after meaning entries

  value_is : (id image : ℕ) → image_in entries id ≡ Some image → after meaning entries id ≡ meaning image
  value_is id image e = ap (value_of_image meaning) e

  values_are : (ids images : List ℕ) → map (image_in entries) ids ≡ map Some images → map (after meaning entries) ids ≡ map meaning images
  values_are [] [] e = refl
  values_are [] (i ∷ images) e = absurd (cc)
  values_are (id ∷ ids) [] e = absurd (cc)
  values_are (id ∷ ids) (i ∷ images) e =
      let first : image_in entries id ≡ Some i = ap (λ (xs : List (Option ℕ)). slice_get_head xs) e in
      let rest : map (image_in entries) ids ≡ map Some images = ap (λ (xs : List (Option ℕ)). tail_of xs) e in
      ap (λ (v : Value). v ∷ map (after meaning entries) ids) (value_is id i first)
      ∙ ap (λ (vs : List Value). meaning i ∷ vs) (values_are ids images rest)
    where
      slice_get_head : List (Option ℕ) → Option ℕ
      slice_get_head [] = None
      slice_get_head (x ∷ xs) = x

      tail_of : List (Option ℕ) → List (Option ℕ)
      tail_of [] = []
      tail_of (x ∷ xs) = xs

  -- ---- positions and mode

  frame_fits : (frame under : AbstractFrame) (machine_frame : MachineFrame) → IsFrameUnder entries frame under
      → FitsFrame meaning frame machine_frame → FitsFrame (after meaning entries) under machine_frame
  frame_fits frame under machine_frame u f = record {
    method = f.method ∙ ap (λ head. head.method) u.head;
    pc = f.pc ∙ ap (λ head. head.pc) u.head;
    locals = λ n id e. f.locals n (u.locals n id e).0 (u.locals n id e).1.1
        ∙ ap (λ (v : Value). Some (Some v)) (sym (value_is id (u.locals n id e).0 (u.locals n id e).1.0));
    stack = f.stack ∙ sym (same_maps (after meaning entries) meaning under.stack frame.stack (ap (λ head. head.depth) u.head)
        (λ n id e. ((u.stack n id e).0, (value_is id (u.stack n id e).0 (u.stack n id e).1.0, (u.stack n id e).1.1))));
  }

  frames_fit : AllZip (FitsFrame (after meaning entries)) target_state.frames (with_statics machine.statics machine.frames)
  frames_fit = zipped (FitsFrame (after meaning entries)) target_state.frames (with_statics machine.statics machine.frames) long each
    where
      heads : map Rattle.abs_reach.specs.Instances.head_of state.frames ≡ map Rattle.abs_reach.specs.Instances.head_of target_state.frames
      heads = (is positions).0

      long : length target_state.frames ≡ length (with_statics machine.statics machine.frames)
      long = sym (as_many state target_state entries heads (is positions).1)
          ∙ sym (AllZip-long (FitsFrame meaning) state.frames (with_statics machine.statics machine.frames) h.positions)

      each : (n : ℕ) (under : AbstractFrame) (machine_frame : MachineFrame) → slice_get target_state.frames n ≡ Some under
          → slice_get (with_statics machine.statics machine.frames) n ≡ Some machine_frame
          → FitsFrame (after meaning entries) under machine_frame
      each n under machine_frame e f =
          let p = zip_right (FitsFrame meaning) state.frames (with_statics machine.statics machine.frames) h.positions n machine_frame f in
          frame_fits p.0 under machine_frame (frame_under state target_state entries heads (is positions).1 n p.0 under p.1.0 e) p.1.1

  mode_fits : (thrown target_thrown : Option ℕ) (now : Mode) → is_thrown thrown ≡ is_thrown target_thrown
      → ((id : ℕ) → target_thrown ≡ Some id → (image : ℕ) × ((image_in entries id ≡ Some image) × (thrown ≡ Some image)))
      → FitsMode meaning thrown now → FitsMode (after meaning entries) target_thrown now
  mode_fits None None Normal e each f = tt
  mode_fits None None (Throwing r) e each f = f
  mode_fits None (Some id) now e each f = absurd (false≢true e)
  mode_fits (Some x) None now e each f = absurd (false≢true (sym e))
  mode_fits (Some x) (Some id) Normal e each f = f
  mode_fits (Some x) (Some id) (Throwing r) e each f =
      let got = each id refl in
      value_is id got.0 got.1.0 ∙ ap meaning (sym (some_is got.1.1)) ∙ f

  -- ---- cells

  below_bound : (bound : Ty) (nullable : Bool) (below : Cell) (value : Value) → (can_be_null below ≡ true → nullable ≡ true)
      → IsNullOrBelow types.sub bound below → Describes types machine.heap meaning below value
      → ((nullable ≡ true) × (value ≡ values.Null)) ⊎ IsObject machine.heap value (λ object. IsTrue (types.sub (type_of object) bound))
  below_bound bound nullable (Int interval) value n (inl e) d = absurd (cc)
  below_bound bound nullable (Int interval) value n (inr t) d = absurd (none-some t.0 t.1.0)
  below_bound bound nullable Null value n t d = inl (n refl, d)
  below_bound bound nullable (Obj class ids) value n (inl e) d = absurd (cc)
  below_bound bound nullable (Obj class ids) value n (inr t) d =
      let up : IsTrue (types.sub (class_type class) bound) = subst (λ (s : Ty). IsTrue (types.sub s bound)) (sym (some_is t.1.0)) t.1.1 in
      inr (record {
        place = d.place;
        object = d.object;
        names = d.names;
        stands = d.stands;
        holds = subst
            (λ (object : Object). IsTrue (types.sub (type_of object) bound)) (sym d.holds) up;
      })
  below_bound bound nullable (Nums kind len) value n (inl e) d = absurd (cc)
  below_bound bound nullable (Nums kind len) value n (inr t) d =
      let up : IsTrue (types.sub (array_of_numbers kind) bound) = subst (λ (s : Ty). IsTrue (types.sub s bound))
      (sym (some_is t.1.0)) t.1.1 in
      inr (record {
        place = d.place;
        object = d.object;
        names = d.names;
        stands = d.stands;
        holds = subst
            (λ (object : Object). IsTrue (types.sub (type_of object) bound)) (sym d.holds.is) up;
      })
  below_bound bound nullable (Refs element len shape) value n (inl e) d = absurd (cc)
  below_bound bound nullable (Refs element len shape) value n (inr t) d =
      let up : IsTrue (types.sub (array_of element) bound) = subst (λ (s : Ty). IsTrue (types.sub s bound)) (sym (some_is t.1.0)) t.1.1 in
      let own = arrays d.place d.holds.item d.holds.items (d.stands ∙ ap Some d.holds.is) in
      let step : IsTrue (types.sub (array_of d.holds.item) (array_of element)) = laws.below_array d.holds.item element own
      (laws.of_world (array_of element) bound up).0 d.holds.below in
      let all : IsTrue (types.sub (array_of d.holds.item) bound) = laws.transitive (array_of d.holds.item) (array_of element) bound
      step up in
      inr (record {
        place = d.place;
        object = d.object;
        names = d.names;
        stands = d.stands;
        holds = subst
            (λ (object : Object). IsTrue (types.sub (type_of object) bound)) (sym d.holds.is) all;
      })
  below_bound bound nullable (Unk b nil shape) value n (inl e) d = absurd (cc)
  below_bound bound nullable (Unk b nil shape) value n (inr t) (inl d) = inl (n d.0, d.1)
  below_bound bound nullable (Unk b nil shape) value n (inr t) (inr d) =
      let up : IsTrue (types.sub b bound) = subst (λ (s : Ty). IsTrue (types.sub s bound)) (sym (some_is t.1.0)) t.1.1 in
      inr (record {
        place = d.place;
        object = d.object;
        names = d.names;
        stands = d.stands;
        holds = laws.transitive
            (type_of d.object) b bound d.holds up;
      })

  described : (cell below : Cell) (value : Value) → IsOver types.sub entries cell below
      → Describes types machine.heap meaning below value → Describes types machine.heap (after meaning entries) cell value
  described (Int outer) below value o d =
      let e = subst (λ (c : Cell). Describes types machine.heap meaning c value) o.1.0 d in
      (e.0, (e.1.0, (omega (arith, ints, e.1.1.0, o.1.1.0), omega (arith, ints, e.1.1.1, o.1.1.1))))
  described Null below value o d = subst (λ (c : Cell). Describes types machine.heap meaning c value) o d
  described (Obj class ids) below value o d =
      let e = subst (λ (c : Cell). Describes types machine.heap meaning c value) o.1.0 d in
      record {
        place = e.place;
        object = e.object;
        names = e.names;
        stands = e.stands;
        holds = e.holds
            ∙ ap (objects.Instance class) (sym (values_are ids o.0 o.1.1));
      }
  described (Nums kind len) below value o d =
      let e = subst (λ (c : Cell). Describes types machine.heap meaning c value) o.1.0 d in
      record {
        place = e.place;
        object = e.object;
        names = e.names;
        stands = e.stands;
        holds = record
            { items = e.holds.items; is = e.holds.is; length_is = value_is len o.0 o.1.1 ∙ e.holds.length_is };
      }
  described (Refs element len shape) below value o d =
      let e = subst (λ (c : Cell). Describes types machine.heap meaning c value) o.is d in
      record {
        place = e.place;
        object = e.object;
        names = e.names;
        stands = e.stands;
        holds = record {
          item = e.holds.item;
          items = e.holds.items;
          is = e.holds.is;
          below = laws.transitive e.holds.item o.item element
              e.holds.below o.below;
          length_is = value_is len o.image o.length_is ∙ e.holds.length_is;
        };
      }
  described (Unk bound nullable shape) below value o d = below_bound bound nullable below value o.0 o.1 d

  under : (id : ℕ) (cell : Cell) → cell_at target_state id ≡ Some cell → HasImageUnder types.sub state entries id cell
  under id cell e = (is cells).1 id cell e

  cell_fits : (id : ℕ) (cell : Cell) → cell_at target_state id ≡ Some cell
      → Describes types machine.heap (after meaning entries) cell (after meaning entries id)
  cell_fits id cell e =
      let u = under id cell e in
      let d : Describes types machine.heap (after meaning entries) cell (meaning u.image) = described cell u.below (meaning u.image)
      u.over (h.cells u.image u.below u.stands) in
      subst (λ (v : Value). Describes types machine.heap (after meaning entries) cell v) (sym (value_is id u.image u.maps)) d

  -- ---- pairs and shapes

  names_object : (n : Meaning) (cell : Cell) (value : Value) (o : ℕ) → Describes types machine.heap n cell value
      → target value ≡ Some o → is_reference cell ≡ true
  names_object n (Int interval) value o d t = absurd (none-some o (sym (ap target d.1.0) ∙ t))
  names_object n Null value o d t = absurd (none-some o (sym (ap target d) ∙ t))
  names_object n (Obj class ids) value o d t = refl
  names_object n (Nums kind len) value o d t = refl
  names_object n (Refs element len shape) value o d t = refl
  names_object n (Unk bound nullable shape) value o d t = refl

  no_int : (cell : Cell) → is_reference cell ≡ true → is_no_int cell ≡ true
  no_int (Int interval) e = absurd (false≢true e)
  no_int Null e = refl
  no_int (Obj class ids) e = refl
  no_int (Nums kind len) e = refl
  no_int (Refs element len shape) e = refl
  no_int (Unk bound nullable shape) e = refl

  known_below : (cell below : Cell) → is_known cell ≡ true → IsOver types.sub entries cell below → is_known below ≡ true
  known_below (Int interval) below k o = absurd (false≢true k)
  known_below Null below k o = absurd (false≢true k)
  known_below (Obj class ids) below k o = ap is_known o.1.0
  known_below (Nums kind len) below k o = ap is_known o.1.0
  known_below (Refs element len shape) below k o = absurd (false≢true k)
  known_below (Unk bound nullable shape) below k o = absurd (false≢true k)

  moved_target : (id image o : ℕ) → image_in entries id ≡ Some image → target (after meaning entries id) ≡ Some o
      → target (meaning image) ≡ Some o
  moved_target id image o e t = ap target (sym (value_is id image e)) ∙ t

  moved_region : (id image o : ℕ) → image_in entries id ≡ Some image → Region machine.heap (after meaning entries id) o
      → Region machine.heap (meaning image) o
  moved_region id image o e r = subst (λ (v : Value). Region machine.heap v o) (value_is id image e) r

  image_cell : {id : ℕ} {cell : Cell} (u : HasImageUnder types.sub state entries id cell) → HasCell (λ _. true) state u.image
  image_cell u = record { cell = u.below; is = u.stands; sort_is = refl }

  aliases_fit : (a b o : ℕ) → HasCell (λ _. true) target_state a → HasCell (λ _. true) target_state b → a ≢ b
      → target (after meaning entries a) ≡ Some o → target (after meaning entries b) ≡ Some o → AreEqual target_state a b
  unfolding image_cell under
  aliases_fit a b o ca cb d ta tb =
      let ua = under a ca.cell ca.is in
      let ub = under b cb.cell cb.is in
      let sa = moved_target a ua.image o ua.maps ta in
      let sb = moved_target b ub.image o ub.maps tb in
      (is aliases).1 a b ua.image ub.image (record {
        differ = d;
        is = record {
          cell = ca.cell;
          is = ca.is;
          sort_is = no_int ca.cell
              (names_object (after meaning entries) ca.cell (after meaning entries a) o (cell_fits a ca.cell ca.is) ta);
        };
        other_is = record {
          cell = cb.cell;
          is = cb.is;
          sort_is = no_int cb.cell
              (names_object (after meaning entries) cb.cell (after meaning entries b) o (cell_fits b cb.cell cb.is) tb);
        };
        maps = ua.maps;
        other_maps = ub.maps;
      }) (one ua.image ub.image (image_cell ua) (image_cell ub)
      (names_object meaning ua.below (meaning ua.image) o (h.cells ua.image ua.below ua.stands) sa) sa sb)
    where
      one : (i j : ℕ) → (ci : HasCell (λ _. true) state i) → HasCell (λ _. true) state j → is_reference ci.cell ≡ true
          → target (meaning i) ≡ Some o → target (meaning j) ≡ Some o → MayBeOne state i j
      one i j ci cj r si sj = elim (cases_eq i j) [
        | inl e ↦ inl (e, record { cell = ci.cell; is = ci.is; sort_is = r })
        | inr n ↦ inr (h.aliases i j o ci cj n si sj)
      ]

  meeting_fits : (a b o : ℕ) → HasCell is_hazy target_state a → HasCell is_hazy target_state b → a ≢ b
      → Region machine.heap (after meaning entries a) o → Region machine.heap (after meaning entries b) o → Share target_state a b
  meeting_fits a b o ca cb d ra rb =
      let ua = under a ca.cell ca.is in
      let ub = under b cb.cell cb.is in
      ((is sharing).1 a).meets b ua.image ub.image (record { differ = d; is = ca; other_is = cb; maps = ua.maps; other_maps = ub.maps })
      (may_meet types state machine meaning good h ua.image ub.image o (image_cell ua) (image_cell ub)
      (moved_region a ua.image o ua.maps ra) (moved_region b ub.image o ub.maps rb))

  inside_fits : (k b o : ℕ) → HasCell is_known target_state k → HasCell is_hazy target_state b
      → target (after meaning entries k) ≡ Some o → Region machine.heap (after meaning entries b) o → Share target_state k b
  inside_fits k b o ck cb t rb =
      let uk = under k ck.cell ck.is in
      let ub = under b cb.cell cb.is in
      ((is sharing).1 k).is_in b uk.image ub.image
      (record { differ = not_one target_state k b ck cb; is = ck; other_is = cb; maps = uk.maps; other_maps = ub.maps })
      (may_be_in types state machine meaning good h uk.image ub.image o
      (record { cell = uk.below; is = uk.stands; sort_is = known_below ck.cell uk.below ck.sort_is uk.over }) (image_cell ub)
      (moved_target k uk.image o uk.maps t) (moved_region b ub.image o ub.maps rb))

  shape_holds : (shape : Shape) (image : ℕ) → HasCell (λ _. true) state image → HasIdShape shape state image
      → HasShape shape machine.heap (meaning image)
  shape_holds Tree image c s = tree types state machine meaning good h image c s
  shape_holds Dag image c s = finite types state machine meaning good h image c s
  shape_holds Any image c s = tt

  shape_fits : (id : ℕ) (cell : Cell) (shape : Shape) → cell_at target_state id ≡ Some cell → shape_of cell ≡ Some shape
      → HasShape shape machine.heap (after meaning entries id)
  shape_fits id cell shape e f =
      let u = under id cell e in
      subst (λ (v : Value). HasShape shape machine.heap v) (sym (value_is id u.image u.maps))
      (shape_holds shape u.image (image_cell u) ((is shapes).1 id cell shape u.image e f u.maps))

  pub whole : Fits types target_state machine (after meaning entries)
  whole = record {
    positions = frames_fit;
    mode = mode_fits state.throwing target_state.throwing machine.mode (is mode).0 (is mode).1 h.mode;
    cells = cell_fits;
    aliases = aliases_fit;
    meeting = meeting_fits;
    inside = inside_fits;
    shapes = shape_fits;
  }

pub carries : MatchesCarryFitting
carries types state target entries machine meaning laws arrays good is h = whole types state target entries machine meaning laws
    arrays good is h
