-- A write of a reference into an object: what it does to the regions of ids.
use Rattle.std.proofs.Common.{◌≡◌, ◌≢◌, ℕ, zero, suc, ◌<◌, Bool, true, false, eqb, not, List, [], ◌∷◌}
use Rattle.std.proofs.Common.{◌++◌, length, map, get_or, Option, Some, None, ◌⊎◌, inl, inr, refl, sym, ap, subst, ◌∙◌, All}
use Rattle.std.proofs.Common.{eq-eqb, ne_eqb}
use Rattle.std.specs.Prelude.{slice_get, slice_set}
use Rattle.std.specs.List.{flat_map}
use Rattle.std.specs.Option.{option_map}
use Rattle.std.proofs.lemmas.Bool.{false≢true, cases_Bool, eqb-true, or_cases, cond-true, cond-false, cases_eq}
use Rattle.std.proofs.lemmas.List.Elements.{All-nil, All-head, All-tail}
use Rattle.std.proofs.lemmas.Option.{none-some}
use Rattle.list_views.proofs.Quantified.{every_back, every_front}
use Rattle.list_views.proofs.Options.{then_some}
use Rattle.jvm_values.specs.declared.heap.Value.{Value}
use Rattle.jvm_values.specs.declared.heap.Value.TheVariants as values
use Rattle.jvm_values.specs.declared.heap.Object.TheVariants as objects
use Rattle.jvm_values.specs.declared.heap.Heap.{Heap}
use Rattle.jvm_values.specs.declared.types.Ty.{Ty}
use Rattle.jvm_values.specs.declared.shape.Shape.{Shape}
use Rattle.jvm_values.specs.declared.shape.Shape.TheVariants.{Tree, Dag, Any}
use Rattle.jvm_values.specs.States.{MachineState}
use Rattle.jvm_values.specs.Heaps.{target, Region, HasShape}
use Rattle.jvm_values.specs.TypedHeaps.{WorldTypes}
use Rattle.jvm_values.specs.Writes.{IsWritten, with_value, IsKept}
use Rattle.jvm_values.proofs.AfterWrites.{keeps, gains, no_cycle, null_keeps}
use Rattle.jvm_values.proofs.Options.{some_is}
use Rattle.abs_cells.specs.declared.cells.Cell.{Cell}
use Rattle.abs_cells.specs.declared.cells.Cell.TheVariants as cells
use Rattle.abs_cells.specs.AbstractStates.{AbstractState}
use Rattle.abs_cells.specs.Cells.{is_known, is_hazy, is_int, is_reference, ids_in, shape_of, cell_in, cell_at, HasCell}
use Rattle.abs_cells.specs.Cells.{AreEqual, Share}
use Rattle.abs_cells.specs.Closures.{KnownFrom}
use Rattle.abs_cells.specs.Sound.{IsWellFormed, ids_used, ids_of_frame, given_ids}
use Rattle.abs_cells.specs.Fits.{Meaning, Describes, Fits, with_statics, IsClosedState}
use Rattle.abs_cells.proofs.Fitting.{known_apart}
use Rattle.abs_cells.proofs.PairLaws.{has_swapped}
use Rattle.abs_reach.specs.Ways.{Way}
use Rattle.abs_reach.proofs.Sound.{ways, may_meet, may_be_in, finite}
use Rattle.abs_reach.proofs.Walks.{named_has_cell, counted_is_known, some_cell, hazy_is_reference}
use Rattle.abs_cells.specs.Patterns.{Pattern, IsSized, pattern_within, pattern_of_cell}
use Rattle.term_graph.specs.Edges.{HoldsBetween, is_size_variable, HasSameSize}
use Rattle.abs_heap.specs.Names.{name_in, frame_named, cell_named, IsImage}
use Rattle.abs_heap.specs.Writing.{Write, IsAffected, IsMet, IsNullId, MakesNoCycle, shape_after, with_shape, with_field}
use Rattle.abs_heap.specs.Writing.{is_renamed, reshaped, cell_after, GainsPair, IsWriteChild, is_array_of_references}
use Rattle.abs_heap.specs.Laws.{plain_link, IsWriteOf, Goes, with_heap, WritesGoOn}
use Rattle.abs_heap.proofs.Fitted.{FitsBy, fits_given}
use Rattle.abs_heap.proofs.SameTerms.{size_kept}
use Rattle.abs_heap.proofs.Renamed.{named_here, named_later, unnamed_stays, old_in, back_again, renamed_is, is_renamed_of}
use Rattle.abs_heap.proofs.Renamed.{maps_move, frames_move, thrown_moves, mapped_set, set_member, tree_is_dag}
use Rattle.abs_heap.proofs.ChangedCells.{Was, was_in, known_shaped, inner, either, known_after, hazy_after, shape_is_after}
use Rattle.abs_heap.proofs.ChangedCells.{shape_changed, only_itself, object_after, known_no_array, shaped_describes, ids_shaped}
use Rattle.abs_heap.proofs.ChangedCells.{described_after}

module _ (types : WorldTypes) (state child : AbstractState) (machine : MachineState) (m : Meaning) (write : Write) (cell : Cell)
    (o place : ℕ) (heap : Heap)
    (good : IsWellFormed state) (closed : IsClosedState machine state m) (h : Fits types state machine m)
    (v : HasCell (λ c. not (is_int c)) state write.value) (at : cell_at state write.object ≡ Some cell)
    (wr : IsWriteOf state write place cell) (to : target (m write.object) ≡ Some o)
    (w : IsWritten machine.heap o place (m write.value) heap) (is : IsWriteChild state write child) where
  abbrev k : ℕ
  k = write.object

  abbrev names : List (ℕ × ℕ)
  names = is.names

  abbrev f : ℕ → ℕ
  f = name_in is.names

  abbrev n : Meaning
  n i = m (old_in is.names i)

  abbrev written : Value
  written = m write.value

  moves : (id : ℕ) → HasCell (λ _. true) state id → m (old_in is.names (name_in is.names id)) ≡ m id
  moves id e = ap m (back_again state is.names is.renamed.fresh.rise is.renamed.fresh.free id e)

  affected_of : (x : ℕ) → is_renamed is.names x ≡ true → IsAffected state k x
  affected_of x e = (is.renamed.affected x).0 (renamed_is is.names x e)

  not_affected : (x : ℕ) → is_renamed is.names x ≡ false → IsAffected state k x → ⊥
  not_affected x e a = false≢true (sym e ∙ is_renamed_of is.names x ((is.renamed.affected x).1 a))

  value_there : HasCell (λ _. true) state write.value
  value_there = record { cell = v.cell; is = v.is; sort_is = refl }

  in_k : Region machine.heap (m k) o
  in_k = record { start = o; names = to; reaches = record { path = []; leads = refl } }

  -- the object is an instance whose cell is known, or an array
  record IsArray : Type 0 where
    element : Ty
    len : ℕ
    shape : Shape
    is_array : cell ≡ cells.Refs element len shape

  record IsInstance : Type 0 where
    class : ℕ
    ids : List ℕ
    is_instance : cell ≡ cells.Obj class ids
    field : ℕ
    field_is : write.field ≡ Some field
    place_is : place ≡ field
    inside : field < length ids

  sort_of_k : IsInstance ⊎ (IsArray × (write.field ≡ None))
  sort_of_k = go write.field refl
    where
      go : (q : Option ℕ) → write.field ≡ q → IsInstance ⊎ (IsArray × (write.field ≡ None))
      go None e = let a = wr.array_is e in inr (record { element = a.0; len = a.1; shape = a.2; is_array = a.3 }, e)
      go (Some x) e = let a = wr.field_is x e in inl
          (record { class = a.1.0; ids = a.1.1; is_instance = a.1.2.0; field = x; field_is = e; place_is = a.0; inside = a.1.2.1 })

  known_k : IsInstance → HasCell is_known state k
  known_k i = record { cell = cell; is = at; sort_is = ap is_known i.is_instance }

  hazy_k : IsArray → HasCell is_hazy state k
  hazy_k a = record { cell = cell; is = at; sort_is = ap is_hazy a.is_array }

  array_k : (x : ℕ) → x ≡ k → IsArray → HasCell is_array_of_references state x
  array_k x e a = record { cell = cell; is = ap (cell_at state) e ∙ at; sort_is = ap is_array_of_references a.is_array }

  array_describes : IsArray
      → (element : Ty) × ((len : ℕ) × ((shape : Shape) × Describes types machine.heap m (cells.Refs element len shape) (m k)))
  array_describes a = (
    a.element,
    (a.len, (a.shape, subst (λ (c : Cell). Describes types machine.heap m c (m k)) a.is_array (h.cells k cell at))),
  )

  -- a hazy id in whose region the object lies is affected
  affected_if : (x : ℕ) → HasCell is_hazy state x → Region machine.heap (m x) o → IsAffected state k x
  affected_if x z r = elim sort_of_k [
    | inl i ↦ inl (h.inside k x o (known_k i) z to r, z)
    | inr a ↦ elim (cases_eq x k) [
      | inl e ↦ inr (e, array_k k refl a.0)
      | inr e ↦ inl (h.meeting k x o (hazy_k a.0) z (λ s. e (sym s)) in_k r, z)
    ]
  ]

  -- a known id other than the object's stands for another object
  known_other : (x : ℕ) → HasCell is_known state x → (x ≡ k → ⊥) → target (m x) ≡ Some o → ⊥
  known_other x z e t = elim sort_of_k [
    | inl i ↦ known_apart types state machine m good h x k o z (known_k i) e t to
    | inr a ↦ let d = array_describes a.0 in known_no_array types machine.heap m z.cell (m x) (m k) o d.0 d.1.0 d.1.1.0 z.sort_is
        (h.cells x z.cell z.is) d.1.1.1 t to
  ]

  lacks : (x : ℕ) → HasCell is_hazy state x → is_renamed is.names x ≡ false → Region machine.heap (m x) o → ⊥
  lacks x z e r = not_affected x e (affected_if x z r)

  kept : (x : ℕ) → HasCell is_hazy state x → is_renamed is.names x ≡ false → IsKept machine.heap heap (m x)
  kept x z e = keeps machine.heap heap o place (m write.value) w (m x) (lacks x z e)

  gained : (x p : ℕ) → Region heap (m x) p
      → Region machine.heap (m x) p ⊎ (Region machine.heap (m x) o × Region machine.heap (m write.value) p)
  gained x p r = (gains machine.heap heap o place (m write.value) w (m x)).others p r

  null_value : IsNullId state write.value → m write.value ≡ values.Null
  null_value e = h.cells write.value cells.Null e

  not_null : (p : ℕ) → Region machine.heap (m write.value) p → IsNullId state write.value → ⊥
  not_null p r e = none-some r.start (sym (ap target (null_value e)) ∙ r.names)

  met_hazy : (y p : ℕ) → HasCell is_hazy state y → Region machine.heap (m y) p → Region machine.heap (m write.value) p
      → IsMet state write.value y
  met_hazy y p z ry rw_ =
      let mm = may_meet types state machine m good h write.value y p value_there (some_cell state y z) rw_ ry in
      let only : mm.q ≡ y = only_itself state y mm.q z mm.from_y in
      record {
        from = mm.p;
        known = mm.from_x;
        meets = elim mm.meet [
          | inl e ↦ inl (sym (e ∙ only))
          | inr s ↦ inr (subst (λ (q : ℕ). Share state mm.p q) only s)
        ];
      }

  met_known : (y p : ℕ) → HasCell is_known state y → target (m y) ≡ Some p → Region machine.heap (m write.value) p
      → IsMet state write.value y
  met_known y p z t r = elim (may_be_in types state machine m good h y write.value p z value_there t r).there [
    | inl known ↦ record { from = y; known = known; meets = inl refl }
    | inr s ↦ record { from = s.q; known = s.from_x; meets = inr (has_swapped y s.q state.share ∙ s.share) }
  ]

  gains_pair : (x y p : ℕ) → IsAffected state k x → IsMet state write.value y → Region machine.heap (m write.value) p
      → GainsPair state is.names write (name_in is.names x) (name_in is.names y)
  gains_pair x y p a met r = record { x = x; z = y; affected = a; met = met; written = not_null p r; left = refl; right = refl }

  image : (pairs : ℕ → ℕ → Type 0) (x y : ℕ) → pairs x y → IsImage (name_in is.names) pairs (name_in is.names x) (name_in is.names y)
  image pairs x y e = record { x = x; y = y; were = e; left = refl; right = refl }

  -- ---- shapes
  value_lacks : MakesNoCycle state k write.value → Region machine.heap (m write.value) o → ⊥
  value_lacks none r = elim sort_of_k [
    | inl i ↦ none.apart (may_be_in types state machine m good h k write.value o (known_k i) value_there to r)
    | inr a ↦ by_way a.0 (ways types state machine m good h r.reaches.path write.value r.start o value_there r.names r.reaches.leads)
  ]
    where
      counts : IsArray → HasCell is_reference state k
      counts a = hazy_is_reference state k (hazy_k a)

      by_way : IsArray → Way state machine.heap m write.value r.reaches.path o → ⊥
      by_way a (inl b) = let d = array_describes a in known_no_array types machine.heap m b.known.cell (m b.y) (m k) o d.0 d.1.0
          d.1.1.0 b.known.sort_is (h.cells b.y b.known.cell b.known.is) d.1.1.1 b.names to
      by_way a (inr b) =
          let from : KnownFrom state write.value b.q = record
          { path = b.front; leads = counted_is_known state b.front write.value b.q b.leads } in
          let region : Region machine.heap (m b.q) o = record
          { start = b.c; names = b.names; reaches = record { path = b.back; leads = b.rest } } in
          elim (cases_eq b.q k) [
            | inl e ↦ none.apart (record { counts = counts a; there = inl (subst (λ (i : ℕ). KnownFrom state write.value i) e from) })
            | inr e ↦ none.apart (record {
              counts = counts a;
              there = inr
                  (record {
                    q = b.q;
                    from_x = from;
                    hazy = b.hazy;
                    share = h.meeting k b.q o (hazy_k a) b.hazy (λ s. e (sym s))
                        in_k region;
                  });
            })
          ]

  shape_now : (x : ℕ) (nul nc : Bool) → nul ≡ is.null → nc ≡ is.no_cycle → (t : Shape) → HasShape t machine.heap (m x)
      → HasShape (shape_after nul nc t) heap (m x)
  shape_now x nul nc e c Any s = tt
  shape_now x true nc e c Tree s = null_keeps machine.heap heap o place (m write.value) w
      (ap target (null_value (is.null_is.0 (sym e)))) Tree (m x) s
  shape_now x true nc e c Dag s = null_keeps machine.heap heap o place (m write.value) w
      (ap target (null_value (is.null_is.0 (sym e)))) Dag (m x) s
  shape_now x false true e c Tree s =
      let none = is.no_cycle_is.0 (sym c) in
      no_cycle machine.heap heap o place (m write.value) w (value_lacks none)
      (finite types state machine m good h write.value value_there none.finite) (m x) (tree_is_dag machine.heap (m x) s)
  shape_now x false true e c Dag s =
      let none = is.no_cycle_is.0 (sym c) in
      no_cycle machine.heap heap o place (m write.value) w (value_lacks none)
      (finite types state machine m good h write.value value_there none.finite) (m x) s
  shape_now x false false e c Tree s = tt
  shape_now x false false e c Dag s = tt

  abbrev change : Shape → Shape
  change = shape_after is.null is.no_cycle

  shaped_at : (x : ℕ) (c : Cell) (s : Shape) → cell_at state x ≡ Some c → is_hazy c ≡ true
      → shape_of (reshaped is.names (shape_after is.null is.no_cycle) (x, c)) ≡ Some s → HasShape s heap (m x)
  shaped_at x c s e z g = elim (cases_Bool (is_renamed is.names x)) [
    | inl r ↦
        let t = shape_changed (shape_after is.null is.no_cycle) c s
        (ap shape_of (sym (cond-true (is_renamed is.names x) (with_shape (shape_after is.null is.no_cycle) c) c r)) ∙ g) in
        subst (λ (y : Shape). HasShape y heap (m x)) (sym t.1.1) (shape_now x is.null is.no_cycle refl refl t.0 (h.shapes x c t.0 e t.1.0))
    | inr r ↦
        let g2 : shape_of c ≡ Some s = ap shape_of
        (sym (cond-false (is_renamed is.names x) (with_shape (shape_after is.null is.no_cycle) c) c r)) ∙ g in
        ((kept x (record { cell = c; is = e; sort_is = z }) r).shape s).1 (h.shapes x c s e g2)
  ]

  -- ---- cells
  ids_reshaped : (x : ℕ) (c : Cell) → ids_in (reshaped is.names (shape_after is.null is.no_cycle) (x, c)) ≡ ids_in c
  ids_reshaped x c = either (λ (d : Cell). ids_in d ≡ ids_in c) (is_renamed is.names x)
      (with_shape (shape_after is.null is.no_cycle) c) c (ids_shaped (shape_after is.null is.no_cycle) c) refl

  known_reshaped : (x : ℕ) (c : Cell) → is_known (reshaped is.names (shape_after is.null is.no_cycle) (x, c)) ≡ is_known c
  known_reshaped x c = either (λ (d : Cell). is_known d ≡ is_known c) (is_renamed is.names x)
      (with_shape (shape_after is.null is.no_cycle) c) c (known_shaped (shape_after is.null is.no_cycle) c) refl

  reshaped_describes : (x : ℕ) (c : Cell) → cell_at state x ≡ Some c
      → Describes types machine.heap m (reshaped is.names (shape_after is.null is.no_cycle) (x, c)) (m x)
  reshaped_describes x c e = either (λ (d : Cell). Describes types machine.heap m d (m x)) (is_renamed is.names x)
      (with_shape (shape_after is.null is.no_cycle) c) c
      (shaped_describes types machine.heap m (shape_after is.null is.no_cycle) c (m x) (h.cells x c e)) (h.cells x c e)

  same_cell_after : (x : ℕ) (c : Cell) → cell_at state x ≡ Some c → (is_known c ≡ true → target (m x) ≡ Some o → ⊥)
      → Describes types heap n (cell_named (name_in is.names) (reshaped is.names (shape_after is.null is.no_cycle) (x, c))) (m x)
  same_cell_after x c e other =
      described_after types machine.heap heap o place (m write.value) w m n (name_in is.names)
      (reshaped is.names (shape_after is.null is.no_cycle) (x, c)) (m x) (reshaped_describes x c e)
      (λ z t. other (sym (known_reshaped x c) ∙ z) t)
      (λ i id g. moves id (named_has_cell state good x i id c e (ap (λ (ids : List ℕ). slice_get ids i) (sym (ids_reshaped x c)) ∙ g)))

  instance_after : (i : IsInstance)
      → Describes types heap n (cell_named (name_in is.names) (cells.Obj i.class (slice_set i.ids i.field write.value))) (m k)
  instance_after i =
      let d = subst (λ (c : Cell). Describes types machine.heap m c (m k)) i.is_instance (h.cells k cell at) in
      let there : d.place ≡ o = some_is (sym (ap target d.names) ∙ to) in
      elim (object_after machine.heap heap o place (m write.value) w d.place d.object d.stands) [
        | inl e ↦ absurd (e.0 there)
        | inr e ↦ record {
          place = d.place;
          object = with_value place (m write.value) d.object;
          names = d.names;
          stands = e.1.1;
          holds = ap (with_value place (m write.value)) d.holds
              ∙ ap (λ (p : ℕ). objects.Instance i.class (slice_set (map m i.ids) p (m write.value))) i.place_is
              ∙ ap (objects.Instance i.class) (sym (mapped_set m i.ids i.field write.value))
              ∙ ap (objects.Instance i.class)
              (sym (maps_move m n (name_in is.names) (slice_set i.ids i.field write.value) (λ j id g. moves id (member j id g))));
        }
      ]
    where
      member : (j id : ℕ) → slice_get (slice_set i.ids i.field write.value) j ≡ Some id → HasCell (λ _. true) state id
      member j id g = elim (set_member i.ids i.field write.value j id g) [
        | inl e ↦ named_has_cell state good k j id (cells.Obj i.class i.ids) (at ∙ ap Some i.is_instance) e
        | inr e ↦ subst (λ (x : ℕ). HasCell (λ _. true) state x) (sym e) value_there
      ]

  cell_now : (x : ℕ) (c : Cell) → cell_at state x ≡ Some c
      → Describes types heap n (cell_after is.names (shape_after is.null is.no_cycle) write (x, c)).1 (m x)
  cell_now x c e = elim (cases_eq x k) [
    | inr other ↦ subst (λ (d : Cell). Describes types heap n (cell_named (name_in is.names) d) (m x))
        (sym (cond-false (eqb x k) _ (reshaped is.names (shape_after is.null is.no_cycle) (x, c)) (ne_eqb x k other)))
        (same_cell_after x c e (λ z t. known_other x (record { cell = c; is = e; sort_is = z }) other t))
    | inl same ↦
        let is_cell : c ≡ cell = some_is (sym e ∙ ap (cell_at state) same ∙ at) in
        elim sort_of_k [
          | inl i ↦
              let shaped : reshaped is.names (shape_after is.null is.no_cycle) (x, c) ≡ cells.Obj i.class i.ids = ap
              (λ (d : Cell). reshaped is.names (shape_after is.null is.no_cycle) (x, d)) (is_cell ∙ i.is_instance)
              ∙ either (λ (d : Cell). d ≡ cells.Obj i.class i.ids) (is_renamed is.names x) (cells.Obj i.class i.ids)
              (cells.Obj i.class i.ids) refl refl in
              let inside : inner is.names (shape_after is.null is.no_cycle) write x c ≡ cells.Obj i.class
              (slice_set i.ids i.field write.value) =
              cond-true (eqb x k) (with_field write.field write.value (reshaped is.names (shape_after is.null is.no_cycle) (x, c)))
              _ (eq-eqb x k same)
              ∙ ap (λ (q : Option ℕ). with_field q write.value (reshaped is.names (shape_after is.null is.no_cycle) (x, c))) i.field_is
              ∙ ap (with_field (Some i.field) write.value) shaped in
              subst (λ (d : Cell). Describes types heap n (cell_named (name_in is.names) d) (m x)) (sym inside)
              (subst (λ (y : ℕ). Describes types heap n
              (cell_named (name_in is.names) (cells.Obj i.class (slice_set i.ids i.field write.value))) (m y)) (sym same)
              (instance_after i))
          | inr a ↦
              let inside : inner is.names (shape_after is.null is.no_cycle) write x c ≡ reshaped is.names
              (shape_after is.null is.no_cycle) (x, c) =
              cond-true (eqb x k) (with_field write.field write.value (reshaped is.names (shape_after is.null is.no_cycle) (x, c)))
              _ (eq-eqb x k same)
              ∙ ap (λ (q : Option ℕ). with_field q write.value (reshaped is.names (shape_after is.null is.no_cycle) (x, c))) a.1 in
              subst (λ (d : Cell). Describes types heap n (cell_named (name_in is.names) d) (m x)) (sym inside)
              (same_cell_after x c e (λ z t. false≢true (ap is_known (sym (is_cell ∙ a.0.is_array)) ∙ z)))
        ]
  ]

  -- ---- the whole
  was : (id : ℕ) (c : Cell) → cell_in (map (cell_after is.names (shape_after is.null is.no_cycle) write) state.cells) id ≡ Some c
      → Was state is.names (shape_after is.null is.no_cycle) write id c
  was id c e = was_in state is.names (shape_after is.null is.no_cycle) write 0 state.cells good.rising (λ x d g. g) id c e

  value_of_new : (id x : ℕ) → HasCell (λ _. true) state x → name_in is.names x ≡ id → m (old_in is.names id) ≡ m x
  value_of_new id x e s = ap (λ (i : ℕ). m (old_in is.names i)) (sym s) ∙ moves x e

  abbrev wants_share : ℕ → ℕ → Type 0
  wants_share a b = IsImage (name_in is.names) (Share state) a b ⊎ GainsPair state is.names write a b

  meets : (x y p : ℕ) → HasCell is_hazy state x → HasCell is_hazy state y → x ≢ y → Region heap (m x) p → Region heap (m y) p
      → wants_share (name_in is.names x) (name_in is.names y) ⊎ wants_share (name_in is.names y) (name_in is.names x)
  meets x y p zx zy d rx ry = elim (gained x p rx) [
    | inl ox ↦ elim (gained y p ry) [
      | inl oy ↦ inl (inl (image (Share state) x y (h.meeting x y p zx zy d ox oy)))
      | inr gy ↦ inr (inr (gains_pair y x p (affected_if y zy gy.0) (met_hazy x p zx ox gy.1) gy.1))
    ]
    | inr gx ↦ elim (gained y p ry) [
      | inl oy ↦ inl (inr (gains_pair x y p (affected_if x zx gx.0) (met_hazy y p zy oy gx.1) gx.1))
      | inr gy ↦ inl (inl (image (Share state) x y (h.meeting x y o zx zy d gx.0 gy.0)))
    ]
  ]

  lies : (x y p : ℕ) → HasCell is_known state x → HasCell is_hazy state y → target (m x) ≡ Some p → Region heap (m y) p
      → wants_share (name_in is.names x) (name_in is.names y) ⊎ wants_share (name_in is.names y) (name_in is.names x)
  lies x y p zx zy t ry = elim (gained y p ry) [
    | inl oy ↦ inl (inl (image (Share state) x y (h.inside x y p zx zy t oy)))
    | inr gy ↦ inr (inr (gains_pair y x p (affected_if y zy gy.0) (met_known x p zx t gy.1) gy.1))
  ]

  there : (id : ℕ) (c : Cell) (a : Was state is.names (shape_after is.null is.no_cycle) write id c) → HasCell (λ _. true) state a.x
  there id c a = record { cell = a.old; is = a.old_is; sort_is = refl }

  known_there : (id : ℕ) (c : Cell) (a : Was state is.names (shape_after is.null is.no_cycle) write id c) → is_known c ≡ true
      → HasCell is_known state a.x
  known_there id c a z = record {
    cell = a.old;
    is = a.old_is;
    sort_is = sym (known_after is.names (shape_after is.null is.no_cycle) write a.x a.old)
        ∙ ap is_known a.now ∙ z;
  }

  hazy_there : (id : ℕ) (c : Cell) (a : Was state is.names (shape_after is.null is.no_cycle) write id c) → is_hazy c ≡ true
      → HasCell is_hazy state a.x
  hazy_there id c a z = record {
    cell = a.old;
    is = a.old_is;
    sort_is = sym (hazy_after is.names (shape_after is.null is.no_cycle) write a.x a.old)
        ∙ ap is_hazy a.now ∙ z;
  }

  apart_there : (i j : ℕ) (c d : Cell) (a : Was state is.names (shape_after is.null is.no_cycle) write i c)
      (b : Was state is.names (shape_after is.null is.no_cycle) write j d) → i ≢ j → a.x ≢ b.x
  apart_there i j c d a b differ e = differ (sym a.named ∙ ap (name_in is.names) e ∙ b.named)

  target_there : (i p : ℕ) (c : Cell) (a : Was state is.names (shape_after is.null is.no_cycle) write i c)
      → target (m (old_in is.names i)) ≡ Some p → target (m a.x) ≡ Some p
  target_there i p c a t = ap target (sym (value_of_new i a.x (there i c a) a.named)) ∙ t

  region_there : (i p : ℕ) (c : Cell) (a : Was state is.names (shape_after is.null is.no_cycle) write i c)
      → Region heap (m (old_in is.names i)) p → Region heap (m a.x) p
  region_there i p c a r = subst (λ (u : Value). Region heap u p) (value_of_new i a.x (there i c a) a.named) r

  renamed_wish : (i j : ℕ) (c d : Cell) (a : Was state is.names (shape_after is.null is.no_cycle) write i c)
      (b : Was state is.names (shape_after is.null is.no_cycle) write j d)
      → wants_share (name_in is.names a.x) (name_in is.names b.x) ⊎ wants_share (name_in is.names b.x) (name_in is.names a.x)
      → wants_share i j ⊎ wants_share j i
  renamed_wish i j c d a b s = subst (λ (y : ℕ). wants_share i y ⊎ wants_share y i) b.named
      (subst (λ (x : ℕ). wants_share x (name_in is.names b.x) ⊎ wants_share (name_in is.names b.x) x) a.named s)

  all_move : All (λ id. m (old_in is.names (name_in is.names id)) ≡ m id) (ids_used state)
  all_move i d l = moves (get_or (ids_used state) i d) (good.used i d l)

  written_fits : FitsBy types (map (frame_named (name_in is.names)) state.frames) (option_map (name_in is.names) state.throwing)
      (cell_in (map (cell_after is.names (shape_after is.null is.no_cycle) write) state.cells))
      (IsImage (name_in is.names) (AreEqual state)) (λ a b. IsImage (name_in is.names) (Share state) a b
      ⊎ GainsPair state is.names write a b) (with_heap machine heap) (λ i. m (old_in is.names i))
  written_fits = record {
    positions = frames_move m (λ i. m (old_in is.names i)) (name_in is.names) state.frames (with_statics machine.statics machine.frames)
        (every_front (λ id. m (old_in is.names (name_in is.names id)) ≡ m id) (flat_map ids_of_frame state.frames)
        (given_ids (state.throwing ∷ []) ++ flat_map (λ c. ids_in c.1) state.cells) all_move) h.positions;
    mode = thrown_moves m (λ i. m (old_in is.names i)) (name_in is.names) state.throwing machine.mode
        (every_front (λ id. m (old_in is.names (name_in is.names id)) ≡ m id) (given_ids (state.throwing ∷ []))
        (flat_map (λ c. ids_in c.1) state.cells)
        (every_back (λ id. m (old_in is.names (name_in is.names id)) ≡ m id) (flat_map ids_of_frame state.frames)
        (given_ids (state.throwing ∷ []) ++ flat_map (λ c. ids_in c.1) state.cells) all_move)) h.mode;
    cells = λ id c e.
        let a = was id c e in
        subst (λ (u : Value). Describes types heap n c u) (sym (value_of_new id a.x (there id c a) a.named))
        (subst (λ (d : Cell). Describes types heap n d (m a.x)) a.now (cell_now a.x a.old a.old_is));
    aliases = λ i j p c d e g differ ti tj.
        let a = was i c e in
        let b = was j d g in
        inl (subst (λ (y : ℕ). IsImage (name_in is.names) (AreEqual state) i y) b.named
        (subst (λ (x : ℕ). IsImage (name_in is.names) (AreEqual state) x (name_in is.names b.x)) a.named
        (image (AreEqual state) a.x b.x (h.aliases a.x b.x p (there i c a) (there j d b) (apart_there i j c d a b differ)
        (target_there i p c a ti) (target_there j p d b tj)))));
    apart = λ i j p c d e g zi zj differ ti tj.
        let a = was i c e in
        let b = was j d g in
        known_apart types state machine m good h a.x b.x p (known_there i c a zi) (known_there j d b zj)
        (apart_there i j c d a b differ) (target_there i p c a ti) (target_there j p d b tj);
    meeting = λ i j p c d e g zi zj differ ri rj.
        let a = was i c e in
        let b = was j d g in
        renamed_wish i j c d a b (meets a.x b.x p (hazy_there i c a zi) (hazy_there j d b zj) (apart_there i j c d a b differ)
        (region_there i p c a ri) (region_there j p d b rj));
    inside = λ i j p c d e g zi zj ti rj.
        let a = was i c e in
        let b = was j d g in
        renamed_wish i j c d a b (lies a.x b.x p (known_there i c a zi) (hazy_there j d b zj) (target_there i p c a ti)
        (region_there j p d b rj));
    shapes = λ i c s e g.
        let a = was i c e in
        let z : is_hazy c ≡ true = hazy_of c s g in
        subst (λ (u : Value). HasShape s heap u) (sym (value_of_new i a.x (there i c a) a.named))
        (shaped_at a.x a.old s a.old_is (sym (hazy_after is.names (shape_after is.null is.no_cycle) write a.x a.old)
        ∙ ap is_hazy a.now ∙ z) (sym (shape_is_after is.names (shape_after is.null is.no_cycle) write a.x a.old)
        ∙ ap shape_of a.now ∙ g));
  }
    where
      hazy_of : (c : Cell) (s : Shape) → shape_of c ≡ Some s → is_hazy c ≡ true
      hazy_of (cells.Int interval) s g = absurd (none-some s g)
      hazy_of cells.Null s g = absurd (none-some s g)
      hazy_of (cells.Obj class ids) s g = absurd (none-some s g)
      hazy_of (cells.Nums kind len) s g = absurd (none-some s g)
      hazy_of (cells.Refs element len shape) s g = refl
      hazy_of (cells.Unk bound nullable shape) s g = refl

  -- ---- the edge
  int_not_hazy : (id : ℕ) → HasCell is_int state id → HasCell is_hazy state id → ⊥
  int_not_hazy id i z = go z.cell (ap is_int (some_is (sym z.is ∙ i.is)) ∙ i.sort_is) z.sort_is
    where
      go : (c : Cell) → is_int c ≡ true → is_hazy c ≡ true → ⊥
      go (cells.Int interval) p q = false≢true q
      go cells.Null p q = false≢true q
      go (cells.Obj class ids) p q = false≢true q
      go (cells.Nums kind len) p q = false≢true q
      go (cells.Refs element len shape) p q = false≢true p
      go (cells.Unk bound nullable shape) p q = false≢true p

  array_is_hazy : (id : ℕ) → HasCell is_array_of_references state id → HasCell is_hazy state id
  array_is_hazy id a = record { cell = a.cell; is = a.is; sort_is = go a.cell a.sort_is }
    where
      go : (c : Cell) → is_array_of_references c ≡ true → is_hazy c ≡ true
      go (cells.Int interval) p = p
      go cells.Null p = p
      go (cells.Obj class ids) p = p
      go (cells.Nums kind len) p = p
      go (cells.Refs element len shape) p = refl
      go (cells.Unk bound nullable shape) p = absurd (false≢true p)

  affected_hazy : (id : ℕ) → IsAffected state k id → HasCell is_hazy state id
  affected_hazy id (inl a) = a.1
  affected_hazy id (inr a) = subst (λ (j : ℕ). HasCell is_hazy state j) (sym a.0) (array_is_hazy k a.1)

  int_stays : (id : ℕ) → HasCell is_int state id → m (old_in is.names id) ≡ m id
  int_stays id i = elim (cases_Bool (is_renamed is.names id)) [
    | inl e ↦ absurd (int_not_hazy id i (affected_hazy id (affected_of id e)))
    | inr e ↦ value_of_new id id (record { cell = i.cell; is = i.is; sort_is = refl }) (unnamed_stays is.names id e)
  ]

  new_free : (ns : List (ℕ × ℕ)) → All (λ id. cell_at state id ≡ None) (map (λ e. e.1) ns) → (x : ℕ) → is_renamed ns x ≡ true
      → cell_at state (name_in ns x) ≡ None
  new_free [] a x e = absurd (false≢true e)
  new_free (p ∷ ns) a x e = elim (cases_eq p.0 x) [
    | inl s ↦ ap (cell_at state) (named_here p ns x s) ∙ All-head (λ i. cell_at state i ≡ None) p.1 (map (λ q. q.1) ns) a
    | inr s ↦ ap (cell_at state) (named_later p ns x s)
        ∙ new_free ns (All-tail (λ i. cell_at state i ≡ None) p.1 (map (λ q. q.1) ns) a) x
        (elim (or_cases (eqb p.0 x) (is_renamed ns x) e) [ inl t ↦ absurd (s (eqb-true p.0 x t)) | inr t ↦ t ])
  ]

  -- an id that both have kept its number
  stays_there : (id : ℕ) (c : Cell) → HasCell (λ _. true) state id → Was state is.names (shape_after is.null is.no_cycle) write id c
      → is_renamed is.names id ≡ false
  stays_there id c e a = elim (cases_Bool (is_renamed is.names a.x)) [
    | inl r ↦ absurd (none-some e.cell (sym (new_free is.names is.renamed.fresh.free a.x r) ∙ ap (cell_at state) a.named ∙ e.is))
    | inr r ↦ subst (λ (i : ℕ). is_renamed is.names i ≡ false) (sym (unnamed_stays is.names a.x r) ∙ a.named) r
  ]

  pattern_cell : (depth id : ℕ) (pattern : Pattern) → pattern_within depth child id ≡ Some (Some pattern)
      → (c : Cell) × (cell_at child id ≡ Some c)
  pattern_cell zero id pattern e = absurd (none-some (Some pattern) e)
  pattern_cell (suc depth) id pattern e = let g = then_some (pattern_of_cell (pattern_within depth child) id) (cell_at child id)
      (Some pattern) e in (g.0, g.1.0)

  variable_hazy : (c : Cell) → is_size_variable c ≡ true → is_hazy c ≡ true
  variable_hazy (cells.Int interval) p = p
  variable_hazy cells.Null p = p
  variable_hazy (cells.Obj class ids) p = p
  variable_hazy (cells.Nums kind len) p = p
  variable_hazy (cells.Refs element len shape) p = refl
  variable_hazy (cells.Unk bound nullable shape) p = refl

  size_stays : (id : ℕ) → HasCell is_size_variable state id → IsSized child id
      → HasSameSize machine.heap (m id) heap (m (old_in is.names id))
  size_stays id z s =
      let c = pattern_cell s.is.depth id s.pattern s.is.is in
      let a = was id c.0 (sym (is.is.cells id) ∙ c.1) in
      let there : HasCell (λ _. true) state id = record { cell = z.cell; is = z.is; sort_is = refl } in
      let r = stays_there id c.0 there a in
      let hazy : HasCell is_hazy state id = record { cell = z.cell; is = z.is; sort_is = variable_hazy z.cell z.sort_is } in
      size_kept machine.heap heap (m id) (m (old_in is.names id)) (value_of_new id id there (unnamed_stays is.names id r))
      (λ t it. ((kept id hazy r).term t).0 it)

  pub written_goes : Goes types state machine m (plain_link true None) child (with_heap machine heap)
  written_goes = record {
    meaning_after = λ i. m (old_in is.names i);
    fits = fits_given types (map (frame_named (name_in is.names)) state.frames) (option_map (name_in is.names) state.throwing)
        (cell_in (map (cell_after is.names (shape_after is.null is.no_cycle) write) state.cells))
        (IsImage (name_in is.names) (AreEqual state)) (λ a b. IsImage (name_in is.names) (Share state) a b
        ⊎ GainsPair state is.names write a b) (with_heap machine heap) (λ i. m (old_in is.names i)) written_fits child is.is;
    edge = record {
      ints = λ id i j. int_stays id i;
      rows = All-nil (HoldsBetween m (λ i. m (old_in is.names i)));
      sizes = λ id z s. size_stays id z s;
    };
  }

pub writes_go_on : WritesGoOn
writes_go_on types state child machine m write cell o place heap good closed h v at wr to w is = written_goes types state child
    machine m write cell o place heap good closed h v at wr to w is
