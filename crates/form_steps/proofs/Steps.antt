-- The child of a step fits the machine's state after it, and the edge to it holds: cells change, the act makes an id, which goes to its
-- goal, and ids are dropped.
use Rattle.std.proofs.Common.{◌≡◌, ◌∙◌, ℕ, zero, suc, Bool, true, List, [], ◌∷◌, Option, Some, None, refl, sym, ap, subst}
use Rattle.std.specs.List.{All, AllByRecursion, AllZip}
use Rattle.std.proofs.lemmas.Option.{none-some}
use Rattle.list_views.proofs.Options.{then_some}
use Rattle.jvm_values.specs.declared.heap.Value.{Value}
use Rattle.jvm_values.specs.declared.heap.Heap.{Heap}
use Rattle.jvm_values.specs.declared.state.Mode.{Mode}
use Rattle.jvm_values.specs.States.{MachineFrame, MachineState}
use Rattle.jvm_values.specs.TypedHeaps.{WorldTypes}
use Rattle.jvm_values.specs.Terms.{HeapTerm}
use Rattle.jvm_values.specs.Writes.{IsKept}
use Rattle.abs_cells.specs.declared.cells.Cell.{Cell}
use Rattle.abs_cells.specs.AbstractStates.{AbstractFrame, AbstractState}
use Rattle.abs_cells.specs.Cells.{is_int, ids_in, cell_at, HasCell, AreEqual, Share}
use Rattle.abs_cells.specs.Sound.{given_ids, IsWellFormed}
use Rattle.abs_cells.specs.Fits.{Meaning, FitsFrame, FitsMode, with_statics, Describes, Fits}
use Rattle.abs_cells.specs.Patterns.{pattern_of_cell, pattern_within, IsSized}
use Rattle.abs_expand.specs.AbsReachReached.{IsDropped, IsRestricted}
use Rattle.abs_expand.proofs.AbsReachRestricting.{restricted}
use Rattle.abs_expand.proofs.AbsReachWalks.{some_cell}
use Rattle.abs_heap.specs.Given.{IsGiven, with_cells}
use Rattle.abs_heap.specs.Laws.{plain_link, Goes, GoesWith, with_heap}
use Rattle.term_graph.specs.Graphs.{GraphChild}
use Rattle.term_graph.specs.declared.links.Link.{Link}
use Rattle.term_graph.specs.declared.links.LinkRow.{LinkRow}
use Rattle.term_graph.specs.Edges.{HoldsBetween, is_size_variable, HasSameSize, id_after, Edge}
use Rattle.abs_expand.specs.inner.Building.{HoldsIds}
use Rattle.abs_expand.specs.Children.{IsLean}
use Rattle.form_steps.specs.inner.Lows.{DroppedKeepSized}
use Rattle.form_steps.specs.Laws.{Moved}
use Rattle.form_steps.proofs.Carry.{IsAlike, alike_of, described_of, sort_stays, all_kept, given_fits, sizes_kept}
use Rattle.form_steps.proofs.Formed.{changed_formed, stays as changed_there}
use Rattle.form_steps.proofs.SameTerms.{size_kept}
use Rattle.form_steps.proofs.Sized.{sized_moved}

-- a child fits a state of the machine, and the edge to it holds
pub record FitsChild (types : WorldTypes) (state : AbstractState) (machine : MachineState) (meaning : Meaning)
    (after : MachineState) (child : GraphChild) : Type 0 where
  pub meaning_after : Meaning
  pub fits : Fits types child.state after meaning_after
  pub edge : Edge state machine meaning child.link child.state after meaning_after

-- ---- dropping

pub dropped_restricted : (whole part : AbstractState) → IsDropped whole part → IsRestricted whole part
dropped_restricted whole part d = record {
  frames = d.frames;
  throwing = d.throwing;
  cells = λ id h. d.kept id (d.gone id h);
  eq = λ a b ha hb e. (d.eq a b).1 (e, (d.gone a ha, d.gone b hb));
  share = λ a b ha hb s. (d.share a b).1 (s, (d.gone a ha, d.gone b hb));
}

pub dropped_fits : (types : WorldTypes) (whole part : AbstractState) (machine : MachineState) (meaning : Meaning)
    → IsDropped whole part → Fits types whole machine meaning → Fits types part machine meaning
dropped_fits types whole part machine meaning d f = restricted types whole part machine meaning (dropped_restricted whole part d) f

pub dropped_sort : (sort : Cell → Bool) (whole part : AbstractState) → IsDropped whole part → (id : ℕ) → HasCell sort part id
    → HasCell sort whole id
dropped_sort sort whole part d id h = record
    { cell = h.cell; is = sym (d.kept id (d.gone id (record { cell = h.cell; is = h.is; sort_is = refl }))) ∙ h.is; sort_is = h.sort_is }

-- an id that has a size has a cell
pub sized_there : (state : AbstractState) (id : ℕ) → IsSized state id → HasCell (λ _. true) state id
sized_there state id s = at s.is.depth s.is.is
  where
    at : (depth : ℕ) → pattern_within depth state id ≡ Some (Some s.pattern) → HasCell (λ _. true) state id
    at zero e = absurd (none-some (Some s.pattern) e)
    at (suc depth) e =
        let found = then_some (pattern_of_cell (pattern_within depth state) id) (cell_at state id) (Some s.pattern) e in
        record { cell = found.0; is = found.1.0; sort_is = refl }

-- ---- other frames

-- cells and pairs say of a heap what they said
pub repositioned : (types : WorldTypes) (state : AbstractState) (machine : MachineState) (m : Meaning) (frames : List AbstractFrame)
    (throwing : Option ℕ) (running : List MachineFrame) (mode : Mode) (statics : List Value) → Fits types state machine m
    → AllZip (FitsFrame m) frames (with_statics statics running) → FitsMode m throwing mode
    → Fits types (Moved state frames throwing) (record { frames = running; heap = machine.heap; mode = mode; statics = statics }) m
repositioned types state machine m frames throwing running mode statics f positions moded = record {
  positions = positions;
  mode = moded;
  cells = f.cells;
  aliases = λ a b o ha hb n ta tb. f.aliases a b o (unmoved a ha) (unmoved b hb) n ta tb;
  meeting = λ a b o ha hb n ra rb. f.meeting a b o (unmoved a ha) (unmoved b hb) n ra rb;
  inside = λ k b o hk hb t r. f.inside k b o (unmoved k hk) (unmoved b hb) t r;
  shapes = f.shapes;
}
  where
    unmoved : {sort : Cell → Bool} (id : ℕ) → HasCell sort (Moved state frames throwing) id → HasCell sort state id
    unmoved id h = record { cell = h.cell; is = h.is; sort_is = h.sort_is }

-- ---- a step whose cells change first

module _ (drop : DroppedKeepSized) (types : WorldTypes) (state : AbstractState) (machine : MachineState) (m : Meaning)
    (good : IsWellFormed state) (fits : Fits types state machine m)
    (list : List (ℕ × Cell)) (alike : AllByRecursion (λ (c : ℕ × Cell). IsAlike state c.0 c.1) list)
    (named : AllByRecursion (λ (c : ℕ × Cell). AllByRecursion (HasCell (λ _. true) state) (ids_in c.1)) list)
    (frames : List AbstractFrame) (held : AllByRecursion (HoldsIds state) frames) (throwing : Option ℕ)
    (thrown : AllByRecursion (HasCell (λ _. true) state) (given_ids (throwing ∷ [])))
    (running : List MachineFrame) (mode : Mode) (statics : List Value)
    (positions : AllZip (FitsFrame m) frames (with_statics statics running)) (moded : FitsMode m throwing mode)
    (changed : AbstractState) (g : IsGiven frames throwing (with_cells list state) (AreEqual state) (Share state) changed) where
  pub formed : IsWellFormed changed
  formed = changed_formed state good list named frames held throwing thrown changed g

  pub ints_stay : (id : ℕ) → HasCell is_int state id → HasCell is_int changed id
  ints_stay id h = sort_stays is_int state list changed g.cells (λ i c a. a.int) alike id h

  pub variables_stay : (id : ℕ) → HasCell is_size_variable state id → HasCell is_size_variable changed id
  variables_stay id h = sort_stays is_size_variable state list changed g.cells (λ i c a. a.variable) alike id h

  alike_all : (id : ℕ) (c : Cell) → with_cells list state id ≡ Some c → IsAlike state id c
  alike_all = alike_of state list alike

  -- the heap's values keep all that they had
  module _ (heap : Heap) (kept : (id : ℕ) → HasCell (λ _. true) state id → IsKept machine.heap heap (m id))
      (described : (id : ℕ) (c : Cell) → with_cells list state id ≡ Some c → Describes types heap m c (m id)) where
    pub changed_fits : Fits types changed (record { frames = running; heap = heap; mode = mode; statics = statics }) m
    changed_fits = given_fits types state machine m good fits heap kept (with_cells list state) alike_all described frames throwing
        running mode statics positions moded changed g

    -- no id is made
    pub kept_goes : (whole child : GraphChild) (rows : List LinkRow) → whole.state ≡ changed → IsLean whole child
        → whole.link ≡ record { rows = rows; merged = None; step = true } → All (HoldsBetween m m) rows
        → FitsChild types state machine m (record { frames = running; heap = heap; mode = mode; statics = statics }) child
    kept_goes whole child rows is lean link holds = record {
      meaning_after = m;
      fits = dropped_fits types whole.state child.state (record { frames = running; heap = heap; mode = mode; statics = statics }) m
          lean.dropped (subst (λ (s : AbstractState). Fits types s
          (record { frames = running; heap = heap; mode = mode; statics = statics }) m) (sym is) changed_fits);
      edge = subst (λ (l : Link). Edge state machine m l child.state
          (record { frames = running; heap = heap; mode = mode; statics = statics }) m) (sym (lean.link ∙ link)) (record {
            ints = λ id h k. refl;
            rows = holds;
            sizes = λ id h s. sizes_kept types state machine m good fits heap kept (with_cells list state) alike_all described frames
                throwing running mode statics positions moded id (some_cell state id h);
          });
    }

  module _ (described : AllByRecursion (λ (c : ℕ × Cell). Describes types machine.heap m c.1 (m c.0)) list) where
    abbrev pub Mid : MachineState
    Mid = record { frames = running; heap = machine.heap; mode = mode; statics = statics }

    described_all : (id : ℕ) (c : Cell) → with_cells list state id ≡ Some c → Describes types machine.heap m c (m id)
    described_all = described_of types machine.heap m state list described (λ id c e f. fits.cells id c f)

    pub mid_fits : Fits types changed Mid m
    mid_fits = changed_fits machine.heap (λ id h. all_kept machine.heap (m id)) described_all

    pub moved_goes : (whole child : GraphChild) (rows : List LinkRow) → whole.state ≡ changed → IsLean whole child
        → whole.link ≡ record { rows = rows; merged = None; step = true } → All (HoldsBetween m m) rows
        → FitsChild types state machine m Mid child
    moved_goes = kept_goes machine.heap (λ id h. all_kept machine.heap (m id)) described_all

    -- an edge from the changed state is one from the state
    edge_from : (link : Link) (acted part : AbstractState) (after : MachineState) (n : Meaning) → link.merged ≡ None
        → Edge changed Mid m (plain_link true None) acted after n → All (HoldsBetween m n) link.rows
        → ((id : ℕ) → HasCell is_int part id → HasCell is_int acted id) → ((id : ℕ) → IsSized part id → IsSized acted id)
        → Edge state machine m link part after n
    edge_from link acted part after n none e rows ints sized = record {
      ints = λ id h k. e.ints id (ints_stay id h) (ints id k);
      rows = rows;
      sizes = λ id h s. at link.merged none id h s;
    }
      where
        at : (merged : Option (ℕ × ℕ)) → merged ≡ None → (id : ℕ) → HasCell is_size_variable state id
            → IsSized part (id_after merged id) → HasSameSize machine.heap (m id) after.heap (n (id_after merged id))
        at None f id h s = e.sizes id (variables_stay id h) (sized id s)
        at (Some x) f id h s = absurd (none-some x (sym f))

    -- an act without an id
    pub written_goes : (acted : AbstractState) (heap : Heap) → Goes types changed Mid m (plain_link true None) acted (with_heap Mid heap)
        → (whole child : GraphChild) (rows : List LinkRow) → whole.state ≡ acted → IsLean whole child
        → whole.link ≡ record { rows = rows; merged = None; step = true } → ((n : Meaning) → All (HoldsBetween m n) rows)
        → FitsChild types state machine m (with_heap Mid heap) child
    written_goes acted heap goes whole child rows is lean link holds =
        let dropped : IsDropped acted child.state = subst (λ (s : AbstractState). IsDropped s child.state) is lean.dropped in
        record {
          meaning_after = goes.meaning_after;
          fits = dropped_fits types acted child.state (with_heap Mid heap) goes.meaning_after dropped goes.fits;
          edge = edge_from child.link acted child.state (with_heap Mid heap) goes.meaning_after
              (ap (λ (l : Link). l.merged) (lean.link ∙ link)) goes.edge
              (subst (λ (l : Link). All (HoldsBetween m goes.meaning_after) l.rows) (sym (lean.link ∙ link)) (holds goes.meaning_after))
              (λ id h. dropped_sort is_int acted child.state dropped id h)
              (λ id s. drop acted child.state id dropped (sized_there child.state id s) s);
        }

    -- an act with an id, which goes into a frame or is thrown
    pub made_goes : (acted : AbstractState) (heap : Heap) (id : ℕ) (value : Value)
        (goes : GoesWith types changed Mid m acted (with_heap Mid heap) id value)
        → (whole child : GraphChild) (rows : List LinkRow) (frames_after : List AbstractFrame) (throwing_after : Option ℕ)
        (running_after : List MachineFrame) (mode_after : Mode) (statics_after : List Value)
        → whole.state ≡ Moved acted frames_after throwing_after → IsLean whole child
        → whole.link ≡ record { rows = rows; merged = None; step = true }
        → AllZip (FitsFrame goes.meaning_after) frames_after (with_statics statics_after running_after)
        → FitsMode goes.meaning_after throwing_after mode_after → All (HoldsBetween m goes.meaning_after) rows
        → FitsChild types state machine m
        (record { frames = running_after; heap = heap; mode = mode_after; statics = statics_after }) child
    made_goes acted heap id value goes whole child rows frames_after throwing_after running_after mode_after statics_after is lean
        link places moded_after holds =
        let After : MachineState = record { frames = running_after; heap = heap; mode = mode_after; statics = statics_after } in
        let n = goes.meaning_after in
        let whole_ : AbstractState = Moved acted frames_after throwing_after in
        let dropped : IsDropped whole_ child.state = subst (λ (s : AbstractState). IsDropped s child.state) is lean.dropped in
        record {
          meaning_after = n;
          fits = dropped_fits types whole_ child.state After n dropped
              (repositioned types acted (with_heap Mid heap) n frames_after throwing_after running_after mode_after statics_after
              goes.fits places moded_after);
          edge = edge_from child.link acted child.state After n (ap (λ (l : Link). l.merged) (lean.link ∙ link))
              (record { ints = goes.edge.ints; rows = goes.edge.rows; sizes = goes.edge.sizes })
              (subst (λ (l : Link). All (HoldsBetween m n) l.rows) (sym (lean.link ∙ link)) holds)
              (λ i h. let k = dropped_sort is_int whole_ child.state dropped i h in record
              { cell = k.cell; is = k.is; sort_is = k.sort_is })
              (λ i s. sized_moved acted frames_after throwing_after i (drop whole_ child.state i dropped (sized_there child.state i s) s));
        }

    -- a fresh int goes into a field of an object, where the heap's values keep all that they had
    pub field_goes : (acted : AbstractState) (heap : Heap) (id : ℕ) (value : Value)
        (goes : GoesWith types changed Mid m acted Mid id value) (whole child : GraphChild) (rows : List LinkRow)
        → Fits types whole.state (with_heap Mid heap) goes.meaning_after → ((x : Value) → IsKept machine.heap heap x)
        → IsLean whole child → whole.link ≡ record { rows = rows; merged = None; step = true }
        → All (HoldsBetween m goes.meaning_after) rows → FitsChild types state machine m (with_heap Mid heap) child
    field_goes acted heap id value goes whole child rows whole_fits kept lean link holds = record {
      meaning_after = goes.meaning_after;
      fits = dropped_fits types whole.state child.state (with_heap Mid heap) goes.meaning_after lean.dropped whole_fits;
      edge = subst (λ (l : Link). Edge state machine m l child.state (with_heap Mid heap) goes.meaning_after)
          (sym (lean.link ∙ link)) (record {
            ints = λ i h k. same i (some_cell state i h);
            rows = holds;
            sizes = λ i h s. size_kept machine.heap heap (m i) (goes.meaning_after i) (same i (some_cell state i h))
                (λ (t : HeapTerm). ((kept (m i)).term t).0);
          });
    }
      where
        same : (i : ℕ) → HasCell (λ _. true) state i → goes.meaning_after i ≡ m i
        same i h = goes.others i (changed_there state good list named frames held throwing thrown changed g i h)
