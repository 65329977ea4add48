-- Cells of a state that tell more, of the same sorts: a state of the machine that fits goes on fitting, in the same heap or in one in
-- which each value keeps its region, its shapes and its term.
use Rattle.std.proofs.Common.{◌≡◌, ◌∙◌, eqb, ℕ, Bool, true, cond, List, [], ◌∷◌, Option, Some, None, inl, inr, refl, sym, ap, subst}
use Rattle.std.specs.List.{AllZip, AllByRecursion}
use Rattle.std.proofs.lemmas.Bool.{eqb-true, cases_Bool}
use Rattle.std.proofs.lemmas.Option.{none-some}
use Rattle.jvm_values.specs.declared.heap.Value.{Value}
use Rattle.jvm_values.specs.declared.heap.Heap.{Heap}
use Rattle.jvm_values.specs.declared.state.Mode.{Mode}
use Rattle.jvm_values.specs.States.{MachineFrame, MachineState}
use Rattle.jvm_values.specs.Heaps.{Region}
use Rattle.jvm_values.specs.TypedHeaps.{WorldTypes}
use Rattle.jvm_values.specs.Writes.{IsKept}
use Rattle.jvm_values.specs.Terms.{HeapTerm}
use Rattle.jvm_values.proofs.Options.{some_is}
use Rattle.abs_cells.specs.declared.cells.Cell.{Cell}
use Rattle.abs_cells.specs.AbstractStates.{AbstractFrame, AbstractState}
use Rattle.abs_cells.specs.Cells.{is_int, is_known, is_hazy, shape_of, cell_in, cell_at, HasCell, AreEqual, Share}
use Rattle.abs_cells.specs.Sound.{IsWellFormed}
use Rattle.abs_cells.specs.Fits.{Meaning, FitsFrame, FitsMode, with_statics, Describes, Fits}
use Rattle.abs_cells.proofs.Fitting.{known_apart}
use Rattle.term_graph.specs.Edges.{is_size_variable, HasSameSize}
use Rattle.abs_heap.specs.Given.{IsGiven, first_cell, with_cells}
use Rattle.form_steps.proofs.Fitted.{FitsBy, fits_given}
use Rattle.form_steps.proofs.SameTerms.{size_kept}

-- what holds of each id and cell of a list
pub in_list : (P : ℕ → Cell → Type 0) (list : List (ℕ × Cell)) (k : ℕ) (cell : Cell)
    → AllByRecursion (λ (c : ℕ × Cell). P c.0 c.1) list → cell_in list k ≡ Some cell → P k cell
in_list P [] k cell all e = absurd (none-some cell e)
in_list P (c ∷ list) k cell all e = elim (cases_Bool (eqb c.0 k)) [
  | inl t ↦
      let same : c.1 ≡ cell = some_is (ap (λ b. cond b (Some c.1) (cell_in list k)) (sym t) ∙ e) in
      subst (λ d. P k d) same (subst (λ n. P n c.1) (eqb-true c.0 k t) all.0)
  | inr f ↦ in_list P list k cell all.1 (ap (λ b. cond b (Some c.1) (cell_in list k)) (sym f) ∙ e)
]

-- a cell that an id has, and another one of its sort
pub record IsAlike (state : AbstractState) (id : ℕ) (c : Cell) : Type 0 where
  pub old : Cell
  pub is : cell_at state id ≡ Some old
  pub known : is_known c ≡ is_known old
  pub hazy : is_hazy c ≡ is_hazy old
  pub shape : shape_of c ≡ shape_of old
  pub int : is_int c ≡ is_int old
  pub variable : is_size_variable c ≡ is_size_variable old

pub alike_itself : (state : AbstractState) (id : ℕ) (c : Cell) → cell_at state id ≡ Some c → IsAlike state id c
alike_itself state id c e = record { old = c; is = e; known = refl; hazy = refl; shape = refl; int = refl; variable = refl }

-- a cell of a list, or of the state
pub alike_of : (state : AbstractState) (list : List (ℕ × Cell)) → AllByRecursion (λ (c : ℕ × Cell). IsAlike state c.0 c.1) list
    → (id : ℕ) (c : Cell) → with_cells list state id ≡ Some c → IsAlike state id c
alike_of state list all id c e = at (cell_in list id) refl e
  where
    at : (o : Option Cell) → cell_in list id ≡ o → first_cell o (cell_at state id) ≡ Some c → IsAlike state id c
    at None f g = alike_itself state id c g
    at (Some d) f g = in_list (IsAlike state) list id c all (f ∙ g)

pub described_of : (types : WorldTypes) (heap : Heap) (m : Meaning) (state : AbstractState) (list : List (ℕ × Cell))
    → AllByRecursion (λ (c : ℕ × Cell). Describes types heap m c.1 (m c.0)) list
    → ((id : ℕ) (c : Cell) → cell_in list id ≡ None → cell_at state id ≡ Some c → Describes types heap m c (m id))
    → (id : ℕ) (c : Cell) → with_cells list state id ≡ Some c → Describes types heap m c (m id)
described_of types heap m state list all still id c e = at (cell_in list id) refl e
  where
    at : (o : Option Cell) → cell_in list id ≡ o → first_cell o (cell_at state id) ≡ Some c → Describes types heap m c (m id)
    at None f g = still id c f g
    at (Some d) f g = in_list (λ n x. Describes types heap m x (m n)) list id c all (f ∙ g)

-- an id of the state has one of those cells
pub still_there : (state : AbstractState) (list : List (ℕ × Cell)) (id : ℕ) → HasCell (λ _. true) state id → (c : Cell)
    × (with_cells list state id ≡ Some c)
still_there state list id h = at (cell_in list id) refl
  where
    at : (o : Option Cell) → cell_in list id ≡ o → (c : Cell) × (first_cell (cell_in list id) (cell_at state id) ≡ Some c)
    at None f = (h.cell, ap (λ (o : Option Cell). first_cell o (cell_at state id)) f ∙ h.is)
    at (Some d) f = (d, ap (λ (o : Option Cell). first_cell o (cell_at state id)) f)

-- an id that is in no cell of the changed state has none before
pub sort_stays : (sort : Cell → Bool) (state : AbstractState) (list : List (ℕ × Cell)) (changed : AbstractState)
    → ((id : ℕ) → cell_at changed id ≡ with_cells list state id)
    → ((id : ℕ) (c : Cell) (a : IsAlike state id c) → sort c ≡ sort a.old)
    → AllByRecursion (λ (c : ℕ × Cell). IsAlike state c.0 c.1) list → (id : ℕ) → HasCell sort state id → HasCell sort changed id
sort_stays sort state list changed cells keeps all id h =
    let there = still_there state list id (record { cell = h.cell; is = h.is; sort_is = refl }) in
    let a = alike_of state list all id there.0 there.1 in
    let same : a.old ≡ h.cell = some_is (sym a.is ∙ h.is) in
    record { cell = there.0; is = cells id ∙ there.1; sort_is = keeps id there.0 a ∙ ap sort same ∙ h.sort_is }

module _ (types : WorldTypes) (state : AbstractState) (machine : MachineState) (m : Meaning) (good : IsWellFormed state)
    (fits : Fits types state machine m) (heap : Heap) (kept : (id : ℕ) → HasCell (λ _. true) state id
    → IsKept machine.heap heap (m id)) (cell : ℕ → Option Cell)
    (alike : (id : ℕ) (c : Cell) → cell id ≡ Some c → IsAlike state id c) (described : (id : ℕ) (c : Cell) → cell id ≡ Some c
    → Describes types heap m c (m id)) (frames : List AbstractFrame) (throwing : Option ℕ) (running : List MachineFrame)
    (mode : Mode) (statics : List Value)
    (positions : AllZip (FitsFrame m) frames (with_statics statics running)) (moded : FitsMode m throwing mode) where
  abbrev pub After : MachineState
  After = record { frames = running; heap = heap; mode = mode; statics = statics }

  any : (id : ℕ) (c : Cell) → cell id ≡ Some c → HasCell (λ _. true) state id
  any id c e = let a = alike id c e in record { cell = a.old; is = a.is; sort_is = refl }

  known : (id : ℕ) (c : Cell) → cell id ≡ Some c → is_known c ≡ true → HasCell is_known state id
  known id c e k = let a = alike id c e in record { cell = a.old; is = a.is; sort_is = sym a.known ∙ k }

  hazy : (id : ℕ) (c : Cell) → cell id ≡ Some c → is_hazy c ≡ true → HasCell is_hazy state id
  hazy id c e k = let a = alike id c e in record { cell = a.old; is = a.is; sort_is = sym a.hazy ∙ k }

  back : (id o : ℕ) → HasCell (λ _. true) state id → Region heap (m id) o → Region machine.heap (m id) o
  back id o h r = ((kept id h).region o).0 r

  pub carried : FitsBy types frames throwing cell (AreEqual state) (Share state) After m
  carried = record {
    positions = positions;
    mode = moded;
    cells = described;
    aliases = λ a b o c d e f n ta tb. inl (fits.aliases a b o (any a c e) (any b d f) n ta tb);
    apart = λ a b o c d e f k l n ta tb. known_apart types state machine m good fits a b o (known a c e k) (known b d f l) n ta tb;
    meeting = λ a b o c d e f k l n ra rb. inl
        (fits.meeting a b o (hazy a c e k) (hazy b d f l) n (back a o (any a c e) ra) (back b o (any b d f) rb));
    inside = λ k b o c d e f p q t rb. inl (fits.inside k b o (known k c e p) (hazy b d f q) t (back b o (any b d f) rb));
    shapes = λ id c s e f. let a = alike id c e in ((kept id (any id c e)).shape s).1 (fits.shapes id a.old s a.is (sym a.shape ∙ f));
  }

  pub given_fits : (changed : AbstractState) → IsGiven frames throwing cell (AreEqual state) (Share state) changed
      → Fits types changed After m
  given_fits changed g = fits_given types frames throwing cell (AreEqual state) (Share state) After m carried changed g

  -- each value keeps its size
  pub sizes_kept : (id : ℕ) → HasCell (λ _. true) state id → HasSameSize machine.heap (m id) heap (m id)
  sizes_kept id h = size_kept machine.heap heap (m id) (m id) refl (λ (t : HeapTerm). ((kept id h).term t).0)

-- values keep all in the same heap
pub all_kept : (heap : Heap) (v : Value) → IsKept heap heap v
all_kept heap v = record {
  region = λ b. (λ r. r, λ r. r);
  paths = λ a t p. refl;
  shape = λ s. (λ h. h, λ h. h);
  term = λ t.
      (λ h. h, λ h. h);
}
