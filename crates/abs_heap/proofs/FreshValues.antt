-- A fresh id of an int, or of null.
use Rattle.std.proofs.Common.{◌≡◌, ℕ, true, false, List, [], ◌∷◌, Option, Some, None, inl, inr, refl, sym, ap, subst, ◌∙◌}
use Rattle.std.specs.Prelude.{slice_get}
use Rattle.std.proofs.lemmas.Bool.{false≢true}
use Rattle.std.proofs.lemmas.List.Elements.{All-nil, All-cons}
use Rattle.std.proofs.lemmas.Option.{none-some}
use Rattle.jvm_values.specs.declared.heap.Value.{Value}
use Rattle.jvm_values.specs.declared.shape.Shape.{Shape}
use Rattle.jvm_values.specs.States.{MachineState}
use Rattle.jvm_values.specs.TypedHeaps.{WorldTypes}
use Rattle.jvm_values.specs.Heaps.{target, Region, HasShape}
use Rattle.abs_cells.specs.declared.cells.Cell.{Cell}
use Rattle.abs_cells.specs.declared.cells.Cell.TheVariants as cells
use Rattle.abs_cells.specs.AbstractStates.{AbstractState}
use Rattle.abs_cells.specs.Cells.{is_reference, ids_in, shape_of, cell_at, AreEqual, Share}
use Rattle.abs_cells.specs.Sound.{IsWellFormed}
use Rattle.abs_cells.specs.Fits.{Meaning, with_statics, Describes, Fits}
use Rattle.abs_cells.proofs.Fitting.{known_apart}
use Rattle.abs_reach.proofs.Walks.{some_cell}
use Rattle.term_graph.specs.Edges.{HoldsBetween}
use Rattle.abs_heap.specs.Given.{with_cells}
use Rattle.abs_heap.specs.Refining.{IsWithCell}
use Rattle.abs_heap.specs.Laws.{GoesWith, ValuesGoOn}
use Rattle.abs_heap.proofs.Carried.{Agrees, positions_carried, mode_carried, describes_carried, cell_carried}
use Rattle.abs_heap.proofs.Fitted.{FitsBy, fits_given, names_reference, hazy_reference, known_reference}
use Rattle.abs_heap.proofs.NewThings.{with_values, kept_others, valued_here}
use Rattle.abs_heap.proofs.Replacing.{replaced_cases}
use Rattle.abs_heap.proofs.SameTerms.{same_size}

-- a cell of no reference names no ids
names_none : (c : Cell) → is_reference c ≡ false → ids_in c ≡ []
names_none (cells.Int interval) r = refl
names_none cells.Null r = refl
names_none (cells.Obj class ids) r = absurd (false≢true (sym r))
names_none (cells.Nums kind len) r = absurd (false≢true (sym r))
names_none (cells.Refs element len shape) r = absurd (false≢true (sym r))
names_none (cells.Unk bound nullable shape) r = absurd (false≢true (sym r))

shaped_reference : (c : Cell) (s : Shape) → shape_of c ≡ Some s → is_reference c ≡ true
shaped_reference (cells.Int interval) s e = absurd (none-some s e)
shaped_reference cells.Null s e = absurd (none-some s e)
shaped_reference (cells.Obj class ids) s e = refl
shaped_reference (cells.Nums kind len) s e = refl
shaped_reference (cells.Refs element len shape) s e = refl
shaped_reference (cells.Unk bound nullable shape) s e = refl

-- an id of the state, with the value that it had
record IsOld (state : AbstractState) (m now : Meaning) (id : ℕ) (c : Cell) : Type 0 where
  is : cell_at state id ≡ Some c
  same : now id ≡ m id

module _ (types : WorldTypes) (state child : AbstractState) (machine : MachineState) (m : Meaning) (id : ℕ) (cell : Cell)
    (value : Value) (good : IsWellFormed state) (h : Fits types state machine m)
    (none : is_reference cell ≡ false) (d : Describes types machine.heap m cell value) (free : cell_at state id ≡ None)
    (g : IsWithCell state id cell child) where
  abbrev now : Meaning
  now = with_values ((id, value) ∷ []) m

  abbrev all : ℕ → Option Cell
  all = with_cells ((id, cell) ∷ []) state

  agrees : Agrees state m now
  agrees = kept_others state m (id ∷ []) (value ∷ [])
      (All-cons (λ i. cell_at state i ≡ None) id [] free (All-nil (λ i. cell_at state i ≡ None)))

  cells_now : (i : ℕ) (c : Cell) → all i ≡ Some c → Describes types machine.heap now c (now i)
  cells_now i c e = elim (replaced_cases state id cell i c e) [
    | inl s ↦
        subst (λ (x : Cell). Describes types machine.heap now x (now i)) (sym s.1)
        (describes_carried types machine.heap machine.heap m now cell value (now i) (λ r object k. k)
        (valued_here (id, value) [] m i (sym s.0))
        (λ n x f. absurd (none-some x (ap (λ (xs : List ℕ). slice_get xs n) (sym (names_none cell none)) ∙ f))) d)
    | inr s ↦ cell_carried types state machine.heap machine.heap m now good agrees (λ r object k. k) i c s.1 (h.cells i c s.1)
  ]

  was : (i : ℕ) (c : Cell) → all i ≡ Some c → is_reference c ≡ true → IsOld state m now i c
  was i c e r = elim (replaced_cases state id cell i c e) [
    | inl s ↦ absurd (false≢true (sym none ∙ ap is_reference (sym s.1) ∙ r))
    | inr s ↦ record { is = s.1; same = agrees i (record { cell = c; is = s.1; sort_is = refl }) }
  ]

  named : (i o : ℕ) (c : Cell) (e : all i ≡ Some c) → target (now i) ≡ Some o → IsOld state m now i c
  named i o c e t = was i c e (names_reference types machine now c (now i) o (cells_now i c e) t)

  fits_now : FitsBy types state.frames state.throwing all (AreEqual state) (Share state) machine now
  fits_now = record {
    positions = positions_carried state m now (with_statics machine.statics machine.frames) good agrees h.positions;
    mode = mode_carried state m now machine.mode good agrees h.mode;
    cells = cells_now;
    aliases = λ a b o c k e f n ta tb.
        let p = named a o c e ta in
        let q = named b o k f tb in
        inl (h.aliases a b o (record { cell = c; is = p.is; sort_is = refl }) (record { cell = k; is = q.is; sort_is = refl }) n
        (ap target (sym p.same) ∙ ta) (ap target (sym q.same) ∙ tb));
    apart = λ a b o c k e f s t n ta tb.
        let p = named a o c e ta in
        let q = named b o k f tb in
        known_apart types state machine m good h a b o (record { cell = c; is = p.is; sort_is = s })
        (record { cell = k; is = q.is; sort_is = t }) n (ap target (sym p.same) ∙ ta) (ap target (sym q.same) ∙ tb);
    meeting = λ a b o c k e f s t n ra rb.
        let p = was a c e (hazy_reference c s) in
        let q = was b k f (hazy_reference k t) in
        inl (h.meeting a b o (record { cell = c; is = p.is; sort_is = s }) (record { cell = k; is = q.is; sort_is = t }) n
        (subst (λ (v : Value). Region machine.heap v o) p.same ra) (subst (λ (v : Value). Region machine.heap v o) q.same rb));
    inside = λ a b o c k e f s t ta rb.
        let p = was a c e (known_reference c s) in
        let q = was b k f (hazy_reference k t) in
        inl (h.inside a b o (record { cell = c; is = p.is; sort_is = s }) (record { cell = k; is = q.is; sort_is = t })
        (ap target (sym p.same) ∙ ta) (subst (λ (v : Value). Region machine.heap v o) q.same rb));
    shapes = λ i c s e f.
        let p = was i c e (shaped_reference c s f) in
        subst (λ (v : Value). HasShape s machine.heap v) (sym p.same) (h.shapes i c s p.is f);
  }

  value_goes : GoesWith types state machine m child machine id value
  value_goes = record {
    meaning_after = now;
    fits = fits_given types state.frames state.throwing all (AreEqual state) (Share state) machine now fits_now child g;
    value_is = valued_here (id, value) [] m id refl;
    others = agrees;
    edge = record {
      ints = λ i k l. agrees i (some_cell state i k);
      rows = All-nil (HoldsBetween m now);
      sizes = λ i k s. same_size machine.heap (m i) (now i) (agrees i (some_cell state i k));
    };
  }

pub values_go_on : ValuesGoOn
values_go_on types state child machine m id cell value good h none d free g = value_goes types state child machine m id cell value
    good h none d free g
