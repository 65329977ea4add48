-- A state with other cells of the same sorts and shapes that describe the same values, over a heap that keeps what values reach.
use Rattle.std.proofs.Common.{◌≡◌, ℕ, Bool, true, List, Option, Some, None, ◌⊎◌, inl, inr, refl, sym, ap, subst, ◌∙◌}
use Rattle.std.specs.List.{AllZip}
use Rattle.std.proofs.lemmas.List.Elements.{All-nil}
use Rattle.jvm_values.specs.declared.heap.Value.{Value}
use Rattle.jvm_values.specs.declared.heap.Heap.{Heap}
use Rattle.jvm_values.specs.declared.shape.Shape.{Shape}
use Rattle.jvm_values.specs.Writes.{IsKept}
use Rattle.jvm_values.specs.States.{MachineState}
use Rattle.jvm_values.specs.TypedHeaps.{WorldTypes}
use Rattle.abs_cells.specs.declared.cells.Cell.{Cell}
use Rattle.abs_cells.specs.AbstractStates.{AbstractFrame, AbstractState}
use Rattle.abs_cells.specs.Cells.{is_known, is_hazy, shape_of, cell_at, HasCell, AreEqual, Share}
use Rattle.abs_cells.specs.PairLists.{has}
use Rattle.abs_cells.specs.Sound.{IsWellFormed}
use Rattle.abs_cells.specs.Fits.{Meaning, FitsFrame, FitsMode, with_statics, Describes, Fits}
use Rattle.abs_cells.proofs.Fitting.{known_apart}
use Rattle.abs_cells.proofs.PairLaws.{has_swapped}
use Rattle.term_graph.specs.Edges.{Edge, HoldsBetween}
use Rattle.abs_heap.specs.Laws.{plain_link, HasOtherCells}
use Rattle.abs_heap.proofs.Fitted.{FitsBy}
use Rattle.abs_heap.proofs.SameTerms.{size_kept}

-- a cell is of no other sort than the one that an id has, and tells no other shape
pub record IsCarriedCell (state : AbstractState) (id : ℕ) (c : Cell) : Type 0 where
  pub old : Cell
  pub old_is : cell_at state id ≡ Some old
  pub known : is_known c ≡ true → is_known old ≡ true
  pub hazy : is_hazy c ≡ true → is_hazy old ≡ true
  pub shaped : (s : Shape) → shape_of c ≡ Some s → shape_of old ≡ Some s

-- the cell that an id has is such
pub own_cell : (state : AbstractState) (id : ℕ) (c : Cell) → cell_at state id ≡ Some c → IsCarriedCell state id c
own_cell state id c e = record { old = c; old_is = e; known = λ k. k; hazy = λ k. k; shaped = λ s k. k }

-- every value is kept in its own heap
pub same_kept : (heap : Heap) (x : Value) → IsKept heap heap x
same_kept heap x = record {
  region = λ b. (λ r. r, λ r. r);
  paths = λ a t path. refl;
  shape = λ s. (λ h. h, λ h. h);
  term = λ t.
      (λ h. h, λ h. h);
}

module _ (types : WorldTypes) (state : AbstractState) (before : MachineState) (m : Meaning) (good : IsWellFormed state)
    (h : Fits types state before m)
    (frames : List AbstractFrame) (throwing : Option ℕ) (cell : ℕ → Option Cell) (machine : MachineState)
    (kept : (x : Value) → IsKept before.heap machine.heap x)
    (positions : AllZip (FitsFrame m) frames (with_statics machine.statics machine.frames))
    (mode : FitsMode m throwing machine.mode)
    (carried : (id : ℕ) (c : Cell) → cell id ≡ Some c → IsCarriedCell state id c)
    (described : (id : ℕ) (c : Cell) → cell id ≡ Some c → Describes types machine.heap m c (m id)) where
  any_there : (id : ℕ) (c : Cell) → cell id ≡ Some c → HasCell (λ _. true) state id
  any_there id c e = let k = carried id c e in record { cell = k.old; is = k.old_is; sort_is = refl }

  known_there : (id : ℕ) (c : Cell) → cell id ≡ Some c → is_known c ≡ true → HasCell is_known state id
  known_there id c e s = let k = carried id c e in record { cell = k.old; is = k.old_is; sort_is = k.known s }

  hazy_there : (id : ℕ) (c : Cell) → cell id ≡ Some c → is_hazy c ≡ true → HasCell is_hazy state id
  hazy_there id c e s = let k = carried id c e in record { cell = k.old; is = k.old_is; sort_is = k.hazy s }

  pub fits_carried : FitsBy types frames throwing cell (AreEqual state) (Share state) machine m
  fits_carried = record {
    positions = positions;
    mode = mode;
    cells = described;
    aliases = λ a b o c d e f n ta tb. inl (h.aliases a b o (any_there a c e) (any_there b d f) n ta tb);
    apart = λ a b o c d e f k l n ta tb. known_apart types state before m good h a b o (known_there a c e k) (known_there b d f l) n ta tb;
    meeting = λ a b o c d e f k l n ra rb. inl
        (h.meeting a b o (hazy_there a c e k) (hazy_there b d f l) n (((kept (m a)).region o).0 ra) (((kept (m b)).region o).0 rb));
    inside = λ k b o c d e f p q t rb. inl (h.inside k b o (known_there k c e p) (hazy_there b d f q) t (((kept (m b)).region o).0 rb));
    shapes = λ id c s e f. let k = carried id c e in ((kept (m id)).shape s).1 (h.shapes id k.old s k.old_is (k.shaped s f));
  }

-- a state that differs from another one in its cells alone fits where those hold
pub fits_other : (types : WorldTypes) (state child : AbstractState) (cell : ℕ → Option Cell) (machine : MachineState) (m : Meaning)
    → FitsBy types state.frames state.throwing cell (AreEqual state) (Share state) machine m → HasOtherCells state cell child
    → Fits types child machine m
fits_other types state child cell machine m f g = record {
  positions = subst (λ (fs : List AbstractFrame). AllZip (FitsFrame m) fs (with_statics machine.statics machine.frames))
      (sym g.frames_are) f.positions;
  mode = subst (λ (t : Option ℕ). FitsMode m t machine.mode) (sym g.throwing_is) f.mode;
  cells = λ id c e. f.cells id c (sym (g.cells id) ∙ e);
  aliases = λ a b o ca cb n ta tb. in_child state.eq child.eq g.eq_is a b
      (f.aliases a b o ca.cell cb.cell (there a ca) (there b cb) n ta tb);
  meeting = λ a b o ca cb n ra rb. in_child state.share child.share g.share_is a b
      (f.meeting a b o ca.cell cb.cell (there a ca) (there b cb) ca.sort_is cb.sort_is n ra rb);
  inside = λ k b o ck cb t rb. in_child state.share child.share g.share_is k b
      (f.inside k b o ck.cell cb.cell (there k ck) (there b cb) ck.sort_is cb.sort_is t rb);
  shapes = λ id c s e k. f.shapes id c s (sym (g.cells id) ∙ e) k;
}
  where
    there : {sort : Cell → Bool} (id : ℕ) (c : HasCell sort child id) → cell id ≡ Some c.cell
    there id c = sym (g.cells id) ∙ c.is

    in_child : (old new : List (ℕ × ℕ)) → new ≡ old → (a b : ℕ) → (has a b old ≡ true) ⊎ (has b a old ≡ true) → has a b new ≡ true
    in_child old new e a b (inl k) = ap (has a b) e ∙ k
    in_child old new e a b (inr k) = ap (has a b) e ∙ sym (has_swapped a b old) ∙ k

-- an edge where ids keep their values, over a heap that keeps what values reach
pub kept_edge : (state : AbstractState) (before : MachineState) (m : Meaning) (step : Bool) (child : AbstractState)
    (machine : MachineState) → ((x : Value) → IsKept before.heap machine.heap x)
    → Edge state before m (plain_link step None) child machine m
kept_edge state before m step child machine kept = record {
  ints = λ id h k. refl;
  rows = All-nil (HoldsBetween m m);
  sizes = λ id h s. size_kept before.heap machine.heap (m id) (m id) refl (λ t is. ((kept (m id)).term t).0 is);
}

pub same_edge : (state : AbstractState) (machine : MachineState) (m : Meaning) (step : Bool) (child : AbstractState)
    → Edge state machine m (plain_link step None) child machine m
same_edge state machine m step child = kept_edge state machine m step child machine (same_kept machine.heap)
