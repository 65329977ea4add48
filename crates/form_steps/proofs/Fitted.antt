-- A child that is given by its cells and by the pairs that are wanted fits where those hold.
use Rattle.std.proofs.Common.{◌≡◌, ◌≢◌, ℕ, ◌&&◌, Bool, true, false, not, List, Option, Some, ◌⊎◌, refl, sym, ap, subst, ◌∙◌}
use Rattle.std.specs.List.{AllZip}
use Rattle.std.proofs.lemmas.Bool.{false≢true, and_from}
use Rattle.std.proofs.lemmas.Option.{none-some}
use Rattle.abs_cells.proofs.CellLaws.{hazy_not_known}
use Rattle.jvm_values.specs.declared.heap.Value.{Value}
use Rattle.jvm_values.specs.declared.shape.Shape.{Shape}
use Rattle.jvm_values.specs.States.{MachineState}
use Rattle.jvm_values.specs.Heaps.{target, Region, HasShape}
use Rattle.jvm_values.specs.TypedHeaps.{WorldTypes}
use Rattle.jvm_values.proofs.Options.{some_is}
use Rattle.abs_cells.specs.declared.cells.Cell.{Cell}
use Rattle.abs_cells.specs.declared.cells.Cell.TheVariants as cells
use Rattle.abs_cells.specs.AbstractStates.{AbstractFrame, AbstractState}
use Rattle.abs_cells.specs.Cells.{is_known, is_hazy, is_reference, is_of_sort, shape_of, cell_in, HasCell}
use Rattle.abs_cells.specs.Sound.{may_join}
use Rattle.abs_cells.specs.Fits.{Meaning, FitsFrame, FitsMode, with_statics, Describes, Fits}
use Rattle.abs_heap.specs.Given.{IsGiven}

-- what a child must be for the machine's state
pub record FitsBy (types : WorldTypes) (frames : List AbstractFrame) (throwing : Option ℕ) (cell : ℕ → Option Cell)
    (equal sharing : ℕ → ℕ → Type 0) (machine : MachineState) (m : Meaning) : Type 0 where
  pub positions : AllZip (FitsFrame m) frames (with_statics machine.statics machine.frames)
  pub mode : FitsMode m throwing machine.mode
  pub cells : (id : ℕ) (c : Cell) → cell id ≡ Some c → Describes types machine.heap m c (m id)
  pub aliases : (a b o : ℕ) (c d : Cell) → cell a ≡ Some c → cell b ≡ Some d → a ≢ b → target (m a) ≡ Some o → target (m b) ≡ Some o
      → equal a b ⊎ equal b a
  pub apart : (a b o : ℕ) (c d : Cell) → cell a ≡ Some c → cell b ≡ Some d → is_known c ≡ true → is_known d ≡ true → a ≢ b
      → target (m a) ≡ Some o → target (m b) ≡ Some o → ⊥
  pub meeting : (a b o : ℕ) (c d : Cell) → cell a ≡ Some c → cell b ≡ Some d → is_hazy c ≡ true → is_hazy d ≡ true → a ≢ b
      → Region machine.heap (m a) o → Region machine.heap (m b) o → sharing a b ⊎ sharing b a
  pub inside : (k b o : ℕ) (c d : Cell) → cell k ≡ Some c → cell b ≡ Some d → is_known c ≡ true → is_hazy d ≡ true
      → target (m k) ≡ Some o → Region machine.heap (m b) o → sharing k b ⊎ sharing b k
  pub shapes : (id : ℕ) (c : Cell) (shape : Shape) → cell id ≡ Some c → shape_of c ≡ Some shape → HasShape shape machine.heap (m id)

-- a cell that describes a value which names an object is that of a reference
pub names_reference : (types : WorldTypes) (machine : MachineState) (m : Meaning) (c : Cell) (value : Value) (o : ℕ)
    → Describes types machine.heap m c value → target value ≡ Some o → is_reference c ≡ true
names_reference types machine m (cells.Int interval) value o (n, (e, k)) t = absurd (none-some o (ap target (sym e) ∙ t))
names_reference types machine m cells.Null value o e t = absurd (none-some o (ap target (sym e) ∙ t))
names_reference types machine m (cells.Obj class ids) value o d t = refl
names_reference types machine m (cells.Nums kind len) value o d t = refl
names_reference types machine m (cells.Refs element len shape) value o d t = refl
names_reference types machine m (cells.Unk bound nullable shape) value o d t = refl

pub hazy_reference : (c : Cell) → is_hazy c ≡ true → is_reference c ≡ true
hazy_reference (cells.Int interval) h = h
hazy_reference cells.Null h = h
hazy_reference (cells.Obj class ids) h = refl
hazy_reference (cells.Nums kind len) h = refl
hazy_reference (cells.Refs element len shape) h = refl
hazy_reference (cells.Unk bound nullable shape) h = refl

pub known_reference : (c : Cell) → is_known c ≡ true → is_reference c ≡ true
known_reference (cells.Int interval) h = absurd (false≢true h)
known_reference cells.Null h = absurd (false≢true h)
known_reference (cells.Obj class ids) h = refl
known_reference (cells.Nums kind len) h = refl
known_reference (cells.Refs element len shape) h = refl
known_reference (cells.Unk bound nullable shape) h = refl

not_both : (k l : Bool) → (k ≡ true → l ≡ true → ⊥) → not (k && l) ≡ true
not_both true true h = absurd (h refl refl)
not_both true false h = refl
not_both false l h = refl

pub may_be_pair : (list : List (ℕ × Cell)) (a b : ℕ) (c d : Cell) → cell_in list a ≡ Some c → cell_in list b ≡ Some d
    → is_reference c ≡ true → is_reference d ≡ true → (is_known c ≡ true → is_known d ≡ true → ⊥) → may_join list a b ≡ true
may_be_pair list a b c d e f r s n =
    let at_a : (test : Cell → Bool) → is_of_sort test (cell_in list a) ≡ test c = λ test. ap (is_of_sort test) e in
    let at_b : (test : Cell → Bool) → is_of_sort test (cell_in list b) ≡ test d = λ test. ap (is_of_sort test) f in
    and_from _ _ (and_from _ _ (at_a is_reference ∙ r) (at_b is_reference ∙ s))
    (not_both _ _ (λ k l. n (sym (at_a is_known) ∙ k) (sym (at_b is_known) ∙ l)))

module _ (types : WorldTypes) (frames : List AbstractFrame) (throwing : Option ℕ) (cell : ℕ → Option Cell)
    (equal sharing : ℕ → ℕ → Type 0) (machine : MachineState) (m : Meaning)
    (f : FitsBy types frames throwing cell equal sharing machine m) (child : AbstractState)
    (g : IsGiven frames throwing cell equal sharing child) where
  there : {sort : Cell → Bool} (id : ℕ) (h : HasCell sort child id) → cell id ≡ Some h.cell
  there id h = sym (g.cells id) ∙ h.is

  pub fits_given : Fits types child machine m
  fits_given = record {
    positions = subst (λ (fs : List AbstractFrame). AllZip (FitsFrame m) fs (with_statics machine.statics machine.frames))
        (sym g.frames_are) f.positions;
    mode = subst (λ (t : Option ℕ). FitsMode m t machine.mode) (sym g.throwing_is) f.mode;
    cells = λ id c e. f.cells id c (sym (g.cells id) ∙ e);
    aliases = λ a b o ca cb n ta tb. (g.eq a b).1 (
      n,
      (
        may_be_pair child.cells a b ca.cell cb.cell ca.is cb.is
            (names_reference types machine m ca.cell (m a) o (f.cells a ca.cell (there a ca)) ta)
            (names_reference types machine m cb.cell (m b) o (f.cells b cb.cell (there b cb)) tb)
            (λ k l. f.apart a b o ca.cell cb.cell (there a ca) (there b cb) k l n ta tb),
        f.aliases a b o ca.cell cb.cell (there a ca) (there b cb) n ta tb,
      ),
    );
    meeting = λ a b o ca cb n ra rb. (g.share a b).1 (
      n,
      (
        may_be_pair child.cells a b ca.cell cb.cell ca.is cb.is (hazy_reference ca.cell ca.sort_is)
            (hazy_reference cb.cell cb.sort_is) (λ k l. false≢true (sym (hazy_not_known ca.cell ca.sort_is) ∙ k)),
        f.meeting a b o ca.cell cb.cell (there a ca) (there b cb) ca.sort_is cb.sort_is n ra rb,
      ),
    );
    inside = λ k b o ck cb t rb. (g.share k b).1 (
      λ e. differ ck cb e,
      (
        may_be_pair child.cells k b ck.cell cb.cell ck.is cb.is (known_reference ck.cell ck.sort_is)
            (hazy_reference cb.cell cb.sort_is) (λ n l. false≢true (sym (hazy_not_known cb.cell cb.sort_is) ∙ l)),
        f.inside k b o ck.cell cb.cell (there k ck) (there b cb) ck.sort_is cb.sort_is t rb,
      ),
    );
    shapes = λ id c shape e h. f.shapes id c shape (sym (g.cells id) ∙ e) h;
  }
    where
      differ : {k b : ℕ} → HasCell is_known child k → HasCell is_hazy child b → k ≡ b → ⊥
      differ {k} {b} ck cb e =
          let same : ck.cell ≡ cb.cell = some_is (sym ck.is ∙ ap (λ (i : ℕ). cell_in child.cells i) e ∙ cb.is) in
          false≢true (sym (hazy_not_known cb.cell cb.sort_is) ∙ ap is_known (sym same) ∙ ck.sort_is)
