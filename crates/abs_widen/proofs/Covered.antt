-- The cell of a pair covers the cells of both its ids, and tells a shape that is theirs.
use Rattle.std.proofs.Common.{◌≡◌, ℕ, suc, ℤ, ◌≤ℤ◌, Bool, true, false, ◌||◌, List, [], ◌∷◌, ◌++◌, map, zip, length, Option, Some}
use Rattle.std.proofs.Common.{None, refl, sym, ap, subst, ◌∙◌, inl, inr, arith}
use Rattle.std.specs.Prelude.{slice_get, if◌then◌else◌}
use Rattle.std.specs.List.{list_any}
use Rattle.std.specs.Option.{option_map, option_map_or}
use Rattle.std.proofs.lemmas.Option.{slice_get-map, none-some}
use Rattle.std.proofs.lemmas.Bool.{or_left, or_right, and_parts, false≢true}
use Rattle.std.proofs.lemmas.List.{append-nil, append_cancel_left}
use Rattle.jvm_values.proofs.Options.{some_is}
use Rattle.jvm_values.proofs.PathLaws.{joined}
use Rattle.jvm_values.specs.declared.types.Ty.{Ty}
use Rattle.jvm_values.specs.declared.types.Kind.{Kind}
use Rattle.jvm_values.specs.declared.types.Kind.TheVariants as kinds
use Rattle.jvm_values.specs.declared.shape.Shape.{Shape}
use Rattle.jvm_values.specs.declared.shape.Shape.TheVariants.{Tree, Dag, Any}
use Rattle.jvm_values.specs.Kinds.{kind_code, kind_of_code}
use Rattle.jvm_values.specs.TypedHeaps.{WorldTypes}
use Rattle.lin_core.specs.declared.intervals.Interval.{Interval}
use Rattle.abs_cells.specs.declared.cells.Cell.{Cell}
use Rattle.abs_cells.specs.declared.cells.Cell.TheVariants.{Int, Null, Obj, Nums, Refs, Unk}
use Rattle.abs_cells.specs.AbstractStates.{AbstractState}
use Rattle.abs_cells.specs.Cells.{is_int, ids_in, type_of_cell, shape_of, cell_at, can_be_null, is_null}
use Rattle.abs_cells.specs.Closures.{counted_steps, IsFiniteId, IsTreeId}
use Rattle.abs_cells.specs.Sound.{IsSoundCell}
use Rattle.abs_reach.specs.Instances.{image_in, IsNullOrBelow, IsOver, HasIdShape}
use Rattle.abs_widen.specs.Rows.{Row, ints, nulls, instances, numbers, arrays, unlike, interval_in, fields_in, length_in, array_in}
use Rattle.abs_widen.specs.Rows.{row_of, pairs_of, worse, IsShapeOf, IsWorseShape}
use Rattle.abs_widen.specs.Visits.{is_among, row_of_cells}
use Rattle.abs_widen.specs.inner.Visiting.{AreCellsOf}
use Rattle.abs_widen.specs.Widening.{number_of, IsTypeOver, IsHazed, IsWidenedInt, IsMergedArray, IsRowCell, IsCellUnless}
use Rattle.abs_widen.specs.Widening.{IsMergedCell, is_known_row, is_known_pair, clashes_with, clashes}
use Rattle.abs_widen.proofs.Alike.{length_cell, array_cell}
use Rattle.abs_widen.proofs.Closed.{number_at, among_at}
use Rattle.abs_widen.proofs.Ends.{lo_first, lo_second, hi_first, hi_second}
use Rattle.abs_widen.proofs.Sides.{field_cell, fields_long}

-- ---- kinds

kind_back : (k : Kind) → kind_of_code (kind_code k) ≡ Some k
kind_back kinds.Boolean = refl
kind_back kinds.Char = refl
kind_back kinds.Byte = refl
kind_back kinds.Short = refl
kind_back kinds.Int = refl

pub same_kind : (k l : Kind) → kind_code k ≡ kind_code l → k ≡ l
same_kind k l e = some_is (sym (kind_back k) ∙ ap kind_of_code e ∙ kind_back l)

-- ---- shapes

-- what is a tree has no cycle
pub tree_is_finite : (state : AbstractState) (x : ℕ) → IsTreeId state x → IsFiniteId state x
tree_is_finite state x h = record {
  acyclic = λ p c e q f. sym
      (append_cancel_left p [] q (append-nil p ∙ h.one_path p (p ++ q) c e (joined (counted_steps state) p q x c c e f)));
  hazy = λ q cell r e s. any_is_no_tree (h.hazy q cell Any r e s);
}
  where
    any_is_no_tree : Any ≡ Tree → ⊥
    any_is_no_tree e = cc

first_shape : (state : AbstractState) (x : ℕ) (s t : Shape) → IsShapeOf state x s → HasIdShape (worse s t) state x
first_shape state x Tree Tree h = h
first_shape state x Tree Dag h = tree_is_finite state x h
first_shape state x Tree Any h = tt
first_shape state x Dag Tree h = h.1
first_shape state x Dag Dag h = h.1
first_shape state x Dag Any h = tt
first_shape state x Any t h = tt

second_shape : (state : AbstractState) (x : ℕ) (s t : Shape) → IsShapeOf state x t → HasIdShape (worse s t) state x
second_shape state x Tree Tree h = h
second_shape state x Tree Dag h = h.1
second_shape state x Tree Any h = tt
second_shape state x Dag Tree h = tree_is_finite state x h
second_shape state x Dag Dag h = h.1
second_shape state x Dag Any h = tt
second_shape state x Any t h = tt

-- ---- rows

-- what holds of unlike cells, and of each row that may be, holds of the row
pub row_cases : {X : Type 0} (P : Row → Type 0) (f : X → Row) (o : Option X) → ((x : X) → o ≡ Some x → P (f x)) → P unlike
    → P (option_map_or f o unlike)
row_cases P f None h k = k
row_cases P f (Some x) h k = h x refl

pub null_cases : (P : Row → Type 0) (q : Cell) → (q ≡ Null → P nulls) → P unlike → P (if is_null q then nulls else unlike)
null_cases P (Int i) h k = k
null_cases P Null h k = h refl
null_cases P (Obj class ids) h k = k
null_cases P (Nums kind len) h k = k
null_cases P (Refs element len shape) h k = k
null_cases P (Unk bound nullable shape) h k = k

-- an int has an interval
pub int_cases : (P : Row → Type 0) (f : Interval → Row) (q : Cell) → is_int q ≡ true → ((j : Interval) → q ≡ Int j → P (f j))
    → P (option_map_or f (interval_in q) unlike)
int_cases P f (Int i) e h = h i refl
int_cases P f Null e h = absurd (false≢true e)
int_cases P f (Obj class ids) e h = absurd (false≢true e)
int_cases P f (Nums kind len) e h = absurd (false≢true e)
int_cases P f (Refs element len shape) e h = absurd (false≢true e)
int_cases P f (Unk bound nullable shape) e h = absurd (false≢true e)

-- ---- cells

-- the ids of a pair's cell have images
abbrev pub HaveImages : List (ℕ × ℕ) → List (ℕ × ℕ) → (ℕ × ℕ → ℕ) → List (ℕ × ℕ) → Type 0
HaveImages pairs entries pick some = (i : ℕ) (p : ℕ × ℕ) → slice_get some i ≡ Some p → image_in entries (number_of pairs p) ≡ Some (pick p)

images_are : (pairs entries : List (ℕ × ℕ)) (pick : ℕ × ℕ → ℕ) (some : List (ℕ × ℕ)) → HaveImages pairs entries pick some
    → map (image_in entries) (map (number_of pairs) some) ≡ map (λ p. Some (pick p)) some
images_are pairs entries pick [] h = refl
images_are pairs entries pick (p ∷ some) h =
    ap (λ (o : Option ℕ). o ∷ map (image_in entries) (map (number_of pairs) some)) (h 0 p refl)
    ∙ ap (λ (rest : List (Option ℕ)). Some (pick p) ∷ rest) (images_are pairs entries pick some (λ i q e. h (suc i) q e))

firsts : (xs ys : List ℕ) → length xs ≡ length ys → map (λ (p : ℕ × ℕ). Some p.0) (zip xs ys) ≡ map Some xs
firsts [] ys e = refl
firsts (x ∷ xs) [] e = absurd (omega (arith, e))
firsts (x ∷ xs) (y ∷ ys) e = ap (λ (rest : List (Option ℕ)). Some x ∷ rest) (firsts xs ys (omega (arith, e)))

seconds : (xs ys : List ℕ) → length xs ≡ length ys → map (λ (p : ℕ × ℕ). Some p.1) (zip xs ys) ≡ map Some ys
seconds [] [] e = refl
seconds [] (y ∷ ys) e = absurd (omega (arith, e))
seconds (x ∷ xs) [] e = absurd (omega (arith, e))
seconds (x ∷ xs) (y ∷ ys) e = ap (λ (rest : List (Option ℕ)). Some y ∷ rest) (seconds xs ys (omega (arith, e)))

-- a reference that tells no type is null
null_of : (p : Cell) → is_int p ≡ false → type_of_cell p ≡ None → p ≡ Null
null_of (Int i) e f = absurd (false≢true (sym e))
null_of Null e f = refl
null_of (Obj class ids) e f = absurd (none-some _ (sym f))
null_of (Nums kind len) e f = absurd (none-some _ (sym f))
null_of (Refs element len shape) e f = absurd (none-some _ (sym f))
null_of (Unk bound nullable shape) e f = absurd (none-some _ (sym f))

module _ (types : WorldTypes) (a b : AbstractState) (pairs : List (ℕ × ℕ)) (pair : ℕ × ℕ) (p q : Cell)
    (of : AreCellsOf types a b pair p q) where
  -- the cells of two references of which type and shape are known
  first_below : (o r : Option Ty) (bound : Ty) → type_of_cell p ≡ o → type_of_cell q ≡ r → is_int p ≡ false
      → IsTypeOver types o r bound → IsNullOrBelow types.sub bound p
  first_below None r bound e f apart h = inl (null_of p apart e)
  first_below (Some s) None bound e f apart h = inr (s, (e, h.above.left))
  first_below (Some s) (Some t) bound e f apart h = inr (s, (e, h.above.left))

  second_below : (o r : Option Ty) (bound : Ty) → type_of_cell p ≡ o → type_of_cell q ≡ r → is_int q ≡ false
      → IsTypeOver types o r bound → IsNullOrBelow types.sub bound q
  second_below o None bound e f apart h = inl (null_of q apart f)
  second_below None (Some t) bound e f apart h = inr (t, (f, h.above.left))
  second_below (Some s) (Some t) bound e f apart h = inr (t, (f, h.above.right))

  module _ (cell : Cell) where
    first_hazed : (entries : List (ℕ × ℕ)) → is_int p ≡ false → IsHazed types a b pair p q cell → IsOver types.sub entries cell p
    first_hazed entries apart h =
        subst (λ (c : Cell). IsOver types.sub entries c p) (sym h.is)
        ((λ e. or_left (can_be_null p) (can_be_null q) e), first_below (type_of_cell p) (type_of_cell q) h.bound refl refl apart h.type_is)

    second_hazed : (entries : List (ℕ × ℕ)) → is_int q ≡ false → IsHazed types a b pair p q cell → IsOver types.sub entries cell q
    second_hazed entries apart h =
        subst (λ (c : Cell). IsOver types.sub entries c q) (sym h.is) (
          (λ e. or_right (can_be_null p) (can_be_null q) e),
          second_below (type_of_cell p) (type_of_cell q) h.bound refl refl apart
              h.type_is,
        )

    -- the shape that a cell tells
    shape_told : (made : Cell) (o : Option Shape) (shape : Shape) → cell ≡ made → shape_of made ≡ o → shape_of cell ≡ Some shape
        → o ≡ Some shape
    shape_told made o shape e f g = sym f ∙ ap shape_of (sym e) ∙ g

    worse_told : (made_shape shape : Shape) → Some made_shape ≡ Some shape → IsWorseShape a b pair made_shape → IsWorseShape a b pair shape
    worse_told made_shape shape e h = subst (IsWorseShape a b pair) (some_is e) h

    row_shape : (row : Row) (shape : Shape) → IsRowCell types a b pairs pair p q row cell → shape_of cell ≡ Some shape
        → IsWorseShape a b pair shape
    row_shape (ints i j) shape h e = absurd (none-some shape (shape_told (Int h.interval) None shape h.is refl e))
    row_shape nulls shape h e = absurd (none-some shape (shape_told Null None shape h refl e))
    row_shape (instances class ids more) shape h e = absurd
        (none-some shape (shape_told (Obj class (map (number_of pairs) (zip ids more))) None shape h refl e))
    row_shape (numbers kind len more) shape h e = absurd
        (none-some shape (shape_told (Nums kind (number_of pairs (len, more))) None shape h refl e))
    row_shape (arrays element other len more) shape h e = worse_told h.shape shape
        (shape_told (Refs h.join (number_of pairs (len, more)) h.shape) (Some h.shape) shape h.is refl e) h.shape_is
    row_shape unlike shape h e = worse_told h.shape shape
        (shape_told (Unk h.bound (can_be_null p || can_be_null q) h.shape) (Some h.shape) shape h.is refl e) h.shape_is

    unless_shape : (t : Bool) (row : Row) (shape : Shape) → IsCellUnless t types a b pairs pair p q row cell
        → shape_of cell ≡ Some shape → IsWorseShape a b pair shape
    unless_shape true row shape h e = worse_told h.shape shape
        (shape_told (Unk h.bound (can_be_null p || can_be_null q) h.shape) (Some h.shape) shape h.is refl e) h.shape_is
    unless_shape false row shape h e = row_shape row shape h e

-- two ints
module _ (types : WorldTypes) (a b : AbstractState) (pairs entries : List (ℕ × ℕ)) (pair : ℕ × ℕ) (i j : Interval) (cell : Cell)
    (first : IsSoundCell types a (Int i)) (second : IsSoundCell types b (Int j)) (h : IsWidenedInt i j cell) where
  first_int : IsOver types.sub entries cell (Int i)
  first_int =
      subst (λ (c : Cell). IsOver types.sub entries c (Int i)) (sym h.is) (
        i,
        (
          refl,
          (
            subst (λ (n : ℤ). n ≤ℤ i.lo) (sym h.lo) (lo_first i.lo j.lo second.0.0),
            subst (λ (n : ℤ). i.hi ≤ℤ n) (sym h.hi)
                (hi_first i.hi j.hi second.1.1),
          ),
        ),
      )

  second_int : IsOver types.sub entries cell (Int j)
  second_int =
      subst (λ (c : Cell). IsOver types.sub entries c (Int j)) (sym h.is) (
        j,
        (
          refl,
          (
            subst (λ (n : ℤ). n ≤ℤ j.lo) (sym h.lo) (lo_second i.lo j.lo second.0.0),
            subst (λ (n : ℤ). j.hi ≤ℤ n) (sym h.hi)
                (hi_second i.hi j.hi second.1.1),
          ),
        ),
      )

-- ---- how a pair's cell is made

-- some pairs are all among others
abbrev pub AreAllAmong : List (ℕ × ℕ) → List (ℕ × ℕ) → Type 0
AreAllAmong pairs some = (r : ℕ × ℕ) → is_among r some ≡ true → is_among r pairs ≡ true

pub data MadeAs (types : WorldTypes) (a b : AbstractState) (pairs : List (ℕ × ℕ)) (pair : ℕ × ℕ) (p q cell : Cell) : Type 0 where
  hazed : is_int p ≡ false → is_int q ≡ false → IsHazed types a b pair p q cell → MadeAs types a b pairs pair p q cell
  both_ints : (i j : Interval) → p ≡ Int i → q ≡ Int j → IsWidenedInt i j cell → MadeAs types a b pairs pair p q cell
  both_null : p ≡ Null → q ≡ Null → cell ≡ Null → MadeAs types a b pairs pair p q cell
  both_instances : (class : ℕ) (ids more : List ℕ) → p ≡ Obj class ids → q ≡ Obj class more → length ids ≡ length more
      → AreAllAmong pairs (zip ids more) → cell ≡ Obj class (map (number_of pairs) (zip ids more)) → MadeAs types a b pairs pair p q cell
  both_numbers : (kind : Kind) (len more : ℕ) → p ≡ Nums kind len → q ≡ Nums kind more → AreAllAmong pairs ((len, more) ∷ [])
      → cell ≡ Nums kind (number_of pairs (len, more)) → MadeAs types a b pairs pair p q cell
  both_arrays : (element other : Ty) (len more : ℕ) (s t : Shape) → p ≡ Refs element len s → q ≡ Refs other more t
      → AreAllAmong pairs ((len, more) ∷ []) → IsMergedArray types a b pairs pair element other (len, more) cell
      → MadeAs types a b pairs pair p q cell

module _ (types : WorldTypes) (a b : AbstractState) (pairs : List (ℕ × ℕ)) (pair : ℕ × ℕ) (cell : Cell) where
  abbrev ByRow : Cell → Cell → Row → Type 0
  ByRow p q row = IsRowCell types a b pairs pair p q row cell → AreAllAmong pairs (pairs_of row) → MadeAs types a b pairs pair p q cell

  by_row : (p q : Cell) → AreCellsOf types a b pair p q → ByRow p q (row_of p q)
  by_row (Int i) q of = int_cases (ByRow (Int i) q) (λ j. ints i j) q (sym of.alike) (λ j e h among. both_ints i j refl e h)
  by_row Null q of = null_cases (ByRow Null q) q (λ e h among. both_null refl e h) (λ h among. hazed refl (sym of.alike) h)
  by_row (Obj class ids) q of =
      row_cases (ByRow (Obj class ids) q) (λ more. instances class ids more) (fields_in class q)
      (λ more e h among. both_instances class ids more refl (field_cell class q more e)
      (fields_long types a b pair (Obj class ids) q of class ids refl more e) among h)
      (λ h among. hazed refl (sym of.alike) h)
  by_row (Nums kind len) q of =
      row_cases (ByRow (Nums kind len) q) (λ more. numbers kind len more) (length_in kind q)
      (λ more e h among.
      let found = length_cell kind q more e in
      both_numbers kind len more refl (found.1.0 ∙ ap (λ (k : Kind). Nums k more) (sym (same_kind kind found.0 found.1.1))) among h)
      (λ h among. hazed refl (sym of.alike) h)
  by_row (Refs element len shape) q of =
      row_cases (ByRow (Refs element len shape) q) (λ array. arrays element array.0 len array.1) (array_in q)
      (λ array e h among. let found = array_cell q array e in both_arrays element array.0 len array.1 shape found.0 refl found.1 among h)
      (λ h among. hazed refl (sym of.alike) h)
  by_row (Unk bound nullable shape) q of = λ h among. hazed refl (sym of.alike) h

-- an int's row gives no cell that may be known, so only references become hazy
clash_no_int : (p q : Cell) → is_known_row (Some (row_of p q)) ≡ true → is_int p ≡ false
clash_no_int (Int i) q e = absurd (false≢true (sym (int_row q) ∙ e))
  where
    int_row : (r : Cell) → is_known_row (Some (row_of (Int i) r)) ≡ false
    int_row (Int j) = refl
    int_row Null = refl
    int_row (Obj class ids) = refl
    int_row (Nums kind len) = refl
    int_row (Refs element len shape) = refl
    int_row (Unk bound nullable shape) = refl
clash_no_int Null q e = refl
clash_no_int (Obj class ids) q e = refl
clash_no_int (Nums kind len) q e = refl
clash_no_int (Refs element len shape) q e = refl
clash_no_int (Unk bound nullable shape) q e = refl

-- ---- the cell of a pair

module _ (types : WorldTypes) (a b : AbstractState) (pairs : List (ℕ × ℕ)) (pair : ℕ × ℕ) (cell : Cell)
    (made : IsMergedCell types a b pairs pair cell) (of : AreCellsOf types a b pair made.p made.q) where
  row_is_of : made.row ≡ row_of made.p made.q
  row_is_of =
      some_is (sym made.row_is ∙ ap (λ (o : Option Cell). row_of_cells o (cell_at b pair.1)) made.first
      ∙ ap (λ (o : Option Cell). row_of_cells (Some made.p) o) made.second)

  known_if : clashes a b pairs pair ≡ true → is_known_row (Some (row_of made.p made.q)) ≡ true
  known_if e =
      ap (λ (r : Row). is_known_row (Some r)) (sym row_is_of) ∙ ap is_known_row (sym made.row_is)
      ∙ (and_parts (is_known_pair a b pair) (list_any (clashes_with a b pair) pairs) e).0

  by_unless : (t : Bool) → clashes a b pairs pair ≡ t → IsCellUnless t types a b pairs pair made.p made.q made.row cell
      → AreAllAmong pairs (pairs_of made.row) → MadeAs types a b pairs pair made.p made.q cell
  by_unless true e h among = let apart = clash_no_int made.p made.q (known_if e) in hazed apart (sym of.alike ∙ apart) h
  by_unless false e h among =
      by_row types a b pairs pair cell made.p made.q of
      (subst (λ (row : Row). IsRowCell types a b pairs pair made.p made.q row cell) row_is_of h)
      (subst (λ (row : Row). AreAllAmong pairs (pairs_of row)) row_is_of among)

  pub made_as : AreAllAmong pairs (pairs_of made.row) → MadeAs types a b pairs pair made.p made.q cell
  made_as among = by_unless (clashes a b pairs pair) refl made.is among

  told : (shape : Shape) → shape_of cell ≡ Some shape → IsWorseShape a b pair shape
  told shape e = unless_shape types a b pairs pair made.p made.q of cell (clashes a b pairs pair) made.row shape made.is e

  pub first_shaped : (shape : Shape) → shape_of cell ≡ Some shape → HasIdShape shape a pair.0
  first_shaped shape e = let h = told shape e in subst (λ (s : Shape). HasIdShape s a pair.0) (sym h.is)
      (first_shape a pair.0 h.first h.second h.first_is)

  pub second_shaped : (shape : Shape) → shape_of cell ≡ Some shape → HasIdShape shape b pair.1
  second_shaped shape e = let h = told shape e in subst (λ (s : Shape). HasIdShape s b pair.1) (sym h.is)
      (second_shape b pair.1 h.first h.second h.second_is)

-- ---- it covers both cells

module _ (types : WorldTypes) (a b : AbstractState) (pairs entries : List (ℕ × ℕ)) (pair : ℕ × ℕ) (p q cell : Cell)
    (of : AreCellsOf types a b pair p q) where
  module _ (pick : ℕ × ℕ → ℕ) (named : (i y : ℕ) (r : ℕ × ℕ) → slice_get (ids_in cell) i ≡ Some y → slice_get pairs y ≡ Some r
      → image_in entries y ≡ Some (pick r)) where
    have_images : (c : Cell) (some : List (ℕ × ℕ)) → cell ≡ c → ids_in c ≡ map (number_of pairs) some → AreAllAmong pairs some
        → HaveImages pairs entries pick some
    have_images c some e f among i r g =
        named i (number_of pairs r) r
        (ap (λ (d : Cell). slice_get (ids_in d) i) e ∙ ap (λ (ids : List ℕ). slice_get ids i) f
        ∙ slice_get-map (number_of pairs) some i ∙ ap (option_map (number_of pairs)) g)
        (number_at pairs r (among r (among_at some i r g)))

  covers : (c d below : Cell) → cell ≡ c → below ≡ d → IsOver types.sub entries c d → IsOver types.sub entries cell below
  covers c d below e f h = subst (λ (x : Cell). IsOver types.sub entries x below) (sym e)
      (subst (λ (y : Cell). IsOver types.sub entries c y) (sym f) h)

  pub first_over : ((i y : ℕ) (r : ℕ × ℕ) → slice_get (ids_in cell) i ≡ Some y → slice_get pairs y ≡ Some r
      → image_in entries y ≡ Some r.0) → MadeAs types a b pairs pair p q cell → IsOver types.sub entries cell p
  first_over named (hazed apart no_other h) = first_hazed types a b pairs pair p q of cell entries apart h
  first_over named (both_ints i j e f h) =
      subst (λ (x : Cell). IsOver types.sub entries cell x) (sym e)
      (first_int types a b pairs entries pair i j cell (subst (IsSoundCell types a) e of.first_sound)
      (subst (IsSoundCell types b) f of.second_sound) h)
  first_over named (both_null e f h) = covers Null Null p h e refl
  first_over named (both_instances class ids more e f long among h) =
      covers (Obj class (map (number_of pairs) (zip ids more))) (Obj class ids) p h e (
        ids,
        (
          refl,
          images_are pairs entries (λ x. x.0) (zip ids more)
              (have_images (λ x. x.0) named (Obj class (map (number_of pairs) (zip ids more))) (zip ids more) h refl among)
              ∙ firsts ids more long,
        ),
      )
  first_over named (both_numbers kind len more e f among h) =
      covers (Nums kind (number_of pairs (len, more))) (Nums kind len) p h e (
        len,
        (
          refl,
          have_images (λ x. x.0) named (Nums kind (number_of pairs (len, more))) ((len, more) ∷ []) h refl among 0
              (len, more) refl,
        ),
      )
  first_over named (both_arrays element other len more s t e f among h) =
      covers (Refs h.join (number_of pairs (len, more)) h.shape) (Refs element len s) p h.is e
      (record {
        item = element;
        image = len;
        shape = s;
        is = refl;
        below = h.type_is.above.left;
        length_is = have_images (λ x. x.0) named (Refs h.join (number_of pairs (len, more)) h.shape) ((len, more) ∷ []) h.is refl
            among 0 (len, more) refl;
      })

  pub second_over : ((i y : ℕ) (r : ℕ × ℕ) → slice_get (ids_in cell) i ≡ Some y → slice_get pairs y ≡ Some r
      → image_in entries y ≡ Some r.1) → MadeAs types a b pairs pair p q cell → IsOver types.sub entries cell q
  second_over named (hazed apart no_other h) = second_hazed types a b pairs pair p q of cell entries no_other h
  second_over named (both_ints i j e f h) =
      subst (λ (x : Cell). IsOver types.sub entries cell x) (sym f)
      (second_int types a b pairs entries pair i j cell (subst (IsSoundCell types a) e of.first_sound)
      (subst (IsSoundCell types b) f of.second_sound) h)
  second_over named (both_null e f h) = covers Null Null q h f refl
  second_over named (both_instances class ids more e f long among h) =
      covers (Obj class (map (number_of pairs) (zip ids more))) (Obj class more) q h f (
        more,
        (
          refl,
          images_are pairs entries (λ x. x.1) (zip ids more)
              (have_images (λ x. x.1) named (Obj class (map (number_of pairs) (zip ids more))) (zip ids more) h refl among)
              ∙ seconds ids more long,
        ),
      )
  second_over named (both_numbers kind len more e f among h) =
      covers (Nums kind (number_of pairs (len, more))) (Nums kind more) q h f (
        more,
        (
          refl,
          have_images (λ x. x.1) named (Nums kind (number_of pairs (len, more))) ((len, more) ∷ []) h refl among 0
              (len, more) refl,
        ),
      )
  second_over named (both_arrays element other len more s t e f among h) =
      covers (Refs h.join (number_of pairs (len, more)) h.shape) (Refs other more t) q h.is f
      (record {
        item = other;
        image = more;
        shape = t;
        is = refl;
        below = h.type_is.above.right;
        length_is = have_images (λ x. x.1) named (Refs h.join (number_of pairs (len, more)) h.shape) ((len, more) ∷ []) h.is refl
            among 0 (len, more) refl;
      })
