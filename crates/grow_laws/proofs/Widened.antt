-- Each position of a widening has an id of the sort that the ids have there of which it is the pair.
use Rattle.std.proofs.Common.{◌≡◌, ◌∙◌, ◌==◌, ◌+◌, ◌&&◌, ℕ, zero, suc, Bool, true, false, not, if◌then◌else◌, List, [], ◌∷◌}
use Rattle.std.proofs.Common.{length, take, drop, map, Option, Some, None, slice_get, refl, sym, ap, subst, arith}
use Rattle.std.specs.Prelude.{zip}
use Rattle.std.specs.List.{AllByRecursion, AllZip, list_any, position_or_len}
use Rattle.std.specs.Option.{option_map, option_map_or}
use Rattle.std.proofs.lemmas.Bool.{false≢true, and_parts, eqb-true}
use Rattle.std.proofs.lemmas.Option.{none-some}
use Rattle.list_views.proofs.Quantified.{all_front, all_back}
use Rattle.jvm_values.specs.declared.types.Slot.{Slot}
use Rattle.jvm_values.specs.declared.types.Slot.TheVariants as slots
use Rattle.jvm_values.specs.declared.typing.PlaceType.{PlaceType}
use Rattle.jvm_values.specs.declared.typing.PlaceType.TheVariants as places
use Rattle.jvm_values.specs.States.{PlaceTypes}
use Rattle.jvm_values.specs.TypedHeaps.{WorldTypes}
use Rattle.jvm_values.proofs.Options.{some_is}
use Rattle.abs_cells.specs.declared.cells.Cell.{Cell}
use Rattle.abs_cells.specs.declared.cells.Cell.TheVariants as cells
use Rattle.abs_cells.specs.AbstractStates.{AbstractFrame, AbstractState}
use Rattle.abs_cells.specs.Cells.{is_int, is_null, cell_at, HasCell}
use Rattle.abs_cells.specs.PairLists.{is_same}
use Rattle.abs_cells.specs.Sound.{given_ids, ids_of_frame, IsWellFormed}
use Rattle.abs_cells.proofs.CellLaws.{place_of_cell}
use Rattle.abs_reach.specs.Instances.{is_no_int, FrameHead, head_of, is_thrown}
use Rattle.lin_core.specs.declared.intervals.Interval.{Interval}
use Rattle.abs_widen.specs.Rows.{Row, ints, nulls, instances, numbers, arrays, unlike, fields_in, length_in, array_in}
use Rattle.abs_widen.specs.Rows.{row_of, gives_known}
use Rattle.abs_widen.specs.Visits.{are_alike, local_pair, thrown_pair, row_of_cells, row_at}
use Rattle.abs_widen.specs.Widening.{AreFramesAlike, AreAlike, number_of, merged_locals, merged_frame, merged_frames}
use Rattle.abs_widen.specs.Widening.{IsWidenedInt, IsRowCell, is_known_row, is_known_pair, clashes_with, clashes, IsCellUnless}
use Rattle.abs_widen.specs.Widening.{IsMergedCell, IsWidening}
use Rattle.class_program.specs.declared.program.Method.{Method}
use Rattle.class_program.specs.Programs.{Program, op_at}
use Rattle.frame_types.specs.Tables.{CodeTypes}
use Rattle.place_sorts.specs.AbsExpandBadStates.{IsOfPlace, IsOfField, HasStackOf, call_takes, call_at, IsPlaced, statics_under}
use Rattle.place_sorts.specs.AbsExpandBadStates.{HasCallersStack, IsCallerPlaced, AreCallersPlaced, HasRunningStack, IsRunningPlaced}
use Rattle.place_sorts.specs.AbsExpandBadStates.{ArePlaced}
use Rattle.place_sorts.proofs.AbsPlansWellFormed.{frames_there}
use Rattle.place_sorts.specs.Growing.{AreWaiting, WaitBelow}
use Rattle.place_sorts.proofs.SortLists.{take_mapped, drop_mapped, given_taken, given_dropped}
use Rattle.grow_laws.proofs.StandAlike.{alike_ints, alike_others}

-- ---- lists

position_at : (q : ℕ × ℕ) (xs : List (ℕ × ℕ)) (z : ℕ × ℕ) → slice_get xs (position_or_len (is_same q) xs) ≡ Some z → is_same q z ≡ true
position_at q [] z e = absurd (none-some z e)
position_at q (x ∷ xs) z e = by (is_same q x) refl e (position_at q xs z)
  where
    by : (b : Bool) → is_same q x ≡ b → slice_get (x ∷ xs) (if not b then 1 + position_or_len (is_same q) xs else 0) ≡ Some z
        → (slice_get xs (position_or_len (is_same q) xs) ≡ Some z → is_same q z ≡ true) → is_same q z ≡ true
    by true s f rest = ap (is_same q) (sym (some_is f)) ∙ s
    by false s f rest = let one : suc (position_or_len (is_same q) xs) ≡ 1 + position_or_len (is_same q) xs = omega arith in rest
        (ap (slice_get (x ∷ xs)) one ∙ f)

there_too : {X Y : Type 0} (xs : List X) (ys : List Y) (n : ℕ) (y : Y) → length ys ≡ length xs → slice_get ys n ≡ Some y → (x : X)
    × (slice_get xs n ≡ Some x)
there_too xs [] n y l e = absurd (none-some y e)
there_too [] (z ∷ ys) n y l e = absurd (omega (arith, l))
there_too (x ∷ xs) (z ∷ ys) zero y l e = (x, refl)
there_too (x ∷ xs) (z ∷ ys) (suc n) y l e = there_too xs ys n y (omega (arith, l)) e

take_zipped : {X Y : Type 0} (n : ℕ) (xs : List X) (ys : List Y) → take n (zip xs ys) ≡ zip (take n xs) (take n ys)
take_zipped zero xs ys = refl
take_zipped (suc n) [] ys = refl
take_zipped (suc n) (x ∷ xs) [] = refl
take_zipped (suc n) (x ∷ xs) (y ∷ ys) = ap (λ zs. (x, y) ∷ zs) (take_zipped n xs ys)

empty_zipped : {X Y : Type 0} (xs : List X) (ys : List Y) → ys ≡ [] → [] ≡ zip xs ys
empty_zipped [] ys e = refl
empty_zipped (x ∷ xs) [] e = refl
empty_zipped (x ∷ xs) (y ∷ ys) e = absurd (cc)

drop_zipped : {X Y : Type 0} (n : ℕ) (xs : List X) (ys : List Y) → drop n (zip xs ys) ≡ zip (drop n xs) (drop n ys)
drop_zipped zero xs ys = refl
drop_zipped (suc n) [] ys = refl
drop_zipped (suc n) (x ∷ xs) [] = empty_zipped (drop n xs) [] refl
drop_zipped (suc n) (x ∷ xs) (y ∷ ys) = drop_zipped n xs ys

zip_long : {X Y : Type 0} (xs : List X) (ys : List Y) → length xs ≡ length ys → length (zip xs ys) ≡ length xs
zip_long [] ys e = refl
zip_long (x ∷ xs) [] e = absurd (omega (arith, e))
zip_long (x ∷ xs) (y ∷ ys) e = ap suc (zip_long xs ys (omega (arith, e)))

map_long : {X Y : Type 0} (f : X → Y) (xs : List X) → length (map f xs) ≡ length xs
map_long f [] = refl
map_long f (x ∷ xs) = ap suc (map_long f xs)

-- what holds of given ids holds of the first one's and of the others'
first_given : (P : ℕ → Type 0) (local : Option ℕ) (locals : List (Option ℕ)) → AllByRecursion P (given_ids (local ∷ locals))
    → AllByRecursion P (given_ids (local ∷ [])) × AllByRecursion P (given_ids locals)
first_given P None locals a = (tt, a)
first_given P (Some id) locals a = ((a.0, tt), a.1)

-- ---- cells of pairs

-- the row of two ints
abbrev IsIntRow : Row → Type 0
IsIntRow row = (i : Interval) × ((j : Interval) × (row ≡ ints i j))

abbrev IsOtherRow : Row → Type 0
IsOtherRow (ints i j) = ⊥
IsOtherRow row = Unit {0}

int_row : (p q : Cell) → is_int p ≡ true → is_int q ≡ true → IsIntRow (row_of p q)
int_row (cells.Int i) (cells.Int j) e f = (i, (j, refl))
int_row (cells.Int i) cells.Null e f = absurd (false≢true f)
int_row (cells.Int i) (cells.Obj class ids) e f = absurd (false≢true f)
int_row (cells.Int i) (cells.Nums kind len) e f = absurd (false≢true f)
int_row (cells.Int i) (cells.Refs element len shape) e f = absurd (false≢true f)
int_row (cells.Int i) (cells.Unk bound nullable shape) e f = absurd (false≢true f)
int_row cells.Null q e f = absurd (false≢true e)
int_row (cells.Obj class ids) q e f = absurd (false≢true e)
int_row (cells.Nums kind len) q e f = absurd (false≢true e)
int_row (cells.Refs element len shape) q e f = absurd (false≢true e)
int_row (cells.Unk bound nullable shape) q e f = absurd (false≢true e)

some_row : {X : Type 0} (f : X → Row) (found : Option X) → ((x : X) → IsOtherRow (f x)) → IsOtherRow (option_map_or f found unlike)
some_row f None h = tt
some_row f (Some x) h = h x

if_null : (b : Bool) → IsOtherRow (if b then nulls else unlike)
if_null true = tt
if_null false = tt

other_row : (p q : Cell) → is_no_int p ≡ true → IsOtherRow (row_of p q)
other_row (cells.Int i) q e = absurd (false≢true e)
other_row cells.Null q e = if_null (is_null q)
other_row (cells.Obj class ids) q e = some_row (λ more. instances class ids more) (fields_in class q) (λ more. tt)
other_row (cells.Nums kind len) q e = some_row (λ more. numbers kind len more) (length_in kind q) (λ more. tt)
other_row (cells.Refs element len shape) q e = some_row (λ array. arrays element array.0 len array.1) (array_in q) (λ array. tt)
other_row (cells.Unk bound nullable shape) q e = tt

module _ (types : WorldTypes) (a b result : AbstractState) (w : IsWidening types a b result) where
  abbrev Pairs : List (ℕ × ℕ)
  Pairs = w.pairs

  abbrev Number : ℕ × ℕ → ℕ
  Number = number_of w.pairs

  abbrev Merged : AbstractState
  Merged = w.is.merged

  abbrev Has : ℕ → Type 0
  Has = HasCell (λ _. true) result

  other_cell : (pair : ℕ × ℕ) (p q c : Cell) (clash : Bool) (row : Row) → IsOtherRow row
      → IsCellUnless clash types a b w.pairs pair p q row c → is_no_int c ≡ true
  other_cell pair p q c true row o h = ap is_no_int h.is
  other_cell pair p q c false (ints i j) o h = absurd o
  other_cell pair p q c false nulls o h = ap is_no_int h
  other_cell pair p q c false (instances class ids more) o h = ap is_no_int h
  other_cell pair p q c false (numbers kind len more) o h = ap is_no_int h
  other_cell pair p q c false (arrays element other len more) o h = ap is_no_int h.is
  other_cell pair p q c false unlike o h = ap is_no_int h.is

  int_cell : (pair : ℕ × ℕ) (p q c : Cell) (clash : Bool) (row : Row) → clash ≡ false → IsIntRow row
      → IsCellUnless clash types a b w.pairs pair p q row c → is_int c ≡ true
  int_cell pair p q c true row f i h = absurd (false≢true (sym f))
  int_cell pair p q c false row f i h = let k : IsWidenedInt i.0 i.1.0 c = subst
      (λ (r : Row). IsRowCell types a b w.pairs pair p q r c) i.1.1 h in ap is_int k.is

  -- an id of the result stands for the pair of that number
  record OfPair (n : ℕ) (c : Cell) : Type 0 where
    pair : ℕ × ℕ
    there : slice_get w.pairs n ≡ Some pair
    merged : IsMergedCell types a b w.pairs pair c

  of_pair : (n : ℕ) (c : Cell) → cell_at result n ≡ Some c → OfPair n c
  of_pair n c e =
      let d = w.is.dropped in
      let was : cell_at w.is.merged n ≡ Some c = sym (d.kept n (d.gone n (record { cell = c; is = e; sort_is = refl }))) ∙ e in
      let place = place_of_cell w.is.merged.cells n c was in
      let beside = there_too w.pairs w.is.merged.cells place.0 (n, c) w.is.is_merged.long place.1 in
      let k = w.is.is_merged.cells place.0 beside.0 (n, c) beside.1 place.1 in
      record { pair = beside.0; there = ap (slice_get w.pairs) k.0 ∙ beside.1; merged = k.1 }

  -- the id of two that stand beside one another
  record Beside (x y : ℕ) : Type 0 where
    cell : Cell
    is : cell_at result (Number (x, y)) ≡ Some cell
    p : Cell
    q : Cell
    first : cell_at a x ≡ Some p
    second : cell_at b y ≡ Some q
    pair : ℕ × ℕ
    at : row_at a b pair ≡ Some (row_of p q)
    merged : IsCellUnless (clashes a b w.pairs pair) types a b w.pairs pair p q (row_of p q) cell

  beside : (x y : ℕ) → Has (Number (x, y)) → Beside x y
  beside x y h =
      let o = of_pair (Number (x, y)) h.cell h.is in
      let same = and_parts (x == o.pair.0) (y == o.pair.1) (position_at (x, y) w.pairs o.pair o.there) in
      let first : cell_at a x ≡ Some o.merged.p = ap (cell_at a) (eqb-true x o.pair.0 same.0) ∙ o.merged.first in
      let second : cell_at b y ≡ Some o.merged.q = ap (cell_at b) (eqb-true y o.pair.1 same.1) ∙ o.merged.second in
      let at : row_at a b o.pair ≡ Some (row_of o.merged.p o.merged.q) = ap
      (λ (f : Option Cell). row_of_cells f (cell_at b o.pair.1)) o.merged.first
      ∙ ap (row_of_cells (Some o.merged.p)) o.merged.second in
      record {
        cell = h.cell;
        is = h.is;
        p = o.merged.p;
        q = o.merged.q;
        first = first;
        second = second;
        pair = o.pair;
        at = at;
        merged = subst (λ (r : Row). IsCellUnless (clashes a b w.pairs o.pair) types a b w.pairs o.pair o.merged.p o.merged.q r
            h.cell) (some_is (sym o.merged.row_is ∙ at)) o.merged.is;
      }

  int_at : (x y : ℕ) → Has (Number (x, y)) → HasCell is_int a x → HasCell is_int b y → HasCell is_int result (Number (x, y))
  int_at x y h k l =
      let s = beside x y h in
      let left : is_int s.p ≡ true = ap is_int (some_is (sym s.first ∙ k.is)) ∙ k.sort_is in
      let right : is_int s.q ≡ true = ap is_int (some_is (sym s.second ∙ l.is)) ∙ l.sort_is in
      let row = int_row s.p s.q left right in
      let unknown : is_known_pair a b s.pair ≡ false = ap is_known_row s.at ∙ ap gives_known row.1.1 in
      let alone : clashes a b w.pairs s.pair ≡ false = ap (λ (t : Bool). t && list_any (clashes_with a b s.pair) w.pairs) unknown in
      record {
        cell = s.cell;
        is = s.is;
        sort_is = int_cell s.pair s.p s.q s.cell (clashes a b w.pairs s.pair) (row_of s.p s.q)
            alone row s.merged;
      }

  other_at : (x y : ℕ) → Has (Number (x, y)) → HasCell is_no_int a x → HasCell is_no_int result (Number (x, y))
  other_at x y h k =
      let s = beside x y h in
      let left : is_no_int s.p ≡ true = ap is_no_int (some_is (sym s.first ∙ k.is)) ∙ k.sort_is in
      record {
        cell = s.cell;
        is = s.is;
        sort_is = other_cell s.pair s.p s.q s.cell (clashes a b w.pairs s.pair) (row_of s.p s.q)
            (other_row s.p s.q left) s.merged;
      }

  -- ---- positions

  abbrev MergedLocal : Option ℕ → Option ℕ → Option ℕ
  MergedLocal local other = option_map Number (local_pair a b local other)

  ints_merged : (x y : ℕ) (t : Bool) → are_alike a b x y ≡ t
      → AllByRecursion Has (given_ids (option_map Number (if t then Some (x, y) else None) ∷ [])) → HasCell is_int a x → HasCell is_int b y
      → IsOfPlace result places.Int (option_map Number (if t then Some (x, y) else None))
  ints_merged x y true e h k l = int_at x y h.0 k l
  ints_merged x y false e h k l = absurd (false≢true (sym e ∙ alike_ints a b x y k l))

  others_merged : (x y : ℕ) (t : Bool) → are_alike a b x y ≡ t
      → AllByRecursion Has (given_ids (option_map Number (if t then Some (x, y) else None) ∷ [])) → HasCell is_no_int a x
      → HasCell is_no_int b y
      → IsOfPlace result places.Null (option_map Number (if t then Some (x, y) else None))
  others_merged x y true e h k l = other_at x y h.0 k
  others_merged x y false e h k l = absurd (false≢true (sym e ∙ alike_others a b x y k l))

  as_reference : (t : _) (local : Option ℕ) → IsOfPlace result places.Null local → IsOfPlace result (places.Ref t) local
  as_reference t None h = absurd h
  as_reference t (Some x) h = h

  as_int_field : (kind : _) (local : Option ℕ) → IsOfPlace result places.Int local → IsOfField result (slots.Num kind) local
  as_int_field kind None h = absurd h
  as_int_field kind (Some x) h = h

  as_field : (t : _) (local : Option ℕ) → IsOfPlace result places.Null local → IsOfField result (slots.Ref t) local
  as_field t None h = absurd h
  as_field t (Some x) h = h

  place_merged : (place : PlaceType) (local other : Option ℕ) → AllByRecursion Has (given_ids (MergedLocal local other ∷ []))
      → IsOfPlace a place local → IsOfPlace b place other → IsOfPlace result place (MergedLocal local other)
  place_merged places.Unset local other h k l = tt
  place_merged places.Int None other h k l = absurd k
  place_merged places.Int (Some x) None h k l = absurd l
  place_merged places.Int (Some x) (Some y) h k l = ints_merged x y (are_alike a b x y) refl h k l
  place_merged places.Null None other h k l = absurd k
  place_merged places.Null (Some x) None h k l = absurd l
  place_merged places.Null (Some x) (Some y) h k l = others_merged x y (are_alike a b x y) refl h k l
  place_merged (places.Ref t) None other h k l = absurd k
  place_merged (places.Ref t) (Some x) None h k l = absurd l
  place_merged (places.Ref t) (Some x) (Some y) h k l = as_reference t (MergedLocal (Some x) (Some y))
      (others_merged x y (are_alike a b x y) refl h k l)

  field_merged : (slot : Slot) (local other : Option ℕ) → AllByRecursion Has (given_ids (MergedLocal local other ∷ []))
      → IsOfField a slot local → IsOfField b slot other → IsOfField result slot (MergedLocal local other)
  field_merged (slots.Num kind) None other h k l = absurd k
  field_merged (slots.Num kind) (Some x) None h k l = absurd l
  field_merged (slots.Num kind) (Some x) (Some y) h k l = as_int_field kind (MergedLocal (Some x) (Some y))
      (ints_merged x y (are_alike a b x y) refl h k l)
  field_merged (slots.Ref t) None other h k l = absurd k
  field_merged (slots.Ref t) (Some x) None h k l = absurd l
  field_merged (slots.Ref t) (Some x) (Some y) h k l = as_field t (MergedLocal (Some x) (Some y))
      (others_merged x y (are_alike a b x y) refl h k l)

  abbrev MergedLocals : List (Option ℕ) → List (Option ℕ) → List (Option ℕ)
  MergedLocals = merged_locals a b w.pairs

  locals_merged : (wanted : List PlaceType) (locals others : List (Option ℕ))
      → AllByRecursion Has (given_ids (MergedLocals locals others)) → AllZip (IsOfPlace a) wanted locals
      → AllZip (IsOfPlace b) wanted others
      → AllZip (IsOfPlace result) wanted (MergedLocals locals others)
  locals_merged [] [] others h k l = tt
  locals_merged [] (local ∷ locals) others h k l = absurd k
  locals_merged (place ∷ wanted) [] others h k l = absurd k
  locals_merged (place ∷ wanted) (local ∷ locals) [] h k l = absurd l
  locals_merged (place ∷ wanted) (local ∷ locals) (other ∷ others) h k l =
      let g = first_given Has (MergedLocal local other) (MergedLocals locals others) h in
      (place_merged place local other g.0 k.0 l.0, locals_merged wanted locals others g.1 k.1 l.1)

  fields_merged : (wanted : List Slot) (locals others : List (Option ℕ))
      → AllByRecursion Has (given_ids (MergedLocals locals others)) → AllZip (IsOfField a) wanted locals
      → AllZip (IsOfField b) wanted others
      → AllZip (IsOfField result) wanted (MergedLocals locals others)
  fields_merged [] [] others h k l = tt
  fields_merged [] (local ∷ locals) others h k l = absurd k
  fields_merged (slot ∷ wanted) [] others h k l = absurd k
  fields_merged (slot ∷ wanted) (local ∷ locals) [] h k l = absurd l
  fields_merged (slot ∷ wanted) (local ∷ locals) (other ∷ others) h k l =
      let g = first_given Has (MergedLocal local other) (MergedLocals locals others) h in
      (field_merged slot local other g.0 k.0 l.0, fields_merged wanted locals others g.1 k.1 l.1)

  abbrev MergedStack : List ℕ → List ℕ → List ℕ
  MergedStack stack other = map Number (zip stack other)

  entry_merged : (place : PlaceType) (x y : ℕ) → Has (Number (x, y)) → IsOfPlace a place (Some x) → IsOfPlace b place (Some y)
      → IsOfPlace result place (Some (Number (x, y)))
  entry_merged places.Unset x y h k l = tt
  entry_merged places.Int x y h k l = int_at x y h k l
  entry_merged places.Null x y h k l = other_at x y h k
  entry_merged (places.Ref t) x y h k l = other_at x y h k

  stack_merged : (wanted : List PlaceType) (stack other : List ℕ) → AllByRecursion Has (MergedStack stack other)
      → HasStackOf a wanted stack → HasStackOf b wanted other → HasStackOf result wanted (MergedStack stack other)
  stack_merged [] [] other h k l = tt
  stack_merged [] (x ∷ stack) other h k l = absurd k
  stack_merged (place ∷ wanted) [] other h k l = absurd k
  stack_merged (place ∷ wanted) (x ∷ stack) [] h k l = absurd l
  stack_merged (place ∷ wanted) (x ∷ stack) (y ∷ other) h k l =
      (entry_merged place x y h.0 k.0 l.0, stack_merged wanted stack other h.1 k.1 l.1)

  -- ---- frames

  module _ (p : Program) (typing : ℕ → CodeTypes) where
    abbrev MergedFrame : AbstractFrame → AbstractFrame → AbstractFrame
    MergedFrame = merged_frame a b w.pairs

    abbrev MergedFrames : List AbstractFrame → List AbstractFrame → List AbstractFrame
    MergedFrames = merged_frames a b w.pairs

    abbrev Holds : AbstractFrame → Type 0
    Holds frame = AllByRecursion Has (ids_of_frame frame)

    -- the types at the place of both
    other_there : (statics : List Slot) (frame other : AbstractFrame) (there over : PlaceTypes) → head_of frame ≡ head_of other
        → IsPlaced p typing a statics frame there → IsPlaced p typing b statics other over → over ≡ there
    other_there statics frame other there over head h k =
        let at : typing frame.method frame.pc ≡ typing other.method other.pc = ap (λ (x : FrameHead). typing x.method x.pc) head in
        some_is (sym k.is_there ∙ sym at ∙ h.is_there)

    frame_merged : (statics : List Slot) (frame other : AbstractFrame) (there over : PlaceTypes) → AreFramesAlike a b frame other
        → Holds (MergedFrame frame other) → IsPlaced p typing a statics frame there → IsPlaced p typing b statics other over
        → IsPlaced p typing result statics (MergedFrame frame other) there
    frame_merged statics frame other there over alike holds h k =
        let method : h.method ≡ k.method = some_is
        (sym h.is_method ∙ ap (λ (x : FrameHead). slice_get p.methods x.method) alike.heads ∙ k.is_method) in
        let max = h.method.max_locals in
        let same = other_there statics frame other there over alike.heads h k in
        let given = all_front Has (given_ids (MergedLocals frame.locals other.locals)) (MergedStack frame.stack other.stack) holds in
        let locals : AllZip (IsOfPlace b) there.locals (take max other.locals) =
        subst (λ (t : PlaceTypes). AllZip (IsOfPlace b) t.locals (take max other.locals)) same
        (subst (λ (m : Method). AllZip (IsOfPlace b) over.locals (take m.max_locals other.locals)) (sym method) k.locals) in
        let fields : AllZip (IsOfField b) statics (drop max other.locals) = subst
        (λ (m : Method). AllZip (IsOfField b) statics (drop m.max_locals other.locals)) (sym method) k.fields in
        let f : Option ℕ × Option ℕ → Option ℕ = λ both. MergedLocal both.0 both.1 in
        let taken : take max (MergedLocals frame.locals other.locals) ≡ MergedLocals (take max frame.locals) (take max other.locals) =
        take_mapped f max (zip frame.locals other.locals) ∙ ap (map f) (take_zipped max frame.locals other.locals) in
        let dropped : drop max (MergedLocals frame.locals other.locals) ≡ MergedLocals (drop max frame.locals) (drop max other.locals) =
        drop_mapped f max (zip frame.locals other.locals) ∙ ap (map f) (drop_zipped max frame.locals other.locals) in
        record {
          method = h.method;
          is_method = h.is_method;
          is_there = h.is_there;
          count = map_long f (zip frame.locals other.locals) ∙ zip_long frame.locals other.locals alike.locals ∙ h.count;
          locals = subst (AllZip (IsOfPlace result) there.locals) (sym taken)
              (locals_merged there.locals (take max frame.locals) (take max other.locals)
              (subst (λ (ls : List (Option ℕ)). AllByRecursion Has (given_ids ls)) taken
              (given_taken Has max (MergedLocals frame.locals other.locals) given)) h.locals locals);
          fields = subst (AllZip (IsOfField result) statics) (sym dropped)
              (fields_merged statics (drop max frame.locals) (drop max other.locals)
              (subst (λ (ls : List (Option ℕ)). AllByRecursion Has (given_ids ls)) dropped
              (given_dropped Has max (MergedLocals frame.locals other.locals) given)) h.fields fields);
        }

    stack_holds : (frame other : AbstractFrame) → Holds (MergedFrame frame other)
        → AllByRecursion Has (MergedStack frame.stack other.stack)
    stack_holds frame other holds = all_back Has (given_ids (MergedLocals frame.locals other.locals))
        (MergedStack frame.stack other.stack) holds

    under_merged : (below more : List AbstractFrame) → AllZip (AreFramesAlike a b) below more
        → statics_under p (MergedFrames below more) ≡ statics_under p below
    under_merged [] more h = refl
    under_merged (frame ∷ below) [] h = absurd h
    under_merged (frame ∷ below) (other ∷ more) h = refl

    under_same : (below more : List AbstractFrame) → AllZip (AreFramesAlike a b) below more → statics_under p more ≡ statics_under p below
    under_same [] [] h = refl
    under_same [] (other ∷ more) h = absurd h
    under_same (frame ∷ below) [] h = absurd h
    under_same (frame ∷ below) (other ∷ more) h = refl

    callers_stack : (frame other : AbstractFrame) (count : Option ℕ) (wanted : List PlaceType)
        → AllByRecursion Has (MergedStack frame.stack other.stack) → HasCallersStack a count wanted frame.stack
        → HasCallersStack b count wanted other.stack
        → HasCallersStack result count wanted (MergedStack frame.stack other.stack)
    callers_stack frame other None wanted h k l = tt
    callers_stack frame other (Some count) wanted h k l = stack_merged (drop count wanted) frame.stack other.stack h k l

    caller_merged : (statics : List Slot) (frame other : AbstractFrame) → AreFramesAlike a b frame other
        → Holds (MergedFrame frame other) → IsCallerPlaced p typing a statics frame → IsCallerPlaced p typing b statics other
        → IsCallerPlaced p typing result statics (MergedFrame frame other)
    caller_merged statics frame other alike holds h k =
        let call : call_at p other ≡ call_at p frame = ap
        (λ (x : FrameHead). option_map_or call_takes (op_at p.methods x.method x.pc) None) (sym alike.heads) in
        let same = other_there statics frame other h.there k.there alike.heads h.placed k.placed in
        let stack : HasCallersStack b (call_at p frame) h.there.stack other.stack =
        subst (λ (t : PlaceTypes). HasCallersStack b (call_at p frame) t.stack other.stack) same
        (subst (λ (o : Option ℕ). HasCallersStack b o k.there.stack other.stack) call k.stack) in
        record {
          there = h.there;
          placed = frame_merged statics frame other h.there k.there alike holds h.placed k.placed;
          stack = callers_stack frame other (call_at p frame) h.there.stack (stack_holds frame other holds) h.stack stack;
        }

    callers_merged : (frames others : List AbstractFrame) → AllZip (AreFramesAlike a b) frames others
        → AllByRecursion Holds (MergedFrames frames others) → AreCallersPlaced p typing a frames → AreCallersPlaced p typing b others
        → AreCallersPlaced p typing result (MergedFrames frames others)
    callers_merged [] others alike holds h k = tt
    callers_merged (frame ∷ below) [] alike holds h k = absurd alike
    callers_merged (frame ∷ below) (other ∷ more) alike holds h k = (
      subst (λ (statics : List Slot). IsCallerPlaced p typing result statics (MergedFrame frame other))
          (sym (under_merged below more alike.1))
          (caller_merged (statics_under p below) frame other alike.0 holds.0 h.0
          (subst (λ (statics : List Slot). IsCallerPlaced p typing b statics other) (under_same below more alike.1) k.0)),
      callers_merged below more alike.1 holds.1 h.1 k.1,
    )

    running_stack : (t u : Option ℕ) (wanted : List PlaceType) (stack other : List ℕ) → is_thrown t ≡ is_thrown u
        → AllByRecursion Has (MergedStack stack other) → HasRunningStack a t wanted stack → HasRunningStack b u wanted other
        → HasRunningStack result (option_map Number (thrown_pair t u)) wanted (MergedStack stack other)
    running_stack None None wanted stack other e holds h k = stack_merged wanted stack other holds h k
    running_stack None (Some y) wanted stack other e holds h k = absurd (false≢true e)
    running_stack (Some x) None wanted stack other e holds h k = absurd (false≢true (sym e))
    running_stack (Some x) (Some y) wanted stack other e holds h k = ap (λ (list : List ℕ). map Number (zip list other)) h

    running_merged : (statics : List Slot) (frame other : AbstractFrame) → is_thrown a.throwing ≡ is_thrown b.throwing
        → result.throwing ≡ option_map Number (thrown_pair a.throwing b.throwing) → AreFramesAlike a b frame other
        → Holds (MergedFrame frame other)
        → IsRunningPlaced p typing a statics frame → IsRunningPlaced p typing b statics other
        → IsRunningPlaced p typing result statics (MergedFrame frame other)
    running_merged statics frame other mode t alike holds h k =
        let same = other_there statics frame other h.there k.there alike.heads h.placed k.placed in
        let stack : HasRunningStack b b.throwing h.there.stack other.stack = subst
        (λ (there : PlaceTypes). HasRunningStack b b.throwing there.stack other.stack) same k.stack in
        record {
          there = h.there;
          placed = frame_merged statics frame other h.there k.there alike holds h.placed k.placed;
          stack = subst (λ (o : Option ℕ). HasRunningStack result o h.there.stack (MergedStack frame.stack other.stack)) (sym t)
              (running_stack a.throwing b.throwing h.there.stack frame.stack other.stack mode (stack_holds frame other holds)
              h.stack stack);
        }

    frames_merged : (frames others : List AbstractFrame) → is_thrown a.throwing ≡ is_thrown b.throwing
        → result.throwing ≡ option_map Number (thrown_pair a.throwing b.throwing) → AllZip (AreFramesAlike a b) frames others
        → AllByRecursion Holds (MergedFrames frames others) → ArePlaced p typing a frames → ArePlaced p typing b others
        → ArePlaced p typing result (MergedFrames frames others)
    frames_merged [] others mode t alike holds h k = tt
    frames_merged (frame ∷ below) [] mode t alike holds h k = absurd alike
    frames_merged (frame ∷ below) (other ∷ more) mode t alike holds h k = (
      subst (λ (statics : List Slot). IsRunningPlaced p typing result statics (MergedFrame frame other))
          (sym (under_merged below more alike.1))
          (running_merged (statics_under p below) frame other mode t alike.0 holds.0 h.0
          (subst (λ (statics : List Slot). IsRunningPlaced p typing b statics other) (under_same below more alike.1) k.0)),
      callers_merged below more alike.1 holds.1 h.1 k.1,
    )

    waiting_merged : (callee : ℕ) (frames others : List AbstractFrame) → AreWaiting p callee frames
        → AreWaiting p callee (MergedFrames frames others)
    waiting_merged callee [] others h = tt
    waiting_merged callee (frame ∷ below) [] h = tt
    waiting_merged callee (frame ∷ below) (other ∷ more) h =
        (record { op = h.0.op; stands = h.0.stands; runs = h.0.runs }, waiting_merged frame.method below more h.1)

    waits_merged : (frames others : List AbstractFrame) → WaitBelow p frames → WaitBelow p (MergedFrames frames others)
    waits_merged [] others h = tt
    waits_merged (frame ∷ below) [] h = tt
    waits_merged (frame ∷ below) (other ∷ more) h = waiting_merged frame.method below more h

    -- ---- the widening

    pub widened_placed : IsWellFormed result → AreAlike a b → ArePlaced p typing a a.frames → ArePlaced p typing b b.frames
        → ArePlaced p typing result result.frames
    widened_placed formed alike h k =
        let frames_are : result.frames ≡ MergedFrames a.frames b.frames = w.is.dropped.frames ∙ w.is.is_merged.frames in
        subst (ArePlaced p typing result) (sym frames_are)
        (frames_merged a.frames b.frames alike.mode (w.is.dropped.throwing ∙ w.is.is_merged.throwing) alike.frames
        (subst (AllByRecursion Holds) frames_are (frames_there result formed)) h k)

    pub widened_waits : WaitBelow p a.frames → WaitBelow p result.frames
    widened_waits h = subst (WaitBelow p) (sym (w.is.dropped.frames ∙ w.is.is_merged.frames)) (waits_merged a.frames b.frames h)
