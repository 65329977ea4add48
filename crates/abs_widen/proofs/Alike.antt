-- Ids that stand beside one another in two sound states that stand alike: both are ints, or neither is.
use Rattle.std.proofs.Common.{◌≡◌, ◌⊎◌, ℕ, Bool, true, false, cond, ◌&&◌, List, [], ◌∷◌, All, zip, reverse, Option, Some, None}
use Rattle.std.proofs.Common.{refl, sym, ap, subst, ◌∙◌, inl, inr}
use Rattle.std.specs.Prelude.{nat_eq, if◌then◌else◌}
use Rattle.std.specs.List.{AllZip, AllByRecursion}
use Rattle.std.specs.Option.{option_map_or}
use Rattle.std.proofs.lemmas.Bool.{or_left, or_right, or_cases, and_from, and_parts, cases_Bool, cases_eq, ne_eqb, eq-eqb}
use Rattle.std.proofs.lemmas.Bool.{false≢true, not_from_true}
use Rattle.std.proofs.lemmas.List.Elements.{All-head, All-tail, length_all_zip}
use Rattle.std.proofs.lemmas.Option.{none-some}
use Rattle.list_views.proofs.Quantified.{all_joined}
use Rattle.jvm_values.proofs.Options.{some_is}
use Rattle.jvm_values.specs.declared.types.Ty.{Ty}
use Rattle.jvm_values.specs.declared.types.Kind.{Kind}
use Rattle.jvm_values.specs.declared.types.Slot.{Slot}
use Rattle.jvm_values.specs.declared.types.Slot.TheVariants as slots
use Rattle.jvm_values.specs.Kinds.{kind_code}
use Rattle.jvm_values.specs.TypedHeaps.{WorldTypes}
use Rattle.abs_cells.specs.declared.cells.Cell.{Cell}
use Rattle.abs_cells.specs.declared.cells.Cell.TheVariants.{Int, Null, Obj, Nums, Refs, Unk}
use Rattle.abs_cells.specs.AbstractStates.{AbstractFrame, AbstractState}
use Rattle.abs_cells.specs.Cells.{is_int, is_of_sort, cell_in, cell_at, HasCell, is_null}
use Rattle.abs_cells.specs.Sound.{IsSound, IsSoundCell, IsOfSlot, is_object}
use Rattle.abs_cells.proofs.Checking.{has_cell_from, has_cell_to}
use Rattle.abs_reach.specs.Instances.{is_no_int}
use Rattle.abs_widen.specs.Rows.{Row, ints, nulls, instances, numbers, arrays, unlike, interval_in, fields_in, length_in, array_in}
use Rattle.abs_widen.specs.Rows.{row_of, pairs_of}
use Rattle.abs_widen.specs.Visits.{are_alike, local_pair, some_in, local_pairs, frame_pairs, frames_pairs, thrown_pair}
use Rattle.abs_widen.specs.Visits.{position_pairs, row_of_cells, pairs_in, pairs_below, IsPaired}
use Rattle.abs_widen.specs.Visits.IsPaired.{placed, named}
use Rattle.abs_widen.specs.Widening.{AreFramesAlike, AreAlike}
use Rattle.abs_widen.specs.inner.Visiting.{AreAsLong, ArePairCells}
use Rattle.abs_widen.proofs.Closed.{holds_among}
use Rattle.abs_widen.proofs.Sides.{field_cell}
use Rattle.abs_widen.proofs.Zips.{all_reversed}

-- ---- cells of a sound state

pub holds_in : (P : Cell → Type 0) (cells : List (ℕ × Cell)) (id : ℕ) (cell : Cell) → All (λ c. P c.1) cells
    → cell_in cells id ≡ Some cell → P cell
holds_in P [] id cell h e = absurd (none-some cell e)
holds_in P (c ∷ cells) id cell h e = elim (cases_Bool (nat_eq c.0 id)) [
  | inl t ↦ subst P (some_is (sym (ap (λ (b : Bool). cond b (Some c.1) (cell_in cells id)) t) ∙ e))
      (All-head (λ (x : ℕ × Cell). P x.1) c cells h)
  | inr f ↦ holds_in P cells id cell (All-tail (λ (x : ℕ × Cell). P x.1) c cells h)
      (sym (ap (λ (b : Bool). cond b (Some c.1) (cell_in cells id)) f) ∙ e)
]

pub sound_at : (types : WorldTypes) (state : AbstractState) → IsSound types state → (id : ℕ) (cell : Cell)
    → cell_at state id ≡ Some cell → IsSoundCell types state cell
sound_at types state sound id cell e = holds_in (IsSoundCell types state) state.cells id cell sound.cells e

-- ---- rows

-- what holds of no pairs, and of those of each row that may be, holds of the row's pairs
pub row_pairs : {X : Type 0} (P : List (ℕ × ℕ) → Type 0) → P [] → (f : X → Row) (o : Option X)
    → ((x : X) → o ≡ Some x → P (pairs_of (f x))) → P (pairs_of (option_map_or f o unlike))
row_pairs P none f None h = none
row_pairs P none f (Some x) h = h x refl

pub null_pairs : (P : List (ℕ × ℕ) → Type 0) → P [] → (t : Bool) → P (pairs_of (if t then nulls else unlike))
null_pairs P none true = none
null_pairs P none false = none

-- an array of numbers of the kind; of references
pub length_cell : (kind : Kind) (q : Cell) (more : ℕ) → length_in kind q ≡ Some more
    → (other : Kind) × ((q ≡ Nums other more) × (kind_code kind ≡ kind_code other))
length_cell kind (Int i) more e = absurd (none-some more e)
length_cell kind Null more e = absurd (none-some more e)
length_cell kind (Obj class ids) more e = absurd (none-some more e)
length_cell kind (Nums other len) more e = elim (cases_eq (kind_code kind) (kind_code other)) [
  | inl same ↦ (
    other,
    (
      ap (Nums other)
          (some_is (sym (ap (λ (t : Bool). cond t (Some len) None) (eq-eqb (kind_code kind) (kind_code other) same)) ∙ e)),
      same,
    ),
  )
  | inr differ ↦ absurd
      (none-some more (sym (ap (λ (t : Bool). cond t (Some len) None) (ne_eqb (kind_code kind) (kind_code other) differ)) ∙ e))
]
length_cell kind (Refs element len shape) more e = absurd (none-some more e)
length_cell kind (Unk bound nullable shape) more e = absurd (none-some more e)

pub array_cell : (q : Cell) (array : Ty × ℕ) → array_in q ≡ Some array → (shape : _) × (q ≡ Refs array.0 array.1 shape)
array_cell (Int i) array e = absurd (none-some array e)
array_cell Null array e = absurd (none-some array e)
array_cell (Obj class ids) array e = absurd (none-some array e)
array_cell (Nums kind len) array e = absurd (none-some array e)
array_cell (Refs element len shape) array e = (shape, ap (λ (x : Ty × ℕ). Refs x.0 x.1 shape) (some_is e))
array_cell (Unk bound nullable shape) array e = absurd (none-some array e)

-- ---- ids beside one another

module _ (a b : AbstractState) where
  abbrev pub Alike : ℕ × ℕ → Type 0
  Alike p = are_alike a b p.0 p.1 ≡ true

  abbrev pub AllAlike : List (ℕ × ℕ) → Type 0
  AllAlike pairs = AllByRecursion Alike pairs

  ints_alike : (x y : ℕ) → HasCell is_int a x → HasCell is_int b y → Alike (x, y)
  ints_alike x y h k =
      or_left (is_of_sort is_int (cell_at a x) && is_of_sort is_int (cell_at b y))
      (is_of_sort is_no_int (cell_at a x) && is_of_sort is_no_int (cell_at b y))
      (and_from (is_of_sort is_int (cell_at a x)) (is_of_sort is_int (cell_at b y)) (has_cell_to is_int a x h) (has_cell_to is_int b y k))

  others_alike : (x y : ℕ) → HasCell is_no_int a x → HasCell is_no_int b y → Alike (x, y)
  others_alike x y h k =
      or_right (is_of_sort is_int (cell_at a x) && is_of_sort is_int (cell_at b y))
      (is_of_sort is_no_int (cell_at a x) && is_of_sort is_no_int (cell_at b y))
      (and_from (is_of_sort is_no_int (cell_at a x)) (is_of_sort is_no_int (cell_at b y)) (has_cell_to is_no_int a x h)
      (has_cell_to is_no_int b y k))

  -- the sorts of ids beside one another
  pub which_alike : (x y : ℕ) → Alike (x, y) → (HasCell is_int a x × HasCell is_int b y) ⊎ (HasCell is_no_int a x × HasCell is_no_int b y)
  which_alike x y h = elim
      (or_cases (is_of_sort is_int (cell_at a x) && is_of_sort is_int (cell_at b y))
      (is_of_sort is_no_int (cell_at a x) && is_of_sort is_no_int (cell_at b y)) h) [
        | inl t ↦
            let parts = and_parts (is_of_sort is_int (cell_at a x)) (is_of_sort is_int (cell_at b y)) t in
            inl (has_cell_from is_int a x parts.0, has_cell_from is_int b y parts.1)
        | inr t ↦
            let parts = and_parts (is_of_sort is_no_int (cell_at a x)) (is_of_sort is_no_int (cell_at b y)) t in
            inr (has_cell_from is_no_int a x parts.0, has_cell_from is_no_int b y parts.1)
      ]

  slot_alike : (s : Slot) (x y : ℕ) → IsOfSlot a s x → IsOfSlot b s y → Alike (x, y)
  slot_alike (slots.Num kind) x y h k = ints_alike x y h k
  slot_alike (slots.Ref t) x y h k = others_alike x y h k

  slots_alike : (wanted : List Slot) (xs ys : List ℕ) → AllZip (IsOfSlot a) wanted xs → AllZip (IsOfSlot b) wanted ys
      → AllAlike (zip xs ys)
  slots_alike [] [] ys h k = tt
  slots_alike [] (x ∷ xs) ys h k = absurd h
  slots_alike (s ∷ wanted) [] ys h k = absurd h
  slots_alike (s ∷ wanted) (x ∷ xs) [] h k = absurd k
  slots_alike (s ∷ wanted) (x ∷ xs) (y ∷ ys) h k = (slot_alike s x y h.0 k.0, slots_alike wanted xs ys h.1 k.1)

  zip_alike : (xs ys : List ℕ) → AllZip (λ x y. are_alike a b x y ≡ true) xs ys → AllAlike (zip xs ys)
  zip_alike [] [] h = tt
  zip_alike [] (y ∷ ys) h = absurd h
  zip_alike (x ∷ xs) [] h = absurd h
  zip_alike (x ∷ xs) (y ∷ ys) h = (h.0, zip_alike xs ys h.1)

  -- ---- at positions

  tested_alike : (x y : ℕ) (t : Bool) → are_alike a b x y ≡ t → AllAlike (some_in (if t then Some (x, y) else None))
  tested_alike x y true e = (e, tt)
  tested_alike x y false e = tt

  local_alike : (x y : Option ℕ) → AllAlike (some_in (local_pair a b x y))
  local_alike None y = tt
  local_alike (Some x) None = tt
  local_alike (Some x) (Some y) = tested_alike x y (are_alike a b x y) refl

  locals_alike : (locals others : List (Option ℕ)) → AllAlike (local_pairs a b locals others)
  locals_alike [] others = tt
  locals_alike (x ∷ locals) [] = tt
  locals_alike (x ∷ locals) (y ∷ others) = all_joined Alike (some_in (local_pair a b x y)) (local_pairs a b locals others)
      (local_alike x y) (locals_alike locals others)

  frame_alike : (frame other : AbstractFrame) → AreFramesAlike a b frame other → AllAlike (frame_pairs a b frame other)
  frame_alike frame other h =
      all_joined Alike (local_pairs a b frame.locals other.locals) (zip (reverse frame.stack) (reverse other.stack))
      (locals_alike frame.locals other.locals)
      (zip_alike (reverse frame.stack) (reverse other.stack)
      (all_reversed (λ x y. are_alike a b x y ≡ true) frame.stack other.stack h.stacks))

  frames_alike : (frames others : List AbstractFrame) → AllZip (AreFramesAlike a b) frames others
      → AllAlike (frames_pairs a b frames others)
  frames_alike [] [] h = tt
  frames_alike [] (o ∷ others) h = absurd h
  frames_alike (f ∷ frames) [] h = absurd h
  frames_alike (f ∷ frames) (o ∷ others) h = all_joined Alike (frame_pairs a b f o) (frames_pairs a b frames others)
      (frame_alike f o h.0) (frames_alike frames others h.1)

  -- an object's id is no int's
  object_no_int : (cell : Cell) → is_object cell ≡ true → is_no_int cell ≡ true
  object_no_int (Int i) e = absurd (false≢true e)
  object_no_int Null e = absurd (false≢true e)
  object_no_int (Obj class ids) e = refl
  object_no_int (Nums kind len) e = refl
  object_no_int (Refs element len shape) e = refl
  object_no_int (Unk bound nullable shape) e = refl

  thrown_alike : (x y : Option ℕ) → ((id : ℕ) → x ≡ Some id → HasCell is_object a id)
      → ((id : ℕ) → y ≡ Some id → HasCell is_object b id) → AllAlike (some_in (thrown_pair x y))
  thrown_alike None y h k = tt
  thrown_alike (Some x) None h k = tt
  thrown_alike (Some x) (Some y) h k =
      let first = h x refl in
      let second = k y refl in (
        others_alike x y
            (record { cell = first.cell; is = first.is; sort_is = object_no_int first.cell first.sort_is })
            (record { cell = second.cell; is = second.is; sort_is = object_no_int second.cell second.sort_is }),
        tt,
      )

  -- ---- behind pairs

  module _ (types : WorldTypes) (sound : IsSound types a) (other_sound : IsSound types b) where
    row_alike : (p q : Cell) → IsSoundCell types a p → IsSoundCell types b q → AllAlike (pairs_of (row_of p q))
    row_alike (Int i) q h k = row_pairs AllAlike tt (λ j. ints i j) (interval_in q) (λ j e. tt)
    row_alike Null q h k = null_pairs AllAlike tt (is_null q)
    row_alike (Obj class ids) q h k =
        row_pairs AllAlike tt (λ more. instances class ids more) (fields_in class q)
        (λ more e. let second = subst (IsSoundCell types b) (field_cell class q more e) k in slots_alike (types.fields class) ids
        more h.1.1 second.1.1)
    row_alike (Nums kind len) q h k =
        row_pairs AllAlike tt (λ more. numbers kind len more) (length_in kind q)
        (λ more e. let found = length_cell kind q more e in (ints_alike len more h (subst (IsSoundCell types b) found.1.0 k), tt))
    row_alike (Refs element len shape) q h k =
        row_pairs AllAlike tt (λ array. arrays element array.0 len array.1) (array_in q)
        (λ array e. let found = array_cell q array e in let second = subst (IsSoundCell types b) found.1 k in
        (ints_alike len array.1 h.0 second.0, tt))
    row_alike (Unk bound nullable shape) q h k = tt

    below_alike : (above : ℕ × ℕ) → AllAlike (pairs_below a b above)
    below_alike above = go (cell_at a above.0) (cell_at b above.1) refl refl
      where
        go : (o r : Option Cell) → cell_at a above.0 ≡ o → cell_at b above.1 ≡ r → AllAlike (pairs_in (row_of_cells o r))
        go None r e f = tt
        go (Some p) None e f = tt
        go (Some p) (Some q) e f = row_alike p q (sound_at types a sound above.0 p e) (sound_at types b other_sound above.1 q f)

    module _ (alike : AreAlike a b) where
      pub positions_alike : AllAlike (position_pairs a b)
      positions_alike =
          all_joined Alike (frames_pairs a b (reverse a.frames) (reverse b.frames)) (some_in (thrown_pair a.throwing b.throwing))
          (frames_alike (reverse a.frames) (reverse b.frames) (all_reversed (AreFramesAlike a b) a.frames b.frames alike.frames))
          (thrown_alike a.throwing b.throwing sound.thrown other_sound.thrown)

      pub paired_alike : (p : ℕ × ℕ) → IsPaired a b p → Alike p
      paired_alike p (placed x h) = holds_among Alike (position_pairs a b) p positions_alike h
      paired_alike p (named above x k h) = holds_among Alike (pairs_below a b above) p (below_alike above) h

      pair_cells : (p : ℕ × ℕ) → Alike p → ArePairCells types a b p
      pair_cells p h = elim (which_alike p.0 p.1 h) [
        | inl t ↦ record {
          p = t.0.cell;
          q = t.1.cell;
          of = record {
            first = t.0.is;
            second = t.1.is;
            first_sound = sound_at types a sound p.0 t.0.cell t.0.is;
            second_sound = sound_at types b other_sound p.1 t.1.cell t.1.is;
            alike = t.0.sort_is ∙ sym t.1.sort_is;
          };
        }
        | inr t ↦ record {
          p = t.0.cell;
          q = t.1.cell;
          of = record {
            first = t.0.is;
            second = t.1.is;
            first_sound = sound_at types a sound p.0 t.0.cell t.0.is;
            second_sound = sound_at types b other_sound p.1 t.1.cell t.1.is;
            alike = no_true t.0.cell t.0.sort_is ∙ sym (no_true t.1.cell t.1.sort_is);
          };
        }
      ]
        where
          no_true : (cell : Cell) → is_no_int cell ≡ true → is_int cell ≡ false
          no_true cell e = elim (cases_Bool (is_int cell)) [
            | inl t ↦ absurd (false≢true (sym (not_from_true (is_int cell) t) ∙ e))
            | inr f ↦ f
          ]

      pub paired_cells : (p : ℕ × ℕ) → IsPaired a b p → ArePairCells types a b p
      paired_cells p h = pair_cells p (paired_alike p h)

      pub all_paired_cells : (pairs : List (ℕ × ℕ)) → AllByRecursion (IsPaired a b) pairs → AllByRecursion (ArePairCells types a b) pairs
      all_paired_cells [] h = tt
      all_paired_cells (p ∷ pairs) h = (paired_cells p h.0, all_paired_cells pairs h.1)

-- the frames have as many locals and stacks of one depth
pub all_as_long : (a b : AbstractState) (frames others : List AbstractFrame) → AllZip (AreFramesAlike a b) frames others
    → AllZip AreAsLong frames others
all_as_long a b [] [] h = tt
all_as_long a b [] (o ∷ others) h = absurd h
all_as_long a b (f ∷ frames) [] h = absurd h
all_as_long a b (f ∷ frames) (o ∷ others) h = (
  record { locals = h.0.locals; stacks = length_all_zip (λ x y. are_alike a b x y ≡ true) f.stack o.stack h.0.stacks },
  all_as_long a b frames others h.1,
)
