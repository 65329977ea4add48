-- Both states are instances of a widening.
use Rattle.std.proofs.Common.{◌≡◌, ◌⊎◌, ℕ, ◌<◌, ◌==◌, Bool, true, false, not, ◌&&◌, ◌||◌, List, map, Option, Some, refl, sym, ap}
use Rattle.std.proofs.Common.{subst, ◌∙◌, inl, inr, arith, eq-eqb}
use Rattle.std.specs.Prelude.{slice_get}
use Rattle.std.specs.List.{list_any}
use Rattle.std.proofs.lemmas.Bool.{and_from, or_left, or_right, cases_eq, cases_lt, false≢true, false_from_ne_true, not_from_false}
use Rattle.std.proofs.lemmas.Map.Keys.{any_passes_from_place}
use Rattle.jvm_values.proofs.Options.{some_is}
use Rattle.jvm_values.specs.declared.shape.Shape.{Shape}
use Rattle.jvm_values.specs.TypedHeaps.{WorldTypes}
use Rattle.abs_cells.specs.declared.cells.Cell.{Cell}
use Rattle.abs_cells.specs.declared.cells.Cell.TheVariants.{Int, Null, Obj, Nums, Refs, Unk}
use Rattle.abs_cells.specs.AbstractStates.{AbstractState}
use Rattle.abs_cells.specs.PairLists.{is_same}
use Rattle.abs_cells.specs.Cells.{is_known, is_hazy, is_reference, ids_in, shape_of, cell_at, HasCell, AreEqual}
use Rattle.abs_cells.specs.Closures.{MayMeet, MayBeIn}
use Rattle.abs_cells.specs.Sound.{IsSound, IsWellFormed}
use Rattle.abs_cells.proofs.PairLaws.{has_swapped, same_is}
use Rattle.abs_reach.specs.Instances.{image_in, Place, id_at, head_of, is_thrown, IsOver, MayBeOne, is_no_int, AreMapped}
use Rattle.abs_reach.specs.Instances.{HasIdShape, whole_map, positions, mode, cells, aliases, sharing, shapes, Meets, InstanceOf}
use Rattle.abs_reach.proofs.Walks.{known_is_reference, hazy_is_reference, not_one}
use Rattle.abs_widen.specs.Rows.{Row, ints, nulls, instances, numbers, arrays, unlike, gives_known}
use Rattle.abs_widen.specs.Widening.{number_of, merged_frames, AreAlike, IsRowCell, IsCellUnless, IsMergedCell, is_known_row}
use Rattle.abs_widen.specs.Widening.{is_known_pair, clashes_with, clashes, MayJoin, OnOneSide, IsWidening}
use Rattle.abs_widen.specs.Laws.{IsInstance, AreProper, WideningsAreWider}
use Rattle.abs_widen.proofs.Closed.{number_at, one_place, pairs_differ}
use Rattle.abs_widen.proofs.Covered.{made_as, first_over, second_over, first_shaped, second_shaped}
use Rattle.abs_widen.proofs.Left.{IsLeft, long, left, place_there, thrown_there, entries, image_at, image_of, image_cell}
use Rattle.abs_widen.proofs.Left.{entries_list, cells_of, closed_at}
use Rattle.abs_widen.proofs.Placed.{StandsFor, first_heads, same_heads, thrown_same, stands_for, thrown_stands}

-- ---- sorts of cells

over_reference : (types : WorldTypes) (list : List (ℕ × ℕ)) (c below : Cell) → is_no_int c ≡ true → IsOver types.sub list c below
    → is_reference below ≡ true → is_reference c ≡ true
over_reference types list (Int i) below apart over h = absurd (false≢true apart)
over_reference types list Null below apart over h = absurd (false≢true (ap is_reference (sym over) ∙ h))
over_reference types list (Obj class ids) below apart over h = refl
over_reference types list (Nums kind len) below apart over h = refl
over_reference types list (Refs element len shape) below apart over h = refl
over_reference types list (Unk bound nullable shape) below apart over h = refl

over_known : (types : WorldTypes) (list : List (ℕ × ℕ)) (c below : Cell) → IsOver types.sub list c below → is_known c ≡ true
    → is_known below ≡ true
over_known types list (Int i) below over h = absurd (false≢true h)
over_known types list Null below over h = absurd (false≢true h)
over_known types list (Obj class ids) below over h = ap is_known over.1.0
over_known types list (Nums kind len) below over h = ap is_known over.1.0
over_known types list (Refs element len shape) below over h = absurd (false≢true h)
over_known types list (Unk bound nullable shape) below over h = absurd (false≢true h)

-- ---- a known cell's pair clashes with no other one

module _ (types : WorldTypes) (a b : AbstractState) (pairs : List (ℕ × ℕ)) where
  not_known : (pair : ℕ × ℕ) (p q made cell : Cell) → cell ≡ made → is_known made ≡ false → is_known cell ≡ true → ⊥
  not_known pair p q made cell e f h = false≢true (sym f ∙ ap is_known (sym e) ∙ h)

  known_row : (pair : ℕ × ℕ) (p q cell : Cell) (row : Row) → IsRowCell types a b pairs pair p q row cell → is_known cell ≡ true
      → gives_known row ≡ true
  known_row pair p q cell (ints i j) h k = absurd (not_known pair p q (Int h.interval) cell h.is refl k)
  known_row pair p q cell nulls h k = absurd (not_known pair p q Null cell h refl k)
  known_row pair p q cell (instances class ids more) h k = refl
  known_row pair p q cell (numbers kind len more) h k = refl
  known_row pair p q cell (arrays element other len more) h k = absurd
      (not_known pair p q (Refs h.join (number_of pairs (len, more)) h.shape) cell h.is refl k)
  known_row pair p q cell unlike h k = absurd (not_known pair p q (Unk h.bound _ h.shape) cell h.is refl k)

  known_unless : (pair : ℕ × ℕ) (p q cell : Cell) (row : Row) (t : Bool) → IsCellUnless t types a b pairs pair p q row cell
      → is_known cell ≡ true → (t ≡ false) × (gives_known row ≡ true)
  known_unless pair p q cell row true h k = absurd (not_known pair p q (Unk h.bound _ h.shape) cell h.is refl k)
  known_unless pair p q cell row false h k = (refl, known_row pair p q cell row h k)

  known_made : (pair : ℕ × ℕ) (cell : Cell) → IsMergedCell types a b pairs pair cell → is_known cell ≡ true
      → (clashes a b pairs pair ≡ false) × (is_known_pair a b pair ≡ true)
  known_made pair cell made k =
      let parts = known_unless pair made.p made.q cell made.row (clashes a b pairs pair) made.is k in
      (parts.0, ap is_known_row made.row_is ∙ parts.1)

  -- two known pairs with an id in common are one
  no_clash : (m n : ℕ) (x y : ℕ × ℕ) (c d : Cell) → slice_get pairs m ≡ Some x → slice_get pairs n ≡ Some y
      → IsMergedCell types a b pairs x c → IsMergedCell types a b pairs y d → is_known c ≡ true → is_known d ≡ true
      → (x.0 ≡ y.0) ⊎ (x.1 ≡ y.1) → is_same x y ≡ false → ⊥
  no_clash m n x y c d e f made other k l common apart =
      let first = known_made x c made k in
      let second = known_made y d other l in
      let touches : ((x.0 == y.0) || (x.1 == y.1)) ≡ true = elim common [
        | inl s ↦ or_left (x.0 == y.0) (x.1 == y.1) (eq-eqb x.0 y.0 s)
        | inr s ↦ or_right (x.0 == y.0) (x.1 == y.1) (eq-eqb x.1 y.1 s)
      ] in
      let clash : clashes_with a b x y ≡ true =
      and_from (is_known_pair a b y) (not (is_same x y) && ((x.0 == y.0) || (x.1 == y.1))) second.1
      (and_from (not (is_same x y)) ((x.0 == y.0) || (x.1 == y.1)) (not_from_false (is_same x y) apart) touches) in
      let some : list_any (clashes_with a b x) pairs ≡ true = any_passes_from_place (clashes_with a b x) pairs n y f clash in
      false≢true (sym first.0 ∙ and_from (is_known_pair a b x) (list_any (clashes_with a b x) pairs) first.1 some)

-- ---- one side

-- what a widening has of one of the two states
pub record IsSide (types : WorldTypes) (a b result : AbstractState) (pairs : List (ℕ × ℕ)) (list : List (ℕ × ℕ))
    (state : AbstractState) (pick : ℕ × ℕ → ℕ) : Type 0 where
  pub good : IsWellFormed state
  pub proper : AreProper state
  pub one : (x y : ℕ × ℕ) → MayBeOne state (pick x) (pick y) → MayBeOne a x.0 y.0 ⊎ MayBeOne b x.1 y.1
  pub meet : (x y : ℕ × ℕ) → MayMeet state (pick x) (pick y) → MayMeet a x.0 y.0 ⊎ MayMeet b x.1 y.1
  pub inside : (x y : ℕ × ℕ) → MayBeIn state (pick x) (pick y) → MayBeIn a x.0 y.0 ⊎ MayBeIn b x.1 y.1
  pub common : (x y : ℕ × ℕ) → pick x ≡ pick y → (x.0 ≡ y.0) ⊎ (x.1 ≡ y.1)
  pub over : (n : ℕ) (c : Cell) (l : IsLeft types a b pairs result n c)
      → (below : Cell) × ((cell_at state (pick l.pair) ≡ Some below) × IsOver types.sub list c below)
  pub shaped : (n : ℕ) (c : Cell) (l : IsLeft types a b pairs result n c) (shape : Shape) → shape_of c ≡ Some shape
      → HasIdShape shape state (pick l.pair)
  pub heads : map head_of state.frames ≡ map head_of result.frames
  pub thrown : is_thrown state.throwing ≡ is_thrown result.throwing
  pub places : (place : Place) (id : ℕ) (pair : ℕ × ℕ) → id_at a place ≡ Some pair.0 → id_at b place ≡ Some pair.1
      → id_at state place ≡ Some (pick pair)
  pub throws : (pair : ℕ × ℕ) → a.throwing ≡ Some pair.0 → b.throwing ≡ Some pair.1 → state.throwing ≡ Some (pick pair)

module _ (types : WorldTypes) (a b result : AbstractState) (alike : AreAlike a b) (w : IsWidening types a b result)
    (state : AbstractState) (pick : ℕ × ℕ → ℕ)
    (s : IsSide types a b result w.pairs (entries types a b result alike w pick) state pick) where
  abbrev list : List (ℕ × ℕ)
  list = entries types a b result alike w pick

  left_of : (sort : Cell → Bool) (n : ℕ) (h : HasCell sort result n) → IsLeft types a b w.pairs result n h.cell
  left_of sort n h = left types a b result alike w n h.cell h.is

  image_is : (sort : Cell → Bool) (n : ℕ) (h : HasCell sort result n) (image : ℕ) → image_in list n ≡ Some image
      → image ≡ pick (left_of sort n h).pair
  image_is sort n h image e = image_of types a b result alike w pick n image (left_of sort n h).pair e (left_of sort n h).pair_is

  below_of : (sort : Cell → Bool) (n : ℕ) (h : HasCell sort result n)
      → (below : Cell) × ((cell_at state (pick (left_of sort n h).pair) ≡ Some below) × IsOver types.sub list h.cell below)
  below_of sort n h = s.over n h.cell (left_of sort n h)

  -- what stands for a pair has its image
  stands_image : (first second : Option ℕ) (id : ℕ) → HasCell (λ _. true) result id → (x : StandsFor w.pairs first second id)
      → image_in list id ≡ Some (pick x.pair)
  stands_image first second id h x = image_at types a b result alike w pick id x.pair h (ap (slice_get w.pairs) (sym x.number)
      ∙ number_at w.pairs x.pair x.among)

  frames_are : result.frames ≡ merged_frames a b w.pairs a.frames b.frames
  frames_are = w.is.dropped.frames ∙ w.is.is_merged.frames

  meets_positions : (id : ℕ) → Meets types.sub state result list positions id
  meets_positions id place e =
      let x = stands_for a b result w.pairs w.are_pairs (long types a b result alike w) frames_are place id e in (
        pick x.pair,
        (
          stands_image (id_at a place) (id_at b place) id (place_there types a b result alike w place id e) x,
          s.places
              place id x.pair x.first_is x.second_is,
        ),
      )

  meets_mode : (id : ℕ) → Meets types.sub state result list mode id
  meets_mode id e =
      let x = thrown_stands a b result w.pairs w.are_pairs (long types a b result alike w)
      (w.is.dropped.throwing ∙ w.is.is_merged.throwing) id e in (
        pick x.pair,
        (
          stands_image a.throwing b.throwing id (thrown_there types a b result alike w id e) x,
          s.throws x.pair
              x.first_is x.second_is,
        ),
      )

  meets_map : (id : ℕ) → Meets types.sub state result list whole_map id
  meets_map id image e =
      let found = image_cell types a b result alike w pick id image e in
      let h : HasCell (λ _. true) result id = record { cell = found.0; is = found.1; sort_is = refl } in
      let below = below_of (λ _. true) id h in
      record { cell = below.0; is = ap (cell_at state) (image_is (λ _. true) id h image e) ∙ below.1.0; sort_is = refl }

  meets_cells : (id : ℕ) → Meets types.sub state result list cells id
  meets_cells id cell e =
      let h : HasCell (λ _. true) result id = record { cell = cell; is = e; sort_is = refl } in
      let l = left_of (λ _. true) id h in
      let below = below_of (λ _. true) id h in
      record {
        image = pick l.pair;
        below = below.0;
        maps = image_at types a b result alike w pick id l.pair h l.pair_is;
        stands =
            below.1.0;
        over = below.1.1;
      }

  meets_shapes : (id : ℕ) → Meets types.sub state result list shapes id
  meets_shapes id cell shape image e f g =
      let h : HasCell (λ _. true) result id = record { cell = cell; is = e; sort_is = refl } in
      subst (HasIdShape shape state) (sym (image_is (λ _. true) id h image g)) (s.shaped id cell (left_of (λ _. true) id h) shape f)

  -- pairs of ids

  one_side : (holds : AbstractState → ℕ → ℕ → Type 0)
      → ((x y : ℕ × ℕ) → holds state (pick x) (pick y) → holds a x.0 y.0 ⊎ holds b x.1 y.1) → (m n : ℕ) (x y : ℕ × ℕ)
      → slice_get w.pairs m ≡ Some x → slice_get w.pairs n ≡ Some y → holds state (pick x) (pick y) → OnOneSide holds a b w.pairs m n
  one_side holds side m n x y e f h = record { p = x; q = y; first = e; second = f; side = side x y h }

  module _ (sort other_sort : Cell → Bool) (id other image other_image : ℕ)
      (m : AreMapped result list sort other_sort id other image other_image) where
    abbrev this : IsLeft types a b w.pairs result id m.is.cell
    this = left_of sort id m.is

    abbrev that : IsLeft types a b w.pairs result other m.other_is.cell
    that = left_of other_sort other m.other_is

    moved : (holds : AbstractState → ℕ → ℕ → Type 0)
        → ((x y : ℕ × ℕ) → holds state (pick x) (pick y) → holds a x.0 y.0 ⊎ holds b x.1 y.1) → holds state image other_image
        → OnOneSide holds a b w.pairs id other
    moved holds side h =
        one_side holds side id other this.pair that.pair this.pair_is that.pair_is
        (subst (λ (x : ℕ). holds state x (pick that.pair)) (image_is sort id m.is image m.maps)
        (subst (λ (y : ℕ). holds state image y) (image_is other_sort other m.other_is other_image m.other_maps) h))

    moved_back : (holds : AbstractState → ℕ → ℕ → Type 0)
        → ((x y : ℕ × ℕ) → holds state (pick x) (pick y) → holds a x.0 y.0 ⊎ holds b x.1 y.1) → holds state other_image image
        → OnOneSide holds a b w.pairs other id
    moved_back holds side h =
        one_side holds side other id that.pair this.pair that.pair_is this.pair_is
        (subst (λ (y : ℕ). holds state (pick that.pair) y) (image_is sort id m.is image m.maps)
        (subst (λ (x : ℕ). holds state x image) (image_is other_sort other m.other_is other_image m.other_maps) h))

    pairs_apart : is_same this.pair that.pair ≡ false
    pairs_apart = false_from_ne_true (is_same this.pair that.pair) (λ t.
        m.differ (one_place w.pairs (pairs_differ a b w.pairs w.are_pairs) id other this.pair this.pair_is
        (that.pair_is ∙ ap Some (sym (same_is this.pair that.pair t)))))

    -- both are not known where they may be one
    one_not_both : MayBeOne state image other_image → is_known m.is.cell ≡ true → is_known m.other_is.cell ≡ true → ⊥
    one_not_both h k l =
        let x = image_is sort id m.is image m.maps in
        let y = image_is other_sort other m.other_is other_image m.other_maps in
        let below = below_of sort id m.is in
        let under = below_of other_sort other m.other_is in
        let known : HasCell is_known state image = record {
          cell = below.0;
          is = ap (cell_at state) x
              ∙ below.1.0;
          sort_is = over_known types list m.is.cell below.0 below.1.1 k;
        } in
        let known_too : HasCell is_known state other_image = record {
          cell = under.0;
          is = ap (cell_at state) y
              ∙ under.1.0;
          sort_is = over_known types list m.other_is.cell under.0 under.1.1 l;
        } in
        (elim h [
          | inl e ↦
              no_clash types a b w.pairs id other this.pair that.pair m.is.cell m.other_is.cell this.pair_is that.pair_is this.made
              that.made k l (s.common this.pair that.pair (sym x ∙ e.0 ∙ y)) pairs_apart
          | inr e ↦ elim (cases_lt image other_image) [
            | inl less ↦ s.good.not_both_known image other_image less (s.good.shared image other_image e) known known_too
            | inr more ↦ elim (cases_eq image other_image) [
              | inl same ↦ s.proper image (subst (λ (z : ℕ). AreEqual state image z) (sym same) e)
              | inr differ ↦
                  let less : other_image < image = omega (arith, more, differ) in
                  s.good.not_both_known other_image image less
                  (s.good.shared other_image image (has_swapped image other_image state.eq ∙ e)) known_too known
            ]
          ]
        ])

    -- both images are references where they may be one
    one_references : MayBeOne state image other_image → HasCell is_reference state image × HasCell is_reference state other_image
    one_references (inl e) = (e.1, subst (HasCell is_reference state) e.0 e.1)
    one_references (inr e) = elim (cases_lt image other_image) [
      | inl less ↦
          let share = s.good.shared image other_image e in
          (s.good.left image other_image less share, s.good.right image other_image less share)
      | inr more ↦ elim (cases_eq image other_image) [
        | inl same ↦ absurd (s.proper image (subst (λ (z : ℕ). AreEqual state image z) (sym same) e))
        | inr differ ↦
            let less : other_image < image = omega (arith, more, differ) in
            let share = s.good.shared other_image image (has_swapped image other_image state.eq ∙ e) in
            (s.good.right other_image image less share, s.good.left other_image image less share)
      ]
    ]

  reference_over : (sort : Cell → Bool) (n : ℕ) (h : HasCell sort result n) (image : ℕ) → image_in list n ≡ Some image
      → is_no_int h.cell ≡ true → HasCell is_reference state image → HasCell is_reference result n
  reference_over sort n h image e apart r =
      let below = below_of sort n h in
      let same : r.cell ≡ below.0 = some_is (sym r.is ∙ ap (cell_at state) (image_is sort n h image e) ∙ below.1.0) in
      record {
        cell = h.cell;
        is = h.is;
        sort_is = over_reference types list h.cell below.0 apart below.1.1
            (ap is_reference (sym same) ∙ r.sort_is);
      }

  meets_aliases : (id : ℕ) → Meets types.sub state result list aliases id
  meets_aliases id other image other_image m one =
      let refs = one_references is_no_int is_no_int id other image other_image m one in
      let join : MayJoin result id other = record {
        differ = m.differ;
        first = reference_over is_no_int id m.is image m.maps m.is.sort_is refs.0;
        second = reference_over is_no_int other m.other_is other_image m.other_maps m.other_is.sort_is refs.1;
        not_both = λ h k.
            one_not_both is_no_int is_no_int id other image other_image m one (ap is_known (some_is (sym m.is.is ∙ h.is)) ∙ h.sort_is)
            (ap is_known (some_is (sym m.other_is.is ∙ k.is)) ∙ k.sort_is);
      } in
      (w.is.eq id other).1 (join, moved is_no_int is_no_int id other image other_image m MayBeOne s.one one)

  meets_sharing : (id : ℕ) → Meets types.sub state result list sharing id
  meets_sharing id = record {
    meets = λ other image other_image m h.
        (w.is.share id other).1 (
          record {
            differ = m.differ;
            first = hazy_is_reference result id m.is;
            second = hazy_is_reference result other m.other_is;
            not_both = λ k l. not_one result id id k m.is refl;
          },
          inr (inl ((m.is, m.other_is), moved is_hazy is_hazy id other image other_image m MayMeet s.meet h)),
        );
    is_in = λ other image other_image m h.
        (w.is.share id other).1 (
          record {
            differ = m.differ;
            first = known_is_reference result id m.is;
            second = hazy_is_reference result other m.other_is;
            not_both = λ k l. not_one result other other l m.other_is refl;
          },
          inr (inr (inl ((m.is, m.other_is), moved is_known is_hazy id other image other_image m MayBeIn s.inside h))),
        );
    holds = λ other image other_image m h.
        (w.is.share id other).1 (
          record {
            differ = m.differ;
            first = hazy_is_reference result id m.is;
            second = known_is_reference result other m.other_is;
            not_both = λ k l. not_one result id id k m.is refl;
          },
          inr (inr (inr ((m.other_is, m.is), moved_back is_hazy is_known id other image other_image m MayBeIn s.inside h))),
        );
  }

  pub is_instance : InstanceOf types.sub state result list
  is_instance whole_map = (record { each = entries_list types a b result alike w pick; rise = w.is.rising }, meets_map)
  is_instance positions = (s.heads, meets_positions)
  is_instance mode = (s.thrown, meets_mode)
  is_instance cells = (tt, meets_cells)
  is_instance aliases = (tt, meets_aliases)
  is_instance sharing = (tt, meets_sharing)
  is_instance shapes = (tt, meets_shapes)

-- ---- both sides

module _ (types : WorldTypes) (a b result : AbstractState) (first : IsSound types a) (second : IsSound types b)
    (alike : AreAlike a b) (w : IsWidening types a b result) where
  named_image : (pick : ℕ × ℕ → ℕ) (n : ℕ) (c : Cell) (l : IsLeft types a b w.pairs result n c) (i y : ℕ) (r : ℕ × ℕ)
      → slice_get (ids_in c) i ≡ Some y → slice_get w.pairs y ≡ Some r → image_in (entries types a b result alike w pick) y ≡ Some (pick r)
  named_image pick n c l i y r e f = image_at types a b result alike w pick y r (l.named i y e) f

  abbrev left_pick : ℕ × ℕ → ℕ
  left_pick = λ x. x.0

  abbrev right_pick : ℕ × ℕ → ℕ
  right_pick = λ x. x.1

  frames_here : map head_of a.frames ≡ map head_of result.frames
  frames_here = first_heads a b w.pairs a.frames b.frames alike.frames
      ∙ ap (map head_of) (sym (w.is.dropped.frames ∙ w.is.is_merged.frames))

  thrown_here : is_thrown a.throwing ≡ is_thrown result.throwing
  thrown_here = thrown_same w.pairs a.throwing b.throwing alike.mode ∙ ap is_thrown (sym (w.is.dropped.throwing ∙ w.is.is_merged.throwing))

  first_side : AreProper a → IsSide types a b result w.pairs (entries types a b result alike w left_pick) a left_pick
  first_side proper = record {
    good = first.well_formed;
    proper = proper;
    one = λ x y h. inl h;
    meet = λ x y h. inl h;
    inside = λ x y h. inl h;
    common = λ x y e. inl e;
    over = λ n c l.
        let of = cells_of types a b result first second alike w n c l in (
          l.made.p,
          (
            l.made.first,
            first_over types a b w.pairs (entries types a b result alike w left_pick) l.pair l.made.p l.made.q
                c of (named_image left_pick n c l)
                (made_as types a b w.pairs l.pair c l.made of (closed_at types a b result first second alike w n c l)),
          ),
        );
    shaped = λ n c l shape e. first_shaped types a b w.pairs l.pair c l.made (cells_of types a b result first second alike w n c l)
        shape e;
    heads = frames_here;
    thrown = thrown_here;
    places = λ place id pair e f. e;
    throws = λ pair e f. e;
  }

  second_side : AreProper b → IsSide types a b result w.pairs (entries types a b result alike w right_pick) b right_pick
  second_side proper = record {
    good = second.well_formed;
    proper = proper;
    one = λ x y h. inr h;
    meet = λ x y h. inr h;
    inside = λ x y h. inr h;
    common = λ x y e. inr e;
    over = λ n c l.
        let of = cells_of types a b result first second alike w n c l in (
          l.made.q,
          (
            l.made.second,
            second_over types a b w.pairs (entries types a b result alike w right_pick) l.pair l.made.p
                l.made.q c of (named_image right_pick n c l)
                (made_as types a b w.pairs l.pair c l.made of (closed_at types a b result first second alike w n c l)),
          ),
        );
    shaped = λ n c l shape e. second_shaped types a b w.pairs l.pair c l.made (cells_of types a b result first second alike w n c l)
        shape e;
    heads = same_heads a b w.pairs a.frames b.frames alike.frames ∙ frames_here;
    thrown = sym alike.mode ∙ thrown_here;
    places = λ place id pair e f. f;
    throws = λ pair e f. f;
  }

  pub both_wider : AreProper a → AreProper b → IsInstance types a result × IsInstance types b result
  both_wider h k = (
    (entries types a b result alike w left_pick, is_instance types a b result alike w a left_pick (first_side h)),
    (entries types a b result alike w right_pick, is_instance types a b result alike w b right_pick (second_side k)),
  )

pub wider : WideningsAreWider
wider types a b result first second proper other_proper alike w = both_wider types a b result first second alike w proper other_proper
