-- A widening of two sound states is sound.
use Rattle.std.proofs.Common.{◌≡◌, ◌≢◌, ℕ, zero, suc, ℤ, pos, negsuc, ◌==◌, Bool, true, false, not, ◌||◌, List, [], ◌∷◌, map, zip}
use Rattle.std.proofs.Common.{length, get_or, Option, Some, None, refl, sym, ap, subst, ◌∙◌, inl, inr, arith, eq-eqb, append_assoc}
use Rattle.std.specs.Prelude.{slice_get, int_le, if◌then◌else◌}
use Rattle.std.specs.List.{AllZip, AllByRecursion, flat_map}
use Rattle.std.proofs.lemmas.Bool.{or_from, false≢true, cases_Bool, not_from_true}
use Rattle.std.proofs.lemmas.Int.{ints}
use Rattle.std.proofs.lemmas.Option.{slice_get_within, get_or_from_slice_get, none-some}
use Rattle.std.proofs.lemmas.Map.Keys.{any_passes_from_place}
use Rattle.list_views.proofs.Quantified.{all_joined, all_places}
use Rattle.jvm_values.proofs.Options.{some_is}
use Rattle.jvm_values.proofs.Joining.{arrays_join}
use Rattle.jvm_values.specs.declared.types.Ty.{Ty}
use Rattle.jvm_values.specs.declared.types.Kind.TheVariants as kinds
use Rattle.jvm_values.specs.declared.types.Slot.{Slot}
use Rattle.jvm_values.specs.declared.types.Slot.TheVariants as slots
use Rattle.jvm_values.specs.Kinds.{IsOfKind}
use Rattle.jvm_values.specs.Subtyping.{array_of, IsReference, IsErased}
use Rattle.jvm_values.specs.Joins.{IsJoin}
use Rattle.jvm_values.specs.TypedHeaps.{WorldTypes, AreLawful}
use Rattle.abs_cells.specs.declared.cells.Cell.{Cell}
use Rattle.abs_cells.specs.declared.cells.Cell.TheVariants.{Int, Null, Obj, Nums, Refs, Unk}
use Rattle.abs_cells.specs.AbstractStates.{AbstractFrame, AbstractState}
use Rattle.abs_cells.specs.Cells.{is_int, ids_in, type_of_cell, cell_at, HasCell, can_be_null}
use Rattle.abs_cells.specs.Sound.{given_ids, ids_of_frame, ids_used, IsOfSlot, IsSoundCell, is_object, IsWellFormed, IsSound}
use Rattle.abs_reach.specs.Instances.{is_no_int}
use Rattle.abs_reach.specs.Reached.{positions}
use Rattle.abs_reach.proofs.Finding.{stands}
use Rattle.abs_widen.specs.Rows.{bound_below, bound_above, widened_lo, widened_hi}
use Rattle.abs_widen.specs.inner.Visiting.{AreCellsOf}
use Rattle.abs_widen.specs.Widening.{number_of, merged_frame, merged_frames, AreFramesAlike, AreAlike, IsTypeOver, IsWidening}
use Rattle.abs_widen.specs.Laws.{WideningsAreSound}
use Rattle.abs_widen.proofs.Closed.{among_at, number_at}
use Rattle.abs_widen.proofs.Covered.{AreAllAmong, MadeAs, made_as}
use Rattle.abs_widen.proofs.Covered.MadeAs.{hazed, both_ints, both_null, both_instances, both_numbers, both_arrays}
use Rattle.abs_widen.proofs.Left.{IsLeft, long, left, position_there, thrown_there, cells_of, closed_at}
use Rattle.abs_widen.proofs.Placed.{thrown_stands}
use Rattle.abs_widen.proofs.Whole.{all_from}

-- ---- bounds of 32 bits

abbrev IsBound : ℤ → Type 0
IsBound n = IsOfKind kinds.Int n

chosen : (t : Bool) (x y : ℤ) → IsBound x → IsBound y → IsBound (if t then x else y)
chosen true x y h k = h
chosen false x y h k = k

greatest : IsBound (pos 2147483647)
greatest = (omega (arith, ints), omega (arith, ints))

almost_greatest : IsBound (pos 2147483646)
almost_greatest = (omega (arith, ints), omega (arith, ints))

nought : IsBound (pos 0)
nought = (omega (arith, ints), omega (arith, ints))

almost_least : IsBound (negsuc 2147483646)
almost_least = (omega (arith, ints), omega (arith, ints))

least : IsBound (negsuc 2147483647)
least = (omega (arith, ints), omega (arith, ints))

below_bound : (n : ℤ) → IsBound (bound_below n)
below_bound n =
    chosen (int_le (pos 2147483647) n) (pos 2147483647)
    (if int_le (pos 2147483646) n then pos 2147483646 else if int_le (pos 0) n then pos 0 else if int_le (negsuc 2147483646) n
    then negsuc 2147483646 else negsuc 2147483647) greatest
    (chosen (int_le (pos 2147483646) n) (pos 2147483646)
    (if int_le (pos 0) n then pos 0 else if int_le (negsuc 2147483646) n then negsuc 2147483646 else negsuc 2147483647)
    almost_greatest
    (chosen (int_le (pos 0) n) (pos 0) (if int_le (negsuc 2147483646) n then negsuc 2147483646 else negsuc 2147483647) nought
    (chosen (int_le (negsuc 2147483646) n) (negsuc 2147483646) (negsuc 2147483647) almost_least least)))

above_bound : (n : ℤ) → IsBound (bound_above n)
above_bound n =
    chosen (int_le n (negsuc 2147483647)) (negsuc 2147483647)
    (if int_le n (negsuc 2147483646) then negsuc 2147483646 else if int_le n (pos 0) then pos 0 else if int_le n
    (pos 2147483646) then pos 2147483646 else pos 2147483647) least
    (chosen (int_le n (negsuc 2147483646)) (negsuc 2147483646)
    (if int_le n (pos 0) then pos 0 else if int_le n (pos 2147483646) then pos 2147483646 else pos 2147483647) almost_least
    (chosen (int_le n (pos 0)) (pos 0) (if int_le n (pos 2147483646) then pos 2147483646 else pos 2147483647) nought
    (chosen (int_le n (pos 2147483646)) (pos 2147483646) (pos 2147483647) almost_greatest greatest)))

lo_bound : (old new : ℤ) → IsBound old → IsBound (widened_lo old new)
lo_bound old new h = chosen (int_le old new) old (bound_below new) h (below_bound new)

hi_bound : (old new : ℤ) → IsBound old → IsBound (widened_hi old new)
hi_bound old new h = chosen (int_le new old) old (bound_above new) h (above_bound new)

-- ---- lists

all_of_each : {X : Type 0} (P : ℕ → Type 0) (f : X → List ℕ) (xs : List X)
    → ((n : ℕ) (x : X) → slice_get xs n ≡ Some x → (i y : ℕ) → slice_get (f x) i ≡ Some y → P y) → AllByRecursion P (flat_map f xs)
all_of_each P f [] h = tt
all_of_each P f (x ∷ xs) h = all_joined P (f x) (flat_map f xs) (all_places P (f x) (h 0 x refl))
    (all_of_each P f xs (λ n y e. h (suc n) y e))

-- ---- sorts of cells

-- an object is not null
object_not_null : (c : Cell) → is_object c ≡ true → can_be_null c ≡ false
object_not_null (Int i) e = absurd (false≢true e)
object_not_null Null e = absurd (false≢true e)
object_not_null (Obj class ids) e = refl
object_not_null (Nums kind len) e = refl
object_not_null (Refs element len shape) e = refl
object_not_null (Unk bound nullable shape) e = elim (cases_Bool nullable) [
  | inl t ↦ absurd (false≢true (sym (not_from_true nullable t) ∙ e))
  | inr f ↦ f
]

module _ (types : WorldTypes) (a b : AbstractState) (pairs : List (ℕ × ℕ)) (pair : ℕ × ℕ) (p q cell : Cell) where
  int_is : MadeAs types a b pairs pair p q cell → is_int cell ≡ is_int p
  int_is (hazed apart no_other h) = ap is_int h.is ∙ sym apart
  int_is (both_ints i j e f h) = ap is_int h.is ∙ sym (ap is_int e)
  int_is (both_null e f h) = ap is_int h ∙ sym (ap is_int e)
  int_is (both_instances class ids more e f l among h) = ap is_int h ∙ sym (ap is_int e)
  int_is (both_numbers kind len more e f among h) = ap is_int h ∙ sym (ap is_int e)
  int_is (both_arrays element other len more s t e f among h) = ap is_int h.is ∙ sym (ap is_int e)

  object_is : is_object p ≡ true → is_object q ≡ true → MadeAs types a b pairs pair p q cell → is_object cell ≡ true
  object_is k l (hazed apart no_other h) = ap is_object h.is
      ∙ ap not (or_from (can_be_null p) (can_be_null q) (object_not_null p k) (object_not_null q l))
  object_is k l (both_ints i j e f h) = absurd (false≢true (sym (ap is_object e) ∙ k))
  object_is k l (both_null e f h) = absurd (false≢true (sym (ap is_object e) ∙ k))
  object_is k l (both_instances class ids more e f m among h) = ap is_object h
  object_is k l (both_numbers kind len more e f among h) = ap is_object h
  object_is k l (both_arrays element other len more s t e f among h) = ap is_object h.is

-- ---- the cells

module _ (types : WorldTypes) (laws : AreLawful types) where
  type_sound : (o r : Option Ty) (bound : Ty) → IsTypeOver types o r bound → IsReference types.classes bound × IsErased types.erase bound
  type_sound None None bound h = absurd h
  type_sound None (Some t) bound h = ((laws.of_world t bound h.above.left).1, h.above.erased)
  type_sound (Some s) None bound h = ((laws.of_world s bound h.above.left).1, h.above.erased)
  type_sound (Some s) (Some t) bound h = ((laws.of_world s bound h.above.left).1, h.above.erased)

  module _ (a b result : AbstractState) (pairs : List (ℕ × ℕ)) where
    -- an id of the widening is an int's where the first id of its pair is
    abbrev KeepsSorts : ℕ × ℕ → Type 0
    KeepsSorts r = (HasCell is_int a r.0 → HasCell is_int result (number_of pairs r))
        × (HasCell is_no_int a r.0 → HasCell is_no_int result (number_of pairs r))

    slot_kept : (s : Slot) (r : ℕ × ℕ) → KeepsSorts r → IsOfSlot a s r.0 → IsOfSlot result s (number_of pairs r)
    slot_kept (slots.Num kind) r keeps h = keeps.0 h
    slot_kept (slots.Ref t) r keeps h = keeps.1 h

    slots_kept : (wanted : List Slot) (xs ys : List ℕ) → length xs ≡ length ys → AllZip (IsOfSlot a) wanted xs
        → ((i : ℕ) (r : ℕ × ℕ) → slice_get (zip xs ys) i ≡ Some r → KeepsSorts r)
        → AllZip (IsOfSlot result) wanted (map (number_of pairs) (zip xs ys))
    slots_kept [] [] ys l h keeps = tt
    slots_kept [] (x ∷ xs) ys l h keeps = absurd h
    slots_kept (s ∷ wanted) [] ys l h keeps = absurd h
    slots_kept (s ∷ wanted) (x ∷ xs) [] l h keeps = absurd (omega (arith, l))
    slots_kept (s ∷ wanted) (x ∷ xs) (y ∷ ys) l h keeps =
        (slot_kept s (x, y) (keeps 0 (x, y) refl) h.0, slots_kept wanted xs ys (omega (arith, l)) h.1 (λ i r e. keeps (suc i) r e))

    module _ (pair : ℕ × ℕ) (p q cell : Cell) (of : AreCellsOf types a b pair p q)
        (keeps : (c : Cell) (some : List (ℕ × ℕ)) → cell ≡ c → ids_in c ≡ map (number_of pairs) some → AreAllAmong pairs some
        → (i : ℕ) (r : ℕ × ℕ) → slice_get some i ≡ Some r → KeepsSorts r) where
      made_sound : (c : Cell) → cell ≡ c → IsSoundCell types result c → IsSoundCell types result cell
      made_sound c e h = subst (IsSoundCell types result) (sym e) h

      array_sound : (element other join : Ty) → IsReference types.classes element → IsReference types.classes other
          → IsReference types.classes (array_of element) → IsReference types.classes (array_of other)
          → IsJoin types.sub types.erase element other join
          → (IsReference types.classes join × IsErased types.erase join)
          × (IsReference types.classes (array_of join) × IsErased types.erase (array_of join))
      array_sound element other join r s ra sa h =
          let over = arrays_join types.sub types.erase types.classes types.fields types.can_be_made laws element other join r s ra
          sa h in (
            ((laws.of_world element join h.above.left).1, h.above.erased),
            ((laws.of_world (array_of element) (array_of join) over.above.left).1, over.above.erased),
          )

      sound_cell : MadeAs types a b pairs pair p q cell → IsSoundCell types result cell
      sound_cell (hazed apart no_other h) = made_sound (Unk h.bound (can_be_null p || can_be_null q) h.shape) h.is
          (type_sound (type_of_cell p) (type_of_cell q) h.bound h.type_is)
      sound_cell (both_ints i j e f h) =
          let first = subst (IsSoundCell types a) e of.first_sound in
          made_sound (Int h.interval) h.is (
            subst IsBound (sym h.lo) (lo_bound i.lo j.lo first.0),
            subst IsBound (sym h.hi)
                (hi_bound i.hi j.hi first.1),
          )
      sound_cell (both_null e f h) = made_sound Null h tt
      sound_cell (both_instances class ids more e f l among h) =
          let first = subst (IsSoundCell types a) e of.first_sound in
          let named = Obj class (map (number_of pairs) (zip ids more)) in
          made_sound named h (
            first.0,
            (first.1.0, slots_kept (types.fields class) ids more l first.1.1 (keeps named (zip ids more) h refl among)),
          )
      sound_cell (both_numbers kind len more e f among h) =
          let first = subst (IsSoundCell types a) e of.first_sound in
          let named = Nums kind (number_of pairs (len, more)) in
          made_sound named h ((keeps named ((len, more) ∷ []) h refl among 0 (len, more) refl).0 first)
      sound_cell (both_arrays element other len more s t e f among h) =
          let first = subst (IsSoundCell types a) e of.first_sound in
          let second = subst (IsSoundCell types b) f of.second_sound in
          let named = Refs h.join (number_of pairs (len, more)) h.shape in
          made_sound named h.is (
            (keeps named ((len, more) ∷ []) h.is refl among 0 (len, more) refl).0 first.0,
            array_sound element
                other h.join first.1.0.0 second.1.0.0 first.1.1.0 second.1.1.0 h.type_is,
          )

-- ---- the state

no_frames : (a b : AbstractState) (pairs : List (ℕ × ℕ)) (frames others : List AbstractFrame)
    → AllZip (AreFramesAlike a b) frames others → frames ≢ [] → merged_frames a b pairs frames others ≡ [] → ⊥
no_frames a b pairs [] others h some e = some refl
no_frames a b pairs (f ∷ frames) [] h some e = absurd h
no_frames a b pairs (f ∷ frames) (o ∷ others) h some e = not_empty (merged_frame a b pairs f o) (merged_frames a b pairs frames others) e
  where
    not_empty : (x : AbstractFrame) (xs : List AbstractFrame) → x ∷ xs ≡ [] → ⊥
    not_empty x xs e = cc

module _ (types : WorldTypes) (a b result : AbstractState) (laws : AreLawful types) (first : IsSound types a)
    (second : IsSound types b) (alike : AreAlike a b) (w : IsWidening types a b result) where
  abbrev Left : ℕ → Cell → Type 0
  Left n c = IsLeft types a b w.pairs result n c

  made_of : (n : ℕ) (c : Cell) (l : Left n c) → MadeAs types a b w.pairs l.pair l.made.p l.made.q c
  made_of n c l = made_as types a b w.pairs l.pair c l.made (cells_of types a b result first second alike w n c l)
      (closed_at types a b result first second alike w n c l)

  -- the id of a pair is an int's where the pair's first id is
  sorts_kept : (r : ℕ × ℕ) (y : ℕ) → slice_get w.pairs y ≡ Some r → HasCell (λ _. true) result y
      → (HasCell is_int a r.0 → HasCell is_int result y) × (HasCell is_no_int a r.0 → HasCell is_no_int result y)
  sorts_kept r y e h =
      let l = left types a b result alike w y h.cell h.is in
      let same : l.pair ≡ r = some_is (sym l.pair_is ∙ e) in
      let is = int_is types a b w.pairs l.pair l.made.p l.made.q h.cell (made_of y h.cell l) in
      let there : cell_at a r.0 ≡ Some l.made.p = ap (λ (x : ℕ × ℕ). cell_at a x.0) (sym same) ∙ l.made.first in (
        λ k. record { cell = h.cell; is = h.is; sort_is = is ∙ ap is_int (some_is (sym there ∙ k.is)) ∙ k.sort_is },
        λ k. record { cell = h.cell; is = h.is; sort_is = ap not (is ∙ ap is_int (some_is (sym there ∙ k.is))) ∙ k.sort_is },
      )

  sound_there : (n : ℕ) (c : Cell) → cell_at result n ≡ Some c → IsSoundCell types result c
  sound_there n c e =
      let l = left types a b result alike w n c e in
      sound_cell types laws a b result w.pairs l.pair l.made.p l.made.q c (cells_of types a b result first second alike w n c l)
      (λ d some f g among i r h.
      let among_them = among r (among_at some i r h) in
      let named : slice_get (ids_in c) i ≡ Some (number_of w.pairs r) = ap (λ (x : Cell). slice_get (ids_in x) i) f
      ∙ ap (λ (ids : List ℕ). slice_get ids i) g ∙ mapped_one some i r h in
      sorts_kept r (number_of w.pairs r) (number_at w.pairs r among_them) (l.named i (number_of w.pairs r) named))
      (made_of n c l)
    where
      mapped_one : (some : List (ℕ × ℕ)) (i : ℕ) (r : ℕ × ℕ) → slice_get some i ≡ Some r
          → slice_get (map (number_of w.pairs) some) i ≡ Some (number_of w.pairs r)
      mapped_one [] i r h = absurd (none-some r h)
      mapped_one (x ∷ some) zero r h = ap (λ (y : ℕ × ℕ). Some (number_of w.pairs y)) (some_is h)
      mapped_one (x ∷ some) (suc i) r h = mapped_one some i r h

  entry_there : (k : ℕ) (entry : ℕ × Cell) → slice_get result.cells k ≡ Some entry → cell_at result entry.0 ≡ Some entry.1
  entry_there k entry e =
      let got : get_or result.cells k entry ≡ entry = get_or_from_slice_get result.cells k entry entry e in
      stands 0 result.cells entry.0 k entry w.is.rising (slice_get_within result.cells k entry e) (ap (λ (x : ℕ × Cell). x.0) got)
      ∙ ap (λ (x : ℕ × Cell). Some x.1) got

  used_there : AllByRecursion (HasCell (λ _. true) result) (ids_used result)
  used_there =
      subst (λ (xs : List ℕ). AllByRecursion (HasCell (λ _. true) result) xs)
      (append_assoc (flat_map ids_of_frame result.frames) (given_ids (result.throwing ∷ [])) (flat_map (λ c. ids_in c.1) result.cells))
      (all_joined (HasCell (λ _. true) result) (positions result) (flat_map (λ c. ids_in c.1) result.cells)
      (all_places (HasCell (λ _. true) result) (positions result)
      (λ n id e. position_there types a b result alike w id
      (any_passes_from_place (λ (x : ℕ). x == id) (positions result) n id e (eq-eqb id id refl))))
      (all_of_each (HasCell (λ _. true) result) (λ (c : ℕ × Cell). ids_in c.1) result.cells
      (λ n entry e i y f. (left types a b result alike w entry.0 entry.1 (entry_there n entry e)).named i y f)))

  pub good_result : IsWellFormed result
  good_result = record {
    rising = w.is.rising;
    used = all_from (HasCell (λ _. true) result) (ids_used result) used_there;
    shared = λ m n h. let said = (w.is.eq m n).0 h in (w.is.share m n).1 (said.0, inl said.1);
    left = λ m n l h. ((w.is.share m n).0 h).0.first;
    right = λ m n l h. ((w.is.share m n).0 h).0.second;
    not_both_known = λ m n l h j k. ((w.is.share m n).0 h).0.not_both j k;
  }

  thrown_object : (id : ℕ) → result.throwing ≡ Some id → HasCell is_object result id
  thrown_object id e =
      let x = thrown_stands a b result w.pairs w.are_pairs (long types a b result alike w)
      (w.is.dropped.throwing ∙ w.is.is_merged.throwing) id e in
      let h = thrown_there types a b result alike w id e in
      let l = left types a b result alike w id h.cell h.is in
      let same : l.pair ≡ x.pair = some_is (sym l.pair_is ∙ ap (slice_get w.pairs) (sym x.number) ∙ number_at w.pairs x.pair x.among) in
      let one = first.thrown x.pair.0 x.first_is in
      let other = second.thrown x.pair.1 x.second_is in
      let p_is : one.cell ≡ l.made.p = some_is (sym one.is ∙ ap (λ (y : ℕ × ℕ). cell_at a y.0) (sym same) ∙ l.made.first) in
      let q_is : other.cell ≡ l.made.q = some_is (sym other.is ∙ ap (λ (y : ℕ × ℕ). cell_at b y.1) (sym same) ∙ l.made.second) in
      record {
        cell = h.cell;
        is = h.is;
        sort_is = object_is types a b w.pairs l.pair l.made.p l.made.q h.cell (ap is_object (sym p_is) ∙ one.sort_is)
            (ap is_object (sym q_is) ∙ other.sort_is) (made_of id h.cell l);
      }

  pub sound_result : IsSound types result
  sound_result = record {
    well_formed = good_result;
    framed = λ e. no_frames a b w.pairs a.frames b.frames alike.frames first.framed
        (sym (w.is.dropped.frames ∙ w.is.is_merged.frames) ∙ e);
    cells = all_from (λ (c : ℕ × Cell). IsSoundCell types result c.1) result.cells
        (all_places (λ (c : ℕ × Cell). IsSoundCell types result c.1) result.cells
        (λ n entry e. sound_there entry.0 entry.1 (entry_there n entry e)));
    thrown = thrown_object;
  }

pub sound : WideningsAreSound
sound types a b result laws first second alike w = sound_result types a b result laws first second alike w
