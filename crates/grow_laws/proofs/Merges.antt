-- The children of two ids that may be one object.
use Rattle.std.proofs.Common.{◌≡◌, ◌∙◌, ◌==◌, eqb, ℕ, Bool, true, false, if◌then◌else◌, List, [], ◌∷◌, map, Option, Some, None}
use Rattle.std.proofs.Common.{refl, sym, ap, subst, inl, inr, eq-eqb, ne_eqb}
use Rattle.std.specs.Prelude.{◌≢◌}
use Rattle.std.specs.List.{AllByRecursion}
use Rattle.std.specs.Option.{option_map}
use Rattle.std.proofs.lemmas.Bool.{false≢true, cases_eq, eqb-true}
use Rattle.std.proofs.lemmas.Option.{none-some}
use Rattle.jvm_values.specs.declared.types.Ty.{Ty}
use Rattle.jvm_values.specs.TypedHeaps.{WorldTypes, AreLawful}
use Rattle.jvm_values.proofs.Options.{some_is}
use Rattle.abs_cells.specs.declared.cells.Cell.{Cell}
use Rattle.abs_cells.specs.declared.cells.Cell.TheVariants as cells
use Rattle.abs_cells.specs.AbstractStates.{AbstractFrame, AbstractState}
use Rattle.abs_cells.specs.Cells.{is_int, is_reference, type_of_cell, ids_in, cell_in, cell_at, HasCell, AreEqual, Share}
use Rattle.abs_cells.specs.Sound.{ids_of_frame, is_object, IsSoundCell}
use Rattle.abs_cells.proofs.PairLaws.{has_swapped}
use Rattle.abs_heap.specs.Answers.{AreEqualAnswers}
use Rattle.abs_heap.specs.Laws.{plain_link}
use Rattle.abs_heap.specs.Names.{one_name, cell_named, IsPairOf}
use Rattle.abs_heap.specs.Refining.{rank_of, stays_before, Stays, element_told, lower_element, lower_bound, merged_cell}
use Rattle.abs_heap.specs.Refining.{IsMergedChild, IsApartChild, IsEqualChild}
use Rattle.abs_heap.specs.Refining.IsEqualChild.{both, alone}
use Rattle.abs_heap.proofs.Placing.{cell_here, cell_later}
use Rattle.class_world.specs.WorldTypes.{types_of}
use Rattle.class_program.specs.Programs.{Program}
use Rattle.frame_types.specs.Tables.{CodeTypes}
use Rattle.term_graph.specs.Graphs.{GraphChild}
use Rattle.place_sorts.specs.AbsExpandBadStates.{ArePlaced}
use Rattle.place_sorts.proofs.AbsExpandChanging.{joined}
use Rattle.place_sorts.proofs.AbsExpandHeapChildren.{well_merged, well_apart}
use Rattle.place_sorts.specs.Growing.{WaitBelow}
use Rattle.place_sorts.proofs.Following.{Follows, cell_follows, frames_follow}
use Rattle.place_sorts.proofs.SortLists.{all_any}
use Rattle.grow_laws.proofs.NewCells.{HasLike, follows_of}
use Rattle.grow_laws.proofs.Splits.{IsGoodType, IsGoodElement, item_good, same_whole}
use Rattle.grow_laws.proofs.Steps.{named_waits, named_some}
use Rattle.grow_laws.proofs.Wholes.{IsWhole}
use Rattle.grow_laws.proofs.Writes.{named_sort}

-- ---- cells

reference_no_int : (c : Cell) → is_reference c ≡ true → is_int c ≡ false
reference_no_int (cells.Int interval) e = absurd (false≢true e)
reference_no_int cells.Null e = refl
reference_no_int (cells.Obj class ids) e = refl
reference_no_int (cells.Nums kind len) e = refl
reference_no_int (cells.Refs element len shape) e = refl
reference_no_int (cells.Unk bound nullable shape) e = refl

merged_sort : (sub : Ty → Ty → Bool) (left right : Cell) → is_int (merged_cell sub left right) ≡ is_int left
merged_sort sub (cells.Int interval) right = refl
merged_sort sub cells.Null right = refl
merged_sort sub (cells.Obj class ids) right = refl
merged_sort sub (cells.Nums kind len) right = refl
merged_sort sub (cells.Refs element len shape) right = refl
merged_sort sub (cells.Unk bound nullable shape) right = refl

merged_object : (sub : Ty → Ty → Bool) (left right : Cell) → is_reference left ≡ true → is_object (merged_cell sub left right) ≡ true
merged_object sub (cells.Int interval) right e = absurd (false≢true e)
merged_object sub cells.Null right e = absurd (false≢true e)
merged_object sub (cells.Obj class ids) right e = refl
merged_object sub (cells.Nums kind len) right e = refl
merged_object sub (cells.Refs element len shape) right e = refl
merged_object sub (cells.Unk bound nullable shape) right e = refl

named_object : (name : ℕ → ℕ) (c : Cell) → is_object (cell_named name c) ≡ is_object c
named_object name (cells.Int interval) = refl
named_object name cells.Null = refl
named_object name (cells.Obj class ids) = refl
named_object name (cells.Nums kind len) = refl
named_object name (cells.Refs element len shape) = refl
named_object name (cells.Unk bound nullable shape) = refl

module _ (p : Program) (typing : ℕ → CodeTypes) (state : AbstractState) (w : IsWhole p typing state)
    (laws : AreLawful (types_of p.world)) where
  abbrev Types : WorldTypes
  Types = types_of p.world

  abbrev GoodType : Ty → Type 0
  GoodType = IsGoodType p typing state w

  abbrev GoodElement : Ty → Type 0
  GoodElement = IsGoodElement p typing state w

  -- ---- the cell of both

  told_good : (right : Cell) → IsSoundCell Types state right → (element : Ty) → element_told right ≡ Some element → GoodElement element
  told_good (cells.Int interval) h element e = absurd (none-some element e)
  told_good cells.Null h element e = absurd (none-some element e)
  told_good (cells.Obj class ids) h element e = absurd (none-some element e)
  told_good (cells.Nums kind len) h element e = absurd (none-some element e)
  told_good (cells.Refs other len shape) h element e = subst GoodElement (some_is e) (h.1.0, h.1.1)
  told_good (cells.Unk bound nullable shape) h element e = item_good p typing state w laws bound element h e

  bound_good : (stays goes : ℕ) (right : Cell) → stays_before 2 stays (rank_of right) goes ≡ true → IsSoundCell Types state right
      → (t : Ty) → type_of_cell right ≡ Some t → GoodType t
  bound_good stays goes (cells.Int interval) b h t e = absurd (none-some t e)
  bound_good stays goes cells.Null b h t e = absurd (none-some t e)
  bound_good stays goes (cells.Obj class ids) b h t e = absurd (false≢true b)
  bound_good stays goes (cells.Nums kind len) b h t e = absurd (false≢true b)
  bound_good stays goes (cells.Refs other len shape) b h t e = absurd (false≢true b)
  bound_good stays goes (cells.Unk bound nullable shape) b h t e = subst GoodType (some_is e) h

  either_type : (P : Ty → Type 0) (b : Bool) (s t : Ty) → P s → P t → P (if b then s else t)
  either_type P true s t x y = x
  either_type P false s t x y = y

  lower_element_good : (element : Ty) (told : Option Ty) → GoodElement element
      → ((other : Ty) → told ≡ Some other → GoodElement other) → GoodElement (lower_element Types.sub element told)
  lower_element_good element None g h = g
  lower_element_good element (Some other) g h = either_type GoodElement (Types.sub other element) other element (h other refl) g

  lower_bound_good : (bound : Ty) (told : Option Ty) → GoodType bound → ((other : Ty) → told ≡ Some other → GoodType other)
      → GoodType (lower_bound Types.sub bound told)
  lower_bound_good bound None g h = g
  lower_bound_good bound (Some other) g h = either_type GoodType (Types.sub bound other) bound other g (h other refl)

  merged_sound : (stays goes : ℕ) (left right : Cell) → stays_before (rank_of left) stays (rank_of right) goes ≡ true
      → IsSoundCell Types state left → IsSoundCell Types state right → IsSoundCell Types state (merged_cell Types.sub left right)
  merged_sound stays goes (cells.Int interval) right b l r = l
  merged_sound stays goes cells.Null right b l r = l
  merged_sound stays goes (cells.Obj class ids) right b l r = l
  merged_sound stays goes (cells.Nums kind len) right b l r = l
  merged_sound stays goes (cells.Refs element len shape) right b l r =
      let g = lower_element_good element (element_told right) (l.1.0, l.1.1) (told_good right r) in
      (l.0, (g.0, g.1))
  merged_sound stays goes (cells.Unk bound nullable shape) right b l r = lower_bound_good bound (type_of_cell right) l
      (bound_good stays goes right b r)

  -- ---- the two are one

  module _ (stays goes : ℕ) (differ : stays ≢ goes) (stay : Stays state stays goes) (shared : Share state stays goes)
      (child : AbstractState) (h : IsMergedChild Types.sub state stays goes child) where
    abbrev Name : ℕ → ℕ
    Name = one_name goes stays

    abbrev Merged : Cell
    Merged = merged_cell Types.sub h.left h.right

    abbrev Before : List (ℕ × Cell)
    Before = (stays, Merged) ∷ state.cells

    left_reference : is_reference h.left ≡ true
    left_reference = let j = (joined state w.formed stays goes differ shared).left in ap is_reference
        (some_is (sym h.left_is ∙ j.is)) ∙ j.sort_is

    right_reference : is_reference h.right ≡ true
    right_reference = let j = (joined state w.formed stays goes differ shared).right in ap is_reference
        (some_is (sym h.right_is ∙ j.is)) ∙ j.sort_is

    -- the cell of an id that stays
    now_at : (id : ℕ) (c : Cell) → (id ≡ goes → ⊥) → cell_in Before id ≡ Some c → cell_at child id ≡ Some (cell_named Name c)
    now_at id c n e =
        h.is.cells id ∙ ap (λ (b : Bool). if b then None else option_map (cell_named Name) (cell_in Before id)) (ne_eqb id goes n)
        ∙ ap (option_map (cell_named Name)) e

    at_stays : cell_at child stays ≡ Some (cell_named Name Merged)
    at_stays = now_at stays Merged differ (cell_here (stays, Merged) state.cells stays refl)

    merged_moves : (id : ℕ) → Follows state child id (Name id)
    merged_moves id = follows_of state child id (Name id) (λ old e. by old e (id == goes) refl)
      where
        kept : (old : Cell) → cell_at state id ≡ Some old → (id ≡ goes → ⊥) → HasLike child id old
        kept old e n = elim (cases_eq stays id) [
          | inl s ↦
              let same : h.left ≡ old = some_is (sym h.left_is ∙ ap (cell_at state) s ∙ e) in
              record {
                now = cell_named Name Merged;
                is = subst (λ (m : ℕ). cell_at child m ≡ Some (cell_named Name Merged)) s at_stays;
                same = ap is_int (sym same) ∙ sym (merged_sort Types.sub h.left h.right) ∙ sym (named_sort Name Merged);
              }
          | inr s ↦ record {
            now = cell_named Name old;
            is = now_at id old n (cell_later (stays, Merged) state.cells id s ∙ e);
            same
                = sym (named_sort Name old);
          }
        ]

        by : (old : Cell) → cell_at state id ≡ Some old → (b : Bool) → eqb id goes ≡ b → HasLike child (if b then stays else id) old
        by old e true q =
            let same : h.right ≡ old = some_is (sym h.right_is ∙ ap (cell_at state) (sym (eqb-true id goes q)) ∙ e) in
            record {
              now = cell_named Name Merged;
              is = at_stays;
              same = ap is_int (sym same) ∙ reference_no_int h.right right_reference
                  ∙ sym (named_sort Name Merged ∙ merged_sort Types.sub h.left h.right ∙ reference_no_int h.left left_reference);
            }
        by old e false q = kept old e (λ t. false≢true (sym q ∙ eq-eqb id goes t))

    before_sound : (id : ℕ) (c : Cell) → cell_in Before id ≡ Some c → IsSoundCell Types state c
    before_sound id c e = elim (cases_eq stays id) [
      | inl s ↦
          subst (IsSoundCell Types state) (some_is (sym (cell_here (stays, Merged) state.cells id s) ∙ e))
          (merged_sound stays goes h.left h.right ranks (w.cells stays h.left h.left_is) (w.cells goes h.right h.right_is))
      | inr s ↦ w.cells id c (sym (cell_later (stays, Merged) state.cells id s) ∙ e)
    ]
      where
        ranks : stays_before (rank_of h.left) stays (rank_of h.right) goes ≡ true
        ranks =
            ap (λ (c : Cell). stays_before (rank_of c) stays (rank_of h.right) goes) (some_is (sym h.left_is ∙ stay.left_is))
            ∙ ap (λ (c : Cell). stays_before (rank_of stay.left) stays (rank_of c) goes) (some_is (sym h.right_is ∙ stay.right_is))
            ∙ stay.before

    merged_cells_sound : (id : ℕ) (c : Cell) → cell_at child id ≡ Some c → IsSoundCell Types child c
    merged_cells_sound id c e = by (id == goes) (sym (h.is.cells id) ∙ e)
      where
        named : (found : Option Cell) → cell_in Before id ≡ found → option_map (cell_named Name) found ≡ Some c → IsSoundCell Types child c
        named None q f = absurd (none-some c f)
        named (Some d) q f = subst (IsSoundCell Types child) (some_is f)
            (cell_follows state child Name Types d (all_any _ merged_moves (ids_in d)) (before_sound id d q))

        by : (b : Bool) → (if b then None else option_map (cell_named Name) (cell_in Before id)) ≡ Some c → IsSoundCell Types child c
        by true f = absurd (none-some c f)
        by false f = named (cell_in Before id) refl f

    object_moved : (id : ℕ) → HasCell is_object state id → HasCell is_object child (Name id)
    object_moved id k = by (id == goes) refl
      where
        merged : HasCell is_object child stays
        merged = record {
          cell = cell_named Name Merged;
          is = at_stays;
          sort_is = named_object Name Merged
              ∙ merged_object Types.sub h.left h.right left_reference;
        }

        by : (b : Bool) → eqb id goes ≡ b → HasCell is_object child (if b then stays else id)
        by true q = merged
        by false q = elim (cases_eq stays id) [
          | inl s ↦ subst (HasCell is_object child) s merged
          | inr s ↦ record {
            cell = cell_named Name k.cell;
            is = now_at id k.cell (λ t. false≢true (sym q ∙ eq-eqb id goes t)) (cell_later (stays, Merged) state.cells id s ∙ k.is);
            sort_is = named_object Name k.cell ∙ k.sort_is;
          }
        ]

    merged_whole : IsWhole p typing child
    merged_whole = record {
      formed = well_merged Types.sub state w.formed stays goes differ child h;
      framed = λ e. named_some Name state.frames w.framed (sym h.is.frames_are ∙ e);
      cells = merged_cells_sound;
      thrown = λ x e. thrown x state.throwing refl (sym h.is.throwing_is ∙ e);
      placed = subst (ArePlaced p typing child) (sym h.is.frames_are)
          (frames_follow state child Name p typing state.frames h.is.throwing_is
          (all_any _ (λ (frame : AbstractFrame). all_any _ merged_moves (ids_of_frame frame)) state.frames) w.placed);
      waiting = subst (WaitBelow p) (sym h.is.frames_are) (named_waits p Name state.frames w.waiting);
    }
      where
        thrown : (x : ℕ) (o : Option ℕ) → state.throwing ≡ o → option_map Name o ≡ Some x → HasCell is_object child x
        thrown x None q e = absurd (none-some x e)
        thrown x (Some y) q e = subst (HasCell is_object child) (some_is e) (object_moved y (w.thrown y q))

  -- ---- both answers

  apart_whole : (x y : ℕ) (child : AbstractState) → IsApartChild state x y child → IsWhole p typing child
  apart_whole x y child h = same_whole p typing state w child [] _ _ (well_apart state w.formed x y child h) h tt tt (λ keeps. tt)

  apart_ids : (x y stays goes : ℕ) → x ≢ y → IsPairOf x y stays goes → stays ≢ goes
  apart_ids x y stays goes n pair same = elim pair [
    | inl e ↦ n (sym e.0 ∙ same ∙ e.1)
    | inr e ↦ n (sym e.1 ∙ sym same ∙ e.0)
  ]

  pair_shared : (x y stays goes : ℕ) → AreEqual state x y → IsPairOf x y stays goes → Share state stays goes
  pair_shared x y stays goes equal pair = elim pair [
    | inl e ↦ subst (λ (a : ℕ). Share state a goes) (sym e.0) (subst (Share state x) (sym e.1) (w.formed.shared x y equal))
    | inr e ↦ subst (λ (a : ℕ). Share state a goes) (sym e.0)
        (subst (Share state y) (sym e.1) (has_swapped x y state.share ∙ w.formed.shared x y equal))
  ]

  answers_whole : (x y : ℕ) → x ≢ y → AreEqual state x y → (b : Bool) (pairs : List (Option (ℕ × ℕ) × AbstractState))
      → IsEqualChild Types.sub state x y b pairs
      → AllByRecursion (λ (pair : Option (ℕ × ℕ) × AbstractState). IsWhole p typing pair.1) pairs
  answers_whole x y n equal true _ (both stays goes merged apart pair s m a) = (
    merged_whole stays goes (apart_ids x y stays goes n pair) s (pair_shared x y stays goes equal pair) merged m,
    (apart_whole x y apart a, tt),
  )
  answers_whole x y n equal false _ (alone apart a) = (apart_whole x y apart a, tt)

  all_mapped_to : (pairs : List (Option (ℕ × ℕ) × AbstractState))
      → AllByRecursion (λ (pair : Option (ℕ × ℕ) × AbstractState). IsWhole p typing pair.1) pairs
      → AllByRecursion (λ (child : GraphChild). IsWhole p typing child.state)
      (map (λ (pair : Option (ℕ × ℕ) × AbstractState). record { state = pair.1; link = plain_link false pair.0 }) pairs)
  all_mapped_to [] a = tt
  all_mapped_to (pair ∷ pairs) a = (a.0, all_mapped_to pairs a.1)

  pub equal_wholes : (x y : ℕ) → x ≢ y → AreEqual state x y → (children : List GraphChild)
      → AreEqualAnswers Types.sub state x y children → AllByRecursion (λ (child : GraphChild). IsWhole p typing child.state) children
  equal_wholes x y n equal children h =
      subst (AllByRecursion (λ (child : GraphChild). IsWhole p typing child.state)) (sym h.is)
      (all_mapped_to h.pairs (answers_whole x y n equal _ h.pairs h.are.are))
