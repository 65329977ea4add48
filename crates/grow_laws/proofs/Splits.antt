-- The children of splits by null and by class.
use Rattle.std.proofs.Common.{◌≡◌, ◌∙◌, ◌<◌, ◌+◌, ℕ, zero, suc, Bool, true, false, ◌&&◌, if◌then◌else◌, List, [], ◌∷◌, ◌++◌}
use Rattle.std.proofs.Common.{map, filter, Option, Some, None, refl, sym, ap, subst, arith}
use Rattle.std.specs.Prelude.{IsTrue, zip}
use Rattle.std.specs.List.{AllByRecursion, AllZip}
use Rattle.std.proofs.lemmas.Bool.{false≢true, and_parts}
use Rattle.std.proofs.lemmas.Int.{ints}
use Rattle.std.proofs.lemmas.List.Elements.{recursion_from_All}
use Rattle.std.proofs.lemmas.Option.{none-some}
use Rattle.list_views.specs.Lists.{numbers_from}
use Rattle.list_views.proofs.Quantified.{all_joined, all_weaker}
use Rattle.jvm_values.specs.declared.types.Kind.{Kind}
use Rattle.jvm_values.specs.declared.types.Kind.TheVariants as kinds
use Rattle.jvm_values.specs.declared.types.Slot.{Slot}
use Rattle.jvm_values.specs.declared.types.Slot.TheVariants as slots
use Rattle.jvm_values.specs.declared.types.Ty.{Ty}
use Rattle.jvm_values.specs.declared.shape.Shape.{Shape}
use Rattle.jvm_values.specs.Joins.{item_of}
use Rattle.jvm_values.specs.Subtyping.{class_type, object_type, array_of, array_of_numbers, IsReference, IsErased, IsSlot}
use Rattle.jvm_values.specs.TypedHeaps.{WorldTypes, AreLawful}
use Rattle.jvm_values.proofs.Options.{some_is}
use Rattle.abs_cells.specs.declared.cells.Cell.{Cell}
use Rattle.abs_cells.specs.declared.cells.Cell.TheVariants as cells
use Rattle.abs_cells.specs.AbstractStates.{AbstractState}
use Rattle.abs_cells.specs.Cells.{is_int, is_comparable, cell_in, cell_at, HasCell, AreEqual, Share}
use Rattle.abs_cells.specs.Sound.{is_object, IsOfSlot, IsSoundCell, IsWellFormed}
use Rattle.abs_heap.specs.Answers.{AreNullChildren, AreClassChildren}
use Rattle.abs_heap.specs.Given.{IsGiven, first_cell, with_cells}
use Rattle.abs_heap.specs.Laws.{plain_link}
use Rattle.abs_heap.specs.Refining.{lower_of, cell_of_slot, length_cell, IsInstanceChild, IsArrayChild, Case, instance, numbers}
use Rattle.abs_heap.specs.Refining.{references, IsCase, instances_below, numbers_below, element_below, listed, cases_below}
use Rattle.abs_heap.specs.Refining.{cases_of}
use Rattle.abs_heap.proofs.Placing.{cell_here, cell_later}
use Rattle.class_world.specs.WorldTypes.{types_of}
use Rattle.class_program.specs.Programs.{Program}
use Rattle.frame_types.specs.Tables.{CodeTypes}
use Rattle.code_verify.proofs.RowLaws.{array_reference}
use Rattle.code_verify.proofs.TypeShapes.{array_of_item, item_erased, erased_of_world}
use Rattle.term_graph.specs.Graphs.{GraphChild}
use Rattle.place_sorts.specs.AbsExpandBadStates.{ArePlaced}
use Rattle.place_sorts.proofs.AbsExpandHeapChildren.{well_with_cell, well_case}
use Rattle.place_sorts.proofs.IntCases.{kind_bounds}
use Rattle.place_sorts.specs.Growing.{WaitBelow}
use Rattle.place_sorts.proofs.Keeping.{KeepsSorts, frames_kept}
use Rattle.grow_laws.proofs.NewCells.{listed_at, IsLike, given_keeps, given_sound, new_cell, free_like, zip_free}
use Rattle.grow_laws.proofs.NewCells.{free_zipped, sound_zipped, fields_hold}
use Rattle.grow_laws.proofs.Wholes.{IsWhole}

-- ---- the same frames

module _ (p : Program) (typing : ℕ → CodeTypes) (state : AbstractState) (w : IsWhole p typing state) where
  abbrev Types : WorldTypes
  Types = types_of p.world

  -- an object's cell becomes an object's
  abbrev pub StaysObject : ℕ × Cell → Type 0
  StaysObject c = HasCell is_object state c.0 → is_object c.1 ≡ true

  pub free_object : (id : ℕ) (c : Cell) → cell_at state id ≡ None → StaysObject (id, c)
  free_object id c free h = absurd (none-some h.cell (sym free ∙ h.is))

  pub same_whole : (child : AbstractState) (news : List (ℕ × Cell)) (equal sharing : ℕ → ℕ → Type 0) → IsWellFormed child
      → IsGiven state.frames state.throwing (with_cells news state) equal sharing child
      → AllByRecursion (IsLike state) news → AllByRecursion StaysObject news
      → (KeepsSorts state child → AllByRecursion (λ (c : ℕ × Cell). IsSoundCell Types child c.1) news) → IsWhole p typing child
  same_whole child news equal sharing well is like object new =
      let keeps = given_keeps Types state child news is.cells like in
      record {
        formed = well;
        framed = λ e. w.framed (sym is.frames_are ∙ e);
        cells = given_sound Types state child news is.cells like w.cells (new keeps);
        thrown = λ x e. by x (w.thrown x (sym is.throwing_is ∙ e)) (cell_in news x) refl;
        placed = subst (ArePlaced p typing child) (sym is.frames_are)
            (frames_kept state child keeps p typing state.frames is.throwing_is w.placed);
        waiting = subst (WaitBelow p) (sym is.frames_are) w.waiting;
      }
    where
      by : (x : ℕ) → HasCell is_object state x → (found : Option Cell) → cell_in news x ≡ found → HasCell is_object child x
      by x h None e = record {
        cell = h.cell;
        is = is.cells x ∙ ap (λ (o : Option Cell). first_cell o (cell_at state x)) e
            ∙ h.is;
        sort_is = h.sort_is;
      }
      by x h (Some c) e = record {
        cell = c;
        is = new_cell Types state child news is.cells x c e;
        sort_is = listed_at StaysObject
            news x c object e h;
      }

  -- ---- null, or not

  pub null_wholes : (x : ℕ) (children : List GraphChild) → AreNullChildren state x children
      → AllByRecursion (λ (child : GraphChild). IsWhole p typing child.state) children
  null_wholes x children h =
      let like : (c : Cell) → is_int c ≡ false → IsLike state (x, c) = λ c q old e. ap is_int (some_is (sym e ∙ h.was)) ∙ sym q in
      let is_none : HasCell is_object state x → ⊥ = λ k. false≢true (ap is_object (some_is (sym h.was ∙ k.is)) ∙ k.sort_is) in
      let sound : IsSoundCell Types state (cells.Unk h.bound true h.shape) = w.cells x (cells.Unk h.bound true h.shape) h.was in
      subst (AllByRecursion (λ (child : GraphChild). IsWhole p typing child.state)) (sym h.are) (
        same_whole h.null ((x, cells.Null) ∷ []) (AreEqual state) (Share state)
            (well_with_cell state w.formed x cells.Null h.null h.null_is tt) h.null_is (like cells.Null refl, tt)
            ((λ k. absurd (is_none k)), tt) (λ keeps. (tt, tt)),
        (
          same_whole h.other ((x, cells.Unk h.bound false h.shape) ∷ []) (AreEqual state) (Share state)
              (well_with_cell state w.formed x (cells.Unk h.bound false h.shape) h.other h.other_is tt) h.other_is
              (like (cells.Unk h.bound false h.shape) refl, tt) ((λ k. refl), tt) (λ keeps. (sound, tt)),
          tt,
        ),
      )

  -- ---- a class, or an array

  abbrev pub IsGoodType : Ty → Type 0
  IsGoodType t = IsReference Types.classes t × IsErased Types.erase t

  -- what an array of references says
  abbrev pub IsGoodElement : Ty → Type 0
  IsGoodElement element = IsGoodType element × IsGoodType (array_of element)

  abbrev IsGoodCase : Case → Type 0
  IsGoodCase (instance class) = (class < Types.classes) × IsTrue (Types.can_be_made class)
  IsGoodCase (numbers kind) = Unit {0}
  IsGoodCase (references element) = IsGoodElement element

  module _ (laws : AreLawful Types) where
    slot_of : (state_ : AbstractState) (shape : Shape) (slot : Slot) (id : ℕ)
        → cell_at state_ id ≡ Some (cell_of_slot Types.erase shape slot) → IsOfSlot state_ slot id
    slot_of state_ shape (slots.Num kind) id e = record { cell = cell_of_slot Types.erase shape (slots.Num kind); is = e; sort_is = refl }
    slot_of state_ shape (slots.Ref t) id e = record { cell = cell_of_slot Types.erase shape (slots.Ref t); is = e; sort_is = refl }

    slot_sound : (state_ : AbstractState) (shape : Shape) (slot : Slot) → IsSlot Types.classes slot
        → IsSoundCell Types state_ (cell_of_slot Types.erase shape slot)
    slot_sound state_ shape (slots.Num kind) s = kind_bounds kind
    slot_sound state_ shape (slots.Ref t) s = erased_of_world Types laws t s

    module _ (x : ℕ) (bound : Ty) (shape : Shape) (was : cell_at state x ≡ Some (cells.Unk bound false shape)) where
      like : (c : Cell) → is_int c ≡ false → IsLike state (x, c)
      like c q old e = ap is_int (some_is (sym e ∙ was)) ∙ sym q

      apart : (n : ℕ) → cell_at state n ≡ None → x ≡ n → ⊥
      apart n free e = none-some (cells.Unk bound false shape) (sym (ap (cell_at state) e ∙ free) ∙ was)

      instance_whole : (class : ℕ) (child : AbstractState) → IsGoodCase (instance class)
          → IsInstanceChild Types state x shape class child → IsWhole p typing child
      instance_whole class child good h =
          let fields = Types.fields class in
          let list = map (cell_of_slot Types.erase shape) fields in
          let rest = zip h.ids list in
          let news : List (ℕ × Cell) = (x, cells.Obj class h.ids) ∷ rest in
          let free = recursion_from_All (λ (n : ℕ). cell_at state n ≡ None) h.ids h.fresh.free in
          let kinds_ = recursion_from_All (IsSlot Types.classes) fields (laws.slots_of_world class good.0) in
          same_whole child news _ _ (well_case state w.formed Types x shape (instance class) child h) h.is
          (like (cells.Obj class h.ids) refl, free_zipped state h.ids list free)
          ((λ k. refl), zip_objects h.ids list free) (λ keeps. (
            (
              good.0,
              (
                good.1,
                fields_hold child (cell_of_slot Types.erase shape) (slot_of child shape) fields h.ids h.count
                    h.fresh.rise (λ n c e.
                    new_cell Types state child news h.is.cells n c
                    (cell_later (x, cells.Obj class h.ids) rest n (apart n (zip_free state h.ids list free n c e)) ∙ e)),
              ),
            ),
            sound_zipped Types child (cell_of_slot Types.erase shape) fields h.ids
                (all_weaker (IsSlot Types.classes) (λ (slot : Slot). IsSoundCell Types child (cell_of_slot Types.erase shape slot))
                (slot_sound child shape) fields kinds_),
          ))
        where
          zip_objects : (ids : List ℕ) (list : List Cell) → AllByRecursion (λ (n : ℕ). cell_at state n ≡ None) ids
              → AllByRecursion StaysObject (zip ids list)
          zip_objects [] list a = tt
          zip_objects (id ∷ ids) [] a = tt
          zip_objects (id ∷ ids) (c ∷ list) a = (free_object id c a.0, zip_objects ids list a.1)

      array_whole : (cell : ℕ → Cell) (child : AbstractState) → IsWellFormed child → ((len : ℕ) → is_int (cell len) ≡ false)
          → ((len : ℕ) → is_object (cell len) ≡ true)
          → ((len : ℕ) → HasCell is_int child len → IsSoundCell Types child (cell len)) → IsArrayChild state x cell child
          → IsWhole p typing child
      array_whole cell child well int object sound h =
          let free = recursion_from_All (λ (n : ℕ). cell_at state n ≡ None) (h.len ∷ []) h.fresh.free in
          let rest : List (ℕ × Cell) = (h.len, length_cell) ∷ [] in
          let news : List (ℕ × Cell) = (x, cell h.len) ∷ rest in
          let len : HasCell is_int child h.len = record {
            cell = length_cell;
            is = new_cell Types state child news h.is.cells h.len length_cell
                (cell_later (x, cell h.len) rest h.len (apart h.len free.0) ∙ cell_here (h.len, length_cell) [] h.len refl);
            sort_is = refl;
          } in
          same_whole child news (AreEqual state) (Share state) well h.is
          (like (cell h.len) (int h.len), (free_like state h.len length_cell free.0, tt))
          ((λ k. object h.len), (free_object h.len length_cell free.0, tt))
          (λ keeps. (sound h.len len, (((omega (arith, ints), omega (arith, ints)), (omega (arith, ints), omega (arith, ints))), tt)))

      case_whole : (case : Case) (child : AbstractState) → IsGoodCase case → IsCase Types state x shape case child → IsWhole p typing child
      case_whole (instance class) child good h = instance_whole class child good h
      case_whole (numbers kind) child good h =
          array_whole (λ len. cells.Nums kind len) child (well_case state w.formed Types x shape (numbers kind) child h)
          (λ len. refl) (λ len. refl) (λ len k. k) h
      case_whole (references element) child good h =
          array_whole (λ len. cells.Refs element len shape) child
          (well_case state w.formed Types x shape (references element) child h) (λ len. refl) (λ len. refl)
          (λ len k. (k, (good.0, good.1))) h

      cases_whole : (cases : List Case) (states : List AbstractState) → AllByRecursion IsGoodCase cases
          → AllZip (IsCase Types state x shape) cases states → AllByRecursion (IsWhole p typing) states
      cases_whole [] [] g h = tt
      cases_whole [] (s ∷ states) g h = absurd h
      cases_whole (case ∷ cases) [] g h = absurd h
      cases_whole (case ∷ cases) (s ∷ states) g h = (case_whole case s g.0 h.0, cases_whole cases states g.1 h.1)

    -- ---- the cases of a type

    numbers_low : (from count : ℕ) → AllByRecursion (λ (n : ℕ). n < from + count) (numbers_from from count)
    numbers_low from zero = tt
    numbers_low from (suc count) = (
      omega arith,
      all_weaker (λ (n : ℕ). n < suc from + count) (λ (n : ℕ). n < from + suc count)
          (λ n l. omega (arith, l)) (numbers_from (suc from) count) (numbers_low (suc from) count),
    )

    instances_good : (test : ℕ → Bool) → ((n : ℕ) → test n ≡ true → IsTrue (Types.can_be_made n)) → (list : List ℕ)
        → AllByRecursion (λ (n : ℕ). n < Types.classes) list → AllByRecursion IsGoodCase (map instance (filter test list))
    instances_good test made [] a = tt
    instances_good test made (n ∷ list) a = by (test n) refl (instances_good test made list a.1)
      where
        by : (b : Bool) → test n ≡ b → AllByRecursion IsGoodCase (map instance (filter test list))
            → AllByRecursion IsGoodCase (map instance (if b then n ∷ filter test list else filter test list))
        by true e rest = ((a.0, made n e), rest)
        by false e rest = rest

    numbers_good : (kinds_ : List Kind) → AllByRecursion IsGoodCase (map numbers kinds_)
    numbers_good [] = tt
    numbers_good (kind ∷ kinds_) = (tt, numbers_good kinds_)

    -- the items of an array type
    pub item_good : (t item : Ty) → IsGoodType t → item_of t ≡ Some item → IsGoodElement item
    item_good t item g e =
        let whole = array_of_item Types.classes t item g.0 e in
        ((whole.1, item_erased Types laws t item g.0 g.1 e), subst IsGoodType whole.0 g)

    object_good : IsReference Types.classes object_type → IsGoodElement object_type
    object_good r =
        let up = laws.erase_up object_type r in
        let erased : IsErased Types.erase object_type = laws.antisymmetric (Types.erase object_type) object_type
        (laws.object_on_top (Types.erase object_type) (laws.of_world object_type (Types.erase object_type) up).1) up in
        let inside = array_reference Types.classes object_type r (omega arith) in
        ((r, erased), (inside, laws.erase_array object_type r inside ∙ ap array_of erased))

    element_good : (low : Ty) → IsGoodType low → AllByRecursion IsGoodCase (listed (element_below Types low))
    element_good low g = by (Types.sub object_type low) refl
      where
        told : (found : Option Ty) → item_of low ≡ found → AllByRecursion IsGoodCase (listed found)
        told None e = tt
        told (Some item) e = (item_good low item g e, tt)

        by : (b : Bool) → Types.sub object_type low ≡ b → AllByRecursion IsGoodCase (listed (if b then Some object_type else item_of low))
        by true e = (object_good (laws.of_world object_type low e).0, tt)
        by false e = told (item_of low) refl

    below_good : (low : Ty) → IsGoodType low → AllByRecursion IsGoodCase (cases_below Types low)
    below_good low g =
        all_joined IsGoodCase (instances_below Types low) (numbers_below Types low ++ listed (element_below Types low))
        (instances_good (λ class. Types.can_be_made class && Types.sub (class_type class) low)
        (λ n e. (and_parts (Types.can_be_made n) (Types.sub (class_type n) low) e).0) (numbers_from 0 Types.classes)
        (all_weaker (λ (n : ℕ). n < 0 + Types.classes) (λ (n : ℕ). n < Types.classes) (λ n l. omega (arith, l))
        (numbers_from 0 Types.classes) (numbers_low 0 Types.classes)))
        (all_joined IsGoodCase (numbers_below Types low) (listed (element_below Types low))
        (numbers_good (filter (λ kind. Types.sub (array_of_numbers kind) low)
        (kinds.Boolean ∷ kinds.Char ∷ kinds.Byte ∷ kinds.Short ∷ kinds.Int ∷ []))) (element_good low g))

    cases_good : (bound wanted : Ty) → IsGoodType bound → IsGoodType wanted → AllByRecursion IsGoodCase (cases_of Types bound wanted)
    cases_good bound wanted b g = by (is_comparable Types.sub bound wanted)
      where
        lower : (t : Bool) → IsGoodType (if t then bound else wanted)
        lower true = b
        lower false = g

        by : (t : Bool) → AllByRecursion IsGoodCase (if t then cases_below Types (lower_of Types.sub bound wanted) else [])
        by true = below_good (lower_of Types.sub bound wanted) (lower (Types.sub bound wanted))
        by false = tt

    all_mapped_to : (states : List AbstractState) → AllByRecursion (IsWhole p typing) states
        → AllByRecursion (λ (child : GraphChild). IsWhole p typing child.state)
        (map (λ (s : AbstractState). record { state = s; link = plain_link false None }) states)
    all_mapped_to [] a = tt
    all_mapped_to (s ∷ states) a = (a.0, all_mapped_to states a.1)

    pub class_wholes : (x : ℕ) (wanted : Ty) → IsGoodType wanted → (children : List GraphChild)
        → AreClassChildren Types state x wanted children → AllByRecursion (λ (child : GraphChild). IsWhole p typing child.state) children
    class_wholes x wanted g children h =
        subst (AllByRecursion (λ (child : GraphChild). IsWhole p typing child.state)) (sym h.is)
        (all_mapped_to h.states
        (cases_whole x h.bound h.shape h.was (cases_of Types h.bound wanted) h.states
        (cases_good h.bound wanted (w.cells x (cells.Unk h.bound false h.shape) h.was) g) h.are))
