-- The tests of operands and the needs of rows: a typed operand passes, or the state is split and one of the children fits.
use Rattle.std.proofs.Common.{◌≡◌, ◌≢◌, ◌∙◌, ◌<◌, ℕ, zero, suc, Bool, true, false, not, ◌&&◌, ◌||◌, if◌then◌else◌, List, [], ◌∷◌}
use Rattle.std.proofs.Common.{map, Option, ◌+◌, Some, None, ◌⊎◌, inl, inr, slice_get, refl, sym, ap, subst, arith, IsTrue}
use Rattle.std.specs.Prelude.{All}
use Rattle.std.specs.List.{find}
use Rattle.std.specs.Option.{option_map_or}
use Rattle.std.proofs.lemmas.Bool.{false≢true, and_parts, or_left, or_right}
use Rattle.std.proofs.lemmas.List.Elements.{All-head, All-tail}
use Rattle.std.proofs.lemmas.Option.{none-some}
use Rattle.list_views.proofs.Quantified.{all_at}
use Rattle.jvm_values.specs.declared.types.Ty.{Ty}
use Rattle.jvm_values.specs.declared.types.Base.{Base}
use Rattle.jvm_values.specs.declared.types.Base.TheVariants as bases
use Rattle.jvm_values.specs.declared.shape.Shape.{Shape}
use Rattle.jvm_values.specs.declared.heap.Value.{Value}
use Rattle.jvm_values.specs.declared.heap.Value.TheVariants as values
use Rattle.jvm_values.specs.declared.heap.Object.{Object}
use Rattle.jvm_values.specs.declared.heap.Object.TheVariants as objects
use Rattle.jvm_values.specs.declared.typing.PlaceType.{PlaceType}
use Rattle.jvm_values.specs.declared.typing.PlaceType.TheVariants as places
use Rattle.jvm_values.specs.States.{MachineState}
use Rattle.jvm_values.specs.Subtyping.{class_type, array_of, array_of_numbers, IsReferenceBase, IsReference}
use Rattle.jvm_values.specs.TypedHeaps.{WorldTypes, AreLawful, type_of, HasType, IsTypedObject}
use Rattle.jvm_values.proofs.Options.{some_is}
use Rattle.abs_cells.specs.declared.cells.Cell.{Cell}
use Rattle.abs_cells.specs.declared.cells.Cell.TheVariants as cells
use Rattle.abs_cells.specs.AbstractStates.{AbstractState}
use Rattle.abs_cells.specs.Cells.{is_known, is_comparable, is_of_sort, cell_at, HasCell, AreEqual}
use Rattle.abs_cells.specs.PairLists.{has}
use Rattle.abs_cells.specs.Fits.{Meaning, Describes, Fits}
use Rattle.abs_cells.proofs.CellLaws.{place_of_cell}
use Rattle.abs_heap.specs.Laws.{plain_link, Goes}
use Rattle.abs_expand.specs.ClassWorldWorldTypes.{types_of}
use Rattle.abs_expand.specs.ClassProgramPrograms.{Program}
use Rattle.frame_types.specs.Places.{IsOfWorld, IsSet}
use Rattle.jvm_run.specs.code_verify.TypedStates.{HasPlaceType}
use Rattle.term_graph.specs.Graphs.{GraphChild}
use Rattle.term_graph.specs.declared.links.Link.{Link}
use Rattle.term_graph.specs.Edges.{Edge}
use Rattle.abs_expand.specs.Plans.{Plan, by_null, by_class, by_equal}
use Rattle.abs_expand.specs.Needs.{Passing, passes, fails, splits, is_below_place, is_comparable_place, passes_if, passing}
use Rattle.abs_expand.specs.Needs.{after_test, passing_id, tested, may_be_null, need_null, is_unknown, known_partner, split_unknown}
use Rattle.abs_expand.specs.Needs.{split_below, need_class, need_object}
use Rattle.form_steps.proofs.Standing.{Rests}
use Rattle.form_steps.proofs.TurnKinds.{FitsSplit, Meets, sound_at}

-- ---- lists

found_is : {A : Type 0} (test : A → Bool) (xs : List A) (x : A) → find test xs ≡ Some x → test x ≡ true
found_is test [] x e = absurd (none-some x e)
found_is {A} test (y ∷ xs) x e = at (test y) refl e (found_is test xs x)
  where
    at : (b : Bool) → test y ≡ b → (if b then Some y else find test xs) ≡ Some x → (find test xs ≡ Some x → test x ≡ true) → test x ≡ true
    at true f g rest = subst (λ (z : A). test z ≡ true) (some_is g) f
    at false f g rest = rest g

found_none : {A : Type 0} (test : A → Bool) (xs : List A) → find test xs ≡ None → (n : ℕ) (x : A) → slice_get xs n ≡ Some x
    → test x ≡ true → ⊥
found_none test [] e n x g t = none-some x g
found_none {A} test (y ∷ xs) e n x g t = at (test y) refl e (λ k m h. found_none test xs k m x h t)
  where
    here : (m : ℕ) → slice_get (y ∷ xs) m ≡ Some x → test y ≡ false → find test xs ≡ None
        → (find test xs ≡ None → (m : ℕ) → slice_get xs m ≡ Some x → ⊥) → ⊥
    here zero h f k rest = false≢true (sym f ∙ ap test (some_is h) ∙ t)
    here (suc m) h f k rest = rest k m h

    at : (b : Bool) → test y ≡ b → (if b then Some y else find test xs) ≡ None
        → (find test xs ≡ None → (m : ℕ) → slice_get xs m ≡ Some x → ⊥) → ⊥
    at true f k rest = none-some y (sym k)
    at false f k rest = here n g f k rest

mapped_get : {A B : Type 0} (f : A → B) (xs : List A) (n : ℕ) (x : A) → slice_get xs n ≡ Some x → slice_get (map f xs) n ≡ Some (f x)
mapped_get f [] n x e = absurd (none-some x e)
mapped_get f (y ∷ xs) zero x e = ap (λ z. Some (f z)) (some_is e)
mapped_get f (y ∷ xs) (suc n) x e = mapped_get f xs n x e

-- ---- types

-- two erased types above one are comparable
either_way : (a b : Bool) → (a ≡ true) ⊎ (b ≡ true) → (a || b) ≡ true
either_way a b (inl e) = or_left a b e
either_way a b (inr e) = or_right a b e

pub comparable : (types : WorldTypes) → AreLawful types → (t a b : Ty) → IsTrue (types.sub t a) → IsTrue (types.sub t b)
    → types.erase a ≡ a → types.erase b ≡ b → is_comparable types.sub a b ≡ true
comparable types laws t a b sa sb ea eb = either_way (types.sub a b) (types.sub b a) (laws.chain t a b sa sb ea eb)

-- a value of a place's type, at an id with a cell
pub record IsTypedId (types : WorldTypes) (state : AbstractState) (machine : MachineState) (meaning : Meaning) (place : PlaceType)
    (id : ℕ) : Type 0 where
  pub own : HasCell (λ _. true) state id
  pub typed : HasPlaceType types machine.heap place (Some (meaning id))
  pub set : IsSet place
  pub of_world : IsOfWorld types place

module _ (p : Program) (state : AbstractState) (machine : MachineState) (meaning : Meaning) (s : Rests p state machine meaning) where
  abbrev types : WorldTypes
  types = types_of p.world

  abbrev Covered : Plan → Type 0
  Covered = Meets p state machine meaning

  abbrev pub TypedId : PlaceType → ℕ → Type 0
  TypedId = IsTypedId types state machine meaning

  -- ---- null, or not

  abbrev split_child : Option (ℕ × ℕ) → AbstractState → GraphChild
  split_child merged child = record { state = child; link = plain_link false merged }

  goes_split : (merged : Option (ℕ × ℕ)) (wholes : List GraphChild) (n : ℕ) (whole : GraphChild) (child : AbstractState)
      → slice_get wholes n ≡ Some whole → whole.state ≡ child → whole.link ≡ plain_link false merged
      → Goes types state machine meaning (plain_link false merged) child machine → FitsSplit types state machine meaning wholes
  goes_split merged wholes n whole child at is link goes = record {
    n = n;
    whole = whole;
    is = at;
    stays = ap (λ (l : Link). l.step) link;
    fits_child = record {
      meaning_after = goes.meaning_after;
      fits = subst (λ (t : AbstractState). Fits types t machine goes.meaning_after) (sym is) goes.fits;
      edge = subst (λ (l : Link). Edge state machine meaning l whole.state machine goes.meaning_after) (sym link)
          (subst (λ (t : AbstractState). Edge state machine meaning (plain_link false merged) t machine goes.meaning_after) (sym is)
          goes.edge);
    };
  }

  pub null_meets : (x : ℕ) (bound : Ty) (shape : Shape) → cell_at state x ≡ Some (cells.Unk bound true shape) → Covered (by_null x)
  null_meets x bound shape e wholes are =
      elim (s.lows.null types state are.null are.other machine meaning x are.bound are.shape s.sound.well_formed s.fits are.was
      are.null_is are.other_is) [
        | inl g ↦ goes_split None wholes 0 (split_child None are.null) are.null
            (ap (λ (children : List GraphChild). slice_get children 0) are.are) refl refl g
        | inr g ↦ goes_split None wholes 1 (split_child None are.other) are.other
            (ap (λ (children : List GraphChild). slice_get children 1) are.are) refl refl g
      ]

  record IsNullable (x : ℕ) : Type 0 where
    bound : Ty
    shape : Shape
    is : cell_at state x ≡ Some (cells.Unk bound true shape)

  nullable : (x : ℕ) → may_be_null (cell_at state x) ≡ true → IsNullable x
  nullable x e = at (cell_at state x) refl e
    where
      at : (o : Option Cell) → cell_at state x ≡ o → may_be_null o ≡ true → IsNullable x
      at None f n = absurd (false≢true n)
      at (Some (cells.Int interval)) f n = absurd (false≢true n)
      at (Some cells.Null) f n = absurd (false≢true n)
      at (Some (cells.Obj class ids)) f n = absurd (false≢true n)
      at (Some (cells.Nums kind len)) f n = absurd (false≢true n)
      at (Some (cells.Refs element len shape)) f n = absurd (false≢true n)
      at (Some (cells.Unk bound b shape)) f n = record {
        bound = bound;
        shape = shape;
        is = f
            ∙ ap (λ (y : Bool). Some (cells.Unk bound y shape)) n;
      }

  by_null_meets : (x : ℕ) → may_be_null (cell_at state x) ≡ true → Covered (by_null x)
  by_null_meets x e = let n = nullable x e in null_meets x n.bound n.shape n.is

  pub need_null_meets : (x : ℕ) (plan : Plan) → (may_be_null (cell_at state x) ≡ false → Covered plan) → Covered (need_null state x plan)
  need_null_meets x plan h = at (may_be_null (cell_at state x)) refl
    where
      at : (b : Bool) → may_be_null (cell_at state x) ≡ b → Covered (if b then by_null x else plan)
      at true e = by_null_meets x e
      at false e = h e

  -- ---- one class or another, one object or two

  record IsUnknownObject (x : ℕ) : Type 0 where
    bound : Ty
    shape : Shape
    is : cell_at state x ≡ Some (cells.Unk bound false shape)

  not_false : (b : Bool) → not b ≡ true → b ≡ false
  not_false true e = absurd (false≢true e)
  not_false false e = refl

  unknown : (x : ℕ) → is_unknown (cell_at state x) ≡ true → IsUnknownObject x
  unknown x e = at (cell_at state x) refl e
    where
      at : (o : Option Cell) → cell_at state x ≡ o → is_unknown o ≡ true → IsUnknownObject x
      at None f n = absurd (false≢true n)
      at (Some (cells.Int interval)) f n = absurd (false≢true n)
      at (Some cells.Null) f n = absurd (false≢true n)
      at (Some (cells.Obj class ids)) f n = absurd (false≢true n)
      at (Some (cells.Nums kind len)) f n = absurd (false≢true n)
      at (Some (cells.Refs element len shape)) f n = absurd (false≢true n)
      at (Some (cells.Unk bound b shape)) f n = record {
        bound = bound;
        shape = shape;
        is = f
            ∙ ap (λ (y : Bool). Some (cells.Unk bound y shape)) (not_false b n);
      }

  pub record NamesObject (x : ℕ) (bound : Ty) : Type 0 where
    pub place : ℕ
    pub object : Object
    pub names : meaning x ≡ values.Ref place
    pub stands : slice_get machine.heap.objects place ≡ Some object
    pub below : IsTrue (types.sub (type_of object) bound)

  named : (x : ℕ) (bound : Ty) (shape : Shape) → cell_at state x ≡ Some (cells.Unk bound false shape) → NamesObject x bound
  named x bound shape e = elim (s.fits.cells x (cells.Unk bound false shape) e) [
    | inl n ↦ absurd (false≢true n.0)
    | inr d ↦ record { place = d.place; object = d.object; names = d.names; stands = d.stands; below = d.holds }
  ]

  -- the object's type is below a type that the value has
  typed_below : (value : Value) (r : ℕ) (object : Object) (t : Ty) → value ≡ values.Ref r
      → slice_get machine.heap.objects r ≡ Some object → HasType types machine.heap value t → IsTrue (types.sub (type_of object) t)
  typed_below value r object t names stands h =
      let k : HasType types machine.heap (values.Ref r) t = subst (λ (v : Value). HasType types machine.heap v t) names h in
      subst (λ (ob : Object). IsTrue (types.sub (type_of ob) t)) (some_is (sym k.1.0 ∙ stands)) k.1.1

  bound_erased : (x : ℕ) (bound : Ty) (b : Bool) (shape : Shape) → cell_at state x ≡ Some (cells.Unk bound b shape)
      → types.erase bound ≡ bound
  bound_erased x bound b shape e = (sound_at types state s.sound.cells x (cells.Unk bound b shape) e).1

  class_meets : (x : ℕ) (bound wanted : Ty) (shape : Shape) → cell_at state x ≡ Some (cells.Unk bound false shape)
      → HasType types machine.heap (meaning x) wanted → types.erase wanted ≡ wanted → known_partner state x ≡ None
      → Covered (by_class x wanted)
  class_meets x bound wanted shape e typed erased none wholes are =
      let n = named x are.bound are.shape are.was in
      let below = typed_below (meaning x) n.place n.object wanted n.names n.stands typed in
      let goes = s.lows.classes types state are.states machine meaning x are.bound wanted are.shape s.laws s.sound s.heap s.closed
      s.fits are.was (comparable types s.laws (type_of n.object) are.bound wanted n.below below
      (bound_erased x are.bound false are.shape are.was) erased) typed apart are.are in
      goes_split None wholes goes.n (split_child None goes.child) goes.child
      (ap (λ (children : List GraphChild). slice_get children goes.n) are.is
      ∙ mapped_get (split_child None) are.states goes.n goes.child goes.is) refl refl goes.goes
    where
      apart : (k : ℕ) → HasCell is_known state k → AreEqual state x k → ⊥
      apart k h q =
          let place = place_of_cell state.cells k h.cell h.is in
          found_none (λ (other : ℕ). is_of_sort is_known (cell_at state other) && has x other state.eq)
          (map (λ (c : ℕ × Cell). c.0) state.cells) none place.0 k
          (mapped_get (λ (c : ℕ × Cell). c.0) state.cells place.0 (k, h.cell) place.1)
          (ap (λ (b : Bool). b && has x k state.eq) (ap (is_of_sort is_known) h.is ∙ h.sort_is) ∙ q)

  pub equal_meets : (x y : ℕ) → AreEqual state x y → x ≢ y → Covered (by_equal x y)
  equal_meets x y q apart wholes are =
      let goes = s.lows.equal types state are.pairs machine meaning x y s.laws s.sound s.heap s.closed s.fits q apart are.are in
      goes_split goes.merged wholes goes.n (split_child goes.merged goes.child) goes.child
      (ap (λ (children : List GraphChild). slice_get children goes.n) are.is
      ∙ mapped_get (λ (pair : Option (ℕ × ℕ) × AbstractState). split_child pair.0 pair.1) are.pairs goes.n
      (goes.merged, goes.child) goes.is) refl refl goes.goes

  pub split_meets : (x : ℕ) (place : PlaceType) → TypedId place x → is_unknown (cell_at state x) ≡ true
      → Covered (split_below state x place)
  split_meets x place t e = at place t.typed t.of_world t.set
    where
      u : IsUnknownObject x
      u = unknown x e

      n : NamesObject x u.bound
      n = named x u.bound u.shape u.is

      partner : (wanted : Ty) → HasType types machine.heap (meaning x) wanted → types.erase wanted ≡ wanted → (o : Option ℕ)
          → known_partner state x ≡ o → Covered (split_unknown x wanted o)
      partner wanted typed erased None f = class_meets x u.bound wanted u.shape u.is typed erased f
      partner wanted typed erased (Some other) f =
          let parts = and_parts (is_of_sort is_known (cell_at state other)) (has x other state.eq)
          (found_is (λ (k : ℕ). is_of_sort is_known (cell_at state k) && has x k state.eq)
          (map (λ (c : ℕ × Cell). c.0) state.cells) other f) in
          equal_meets x other parts.1
          (λ same. false≢true (ap (is_of_sort is_known) (sym u.is) ∙ ap (λ (k : ℕ). is_of_sort is_known (cell_at state k)) same
          ∙ parts.0))

      no_place : (q : PlaceType) → HasPlaceType types machine.heap q (Some (meaning x))
          → HasPlaceType types machine.heap q (Some (values.Ref n.place))
      no_place q h = subst (λ (v : Value). HasPlaceType types machine.heap q (Some v)) n.names h

      at : (q : PlaceType) → HasPlaceType types machine.heap q (Some (meaning x)) → IsOfWorld types q → IsSet q
          → Covered (split_below state x q)
      at places.Unset h w set = absurd (set refl)
      at places.Int h w set = absurd (no_place places.Int h)
      at places.Null h w set = absurd (no_place places.Null h)
      at (places.Ref t) h w set = partner t h w.1 (known_partner state x) refl

  pub need_class_meets : (x : ℕ) (place : PlaceType) (plan : Plan) → TypedId place x
      → (is_unknown (cell_at state x) ≡ false → Covered plan) → Covered (need_class state x place plan)
  need_class_meets x place plan t h = at (is_unknown (cell_at state x)) refl
    where
      at : (b : Bool) → is_unknown (cell_at state x) ≡ b → Covered (if b then split_below state x place else plan)
      at true e = split_meets x place t e
      at false e = h e

  pub need_object_meets : (x : ℕ) (place : PlaceType) (plan : Plan) → TypedId place x
      → (may_be_null (cell_at state x) ≡ false → is_unknown (cell_at state x) ≡ false → Covered plan)
      → Covered (need_object state x place plan)
  need_object_meets x place plan t h = need_null_meets x (need_class state x place plan) (λ n. need_class_meets x place plan t (h n))

  -- ---- the test of operands

  pub record Passes (place : PlaceType) (x : ℕ) (result : Passing) : Type 0 where
    pub only : (result ≡ passes) ⊎ ((result ≡ splits) × (may_be_null (cell_at state x) ≡ true))

  passed : (place : PlaceType) (x : ℕ) (b : Bool) → b ≡ true → Passes place x (passes_if b fails)
  passed place x b e = record { only = inl (ap (λ (y : Bool). passes_if y fails) e) }

  -- the object that a typed value names is below the place's type
  below_place : (place : PlaceType) (x r : ℕ) (object : Object) (t : Option Ty) → t ≡ Some (type_of object)
      → meaning x ≡ values.Ref r → slice_get machine.heap.objects r ≡ Some object
      → HasPlaceType types machine.heap place (Some (meaning x)) → IsSet place → is_below_place types place t ≡ true
  below_place place x r object t e names stands h set = at place
      (subst (λ (v : Value). HasPlaceType types machine.heap place (Some v)) names h) set
    where
      at : (q : PlaceType) → HasPlaceType types machine.heap q (Some (values.Ref r)) → IsSet q → is_below_place types q t ≡ true
      at places.Unset k z = absurd (z refl)
      at places.Int k z = absurd k
      at places.Null k z = absurd k
      at (places.Ref w) k z =
          ap (is_below_place types (places.Ref w)) e ∙ typed_below (values.Ref r) r object w refl stands k

  comparable_place : (place : PlaceType) (x r : ℕ) (object : Object) (bound : Ty) → types.erase bound ≡ bound
      → IsTrue (types.sub (type_of object) bound) → meaning x ≡ values.Ref r → slice_get machine.heap.objects r ≡ Some object
      → HasPlaceType types machine.heap place (Some (meaning x)) → IsSet place → IsOfWorld types place
      → is_comparable_place types place (Some bound) ≡ true
  comparable_place place x r object bound erased below names stands h set world = at place
      (subst (λ (v : Value). HasPlaceType types machine.heap place (Some v)) names h) set world
    where
      at : (q : PlaceType) → HasPlaceType types machine.heap q (Some (values.Ref r)) → IsSet q → IsOfWorld types q
          → is_comparable_place types q (Some bound) ≡ true
      at places.Unset k z w = absurd (z refl)
      at places.Int k z w = absurd k
      at places.Null k z w = absurd k
      at (places.Ref t) k z w = comparable types s.laws (type_of object) bound t below
          (typed_below (values.Ref r) r object t refl stands k) erased w.1

  -- an array of references of the heap has a type of the world
  pub array_reference : (object : Object) (r : ℕ) (item : Ty) (items : List Value) → object ≡ objects.Refs item items
      → slice_get machine.heap.objects r ≡ Some object → IsReference types.classes (array_of item)
  array_reference object r item items is stands =
      let typed : IsTypedObject types machine.heap (objects.Refs item items) = all_at (IsTypedObject types machine.heap)
      machine.heap.objects r (objects.Refs item items) s.heap (stands ∙ ap Some is) in
      array_is item typed.1.0 typed.1.1.0
    where
      array_is : (i : Ty) → i.dims < 255 → IsReference types.classes i → IsReference types.classes (array_of i)
      array_is i low w = (omega (arith, low), base i.base w.1)
        where
          base : (b : Base) → IsReferenceBase types.classes i.dims b → IsReferenceBase types.classes (i.dims + 1) b
          base (bases.Class class) k = k
          base (bases.Num kind) k = omega (arith, k)

  -- a typed id passes, or may be null
  pub passing_typed : (place : PlaceType) (x : ℕ) → TypedId place x → Passes place x (passing_id types state place x)
  passing_typed place x t = at t.own.cell t.own.is (s.fits.cells x t.own.cell t.own.is)
    where
      found : (c : Cell) → cell_at state x ≡ Some c → Passes place x (passing types place c)
          → Passes place x (passing_id types state place x)
      found c e g = subst (Passes place x) (sym (ap (λ (o : Option Cell). option_map_or (passing types place) o passes) e)) g

      unknown_passes : (bound : Ty) (b : Bool) (shape : Shape) → cell_at state x ≡ Some (cells.Unk bound b shape)
          → Describes types machine.heap meaning (cells.Unk bound b shape) (meaning x) → (n c : Bool) → b ≡ n
          → is_comparable_place types place (Some bound) ≡ c → Passes place x (passes_if c (if n then splits else fails))
      unknown_passes bound b shape e d n true f g = record { only = inl refl }
      unknown_passes bound b shape e d true false f g = record { only = inr (refl, ap may_be_null e ∙ f) }
      unknown_passes bound b shape e (inl d) false false f g = absurd (false≢true (sym f ∙ d.0))
      unknown_passes bound b shape e (inr d) false false f g = absurd
          (false≢true (sym g ∙ comparable_place place x d.place d.object bound (bound_erased x bound b shape e) d.holds d.names
          d.stands t.typed t.set t.of_world))

      at : (c : Cell) → cell_at state x ≡ Some c → Describes types machine.heap meaning c (meaning x)
          → Passes place x (passing_id types state place x)
      at (cells.Int interval) e d = found (cells.Int interval) e (record { only = inl refl })
      at cells.Null e d = found cells.Null e (record { only = inl refl })
      at (cells.Obj class ids) e d = found (cells.Obj class ids) e
          (passed place x (is_below_place types place (Some (class_type class)))
          (below_place place x d.place d.object (Some (class_type class)) (ap (λ (ob : Object). Some (type_of ob)) (sym d.holds))
          d.names d.stands t.typed t.set))
      at (cells.Nums kind len) e d = found (cells.Nums kind len) e
          (passed place x (is_below_place types place (Some (array_of_numbers kind)))
          (below_place place x d.place d.object (Some (array_of_numbers kind))
          (ap (λ (ob : Object). Some (type_of ob)) (sym d.holds.is)) d.names d.stands t.typed t.set))
      at (cells.Refs element len shape) e d =
          let sound = sound_at types state s.sound.cells x (cells.Refs element len shape) e in
          let own = s.laws.below_array d.holds.item element
          (array_reference d.object d.place d.holds.item d.holds.items d.holds.is d.stands) sound.1.1.0 d.holds.below in
          found (cells.Refs element len shape) e
          (passed place x (is_comparable_place types place (Some (array_of element)))
          (comparable_place place x d.place d.object (array_of element) sound.1.1.1
          (subst (λ (ob : Object). IsTrue (types.sub (type_of ob) (array_of element))) (sym d.holds.is) own) d.names
          d.stands t.typed t.set t.of_world))
      at (cells.Unk bound b shape) e d = found (cells.Unk bound b shape) e
          (unknown_passes bound b shape e d b (is_comparable_place types place (Some bound)) refl refl)

  pub passing_meets : (place : PlaceType) (x : ℕ) → TypedId place x → (plan : Plan) → Covered plan
      → Covered (after_test (passing_id types state place x) x plan)
  passing_meets place x t plan h = by (passing_id types state place x) (passing_typed place x t).only
    where
      by : (result : Passing) → (result ≡ passes) ⊎ ((result ≡ splits) × (may_be_null (cell_at state x) ≡ true))
          → Covered (after_test result x plan)
      by result (inl e) = subst (λ (q : Passing). Covered (after_test q x plan)) (sym e) h
      by result (inr e) = subst (λ (q : Passing). Covered (after_test q x plan)) (sym e.0) (by_null_meets x e.1)

  pub tested_meets : (operands : List (PlaceType × ℕ)) (plan : Plan) → All (λ (o : PlaceType × ℕ). TypedId o.0 o.1) operands
      → Covered plan → Covered (tested types state operands plan)
  tested_meets [] plan a h = h
  tested_meets (operand ∷ operands) plan a h =
      passing_meets operand.0 operand.1 (All-head (λ (o : PlaceType × ℕ). TypedId o.0 o.1) operand operands a)
      (tested types state operands plan)
      (tested_meets operands plan (All-tail (λ (o : PlaceType × ℕ). TypedId o.0 o.1) operand operands a) h)
