-- The handler that an abstract state finds for what is thrown is the one that the machine finds.
use Rattle.std.proofs.Common.{◌≡◌, ◌∙◌, inl, inr, ◌&&◌, ◌||◌, not, if◌then◌else◌, ℕ, Bool, true, false, List, [], ◌∷◌, Option, Some}
use Rattle.std.proofs.Common.{None, IsTrue, slice_get, refl, sym, ap, subst, arith}
use Rattle.std.specs.Prelude.{All, filter, find}
use Rattle.std.specs.List.{list_any}
use Rattle.std.specs.Option.{option_map_or}
use Rattle.std.proofs.lemmas.Bool.{false≢true, and_from}
use Rattle.std.proofs.lemmas.List.Elements.{All-head, All-tail}
use Rattle.list_views.proofs.Quantified.{all_at}
use Rattle.jvm_values.specs.declared.heap.Value.{Value}
use Rattle.jvm_values.specs.declared.heap.Value.TheVariants as values
use Rattle.jvm_values.specs.declared.heap.Object.{Object}
use Rattle.jvm_values.specs.declared.heap.Object.TheVariants as objects
use Rattle.jvm_values.specs.declared.types.Base.TheVariants as bases
use Rattle.jvm_values.specs.declared.types.Ty.{Ty}
use Rattle.jvm_values.specs.States.{MachineState}
use Rattle.jvm_values.specs.Subtyping.{class_type, array_of, object_type, IsErased}
use Rattle.jvm_values.specs.TypedHeaps.{WorldTypes, type_of, IsTypedObject}
use Rattle.jvm_values.proofs.Options.{some_is}
use Rattle.abs_cells.specs.declared.cells.Cell.{Cell}
use Rattle.abs_cells.specs.declared.cells.Cell.TheVariants as cells
use Rattle.abs_cells.specs.AbstractStates.{AbstractState}
use Rattle.abs_cells.specs.Cells.{type_of_cell, cell_at, HasCell}
use Rattle.abs_cells.specs.Sound.{is_object}
use Rattle.abs_cells.specs.Fits.{Meaning, Describes}
use Rattle.class_world.specs.BuiltIns.{throwable}
use Rattle.class_world.specs.WorldTypes.{types_of}
use Rattle.jvm_step.specs.class_program.declared.program.CatchRange.{CatchRange}
use Rattle.jvm_step.specs.class_program.Programs.{Program}
use Rattle.object_steps.specs.code_verify.Flows.{covers, CanCatch}
use Rattle.object_steps.specs.abs_expand.Needs.{is_unknown}
use Rattle.object_steps.specs.abs_expand.Throwing.{takes_type, thrown_type, takes, is_below_bound, may_take, before_taker}
use Rattle.object_steps.specs.form_steps.inner.Lows.{AreThrowablesErased}
use Rattle.object_steps.proofs.form_steps.Standing.{Rests}
use Rattle.object_steps.proofs.form_steps.TurnKinds.{sound_at}

-- the object's type is below the class that an entry catches
abbrev pub is_caught : WorldTypes → Ty → CatchRange → Bool
is_caught types t range = option_map_or (λ (class : ℕ). types.sub t (class_type class)) range.catch true

first_false : (a b : Bool) → (a || b) ≡ false → a ≡ false
first_false true b e = absurd (false≢true (sym e))
first_false false b e = refl

rest_false : (a b : Bool) → (a || b) ≡ false → b ≡ false
rest_false true b e = absurd (false≢true (sym e))
rest_false false b e = e

module _ (types : WorldTypes) (state : AbstractState) (x pc : ℕ) (t : Ty) (Good : CatchRange → Type 0)
    (up : (range : CatchRange) → Good range → takes types state x range ≡ true → is_caught types t range ≡ true)
    (down : (range : CatchRange) → Good range → is_caught types t range ≡ true → takes types state x range ≡ false
    → may_take types state x range ≡ true) where
  abbrev Ranges : List CatchRange → List CatchRange
  Ranges table = filter (covers pc) table

  same_find : (table : List CatchRange) → All Good table
      → list_any (may_take types state x) (before_taker types state x (Ranges table)) ≡ false
      → find (λ (range : CatchRange). covers pc range && is_caught types t range) table ≡ find (takes types state x) (Ranges table)
  same_find [] good h = refl
  same_find (range ∷ table) good h = at (covers pc range) (takes types state x range) refl (is_caught types t range) refl h
      (same_find table (All-tail Good range table good))
    where
      at : (b k : Bool) → takes types state x range ≡ k → (m : Bool) → is_caught types t range ≡ m
          → list_any (may_take types state x) (before_taker types state x (if b then range ∷ Ranges table else Ranges table)) ≡ false
          → (list_any (may_take types state x) (before_taker types state x (Ranges table)) ≡ false
          → find (λ (r : CatchRange). covers pc r && is_caught types t r) table ≡ find (takes types state x) (Ranges table))
          → (if (b && m) then Some range else find (λ (r : CatchRange). covers pc r && is_caught types t r) table) ≡ find
          (takes types state x) (if b then range ∷ Ranges table else Ranges table)
      at false k e m f g rest = rest g
      at true true e true f g rest = ap (λ (c : Bool). if c then Some range else find (takes types state x) (Ranges table)) (sym e)
      at true true e false f g rest = absurd (false≢true (sym f ∙ up range (All-head Good range table good) e))
      at true false e m f g rest = passed m f
          (ap (λ (c : Bool). list_any (may_take types state x)
          (if c then [] else range ∷ before_taker types state x (Ranges table))) (sym e) ∙ g)
        where
          passed : (n : Bool) → is_caught types t range ≡ n
              → (may_take types state x range || list_any (may_take types state x) (before_taker types state x (Ranges table)))
              ≡ false → (if n then Some range else find (λ (r : CatchRange). covers pc r && is_caught types t r) table) ≡ find
              (takes types state x) (range ∷ Ranges table)
          passed true k h_ = absurd
              (false≢true (sym (first_false (may_take types state x range)
              (list_any (may_take types state x) (before_taker types state x (Ranges table))) h_)
              ∙ down range (All-head Good range table good) k e))
          passed false k h_ = rest
              (rest_false (may_take types state x range)
              (list_any (may_take types state x) (before_taker types state x (Ranges table))) h_)
              ∙ ap (λ (c : Bool). if c then Some range else find (takes types state x) (Ranges table)) (sym e)

-- nothing that is known is open
pub none_may : (types : WorldTypes) (state : AbstractState) (x : ℕ) → is_unknown (cell_at state x) ≡ false
    → (ranges : List CatchRange) → list_any (may_take types state x) ranges ≡ false
none_may types state x e [] = refl
none_may types state x e (range ∷ ranges) = ap
    (λ (b : Bool). (b && (not (takes types state x range) && is_below_bound types (thrown_type state x) range)) || list_any
    (may_take types state x) ranges) e ∙ none_may types state x e ranges

same_class : {a b : ℕ} → bases.Class a ≡ bases.Class b → a ≡ b
same_class e = cc

no_array : (item : Ty) → class_type throwable ≡ array_of item → ⊥
no_array item e = omega (arith, ap (λ (t : Ty). t.dims) e)

no_object : class_type throwable ≡ object_type → ⊥
no_object e = omega (arith, same_class (ap (λ (t : Ty). t.base) e))

module _ (p : Program) (state : AbstractState) (machine : MachineState) (meaning : Meaning) (s : Rests p state machine meaning)
    (erased : AreThrowablesErased p) (x r : ℕ) (object : Object) (names : meaning x ≡ values.Ref r)
    (stands : slice_get machine.heap.objects r ≡ Some object)
    (below : IsTrue ((types_of p.world).sub (type_of object) (class_type throwable))) where
  abbrev types : WorldTypes
  types = types_of p.world

  abbrev IsSame : ℕ → List CatchRange → Type 0
  IsSame pc table = list_any (may_take types state x) (before_taker types state x (filter (covers pc) table)) ≡ false
      → find (λ (range : CatchRange). covers pc range && is_caught types (type_of object) range) table ≡ find (takes types state x)
      (filter (covers pc) table)

  same_object : (place : ℕ) (other : Object) → meaning x ≡ values.Ref place → slice_get machine.heap.objects place ≡ Some other
      → other ≡ object
  same_object place other e g = some_is (sym g ∙ ap (slice_get machine.heap.objects) (one (sym e ∙ names)) ∙ stands)
    where
      one : values.Ref place ≡ values.Ref r → place ≡ r
      one f = cc

  takes_as : (t : Ty) → thrown_type state x ≡ Some t → (range : CatchRange) → takes types state x range ≡ is_caught types t range
  takes_as t e range = ap (λ (o : Option Ty). takes_type types o range) e

  -- an object whose class is known
  exact : (t : Ty) → thrown_type state x ≡ Some t → t ≡ type_of object → (pc : ℕ) (table : List CatchRange)
      → All (CanCatch p.world) table → IsSame pc table
  exact t e same pc table good =
      same_find types state x pc (type_of object) (CanCatch p.world) (λ range g k. sym (is range) ∙ k)
      (λ range g k n. absurd (false≢true (sym n ∙ is range ∙ k))) table good
    where
      is : (range : CatchRange) → takes types state x range ≡ is_caught types (type_of object) range
      is range = takes_as t e range ∙ ap (λ (u : Ty). is_caught types u range) same

  -- an object of which a bound is known
  bounded_by : (bound : Ty) (shape_unknown : is_unknown (cell_at state x) ≡ true) → thrown_type state x ≡ Some bound
      → IsErased types.erase bound → IsTrue (types.sub (type_of object) bound) → (pc : ℕ) (table : List CatchRange)
      → All (CanCatch p.world) table → IsSame pc table
  bounded_by bound unknown e own under pc table good = same_find types state x pc (type_of object) (CanCatch p.world)
      (λ range g k. up range.catch (sym (takes_as bound e range) ∙ k)) (λ range g k n. down range g k n) table good
    where
      up : (catch : Option ℕ) → option_map_or (λ (class : ℕ). types.sub bound (class_type class)) catch true ≡ true
          → option_map_or (λ (class : ℕ). types.sub (type_of object) (class_type class)) catch true ≡ true
      up None k = refl
      up (Some class) k = s.laws.transitive (type_of object) bound (class_type class) under k

      chained : (class : ℕ) → IsTrue (types.sub (class_type class) (class_type throwable))
          → types.sub (type_of object) (class_type class) ≡ true → types.sub bound (class_type class) ≡ false
          → types.sub (class_type class) bound ≡ true
      chained class can k n = elim (s.laws.chain (type_of object) bound (class_type class) under k own (erased (class_type class) can)) [
        | inl f ↦ absurd (false≢true (sym n ∙ f))
        | inr f ↦ f
      ]

      turned : (b : Bool) → b ≡ false → not b ≡ true
      turned true f = sym f
      turned false f = refl

      by_catch : (catch : Option ℕ)
          → IsTrue (types.sub (option_map_or class_type catch (class_type throwable)) (class_type throwable))
          → option_map_or (λ (class : ℕ). types.sub (type_of object) (class_type class)) catch true ≡ true
          → option_map_or (λ (class : ℕ). types.sub bound (class_type class)) catch true ≡ false
          → option_map_or (λ (class : ℕ). types.sub (class_type class) bound) catch false ≡ true
      by_catch None can k n = absurd (false≢true (sym n))
      by_catch (Some class) can k n = chained class can k n

      can_of : (range : CatchRange) → CanCatch p.world range
          → IsTrue (types.sub (option_map_or class_type range.catch (class_type throwable)) (class_type throwable))
      can_of range g = by range.catch g
        where
          by : (catch : Option ℕ) → CanCatch p.world (record range { catch = catch })
              → IsTrue (types.sub (option_map_or class_type catch (class_type throwable)) (class_type throwable))
          by None h = h
          by (Some class) h = h

      down : (range : CatchRange) → CanCatch p.world range → is_caught types (type_of object) range ≡ true
          → takes types state x range ≡ false → may_take types state x range ≡ true
      down range g k n =
          and_from (is_unknown (cell_at state x))
          (not (takes types state x range) && is_below_bound types (thrown_type state x) range) unknown
          (and_from (not (takes types state x range)) (is_below_bound types (thrown_type state x) range)
          (turned (takes types state x range) n)
          (ap (λ (o : Option Ty). is_below_bound types o range) e
          ∙ by_catch range.catch (can_of range g) k (sym (takes_as bound e range) ∙ n)))

  array_item : (item : Ty) (items : List Value) → object ≡ objects.Refs item items → ⊥
  array_item item items e =
      let typed : IsTypedObject types machine.heap (objects.Refs item items) = all_at (IsTypedObject types machine.heap)
      machine.heap.objects r (objects.Refs item items) s.heap (stands ∙ ap Some e) in
      elim (s.laws.array_below item (class_type throwable) typed.1.1.0
      (subst (λ (o : Object). IsTrue (types.sub (type_of o) (class_type throwable))) e below)) [
        | inl f ↦ no_object f
        | inr f ↦ no_array f.0 f.3
      ]

  pub finds_same : (pc : ℕ) (table : List CatchRange) → All (CanCatch p.world) table → HasCell is_object state x → IsSame pc table
  finds_same pc table good h = at h.cell h.is h.sort_is (s.fits.cells x h.cell h.is)
    where
      type_is : (c : Cell) → cell_at state x ≡ Some c → thrown_type state x ≡ type_of_cell c
      type_is c e = ap (λ (o : Option Cell). option_map_or type_of_cell o None) e

      at : (c : Cell) → cell_at state x ≡ Some c → is_object c ≡ true → Describes types machine.heap meaning c (meaning x)
          → IsSame pc table
      at (cells.Int interval) e i d = absurd (false≢true i)
      at cells.Null e i d = absurd (false≢true i)
      at (cells.Obj class ids) e i d = exact (type_of d.object) (type_is (cells.Obj class ids) e
          ∙ ap (λ (o : Object). Some (type_of o)) (sym d.holds)) (ap type_of (same_object d.place d.object d.names d.stands)) pc
          table good
      at (cells.Nums kind len) e i d = exact (type_of d.object) (type_is (cells.Nums kind len) e
          ∙ ap (λ (o : Object). Some (type_of o)) (sym d.holds.is)) (ap type_of (same_object d.place d.object d.names d.stands))
          pc table good
      at (cells.Refs element len shape) e i d = absurd
          (array_item d.holds.item d.holds.items (sym (same_object d.place d.object d.names d.stands) ∙ d.holds.is))
      at (cells.Unk bound true shape) e i d = absurd (false≢true i)
      at (cells.Unk bound false shape) e i (inl d) = absurd (false≢true d.0)
      at (cells.Unk bound false shape) e i (inr d) =
          bounded_by bound (ap is_unknown e) (type_is (cells.Unk bound false shape) e)
          (sound_at types state s.sound.cells x (cells.Unk bound false shape) e).1
          (subst (λ (o : Object). IsTrue (types.sub (type_of o) bound)) (same_object d.place d.object d.names d.stands) d.holds)
          pc table good
