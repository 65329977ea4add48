-- Casts and tests of types.
use Rattle.std.proofs.Common.{◌≡◌, ◌∙◌, ◌⊎◌, inl, inr, ◌+◌, ℕ, ℤ, pos, Bool, true, false, not, ◌&&◌, if◌then◌else◌, List, [], ◌∷◌}
use Rattle.std.proofs.Common.{◌++◌, map, Option, Some, None, IsTrue, slice_get, refl, sym, ap, subst, arith}
use Rattle.std.specs.List.{AllByRecursion}
use Rattle.std.specs.Option.{option_map, option_and_then}
use Rattle.std.proofs.lemmas.Bool.{false≢true}
use Rattle.std.proofs.lemmas.Int.{ints}
use Rattle.std.proofs.lemmas.List.Elements.{All-nil}
use Rattle.std.proofs.lemmas.Option.{none-some}
use Rattle.jvm_values.specs.declared.heap.Value.{Value}
use Rattle.jvm_values.specs.declared.heap.Value.TheVariants as values
use Rattle.jvm_values.specs.declared.heap.Object.{Object}
use Rattle.jvm_values.specs.declared.heap.Heap.{Heap}
use Rattle.jvm_values.specs.declared.shape.Shape.{Shape}
use Rattle.jvm_values.specs.declared.shape.Shape.TheVariants.{Tree, Dag, Any}
use Rattle.jvm_values.specs.declared.types.Ty.{Ty}
use Rattle.jvm_values.specs.Subtyping.{class_type, array_of, array_of_numbers, IsReference}
use Rattle.jvm_values.specs.States.{MachineFrame, MachineState}
use Rattle.jvm_values.specs.TypedHeaps.{WorldTypes, type_of}
use Rattle.abs_cells.specs.declared.cells.Cell.{Cell}
use Rattle.abs_cells.specs.declared.cells.Cell.TheVariants as cells
use Rattle.abs_cells.specs.AbstractStates.{AbstractState}
use Rattle.abs_cells.specs.Cells.{type_of_cell, cell_at, HasCell}
use Rattle.abs_cells.specs.Fits.{Meaning, IsObject, Describes}
use Rattle.abs_cells.specs.Sound.{IsSoundCell}
use Rattle.jvm_step.specs.class_world.BuiltIns.{class_cast_exception}
use Rattle.jvm_step.specs.class_world.WorldTypes.{types_of}
use Rattle.jvm_step.specs.class_program.Programs.{Program}
use Rattle.frame_types.specs.Tables.{CodeTypes}
use Rattle.jvm_step.specs.Effects.{Effect, with_stack, checkcast_effect, instanceof_effect}
use Rattle.jvm_step.specs.Operands.{reference_of, top_reference, is_null_or_below, is_below}
use Rattle.jvm_step.specs.Table.{effect_of, on_frame}
use Rattle.form_steps.specs.TermGraphEdges.{is_size_variable, HoldsBetween}
use Rattle.form_steps.specs.abs_expand.Needs.{may_be_null, need_null}
use Rattle.form_steps.specs.abs_expand.Plans.{makes, on_stack, Turn, Plan, steps, no_rows}
use Rattle.form_steps.specs.abs_expand.Table.{cell_here, is_null_cell, one_step, number_cell, Cast, checkcast_of, instanceof_of, bounded}
use Rattle.form_steps.specs.abs_expand.Table.{with_bound, cell_bound, is_bound_below, may_be_below, is_known_cell, undecided, cast_plan}
use Rattle.form_steps.specs.abs_expand.Table.{checkcast_plan, instanceof_plan}
use Rattle.form_steps.specs.abs_expand.Turns.{narrows, with_stack as stack_at}
use Rattle.form_steps.proofs.SomeOf.{SomeOf}
use Rattle.form_steps.proofs.Standing.{rests, Stands, here, onward, Work_, no_frame_effect, goes_next, raises_frame}
use Rattle.form_steps.proofs.TurnKinds.{sound_at, Fitting, Meets, IsChange, throwing_turn}
use Rattle.form_steps.proofs.Needs.{need_null_meets, comparable, array_reference}
use Rattle.object_steps.proofs.IntSteps.{narrowing_turn}
use Rattle.object_steps.proofs.Moves.{by_reference, pushed_turn}
use Rattle.object_steps.proofs.References.{top_is_reference}

pub some_later : {X : Type 0} (P : X → Type 0) (xs ys : List X) → SomeOf P ys → SomeOf P (xs ++ ys)
some_later P [] ys h = h
some_later P (x ∷ xs) ys h = inr (some_later P xs ys h)

-- ---- effects

checkcast_stuck : (types : WorldTypes) (t : Ty) (heap : Heap) (f : MachineFrame) → top_reference f.stack ≡ None
    → checkcast_effect types t heap f ≡ None
unfolding checkcast_effect
checkcast_stuck types t heap f e = rw e refl

checkcast_by : (types : WorldTypes) (t : Ty) (heap : Heap) (f : MachineFrame) (value : Value) (below : List Value)
    (found : Option Bool) → top_reference f.stack ≡ Some (value, below) → is_null_or_below types heap t value ≡ found
    → checkcast_effect types t heap f ≡ option_and_then
    (λ (passes : Bool). Some (if passes then Effect.Next f else Effect.Raise class_cast_exception)) found
unfolding checkcast_effect
checkcast_by types t heap f value below None e g = rw (e, g) refl
checkcast_by types t heap f value below (Some b) e g = rw (e, g) refl

instanceof_stuck : (types : WorldTypes) (t : Ty) (heap : Heap) (f : MachineFrame) → top_reference f.stack ≡ None
    → instanceof_effect types t heap f ≡ None
unfolding instanceof_effect
instanceof_stuck types t heap f e = rw e refl

instanceof_by : (types : WorldTypes) (t : Ty) (heap : Heap) (f : MachineFrame) (value : Value) (below : List Value)
    (found : Option Bool) → top_reference f.stack ≡ Some (value, below) → is_below types heap t value ≡ found
    → instanceof_effect types t heap f ≡ option_and_then
    (λ (holds : Bool). Some (Effect.Next (with_stack f (values.Int (if holds then pos 1 else pos 0) ∷ below)))) found
unfolding instanceof_effect
instanceof_by types t heap f value below None e g = rw (e, g) refl
instanceof_by types t heap f value below (Some b) e g = rw (e, g) refl

module _ (p : Program) (typing : ℕ → CodeTypes) (state : AbstractState) (machine : MachineState) (meaning : Meaning)
    (s : Stands p typing state machine meaning) where
  abbrev types : WorldTypes
  types = types_of p.world

  abbrev Fit : Turn → Type 0
  Fit = Fitting p state machine meaning

  abbrev Covered : Plan → Type 0
  Covered = Meets p state machine meaning

  abbrev Holds : ℕ → Type 0
  Holds = HasCell (λ _. true) state

  abbrev Next : ℕ
  Next = onward p typing state machine meaning s

  abbrev AreChanges : List (ℕ × Cell) → Type 0
  AreChanges list = AllByRecursion (IsChange types machine.heap state meaning) list

  -- a test of the object of an id, by what the machine does
  pub record CastSteps (t : Ty) (x : ℕ) (asks : Bool) (cast : Cast) : Type 0 where
    pub null_fits : meaning x ≡ values.Null → Fit cast.null
    pub null_passes : asks ≡ false → meaning x ≡ values.Null → Fit cast.passed
    pub passes : (r : ℕ) (object : Object) → meaning x ≡ values.Ref r → slice_get machine.heap.objects r ≡ Some object
        → types.sub (type_of object) t ≡ true → Fit cast.passed
    pub passes_with : (c : Cell) (r : ℕ) (object : Object) → IsChange types machine.heap state meaning (x, c)
        → meaning x ≡ values.Ref r → slice_get machine.heap.objects r ≡ Some object → types.sub (type_of object) t ≡ true
        → Fit (record cast.passed { changed = (x, c) ∷ [] })
    pub fails : (r : ℕ) (object : Object) → meaning x ≡ values.Ref r → slice_get machine.heap.objects r ≡ Some object
        → types.sub (type_of object) t ≡ false → Fit cast.failed

  module _ (t : Ty) (reference : IsReference types.classes t) (x : ℕ) (asks : Bool) (cast : Cast) (does : CastSteps t x asks cast)
      (own : Holds x) (no_int : reference_of (meaning x) ≡ Some (meaning x)) where
    -- an object that isn't known: its type is below the bound, which is erased
    undecided_meets : (c : Cell) (bound : Ty) (r : ℕ) (object : Object) → cell_at state x ≡ Some c → type_of_cell c ≡ Some bound
        → types.erase bound ≡ bound → types.sub (type_of object) bound ≡ true → meaning x ≡ values.Ref r
        → slice_get machine.heap.objects r ≡ Some object
        → ((erased : types.sub (type_of object) (types.erase t) ≡ true) → types.sub (type_of object) t ≡ true
        → Fit (with_bound x (bounded types (types.erase t) c) cast.passed))
        → SomeOf Fit (undecided (here p typing state machine meaning s) t x cast)
    undecided_meets c bound r object e tc erased below f o passes_ = by (types.sub (type_of object) t) refl
      where
        bound_is : cell_bound (cell_here (here p typing state machine meaning s) x) ≡ Some bound
        bound_is = ap cell_bound e ∙ tc

        by : (b : Bool) → types.sub (type_of object) t ≡ b → SomeOf Fit (undecided (here p typing state machine meaning s) t x cast)
        by true g =
            let up : types.sub (type_of object) (types.erase t) ≡ true = s.laws.transitive (type_of object) t (types.erase t) g
            (s.laws.erase_up t reference) in
            let may : may_be_below (here p typing state machine meaning s) t
            (cell_bound (cell_here (here p typing state machine meaning s) x)) ≡ true = ap
            (may_be_below (here p typing state machine meaning s) t) bound_is
            ∙ comparable types s.laws (type_of object) bound (types.erase t) below up erased (s.laws.erase_erased t reference) in
            subst (λ (b : Bool). SomeOf Fit
            ((if b then with_bound x
            (option_and_then (bounded types (types.erase t)) (cell_here (here p typing state machine meaning s) x))
            cast.passed ∷ [] else []) ++ (cast.failed ∷ []))) (sym may)
            (subst (λ (o : Option Cell). SomeOf Fit
            ((with_bound x (option_and_then (bounded types (types.erase t)) o) cast.passed ∷ []) ++ (cast.failed ∷ [])))
            (sym e) (inl (passes_ up g)))
        by false g = some_later Fit
            (if may_be_below (here p typing state machine meaning s) t
            (cell_bound (cell_here (here p typing state machine meaning s) x)) then with_bound x
            (option_and_then (bounded types (types.erase t)) (cell_here (here p typing state machine meaning s) x)) cast.passed
            ∷ [] else []) (cast.failed ∷ []) (inl (does.fails r object f o g))

    -- the plan of a cell
    abbrev After : Cell → Plan
    After c =
        if is_null_cell (Some c) then one_step cast.null
        else if is_bound_below (here p typing state machine meaning s) t (cell_bound (Some c)) then
        (if asks then need_null state x (one_step cast.passed) else one_step cast.passed)
        else need_null state x
        (if is_known_cell (Some c) then one_step cast.failed else steps (undecided (here p typing state machine meaning s) t x cast))

    -- the bound is below the type
    below_goes : (a : Bool) → asks ≡ a → (may_be_null (cell_at state x) ≡ false → Fit cast.passed)
        → (asks ≡ false → Fit cast.passed) → Covered (if a then need_null state x (one_step cast.passed) else one_step cast.passed)
    below_goes true e h k = need_null_meets p state machine meaning (rests p typing state machine meaning s) x
        (one_step cast.passed) (λ n. inl (h n))
    below_goes false e h k = inl (k e)

    known_goes : (bound : Ty) (r : ℕ) (object : Object) → type_of object ≡ bound → meaning x ≡ values.Ref r
        → slice_get machine.heap.objects r ≡ Some object → (b : Bool) → types.sub bound t ≡ b
        → Covered (if b then (if asks then need_null state x (one_step cast.passed) else one_step cast.passed) else need_null state
        x (one_step cast.failed))
    known_goes bound r object ty f o true g =
        let passed = does.passes r object f o (ap (λ (u : Ty). types.sub u t) ty ∙ g) in
        below_goes asks refl (λ n. passed) (λ a. passed)
    known_goes bound r object ty f o false g = need_null_meets p state machine meaning (rests p typing state machine meaning s) x
        (one_step cast.failed) (λ n. inl (does.fails r object f o (ap (λ (u : Ty). types.sub u t) ty ∙ g)))

    cell_goes : (c : Cell) → cell_at state x ≡ Some c → Describes types machine.heap meaning c (meaning x) → Covered (After c)
    cell_goes (cells.Int interval) e d = absurd (none-some (meaning x) (sym (ap reference_of d.1.0) ∙ no_int))
    cell_goes cells.Null e d = inl (does.null_fits d)
    cell_goes (cells.Obj class ids) e d = known_goes (class_type class) d.place d.object (ap type_of d.holds) d.names d.stands
        (types.sub (class_type class) t) refl
    cell_goes (cells.Nums kind len) e d = known_goes (array_of_numbers kind) d.place d.object (ap type_of d.holds.is) d.names
        d.stands (types.sub (array_of_numbers kind) t) refl
    cell_goes (cells.Refs element len shape) e d = by (types.sub (array_of element) t) refl
      where
        sound : IsSoundCell types state (cells.Refs element len shape)
        sound = sound_at types state s.sound.cells x (cells.Refs element len shape) e

        own_below : types.sub (type_of d.object) (array_of element) ≡ true
        own_below = ap (λ (ob : Object). types.sub (type_of ob) (array_of element)) d.holds.is
            ∙ s.laws.below_array d.holds.item element
            (array_reference p state machine meaning (rests p typing state machine meaning s) d.object d.place d.holds.item
            d.holds.items d.holds.is d.stands) sound.1.1.0 d.holds.below

        by : (b : Bool) → types.sub (array_of element) t ≡ b
            → Covered (if b then (if asks then need_null state x (one_step cast.passed) else one_step cast.passed) else need_null
            state x (steps (undecided (here p typing state machine meaning s) t x cast)))
        by true g =
            let passed = does.passes d.place d.object d.names d.stands
            (s.laws.transitive (type_of d.object) (array_of element) t own_below g) in
            below_goes asks refl (λ n. passed) (λ a. passed)
        by false g = need_null_meets p state machine meaning (rests p typing state machine meaning s) x
            (steps (undecided (here p typing state machine meaning s) t x cast)) (λ n.
            undecided_meets (cells.Refs element len shape) (array_of element) d.place d.object e refl sound.1.1.1 own_below d.names
            d.stands (λ up h. does.passes d.place d.object d.names d.stands h))
    cell_goes (cells.Unk bound b shape) e d = by (types.sub bound t) refl
      where
        no_null : meaning x ≡ values.Null → may_be_null (cell_at state x) ≡ false → (c : Bool) → b ≡ c → ⊥
        no_null f n true g = false≢true (sym n ∙ ap may_be_null e ∙ g)
        no_null f n false g = at d
          where
            at : ((b ≡ true) × (meaning x ≡ values.Null))
                ⊎ IsObject machine.heap (meaning x) (λ object. IsTrue (types.sub (type_of object) bound)) → ⊥
            at (inl k) = false≢true (sym g ∙ k.0)
            at (inr k) = null_ref (sym f ∙ k.names)
              where
                null_ref : {r : ℕ} → values.Null ≡ values.Ref r → ⊥
                null_ref q = cc

        passed_below : IsObject machine.heap (meaning x) (λ object. IsTrue (types.sub (type_of object) bound))
            → types.sub bound t ≡ true → Fit cast.passed
        passed_below k g = does.passes k.place k.object k.names k.stands (s.laws.transitive (type_of k.object) bound t k.holds g)

        erased : types.erase bound ≡ bound
        erased = (sound_at types state s.sound.cells x (cells.Unk bound b shape) e).1

        with_lower : (k : IsObject machine.heap (meaning x) (λ object. IsTrue (types.sub (type_of object) bound)))
            → types.sub (type_of k.object) (types.erase t) ≡ true → types.sub (type_of k.object) t ≡ true → (test : Bool)
            → (types.sub (types.erase t) bound && not (types.sub bound (types.erase t))) ≡ test
            → Fit (with_bound x (if test then Some (cells.Unk (types.erase t) b shape) else None) cast.passed)
        with_lower k up h true g = does.passes_with (cells.Unk (types.erase t) b shape) k.place k.object (record {
          alike = record {
            old = cells.Unk bound b shape;
            is = e;
            known = refl;
            hazy = refl;
            shape = refl;
            int = refl;
            variable =
                same_variable shape;
          };
          named = tt;
          described = inr (record { place = k.place; object = k.object; names = k.names; stands = k.stands; holds = up });
        }) k.names k.stands h
          where
            same_variable : (q : Shape) → is_size_variable (cells.Unk (types.erase t) b q) ≡ is_size_variable (cells.Unk bound b q)
            same_variable Tree = refl
            same_variable Dag = refl
            same_variable Any = refl
        with_lower k up h false g = does.passes k.place k.object k.names k.stands h

        by : (test : Bool) → types.sub bound t ≡ test
            → Covered (if test then (if asks then need_null state x (one_step cast.passed) else one_step cast.passed) else need_null
            state x (steps (undecided (here p typing state machine meaning s) t x cast)))
        by true g = at d
          where
            at : ((b ≡ true) × (meaning x ≡ values.Null))
                ⊎ IsObject machine.heap (meaning x) (λ object. IsTrue (types.sub (type_of object) bound))
                → Covered (if asks then need_null state x (one_step cast.passed) else one_step cast.passed)
            at (inl k) = below_goes asks refl (λ n. absurd (no_null k.1 n b refl)) (λ a. does.null_passes a k.1)
            at (inr k) = below_goes asks refl (λ n. passed_below k g) (λ a. passed_below k g)
        by false g = need_null_meets p state machine meaning (rests p typing state machine meaning s) x
            (steps (undecided (here p typing state machine meaning s) t x cast)) (λ n. at n d)
          where
            at : may_be_null (cell_at state x) ≡ false → ((b ≡ true) × (meaning x ≡ values.Null))
                ⊎ IsObject machine.heap (meaning x) (λ object. IsTrue (types.sub (type_of object) bound))
                → SomeOf Fit (undecided (here p typing state machine meaning s) t x cast)
            at n (inl k) = absurd (no_null k.1 n b refl)
            at n (inr k) = undecided_meets (cells.Unk bound b shape) bound k.place k.object e refl erased k.holds k.names k.stands
                (λ up h. with_lower k up h (types.sub (types.erase t) bound && not (types.sub bound (types.erase t))) refl)

    pub cast_meets : Covered (cast_plan (here p typing state machine meaning s) t x asks cast)
    cast_meets = subst (λ (o : Option Cell). Covered (
        if is_null_cell o then one_step cast.null
        else if is_bound_below (here p typing state machine meaning s) t (cell_bound o) then
        (if asks then need_null state x (one_step cast.passed) else one_step cast.passed)
        else need_null state x
        (if is_known_cell o then one_step cast.failed else steps (undecided (here p typing state machine meaning s) t x cast))))
        (sym own.is) (cell_goes own.cell own.is (s.fits.cells x own.cell own.is))

  -- ---- the two forms

  abbrev Effects : Option (Effect MachineFrame) → Type 0
  Effects effect = effect_of p s.method s.form (Work_ p typing state machine meaning s) ≡ on_frame
      (Work_ p typing state machine meaning s) effect

  none : (effect : Option (Effect MachineFrame)) → Effects effect → effect ≡ None → ⊥
  none = no_frame_effect p typing state machine meaning s

  pub cast_checked : (t : Ty) → IsReference types.classes t → Effects (checkcast_effect types t machine.heap s.running)
      → Covered (checkcast_plan (here p typing state machine meaning s) t s.frame.stack)
  cast_checked t reference is =
      by_reference p typing state machine meaning s (checkcast_plan (here p typing state machine meaning s) t)
      (λ f. none effect is (checkcast_stuck types t machine.heap s.running f)) at s.frame.stack refl
    where
      effect : Option (Effect MachineFrame)
      effect = checkcast_effect types t machine.heap s.running

      at : (x : ℕ) (rest : List ℕ) → AllByRecursion Holds (x ∷ rest) → s.running.stack ≡ meaning x ∷ map meaning rest
          → top_reference s.running.stack ≡ Some (meaning x, map meaning rest)
          → Covered (checkcast_plan (here p typing state machine meaning s) t (x ∷ rest))
      at x rest h g q =
          cast_meets t reference x false (checkcast_of (here p typing state machine meaning s) (x ∷ rest)) (record {
            null_fits = λ f. passed [] tt (told_null f);
            null_passes = λ a f. passed [] tt (told_null f);
            passes = λ r object f o b. passed [] tt (told r object f o true b);
            passes_with = λ c r object change f o b. passed ((x, c) ∷ []) (change, tt) (told r object f o true b);
            fails = λ r object f o b. throwing_turn p typing state machine meaning s [] no_rows class_cast_exception tt
                (omega arith) (λ id after. All-nil (HoldsBetween meaning after))
                (raises_frame p typing state machine meaning s effect class_cast_exception is (told r object f o false b));
          }) h.0 (top_is_reference (meaning x) (map meaning rest) (sym (ap top_reference g) ∙ q))
        where
          passed : (list : List (ℕ × Cell)) → AreChanges list → effect ≡ Some (Effect.Next s.running)
              → Fit (narrows list (stack_at (here p typing state machine meaning s) Next (x ∷ rest)) no_rows)
          passed list a e = narrowing_turn p typing state machine meaning s list Next (x ∷ rest) s.running.stack no_rows a h g
              (λ fresh. All-nil (HoldsBetween meaning meaning)) (goes_next p typing state machine meaning s effect s.running is e)

          told_null : meaning x ≡ values.Null → effect ≡ Some (Effect.Next s.running)
          told_null f = checkcast_by types t machine.heap s.running (meaning x) (map meaning rest) (Some true) q
              (ap (is_null_or_below types machine.heap t) f)

          told : (r : ℕ) (object : Object) → meaning x ≡ values.Ref r → slice_get machine.heap.objects r ≡ Some object → (b : Bool)
              → types.sub (type_of object) t ≡ b → effect ≡ Some (if b then Effect.Next s.running else Effect.Raise class_cast_exception)
          told r object f o b e = checkcast_by types t machine.heap s.running (meaning x) (map meaning rest) (Some b) q
              (ap (is_null_or_below types machine.heap t) f ∙ ap (option_map (λ (ob : Object). types.sub (type_of ob) t)) o ∙ ap Some e)

  pub type_tested : (t : Ty) → IsReference types.classes t → Effects (instanceof_effect types t machine.heap s.running)
      → Covered (instanceof_plan (here p typing state machine meaning s) t s.frame.stack)
  type_tested t reference is =
      by_reference p typing state machine meaning s (instanceof_plan (here p typing state machine meaning s) t)
      (λ f. none effect is (instanceof_stuck types t machine.heap s.running f)) at s.frame.stack refl
    where
      effect : Option (Effect MachineFrame)
      effect = instanceof_effect types t machine.heap s.running

      no : {b : Bool} → b ≡ true → b ≡ false → ⊥
      no e f = false≢true (sym f ∙ e)

      at : (x : ℕ) (rest : List ℕ) → AllByRecursion Holds (x ∷ rest) → s.running.stack ≡ meaning x ∷ map meaning rest
          → top_reference s.running.stack ≡ Some (meaning x, map meaning rest)
          → Covered (instanceof_plan (here p typing state machine meaning s) t (x ∷ rest))
      at x rest h g q =
          cast_meets t reference x true (instanceof_of (here p typing state machine meaning s) rest) (record {
            null_fits = λ f. told_number [] (pos 0) tt (told_null f);
            null_passes = λ a f. absurd (false≢true (sym a));
            passes = λ r object f o b. told_number [] (pos 1) tt (told r object f o true b);
            passes_with = λ c r object change f o b. told_number ((x, c) ∷ []) (pos 1) (change, tt) (told r object f o true b);
            fails = λ r object f o b. told_number [] (pos 0) tt (told r object f o false b);
          }) h.0 (top_is_reference (meaning x) (map meaning rest) (sym (ap top_reference g) ∙ q))
        where
          told_number : (list : List (ℕ × Cell)) (n : ℤ) → AreChanges list
              → effect ≡ Some (Effect.Next (with_stack s.running (values.Int n ∷ map meaning rest)))
              → Fit (record {
                changed = list;
                frames = stack_at (here p typing state machine meaning s) Next rest;
                throwing = None;
                act = makes (number_cell n);
                goal = on_stack;
                rows = no_rows;
              })
          told_number list n a e = pushed_turn p typing state machine meaning s list rest (map meaning rest) (number_cell n)
              (values.Int n) no_rows a h.1 refl tt (n, (refl, (omega (arith, ints), omega (arith, ints))))
              (λ fresh after v. All-nil (HoldsBetween meaning after))
              (goes_next p typing state machine meaning s effect (with_stack s.running (values.Int n ∷ map meaning rest)) is e)

          told_null : meaning x ≡ values.Null → effect ≡ Some (Effect.Next (with_stack s.running (values.Int (pos 0) ∷ map meaning rest)))
          told_null f = instanceof_by types t machine.heap s.running (meaning x) (map meaning rest) (Some false) q
              (ap (is_below types machine.heap t) f)

          told : (r : ℕ) (object : Object) → meaning x ≡ values.Ref r → slice_get machine.heap.objects r ≡ Some object → (b : Bool)
              → types.sub (type_of object) t ≡ b
              → effect ≡ Some (Effect.Next (with_stack s.running (values.Int (if b then pos 1 else pos 0) ∷ map meaning rest)))
          told r object f o b e = instanceof_by types t machine.heap s.running (meaning x) (map meaning rest) (Some b) q
              (ap (is_below types machine.heap t) f ∙ ap (option_map (λ (ob : Object). types.sub (type_of ob) t)) o ∙ ap Some e)
