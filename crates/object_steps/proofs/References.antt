-- Forms that test references: null or not, one object or two; and accesses to the object of a reference.
use Rattle.std.proofs.Common.{◌≡◌, ◌≢◌, ◌∙◌, inl, inr, ◌==◌, eqb, ℕ, ℤ, pos, zero, suc, IsTrue, Bool, true, false, ◌&&◌, ◌||◌}
use Rattle.std.proofs.Common.{if◌then◌else◌, List, [], ◌∷◌, length, map, Option, Some, None, slice_get, refl, sym, ap, subst, arith}
use Rattle.std.specs.Prelude.{All, slice_index_or}
use Rattle.std.specs.List.{AllByRecursion}
use Rattle.std.specs.Option.{option_map}
use Rattle.std.proofs.lemmas.Bool.{false≢true, eqb-true, eq-eqb}
use Rattle.std.proofs.lemmas.List.Elements.{All-nil, All-head, All-tail}
use Rattle.std.proofs.lemmas.Option.{none-some}
use Rattle.jvm_values.specs.declared.heap.Value.{Value}
use Rattle.jvm_values.specs.declared.heap.Value.TheVariants as values
use Rattle.jvm_values.specs.declared.heap.Object.TheVariants as objects
use Rattle.jvm_values.specs.declared.shape.Shape.{Shape}
use Rattle.jvm_values.specs.declared.types.Kind.{Kind}
use Rattle.jvm_values.specs.declared.types.Ty.{Ty}
use Rattle.jvm_values.specs.declared.heap.Heap.{Heap}
use Rattle.jvm_values.specs.declared.typing.PlaceType.{PlaceType}
use Rattle.jvm_values.specs.declared.typing.PlaceType.TheVariants as places
use Rattle.jvm_values.specs.Heaps.{target}
use Rattle.jvm_values.specs.States.{MachineFrame, MachineState}
use Rattle.jvm_values.specs.TypedHeaps.{WorldTypes}
use Rattle.jvm_values.proofs.Options.{some_is}
use Rattle.abs_cells.specs.declared.cells.Cell.{Cell}
use Rattle.abs_cells.specs.declared.cells.Cell.TheVariants as cells
use Rattle.abs_cells.specs.AbstractStates.{AbstractState}
use Rattle.abs_cells.specs.Cells.{cell_at, HasCell, AreEqual}
use Rattle.abs_cells.specs.PairLists.{has}
use Rattle.abs_cells.specs.Fits.{Meaning, Describes}
use Rattle.jvm_step.specs.class_world.BuiltIns.{null_pointer_exception}
use Rattle.jvm_step.specs.class_world.WorldTypes.{types_of}
use Rattle.jvm_step.specs.class_program.Programs.{Program}
use Rattle.frame_types.specs.Places.{IsOfWorld, IsSet}
use Rattle.frame_types.specs.Tables.{CodeTypes}
use Rattle.form_steps.specs.code_verify.TypedStates.{HasPlaceType, HasStack}
use Rattle.jvm_step.specs.Effects.{Effect, with_stack, branch, is_wanted, if_acmp_effect, if_null_effect}
use Rattle.jvm_step.specs.Operands.{reference_of, same_reference, is_null, top_reference}
use Rattle.jvm_step.specs.Table.{effect_of, on_frame}
use Rattle.jvm_step.specs.Running.{Step, step}
use Rattle.form_steps.specs.TermGraphEdges.{HoldsBetween}
use Rattle.form_steps.specs.abs_expand.Needs.{may_be_null, need_null, is_unknown}
use Rattle.form_steps.specs.abs_expand.Plans.{Plan, steps, by_equal, no_rows}
use Rattle.form_steps.specs.abs_expand.Table.{place_under, is_null_cell, is_null_here, unless_null, accessed, jump_if, null_plan, equal_plan}
use Rattle.form_steps.specs.abs_expand.Turns.{throws}
use Rattle.form_steps.proofs.Standing.{rests, Stands, onward, here, Work_, raised, no_frame_effect}
use Rattle.form_steps.proofs.TurnKinds.{Meets, throwing_turn}
use Rattle.form_steps.proofs.Needs.{IsTypedId, need_null_meets, need_object_meets, equal_meets}
use Rattle.form_steps.proofs.Operands.{stack_held}
use Rattle.object_steps.proofs.Moves.{by_reference, branched, going_turn}

-- ---- effects

null_by : (wanted : Bool) (place : ℕ) (f : MachineFrame) (value : Value) (below : List Value)
    → top_reference f.stack ≡ Some (value, below)
    → if_null_effect wanted place f ≡ Some (branch (is_wanted wanted (is_null value)) place (with_stack f below))
unfolding if_null_effect
null_by wanted place f value below e = rw e refl

null_stuck : (wanted : Bool) (place : ℕ) (f : MachineFrame) → top_reference f.stack ≡ None → if_null_effect wanted place f ≡ None
unfolding if_null_effect
null_stuck wanted place f e = rw e refl

acmp_by : (wanted : Bool) (place : ℕ) (f : MachineFrame) (right left : Value) (next below : List Value)
    → top_reference f.stack ≡ Some (right, next) → top_reference next ≡ Some (left, below)
    → if_acmp_effect wanted place f ≡ Some (branch (is_wanted wanted (same_reference left right)) place (with_stack f below))
unfolding if_acmp_effect
acmp_by wanted place f right left next below e g = rw (e, g) refl

acmp_stuck : (wanted : Bool) (place : ℕ) (f : MachineFrame) → top_reference f.stack ≡ None → if_acmp_effect wanted place f ≡ None
unfolding if_acmp_effect
acmp_stuck wanted place f e = rw e refl

acmp_stuck_next : (wanted : Bool) (place : ℕ) (f : MachineFrame) (right : Value) (next : List Value)
    → top_reference f.stack ≡ Some (right, next) → top_reference next ≡ None → if_acmp_effect wanted place f ≡ None
unfolding if_acmp_effect
acmp_stuck_next wanted place f right next e g = rw (e, g) refl

-- ---- what cells tell of null

-- a cell that isn't nullable tells whether its value is null
null_told : (types : WorldTypes) (heap : Heap) (meaning : Meaning) (c : Cell) (value : Value) → Describes types heap meaning c value
    → may_be_null (Some c) ≡ false → is_null_cell (Some c) ≡ is_null value
null_told types heap meaning (cells.Int interval) value d n = ap is_null (sym d.1.0)
null_told types heap meaning cells.Null value d n = ap is_null (sym d)
null_told types heap meaning (cells.Obj class ids) value d n = ap is_null (sym d.names)
null_told types heap meaning (cells.Nums kind len) value d n = ap is_null (sym d.names)
null_told types heap meaning (cells.Refs element len shape) value d n = ap is_null (sym d.names)
null_told types heap meaning (cells.Unk bound b shape) value (inl d) n = absurd (false≢true (sym n ∙ d.0))
null_told types heap meaning (cells.Unk bound b shape) value (inr d) n = ap is_null (sym d.names)

-- a reference that isn't null names an object
named_reference : (value : Value) → is_null value ≡ false → reference_of value ≡ Some value → (r : ℕ) × (value ≡ values.Ref r)
named_reference (values.Int n) e g = absurd (none-some (values.Int n) g)
named_reference values.Null e g = absurd (false≢true (sym e))
named_reference (values.Ref r) e g = (r, refl)

same_itself : (value : Value) → reference_of value ≡ Some value → same_reference value value ≡ true
same_itself (values.Int n) g = absurd (none-some (values.Int n) g)
same_itself values.Null g = refl
same_itself (values.Ref r) g = eq-eqb r r refl

null_both : (a b : Value) → is_null a ≡ true → is_null b ≡ true → same_reference a b ≡ true
null_both (values.Int n) b e g = absurd (false≢true e)
null_both values.Null (values.Int n) e g = absurd (false≢true g)
null_both values.Null values.Null e g = refl
null_both values.Null (values.Ref r) e g = absurd (false≢true g)
null_both (values.Ref r) b e g = absurd (false≢true e)

null_one : (a b : Value) → is_null a ≡ true → is_null b ≡ false → same_reference a b ≡ false
null_one (values.Int n) b e g = absurd (false≢true e)
null_one values.Null (values.Int n) e g = refl
null_one values.Null values.Null e g = absurd (false≢true (sym g))
null_one values.Null (values.Ref r) e g = refl
null_one (values.Ref r) b e g = absurd (false≢true e)

null_other : (a b : Value) → is_null a ≡ false → is_null b ≡ true → same_reference a b ≡ false
null_other (values.Int n) b e g = refl
null_other values.Null b e g = absurd (false≢true (sym e))
null_other (values.Ref r) (values.Int n) e g = refl
null_other (values.Ref r) values.Null e g = refl
null_other (values.Ref r) (values.Ref q) e g = absurd (false≢true g)

pub top_is_reference : (v : Value) (below : List Value) → top_reference (v ∷ below) ≡ Some (v, below) → reference_of v ≡ Some v
top_is_reference (values.Int n) below e = absurd (none-some (values.Int n, below) e)
top_is_reference values.Null below e = refl
top_is_reference (values.Ref r) below e = refl

-- an entry of a typed stack has the type of its place
typed_at : (types_ : WorldTypes) (state : AbstractState) (machine : MachineState) (meaning : Meaning) (x : ℕ)
    (wanted : List PlaceType) (stack : List Value) (ids : List ℕ) (n : ℕ) → HasStack types_ machine.heap wanted stack
    → All IsSet wanted → All (IsOfWorld types_) wanted → stack ≡ map meaning ids → AllByRecursion (HasCell (λ _. true) state) ids
    → slice_get ids n ≡ Some x → IsTypedId types_ state machine meaning (slice_index_or wanted n places.Unset) x
typed_at types_ state machine meaning x wanted stack [] n t set world is h k = absurd (none-some x k)
typed_at types_ state machine meaning x [] [] (i ∷ ids) n t set world is h k = absurd (omega (arith, ap length is))
typed_at types_ state machine meaning x [] (v ∷ stack) (i ∷ ids) n t set world is h k = absurd t
typed_at types_ state machine meaning x (q ∷ wanted) [] (i ∷ ids) n t set world is h k = absurd t
typed_at types_ state machine meaning x (q ∷ wanted) (v ∷ stack) (i ∷ ids) zero t set world is h k = record {
  own = subst (HasCell (λ _. true) state) (some_is k) h.0;
  typed = subst (λ (w : Value). HasPlaceType types_ machine.heap q (Some w)) (first_is is ∙ ap meaning (some_is k)) t.0;
  set = All-head IsSet q wanted set;
  of_world = All-head (IsOfWorld types_) q wanted world;
}
  where
    first_is : v ∷ stack ≡ map meaning (i ∷ ids) → v ≡ meaning i
    first_is e = cc
typed_at types_ state machine meaning x (q ∷ wanted) (v ∷ stack) (i ∷ ids) (suc n) t set world is h k = typed_at types_ state
    machine meaning x wanted stack ids n t.1 (All-tail IsSet q wanted set) (All-tail (IsOfWorld types_) q wanted world) (rest_is is) h.1 k
  where
    rest_is : v ∷ stack ≡ map meaning (i ∷ ids) → stack ≡ map meaning ids
    rest_is e = cc

module _ (p : Program) (typing : ℕ → CodeTypes) (state : AbstractState) (machine : MachineState) (meaning : Meaning)
    (s : Stands p typing state machine meaning) where
  abbrev Covered : Plan → Type 0
  Covered = Meets p state machine meaning

  abbrev Holds : ℕ → Type 0
  Holds = HasCell (λ _. true) state

  abbrev Effects : Option (Effect MachineFrame) → Type 0
  Effects effect = effect_of p s.method s.form (Work_ p typing state machine meaning s) ≡ on_frame
      (Work_ p typing state machine meaning s) effect

  none : (effect : Option (Effect MachineFrame)) → Effects effect → effect ≡ None → ⊥
  none = no_frame_effect p typing state machine meaning s

  pub null_agrees : (x : ℕ) → Holds x → may_be_null (cell_at state x) ≡ false → is_null_here (here p typing state machine meaning s)
      x ≡ is_null (meaning x)
  null_agrees x h n =
      ap is_null_cell h.is ∙ null_told (types_of p.world) machine.heap meaning h.cell (meaning x) (s.fits.cells x h.cell h.is)
      (sym (ap may_be_null h.is) ∙ n)

  -- a jump where a test is as it is wanted
  jumps_if : (wanted test : Bool) (place : ℕ) (ids : List ℕ) → AllByRecursion Holds ids → (effect : Option (Effect MachineFrame))
      → Effects effect → effect ≡ Some (branch (is_wanted wanted test) place (with_stack s.running (map meaning ids)))
      → Covered (jump_if (here p typing state machine meaning s) wanted test place ids)
  jumps_if wanted test place ids h effect is e =
      inl (going_turn p typing state machine meaning s
      (if is_wanted wanted test then place else onward p typing state machine meaning s) ids (map meaning ids) h refl
      (branched p typing state machine meaning s (is_wanted wanted test) place (map meaning ids) effect is e))

  pub null_test : (wanted : Bool) (place : ℕ) → Effects (if_null_effect wanted place s.running)
      → Covered (null_plan (here p typing state machine meaning s) wanted place s.frame.stack)
  null_test wanted place is =
      by_reference p typing state machine meaning s (null_plan (here p typing state machine meaning s) wanted place)
      (λ f. none (if_null_effect wanted place s.running) is (null_stuck wanted place s.running f)) (λ a rest h e t.
      need_null_meets p state machine meaning (rests p typing state machine meaning s) a
      (jump_if (here p typing state machine meaning s) wanted (is_null_here (here p typing state machine meaning s) a) place
      rest) (λ n.
      jumps_if wanted (is_null_here (here p typing state machine meaning s) a) place rest h.1 (if_null_effect wanted place s.running) is
      (null_by wanted place s.running (meaning a) (map meaning rest) t
      ∙ ap (λ (b : Bool). Some (branch (is_wanted wanted b) place (with_stack s.running (map meaning rest))))
      (sym (null_agrees a h.0 n))))) s.frame.stack refl

  -- what comes once two references are null or not
  abbrev EqualRest : Bool → ℕ → ℕ → ℕ → List ℕ → Bool → Bool → Plan
  EqualRest wanted place a b rest x y = if x && y then jump_if (here p typing state machine meaning s) wanted true place rest else
      if x || y then jump_if (here p typing state machine meaning s) wanted false place rest else if has a b state.eq then by_equal
      a b else jump_if (here p typing state machine meaning s) wanted false place rest

  pub equal_test : (wanted : Bool) (place : ℕ) → Effects (if_acmp_effect wanted place s.running)
      → Covered (equal_plan (here p typing state machine meaning s) wanted place s.frame.stack)
  equal_test wanted place is =
      by_reference p typing state machine meaning s (equal_plan (here p typing state machine meaning s) wanted place)
      (λ f. none (if_acmp_effect wanted place s.running) is (acmp_stuck wanted place s.running f)) next s.frame.stack refl
    where
      next : (b : ℕ) (rest : List ℕ) → AllByRecursion Holds (b ∷ rest) → s.running.stack ≡ meaning b ∷ map meaning rest
          → top_reference s.running.stack ≡ Some (meaning b, map meaning rest)
          → Covered (equal_plan (here p typing state machine meaning s) wanted place (b ∷ rest))
      next b [] h e t = absurd
          (none (if_acmp_effect wanted place s.running) is (acmp_stuck_next wanted place s.running (meaning b) [] t refl))
      next b (a ∷ rest) h e t = by (meaning a) refl
        where
          effect : Option (Effect MachineFrame)
          effect = if_acmp_effect wanted place s.running

          right_reference : reference_of (meaning b) ≡ Some (meaning b)
          right_reference = top_is_reference (meaning b) (map meaning (a ∷ rest)) (sym (ap top_reference e) ∙ t)

          decided : reference_of (meaning a) ≡ Some (meaning a)
              → Covered (equal_plan (here p typing state machine meaning s) wanted place (b ∷ a ∷ rest))
          decided left_reference = same (a == b) refl
            where
              told : effect ≡ Some (branch (is_wanted wanted (same_reference (meaning a) (meaning b))) place
                  (with_stack s.running (map meaning rest)))
              told = acmp_by wanted place s.running (meaning b) (meaning a) (map meaning (a ∷ rest)) (map meaning rest) t
                  (ap (option_map (λ (v : Value). (v, map meaning rest))) left_reference)

              jump : (test : Bool) → same_reference (meaning a) (meaning b) ≡ test
                  → Covered (jump_if (here p typing state machine meaning s) wanted test place rest)
              jump test g = jumps_if wanted test place rest h.1.1 effect is
                  (told ∙ ap (λ (x : Bool). Some (branch (is_wanted wanted x) place (with_stack s.running (map meaning rest)))) g)

              apart : (a == b) ≡ false → has a b state.eq ≡ false → is_null (meaning a) ≡ false → is_null (meaning b) ≡ false
                  → same_reference (meaning a) (meaning b) ≡ false
              apart differ unequal na nb =
                  let left = named_reference (meaning a) na left_reference in
                  let right = named_reference (meaning b) nb right_reference in
                  at left.0 right.0 left.1 right.1
                where
                  at : (o q : ℕ) → meaning a ≡ values.Ref o → meaning b ≡ values.Ref q → same_reference (meaning a) (meaning b) ≡ false
                  at o q f g = ap (λ (v : Value). same_reference v (meaning b)) f ∙ ap (same_reference (values.Ref o)) g ∙ ne (o == q) refl
                    where
                      ne : (c : Bool) → eqb o q ≡ c → c ≡ false
                      ne false k = refl
                      ne true k =
                          let eq : AreEqual state a b = s.fits.aliases a b o h.1.0 h.0
                          (λ (z : a ≡ b). false≢true (sym differ ∙ eq-eqb a b z)) (ap target f)
                          (ap target g ∙ ap Some (sym (eqb-true o q k))) in
                          absurd (false≢true (sym unequal ∙ eq))

              equal : (x : Bool) → has a b state.eq ≡ x → (a == b) ≡ false → is_null (meaning a) ≡ false
                  → is_null (meaning b) ≡ false
                  → Covered (if x then by_equal a b else jump_if (here p typing state machine meaning s) wanted false place rest)
              equal true k differ na nb = equal_meets p state machine meaning (rests p typing state machine meaning s) a b k
                  (λ (z : a ≡ b). false≢true (sym differ ∙ eq-eqb a b z))
              equal false k differ na nb = jump false (apart differ k na nb)

              nulls : (x y : Bool) → is_null (meaning a) ≡ x → is_null (meaning b) ≡ y → (a == b) ≡ false
                  → Covered (if x && y then jump_if (here p typing state machine meaning s) wanted true place rest else if x || y
                  then jump_if (here p typing state machine meaning s) wanted false place rest else if has a b state.eq then
                  by_equal a b else jump_if (here p typing state machine meaning s) wanted false place rest)
              nulls true true na nb differ = jump true (null_both (meaning a) (meaning b) na nb)
              nulls true false na nb differ = jump false (null_one (meaning a) (meaning b) na nb)
              nulls false true na nb differ = jump false (null_other (meaning a) (meaning b) na nb)
              nulls false false na nb differ = equal (has a b state.eq) refl differ na nb

              same : (x : Bool) → eqb a b ≡ x → Covered (equal_plan (here p typing state machine meaning s) wanted place (b ∷ a ∷ rest))
              same true k =
                  subst (λ (x : Bool). Covered (if x then jump_if (here p typing state machine meaning s) wanted true place rest
                  else need_null state a
                  (need_null state b (EqualRest wanted place a b rest
                  (is_null_here (here p typing state machine meaning s) a)
                  (is_null_here (here p typing state machine meaning s) b))))) (sym k)
                  (jump true (ap (λ (v : Value). same_reference v (meaning b)) (ap meaning (eqb-true a b k))
                  ∙ same_itself (meaning b) right_reference))
              same false k =
                  subst (λ (x : Bool). Covered (if x then jump_if (here p typing state machine meaning s) wanted true place rest
                  else need_null state a
                  (need_null state b (EqualRest wanted place a b rest
                  (is_null_here (here p typing state machine meaning s) a)
                  (is_null_here (here p typing state machine meaning s) b))))) (sym k)
                  (need_null_meets p state machine meaning (rests p typing state machine meaning s) a
                  (need_null state b (EqualRest wanted place a b rest (is_null_here (here p typing state machine meaning s) a)
                  (is_null_here (here p typing state machine meaning s) b))) (λ na.
                  need_null_meets p state machine meaning (rests p typing state machine meaning s) b
                  (EqualRest wanted place a b rest (is_null_here (here p typing state machine meaning s) a)
                  (is_null_here (here p typing state machine meaning s) b)) (λ nb.
                  nulls (is_null_here (here p typing state machine meaning s) a)
                  (is_null_here (here p typing state machine meaning s) b) (sym (null_agrees a h.1.0 na))
                  (sym (null_agrees b h.0 nb)) k)))

          by : (v : Value) → meaning a ≡ v → Covered (equal_plan (here p typing state machine meaning s) wanted place (b ∷ a ∷ rest))
          by (values.Int n) f = absurd
              (none effect is (acmp_stuck_next wanted place s.running (meaning b) (map meaning (a ∷ rest)) t
              (ap (λ (v : Value). top_reference (v ∷ map meaning rest)) f)))
          by values.Null f = decided (ap reference_of f ∙ ap Some (sym f))
          by (values.Ref o) f = decided (ap reference_of f ∙ ap Some (sym f))

  -- ---- accesses to an object

  -- the place's type of an entry of the stack
  pub typed_under : (depth x : ℕ) → slice_get s.frame.stack depth ≡ Some x → IsTypedId (types_of p.world) state machine meaning
      (place_under (here p typing state machine meaning s) depth) x
  typed_under depth x e = typed_at (types_of p.world) state machine meaning x s.there.stack s.running.stack s.frame.stack depth
      s.typed s.set s.of_world s.fit.top.stack (stack_held p typing state machine meaning s s.frame.stack refl) e

  -- the object of an entry is null, which throws; else it is known, or an array
  pub accessed_meets : (depth x : ℕ) (plan : Plan) → slice_get s.frame.stack depth ≡ Some x
      → reference_of (meaning x) ≡ Some (meaning x)
      → (meaning x ≡ values.Null → step p machine ≡ Step.Going (raised p typing state machine meaning s null_pointer_exception))
      → ((class : ℕ) (ids : List ℕ) (r : ℕ) → cell_at state x ≡ Some (cells.Obj class ids) → meaning x ≡ values.Ref r
      → slice_get machine.heap.objects r ≡ Some (objects.Instance class (map meaning ids)) → Covered plan)
      → ((kind : Kind) (len r : ℕ) (items : List ℤ) → cell_at state x ≡ Some (cells.Nums kind len) → meaning x ≡ values.Ref r
      → slice_get machine.heap.objects r ≡ Some (objects.Nums kind items) → meaning len ≡ values.Int (pos (length items))
      → Covered plan)
      → ((element : Ty) (len : ℕ) (shape : Shape) (r : ℕ) (item : Ty) (items : List Value)
      → cell_at state x ≡ Some (cells.Refs element len shape) → meaning x ≡ values.Ref r
      → slice_get machine.heap.objects r ≡ Some (objects.Refs item items) → IsTrue ((types_of p.world).sub item element)
      → meaning len ≡ values.Int (pos (length items)) → Covered plan)
      → Covered (accessed (here p typing state machine meaning s) depth x plan)
  accessed_meets depth x plan e reference raise instance numbers references =
      let t = typed_under depth x e in
      need_object_meets p state machine meaning (rests p typing state machine meaning s) x
      (place_under (here p typing state machine meaning s) depth) (unless_null (here p typing state machine meaning s) x plan) t
      (λ n u. by t.own.cell t.own.is (s.fits.cells x t.own.cell t.own.is) (sym (ap may_be_null t.own.is) ∙ n)
      (sym (ap is_unknown t.own.is) ∙ u))
    where
      goes : (c : Cell) → cell_at state x ≡ Some c → is_null_cell (Some c) ≡ false → Covered plan
          → Covered (unless_null (here p typing state machine meaning s) x plan)
      goes c f n g = subst (λ (b : Bool). Covered
          (if b then steps (throws (here p typing state machine meaning s) null_pointer_exception ∷ []) else plan))
          (sym (ap is_null_cell f ∙ n)) g

      null_goes : cell_at state x ≡ Some cells.Null → meaning x ≡ values.Null
          → Covered (unless_null (here p typing state machine meaning s) x plan)
      null_goes f d = subst
          (λ (b : Bool). Covered (if b then steps (throws (here p typing state machine meaning s) null_pointer_exception ∷ []) else
          plan)) (sym (ap is_null_cell f))
          (inl (throwing_turn p typing state machine meaning s [] no_rows null_pointer_exception tt (omega arith)
          (λ id after. All-nil (HoldsBetween meaning after)) (raise d)))

      no_int : {m : ℤ} → meaning x ≡ values.Int m → ⊥
      no_int {m} f = none-some (meaning x) (sym (ap reference_of f) ∙ reference)

      by : (c : Cell) → cell_at state x ≡ Some c → Describes (types_of p.world) machine.heap meaning c (meaning x)
          → may_be_null (Some c) ≡ false → is_unknown (Some c) ≡ false
          → Covered (unless_null (here p typing state machine meaning s) x plan)
      by (cells.Int interval) f d n u = absurd (no_int d.1.0)
      by cells.Null f d n u = null_goes f d
      by (cells.Obj class ids) f d n u = goes (cells.Obj class ids) f refl
          (instance class ids d.place f d.names (d.stands ∙ ap Some d.holds))
      by (cells.Nums kind len) f d n u = goes (cells.Nums kind len) f refl
          (numbers kind len d.place d.holds.items f d.names (d.stands ∙ ap Some d.holds.is) d.holds.length_is)
      by (cells.Refs element len shape) f d n u = goes (cells.Refs element len shape) f refl
          (references element len shape d.place d.holds.item d.holds.items f d.names (d.stands ∙ ap Some d.holds.is) d.holds.below
          d.holds.length_is)
      by (cells.Unk bound true shape) f d n u = absurd (false≢true (sym n))
      by (cells.Unk bound false shape) f d n u = absurd (false≢true (sym u))
