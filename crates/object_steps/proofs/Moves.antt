-- Forms that move values between locals and the stack, that compute with ints, that jump, and that return.
use Rattle.std.proofs.Common.{◌≡◌, ◌≢◌, ◌∙◌, ◌<◌, ◌⊎◌, inl, inr, ℕ, ℤ, pos, ◌+ℤ◌, ◌-ℤ◌, Bool, true, false, if◌then◌else◌, List, []}
use Rattle.std.proofs.Common.{◌∷◌, length, map, Option, Some, None, slice_get, refl, sym, ap, subst, arith}
use Rattle.std.specs.Prelude.{slice_set, nat_lt}
use Rattle.std.specs.Int.{int_wrap, w32}
use Rattle.std.specs.List.{AllByRecursion}
use Rattle.std.specs.Option.{option_map, option_and_then, option_to_list, MatchOption}
use Rattle.std.proofs.lemmas.Bool.{false≢true, ltb-true}
use Rattle.std.proofs.lemmas.Int.{ints}
use Rattle.std.proofs.lemmas.List.Elements.{All-nil}
use Rattle.std.proofs.lemmas.Option.{none-some}
use Rattle.list_views.specs.Options.{asked}
use Rattle.list_views.proofs.Items.{get_before}
use Rattle.list_views.proofs.Options.{then_some}
use Rattle.lin_core.specs.Intervals.{Bounds, IsIn}
use Rattle.jvm_step.specs.code_forms.declared.insn.Case.{Case}
use Rattle.jvm_values.specs.declared.heap.Value.{Value}
use Rattle.jvm_values.specs.declared.heap.Value.TheVariants as values
use Rattle.jvm_values.specs.declared.ints.Cond.{Cond}
use Rattle.jvm_values.specs.declared.ints.IntOp.{IntOp}
use Rattle.jvm_values.specs.declared.ints.IntOp.TheVariants.{Add, Sub, Narrow}
use Rattle.jvm_values.specs.declared.types.Kind.{Kind}
use Rattle.jvm_values.specs.declared.types.Kind.TheVariants as kinds
use Rattle.jvm_values.specs.declared.typing.PlaceType.{PlaceType}
use Rattle.jvm_values.specs.declared.typing.PlaceType.TheVariants as places
use Rattle.jvm_values.specs.Ints.{cond_holds}
use Rattle.jvm_values.specs.Kinds.{IsOfKind, narrowed}
use Rattle.jvm_values.specs.States.{MachineFrame, MachineState, PlaceTypes}
use Rattle.abs_cells.specs.declared.cells.Cell.{Cell}
use Rattle.abs_cells.specs.declared.cells.Cell.TheVariants as cells
use Rattle.abs_cells.specs.AbstractStates.{AbstractState}
use Rattle.abs_cells.specs.Cells.{HasCell}
use Rattle.abs_cells.specs.Fits.{Meaning, Describes}
use Rattle.abs_ints.specs.Falling.{FallsUnder}
use Rattle.abs_ints.specs.Operating.{operated}
use Rattle.abs_ints.specs.declared.cases.IntCase.{IntCase}
use Rattle.abs_ints.proofs.AllCases.{operated_covers}
use Rattle.jvm_step.specs.class_world.BuiltIns.{arithmetic_exception}
use Rattle.jvm_step.specs.class_world.WorldTypes.{types_of}
use Rattle.jvm_step.specs.class_program.Programs.{Program}
use Rattle.jvm_step.specs.op_forms.declared.form.Shuffle.{Shuffle as StackShuffle}
use Rattle.jvm_step.specs.op_forms.Forms.{shuffled}
use Rattle.frame_types.specs.Places.{IsSet}
use Rattle.frame_types.specs.Tables.{CodeTypes}
use Rattle.form_steps.specs.code_verify.Operands.{is_int, is_reference}
use Rattle.form_steps.specs.code_verify.Rows.{iload_types, aload_types, iinc_types}
use Rattle.jvm_step.specs.Operands.{int_of, reference_of, top_int, top_reference}
use Rattle.jvm_step.specs.Effects.{Effect, with_stack, branch, sets, int_of_local, reference_of_local, constant_effect}
use Rattle.jvm_step.specs.Effects.{iload_effect, aload_effect, istore_effect, astore_effect, iinc_effect, shuffle_effect}
use Rattle.jvm_step.specs.Effects.{arith_result, arith_effect, ineg_effect, narrow_effect, if_effect, if_icmp_effect, goto_effect}
use Rattle.jvm_step.specs.Effects.{tableswitch_effect, lookupswitch_effect}
use Rattle.jvm_step.specs.Table.{effect_of, on_frame}
use Rattle.jvm_step.specs.Running.{Step, step}
use Rattle.form_steps.proofs.jvm_run.Placed.{asked_is}
use Rattle.form_steps.specs.TermGraphEdges.{HoldsBetween}
use Rattle.form_steps.specs.TermGraphLinkRow.{LinkRow}
use Rattle.form_steps.specs.abs_expand.Plans.{on_stack, in_local, makes, Turn, Plan, steps, no_rows}
use Rattle.form_steps.specs.abs_expand.inner.Building.{HoldsIds}
use Rattle.form_steps.specs.abs_expand.Switches.{table_keys, lookup_keys}
use Rattle.form_steps.specs.abs_expand.Table.{local_here, step_if, one_step, unary, binary, load_plan, store_plan, increment_plan}
use Rattle.form_steps.specs.abs_expand.Table.{negation_plan, narrow_plan, switch_plan, number_cell}
use Rattle.form_steps.specs.abs_expand.Turns.{with_stack as stack_at, pushes, turn_narrowing, known, id, goes_on, interval_of_id, turns_of, branches}
use Rattle.form_steps.proofs.abs_plans.Holding.{local_held, set_held, reordered}
use Rattle.form_steps.proofs.SomeOf.{SomeOf, some_one, some_of_map}
use Rattle.form_steps.proofs.Keys.{key_target, lookup_target, table_target}
use Rattle.form_steps.proofs.Effects.{constant_is, goto_is, sets_is, sets_none, shuffle_is, arith_is, ineg_is, narrow_is, if_is}
use Rattle.form_steps.proofs.Effects.{if_icmp_is, table_is, lookup_is, shuffled_values}
use Rattle.form_steps.specs.inner.Lows.{IsPlainCell}
use Rattle.form_steps.proofs.Tops.{stacked, local_set}
use Rattle.form_steps.proofs.Standing.{Stands, onward, here, Work_, held, going, no_frame_effect, goes_after, goes_next, goes_to}
use Rattle.form_steps.proofs.Standing.{raises_frame}
use Rattle.form_steps.proofs.TurnKinds.{Fitting, Meets, IsChange, RowsHold, top_turn, pushing_turn, setting_turn}
use Rattle.form_steps.proofs.Operands.{IntAt, int_at, bounded, by_int, by_two_ints, stack_is, stack_held}
use Rattle.object_steps.proofs.IntSteps.{is_operator, operator, narrowing_turn, comparison, switched}

-- ---- effects

istore_stuck : (n : ℕ) (f : MachineFrame) → top_int f.stack ≡ None → istore_effect n f ≡ None
unfolding istore_effect
istore_stuck n f e = rw e refl

istore_by : (n : ℕ) (f : MachineFrame) (number : ℤ) (below : List Value) → top_int f.stack ≡ Some (number, below)
    → istore_effect n f ≡ sets n (values.Int number) below f
unfolding istore_effect
istore_by n f number below e = rw e refl

astore_stuck : (n : ℕ) (f : MachineFrame) → top_reference f.stack ≡ None → astore_effect n f ≡ None
unfolding astore_effect
astore_stuck n f e = rw e refl

astore_by : (n : ℕ) (f : MachineFrame) (value : Value) (below : List Value) → top_reference f.stack ≡ Some (value, below)
    → astore_effect n f ≡ sets n value below f
unfolding astore_effect
astore_by n f value below e = rw e refl

iload_by : (n : ℕ) (f : MachineFrame) (found : Option ℤ) → int_of_local f.locals n ≡ found
    → iload_effect n f ≡ option_map (λ (number : ℤ). Effect.Next (with_stack f (values.Int number ∷ f.stack))) found
unfolding iload_effect
iload_by n f None e = rw e refl
iload_by n f (Some number) e = rw e refl

aload_by : (n : ℕ) (f : MachineFrame) (found : Option Value) → reference_of_local f.locals n ≡ found
    → aload_effect n f ≡ option_map (λ (value : Value). Effect.Next (with_stack f (value ∷ f.stack))) found
unfolding aload_effect
aload_by n f None e = rw e refl
aload_by n f (Some value) e = rw e refl

int_local : (locals : List (Option Value)) (n : ℕ) (found : Option (Option Value)) → slice_get locals n ≡ found
    → int_of_local locals n ≡ option_and_then (λ (local : Option Value). option_and_then int_of local) found
unfolding int_of_local
int_local locals n None e = rw e refl
int_local locals n (Some local) e = rw e refl

reference_local : (locals : List (Option Value)) (n : ℕ) (found : Option (Option Value)) → slice_get locals n ≡ found
    → reference_of_local locals n ≡ option_and_then (λ (local : Option Value). option_and_then reference_of local) found
unfolding reference_of_local
reference_local locals n None e = rw e refl
reference_local locals n (Some local) e = rw e refl

iinc_by : (n : ℕ) (by : ℤ) (f : MachineFrame) (number : ℤ) → int_of_local f.locals n ≡ Some number
    → iinc_effect n by f ≡ sets n (values.Int (int_wrap w32 (number +ℤ by))) f.stack f
unfolding iinc_effect
iinc_by n by f number e = rw e refl

iinc_stuck : (n : ℕ) (by : ℤ) (f : MachineFrame) → int_of_local f.locals n ≡ None → iinc_effect n by f ≡ None
unfolding iinc_effect
iinc_stuck n by f e = rw e refl

arith_stuck : (o : IntOp) (f : MachineFrame) → top_int f.stack ≡ None → arith_effect o f ≡ None
unfolding arith_effect
arith_stuck o f e = rw e refl

arith_stuck_next : (o : IntOp) (f : MachineFrame) (n : ℤ) (below : List Value) → f.stack ≡ values.Int n ∷ below
    → top_int below ≡ None → arith_effect o f ≡ None
unfolding arith_effect
arith_stuck_next o f n below e g = rw (e, g) refl

ineg_stuck : (f : MachineFrame) → top_int f.stack ≡ None → ineg_effect f ≡ None
unfolding ineg_effect
ineg_stuck f e = rw e refl

narrow_stuck : (kind : Kind) (f : MachineFrame) → top_int f.stack ≡ None → narrow_effect kind f ≡ None
unfolding narrow_effect
narrow_stuck kind f e = rw e refl

if_stuck : (condition : Cond) (place : ℕ) (f : MachineFrame) → top_int f.stack ≡ None → if_effect condition place f ≡ None
unfolding if_effect
if_stuck condition place f e = rw e refl

if_icmp_stuck : (condition : Cond) (place : ℕ) (f : MachineFrame) → top_int f.stack ≡ None → if_icmp_effect condition place f ≡ None
unfolding if_icmp_effect
if_icmp_stuck condition place f e = rw e refl

if_icmp_stuck_next : (condition : Cond) (place : ℕ) (f : MachineFrame) (n : ℤ) (below : List Value) → f.stack ≡ values.Int n ∷ below
    → top_int below ≡ None → if_icmp_effect condition place f ≡ None
unfolding if_icmp_effect
if_icmp_stuck_next condition place f n below e g = rw (e, g) refl

table_stuck : (default : ℕ) (low : ℤ) (targets : List ℕ) (f : MachineFrame) → top_int f.stack ≡ None
    → tableswitch_effect default low targets f ≡ None
unfolding tableswitch_effect
table_stuck default low targets f e = rw e refl

lookup_stuck : (default : ℕ) (cases : List Case) (f : MachineFrame) → top_int f.stack ≡ None → lookupswitch_effect default cases f ≡ None
unfolding lookupswitch_effect
lookup_stuck default cases f e = rw e refl

-- ---- where the typing has an int or a reference

record LoadedPlace (there : PlaceTypes) (n : ℕ) : Type 0 where
  place : PlaceType
  is : slice_get there.locals n ≡ Some place
  set : IsSet place

int_set : (place : PlaceType) → is_int place ≡ true → place ≢ places.Unset
int_set place e u = false≢true (ap is_int (sym u) ∙ e)

reference_set : (place : PlaceType) → is_reference place ≡ true → place ≢ places.Unset
reference_set place e u = false≢true (ap is_reference (sym u) ∙ e)

loads_int : (n : ℕ) (there after : PlaceTypes) → iload_types n there ≡ Some after → LoadedPlace there n
unfolding iload_types
loads_int n there after e =
    let place = then_some _ (slice_get there.locals n) after e in
    let fit = then_some _ (asked (is_int place.0)) after place.1.1 in
    record { place = place.0; is = place.1.0; set = int_set place.0 (asked_is (is_int place.0) fit.0 fit.1.0) }

loads_reference : (n : ℕ) (there after : PlaceTypes) → aload_types n there ≡ Some after → LoadedPlace there n
unfolding aload_types
loads_reference n there after e =
    let place = then_some _ (slice_get there.locals n) after e in
    let fit = then_some _ (asked (is_reference place.0)) after place.1.1 in
    record { place = place.0; is = place.1.0; set = reference_set place.0 (asked_is (is_reference place.0) fit.0 fit.1.0) }

increments_int : (n : ℕ) (there after : PlaceTypes) → iinc_types n there ≡ Some after → LoadedPlace there n
unfolding iinc_types
increments_int n there after e =
    let place = then_some _ (slice_get there.locals n) after e in
    let fit = then_some _ (asked (is_int place.0)) after place.1.1 in
    record { place = place.0; is = place.1.0; set = int_set place.0 (asked_is (is_int place.0) fit.0 fit.1.0) }

module _ (p : Program) (typing : ℕ → CodeTypes) (state : AbstractState) (machine : MachineState) (meaning : Meaning)
    (s : Stands p typing state machine meaning) where
  abbrev Fit : Turn → Type 0
  Fit = Fitting p state machine meaning

  abbrev Covered : Plan → Type 0
  Covered = Meets p state machine meaning

  abbrev Holds : ℕ → Type 0
  Holds = HasCell (λ _. true) state

  abbrev Next : ℕ
  Next = onward p typing state machine meaning s

  abbrev Effects : Option (Effect MachineFrame) → Type 0
  Effects effect = effect_of p s.method s.form (Work_ p typing state machine meaning s) ≡ on_frame
      (Work_ p typing state machine meaning s) effect

  none : (effect : Option (Effect MachineFrame)) → Effects effect → effect ≡ None → ⊥
  none = no_frame_effect p typing state machine meaning s

  -- the frame goes on at a place, with a stack of ids of the state
  pub going_turn : (place : ℕ) (ids : List ℕ) (stack : List Value) → AllByRecursion Holds ids → stack ≡ map meaning ids
      → step p machine ≡ Step.Going (going (record s.running { pc = place; stack = stack } ∷ s.below) machine.heap machine.statics)
      → Fit (goes_on (here p typing state machine meaning s) place ids)
  going_turn place ids stack h e g = narrowing_turn p typing state machine meaning s [] place ids stack no_rows tt h e
      (λ fresh. All-nil (HoldsBetween meaning meaning)) g

  frame_held : HoldsIds state s.frame
  frame_held = held p typing state machine meaning s

  -- an int or null is pushed
  pub pushed_turn : (list : List (ℕ × Cell)) (ids : List ℕ) (stack : List Value) (cell : Cell) (value : Value)
      (rows : ℕ → List LinkRow) → AllByRecursion (IsChange (types_of p.world) machine.heap state meaning) list
      → AllByRecursion Holds ids → stack ≡ map meaning ids → IsPlainCell cell → Describes (types_of p.world) machine.heap meaning
      cell value
      → RowsHold state meaning value rows
      → step p machine ≡ Step.Going (going (record s.running { pc = Next; stack = value ∷ stack } ∷ s.below) machine.heap
      machine.statics) → Fit
      (record {
        changed = list;
        frames = stack_at (here p typing state machine meaning s) Next ids;
        throwing = None;
        act = makes
            cell;
        goal = on_stack;
        rows = rows;
      })
  pushed_turn list ids stack cell value rows a h e plain described holds g =
      pushing_turn p typing state machine meaning s list
      (record { method = s.frame.method; pc = Next; locals = s.frame.locals; stack = ids }) cell value rows
      (record s.running { pc = Next; stack = stack }) a (record { locals = frame_held.locals; stack = h })
      (record {
        top = record { method = s.fit.top.method; pc = refl; locals = s.fit.top.locals; stack = e };
        lower_fit =
            s.fit.lower_fit;
      }) plain described holds g

  -- ---- constants

  pub nothing_done : effect_of p s.method s.form (Work_ p typing state machine meaning s) ≡ Some
      (Effect.Next (Work_ p typing state machine meaning s))
      → Covered (one_step (goes_on (here p typing state machine meaning s) Next s.frame.stack))
  nothing_done is = inl
      (going_turn Next s.frame.stack s.running.stack frame_held.stack s.fit.top.stack
      (goes_after p typing state machine meaning s (Work_ p typing state machine meaning s) is))

  pub pushed_null : Effects (constant_effect values.Null s.running)
      → Covered (one_step (pushes (here p typing state machine meaning s) cells.Null s.frame.stack))
  pushed_null is = inl (pushed_turn [] s.frame.stack s.running.stack cells.Null values.Null no_rows tt frame_held.stack
      s.fit.top.stack tt refl (λ fresh after v. All-nil (HoldsBetween meaning after))
      (goes_next p typing state machine meaning s _ (with_stack s.running (values.Null ∷ s.running.stack)) is
      (constant_is values.Null s.running)))

  pub constant : (number : ℤ) → Effects (constant_effect (values.Int number) s.running)
      → Covered (one_step (pushes (here p typing state machine meaning s) (number_cell number) s.frame.stack))
  constant number is = inl (pushed_turn [] s.frame.stack s.running.stack (number_cell number) (values.Int number) no_rows tt
      frame_held.stack s.fit.top.stack tt (number, (refl, (omega (arith, ints), omega (arith, ints))))
      (λ fresh after v. All-nil (HoldsBetween meaning after))
      (goes_next p typing state machine meaning s _ (with_stack s.running (values.Int number ∷ s.running.stack)) is
      (constant_is (values.Int number) s.running)))

  -- ---- loads

  -- the value of a local that both frames have
  found_local : (n x : ℕ) → slice_get s.frame.locals n ≡ Some (Some x) → (slice_get s.running.locals n ≡ None → ⊥)
      → slice_get s.running.locals n ≡ Some (Some (meaning x))
  found_local n x e some = at (slice_get s.running.locals n) refl
    where
      at : (found : Option (Option Value)) → slice_get s.running.locals n ≡ found → slice_get s.running.locals n ≡ Some (Some (meaning x))
      at None f = absurd (some f)
      at (Some local) f = f ∙ sym (get_before s.running.locals _ n local f) ∙ s.fit.top.locals n x e

  loaded : (n : ℕ) (effect : Option (Effect MachineFrame)) → LoadedPlace s.there n → Effects effect
      → (slice_get s.running.locals n ≡ None → effect ≡ None)
      → ((v : Value) → slice_get s.running.locals n ≡ Some (Some v) → (effect ≡ None)
      ⊎ (effect ≡ Some (Effect.Next (with_stack s.running (v ∷ s.running.stack)))))
      → Covered (load_plan (here p typing state machine meaning s) n)
  loaded n effect l is stuck gives =
      let x = s.given n l.place l.is l.set in
      let value = found_local n x.0 x.1 (λ f. none effect is (stuck f)) in
      subst (λ (found : Option ℕ). Covered
      (step_if (option_map (λ (y : ℕ). goes_on (here p typing state machine meaning s) Next (y ∷ s.frame.stack)) found)))
      (sym (ap (option_and_then (λ (local : Option ℕ). local)) x.1))
      (elim (gives (meaning x.0) value) [
        | inl f ↦ absurd (none effect is f)
        | inr f ↦ inl (going_turn Next (x.0 ∷ s.frame.stack) (meaning x.0 ∷ s.running.stack)
            (local_held Holds s.frame.locals n x.0 frame_held.locals x.1, frame_held.stack)
            (ap (λ (vs : List Value). meaning x.0 ∷ vs) s.fit.top.stack)
            (goes_next p typing state machine meaning s effect (with_stack s.running (meaning x.0 ∷ s.running.stack)) is f))
      ])

  pub load_int : (n : ℕ) → iload_types n s.there ≡ Some s.after → Effects (iload_effect n s.running)
      → Covered (load_plan (here p typing state machine meaning s) n)
  load_int n e is = loaded n (iload_effect n s.running) (loads_int n s.there s.after e) is
      (λ f. iload_by n s.running None (int_local s.running.locals n None f))
      (λ v f. at v (iload_by n s.running (int_of v) (int_local s.running.locals n (Some (Some v)) f)))
    where
      at : (v : Value) → iload_effect n s.running ≡ option_map
          (λ (number : ℤ). Effect.Next (with_stack s.running (values.Int number ∷ s.running.stack))) (int_of v)
          → (iload_effect n s.running ≡ None)
          ⊎ (iload_effect n s.running ≡ Some (Effect.Next (with_stack s.running (v ∷ s.running.stack))))
      at (values.Int number) f = inr f
      at values.Null f = inl f
      at (values.Ref r) f = inl f

  pub load_reference : (n : ℕ) → aload_types n s.there ≡ Some s.after → Effects (aload_effect n s.running)
      → Covered (load_plan (here p typing state machine meaning s) n)
  load_reference n e is = loaded n (aload_effect n s.running) (loads_reference n s.there s.after e) is
      (λ f. aload_by n s.running None (reference_local s.running.locals n None f))
      (λ v f. at v (aload_by n s.running (reference_of v) (reference_local s.running.locals n (Some (Some v)) f)))
    where
      at : (v : Value) → aload_effect n s.running ≡ option_map
          (λ (value : Value). Effect.Next (with_stack s.running (value ∷ s.running.stack))) (reference_of v)
          → (aload_effect n s.running ≡ None)
          ⊎ (aload_effect n s.running ≡ Some (Effect.Next (with_stack s.running (v ∷ s.running.stack))))
      at (values.Int number) f = inl f
      at values.Null f = inr f
      at (values.Ref r) f = inr f

  -- ---- stores

  -- a local is set, if it is there
  set_there : (n : ℕ) (value : Value) (below : List Value) (effect : Option (Effect MachineFrame)) → Effects effect
      → effect ≡ sets n value below s.running → (n < length s.running.locals)
      × (step p machine ≡ Step.Going
      (going (record s.running { pc = Next; locals = slice_set s.running.locals n (Some value); stack = below } ∷ s.below)
      machine.heap machine.statics))
  set_there n value below effect is e = at (nat_lt n (length s.running.locals)) refl
    where
      at : (b : Bool) → nat_lt n (length s.running.locals) ≡ b → (n < length s.running.locals)
          × (step p machine ≡ Step.Going
          (going (record s.running { pc = Next; locals = slice_set s.running.locals n (Some value); stack = below } ∷ s.below)
          machine.heap machine.statics))
      at true f =
          let l : n < length s.running.locals = ltb-true n (length s.running.locals) f in (
            l,
            goes_next p typing state machine meaning s effect
                (record s.running { locals = slice_set s.running.locals n (Some value); stack = below }) is
                (e ∙ sets_is n value below s.running l),
          )
      at false f = absurd (none effect is (e ∙ sets_none n value below s.running f))

  -- an id of the state goes into a local
  stored : (n x : ℕ) (rest : List ℕ) (effect : Option (Effect MachineFrame)) → AllByRecursion Holds (x ∷ rest) → Effects effect
      → effect ≡ sets n (meaning x) (map meaning rest) s.running
      → Covered (store_plan (here p typing state machine meaning s) n (x ∷ rest))
  stored n x rest effect h is e =
      let g = set_there n (meaning x) (map meaning rest) effect is e in
      inl (top_turn p typing state machine meaning s []
      (record { method = s.frame.method; pc = Next; locals = slice_set s.frame.locals n (Some x); stack = rest }) no_rows
      (record s.running { pc = Next; locals = slice_set s.running.locals n (Some (meaning x)); stack = map meaning rest }) tt
      (record { locals = set_held Holds s.frame.locals n x frame_held.locals h.0; stack = h.1 })
      (local_set meaning (record { method = s.frame.method; pc = Next; locals = s.frame.locals; stack = rest }) s.lower
      machine.statics (record s.running { pc = Next; stack = map meaning rest }) s.below n x (meaning x) g.0 refl
      (stacked meaning s.frame s.lower machine.statics s.running s.below Next rest (map meaning rest) refl s.fit))
      (λ fresh. All-nil (HoldsBetween meaning meaning)) g.1)

  pub store_int : (n : ℕ) → Effects (istore_effect n s.running)
      → Covered (store_plan (here p typing state machine meaning s) n s.frame.stack)
  store_int n is =
      by_int p typing state machine meaning s (store_plan (here p typing state machine meaning s) n)
      (λ f. none (istore_effect n s.running) is (istore_stuck n s.running f)) (λ a rest e t.
      stored n a rest (istore_effect n s.running) ((record { cell = cells.Int t.int.old; is = t.int.at; sort_is = refl }), t.others) is
      (istore_by n s.running t.number (map meaning rest) (ap top_int (e ∙ t.stack))
      ∙ ap (λ (v : Value). sets n v (map meaning rest) s.running) (sym t.int.is))) s.frame.stack refl

  pub by_reference_at : (plan : List ℕ → Plan) → (top_reference s.running.stack ≡ None → ⊥)
      → ((a : ℕ) (rest : List ℕ) → s.frame.stack ≡ a ∷ rest → AllByRecursion Holds (a ∷ rest)
      → s.running.stack ≡ meaning a ∷ map meaning rest → top_reference s.running.stack ≡ Some (meaning a, map meaning rest)
      → Covered (plan (a ∷ rest))) → (ids : List ℕ) → s.frame.stack ≡ ids → Covered (plan ids)
  by_reference_at plan some h [] e = absurd (some (ap top_reference (stack_is p typing state machine meaning s [] e)))
  by_reference_at plan some h (a ∷ rest) e = at (meaning a) refl
    where
      whole : s.running.stack ≡ meaning a ∷ map meaning rest
      whole = stack_is p typing state machine meaning s (a ∷ rest) e

      top_is : (v : Value) → meaning a ≡ v → top_reference s.running.stack ≡ option_map (λ (r : Value). (r, map meaning rest))
          (reference_of v)
      top_is v f = ap top_reference whole ∙ ap (λ (w : Value). option_map (λ (r : Value). (r, map meaning rest)) (reference_of w)) f

      at : (v : Value) → meaning a ≡ v → Covered (plan (a ∷ rest))
      at (values.Int n) f = absurd (some (top_is (values.Int n) f))
      at values.Null f = h a rest e (stack_held p typing state machine meaning s (a ∷ rest) e) whole
          (top_is values.Null f ∙ ap (λ (v : Value). Some (v, map meaning rest)) (sym f))
      at (values.Ref r) f = h a rest e (stack_held p typing state machine meaning s (a ∷ rest) e) whole
          (top_is (values.Ref r) f ∙ ap (λ (v : Value). Some (v, map meaning rest)) (sym f))

  pub by_reference : (plan : List ℕ → Plan) → (top_reference s.running.stack ≡ None → ⊥)
      → ((a : ℕ) (rest : List ℕ) → AllByRecursion Holds (a ∷ rest) → s.running.stack ≡ meaning a ∷ map meaning rest
      → top_reference s.running.stack ≡ Some (meaning a, map meaning rest) → Covered (plan (a ∷ rest))) → (ids : List ℕ)
      → s.frame.stack ≡ ids → Covered (plan ids)
  by_reference plan some h ids e = by_reference_at plan some (λ a rest f k g t. h a rest k g t) ids e

  pub store_reference : (n : ℕ) → Effects (astore_effect n s.running)
      → Covered (store_plan (here p typing state machine meaning s) n s.frame.stack)
  store_reference n is =
      by_reference (store_plan (here p typing state machine meaning s) n)
      (λ f. none (astore_effect n s.running) is (astore_stuck n s.running f)) (λ a rest h e t.
      stored n a rest (astore_effect n s.running) h is (astore_by n s.running (meaning a) (map meaning rest) t)) s.frame.stack refl

  pub increment : (n : ℕ) (by : ℤ) → IsOfKind kinds.Int by → iinc_types n s.there ≡ Some s.after
      → Effects (iinc_effect n by s.running)
      → Covered (increment_plan (here p typing state machine meaning s) n by (local_here (here p typing state machine meaning s) n))
  increment n by small e is =
      let l = increments_int n s.there s.after e in
      let x = s.given n l.place l.is l.set in
      let value = found_local n x.0 x.1
      (λ f. none (iinc_effect n by s.running) is (iinc_stuck n by s.running (int_local s.running.locals n None f))) in
      subst (λ (found : Option ℕ). Covered (increment_plan (here p typing state machine meaning s) n by found))
      (sym (ap (option_and_then (λ (local : Option ℕ). local)) x.1)) (at x.0 x.1 value (meaning x.0) refl)
    where
      at : (x : ℕ) → slice_get s.frame.locals n ≡ Some (Some x) → slice_get s.running.locals n ≡ Some (Some (meaning x))
          → (v : Value) → meaning x ≡ v → Covered (increment_plan (here p typing state machine meaning s) n by (Some x))
      at x g value values.Null f = absurd
          (none (iinc_effect n by s.running) is
          (iinc_stuck n by s.running (int_local s.running.locals n (Some (Some (meaning x))) value ∙ ap int_of f)))
      at x g value (values.Ref r) f = absurd
          (none (iinc_effect n by s.running) is
          (iinc_stuck n by s.running (int_local s.running.locals n (Some (Some (meaning x))) value ∙ ap int_of f)))
      at x g value (values.Int number) f =
          let i = int_at p typing state machine meaning s x number (local_held Holds s.frame.locals n x frame_held.locals g) f in
          let set = set_there n (values.Int (int_wrap w32 (number +ℤ by))) s.running.stack (iinc_effect n by s.running) is
          (iinc_by n by s.running number (int_local s.running.locals n (Some (Some (meaning x))) value ∙ ap int_of f)) in
          operator p typing state machine meaning s Add (id x) (known by) number by
          (stack_at (here p typing state machine meaning s) Next s.frame.stack) (in_local n) refl i refl
          (bounded p typing state machine meaning s x) small i.inside (omega (arith, ints), omega (arith, ints))
          (λ result r list interval rows are inside holds.
          let same : int_wrap w32 (number +ℤ by) ≡ result = some_number r in
          setting_turn p typing state machine meaning s list
          (record { method = s.frame.method; pc = Next; locals = s.frame.locals; stack = s.frame.stack }) (cells.Int interval)
          (values.Int result) n rows (record s.running { pc = Next; stack = s.running.stack }) are
          (record { locals = frame_held.locals; stack = frame_held.stack })
          (stacked meaning s.frame s.lower machine.statics s.running s.below Next s.frame.stack s.running.stack s.fit.top.stack
          s.fit) set.0 tt (result, (refl, inside)) holds
          (set.1 ∙ ap (λ (k : ℤ). Step.Going
          (going (record s.running { pc = Next; locals = slice_set s.running.locals n (Some (values.Int k)) } ∷ s.below)
          machine.heap machine.statics)) same))
          (λ r. absurd (none-some (int_wrap w32 (number +ℤ by)) (sym r)))
        where
          some_number : {a b : ℤ} → Some a ≡ Some b → a ≡ b
          some_number e = cc

  pub shuffle : (form : StackShuffle) → Effects (shuffle_effect form s.running)
      → Covered (step_if (option_map (goes_on (here p typing state machine meaning s) Next) (shuffled form s.frame.stack)))
  shuffle form is = at (shuffled form s.frame.stack) refl
    where
      at : (found : Option (List ℕ)) → shuffled form s.frame.stack ≡ found
          → SomeOf Fit (option_to_list (option_map (goes_on (here p typing state machine meaning s) Next) found))
      at None e = absurd (none _ is
          (shuffle_is form s.running None (ap (shuffled form) s.fit.top.stack ∙ shuffled_values meaning form s.frame.stack
          ∙ ap (option_map (map meaning)) e)))
      at (Some ids) e = inl (going_turn Next ids (map meaning ids) (reordered Holds form s.frame.stack ids frame_held.stack e) refl
          (goes_next p typing state machine meaning s _ (with_stack s.running (map meaning ids)) is
          (shuffle_is form s.running (Some (map meaning ids)) (ap (shuffled form) s.fit.top.stack
          ∙ shuffled_values meaning form s.frame.stack ∙ ap (option_map (map meaning)) e))))

  -- ---- ints

  pub arithmetic : (o : IntOp) → is_operator o ≡ true → Effects (arith_effect o s.running)
      → Covered (binary s.frame.stack
      (λ a b rest. steps (turns_of (here p typing state machine meaning s) o (id a) (id b)
      (stack_at (here p typing state machine meaning s) Next rest) on_stack)))
  arithmetic o is_op is =
      by_two_ints p typing state machine meaning s
      (λ ids. binary ids (λ a b rest. steps
      (turns_of (here p typing state machine meaning s) o (id a) (id b)
      (stack_at (here p typing state machine meaning s) Next rest) on_stack)))
      (λ f. none (arith_effect o s.running) is (arith_stuck o s.running f))
      (λ n below f g. none (arith_effect o s.running) is (arith_stuck_next o s.running n below f g)) (λ b a rest t.
      operator p typing state machine meaning s o (id a) (id b) t.left t.right
      (stack_at (here p typing state machine meaning s) Next rest) on_stack is_op t.left_int t.right_int
      (bounded p typing state machine meaning s a) (bounded p typing state machine meaning s b) t.left_int.inside t.right_int.inside
      (λ result r list interval rows are inside holds. pushed_turn list rest (map meaning rest) (cells.Int interval)
      (values.Int result) rows are t.others refl tt (result, (refl, inside)) holds
      (goes_next p typing state machine meaning s (arith_effect o s.running)
      (with_stack s.running (values.Int result ∷ map meaning rest)) is
      (arith_is o s.running t.left t.right (map meaning rest) t.stack
      ∙ ap (λ (found : Option ℤ). Some (arith_result found (map meaning rest) s.running)) r)))
      (λ r. raises_frame p typing state machine meaning s (arith_effect o s.running) arithmetic_exception is
      (arith_is o s.running t.left t.right (map meaning rest) t.stack
      ∙ ap (λ (found : Option ℤ). Some (arith_result found (map meaning rest) s.running)) r))) s.frame.stack refl

  pub negation : Effects (ineg_effect s.running) → Covered (negation_plan (here p typing state machine meaning s) s.frame.stack)
  negation is =
      by_int p typing state machine meaning s (negation_plan (here p typing state machine meaning s))
      (λ f. none (ineg_effect s.running) is (ineg_stuck s.running f)) (λ a rest e t.
      operator p typing state machine meaning s Sub (known (pos 0)) (id a) (pos 0) t.number
      (stack_at (here p typing state machine meaning s) Next rest) on_stack refl refl t.int
      (omega (arith, ints), omega (arith, ints)) (bounded p typing state machine meaning s a)
      (omega (arith, ints), omega (arith, ints)) t.int.inside
      (λ result r list interval rows are inside holds. pushed_turn list rest (map meaning rest) (cells.Int interval)
      (values.Int result) rows are t.others refl tt (result, (refl, inside)) holds
      (goes_next p typing state machine meaning s (ineg_effect s.running)
      (with_stack s.running (values.Int (int_wrap w32 (pos 0 -ℤ t.number)) ∷ map meaning rest)) is
      (ineg_is s.running t.number (map meaning rest) (e ∙ t.stack))
      ∙ ap (λ (k : ℤ). Step.Going (going (record s.running { pc = Next; stack = values.Int k ∷ map meaning rest } ∷ s.below)
      machine.heap machine.statics)) (number_is r)))
      (λ r. absurd (none-some (int_wrap w32 (pos 0 -ℤ t.number)) (sym r)))) s.frame.stack refl
    where
      number_is : {a b : ℤ} → Some a ≡ Some b → a ≡ b
      number_is e = cc

  -- a case of a narrowing: the int stays, or is some number of the kind
  kind_fits : (kind : Kind) (a : ℕ) (rest : List ℕ) (number : ℤ) → IntAt p typing state machine meaning s a number
      → AllByRecursion Holds rest
      → step p machine ≡ Step.Going
      (going (record s.running { pc = Next; stack = values.Int (narrowed kind number) ∷ map meaning rest } ∷ s.below) machine.heap
      machine.statics) → (found : Option Bounds) → MatchOption found (narrowed kind number ≡ number)
      (λ interval. IsIn (narrowed kind number) interval)
      → Fit (turn_narrowing (goes_on (here p typing state machine meaning s) Next (a ∷ rest))
      (stack_at (here p typing state machine meaning s) Next rest) on_stack found)
  kind_fits kind a rest number i h g None same =
      going_turn Next (a ∷ rest) (values.Int (narrowed kind number) ∷ map meaning rest)
      (record { cell = cells.Int i.old; is = i.at; sort_is = refl }, h) (ap (λ (n : ℤ). values.Int n ∷ map meaning rest) same
      ∙ ap (λ (v : Value). v ∷ map meaning rest) (sym i.is)) g
  kind_fits kind a rest number i h g (Some interval) inside =
      pushed_turn [] rest (map meaning rest) (cells.Int interval) (values.Int (narrowed kind number)) no_rows tt h refl tt
      (narrowed kind number, (refl, inside)) (λ fresh after v. All-nil (HoldsBetween meaning after)) g

  pub narrowing : (kind : Kind) → Effects (narrow_effect kind s.running)
      → Covered (narrow_plan (here p typing state machine meaning s) kind s.frame.stack)
  narrowing kind is =
      by_int p typing state machine meaning s (narrow_plan (here p typing state machine meaning s) kind)
      (λ f. none (narrow_effect kind s.running) is (narrow_stuck kind s.running f)) (λ a rest e t.
      let g = goes_next p typing state machine meaning s (narrow_effect kind s.running)
      (with_stack s.running (values.Int (narrowed kind t.number) ∷ map meaning rest)) is
      (narrow_is kind s.running t.number (map meaning rest) (e ∙ t.stack)) in
      some_of_map (FallsUnder (Narrow kind) t.number t.number) Fit
      (λ (case : IntCase). turn_narrowing (goes_on (here p typing state machine meaning s) Next (a ∷ rest))
      (stack_at (here p typing state machine meaning s) Next rest) on_stack case.result)
      (operated (Narrow kind) (interval_of_id state a) (interval_of_id state a))
      (λ case f. kind_fits kind a rest t.number t.int t.others g case.result f.answered.0)
      (some_one (FallsUnder (Narrow kind) t.number t.number)
      (operated (Narrow kind) (interval_of_id state a) (interval_of_id state a))
      (operated_covers (Narrow kind) (interval_of_id state a) (interval_of_id state a) t.number t.number
      (bounded p typing state machine meaning s a) (bounded p typing state machine meaning s a) t.int.inside t.int.inside)))
      s.frame.stack refl

  -- where a condition leads
  pub branched : (test : Bool) (place : ℕ) (stack : List Value) (effect : Option (Effect MachineFrame)) → Effects effect
      → effect ≡ Some (branch test place (with_stack s.running stack))
      → step p machine ≡ Step.Going (going (record s.running { pc = if test then place else Next; stack = stack } ∷ s.below)
      machine.heap machine.statics)
  branched true place stack effect is e = goes_to p typing state machine meaning s effect place (with_stack s.running stack) is e
  branched false place stack effect is e = goes_next p typing state machine meaning s effect (with_stack s.running stack) is e

  pub comparing_zero : (condition : Cond) (place : ℕ) → Effects (if_effect condition place s.running)
      → Covered (unary s.frame.stack
      (λ a rest. steps (branches (here p typing state machine meaning s) condition (id a) (known (pos 0)) place rest false)))
  comparing_zero condition place is =
      by_int p typing state machine meaning s
      (λ ids. unary ids (λ a rest. steps (branches (here p typing state machine meaning s) condition (id a) (known (pos 0))
      place rest false))) (λ f. none (if_effect condition place s.running) is (if_stuck condition place s.running f))
      (λ a rest e t.
      comparison p typing state machine meaning s condition (id a) (known (pos 0)) t.number (pos 0) place rest (map meaning rest)
      false t.int refl t.int.inside (omega (arith, ints), omega (arith, ints)) t.others refl
      (branched (cond_holds condition t.number (pos 0)) place (map meaning rest) (if_effect condition place s.running) is
      (if_is condition place s.running t.number (map meaning rest) (e ∙ t.stack)))) s.frame.stack refl

  pub comparing : (condition : Cond) (place : ℕ) → Effects (if_icmp_effect condition place s.running)
      → Covered (binary s.frame.stack
      (λ a b rest. steps (branches (here p typing state machine meaning s) condition (id a) (id b) place rest true)))
  comparing condition place is =
      by_two_ints p typing state machine meaning s
      (λ ids. binary ids (λ a b rest. steps (branches (here p typing state machine meaning s) condition (id a) (id b) place rest
      true))) (λ f. none (if_icmp_effect condition place s.running) is (if_icmp_stuck condition place s.running f))
      (λ n below f g. none (if_icmp_effect condition place s.running) is
      (if_icmp_stuck_next condition place s.running n below f g)) (λ b a rest t.
      comparison p typing state machine meaning s condition (id a) (id b) t.left t.right place rest (map meaning rest) true
      t.left_int t.right_int t.left_int.inside t.right_int.inside t.others refl
      (branched (cond_holds condition t.left t.right) place (map meaning rest) (if_icmp_effect condition place s.running) is
      (if_icmp_is condition place s.running t.left t.right (map meaning rest) t.stack))) s.frame.stack refl

  pub jumping : (place : ℕ) → Effects (goto_effect place s.running)
      → Covered (one_step (goes_on (here p typing state machine meaning s) place s.frame.stack))
  jumping place is = inl (going_turn place s.frame.stack s.running.stack frame_held.stack s.fit.top.stack
      (goes_to p typing state machine meaning s (goto_effect place s.running) place s.running is (goto_is place s.running)))

  pub switching : (default : ℕ) (keys : List (ℤ × ℕ)) (effect : Option (Effect MachineFrame)) → Effects effect
      → (top_int s.running.stack ≡ None → effect ≡ None)
      → ((n : ℤ) (below : List Value) → s.running.stack ≡ values.Int n ∷ below
      → effect ≡ Some (Effect.Jump (key_target default keys n) (with_stack s.running below)))
      → Covered (switch_plan (here p typing state machine meaning s) default keys s.frame.stack)
  switching default keys effect is stuck jumps =
      by_int p typing state machine meaning s (switch_plan (here p typing state machine meaning s) default keys)
      (λ f. none effect is (stuck f)) (λ a rest e t.
      switched p typing state machine meaning s default keys a t.number rest (map meaning rest) t.int t.others refl
      (goes_to p typing state machine meaning s effect (key_target default keys t.number)
      (with_stack s.running (map meaning rest)) is (jumps t.number (map meaning rest) (e ∙ t.stack)))) s.frame.stack refl

  pub table_switching : (default : ℕ) (low : ℤ) (targets : List ℕ) → Effects (tableswitch_effect default low targets s.running)
      → Covered (switch_plan (here p typing state machine meaning s) default (table_keys low targets) s.frame.stack)
  table_switching default low targets is =
      switching default (table_keys low targets) (tableswitch_effect default low targets s.running) is
      (table_stuck default low targets s.running) (λ n below f.
      table_is default low targets s.running n below f ∙ ap (λ (to : ℕ). Some (Effect.Jump to (with_stack s.running below)))
      (sym (table_target default low targets n)))

  pub lookup_switching : (default : ℕ) (cases : List Case) → Effects (lookupswitch_effect default cases s.running)
      → Covered (switch_plan (here p typing state machine meaning s) default (lookup_keys cases) s.frame.stack)
  lookup_switching default cases is =
      switching default (lookup_keys cases) (lookupswitch_effect default cases s.running) is (lookup_stuck default cases s.running)
      (λ n below f.
      lookup_is default cases s.running n below f ∙ ap (λ (to : ℕ). Some (Effect.Jump to (with_stack s.running below)))
      (sym (lookup_target default cases n)))
