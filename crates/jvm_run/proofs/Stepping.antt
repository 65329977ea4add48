-- A step from a typed state of a program with typings is not stuck, and goes on to a typed state.
use Rattle.std.proofs.Common.{◌≡◌, ◌≢◌, ℕ, zero, suc, ◌+◌, ◌<◌, ◌≤◌, Bool, true, false, cond, ◌&&◌, List, [], ◌∷◌, ◌++◌, length}
use Rattle.std.proofs.Common.{map, drop, take, reverse, Option, Some, None, IsTrue, refl, sym, ap, ◌∙◌, subst, arith}
use Rattle.std.specs.Prelude.{slice_get, unwrap_or, nat_le, nat_lt, find}
use Rattle.std.specs.List.{AllZip}
use Rattle.std.specs.Option.{option_map, option_map_or, option_and_then, is_some}
use Rattle.std.proofs.lemmas.Bool.{false≢true, and_parts}
use Rattle.std.proofs.lemmas.List.Elements.{All-nil, All-drop}
use Rattle.std.proofs.lemmas.Option.{none-some}
use Rattle.list_views.proofs.Items.{get_last}
use Rattle.jvm_values.specs.declared.heap.Value.{Value}
use Rattle.jvm_values.specs.declared.heap.Value.TheVariants as values
use Rattle.jvm_values.specs.declared.heap.Object.{Object}
use Rattle.jvm_values.specs.declared.heap.Heap.{Heap}
use Rattle.jvm_values.specs.declared.types.Slot.{Slot}
use Rattle.jvm_values.specs.declared.types.Ty.{Ty}
use Rattle.jvm_values.specs.declared.typing.PlaceType.{PlaceType}
use Rattle.jvm_values.specs.declared.typing.PlaceType.TheVariants as places
use Rattle.jvm_values.specs.declared.state.Mode.{Mode}
use Rattle.jvm_values.specs.declared.state.Mode.TheVariants.{Normal, Throwing}
use Rattle.jvm_values.specs.States.{MachineFrame, PlaceTypes}
use Rattle.jvm_values.specs.Heaps.{IsInHeap}
use Rattle.jvm_values.specs.Subtyping.{class_type}
use Rattle.jvm_values.specs.TypedHeaps.{WorldTypes, AreLawful, type_of, HasType, Holds, IsTypedObject, IsTypedHeap}
use Rattle.jvm_values.proofs.Options.{some_is}
use Rattle.class_program.specs.class_world.BuiltIns.{HasBuiltIns, throwable}
use Rattle.class_program.specs.class_world.Linking.{is_linked}
use Rattle.class_program.specs.class_world.Types.{is_sub, erase}
use Rattle.class_program.specs.class_world.WorldTypes.{types_of}
use Rattle.class_program.specs.declared.op.Op.{Op}
use Rattle.class_program.specs.declared.program.CatchRange.{CatchRange}
use Rattle.class_program.specs.declared.program.Method.{Method}
use Rattle.class_program.specs.Instructions.{instruction_at}
use Rattle.class_program.specs.Programs.{Program, insn_at, op_at}
use Rattle.class_program.specs.Widths.{HasWidths}
use Rattle.class_program.specs.Good.{IsGood, IsGoodOp, IsGoodMethod}
use Rattle.class_program.proofs.Got.{all_at}
use Rattle.class_program.specs.Selected.{CanRun}
use Rattle.jvm_step.proofs.op_forms.Widths.{forms_wide}
use Rattle.code_verify.specs.FrameTypesTables.{CodeTypes, Takes}
use Rattle.code_verify.specs.Operands.{place_of}
use Rattle.code_verify.specs.Rows.{with_result as types_with_result}
use Rattle.code_verify.specs.Flows.{caught_class, caught_frame, covers, falls}
use Rattle.code_verify.specs.Typings.{IsTyping}
use Rattle.code_verify.specs.TypedStates.{HasStack, IsTypedFrame, IsRunning, IsUnwinding, IsCaller, AreCallers, IsTypedState}
use Rattle.code_verify.specs.TypedStates.{argument_count}
use Rattle.jvm_step.specs.Effects.{Effect, new_instance}
use Rattle.jvm_step.specs.Operands.{object_at}
use Rattle.jvm_step.specs.Table.{Work, effect_of}
use Rattle.jvm_step.specs.Running.{Step, goes_on, throws, with_object, entered, invokes, with_result, returns, applied, normal_step}
use Rattle.jvm_step.specs.Running.{takes, handled, throwing_step, step_in}
use Rattle.jvm_run.specs.Laws.{GoesTyped}
use Rattle.jvm_run.proofs.Lists.{zip_map}
use Rattle.jvm_run.proofs.Values.{Grows, grows_same, grows_by, holds_grown, heap_with, own_type}
use Rattle.jvm_run.proofs.Forms.{Here, Stands, Well, WorkGood, IsCalling, IsResult}
use Rattle.jvm_run.proofs.Objects.{defaults_held}
use Rattle.jvm_run.proofs.Named.{named_of}
use Rattle.jvm_run.proofs.FormTable.{effect_well}
use Rattle.jvm_run.proofs.Placed.{Placed, placed, jump_taken, next_taken, handler_taken, at_has}
use Rattle.jvm_run.proofs.Frames.{running_at, frame_grown, callers_grown, emptied_frame, entered_running}
use Rattle.jvm_run.proofs.Returning.{call_after}

-- what is known of a program
pub record Known (p : Program) (typing : ℕ → CodeTypes) : Type 0 where
  pub linked : IsTrue (is_linked p.world)
  pub laws : AreLawful (types_of p.world)
  pub built_ins : HasBuiltIns p.world
  pub good : IsGood p
  pub widths : HasWidths p
  pub typings : (number : ℕ) (m : Method) → slice_get p.methods number ≡ Some m → IsTyping p m (typing number)

abbrev AreStatics : Program → Heap → List Value → Type 0
AreStatics p heap statics = AllZip (λ field value. Holds (types_of p.world) heap field.slot value) p.statics statics

statics_grown : (p : Program) (old new : Heap) → Grows old new → (statics : List Value) → AreStatics p old statics
    → AreStatics p new statics
statics_grown p old new g statics h = zip_map _ _ (λ field value. holds_grown (types_of p.world) old new g field.slot value)
    p.statics statics h

-- ---- instructions of frames

pub insn_there : (p : Program) (number pc : ℕ) (m : Method) (op : Op) (next : Option ℕ) → slice_get p.methods number ≡ Some m
    → instruction_at m.insns pc ≡ Some (op, next) → insn_at p.methods number pc ≡ Some (op, next)
unfolding insn_at
insn_there p number pc m op next e i = ap (option_and_then (λ (x : Method). instruction_at x.insns pc)) e ∙ i

pub stands_at : (p : Program) (number pc : ℕ) (m : Method) (op : Op) (next : Option ℕ) → slice_get p.methods number ≡ Some m
    → instruction_at m.insns pc ≡ Some (op, next) → op_at p.methods number pc ≡ Some op
stands_at p number pc m op next e i = ap (option_map (λ (x : Op × Option ℕ). x.0)) (insn_there p number pc m op next e i)

-- the instruction at a place of a method is good
op_good : (p : Program) (typing : ℕ → CodeTypes) → Known p typing → (number pc : ℕ) (m : Method) (op : Op) (next : Option ℕ)
    → slice_get p.methods number ≡ Some m → instruction_at m.insns pc ≡ Some (op, next) → IsGoodOp p m op
op_good p typing k number pc m op next e i =
    let good : IsGoodMethod p m = all_at (IsGoodMethod p) p.methods number m k.good.methods e in
    at_has (IsGoodOp p m) m.insns pc (op, next) good.insns i

-- ---- what an effect makes of a typed state

-- the running frame with its instruction, and the frames below it
record Ready (p : Program) (typing : ℕ → CodeTypes) (frame : MachineFrame) (below : List MachineFrame) (heap : Heap)
    (statics : List Value) : Type 0 where
  there : PlaceTypes
  typed : IsTypedFrame p typing heap frame there
  stack : HasStack (types_of p.world) heap there.stack frame.stack
  place : Placed p typed.method (typing frame.method) frame.pc there
  callers : AreCallers p typing heap frame.method below
  is_heap : IsTypedHeap (types_of p.world) heap
  are_statics : AreStatics p heap statics

abbrev here_of : {p : Program} {typing : ℕ → CodeTypes} {frame : MachineFrame} {below : List MachineFrame} {heap : Heap}
    {statics : List Value} → Ready p typing frame below heap statics → Here
here_of {p} {typing} {frame} {below} {heap} {statics} r = record {
  program = p;
  method = r.typed.method;
  op = r.place.op;
  form = r.place.form;
  before = r.there;
  work = record
      { frame = frame; statics = statics; heap = heap };
}

module _ (p : Program) (typing : ℕ → CodeTypes) (k : Known p typing) (frame : MachineFrame) (below : List MachineFrame)
    (heap : Heap) (statics : List Value) (r : Ready p typing frame below heap statics) where
  abbrev own_types : WorldTypes
  own_types = types_of p.world

  abbrev work : Work
  work = record { frame = frame; statics = statics; heap = heap }

  method_typed : IsTyping p r.typed.method (typing frame.method)
  method_typed = k.typings frame.method r.typed.method r.typed.is_method

  goes_typed : (place : ℕ) (w : Work) → WorkGood (here_of r) r.place.after w
      → Takes own_types (typing frame.method) (record { to = place; frame = r.place.after }) → GoesTyped p typing (goes_on below place w)
  goes_typed place w good taken =
      let running : IsRunning p typing w.heap
      (record { method = frame.method; pc = place; locals = w.frame.locals; stack = w.frame.stack }) =
      running_at p typing k.laws w.heap r.typed.method frame.method place r.place.after w.frame.locals w.frame.stack
      r.typed.is_method method_typed (good.fits.count ∙ r.typed.count) taken good.fits.locals good.fits.references good.fits.stack in
      let same : record w.frame { pc = place } ≡ record
      { method = frame.method; pc = place; locals = w.frame.locals; stack = w.frame.stack } = ap
      (λ (n : ℕ). record { method = n; pc = place; locals = w.frame.locals; stack = w.frame.stack }) good.fits.method in
      record {
        heap = good.heap;
        statics = good.statics;
        frames = (
          subst (IsRunning p typing w.heap) (sym same) running,
          subst (λ (n : ℕ). AreCallers p typing w.heap n below)
              (sym good.fits.method) (callers_grown p typing heap w.heap good.grows frame.method below r.callers),
        );
      }

  next_typed : (w : Work) → WorkGood (here_of r) r.place.after w → falls r.place.form ≡ true
      → GoesTyped p typing (unwrap_or (option_map (λ (place : ℕ). goes_on below place w) r.place.next) Step.Stuck)
  next_typed w good f =
      let n = next_taken p r.typed.method (typing frame.method) frame.pc r.there r.place f in
      subst (λ (o : Option ℕ). GoesTyped p typing (unwrap_or (option_map (λ (place : ℕ). goes_on below place w) o) Step.Stuck))
      (sym n.next_is) (goes_typed n.to w good n.taken)

  thrown_typed : (a : ℕ) (new : Heap) → Grows heap new → IsTypedHeap own_types new
      → HasType own_types new (values.Ref a) (class_type throwable) → GoesTyped p typing (throws below a (record work { heap = new }))
  thrown_typed a new g h t = record {
    heap = h;
    statics = statics_grown p heap new g statics r.are_statics;
    frames = (
      (emptied_frame p typing new frame r.there (frame_grown p typing heap new g frame r.there r.typed), t),
      callers_grown p
          typing heap new g frame.method below r.callers,
    );
  }

  raised_typed : (class : ℕ) → class < 15 → 0 < class
      → GoesTyped p typing (throws below (length heap.objects) (record work { heap = with_object heap (new_instance own_types class) }))
  raised_typed class l z =
      let object : Object = new_instance own_types class in
      let new : Heap = with_object heap object in
      let typed : IsTypedObject own_types heap object =
      (k.built_ins.there class l, (k.built_ins.made class l, defaults_held own_types heap (own_types.fields class))) in
      let apart : class ≢ 0 = λ (e : class ≡ 0). omega (arith, e, z) in
      thrown_typed (length heap.objects) new (grows_by heap object) (heap_with own_types heap object r.is_heap typed)
      (own_type own_types new (length heap.objects) object (class_type throwable) (get_last heap.objects object)
      (k.built_ins.throwables class l apart))

  called_typed : (number count : ℕ) → IsCalling (here_of r) number count
      → GoesTyped p typing (unwrap_or (invokes p below number count work) Step.Stuck)
  unfolding invokes entered
  called_typed number count c =
      let running = entered_running p typing k.laws heap c.callee number (reverse (take count frame.stack)) c.is_callee
      (k.typings number c.callee c.is_callee) c.arguments in
      let caller : IsCaller p typing heap number (record frame { stack = drop count frame.stack }) = record {
        there = r.there;
        typed = record {
          method = r.typed.method;
          is_method = r.typed.is_method;
          count = r.typed.count;
          is_there = r.typed.is_there;
          locals = r.typed.locals;
          local_references = r.typed.local_references;
          stack_references = All-drop (IsInHeap (length heap.objects)) count frame.stack r.typed.stack_references;
        };
        op = r.place.op;
        stands = stands_at p frame.method frame.pc r.typed.method r.place.op r.place.next r.typed.is_method r.place.insn_is;
        runs = c.runs;
        stack = subst (λ (n : ℕ). HasStack own_types heap (drop n r.there.stack) (drop count frame.stack)) c.count_is c.below;
      } in
      rw c.is_callee (record { heap = r.is_heap; statics = r.are_statics; frames = (running, (caller, r.callers)) })

-- ---- returns

result_has : (types : WorldTypes) (heap : Heap) (result : Option Slot) (value : Option Value) (below : List PlaceType)
    (rest : List Value) → IsResult types heap result value → HasStack types heap below rest
    → HasStack types heap (types_with_result (option_map (place_of types) result) below) (with_result value rest)
result_has types heap (Some slot) (Some value) below rest r h = (r, h)
result_has types heap (Some slot) None below rest r h = absurd r
result_has types heap None (Some value) below rest r h = absurd r
result_has types heap None None below rest r h = h

-- the caller's instruction, and what it goes on with
record Resumes (p : Program) (typing : ℕ → CodeTypes) (heap : Heap) (callee : ℕ) (m : Method) (caller : MachineFrame) : Type 0 where
  op : Op
  next : Option ℕ
  insn_is : insn_at p.methods caller.method caller.pc ≡ Some (op, next)
  to : ℕ
  next_is : next ≡ Some to
  running : (value : Option Value) → IsResult (types_of p.world) heap m.result value
      → IsRunning p typing heap
      (record { method = caller.method; pc = to; locals = caller.locals; stack = with_result value caller.stack })

resumes : (p : Program) (typing : ℕ → CodeTypes) → Known p typing → (heap : Heap) (callee : ℕ) (m : Method) (caller : MachineFrame)
    → slice_get p.methods callee ≡ Some m → IsCaller p typing heap callee caller → Resumes p typing heap callee m caller
resumes p typing k heap callee m caller is_m c =
    let types = types_of p.world in
    let own : Method = c.typed.method in
    let is_typing : IsTyping p own (typing caller.method) = k.typings caller.method own c.typed.is_method in
    let at : Placed p own (typing caller.method) caller.pc c.there = placed p own (typing caller.method) caller.pc c.there
    (is_typing.each caller.pc c.there c.typed.is_there) in
    let same : c.op ≡ at.op = some_is (sym c.stands ∙ stands_at p caller.method caller.pc own at.op at.next c.typed.is_method
    at.insn_is) in
    let runs : CanRun p at.op callee = subst (λ (op : Op). CanRun p op callee) same c.runs in
    let good = op_good p typing k caller.method caller.pc own at.op at.next c.typed.is_method at.insn_is in
    let after = call_after p own.class own at.op callee at.form c.there at.after good.named runs at.form_is at.types_are in
    let goes = next_taken p own (typing caller.method) caller.pc c.there at after.falls_on in
    let result_is : after.result ≡ m.result = sym after.result_is ∙ ap (λ (x : Method). x.result) (some_is (sym after.is_method ∙ is_m)) in
    let stack : HasStack types heap (drop (argument_count at.op) c.there.stack) caller.stack = subst
    (λ (op : Op). HasStack types heap (drop (argument_count op) c.there.stack) caller.stack) same c.stack in
    let types_after_ : PlaceTypes = record {
      locals = c.there.locals;
      stack = types_with_result (option_map (place_of types) after.result)
          (drop (argument_count at.op) c.there.stack);
    } in
    let taken : Takes types (typing caller.method) (record { to = goes.to; frame = types_after_ }) = subst
    (λ (a : PlaceTypes). Takes types (typing caller.method) (record { to = goes.to; frame = a })) after.after_is goes.taken in
    record {
      op = at.op;
      next = at.next;
      insn_is = insn_there p caller.method caller.pc own at.op at.next c.typed.is_method at.insn_is;
      to = goes.to;
      next_is = goes.next_is;
      running = λ value r.
          let result : IsResult types heap after.result value = subst (λ (o : Option Slot). IsResult types heap o value)
          (sym result_is) r in
          running_at p typing k.laws heap own caller.method goes.to types_after_ caller.locals (with_result value caller.stack)
          c.typed.is_method is_typing c.typed.count taken c.typed.locals c.typed.local_references
          (result_has types heap after.result value (drop (argument_count at.op) c.there.stack) caller.stack result stack);
    }

returned_typed : (p : Program) (typing : ℕ → CodeTypes) → Known p typing
    → (heap : Heap) (statics : List Value) (callee : ℕ) (m : Method) (frame : MachineFrame) (below : List MachineFrame)
    (value : Option Value) → slice_get p.methods callee ≡ Some m → IsTypedHeap (types_of p.world) heap → AreStatics p heap statics
    → AreCallers p typing heap callee below → IsResult (types_of p.world) heap m.result value
    → GoesTyped p typing (unwrap_or (returns p below value (record { frame = frame; statics = statics; heap = heap })) Step.Stuck)
unfolding returns
returned_typed p typing k heap statics callee m frame [] value is_m h s c r = tt
returned_typed p typing k heap statics callee m frame (caller ∷ below) value is_m h s c r =
    let go = resumes p typing k heap callee m caller is_m c.0 in
    rw (go.insn_is, go.next_is) (record { heap = h; statics = s; frames = (go.running value r, c.1) })

-- ---- normal mode

effect_typed : (p : Program) (typing : ℕ → CodeTypes) → Known p typing
    → (frame : MachineFrame) (below : List MachineFrame) (heap : Heap) (statics : List Value)
    (r : Ready p typing frame below heap statics) (o : Option (Effect Work))
    → Well (here_of r) (WorkGood (here_of r) r.place.after) o
    → GoesTyped p typing (unwrap_or
    (option_and_then (applied p below r.place.next (record { frame = frame; statics = statics; heap = heap })) o) Step.Stuck)
effect_typed p typing k frame below heap statics r None w = absurd w
effect_typed p typing k frame below heap statics r (Some (Effect.Next x)) w = next_typed p typing k frame below heap statics r x w.1 w.0
effect_typed p typing k frame below heap statics r (Some (Effect.Jump place x)) w = goes_typed p typing k frame below heap statics r
    place x w.1 (jump_taken p r.typed.method (typing frame.method) frame.pc r.there r.place place w.0)
effect_typed p typing k frame below heap statics r (Some (Effect.Raise class)) w = raised_typed p typing k frame below heap statics
    r class w.0 w.1
effect_typed p typing k frame below heap statics r (Some (Effect.Throw a)) w = thrown_typed p typing k frame below heap statics r a
    heap (grows_same heap) r.is_heap w
effect_typed p typing k frame below heap statics r (Some (Effect.Invoke number count)) w = called_typed p typing k frame below heap
    statics r number count w
effect_typed p typing k frame below heap statics r (Some (Effect.Return value)) w = returned_typed p typing k heap statics
    frame.method r.typed.method frame below value r.typed.is_method r.is_heap r.are_statics r.callers w

ready : (p : Program) (typing : ℕ → CodeTypes) → Known p typing
    → (frame : MachineFrame) (below : List MachineFrame) (heap : Heap) (statics : List Value) → IsTypedHeap (types_of p.world) heap
    → AreStatics p heap statics → IsRunning p typing heap frame → AreCallers p typing heap frame.method below
    → Ready p typing frame below heap statics
ready p typing k frame below heap statics h s running c =
    let m : Method = running.typed.method in
    let is_typing : IsTyping p m (typing frame.method) = k.typings frame.method m running.typed.is_method in
    record {
      there = running.there;
      typed = running.typed;
      stack = running.stack;
      place = placed p m (typing frame.method) frame.pc running.there (is_typing.each frame.pc running.there running.typed.is_there);
      callers = c;
      is_heap = h;
      are_statics = s;
    }

stands_here : (p : Program) (typing : ℕ → CodeTypes) → Known p typing
    → (frame : MachineFrame) (below : List MachineFrame) (heap : Heap) (statics : List Value)
    (r : Ready p typing frame below heap statics) → Stands (here_of r)
stands_here p typing k frame below heap statics r = record {
  good = k.good;
  current = (all_at (IsGoodMethod p) p.methods frame.method r.typed.method k.good.methods r.typed.is_method).class;
  linked = k.linked;
  laws = k.laws;
  built_ins = k.built_ins;
  heap = r.is_heap;
  statics = r.are_statics;
  locals = r.typed.locals;
  references = r.typed.local_references;
  stack = r.stack;
}

normal_typed : (p : Program) (typing : ℕ → CodeTypes) → Known p typing
    → (frame : MachineFrame) (below : List MachineFrame) (heap : Heap) (statics : List Value)
    → Ready p typing frame below heap statics
    → GoesTyped p typing (unwrap_or
    (normal_step p (record { frames = frame ∷ below; heap = heap; mode = Normal; statics = statics }) (frame ∷ below)) Step.Stuck)
unfolding normal_step
normal_typed p typing k frame below heap statics r =
    let m : Method = r.typed.method in
    let at = r.place in
    let good = op_good p typing k frame.method frame.pc m at.op at.next r.typed.is_method at.insn_is in
    let there = insn_there p frame.method frame.pc m at.op at.next r.typed.is_method at.insn_is in
    let wide = forms_wide p k.widths frame.method frame.pc at.op at.next there at.form at.form_is in
    let well = effect_well (here_of r) (stands_here p typing k frame below heap statics r) at.form refl
    (named_of p m.class at.op at.form good.named at.form_is) wide at.after at.types_are in
    rw (r.typed.is_method, there, at.form_is)
    (effect_typed p typing k frame below heap statics r
    (effect_of p m at.form (record { frame = frame; statics = statics; heap = heap })) well)

-- ---- throwing mode

-- the object is below the class that a handler takes
caught_below : (p : Program) → AreLawful (types_of p.world) → (t : Ty) (range : CatchRange)
    → is_sub p.world t (class_type throwable) ≡ true
    → option_map_or (λ (class : ℕ). is_sub p.world t (class_type class)) range.catch true ≡ true
    → is_sub p.world t (erase p.world (caught_class range)) ≡ true
caught_below p laws t range thrown takes_ = laws.transitive t (caught_class range) (erase p.world (caught_class range)) sub
    (laws.erase_up (caught_class range) (laws.of_world t (caught_class range) sub).1)
  where
    by : (catch : Option ℕ) → option_map_or (λ (class : ℕ). is_sub p.world t (class_type class)) catch true ≡ true
        → is_sub p.world t (class_type (unwrap_or catch throwable)) ≡ true
    by None e = thrown
    by (Some class) e = e

    sub : is_sub p.world t (caught_class range) ≡ true
    sub = by range.catch takes_

found_passes : {A : Type 0} (test : A → Bool) (xs : List A) (x : A) → find test xs ≡ Some x → test x ≡ true
found_passes test [] x e = absurd (none-some x e)
found_passes {A} test (y ∷ xs) x e = go (test y) refl e (found_passes test xs x)
  where
    go : (b : Bool) → test y ≡ b → cond b (Some y) (find test xs) ≡ Some x → (find test xs ≡ Some x → test x ≡ true) → test x ≡ true
    go true p f more = subst (λ (z : A). test z ≡ true) (some_is f) p
    go false p f more = more f

handled_typed : (p : Program) (typing : ℕ → CodeTypes) → Known p typing
    → (frame : MachineFrame) (below : List MachineFrame) (heap : Heap) (statics : List Value) (a : ℕ) (object : Object)
    → IsTypedHeap (types_of p.world) heap → AreStatics p heap statics → (u : IsUnwinding p typing heap frame)
    → AreCallers p typing heap frame.method below
    → slice_get heap.objects a ≡ Some object → is_sub p.world (type_of object) (class_type throwable) ≡ true
    → (found : Option CatchRange) → find (takes p.world object frame.pc) u.typed.method.table ≡ found
    → GoesTyped p typing (handled (record { frames = frame ∷ below; heap = heap; mode = Throwing a; statics = statics }) a frame
    below found)
handled_typed p typing k frame below heap statics a object h s u c there thrown (Some range) e =
    let types = types_of p.world in
    let m : Method = u.typed.method in
    let is_typing : IsTyping p m (typing frame.method) = k.typings frame.method m u.typed.is_method in
    let at : Placed p m (typing frame.method) frame.pc u.there = placed p m (typing frame.method) frame.pc u.there
    (is_typing.each frame.pc u.there u.typed.is_there) in
    let taken = handler_taken p m (typing frame.method) frame.pc u.there at (takes p.world object frame.pc) range
    (λ x f. (and_parts (covers frame.pc x) _ f).0) e in
    let passes = found_passes (takes p.world object frame.pc) m.table range e in
    let sub = caught_below p k.laws (type_of object) range thrown (and_parts (covers frame.pc range) _ passes).1 in
    let typed : HasType types heap (values.Ref a) (erase p.world (caught_class range)) = own_type types heap a object
    (erase p.world (caught_class range)) there sub in
    record {
      heap = h;
      statics = s;
      frames = (
        running_at p typing k.laws heap m frame.method range.handler (caught_frame p.world u.there range) frame.locals
            (values.Ref a ∷ []) u.typed.is_method is_typing u.typed.count taken u.typed.locals u.typed.local_references (typed, tt),
        c,
      );
    }
handled_typed p typing k frame [] heap statics a object h s u c there thrown None e = tt
handled_typed p typing k frame (caller ∷ below) heap statics a object h s u c there thrown None e = record {
  heap = h;
  statics = s;
  frames = (
    (
      emptied_frame p typing heap caller c.0.there c.0.typed,
      own_type (types_of p.world) heap a object
          (class_type throwable) there thrown,
    ),
    c.1,
  );
}

throwing_typed : (p : Program) (typing : ℕ → CodeTypes) → Known p typing
    → (frame : MachineFrame) (below : List MachineFrame) (heap : Heap) (statics : List Value) (a : ℕ)
    → IsTypedHeap (types_of p.world) heap → AreStatics p heap statics → IsUnwinding p typing heap frame
    → HasType (types_of p.world) heap (values.Ref a) (class_type throwable) → AreCallers p typing heap frame.method below
    → GoesTyped p typing (unwrap_or
    (throwing_step p (record { frames = frame ∷ below; heap = heap; mode = Throwing a; statics = statics }) a (frame ∷ below))
    Step.Stuck)
unfolding throwing_step
throwing_typed p typing k frame below heap statics a h s u t c =
    let object : Object = t.0 in
    let there : object_at heap a ≡ Some object = t.1.0 in
    rw (u.typed.is_method, there)
    (handled_typed p typing k frame below heap statics a object h s u c t.1.0 t.1.1
    (find (takes p.world object frame.pc) u.typed.method.table) refl)

-- ---- steps and runs

pub step_typed : (p : Program) (typing : ℕ → CodeTypes) → Known p typing
    → (frames : List MachineFrame) (heap : Heap) (mode : Mode) (statics : List Value)
    → IsTypedState p typing (record { frames = frames; heap = heap; mode = mode; statics = statics })
    → GoesTyped p typing (unwrap_or (step_in p (record { frames = frames; heap = heap; mode = mode; statics = statics }) mode) Step.Stuck)
step_typed p typing k [] heap mode statics h = absurd h.frames
step_typed p typing k (frame ∷ below) heap Normal statics h = normal_typed p typing k frame below heap statics
    (ready p typing k frame below heap statics h.heap h.statics h.frames.0 h.frames.1)
step_typed p typing k (frame ∷ below) heap (Throwing a) statics h = throwing_typed p typing k frame below heap statics a h.heap
    h.statics h.frames.0.0 h.frames.0.1 h.frames.1
