-- What a caller goes on with when its call returns.
use Rattle.std.proofs.Common.{◌≡◌, ℕ, zero, suc, ◌+◌, Bool, true, false, cond, List, [], ◌∷◌, ◌++◌, length, map, drop, reverse}
use Rattle.std.proofs.Common.{Option, Some, None, IsTrue, refl, sym, ap, ◌∙◌, subst, length-append, arith}
use Rattle.std.specs.Prelude.{slice_get}
use Rattle.std.specs.Option.{option_map, option_and_then}
use Rattle.std.proofs.lemmas.Bool.{false≢true}
use Rattle.std.proofs.lemmas.List.{length-reverse, length-map}
use Rattle.std.proofs.lemmas.Option.{none-some}
use Rattle.list_views.proofs.Options.{cond_guarded}
use Rattle.jvm_values.specs.declared.types.Slot.{Slot}
use Rattle.jvm_values.specs.declared.typing.PlaceType.{PlaceType}
use Rattle.jvm_values.specs.States.{PlaceTypes}
use Rattle.jvm_values.specs.Subtyping.{class_type}
use Rattle.jvm_values.specs.TypedHeaps.{WorldTypes}
use Rattle.jvm_values.proofs.Options.{some_is}
use Rattle.class_program.specs.class_world.World.{is_abstract}
use Rattle.class_program.specs.class_world.WorldTypes.{types_of}
use Rattle.class_program.specs.class_world.Descriptors.{class_slot}
use Rattle.class_program.specs.declared.op.Op.{Op}
use Rattle.class_program.specs.declared.op.Op.TheVariants as ops
use Rattle.class_program.specs.declared.op.Call.{Call}
use Rattle.class_program.specs.declared.program.Method.{Method}
use Rattle.class_program.specs.declared.selected.Selected.{Selected}
use Rattle.class_program.specs.declared.selected.Selected.TheVariants as answers
use Rattle.class_program.specs.Programs.{Program}
use Rattle.class_program.specs.Good.{IsGoodName, Takes, SpecialRuns, IsGoodAnswer}
use Rattle.class_program.specs.Selected.{CanRun, can_receive}
use Rattle.jvm_step.specs.op_forms.Forms.{Form, form_of}
use Rattle.code_verify.specs.declared.want.Want.{Want}
use Rattle.code_verify.specs.declared.want.Want.TheVariants as wants
use Rattle.code_verify.specs.Operands.{fits, place_of, want_of}
use Rattle.code_verify.specs.Rows.{taken, with_result, acted, argument_wants, special_receiver, types_after}
use Rattle.code_verify.specs.Flows.{falls}
use Rattle.code_verify.specs.TypedStates.{argument_count}
use Rattle.jvm_run.proofs.Forms.{acted_of}

taken_drop : (types : WorldTypes) (asks : List Want) (stack below : List PlaceType) → taken types asks stack ≡ Some below
    → drop (length asks) stack ≡ below
taken_drop types [] stack below e = some_is e
taken_drop types (want ∷ asks) [] below e = absurd (none-some below e)
taken_drop types (want ∷ asks) (place ∷ stack) below e = taken_drop types asks stack below
    (cond_guarded (fits types want place) (taken types asks stack) below e).1

arguments_count : (call : Call) → length (argument_wants call) ≡ length call.params
arguments_count call = length-map (reverse call.params) want_of ∙ length-reverse call.params

-- what stands after a call at its place, with the method that it runs
pub record CallAfter (p : Program) (op : Op) (number : ℕ) (form : Form) (there after : PlaceTypes) : Type 0 where
  pub result : Option Slot
  pub falls_on : falls form ≡ true
  pub after_is : after ≡ record {
    locals = there.locals;
    stack = with_result (option_map (place_of (types_of p.world)) result)
        (drop (argument_count op) there.stack);
  }
  pub method : Method
  pub is_method : slice_get p.methods number ≡ Some method
  pub result_is : method.result ≡ result

acted_after : (types : WorldTypes) (asks : List Want) (result : Option PlaceType) (there after : PlaceTypes) (count : ℕ)
    → length asks ≡ count → acted types asks result there ≡ Some after
    → after ≡ record { locals = there.locals; stack = with_result result (drop count there.stack) }
acted_after types asks result there after count l e =
    let a = acted_of types asks result there after e in
    let at : List PlaceType → PlaceTypes = λ (below : List PlaceType). record
    { locals = there.locals; stack = with_result result below } in
    a.after_is ∙ ap at (sym (taken_drop types asks there.stack a.below a.taken_is) ∙ ap (λ (n : ℕ). drop n there.stack) l)

called_count : (call : Call) (want : Want) → length (argument_wants call ++ want ∷ []) ≡ length call.params + 1
called_count call want = length-append (argument_wants call) (want ∷ []) ∙ ap (λ (n : ℕ). n + 1) (arguments_count call)

of_takes : (p : Program) (op : Op) (number : ℕ) (form : Form) (there after : PlaceTypes) (call : Call) (receiver : List Slot)
    → falls form ≡ true → Takes p.methods receiver call number
    → after ≡ record {
      locals = there.locals;
      stack = with_result (option_map (place_of (types_of p.world)) call.result)
          (drop (argument_count op) there.stack);
    } → CallAfter p op number form there after
of_takes p op number form there after call receiver f t e = record
    { result = call.result; falls_on = f; after_is = e; method = t.method; is_method = t.there; result_is = t.result }

special_takes : (p : Program) (call : Call) (target : Option ℕ) (abstract_ : Bool) (number : ℕ)
    → SpecialRuns p call target abstract_ → target ≡ Some number → (receiver : List Slot) × Takes p.methods receiver call number
special_takes p call None abstract_ number h e = absurd (none-some number e)
special_takes p call (Some n) abstract_ number h e =
    let receiver : List Slot = class_slot 0 call.method.class ∷ [] in
    (receiver, subst (λ (k : ℕ). Takes p.methods receiver call k) (some_is e) h.1)

selected_takes : (p : Program) (call : Call) (class : ℕ) (answer : Selected) (number : ℕ) → IsGoodAnswer p call class answer
    → answer ≡ answers.Method number → (receiver : List Slot) × Takes p.methods receiver call number
selected_takes p call class answer number h e = let g : IsGoodAnswer p call class (answers.Method number) = subst
    (IsGoodAnswer p call class) e h in (class_slot 0 g.0 ∷ [], g.2)

form_same : (P : Form → Type 0) (a b : Form) → Some a ≡ Some b → P a → P b
form_same P a b e h = subst P (some_is e) h

pub call_after : (p : Program) (current : ℕ) (m : Method) (op : Op) (number : ℕ) (form : Form) (there after : PlaceTypes)
    → IsGoodName p current op → CanRun p op number → form_of op ≡ Some form → types_after p m form there ≡ Some after
    → CallAfter p op number form there after
unfolding can_receive
call_after p current m (ops.Invokestatic call) number form there after good runs f e = form_same
    (λ (x : Form). types_after p m x there ≡ Some after → CallAfter p (ops.Invokestatic call) number x there after)
    (Form.Invokestatic call) form f (λ g.
    let same : good.number ≡ number = some_is (sym good.target ∙ runs) in
    of_takes p (ops.Invokestatic call) number (Form.Invokestatic call) there after call [] refl
    (subst (Takes p.methods [] call) same good.takes)
    (acted_after (types_of p.world) (argument_wants call) (option_map (place_of (types_of p.world)) call.result) there after
    (length call.params) (arguments_count call) g)) e
call_after p current m (ops.Invokespecial call) number form there after good runs f e = form_same
    (λ (x : Form). types_after p m x there ≡ Some after → CallAfter p (ops.Invokespecial call) number x there after)
    (Form.Invokespecial call) form f (λ g.
    let k = special_takes p call call.target (is_abstract good.good.method.flags) number good.runs runs in
    of_takes p (ops.Invokespecial call) number (Form.Invokespecial call) there after call k.0 refl k.1
    (acted_after (types_of p.world) (argument_wants call ++ special_receiver p.world m.class call ∷ [])
    (option_map (place_of (types_of p.world)) call.result) there after (length call.params + 1)
    (called_count call (special_receiver p.world m.class call)) g)) e
call_after p current m (ops.Invokevirtual call) number form there after good runs f e = form_same
    (λ (x : Form). types_after p m x there ≡ Some after → CallAfter p (ops.Invokevirtual call) number x there after)
    (Form.Invokevirtual call) form f (λ g.
    let a = good.answers runs.0 runs.1 in
    let k = selected_takes p call runs.0 a.0 number a.2 (some_is (sym a.1 ∙ runs.2)) in
    of_takes p (ops.Invokevirtual call) number (Form.Invokevirtual call) there after call k.0 refl k.1
    (acted_after (types_of p.world) (argument_wants call ++ wants.Below (class_type call.class) ∷ [])
    (option_map (place_of (types_of p.world)) call.result) there after (length call.params + 1)
    (called_count call (wants.Below (class_type call.class))) g)) e
call_after p current m (ops.Invokeinterface call) number form there after good runs f e = form_same
    (λ (x : Form). types_after p m x there ≡ Some after → CallAfter p (ops.Invokeinterface call) number x there after)
    (Form.Invokeinterface call) form f (λ g.
    let a = good.answers runs.0 runs.1 in
    let k = selected_takes p call runs.0 a.0 number a.2 (some_is (sym a.1 ∙ runs.2)) in
    of_takes p (ops.Invokeinterface call) number (Form.Invokeinterface call) there after call k.0 refl k.1
    (acted_after (types_of p.world) (argument_wants call ++ wants.Reference ∷ [])
    (option_map (place_of (types_of p.world)) call.result) there after (length call.params + 1)
    (called_count call wants.Reference) g)) e
call_after p current m (ops.Plain x) number form there after good runs f e = absurd (false≢true runs.1)
call_after p current m (ops.Constant x) number form there after good runs f e = absurd (false≢true runs.1)
call_after p current m (ops.Getstatic x) number form there after good runs f e = absurd (false≢true runs.1)
call_after p current m (ops.Putstatic x) number form there after good runs f e = absurd (false≢true runs.1)
call_after p current m (ops.Getfield x) number form there after good runs f e = absurd (false≢true runs.1)
call_after p current m (ops.Putfield x) number form there after good runs f e = absurd (false≢true runs.1)
call_after p current m (ops.New x) number form there after good runs f e = absurd (false≢true runs.1)
call_after p current m (ops.Anewarray x) number form there after good runs f e = absurd (false≢true runs.1)
call_after p current m (ops.Checkcast x) number form there after good runs f e = absurd (false≢true runs.1)
call_after p current m (ops.Instanceof x) number form there after good runs f e = absurd (false≢true runs.1)
