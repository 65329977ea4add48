-- Effects that want memory: those that make an object, and those that leave a longer stack.
use Rattle.std.proofs.Common.{◌≡◌, ℕ, suc, ◌+◌, ◌<◌, ◌≤◌, ◌⊎◌, inl, inr, List, [], ◌∷◌, ◌++◌, length, Option, Some, None, Result}
use Rattle.std.proofs.Common.{Ok, Err, refl, sym, ap, subst, ◌∙◌, arith}
use Rattle.std.specs.Prelude.{OnErr, slice_get, ℤ}
use Rattle.std.specs.Option.{option_and_then}
use Rattle.std.proofs.lemmas.List.{length-append}
use Rattle.std.proofs.lemmas.Option.{none-some}
use Rattle.jvm_values.specs.declared.heap.Value.{Value}
use Rattle.jvm_values.specs.declared.heap.Value.TheVariants as values
use Rattle.jvm_values.specs.declared.heap.Object.{Object}
use Rattle.jvm_values.specs.declared.types.Kind.{Kind}
use Rattle.jvm_values.specs.declared.types.Ty.{Ty}
use Rattle.jvm_values.specs.TypedHeaps.{WorldTypes}
use Rattle.jvm_values.proofs.Options.{some_is}
use Rattle.class_program.specs.declared.program.Method.{Method}
use Rattle.class_program.specs.Programs.{Program}
use Rattle.op_forms.specs.declared.form.Shuffle.{Shuffle}
use Rattle.op_forms.specs.declared.form.Shuffle.TheVariants as shuffles
use Rattle.op_forms.specs.Forms.{Form, shuffled}
use Rattle.jvm_step.specs.Operands.{top_int}
use Rattle.jvm_step.specs.Effects.{Effect, pushes, makes, array_made, zeros, nulls, instance_of, int_of_local, reference_of_local}
use Rattle.jvm_step.specs.Effects.{constant_effect, iload_effect, aload_effect, getstatic_effect, shuffle_effect, new_effect}
use Rattle.jvm_step.specs.Effects.{newarray_effect, anewarray_effect}
use Rattle.jvm_step.specs.Table.{Work, on_frame, on_heap, effect_of}
use Rattle.jvm_step.specs.Memory.{Wants}

-- ---- answers that are errors

pub any_err : {A E : Type 0} {P : Type 0} (result : Result A E) → P → OnErr result P
any_err (Ok x) h = tt
any_err (Err fault) h = h

-- a form said in another way wants as much
pub wants_as : {A E : Type 0} (p : Program) (m : Method) (w : Work) (room : ℕ) (f g : Form) (result : Result A E) → f ≡ g
    → OnErr result (Wants room w (effect_of p m g w)) → OnErr result (Wants room w (effect_of p m f w))
wants_as p m w room f g result e h = subst (λ (x : Form). OnErr result (Wants room w (effect_of p m x w))) (sym e) h

-- ---- a value more

pushed_by : {A : Type 0} (w : Work) (room : ℕ) (o : Option A) (value : A → Value) → room ≤ length w.frame.stack
    → Wants room w (on_frame w (option_and_then (λ (x : A). Some (pushes (value x) w.frame.stack w.frame)) o))
pushed_by w room None value l = tt
pushed_by w room (Some x) value l =
    let more : room < suc (length w.frame.stack) = omega arith in
    inr (refl, more)

pub constant_wants : (w : Work) (room : ℕ) (value : Value) → room ≤ length w.frame.stack
    → Wants room w (on_frame w (constant_effect value w.frame))
unfolding constant_effect
constant_wants w room value l =
    let more : room < suc (length w.frame.stack) = omega arith in
    inr (refl, more)

pub iload_wants : (w : Work) (room n : ℕ) → room ≤ length w.frame.stack → Wants room w (on_frame w (iload_effect n w.frame))
unfolding iload_effect
iload_wants w room n l = pushed_by w room (int_of_local w.frame.locals n) values.Int l

pub aload_wants : (w : Work) (room n : ℕ) → room ≤ length w.frame.stack → Wants room w (on_frame w (aload_effect n w.frame))
unfolding aload_effect
aload_wants w room n l = pushed_by w room (reference_of_local w.frame.locals n) (λ (v : Value). v) l

pub getstatic_wants : (w : Work) (room place : ℕ) → room ≤ length w.frame.stack
    → Wants room w (on_frame w (getstatic_effect place w.statics w.frame))
unfolding getstatic_effect
getstatic_wants w room place l = pushed_by w room (slice_get w.statics place) (λ (v : Value). v) l

-- ---- a stack that is reordered

dup_is : (stack after : List Value) → shuffled shuffles.Dup stack ≡ Some after → length after ≡ suc (length stack)
dup_is [] after e = absurd (none-some after e)
dup_is (a ∷ below) after e = sym (ap length (some_is e))

dup_x1_is : (stack after : List Value) → shuffled shuffles.DupX1 stack ≡ Some after → length after ≡ suc (length stack)
dup_x1_is [] after e = absurd (none-some after e)
dup_x1_is (a ∷ []) after e = absurd (none-some after e)
dup_x1_is (a ∷ b ∷ below) after e = sym (ap length (some_is e))

dup_x2_is : (stack after : List Value) → shuffled shuffles.DupX2 stack ≡ Some after → length after ≡ suc (length stack)
dup_x2_is [] after e = absurd (none-some after e)
dup_x2_is (a ∷ []) after e = absurd (none-some after e)
dup_x2_is (a ∷ b ∷ []) after e = absurd (none-some after e)
dup_x2_is (a ∷ b ∷ c ∷ below) after e = sym (ap length (some_is e))

dup2_is : (stack after : List Value) → shuffled shuffles.Dup2 stack ≡ Some after → length after ≡ suc (suc (length stack))
dup2_is [] after e = absurd (none-some after e)
dup2_is (a ∷ []) after e = absurd (none-some after e)
dup2_is (a ∷ b ∷ below) after e = sym (ap length (some_is e))

dup2_x1_is : (stack after : List Value) → shuffled shuffles.Dup2X1 stack ≡ Some after → length after ≡ suc (suc (length stack))
dup2_x1_is [] after e = absurd (none-some after e)
dup2_x1_is (a ∷ []) after e = absurd (none-some after e)
dup2_x1_is (a ∷ b ∷ []) after e = absurd (none-some after e)
dup2_x1_is (a ∷ b ∷ c ∷ below) after e = sym (ap length (some_is e))

dup2_x2_is : (stack after : List Value) → shuffled shuffles.Dup2X2 stack ≡ Some after → length after ≡ suc (suc (length stack))
dup2_x2_is [] after e = absurd (none-some after e)
dup2_x2_is (a ∷ []) after e = absurd (none-some after e)
dup2_x2_is (a ∷ b ∷ []) after e = absurd (none-some after e)
dup2_x2_is (a ∷ b ∷ c ∷ []) after e = absurd (none-some after e)
dup2_x2_is (a ∷ b ∷ c ∷ d ∷ below) after e = sym (ap length (some_is e))

-- the stack after is longer than a room that was full
abbrev pub Longer : Shuffle → ℕ → List Value → Type 0
Longer s room stack = (after : List Value) → shuffled s stack ≡ Some after → room < length after

-- the same of a shuffle said in another way
pub longer_as : {A E : Type 0} {P : Type 0} (s t : Shuffle) (room : ℕ) (stack : List Value) (result : Result A E) → s ≡ t
    → (P → Longer t room stack) → OnErr result P → OnErr result (Longer s room stack)
longer_as s t room stack (Ok x) e f h = tt
longer_as s t room stack (Err fault) e f h = subst (λ (k : Shuffle). Longer k room stack) (sym e) (f h)

pub dup_longer : (room : ℕ) (stack : List Value) → room ≤ length stack → Longer shuffles.Dup room stack
dup_longer room stack l after e = omega (arith, l, dup_is stack after e)

pub dup_x1_longer : (room : ℕ) (stack : List Value) → room ≤ length stack → Longer shuffles.DupX1 room stack
dup_x1_longer room stack l after e = omega (arith, l, dup_x1_is stack after e)

pub dup_x2_longer : (room : ℕ) (stack : List Value) → room ≤ length stack → Longer shuffles.DupX2 room stack
dup_x2_longer room stack l after e = omega (arith, l, dup_x2_is stack after e)

pub dup2_longer : (room : ℕ) (stack : List Value) → room ≤ length stack + 1 → Longer shuffles.Dup2 room stack
dup2_longer room stack l after e = omega (arith, l, dup2_is stack after e)

pub dup2_x1_longer : (room : ℕ) (stack : List Value) → room ≤ length stack + 1 → Longer shuffles.Dup2X1 room stack
dup2_x1_longer room stack l after e = omega (arith, l, dup2_x1_is stack after e)

pub dup2_x2_longer : (room : ℕ) (stack : List Value) → room ≤ length stack + 1 → Longer shuffles.Dup2X2 room stack
dup2_x2_longer room stack l after e = omega (arith, l, dup2_x2_is stack after e)

reordered_by : (w : Work) (room : ℕ) (o : Option (List Value)) → ((after : List Value) → o ≡ Some after → room < length after)
    → Wants room w (on_frame w (option_and_then (λ (stack : List Value). Some (Effect.Next (record w.frame { stack = stack }))) o))
reordered_by w room None h = tt
reordered_by w room (Some after) h = inr (refl, h after refl)

pub shuffle_wants : (w : Work) (room : ℕ) (s : Shuffle) → Longer s room w.frame.stack
    → Wants room w (on_frame w (shuffle_effect s w.frame))
unfolding shuffle_effect
shuffle_wants w room s h = reordered_by w room (shuffled s w.frame.stack) h

-- ---- an object more

pub more_objects : (objects : List Object) (object : Object) → length objects < length (objects ++ object ∷ [])
more_objects objects object = omega (arith, length-append objects (object ∷ []))

made_by : (w : Work) (room : ℕ) (o : Option Object)
    → Wants room w (on_heap w (option_and_then (λ (object : Object). Some (makes object w.frame.stack w.frame w.heap)) o))
made_by w room None = tt
made_by w room (Some object) = inl (more_objects w.heap.objects object)

pub new_wants : (w : Work) (room : ℕ) (types : WorldTypes) (t : Ty) → Wants room w (on_heap w (new_effect types t w.frame w.heap))
unfolding new_effect
new_wants w room types t = made_by w room (instance_of types t.dims t.base)

array_wants : (w : Work) (room : ℕ) (array : Option Object) (below : List Value)
    → Wants room w (on_heap w (Some (array_made array below w.frame w.heap)))
array_wants w room None below = tt
array_wants w room (Some object) below = inl (more_objects w.heap.objects object)

counted_by : (w : Work) (room : ℕ) (array : ℤ → Option Object) (o : Option (ℤ × List Value))
    → Wants room w (on_heap w (option_and_then (λ (count : ℤ × List Value). Some (array_made (array count.0) count.1 w.frame w.heap)) o))
counted_by w room array None = tt
counted_by w room array (Some count) = array_wants w room (array count.0) count.1

pub newarray_wants : (w : Work) (room : ℕ) (kind : Kind) → Wants room w (on_heap w (newarray_effect kind w.frame w.heap))
unfolding newarray_effect
newarray_wants w room kind = counted_by w room (zeros kind) (top_int w.frame.stack)

pub anewarray_wants : (w : Work) (room : ℕ) (element : Ty) → Wants room w (on_heap w (anewarray_effect element w.frame w.heap))
unfolding anewarray_effect
anewarray_wants w room element = counted_by w room (nulls element) (top_int w.frame.stack)
