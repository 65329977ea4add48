-- What the effects of forms that change frames alone are.
use Rattle.std.proofs.Common.{◌≡◌, ◌<◌, ℕ, ℤ, pos, ◌-ℤ◌, Bool, false, if◌then◌else◌, List, [], ◌∷◌, length, map, Option, Some, None}
use Rattle.std.proofs.Common.{refl, ap}
use Rattle.std.specs.Prelude.{slice_set, nat_lt}
use Rattle.std.specs.Int.{int_wrap, w32}
use Rattle.std.specs.Option.{option_map}
use Rattle.std.proofs.lemmas.Bool.{lt-ltb}
use Rattle.jvm_run.specs.CodeFormsCase.{Case}
use Rattle.jvm_values.specs.declared.heap.Value.{Value}
use Rattle.jvm_values.specs.declared.heap.Value.TheVariants as values
use Rattle.jvm_values.specs.declared.ints.IntOp.{IntOp}
use Rattle.jvm_values.specs.declared.ints.Cond.{Cond}
use Rattle.jvm_values.specs.declared.types.Kind.{Kind}
use Rattle.jvm_values.specs.Ints.{int_result, cond_holds}
use Rattle.jvm_values.specs.Kinds.{narrowed}
use Rattle.jvm_values.specs.States.{MachineFrame}
use Rattle.abs_cells.specs.Fits.{Meaning}
use Rattle.jvm_run.specs.OpFormsShuffle.{Shuffle}
use Rattle.jvm_run.specs.OpFormsShuffle.TheVariants.{Pop, Pop2, Dup, DupX1, DupX2, Dup2, Dup2X1, Dup2X2, Swap}
use Rattle.jvm_run.specs.OpFormsForms.{shuffled}
use Rattle.jvm_run.specs.jvm_step.Effects.{Effect, with_stack, branch, sets, constant_effect, shuffle_effect, arith_result, arith_effect}
use Rattle.jvm_run.specs.jvm_step.Effects.{ineg_effect, narrow_effect, if_effect, if_icmp_effect, goto_effect, target_at}
use Rattle.jvm_run.specs.jvm_step.Effects.{tableswitch_effect, target_of, lookupswitch_effect}

pub constant_is : (value : Value) (f : MachineFrame) → constant_effect value f ≡ Some (Effect.Next (with_stack f (value ∷ f.stack)))
unfolding constant_effect
constant_is value f = refl

pub goto_is : (place : ℕ) (f : MachineFrame) → goto_effect place f ≡ Some (Effect.Jump place f)
unfolding goto_effect
goto_is place f = refl

pub sets_is : (n : ℕ) (value : Value) (below : List Value) (f : MachineFrame) → n < length f.locals
    → sets n value below f ≡ Some (Effect.Next (record f { locals = slice_set f.locals n (Some value); stack = below }))
sets_is n value below f l = ap
    (λ (b : Bool). if b then Some (Effect.Next (record f { locals = slice_set f.locals n (Some value); stack = below })) else None)
    (lt-ltb n (length f.locals) l)

pub sets_none : (n : ℕ) (value : Value) (below : List Value) (f : MachineFrame) → nat_lt n (length f.locals) ≡ false
    → sets n value below f ≡ None
sets_none n value below f l = ap
    (λ (b : Bool). if b then Some (Effect.Next (record f { locals = slice_set f.locals n (Some value); stack = below })) else None) l

pub shuffle_is : (shuffle : Shuffle) (f : MachineFrame) (found : Option (List Value)) → shuffled shuffle f.stack ≡ found
    → shuffle_effect shuffle f ≡ option_map (λ (stack : List Value). Effect.Next (with_stack f stack)) found
unfolding shuffle_effect
shuffle_is shuffle f None e = rw e refl
shuffle_is shuffle f (Some stack) e = rw e refl

pub arith_is : (operator : IntOp) (f : MachineFrame) (left right : ℤ) (below : List Value)
    → f.stack ≡ values.Int right ∷ values.Int left ∷ below
    → arith_effect operator f ≡ Some (arith_result (int_result operator left right) below f)
unfolding arith_effect
arith_is operator f left right below e = rw e refl

pub ineg_is : (f : MachineFrame) (number : ℤ) (below : List Value) → f.stack ≡ values.Int number ∷ below
    → ineg_effect f ≡ Some (Effect.Next (with_stack f (values.Int (int_wrap w32 (pos 0 -ℤ number)) ∷ below)))
unfolding ineg_effect
ineg_is f number below e = rw e refl

pub narrow_is : (kind : Kind) (f : MachineFrame) (number : ℤ) (below : List Value) → f.stack ≡ values.Int number ∷ below
    → narrow_effect kind f ≡ Some (Effect.Next (with_stack f (values.Int (narrowed kind number) ∷ below)))
unfolding narrow_effect
narrow_is kind f number below e = rw e refl

pub if_is : (condition : Cond) (place : ℕ) (f : MachineFrame) (number : ℤ) (below : List Value)
    → f.stack ≡ values.Int number ∷ below
    → if_effect condition place f ≡ Some (branch (cond_holds condition number (pos 0)) place (with_stack f below))
unfolding if_effect
if_is condition place f number below e = rw e refl

pub if_icmp_is : (condition : Cond) (place : ℕ) (f : MachineFrame) (left right : ℤ) (below : List Value)
    → f.stack ≡ values.Int right ∷ values.Int left ∷ below
    → if_icmp_effect condition place f ≡ Some (branch (cond_holds condition left right) place (with_stack f below))
unfolding if_icmp_effect
if_icmp_is condition place f left right below e = rw e refl

pub table_is : (default : ℕ) (low : ℤ) (targets : List ℕ) (f : MachineFrame) (number : ℤ) (below : List Value)
    → f.stack ≡ values.Int number ∷ below
    → tableswitch_effect default low targets f ≡ Some (Effect.Jump (target_at default targets (number -ℤ low)) (with_stack f below))
unfolding tableswitch_effect
table_is default low targets f number below e = rw e refl

pub lookup_is : (default : ℕ) (cases : List Case) (f : MachineFrame) (number : ℤ) (below : List Value)
    → f.stack ≡ values.Int number ∷ below
    → lookupswitch_effect default cases f ≡ Some (Effect.Jump (target_of default cases number) (with_stack f below))
unfolding lookupswitch_effect
lookup_is default cases f number below e = rw e refl

-- a reordering of values is that of the ids
pub shuffled_values : (meaning : Meaning) (shuffle : Shuffle) (ids : List ℕ)
    → shuffled shuffle (map meaning ids) ≡ option_map (map meaning) (shuffled shuffle ids)
shuffled_values meaning Pop [] = refl
shuffled_values meaning Pop (a ∷ ids) = refl
shuffled_values meaning Pop2 [] = refl
shuffled_values meaning Pop2 (a ∷ []) = refl
shuffled_values meaning Pop2 (a ∷ b ∷ ids) = refl
shuffled_values meaning Dup [] = refl
shuffled_values meaning Dup (a ∷ ids) = refl
shuffled_values meaning DupX1 [] = refl
shuffled_values meaning DupX1 (a ∷ []) = refl
shuffled_values meaning DupX1 (a ∷ b ∷ ids) = refl
shuffled_values meaning DupX2 [] = refl
shuffled_values meaning DupX2 (a ∷ []) = refl
shuffled_values meaning DupX2 (a ∷ b ∷ []) = refl
shuffled_values meaning DupX2 (a ∷ b ∷ c ∷ ids) = refl
shuffled_values meaning Dup2 [] = refl
shuffled_values meaning Dup2 (a ∷ []) = refl
shuffled_values meaning Dup2 (a ∷ b ∷ ids) = refl
shuffled_values meaning Dup2X1 [] = refl
shuffled_values meaning Dup2X1 (a ∷ []) = refl
shuffled_values meaning Dup2X1 (a ∷ b ∷ []) = refl
shuffled_values meaning Dup2X1 (a ∷ b ∷ c ∷ ids) = refl
shuffled_values meaning Dup2X2 [] = refl
shuffled_values meaning Dup2X2 (a ∷ []) = refl
shuffled_values meaning Dup2X2 (a ∷ b ∷ []) = refl
shuffled_values meaning Dup2X2 (a ∷ b ∷ c ∷ []) = refl
shuffled_values meaning Dup2X2 (a ∷ b ∷ c ∷ d ∷ ids) = refl
shuffled_values meaning Swap [] = refl
shuffled_values meaning Swap (a ∷ []) = refl
shuffled_values meaning Swap (a ∷ b ∷ ids) = refl
