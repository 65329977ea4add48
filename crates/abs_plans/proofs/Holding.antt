-- Ids that frames hold: of locals and of stacks.
use Rattle.std.proofs.Common.{◌≡◌, ℕ, zero, suc, List, [], ◌∷◌, Option, Some, None, slice_get, subst}
use Rattle.std.specs.Prelude.{slice_set}
use Rattle.std.specs.List.{AllByRecursion}
use Rattle.std.proofs.lemmas.Option.{none-some}
use Rattle.jvm_values.proofs.Options.{some_is}
use Rattle.abs_cells.specs.Sound.{given_ids}
use Rattle.abs_turns.specs.op_forms.declared.form.Shuffle.{Shuffle as StackShuffle}
use Rattle.abs_turns.specs.op_forms.declared.form.Shuffle.TheVariants.{Pop, Pop2, Dup, DupX1, DupX2, Dup2, Dup2X1, Dup2X2, Swap}
use Rattle.abs_turns.specs.op_forms.Forms.{shuffled}

-- ---- locals

pub local_held : (P : ℕ → Type 0) (locals : List (Option ℕ)) (n x : ℕ) → AllByRecursion P (given_ids locals)
    → slice_get locals n ≡ Some (Some x) → P x
local_held P [] n x h e = absurd (none-some (Some x) e)
local_held P (None ∷ locals) zero x h e = absurd (none-some x (some_is e))
local_held P (Some y ∷ locals) zero x h e = subst P (some_is (some_is e)) h.0
local_held P (None ∷ locals) (suc n) x h e = local_held P locals n x h e
local_held P (Some y ∷ locals) (suc n) x h e = local_held P locals n x h.1 e

pub set_held : (P : ℕ → Type 0) (locals : List (Option ℕ)) (n x : ℕ) → AllByRecursion P (given_ids locals) → P x
    → AllByRecursion P (given_ids (slice_set locals n (Some x)))
set_held P [] n x h p = tt
set_held P (None ∷ locals) zero x h p = (p, h)
set_held P (Some y ∷ locals) zero x h p = (p, h.1)
set_held P (None ∷ locals) (suc n) x h p = set_held P locals n x h p
set_held P (Some y ∷ locals) (suc n) x h p = (h.0, set_held P locals n x h.1 p)

-- ---- stacks

pub reordered : (P : ℕ → Type 0) (shuffle : StackShuffle) (stack rest : List ℕ) → AllByRecursion P stack
    → shuffled shuffle stack ≡ Some rest → AllByRecursion P rest
reordered P Pop [] rest h e = absurd (none-some rest e)
reordered P Pop (a ∷ below) rest h e = subst (AllByRecursion P) (some_is e) h.1
reordered P Pop2 [] rest h e = absurd (none-some rest e)
reordered P Pop2 (a ∷ []) rest h e = absurd (none-some rest e)
reordered P Pop2 (a ∷ b ∷ below) rest h e = subst (AllByRecursion P) (some_is e) h.1.1
reordered P Dup [] rest h e = absurd (none-some rest e)
reordered P Dup (a ∷ below) rest h e = subst (AllByRecursion P) (some_is e) (h.0, h)
reordered P DupX1 [] rest h e = absurd (none-some rest e)
reordered P DupX1 (a ∷ []) rest h e = absurd (none-some rest e)
reordered P DupX1 (a ∷ b ∷ below) rest h e = subst (AllByRecursion P) (some_is e) (h.0, (h.1.0, (h.0, h.1.1)))
reordered P DupX2 [] rest h e = absurd (none-some rest e)
reordered P DupX2 (a ∷ []) rest h e = absurd (none-some rest e)
reordered P DupX2 (a ∷ b ∷ []) rest h e = absurd (none-some rest e)
reordered P DupX2 (a ∷ b ∷ c ∷ below) rest h e = subst (AllByRecursion P) (some_is e) (h.0, (h.1.0, (h.1.1.0, (h.0, h.1.1.1))))
reordered P Dup2 [] rest h e = absurd (none-some rest e)
reordered P Dup2 (a ∷ []) rest h e = absurd (none-some rest e)
reordered P Dup2 (a ∷ b ∷ below) rest h e = subst (AllByRecursion P) (some_is e) (h.0, (h.1.0, h))
reordered P Dup2X1 [] rest h e = absurd (none-some rest e)
reordered P Dup2X1 (a ∷ []) rest h e = absurd (none-some rest e)
reordered P Dup2X1 (a ∷ b ∷ []) rest h e = absurd (none-some rest e)
reordered P Dup2X1 (a ∷ b ∷ c ∷ below) rest h e = subst (AllByRecursion P) (some_is e) (h.0, (h.1.0, (h.1.1.0, (h.0, (h.1.0, h.1.1.1)))))
reordered P Dup2X2 [] rest h e = absurd (none-some rest e)
reordered P Dup2X2 (a ∷ []) rest h e = absurd (none-some rest e)
reordered P Dup2X2 (a ∷ b ∷ []) rest h e = absurd (none-some rest e)
reordered P Dup2X2 (a ∷ b ∷ c ∷ []) rest h e = absurd (none-some rest e)
reordered P Dup2X2 (a ∷ b ∷ c ∷ d ∷ below) rest h e = subst (AllByRecursion P) (some_is e)
    (h.0, (h.1.0, (h.1.1.0, (h.1.1.1.0, (h.0, (h.1.0, h.1.1.1.1))))))
reordered P Swap [] rest h e = absurd (none-some rest e)
reordered P Swap (a ∷ []) rest h e = absurd (none-some rest e)
reordered P Swap (a ∷ b ∷ below) rest h e = subst (AllByRecursion P) (some_is e) (h.1.0, (h.0, h.1.1))
