-- Forms that reorder the stack, and jumps on references.
use Rattle.std.proofs.Common.{◌≡◌, ℕ, Bool, true, false, List, [], ◌∷◌, Option, Some, None, IsTrue, refl, sym, subst, ap, ◌∙◌}
use Rattle.std.specs.Prelude.{nat_eq}
use Rattle.std.specs.List.{list_any}
use Rattle.std.proofs.lemmas.Option.{none-some}
use Rattle.list_views.proofs.Options.{then_some}
use Rattle.jvm_values.specs.declared.heap.Value.{Value}
use Rattle.jvm_values.specs.declared.heap.Heap.{Heap}
use Rattle.jvm_values.specs.declared.typing.PlaceType.{PlaceType}
use Rattle.jvm_values.specs.States.{PlaceTypes}
use Rattle.jvm_values.specs.TypedHeaps.{WorldTypes}
use Rattle.jvm_values.proofs.Options.{some_is}
use Rattle.jvm_step.specs.op_forms.declared.form.Shuffle.{Shuffle}
use Rattle.jvm_step.specs.op_forms.declared.form.Shuffle.TheVariants as shuffles
use Rattle.jvm_step.specs.op_forms.Forms.{shuffled}
use Rattle.code_verify.specs.declared.want.Want.TheVariants as wants
use Rattle.code_verify.specs.Rows.{acted, shuffle_types}
use Rattle.code_verify.specs.Flows.{falls, jumps}
use Rattle.code_verify.specs.TypedStates.{HasStack}
use Rattle.jvm_step.specs.Effects.{with_stack, is_wanted, shuffle_effect, if_acmp_effect, if_null_effect}
use Rattle.jvm_step.specs.Operands.{same_reference, is_null}
use Rattle.jvm_run.proofs.Forms.{Here, Stands, Well, FrameGood, types_here, acted_of, left, top_reference_of, asks_any, rest_has}
use Rattle.jvm_run.proofs.IntForms.{branch_well}

-- ---- reordering

pub record Shuffled (types : WorldTypes) (heap : Heap) (shuffle : Shuffle) (wanted : List PlaceType) (stack : List Value) : Type 0 where
  pub new : List Value
  pub is : shuffled shuffle stack ≡ Some new
  pub has : HasStack types heap wanted new

-- values are reordered as their types are
pub shuffled_alike : (types : WorldTypes) (heap : Heap) (shuffle : Shuffle) (before after : List PlaceType) (stack : List Value)
    → HasStack types heap before stack → shuffled shuffle before ≡ Some after → Shuffled types heap shuffle after stack
shuffled_alike types heap shuffles.Pop [] after stack h e = absurd (none-some after e)
shuffled_alike types heap shuffles.Pop (p ∷ below) after [] h e = absurd h
shuffled_alike types heap shuffles.Pop (p ∷ below) after (a ∷ rest) h e = record
    { new = rest; is = refl; has = subst (λ (x : List PlaceType). HasStack types heap x (rest)) (some_is e) h.1 }
shuffled_alike types heap shuffles.Pop2 [] after stack h e = absurd (none-some after e)
shuffled_alike types heap shuffles.Pop2 (p ∷ []) after stack h e = absurd (none-some after e)
shuffled_alike types heap shuffles.Pop2 (p ∷ q ∷ below) after [] h e = absurd h
shuffled_alike types heap shuffles.Pop2 (p ∷ q ∷ below) after (a ∷ []) h e = absurd h.1
shuffled_alike types heap shuffles.Pop2 (p ∷ q ∷ below) after (a ∷ b ∷ rest) h e = record
    { new = rest; is = refl; has = subst (λ (x : List PlaceType). HasStack types heap x (rest)) (some_is e) h.1.1 }
shuffled_alike types heap shuffles.Dup [] after stack h e = absurd (none-some after e)
shuffled_alike types heap shuffles.Dup (p ∷ below) after [] h e = absurd h
shuffled_alike types heap shuffles.Dup (p ∷ below) after (a ∷ rest) h e = record {
  new = a ∷ a ∷ rest;
  is = refl;
  has = subst (λ (x : List PlaceType). HasStack types heap x (a ∷ a ∷ rest)) (some_is e)
      (h.0, (h.0, h.1));
}
shuffled_alike types heap shuffles.DupX1 [] after stack h e = absurd (none-some after e)
shuffled_alike types heap shuffles.DupX1 (p ∷ []) after stack h e = absurd (none-some after e)
shuffled_alike types heap shuffles.DupX1 (p ∷ q ∷ below) after [] h e = absurd h
shuffled_alike types heap shuffles.DupX1 (p ∷ q ∷ below) after (a ∷ []) h e = absurd h.1
shuffled_alike types heap shuffles.DupX1 (p ∷ q ∷ below) after (a ∷ b ∷ rest) h e = record {
  new = a ∷ b ∷ a ∷ rest;
  is = refl;
  has = subst (λ (x : List PlaceType). HasStack types heap x (a ∷ b ∷ a ∷ rest)) (some_is e)
      (h.0, (h.1.0, (h.0, h.1.1)));
}
shuffled_alike types heap shuffles.DupX2 [] after stack h e = absurd (none-some after e)
shuffled_alike types heap shuffles.DupX2 (p ∷ []) after stack h e = absurd (none-some after e)
shuffled_alike types heap shuffles.DupX2 (p ∷ q ∷ []) after stack h e = absurd (none-some after e)
shuffled_alike types heap shuffles.DupX2 (p ∷ q ∷ r ∷ below) after [] h e = absurd h
shuffled_alike types heap shuffles.DupX2 (p ∷ q ∷ r ∷ below) after (a ∷ []) h e = absurd h.1
shuffled_alike types heap shuffles.DupX2 (p ∷ q ∷ r ∷ below) after (a ∷ b ∷ []) h e = absurd h.1.1
shuffled_alike types heap shuffles.DupX2 (p ∷ q ∷ r ∷ below) after (a ∷ b ∷ c ∷ rest) h e = record {
  new = a ∷ b ∷ c ∷ a ∷ rest;
  is = refl;
  has = subst (λ (x : List PlaceType). HasStack types heap x (a ∷ b ∷ c ∷ a ∷ rest))
      (some_is e) (h.0, (h.1.0, (h.1.1.0, (h.0, h.1.1.1))));
}
shuffled_alike types heap shuffles.Dup2 [] after stack h e = absurd (none-some after e)
shuffled_alike types heap shuffles.Dup2 (p ∷ []) after stack h e = absurd (none-some after e)
shuffled_alike types heap shuffles.Dup2 (p ∷ q ∷ below) after [] h e = absurd h
shuffled_alike types heap shuffles.Dup2 (p ∷ q ∷ below) after (a ∷ []) h e = absurd h.1
shuffled_alike types heap shuffles.Dup2 (p ∷ q ∷ below) after (a ∷ b ∷ rest) h e = record {
  new = a ∷ b ∷ a ∷ b ∷ rest;
  is = refl;
  has = subst (λ (x : List PlaceType). HasStack types heap x (a ∷ b ∷ a ∷ b ∷ rest))
      (some_is e) (h.0, (h.1.0, (h.0, (h.1.0, h.1.1))));
}
shuffled_alike types heap shuffles.Dup2X1 [] after stack h e = absurd (none-some after e)
shuffled_alike types heap shuffles.Dup2X1 (p ∷ []) after stack h e = absurd (none-some after e)
shuffled_alike types heap shuffles.Dup2X1 (p ∷ q ∷ []) after stack h e = absurd (none-some after e)
shuffled_alike types heap shuffles.Dup2X1 (p ∷ q ∷ r ∷ below) after [] h e = absurd h
shuffled_alike types heap shuffles.Dup2X1 (p ∷ q ∷ r ∷ below) after (a ∷ []) h e = absurd h.1
shuffled_alike types heap shuffles.Dup2X1 (p ∷ q ∷ r ∷ below) after (a ∷ b ∷ []) h e = absurd h.1.1
shuffled_alike types heap shuffles.Dup2X1 (p ∷ q ∷ r ∷ below) after (a ∷ b ∷ c ∷ rest) h e = record {
  new = a ∷ b ∷ c ∷ a ∷ b ∷ rest;
  is = refl;
  has = subst
      (λ (x : List PlaceType). HasStack types heap x (a ∷ b ∷ c ∷ a ∷ b ∷ rest)) (some_is e)
      (h.0, (h.1.0, (h.1.1.0, (h.0, (h.1.0, h.1.1.1)))));
}
shuffled_alike types heap shuffles.Dup2X2 [] after stack h e = absurd (none-some after e)
shuffled_alike types heap shuffles.Dup2X2 (p ∷ []) after stack h e = absurd (none-some after e)
shuffled_alike types heap shuffles.Dup2X2 (p ∷ q ∷ []) after stack h e = absurd (none-some after e)
shuffled_alike types heap shuffles.Dup2X2 (p ∷ q ∷ r ∷ []) after stack h e = absurd (none-some after e)
shuffled_alike types heap shuffles.Dup2X2 (p ∷ q ∷ r ∷ s ∷ below) after [] h e = absurd h
shuffled_alike types heap shuffles.Dup2X2 (p ∷ q ∷ r ∷ s ∷ below) after (a ∷ []) h e = absurd h.1
shuffled_alike types heap shuffles.Dup2X2 (p ∷ q ∷ r ∷ s ∷ below) after (a ∷ b ∷ []) h e = absurd h.1.1
shuffled_alike types heap shuffles.Dup2X2 (p ∷ q ∷ r ∷ s ∷ below) after (a ∷ b ∷ c ∷ []) h e = absurd h.1.1.1
shuffled_alike types heap shuffles.Dup2X2 (p ∷ q ∷ r ∷ s ∷ below) after (a ∷ b ∷ c ∷ d ∷ rest) h e = record {
  new = a ∷ b ∷ c ∷ d ∷ a ∷ b ∷ rest;
  is = refl;
  has = subst
      (λ (x : List PlaceType). HasStack types heap x (a ∷ b ∷ c ∷ d ∷ a ∷ b ∷ rest)) (some_is e)
      (h.0, (h.1.0, (h.1.1.0, (h.1.1.1.0, (h.0, (h.1.0, h.1.1.1.1))))));
}
shuffled_alike types heap shuffles.Swap [] after stack h e = absurd (none-some after e)
shuffled_alike types heap shuffles.Swap (p ∷ []) after stack h e = absurd (none-some after e)
shuffled_alike types heap shuffles.Swap (p ∷ q ∷ below) after [] h e = absurd h
shuffled_alike types heap shuffles.Swap (p ∷ q ∷ below) after (a ∷ []) h e = absurd h.1
shuffled_alike types heap shuffles.Swap (p ∷ q ∷ below) after (a ∷ b ∷ rest) h e = record {
  new = b ∷ a ∷ rest;
  is = refl;
  has = subst (λ (x : List PlaceType). HasStack types heap x (b ∷ a ∷ rest)) (some_is e)
      (h.1.0, (h.0, h.1.1));
}

pub shuffle_well : (here : Here) → Stands here → IsTrue (falls here.form) → (shuffle : Shuffle) (after : PlaceTypes)
    → shuffle_types shuffle here.before ≡ Some after → Well here (FrameGood here after) (shuffle_effect shuffle here.work.frame)
unfolding shuffle_effect shuffle_types
shuffle_well here s f shuffle after e =
    let g = then_some _ (shuffled shuffle here.before.stack) after e in
    let k = shuffled_alike (types_here here) here.work.heap shuffle here.before.stack g.0 here.work.frame.stack s.stack g.1.0 in
    rw k.is (f, left here s after g.0 k.new (sym (some_is g.1.1)) k.has)

-- ---- jumps on references

pub if_null_well : (here : Here) → Stands here → IsTrue (falls here.form) → (wanted : Bool) (place : ℕ) (after : PlaceTypes)
    → IsTrue (list_any (nat_eq place) (jumps here.form))
    → acted (types_here here) (wants.Reference ∷ []) None here.before ≡ Some after
    → Well here (FrameGood here after) (if_null_effect wanted place here.work.frame)
unfolding if_null_effect
if_null_well here s f wanted place after j e =
    let types = types_here here in
    let heap = here.work.heap in
    let a = acted_of types (wants.Reference ∷ []) None here.before after e in
    let top = top_reference_of types heap wants.Reference [] a.below here.before.stack here.work.frame.stack (asks_any types)
    s.stack a.taken_is in
    rw top.is_top (branch_well here (FrameGood here after) (is_wanted wanted (is_null top.value)) place
    (with_stack here.work.frame top.rest) f j
    (left here s after a.below top.rest a.after_is (rest_has types heap top.under a.below top.rest top.others top.has)))

pub if_acmp_well : (here : Here) → Stands here → IsTrue (falls here.form) → (wanted : Bool) (place : ℕ) (after : PlaceTypes)
    → IsTrue (list_any (nat_eq place) (jumps here.form))
    → acted (types_here here) (wants.Reference ∷ wants.Reference ∷ []) None here.before ≡ Some after
    → Well here (FrameGood here after) (if_acmp_effect wanted place here.work.frame)
unfolding if_acmp_effect
if_acmp_well here s f wanted place after j e =
    let types = types_here here in
    let heap = here.work.heap in
    let a = acted_of types (wants.Reference ∷ wants.Reference ∷ []) None here.before after e in
    let right = top_reference_of types heap wants.Reference (wants.Reference ∷ []) a.below here.before.stack here.work.frame.stack
    (asks_any types) s.stack a.taken_is in
    let other = top_reference_of types heap wants.Reference [] a.below right.under right.rest (asks_any types) right.has right.others in
    rw (right.is_top, other.is_top)
    (branch_well here (FrameGood here after) (is_wanted wanted (same_reference other.value right.value)) place
    (with_stack here.work.frame other.rest) f j
    (left here s after a.below other.rest a.after_is (rest_has types heap other.under a.below other.rest other.others other.has)))
