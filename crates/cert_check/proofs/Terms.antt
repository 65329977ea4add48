-- A value has one term.
use Rattle.std.proofs.Common.{◌≡◌, ◌≤◌, ◌∙◌, ℕ, zero, suc, List, [], ◌∷◌, Option, Some, slice_get, inl, inr, sym, ap, arith}
use Rattle.std.proofs.lemmas.Bool.{cases_lt}
use Rattle.std.specs.Option.{option_map, option_and_then}
use Rattle.std.proofs.lemmas.Option.{none-some}
use Rattle.list_views.proofs.Options.{map_some, then_some}
use Rattle.jvm_values.proofs.Options.{some_is}
use Rattle.jvm_values.specs.declared.heap.Value.{Value}
use Rattle.jvm_values.specs.declared.heap.Value.TheVariants.{Int, Null, Ref}
use Rattle.jvm_values.specs.declared.heap.Object.{Object}
use Rattle.jvm_values.specs.declared.heap.Object.TheVariants.{Instance, Nums, Refs}
use Rattle.jvm_values.specs.declared.heap.Heap.{Heap}
use Rattle.jvm_values.specs.Terms.{HeapTerm, HeapTerms, null, node, more, terms_by, term_of_object, term_within, IsTerm}

module _ (f g : Value → Option HeapTerm) (kept : (v : Value) (t : HeapTerm) → f v ≡ Some t → g v ≡ Some t) where
  terms_kept : (vs : List Value) (ts : HeapTerms) → terms_by f vs ≡ Some ts → terms_by g vs ≡ Some ts
  terms_kept [] ts e = e
  terms_kept (Int n ∷ vs) ts e = terms_kept vs ts e
  terms_kept (Null ∷ vs) ts e =
      let rest = map_some (more null) (terms_by f vs) ts e in
      ap (option_map (more null)) (terms_kept vs rest.0 rest.1.0) ∙ ap Some rest.1.1
  terms_kept (Ref r ∷ vs) ts e =
      let first = then_some (λ t. option_map (more t) (terms_by f vs)) (f (Ref r)) ts e in
      let rest = map_some (more first.0) (terms_by f vs) ts first.1.1 in
      ap (option_and_then (λ t. option_map (more t) (terms_by g vs))) (kept (Ref r) first.0 first.1.0)
      ∙ ap (option_map (more first.0)) (terms_kept vs rest.0 rest.1.0) ∙ ap Some rest.1.1

  object_kept : (object : Object) (t : HeapTerm) → term_of_object f object ≡ Some t → term_of_object g object ≡ Some t
  object_kept (Instance class fields) t e =
      let rest = map_some (node class) (terms_by f fields) t e in
      ap (option_map (node class)) (terms_kept fields rest.0 rest.1.0) ∙ ap Some rest.1.1
  object_kept (Nums kind items) t e = e
  object_kept (Refs element items) t e = e

within_kept : (depth deeper : ℕ) (heap : Heap) → depth ≤ deeper → (v : Value) (t : HeapTerm) → term_within depth heap v ≡ Some t
    → term_within deeper heap v ≡ Some t
within_kept depth deeper heap l (Int n) t e = absurd (none-some t e)
within_kept depth deeper heap l Null t e = e
within_kept zero deeper heap l (Ref r) t e = absurd (none-some t e)
within_kept (suc depth) zero heap l (Ref r) t e = absurd (omega (arith, l))
within_kept (suc depth) (suc deeper) heap l (Ref r) t e =
    let object = then_some (term_of_object (term_within depth heap)) (slice_get heap.objects r) t e in
    ap (option_and_then (term_of_object (term_within deeper heap))) object.1.0
    ∙ object_kept (term_within depth heap) (term_within deeper heap) (within_kept depth deeper heap (omega (arith, l))) object.0 t
    object.1.1

pub one_term : (heap : Heap) (v : Value) (s t : HeapTerm) → IsTerm heap v s → IsTerm heap v t → s ≡ t
one_term heap v s t a b = elim (cases_lt a.depth b.depth) [
  | inl l ↦ some_is (sym (within_kept a.depth b.depth heap (omega (arith, l)) v s a.is) ∙ b.is)
  | inr l ↦ some_is (sym a.is ∙ within_kept b.depth a.depth heap (omega (arith, l)) v t b.is)
]
