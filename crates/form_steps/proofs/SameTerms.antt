-- A value has one term, however deep it is looked for.
use Rattle.std.proofs.Common.{◌≡◌, ℕ, zero, suc, ◌+◌, ◌≤◌, List, [], ◌∷◌, Option, Some, inl, inr, sym, ap, subst, ◌∙◌, arith}
use Rattle.std.specs.Prelude.{slice_get}
use Rattle.std.specs.Option.{option_map, option_and_then}
use Rattle.std.proofs.lemmas.Bool.{cases_eq}
use Rattle.std.proofs.lemmas.Option.{none-some}
use Rattle.list_views.proofs.Options.{map_some, then_some}
use Rattle.jvm_values.specs.declared.heap.Value.{Value}
use Rattle.jvm_values.specs.declared.heap.Value.TheVariants as values
use Rattle.jvm_values.specs.declared.heap.Object.{Object}
use Rattle.jvm_values.specs.declared.heap.Object.TheVariants.{Instance, Nums, Refs}
use Rattle.jvm_values.specs.declared.heap.Heap.{Heap}
use Rattle.jvm_values.specs.Terms.{HeapTerm, HeapTerms, term_within, term_of_object, terms_by, IsTerm, size_of}
use Rattle.jvm_values.specs.Terms.HeapTerm.{null, node}
use Rattle.jvm_values.specs.Terms.HeapTerms.{more}
use Rattle.jvm_values.proofs.Options.{some_is}
use Rattle.term_graph.specs.Edges.{HasSameSize}

terms_more : (f g : Value → Option HeapTerm) → ((v : Value) (t : HeapTerm) → f v ≡ Some t → g v ≡ Some t)
    → (vs : List Value) (ts : HeapTerms) → terms_by f vs ≡ Some ts → terms_by g vs ≡ Some ts
terms_more f g h [] ts e = e
terms_more f g h (values.Int n ∷ vs) ts e = terms_more f g h vs ts e
terms_more f g h (values.Null ∷ vs) ts e =
    let r = map_some (more null) (terms_by f vs) ts e in
    ap (option_map (more null)) (terms_more f g h vs r.0 r.1.0) ∙ ap Some r.1.1
terms_more f g h (values.Ref n ∷ vs) ts e =
    let r = then_some (λ (first : HeapTerm). option_map (more first) (terms_by f vs)) (f (values.Ref n)) ts e in
    let s = map_some (more r.0) (terms_by f vs) ts r.1.1 in
    ap (option_and_then (λ (first : HeapTerm). option_map (more first) (terms_by g vs))) (h (values.Ref n) r.0 r.1.0)
    ∙ ap (option_map (more r.0)) (terms_more f g h vs s.0 s.1.0) ∙ ap Some s.1.1

object_more : (f g : Value → Option HeapTerm) → ((v : Value) (t : HeapTerm) → f v ≡ Some t → g v ≡ Some t)
    → (object : Object) (t : HeapTerm) → term_of_object f object ≡ Some t → term_of_object g object ≡ Some t
object_more f g h (Instance class fields) t e =
    let r = map_some (node class) (terms_by f fields) t e in
    ap (option_map (node class)) (terms_more f g h fields r.0 r.1.0) ∙ ap Some r.1.1
object_more f g h (Nums kind items) t e = e
object_more f g h (Refs element items) t e = e

within_more : (heap : Heap) (depth : ℕ) (v : Value) (t : HeapTerm) → term_within depth heap v ≡ Some t
    → term_within (suc depth) heap v ≡ Some t
within_more heap depth (values.Int n) t e = absurd (none-some t e)
within_more heap depth values.Null t e = e
within_more heap zero (values.Ref r) t e = absurd (none-some t e)
within_more heap (suc depth) (values.Ref r) t e =
    let ob = then_some (term_of_object (term_within depth heap)) (slice_get heap.objects r) t e in
    ap (option_and_then (term_of_object (term_within (suc depth) heap))) ob.1.0
    ∙ object_more (term_within depth heap) (term_within (suc depth) heap) (within_more heap depth) ob.0 t ob.1.1

within_up : (heap : Heap) (v : Value) (t : HeapTerm) (depth high : ℕ) → depth ≤ high → term_within depth heap v ≡ Some t
    → term_within high heap v ≡ Some t
within_up heap v t depth zero l e = let z : depth ≡ 0 = omega (arith, l) in subst (λ (d : ℕ). term_within d heap v ≡ Some t) z e
within_up heap v t depth (suc high) l e = elim (cases_eq depth (suc high)) [
  | inl s ↦ subst (λ (d : ℕ). term_within d heap v ≡ Some t) s e
  | inr n ↦ within_more heap high v t (within_up heap v t depth high (omega (arith, l, n)) e)
]

pub one_term : (heap : Heap) (v : Value) (s t : HeapTerm) → IsTerm heap v s → IsTerm heap v t → s ≡ t
one_term heap v s t a b = some_is (sym (within_up heap v s a.depth (a.depth + b.depth) (omega arith) a.is)
    ∙ within_up heap v t b.depth (a.depth + b.depth) (omega arith) b.is)

-- one value has one size in one heap
pub same_size : (heap : Heap) (v w : Value) → w ≡ v → HasSameSize heap v heap w
same_size heap v w e = λ weights s t a b. ap (size_of weights) (one_term heap v s t a (subst (λ (x : Value). IsTerm heap x t) e b))

-- and in two heaps that give it the same terms
pub size_kept : (heap after : Heap) (v w : Value) → w ≡ v → ((t : HeapTerm) → IsTerm after v t → IsTerm heap v t)
    → HasSameSize heap v after w
size_kept heap after v w e back = λ weights s t a b. ap (size_of weights)
    (one_term heap v s t a (back t (subst (λ (x : Value). IsTerm after x t) e b)))
