-- Each reference whose region has no cycle has a term: along a path without repeats there are at most as many places as
-- the heap has objects, so the term is at most so deep. The places that the path has passed are marked.
use Rattle.std.proofs.Common.{◌≡◌, ℕ, zero, suc, ◌+◌, ◌<◌, ◌≤◌, Bool, true, false, cond, List, [], ◌∷◌, length, get_or, set}
use Rattle.std.proofs.Common.{replicate, Option, Some, inl, inr, refl, sym, ap, subst, ◌∙◌, arith}
use Rattle.std.specs.Prelude.{slice_get}
use Rattle.std.specs.Option.{option_map, option_and_then}
use Rattle.std.proofs.Math.ListN.{length-set, length-replicate}
use Rattle.std.proofs.lemmas.List.Sums.{sum_by-set}
use Rattle.std.proofs.lemmas.Option.{slice_get_cases}
use Rattle.jvm_values.specs.declared.types.Ty.{Ty}
use Rattle.jvm_values.specs.declared.heap.Value.{Value}
use Rattle.jvm_values.specs.declared.heap.Value.TheVariants.{Int, Null, Ref}
use Rattle.jvm_values.specs.declared.heap.Object.{Object}
use Rattle.jvm_values.specs.declared.heap.Object.TheVariants.{Instance, Nums, Refs}
use Rattle.jvm_values.specs.declared.heap.Heap.{Heap}
use Rattle.jvm_values.specs.Paths.{Steps, follow, Reaches, IsDagFrom}
use Rattle.jvm_values.specs.Heaps.{values_of, heap_steps, IsClosed}
use Rattle.jvm_values.specs.Terms.{HeapTerm, HeapTerms, null, leaf, node, none, more, terms_by, term_of_object, term_within}
use Rattle.jvm_values.specs.TypedHeaps.{WorldTypes, HasType}
use Rattle.jvm_values.proofs.PathLaws.{here, onward, one_more}
use Rattle.jvm_values.proofs.Typed as typed_heaps
use Rattle.jvm_heaps.specs.Marks.{IsMarked}
use Rattle.jvm_heaps.specs.AcyclicTerms.{IsNoInt, AcyclicHaveTerms, TypedHaveTerms}
use Rattle.list_views.specs.Lists.{open_count}
use Rattle.jvm_heaps.proofs.MarkLaws.{set_only}
use Rattle.jvm_heaps.proofs.MarkTurns.{below_heap, step_at, none_marked}

-- ---- paths of at least one step

pub record ComesTo (steps : Steps) (a b : ℕ) : Type 0 where
  pub first : ℕ
  pub next : ℕ
  pub leads : steps a first ≡ Some next
  pub rest : Reaches steps next b

pub one_step : (steps : Steps) (a i b : ℕ) → steps a i ≡ Some b → ComesTo steps a b
one_step steps a i b e = record { first = i; next = b; leads = e; rest = here steps b b refl }

pub step_more : (steps : Steps) (a b i c : ℕ) → ComesTo steps a b → steps b i ≡ Some c → ComesTo steps a c
step_more steps a b i c h e = record {
  first = h.first;
  next = h.next;
  leads = h.leads;
  rest = onward steps h.next b c h.rest (one_more steps b i c c e (here steps c c refl));
}

cons_is_not_nil : (i : ℕ) (path : List ℕ) → i ∷ path ≡ [] → ⊥
cons_is_not_nil i path e = cc

pub no_return : (steps : Steps) (a : ℕ) → IsDagFrom steps a → ComesTo steps a a → ⊥
no_return steps a dag h = cons_is_not_nil h.first h.rest.path
    (dag [] a refl (h.first ∷ h.rest.path) (ap (option_and_then (follow steps h.rest.path)) h.leads ∙ h.rest.leads))

dag_after : (steps : Steps) (a i c : ℕ) → IsDagFrom steps a → steps a i ≡ Some c → IsDagFrom steps c
dag_after steps a i c dag e = λ p b f. dag (i ∷ p) b (ap (option_and_then (follow steps p)) e ∙ f)

-- ---- marks on the places passed

mark_if : (m : Bool) (n k : ℕ) → (m ≡ true → ⊥) → n + cond m 0 1 ≡ k → n < k
mark_if true n k unmarked e = absurd (unmarked refl)
mark_if false n k unmarked e = omega (arith, e)

pub fewer_open : (marks : List Bool) (a : ℕ) → a < length marks → (IsMarked marks a → ⊥) → open_count (set marks a true) < open_count marks
fewer_open marks a l unmarked = mark_if (get_or marks a false) (open_count (set marks a true)) (open_count marks) unmarked
    (omega (arith, sum_by-set (λ (y : Bool). cond y 0 1) marks a true false l))

-- ---- terms of what is given

terms_given : (term : Value → Option HeapTerm) (vs : List Value)
    → ((k r : ℕ) → slice_get vs k ≡ Some (Ref r) → (t : HeapTerm) × (term (Ref r) ≡ Some t))
    → (ts : HeapTerms) × (terms_by term vs ≡ Some ts)
terms_given term [] h = (none, refl)
terms_given term (Int n ∷ vs) h = terms_given term vs (λ k r e. h (suc k) r e)
terms_given term (Null ∷ vs) h = let p = terms_given term vs (λ k r e. h (suc k) r e) in (more null p.0, ap (option_map (more null)) p.1)
terms_given term (Ref r ∷ vs) h =
    let one = h zero r refl in
    let p = terms_given term vs (λ k s e. h (suc k) s e) in (
      more one.0 p.0,
      ap (option_and_then (λ (t : HeapTerm). option_map (more t) (terms_by term vs))) one.1
          ∙ ap (option_map (more one.0)) p.1,
    )

object_given : (term : Value → Option HeapTerm) (object : Object)
    → ((k r : ℕ) → slice_get (values_of object) k ≡ Some (Ref r) → (t : HeapTerm) × (term (Ref r) ≡ Some t))
    → (t : HeapTerm) × (term_of_object term object ≡ Some t)
object_given term (Instance class fields) h = let p = terms_given term fields h in (node class p.0, ap (option_map (node class)) p.1)
object_given term (Nums kind items) h = (leaf, refl)
object_given term (Refs element items) h = (leaf, refl)

-- ---- the law

object_at : (heap : Heap) (a : ℕ) → a < length heap.objects → (object : Object) × (slice_get heap.objects a ≡ Some object)
object_at heap a l = elim (slice_get_cases heap.objects a).1 [
  | inl h ↦ (h.0, h.2)
  | inr h ↦ absurd (omega (arith, l, h.0))
]

term_of_place : (depth : ℕ) (heap : Heap) (marks : List Bool) (a : ℕ) → IsClosed heap → length marks ≡ length heap.objects
    → open_count marks ≤ depth → a < length heap.objects → IsDagFrom (heap_steps heap) a
    → ((x : ℕ) → IsMarked marks x → ComesTo (heap_steps heap) x a) → (t : HeapTerm) × (term_within depth heap (Ref a) ≡ Some t)
term_of_place zero heap marks a closed size few l dag passed = absurd
    (omega (arith, few, fewer_open marks a (subst (λ (n : ℕ). a < n) (sym size) l) (λ m. no_return (heap_steps heap) a dag (passed a m))))
term_of_place (suc depth) heap marks a closed size few l dag passed =
    let less : open_count (set marks a true) < open_count marks = fewer_open marks a (subst (λ (n : ℕ). a < n) (sym size) l)
    (λ m. no_return (heap_steps heap) a dag (passed a m)) in
    let o = object_at heap a l in
    let p = object_given (term_within depth heap) o.0 (λ k r e.
    let step : heap_steps heap a k ≡ Some r = step_at heap a k r o.0 (Ref r) o.1 e refl in
    term_of_place depth heap (set marks a true) r closed (length-set marks a true ∙ size) (omega (arith, few, less))
    (below_heap heap closed a o.0 o.1 k (Ref r) e r refl) (dag_after (heap_steps heap) a k r dag step)
    (λ x m. elim (set_only marks a x m) [
      | inl n ↦ step_more (heap_steps heap) x a k r (passed x n) step
      | inr s ↦ subst (λ (y : ℕ). ComesTo (heap_steps heap) y r) (sym s) (one_step (heap_steps heap) a k r step)
    ])) in
    (p.0, ap (option_and_then (term_of_object (term_within depth heap))) o.1 ∙ p.1)

pub acyclic_terms : AcyclicHaveTerms
acyclic_terms heap (Int n) closed l term dag = absurd term
acyclic_terms heap Null closed l term dag = (null, record { acyclic = dag; depth = zero; is = refl })
acyclic_terms heap (Ref r) closed l term dag =
    let p = term_of_place (open_count (replicate (length heap.objects) false)) heap (replicate (length heap.objects) false) r closed
    (length-replicate (length heap.objects) false) (omega arith) (l r refl) (dag r refl)
    (λ x m. absurd (none_marked (length heap.objects) x m)) in
    (p.0, record { acyclic = dag; depth = open_count (replicate (length heap.objects) false); is = p.1 })

no_int : (types : WorldTypes) (heap : Heap) (value : Value) (t : Ty) → HasType types heap value t → IsNoInt value
no_int types heap (Int n) t h = h
no_int types heap Null t h = tt
no_int types heap (Ref r) t h = tt

pub typed_terms : TypedHaveTerms
typed_terms types heap value t typed h dag = acyclic_terms heap value (typed_heaps.closed types heap typed)
    (typed_heaps.value_in_heap types heap value t h) (no_int types heap value t h) dag
