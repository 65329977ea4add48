-- A heap with one more object at its end: what was there keeps its steps, regions, shapes and terms.
use Rattle.std.proofs.Common.{◌≡◌, ℕ, zero, suc, ◌<◌, List, [], ◌∷◌, length, Option, Some, refl, sym, ap, subst, ◌∙◌, All}
use Rattle.std.specs.Prelude.{slice_get}
use Rattle.std.specs.Option.{option_and_then}
use Rattle.std.proofs.lemmas.Option.{slice_get_within}
use Rattle.jvm_values.proofs.AfterWrites.{same_shape, same_object_term}
use Rattle.list_views.proofs.Quantified.{all_at}
use Rattle.list_views.proofs.Items.{get_front}
use Rattle.list_views.proofs.Options.{same_answer, then_some}
use Rattle.jvm_values.specs.declared.heap.Value.{Value}
use Rattle.jvm_values.specs.declared.heap.Value.TheVariants as values
use Rattle.jvm_values.specs.declared.heap.Object.{Object}
use Rattle.jvm_values.specs.declared.heap.Heap.{Heap}
use Rattle.jvm_values.specs.declared.shape.Shape.{Shape}
use Rattle.jvm_values.specs.declared.shape.Shape.TheVariants.{Dag}
use Rattle.jvm_values.specs.Paths.{follow}
use Rattle.jvm_values.specs.Heaps.{target, values_of, value_at, heap_steps, Region, HasShape, IsInHeap, IsClosed}
use Rattle.jvm_values.specs.Terms.{HeapTerm, term_within, term_of_object, IsTerm}
use Rattle.jvm_values.proofs.Options.{some_is}
use Rattle.abs_heap.specs.Laws.{heap_with}

-- ---- lists

module _ (heap : Heap) (object : Object) (closed : IsClosed heap) where
  pub stays : (r : ℕ) (ob : Object) → slice_get heap.objects r ≡ Some ob → slice_get (heap_with heap object).objects r ≡ Some ob
  stays r ob e = get_front heap.objects (object ∷ []) r (slice_get_within heap.objects r ob e) ∙ e

  same_object : (a : ℕ) → a < length heap.objects → slice_get (heap_with heap object).objects a ≡ slice_get heap.objects a
  same_object a l = get_front heap.objects (object ∷ []) a l

  same_step : (a j : ℕ) → a < length heap.objects → heap_steps (heap_with heap object) a j ≡ heap_steps heap a j
  same_step a j l = ap (λ (x : Option Object). option_and_then target
      (option_and_then (λ (ob : Object). slice_get (values_of ob) j) x)) (same_object a l)

  value_low : (a : ℕ) (ob : Object) (j : ℕ) (y : Value) → slice_get heap.objects a ≡ Some ob → slice_get (values_of ob) j ≡ Some y
      → IsInHeap (length heap.objects) y
  value_low a ob j y e f = all_at (IsInHeap (length heap.objects)) (values_of ob) j y
      (all_at (λ (x : Object). All (IsInHeap (length heap.objects)) (values_of x)) heap.objects a ob closed e) f

  step_low : (a j c : ℕ) → heap_steps heap a j ≡ Some c → c < length heap.objects
  step_low a j c e =
      let p = then_some target (value_at heap a j) c e in
      let q = then_some (λ (ob : Object). slice_get (values_of ob) j) (slice_get heap.objects a) p.0 p.1.0 in
      value_low a q.0 j p.0 q.1.0 q.1.1 c p.1.1

  pub same_follow : (p : List ℕ) (a : ℕ) → a < length heap.objects
      → follow (heap_steps (heap_with heap object)) p a ≡ follow (heap_steps heap) p a
  same_follow [] a l = refl
  same_follow (i ∷ p) a l =
      ap (option_and_then (follow (heap_steps (heap_with heap object)) p)) (same_step a i l)
      ∙ same_answer (follow (heap_steps (heap_with heap object)) p) (follow (heap_steps heap) p) (heap_steps heap a i)
      (λ c e. same_follow p c (step_low a i c e))

  pub follow_low : (p : List ℕ) (a b : ℕ) → a < length heap.objects → follow (heap_steps heap) p a ≡ Some b → b < length heap.objects
  follow_low [] a b l e = subst (λ (n : ℕ). n < length heap.objects) (some_is e) l
  follow_low (i ∷ p) a b l e = let q = then_some (follow (heap_steps heap) p) (heap_steps heap a i) b e in follow_low p q.0 b
      (step_low a i q.0 q.1.0) q.1.1

  pub region_back : (v : Value) (o : ℕ) → IsInHeap (length heap.objects) v → Region (heap_with heap object) v o → Region heap v o
  region_back v o l r = record {
    start = r.start;
    names = r.names;
    reaches = record
        { path = r.reaches.path; leads = sym (same_follow r.reaches.path r.start (l r.start r.names)) ∙ r.reaches.leads };
  }

  pub region_low : (v : Value) (o : ℕ) → IsInHeap (length heap.objects) v → Region (heap_with heap object) v o → o < length heap.objects
  region_low v o l r = let q = region_back v o l r in follow_low q.reaches.path q.start o (l q.start q.names) q.reaches.leads

  pub shape_stays : (v : Value) (shape : Shape) → IsInHeap (length heap.objects) v → HasShape shape heap v
      → HasShape shape (heap_with heap object) v
  shape_stays v shape l = same_shape heap (heap_with heap object) v (λ a t p b e. sym (same_follow p a (l a t)) ∙ e) shape

  -- terms
  same_within : (depth : ℕ) (v : Value) → IsInHeap (length heap.objects) v
      → term_within depth (heap_with heap object) v ≡ term_within depth heap v
  same_within depth (values.Int n) l = refl
  same_within depth values.Null l = refl
  same_within zero (values.Ref r) l = refl
  same_within (suc depth) (values.Ref r) l =
      ap (option_and_then (term_of_object (term_within depth (heap_with heap object)))) (same_object r (l r refl))
      ∙ same_answer (term_of_object (term_within depth (heap_with heap object))) (term_of_object (term_within depth heap))
      (slice_get heap.objects r)
      (λ ob e. same_object_term ob (term_within depth (heap_with heap object)) (term_within depth heap)
      (λ j y f. same_within depth y (value_low r ob j y e f)))

  pub term_back : (v : Value) (t : HeapTerm) → IsInHeap (length heap.objects) v → IsTerm (heap_with heap object) v t → IsTerm heap v t
  term_back v t l is = record {
    acyclic = same_shape (heap_with heap object) heap v (λ a n p b e. same_follow p a (l a n) ∙ e) Dag is.acyclic;
    depth = is.depth;
    is = sym (same_within is.depth v l) ∙ is.is;
  }
