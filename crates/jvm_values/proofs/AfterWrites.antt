-- The three facts of a write, from what one step of the new heap is.
use Rattle.std.proofs.Common.{◌≡◌, ℕ, zero, suc, List, [], ◌∷◌, ◌++◌, Option, Some, None, ◌⊎◌, inl, inr, refl, sym, ap, ◌∙◌}
use Rattle.std.specs.Prelude.{slice_get}
use Rattle.std.specs.Option.{option_map, option_and_then}
use Rattle.std.proofs.lemmas.Bool.{cases_eq}
use Rattle.std.proofs.lemmas.Option.{none-some}
use Rattle.list_views.proofs.Options.{same_answer, then_some}
use Rattle.jvm_values.specs.declared.heap.Value.{Value}
use Rattle.jvm_values.specs.declared.heap.Value.TheVariants as values
use Rattle.jvm_values.specs.declared.heap.Object.{Object}
use Rattle.jvm_values.specs.declared.heap.Object.TheVariants.{Instance, Nums, Refs}
use Rattle.jvm_values.specs.declared.heap.Heap.{Heap}
use Rattle.jvm_values.specs.declared.shape.Shape.{Shape}
use Rattle.jvm_values.specs.declared.shape.Shape.TheVariants.{Tree, Dag, Any}
use Rattle.jvm_values.specs.Paths.{follow, Reaches}
use Rattle.jvm_values.specs.Heaps.{target, values_of, value_at, heap_steps, Region, HasShape}
use Rattle.jvm_values.specs.Terms.{HeapTerm, HeapTerms, term_within, term_of_object, terms_by}
use Rattle.jvm_values.specs.Terms.HeapTerm.{null, node}
use Rattle.jvm_values.specs.Terms.HeapTerms.{more}
use Rattle.jvm_values.specs.Writes.{IsWritten, with_value, IsKept, WriteKeeps, PathSplits, WriteGains, WriteMakesNoCycle, NullKeepsShapes}
use Rattle.jvm_values.proofs.Lists.{get_set_cases, get_set_other}
use Rattle.jvm_values.proofs.PathLaws.{one_more, here, joined, onward, rest_of}

value_cases : (place : ℕ) (value : Value) (object : Object) (j : ℕ) (y : Value)
    → slice_get (values_of (with_value place value object)) j ≡ Some y → (slice_get (values_of object) j ≡ Some y) ⊎ (y ≡ value)
value_cases place value (Instance class fields) j y e = elim (get_set_cases fields place value j y e) [ inl h ↦ inl h | inr h ↦ inr h.1 ]
value_cases place value (Nums kind items) j y e = inl e
value_cases place value (Refs element items) j y e = elim (get_set_cases items place value j y e) [ inl h ↦ inl h | inr h ↦ inr h.1 ]

-- terms of references that are the same by two maps
same_terms : (fields : List Value) (f g : Value → Option HeapTerm) → ((k : ℕ) (x : Value) → slice_get fields k ≡ Some x → f x ≡ g x)
    → terms_by f fields ≡ terms_by g fields
same_terms [] f g h = refl
same_terms (values.Int n ∷ rest) f g h = same_terms rest f g (λ k x e. h (suc k) x e)
same_terms (values.Null ∷ rest) f g h = ap (option_map (more null)) (same_terms rest f g (λ k x e. h (suc k) x e))
same_terms (values.Ref r ∷ rest) f g h =
    let tail = same_terms rest f g (λ k x e. h (suc k) x e) in
    ap (λ (x : Option HeapTerm). option_and_then (λ (first : HeapTerm). option_map (more first) (terms_by f rest)) x)
    (h 0 (values.Ref r) refl)
    ∙ ap (λ (ts : Option HeapTerms). option_and_then (λ (first : HeapTerm). option_map (more first) ts) (g (values.Ref r))) tail

pub same_object_term : (object : Object) (f g : Value → Option HeapTerm)
    → ((k : ℕ) (x : Value) → slice_get (values_of object) k ≡ Some x → f x ≡ g x) → term_of_object f object ≡ term_of_object g object
same_object_term (Instance class fields) f g h = ap (option_map (node class)) (same_terms fields f g h)
same_object_term (Nums kind items) f g h = refl
same_object_term (Refs element items) f g h = refl

module _ (old new : Heap) (o place : ℕ) (value : Value) (w : IsWritten old o place value new) where
  -- an object of the new heap is one of the old heap, or the one that is written
  object_cases : (a : ℕ) (object : Object) → slice_get new.objects a ≡ Some object → (slice_get old.objects a ≡ Some object)
      ⊎ ((a ≡ o) × (object ≡ with_value place value w.object))
  object_cases a object e = get_set_cases old.objects o (with_value place value w.object) a object
      (ap (λ (xs : List Object). slice_get xs a) (sym w.objects) ∙ e)

  old_step : (a j c : ℕ) (object : Object) (y : Value) → slice_get old.objects a ≡ Some object
      → slice_get (values_of object) j ≡ Some y → target y ≡ Some c → heap_steps old a j ≡ Some c
  old_step a j c object y e f g = ap
      (λ (x : Option Object). option_and_then target (option_and_then (λ (ob : Object). slice_get (values_of ob) j) x)) e
      ∙ ap (option_and_then target) f ∙ g

  written_values : (a j c : ℕ) (object : Object) (y : Value) → a ≡ o → object ≡ with_value place value w.object
      → slice_get (values_of object) j ≡ Some y → target y ≡ Some c → (heap_steps old a j ≡ Some c) ⊎ ((a ≡ o) × (target value ≡ Some c))
  written_values a j c object y at is f g =
      elim (value_cases place value w.object j y (ap (λ (ob : Object). slice_get (values_of ob) j) (sym is) ∙ f)) [
        | inl h ↦ inl (old_step a j c w.object y (ap (slice_get old.objects) at ∙ w.stands) h g)
        | inr h ↦ inr (at, ap target (sym h) ∙ g)
      ]

  -- a step of the new heap is one of the old heap, or goes from the object to what the written value names
  pub step_cases : (a j c : ℕ) → heap_steps new a j ≡ Some c → (heap_steps old a j ≡ Some c) ⊎ ((a ≡ o) × (target value ≡ Some c))
  step_cases a j c e =
      let p = then_some target (value_at new a j) c e in
      let q = then_some (λ (ob : Object). slice_get (values_of ob) j) (slice_get new.objects a) p.0 p.1.0 in
      elim (object_cases a q.0 q.1.0) [
        | inl h ↦ inl (old_step a j c q.0 p.0 h q.1.1 p.1.1)
        | inr h ↦ written_values a j c q.0 p.0 h.0 h.1 q.1.1 p.1.1
      ]

  same_object : (a : ℕ) → (a ≡ o → ⊥) → slice_get new.objects a ≡ slice_get old.objects a
  same_object a h = ap (λ (xs : List Object). slice_get xs a) w.objects ∙ get_set_other old.objects o a (with_value place value w.object) h

  same_step : (a j : ℕ) → (a ≡ o → ⊥) → heap_steps new a j ≡ heap_steps old a j
  same_step a j h = ap (λ (x : Option Object). option_and_then target
      (option_and_then (λ (ob : Object). slice_get (values_of ob) j) x)) (same_object a h)

  -- ---- a path after the write

  pub split : (path : List ℕ) (a b : ℕ) → follow (heap_steps new) path a ≡ Some b → (follow (heap_steps old) path a ≡ Some b)
      ⊎ (Reaches (heap_steps old) a o × Region old value b)
  split [] a b e = inl e
  split (j ∷ path) a b e =
      let p = then_some (follow (heap_steps new) path) (heap_steps new a j) b e in
      join (step_cases a j p.0 p.1.0) (split path p.0 b p.1.1)
    where
      join : {c : ℕ} → (heap_steps old a j ≡ Some c) ⊎ ((a ≡ o) × (target value ≡ Some c))
          → (follow (heap_steps old) path c ≡ Some b) ⊎ (Reaches (heap_steps old) c o × Region old value b)
          → (follow (heap_steps old) (j ∷ path) a ≡ Some b) ⊎ (Reaches (heap_steps old) a o × Region old value b)
      join {c} (inl s) (inl r) = inl (ap (option_and_then (follow (heap_steps old) path)) s ∙ r)
      join {c} (inl s) (inr r) = inr (one_more (heap_steps old) a j c o s r.0, r.1)
      join {c} (inr s) (inl r) = inr
          (record { path = []; leads = ap Some s.0 }, record { start = c; names = s.1; reaches = record { path = path; leads = r } })
      join {c} (inr s) (inr r) = inr (record { path = []; leads = ap Some s.0 }, r.1)

  -- ---- what is kept

  lacks_after : (a j c : ℕ) → heap_steps old a j ≡ Some c → (Reaches (heap_steps old) a o → ⊥) → Reaches (heap_steps old) c o → ⊥
  lacks_after a j c e lacks r = lacks (one_more (heap_steps old) a j c o e r)

  pub same_paths : (path : List ℕ) (a : ℕ) → (Reaches (heap_steps old) a o → ⊥)
      → follow (heap_steps new) path a ≡ follow (heap_steps old) path a
  same_paths [] a lacks = refl
  same_paths (j ∷ path) a lacks =
      ap (option_and_then (follow (heap_steps new) path)) (same_step a j (λ e. lacks (here (heap_steps old) a o e)))
      ∙ same_answer (follow (heap_steps new) path) (follow (heap_steps old) path) (heap_steps old a j)
      (λ c e. same_paths path c (lacks_after a j c e lacks))

  -- ---- what is gained

  pub still_reaches : (path : List ℕ) (a : ℕ) → follow (heap_steps old) path a ≡ Some o → Reaches (heap_steps new) a o
  still_reaches [] a e = record { path = []; leads = e }
  still_reaches (j ∷ path) a e =
      let p = then_some (follow (heap_steps old) path) (heap_steps old a j) o e in
      elim (cases_eq a o) [
        | inl h ↦ here (heap_steps new) a o h
        | inr h ↦ one_more (heap_steps new) a j p.0 o (same_step a j h ∙ p.1.0) (still_reaches path p.0 p.1.1)
      ]

  -- ---- null

  pub no_new_paths : target value ≡ None → (path : List ℕ) (a b : ℕ) → follow (heap_steps new) path a ≡ Some b
      → follow (heap_steps old) path a ≡ Some b
  no_new_paths nothing path a b e = elim (split path a b e) [
    | inl h ↦ h
    | inr h ↦ absurd (none-some h.1.start (sym nothing ∙ h.1.names))
  ]

  -- ---- terms

  pub same_term : (depth : ℕ) (x : Value) → ((a : ℕ) → target x ≡ Some a → Reaches (heap_steps old) a o → ⊥)
      → term_within depth new x ≡ term_within depth old x
  same_term depth (values.Int n) lacks = refl
  same_term depth values.Null lacks = refl
  same_term zero (values.Ref r) lacks = refl
  same_term (suc depth) (values.Ref r) lacks =
      ap (option_and_then (term_of_object (term_within depth new)))
      (same_object r (λ e. lacks r refl (here (heap_steps old) r o e))) ∙ same_answer (term_of_object (term_within depth new))
      (term_of_object (term_within depth old)) (slice_get old.objects r)
      (λ object e. same_object_term object (term_within depth new) (term_within depth old)
      (λ k x f. same_term depth x (λ a t. lacks_after r k a (old_step r k a object x e f t) (lacks r refl))))

-- ---- the facts

from_region : (heap : Heap) (x : Value) (b : ℕ) → (Region heap x b → ⊥) → (a : ℕ) → target x ≡ Some a → Reaches (heap_steps heap) a b → ⊥
from_region heap x b lacks a t r = lacks (record { start = a; names = t; reaches = r })

-- the same paths give the same shapes
pub same_shape : (one two : Heap) (x : Value)
    → ((a : ℕ) → target x ≡ Some a → (p : List ℕ) (b : ℕ) → follow (heap_steps two) p a ≡ Some b
    → follow (heap_steps one) p a ≡ Some b) → (shape : Shape) → HasShape shape one x → HasShape shape two x
same_shape one two x back Tree h = λ a t p q b e f. h a t p q b (back a t p b e) (back a t q b f)
same_shape one two x back Dag h = λ a t p b e q f.
    let start = back a t p b e in
    h a t p b start q (rest_of (heap_steps one) p q a b b start (back a t (p ++ q) b (joined (heap_steps two) p q a b b e f)))
same_shape one two x back Any h = tt

-- the same paths and terms keep all of a value
pub kept : (old new : Heap) (x : Value)
    → ((a : ℕ) → target x ≡ Some a → (path : List ℕ) → follow (heap_steps new) path a ≡ follow (heap_steps old) path a)
    → ((depth : ℕ) → term_within depth new x ≡ term_within depth old x) → IsKept old new x
kept old new x same terms = record {
  region = λ b. (
    λ r. record {
      start = r.start;
      names = r.names;
      reaches = record
          { path = r.reaches.path; leads = sym (same r.start r.names r.reaches.path) ∙ r.reaches.leads };
    },
    λ r. record {
      start = r.start;
      names = r.names;
      reaches = record
          { path = r.reaches.path; leads = same r.start r.names r.reaches.path ∙ r.reaches.leads };
    },
  );
  paths = same;
  shape = λ shape. (
    same_shape new old x (λ a t p b e. same a t p ∙ e) shape,
    same_shape old new x (λ a t p b e. sym (same a t p) ∙ e) shape,
  );
  term = λ term. (
    λ t. record {
      acyclic = same_shape new old x (λ a t p b e. same a t p ∙ e) Dag t.acyclic;
      depth = t.depth;
      is = sym
          (terms t.depth) ∙ t.is;
    },
    λ t. record {
      acyclic = same_shape old new x (λ a t p b e. sym (same a t p) ∙ e) Dag t.acyclic;
      depth = t.depth;
      is = terms
          t.depth ∙ t.is;
    },
  );
}

pub keeps : WriteKeeps
keeps old new o place value w x lacks =
    kept old new x (λ a t path. same_paths old new o place value w path a (from_region old x o lacks a t))
    (λ depth. same_term old new o place value w depth x (from_region old x o lacks))

pub splits : PathSplits
splits old new o place value w path a b e = split old new o place value w path a b e

pub gains : WriteGains
gains old new o place value w x = record {
  object = λ r. record {
    start = r.start;
    names = r.names;
    reaches = still_reaches old new o place value w r.reaches.path r.start
        r.reaches.leads;
  };
  others = λ b r. elim (split old new o place value w r.reaches.path r.start b r.reaches.leads) [
    | inl h ↦ inl (record { start = r.start; names = r.names; reaches = record { path = r.reaches.path; leads = h } })
    | inr h ↦ inr (record { start = r.start; names = r.names; reaches = h.0 }, h.1)
  ];
}

pub no_cycle : WriteMakesNoCycle
no_cycle old new o place value w lacks of_value x of_x a t p b e q f =
    elim (split old new o place value w q b b f) [
      | inl cycle ↦ elim (split old new o place value w p a b e) [
        | inl path ↦ of_x a t p b path q cycle
        | inr gained ↦ of_value gained.1.start gained.1.names gained.1.reaches.path b gained.1.reaches.leads q cycle
      ]
      | inr back ↦ absurd (lacks
          (record {
            start = back.1.start;
            names = back.1.names;
            reaches = onward (heap_steps old) back.1.start b o back.1.reaches
                back.0;
          }))
    ]

pub null_keeps : NullKeepsShapes
null_keeps old new o place value w nothing shape x h = same_shape old new x
    (λ a t p b e. no_new_paths old new o place value w nothing p a b e) shape h
