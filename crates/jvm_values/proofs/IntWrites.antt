-- Writes that change no reference: every value keeps its region, its paths, its shapes and its term.
use Rattle.std.proofs.Common.{◌≡◌, ℕ, zero, suc, ℤ, List, [], ◌∷◌, Option, Some, ◌⊎◌, inl, inr, refl, sym, ap, ◌∙◌}
use Rattle.std.specs.Prelude.{slice_get, slice_set}
use Rattle.std.specs.Option.{option_map, option_and_then}
use Rattle.std.proofs.lemmas.Bool.{cases_eq}
use Rattle.list_views.proofs.Items.{get_set}
use Rattle.list_views.proofs.Options.{same_answer, then_some}
use Rattle.jvm_values.specs.declared.heap.Value.{Value}
use Rattle.jvm_values.specs.declared.heap.Value.TheVariants as values
use Rattle.jvm_values.specs.declared.heap.Object.{Object}
use Rattle.jvm_values.specs.declared.heap.Object.TheVariants.{Instance, Nums, Refs}
use Rattle.jvm_values.specs.declared.heap.Heap.{Heap}
use Rattle.jvm_values.specs.Paths.{follow}
use Rattle.jvm_values.specs.Heaps.{target, values_of, heap_steps}
use Rattle.jvm_values.specs.Terms.{HeapTerm, HeapTerms, term_within, term_of_object, terms_by}
use Rattle.jvm_values.specs.Terms.HeapTerm.{null, node}
use Rattle.jvm_values.specs.Terms.HeapTerms.{more}
use Rattle.jvm_values.specs.Writes.{IsKept, with_value, IntWritesKeep, NumberWritesKeep}
use Rattle.jvm_values.proofs.AfterWrites.{same_object_term, kept}
use Rattle.jvm_values.proofs.Lists.{get_set_other}
use Rattle.jvm_values.proofs.Options.{some_is}

-- two objects whose references are the same, at the same places
record AreAlike (was now : Object) : Type 0 where
  pub references : (j : ℕ) → option_and_then target (slice_get (values_of now) j) ≡ option_and_then target (slice_get (values_of was) j)
  pub term : (f : Value → Option HeapTerm) → term_of_object f now ≡ term_of_object f was

int_references : (fields : List Value) (place : ℕ) (before after : ℤ) → slice_get fields place ≡ Some (values.Int before) → (j : ℕ)
    → option_and_then target (slice_get (slice_set fields place (values.Int after)) j) ≡ option_and_then target (slice_get fields j)
int_references [] place before after e j = refl
int_references (x ∷ rest) zero before after e zero = ap target (sym (some_is e))
int_references (x ∷ rest) zero before after e (suc j) = refl
int_references (x ∷ rest) (suc i) before after e zero = refl
int_references (x ∷ rest) (suc i) before after e (suc j) = int_references rest i before after e j

int_terms : (fields : List Value) (place : ℕ) (before after : ℤ) → slice_get fields place ≡ Some (values.Int before)
    → (f : Value → Option HeapTerm) → terms_by f (slice_set fields place (values.Int after)) ≡ terms_by f fields
int_terms [] place before after e f = refl
int_terms (x ∷ rest) zero before after e f = ap (λ (y : Value). terms_by f (y ∷ rest)) (sym (some_is e))
int_terms (values.Int n ∷ rest) (suc i) before after e f = int_terms rest i before after e f
int_terms (values.Null ∷ rest) (suc i) before after e f = ap (option_map (more null)) (int_terms rest i before after e f)
int_terms (values.Ref r ∷ rest) (suc i) before after e f =
    ap (λ (ts : Option HeapTerms). option_and_then (λ (first : HeapTerm). option_map (more first) ts) (f (values.Ref r)))
    (int_terms rest i before after e f)

int_alike : (place : ℕ) (before after : ℤ) (object : Object) → slice_get (values_of object) place ≡ Some (values.Int before)
    → AreAlike object (with_value place (values.Int after) object)
int_alike place before after (Instance class fields) e = record {
  references = int_references fields place before after e;
  term = λ f. ap (option_map (node class)) (int_terms fields place before after e f);
}
int_alike place before after (Nums kind items) e = record { references = λ j. refl; term = λ f. refl }
int_alike place before after (Refs element items) e = record { references = int_references items place before after e; term = λ f. refl }

module _ (old new : Heap) (o : ℕ) (was now : Object) (stands : slice_get old.objects o ≡ Some was)
    (objects : new.objects ≡ slice_set old.objects o now) (alike : AreAlike was now) where
  object_cases : (a : ℕ) → (slice_get new.objects a ≡ slice_get old.objects a)
      ⊎ ((slice_get new.objects a ≡ Some now) × (slice_get old.objects a ≡ Some was))
  object_cases a = elim (cases_eq a o) [
    | inl h ↦ inr (
      ap (λ (xs : List Object). slice_get xs a) objects ∙ ap (slice_get (slice_set old.objects o now)) h
          ∙ get_set old.objects o now was stands,
      ap (slice_get old.objects) h ∙ stands,
    )
    | inr h ↦ inl (ap (λ (xs : List Object). slice_get xs a) objects ∙ get_set_other old.objects o a now h)
  ]

  abbrev step_of : ℕ → Option Object → Option ℕ
  step_of j object = option_and_then target (option_and_then (λ (ob : Object). slice_get (values_of ob) j) object)

  same_steps : (a j : ℕ) → heap_steps new a j ≡ heap_steps old a j
  same_steps a j = elim (object_cases a) [
    | inl h ↦ ap (step_of j) h
    | inr h ↦ ap (step_of j) h.0 ∙ alike.references j ∙ sym (ap (step_of j) h.1)
  ]

  same_paths : (path : List ℕ) (a : ℕ) → follow (heap_steps new) path a ≡ follow (heap_steps old) path a
  same_paths [] a = refl
  same_paths (j ∷ path) a =
      ap (option_and_then (follow (heap_steps new) path)) (same_steps a j)
      ∙ same_answer (follow (heap_steps new) path) (follow (heap_steps old) path) (heap_steps old a j) (λ c e. same_paths path c)

  same_term : (depth : ℕ) (x : Value) → term_within depth new x ≡ term_within depth old x
  same_term depth (values.Int n) = refl
  same_term depth values.Null = refl
  same_term zero (values.Ref r) = refl
  same_term (suc depth) (values.Ref r) =
      let object_term = λ (object : Object). same_object_term object (term_within depth new) (term_within depth old)
      (λ k x f. same_term depth x) in
      elim (object_cases r) [
        | inl h ↦ ap (option_and_then (term_of_object (term_within depth new))) h
            ∙ same_answer (term_of_object (term_within depth new)) (term_of_object (term_within depth old))
            (slice_get old.objects r) (λ object e. object_term object)
        | inr h ↦ ap (option_and_then (term_of_object (term_within depth new))) h.0 ∙ alike.term (term_within depth new)
            ∙ object_term was ∙ sym (ap (option_and_then (term_of_object (term_within depth old))) h.1)
      ]

  alike_keep : (x : Value) → IsKept old new x
  alike_keep x = kept old new x (λ a t path. same_paths path a) (λ depth. same_term depth x)

pub int_writes : IntWritesKeep
int_writes old new o place before after w e =
    let p = then_some (λ (ob : Object). slice_get (values_of ob) place) (slice_get old.objects o) (values.Int before) e in
    alike_keep old new o w.object (with_value place (values.Int after) w.object) w.stands w.objects
    (int_alike place before after w.object
    (ap (λ (ob : Object). slice_get (values_of ob) place) (some_is (sym w.stands ∙ p.1.0)) ∙ p.1.1))

pub number_writes : NumberWritesKeep
number_writes old new o w =
    alike_keep old new o (Nums w.kind w.before) (Nums w.kind w.after) w.stands w.objects
    (record { references = λ j. refl; term = λ f. refl })
