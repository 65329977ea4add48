-- The term of what an id stands for, level by level, is the id's pattern with each variable replaced.
use Rattle.std.proofs.Common.{◌≡◌, ℕ, zero, suc, ℤ, List, [], ◌∷◌, map, Option, Some, None, refl, sym, ap, subst, ◌∙◌, inl, inr}
use Rattle.std.specs.Prelude.{slice_get}
use Rattle.std.specs.Option.{option_map, option_and_then}
use Rattle.std.proofs.lemmas.Option.{none-some}
use Rattle.list_views.proofs.Options.{map_some, then_some}
use Rattle.jvm_values.specs.declared.heap.Value.{Value}
use Rattle.jvm_values.specs.declared.heap.Value.TheVariants as values
use Rattle.jvm_values.specs.declared.heap.Object.{Object}
use Rattle.jvm_values.specs.declared.heap.Object.TheVariants as objects
use Rattle.jvm_values.specs.declared.heap.Heap.{Heap}
use Rattle.jvm_values.specs.Paths.{follow}
use Rattle.jvm_values.specs.Heaps.{target, values_of, heap_steps, IsDag}
use Rattle.jvm_values.specs.States.{MachineState}
use Rattle.jvm_values.specs.TypedHeaps.{WorldTypes}
use Rattle.jvm_values.specs.Terms.{HeapTerm, HeapTerms, term_within, term_of_object, terms_by, IsTerm}
use Rattle.jvm_values.specs.Terms as terms
use Rattle.jvm_values.proofs.Options.{some_is}
use Rattle.abs_reach.specs.JvmHeapsAcyclicTerms.{IsNoInt}
use Rattle.abs_cells.specs.declared.cells.Cell.{Cell}
use Rattle.abs_cells.specs.declared.cells.Cell.TheVariants.{Int, Null, Obj, Nums, Refs, Unk}
use Rattle.abs_cells.specs.AbstractStates.{AbstractState}
use Rattle.abs_cells.specs.Cells.{cell_at}
use Rattle.abs_cells.specs.Fits.{Meaning, Fits, Describes, IsObject}
use Rattle.abs_cells.specs.Patterns.{Pattern, Patterns, null, leaf, node, variable, none, more, patterns_by, pattern_of_cell}
use Rattle.abs_cells.specs.Patterns.{pattern_within}
use Rattle.term_enc.specs.Filling.{IsFilled, AreFilled, IsTermOf}
use Rattle.term_enc.proofs.Levels.{put, split}

-- ---- terms of values one after another

pub record FirstTerm (term : Value → Option HeapTerm) (value : Value) (rest : List Value) (all : HeapTerms) : Type 0 where
  pub first : HeapTerm
  pub others : HeapTerms
  pub first_is : term value ≡ Some first
  pub rest_is : terms_by term rest ≡ Some others
  pub all_is : all ≡ terms.more first others

first_term : (term : Value → Option HeapTerm) (value : Value) (rest : List Value) (all : HeapTerms)
    → term values.Null ≡ Some terms.null → IsNoInt value →
    terms_by term (value ∷ rest) ≡ Some all → FirstTerm term value rest all
first_term term (values.Int n) rest all nil h e = absurd h
first_term term values.Null rest all nil h e =
    let m = map_some (terms.more terms.null) (terms_by term rest) all e in
    record { first = terms.null; others = m.0; first_is = nil; rest_is = m.1.0; all_is = sym m.1.1 }
first_term term (values.Ref r) rest all nil h e =
    let p = then_some (λ (first : HeapTerm). option_map (terms.more first) (terms_by term rest)) (term (values.Ref r)) all e in
    let m = map_some (terms.more p.0) (terms_by term rest) all p.1.1 in
    record { first = p.0; others = m.0; first_is = p.1.0; rest_is = m.1.0; all_is = sym m.1.1 }

int_term : (term : Value → Option HeapTerm) (value : Value) (rest : List Value) (all : HeapTerms) → (IsNoInt value → ⊥)
    → terms_by term (value ∷ rest) ≡ Some all → terms_by term rest ≡ Some all
int_term term (values.Int k) rest all is e = e
int_term term values.Null rest all is e = absurd (is tt)
int_term term (values.Ref r) rest all is e = absurd (is tt)

-- ---- what cells say of values

no_int_of : {value other : Value} → value ≡ other → IsNoInt other → IsNoInt value
no_int_of e h = subst IsNoInt (sym e) h

-- a value that is null or names an object is no int
object_no_int : (heap : Heap) (value : Value) (P : Object → Type 0) → IsObject heap value P → IsNoInt value
object_no_int heap value P o = no_int_of o.names tt

int_is_int : (value : Value) (n : ℤ) → value ≡ values.Int n → IsNoInt value → ⊥
int_is_int value n e h = subst IsNoInt e h

-- an id with a pattern stands for no int, and an id without one for an int
given_no_int : (types : WorldTypes) (heap : Heap) (meaning : Meaning) (pattern : ℕ → Option (Option Pattern)) (id : ℕ) (cell : Cell)
    (value : Value) (p : Pattern) →
    Describes types heap meaning cell value → pattern_of_cell pattern id cell ≡ Some (Some p) → IsNoInt value
given_no_int types heap meaning pattern id (Int interval) value p d e = absurd (none-some p (some_is e))
given_no_int types heap meaning pattern id Null value p d e = no_int_of d tt
given_no_int types heap meaning pattern id (Obj class ids) value p d e = object_no_int heap value _ d
given_no_int types heap meaning pattern id (Nums kind len) value p d e = object_no_int heap value _ d
given_no_int types heap meaning pattern id (Refs element len shape) value p d e = object_no_int heap value _ d
given_no_int types heap meaning pattern id (Unk bound nullable shape) value p d e = elim d [
  | inl n ↦ no_int_of n.1 tt
  | inr o ↦ object_no_int heap value _ o
]

-- no pattern, no reference
none_is_int : (types : WorldTypes) (heap : Heap) (meaning : Meaning) (pattern : ℕ → Option (Option Pattern)) (id : ℕ) (cell : Cell)
    (value : Value) →
    Describes types heap meaning cell value → pattern_of_cell pattern id cell ≡ Some None → IsNoInt value → ⊥
none_is_int types heap meaning pattern id (Int interval) value d e = int_is_int value d.0 d.1.0
none_is_int types heap meaning pattern id Null value d e = absurd (none-some null (sym (some_is e)))
none_is_int types heap meaning pattern id (Obj class ids) value d e = let m = map_some
    (λ (children : Patterns). Some (node class children))
    (patterns_by pattern ids) None e in absurd (none-some (node class m.0) (sym m.1.1))
none_is_int types heap meaning pattern id (Nums kind len) value d e = absurd (none-some leaf (sym (some_is e)))
none_is_int types heap meaning pattern id (Refs element len shape) value d e = absurd (none-some leaf (sym (some_is e)))
none_is_int types heap meaning pattern id (Unk bound nullable shape) value d e = absurd (none-some (variable id) (sym (some_is e)))

-- ---- objects

-- the object that a value names, and its term
pub record ObjectTerm (heap : Heap) (depth : ℕ) (value : Value) (object : Object) (term : HeapTerm) : Type 0 where
  pub place : ℕ
  pub below : ℕ
  pub names : value ≡ values.Ref place
  pub stands : slice_get heap.objects place ≡ Some object
  pub is : term_of_object (term_within below heap) object ≡ Some term

ref_term : (heap : Heap) (depth r : ℕ) (object : Object) (term : HeapTerm) → slice_get heap.objects r ≡ Some object
    → term_within depth heap (values.Ref r) ≡ Some term →
    (below : ℕ) × ((depth ≡ suc below) × (term_of_object (term_within below heap) object ≡ Some term))
ref_term heap zero r object term s e = absurd (none-some term e)
ref_term heap (suc depth) r object term s e = (depth, (refl, sym (ap (option_and_then (term_of_object (term_within depth heap))) s) ∙ e))

module _ (heap : Heap) (meaning : Meaning) where
  -- the values of a known instance's fields have no cycles where its own has none
  field_dag : (r k : ℕ) (class : ℕ) (fields : List Value) (value : Value)
      → slice_get heap.objects r ≡ Some (objects.Instance class fields) →
      slice_get fields k ≡ Some value → IsDag heap (values.Ref r) → IsDag heap value
  field_dag r k class fields value s f dag a t =
      let step : heap_steps heap r k ≡ Some a =
      ap (λ (o : Option Object). option_and_then target (option_and_then (λ (object : Object). slice_get (values_of object) k) o)) s
      ∙ ap (option_and_then target) f
      ∙ t in
      λ p b g. dag r refl (k ∷ p) b (ap (option_and_then (follow (heap_steps heap) p)) step ∙ g)

slice_map : (meaning : Meaning) (ids : List ℕ) (k id : ℕ) → slice_get ids k ≡ Some id → slice_get (map meaning ids) k ≡ Some (meaning id)
slice_map meaning [] k id e = absurd (none-some id e)
slice_map meaning (x ∷ ids) zero id e = ap Some (ap meaning (some_is e))
slice_map meaning (x ∷ ids) (suc k) id e = slice_map meaning ids k id e

-- ---- fields one after another

module _ (heap : Heap) (meaning : Meaning) (pattern : ℕ → Option (Option Pattern)) (term : Value → Option HeapTerm)
    (nil : term values.Null ≡ Some terms.null)
    (ints : (id : ℕ) → pattern id ≡ Some None → IsNoInt (meaning id) → ⊥)
    (others : (id : ℕ) (p : Pattern) → pattern id ≡ Some (Some p) → IsNoInt (meaning id))
    (filled : (id : ℕ) (p : Pattern) (t : HeapTerm) → pattern id ≡ Some (Some p) → IsDag heap (meaning id)
    → term (meaning id) ≡ Some t → IsFilled (IsTermOf heap meaning) p t) where
  field_filled : (id : ℕ) (ids : List ℕ) (ps : Patterns) (ts : HeapTerms) (given : Option Pattern) (rest : Patterns)
      → IsDag heap (meaning id) →
      pattern id ≡ Some given → ps ≡ put given rest → terms_by term (meaning id ∷ map meaning ids) ≡ Some ts →
      ((us : HeapTerms) → terms_by term (map meaning ids) ≡ Some us → AreFilled (IsTermOf heap meaning) rest us)
      → AreFilled (IsTermOf heap meaning) ps ts
  unfolding put
  field_filled id ids ps ts None rest dag e all f h =
      subst (λ (x : Patterns). AreFilled (IsTermOf heap meaning) x ts) (sym all)
      (h ts (int_term term (meaning id) (map meaning ids) ts (ints id e) f))
  field_filled id ids ps ts (Some p) rest dag e all f h =
      let t = first_term term (meaning id) (map meaning ids) ts nil (others id p e) f in
      subst (λ (x : Patterns). AreFilled (IsTermOf heap meaning) x ts) (sym all)
      (subst (λ (x : HeapTerms). AreFilled (IsTermOf heap meaning) (more p rest) x) (sym t.all_is)
      (filled id p t.first e dag t.first_is, h t.others t.rest_is))

  fields_filled : (ids : List ℕ) (ps : Patterns) (ts : HeapTerms) → ((k id : ℕ) → slice_get ids k ≡ Some id → IsDag heap (meaning id)) →
      patterns_by pattern ids ≡ Some ps → terms_by term (map meaning ids) ≡ Some ts → AreFilled (IsTermOf heap meaning) ps ts
  fields_filled [] ps ts dags e f =
      subst (λ (x : Patterns). AreFilled (IsTermOf heap meaning) x ts) (some_is e)
      (subst (λ (x : HeapTerms). AreFilled (IsTermOf heap meaning) none x) (some_is f) tt)
  fields_filled (id ∷ ids) ps ts dags e f =
      let s = split (pattern id) (patterns_by pattern ids) ps e in
      field_filled id ids ps ts s.given s.others (dags zero id refl) s.first_is s.all_is f
      (λ us g. fields_filled ids s.others us (λ k y i. dags (suc k) y i) s.rest_is g)

-- ---- the whole

module _ (types : WorldTypes) (state : AbstractState) (machine : MachineState) (meaning : Meaning)
    (fits : Fits types state machine meaning) where
  pub within_no_int : (depth id : ℕ) (p : Pattern) → pattern_within depth state id ≡ Some (Some p) → IsNoInt (meaning id)
  within_no_int zero id p e = absurd (none-some (Some p) e)
  within_no_int (suc depth) id p e =
      let c = then_some (pattern_of_cell (pattern_within depth state) id) (cell_at state id) (Some p) e in
      given_no_int types machine.heap meaning (pattern_within depth state) id c.0 (meaning id) p (fits.cells id c.0 c.1.0) c.1.1

  within_int : (depth id : ℕ) → pattern_within depth state id ≡ Some None → IsNoInt (meaning id) → ⊥
  within_int zero id e = absurd (none-some None e)
  within_int (suc depth) id e =
      let c = then_some (pattern_of_cell (pattern_within depth state) id) (cell_at state id) None e in
      none_is_int types machine.heap meaning (pattern_within depth state) id c.0 (meaning id) (fits.cells id c.0 c.1.0) c.1.1

  array_filled : (depth : ℕ) (value : Value) (t : HeapTerm) (object : Object) (r : ℕ) → value ≡ values.Ref r
      → slice_get machine.heap.objects r ≡ Some object →
      ((f : Value → Option HeapTerm) → term_of_object f object ≡ Some terms.leaf) → term_within depth machine.heap value ≡ Some t
      → t ≡ terms.leaf
  array_filled depth value t object r n s is e =
      let b = ref_term machine.heap depth r object t s (ap (term_within depth machine.heap) (sym n) ∙ e) in
      some_is (sym b.1.1 ∙ is (term_within b.0 machine.heap))

  cell_unfolded : (depth : ℕ) →
      ((deep y : ℕ) (q : Pattern) (s : HeapTerm) → pattern_within depth state y ≡ Some (Some q) → IsDag machine.heap (meaning y) →
      term_within deep machine.heap (meaning y) ≡ Some s → IsFilled (IsTermOf machine.heap meaning) q s) →
      (deep id : ℕ) (cell : Cell) (p : Pattern) (t : HeapTerm) → Describes types machine.heap meaning cell (meaning id) →
      pattern_of_cell (pattern_within depth state) id cell ≡ Some (Some p) → IsDag machine.heap (meaning id)
      → term_within deep machine.heap (meaning id) ≡ Some t →
      IsFilled (IsTermOf machine.heap meaning) p t
  cell_unfolded depth ih deep id (Int interval) p t d e dag f = absurd (none-some p (some_is e))
  cell_unfolded depth ih deep id Null p t d e dag f =
      let is : terms.null ≡ t = some_is (ap (term_within deep machine.heap) (sym d) ∙ f) in
      subst (λ (x : Pattern). IsFilled (IsTermOf machine.heap meaning) x t) (some_is (some_is e))
      (subst (λ (x : HeapTerm). IsFilled (IsTermOf machine.heap meaning) null x) is tt)
  cell_unfolded depth ih deep id (Obj class ids) p t d e dag f =
      let m = map_some (λ (children : Patterns). Some (node class children)) (patterns_by (pattern_within depth state) ids) (Some p) e in
      let stands : slice_get machine.heap.objects d.place ≡ Some (objects.Instance class (map meaning ids)) = d.stands ∙ ap Some d.holds in
      let b = ref_term machine.heap deep d.place (objects.Instance class (map meaning ids)) t stands
      (ap (term_within deep machine.heap) (sym d.names) ∙ f) in
      let n = map_some (terms.node class) (terms_by (term_within b.0 machine.heap) (map meaning ids)) t b.1.1 in
      let ref_dag : IsDag machine.heap (values.Ref d.place) = subst (IsDag machine.heap) d.names dag in
      let below : AreFilled (IsTermOf machine.heap meaning) m.0 n.0 =
      fields_filled machine.heap meaning (pattern_within depth state) (term_within b.0 machine.heap) refl (within_int depth)
      (within_no_int depth)
      (ih b.0)
      ids m.0 n.0 (λ k y g. field_dag machine.heap meaning d.place k class (map meaning ids) (meaning y) stands
      (slice_map meaning ids k y g) ref_dag) m.1.0 n.1.0 in
      subst (λ (x : Pattern). IsFilled (IsTermOf machine.heap meaning) x t) (some_is m.1.1)
      (subst (λ (x : HeapTerm). IsFilled (IsTermOf machine.heap meaning) (node class m.0) x) n.1.1 (refl, below))
  cell_unfolded depth ih deep id (Nums kind len) p t d e dag f =
      let is : t ≡ terms.leaf = array_filled deep (meaning id) t d.object d.place d.names d.stands
      (λ g. ap (term_of_object g) d.holds.is) f in
      subst (λ (x : Pattern). IsFilled (IsTermOf machine.heap meaning) x t) (some_is (some_is e))
      (subst (λ (x : HeapTerm). IsFilled (IsTermOf machine.heap meaning) leaf x) (sym is) tt)
  cell_unfolded depth ih deep id (Refs element len shape) p t d e dag f =
      let is : t ≡ terms.leaf = array_filled deep (meaning id) t d.object d.place d.names d.stands
      (λ g. ap (term_of_object g) d.holds.is) f in
      subst (λ (x : Pattern). IsFilled (IsTermOf machine.heap meaning) x t) (some_is (some_is e))
      (subst (λ (x : HeapTerm). IsFilled (IsTermOf machine.heap meaning) leaf x) (sym is) tt)
  cell_unfolded depth ih deep id (Unk bound nullable shape) p t d e dag f =
      subst (λ (x : Pattern). IsFilled (IsTermOf machine.heap meaning) x t) (some_is (some_is e))
      (record { acyclic = dag; depth = deep; is = f })

  pub unfolded : (depth deep id : ℕ) (p : Pattern) (t : HeapTerm) → pattern_within depth state id ≡ Some (Some p)
      → IsDag machine.heap (meaning id) →
      term_within deep machine.heap (meaning id) ≡ Some t → IsFilled (IsTermOf machine.heap meaning) p t
  unfolded zero deep id p t e dag f = absurd (none-some (Some p) e)
  unfolded (suc depth) deep id p t e dag f =
      let c = then_some (pattern_of_cell (pattern_within depth state) id) (cell_at state id) (Some p) e in
      cell_unfolded depth (unfolded depth) deep id c.0 p t (fits.cells id c.0 c.1.0) c.1.1 dag f
