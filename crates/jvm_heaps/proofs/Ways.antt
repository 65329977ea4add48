-- Going through the steps of a region, object after object and value after value: which places are named so far.
use Rattle.std.proofs.Common.{◌≡◌, ℕ, zero, suc, ◌+◌, ◌<◌, ◌≤◌, Bool, true, false, cond, List, [], ◌∷◌, ◌++◌, length, get_or, set}
use Rattle.std.proofs.Common.{replicate, Some, None, ◌⊎◌, inl, inr, refl, sym, ap, subst, ◌∙◌, arith, drop, drop-cons, add-one}
use Rattle.std.specs.Prelude.{slice_get, ◌↔◌}
use Rattle.std.specs.Option.{option_and_then}
use Rattle.std.proofs.Math.ListN.{length-replicate}
use Rattle.std.proofs.lemmas.List.{get_or-set_same, get_or-replicate, drop_all, same_from_push}
use Rattle.std.proofs.lemmas.Option.{slice_get_read, none-some}
use Rattle.std.proofs.lemmas.Bool.{false≢true, cases_lt}
use Rattle.jvm_values.specs.declared.heap.Value.{Value}
use Rattle.jvm_values.specs.declared.heap.Value.TheVariants.{Int, Null, Ref}
use Rattle.jvm_values.specs.declared.heap.Object.{Object}
use Rattle.jvm_values.specs.declared.heap.Heap.{Heap}
use Rattle.jvm_values.specs.Paths.{follow, Reaches}
use Rattle.jvm_values.specs.Heaps.{target, values_of, value_at, heap_steps, Region, IsInHeap, IsClosed, IsTree}
use Rattle.jvm_values.proofs.Options.{some_is}
use Rattle.jvm_values.proofs.PathLaws.{joined}
use Rattle.jvm_heaps.specs.Marks.{IsMarked, marks_after, all_marks}
use Rattle.jvm_heaps.specs.Trees.{new_after, all_new, values_if}
use Rattle.jvm_heaps.proofs.MarkLaws.{AreBelow, set_only, set_keeps, only_one, marked_one, marked_within, length_one}
use Rattle.jvm_heaps.proofs.MarkTurns.{none_marked, below_heap}
use Rattle.jvm_heaps.proofs.TreePaths.{nil_is_not_last, tree_from}

-- passed are all steps of the objects before `k`, and those of `k` before `m`
abbrev pub IsPast : ℕ → ℕ → ℕ → ℕ → Type 0
IsPast k m a i = (a < k) ⊎ ((a ≡ k) × (i < m))

pub record Way (heap : Heap) (region : List Bool) (k m c : ℕ) : Type 0 where
  pub from : ℕ
  pub place : ℕ
  pub past : IsPast k m from place
  pub inside : IsMarked region from
  pub leads : heap_steps heap from place ≡ Some c

pub record AreWays (heap : Heap) (value : Value) (region : List Bool) (k m : ℕ) (named : List Bool) : Type 0 where
  pub found : (c : ℕ) → IsMarked named c → (target value ≡ Some c) ⊎ Way heap region k m c
  pub begun : (c : ℕ) → target value ≡ Some c → IsMarked named c
  pub passed : (a i c : ℕ) → IsPast k m a i → IsMarked region a → heap_steps heap a i ≡ Some c → IsMarked named c
  pub one : (a b i j c : ℕ) → IsPast k m a i → IsPast k m b j → IsMarked region a → IsMarked region b → heap_steps heap a i ≡ Some c
      → heap_steps heap b j ≡ Some c → (a ≡ b) × (i ≡ j)
  pub none_back : (a i c : ℕ) → IsPast k m a i → IsMarked region a → heap_steps heap a i ≡ Some c → target value ≡ Some c → ⊥

-- the answer so far
pub record IsTurn (heap : Heap) (value : Value) (region : List Bool) (k m : ℕ) (named : List Bool) (new : Bool) : Type 0 where
  pub good : new ≡ true → AreWays heap value region k m named
  pub bad : new ≡ false → IsTree heap value → ⊥

past_step : (k m a i : ℕ) → IsPast k (suc m) a i → IsPast k m a i ⊎ ((a ≡ k) × (i ≡ m))
past_step k m a i (inl l) = inl (inl l)
past_step k m a i (inr h) = elim (cases_lt i m) [ inl l ↦ inl (inr (h.0, l)) | inr l ↦ inr (h.0, omega (arith, l, h.1)) ]

past_more : (k m a i : ℕ) → IsPast k m a i → IsPast k (suc m) a i
past_more k m a i (inl l) = inl l
past_more k m a i (inr h) = inr (h.0, omega (arith, h.1))

not_past : (k m : ℕ) → IsPast k m k m → ⊥
not_past k m (inl l) = absurd (omega (arith, l))
not_past k m (inr h) = absurd (omega (arith, h.1))

step_is : (heap : Heap) (a k i m : ℕ) (c : ℕ) → a ≡ k → i ≡ m → heap_steps heap a i ≡ Some c → heap_steps heap k m ≡ Some c
step_is heap a k i m c e f g = subst (λ (x : ℕ). heap_steps heap x m ≡ Some c) e (subst (λ (y : ℕ). heap_steps heap a y ≡ Some c) f g)

-- ---- the passed steps may be said in another way, where no step is lost

moved : (heap : Heap) (value : Value) (region : List Bool) (k m l n : ℕ) (named : List Bool)
    → ((a i c : ℕ) → IsPast k m a i → IsPast l n a i)
    → ((a i c : ℕ) → IsPast l n a i → IsMarked region a → heap_steps heap a i ≡ Some c → IsPast k m a i)
    → AreWays heap value region k m named → AreWays heap value region l n named
moved heap value region k m l n named on back w = record {
  found = λ c h. elim (w.found c h) [
    | inl t ↦ inl t
    | inr y ↦ inr (record { from = y.from; place = y.place; past = on y.from y.place c y.past; inside = y.inside; leads = y.leads })
  ];
  begun = w.begun;
  passed = λ a i c p r e. w.passed a i c (back a i c p r e) r e;
  one = λ a b i j c p q r s e f. w.one a b i j c (back a i c p r e) (back b j c q s f) r s e f;
  none_back = λ a i c p r e. w.none_back a i c (back a i c p r e) r e;
}

-- ---- one step more

module _ (heap : Heap) (value : Value) (region named : List Bool) (k m : ℕ) where
  pub pass_none : ((c : ℕ) → heap_steps heap k m ≡ Some c → ⊥) → AreWays heap value region k m named
      → AreWays heap value region k (suc m) named
  pass_none never w = moved heap value region k m k (suc m) named (λ a i c p. past_more k m a i p)
      (λ a i c p r e. elim (past_step k m a i p) [
        | inl q ↦ q
        | inr s ↦ absurd (never c (step_is heap a k i m c s.0 s.1 e))
      ]) w

  pub pass_one : (r : ℕ) → IsMarked region k → heap_steps heap k m ≡ Some r → (IsMarked named r → ⊥) → r < length named
      → AreWays heap value region k m named → AreWays heap value region k (suc m) (set named r true)
  pass_one r inside leads fresh below w =
      let same : (a i c : ℕ) → (a ≡ k) × (i ≡ m) → heap_steps heap a i ≡ Some c → r ≡ c = λ a i c s e. some_is
      (sym leads ∙ step_is heap a k i m c s.0 s.1 e) in
      record {
        found = λ c h. elim (set_only named r c h) [
          | inl n ↦ elim (w.found c n) [
            | inl t ↦ inl t
            | inr y ↦ inr (record {
              from = y.from;
              place = y.place;
              past = past_more k m y.from y.place y.past;
              inside = y.inside;
              leads = y.leads;
            })
          ]
          | inr s ↦ inr (record { from = k; place = m; past = inr (refl, omega arith); inside = inside; leads = leads ∙ ap Some (sym s) })
        ];
        begun = λ c t. set_keeps named r c (w.begun c t);
        passed = λ a i c p g e. elim (past_step k m a i p) [
          | inl q ↦ set_keeps named r c (w.passed a i c q g e)
          | inr s ↦ subst (λ (x : ℕ). IsMarked (set named r true) x) (same a i c s e) (get_or-set_same named r true false below)
        ];
        one = λ a b i j c p q g h e f. elim (past_step k m a i p) [
          | inl x ↦ elim (past_step k m b j q) [
            | inl y ↦ w.one a b i j c x y g h e f
            | inr y ↦ absurd (fresh (subst (λ (z : ℕ). IsMarked named z) (sym (same b j c y f)) (w.passed a i c x g e)))
          ]
          | inr x ↦ elim (past_step k m b j q) [
            | inl y ↦ absurd (fresh (subst (λ (z : ℕ). IsMarked named z) (sym (same a i c x e)) (w.passed b j c y h f)))
            | inr y ↦ (x.0 ∙ sym y.0, x.1 ∙ sym y.1)
          ]
        ];
        none_back = λ a i c p g e t. elim (past_step k m a i p) [
          | inl q ↦ w.none_back a i c q g e t
          | inr s ↦ fresh (subst (λ (z : ℕ). IsMarked named z) (sym (same a i c s e)) (w.begun c t))
        ];
      }

  -- a step to what is named already: two paths lead there
  pub clash : (r : ℕ) → ((b : ℕ) → IsMarked region b → Region heap value b) → IsMarked region k → heap_steps heap k m ≡ Some r
      → IsMarked named r → AreWays heap value region k m named → IsTree heap value → ⊥
  clash r sound inside leads seen w tree =
      let x = sound k inside in
      let there : follow (heap_steps heap) (x.reaches.path ++ m ∷ []) x.start ≡ Some r = joined (heap_steps heap) x.reaches.path
      (m ∷ []) x.start k r x.reaches.leads (ap (option_and_then (follow (heap_steps heap) [])) leads) in
      elim (w.found r seen) [
        | inl t ↦ nil_is_not_last x.reaches.path m (tree x.start x.names [] (x.reaches.path ++ m ∷ []) r (sym x.names ∙ t) there)
        | inr y ↦
            let z = sound y.from y.inside in
            let starts : z.start ≡ x.start = some_is (sym z.names ∙ x.names) in
            let way : follow (heap_steps heap) z.reaches.path x.start ≡ Some y.from = subst
            (λ (s : ℕ). follow (heap_steps heap) z.reaches.path s ≡ Some y.from) starts z.reaches.leads in
            let too : follow (heap_steps heap) (z.reaches.path ++ y.place ∷ []) x.start ≡ Some r = joined (heap_steps heap)
            z.reaches.path (y.place ∷ []) x.start y.from r way (ap (option_and_then (follow (heap_steps heap) [])) y.leads) in
            let same = same_from_push z.reaches.path x.reaches.path y.place m
            (tree x.start x.names (z.reaches.path ++ y.place ∷ []) (x.reaches.path ++ m ∷ []) r too there) in
            let from : y.from ≡ k = some_is (sym way ∙ ap (λ (p : List ℕ). follow (heap_steps heap) p x.start) same.0 ∙ x.reaches.leads) in
            not_past k m (subst (λ (i : ℕ). IsPast k m k i) same.1 (subst (λ (a : ℕ). IsPast k m a y.place) from y.past))
      ]

-- ---- one value more

one_if : (heap : Heap) (value : Value) (region named : List Bool) (k m r : ℕ) (was new : Bool) → get_or named r false ≡ was
    → ((b : ℕ) → IsMarked region b → Region heap value b) → IsMarked region k → heap_steps heap k m ≡ Some r → r < length named
    → IsTurn heap value region k m named new → IsTurn heap value region k (suc m) (cond was named (set named r true)) (cond was false new)
one_if heap value region named k m r true true e sound inside leads below h = record {
  good = λ f. absurd (false≢true f);
  bad = λ f. clash heap value region named k m r sound inside leads e (h.good refl);
}
one_if heap value region named k m r true false e sound inside leads below h = record
    { good = λ f. absurd (false≢true f); bad = λ f. h.bad refl }
one_if heap value region named k m r false new e sound inside leads below h = record {
  good = λ f. pass_one heap value region named k m r inside leads (λ g. false≢true (sym e ∙ g)) below (h.good f);
  bad = h.bad;
}

turn_none : (heap : Heap) (value : Value) (region named : List Bool) (k m : ℕ) (new : Bool)
    → ((c : ℕ) → heap_steps heap k m ≡ Some c → ⊥) → IsTurn heap value region k m named new → IsTurn heap value region k (suc m) named new
turn_none heap value region named k m new never h = record
    { good = λ f. pass_none heap value region named k m never (h.good f); bad = h.bad }

turn_value : (heap : Heap) (value v : Value) (region named : List Bool) (k m : ℕ) (new : Bool)
    → ((b : ℕ) → IsMarked region b → Region heap value b) → IsMarked region k → heap_steps heap k m ≡ target v
    → IsInHeap (length named) v → IsTurn heap value region k m named new
    → IsTurn heap value region k (suc m) (marks_after v named) (new_after v named new)
turn_value heap value (Int n) region named k m new sound inside is below h = turn_none heap value region named k m new
    (λ c e. none-some c (sym is ∙ e)) h
turn_value heap value Null region named k m new sound inside is below h = turn_none heap value region named k m new
    (λ c e. none-some c (sym is ∙ e)) h
turn_value heap value (Ref r) region named k m new sound inside is below h = one_if heap value region named k m r
    (get_or named r false) new refl sound inside is (below r refl) h

-- ---- all values of an object

over_on : (k m a i : ℕ) → IsPast k m a i → IsPast (suc k) 0 a i
over_on k m a i (inl l) = inl (omega (arith, l))
over_on k m a i (inr h) = inl (omega (arith, h.0))

over_back : (heap : Heap) (region : List Bool) (k m : ℕ)
    → ((i c : ℕ) → m ≤ i → IsMarked region k → heap_steps heap k i ≡ Some c → ⊥) → (a i c : ℕ) → IsPast (suc k) 0 a i
    → IsMarked region a → heap_steps heap a i ≡ Some c → IsPast k m a i
over_back heap region k m never a i c (inr h) r e = absurd (omega (arith, h.1))
over_back heap region k m never a i c (inl l) r e = elim (cases_lt a k) [
  | inl before ↦ inl before
  | inr after ↦
      let here : a ≡ k = omega (arith, l, after) in
      elim (cases_lt i m) [
        | inl past ↦ inr (here, past)
        | inr over ↦ absurd (never i c over (subst (λ (x : ℕ). IsMarked region x) here r)
            (subst (λ (x : ℕ). heap_steps heap x i ≡ Some c) here e))
      ]
]

no_value : (heap : Heap) (k m j i c : ℕ) → i ≡ m + j → value_at heap k (m + j) ≡ None → heap_steps heap k i ≡ Some c → ⊥
no_value heap k m j i c s is e = none-some c (sym (ap (option_and_then target) is) ∙ subst (λ (x : ℕ). heap_steps heap k x ≡ Some c) s e)

beyond : (m i : ℕ) → m ≤ i → (j : ℕ) × (i ≡ m + j)
beyond zero i l = (i, omega arith)
beyond (suc m) zero l = absurd (omega (arith, l))
beyond (suc m) (suc i) l = let p = beyond m i (omega (arith, l)) in (p.0, omega (arith, p.1))

turn_over : (heap : Heap) (value : Value) (region named : List Bool) (k m : ℕ) (new : Bool)
    → ((i c : ℕ) → m ≤ i → IsMarked region k → heap_steps heap k i ≡ Some c → ⊥) → IsTurn heap value region k m named new
    → IsTurn heap value region (suc k) 0 named new
turn_over heap value region named k m new never h = record {
  good = λ f. moved heap value region k m (suc k) 0 named (λ a i c p. over_on k m a i p)
      (λ a i c p r e. over_back heap region k m never a i c p r e) (h.good f);
  bad = h.bad;
}

turn_values : (heap : Heap) (value : Value) (region : List Bool) (k : ℕ) (vs : List Value) (named : List Bool) (m : ℕ) (new : Bool)
    → ((b : ℕ) → IsMarked region b → Region heap value b) → IsMarked region k → ((j : ℕ) → value_at heap k (m + j) ≡ slice_get vs j)
    → AreBelow (length named) vs → IsTurn heap value region k m named new
    → IsTurn heap value region (suc k) 0 (all_marks vs named) (all_new vs named new)
unfolding all_marks all_new
turn_values heap value region k [] named m new sound inside is below h = turn_over heap value region named k m new
    (λ i c l r e. let p = beyond m i l in no_value heap k m p.0 i c p.1 (is p.0) e) h
turn_values heap value region k (v ∷ vs) named m new sound inside is below h = turn_values heap value region k vs
    (marks_after v named) (suc m) (new_after v named new) sound inside
    (λ j. subst (λ (i : ℕ). value_at heap k i ≡ slice_get vs j) (omega arith) (is (suc j)))
    (λ j w e. subst (λ (n : ℕ). IsInHeap n w) (sym (length_one v named)) (below (suc j) w e))
    (turn_value heap value v region named k m new sound inside
    (ap (option_and_then target) (subst (λ (i : ℕ). value_at heap k i ≡ Some v) (omega arith) (is 0))) (below 0 v refl) h)

-- ---- the region's objects, one after another

module _ (heap : Heap) (value : Value) (region named : List Bool) (k : ℕ) (new : Bool) (object : Object) (closed : IsClosed heap)
    (sound : (b : ℕ) → IsMarked region b → Region heap value b) (size : length named ≡ length heap.objects)
    (stands : slice_get heap.objects k ≡ Some object) (h : IsTurn heap value region k 0 named new) where
  held_at : (j : ℕ) → value_at heap k j ≡ slice_get (values_of object) j
  held_at j = ap (option_and_then (λ (ob : Object). slice_get (values_of ob) j)) stands

  pub turn_object : (inside : Bool) → get_or region k false ≡ inside
      → IsTurn heap value region (suc k) 0 (all_marks (values_if inside object) named) (all_new (values_if inside object) named new)
  unfolding all_marks all_new
  turn_object true e = turn_values heap value region k (values_of object) named 0 new sound e
      (λ j. subst (λ (i : ℕ). value_at heap k i ≡ slice_get (values_of object) j) (omega arith) (held_at j))
      (λ j v f. subst (λ (n : ℕ). IsInHeap n v) (sym size) (below_heap heap closed k object stands j v f)) h
  turn_object false e = turn_over heap value region named k 0 new (λ i c l r f. false≢true (sym e ∙ r)) h

-- ---- the beginning and the end

none_past : (a i : ℕ) → IsPast 0 0 a i → ⊥
none_past a i (inl l) = absurd (omega (arith, l))
none_past a i (inr h) = absurd (omega (arith, h.1))

past_inside : (region : List Bool) (k a i : ℕ) → length region ≤ k → IsMarked region a → IsPast k 0 a i
past_inside region k a i l m = inl (omega (arith, l, marked_within region a m))

pub first_turn : (heap : Heap) (value : Value) (region fresh : List Bool) → fresh ≡ replicate (length heap.objects) false
    → IsInHeap (length heap.objects) value → IsTurn heap value region 0 0 (marks_after value fresh) true
first_turn heap value region fresh e l = record {
  good = λ f. record {
    found = λ c h. elim (only_one value fresh c h) [
      | inl n ↦ absurd (none_marked (length heap.objects) c (subst (λ (ms : List Bool). IsMarked ms c) e n))
      | inr t ↦ inl t
    ];
    begun = λ c t. marked_one value fresh c t (omega (arith, l c t, ap length e, length-replicate (length heap.objects) false));
    passed = λ a i c p. absurd (none_past a i p);
    one = λ a b i j c p. absurd (none_past a i p);
    none_back = λ a i c p. absurd (none_past a i p);
  };
  bad = λ f. absurd (false≢true (sym f));
}

pub fresh_length : (n : ℕ) (fresh : List Bool) → fresh ≡ replicate n false → length fresh ≡ n
fresh_length n fresh e = ap length e ∙ length-replicate n false

pub begun_length : (value : Value) (n : ℕ) (fresh named : List Bool) → fresh ≡ replicate n false → named ≡ marks_after value fresh
    → length named ≡ n
begun_length value n fresh named e f = ap length f ∙ length_one value fresh ∙ fresh_length n fresh e

first_new : (value : Value) (n : ℕ) → IsInHeap n value → new_after value (replicate n false) true ≡ true
first_new (Int k) n l = refl
first_new Null n l = refl
first_new (Ref r) n l = ap (λ (was : Bool). cond was false true) (get_or-replicate n r false false (l r refl))

pub begun_turn : (heap : Heap) (value : Value) (region fresh named : List Bool) (new : Bool) → IsInHeap (length heap.objects) value
    → fresh ≡ replicate (length heap.objects) false → named ≡ marks_after value fresh → new ≡ new_after value fresh true
    → IsTurn heap value region 0 0 named new
begun_turn heap value region fresh named new l e f g =
    let new_is : new ≡ true = g ∙ ap (λ (ms : List Bool). new_after value ms true) e ∙ first_new value (length heap.objects) l in
    subst (λ (b : Bool). IsTurn heap value region 0 0 named b) (sym new_is)
    (subst (λ (ms : List Bool). IsTurn heap value region 0 0 ms true) (sym f) (first_turn heap value region fresh e l))

pub turned_once : (heap : Heap) (value : Value) (region named : List Bool) (k : ℕ) (new : Bool) (object : Object) → IsClosed heap
    → ((b : ℕ) → IsMarked region b → Region heap value b) → length named ≡ length heap.objects
    → object ≡ get_or heap.objects k object → k < length heap.objects → IsTurn heap value region k 0 named new
    → (after : List Bool) (still : Bool) → after ≡ all_marks (values_if (get_or region k false) object) named
    → still ≡ all_new (values_if (get_or region k false) object) named new → IsTurn heap value region (k + 1) 0 after still
turned_once heap value region named k new object closed sound size is l h after still e f =
    let stands : slice_get heap.objects k ≡ Some object = slice_get_read heap.objects (length heap.objects) k object refl l is in
    let next : IsTurn heap value region (suc k) 0 (all_marks (values_if (get_or region k false) object) named)
    (all_new (values_if (get_or region k false) object) named new) = turn_object heap value region named k new object closed
    sound size stands h (get_or region k false) refl in
    subst (λ (n : ℕ). IsTurn heap value region n 0 after still) (omega arith)
    (subst (λ (b : Bool). IsTurn heap value region (suc k) 0 after b) (sym f)
    (subst (λ (ms : List Bool). IsTurn heap value region (suc k) 0 ms
    (all_new (values_if (get_or region k false) object) named new)) (sym e) next))

-- ---- an object that is passed over, and one value after another

pub none_marks : (inside : Bool) (object : Object) (marks : List Bool) → inside ≡ false → marks ≡ all_marks (values_if inside object) marks
unfolding all_marks
none_marks true object marks e = absurd (false≢true (sym e))
none_marks false object marks e = refl

pub none_new : (inside : Bool) (object : Object) (marks : List Bool) (new : Bool) → inside ≡ false
    → new ≡ all_new (values_if inside object) marks new
unfolding all_new
none_new true object marks new e = absurd (false≢true (sym e))
none_new false object marks new e = refl

pub next_new : (vs : List Value) (i : ℕ) (v : Value) (marks : List Bool) (new : Bool) → i < length vs
    → all_new (drop i vs) marks new ≡ all_new (drop (i + 1) vs) (marks_after (get_or vs i v) marks) (new_after (get_or vs i v) marks new)
unfolding all_new
next_new vs i v marks new l = rw (drop-cons vs i v, add-one) refl

pub last_new : (vs : List Value) (i : ℕ) (marks : List Bool) (new : Bool) → length vs ≤ i → all_new (drop i vs) marks new ≡ new
unfolding all_new
last_new vs i marks new l = rw (drop_all i vs l) refl

further_from : (heap : Heap) (value : Value) (a c : ℕ) → target value ≡ Some a → Reaches (heap_steps heap) a c → Region heap value c
further_from heap value a c t r = record { start = a; names = t; reaches = r }

tree_of : (heap : Heap) (value : Value) (region named : List Bool) (k : ℕ) → length region ≤ k
    → ((b : ℕ) → Region heap value b → IsMarked region b) → AreWays heap value region k 0 named → IsTree heap value
tree_of heap value region named k l all w = λ a t. tree_from (heap_steps heap) a
    (λ c d i j b r s e f. w.one c d i j b (past_inside region k c i l (all c (further_from heap value a c t r)))
    (past_inside region k d j l (all d (further_from heap value a d t s))) (all c (further_from heap value a c t r))
    (all d (further_from heap value a d t s)) e f)
    (λ c i r e. w.none_back c i a (past_inside region k c i l (all c (further_from heap value a c t r)))
    (all c (further_from heap value a c t r)) e t)

answer_if : (heap : Heap) (value : Value) (region named : List Bool) (k : ℕ) (new : Bool) → length region ≤ k
    → ((b : ℕ) → Region heap value b → IsMarked region b) → IsTurn heap value region k 0 named new → IsTree heap value → new ≡ true
answer_if heap value region named k true l all h tree = refl
answer_if heap value region named k false l all h tree = absurd (h.bad refl tree)

pub last_turn : (heap : Heap) (value : Value) (region named : List Bool) (k : ℕ) (new : Bool) → length region ≤ k
    → ((b : ℕ) → IsMarked region b ↔ Region heap value b) → IsTurn heap value region k 0 named new → (new ≡ true) ↔ IsTree heap value
last_turn heap value region named k new l exact h = (
  λ e. tree_of heap value region named k l (λ b. (exact b).1) (h.good e),
  answer_if heap value region named k new l
      (λ b. (exact b).1) h,
)
