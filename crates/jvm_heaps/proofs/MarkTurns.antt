-- Marking from a value: what holds before each turn, and that it comes to the end with exactly the region marked.
use Rattle.std.proofs.Common.{◌≡◌, ℕ, ◌+◌, ◌<◌, Bool, false, List, [], ◌∷◌, ◌++◌, length, get_or, replicate, Option, Some, ◌⊎◌, inl}
use Rattle.std.proofs.Common.{inr, refl, sym, ap, subst, ◌∙◌, arith, length-append, drop, drop-cons, add-one, ◌≤◌}
use Rattle.std.specs.Prelude.{All, slice_get, ◌↔◌}
use Rattle.std.specs.Option.{option_and_then}
use Rattle.std.proofs.Math.ListN.{length-replicate}
use Rattle.std.proofs.lemmas.List.{get_or-replicate, drop_all, nil_from_length}
use Rattle.std.proofs.lemmas.Bool.{false≢true}
use Rattle.std.proofs.lemmas.Option.{slice_get_read}
use Rattle.list_views.proofs.Quantified.{all_at}
use Rattle.list_views.proofs.Options.{then_some}
use Rattle.jvm_values.specs.declared.heap.Value.{Value}
use Rattle.jvm_values.specs.declared.heap.Object.{Object}
use Rattle.jvm_values.specs.declared.heap.Heap.{Heap}
use Rattle.jvm_values.specs.Paths.{follow}
use Rattle.jvm_values.specs.Heaps.{target, values_of, value_at, heap_steps, Region, IsInHeap, IsClosed}
use Rattle.jvm_values.proofs.Options.{some_is}
use Rattle.jvm_values.proofs.PathLaws.{here, joined}
use Rattle.jvm_heaps.specs.Marks.{IsMarked, marks_after, todo_after, all_marks, all_todo}
use Rattle.jvm_heaps.proofs.InLists.{IsIn, In-left, In-last, In-push}
use Rattle.list_views.specs.Lists.{open_count}
use Rattle.jvm_heaps.proofs.MarkLaws.{AreBelow, marked_within, only_one, new_one, only_todo_one, marked_one, length_one, length_all}
use Rattle.jvm_heaps.proofs.MarkLaws.{keep_all, marked_all, only_all, keep_todo_all, new_all, only_todo_all, work_all}

pub record IsMarking (heap : Heap) (value : Value) (marks : List Bool) (todo : List ℕ) : Type 0 where
  pub size : length marks ≡ length heap.objects
  -- what is marked is reached
  pub sound : (b : ℕ) → IsMarked marks b → Region heap value b
  -- what is noted is marked
  pub noted : (a : ℕ) → IsIn a todo → IsMarked marks a
  -- a step from what is marked leads to what is marked, or is still to be gone
  pub followed : (a i c : ℕ) → IsMarked marks a → heap_steps heap a i ≡ Some c → IsMarked marks c ⊎ IsIn a todo
  pub begun : (a : ℕ) → target value ≡ Some a → IsMarked marks a

pub none_marked : (n x : ℕ) → IsMarked (replicate n false) x → ⊥
none_marked n x e = false≢true
    (sym (get_or-replicate n x false false
    (subst (λ (k : ℕ). x < k) (length-replicate n false) (marked_within (replicate n false) x e))) ∙ e)

pub begin : (heap : Heap) (value : Value) → IsInHeap (length heap.objects) value
    → IsMarking heap value (marks_after value (replicate (length heap.objects) false))
    (todo_after value (replicate (length heap.objects) false) [])
begin heap value l =
    let n = length heap.objects in
    let marks = replicate n false in
    let len : length (replicate n false) ≡ n = length-replicate n false in
    record {
      size = length_one value (replicate n false) ∙ len;
      sound = λ b m. elim (only_one value (replicate n false) b m) [
        | inl k ↦ absurd (none_marked n b k)
        | inr t ↦ record { start = b; names = t; reaches = here (heap_steps heap) b b refl }
      ];
      noted = λ a h. elim (only_todo_one value (replicate n false) [] a (subst (λ (k : ℕ). IsInHeap k value) (sym len) l) h) [
        | inl k ↦ absurd k
        | inr m ↦ m
      ];
      followed = λ a i c m e. elim (new_one value (replicate n false) [] a m) [
        | inl k ↦ absurd (none_marked n a k)
        | inr t ↦ inr t
      ];
      begun = λ a t. marked_one value (replicate n false) a t (subst (λ (k : ℕ). a < k) (sym len) (l a t));
    }

pub below_heap : (heap : Heap) → IsClosed heap → (a : ℕ) (object : Object) → slice_get heap.objects a ≡ Some object
    → AreBelow (length heap.objects) (values_of object)
below_heap heap closed a object e = λ k v f. all_at (IsInHeap (length heap.objects)) (values_of object) k v
    (all_at (λ (ob : Object). All (IsInHeap (length heap.objects)) (values_of ob)) heap.objects a object closed e) f

pub step_at : (heap : Heap) (a k c : ℕ) (object : Object) (v : Value) → slice_get heap.objects a ≡ Some object
    → slice_get (values_of object) k ≡ Some v → target v ≡ Some c → heap_steps heap a k ≡ Some c
step_at heap a k c object v e f g = ap
    (λ (x : Option Object). option_and_then target (option_and_then (λ (ob : Object). slice_get (values_of ob) k) x)) e
    ∙ ap (option_and_then target) f ∙ g

further : (heap : Heap) (value : Value) (a k c : ℕ) → Region heap value a → heap_steps heap a k ≡ Some c → Region heap value c
further heap value a k c r e = record {
  start = r.start;
  names = r.names;
  reaches = record {
    path = r.reaches.path ++ k ∷ [];
    leads = joined (heap_steps heap) r.reaches.path (k ∷ []) r.start a c
        r.reaches.leads (ap (option_and_then (follow (heap_steps heap) [])) e);
  };
}

pub turn : (heap : Heap) (value : Value) (marks : List Bool) (todo rest : List ℕ) (a : ℕ) (object : Object) → IsClosed heap
    → todo ≡ rest ++ a ∷ [] → slice_get heap.objects a ≡ Some object → IsMarking heap value marks todo
    → IsMarking heap value (all_marks (values_of object) marks) (all_todo (values_of object) marks rest)
turn heap value marks todo rest a object closed e s h =
    let vs = values_of object in
    let below : AreBelow (length marks) (values_of object) = λ k v f. subst (λ (n : ℕ). IsInHeap n v) (sym h.size)
    (below_heap heap closed a object s k v f) in
    let mine : IsMarked marks a = h.noted a (subst (λ (xs : List ℕ). IsIn a xs) (sym e) (In-last a rest)) in
    record {
      size = length_all (values_of object) marks ∙ h.size;
      sound = λ b m. elim (only_all (values_of object) marks b m) [
        | inl k ↦ h.sound b k
        | inr n ↦ further heap value a n.place b (h.sound a mine) (step_at heap a n.place b object n.value s n.stands n.names)
      ];
      noted = λ b i. elim (only_todo_all (values_of object) marks rest b below i) [
        | inl k ↦ keep_all (values_of object) marks b (h.noted b (subst (λ (xs : List ℕ). IsIn b xs) (sym e) (In-left b rest (a ∷ []) k)))
        | inr m ↦ m
      ];
      followed = λ b i c m f. elim (new_all (values_of object) marks rest b m) [
        | inl k ↦ elim (h.followed b i c k f) [
          | inl n ↦ inl (keep_all (values_of object) marks c n)
          | inr t ↦ elim (In-push b a rest (subst (λ (xs : List ℕ). IsIn b xs) e t)) [
            | inl u ↦ inr (keep_todo_all (values_of object) marks rest b u)
            | inr u ↦
                let p = then_some target (value_at heap b i) c f in
                let q = then_some (λ (ob : Object). slice_get (values_of ob) i) (slice_get heap.objects b) p.0 p.1.0 in
                let same : q.0 ≡ object = some_is (sym q.1.0 ∙ ap (slice_get heap.objects) u ∙ s) in
                let here_too : slice_get (values_of object) i ≡ Some p.0 = ap (λ (ob : Object). slice_get (values_of ob) i)
                (sym same) ∙ q.1.1 in
                inl (marked_all (values_of object) marks i p.0 c here_too p.1.1 (below i p.0 here_too c p.1.1))
          ]
        ]
        | inr t ↦ inr t
      ];
      begun = λ b t. keep_all (values_of object) marks b (h.begun b t);
    }

pub less_work : (heap : Heap) (value : Value) (marks : List Bool) (todo rest : List ℕ) (a : ℕ) (object : Object) → IsClosed heap
    → todo ≡ rest ++ a ∷ [] → slice_get heap.objects a ≡ Some object → IsMarking heap value marks todo
    → open_count (all_marks (values_of object) marks) + length (all_todo (values_of object) marks rest) < open_count marks + length todo
less_work heap value marks todo rest a object closed e s h =
    let below : AreBelow (length marks) (values_of object) = λ k v f. subst (λ (n : ℕ). IsInHeap n v) (sym h.size)
    (below_heap heap closed a object s k v f) in
    omega (arith, work_all (values_of object) marks rest below, ap length e, length-append rest (a ∷ []))

reached_marked : (heap : Heap) (value : Value) (marks : List Bool) → IsMarking heap value marks [] → (path : List ℕ) (a b : ℕ)
    → IsMarked marks a → follow (heap_steps heap) path a ≡ Some b → IsMarked marks b
reached_marked heap value marks h [] a b m e = subst (λ (x : ℕ). IsMarked marks x) (some_is e) m
reached_marked heap value marks h (i ∷ path) a b m e =
    let p = then_some (follow (heap_steps heap) path) (heap_steps heap a i) b e in
    reached_marked heap value marks h path p.0 b (elim (h.followed a i p.0 m p.1.0) [ inl k ↦ k | inr t ↦ absurd t ]) p.1.1

pub finish : (heap : Heap) (value : Value) (marks : List Bool) → IsMarking heap value marks [] → (b : ℕ)
    → IsMarked marks b ↔ Region heap value b
finish heap value marks h b = (
  h.sound b,
  λ r. reached_marked heap value marks h r.reaches.path r.start b (h.begun r.start r.names)
      r.reaches.leads,
)

-- the object that is noted last
pub last_object : (heap : Heap) (value : Value) (marks : List Bool) (todo rest : List ℕ) (a : ℕ) → todo ≡ rest ++ a ∷ []
    → IsMarking heap value marks todo → a < length heap.objects
last_object heap value marks todo rest a e h = subst (λ (n : ℕ). a < n) h.size
    (marked_within marks a (h.noted a (subst (λ (xs : List ℕ). IsIn a xs) (sym e) (In-last a rest))))

-- ---- the same, with what the code knows

pub begun_with : (heap : Heap) (value : Value) (n : ℕ) (first marks : List Bool) (none todo : List ℕ)
    → IsInHeap (length heap.objects) value → n ≡ length heap.objects → first ≡ replicate n false → none ≡ []
    → marks ≡ marks_after value first → todo ≡ todo_after value first none → IsMarking heap value marks todo
begun_with heap value n first marks none todo l e f g p q =
    let fresh : first ≡ replicate (length heap.objects) false = f ∙ ap (λ (k : ℕ). replicate k false) e in
    let marks_are : marks ≡ marks_after value (replicate (length heap.objects) false) = p ∙ ap (marks_after value) fresh in
    let todo_is : todo ≡ todo_after value (replicate (length heap.objects) false) [] = q
    ∙ ap (λ (ms : List Bool). todo_after value ms none) fresh ∙ ap (todo_after value (replicate (length heap.objects) false)) g in
    subst (λ (ms : List Bool). IsMarking heap value ms todo) (sym marks_are)
    (subst (λ (ts : List ℕ). IsMarking heap value (marks_after value (replicate (length heap.objects) false)) ts) (sym todo_is)
    (begin heap value l))

-- one turn of the code: the last of the noted objects is taken, and what its values name is marked
pub record IsTurn (heap : Heap) (marks : List Bool) (todo rest : List ℕ) (a : ℕ) (object : Object) (values : List Value)
    (after : List Bool) (still : List ℕ) : Type 0 where
  pub popped : todo ≡ rest ++ a ∷ []
  pub object_is : object ≡ get_or heap.objects a object
  pub values_are : values ≡ values_of object
  pub marks_are : after ≡ all_marks values marks
  pub todo_is : still ≡ all_todo values marks rest

module _ (heap : Heap) (value : Value) (marks : List Bool) (todo rest : List ℕ) (a : ℕ) (object : Object) (values : List Value)
    (after : List Bool) (still : List ℕ) (closed : IsClosed heap) (h : IsMarking heap value marks todo)
    (t : IsTurn heap marks todo rest a object values after still) where
  stands : slice_get heap.objects a ≡ Some object
  stands = slice_get_read heap.objects (length heap.objects) a object refl (last_object heap value marks todo rest a t.popped h)
      t.object_is

  marks_after_turn : after ≡ all_marks (values_of object) marks
  marks_after_turn = t.marks_are ∙ ap (λ (vs : List Value). all_marks vs marks) t.values_are

  todo_after_turn : still ≡ all_todo (values_of object) marks rest
  todo_after_turn = t.todo_is ∙ ap (λ (vs : List Value). all_todo vs marks rest) t.values_are

  pub turned : IsMarking heap value after still
  turned = subst (λ (ms : List Bool). IsMarking heap value ms still) (sym marks_after_turn)
      (subst (λ (ts : List ℕ). IsMarking heap value (all_marks (values_of object) marks) ts) (sym todo_after_turn)
      (turn heap value marks todo rest a object closed t.popped stands h))

  pub lessened : open_count after + length still < open_count marks + length todo
  lessened = subst (λ (ms : List Bool). open_count ms + length still < open_count marks + length todo) (sym marks_after_turn)
      (subst (λ (ts : List ℕ). open_count (all_marks (values_of object) marks) + length ts < open_count marks + length todo)
      (sym todo_after_turn) (less_work heap value marks todo rest a object closed t.popped stands h))

pub held : (heap : Heap) (a n : ℕ) (object : Object) (values : List Value) → IsClosed heap → a < length heap.objects
    → object ≡ get_or heap.objects a object → values ≡ values_of object → n ≡ length heap.objects → All (IsInHeap n) values
held heap a n object values closed l e f g =
    subst (λ (vs : List Value). All (IsInHeap n) vs) (sym f)
    (subst (λ (k : ℕ). All (IsInHeap k) (values_of object)) (sym g)
    (subst (λ (ob : Object). All (IsInHeap (length heap.objects)) (values_of ob)) (sym e) (closed a object l)))

pub finished : (heap : Heap) (value : Value) (marks : List Bool) (todo : List ℕ) → length todo ≡ 0 → IsMarking heap value marks todo
    → (b : ℕ) → IsMarked marks b ↔ Region heap value b
finished heap value marks todo e h = finish heap value marks
    (subst (λ (ts : List ℕ). IsMarking heap value marks ts) (nil_from_length todo e) h)

-- ---- one value after another

pub next_marks : (vs : List Value) (i : ℕ) (v : Value) (marks : List Bool) → i < length vs
    → all_marks (drop i vs) marks ≡ all_marks (drop (i + 1) vs) (marks_after (get_or vs i v) marks)
unfolding all_marks
next_marks vs i v marks l = rw (drop-cons vs i v, add-one) refl

pub next_todo : (vs : List Value) (i : ℕ) (v : Value) (marks : List Bool) (todo : List ℕ) → i < length vs
    → all_todo (drop i vs) marks todo ≡ all_todo (drop (i + 1) vs) (marks_after (get_or vs i v) marks)
    (todo_after (get_or vs i v) marks todo)
unfolding all_todo
next_todo vs i v marks todo l = rw (drop-cons vs i v, add-one) refl

pub last_marks : (vs : List Value) (i : ℕ) (marks : List Bool) → length vs ≤ i → all_marks (drop i vs) marks ≡ marks
unfolding all_marks
last_marks vs i marks l = rw (drop_all i vs l) refl

pub last_todo : (vs : List Value) (i : ℕ) (marks : List Bool) (todo : List ℕ) → length vs ≤ i → all_todo (drop i vs) marks todo ≡ todo
unfolding all_todo
last_todo vs i marks todo l = rw (drop_all i vs l) refl
