-- The search for cycles: what holds before each turn, and that it ends with no cycle found exactly where there is none.
use Rattle.std.proofs.Common.{◌≡◌, ℕ, zero, suc, ◌+◌, ◌*◌, ◌<◌, ◌≤◌, Bool, true, false, cond, List, [], ◌∷◌, ◌++◌, length, get_or}
use Rattle.std.proofs.Common.{set, replicate, Option, Some, None, ◌⊎◌, inl, inr, refl, sym, ap, subst, ◌∙◌, arith, drop, drop-cons}
use Rattle.std.proofs.Common.{add-one}
use Rattle.std.specs.Prelude.{slice_get, sum_by}
use Rattle.std.specs.Option.{option_map_or}
use Rattle.std.proofs.Math.ListN.{length-set, length-replicate}
use Rattle.std.proofs.Math.Nat.{mul-le-mul_right, suc-mul}
use Rattle.std.proofs.lemmas.List.{get_or-set_same, drop_all}
use Rattle.std.proofs.lemmas.List.Sums.{get_or-le-sum_by}
use Rattle.std.proofs.lemmas.Option.{slice_get_within, slice_get_cases, get_or_from_slice_get, none-some}
use Rattle.std.proofs.lemmas.Bool.{false≢true}
use Rattle.list_views.proofs.Options.{then_some}
use Rattle.jvm_values.specs.declared.heap.Value.{Value}
use Rattle.jvm_values.specs.declared.heap.Value.TheVariants.{Int, Null, Ref}
use Rattle.jvm_values.specs.declared.heap.Object.{Object}
use Rattle.jvm_values.specs.declared.heap.Heap.{Heap}
use Rattle.jvm_values.specs.Paths.{Steps, Reaches, IsDagFrom}
use Rattle.jvm_values.specs.Heaps.{target, values_of, value_at, heap_steps, IsClosed}
use Rattle.jvm_values.proofs.Options.{some_is}
use Rattle.jvm_values.proofs.PathLaws.{here, joined, onward, one_more}
use Rattle.jvm_heaps.specs.declared.dags.Turn.{Turn}
use Rattle.jvm_heaps.specs.declared.dags.Turn.TheVariants.{Enter, Leave}
use Rattle.jvm_heaps.specs.Marks.{IsMarked}
use Rattle.jvm_heaps.specs.Searches.{place_of, enter_after, all_enter, values_in, Search, entering, turned, goes_on}
use Rattle.jvm_heaps.proofs.InLists.{IsIn}
use Rattle.list_views.specs.Lists.{open_count}
use Rattle.jvm_heaps.proofs.MarkLaws.{set_only, set_keeps}
use Rattle.jvm_heaps.proofs.MarkTurns.{below_heap, step_at, none_marked}
use Rattle.jvm_heaps.proofs.TermLaws.{ComesTo, one_step, step_more, no_return, fewer_open}
use Rattle.jvm_heaps.proofs.DagPaths.{dag_at}

-- ---- what hangs together

-- a place is to be left
abbrev pub IsToLeave : ℕ → List Turn → Type 0
IsToLeave a [] = ⊥
IsToLeave a (Enter b ∷ todo) = IsToLeave a todo
IsToLeave a (Leave b ∷ todo) = (a ≡ b) ⊎ IsToLeave a todo

-- the next place to be left has a step to a place; where none is, the place is the start
abbrev pub Hangs : Steps → ℕ → ℕ → List Turn → Type 0
Hangs steps start c [] = c ≡ start
Hangs steps start c (Enter b ∷ below) = Hangs steps start c below
Hangs steps start c (Leave b ∷ below) = (i : ℕ) × (steps b i ≡ Some c)

abbrev pub AllHang : Steps → ℕ → List Turn → Type 0
AllHang steps start [] = Unit {0}
AllHang steps start (turn ∷ below) = Hangs steps start (place_of turn) below × AllHang steps start below

-- each step of a place that is to be left leads to one that was left, or to one that comes before it
abbrev pub AllCovered : Steps → List Bool → List ℕ → List Turn → Type 0
AllCovered steps left above [] = Unit {0}
AllCovered steps left above (Enter b ∷ below) = AllCovered steps left (b ∷ above) below
AllCovered steps left above (Leave b ∷ below) = ((i c : ℕ) → steps b i ≡ Some c → IsMarked left c ⊎ IsIn c above)
    × AllCovered steps left (b ∷ above) below

pub record IsSearch (heap : Heap) (start : ℕ) (s : Search) : Type 0 where
  pub entered_size : length s.entered ≡ length heap.objects
  pub left_size : length s.left ≡ length heap.objects
  -- no cycle lies behind what was left
  pub acyclic : (b : ℕ) → IsMarked s.left b → IsDagFrom (heap_steps heap) b
  -- what was entered was left or is to be left
  pub opened : (a : ℕ) → IsMarked s.entered a → IsMarked s.left a ⊎ IsToLeave a s.todo
  pub hang : AllHang (heap_steps heap) start s.todo
  pub covered : AllCovered (heap_steps heap) s.left [] s.todo
  pub begun : (s.todo ≡ Enter start ∷ []) ⊎ IsMarked s.entered start

-- ---- paths by what hangs

reached : (steps : Steps) (start c : ℕ) (below : List Turn) → AllHang steps start below → Hangs steps start c below → Reaches steps start c
reached steps start c [] h e = here steps start c (sym e)
reached steps start c (Enter b ∷ below) h e = reached steps start c below h.1 e
reached steps start c (Leave b ∷ below) h e = onward steps start b c (reached steps start b below h.1 h.0)
    (one_more steps b e.0 c c e.1 (here steps c c refl))

comes_back : (steps : Steps) (start a c : ℕ) (below : List Turn) → AllHang steps start below → IsToLeave a below
    → Hangs steps start c below → ComesTo steps a c
comes_back steps start a c [] h l e = absurd l
comes_back steps start a c (Enter b ∷ below) h l e = comes_back steps start a c below h.1 l e
comes_back steps start a c (Leave b ∷ below) h (inl s) e = subst (λ (x : ℕ). ComesTo steps x c) (sym s) (one_step steps b e.0 c e.1)
comes_back steps start a c (Leave b ∷ below) h (inr l) e = step_more steps a b e.0 c (comes_back steps start a b below h.1 l h.0) e.1

dag_behind : (steps : Steps) (a b : ℕ) → IsDagFrom steps a → Reaches steps a b → IsDagFrom steps b
dag_behind steps a b dag r = λ p c e. dag (r.path ++ p) c (joined steps r.path p a b c r.leads e)

-- what is entered again before it is left lies on a cycle
pub cyclic : (steps : Steps) (start a : ℕ) (below : List Turn) → AllHang steps start below → Hangs steps start a below
    → IsToLeave a below → IsDagFrom steps start → ⊥
cyclic steps start a below h e l dag = no_return steps a (dag_behind steps start a dag (reached steps start a below h e))
    (comes_back steps start a a below h l e)

-- ---- the turns of an object's values

enter_keeps : (v : Value) (a : ℕ) (todo : List Turn) → IsToLeave a todo → IsToLeave a (enter_after v todo)
enter_keeps (Int n) a todo l = l
enter_keeps Null a todo l = l
enter_keeps (Ref r) a todo l = l

still_to_leave : (vs : List Value) (a : ℕ) (todo : List Turn) → IsToLeave a todo → IsToLeave a (all_enter vs todo)
unfolding all_enter
still_to_leave [] a todo l = l
still_to_leave (v ∷ vs) a todo l = still_to_leave vs a (enter_after v todo) (enter_keeps v a todo l)

-- what some values name hangs on the turns
abbrev AllNamedHang : Steps → ℕ → List Value → List Turn → Type 0
AllNamedHang steps start vs todo = (k : ℕ) (v : Value) (c : ℕ) → slice_get vs k ≡ Some v → target v ≡ Some c → Hangs steps start c todo

hang_over : (steps : Steps) (start : ℕ) (v : Value) (c : ℕ) (todo : List Turn) → Hangs steps start c todo
    → Hangs steps start c (enter_after v todo)
hang_over steps start (Int n) c todo h = h
hang_over steps start Null c todo h = h
hang_over steps start (Ref r) c todo h = h

hang_one : (steps : Steps) (start : ℕ) (v : Value) (todo : List Turn) → ((c : ℕ) → target v ≡ Some c → Hangs steps start c todo)
    → AllHang steps start todo → AllHang steps start (enter_after v todo)
hang_one steps start (Int n) todo h all = all
hang_one steps start Null todo h all = all
hang_one steps start (Ref r) todo h all = (h r refl, all)

hang_all : (steps : Steps) (start : ℕ) (vs : List Value) (todo : List Turn) → AllNamedHang steps start vs todo
    → AllHang steps start todo → AllHang steps start (all_enter vs todo)
unfolding all_enter
hang_all steps start [] todo h all = all
hang_all steps start (v ∷ vs) todo h all = hang_all steps start vs (enter_after v todo)
    (λ k w c e t. hang_over steps start v c todo (h (suc k) w c e t)) (hang_one steps start v todo (λ c t. h zero v c refl t) all)

cover_push : (after : List Bool) (above over : List ℕ) (b : ℕ) → ((x : ℕ) → IsIn x above → IsMarked after x ⊎ IsIn x over) → (x : ℕ)
    → IsIn x (b ∷ above) → IsMarked after x ⊎ IsIn x (b ∷ over)
cover_push after above over b h x (inl s) = inr (inl s)
cover_push after above over b h x (inr k) = elim (h x k) [ inl m ↦ inl m | inr o ↦ inr (inr o) ]

-- more may have been left, and what comes before may have been left or come before still
cover_more : (steps : Steps) (left after : List Bool) (above over : List ℕ) (todo : List Turn)
    → ((x : ℕ) → IsMarked left x → IsMarked after x) → ((x : ℕ) → IsIn x above → IsMarked after x ⊎ IsIn x over)
    → AllCovered steps left above todo → AllCovered steps after over todo
cover_more steps left after above over [] on h all = tt
cover_more steps left after above over (Enter b ∷ todo) on h all = cover_more steps left after (b ∷ above) (b ∷ over) todo on
    (cover_push after above over b h) all
cover_more steps left after above over (Leave b ∷ todo) on h all = (
  λ i c e. elim (all.0 i c e) [ inl m ↦ inl (on c m) | inr k ↦ h c k ],
  cover_more steps left after (b ∷ above) (b ∷ over) todo on (cover_push after above over b h) all.1,
)

-- what is covered below all that some values name
abbrev IsCoveredBelow : Steps → List Bool → List ℕ → List Value → List Turn → Type 0
IsCoveredBelow steps left above vs todo = (over : List ℕ) → ((x : ℕ) → IsIn x above → IsIn x over)
    → ((k : ℕ) (v : Value) (c : ℕ) → slice_get vs k ≡ Some v → target v ≡ Some c → IsIn c over) → AllCovered steps left over todo

cover_none : (v : Value) (vs : List Value) (over : List ℕ) → ((c : ℕ) → target v ≡ Some c → ⊥)
    → ((k : ℕ) (w : Value) (c : ℕ) → slice_get vs k ≡ Some w → target w ≡ Some c → IsIn c over) → (k : ℕ) (w : Value) (c : ℕ)
    → slice_get (v ∷ vs) k ≡ Some w → target w ≡ Some c → IsIn c over
cover_none v vs over never named zero w c e t = absurd (never c (ap target (some_is e) ∙ t))
cover_none v vs over never named (suc k) w c e t = named k w c e t

cover_ref : (r : ℕ) (vs : List Value) (over : List ℕ)
    → ((k : ℕ) (w : Value) (c : ℕ) → slice_get vs k ≡ Some w → target w ≡ Some c → IsIn c over) → (k : ℕ) (w : Value) (c : ℕ)
    → slice_get (Ref r ∷ vs) k ≡ Some w → target w ≡ Some c → IsIn c (r ∷ over)
cover_ref r vs over named zero w c e t = inl (sym (some_is (ap target (some_is e) ∙ t)))
cover_ref r vs over named (suc k) w c e t = inr (named k w c e t)

cover_one : (steps : Steps) (left : List Bool) (above : List ℕ) (v : Value) (vs : List Value) (todo : List Turn)
    → IsCoveredBelow steps left above (v ∷ vs) todo → IsCoveredBelow steps left above vs (enter_after v todo)
cover_one steps left above (Int n) vs todo h = λ over on named. h over on (cover_none (Int n) vs over (λ c e. none-some c e) named)
cover_one steps left above Null vs todo h = λ over on named. h over on (cover_none Null vs over (λ c e. none-some c e) named)
cover_one steps left above (Ref r) vs todo h = λ over on named. h (r ∷ over) (λ x k. inr (on x k)) (cover_ref r vs over named)

cover_all : (steps : Steps) (left : List Bool) (above : List ℕ) (vs : List Value) (todo : List Turn)
    → IsCoveredBelow steps left above vs todo → AllCovered steps left above (all_enter vs todo)
unfolding all_enter
cover_all steps left above [] todo h = h above (λ x k. k) (λ k v c e. absurd (none-some v e))
cover_all steps left above (v ∷ vs) todo h = cover_all steps left above vs (enter_after v todo) (cover_one steps left above v vs todo h)

-- ---- the turns

module _ (heap : Heap) (start a : ℕ) (entered left : List Bool) (todo : List Turn) where
  leave_enter : Leave a ∷ todo ≡ Enter start ∷ [] → ⊥
  leave_enter e = cc

  enter_start : Enter a ∷ todo ≡ Enter start ∷ [] → start ≡ a
  enter_start e = cc

  pub leaving : a < length heap.objects → IsSearch heap start (record { entered = entered; left = left; todo = Leave a ∷ todo })
      → IsSearch heap start (record { entered = entered; left = set left a true; todo = todo })
  leaving l h =
      let mine : IsMarked (set left a true) a = get_or-set_same left a true false (subst (λ (n : ℕ). a < n) (sym h.left_size) l) in
      let behind : IsDagFrom (heap_steps heap) a = dag_at (heap_steps heap) a
      (λ i c e. elim (h.covered.0 i c e) [ inl m ↦ h.acyclic c m | inr k ↦ absurd k ]) in
      record {
        entered_size = h.entered_size;
        left_size = length-set left a true ∙ h.left_size;
        acyclic = λ b m. elim (set_only left a b m) [
          | inl k ↦ h.acyclic b k
          | inr s ↦ subst (λ (x : ℕ). IsDagFrom (heap_steps heap) x) (sym s) behind
        ];
        opened = λ b m. elim (h.opened b m) [
          | inl k ↦ inl (set_keeps left a b k)
          | inr t ↦ elim t [
            | inl s ↦ inl (subst (λ (x : ℕ). IsMarked (set left a true) x) (sym s) mine)
            | inr k ↦ inr k
          ]
        ];
        hang = h.hang.1;
        covered = cover_more (heap_steps heap) left (set left a true) (a ∷ []) [] todo (λ x m. set_keeps left a x m) (λ x k. elim k [
          | inl s ↦ inl (subst (λ (y : ℕ). IsMarked (set left a true) y) (sym s) mine)
          | inr n ↦ absurd n
        ]) h.covered.1;
        begun = elim h.begun [ inl e ↦ absurd (leave_enter e) | inr m ↦ inr m ];
      }

  pub passing : IsMarked entered a → IsMarked left a
      → IsSearch heap start (record { entered = entered; left = left; todo = Enter a ∷ todo })
      → IsSearch heap start (record { entered = entered; left = left; todo = todo })
  passing seen done h = record {
    entered_size = h.entered_size;
    left_size = h.left_size;
    acyclic = h.acyclic;
    opened = h.opened;
    hang = h.hang.1;
    covered = cover_more (heap_steps heap) left left (a ∷ []) [] todo (λ x m. m) (λ x k. elim k [
      | inl s ↦ inl (subst (λ (y : ℕ). IsMarked left y) (sym s) done)
      | inr n ↦ absurd n
    ]) h.covered;
    begun = elim h.begun [ inl e ↦ inr (subst (λ (x : ℕ). IsMarked entered x) (sym (enter_start e)) seen) | inr m ↦ inr m ];
  }

  pub closing : IsMarked entered a → (IsMarked left a → ⊥)
      → IsSearch heap start (record { entered = entered; left = left; todo = Enter a ∷ todo }) → IsDagFrom (heap_steps heap) start → ⊥
  closing seen unleft h = elim (h.opened a seen) [
    | inl k ↦ absurd (unleft k)
    | inr l ↦ cyclic (heap_steps heap) start a todo h.hang.1 h.hang.0 l
  ]

nothing_past : (heap : Heap) (a : ℕ) → slice_get heap.objects a ≡ None → a < length heap.objects → ⊥
nothing_past heap a e l = elim (slice_get_cases heap.objects a).1 [
  | inl h ↦ none-some h.0 (sym e ∙ h.2)
  | inr h ↦ absurd (omega (arith, l, h.0))
]

-- the object of a place
record Stands (heap : Heap) (a : ℕ) : Type 0 where
  pub object : Object
  pub is : slice_get heap.objects a ≡ Some object
  pub values : values_in heap a ≡ values_of object

object_there : (heap : Heap) (a : ℕ) (o : Option Object) → slice_get heap.objects a ≡ o → a < length heap.objects → Stands heap a
object_there heap a (Some object) e l = record
    { object = object; is = e; values = ap (λ (x : Option Object). option_map_or values_of x []) e }
object_there heap a None e l = absurd (nothing_past heap a e l)

-- a step of a place goes through one of the values of its object
step_named : (heap : Heap) (a i c : ℕ) (object : Object) → slice_get heap.objects a ≡ Some object → heap_steps heap a i ≡ Some c
    → (v : Value) × ((slice_get (values_of object) i ≡ Some v) × (target v ≡ Some c))
step_named heap a i c object s e =
    let p = then_some target (value_at heap a i) c e in
    let q = then_some (λ (ob : Object). slice_get (values_of ob) i) (slice_get heap.objects a) p.0 p.1.0 in
    (p.0, (ap (λ (ob : Object). slice_get (values_of ob) i) (some_is (sym s ∙ q.1.0)) ∙ q.1.1, p.1.1))

module _ (heap : Heap) (start a : ℕ) (entered left : List Bool) (todo : List Turn) (object : Object)
    (stands : slice_get heap.objects a ≡ Some object) (below : a < length heap.objects) where
  pub going_in : IsSearch heap start (record { entered = entered; left = left; todo = Enter a ∷ todo })
      → IsSearch heap start (record { entered = set entered a true; left = left; todo = all_enter (values_of object) (Leave a ∷ todo) })
  going_in h =
      let mine : IsMarked (set entered a true) a = get_or-set_same entered a true false
      (subst (λ (n : ℕ). a < n) (sym h.entered_size) below) in
      record {
        entered_size = length-set entered a true ∙ h.entered_size;
        left_size = h.left_size;
        acyclic = h.acyclic;
        opened = λ b m. elim (set_only entered a b m) [
          | inl k ↦ elim (h.opened b k) [
            | inl n ↦ inl n
            | inr t ↦ inr (still_to_leave (values_of object) b (Leave a ∷ todo) (inr t))
          ]
          | inr s ↦ inr (still_to_leave (values_of object) b (Leave a ∷ todo) (inl s))
        ];
        hang = hang_all (heap_steps heap) start (values_of object) (Leave a ∷ todo)
            (λ k v c e t. (k, step_at heap a k c object v stands e t)) h.hang;
        covered = cover_all (heap_steps heap) left [] (values_of object) (Leave a ∷ todo) (λ over on named. (
          λ i c e. let p = step_named heap a i c object stands e in inr (named i p.0 c p.1.0 p.1.1),
          cover_more (heap_steps heap) left left (a ∷ []) (a ∷ over) todo (λ x m. m)
              (λ x k. elim k [ inl s ↦ inr (inl s) | inr n ↦ absurd n ]) h.covered,
        ));
        begun = elim h.begun [
          | inl e ↦ inr (subst (λ (x : ℕ). IsMarked (set entered a true) x) (sym (enter_start heap start a entered left todo e)) mine)
          | inr m ↦ inr (set_keeps entered a start m)
        ];
      }

-- ---- one turn of the code

-- what is left to do, in one number: each object that is entered adds at most as many turns as the heap has values, and one
abbrev pub turns_left : Heap → List Bool → List Turn → ℕ
turns_left heap entered todo = open_count entered * (2 + sum_by (λ object. length (values_of object)) heap.objects) + length todo

enter_length : (v : Value) (todo : List Turn) → length (enter_after v todo) ≤ suc (length todo)
enter_length (Int n) todo = omega arith
enter_length Null todo = omega arith
enter_length (Ref r) todo = omega arith

all_length : (vs : List Value) (todo : List Turn) → length (all_enter vs todo) ≤ length vs + length todo
unfolding all_enter
all_length [] todo = omega arith
all_length (v ∷ vs) todo = omega (arith, all_length vs (enter_after v todo), enter_length v todo)

values_within : (heap : Heap) (a : ℕ) (object : Object) → slice_get heap.objects a ≡ Some object
    → length (values_of object) ≤ sum_by (λ (ob : Object). length (values_of ob)) heap.objects
values_within heap a object e =
    let is : get_or heap.objects a object ≡ object = get_or_from_slice_get heap.objects a object object e in
    subst (λ (ob : Object). length (values_of ob) ≤ sum_by (λ (o : Object). length (values_of o)) heap.objects) is
    (get_or-le-sum_by (λ (ob : Object). length (values_of ob)) heap.objects a object (slice_get_within heap.objects a object e))

less_by : (m n k y x z : ℕ) → m + k ≤ n → x ≤ y + suc z → suc (suc y) ≤ k → m + x < n + suc z
less_by m n k y x z p e f = omega (arith, p, e, f)

one_less : (m n k y x z : ℕ) → m < n → x ≤ y + suc z → suc (suc y) ≤ k → m * k + x < n * k + suc z
one_less m n k y x z l e f =
    let p : suc m * k ≤ n * k = mul-le-mul_right k l in
    let q : m * k + k ≤ n * k = subst (λ (w : ℕ). w ≤ n * k) (suc-mul m k) p in
    less_by (m * k) (n * k) k y x z q e f

one_done : (n k : ℕ) → n + k < n + suc k
one_done n k = omega arith

two_more : (x y : ℕ) → x ≤ y → suc (suc x) ≤ 2 + y
two_more x y l = omega (arith, l)

-- what holds after a turn that goes on
pub record IsTurned (heap : Heap) (start : ℕ) (before after : Search) : Type 0 where
  pub search : IsSearch heap start after
  pub less : turns_left heap after.entered after.todo < turns_left heap before.entered before.todo

module _ (heap : Heap) (start a : ℕ) (entered left : List Bool) (todo : List Turn) (after : Search)
    (below : a < length heap.objects) (h : IsSearch heap start (record { entered = entered; left = left; todo = Enter a ∷ todo })) where
  entered_new : (get_or entered a false ≡ false) → after ≡ entering heap a (record { entered = entered; left = left; todo = todo })
      → IsTurned heap start (record { entered = entered; left = left; todo = Enter a ∷ todo }) after
  entered_new new e =
      let o = object_there heap a (slice_get heap.objects a) refl below in
      let is : after ≡ record { entered = set entered a true; left = left; todo = all_enter (values_of o.object) (Leave a ∷ todo) }
      = e ∙ ap (λ (vs : List Value). record { entered = set entered a true; left = left; todo = all_enter vs (Leave a ∷ todo) })
      o.values in
      let within : a < length entered = subst (λ (n : ℕ). a < n) (sym h.entered_size) below in
      let fewer : open_count (set entered a true) < open_count entered = fewer_open entered a within (λ m. false≢true (sym new ∙ m)) in
      let none_longer : length (all_enter (values_of o.object) (Leave a ∷ todo)) ≤ length (values_of o.object) + suc (length todo) =
      all_length (values_of o.object) (Leave a ∷ todo) in
      let few : length (values_of o.object) ≤ sum_by (λ (ob : Object). length (values_of ob)) heap.objects = values_within heap a
      o.object o.is in
      subst (λ (s : Search). IsTurned heap start (record { entered = entered; left = left; todo = Enter a ∷ todo }) s) (sym is) (record {
        search = going_in heap start a entered left todo o.object o.is below h;
        less = one_less (open_count (set entered a true)) (open_count entered)
            (2 + sum_by (λ (ob : Object). length (values_of ob)) heap.objects) (length (values_of o.object))
            (length (all_enter (values_of o.object) (Leave a ∷ todo))) (length todo) fewer none_longer
            (two_more (length (values_of o.object)) (sum_by (λ (ob : Object). length (values_of ob)) heap.objects) few);
      })

  entered_old : IsMarked entered a → IsMarked left a → after ≡ record { entered = entered; left = left; todo = todo }
      → IsTurned heap start (record { entered = entered; left = left; todo = Enter a ∷ todo }) after
  entered_old seen done e = subst
      (λ (s : Search). IsTurned heap start (record { entered = entered; left = left; todo = Enter a ∷ todo }) s) (sym e) (record {
        search = passing heap start a entered left todo seen done h;
        less = one_done (open_count entered * (2 + sum_by (λ (ob : Object). length (values_of ob)) heap.objects)) (length todo);
      })

  entered_if : (was done : Bool) → get_or entered a false ≡ was → get_or left a false ≡ done
      → Some after ≡ cond was (cond done (Some (record { entered = entered; left = left; todo = todo })) None)
      (Some (entering heap a (record { entered = entered; left = left; todo = todo })))
      → IsTurned heap start (record { entered = entered; left = left; todo = Enter a ∷ todo }) after
  entered_if true true e f g = entered_old e f (some_is g)
  entered_if true false e f g = absurd (none-some after (sym g))
  entered_if false done e f g = entered_new e (some_is g)

  closed_if : (was done : Bool) → get_or entered a false ≡ was → get_or left a false ≡ done
      → None ≡ cond was (cond done (Some (record { entered = entered; left = left; todo = todo })) None)
      (Some (entering heap a (record { entered = entered; left = left; todo = todo }))) → IsDagFrom (heap_steps heap) start → ⊥
  closed_if true true e f g dag = absurd (none-some _ g)
  closed_if true false e f g dag = closing heap start a entered left todo e (λ m. false≢true (sym f ∙ m)) h dag
  closed_if false done e f g dag = absurd (none-some _ g)

turned_on : (heap : Heap) (start : ℕ) (turn : Turn) (entered left : List Bool) (todo : List Turn) (after : Search)
    → place_of turn < length heap.objects → IsSearch heap start (record { entered = entered; left = left; todo = turn ∷ todo })
    → Some after ≡ turned heap turn (record { entered = entered; left = left; todo = todo })
    → IsTurned heap start (record { entered = entered; left = left; todo = turn ∷ todo }) after
unfolding turned
turned_on heap start (Leave a) entered left todo after l h e = subst
    (λ (s : Search). IsTurned heap start (record { entered = entered; left = left; todo = Leave a ∷ todo }) s) (sym (some_is e)) (record {
      search = leaving heap start a entered left todo l h;
      less = one_done (open_count entered * (2 + sum_by (λ (ob : Object). length (values_of ob)) heap.objects)) (length todo);
    })
turned_on heap start (Enter a) entered left todo after l h e = entered_if heap start a entered left todo after l h
    (get_or entered a false) (get_or left a false) refl refl e

turned_off : (heap : Heap) (start : ℕ) (turn : Turn) (entered left : List Bool) (todo : List Turn)
    → place_of turn < length heap.objects → IsSearch heap start (record { entered = entered; left = left; todo = turn ∷ todo })
    → None ≡ turned heap turn (record { entered = entered; left = left; todo = todo }) → IsDagFrom (heap_steps heap) start → ⊥
unfolding turned
turned_off heap start (Leave a) entered left todo l h e dag = absurd (none-some _ e)
turned_off heap start (Enter a) entered left todo l h e dag = closed_if heap start a entered left todo
    (record { entered = entered; left = left; todo = todo }) l h (get_or entered a false) (get_or left a false) refl refl e dag

-- ---- the same, with what the code knows

step_below : (heap : Heap) (a i c : ℕ) → IsClosed heap → heap_steps heap a i ≡ Some c → c < length heap.objects
step_below heap a i c closed e =
    let p = then_some target (value_at heap a i) c e in
    let q = then_some (λ (ob : Object). slice_get (values_of ob) i) (slice_get heap.objects a) p.0 p.1.0 in
    below_heap heap closed a q.0 q.1.0 i p.0 q.1.1 c p.1.1

hanging_below : (heap : Heap) (start c : ℕ) (below : List Turn) → IsClosed heap → start < length heap.objects
    → Hangs (heap_steps heap) start c below → c < length heap.objects
hanging_below heap start c [] closed l e = subst (λ (x : ℕ). x < length heap.objects) (sym e) l
hanging_below heap start c (Enter b ∷ below) closed l e = hanging_below heap start c below closed l e
hanging_below heap start c (Leave b ∷ below) closed l e = step_below heap b e.0 c closed e.1

module _ (heap : Heap) (start : ℕ) (entered left : List Bool) (todo rest : List Turn) (turn : Turn) (closed : IsClosed heap)
    (l : start < length heap.objects) (popped : todo ≡ turn ∷ rest)
    (h : IsSearch heap start (record { entered = entered; left = left; todo = todo })) where
  before : IsSearch heap start (record { entered = entered; left = left; todo = turn ∷ rest })
  before = subst (λ (ts : List Turn). IsSearch heap start (record { entered = entered; left = left; todo = ts })) popped h

  pub placed : place_of turn < length heap.objects
  placed = hanging_below heap start (place_of turn) rest closed l before.hang.0

  pub going_on : (on : Bool) (after : Search) → on ≡ true
      → goes_on on after ≡ turned heap turn (record { entered = entered; left = left; todo = rest })
      → IsTurned heap start (record { entered = entered; left = left; todo = todo }) after
  going_on true after e f = subst (λ (ts : List Turn). IsTurned heap start (record { entered = entered; left = left; todo = ts })
      after) (sym popped) (turned_on heap start turn entered left rest after placed before f)
  going_on false after e f = absurd (false≢true e)

  pub found : (on : Bool) (after : Search) → on ≡ false
      → goes_on on after ≡ turned heap turn (record { entered = entered; left = left; todo = rest })
      → IsDagFrom (heap_steps heap) start → ⊥
  found true after e f dag = absurd (false≢true (sym e))
  found false after e f dag = turned_off heap start turn entered left rest placed before f dag

pub begun_search : (heap : Heap) (start n : ℕ) (entered left : List Bool) (none todo : List Turn) → n ≡ length heap.objects
    → entered ≡ replicate n false → left ≡ replicate n false → none ≡ [] → todo ≡ Enter start ∷ none
    → IsSearch heap start (record { entered = entered; left = left; todo = todo })
begun_search heap start n entered left none todo size e f g t =
    let todo_is : todo ≡ Enter start ∷ [] = t ∙ ap (λ (ts : List Turn). Enter start ∷ ts) g in
    subst (λ (ts : List Turn). IsSearch heap start (record { entered = entered; left = left; todo = ts })) (sym todo_is) (record {
      entered_size = ap length e ∙ length-replicate n false ∙ size;
      left_size = ap length f ∙ length-replicate n false ∙ size;
      acyclic = λ b m. absurd (none_marked n b (subst (λ (ms : List Bool). IsMarked ms b) f m));
      opened = λ a m. absurd (none_marked n a (subst (λ (ms : List Bool). IsMarked ms a) e m));
      hang = (refl, tt);
      covered = tt;
      begun = inl refl;
    })

nothing_is_no_turn : (turn : Turn) → [] ≡ turn ∷ [] → ⊥
nothing_is_no_turn turn e = cc

pub nothing_found : (heap : Heap) (start : ℕ) (entered left : List Bool) (todo : List Turn) → todo ≡ []
    → IsSearch heap start (record { entered = entered; left = left; todo = todo }) → IsDagFrom (heap_steps heap) start
nothing_found heap start entered left todo e h =
    let s : IsSearch heap start (record { entered = entered; left = left; todo = [] }) = subst
    (λ (ts : List Turn). IsSearch heap start (record { entered = entered; left = left; todo = ts })) e h in
    elim s.begun [
      | inl n ↦ absurd (nothing_is_no_turn (Enter start) n)
      | inr m ↦ elim (s.opened start m) [ inl d ↦ s.acyclic start d | inr t ↦ absurd t ]
    ]

-- ---- one value after another

pub next_enter : (vs : List Value) (i : ℕ) (v : Value) (todo : List Turn) → i < length vs
    → all_enter (drop i vs) todo ≡ all_enter (drop (i + 1) vs) (enter_after (get_or vs i v) todo)
unfolding all_enter
next_enter vs i v todo l = rw (drop-cons vs i v, add-one) refl

pub last_enter : (vs : List Value) (i : ℕ) (todo : List Turn) → length vs ≤ i → all_enter (drop i vs) todo ≡ todo
unfolding all_enter
last_enter vs i todo l = rw (drop_all i vs l) refl
