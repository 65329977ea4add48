-- What is marked and noted when the objects of some values are marked.
use Rattle.std.proofs.Common.{◌≡◌, ℕ, zero, suc, ◌+◌, ◌<◌, Bool, true, false, cond, List, [], ◌∷◌, ◌++◌, length, get_or, set, Some}
use Rattle.std.proofs.Common.{◌⊎◌, inl, inr, refl, sym, ap, subst, ◌∙◌, arith, length-append}
use Rattle.std.specs.Prelude.{slice_get, sum_by}
use Rattle.std.proofs.Math.ListN.{length-set}
use Rattle.std.proofs.lemmas.List.{get_or-set_same, get_or-set_other, get_or_past}
use Rattle.std.proofs.lemmas.List.Sums.{sum_by-set}
use Rattle.std.proofs.lemmas.Bool.{false≢true, cases_lt, cases_eq}
use Rattle.std.proofs.lemmas.Option.{none-some}
use Rattle.list_views.specs.Lists.{open_count}
use Rattle.jvm_values.specs.declared.heap.Value.{Value}
use Rattle.jvm_values.specs.declared.heap.Value.TheVariants.{Int, Null, Ref}
use Rattle.jvm_values.specs.Heaps.{target, IsInHeap}
use Rattle.jvm_values.proofs.Options.{some_is}
use Rattle.jvm_heaps.specs.Marks.{IsMarked, marks_after, todo_after, all_marks, all_todo}
use Rattle.jvm_heaps.proofs.InLists.{IsIn, In-left, In-last, In-push}

pub marked_within : (marks : List Bool) (x : ℕ) → IsMarked marks x → x < length marks
marked_within marks x e = elim (cases_lt x (length marks)) [
  | inl l ↦ l
  | inr l ↦ absurd (false≢true (sym (get_or_past marks x false l) ∙ e))
]

pub set_keeps : (marks : List Bool) (b x : ℕ) → IsMarked marks x → IsMarked (set marks b true) x
set_keeps marks b x e = elim (cases_eq x b) [
  | inl s ↦ subst (λ (y : ℕ). get_or (set marks y true) x false ≡ true) s (get_or-set_same marks x true false (marked_within marks x e))
  | inr d ↦ get_or-set_other marks b x true false d ∙ e
]

pub set_only : (marks : List Bool) (b x : ℕ) → IsMarked (set marks b true) x → IsMarked marks x ⊎ (x ≡ b)
set_only marks b x e = elim (cases_eq x b) [
  | inl s ↦ inr s
  | inr d ↦ inl (sym (get_or-set_other marks b x true false d) ∙ e)
]

-- ---- one value

keep_if : (m : Bool) (marks : List Bool) (r x : ℕ) → IsMarked marks x → IsMarked (cond m marks (set marks r true)) x
keep_if true marks r x h = h
keep_if false marks r x h = set_keeps marks r x h

pub keep_one : (v : Value) (marks : List Bool) (x : ℕ) → IsMarked marks x → IsMarked (marks_after v marks) x
keep_one (Int n) marks x h = h
keep_one Null marks x h = h
keep_one (Ref r) marks x h = keep_if (get_or marks r false) marks r x h

marked_if : (m : Bool) (marks : List Bool) (r : ℕ) → get_or marks r false ≡ m → r < length marks
    → IsMarked (cond m marks (set marks r true)) r
marked_if true marks r e l = e
marked_if false marks r e l = get_or-set_same marks r true false l

pub marked_one : (v : Value) (marks : List Bool) (c : ℕ) → target v ≡ Some c → c < length marks → IsMarked (marks_after v marks) c
marked_one (Int n) marks c e l = absurd (none-some c e)
marked_one Null marks c e l = absurd (none-some c e)
marked_one (Ref r) marks c e l =
    subst (λ (x : ℕ). IsMarked (marks_after (Ref r) marks) x) (some_is e)
    (marked_if (get_or marks r false) marks r refl (subst (λ (x : ℕ). x < length marks) (sym (some_is e)) l))

only_if : (m : Bool) (marks : List Bool) (r x : ℕ) → IsMarked (cond m marks (set marks r true)) x → IsMarked marks x ⊎ (x ≡ r)
only_if true marks r x h = inl h
only_if false marks r x h = set_only marks r x h

pub only_one : (v : Value) (marks : List Bool) (x : ℕ) → IsMarked (marks_after v marks) x → IsMarked marks x ⊎ (target v ≡ Some x)
only_one (Int n) marks x h = inl h
only_one Null marks x h = inl h
only_one (Ref r) marks x h = elim (only_if (get_or marks r false) marks r x h) [ inl k ↦ inl k | inr s ↦ inr (ap Some (sym s)) ]

new_if : (m : Bool) (marks : List Bool) (todo : List ℕ) (r x : ℕ) → IsMarked (cond m marks (set marks r true)) x
    → IsMarked marks x ⊎ IsIn x (cond m todo (todo ++ r ∷ []))
new_if true marks todo r x h = inl h
new_if false marks todo r x h = elim (set_only marks r x h) [
  | inl k ↦ inl k
  | inr s ↦ inr (subst (λ (y : ℕ). IsIn y (todo ++ r ∷ [])) (sym s) (In-last r todo))
]

pub new_one : (v : Value) (marks : List Bool) (todo : List ℕ) (x : ℕ) → IsMarked (marks_after v marks) x
    → IsMarked marks x ⊎ IsIn x (todo_after v marks todo)
new_one (Int n) marks todo x h = inl h
new_one Null marks todo x h = inl h
new_one (Ref r) marks todo x h = new_if (get_or marks r false) marks todo r x h

keep_todo_if : (m : Bool) (todo : List ℕ) (r x : ℕ) → IsIn x todo → IsIn x (cond m todo (todo ++ r ∷ []))
keep_todo_if true todo r x h = h
keep_todo_if false todo r x h = In-left x todo (r ∷ []) h

pub keep_todo_one : (v : Value) (marks : List Bool) (todo : List ℕ) (x : ℕ) → IsIn x todo → IsIn x (todo_after v marks todo)
keep_todo_one (Int n) marks todo x h = h
keep_todo_one Null marks todo x h = h
keep_todo_one (Ref r) marks todo x h = keep_todo_if (get_or marks r false) todo r x h

only_todo_if : (m : Bool) (marks : List Bool) (todo : List ℕ) (r x : ℕ) → r < length marks → IsIn x (cond m todo (todo ++ r ∷ []))
    → IsIn x todo ⊎ IsMarked (cond m marks (set marks r true)) x
only_todo_if true marks todo r x l h = inl h
only_todo_if false marks todo r x l h = elim (In-push x r todo h) [
  | inl k ↦ inl k
  | inr s ↦ inr (subst (λ (y : ℕ). IsMarked (set marks r true) y) (sym s) (get_or-set_same marks r true false l))
]

pub only_todo_one : (v : Value) (marks : List Bool) (todo : List ℕ) (x : ℕ) → IsInHeap (length marks) v
    → IsIn x (todo_after v marks todo) → IsIn x todo ⊎ IsMarked (marks_after v marks) x
only_todo_one (Int n) marks todo x l h = inl h
only_todo_one Null marks todo x l h = inl h
only_todo_one (Ref r) marks todo x l h = only_todo_if (get_or marks r false) marks todo r x (l r refl) h

length_if : (m : Bool) (marks : List Bool) (r : ℕ) → length (cond m marks (set marks r true)) ≡ length marks
length_if true marks r = refl
length_if false marks r = length-set marks r true

pub length_one : (v : Value) (marks : List Bool) → length (marks_after v marks) ≡ length marks
length_one (Int n) marks = refl
length_one Null marks = refl
length_one (Ref r) marks = length_if (get_or marks r false) marks r

work_if : (m : Bool) (marks : List Bool) (todo : List ℕ) (r : ℕ) → get_or marks r false ≡ m → r < length marks
    → open_count (cond m marks (set marks r true)) + length (cond m todo (todo ++ r ∷ [])) ≡ open_count marks + length todo
work_if true marks todo r e l = refl
work_if false marks todo r e l =
    let t = rw e at (sum_by-set (λ (y : Bool). cond y 0 1) marks r true false l) in
    omega (arith, t, length-append todo (r ∷ []))

pub work_one : (v : Value) (marks : List Bool) (todo : List ℕ) → IsInHeap (length marks) v
    → open_count (marks_after v marks) + length (todo_after v marks todo) ≡ open_count marks + length todo
work_one (Int n) marks todo l = refl
work_one Null marks todo l = refl
work_one (Ref r) marks todo l = work_if (get_or marks r false) marks todo r refl (l r refl)

-- ---- all values

-- each value at a place names an object below a number
abbrev pub AreBelow : ℕ → List Value → Type 0
AreBelow n vs = (k : ℕ) (v : Value) → slice_get vs k ≡ Some v → IsInHeap n v

next_below : (v : Value) (vs : List Value) (marks : List Bool) → AreBelow (length marks) (v ∷ vs)
    → AreBelow (length (marks_after v marks)) vs
next_below v vs marks l = λ k w e. subst (λ (n : ℕ). IsInHeap n w) (sym (length_one v marks)) (l (suc k) w e)

pub length_all : (vs : List Value) (marks : List Bool) → length (all_marks vs marks) ≡ length marks
unfolding all_marks
length_all [] marks = refl
length_all (v ∷ vs) marks = length_all vs (marks_after v marks) ∙ length_one v marks

pub keep_all : (vs : List Value) (marks : List Bool) (x : ℕ) → IsMarked marks x → IsMarked (all_marks vs marks) x
unfolding all_marks
keep_all [] marks x h = h
keep_all (v ∷ vs) marks x h = keep_all vs (marks_after v marks) x (keep_one v marks x h)

pub marked_all : (vs : List Value) (marks : List Bool) (k : ℕ) (v : Value) (c : ℕ) → slice_get vs k ≡ Some v → target v ≡ Some c
    → c < length marks → IsMarked (all_marks vs marks) c
unfolding all_marks
marked_all [] marks k v c e t l = absurd (none-some v e)
marked_all (w ∷ vs) marks zero v c e t l = keep_all vs (marks_after w marks) c (marked_one w marks c (ap target (some_is e) ∙ t) l)
marked_all (w ∷ vs) marks (suc k) v c e t l = marked_all vs (marks_after w marks) k v c e t
    (subst (λ (n : ℕ). c < n) (sym (length_one w marks)) l)

-- a value at a place names a place
pub record IsNamed (vs : List Value) (x : ℕ) : Type 0 where
  pub place : ℕ
  pub value : Value
  pub stands : slice_get vs place ≡ Some value
  pub names : target value ≡ Some x

pub only_all : (vs : List Value) (marks : List Bool) (x : ℕ) → IsMarked (all_marks vs marks) x → IsMarked marks x ⊎ IsNamed vs x
unfolding all_marks
only_all [] marks x h = inl h
only_all (v ∷ vs) marks x h = elim (only_all vs (marks_after v marks) x h) [
  | inl k ↦ elim (only_one v marks x k) [
    | inl m ↦ inl m
    | inr t ↦ inr (record { place = zero; value = v; stands = refl; names = t })
  ]
  | inr n ↦ inr (record { place = suc n.place; value = n.value; stands = n.stands; names = n.names })
]

pub keep_todo_all : (vs : List Value) (marks : List Bool) (todo : List ℕ) (x : ℕ) → IsIn x todo → IsIn x (all_todo vs marks todo)
unfolding all_todo
keep_todo_all [] marks todo x h = h
keep_todo_all (v ∷ vs) marks todo x h = keep_todo_all vs (marks_after v marks) (todo_after v marks todo) x (keep_todo_one v marks todo x h)

pub new_all : (vs : List Value) (marks : List Bool) (todo : List ℕ) (x : ℕ) → IsMarked (all_marks vs marks) x
    → IsMarked marks x ⊎ IsIn x (all_todo vs marks todo)
unfolding all_marks all_todo
new_all [] marks todo x h = inl h
new_all (v ∷ vs) marks todo x h = elim (new_all vs (marks_after v marks) (todo_after v marks todo) x h) [
  | inl k ↦ elim (new_one v marks todo x k) [
    | inl m ↦ inl m
    | inr t ↦ inr (keep_todo_all vs (marks_after v marks) (todo_after v marks todo) x t)
  ]
  | inr t ↦ inr t
]

pub only_todo_all : (vs : List Value) (marks : List Bool) (todo : List ℕ) (x : ℕ) → AreBelow (length marks) vs
    → IsIn x (all_todo vs marks todo) → IsIn x todo ⊎ IsMarked (all_marks vs marks) x
unfolding all_marks all_todo
only_todo_all [] marks todo x l h = inl h
only_todo_all (v ∷ vs) marks todo x l h = elim
    (only_todo_all vs (marks_after v marks) (todo_after v marks todo) x (next_below v vs marks l) h) [
      | inl k ↦ elim (only_todo_one v marks todo x (l zero v refl) k) [
        | inl t ↦ inl t
        | inr m ↦ inr (keep_all vs (marks_after v marks) x m)
      ]
      | inr m ↦ inr m
    ]

pub work_all : (vs : List Value) (marks : List Bool) (todo : List ℕ) → AreBelow (length marks) vs
    → open_count (all_marks vs marks) + length (all_todo vs marks todo) ≡ open_count marks + length todo
unfolding all_marks all_todo
work_all [] marks todo l = refl
work_all (v ∷ vs) marks todo l = work_all vs (marks_after v marks) (todo_after v marks todo) (next_below v vs marks l)
    ∙ work_one v marks todo (l zero v refl)
