-- Marking what is above a class comes to the end with the classes above it marked, and no others.
use Rattle.std.proofs.Common.{◌≡◌, ◌≢◌, ℕ, zero, suc, ◌+◌, ◌<◌, Bool, true, false, cond, eqb, List, [], ◌∷◌, ◌++◌, length, get_or}
use Rattle.std.proofs.Common.{set, sum_by, replicate, sym, refl, ap, ◌∙◌, subst, inl, inr, ◌⊎◌, arith, eq-eqb, length-append}
use Rattle.std.proofs.Math.ListN.{length-set, length-replicate}
use Rattle.std.proofs.lemmas.List.{get_or-set_same, get_or-set_other, get_or_past, get_or-replicate, get_or_default}
use Rattle.std.proofs.lemmas.List.Sums.{sum_by-set}
use Rattle.std.proofs.lemmas.Bool.{false≢true, eqb-true, cases_lt}
use Rattle.code_forms.proofs.list_views.Marks.{none_marked, mark_keeps, marked_within}
use Rattle.code_forms.proofs.list_views.Truths.{same_truth}
use Rattle.class_world.specs.World.{leads_up}
use Rattle.code_forms.specs.list_views.Lists.{open_count}
use Rattle.class_world.specs.inner.Marking.{marks_after, todo_after, listed_at, IsRow, IsClosed}
use Rattle.class_world.specs.lemmas.Walks.{IsIn, Walk, Walk-append, Walk-from_leads, leads-from_any_Walk}

abbrev pub AllBelow : List ℕ → ℕ → Type 0
AllBelow bs n = (x : ℕ) → IsIn x bs → x < n

same_or_not : (x b : ℕ) → (x ≡ b) ⊎ (x ≢ b)
same_or_not x b = go (eqb x b) refl
  where
    go : (r : Bool) → eqb x b ≡ r → (x ≡ b) ⊎ (x ≢ b)
    go true e = inl (eqb-true x b e)
    go false e = inr (λ s. false≢true (sym e ∙ eq-eqb x b s))

pub length-marks : (marks : List Bool) (bs : List ℕ) → length (marks_after marks bs) ≡ length marks
length-marks marks [] = refl
length-marks marks (b ∷ bs) = length-marks (set marks b true) bs ∙ length-set marks b true

pub marks_keep : (marks : List Bool) (bs : List ℕ) (x : ℕ) → get_or marks x false ≡ true → get_or (marks_after marks bs) x false ≡ true
marks_keep marks [] x e = e
marks_keep marks (b ∷ bs) x e = marks_keep (set marks b true) bs x (mark_keeps marks b x e)

pub marks_all : (marks : List Bool) (bs : List ℕ) (x : ℕ) → IsIn x bs → x < length marks → get_or (marks_after marks bs) x false ≡ true
marks_all marks [] x h l = absurd h
marks_all marks (b ∷ bs) x (inl s) l =
    marks_keep (set marks b true) bs x
    (subst (λ (y : ℕ). get_or (set marks y true) x false ≡ true) s (get_or-set_same marks x true false l))
marks_all marks (b ∷ bs) x (inr t) l = marks_all (set marks b true) bs x t (subst (λ (n : ℕ). x < n) (sym (length-set marks b true)) l)

pub marks_only : (marks : List Bool) (bs : List ℕ) (x : ℕ) → get_or (marks_after marks bs) x false ≡ true
    → (get_or marks x false ≡ true) ⊎ IsIn x bs
marks_only marks [] x e = inl e
marks_only marks (b ∷ bs) x e = go (marks_only (set marks b true) bs x e)
  where
    go : (get_or (set marks b true) x false ≡ true) ⊎ IsIn x bs → (get_or marks x false ≡ true) ⊎ IsIn x (b ∷ bs)
    go (inr t) = inr (inr t)
    go (inl f) = elim (same_or_not x b) [
      | inl s ↦ inr (inl s)
      | inr d ↦ inl (sym (get_or-set_other marks b x true false d) ∙ f)
    ]

In-left : (x : ℕ) (xs ys : List ℕ) → IsIn x xs → IsIn x (xs ++ ys)
In-left x [] ys h = absurd h
In-left x (z ∷ zs) ys (inl s) = inl s
In-left x (z ∷ zs) ys (inr t) = inr (In-left x zs ys t)

In-last : (x : ℕ) (xs : List ℕ) → IsIn x (xs ++ x ∷ [])
In-last x [] = inl refl
In-last x (z ∷ zs) = inr (In-last x zs)

In-push : (x b : ℕ) (xs : List ℕ) → IsIn x (xs ++ b ∷ []) → IsIn x xs ⊎ (x ≡ b)
In-push x b [] (inl s) = inr s
In-push x b [] (inr t) = absurd t
In-push x b (z ∷ zs) (inl s) = inl (inl s)
In-push x b (z ∷ zs) (inr t) = elim (In-push x b zs t) [ inl a ↦ inl (inr a) | inr s ↦ inr s ]

abbrev push_if : Bool → List ℕ → ℕ → List ℕ
push_if m todo b = cond m todo (todo ++ b ∷ [])

pub todo_keep : (marks : List Bool) (todo bs : List ℕ) (x : ℕ) → IsIn x todo → IsIn x (todo_after marks todo bs)
todo_keep marks todo [] x h = h
todo_keep marks todo (b ∷ bs) x h = todo_keep (set marks b true) (push_if (get_or marks b false) todo b) bs x (go (get_or marks b false))
  where
    go : (m : Bool) → IsIn x (push_if m todo b)
    go true = h
    go false = In-left x todo (b ∷ []) h

-- what is newly marked is on the list
pub todo_new : (marks : List Bool) (todo bs : List ℕ) (x : ℕ) → get_or (marks_after marks bs) x false ≡ true
    → (get_or marks x false ≡ true) ⊎ IsIn x (todo_after marks todo bs)
todo_new marks todo [] x e = inl e
todo_new marks todo (b ∷ bs) x e = go (todo_new (set marks b true) (push_if (get_or marks b false) todo b) bs x e)
  where
    at_b : (m : Bool) → get_or marks b false ≡ m → x ≡ b → (get_or marks x false ≡ true)
        ⊎ IsIn x (todo_after (set marks b true) (push_if m todo b) bs)
    at_b true f s = inl (subst (λ (y : ℕ). get_or marks y false ≡ true) (sym s) f)
    at_b false f s = inr (todo_keep (set marks b true) (todo ++ b ∷ []) bs x
        (subst (λ (y : ℕ). IsIn y (todo ++ b ∷ [])) (sym s) (In-last b todo)))

    go : (get_or (set marks b true) x false ≡ true)
        ⊎ IsIn x (todo_after (set marks b true) (push_if (get_or marks b false) todo b) bs) → (get_or marks x false ≡ true)
        ⊎ IsIn x (todo_after (set marks b true) (push_if (get_or marks b false) todo b) bs)
    go (inr t) = inr t
    go (inl f) = elim (same_or_not x b) [
      | inl s ↦ at_b (get_or marks b false) refl s
      | inr d ↦ inl (sym (get_or-set_other marks b x true false d) ∙ f)
    ]

pub todo_only : (marks : List Bool) (todo bs : List ℕ) (x : ℕ) → IsIn x (todo_after marks todo bs) → IsIn x todo ⊎ IsIn x bs
todo_only marks todo [] x h = inl h
todo_only marks todo (b ∷ bs) x h = go (todo_only (set marks b true) (push_if (get_or marks b false) todo b) bs x h)
  where
    at : (m : Bool) → IsIn x (push_if m todo b) → IsIn x todo ⊎ IsIn x (b ∷ bs)
    at true t = inl t
    at false t = elim (In-push x b todo t) [ inl a ↦ inl a | inr s ↦ inr (inl s) ]

    go : IsIn x (push_if (get_or marks b false) todo b) ⊎ IsIn x bs → IsIn x todo ⊎ IsIn x (b ∷ bs)
    go (inl t) = at (get_or marks b false) t
    go (inr t) = inr (inr t)

-- what is marked and what is to be done: their sum stays
pub work_kept : (marks : List Bool) (todo bs : List ℕ) → AllBelow bs (length marks)
    → open_count (marks_after marks bs) + length (todo_after marks todo bs) ≡ open_count marks + length todo
work_kept marks todo [] h = refl
work_kept marks todo (b ∷ bs) h =
    work_kept (set marks b true) (push_if (get_or marks b false) todo b) bs
    (λ x i. subst (λ (n : ℕ). x < n) (sym (length-set marks b true)) (h x (inr i)))
    ∙ go (get_or marks b false) refl
  where
    go : (m : Bool) → get_or marks b false ≡ m → open_count (set marks b true) + length (push_if m todo b) ≡ open_count marks + length todo
    go m e = by m (sum_by-set (λ y. cond y 0 1) marks b true false (h b (inl refl))) e
      where
        by : (m : Bool) → sum_by (λ y. cond y 0 1) (set marks b true) + cond (get_or marks b false) 0 1 ≡ sum_by (λ y. cond y 0 1)
            marks + cond true 0 1 → get_or marks b false ≡ m
            → open_count (set marks b true) + length (push_if m todo b) ≡ open_count marks + length todo
        by true s f = let t = rw f at s in omega (arith, t)
        by false s f = let t = rw f at s in omega (arith, t, length-append todo (b ∷ []))

-- ---- going through the list

pub In-get : (xs : List ℕ) (k : ℕ) → k < length xs → IsIn (get_or xs k 0) xs
In-get [] k h = absurd (omega (arith, h))
In-get (x ∷ xs) zero h = inl refl
In-get (x ∷ xs) (suc k) h = inr (In-get xs k (omega (arith, h)))

pub get-In : (xs : List ℕ) (x : ℕ) → IsIn x xs → (k : ℕ) × (k < length xs) × (get_or xs k 0 ≡ x)
get-In [] x h = absurd h
get-In (y ∷ ys) x (inl s) = (0, omega arith, sym s)
get-In (y ∷ ys) x (inr t) = let r = get-In ys x t in (suc r.0, omega (arith, r.1), r.2)

abbrev pub up_of : List (List ℕ) → ℕ → List ℕ
up_of = listed_at

-- a way of one step or more
abbrev pub Reached : List (List ℕ) → ℕ → ℕ → Type 0
Reached supers a b = (c : ℕ) × (p : List ℕ) × Walk (up_of supers) a (c ∷ p) b

-- what holds while a class's row is made
pub record Closing (supers : List (List ℕ)) (class : ℕ) (marks : List Bool) (todo : List ℕ) : Type 0 where
  pub len : length marks ≡ length supers
  pub sound : (b : ℕ) → get_or marks b false ≡ true → Reached supers class b
  pub start : (b : ℕ) → IsIn b (up_of supers class) → get_or marks b false ≡ true
  pub on_list : (b : ℕ) → IsIn b todo → get_or marks b false ≡ true
  pub done : (a b : ℕ) → get_or marks a false ≡ true → IsIn b (up_of supers a) → IsIn a todo ⊎ (get_or marks b false ≡ true)

pub closed_In : (supers : List (List ℕ)) → IsClosed supers → (a b : ℕ) → IsIn b (up_of supers a) → b < length supers
closed_In supers h a b i =
    let r = get-In (listed_at supers a) b i in
    subst (λ (x : ℕ). x < length supers) r.2 (h.within a r.0 r.1)

pub Closing-first : (supers : List (List ℕ)) (class : ℕ) → IsClosed supers
    → Closing supers class (marks_after (replicate (length supers) false) (up_of supers class))
    (todo_after (replicate (length supers) false) [] (up_of supers class))
Closing-first supers class h =
    let n = length supers in
    let bs = up_of supers class in
    let blank = replicate n false in
    record {
      len = length-marks blank bs ∙ length-replicate n false;
      sound = sound;
      start = λ b i. marks_all blank bs b i (omega (arith, closed_In supers h class b i, length-replicate n false));
      on_list = on_list;
      done = done;
    }
  where
    sound : (b : ℕ) → get_or (marks_after (replicate (length supers) false) (up_of supers class)) b false ≡ true → Reached supers class b
    sound b e = elim (marks_only (replicate (length supers) false) (up_of supers class) b e) [
      | inl f ↦ absurd (none_marked (length supers) b f)
      | inr i ↦ (b, [], (i, refl))
    ]

    on_list : (b : ℕ) → IsIn b (todo_after (replicate (length supers) false) [] (up_of supers class))
        → get_or (marks_after (replicate (length supers) false) (up_of supers class)) b false ≡ true
    on_list b i = elim (todo_only (replicate (length supers) false) [] (up_of supers class) b i) [
      | inl f ↦ absurd f
      | inr t ↦ marks_all (replicate (length supers) false) (up_of supers class) b t
          (omega (arith, closed_In supers h class b t, length-replicate (length supers) false))
    ]

    done : (a b : ℕ) → get_or (marks_after (replicate (length supers) false) (up_of supers class)) a false ≡ true
        → IsIn b (up_of supers a) → IsIn a (todo_after (replicate (length supers) false) [] (up_of supers class))
        ⊎ (get_or (marks_after (replicate (length supers) false) (up_of supers class)) b false ≡ true)
    done a b e i = elim (todo_new (replicate (length supers) false) [] (up_of supers class) a e) [
      | inl f ↦ absurd (none_marked (length supers) a f)
      | inr t ↦ inl t
    ]

pub Closing-more : (supers : List (List ℕ)) (class : ℕ) (marks : List Bool) (todo : List ℕ) (next : ℕ) → IsClosed supers
    → Closing supers class marks (todo ++ next ∷ [])
    → Closing supers class (marks_after marks (up_of supers next)) (todo_after marks todo (up_of supers next))
Closing-more supers class marks todo next h c =
    record {
      len = length-marks marks bs ∙ c.len;
      sound = sound;
      start = λ b i. marks_keep marks bs b (c.start b i);
      on_list = on_list;
      done = done;
    }
  where
    bs : List ℕ
    bs = up_of supers next

    next_marked : get_or marks next false ≡ true
    next_marked = c.on_list next (In-last next todo)

    all_marked : (b : ℕ) → IsIn b (up_of supers next) → get_or (marks_after marks (up_of supers next)) b false ≡ true
    all_marked b i = marks_all marks (up_of supers next) b i (omega (arith, closed_In supers h next b i, c.len))

    sound : (b : ℕ) → get_or (marks_after marks (up_of supers next)) b false ≡ true → Reached supers class b
    sound b e = elim (marks_only marks (up_of supers next) b e) [
      | inl f ↦ c.sound b f
      | inr i ↦
          let w = c.sound next next_marked in
          (w.0, w.1 ++ b ∷ [], Walk-append (up_of supers) class next b (w.0 ∷ w.1) (b ∷ []) w.2 (i, refl))
    ]

    on_list : (b : ℕ) → IsIn b (todo_after marks todo (up_of supers next)) → get_or (marks_after marks (up_of supers next)) b false ≡ true
    on_list b i = elim (todo_only marks todo (up_of supers next) b i) [
      | inl t ↦ marks_keep marks (up_of supers next) b (c.on_list b (In-left b todo (next ∷ []) t))
      | inr t ↦ all_marked b t
    ]

    old : (a b : ℕ) → IsIn b (up_of supers a) → IsIn a (todo ++ next ∷ []) ⊎ (get_or marks b false ≡ true)
        → IsIn a (todo_after marks todo (up_of supers next)) ⊎ (get_or (marks_after marks (up_of supers next)) b false ≡ true)
    old a b i (inr f) = inr (marks_keep marks (up_of supers next) b f)
    old a b i (inl t) = elim (In-push a next todo t) [
      | inl u ↦ inl (todo_keep marks todo (up_of supers next) a u)
      | inr s ↦ inr (all_marked b (subst (λ (x : ℕ). IsIn b (up_of supers x)) s i))
    ]

    done : (a b : ℕ) → get_or (marks_after marks (up_of supers next)) a false ≡ true → IsIn b (up_of supers a)
        → IsIn a (todo_after marks todo (up_of supers next)) ⊎ (get_or (marks_after marks (up_of supers next)) b false ≡ true)
    done a b e i = elim (todo_new marks todo (up_of supers next) a e) [
      | inr t ↦ inl t
      | inl f ↦ old a b i (c.done a b f i)
    ]

-- with nothing left to be gone through
walk_marked : (supers : List (List ℕ)) (class : ℕ) (marks : List Bool) → Closing supers class marks [] → (a b : ℕ) (p : List ℕ)
    → get_or marks a false ≡ true → Walk (up_of supers) a p b → get_or marks b false ≡ true
walk_marked supers class marks c a b [] e w = subst (λ (x : ℕ). get_or marks x false ≡ true) w e
walk_marked supers class marks c a b (d ∷ p) e w = walk_marked supers class marks c d b p (go (c.done a d e w.0)) w.1
  where
    go : ⊥ ⊎ (get_or marks d false ≡ true) → get_or marks d false ≡ true
    go (inl x) = absurd x
    go (inr f) = f

pub Closing-end : (supers : List (List ℕ)) (class : ℕ) (marks : List Bool) → IsClosed supers → Closing supers class marks []
    → IsRow supers class marks
Closing-end supers class marks h c = record {
  len = c.len;
  marked = λ b l. same_truth (get_or marks b false) (leads_up (up_of supers) (length supers) class b) (to b) (from b);
}
  where
    to : (b : ℕ) → get_or marks b false ≡ true → leads_up (up_of supers) (length supers) class b ≡ true
    to b e = let w = c.sound b e in leads-from_any_Walk (up_of supers) (length supers) (closed_In supers h) class b w.0 w.1 w.2

    from : (b : ℕ) → leads_up (up_of supers) (length supers) class b ≡ true → get_or marks b false ≡ true
    from b e =
        let w = Walk-from_leads (up_of supers) (length supers) class b e in
        walk_marked supers class marks c w.0 b w.1 (c.start w.0 w.2.0) w.2.1

-- what a table lists can be marked
pub may_mark : (supers : List (List ℕ)) (class n : ℕ) (bs : List ℕ) → IsClosed supers → bs ≡ listed_at supers class
    → n ≡ length supers → (k d : ℕ) → k < length bs → get_or bs k d < n
may_mark supers class n bs h e f k d l =
    let a : k < length (listed_at supers class) = subst (λ (xs : List ℕ). k < length xs) e l in
    let b = h.within class k a in
    subst (λ (xs : List ℕ). get_or xs k d < n) (sym e)
    (subst (λ (m : ℕ). get_or (listed_at supers class) k d < m) (sym f)
    (subst (λ (x : ℕ). x < length supers) (get_or_default (listed_at supers class) k 0 d a) b))

-- the last of the list is a class
pub next_within : (supers : List (List ℕ)) (class : ℕ) (marks : List Bool) (todo rest : List ℕ) (next : ℕ)
    → Closing supers class marks todo → todo ≡ rest ++ next ∷ [] → next < length supers
next_within supers class marks todo rest next c e =
    let i : IsIn next todo = subst (λ (xs : List ℕ). IsIn next xs) (sym e) (In-last next rest) in
    omega (arith, c.len, marked_within marks next (c.on_list next i))

pub Closing-first_at : (supers : List (List ℕ)) (class : ℕ) (blank marks : List Bool) (none todo bs : List ℕ) → IsClosed supers
    → blank ≡ replicate (length supers) false → none ≡ [] → bs ≡ listed_at supers class → marks ≡ marks_after blank bs
    → todo ≡ todo_after blank none bs → Closing supers class marks todo
Closing-first_at supers class blank marks none todo bs h e f g p q =
    let a : marks ≡ marks_after (replicate (length supers) false) (listed_at supers class) = cc in
    let b : todo ≡ todo_after (replicate (length supers) false) [] (listed_at supers class) = cc in
    subst (λ (x : List Bool). Closing supers class x todo) (sym a)
    (subst (λ (x : List ℕ). Closing supers class (marks_after (replicate (length supers) false) (listed_at supers class)) x) (sym b)
    (Closing-first supers class h))

pub Closing-more_at : (supers : List (List ℕ)) (class : ℕ) (marks marks' : List Bool) (todo rest todo' bs : List ℕ) (next : ℕ)
    → IsClosed supers → Closing supers class marks todo → todo ≡ rest ++ next ∷ [] → bs ≡ listed_at supers next
    → marks' ≡ marks_after marks bs → todo' ≡ todo_after marks rest bs → Closing supers class marks' todo'
Closing-more_at supers class marks marks' todo rest todo' bs next h c e g p q =
    let a : marks' ≡ marks_after marks (listed_at supers next) = cc in
    let b : todo' ≡ todo_after marks rest (listed_at supers next) = cc in
    subst (λ (x : List Bool). Closing supers class x todo') (sym a)
    (subst (λ (x : List ℕ). Closing supers class (marks_after marks (listed_at supers next)) x) (sym b)
    (Closing-more supers class marks rest next h (subst (λ (x : List ℕ). Closing supers class marks x) e c)))

-- each turn leaves less to do
pub less_work : (supers : List (List ℕ)) (class : ℕ) (marks marks' : List Bool) (todo rest todo' bs : List ℕ) (next : ℕ)
    → IsClosed supers → Closing supers class marks todo → todo ≡ rest ++ next ∷ [] → bs ≡ listed_at supers next
    → marks' ≡ marks_after marks bs → todo' ≡ todo_after marks rest bs → open_count marks' + length todo' < open_count marks + length todo
less_work supers class marks marks' todo rest todo' bs next h c e g p q =
    let w = work_kept marks rest bs
    (λ x i. subst (λ (n : ℕ). x < n) (sym c.len) (closed_In supers h next x (subst (λ (xs : List ℕ). IsIn x xs) g i))) in
    let a : open_count marks' ≡ open_count (marks_after marks bs) = ap open_count p in
    let b : length todo' ≡ length (todo_after marks rest bs) = ap length q in
    let d : length todo ≡ length (rest ++ next ∷ []) = ap length e in
    omega (arith, w, a, b, d, length-append rest (next ∷ []))

pub Closing-end_at : (supers : List (List ℕ)) (class : ℕ) (marks row : List Bool) (todo : List ℕ) → IsClosed supers
    → Closing supers class marks todo → todo ≡ [] → row ≡ marks → IsRow supers class row
Closing-end_at supers class marks row todo h c e f =
    subst (λ (x : List Bool). IsRow supers class x) (sym f)
    (Closing-end supers class marks h (subst (λ (x : List ℕ). Closing supers class marks x) e c))
