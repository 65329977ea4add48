-- What changes where the numbers of a list are come to.
use Rattle.std.proofs.Common.{◌≡◌, ◌⊎◌, inl, inr, ℕ, ◌+◌, ◌<◌, Bool, true, false, cond, List, [], ◌∷◌, ◌++◌, length, get_or, set}
use Rattle.std.proofs.Common.{subst, arith, refl, ◌∙◌, sym, length-append}
use Rattle.std.specs.Prelude.{not, nat_lt}
use Rattle.std.proofs.Math.ListN.{length-set}
use Rattle.std.proofs.lemmas.Bool.{false≢true, true≢false, cases_eq, and_parts, and_cases, cases_lt, ltb-true, ltb-false, not-false}
use Rattle.std.proofs.lemmas.Bool.{not-true}
use Rattle.std.proofs.lemmas.List.{get_or-set_same, get_or-set_other, get_or_past}
use Rattle.std.proofs.lemmas.List.Sums.{sum_by-set}
use Rattle.list_views.proofs.Orders.{nat_lt_true}
use Rattle.list_views.specs.Lists.{open_count}
use Rattle.number_graphs.specs.Lists.{Has}
use Rattle.number_graphs.specs.Marking.{Front, is_open, come, visit}

abbrev pub Marked : List Bool → ℕ → Type 0
Marked marks x = get_or marks x false ≡ true

-- ---- lists

pub has_end : (xs : List ℕ) (b x : ℕ) → Has (xs ++ b ∷ []) x → Has xs x ⊎ (b ≡ x)
has_end [] b x (inl e) = inr e
has_end [] b x (inr n) = absurd n
has_end (y ∷ xs) b x (inl e) = inl (inl e)
has_end (y ∷ xs) b x (inr h) = elim (has_end xs b x h) as (λ o. Has (y ∷ xs) x ⊎ (b ≡ x)) [
  | inl k ↦ inl (inr k)
  | inr e ↦ inr e
]

pub end_has_old : (xs : List ℕ) (b x : ℕ) → Has xs x → Has (xs ++ b ∷ []) x
end_has_old [] b x h = absurd h
end_has_old (y ∷ xs) b x (inl e) = inl e
end_has_old (y ∷ xs) b x (inr h) = inr (end_has_old xs b x h)

pub end_has : (xs : List ℕ) (b : ℕ) → Has (xs ++ b ∷ []) b
end_has [] b = inl refl
end_has (y ∷ xs) b = inr (end_has xs b)

-- ---- marks

set_keeps : (marks : List Bool) (b x : ℕ) → Marked marks x → Marked (set marks b true) x
set_keeps marks b x e = elim (cases_eq x b) as (λ o. Marked (set marks b true) x) [
  | inl s ↦
      let l : b < length marks = elim (cases_lt b (length marks)) as (λ o. b < length marks) [
        | inl k ↦ k
        | inr k ↦ absurd (false≢true (sym (get_or_past marks x false (omega (arith, k, s))) ∙ e))
      ] in
      subst (λ (y : ℕ). Marked (set marks b true) y) (sym s) (get_or-set_same marks b true false l)
  | inr d ↦ get_or-set_other marks b x true false d ∙ e
]

-- ---- what the numbers of a list, that are come to, change

pub record Grows (row : List ℕ) (f g : Front) : Type 0 where
  pub count : length g.marks ≡ length f.marks
  pub keeps : (x : ℕ) → Marked f.marks x → Marked g.marks x
  pub marked : (x : ℕ) → Has row x → x < length f.marks → Marked g.marks x
  pub new : (x : ℕ) → Marked g.marks x → Marked f.marks x ⊎ (Has row x × Has g.todo x)
  pub todo_keeps : (x : ℕ) → Has f.todo x → Has g.todo x
  pub todo_new : (x : ℕ) → Has g.todo x → Has f.todo x ⊎ Marked g.marks x
  pub work : open_count g.marks + length g.todo ≡ open_count f.marks + length f.todo

-- a number without an open mark
closed_by : (b : ℕ) (f : Front) → is_open f.marks b ≡ false → b < length f.marks → Marked f.marks b
closed_by b f e l = elim (and_cases (nat_lt b (length f.marks)) (not (get_or f.marks b false)) e) as (λ o. Marked f.marks b) [
  | inl n ↦ let k = ltb-false b (length f.marks) n in absurd (omega (arith, k, l))
  | inr n ↦ not-false (get_or f.marks b false) n
]

come_by : (b : ℕ) (f : Front) (t : Bool) → is_open f.marks b ≡ t
    → Grows (b ∷ []) f (cond t (record { marks = set f.marks b true; todo = f.todo ++ b ∷ [] }) f)
come_by b f false e = record {
  count = refl;
  keeps = λ x m. m;
  marked = λ x h l. elim h as (λ o. Marked f.marks x) [
    | inl s ↦ subst (λ (y : ℕ). Marked f.marks y) s (closed_by b f e (subst (λ (y : ℕ). y < length f.marks) (sym s) l))
    | inr n ↦ absurd n
  ];
  new = λ x m. inl m;
  todo_keeps = λ x h. h;
  todo_new = λ x h. inl h;
  work = refl;
}
come_by b f true e =
    let both = and_parts (nat_lt b (length f.marks)) (not (get_or f.marks b false)) e in
    let low : b < length f.marks = nat_lt_true b (length f.marks) both.0 in
    let was : get_or f.marks b false ≡ false = not-true (get_or f.marks b false) both.1 in
    record {
      count = length-set f.marks b true;
      keeps = λ x m. set_keeps f.marks b x m;
      marked = λ x h l. elim h as (λ o. Marked (set f.marks b true) x) [
        | inl s ↦ subst (λ (y : ℕ). Marked (set f.marks b true) y) s (get_or-set_same f.marks b true false low)
        | inr n ↦ absurd n
      ];
      new = λ x m. elim (cases_eq x b) as (λ o. Marked f.marks x ⊎ (Has (b ∷ []) x × Has (f.todo ++ b ∷ []) x)) [
        | inl s ↦ inr (inl (sym s), subst (λ (y : ℕ). Has (f.todo ++ b ∷ []) y) (sym s) (end_has f.todo b))
        | inr d ↦ inl (sym (get_or-set_other f.marks b x true false d) ∙ m)
      ];
      todo_keeps = λ x h. end_has_old f.todo b x h;
      todo_new = λ x h. elim (has_end f.todo b x h) as (λ o. Has f.todo x ⊎ Marked (set f.marks b true) x) [
        | inl k ↦ inl k
        | inr s ↦ inr (subst (λ (y : ℕ). Marked (set f.marks b true) y) s (get_or-set_same f.marks b true false low))
      ];
      work =
          let s = sum_by-set (λ (m : Bool). cond m 0 1) f.marks b true false low in
          let t = rw was at s in
          omega (arith, t, length-append f.todo (b ∷ []));
    }

one_more : (b : ℕ) (row : List ℕ) (f g h : Front) → Grows (b ∷ []) f g → Grows row g h → Grows (b ∷ row) f h
one_more b row f g h first rest = record {
  count = rest.count ∙ first.count;
  keeps = λ x m. rest.keeps x (first.keeps x m);
  marked = λ x k l. elim k as (λ o. Marked h.marks x) [
    | inl s ↦ rest.keeps x (first.marked x (inl s) l)
    | inr k' ↦ rest.marked x k' (subst (λ (n : ℕ). x < n) (sym first.count) l)
  ];
  new = λ x m. elim (rest.new x m) as (λ o. Marked f.marks x ⊎ (Has (b ∷ row) x × Has h.todo x)) [
    | inl old ↦ elim (first.new x old) as (λ o. Marked f.marks x ⊎ (Has (b ∷ row) x × Has h.todo x)) [
      | inl older ↦ inl older
      | inr k ↦ inr (elim k.0 as (λ o. Has (b ∷ row) x) [ inl s ↦ inl s | inr n ↦ absurd n ], rest.todo_keeps x k.1)
    ]
    | inr k ↦ inr (inr k.0, k.1)
  ];
  todo_keeps = λ x k. rest.todo_keeps x (first.todo_keeps x k);
  todo_new = λ x k. elim (rest.todo_new x k) as (λ o. Has f.todo x ⊎ Marked h.marks x) [
    | inl old ↦ elim (first.todo_new x old) as (λ o. Has f.todo x ⊎ Marked h.marks x) [
      | inl older ↦ inl older
      | inr m ↦ inr (rest.keeps x m)
    ]
    | inr m ↦ inr m
  ];
  work = rest.work ∙ first.work;
}

pub visited : (row : List ℕ) (f : Front) → Grows row f (visit row f)
visited [] f = record {
  count = refl;
  keeps = λ x m. m;
  marked = λ x h l. absurd h;
  new = λ x m. inl m;
  todo_keeps = λ x h. h;
  todo_new = λ x h. inl h;
  work = refl;
}
visited (b ∷ row) f = one_more b row f (come b f) (visit row (come b f)) (come_by b f (is_open f.marks b) refl) (visited row (come b f))
