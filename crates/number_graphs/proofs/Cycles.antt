-- Marking from a number comes to the end with exactly the numbers marked that ways lead to.
use Rattle.std.proofs.Common.{◌≡◌, ◌⊎◌, inl, inr, ℕ, ◌+◌, ◌<◌, ◌≤◌, Bool, false, List, [], ◌∷◌, ◌++◌, length, get_or, replicate}
use Rattle.std.proofs.Common.{Option, Some, None, subst, ap, arith, refl, ◌∙◌, sym, length-append}
use Rattle.std.specs.Prelude.{slice_get}
use Rattle.std.specs.Option.{option_map_or}
use Rattle.std.proofs.lemmas.Bool.{false≢true, cases_eq, cases_lt}
use Rattle.std.proofs.lemmas.List.{get_or_past, get_or-replicate, length-replicate}
use Rattle.std.proofs.lemmas.Option.{slice_get_within}
use Rattle.list_views.specs.Lists.{open_count}
use Rattle.number_graphs.specs.Graphs.{IsWay, Leads, IsOnCycle}
use Rattle.number_graphs.specs.Lists.{Has, row_at, Edge}
use Rattle.number_graphs.specs.Marking.{Front, AreReached, visit}
use Rattle.number_graphs.proofs.Marked.{Marked, Grows, visited, has_end, end_has_old, end_has}

-- ---- ways

way_more : (graph : List (List ℕ)) (way : List ℕ) (a b c : ℕ) → IsWay (Edge graph) a way b → Edge graph b c
    → IsWay (Edge graph) a (way ++ b ∷ []) c
way_more graph [] a b c w s = (w, s)
way_more graph (next ∷ way) a b c w s = (w.0, way_more graph way next b c w.1 s)

row_within : (found : Option (List ℕ)) (graph : List (List ℕ)) (a b : ℕ) → slice_get graph a ≡ found
    → Has (option_map_or (λ row. row) found []) b → a < length graph
row_within (Some row) graph a b e h = slice_get_within graph a row e
row_within None graph a b e h = absurd h

pub edge_within : (graph : List (List ℕ)) (a b : ℕ) → Edge graph a b → a < length graph
edge_within graph a b h = row_within (slice_get graph a) graph a b refl h

way_within : (graph : List (List ℕ)) (way : List ℕ) (a b : ℕ) → IsWay (Edge graph) a way b → a < length graph
way_within graph [] a b w = edge_within graph a b w
way_within graph (next ∷ way) a b w = edge_within graph a next w.0

-- what is on a cycle has a list
pub cycle_within : (graph : List (List ℕ)) (a : ℕ) → IsOnCycle (Edge graph) a → a < length graph
cycle_within graph a on = way_within graph on.0 a a on.1

-- ---- marking

pub record Spreads (graph : List (List ℕ)) (start : ℕ) (marks : List Bool) (todo : List ℕ) : Type 0 where
  pub count : length marks ≡ length graph
  pub sound : (b : ℕ) → Marked marks b → Leads (Edge graph) start b
  pub pending : (b : ℕ) → Has todo b → (b ≡ start) ⊎ Marked marks b
  pub closed : (a b : ℕ) → (a ≡ start) ⊎ Marked marks a → Edge graph a b → b < length graph → Marked marks b ⊎ Has todo a

unmarked : (n b : ℕ) → Marked (replicate n false) b → ⊥
unmarked n b m = false≢true (sym none ∙ m)
  where
    none : get_or (replicate n false) b false ≡ false
    none = elim (cases_lt b n) as (λ o. get_or (replicate n false) b false ≡ false) [
      | inl k ↦ get_or-replicate n b false false k
      | inr k ↦ get_or_past (replicate n false) b false (omega (arith, k, length-replicate {A = Bool} n false))
    ]

-- nothing is marked
pub begins : (graph : List (List ℕ)) (start : ℕ) (marks : List Bool) (todo : List ℕ) → marks ≡ replicate (length graph) false
    → todo ≡ start ∷ [] → Spreads graph start marks todo
begins graph start marks todo m t = subst (λ (x : List Bool). Spreads graph start x todo) (sym m)
    (subst (λ (y : List ℕ). Spreads graph start (replicate (length graph) false) y) (sym t) (record {
      count = length-replicate {A = Bool} (length graph) false;
      sound = λ b k. absurd (unmarked (length graph) b k);
      pending = λ b h. elim h as (λ o. (b ≡ start) ⊎ Marked (replicate (length graph) false) b) [ inl s ↦ inl (sym s) | inr n ↦ absurd n ];
      closed = λ a b from e l. elim from as (λ o. Marked (replicate (length graph) false) b ⊎ Has (start ∷ []) a) [
        | inl s ↦ inr (inl (sym s))
        | inr k ↦ absurd (unmarked (length graph) a k)
      ];
    }))

leads_on : (graph : List (List ℕ)) (start m b : ℕ) (marks : List Bool) → ((x : ℕ) → Marked marks x → Leads (Edge graph) start x)
    → (m ≡ start) ⊎ Marked marks m → Edge graph m b → Leads (Edge graph) start b
leads_on graph start m b marks sound (inl s) e = ([], subst (λ (x : ℕ). Edge graph x b) s e)
leads_on graph start m b marks sound (inr k) e =
    let w = sound m k in
    (w.0 ++ m ∷ [], way_more graph w.0 start m b w.1 e)

more_by : (graph : List (List ℕ)) (start m : ℕ) (marks : List Bool) (todo rest : List ℕ) (g : Front)
    → Spreads graph start marks todo → todo ≡ rest ++ m ∷ [] → Grows (row_at graph m) (record { marks = marks; todo = rest }) g
    → Spreads graph start g.marks g.todo
more_by graph start m marks todo rest g s t grows =
    let here : (m ≡ start) ⊎ Marked marks m = s.pending m (subst (λ (l : List ℕ). Has l m) (sym t) (end_has rest m)) in
    record {
      count = grows.count ∙ s.count;
      sound = λ b k. elim (grows.new b k) as (λ o. Leads (Edge graph) start b) [
        | inl old ↦ s.sound b old
        | inr new ↦ leads_on graph start m b marks s.sound here new.0
      ];
      pending = λ b h. elim (grows.todo_new b h) as (λ o. (b ≡ start) ⊎ Marked g.marks b) [
        | inl old ↦ elim (s.pending b (subst (λ (l : List ℕ). Has l b) (sym t) (end_has_old rest m b old))) as
            (λ o. (b ≡ start) ⊎ Marked g.marks b) [
              | inl same ↦ inl same
              | inr k ↦ inr (grows.keeps b k)
            ]
        | inr k ↦ inr k
      ];
      closed = λ a b from e l. elim (cases_eq a m) as (λ o. Marked g.marks b ⊎ Has g.todo a) [
        | inl same ↦ inl (grows.marked b (subst (λ (x : ℕ). Edge graph x b) same e) (subst (λ (n : ℕ). b < n) (sym s.count) l))
        | inr other ↦ elim (was a from) as (λ o. Marked g.marks b ⊎ Has g.todo a) [
          | inl old ↦ elim (s.closed a b old e l) as (λ o. Marked g.marks b ⊎ Has g.todo a) [
            | inl k ↦ inl (grows.keeps b k)
            | inr h ↦ elim (has_end rest m a (subst (λ (x : List ℕ). Has x a) t h)) as (λ o. Marked g.marks b ⊎ Has g.todo a) [
              | inl k ↦ inr (grows.todo_keeps a k)
              | inr e' ↦ absurd (other (sym e'))
            ]
          ]
          | inr h ↦ inr h
        ]
      ];
    }
  where
    was : (a : ℕ) → (a ≡ start) ⊎ Marked g.marks a → ((a ≡ start) ⊎ Marked marks a) ⊎ Has g.todo a
    was a (inl same) = inl (inl same)
    was a (inr k) = elim (grows.new a k) as (λ o. ((a ≡ start) ⊎ Marked marks a) ⊎ Has g.todo a) [
      | inl old ↦ inl (inr old)
      | inr new ↦ inr new.1
    ]

-- a number is gone on from
pub goes_on : (graph : List (List ℕ)) (start m : ℕ) (row : List ℕ) (marks marks' : List Bool) (todo rest todo' : List ℕ)
    → Spreads graph start marks todo → todo ≡ rest ++ m ∷ [] → row ≡ row_at graph m
    → record { marks = marks'; todo = todo' } ≡ visit row (record { marks = marks; todo = rest }) → Spreads graph start marks' todo'
goes_on graph start m row marks marks' todo rest todo' s t r e =
    let g : Front = record { marks = marks'; todo = todo' } in
    let grows : Grows row (record { marks = marks; todo = rest }) g = subst
    (λ (f : Front). Grows row (record { marks = marks; todo = rest }) f) (sym e)
    (visited row (record { marks = marks; todo = rest })) in
    more_by graph start m marks todo rest g s t (subst (λ (x : List ℕ). Grows x (record { marks = marks; todo = rest }) g) r grows)

-- less is left to be done
pub less_work : (m : ℕ) (row : List ℕ) (marks marks' : List Bool) (todo rest todo' : List ℕ) → todo ≡ rest ++ m ∷ []
    → record { marks = marks'; todo = todo' } ≡ visit row (record { marks = marks; todo = rest })
    → open_count marks' + length todo' < open_count marks + length todo
less_work m row marks marks' todo rest todo' t e =
    let begun : Front = record { marks = marks; todo = rest } in
    let work = (visited row begun).work in
    let now : open_count marks' + length todo' ≡ open_count (visit row begun).marks + length (visit row begun).todo = ap
    (λ (f : Front). open_count f.marks + length f.todo) e in
    let long : length todo ≡ length rest + 1 = ap length t ∙ length-append rest (m ∷ []) in
    omega (arith, work, now, long)

marked_along : (graph : List (List ℕ)) (start : ℕ) (marks : List Bool) (way : List ℕ) (a b : ℕ) → Spreads graph start marks []
    → (a ≡ start) ⊎ Marked marks a → IsWay (Edge graph) a way b → b < length graph → Marked marks b
marked_along graph start marks [] a b s from w l = elim (s.closed a b from w l) as (λ o. Marked marks b) [
  | inl k ↦ k
  | inr h ↦ absurd h
]
marked_along graph start marks (next ∷ way) a b s from w l =
    let k = elim (s.closed a next from w.0 (way_within graph way next b w.1)) as (λ o. Marked marks next) [
      | inl k ↦ k
      | inr h ↦ absurd h
    ] in
    marked_along graph start marks way next b s (inr k) w.1 l

-- nothing is left
pub ends : (graph : List (List ℕ)) (start : ℕ) (marks : List Bool) (todo : List ℕ) → Spreads graph start marks todo → todo ≡ []
    → AreReached graph start marks
ends graph start marks todo s t =
    let done : Spreads graph start marks [] = subst (λ (x : List ℕ). Spreads graph start marks x) t s in
    record {
      count = done.count;
      sound = done.sound;
      whole = λ b l leads. marked_along graph start marks leads.0 start b done
          (inl refl) leads.1 l;
    }
