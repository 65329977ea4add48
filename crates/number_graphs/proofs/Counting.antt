-- Ranks by how many numbers each number leads to.
use Rattle.std.proofs.Common.{◌≡◌, inl, inr, ℕ, zero, suc, ◌+◌, ◌<◌, ◌≤◌, Bool, true, false, cond, List, [], ◌∷◌, ◌++◌, length}
use Rattle.std.proofs.Common.{get_or, subst, arith, refl, ◌∙◌, sym, length-append}
use Rattle.std.proofs.lemmas.Bool.{false≢true, cases_eq, cases_lt}
use Rattle.std.proofs.lemmas.List.{get_or_past, get_or_append_left, get_or_push}
use Rattle.std.proofs.lemmas.List.Sums.{sum_by-cons}
use Rattle.number_graphs.specs.Graphs.{IsOnCycle, IsLeastOnCycle}
use Rattle.number_graphs.specs.Lists.{Edge, Fall}
use Rattle.number_graphs.specs.Marking.{AreReached, marked_count}
use Rattle.number_graphs.proofs.Marked.{Marked}
use Rattle.number_graphs.proofs.Cycles.{edge_within}

-- ---- counts

-- the count, mark by mark
abbrev count : List Bool → ℕ
count [] = 0
count (true ∷ marks) = 1 + count marks
count (false ∷ marks) = count marks

counted : (marks : List Bool) → marked_count marks ≡ count marks
counted [] = refl
counted (true ∷ marks) = let k = sum_by-cons (λ (mark : Bool). cond mark 1 0) true marks in omega (arith, k, counted marks)
counted (false ∷ marks) = let k = sum_by-cons (λ (mark : Bool). cond mark 1 0) false marks in omega (arith, k, counted marks)

-- where every mark of the one list is one of the other, the one has no more
no_more : (ns ms : List Bool) → length ns ≡ length ms → ((x : ℕ) → Marked ns x → Marked ms x) → count ns ≤ count ms
no_more [] ms l among = omega arith
no_more (n ∷ ns) [] l among = omega (arith, l)
no_more (false ∷ ns) (false ∷ ms) l among = no_more ns ms (omega (arith, l)) (λ x m. among (suc x) m)
no_more (false ∷ ns) (true ∷ ms) l among = let k = no_more ns ms (omega (arith, l)) (λ x m. among (suc x) m) in omega (arith, k)
no_more (true ∷ ns) (false ∷ ms) l among = absurd (false≢true (among 0 refl))
no_more (true ∷ ns) (true ∷ ms) l among = let k = no_more ns ms (omega (arith, l)) (λ x m. among (suc x) m) in omega (arith, k)

-- and fewer, where one of the other is none of the one
fewer : (ns ms : List Bool) (b : ℕ) → length ns ≡ length ms → ((x : ℕ) → Marked ns x → Marked ms x) → (Marked ns b → ⊥)
    → Marked ms b → count ns < count ms
fewer [] [] b l among isnt is = absurd (false≢true is)
fewer [] (m ∷ ms) b l among isnt is = omega (arith, l)
fewer (n ∷ ns) [] b l among isnt is = omega (arith, l)
fewer (false ∷ ns) (true ∷ ms) zero l among isnt is = let k = no_more ns ms (omega (arith, l)) (λ x m. among (suc x) m) in omega (arith, k)
fewer (true ∷ ns) (m ∷ ms) zero l among isnt is = absurd (isnt refl)
fewer (false ∷ ns) (false ∷ ms) zero l among isnt is = absurd (false≢true is)
fewer (false ∷ ns) (false ∷ ms) (suc b) l among isnt is = fewer ns ms b (omega (arith, l)) (λ x m. among (suc x) m) isnt is
fewer (false ∷ ns) (true ∷ ms) (suc b) l among isnt is = let k = fewer ns ms b (omega (arith, l)) (λ x m. among (suc x) m) isnt is
    in omega (arith, k)
fewer (true ∷ ns) (false ∷ ms) (suc b) l among isnt is = absurd (false≢true (among 0 refl))
fewer (true ∷ ns) (true ∷ ms) (suc b) l among isnt is = let k = fewer ns ms b (omega (arith, l)) (λ x m. among (suc x) m) isnt is in
    omega (arith, k)

-- ---- what numbers lead to

marked_within : (marks : List Bool) (x : ℕ) → Marked marks x → x < length marks
marked_within marks x m = elim (cases_lt x (length marks)) as (λ o. x < length marks) [
  | inl k ↦ k
  | inr k ↦ absurd (false≢true (sym (get_or_past marks x false (omega (arith, k))) ∙ m))
]

-- a number leads to fewer than one that has an edge to it, where it isn't on a cycle
leads_to_fewer : (graph : List (List ℕ)) (a b : ℕ) (ms ns : List Bool) → AreReached graph a ms → AreReached graph b ns
    → Edge graph a b → b < length graph → (IsOnCycle (Edge graph) b → ⊥) → marked_count ns < marked_count ms
leads_to_fewer graph a b ms ns from_a from_b e l off =
    let k = fewer ns ms b (from_b.count ∙ sym from_a.count)
    (λ x m. from_a.whole x (subst (λ (n : ℕ). x < n) from_b.count (marked_within ns x m))
    (let w = from_b.sound x m in (b ∷ w.0, (e, w.1))))
    (λ m. off (from_b.sound b m))
    (from_a.whole b l ([], e)) in
    omega (arith, k, counted ns, counted ms)

-- a rank is one more than how many numbers a number leads to
pub record IsRank (graph : List (List ℕ)) (a rank : ℕ) : Type 0 where
  pub marks : List Bool
  pub reached : AreReached graph a marks
  pub is : rank ≡ marked_count marks + 1

-- the numbers below `n` have their ranks, and are on no cycle
pub record AreRanked (graph : List (List ℕ)) (ranks : List ℕ) (n : ℕ) : Type 0 where
  pub count : length ranks ≡ n
  pub ranked : (a : ℕ) → a < n → IsRank graph a (get_or ranks a 0)
  pub off : (a : ℕ) → a < n → IsOnCycle (Edge graph) a → ⊥

off_next : (graph : List (List ℕ)) (n : ℕ) (marks : List Bool) → n < length graph → AreReached graph n marks
    → get_or marks n false ≡ false → IsOnCycle (Edge graph) n → ⊥
off_next graph n marks l reached isnt on = false≢true (sym isnt ∙ reached.whole n l on)

-- one more number
pub one_ranked : (graph : List (List ℕ)) (ranks ranks' : List ℕ) (n rank : ℕ) (marks : List Bool) → n < length graph
    → AreRanked graph ranks n → AreReached graph n marks → get_or marks n false ≡ false → rank ≡ marked_count marks + 1
    → ranks' ≡ ranks ++ rank ∷ [] → AreRanked graph ranks' (n + 1)
one_ranked graph ranks ranks' n rank marks l done reached isnt is e = rw e (record {
  count = length-append ranks (rank ∷ []) ∙ (let c = done.count in omega (arith, c));
  ranked = λ a k. elim (cases_eq a n) as (λ o. IsRank graph a (get_or (ranks ++ rank ∷ []) a 0)) [
    | inl s ↦ subst (λ (x : ℕ). IsRank graph x (get_or (ranks ++ rank ∷ []) x 0)) (sym s)
        (record { marks = marks; reached = reached; is = at_end ∙ is })
    | inr d ↦ subst (λ (x : ℕ). IsRank graph a x)
        (sym (get_or_append_left ranks (rank ∷ []) 0 a (let c = done.count in omega (arith, c, k, d))))
        (done.ranked a (omega (arith, k, d)))
  ];
  off = λ a k. elim (cases_eq a n) as (λ o. IsOnCycle (Edge graph) a → ⊥) [
    | inl s ↦ subst (λ (x : ℕ). IsOnCycle (Edge graph) x → ⊥) (sym s) (off_next graph n marks l reached isnt)
    | inr d ↦ done.off a (omega (arith, k, d))
  ];
})
  where
    at_end : get_or (ranks ++ rank ∷ []) n 0 ≡ rank
    at_end = get_or_push ranks rank 0 n done.count

-- all have theirs
pub ranks_fall : (graph : List (List ℕ)) (ranks : List ℕ) (n : ℕ) → length graph ≤ n → n ≤ length graph → AreRanked graph ranks n
    → Fall graph ranks
ranks_fall graph ranks n l u done a b e = elim (cases_lt b (length graph)) as (λ o. get_or ranks b 0 < get_or ranks a 0) [
  | inl k ↦ let lower = leads_to_fewer graph a b from_a.marks (from_b k).marks from_a.reached (from_b k).reached e k
      (done.off b (omega (arith, k, l))) in
      let p = from_a.is in let q = (from_b k).is in omega (arith, lower, p, q)
  | inr k ↦ let past = get_or_past ranks b 0 (let c = done.count in omega (arith, c, k, u)) in let p = from_a.is in omega (arith, past, p)
]
  where
    within : a < length graph
    within = edge_within graph a b e

    from_a : IsRank graph a (get_or ranks a 0)
    from_a = done.ranked a (let w = within in omega (arith, w, l))

    from_b : b < length graph → IsRank graph b (get_or ranks b 0)
    from_b k = done.ranked b (omega (arith, k, l))

-- the first that is on a cycle is the least
pub cycle_found : (graph : List (List ℕ)) (ranks : List ℕ) (n : ℕ) (marks : List Bool) → AreRanked graph ranks n
    → AreReached graph n marks → get_or marks n false ≡ true → IsLeastOnCycle (Edge graph) n
cycle_found graph ranks n marks done reached is = record { on = reached.sound n is; least = done.off }
