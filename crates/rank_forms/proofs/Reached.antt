-- Going on along ties until none leads on knows exactly the variables that links lead to.
use Rattle.std.proofs.Common.{◌≡◌, inl, inr, ℕ, zero, suc, ◌+◌, ◌-◌, ◌<◌, ◌≤◌, Bool, true, false, cond, List, [], ◌∷◌, ◌++◌, length}
use Rattle.std.proofs.Common.{get_or, set, replicate, ℤ, pos, ◌+ℤ◌, Option, Some, None, subst, ap, arith, refl, ◌∙◌, sym}
use Rattle.std.specs.Prelude.{◌||◌, nat_lt, is_none}
use Rattle.std.proofs.Math.ListN.{length-set}
use Rattle.std.proofs.lemmas.Bool.{false≢true, true≢false, cases_eq, lt-ltb, ltb-true}
use Rattle.std.proofs.lemmas.Int.{ints}
use Rattle.std.proofs.lemmas.List.{get_or-set_same, get_or-set_other, length-replicate}
use Rattle.std.proofs.lemmas.List.Sums.{sum_by-set}
use Rattle.std.proofs.lemmas.Option.{same_Some, none-some}
use Rattle.rank_forms.specs.declared.rule_links.links.Come.{Come}
use Rattle.rank_forms.specs.declared.rule_links.links.Link.{Link}
use Rattle.rank_forms.specs.declared.rule_links.links.Tie.{Tie}
use Rattle.rank_forms.specs.rule_links.Links.{IsWay, total}
use Rattle.rank_forms.specs.rule_links.Ties.{InTies, IsReached, Known, moves_at, moves, by_of, step, relaxed, any_moves, begun, passed}
use Rattle.rank_forms.specs.rule_links.Ties.{span_from, IsFinished}
use Rattle.rank_forms.specs.rule_links.inner.Searching.{unknown, AreBelow}

-- a way that goes on by one link more
way_more : (kind : Link → Type 0) (u v : ℕ) (links : List Link) (link : Link) → IsWay kind u links v → link.from ≡ v → kind link
    → IsWay kind u (links ++ link ∷ []) link.to
way_more kind u v [] link way e is = (record { begins = e ∙ sym way; is = is }, refl)
way_more kind u v (x ∷ rest) link way e is = (way.0, way_more kind x.to v rest link way.1 e is)

total_more : (links : List Link) (link : Link) → total (links ++ link ∷ []) ≡ total links +ℤ link.by
total_more [] link = zeros link.by
  where
    zeros : (x : ℤ) → x +ℤ pos 0 ≡ pos 0 +ℤ x
    zeros x = omega (arith, ints)
total_more (x ∷ rest) link = ap (λ (t : ℤ). x.by +ℤ t) (total_more rest link) ∙ both x.by (total rest) link.by
  where
    both : (a b c : ℤ) → a +ℤ (b +ℤ c) ≡ (a +ℤ b) +ℤ c
    both a b c = omega (arith, ints)

pub reached_more : (ties : List Tie) (first u : ℕ) (by sum : ℤ) (link : Link) → IsReached ties first u by → link.from ≡ u
    → InTies ties link → sum ≡ by +ℤ link.by → IsReached ties first link.to sum
reached_more ties first u by sum link r e is s = (
  r.0 ++ link ∷ [],
  way_more (InTies ties) first u r.0 link r.1 e is,
  total_more r.0
      link ∙ ap (λ (t : ℤ). t +ℤ link.by) r.2 ∙ sym s,
)

-- what is known is reached
abbrev pub AreReached : List Tie → ℕ → Known → Type 0
AreReached ties first known = (v : ℕ) (come : Come) → get_or known v None ≡ Some come → IsReached ties first v come.by

-- what a move says
pub record IsMove (tie : Tie) (known : Known) : Type 0 where
  pub come : Come
  pub from : get_or known tie.link.from None ≡ Some come
  pub to : get_or known tie.link.to None ≡ None
  pub low : tie.link.to < length known

move_cases : (one other : Option Come) (low : Bool) (tie : Tie) (known : Known) → get_or known tie.link.from None ≡ one
    → get_or known tie.link.to None ≡ other → nat_lt tie.link.to (length known) ≡ low → moves_at one other low ≡ true → IsMove tie known
move_cases None other low tie known a b c e = absurd (false≢true e)
move_cases (Some come) (Some again) low tie known a b c e = absurd (false≢true e)
move_cases (Some come) None low tie known a b c e = record
    { come = come; from = a; to = b; low = ltb-true tie.link.to (length known) (c ∙ e) }

pub move_is : (tie : Tie) (known : Known) → moves tie known ≡ true → IsMove tie known
move_is tie known e = move_cases (get_or known tie.link.from None) (get_or known tie.link.to None)
    (nat_lt tie.link.to (length known)) tie known refl refl refl e

-- one tie
abbrev pub gone : Tie → Known → Known
gone tie known = set known tie.link.to (Some (record { by = by_of (get_or known tie.link.from None) +ℤ tie.link.by; last = Some tie }))

gone_reached : (ties : List Tie) (first : ℕ) (tie : Tie) (known : Known) → InTies ties tie.link → IsMove tie known
    → AreReached ties first known → AreReached ties first (gone tie known)
gone_reached ties first tie known is m h v come e = elim (cases_eq v tie.link.to) as (λ o. IsReached ties first v come.by) [
  | inl s ↦
      let new : Come = record { by = by_of (get_or known tie.link.from None) +ℤ tie.link.by; last = Some tie } in
      let same = same_Some new come (sym (get_or-set_same known tie.link.to (Some new) None m.low)
      ∙ ap (λ (x : ℕ). get_or (gone tie known) x None) (sym s) ∙ e) in
      subst (λ (x : ℕ). IsReached ties first x come.by) (sym s)
      (subst (λ (c : Come). IsReached ties first tie.link.to c.by) same
      (reached_more ties first tie.link.from m.come.by new.by tie.link (h tie.link.from m.come m.from) refl is
      (ap (λ (o : Option Come). by_of o +ℤ tie.link.by) m.from)))
  | inr d ↦ h v come (sym
      (get_or-set_other known tie.link.to v
      (Some (record { by = by_of (get_or known tie.link.from None) +ℤ tie.link.by; last = Some tie })) None d) ∙ e)
]

step_cases : (moved : Bool) (ties : List Tie) (first : ℕ) (tie : Tie) (known : Known) → moves tie known ≡ moved
    → InTies ties tie.link → AreReached ties first known → AreReached ties first (cond moved (gone tie known) known)
step_cases true ties first tie known e is h = gone_reached ties first tie known is (move_is tie known e) h
step_cases false ties first tie known e is h = h

relaxed_reached : (ties rest : List Tie) (first : ℕ) (known : Known) → ((link : Link) → InTies rest link → InTies ties link)
    → AreReached ties first known → AreReached ties first (relaxed rest known)
relaxed_reached ties [] first known part h = h
relaxed_reached ties (tie ∷ rest) first known part h = relaxed_reached ties rest first (step tie known)
    (λ link i. part link (inr i)) (step_cases (moves tie known) ties first tie known refl (part tie.link (inl refl)) h)

-- lengths, and what stays known
gone_length : (moved : Bool) (tie : Tie) (known : Known) → length (cond moved (gone tie known) known) ≡ length known
gone_length true tie known = length-set known tie.link.to
    (Some (record { by = by_of (get_or known tie.link.from None) +ℤ tie.link.by; last = Some tie }))
gone_length false tie known = refl

pub relaxed_length : (rest : List Tie) (known : Known) → length (relaxed rest known) ≡ length known
relaxed_length [] known = refl
relaxed_length (tie ∷ rest) known = relaxed_length rest (step tie known) ∙ gone_length (moves tie known) tie known

-- less is unknown after each move
pub step_unknown : (moved : Bool) (tie : Tie) (known : Known) → moves tie known ≡ moved
    → unknown (cond moved (gone tie known) known) + cond moved 1 0 ≡ unknown known
step_unknown false tie known e = plus_zero (unknown known)
  where
    plus_zero : (n : ℕ) → n + 0 ≡ n
    plus_zero n = omega arith
step_unknown true tie known e =
    let m = move_is tie known e in
    let s = sum_by-set (λ (come : Option Come). cond (is_none come) 1 0) known tie.link.to
    (Some (record { by = by_of (get_or known tie.link.from None) +ℤ tie.link.by; last = Some tie })) None m.low in
    let t = rw m.to at s in
    omega (arith, t)

pub relaxed_unknown : (rest : List Tie) (known : Known) → unknown (relaxed rest known) ≤ unknown known
relaxed_unknown [] known = omega arith
relaxed_unknown (tie ∷ rest) known =
    let one = step_unknown (moves tie known) tie known refl in
    let more = relaxed_unknown rest (step tie known) in
    omega (arith, one, more)

less_cases : (moved : Bool) (tie : Tie) (rest : List Tie) (known : Known) → moves tie known ≡ moved
    → (moved || any_moves rest (cond moved (gone tie known) known)) ≡ true
    → (any_moves rest (cond moved (gone tie known) known) ≡ true → unknown (relaxed rest (cond moved (gone tie known) known)) <
    unknown (cond moved (gone tie known) known)) → unknown (relaxed rest (cond moved (gone tie known) known)) < unknown known
less_cases true tie rest known e any more =
    let one = step_unknown true tie known e in
    let after = relaxed_unknown rest (gone tie known) in
    omega (arith, one, after)
less_cases false tie rest known e any more = more any

less_unknown : (rest : List Tie) (known : Known) → any_moves rest known ≡ true → unknown (relaxed rest known) < unknown known
less_unknown [] known e = absurd (false≢true e)
less_unknown (tie ∷ rest) known e = less_cases (moves tie known) tie rest known refl e (λ h. less_unknown rest (step tie known) h)

-- nothing moves
record IsStill (rest : List Tie) (known : Known) : Type 0 where
  pub same : relaxed rest known ≡ known
  pub none : any_moves rest known ≡ false

still_cases : (moved : Bool) (tie : Tie) (rest : List Tie) (known : Known)
    → (moved || any_moves rest (cond moved (gone tie known) known)) ≡ false → (moved ≡ false) × (any_moves rest known ≡ false)
still_cases true tie rest known e = absurd (true≢false e)
still_cases false tie rest known e = (refl, e)

step_still : (moved : Bool) (tie : Tie) (known : Known) → moved ≡ false → cond moved (gone tie known) known ≡ known
step_still true tie known e = absurd (true≢false e)
step_still false tie known e = refl

pub relaxed_still : (rest : List Tie) (known : Known) → any_moves rest known ≡ false → relaxed rest known ≡ known
relaxed_still [] known e = refl
relaxed_still (tie ∷ rest) known e =
    let parts = still_cases (moves tie known) tie rest known e in
    ap (relaxed rest) (step_still (moves tie known) tie known parts.0) ∙ relaxed_still rest known parts.1

-- a tie from a known variable leads to a known one
next_cases : (one other : Option Come) (low : Bool) (come : Come) → one ≡ Some come → low ≡ true → moves_at one other low ≡ false
    → (next : Come) × (other ≡ Some next)
next_cases None other low come e l m = absurd (none-some come e)
next_cases (Some a) (Some b) low come e l m = (b, refl)
next_cases (Some a) None low come e l m = absurd (true≢false (sym l ∙ m))

next_known : (rest : List Tie) (known : Known) (link : Link) (come : Come) → any_moves rest known ≡ false → InTies rest link
    → link.to < length known → get_or known link.from None ≡ Some come → (next : Come) × (get_or known link.to None ≡ Some next)
next_known [] known link come e is low from = absurd is
next_known (tie ∷ rest) known link come e is low from =
    let parts = still_cases (moves tie known) tie rest known e in
    elim is as (λ o. (next : Come) × (get_or known link.to None ≡ Some next)) [
      | inl s ↦ subst (λ (l : Link). (next : Come) × (get_or known l.to None ≡ Some next)) s
          (next_cases (get_or known tie.link.from None) (get_or known tie.link.to None) (nat_lt tie.link.to (length known)) come
          (subst (λ (l : Link). get_or known l.from None ≡ Some come) (sym s) from)
          (lt-ltb tie.link.to (length known) (subst (λ (l : Link). l.to < length known) (sym s) low)) parts.0)
      | inr r ↦ next_known rest known link come parts.1 r low from
    ]

-- ties lead below a number
below_in : (ties : List Tie) (span : ℕ) (link : Link) → AreBelow ties span → InTies ties link → link.to < span
below_in [] span link all is = absurd is
below_in (tie ∷ rest) span link all is = elim is as (λ o. link.to < span) [
  | inl s ↦ subst (λ (l : Link). l.to < span) s (all 0 tie (omega arith))
  | inr r ↦ below_in rest span link (λ k d low. all (suc k) d (omega (arith, low))) r
]

on_way : (ties : List Tie) (known : Known) (u v : ℕ) (links : List Link) (come : Come) → any_moves ties known ≡ false
    → AreBelow ties (length known) → IsWay (InTies ties) u links v → get_or known u None ≡ Some come → (last : Come)
    × (get_or known v None ≡ Some last)
on_way ties known u v [] come still below way at = (come, ap (λ (x : ℕ). get_or known x None) (sym way) ∙ at)
on_way ties known u v (link ∷ rest) come still below way at =
    let begun : get_or known link.from None ≡ Some come = ap (λ (x : ℕ). get_or known x None) way.0.begins ∙ at in
    let next = next_known ties known link come still way.0.is (below_in ties (length known) link below way.0.is) begun in
    on_way ties known link.to v rest next.0 still below way.1 next.1

-- what holds between passes
pub record IsRelaxing (ties : List Tie) (first : ℕ) (any : Bool) (known : Known) : Type 0 where
  pub reached : AreReached ties first known
  pub below : AreBelow ties (length known)
  pub start : (come : Come) × (get_or known first None ≡ Some come)
  pub still : any ≡ false → any_moves ties known ≡ false
  pub times : (n : ℕ) × (known ≡ passed n ties (begun ties first))

pub kept_cases : (moved : Bool) (tie : Tie) (known : Known) (v : ℕ) (come : Come) → moves tie known ≡ moved
    → get_or known v None ≡ Some come → get_or (cond moved (gone tie known) known) v None ≡ Some come
kept_cases false tie known v come e at = at
kept_cases true tie known v come e at =
    let m = move_is tie known e in
    elim (cases_eq v tie.link.to) as (λ o. get_or (gone tie known) v None ≡ Some come) [
      | inl s ↦ absurd (none-some come (sym m.to ∙ ap (λ (x : ℕ). get_or known x None) (sym s) ∙ at))
      | inr d ↦ get_or-set_other known tie.link.to v
          (Some (record { by = by_of (get_or known tie.link.from None) +ℤ tie.link.by; last = Some tie })) None d ∙ at
    ]

kept : (rest : List Tie) (known : Known) (v : ℕ) (come : Come) → get_or known v None ≡ Some come
    → get_or (relaxed rest known) v None ≡ Some come
kept [] known v come at = at
kept (tie ∷ rest) known v come at = kept rest (step tie known) v come (kept_cases (moves tie known) tie known v come refl at)

pub none_before : (n v : ℕ) (come : Come) → get_or (replicate n None) v None ≡ Some come → ⊥
none_before zero v come e = none-some come e
none_before (suc n) zero come e = none-some come e
none_before (suc n) (suc v) come e = none_before n v come e

pub relaxing_first : (ties : List Tie) (first span : ℕ) (before : Known) → before ≡ replicate span None
    → span ≡ span_from (suc first) ties → first < span → AreBelow ties span
    → IsRelaxing ties first true (set before first (Some (record { by = pos 0; last = None })))
relaxing_first ties first span before b value low below =
    let begun : Come = record { by = pos 0; last = None } in
    let n : length before ≡ span = ap length b ∙ length-replicate {A = Option Come} span None in
    let in' : first < length before = omega (arith, low, n) in
    record {
      reached = λ v come e. elim (cases_eq v first) as (λ o. IsReached ties first v come.by) [
        | inl s ↦
            let same = same_Some begun come (sym (get_or-set_same before first (Some begun) None in')
            ∙ ap (λ (x : ℕ). get_or (set before first (Some begun)) x None) (sym s) ∙ e) in
            ([], sym s, ap (λ (c : Come). c.by) same)
        | inr d ↦ absurd (none_before span v come (ap (λ (l : Known). get_or l v None) (sym b)
            ∙ sym (get_or-set_other before first v (Some begun) None d) ∙ e))
      ];
      below = subst (λ (k : ℕ). AreBelow ties k) (sym (length-set before first (Some begun) ∙ n)) below;
      start = (begun, get_or-set_same before first (Some begun) None in');
      still = λ e. absurd (true≢false e);
      times = (0, ap (λ (l : Known). set l first (Some begun)) (b ∙ ap (λ (k : ℕ). replicate k None) value));
    }

pub relaxing_more : (ties : List Tie) (first : ℕ) (any moved : Bool) (known new : Known) → moved ≡ any_moves ties known
    → new ≡ relaxed ties known → IsRelaxing ties first any known → IsRelaxing ties first moved new
relaxing_more ties first any moved known new m n h = subst (λ (k : Known). IsRelaxing ties first moved k) (sym n) (record {
  reached = relaxed_reached ties ties first known (λ link i. i) h.reached;
  below = subst (λ (k : ℕ). AreBelow ties k) (sym (relaxed_length ties known)) h.below;
  start = (h.start.0, kept ties known first h.start.0 h.start.1);
  still = λ e. let none = sym m ∙ e in subst (λ (k : Known). any_moves ties k ≡ false) (sym (relaxed_still ties known none)) none;
  times = (suc h.times.0, ap (relaxed ties) h.times.1);
})

-- in the end
pub relaxing_done : (ties : List Tie) (first : ℕ) (any : Bool) (known : Known) → any ≡ false → IsRelaxing ties first any known
    → IsFinished ties first known
relaxing_done ties first any known e h = (h.times.0, h.times.1, h.still e)

less_left : (any moved : Bool) (new old : ℕ) → any ≡ true → (moved ≡ true → new < old) → new ≤ old
    → new + cond moved 1 0 < old + cond any 1 0
less_left true true new old e less most = let l = less refl in omega (arith, l)
less_left true false new old e less most = omega (arith, most)
less_left false moved new old e less most = absurd (false≢true e)

pub relaxing_less : (ties : List Tie) (any moved : Bool) (known new : Known) → any ≡ true → moved ≡ any_moves ties known
    → new ≡ relaxed ties known → unknown new + cond moved 1 0 < unknown known + cond any 1 0
relaxing_less ties any moved known new e m n =
    let same : unknown new ≡ unknown (relaxed ties known) = ap unknown n in
    let most = relaxed_unknown ties known in
    less_left any moved (unknown new) (unknown known) e
    (λ h. let less = less_unknown ties known (sym m ∙ h) in omega (arith, less, same)) (omega (arith, most, same))

pub relaxing_last : (ties : List Tie) (first : ℕ) (any : Bool) (known : Known) (variable : ℕ) (by : ℤ) → any ≡ false
    → IsRelaxing ties first any known → IsReached ties first variable by → (come : Come) × (get_or known variable None ≡ Some come)
relaxing_last ties first any known variable by e h r = on_way ties known first variable r.0 h.start.0 (h.still e) h.below r.1 h.start.1

-- one more of which nothing is known
none_again : (known : Known) (k : ℕ) → (known ++ None ∷ []) ++ replicate k None ≡ known ++ replicate (suc k) None
none_again [] k = refl
none_again (x ∷ rest) k = ap (λ (l : Known). x ∷ l) (none_again rest k)

pub none_more : (known new : Known) (n count : ℕ) (all : Known) → n < count → new ≡ known ++ None ∷ []
    → known ++ replicate (count - n) None ≡ all → new ++ replicate (count - (n + 1)) None ≡ all
none_more known new n count all low e h =
    let s : suc (count - (n + 1)) ≡ count - n = omega arith in
    ap (λ (l : Known). l ++ replicate (count - (n + 1)) None) e ∙ none_again known (count - (n + 1))
    ∙ ap (λ (k : ℕ). known ++ replicate k None) s ∙ h
