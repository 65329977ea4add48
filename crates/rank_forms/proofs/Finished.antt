-- What is known once no tie leads on: there is one such list, and a trail leads to each variable that is known.
use Rattle.std.proofs.Common.{◌≡◌, inl, inr, ℕ, zero, suc, ◌+◌, ◌<◌, ◌≤◌, Bool, true, false, cond, List, [], ◌∷◌, length, get_or}
use Rattle.std.proofs.Common.{set, replicate, ℤ, pos, ◌+ℤ◌, Option, Some, None, subst, ap, arith, refl, ◌∙◌, sym}
use Rattle.std.specs.Prelude.{nat_lt, is_none}
use Rattle.std.proofs.Math.ListN.{length-set}
use Rattle.std.proofs.lemmas.Bool.{cases_eq, cases_lt}
use Rattle.std.proofs.lemmas.Bool.Decides.{nat_tests}
use Rattle.std.proofs.lemmas.List.{get_or-set_same, get_or-set_other, length-replicate}
use Rattle.std.proofs.lemmas.List.Sums.{sum_by-cons, sum_by-set}
use Rattle.std.proofs.lemmas.Option.{same_Some}
use Rattle.rank_forms.specs.declared.rule_links.links.Come.{Come}
use Rattle.rank_forms.specs.declared.rule_links.links.Tie.{Tie}
use Rattle.rank_forms.specs.rule_links.Ties.{IsFinished, Known, any_moves, begun, by_of, moves, passed, relaxed, span_from, step}
use Rattle.rank_forms.specs.rule_links.inner.Searching.{unknown}
use Rattle.rank_forms.specs.rule_links.Ties.{last_of, trail_by, trail_from}
use Rattle.rank_forms.proofs.FallRows.{Each}
use Rattle.rank_forms.proofs.Reached.{gone, kept_cases, move_is, none_before, relaxed_length, relaxed_still, step_unknown}
use Rattle.rank_forms.proofs.Trailed.{IsTrail}

-- ---- one list
later_passes : (ties : List Tie) (known : Known) (m n : ℕ) → m ≤ n → any_moves ties (passed m ties known) ≡ false
    → passed n ties known ≡ passed m ties known
later_passes ties known m zero less still = ap (λ (k : ℕ). passed k ties known) (none_less m less)
  where
    none_less : (a : ℕ) → a ≤ 0 → 0 ≡ a
    none_less a h = omega (arith, h)
later_passes ties known m (suc n) less still = elim (cases_lt n m) as (λ o. passed (suc n) ties known ≡ passed m ties known) [
  | inl past ↦ ap (λ (k : ℕ). passed k ties known) (same n m past less)
  | inr more ↦ ap (relaxed ties) (later_passes ties known m n more still) ∙ relaxed_still ties (passed m ties known) still
]
  where
    same : (a b : ℕ) → a < b → b ≤ suc a → suc a ≡ b
    same a b h k = omega (arith, h, k)

pub one_finished : (ties : List Tie) (first : ℕ) (a b : Known) → IsFinished ties first a → IsFinished ties first b → a ≡ b
one_finished ties first a b h k = elim (cases_lt h.0 k.0) as (λ o. a ≡ b) [
  | inl less ↦ h.1 ∙ sym (later_passes ties (begun ties first) h.0 k.0 (weaker h.0 k.0 less) (ap (any_moves ties) (sym h.1) ∙ h.2))
      ∙ sym k.1
  | inr more ↦ h.1 ∙ later_passes ties (begun ties first) k.0 h.0 more (ap (any_moves ties) (sym k.1) ∙ k.2) ∙ sym k.1
]
  where
    weaker : (a b : ℕ) → a < b → a ≤ b
    weaker a b h = omega (arith, h)

-- ---- trails
abbrev TrailIn : (Tie → Type 0) → ℕ → Known → ℕ → ℤ → List Tie → Type 0
TrailIn P first known v by [] = (come : Come) × (get_or known v None ≡ Some come) × (come.last ≡ None) × (v ≡ first) × (by ≡ pos 0)
TrailIn P first known v by (tie ∷ rest) = (come : Come) × (get_or known v None ≡ Some come) × (come.last ≡ Some tie) × P tie
    × (tie.link.to ≡ v) × (b : ℤ) × (by ≡ b +ℤ tie.link.by) × TrailIn P first known tie.link.from b rest

record HasTrail (P : Tie → Type 0) (first : ℕ) (known : Known) (v : ℕ) (by : ℤ) : Type 0 where
  pub ties : List Tie
  pub trail : TrailIn P first known v by ties
  pub short : length ties + unknown known < length known

abbrev AreTrailed : (Tie → Type 0) → ℕ → Known → Type 0
AreTrailed P first known = (v : ℕ) (come : Come) → get_or known v None ≡ Some come → HasTrail P first known v come.by

-- a move leaves the trails as they are
kept_trail : (P : Tie → Type 0) (first : ℕ) (known : Known) (moved : Tie) (v : ℕ) (by : ℤ) (ties : List Tie)
    → moves moved known ≡ true → TrailIn P first known v by ties → TrailIn P first (gone moved known) v by ties
kept_trail P first known moved v by [] e h = (h.0, kept_cases true moved known v h.0 e h.1, h.2, h.3, h.4)
kept_trail P first known moved v by (tie ∷ rest) e h =
    (h.0, kept_cases true moved known v h.0 e h.1, h.2, h.3, h.4, h.5, h.6, kept_trail P first known moved tie.link.from h.5 rest e h.7)

fewer : (known : Known) (moved : Tie) (n : ℕ) → moves moved known ≡ true → n + unknown known < length known
    → suc n + unknown (gone moved known) < length (gone moved known)
fewer known moved n e h =
    let u = step_unknown true moved known e in
    let l = length-set known moved.link.to
    (Some (record { by = by_of (get_or known moved.link.from None) +ℤ moved.link.by; last = Some moved })) in
    omega (arith, h, u, l)

fewer_still : (known : Known) (moved : Tie) (n : ℕ) → moves moved known ≡ true → n + unknown known < length known
    → n + unknown (gone moved known) < length (gone moved known)
fewer_still known moved n e h = let more = fewer known moved n e h in omega (arith, more)

gone_trailed : (P : Tie → Type 0) (first : ℕ) (tie : Tie) (known : Known) → P tie → moves tie known ≡ true
    → AreTrailed P first known → AreTrailed P first (gone tie known)
gone_trailed P first tie known is e h v come at =
    let m = move_is tie known e in
    let new : Come = record { by = by_of (get_or known tie.link.from None) +ℤ tie.link.by; last = Some tie } in
    elim (cases_eq v tie.link.to) as (λ o. HasTrail P first (gone tie known) v come.by) [
      | inl s ↦
          let there : get_or (gone tie known) tie.link.to None ≡ Some new = get_or-set_same known tie.link.to (Some new) None m.low in
          let same = same_Some new come (sym there ∙ ap (λ (x : ℕ). get_or (gone tie known) x None) (sym s) ∙ at) in
          let old = h tie.link.from m.come m.from in
          subst (λ (x : ℕ). HasTrail P first (gone tie known) x come.by) (sym s)
          (subst (λ (c : Come). HasTrail P first (gone tie known) tie.link.to c.by) same (record {
            ties = tie ∷ old.ties;
            trail = (
              new,
              there,
              refl,
              is,
              refl,
              m.come.by,
              ap (λ (o : Option Come). by_of o +ℤ tie.link.by) m.from,
              kept_trail P
                  first known tie tie.link.from m.come.by old.ties e old.trail,
            );
            short = fewer known tie (length old.ties) e old.short;
          }))
      | inr d ↦
          let old = h v come (sym (get_or-set_other known tie.link.to v (Some new) None d) ∙ at) in
          record {
            ties = old.ties;
            trail = kept_trail P first known tie v come.by old.ties e old.trail;
            short = fewer_still known
                tie (length old.ties) e old.short;
          }
    ]

step_trailed : (moved : Bool) (P : Tie → Type 0) (first : ℕ) (tie : Tie) (known : Known) → moves tie known ≡ moved → P tie
    → AreTrailed P first known → AreTrailed P first (cond moved (gone tie known) known)
step_trailed true P first tie known e is h = gone_trailed P first tie known is e h
step_trailed false P first tie known e is h = h

relaxed_trailed : (P : Tie → Type 0) (first : ℕ) (ties : List Tie) (known : Known) → Each P ties → AreTrailed P first known
    → AreTrailed P first (relaxed ties known)
relaxed_trailed P first [] known each h = h
relaxed_trailed P first (tie ∷ rest) known each h = relaxed_trailed P first rest (step tie known) each.1
    (step_trailed (moves tie known) P first tie known refl each.0 h)

passed_trailed : (P : Tie → Type 0) (first : ℕ) (ties : List Tie) (n : ℕ) (known : Known) → Each P ties → AreTrailed P first known
    → AreTrailed P first (passed n ties known)
passed_trailed P first ties zero known each h = h
passed_trailed P first ties (suc n) known each h = relaxed_trailed P first ties (passed n ties known) each
    (passed_trailed P first ties n known each h)

-- in the beginning the first variable is known
unknown_most : (known : Known) → unknown known ≤ length known
unknown_most [] = omega arith
unknown_most (come ∷ rest) = subst (λ (n : ℕ). n ≤ suc (length rest))
    (sym (sum_by-cons (λ (come : Option Come). cond (is_none come) 1 0) come rest))
    (one_more (is_none come) (unknown rest) (length rest) (unknown_most rest))
  where
    one_more : (b : Bool) (u n : ℕ) → u ≤ n → cond b 1 0 + u ≤ suc n
    one_more true u n h = omega (arith, h)
    one_more false u n h = omega (arith, h)

abbrev no_come : Option Come
no_come = None

none_at : (n v : ℕ) → get_or (replicate n None) v None ≡ no_come
none_at zero v = refl
none_at (suc n) zero = refl
none_at (suc n) (suc v) = none_at n v

begun_trailed : (P : Tie → Type 0) (first span : ℕ) → first < span
    → AreTrailed P first (set (replicate span None) first (Some (record { by = pos 0; last = None })))
begun_trailed P first span low v come at =
    let before : Known = replicate span None in
    let begun : Come = record { by = pos 0; last = None } in
    let count : length before ≡ span = length-replicate {A = Option Come} span None in
    let in' : first < length before = omega (arith, low, count) in
    elim (cases_eq v first) as (λ o. HasTrail P first (set before first (Some begun)) v come.by) [
      | inl s ↦
          let there : get_or (set before first (Some begun)) first None ≡ Some begun = get_or-set_same before first (Some begun)
          None in' in
          let same = same_Some begun come (sym there ∙ ap (λ (x : ℕ). get_or (set before first (Some begun)) x None) (sym s) ∙ at) in
          let adds = sum_by-set (λ (come : Option Come). cond (is_none come) 1 0) before first (Some begun) None in' in
          let none = none_at span first in
          let more = rw none at adds in
          let most = unknown_most before in
          let long = length-set before first (Some begun) in
          subst (λ (x : ℕ). HasTrail P first (set before first (Some begun)) x come.by) (sym s)
          (subst (λ (c : Come). HasTrail P first (set before first (Some begun)) first c.by) same (record {
            ties = [];
            trail = (begun, there, refl, refl, refl);
            short = omega (arith, more, most, long);
          }))
      | inr d ↦ absurd (none_before span v come (sym (get_or-set_other before first v (Some begun) None d) ∙ at))
    ]

span_least : (low : ℕ) (ties : List Tie) → low ≤ span_from low ties
span_least low [] = omega arith
span_least low (tie ∷ rest) = least_cases (nat_lt tie.link.to low) tie.link.to low
    (span_from (cond (nat_lt tie.link.to low) low (suc tie.link.to)) rest) refl
    (span_least (cond (nat_lt tie.link.to low) low (suc tie.link.to)) rest)
  where
    least_cases : (test : Bool) (to low whole : ℕ) → nat_lt to low ≡ test → cond test low (suc to) ≤ whole → low ≤ whole
    least_cases true to low whole e h = h
    least_cases false to low whole e h = let n = not_less to low e in omega (arith, n, h)
      where
        not_less : (a b : ℕ) → nat_lt a b ≡ false → b ≤ a
        not_less a b e = grind (arith, nat_tests)

-- the span is at most a number to which no tie leads
abbrev pub AreLow : ℕ → List Tie → Type 0
AreLow end ties = Each (λ (tie : Tie). tie.link.to < end) ties

span_most : (end low : ℕ) (ties : List Tie) → low ≤ end → AreLow end ties → span_from low ties ≤ end
span_most end low [] h each = h
span_most end low (tie ∷ rest) h each = span_most end (cond (nat_lt tie.link.to low) low (suc tie.link.to)) rest
    (most_cases (nat_lt tie.link.to low) tie.link.to low end h each.0) each.1
  where
    most_cases : (test : Bool) (to low end : ℕ) → low ≤ end → to < end → cond test low (suc to) ≤ end
    most_cases true to low end h k = h
    most_cases false to low end h k = omega (arith, k)

passed_length : (ties : List Tie) (n : ℕ) (known : Known) → length (passed n ties known) ≡ length known
passed_length ties zero known = refl
passed_length ties (suc n) known = relaxed_length ties (passed n ties known) ∙ passed_length ties n known

-- ---- the trail that is followed back
followed_trail : (P : Tie → Type 0) (first : ℕ) (known : Known) (n v : ℕ) (by : ℤ) (ties : List Tie)
    → TrailIn P first known v by ties → length ties < n → trail_from n known v ≡ ties
followed_trail P first known zero v by ties h less = absurd (omega (arith, less))
followed_trail P first known (suc n) v by [] h less = ap (λ (o : Option Tie). trail_by o (trail_from n known)) (ap last_of h.1 ∙ h.2)
followed_trail P first known (suc n) v by (tie ∷ rest) h less = ap (λ (o : Option Tie). trail_by o (trail_from n known))
    (ap last_of h.1 ∙ h.2)
    ∙ ap (λ (l : List Tie). tie ∷ l) (followed_trail P first known n tie.link.from h.5 rest h.7 (omega (arith, less)))

is_trail : (P : Tie → Type 0) (first : ℕ) (known : Known) (v : ℕ) (by : ℤ) (ties : List Tie) → TrailIn P first known v by ties
    → IsTrail P first v by ties
is_trail P first known v by [] h = (h.3, h.4)
is_trail P first known v by (tie ∷ rest) h = (h.3, h.4, h.5, h.6, is_trail P first known tie.link.from h.5 rest h.7)

-- ties of a kind lead to a variable that is known, and there are few
pub record IsGoneBack (P : Tie → Type 0) (first v : ℕ) (by : ℤ) (ties : List Tie) : Type 0 where
  pub trail : IsTrail P first v by ties
  pub short : length ties < 65536

pub gone_back : (P : Tie → Type 0) (ties : List Tie) (first v : ℕ) (known : Known) (come : Come) → Each P ties → AreLow 65536 ties
    → first < 65536 → IsFinished ties first known → get_or known v None ≡ Some come
    → IsGoneBack P first v come.by (trail_from (length known) known v)
gone_back P ties first v known come each low less done at =
    let all : AreTrailed P first known = subst (AreTrailed P first) (sym done.1)
    (passed_trailed P first ties done.0 (begun ties first) each
    (begun_trailed P first (span_from (suc first) ties) (span_least (suc first) ties))) in
    let has = all v come at in
    let short = has.short in
    let same = followed_trail P first known (length known) v come.by has.ties has.trail (omega (arith, short)) in
    let span = span_most 65536 (suc first) ties less low in
    let first_length : length (begun ties first) ≡ span_from (suc first) ties = length-set
    (replicate (span_from (suc first) ties) None) first (Some (record { by = pos 0; last = None }))
    ∙ length-replicate {A = Option Come} (span_from (suc first) ties) None in
    let whole : length known ≡ span_from (suc first) ties = ap length done.1 ∙ passed_length ties done.0 (begun ties first)
    ∙ first_length in
    subst (IsGoneBack P first v come.by) (sym same)
    (record { trail = is_trail P first known v come.by has.ties has.trail; short = omega (arith, short, span, whole) })
