-- Going on along ties in the order of the variables that they start from knows the most that links add up to.
use Rattle.std.proofs.Common.{◌≡◌, inl, inr, ℕ, zero, suc, ◌+◌, ◌<◌, ◌≤◌, Bool, true, false, cond, List, [], ◌∷◌, length, get_or}
use Rattle.std.proofs.Common.{set, replicate, ℤ, pos, ◌+ℤ◌, ◌≤ℤ◌, Option, Some, None, subst, ap, arith, refl, ◌∙◌, sym}
use Rattle.std.specs.Prelude.{◌&&◌, nat_lt, int_lt, slice_get}
use Rattle.std.specs.List.{All}
use Rattle.std.specs.List.Sorted.{IsNonDecreasingBy}
use Rattle.std.proofs.Math.ListN.{length-set}
use Rattle.std.proofs.lemmas.Bool.{true≢false, cases_eq, lt-ltb, and_parts}
use Rattle.std.proofs.lemmas.Int.{ints}
use Rattle.std.proofs.lemmas.List.{get_or-set_same, get_or-set_other, length-replicate}
use Rattle.std.proofs.lemmas.Option.{get_or_from_slice_get, slice_get_within, same_Some, none-some}
use Rattle.list_views.proofs.Quantified.{all_at}
use Rattle.list_views.proofs.Orders.{int_self, int_through}
use Rattle.rank_forms.specs.declared.rule_links.links.Come.{Come}
use Rattle.rank_forms.specs.declared.rule_links.links.Link.{Link}
use Rattle.rank_forms.specs.declared.rule_links.links.Tie.{Tie}
use Rattle.rank_forms.specs.rule_links.Links.{IsWay, total}
use Rattle.rank_forms.specs.rule_links.inner.Rising.{is_more, raised_by, raised}
use Rattle.rank_forms.specs.rule_links.Falls.{AreRising, ComesBy, IsAtLeast, IsGreatest, IsLongest}
use Rattle.rank_forms.specs.rule_links.Ties.{InTies, IsReached, Known}
use Rattle.rank_forms.specs.rule_links.inner.Searching.{AreBelow}
use Rattle.rank_forms.proofs.Reached.{AreReached, reached_more, none_before}

at_least_less : (known : Option Come) (a b : ℤ) → b ≤ℤ a → IsAtLeast known a → IsAtLeast known b
at_least_less None a b h k = k
at_least_less (Some come) a b h k = int_through b a come.by h k

-- what a tie raises
abbrev new_of : Come → Tie → Come
new_of come tie = record { by = come.by +ℤ tie.link.by; last = Some tie }

abbrev gone : Come → Tie → Known → Known
gone come tie known = set known tie.link.to (Some (new_of come tie))

-- what was known of a variable is known again
grown_set : (come : Come) (tie : Tie) (known : Known) (v : ℕ) (by : ℤ) → tie.link.to < length known
    → IsAtLeast (get_or known tie.link.to None) by → by ≤ℤ (come.by +ℤ tie.link.by) → v ≡ tie.link.to
    → IsAtLeast (get_or (gone come tie known) v None) by
grown_set come tie known v by low h less e = subst (λ (o : Option Come). IsAtLeast o by)
    (sym (ap (λ (x : ℕ). get_or (gone come tie known) x None) e ∙ get_or-set_same known tie.link.to (Some (new_of come tie)) None
    low)) less

-- a sum that is more: it is above what was known
record IsMore (known : Option Come) (sum : ℤ) (low : Bool) : Type 0 where
  pub there : low ≡ true
  pub above : (by : ℤ) → IsAtLeast known by → by ≤ℤ sum

more_is : (known : Option Come) (sum : ℤ) (low : Bool) → is_more known sum low ≡ true → IsMore known sum low
more_is None sum low e = record { there = e; above = λ by h. absurd h }
more_is (Some come) sum low e =
    let parts = and_parts (int_lt come.by sum) low e in
    record { there = parts.1; above = λ by h. above_all by come.by sum h parts.0 }
  where
    above_all : (a b c : ℤ) → a ≤ℤ b → int_lt b c ≡ true → a ≤ℤ c
    above_all a b c h e = omega (arith, ints)

no_more_cases : (test low : Bool) (by sum : ℤ) → int_lt by sum ≡ test → low ≡ true → (test && low) ≡ false → sum ≤ℤ by
no_more_cases true low by sum t l e = absurd (true≢false (sym l ∙ e))
no_more_cases false low by sum t l e = omega (arith, ints)

no_more : (known : Option Come) (sum : ℤ) (low : Bool) → low ≡ true → is_more known sum low ≡ false → IsAtLeast known sum
no_more None sum low l e = absurd (true≢false (sym l ∙ e))
no_more (Some come) sum low l e = no_more_cases (int_lt come.by sum) low come.by sum refl l e

-- the state between ties
abbrev Closes : Tie → Known → Type 0
Closes tie known = (come : Come) → get_or known tie.link.from None ≡ Some come
    → IsAtLeast (get_or known tie.link.to None) (come.by +ℤ tie.link.by)

-- how a variable was come to by the first n of the ties
abbrev ComesIn : List Tie → ℕ → ℕ → Known → ℕ → ℤ → Option Tie → Type 0
ComesIn ties first n known v by None = (v ≡ first) × (by ≡ pos 0)
ComesIn ties first n known v by (Some tie) = (k : ℕ) × (k < n) × (slice_get ties k ≡ Some tie) × (tie.link.to ≡ v) × (come : Come)
    × (get_or known tie.link.from None ≡ Some come) × (by ≡ come.by +ℤ tie.link.by)

abbrev AreLinkedIn : List Tie → ℕ → ℕ → Known → Type 0
AreLinkedIn ties first n known = (v : ℕ) (come : Come) → get_or known v None ≡ Some come → ComesIn ties first n known v come.by come.last

pub record IsRaising (ties : List Tie) (first n : ℕ) (known : Known) : Type 0 where
  pub below : AreBelow ties (length known)
  pub start : IsAtLeast (get_or known first None) (pos 0)
  pub closed : (k : ℕ) (tie : Tie) → k < n → slice_get ties k ≡ Some tie → Closes tie known
  pub reached : AreReached ties first known
  pub linked : AreLinkedIn ties first n known

-- one tie more
record IsRaised (tie : Tie) (old new : Known) : Type 0 where
  pub count : length new ≡ length old
  pub grown : (v : ℕ) (by : ℤ) → IsAtLeast (get_or old v None) by → IsAtLeast (get_or new v None) by
  pub other : (v : ℕ) → (v ≡ tie.link.to → ⊥) → get_or new v None ≡ get_or old v None
  pub closes : Closes tie new

raise_cases : (more : Bool) (come : Come) (tie : Tie) (known : Known) → tie.link.from < tie.link.to → tie.link.to < length known
    → get_or known tie.link.from None ≡ Some come → is_more (get_or known tie.link.to None) (come.by +ℤ tie.link.by)
    (nat_lt tie.link.to (length known)) ≡ more → IsRaised tie known (cond more (gone come tie known) known)
raise_cases true come tie known rise low at e =
    let m = more_is (get_or known tie.link.to None) (come.by +ℤ tie.link.by) (nat_lt tie.link.to (length known)) e in
    record {
      count = length-set known tie.link.to (Some (new_of come tie));
      grown = λ v by h. elim (cases_eq v tie.link.to) as (λ o. IsAtLeast (get_or (gone come tie known) v None) by) [
        | inl s ↦ let h' = subst (λ (x : ℕ). IsAtLeast (get_or known x None) by) s h in grown_set come tie known v by low h'
            (m.above by h') s
        | inr d ↦ subst (λ (o : Option Come). IsAtLeast o by)
            (sym (get_or-set_other known tie.link.to v (Some (new_of come tie)) None d)) h
      ];
      other = λ v d. get_or-set_other known tie.link.to v (Some (new_of come tie)) None d;
      closes = λ again f.
          let same = same_Some come again
          (sym at ∙ sym (get_or-set_other known tie.link.to tie.link.from (Some (new_of come tie)) None
          (apart tie.link.from tie.link.to rise)) ∙ f) in
          subst (λ (o : Option Come). IsAtLeast o (again.by +ℤ tie.link.by))
          (sym (get_or-set_same known tie.link.to (Some (new_of come tie)) None low))
          (subst (λ (c : Come). (c.by +ℤ tie.link.by) ≤ℤ (come.by +ℤ tie.link.by)) same (int_self (come.by +ℤ tie.link.by)));
    }
  where
    apart : (a b : ℕ) → a < b → a ≡ b → ⊥
    apart a b h e = absurd (omega (arith, h, e))
raise_cases false come tie known rise low at e = record {
  count = refl;
  grown = λ v by h. h;
  other = λ v d. refl;
  closes = λ again f. subst (λ (c : Come). IsAtLeast (get_or known tie.link.to None) (c.by +ℤ tie.link.by))
      (same_Some come again (sym at ∙ f))
      (no_more (get_or known tie.link.to None) (come.by +ℤ tie.link.by) (nat_lt tie.link.to (length known))
      (lt-ltb tie.link.to (length known) low) e);
}

from_cases : (found : Option Come) (tie : Tie) (known : Known) → tie.link.from < tie.link.to → tie.link.to < length known
    → get_or known tie.link.from None ≡ found → IsRaised tie known (raised_by found tie known)
from_cases None tie known rise low at = record {
  count = refl;
  grown = λ v by h. h;
  other = λ v d. refl;
  closes = λ come f. absurd
      (none-some come (sym at ∙ f));
}
from_cases (Some come) tie known rise low at = raise_cases
    (is_more (get_or known tie.link.to None) (come.by +ℤ tie.link.by) (nat_lt tie.link.to (length known))) come tie known rise low at refl

raised_is : (tie : Tie) (known : Known) → tie.link.from < tie.link.to → tie.link.to < length known → IsRaised tie known (raised tie known)
raised_is tie known rise low = from_cases (get_or known tie.link.from None) tie known rise low refl

-- what is known is reached
gone_reached : (ties : List Tie) (first : ℕ) (come : Come) (tie : Tie) (known : Known) → InTies ties tie.link
    → tie.link.to < length known → get_or known tie.link.from None ≡ Some come → AreReached ties first known
    → AreReached ties first (gone come tie known)
gone_reached ties first come tie known is low from h v found e = elim (cases_eq v tie.link.to) as (λ o. IsReached ties first v found.by) [
  | inl s ↦
      let same = same_Some (new_of come tie) found (sym (get_or-set_same known tie.link.to (Some (new_of come tie)) None low)
      ∙ ap (λ (x : ℕ). get_or (gone come tie known) x None) (sym s) ∙ e) in
      subst (λ (x : ℕ). IsReached ties first x found.by) (sym s)
      (subst (λ (c : Come). IsReached ties first tie.link.to c.by) same
      (reached_more ties first tie.link.from come.by (come.by +ℤ tie.link.by) tie.link (h tie.link.from come from) refl is refl))
  | inr d ↦ h v found (sym (get_or-set_other known tie.link.to v (Some (new_of come tie)) None d) ∙ e)
]

more_reached : (more : Bool) (ties : List Tie) (first : ℕ) (come : Come) (tie : Tie) (known : Known) → InTies ties tie.link
    → tie.link.to < length known → get_or known tie.link.from None ≡ Some come → AreReached ties first known
    → AreReached ties first (cond more (gone come tie known) known)
more_reached true ties first come tie known is low from h = gone_reached ties first come tie known is low from h
more_reached false ties first come tie known is low from h = h

found_reached : (found : Option Come) (ties : List Tie) (first : ℕ) (tie : Tie) (known : Known) → InTies ties tie.link
    → tie.link.to < length known → get_or known tie.link.from None ≡ found → AreReached ties first known
    → AreReached ties first (raised_by found tie known)
found_reached None ties first tie known is low from h = h
found_reached (Some come) ties first tie known is low from h = more_reached
    (is_more (get_or known tie.link.to None) (come.by +ℤ tie.link.by) (nat_lt tie.link.to (length known))) ties first come tie known
    is low from h

in_list : (ties : List Tie) (n : ℕ) (tie : Tie) → slice_get ties n ≡ Some tie → InTies ties tie.link
in_list [] n tie e = absurd (cc)
in_list (first ∷ rest) zero tie e = inl (ap (λ (t : Tie). t.link) (same_Some first tie e))
in_list (first ∷ rest) (suc n) tie e = inr (in_list rest n tie e)

in_order : (ties : List Tie) (k n : ℕ) (one other : Tie) → IsNonDecreasingBy (λ (tie : Tie). tie.link.from) ties → k ≤ n
    → slice_get ties k ≡ Some one → slice_get ties n ≡ Some other → one.link.from ≤ other.link.from
in_order ties k n one other sorted low e f =
    let a = get_or_from_slice_get ties k one one e in
    let b = get_or_from_slice_get ties n other one f in
    let h = sorted k n one low (slice_get_within ties n other f) in
    subst (λ (x : Tie). x.link.from ≤ other.link.from) a (subst (λ (y : Tie). (get_or ties k one).link.from ≤ y.link.from) b h)

-- how what was known was come to stays so
comes_still : (ties : List Tie) (first n : ℕ) (known new : Known) (v : ℕ) (by : ℤ) (last : Option Tie)
    → ((k : ℕ) (tie : Tie) → k < n → slice_get ties k ≡ Some tie → get_or new tie.link.from None ≡ get_or known tie.link.from None)
    → ComesIn ties first n known v by last → ComesIn ties first (n + 1) new v by last
comes_still ties first n known new v by None same h = h
comes_still ties first n known new v by (Some tie) same h = (h.0, longer h.0 n h.1, h.2, h.3, h.4, same h.0 tie h.1 h.2 ∙ h.5, h.6)
  where
    longer : (k n : ℕ) → k < n → k < n + 1
    longer k n less = omega (arith, less)

linked_gone : (ties : List Tie) (first n : ℕ) (come : Come) (tie : Tie) (known : Known) → slice_get ties n ≡ Some tie
    → tie.link.from < tie.link.to → tie.link.to < length known → get_or known tie.link.from None ≡ Some come
    → ((k : ℕ) (other : Tie) → k < n → slice_get ties k ≡ Some other → other.link.from ≤ tie.link.from)
    → AreLinkedIn ties first n known → AreLinkedIn ties first (n + 1) (gone come tie known)
linked_gone ties first n come tie known at rise low from before h v found e = elim (cases_eq v tie.link.to) as
    (λ o. ComesIn ties first (n + 1) (gone come tie known) v found.by found.last) [
      | inl s ↦
          let same = same_Some (new_of come tie) found (sym (get_or-set_same known tie.link.to (Some (new_of come tie)) None low)
          ∙ ap (λ (x : ℕ). get_or (gone come tie known) x None) (sym s) ∙ e) in
          subst (λ (c : Come). ComesIn ties first (n + 1) (gone come tie known) v c.by c.last) same
          (n, one_longer n, at, sym s, come, other_than tie.link.from (apart tie.link.from tie.link.to rise) ∙ from, refl)
      | inr d ↦ comes_still ties first n known (gone come tie known) v found.by found.last
          (λ k other less is. other_than other.link.from
          (under other.link.from tie.link.from tie.link.to (before k other less is) rise)) (h v found (sym (other_than v d) ∙ e))
    ]
  where
    other_than : (x : ℕ) → (x ≡ tie.link.to → ⊥) → get_or (gone come tie known) x None ≡ get_or known x None
    other_than x d = get_or-set_other known tie.link.to x (Some (new_of come tie)) None d

    one_longer : (n : ℕ) → n < n + 1
    one_longer n = omega arith

    apart : (a b : ℕ) → a < b → a ≡ b → ⊥
    apart a b h e = absurd (omega (arith, h, e))

    under : (a b c : ℕ) → a ≤ b → b < c → a ≡ c → ⊥
    under a b c h k e = absurd (omega (arith, h, k, e))

linked_still : (ties : List Tie) (first n : ℕ) (known : Known) → AreLinkedIn ties first n known → AreLinkedIn ties first (n + 1) known
linked_still ties first n known h v come e = comes_still ties first n known known v come.by come.last (λ k tie less is. refl) (h v come e)

linked_cases : (more : Bool) (ties : List Tie) (first n : ℕ) (come : Come) (tie : Tie) (known : Known) → slice_get ties n ≡ Some tie
    → tie.link.from < tie.link.to → tie.link.to < length known → get_or known tie.link.from None ≡ Some come
    → ((k : ℕ) (other : Tie) → k < n → slice_get ties k ≡ Some other → other.link.from ≤ tie.link.from)
    → AreLinkedIn ties first n known → AreLinkedIn ties first (n + 1) (cond more (gone come tie known) known)
linked_cases true ties first n come tie known at rise low from before h = linked_gone ties first n come tie known at rise low from before h
linked_cases false ties first n come tie known at rise low from before h = linked_still ties first n known h

linked_more : (found : Option Come) (ties : List Tie) (first n : ℕ) (tie : Tie) (known : Known) → slice_get ties n ≡ Some tie
    → tie.link.from < tie.link.to → tie.link.to < length known → get_or known tie.link.from None ≡ found
    → ((k : ℕ) (other : Tie) → k < n → slice_get ties k ≡ Some other → other.link.from ≤ tie.link.from)
    → AreLinkedIn ties first n known → AreLinkedIn ties first (n + 1) (raised_by found tie known)
linked_more None ties first n tie known at rise low from before h = linked_still ties first n known h
linked_more (Some come) ties first n tie known at rise low from before h = linked_cases
    (is_more (get_or known tie.link.to None) (come.by +ℤ tie.link.by) (nat_lt tie.link.to (length known))) ties first n come tie
    known at rise low from before h

pub raising_more : (ties : List Tie) (first n : ℕ) (known new : Known) (tie : Tie)
    → IsNonDecreasingBy (λ (tie : Tie). tie.link.from) ties → AreRising ties → slice_get ties n ≡ Some tie → new ≡ raised tie known
    → IsRaising ties first n known → IsRaising ties first (n + 1) new
raising_more ties first n known new tie sorted rising at e h =
    let rise = all_at (λ (tie : Tie). tie.link.from < tie.link.to) ties n tie rising at in
    let low = all_at (λ (tie : Tie). tie.link.to < length known) ties n tie h.below at in
    let r = raised_is tie known rise low in
    subst (λ (l : Known). IsRaising ties first (n + 1) l) (sym e) (record {
      below = subst (λ (c : ℕ). AreBelow ties c) (sym r.count) h.below;
      start = r.grown first (pos 0) h.start;
      closed = λ k other less is. elim (cases_eq k n) as (λ o. Closes other (raised tie known)) [
        | inl s ↦ subst (λ (t : Tie). Closes t (raised tie known)) (same_Some tie other (sym at ∙ ap (slice_get ties) (sym s) ∙ is))
            r.closes
        | inr d ↦ λ come f.
            let before : k < n = under k n less d in
            let order = in_order ties k n other tie sorted (under_too k n before) is at in
            let same = r.other other.link.from (apart other.link.from tie.link.from tie.link.to order rise) in
            r.grown other.link.to (come.by +ℤ other.link.by) (h.closed k other before is come (sym same ∙ f))
      ];
      reached = found_reached (get_or known tie.link.from None) ties first tie known (in_list ties n tie at) low refl h.reached;
      linked = linked_more (get_or known tie.link.from None) ties first n tie known at rise low refl
          (λ k other less is. in_order ties k n other tie sorted (under_too k n less) is at) h.linked;
    })
  where
    under : (a b : ℕ) → a < b + 1 → (a ≡ b → ⊥) → a < b
    under a b h d = omega (arith, h, d)

    under_too : (a b : ℕ) → a < b → a ≤ b
    under_too a b h = omega (arith, h)

    apart : (a b c : ℕ) → a ≤ b → b < c → a ≡ c → ⊥
    apart a b c h k e = absurd (omega (arith, h, k, e))

pub raising_first : (ties : List Tie) (first span : ℕ) (before : Known) → before ≡ replicate span None → first < span
    → AreBelow ties span → IsRaising ties first 0 (set before first (Some (record { by = pos 0; last = None })))
raising_first ties first span before b low below =
    let begun : Come = record { by = pos 0; last = None } in
    let n : length before ≡ span = ap length b ∙ length-replicate {A = Option Come} span None in
    record {
      below = subst (λ (k : ℕ). AreBelow ties k) (sym (length-set before first (Some begun) ∙ n)) below;
      start = subst (λ (o : Option Come). IsAtLeast o (pos 0))
          (sym (get_or-set_same before first (Some begun) None (subst (λ (k : ℕ). first < k) (sym n) low))) (int_self (pos 0));
      closed = λ k tie less is. absurd (omega (arith, less));
      reached = λ v come e. elim (cases_eq v first) as (λ o. IsReached ties first v come.by) [
        | inl s ↦
            let same = same_Some begun come
            (sym (get_or-set_same before first (Some begun) None (subst (λ (k : ℕ). first < k) (sym n) low))
            ∙ ap (λ (x : ℕ). get_or (set before first (Some begun)) x None) (sym s) ∙ e) in
            ([], sym s, ap (λ (c : Come). c.by) same)
        | inr d ↦ absurd (none_before span v come (ap (λ (l : Known). get_or l v None) (sym b)
            ∙ sym (get_or-set_other before first v (Some begun) None d) ∙ e))
      ];
      linked = λ v come e. elim (cases_eq v first) as (λ o. ComesIn ties first 0 (set before first (Some begun)) v come.by come.last) [
        | inl s ↦
            let same = same_Some begun come
            (sym (get_or-set_same before first (Some begun) None (subst (λ (k : ℕ). first < k) (sym n) low))
            ∙ ap (λ (x : ℕ). get_or (set before first (Some begun)) x None) (sym s) ∙ e) in
            subst (λ (c : Come). ComesIn ties first 0 (set before first (Some begun)) v c.by c.last) same (s, refl)
        | inr d ↦ absurd (none_before span v come (ap (λ (l : Known). get_or l v None) (sym b)
            ∙ sym (get_or-set_other before first v (Some begun) None d) ∙ e))
      ];
    }

-- a link among the ties is one of them by number
in_at : (ties : List Tie) (link : Link) → InTies ties link → (k : ℕ) × (tie : Tie) × (slice_get ties k ≡ Some tie) × (tie.link ≡ link)
in_at [] link h = absurd h
in_at (tie ∷ rest) link h = elim h as (λ o. (k : ℕ) × (t : Tie) × (slice_get (tie ∷ rest) k ≡ Some t) × (t.link ≡ link)) [
  | inl e ↦ (0, tie, refl, e)
  | inr r ↦ let w = in_at rest link r in (suc w.0, w.1, w.2, w.3)
]

on_way : (ties : List Tie) (known : Known) (u v : ℕ) (links : List Link) (by : ℤ)
    → ((k : ℕ) (tie : Tie) → slice_get ties k ≡ Some tie → Closes tie known) → IsWay (InTies ties) u links v
    → IsAtLeast (get_or known u None) by → IsAtLeast (get_or known v None) (by +ℤ total links)
on_way ties known u v [] by closed way at = subst (λ (x : ℕ). IsAtLeast (get_or known x None) (by +ℤ pos 0)) way
    (at_least_less (get_or known u None) by (by +ℤ pos 0) (plus_zero by) at)
  where
    plus_zero : (x : ℤ) → (x +ℤ pos 0) ≤ℤ x
    plus_zero x = omega (arith, ints)
on_way ties known u v (link ∷ rest) by closed way at =
    let w = in_at ties link way.0.is in
    let from : IsAtLeast (get_or known link.from None) by = subst (λ (x : ℕ). IsAtLeast (get_or known x None) by) (sym way.0.begins) at in
    let next = gone_on w.1 link known by w.3 (closed w.0 w.1 w.2) (get_or known link.from None) refl from in
    at_least_less (get_or known v None) ((by +ℤ link.by) +ℤ total rest) (by +ℤ (link.by +ℤ total rest))
    (joined by link.by (total rest)) (on_way ties known link.to v rest (by +ℤ link.by) closed way.1 next)
  where
    joined : (a b c : ℤ) → (a +ℤ (b +ℤ c)) ≤ℤ ((a +ℤ b) +ℤ c)
    joined a b c = omega (arith, ints)

    more : (a b c : ℤ) → a ≤ℤ b → (a +ℤ c) ≤ℤ (b +ℤ c)
    more a b c h = omega (arith, ints, h)

    gone_on : (tie : Tie) (link : Link) (known : Known) (by : ℤ) → tie.link ≡ link → Closes tie known → (found : Option Come)
        → get_or known link.from None ≡ found → IsAtLeast found by → IsAtLeast (get_or known link.to None) (by +ℤ link.by)
    gone_on tie link known by e closes None f at = absurd at
    gone_on tie link known by e closes (Some come) f at = subst (λ (l : Link). IsAtLeast (get_or known l.to None) (by +ℤ l.by)) e
        (at_least_less (get_or known tie.link.to None) (come.by +ℤ tie.link.by) (by +ℤ tie.link.by) (more by come.by tie.link.by at)
        (closes come (ap (λ (l : Link). get_or known l.from None) e ∙ f)))

raised_greatest : (ties : List Tie) (first n : ℕ) (known : Known) → length ties ≤ n → IsRaising ties first n known
    → IsGreatest ties first known
raised_greatest ties first n known past h links variable way =
    at_least_less (get_or known variable None) (pos 0 +ℤ total links) (total links) (zero_plus (total links))
    (on_way ties known first variable links (pos 0)
    (λ k tie is. h.closed k tie (below (slice_get_within ties k tie is) past) is) way h.start)
  where
    zero_plus : (x : ℤ) → x ≤ℤ (pos 0 +ℤ x)
    zero_plus x = omega (arith, ints)

    below : {a b c : ℕ} → a < b → b ≤ c → a < c
    below h k = omega (arith, h, k)

comes_by : (ties : List Tie) (first n : ℕ) (known : Known) (v : ℕ) (by : ℤ) (last : Option Tie)
    → ComesIn ties first n known v by last → ComesBy ties first known v by last
comes_by ties first n known v by None h = h
comes_by ties first n known v by (Some tie) h = (h.0, h.2, h.3, h.4, h.5, h.6)

pub raising_last : (ties : List Tie) (first n : ℕ) (known : Known) → length ties ≤ n → IsRaising ties first n known
    → IsLongest ties first known
raising_last ties first n known past h = record {
  greatest = raised_greatest ties first n known past h;
  reached = h.reached;
  linked
      = λ v come e. comes_by ties first n known v come.by come.last (h.linked v come e);
}
