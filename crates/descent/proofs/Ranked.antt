-- A rank step: a form that never rises, and falls on the strict rules.
use Rattle.std.proofs.Common.{◌≡◌, ◌⊎◌, inl, inr, ℕ, zero, suc, Bool, true, false, cond, eqb, List, [], ◌∷◌, ℤ, pos, negsuc, ◌+ℤ◌}
use Rattle.std.proofs.Common.{◌≤ℤ◌, Option, Some, None, subst, ap, arith, refl, ◌∙◌, sym}
use Rattle.std.specs.Prelude.{nat_lt, slice_get}
use Rattle.std.proofs.lemmas.Bool.{false≢true, eqb-true, eq-eqb, or_left, or_right}
use Rattle.std.proofs.lemmas.Bool.Decides.{nat_tests}
use Rattle.std.proofs.lemmas.Int.{ints}
use Rattle.std.proofs.lemmas.Option.{get_or_from_slice_get, slice_get_within}
use Rattle.list_views.proofs.Truths.{or_second}
use mathlib.Core.WellFounded.{Acc}
use Rattle.descent.specs.declared.faults.DescentFault.{DescentFault}
use Rattle.descent.specs.declared.proof.RankRule.{RankRule}
use Rattle.descent.specs.declared.proof.RankRule.TheVariants.{Weak, Strict}
use Rattle.descent.specs.declared.rules.PathRule.{PathRule}
use Rattle.descent.specs.Chains.{Turn}
use Rattle.descent.specs.Conditions.{AreRules, IsRule}
use Rattle.descent.specs.Orders.{OrderLaws, Says, Worth}
use Rattle.descent.specs.Splits.{has, edge_fault}
use Rattle.descent.specs.Steps.{rule_of, listed_fault, rank_fault, weak_ones}
use Rattle.descent.specs.Valuations.{Valuation, Meets}
use Rattle.descent.proofs.Moving.{Moves, EndsAt, Ends, outside}

-- what a listed rule shows
pub record WeakAt (weak : Says) (number : ℕ) (rule : PathRule) (left : List ℕ) : Type 0 where
  pub fall : List (ℕ × ℤ)
  pub shown : weak number rule fall ≡ None
  pub stays : has left number ≡ true

pub record StrictAt (strict bounded : Says) (number : ℕ) (rule : PathRule) : Type 0 where
  pub fall : List (ℕ × ℤ)
  pub bound : List (ℕ × ℤ)
  pub shown : strict number rule fall ≡ None
  pub starts : bounded number rule bound ≡ None

pub edge_none : (a b : Option DescentFault) → edge_fault a b ≡ None → (a ≡ None) × (b ≡ None)
edge_none None b e = (refl, e)
edge_none (Some fault) b e = absurd (cc)

weak_more : (listed : RankRule) (more : List RankRule) (number : ℕ) → has (weak_ones more) number ≡ true
    → has (weak_ones (listed ∷ more)) number ≡ true
weak_more (Weak n fall) more number h = or_right (eqb n number) (has (weak_ones more) number) h
weak_more (Strict n fall bound) more number h = h

ranked_here : (weak strict bounded : Says) (listed : RankRule) (more : List RankRule) (number : ℕ) (rule : PathRule)
    → rule_of listed ≡ number → listed_fault weak strict bounded listed (Some rule) ≡ None
    → WeakAt weak number rule (weak_ones (listed ∷ more)) ⊎ StrictAt strict bounded number rule
ranked_here weak strict bounded (Weak n fall) more number rule e h = inl
    (record {
      fall = fall;
      shown = subst (λ (k : ℕ). weak k rule fall ≡ None) e h;
      stays = or_left (eqb n number)
          (has (weak_ones more) number) (eq-eqb n number e);
    })
ranked_here weak strict bounded (Strict n fall bound) more number rule e h =
    let parts = edge_none (strict n rule fall) (bounded n rule bound) h in
    inr (record {
      fall = fall;
      bound = bound;
      shown = subst (λ (k : ℕ). strict k rule fall ≡ None) e parts.0;
      starts = subst
          (λ (k : ℕ). bounded k rule bound ≡ None) e parts.1;
    })

ranked_later : (weak strict bounded : Says) (listed : RankRule) (more : List RankRule) (number : ℕ) (rule : PathRule)
    → WeakAt weak number rule (weak_ones more) ⊎ StrictAt strict bounded number rule
    → WeakAt weak number rule (weak_ones (listed ∷ more)) ⊎ StrictAt strict bounded number rule
ranked_later weak strict bounded listed more number rule (inl w) = inl
    (record { fall = w.fall; shown = w.shown; stays = weak_more listed more number w.stays })
ranked_later weak strict bounded listed more number rule (inr s) = inr s

pub record PairHolds (x n : ℕ) (here later : Option DescentFault) : Type 0 where
  pub same : x ≡ n
  pub first : here ≡ None
  pub others : later ≡ None

pair_cases : (low high : Bool) (x n : ℕ) (a b : DescentFault) (here later : Option DescentFault) → nat_lt x n ≡ low
    → nat_lt n x ≡ high → cond low (Some a) (cond high (Some b) (edge_fault here later)) ≡ None → PairHolds x n here later
pair_cases true high x n a b here later l h e = absurd (cc)
pair_cases false true x n a b here later l h e = absurd (cc)
pair_cases false false x n a b here later l h e =
    let parts = edge_none here later e in
    record { same = grind (arith, nat_tests); first = parts.0; others = parts.1 }

ranked_cases : (weak strict bounded : Says) (here : Bool) (x : ℕ) (listed : RankRule) (more : List RankRule) (rules : List PathRule)
    (number : ℕ) (rule : PathRule) → eqb x number ≡ here → x ≡ rule_of listed
    → listed_fault weak strict bounded listed (slice_get rules x) ≡ None → slice_get rules number ≡ Some rule
    → (here ≡ false → WeakAt weak number rule (weak_ones more) ⊎ StrictAt strict bounded number rule)
    → WeakAt weak number rule (weak_ones (listed ∷ more)) ⊎ StrictAt strict bounded number rule
ranked_cases weak strict bounded true x listed more rules number rule e same shown is later =
    let at = eqb-true x number e in
    let found : slice_get rules x ≡ Some rule = ap (slice_get rules) at ∙ is in
    ranked_here weak strict bounded listed more number rule (sym same ∙ at)
    (subst (λ (o : Option PathRule). listed_fault weak strict bounded listed o ≡ None) found shown)
ranked_cases weak strict bounded false x listed more rules number rule e same shown is later = ranked_later weak strict bounded
    listed more number rule (later refl)

pub ranked_at : (weak strict bounded : Says) (rules : List PathRule) (set : List ℕ) (all : List RankRule) (number : ℕ)
    (rule : PathRule) → rank_fault weak strict bounded rules set all ≡ None → has set number ≡ true
    → slice_get rules number ≡ Some rule → WeakAt weak number rule (weak_ones all) ⊎ StrictAt strict bounded number rule
ranked_at weak strict bounded rules [] all number rule e h is = absurd (false≢true h)
ranked_at weak strict bounded rules (x ∷ rest) [] number rule e h is = absurd (cc)
ranked_at weak strict bounded rules (x ∷ rest) (listed ∷ more) number rule e h is =
    let pair = pair_cases (nat_lt x (rule_of listed)) (nat_lt (rule_of listed) x) x (rule_of listed) _ _
    (listed_fault weak strict bounded listed (slice_get rules x)) (rank_fault weak strict bounded rules rest more) refl refl e in
    ranked_cases weak strict bounded (eqb x number) x listed more rules number rule refl pair.same pair.first is
    (λ b. ranked_at weak strict bounded rules rest more number rule pair.others (or_second (eqb x number) (has rest number) b h) is)

-- every rule of the set is weak, and then left, or strict
pub record IsRanking (rules : List PathRule) (set left : List ℕ) (weak strict bounded : Says) (takes_start takes_end : PathRule
    → Type 0) (start finish : Worth) : Type 0 where
  pub laws : OrderLaws weak strict bounded takes_start takes_end start finish
  pub fit : AreRules rules
  pub each : (number : ℕ) (rule : PathRule) → has set number ≡ true → slice_get rules number ≡ Some rule
      → WeakAt weak number rule left ⊎ StrictAt strict bounded number rule

-- the form's value where a turn starts
abbrev pub worth_of : Worth → Valuation → Option PathRule → ℤ
worth_of start valuation None = pos 0
worth_of start valuation (Some rule) = start rule valuation

abbrev pub level : Worth → List PathRule → Turn → ℤ
level start rules turn = worth_of start turn.valuation (slice_get rules turn.rule)

-- a move keeps the value down from a weak rule, and lowers it from a strict one
pub record Stays (left : List ℕ) (number : ℕ) (before after : ℤ) : Type 0 where
  pub stays : has left number ≡ true
  pub keeps : after ≤ℤ before

pub record Drops (before after : ℤ) : Type 0 where
  pub starts : pos 0 ≤ℤ before
  pub falls : (after +ℤ pos 1) ≤ℤ before

both_taken : (rules : List PathRule) (set left : List ℕ) (weak strict bounded : Says) (takes_start takes_end : PathRule → Type 0)
    (start finish : Worth) (number : ℕ) (rule : PathRule)
    → IsRanking rules set left weak strict bounded takes_start takes_end start finish → WeakAt weak number rule left
    ⊎ StrictAt strict bounded number rule → takes_start rule × takes_end rule
both_taken rules set left weak strict bounded takes_start takes_end start finish number rule ranks (inl w) = ranks.laws.weak_takes
    number rule w.fall w.shown
both_taken rules set left weak strict bounded takes_start takes_end start finish number rule ranks (inr s) = ranks.laws.strict_takes
    number rule s.fall s.shown

moved : (rules : List PathRule) (set left : List ℕ) (weak strict bounded : Says) (takes_start takes_end : PathRule → Type 0)
    (start finish : Worth) (number : ℕ) (rule : PathRule) (valuation : Valuation) (after : ℤ)
    → IsRanking rules set left weak strict bounded takes_start takes_end start finish → IsRule rule → Meets rule valuation
    → finish rule valuation ≡ after → WeakAt weak number rule left ⊎ StrictAt strict bounded number rule
    → Stays left number (start rule valuation) after ⊎ Drops (start rule valuation) after
moved rules set left weak strict bounded takes_start takes_end start finish number rule valuation after ranks fit meets e (inl w) =
    let keeps = ranks.laws.weak_keeps number rule w.fall valuation fit w.shown meets in
    inl (record { stays = w.stays; keeps = subst (λ (z : ℤ). z ≤ℤ start rule valuation) e keeps })
moved rules set left weak strict bounded takes_start takes_end start finish number rule valuation after ranks fit meets e (inr s) =
    let falls = ranks.laws.strict_falls number rule s.fall valuation fit s.shown meets in
    inr (record {
      starts = ranks.laws.bounded_starts number rule s.bound valuation fit s.starts meets;
      falls = subst
          (λ (z : ℤ). (z +ℤ pos 1) ≤ℤ start rule valuation) e falls;
    })

pub rule_fits : (rules : List PathRule) (number : ℕ) (rule : PathRule) → AreRules rules → slice_get rules number ≡ Some rule → IsRule rule
rule_fits rules number rule fit e = subst (λ (r : PathRule). IsRule r) (get_or_from_slice_get rules number rule rule e)
    (fit number rule (slice_get_within rules number rule e))

dropping : (rules : List PathRule) (set left : List ℕ) (weak strict bounded : Says) (takes_start takes_end : PathRule → Type 0)
    (start finish : Worth) → IsRanking rules set left weak strict bounded takes_start takes_end start finish → (v u : Turn)
    → Moves rules set v u → has set v.rule ≡ true → Stays left u.rule (level start rules u) (level start rules v)
    ⊎ Drops (level start rules u) (level start rules v)
dropping rules set left weak strict bounded takes_start takes_end start finish ranks v u m in_set =
    let before = m.follows.before in
    let after = m.follows.after in
    let one = ranks.each u.rule before.taken m.from_set before.is in
    let other = ranks.each v.rule after.taken in_set after.is in
    let ends = both_taken rules set left weak strict bounded takes_start takes_end start finish u.rule before.taken ranks one in
    let begins = both_taken rules set left weak strict bounded takes_start takes_end start finish v.rule after.taken ranks other in
    let joined = ranks.laws.joined before.taken after.taken u.valuation v.valuation ends.1 begins.0 m.follows.cut m.follows.values in
    let at_v : level start rules v ≡ start after.taken v.valuation = ap (worth_of start v.valuation) after.is in
    let at_u : level start rules u ≡ start before.taken u.valuation = ap (worth_of start u.valuation) before.is in
    let step = moved rules set left weak strict bounded takes_start takes_end start finish u.rule before.taken u.valuation
    (level start rules v) ranks (rule_fits rules u.rule before.taken ranks.fit before.is) before.meets (joined ∙ sym at_v) one in
    subst (λ (z : ℤ). Stays left u.rule z (level start rules v) ⊎ Drops z (level start rules v)) (sym at_u) step

-- a value that weak moves keep down and strict moves lower
abbrev Goes : List PathRule → List ℕ → List ℕ → (Turn → ℤ) → Type 0
Goes rules set left worth = (v u : Turn) → Moves rules set v u → has set v.rule ≡ true → Stays left u.rule (worth u) (worth v)
    ⊎ Drops (worth u) (worth v)

after_move : (rules : List PathRule) (set left : List ℕ) (worth : Turn → ℤ) (v u : Turn) (in_set : Bool) → has set v.rule ≡ in_set
    → (in_set ≡ true → Stays left u.rule (worth u) (worth v) ⊎ Drops (worth u) (worth v))
    → (Stays left u.rule (worth u) (worth v) → EndsAt rules set v) → (Drops (worth u) (worth v) → EndsAt rules set v) → EndsAt rules set v
after_move rules set left worth v u false e step stay fall = outside rules set v e
after_move rules set left worth v u true e step stay fall = elim (step refl) as (λ s. EndsAt rules set v) [
  | inl s ↦ stay s
  | inr d ↦ fall d
]

stay_low : (before after : ℤ) (n : ℕ) → after ≤ℤ before → (before +ℤ pos 1) ≤ℤ pos n → (after +ℤ pos 1) ≤ℤ pos n
stay_low before after n a b = omega (arith, ints)

by_weak : (rules : List PathRule) (set left : List ℕ) (worth : Turn → ℤ) (n : ℕ) → Goes rules set left worth
    → ((v u : Turn) → (worth u +ℤ pos 1) ≤ℤ pos n → Drops (worth u) (worth v) → EndsAt rules set v) → (turn : Turn)
    → EndsAt rules left turn → (worth turn +ℤ pos 1) ≤ℤ pos n → EndsAt rules set turn
by_weak rules set left worth n goes lower turn (Acc.intro t h) bound = Acc.intro t
    (λ v m. after_move rules set left worth v t (has set v.rule) refl (goes v t m)
    (λ s. by_weak rules set left worth n goes lower v (h v (record { follows = m.follows; from_set = s.stays }))
    (stay_low (worth t) (worth v) n s.keeps bound)) (λ d. lower v t bound d))

below_none : (before : ℤ) → pos 0 ≤ℤ before → (before +ℤ pos 1) ≤ℤ pos 0 → ⊥
below_none before a b = omega (arith, ints)

below_one : (before after : ℤ) (n : ℕ) → (before +ℤ pos 1) ≤ℤ pos (suc n) → (after +ℤ pos 1) ≤ℤ before → (after +ℤ pos 1) ≤ℤ pos n
below_one before after n a b = omega (arith, ints)

by_level : (rules : List PathRule) (set left : List ℕ) (worth : Turn → ℤ) → Goes rules set left worth → Ends rules left
    → (n : ℕ) (turn : Turn) → (worth turn +ℤ pos 1) ≤ℤ pos n → EndsAt rules set turn
by_level rules set left worth goes ends zero turn bound = by_weak rules set left worth zero goes
    (λ v u b d. absurd (below_none (worth u) d.starts b)) turn (ends turn) bound
by_level rules set left worth goes ends (suc n) turn bound = by_weak rules set left worth (suc n) goes
    (λ v u b d. by_level rules set left worth goes ends n v (below_one (worth u) (worth v) n b d.falls)) turn (ends turn) bound

some_bound : (z : ℤ) → (n : ℕ) × ((z +ℤ pos 1) ≤ℤ pos n)
some_bound (pos k) = (suc k, omega (arith, ints))
some_bound (negsuc k) = (0, omega (arith, ints))

-- where chains from the weak rules end, chains from all rules of the set end
pub ranked_end : (rules : List PathRule) (set left : List ℕ) (weak strict bounded : Says) (takes_start takes_end : PathRule
    → Type 0) (start finish : Worth) → IsRanking rules set left weak strict bounded takes_start takes_end start finish
    → Ends rules left → Ends rules set
ranked_end rules set left weak strict bounded takes_start takes_end start finish ranks ends turn =
    let bound = some_bound (level start rules turn) in
    by_level rules set left (level start rules)
    (dropping rules set left weak strict bounded takes_start takes_end start finish ranks) ends bound.0 turn bound.1
