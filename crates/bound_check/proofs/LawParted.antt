-- Chains of a split's set: turns of one part after another, of at most one turn where no step takes the part.
use Rattle.std.proofs.Common.{◌≡◌, ◌⊎◌, ◌∙◌, inl, inr, ℕ, zero, suc, ◌+◌, ◌<◌, ◌≤◌, true, List, [], ◌∷◌}
use Rattle.std.proofs.Common.{◌++◌, ◌-◌, length, Option, Some, None, refl, sym, ap, subst, arith}
use Rattle.std.specs.Prelude.{slice_get, filter}
use Rattle.std.specs.List.{filter_map}
use Rattle.std.proofs.lemmas.Bool.{cases_order}
use Rattle.std.proofs.lemmas.Option.{none-some}
use Rattle.descent.specs.declared.rules.PathRule.{PathRule}
use Rattle.descent.specs.Chains.{Turn}
use Rattle.descent.specs.Splits.{has, place_in, uncovered, back_edge}
use Rattle.descent.specs.Splits.{first_loop, loop_fault, edge_fault, split_fault}
use Rattle.descent.specs.Steps.{parts_left, same_option}
use Rattle.descent.proofs.Moving.{has_filter}
use Rattle.descent.proofs.Parted.{placed, covered, cover_none, loop_none, ordered, lone, not_itself, follows_is, stands_at}
use Rattle.descent.proofs.Ranked.{edge_none}
use Rattle.bound_check.specs.Parts.{count_at, untaken_parts}
use Rattle.bound_check.proofs.LawChains.{LeadsTo, IsChain, AllIn, total, Counted, leads_front, sums}

-- ---- the sets that a step leaves

abbrev pub AllCounted : List PathRule → ℕ → List ℕ → (ℕ → ℕ) → List (ℕ × List ℕ) → Type 0
AllCounted rules number later weight [] = Unit {0}
AllCounted rules number later weight (left ∷ rest) = Counted rules left.1 (count_at number later left.0) weight
    × AllCounted rules number later weight rest

-- ---- lists from a place on

shifted : {A : Type 0} (n : ℕ) (all : List A) (x : A) (more : List A) → ((i : ℕ) → slice_get (x ∷ more) i ≡ slice_get all (n + i))
    → (i : ℕ) → slice_get more i ≡ slice_get all (suc n + i)
shifted n all x more are i =
    let e : n + suc i ≡ suc n + i = omega arith in
    are (suc i) ∙ ap (slice_get all) e

first_is : {A : Type 0} (n : ℕ) (all : List A) (x : A) (more : List A) → ((i : ℕ) → slice_get (x ∷ more) i ≡ slice_get all (n + i))
    → slice_get all n ≡ Some x
first_is n all x more are =
    let e : n + zero ≡ n = omega arith in
    sym (are zero ∙ ap (slice_get all) e)

zero_on : {A : Type 0} (all : List A) (i : ℕ) → slice_get all i ≡ slice_get all (0 + i)
zero_on all i =
    let e : i ≡ 0 + i = omega arith in
    ap (slice_get all) e

-- ---- places of turns

module _ (rules : List PathRule) (set : List ℕ) (parts : List (List ℕ)) (steps : List (Option ℕ))
    (fine : split_fault rules set parts steps ≡ None) where
  cover : (uncovered set parts ≡ None) × (edge_fault (back_edge rules set parts set) (loop_fault (first_loop rules set parts steps)) ≡ None)
  cover = cover_none (uncovered set parts) (edge_fault (back_edge rules set parts set) (loop_fault (first_loop rules set parts steps))) fine

  edges : (back_edge rules set parts set ≡ None) × (loop_fault (first_loop rules set parts steps) ≡ None)
  edges = edge_none (back_edge rules set parts set) (loop_fault (first_loop rules set parts steps)) cover.1

  -- all turns stand in the part of a number, or in that one or higher ones
  abbrev AllAt : ℕ → List Turn → Type 0
  AllAt n [] = Unit {0}
  AllAt n (turn ∷ turns) = (place_in parts turn.rule ≡ Some n) × AllAt n turns

  record IsFrom (n rule : ℕ) : Type 0 where
    pub place : ℕ
    pub is : place_in parts rule ≡ Some place
    pub high : n ≤ place

  abbrev AllFrom : ℕ → List Turn → Type 0
  AllFrom n [] = Unit {0}
  AllFrom n (turn ∷ turns) = IsFrom n turn.rule × AllFrom n turns

  -- what comes after a turn stands no lower
  from_next : (n k : ℕ) (turn : Turn) (turns : List Turn) → n ≤ k → place_in parts turn.rule ≡ Some k → LeadsTo rules turn turns
      → IsChain rules turns → has set turn.rule ≡ true → AllIn set turns → AllFrom n turns
  from_next n k turn [] high at leads chain member inside = tt
  from_next n k turn (next ∷ turns) high at leads chain member inside =
      let c = covered set parts next.rule cover.0 inside.0 in
      let above = ordered rules set parts turn.rule next.rule k c.0 edges.0 member inside.0 (follows_is rules turn next leads) at c.1 in (
        record { place = c.0; is = c.1; high = omega (arith, high, above) },
        from_next n c.0 next turns (omega (arith, high, above)) c.1 chain.0 chain.1 inside.0 inside.1,
      )

  -- the turns of a part, and then those of higher ones
  record Divided (n : ℕ) (turns : List Turn) : Type 0 where
    pub first : List Turn
    pub rest : List Turn
    pub whole : turns ≡ first ++ rest
    pub chain : IsChain rules first
    pub inside : AllIn set first
    pub at : AllAt n first
    pub chain_rest : IsChain rules rest
    pub inside_rest : AllIn set rest
    pub high : AllFrom (suc n) rest

  one_more : (n k : ℕ) (turn : Turn) (turns : List Turn) → place_in parts turn.rule ≡ Some k → n ≤ k → LeadsTo rules turn turns
      → IsChain rules turns → has set turn.rule ≡ true → AllIn set turns → Divided n turns → (n ≡ k) ⊎ ((n < k) ⊎ (k < n))
      → Divided n (turn ∷ turns)
  one_more n k turn turns at high leads chain member inside d (inl e) = record {
    first = turn ∷ d.first;
    rest = d.rest;
    whole = ap (λ (ts : List Turn). turn ∷ ts) d.whole;
    chain = (leads_front rules turn d.first d.rest (subst (LeadsTo rules turn) d.whole leads), d.chain);
    inside = (member, d.inside);
    at = (at ∙ ap (λ (m : ℕ). Some m) (sym e), d.at);
    chain_rest = d.chain_rest;
    inside_rest = d.inside_rest;
    high = d.high;
  }
  one_more n k turn turns at high leads chain member inside d (inr (inl below)) = record {
    first = [];
    rest = turn ∷ turns;
    whole = refl;
    chain = tt;
    inside = tt;
    at = tt;
    chain_rest = (leads, chain);
    inside_rest = (member, inside);
    high = (
      record { place = k; is = at; high = omega (arith, below) },
      from_next (suc n) k turn turns (omega (arith, below)) at leads chain member inside,
    );
  }
  one_more n k turn turns at high leads chain member inside d (inr (inr above)) = absurd (omega (arith, high, above))

  divided : (n : ℕ) (turns : List Turn) → IsChain rules turns → AllIn set turns → AllFrom n turns → Divided n turns
  divided n [] chain inside from = record {
    first = [];
    rest = [];
    whole = refl;
    chain = tt;
    inside = tt;
    at = tt;
    chain_rest = tt;
    inside_rest = tt;
    high = tt;
  }
  divided n (turn ∷ turns) chain inside from =
      one_more n from.0.place turn turns from.0.is from.0.high chain.0 chain.1 inside.0 inside.1
      (divided n turns chain.1 inside.1 from.1) (cases_order n from.0.place)

  -- ---- the turns of one part

  in_part : (n : ℕ) (part : List ℕ) (turns : List Turn) → slice_get parts n ≡ Some part → AllIn set turns → AllAt n turns
      → AllIn (filter (has part) set) turns
  in_part n part [] is inside at = tt
  in_part n part (turn ∷ turns) is inside at = (
    has_filter (has part) set turn.rule inside.0 (stands_at parts part turn.rule n at.0 is),
    in_part n part turns is inside.1 at.1,
  )

  at_most_one : (n : ℕ) (part : List ℕ) (turns : List Turn) → slice_get parts n ≡ Some part → slice_get steps n ≡ Some None
      → IsChain rules turns → AllIn set turns → AllAt n turns → length turns ≤ 1
  at_most_one n part [] is step chain inside at = omega arith
  at_most_one n part (turn ∷ []) is step chain inside at = omega arith
  at_most_one n part (turn ∷ next ∷ turns) is step chain inside at =
      let alone = lone rules set parts steps turn.rule n part (loop_none (first_loop rules set parts steps) edges.1) inside.0 at.0 is step in
      absurd (not_itself rules turn.rule next.rule part alone (stands_at parts part turn.rule n at.0 is)
      (stands_at parts part next.rule n at.1.0 is) (follows_is rules turn next chain.0))

  -- ---- from a part on

  -- no turn stands past the last part
  none_past : (n : ℕ) (turns : List Turn) → ((i : ℕ) → None ≡ slice_get parts (n + i)) → AllFrom n turns
      → length turns ≡ 0
  none_past n [] are from = refl
  none_past n (turn ∷ turns) are from =
      let w = placed 0 parts turn.rule from.0.place from.0.is in
      let d = less n w.index (omega (arith, w.at, from.0.high)) in
      absurd (none-some w.part (are d.0 ∙ ap (slice_get parts) d.1 ∙ w.is))
    where
      less : (a b : ℕ) → a ≤ b → (i : ℕ) × (a + i ≡ b)
      less a b le = (b - a, omega (arith, le))

  module _ (number : ℕ) (later : List ℕ) (weight : ℕ → ℕ) where
    from_part : (n : ℕ) (more : List (List ℕ)) (takes : List (Option ℕ)) → length takes ≡ length more
        → ((i : ℕ) → slice_get more i ≡ slice_get parts (n + i)) → ((i : ℕ) → slice_get takes i ≡ slice_get steps (n + i))
        → AllCounted rules number later weight (filter_map same_option (parts_left set more takes))
        → (turns : List Turn) → IsChain rules turns → AllIn set turns → AllFrom n turns
        → length turns ≤ untaken_parts number later takes + total weight turns
    from_part n [] takes count are step_are all turns chain inside from =
        omega (arith, none_past n turns are from)
    from_part n (part ∷ more) [] count are step_are all turns chain inside from = absurd (omega (arith, count))
    from_part n (part ∷ more) (None ∷ takes) count are step_are all turns chain inside from =
        let d = divided n turns chain inside from in
        let s = sums turns d.first d.rest weight d.whole in
        let one = at_most_one n part d.first (first_is n parts part more are) (first_is n steps None takes step_are)
        d.chain d.inside d.at in
        let others = from_part (suc n) more takes (omega (arith, count)) (shifted n parts part more are)
        (shifted n steps None takes step_are)
        all d.rest d.chain_rest d.inside_rest d.high in
        omega (arith, s.count, s.weighs, one, others)
    from_part n (part ∷ more) (Some step ∷ takes) count are step_are all turns chain inside from =
        let d = divided n turns chain inside from in
        let s = sums turns d.first d.rest weight d.whole in
        let one = all.0 d.first d.chain (in_part n part d.first (first_is n parts part more are) d.inside d.at) in
        let others = from_part (suc n) more takes (omega (arith, count)) (shifted n parts part more are)
        (shifted n steps (Some step) takes step_are) all.1 d.rest d.chain_rest d.inside_rest d.high in
        omega (arith, s.count, s.weighs, one, others)

    all_from : (turns : List Turn) → AllIn set turns → AllFrom 0 turns
    all_from [] inside = tt
    all_from (turn ∷ turns) inside =
        let c = covered set parts turn.rule cover.0 inside.0 in
        (record { place = c.0; is = c.1; high = omega arith }, all_from turns inside.1)

    pub parted_counted : length steps ≡ length parts
        → AllCounted rules number later weight (filter_map same_option (parts_left set parts steps))
        → Counted rules set (untaken_parts number later steps) weight
    parted_counted count all turns chain inside =
        from_part 0 parts steps count (zero_on parts) (zero_on steps) all turns chain inside (all_from turns inside)
