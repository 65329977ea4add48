-- Where each node is first named, noted place by place.
use Rattle.std.proofs.Common.{◌≡◌, ◌<◌, ◌≤◌, ◌+◌, ◌∙◌, ℕ, zero, suc, Bool, true, false, cond, List, [], ◌∷◌, ◌++◌, map, length, take}
use Rattle.std.proofs.Common.{Option, Some, None, slice_get, slice_set, slice_index_or, ◌⊎◌, inl, inr, refl, sym, ap, subst, arith}
use Rattle.std.specs.Option.{option_map}
use Rattle.std.proofs.lemmas.Bool.{cases_eq, cases_lt, false≢true}
use Rattle.std.proofs.lemmas.Option.{none-some, slice_get_read, slice_get_within}
use Rattle.std.proofs.lemmas.List.{take_all}
use Rattle.list_views.proofs.Items.{get_set, get_within, length_set, length_mapped, any_default}
use Rattle.jvm_values.proofs.Options.{some_is}
use Rattle.abs_cells.specs.AbstractStates.{AbstractState}
use Rattle.term_graph.specs.declared.nodes.By.{By}
use Rattle.term_graph.specs.declared.nodes.By.TheVariants.{Expand, Instance, End, Todo}
use Rattle.term_graph.specs.Graphs.{GraphPart, by_at, state_at}
use Rattle.filled_graphs.specs.declared.origins.Origin.{Origin}
use Rattle.filled_graphs.specs.declared.origins.Origin.TheVariants.{Given, Lacking, Named}
use Rattle.filled_graphs.specs.Filling.{Names, IsFirstNamed, CanBeFilled, ways_of}
use Rattle.filled_graphs.specs.Origins.{IsOriginOf, HaveOrigins}
use Rattle.filled_graphs.specs.inner.Noting.{unnamed, is_lacking, noted, ComesBefore, IsNoted, AreNoted}
use Rattle.filled_graphs.specs.lemmas.Lists.{image_at, set_other, mapped_of}

-- ---- by place

-- the numbers that an expanded node names are those of its list
pub named_here : (ways : List By) (node place number : ℕ) (named : List ℕ) → slice_get ways node ≡ Some (Expand named)
    → Names ways node place number → slice_get named place ≡ Some number
named_here ways node place number named is n =
    let ways : Expand n.named ≡ Expand named = some_is (sym n.is ∙ is) in
    let lists : n.named ≡ named = cc in
    ap (λ ns. slice_get ns place) (sym lists) ∙ n.at

-- what is known of an origin is known behind one more place, where that place has another number
passed : (ways : List By) (m k number other : ℕ) (named : List ℕ) → slice_get ways m ≡ Some (Expand named)
    → slice_get named k ≡ Some other → (other ≡ number → ⊥) → (state : Option AbstractState) (origin : Origin)
    → IsNoted ways m k number state origin → IsNoted ways m (k + 1) number state origin
passed ways m k number other named is at far state Given n = n
passed ways m k number other named is at far state Lacking n = (n.0, λ node place before names. later node place names before)
  where
    later : (node place : ℕ) → Names ways node place number → ComesBefore node place m (k + 1) → ⊥
    later node place names (inl low) = n.1 node place (inl low) names
    later node place names (inr here) = elim (cases_eq place k) [
      | inl e ↦
          let there = named_here ways m place number named is (subst (λ a. Names ways a place number) here.0 names) in
          far (some_is (sym at ∙ ap (slice_get named) (sym e) ∙ there))
      | inr d ↦ n.1 node place (inr (here.0, below place here.1 d)) names
    ]
      where
        below : (p : ℕ) → p < k + 1 → (p ≡ k → ⊥) → p < k
        below p l d = elim (cases_lt p k) [
          | inl low ↦ low
          | inr high ↦ absurd (d (omega (arith, l, high)))
        ]
passed ways m k number other named is at far state (Named node place) n = n

-- a number that was lacking is first named there
first_here : (ways : List By) (m k number : ℕ) (named : List ℕ) (state : Option AbstractState) → slice_get ways m ≡ Some (Expand named)
    → slice_get named k ≡ Some number → IsNoted ways m k number state Lacking → IsNoted ways m (k + 1) number state (Named m k)
first_here ways m k number named state is at n = (
  n.0,
  record {
    names = record { named = named; is = is; at = at };
    no_earlier_node = λ other place low names. n.1 other place (inl low) names;
    no_earlier_place = λ place low names. n.1 m place (inr (refl, low)) names;
  },
)

-- one that was not lacking is as it was
kept : (ways : List By) (m k number : ℕ) (state : Option AbstractState) (origin : Origin) → is_lacking (Some origin) ≡ false
    → IsNoted ways m k number state origin → IsNoted ways m (k + 1) number state origin
kept ways m k number state Given e n = n
kept ways m k number state Lacking e n = absurd (false≢true (sym e))
kept ways m k number state (Named node place) e n = n

module _ (parts : List GraphPart) (m k number : ℕ) (named : List ℕ) (is : slice_get (ways_of parts) m ≡ Some (Expand named))
    (at : slice_get named k ≡ Some number) where
  long_noted : (origins : List Origin) (b : Bool) → length origins ≡ length parts
      → length (cond b (slice_set origins number (Named m k)) origins) ≡ length parts
  long_noted origins true e = length_set origins number (Named m k) ∙ e
  long_noted origins false e = e

  -- the origin of the number itself
  itself : (origins : List Origin) (b : Bool) (part : GraphPart) (old origin : Origin) → is_lacking (Some old) ≡ b
      → slice_get origins number ≡ Some old
      → slice_get (cond b (slice_set origins number (Named m k)) origins) number ≡ Some origin
      → IsNoted (ways_of parts) m k number part.state old → IsNoted (ways_of parts) m (k + 1) number part.state origin
  itself origins true part Given origin e was there n = absurd (false≢true e)
  itself origins true part (Named node place) origin e was there n = absurd (false≢true e)
  itself origins true part Lacking origin e was there n =
      let new : Named m k ≡ origin = some_is (sym (get_set origins number (Named m k) Lacking was) ∙ there) in
      subst (IsNoted (ways_of parts) m (k + 1) number part.state) new (first_here (ways_of parts) m k number named part.state is at n)
  itself origins false part old origin e was there n =
      subst (IsNoted (ways_of parts) m (k + 1) number part.state) (some_is (sym was ∙ there))
      (kept (ways_of parts) m k number part.state old e n)

  -- that of another one
  another : (origins : List Origin) (b : Bool) (other : ℕ) (part : GraphPart) (origin : Origin) → (number ≡ other → ⊥)
      → ((origin : Origin) → slice_get origins other ≡ Some origin → IsNoted (ways_of parts) m k other part.state origin)
      → slice_get (cond b (slice_set origins number (Named m k)) origins) other ≡ Some origin
      → IsNoted (ways_of parts) m (k + 1) other part.state origin
  another origins true other part origin far n there = passed (ways_of parts) m k other number named is at far part.state origin
      (n origin (sym (set_other origins number other (Named m k) far) ∙ there))
  another origins false other part origin far n there = passed (ways_of parts) m k other number named is at far part.state origin
      (n origin there)

  pub one_noted : (origins : List Origin) → AreNoted parts m k origins → AreNoted parts m (k + 1) (noted m k number origins)
  one_noted origins so = record {
    long = long_noted origins (is_lacking (slice_get origins number)) so.long;
    each = each;
  }
    where
      each : (other : ℕ) (part : GraphPart) (origin : Origin) → slice_get parts other ≡ Some part
          → slice_get (noted m k number origins) other ≡ Some origin → IsNoted (ways_of parts) m (k + 1) other part.state origin
      each other part origin q there = elim (cases_eq number other) [
        | inl e ↦
            let inside = slice_get_within parts other part q in
            let l = so.long in
            let old = get_within origins number (omega (arith, inside, l, e)) in
            subst (λ o. IsNoted (ways_of parts) m (k + 1) o part.state origin) e
            (itself origins (is_lacking (slice_get origins number)) part old.0 origin (ap is_lacking (sym old.1)) old.1
            (ap (slice_get (noted m k number origins)) e ∙ there)
            (so.each number part old.0 (ap (slice_get parts) e ∙ q) old.1))
        | inr d ↦ another origins (is_lacking (slice_get origins number)) other part origin d (λ o. so.each other part o q) there
      ]

-- ---- by node

pub all_noted : (parts : List GraphPart) (m : ℕ) (named : List ℕ) (origins : List Origin)
    → slice_get (ways_of parts) m ≡ Some (Expand named) → AreNoted parts m (length named) origins → AreNoted parts (m + 1) 0 origins
all_noted parts m named origins is so = record {
  long = so.long;
  each = λ number part origin q there. go number part.state origin (so.each number part origin q there);
}
  where
    go : (number : ℕ) (state : Option AbstractState) (origin : Origin) → IsNoted (ways_of parts) m (length named) number state origin
        → IsNoted (ways_of parts) (m + 1) 0 number state origin
    go number state Given n = n
    go number state Lacking n = (n.0, λ node place before names. later node place names before)
      where
        later : (node place : ℕ) → Names (ways_of parts) node place number → ComesBefore node place (m + 1) 0 → ⊥
        later node place names (inr here) = let l = here.1 in absurd (omega (arith, l))
        later node place names (inl low) = elim (cases_lt node m) [
          | inl below ↦ n.1 node place (inl below) names
          | inr high ↦
              let same : node ≡ m = omega (arith, low, high) in
              let there = named_here (ways_of parts) m place number named is
              (subst (λ a. Names (ways_of parts) a place number) same names) in
              n.1 node place (inr (same, slice_get_within named place number there)) names
        ]
    go number state (Named node place) n = n

-- a node that is not expanded names nothing
abbrev pub IsOther : By → Type 0
IsOther (Expand named) = ⊥
IsOther (Instance target entries) = Unit {0}
IsOther End = Unit {0}
IsOther Todo = Unit {0}

pub not_expanded : (by : By) (named : List ℕ) → IsOther by → by ≡ Expand named → ⊥
not_expanded by named o e = subst IsOther e o

pub none_noted : (parts : List GraphPart) (m : ℕ) (by : By) (origins : List Origin) → slice_get (ways_of parts) m ≡ Some by
    → IsOther by → AreNoted parts m 0 origins → AreNoted parts (m + 1) 0 origins
none_noted parts m by origins is other so = record {
  long = so.long;
  each = λ number part origin q there. go number part.state origin (so.each number part origin q there);
}
  where
    go : (number : ℕ) (state : Option AbstractState) (origin : Origin) → IsNoted (ways_of parts) m 0 number state origin
        → IsNoted (ways_of parts) (m + 1) 0 number state origin
    go number state Given n = n
    go number state Lacking n = (n.0, λ node place before names. later node place names before)
      where
        later : (node place : ℕ) → Names (ways_of parts) node place number → ComesBefore node place (m + 1) 0 → ⊥
        later node place names (inr here) = let l = here.1 in absurd (omega (arith, l))
        later node place names (inl low) = elim (cases_lt node m) [
          | inl below ↦ n.1 node place (inl below) names
          | inr high ↦
              let same : node ≡ m = omega (arith, low, high) in
              let way : by ≡ Expand names.named = some_is (sym is ∙ ap (slice_get (ways_of parts)) (sym same) ∙ names.is) in
              not_expanded by names.named other way
        ]
    go number state (Named node place) n = n

-- ---- from the first node to the last one

pub way_there : (parts : List GraphPart) (n : ℕ) (by : By) → by_at parts n ≡ Some by → slice_get (ways_of parts) n ≡ Some by
way_there parts n by e = mapped_of (λ (part : GraphPart). part.by) parts n ∙ e

none_before : (node place : ℕ) → ComesBefore node place 0 0 → ⊥
none_before node place (inl low) = absurd (omega (arith, low))
none_before node place (inr here) = let l = here.1 in absurd (omega (arith, l))

pub begun : (parts : List GraphPart) (origins : List Origin) → origins ≡ map (λ (part : GraphPart). unnamed part.state) parts
    → AreNoted parts 0 0 origins
begun parts origins e = record {
  long = ap length e ∙ length_mapped (λ (part : GraphPart). unnamed part.state) parts;
  each = λ number part origin q there.
      let is : unnamed part.state ≡ origin = some_is (sym (image_at (λ (p : GraphPart). unnamed p.state) parts number part q)
      ∙ ap (λ os. slice_get os number) (sym e) ∙ there) in
      subst (IsNoted (ways_of parts) 0 0 number part.state) is (go number part.state);
}
  where
    go : (number : ℕ) (state : Option AbstractState) → IsNoted (ways_of parts) 0 0 number state (unnamed state)
    go number (Some given) = (given, refl)
    go number None = (refl, λ node place before names. none_before node place before)

pub ended : (parts : List GraphPart) (m : ℕ) (origins : List Origin) → length parts ≤ m → CanBeFilled parts → AreNoted parts m 0 origins
    → HaveOrigins parts origins
ended parts m origins l can so = record {
  long = so.long;
  each = λ number part origin q there. go number part q origin (so.each number part origin q there);
}
  where
    go : (number : ℕ) (part : GraphPart) → slice_get parts number ≡ Some part → (origin : Origin)
        → IsNoted (ways_of parts) m 0 number part.state origin → IsOriginOf (ways_of parts) number part.state origin
    go number part q Given n = n
    go number part q Lacking n =
        let named = can number part q n.0 in
        let inside = slice_get_within parts number part q in
        let low = named.earlier in
        absurd (n.1 named.namer named.place (inl (omega (arith, l, low, inside))) named.names)
    go number part q (Named node place) n =
        let named = can number part q n.0 in
        let low = named.earlier in (
          n.0,
          (
            n.1,
            elim (cases_lt named.namer node) [
              | inl before ↦ absurd (n.1.no_earlier_node named.namer named.place before named.names)
              | inr high ↦ omega (arith, low, high)
            ],
          ),
        )

-- ---- answers

pub unnamed_next : (parts : List GraphPart) (n : ℕ) (origin : Origin) (origins : List Origin)
    → option_map unnamed (state_at parts n) ≡ Some origin
    → origins ≡ map (λ (part : GraphPart). unnamed part.state) (take n parts)
    → origins ++ origin ∷ [] ≡ map (λ (part : GraphPart). unnamed part.state) (take (n + 1) parts)
unnamed_next parts n origin origins e so =
    let next : suc n ≡ n + 1 = omega arith in
    ap (λ os. os ++ origin ∷ []) so ∙ one_more parts n origin e
    ∙ ap (λ k. map (λ (part : GraphPart). unnamed part.state) (take k parts)) next
  where
    one_more : (ps : List GraphPart) (k : ℕ) (o : Origin) → option_map unnamed (state_at ps k) ≡ Some o
        → map (λ (part : GraphPart). unnamed part.state) (take k ps) ++ o ∷ []
        ≡ map (λ (part : GraphPart). unnamed part.state) (take (suc k) ps)
    one_more [] k o f = absurd (none-some o f)
    one_more (x ∷ ps) zero o f = ap (λ o'. o' ∷ []) (sym (some_is f))
    one_more (x ∷ ps) (suc k) o f = ap (λ os. unnamed x.state ∷ os) (one_more ps k o f)

pub unnamed_all : (parts : List GraphPart) (n : ℕ) (origins : List Origin) → length parts ≤ n
    → origins ≡ map (λ (part : GraphPart). unnamed part.state) (take n parts)
    → origins ≡ map (λ (part : GraphPart). unnamed part.state) parts
unnamed_all parts n origins l so = so ∙ ap (map (λ (part : GraphPart). unnamed part.state)) (take_all n parts l)

-- a number that is lacking is there
pub lacking_there : (origins : List Origin) (number : ℕ) → is_lacking (slice_get origins number) ≡ true → number < length origins
lacking_there [] number e = absurd (false≢true e)
lacking_there (x ∷ origins) zero e = omega arith
lacking_there (x ∷ origins) (suc number) e = let l = lacking_there origins number e in omega (arith, l)

pub next_noted : (parts : List GraphPart) (m k any : ℕ) (named : List ℕ) (before after : List Origin)
    → slice_get (ways_of parts) m ≡ Some (Expand named) → k < length named → after ≡ noted m k (slice_index_or named k any) before
    → AreNoted parts m k before → AreNoted parts m (k + 1) after
next_noted parts m k any named before after is l e so = subst (AreNoted parts m (k + 1)) (sym e)
    (one_noted parts m k (slice_index_or named k any) named is
    (slice_get_read named (length named) k (slice_index_or named k any) refl l
    (any_default named k any (slice_index_or named k any) l)) before so)

pub done_noted : (parts : List GraphPart) (m k : ℕ) (named : List ℕ) (origins : List Origin)
    → slice_get (ways_of parts) m ≡ Some (Expand named) → length named ≤ k → k ≤ length named → AreNoted parts m k origins
    → AreNoted parts m (length named) origins
done_noted parts m k named origins is low high so = subst (λ j. AreNoted parts m j origins) (omega (arith, low, high)) so
