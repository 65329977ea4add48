-- The children of steps, counted and made.
use Rattle.std.proofs.Common.{◌≡◌, ◌∙◌, ◌<◌, ◌≤◌, ◌+◌, ℕ, List, [], ◌∷◌, ◌++◌, length, map, take, Option, Some, None, get_or, sym, ap}
use Rattle.std.proofs.Common.{subst, append_assoc, arith}
use Rattle.std.specs.Prelude.{Result, Ok, Err}
use Rattle.std.specs.List.{AllByRecursion, AllZip}
use Rattle.std.proofs.lemmas.List.{length-map, get_or-map, take_all}
use Rattle.std.proofs.lemmas.Option.{slice_get-get_or}
use Rattle.std.proofs.lemmas.List.Elements.{All-more, All-same}
use Rattle.jvm_values.specs.TypedHeaps.{WorldTypes}
use Rattle.abs_cells.specs.AbstractStates.{AbstractState}
use Rattle.term_graph.specs.Graphs.{GraphChild}
use Rattle.class_program.specs.class_world.WorldTypes.{types_of}
use Rattle.class_program.specs.Programs.{Program}
use Rattle.abs_plans.specs.FrameTypesTables.{CodeTypes}
use Rattle.abs_plans.specs.abs_turns.Plans.{Turn, Plan, steps, ids_made}
use Rattle.abs_expand.specs.BadStates.{IsGoodState}
use Rattle.abs_expand.specs.Answers.{Answers, HasPlanChildren}
use Rattle.abs_expand.specs.declared.fault.ExpandFault.{ExpandFault}
use Rattle.abs_expand.specs.declared.fault.ExpandFault.TheVariants.{BadState, TooManyIds, Memory}
use Rattle.abs_expand.specs.Children.{IsTurnChild, IsLean}
use Rattle.abs_expand.specs.Expansions.{plan_of, counts_of, AreFew, IsFirstTooMany, AreExpanded}
use Rattle.abs_expand.specs.inner.Building.{IsChildOf, turn_counts}
use Rattle.abs_plans.specs.abs_turns.declared.plans.Turn.{Turn as TurnSeen}
use Rattle.abs_plans.specs.abs_turns.PlansSeen.{turn_seen}

-- ---- lists

pub zip_mapped : {X Y Z : Type 0} (R : Y → Z → Type 0) (f : X → Y) (xs : List X) (zs : List Z) → AllZip (λ x z. R (f x) z) xs zs
    → AllZip R (map f xs) zs
zip_mapped R f [] [] h = tt
zip_mapped R f [] (z ∷ zs) h = absurd h
zip_mapped R f (x ∷ xs) [] h = absurd h
zip_mapped R f (x ∷ xs) (z ∷ zs) h = (h.0, zip_mapped R f xs zs h.1)

pub all_mapped : {X Y : Type 0} (P : Y → Type 0) (f : X → Y) (xs : List X) → AllByRecursion P (map f xs) → AllByRecursion (λ x. P (f x)) xs
all_mapped P f [] h = tt
all_mapped P f (x ∷ xs) h = (h.0, all_mapped P f xs h.1)

pub more_made : {X Y : Type 0} (f : X → Y) (made : List Y) (old rest : List X) (x : X) (y : Y) (whole : List Y) → old ≡ x ∷ rest
    → y ≡ f x → made ++ map f old ≡ whole
    → (made ++ y ∷ []) ++ map f rest ≡ whole
more_made f made old rest x y whole o e w = append_assoc made (y ∷ []) (map f rest) ∙ ap (λ z. made ++ z ∷ map f rest) e
    ∙ ap (λ zs. made ++ map f zs) (sym o) ∙ w

-- ---- children

wholes_of : (types : WorldTypes) (state : AbstractState) (turns : List Turn) (children : List GraphChild)
    → AllZip (IsChildOf types state) turns children
    → (wholes : List GraphChild) × (AllZip (IsTurnChild types state) turns wholes × AllZip IsLean wholes children)
wholes_of types state [] [] h = ([], (tt, tt))
wholes_of types state [] (child ∷ children) h = absurd h
wholes_of types state (turn ∷ turns) [] h = absurd h
wholes_of types state (turn ∷ turns) (child ∷ children) h =
    let rest = wholes_of types state turns children h.1 in
    (h.0.whole ∷ rest.0, ((h.0.is, rest.1.0), (h.0.lean, rest.1.1)))

pub expanded : (types : WorldTypes) (state : AbstractState) (turns : List Turn) (children : List GraphChild)
    → AreFew (turn_counts types (length state.cells) turns)
    → AllZip (IsChildOf types state) turns children → AreExpanded types state (steps turns) children
expanded types state turns children few h =
    let found = wholes_of types state turns children h in
    record { few = few; wholes = found.0; are = found.1.0; lean = found.1.1 }

-- ---- counts

module _ (types : WorldTypes) (count : ℕ) (turns : List TurnSeen) where
  abbrev Counts : List ℕ
  Counts = turn_counts types count (map turn_seen turns)

  counted : length Counts ≡ length turns
  counted = length-map (map turn_seen turns) (λ (turn : Turn). count + ids_made types turn.act) ∙ length-map turns turn_seen

  count_at : (n : ℕ) (d : TurnSeen) → n < length turns → get_or Counts n 0 ≡ count + ids_made types (turn_seen (get_or turns n d)).act
  count_at n d l =
      get_or-map (λ (turn : Turn). count + ids_made types turn.act) (map turn_seen turns) n (turn_seen d) 0
      (omega (arith, l, length-map turns turn_seen))
      ∙ ap (λ (turn : Turn). count + ids_made types turn.act) (get_or-map turn_seen turns n d (turn_seen d) l)

  count_of : (n made : ℕ) (turn : TurnSeen) → n < length turns → turn ≡ get_or turns n turn
      → made ≡ ids_made types (turn_seen turn).act → get_or Counts n 0 ≡ count + made
  count_of n made turn l is e = count_at n turn l ∙ ap (λ (t : TurnSeen). count + ids_made types (turn_seen t).act) (sym is)
      ∙ ap (λ (m : ℕ). count + m) (sym e)

  pub few_next : (n made : ℕ) (turn : TurnSeen) → n < length turns → turn ≡ get_or turns n turn
      → made ≡ ids_made types (turn_seen turn).act → count + made ≤ 512 → AreFew (take n Counts)
      → AreFew (take (n + 1) Counts)
  few_next n made turn l is e few before = All-more (λ (m : ℕ). m ≤ 512) Counts n 0 (omega (arith, l, counted)) before
      (omega (arith, few, count_of n made turn l is e))

  pub many_at : (n made : ℕ) (turn : TurnSeen) → n < length turns → turn ≡ get_or turns n turn
      → made ≡ ids_made types (turn_seen turn).act → 512 < count + made → AreFew (take n Counts)
      → IsFirstTooMany Counts n
  many_at n made turn l is e many before = record {
    count = get_or Counts n 0;
    is = slice_get-get_or Counts n 0 (omega (arith, l, counted));
    many = omega (arith, many, count_of n made turn l is e);
    before = before;
  }

  pub few_all : (n : ℕ) → length turns ≤ n → AreFew (take n Counts) → AreFew Counts
  few_all n l few = All-same (λ (m : ℕ). m ≤ 512) Counts (take n Counts) (sym (take_all n Counts (omega (arith, l, counted)))) few

-- ---- the answer

-- what is answered of a plan is the state's answer
pub plan_answer : (p : Program) (typing : ℕ → CodeTypes) (state : AbstractState) (plan : Plan)
    (result : Result (Option (List GraphChild)) ExpandFault) → IsGoodState p typing state
    → plan ≡ plan_of p typing state → HasPlanChildren (types_of p.world) state plan result → Answers p typing state result
plan_answer p typing state plan (Ok None) good e h = absurd h
plan_answer p typing state plan (Ok (Some children)) good e h =
    (good, subst (λ (plan : Plan). AreExpanded (types_of p.world) state plan children) e h)
plan_answer p typing state plan (Err (BadState clause)) good e h = absurd h
plan_answer p typing state plan (Err (TooManyIds child)) good e h =
    (good, subst (λ (plan : Plan). IsFirstTooMany (counts_of (types_of p.world) state plan) child) e h)
plan_answer p typing state plan (Err Memory) good e h = tt
