-- The child of a step, from its state.
use Rattle.std.proofs.Common.{◌≡◌, ◌<◌, ◌≤◌, ◌+◌, ℕ, zero, suc, List, [], ◌∷◌, length, map, get_or, None, true, refl, sym, ap, subst}
use Rattle.std.proofs.Common.{arith}
use Rattle.std.specs.List.{AllByRecursion}
use Rattle.std.proofs.lemmas.List.Elements.{recursion_from_All}
use Rattle.jvm_values.specs.TypedHeaps.{WorldTypes}
use Rattle.abs_cells.specs.declared.cells.Cell.{Cell}
use Rattle.abs_cells.specs.AbstractStates.{AbstractState}
use Rattle.term_graph.specs.declared.links.LinkRow.{LinkRow}
use Rattle.term_graph.specs.Graphs.{GraphChild}
use Rattle.abs_plans.specs.abs_turns.declared.plans.Turn.{Turn as TurnSeen}
use Rattle.abs_plans.specs.abs_turns.GoodPlans.{IsGoodAct}
use Rattle.abs_plans.specs.abs_turns.Plans.{Act, object, Goal, nowhere, on_stack, in_local, in_bottom, in_field, is_thrown, Turn, ids_made}
use Rattle.abs_plans.specs.abs_turns.PlansSeen.{turn_seen}
use Rattle.abs_expand.specs.inner.Building.{IsLeanState, IsChildOf, turn_counts}
use Rattle.abs_expand.specs.Expansions.{AreFew}
use Rattle.abs_expand.specs.inner.Making.{IsTurnState}

pub turn_child : (types : WorldTypes) (state : AbstractState) (turn : Turn) (changes : List (ℕ × Cell)) (whole part : AbstractState)
    (id : ℕ) (listed : List LinkRow) (made : GraphChild)
    → changes ≡ turn.changed → IsTurnState types state changes turn.frames turn.throwing turn.act turn.goal id whole
    → IsLeanState whole part
    → listed ≡ turn.rows id → made ≡ record { state = part; link = record { rows = listed; merged = None; step = true } }
    → IsChildOf types state turn made
turn_child types state turn changes whole part id listed made is t l e m =
    let changed = subst (λ (list : List (ℕ × Cell)). IsTurnState types state list turn.frames turn.throwing turn.act turn.goal id
    whole) is t in
    subst (IsChildOf types state turn) (sym m) (record {
      whole = record { state = whole; link = record { rows = turn.rows id; merged = None; step = true } };
      is = record {
        changed = changed.changed;
        is_changed = changed.is_changed;
        id = id;
        acted = changed.acted;
        is_acted = changed.is_acted;
        is = changed.is;
        link = refl;
      };
      lean = record {
        rising = l.rising;
        eq_rise = l.eq_rise;
        share_rise = l.share_rise;
        dropped = l.dropped;
        link = ap (λ (rows : List LinkRow). record { rows = rows; merged = None; step = true }) e;
      };
    })

-- a step makes few enough ids
abbrev pub HasRoom : WorldTypes → ℕ → TurnSeen → Type 0
HasRoom types count turn = count + ids_made types (turn_seen turn).act ≤ 512

pub each_few : (types : WorldTypes) (count : ℕ) (turns : List TurnSeen)
    → AllByRecursion (λ (n : ℕ). n ≤ 512) (turn_counts types count (map turn_seen turns))
    → AllByRecursion (HasRoom types count) turns
each_few types count [] a = tt
each_few types count (turn ∷ turns) a = (a.0, each_few types count turns a.1)

pub all_few : (types : WorldTypes) (count : ℕ) (turns : List TurnSeen) → AreFew (turn_counts types count (map turn_seen turns))
    → AllByRecursion (HasRoom types count) turns
all_few types count turns few = each_few types count turns (recursion_from_All (λ (n : ℕ). n ≤ 512)
    (turn_counts types count (map turn_seen turns)) few)

pub turn_at : (P : Turn → Type 0) (turns : List TurnSeen) (n : ℕ) (turn : TurnSeen) → AllByRecursion P (map turn_seen turns)
    → n < length turns → turn ≡ get_or turns n turn → P (turn_seen turn)
turn_at P [] n turn a l is = absurd (omega (arith, l))
turn_at P (t ∷ turns) zero turn a l is = subst (λ (x : TurnSeen). P (turn_seen x)) (sym is) a.0
turn_at P (t ∷ turns) (suc n) turn a l is = turn_at P turns n turn a.1 (omega (arith, l)) is

-- ---- acts

-- an act that makes an object names a class
pub object_is_within : (types : WorldTypes) (state : AbstractState) (changed : List (ℕ × Cell)) (class : ℕ) (goal : Goal)
    → IsGoodAct types state changed (object class) goal → class < types.classes
object_is_within types state changed class nowhere good = absurd good
object_is_within types state changed class on_stack good = good
object_is_within types state changed class (in_local n) good = absurd good
object_is_within types state changed class (in_bottom n) good = absurd good
object_is_within types state changed class (in_field k place) good = absurd good
object_is_within types state changed class is_thrown good = absurd good

pub act_is_within : (types : WorldTypes) (state : AbstractState) (changed : List (ℕ × Cell)) (class : ℕ) (act : Act) (goal : Goal)
    → act ≡ object class
    → IsGoodAct types state changed act goal → class < types.classes
act_is_within types state changed class act goal is good = object_is_within types state changed class goal
    (subst (λ (a : Act). IsGoodAct types state changed a goal) is good)
