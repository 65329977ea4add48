-- The children of a plan are one list, where a step that makes no id sends none and its rows name none.
use Rattle.std.proofs.Common.{◌≡◌, ◌∙◌, ℕ, Bool, true, false, List, [], ◌∷◌, Option, Some, None, refl, sym, ap, subst}
use Rattle.std.specs.List.{AllZip, AllByRecursion}
use Rattle.jvm_values.specs.TypedHeaps.{WorldTypes}
use Rattle.abs_cells.specs.AbstractStates.{AbstractState}
use Rattle.abs_expand.specs.TermGraphLink.{Link}
use Rattle.abs_expand.specs.TermGraphLinkRow.{LinkRow}
use Rattle.abs_expand.specs.TermGraphGraphs.{GraphChild}
use Rattle.abs_expand.specs.abs_turns.Plans.{Goal, nowhere, Turn, Plan, ends, steps, by_null, by_class, by_equal}
use Rattle.abs_expand.specs.Children.{IsTurnChild, gone_to, IsLean}
use Rattle.abs_expand.specs.Expansions.{AreChildren, AreExpanded}
use Rattle.one_expansion.proofs.Alike.{Alike, between, as_equal, given_alike, IsAlikeChild, leans_same}
use Rattle.steady_plans.specs.Steps.{makes_id, IsSteady, AreSteady}
use Rattle.one_expansion.proofs.Acts.{acted_alike, acted_id, gone_alike}
use Rattle.one_expansion.proofs.Splits.{null_same, class_same, equal_same}

-- ---- steps

abbrev step_link : List LinkRow → Link
step_link rows = record { rows = rows; merged = None; step = true }

module _ (types : WorldTypes) (state : AbstractState) (turn : Turn) (c d : GraphChild) (steady : IsSteady turn)
    (g : IsTurnChild types state turn c) (h : IsTurnChild types state turn d) where
  changed_alike : Alike g.changed h.changed
  changed_alike = given_alike g.is_changed h.is_changed refl refl (λ id. refl) (λ x y. (λ k. k, λ k. k)) (λ x y. (λ k. k, λ k. k))

  acted : Alike g.acted h.acted
  acted = acted_alike types g.changed h.changed g.acted h.acted changed_alike turn.act g.id h.id g.is_acted h.is_acted

  abbrev gone : ℕ → AbstractState → AbstractState
  gone id after = gone_to turn.goal id after

  sent : (b : Bool) → makes_id turn.act ≡ b → Alike (gone g.id g.acted) (gone h.id h.acted)
  sent true e =
      let ids = acted_id types g.changed h.changed g.acted h.acted changed_alike turn.act g.id h.id e g.is_acted h.is_acted in
      subst (λ (n : ℕ). Alike (gone g.id g.acted) (gone n h.acted)) ids (gone_alike turn.goal g.id g.acted h.acted acted)
  sent false e = subst (λ (goal : Goal). Alike (gone_to goal g.id g.acted) (gone_to goal h.id h.acted)) (sym (steady e).goal) acted

  rows_same : (b : Bool) → makes_id turn.act ≡ b → turn.rows g.id ≡ turn.rows h.id
  rows_same true e = ap turn.rows (acted_id types g.changed h.changed g.acted h.acted changed_alike turn.act g.id h.id e g.is_acted
      h.is_acted)
  rows_same false e = (steady e).rows g.id h.id

  turn_same : IsAlikeChild c d
  turn_same = record {
    states =
        between c.state (gone g.id g.acted) d.state (as_equal c.state (gone g.id g.acted) g.is)
        (between (gone g.id g.acted) (gone h.id h.acted) d.state (sent (makes_id turn.act) refl)
        (as_equal (gone h.id h.acted) d.state (sym h.is)));
    links = g.link ∙ ap step_link (rows_same (makes_id turn.act) refl) ∙ sym h.link;
  }

turns_same : (types : WorldTypes) (state : AbstractState) (turns : List Turn) (c d : List GraphChild) → AllByRecursion IsSteady turns
    → AllZip (IsTurnChild types state) turns c → AllZip (IsTurnChild types state) turns d → AllZip IsAlikeChild c d
turns_same types state [] [] [] s g h = tt
turns_same types state [] (x ∷ c) d s g h = absurd g
turns_same types state [] [] (y ∷ d) s g h = absurd h
turns_same types state (t ∷ ts) [] d s g h = absurd g
turns_same types state (t ∷ ts) (x ∷ c) [] s g h = absurd h
turns_same types state (t ∷ ts) (x ∷ c) (y ∷ d) s g h =
    (turn_same types state t x y s.0 g.0 h.0, turns_same types state ts c d s.1 g.1 h.1)

-- ---- plans

children_same : (types : WorldTypes) (state : AbstractState) (plan : Plan) (c d : List GraphChild) → AreSteady plan
    → AreChildren types state plan c → AreChildren types state plan d → AllZip IsAlikeChild c d
children_same types state ends c d s g h = absurd g
children_same types state (steps turns) c d s g h = turns_same types state turns c d s g h
children_same types state (by_null x) c d s g h = null_same state x c d g h
children_same types state (by_class x wanted) c d s g h = class_same types state x wanted c d g h
children_same types state (by_equal x y) c d s g h = equal_same types.sub state x y c d g h

pub expanded_same : (types : WorldTypes) (state : AbstractState) (plan : Plan) (c d : List GraphChild) → AreSteady plan
    → AreExpanded types state plan c → AreExpanded types state plan d → c ≡ d
expanded_same types state plan c d s g h =
    leans_same g.wholes h.wholes c d (children_same types state plan g.wholes h.wholes s g.are h.are) g.lean h.lean
