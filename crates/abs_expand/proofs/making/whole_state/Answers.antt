use Rattle.std.proofs.Common.{reverse, subst, sym, ℕ, ◌+◌, ◌≤◌}
use Rattle.jvm_values.specs.TypedHeaps.{WorldTypes, world_types}
use Rattle.abs_cells.specs.Limits.{most_ids}
use Rattle.abs_plans.specs.abs_turns.Plans.{ids_made}
use Rattle.abs_plans.specs.abs_turns.PlansSeen.{act_seen, goal_seen}
use Rattle.abs_expand.proofs.Acting.{act_moves}
use Rattle.abs_expand.proofs.making.whole_state.Goals as goal

pub acted-requires : goal.acted-requires
acted-requires g c =
    let t : WorldTypes = world_types (g.T.Types.sub c.args.types.now) (g.T.Types.erase c.args.types.now)
    (g.T.Types.classes c.args.types.now) (g.T.Types.fields c.args.types.now)
    (g.T.Types.can_be_made c.args.types.now) in
    let before = c.in_ok-before.before in
    record {
      good = c.in_ok-before.ensures.good;
      few = subst (λ (n : ℕ). n + ids_made t (act_seen c.args.act) ≤ most_ids) (sym c.in_ok-before.ensures.count) c.requires.few;
      act =
          act_moves t c.args.state.now before c.args.changed.now (reverse c.args.frames) c.args.throwing c.requires.good
          c.in_ok-before.ensures.given (act_seen c.args.act) (goal_seen c.args.goal)
          c.requires.act;
    }
