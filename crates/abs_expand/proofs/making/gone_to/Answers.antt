use Rattle.std.proofs.Common.{◌≡◌, sym, ap, subst}
use Rattle.std.proofs.lemmas.Bool.{MatchBool-at_true, MatchBool-at_false}
use Rattle.abs_cells.specs.Sound.{IsWellFormed}
use Rattle.abs_plans.specs.abs_turns.Plans.{Goal, nowhere}
use Rattle.abs_plans.specs.abs_turns.PlansSeen.{goal_seen}
use Rattle.abs_expand.specs.Children.{gone_to}
use Rattle.abs_expand.specs.inner.Making.{GoesSomewhere}
use Rattle.abs_expand.proofs.GoingTo.{gone_good, gone_as}
use Rattle.abs_expand.proofs.making.gone_to.Goals as goal

pub returns-then-is_nowhere : goal.returns-then-is_nowhere
returns-then-is_nowhere g c =
    let goes = MatchBool-at_true (goal_seen c.args.goal ≡ nowhere) (GoesSomewhere (goal_seen c.args.goal)) c.if-is_nowhere.true
    c.is_nowhere.ensures in
    let is : c.args.state ≡ gone_to (goal_seen c.args.goal) c.args.id c.args.state =
    ap (λ (go : Goal). gone_to go c.args.id c.args.state) (sym goes) in
    record { is = is; good = c.requires.good }

pub returns : goal.returns
returns g c =
    let goes = MatchBool-at_false (goal_seen c.args.goal ≡ nowhere) (GoesSomewhere (goal_seen c.args.goal)) c.if-is_nowhere.false
    c.is_nowhere.ensures in
    let is = gone_as (goal_seen c.args.goal) c.args.id c.args.state c.new.result c.in_ok-frames.frames c.in_ok-same.same
    c.frames.result.now c.thrown_to-throwing.result c.throwing.result
    c.in_ok-cells.cells c.cells.result.now _ _ _ _ c.new.ensures c.in_ok-frames.ensures c.in_ok-same.ensures c.frames.ensures
    c.thrown_to-throwing.ensures c.throwing.ensures
    c.in_ok-cells.ensures c.cells.ensures c.in_ok-eq.ensures c.eq.ensures c.in_ok-share.ensures c.share.ensures in
    record {
      is = is;
      good = subst IsWellFormed (sym is) (gone_good c.args.state c.requires.good c.args.id (c.requires.there goes)
          (goal_seen c.args.goal));
    }
