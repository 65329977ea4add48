use Rattle.std.proofs.Common.{ℕ, List, length, map, sym, subst, arith, ap}
use Rattle.std.specs.List.{AllByRecursion}
use Rattle.class_program.specs.Views.{program_of}
use Rattle.class_program.specs.class_world.WorldTypes.{types_of}
use Rattle.abs_reach.proofs.Room.{count_low}
use Rattle.abs_plans.specs.abs_turns.declared.plans.Turn.{Turn}
use Rattle.abs_plans.specs.abs_turns.GoodPlans.{IsGoodTurn}
use Rattle.abs_plans.specs.abs_turns.PlansSeen.{turn_seen}
use Rattle.abs_expand.specs.inner.Building.{IsChildOf, turn_counts}
use Rattle.abs_expand.specs.Expansions.{AreFew, IsFirstTooMany}
use Rattle.abs_expand.proofs.ChildLists.{zip_mapped, all_mapped, expanded}
use Rattle.abs_expand.proofs.TurnChildren.{all_few}
use Rattle.abs_expand.proofs.expanding.children.Goals as goal

pub first_too_many-requires-clause-few : goal.first_too_many-requires-clause-few
first_too_many-requires-clause-few g c = omega (arith, count_low c.args.state.now.cells c.requires.good.rising, ap length c.cells.ensures)

pub first_too_many-requires-clause-turns : goal.first_too_many-requires-clause-turns
first_too_many-requires-clause-turns g c =
    subst (λ (turns : List Turn). AllByRecursion (IsGoodTurn (types_of (program_of c.args.program.now).world) c.args.state.now)
    (map turn_seen turns)) (sym c.as_slice.ensures) c.requires.turns

pub returns-in-Some : goal.returns-in-Some
returns-in-Some g c =
    let types = types_of (program_of c.args.program.now).world in
    subst (λ (n : ℕ). IsFirstTooMany (turn_counts types n (map turn_seen c.args.turns)) c.in-Some.child) (ap length c.cells.ensures)
    (subst (λ (turns : List Turn). IsFirstTooMany (turn_counts types (length c.cells.result.now) (map turn_seen turns))
    c.in-Some.child) c.as_slice.ensures c.in-Some.ensures)

pub children_of-requires-clause-turns : goal.children_of-requires-clause-turns
children_of-requires-clause-turns g c = all_mapped (IsGoodTurn (types_of (program_of c.args.program.now).world) c.args.state.now)
    turn_seen c.args.turns c.requires.turns

pub children_of-requires-clause-room : goal.children_of-requires-clause-room
children_of-requires-clause-room g c =
    let types = types_of (program_of c.args.program.now).world in
    all_few types (length c.args.state.now.cells) c.args.turns
    (subst (λ (n : ℕ). AreFew (turn_counts types n (map turn_seen c.args.turns))) (ap length c.cells.ensures)
    (subst (λ (turns : List Turn). AreFew (turn_counts types (length c.cells.result.now) (map turn_seen turns))) c.as_slice.ensures
    c.in_default.ensures))

pub returns-in-Ok : goal.returns-in-Ok
returns-in-Ok g c =
    let types = types_of (program_of c.args.program.now).world in
    expanded types c.args.state.now (map turn_seen c.args.turns) c.in-Ok.children
    (subst (λ (n : ℕ). AreFew (turn_counts types n (map turn_seen c.args.turns))) (ap length c.cells.ensures)
    (subst (λ (turns : List Turn). AreFew (turn_counts types (length c.cells.result.now) (map turn_seen turns))) c.as_slice.ensures
    c.in_default.ensures))
    (zip_mapped (IsChildOf types c.args.state.now) turn_seen c.args.turns c.in-Ok.children c.in-Ok.ensures.children)
