use Rattle.std.proofs.Common.{sym, subst}
use Rattle.std.specs.Prelude.{Err}
use Rattle.class_program.specs.Views.{program_of}
use Rattle.class_program.specs.class_world.WorldTypes.{types_of}
use Rattle.abs_plans.specs.abs_turns.Plans.{by_class}
use Rattle.abs_expand.specs.declared.fault.ExpandFault.{ExpandFault}
use Rattle.abs_expand.specs.Answers.{HasPlanChildren}
use Rattle.abs_expand.proofs.SplitChildren.{class_well}
use Rattle.abs_expand.proofs.SplitCounts.{class_told, class_expanded, no_first}
use Rattle.abs_expand.proofs.splitting.class_children.Goals as goal

pub lean_children-requires : goal.lean_children-requires
lean_children-requires g c = class_well c.args.state.now c.requires.good (types_of (program_of c.args.program.now).world) c.args.x
    c.args.wanted c.in-Ok.children c.in-Ok.ensures.children

pub returns-in_ok-lean_children-in-Ok : goal.returns-in_ok-lean_children-in-Ok
returns-in_ok-lean_children-in-Ok g c =
    let types = types_of (program_of c.args.program.now).world in
    class_expanded types c.args.state.now c.args.x c.args.wanted c.in-Ok.children _ c.in-Ok.ensures.children
    (no_first types c.args.state.now c.args.x c.args.wanted c.in-Ok.children c.in-Ok.ensures.too_many) c.in_ok-lean_children-in-Ok.ensures

pub returns-in-Err : goal.returns-in-Err
returns-in-Err g c =
    let types = types_of (program_of c.args.program.now).world in
    subst (λ (fault : ExpandFault). HasPlanChildren types c.args.state.now (by_class c.args.x c.args.wanted) (Err fault))
    (sym c.fault_of_split.ensures)
    (class_told types c.args.state.now c.args.x c.args.wanted c.in-Err.fault c.in-Err.ensures.too_many)
