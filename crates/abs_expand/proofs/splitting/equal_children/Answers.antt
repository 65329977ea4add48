use Rattle.std.proofs.Common.{length, ap, arith}
use Rattle.class_program.specs.Views.{program_of}
use Rattle.class_program.specs.class_world.WorldTypes.{types_of}
use Rattle.abs_expand.proofs.SplitChildren.{equal_well}
use Rattle.abs_expand.proofs.SplitCounts.{equal_crowded, equal_expanded}
use Rattle.abs_expand.proofs.splitting.equal_children.Goals as goal

pub returns-then-count-gt-MOST_IDS : goal.returns-then-count-gt-MOST_IDS
returns-then-count-gt-MOST_IDS g c =
    equal_crowded (types_of (program_of c.args.program.now).world) c.args.state.now c.args.x c.args.y c.in_ok-children.children
    c.first_too_many.result c.len.result (length c.cells-count.result.now)
    c.in_ok-children.ensures (omega (arith, c.if-count-gt-MOST_IDS.true)) c.len.ensures (ap length c.cells-count.ensures)
    c.first_too_many.ensures

pub lean_children-requires : goal.lean_children-requires
lean_children-requires g c =
    equal_well c.args.state.now c.requires.good (types_of (program_of c.args.program.now).world).sub c.args.x c.args.y
    c.requires.differ c.in_ok-children.children c.in_ok-children.ensures

pub returns : goal.returns
returns g c =
    equal_expanded (types_of (program_of c.args.program.now).world) c.args.state.now c.args.x c.args.y c.in_ok-children.children _
    (omega (arith, c.if-count-gt-MOST_IDS.false, ap length c.cells-count.ensures)) c.in_ok-children.ensures c.in_ok-lean_children.ensures
