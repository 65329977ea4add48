use Rattle.std.proofs.Common.{length, ap, arith}
use Rattle.abs_expand.proofs.SplitChildren.{null_well}
use Rattle.abs_expand.proofs.SplitCounts.{null_crowded, null_expanded}
use Rattle.abs_expand.proofs.splitting.null_children.Goals as goal

pub returns-then-cells-gt-MOST_IDS : goal.returns-then-cells-gt-MOST_IDS
returns-then-cells-gt-MOST_IDS g c types = null_crowded types c.args.state.now (omega (
  arith,
  c.if-cells-gt-MOST_IDS.true,
  ap length c.cells.ensures,
))

pub lean_children-requires : goal.lean_children-requires
lean_children-requires g c = null_well c.args.state.now c.requires.good c.args.x c.in_ok-children.children c.in_ok-children.ensures

pub returns : goal.returns
returns g c types =
    null_expanded types c.args.state.now c.args.x c.in_ok-children.children _ (omega (
      arith,
      c.if-cells-gt-MOST_IDS.false,
      ap length c.cells.ensures,
    )) c.in_ok-children.ensures
    c.in_ok-lean_children.ensures
