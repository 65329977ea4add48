use Rattle.abs_widen.proofs.Sides.{fields_long}
use Rattle.abs_widen.proofs.merged.row_cell.Goals as goal

pub instance_cell-requires-clause-long : goal.instance_cell-requires-clause-long
instance_cell-requires-clause-long g c = fields_long _ c.args.a.now c.args.b.now c.args.pair c.args.cell.now c.args.other.now
    c.requires.cells c.in-Obj.class c.in-Obj.ids c.in-Obj.is
