use Rattle.number_graphs.proofs.Cycles.{goes_on, less_work, ends}
use Rattle.throw_report.proofs.reaching.reached.Goals as goal

pub loop-number-smaller : goal.loop-number-smaller
loop-number-smaller c = less_work c.in-Some.number c.row_of.result.now c.loop-number.marks.items c.go_on_from.new.marks.items
    c.loop-number.todo _ c.go_on_from.new.todo c.in-Some.ensures c.in_ok-go_on_from.ensures

pub loop-number-preserved : goal.loop-number-preserved
loop-number-preserved c = goes_on c.args.rows.now c.args.start c.in-Some.number c.row_of.result.now c.loop-number.marks.items
    c.go_on_from.new.marks.items c.loop-number.todo _ c.go_on_from.new.todo c.loop-number.invariant c.in-Some.ensures
    c.row_of.ensures c.in_ok-go_on_from.ensures

pub returns : goal.returns
returns c = ends c.args.rows.now c.args.start c.loop-number.marks.items c.loop-number.todo c.loop-number.invariant c.in_default.ensures.0
