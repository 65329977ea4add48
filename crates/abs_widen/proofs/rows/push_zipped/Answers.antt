use Rattle.abs_widen.proofs.Zips.{zip_least}
use Rattle.abs_widen.proofs.rows.push_zipped.Goals as goal

pub loop-n-init : goal.loop-n-init
loop-n-init c = zip_least c.args.ids.now c.args.more.now c.min-n.result c.args.todo.now.0 c.min-n.ensures
