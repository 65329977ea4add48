use Rattle.std.proofs.Common.{◌<◌, length, arith}
use Rattle.frame_types.proofs.Entering.{too_deep}
use Rattle.frame_types.proofs.table.Table.enter.Goals as goal

pub returns-then-len-from : goal.returns-then-len-from
returns-then-len-from g c =
    let d : c.args.self.now.max_stack < length c.args.frame.now.stack.0 = omega
    (arith, c.len.ensures, c.from.ensures, c.if-len-from.true) in
    too_deep _ (g.met.T.Types.laws c.args.types.now) c.args.self.now _ _ d
