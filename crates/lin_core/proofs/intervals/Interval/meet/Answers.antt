use Rattle.std.proofs.Common.{arith, to_z-of_z}
use Rattle.lin_core.proofs.CommonInterval.{meet_is}
use Rattle.lin_core.proofs.intervals.Interval.meet.Goals as goal

pub returns-clause-common : goal.returns-clause-common
returns-clause-common c = (meet_is c.args.self c.args.other c.new.result (grind (arith, to_z-of_z))).common

pub returns-clause-apart : goal.returns-clause-apart
returns-clause-apart c = (meet_is c.args.self c.args.other c.new.result (grind (arith, to_z-of_z))).apart
