use Rattle.std.proofs.Common.{arith}
use Rattle.class_read.proofs.Outcome.{is_found, is_only}
use Rattle.class_read.proofs.view.ClassView.read.Goals as goal

pub returns-clause-found : goal.returns-clause-found
returns-clause-found c = is_found c.args.bytes.now c.class.result (λ i. omega (arith, c.type_inv.bytes i)) c.class.ensures

pub returns-clause-only : goal.returns-clause-only
returns-clause-only c = λ d s. is_only c.args.bytes.now c.class.result d s c.class.ensures
