use Rattle.std.proofs.lemmas.Result.{err_from_is_err_and}
use Rattle.class_read.specs.Reading.{collected}
use Rattle.class_read.specs.FirstFault.{handler_at}
use Rattle.class_read.proofs.Loop.{collects, ends_collecting, is_done}
use Rattle.class_read.proofs.code.handlers.Goals as goal

pub returns-in_err-entry : goal.returns-in_err-entry
returns-in_err-entry c =
    let p = err_from_is_err_and c.from_residual.result c.from_residual.ensures.1 in
    ends_collecting _ _ _ _ (handler_at c.args.total c.args.pool.now) _ _ _ _ _ p.1 p.2 c.handlers-test.true c.in_err-entry.ensures
    c.handlers.invariant

pub handlers-preserved : goal.handlers-preserved
handlers-preserved c = collects (handler_at c.args.total c.args.pool.now) _ _ _ _ _ _ _ _ c.handlers-test.true c.in_ok-entry.ensures
    c.in_ok-push.ensures.items c.handlers.invariant

pub returns : goal.returns
returns c = is_done (collected (handler_at c.args.total c.args.pool.now)) _ _ _ _ _ c.handlers-test.false c.handlers.invariant
