use Rattle.std.proofs.lemmas.Result.{err_from_is_err_and}
use Rattle.class_read.specs.FirstFault.{skipped_at}
use Rattle.class_read.proofs.Loop.{goes, ends, is_done}
use Rattle.class_read.proofs.attribute.skipped_times.Goals as goal

pub returns-in_err-after : goal.returns-in_err-after
returns-in_err-after c =
    let p = err_from_is_err_and c.from_residual.result c.from_residual.ensures.1 in
    ends _ _ _ _ (skipped_at c.args.total c.args.pool.now) _ _ _ _ _ p.1 p.2 c.attributes-test.true c.in_err-after.ensures
    c.attributes.invariant

pub attributes-preserved : goal.attributes-preserved
attributes-preserved c = goes (skipped_at c.args.total c.args.pool.now) _ _ _ _ _ _ _ c.attributes-test.true c.in_ok-after.ensures
    c.attributes.invariant

pub returns : goal.returns
returns c = is_done (skipped_at c.args.total c.args.pool.now) _ _ _ _ _ c.attributes-test.false c.attributes.invariant
