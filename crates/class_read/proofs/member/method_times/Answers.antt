use Rattle.std.proofs.lemmas.Result.{err_from_is_err_and}
use Rattle.class_read.specs.FirstFault.{more_methods_at}
use Rattle.class_read.proofs.Loop.{goes, ends, is_done}
use Rattle.class_read.proofs.Members.{method_steps, method_seen, method_fails}
use Rattle.class_read.proofs.member.method_times.Goals as goal

pub returns-in_err-more : goal.returns-in_err-more
returns-in_err-more c =
    let p = err_from_is_err_and c.from_residual.result c.from_residual.ensures.1 in
    let failed = method_fails _ _ _ _ _ _ c.methods.invariant.keys c.in_err-more.ensures.method in
    ends _ _ _ _ (more_methods_at c.args.total c.args.pool.now) _ _ _ _ _ p.1 p.2 c.methods-test.true failed c.methods.invariant.same

pub methods-preserved : goal.methods-preserved
methods-preserved c =
    let stepped = method_steps _ _ _ _ _ _ _ _ c.methods.invariant.keys c.in_ok-more.ensures.method c.in_ok-push.ensures.items in
    record {
      numbers = c.in_ok-more.ensures.joins.numbers;
      keys = method_seen _ _ _ _ _ c.methods.invariant.keys c.in_ok-push.ensures.items c.in_ok-more.ensures.joins.keys;
      same = goes (more_methods_at c.args.total c.args.pool.now) _ _ _ _ _ _ _ c.methods-test.true stepped c.methods.invariant.same;
    }

pub returns : goal.returns
returns c = is_done (more_methods_at c.args.total c.args.pool.now) _ _ _ _ _ c.methods-test.false c.methods.invariant.same
