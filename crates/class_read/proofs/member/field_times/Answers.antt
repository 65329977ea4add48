use Rattle.std.proofs.lemmas.Result.{err_from_is_err_and}
use Rattle.class_read.specs.FirstFault.{more_fields_at}
use Rattle.class_read.proofs.Loop.{goes, ends, is_done}
use Rattle.class_read.proofs.Members.{field_steps, field_seen, field_fails}
use Rattle.class_read.proofs.member.field_times.Goals as goal

pub returns-in_err-more : goal.returns-in_err-more
returns-in_err-more c =
    let p = err_from_is_err_and c.from_residual.result c.from_residual.ensures.1 in
    let failed = field_fails _ _ _ _ _ _ c.fields.invariant.keys c.in_err-more.ensures.field in
    ends _ _ _ _ (more_fields_at c.args.total c.args.pool.now) _ _ _ _ _ p.1 p.2 c.fields-test.true failed c.fields.invariant.same

pub fields-preserved : goal.fields-preserved
fields-preserved c =
    let stepped = field_steps _ _ _ _ _ _ _ _ c.fields.invariant.keys c.in_ok-more.ensures.field c.in_ok-push.ensures.items in
    record {
      numbers = c.in_ok-more.ensures.joins.numbers;
      keys = field_seen _ _ _ _ _ c.fields.invariant.keys c.in_ok-push.ensures.items c.in_ok-more.ensures.joins.keys;
      same = goes (more_fields_at c.args.total c.args.pool.now) _ _ _ _ _ _ _ c.fields-test.true stepped c.fields.invariant.same;
    }

pub returns : goal.returns
returns c = is_done (more_fields_at c.args.total c.args.pool.now) _ _ _ _ _ c.fields-test.false c.fields.invariant.same
