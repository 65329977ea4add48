use Rattle.std.proofs.Common.{arith}
use Rattle.abs_turns.proofs.Placing.{set_parts}
use Rattle.abs_plans.proofs.abs_rows.fields.with_id.Goals as goal

pub returns : goal.returns
returns c = set_parts c.args.ids.now c.args.place c.args.id c.in_ok-list.list c.push.new.self c.push_all.new.list
    (omega (arith, c.if-place-ids.false)) c.in_ok-list.ensures c.in_ok-push.ensures.ok c.in_ok-push_all.ensures
