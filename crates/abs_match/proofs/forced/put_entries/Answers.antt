use Rattle.abs_match.specs.inner.Forced.{entries_ask}
use Rattle.abs_match.proofs.Forcing.{first_none, entry_ids, entry_fails, entry_more, all_entries}
use Rattle.abs_match.proofs.forced.put_entries.Goals as goal

pub loop-n-init : goal.loop-n-init
loop-n-init c = first_none (entries_ask c.args.theirs.now c.args.ours.now) (entry_ids c.args.theirs.now c.args.ours.now)
    c.args.theirs.now c.args.todo.now.0

pub returns-then-not-branch : goal.returns-then-not-branch
returns-then-not-branch c = entry_fails c.args.theirs.now c.args.ours.now c.loop-n.n c.entry_at.result c.in_ok-put_place.field-0
    c.loop-n.todo.0 c.put_place.new.todo.0 c.loop-n-test.true c.entry_at.ensures c.if-not-branch.true c.in_ok-put_place.ensures.puts

pub loop-n-preserved : goal.loop-n-preserved
loop-n-preserved c = entry_more c.args.theirs.now c.args.ours.now c.loop-n.n c.entry_at.result c.in_ok-put_place.field-0
    c.args.todo.now.0 c.loop-n.todo.0 c.put_place.new.todo.0 c.loop-n-test.true c.entry_at.ensures c.if-not-branch.false
    c.loop-n.invariant c.in_ok-put_place.ensures.puts

pub returns : goal.returns
returns c = all_entries c.args.theirs.now c.args.ours.now c.loop-n.n c.args.todo.now.0 c.loop-n.todo.0 c.loop-n-test.false
    c.loop-n.invariant
