use Rattle.std.specs.Bool.{MatchBool}
use Rattle.std.proofs.lemmas.Result.{IfOk-weaker}
use Rattle.abs_cells.specs.Sound.{ids_of_frame}
use Rattle.abs_match.specs.inner.Forced.{ArePut, NoneDoes, entries_ask, frame_asks}
use Rattle.abs_match.proofs.Forcing.{frame_none, frame_put, locals_were_put}
use Rattle.abs_match.proofs.forced.put_frame.Goals as goal

pub returns-then-not-branch : goal.returns-then-not-branch
returns-then-not-branch c = frame_none c.args.theirs.now c.args.ours.now c.locals.result.now c.locals-2.result.now
    c.in_ok-put_locals.field-0 c.args.todo.now.0 c.put_locals.new.todo.0 c.locals.ensures c.locals-2.ensures c.if-not-branch.true
    c.in_ok-put_locals.ensures

pub returns : goal.returns
returns c =
    IfOk-weaker c.put_entries.result
    (λ r. MatchBool r (ArePut (entries_ask c.stack.result.now c.stack-2.result.now) c.stack.result.now c.put_locals.new.todo.0
    c.put_entries.new.todo.0) (NoneDoes (entries_ask c.stack.result.now c.stack-2.result.now)))
    (λ r. MatchBool r (ArePut (frame_asks c.args.theirs.now c.args.ours.now) (ids_of_frame c.args.theirs.now) c.args.todo.now.0
    c.put_entries.new.todo.0) (NoneDoes (frame_asks c.args.theirs.now c.args.ours.now)))
    (λ r h. frame_put c.args.theirs.now c.args.ours.now c.locals.result.now c.locals-2.result.now c.stack.result.now
    c.stack-2.result.now r c.args.todo.now.0 c.put_locals.new.todo.0 c.put_entries.new.todo.0 c.locals.ensures
    c.locals-2.ensures c.stack.ensures c.stack-2.ensures
    (locals_were_put c.locals.result.now c.locals-2.result.now c.in_ok-put_locals.field-0 c.args.todo.now.0 c.put_locals.new.todo.0
    c.if-not-branch.false c.in_ok-put_locals.ensures) h)
    c.put_entries.ensures
