use Rattle.abs_match.proofs.Forcing.{nothing_here, nowhere_there, pair_here, one_more}
use Rattle.abs_match.proofs.forced.put_place.Goals as goal

pub returns-in_default-clause-puts : goal.returns-in_default-clause-puts
returns-in_default-clause-puts c = nothing_here c.args.theirs c.args.ours c.args.todo.now.0 c.in_default.is

pub returns-in_default-ours-clause-puts : goal.returns-in_default-ours-clause-puts
returns-in_default-ours-clause-puts c = nowhere_there c.args.theirs c.args.ours c.args.todo.now.0 c.in-Some.id c.in-Some.is
    c.in_default-ours.is

pub returns-clause-puts : goal.returns-clause-puts
returns-clause-puts c = pair_here c.args.theirs c.args.ours c.args.todo.now.0 c.in-Some.id c.in-Some-ours.image c.put.new.todo.0
    c.in-Some.is c.in-Some-ours.is c.in_ok-put.ensures.ok

pub returns-clause-few : goal.returns-clause-few
returns-clause-few c = one_more c.in-Some.id c.in-Some-ours.image c.args.todo.now.0 c.put.new.todo.0 c.in_ok-put.ensures.ok
