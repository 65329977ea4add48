use Rattle.std.proofs.Common.{◌∷◌, ℕ, List, ap, ◌∙◌}
use Rattle.abs_widen.proofs.Visiting.{one_visited}
use Rattle.std.proofs.lemmas.Result.{on_ok_weaker}
use Rattle.abs_widen.proofs.visits.visit.Goals as goal

pub returns-clause-ok : goal.returns-clause-ok
returns-clause-ok g c = on_ok_weaker c.visit_all.result
    (one_visited c.args.a.now c.args.b.now c.args.met.now.items c.push_pair.new.todo.0 c.args.id c.args.other
    c.visit_all.new.met.items (c.in_ok-push_pair.ensures ∙ ap (λ (l : List (ℕ × ℕ)). (c.args.id, c.args.other) ∷ l)
    c.new-todo.ensures)) c.visit_all.ensures.ok
