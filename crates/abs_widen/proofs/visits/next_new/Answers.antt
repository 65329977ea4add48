use Rattle.std.proofs.Common.{ℕ, List, sym, subst, ◌∙◌}
use Rattle.abs_widen.specs.inner.Visiting.{IsLeft}
use Rattle.abs_widen.proofs.Visiting.{left_more, next_of, none_of}
use Rattle.abs_widen.proofs.visits.next_new.Goals as goal

pub returns-then-not-is_met : goal.returns-then-not-is_met
returns-then-not-is_met c =
    next_of c.args.met.now c.args.todo.now.0 c.pop.new.self.0 c.in-Some.pair
    (subst (λ (pairs : List (ℕ × ℕ)). IsLeft c.args.met.now c.args.todo.now.0 pairs) c.in-Some.ensures.items c.loop-pair.invariant)
    (sym c.is_met.ensures ∙ c.if-not-is_met.true)

pub loop-pair-preserved : goal.loop-pair-preserved
loop-pair-preserved c =
    left_more c.args.met.now c.args.todo.now.0 c.pop.new.self.0 c.in-Some.pair
    (subst (λ (pairs : List (ℕ × ℕ)). IsLeft c.args.met.now c.args.todo.now.0 pairs) c.in-Some.ensures.items c.loop-pair.invariant)
    (sym c.is_met.ensures ∙ c.if-not-is_met.false)

pub returns : goal.returns
returns c = none_of c.args.met.now c.args.todo.now.0
    (subst (λ (pairs : List (ℕ × ℕ)). IsLeft c.args.met.now c.args.todo.now.0 pairs) c.in_default.ensures.items.0 c.loop-pair.invariant)
