use Rattle.std.proofs.Common.{ℕ, List, subst}
use Rattle.abs_match.specs.inner.Forced.{IsSearching}
use Rattle.abs_match.proofs.SearchTurns.{went_on, went_less, none_goes}
use Rattle.abs_match.proofs.finding.take_all.Goals as goal

pub take_pair-requires-clause-searching : goal.take_pair-requires-clause-searching
take_pair-requires-clause-searching g c = subst
    (λ (pairs : List (ℕ × ℕ)). IsSearching c.args.state.now c.args.target.now c.loop-id.met c.loop-id.entries.items pairs)
    c.in-Some.ensures.items c.loop-id.invariant

pub returns-then-not-branch : goal.returns-then-not-branch
returns-then-not-branch g c = none_goes c.args.state.now c.args.target.now c.loop-id.met c.take_pair.new.met
    c.take_pair.new.entries.items c.pop.new.self.0 c.take_pair.new.todo.0 c.in_ok-take_pair.field-0 c.if-not-branch.true
    c.in_ok-take_pair.ensures

pub loop-id-smaller : goal.loop-id-smaller
loop-id-smaller g c = went_less c.args.state.now c.args.target.now c.loop-id.met c.take_pair.new.met c.take_pair.new.entries.items
    c.pop.new.self.0 c.take_pair.new.todo.0 c.in_ok-take_pair.field-0 c.if-not-branch.false c.in_ok-take_pair.ensures
    c.loop-id.todo.0 c.in-Some.id c.in-Some.image c.in-Some.ensures.items

pub loop-id-preserved : goal.loop-id-preserved
loop-id-preserved g c = went_on c.args.state.now c.args.target.now c.loop-id.met c.take_pair.new.met c.take_pair.new.entries.items
    c.pop.new.self.0 c.take_pair.new.todo.0 c.in_ok-take_pair.field-0 c.if-not-branch.false c.in_ok-take_pair.ensures

pub returns : goal.returns
returns g c = subst (λ (pairs : List (ℕ × ℕ)). IsSearching c.args.state.now c.args.target.now c.loop-id.met c.loop-id.entries.items
    pairs) c.in_default.ensures.items.0 c.loop-id.invariant
