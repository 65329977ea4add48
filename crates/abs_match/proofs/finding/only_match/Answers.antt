use Rattle.std.proofs.Common.{◌∙◌, ℕ, List, sym, subst}
use Rattle.std.proofs.lemmas.Bool.{false≢true}
use Rattle.abs_cells.specs.declared.cells.Cell.{Cell}
use Rattle.abs_cells.specs.Sound.{AreIdsRising}
use Rattle.abs_match.proofs.SearchTurns.{not_rising, none_begun_of, begun_of, none_end, only_end}
use Rattle.abs_match.proofs.finding.only_match.Goals as goal

pub returns-then-not-ids_rise : goal.returns-then-not-ids_rise
returns-then-not-ids_rise g c = not_rising c.args.state.now c.args.target.now
    (λ r. false≢true (sym c.if-not-ids_rise.true
    ∙ c.ids_rise.ensures.1 (subst (λ (cs : List (ℕ × Cell)). AreIdsRising 0 cs) (sym c.cells.ensures) r)))

pub returns-then-not-branch : goal.returns-then-not-branch
returns-then-not-branch g c = none_begun_of c.args.state.now c.args.target.now c.new-todo.result.0 c.put_positions.new.todo.0
    c.in_ok-put_positions.field-0 c.if-not-branch.true c.in_ok-put_positions.ensures

pub take_all-requires-clause-rising : goal.take_all-requires-clause-rising
take_all-requires-clause-rising g c = subst (λ (cs : List (ℕ × Cell)). AreIdsRising 0 cs) c.cells.ensures
    (c.ids_rise.ensures.0 c.if-not-ids_rise.false)

pub take_all-requires-clause-searching : goal.take_all-requires-clause-searching
take_all-requires-clause-searching g c = begun_of c.args.state.now c.args.target.now c.new-met.result c.in_ok-entries.entries.items
    c.new-todo.result.0 c.put_positions.new.todo.0 c.in_ok-put_positions.field-0 c.if-not-branch.false c.new-todo.ensures
    c.new-met.ensures c.cells-2.result.now c.cells-2.ensures c.in_ok-entries.ensures c.in_ok-put_positions.ensures

pub returns-then-not-branch-2 : goal.returns-then-not-branch-2
returns-then-not-branch-2 g c = none_end c.args.state.now c.args.target.now c.take_all.new.met c.take_all.new.entries.items
    c.in_ok-take_all.field-0 c.if-not-branch-2.true c.in_ok-take_all.ensures

pub returns : goal.returns
returns g c = only_end c.args.state.now c.args.target.now c.take_all.new.met c.take_all.new.entries.items c.in_ok-take_all.field-0
    c.if-not-branch-2.false c.in_ok-take_all.ensures
    (subst (λ (cs : List (ℕ × Cell)). AreIdsRising 0 cs) c.cells.ensures (c.ids_rise.ensures.0 c.if-not-ids_rise.false)) c.requires.reached
