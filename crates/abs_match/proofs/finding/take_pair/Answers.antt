use Rattle.std.proofs.Common.{◌∙◌, sym}
use Rattle.abs_match.proofs.SearchTurns.{passed_on}
use Rattle.abs_match.proofs.finding.take_pair.Goals as goal

pub returns-then-has : goal.returns-then-has
returns-then-has g c = passed_on c.args.state.now c.args.target.now c.args.met.now c.args.entries.now.items c.args.todo.now.0
    c.args.id c.args.image (sym c.has.ensures ∙ c.if-has.true) c.requires.searching
