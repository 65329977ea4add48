use Rattle.abs_match.specs.declared.clauses.IdClause.TheVariants.{Cells, Aliases, Sharing, Shapes}
use Rattle.abs_match.proofs.Ready.{entries_rise}
use Rattle.abs_match.proofs.Testing.{by_clause, one_cell}
use Rattle.abs_match.proofs.matching.keeps.Goals as goal

pub is_covered-requires-clause-keys : goal.is_covered-requires-clause-keys
is_covered-requires-clause-keys g c = entries_rise c.args.state.now c.args.target.now c.args.entries.now c.requires.matched

pub is_covered-requires-clause-rising : goal.is_covered-requires-clause-rising
is_covered-requires-clause-rising g c = c.requires.matched.good.rising

pub returns-in-Cells : goal.returns-in-Cells
returns-in-Cells g c =
    by_clause (g.T.Types.sub c.args.types.now) c.args.state.now c.args.target.now c.args.entries.now c.args.clause Cells c.args.id
    c.is_covered.result c.in-Cells.is
    (one_cell (g.T.Types.sub c.args.types.now) c.args.state.now c.args.target.now c.args.entries.now c.args.id c.args.cell.now
    c.is_covered.result c.requires.at c.is_covered.ensures)

pub returns-in-Aliases : goal.returns-in-Aliases
returns-in-Aliases g c = by_clause (g.T.Types.sub c.args.types.now) c.args.state.now c.args.target.now c.args.entries.now
    c.args.clause Aliases c.args.id c.aliases_fit.result c.in-Aliases.is c.aliases_fit.ensures

pub returns-in-Sharing : goal.returns-in-Sharing
returns-in-Sharing g c = by_clause (g.T.Types.sub c.args.types.now) c.args.state.now c.args.target.now c.args.entries.now
    c.args.clause Sharing c.args.id c.sharing_fits.result c.in-Sharing.is c.sharing_fits.ensures

pub returns-in-Shapes : goal.returns-in-Shapes
returns-in-Shapes g c = by_clause (g.T.Types.sub c.args.types.now) c.args.state.now c.args.target.now c.args.entries.now
    c.args.clause Shapes c.args.id c.shape_fits.result c.in-Shapes.is c.shape_fits.ensures
