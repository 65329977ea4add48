use Rattle.abs_reach.proofs.Finding.{ids_are_keys, stands, none}
use Rattle.abs_reach.proofs.find.cell_of.Goals as goal

pub place_of-requires : goal.place_of-requires
place_of-requires c = ids_are_keys 0 c.args.cells.now c.requires

pub returns-in-Some : goal.returns-in-Some
returns-in-Some c = let at = c.in-Some.ensures in let d = c.index-cells-place.result in stands 0 c.args.cells.now c.args.id
    c.in-Some.place d c.requires at.0 (at.1 d)

pub returns-in-None : goal.returns-in-None
returns-in-None c = none c.args.cells.now c.args.id c.in-None.ensures
