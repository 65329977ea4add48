use Rattle.std.proofs.Common.{sym}
use Rattle.abs_match.proofs.Keys.{stands, none}
use Rattle.abs_match.proofs.maps.image_of.Goals as goal

pub returns-in-Some : goal.returns-in-Some
returns-in-Some c = let at = c.in-Some.ensures in sym
    (stands 0 c.args.entries.now c.args.id c.in-Some.place (0, 0) c.requires at.0 (at.1 (0, 0)))

pub returns-in-None : goal.returns-in-None
returns-in-None c = sym (none c.args.entries.now c.args.id c.in-None.ensures)
