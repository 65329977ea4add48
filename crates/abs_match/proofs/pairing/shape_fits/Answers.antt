use Rattle.abs_match.proofs.Ready.{entries_rise}
use Rattle.abs_match.proofs.pairing.shape_fits.Goals as goal

pub image_of-requires : goal.image_of-requires
image_of-requires g c = entries_rise c.args.state.now c.args.target.now c.args.entries.now c.requires.matched
