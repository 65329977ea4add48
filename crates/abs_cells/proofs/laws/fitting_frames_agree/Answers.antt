use Rattle.abs_cells.proofs.Fitting.{frames_agree}
use Rattle.abs_cells.proofs.laws.fitting_frames_agree.Goals as goal

pub returns : goal.returns
returns c = frames_agree
