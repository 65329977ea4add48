use Rattle.std.proofs.Common.{Some}
use Rattle.abs_reach.specs.Instances.{image_in}
use Rattle.abs_match.specs.inner.Matching.{FirstSame}
use Rattle.abs_match.proofs.covers.have_images.Given as goal

abbrev pub invariant-loop-place : goal.invariant-loop-place
invariant-loop-place l = FirstSame (image_in l.entries) Some l.ids l.images l.place
