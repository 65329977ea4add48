use Rattle.std.proofs.Common.{◌≡◌, drop}
use Rattle.abs_reach.specs.abs_sound.Zips.{all_zip}
use Rattle.abs_expand.specs.inner.PlaceTests.{is_of_place}
use Rattle.abs_expand.proofs.places.are_of_places.Given as goal

abbrev pub invariant-loop-n : goal.invariant-loop-n
invariant-loop-n l = all_zip (is_of_place l.cells) (drop l.n l.places) (drop l.n l.locals) ≡ all_zip (is_of_place l.cells) l.places
    l.locals
