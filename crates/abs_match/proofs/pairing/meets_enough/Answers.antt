use Rattle.std.proofs.Common.{ℕ}
use Rattle.abs_cells.specs.Cells.{is_hazy}
use Rattle.abs_cells.specs.Closures.{MayMeet}
use Rattle.abs_reach.specs.Known.{MayMeetSome}
use Rattle.abs_match.proofs.Ready.{entries_rise, image_there, images_low, id_low, keys_of, rising_of, apart_of}
use Rattle.abs_match.proofs.Enough.{exactly, in_state, meets_none}
use Rattle.abs_match.proofs.pairing.meets_enough.Goals as goal

pub apart_images-others-requires-clause-keys : goal.apart_images-others-requires-clause-keys
apart_images-others-requires-clause-keys g c = keys_of c.args.state.now c.args.target.now c.args.entries.now c.requires.matched
    c.cells.result.now c.cells.ensures

pub apart_images-others-requires-clause-rising : goal.apart_images-others-requires-clause-rising
apart_images-others-requires-clause-rising g c = rising_of c.args.state.now c.args.target.now c.args.entries.now c.requires.matched
    c.cells.result.now c.cells.ensures

pub apart_images-others-requires-clause-entries_rise : goal.apart_images-others-requires-clause-entries_rise
apart_images-others-requires-clause-entries_rise g c = entries_rise c.args.state.now c.args.target.now c.args.entries.now
    c.requires.matched

pub apart_images-others-requires-clause-low : goal.apart_images-others-requires-clause-low
apart_images-others-requires-clause-low g c = id_low c.args.state.now c.args.target.now c.args.entries.now c.requires.matched
    c.args.id c.requires.is.cell c.requires.is.is

pub apart_images-others-requires-clause-images : goal.apart_images-others-requires-clause-images
apart_images-others-requires-clause-images g c = images_low c.args.state.now c.args.target.now c.args.entries.now c.requires.matched

pub may_meet_some-requires-clause-good : goal.may_meet_some-requires-clause-good
may_meet_some-requires-clause-good g c = c.requires.matched.good

pub may_meet_some-requires-clause-there : goal.may_meet_some-requires-clause-there
may_meet_some-requires-clause-there g c = image_there c.args.state.now c.args.target.now c.args.entries.now c.requires.matched
    c.args.id c.args.image c.requires.maps

pub returns : goal.returns
returns g c =
    let set_is = apart_of c.args.target.now c.cells.result.now c.args.entries.now (g.P.Pairs.pairs c.share.result.now)
    c.args.target.now.share is_hazy c.args.id c.apart_images-others.result c.cells.ensures c.share.ensures
    c.apart_images-others.ensures in
    exactly c.args.target.now c.args.entries.now c.args.target.now.share is_hazy is_hazy (MayMeet c.args.state.now) c.args.id
    c.args.image c.apart_images-others.result c.requires.is c.requires.maps set_is
    (MayMeetSome c.args.state.now c.args.image c.apart_images-others.result) c.may_meet_some.result c.may_meet_some.ensures
    (meets_none c.args.state.now c.args.image c.apart_images-others.result
    (in_state c.args.target.now c.args.entries.now c.args.target.now.share is_hazy is_hazy (MayMeet c.args.state.now)
    c.args.id c.args.image c.apart_images-others.result c.requires.is c.requires.maps set_is c.args.state.now
    c.requires.matched.mapped))
