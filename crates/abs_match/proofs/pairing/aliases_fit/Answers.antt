use Rattle.std.proofs.Common.{◌∙◌, refl, sym}
use Rattle.std.proofs.lemmas.Bool.{not_from_false}
use Rattle.abs_cells.specs.Cells.{is_int, HasCell}
use Rattle.abs_reach.specs.Instances.{is_no_int, MayBeOne}
use Rattle.abs_match.proofs.Ready.{entries_rise, image_there, images_low, id_low, keys_of, rising_of, apart_of}
use Rattle.abs_match.proofs.Enough.{enough, none_left, pairs_enough, int_is_free, unmapped_is_free}
use Rattle.abs_match.proofs.pairing.aliases_fit.Goals as goal

pub image_of-requires : goal.image_of-requires
image_of-requires g c = entries_rise c.args.state.now c.args.target.now c.args.entries.now c.requires.matched

pub apart_images-others-requires-clause-keys : goal.apart_images-others-requires-clause-keys
apart_images-others-requires-clause-keys g c = keys_of c.args.state.now c.args.target.now c.args.entries.now c.requires.matched
    c.cells.result.now c.cells.ensures

pub apart_images-others-requires-clause-rising : goal.apart_images-others-requires-clause-rising
apart_images-others-requires-clause-rising g c = rising_of c.args.state.now c.args.target.now c.args.entries.now c.requires.matched
    c.cells.result.now c.cells.ensures

pub apart_images-others-requires-clause-entries_rise : goal.apart_images-others-requires-clause-entries_rise
apart_images-others-requires-clause-entries_rise g c = entries_rise c.args.state.now c.args.target.now c.args.entries.now
    c.requires.matched

pub apart_images-others-requires-clause-low : goal.apart_images-others-requires-clause-low
apart_images-others-requires-clause-low g c = id_low c.args.state.now c.args.target.now c.args.entries.now c.requires.matched
    c.args.id c.args.cell.now c.requires.at

pub apart_images-others-requires-clause-images : goal.apart_images-others-requires-clause-images
apart_images-others-requires-clause-images g c = images_low c.args.state.now c.args.target.now c.args.entries.now c.requires.matched

pub is_alone-requires-clause-good : goal.is_alone-requires-clause-good
is_alone-requires-clause-good g c = c.requires.matched.good

pub is_alone-requires-clause-there : goal.is_alone-requires-clause-there
is_alone-requires-clause-there g c = image_there c.args.state.now c.args.target.now c.args.entries.now c.requires.matched c.args.id
    c.in-Some.image (sym c.image_of.ensures ∙ c.in-Some.is)

pub returns-then-is_int : goal.returns-then-is_int
returns-then-is_int g c = (
  λ _. int_is_free c.args.state.now c.args.target.now c.args.entries.now c.args.id c.args.cell.now
      c.requires.at (sym c.is_int.ensures ∙ c.if-is_int.true),
  λ _. refl,
)

pub returns-in-Some : goal.returns-in-Some
returns-in-Some g c =
    let maps = sym c.image_of.ensures ∙ c.in-Some.is in
    let is : HasCell is_no_int c.args.target.now c.args.id = record {
      cell = c.args.cell.now;
      is = c.requires.at;
      sort_is = not_from_false (is_int c.args.cell.now)
          (sym c.is_int.ensures ∙ c.if-is_int.false);
    } in
    let set_is = apart_of c.args.target.now c.cells.result.now c.args.entries.now (g.P.Pairs.pairs c.eq.result.now)
    c.args.target.now.eq is_no_int c.args.id c.apart_images-others.result c.cells.ensures c.eq.ensures c.apart_images-others.ensures in
    let same = pairs_enough c.args.state.now c.args.target.now c.args.entries.now c.args.id c.in-Some.image maps in (
      λ t. same.0 (enough c.args.target.now c.args.entries.now c.args.target.now.eq is_no_int is_no_int (MayBeOne c.args.state.now)
          c.args.id c.in-Some.image c.apart_images-others.result is maps set_is (c.is_alone.ensures.0 t)),
      λ all. c.is_alone.ensures.1 (none_left c.args.target.now c.args.entries.now c.args.target.now.eq is_no_int is_no_int
          (MayBeOne c.args.state.now) c.args.id c.in-Some.image c.apart_images-others.result is maps set_is (same.1 all)),
    )

pub returns-in-None : goal.returns-in-None
returns-in-None g c = (
  λ _. unmapped_is_free c.args.state.now c.args.target.now c.args.entries.now c.args.id
      (sym c.image_of.ensures ∙ c.in-None.is),
  λ _. refl,
)
