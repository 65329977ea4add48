use Rattle.std.proofs.Common.{◌∙◌, refl, sym, inl, inr}
use Rattle.std.proofs.lemmas.Bool.{false≢true}
use Rattle.abs_cells.specs.Cells.{is_known, is_hazy}
use Rattle.abs_match.proofs.Ready.{entries_rise}
use Rattle.abs_match.proofs.Enough.{shares_nothing, known_shares, hazy_shares, not_of_sort, known_not_hazy}
use Rattle.abs_match.proofs.pairing.sharing_fits.Goals as goal

pub image_of-requires : goal.image_of-requires
image_of-requires g c = entries_rise c.args.state.now c.args.target.now c.args.entries.now c.requires.matched

pub is_in_enough-requires-clause-is : goal.is_in_enough-requires-clause-is
is_in_enough-requires-clause-is g c = record {
  cell = c.args.cell.now;
  is = c.requires.at;
  sort_is = sym c.is_known.ensures
      ∙ c.if-is_known.true;
}

pub is_in_enough-requires-clause-maps : goal.is_in_enough-requires-clause-maps
is_in_enough-requires-clause-maps g c = sym c.image_of.ensures ∙ c.in-Some.is

pub meets_enough-requires-clause-is : goal.meets_enough-requires-clause-is
meets_enough-requires-clause-is g c = record {
  cell = c.args.cell.now;
  is = c.requires.at;
  sort_is = sym c.is_hazy.ensures
      ∙ c.if-not-is_hazy.false;
}

pub meets_enough-requires-clause-maps : goal.meets_enough-requires-clause-maps
meets_enough-requires-clause-maps g c = sym c.image_of.ensures ∙ c.in-Some.is

pub holds_enough-requires-clause-is : goal.holds_enough-requires-clause-is
holds_enough-requires-clause-is g c = record {
  cell = c.args.cell.now;
  is = c.requires.at;
  sort_is = sym c.is_hazy.ensures
      ∙ c.if-not-is_hazy.false;
}

pub holds_enough-requires-clause-maps : goal.holds_enough-requires-clause-maps
holds_enough-requires-clause-maps g c = sym c.image_of.ensures ∙ c.in-Some.is

pub returns-in_default : goal.returns-in_default
returns-in_default g c = (
  λ _. shares_nothing c.args.state.now c.args.target.now c.args.entries.now c.args.id
      (inr (sym c.image_of.ensures ∙ c.in_default.is)),
  λ _. refl,
)

pub returns-then-is_known : goal.returns-then-is_known
returns-then-is_known g c =
    let same = known_shares c.args.state.now c.args.target.now c.args.entries.now c.args.id c.in-Some.image
    (sym c.image_of.ensures ∙ c.in-Some.is)
    (not_of_sort is_hazy c.args.target.now c.args.id c.args.cell.now c.requires.at
    (known_not_hazy c.args.cell.now (sym c.is_known.ensures ∙ c.if-is_known.true))) in
    (λ t. same.0 (c.is_in_enough.ensures.0 t), λ all. c.is_in_enough.ensures.1 (same.1 all))

pub returns-then-not-is_hazy : goal.returns-then-not-is_hazy
returns-then-not-is_hazy g c = (
  λ _. shares_nothing c.args.state.now c.args.target.now c.args.entries.now c.args.id (inl (
    not_of_sort is_known c.args.target.now c.args.id c.args.cell.now c.requires.at (sym c.is_known.ensures ∙ c.if-is_known.false),
    not_of_sort is_hazy c.args.target.now c.args.id c.args.cell.now c.requires.at (sym c.is_hazy.ensures ∙ c.if-not-is_hazy.true),
  )),
  λ _. refl,
)

pub returns-then-meets_enough : goal.returns-then-meets_enough
returns-then-meets_enough g c =
    let same = hazy_shares c.args.state.now c.args.target.now c.args.entries.now c.args.id c.in-Some.image
    (sym c.image_of.ensures ∙ c.in-Some.is)
    (not_of_sort is_known c.args.target.now c.args.id c.args.cell.now c.requires.at (sym c.is_known.ensures ∙ c.if-is_known.false)) in (
      λ t. same.0 (c.meets_enough.ensures.0 c.if-meets_enough.true, c.holds_enough.ensures.0 t),
      λ all. c.holds_enough.ensures.1
          (same.1 all).1,
    )

pub returns-else-meets_enough : goal.returns-else-meets_enough
returns-else-meets_enough g c =
    let same = hazy_shares c.args.state.now c.args.target.now c.args.entries.now c.args.id c.in-Some.image
    (sym c.image_of.ensures ∙ c.in-Some.is)
    (not_of_sort is_known c.args.target.now c.args.id c.args.cell.now c.requires.at (sym c.is_known.ensures ∙ c.if-is_known.false)) in
    (λ t. absurd (false≢true (sym c.if-meets_enough.false ∙ t)), λ all. c.meets_enough.ensures.1 (same.1 all).0)
