use Rattle.std.proofs.Common.{refl, sym, ap, ◌∙◌}
use Rattle.std.specs.Option.{option_map}
use Rattle.std.proofs.lemmas.Option.{none-some}
use Rattle.jvm_values.specs.States.{types_of}
use Rattle.frame_types.proofs.Coming.{first, answered}
use Rattle.frame_types.proofs.table.come.Goals as goal

pub merge_frames-requires-clause-old : goal.merge_frames-requires-clause-old
merge_frames-requires-clause-old g c = c.requires.old _ (ap (option_map types_of) c.in-Some.is)

pub returns-in-Some : goal.returns-in-Some
returns-in-Some g c = answered _ (g.met.T.Types.laws c.args.types.now) _ _ _ _ _ _ (ap (option_map types_of) c.in-Some.is)
    c.merge_frames.ensures

pub returns-in_ok-copy_of-in-None : goal.returns-in_ok-copy_of-in-None
returns-in_ok-copy_of-in-None g c = (
  _,
  (
    refl,
    first _ (g.met.T.Types.laws c.args.types.now) _ _ _ _ (ap (option_map types_of) c.in-None.is)
        c.in_ok-copy_of-in-None.ensures c.requires.more,
    λ e. none-some _ (sym (ap (option_map types_of) c.in-None.is) ∙ sym e),
  ),
)
