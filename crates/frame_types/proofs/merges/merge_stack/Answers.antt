use Rattle.std.proofs.Common.{◌<◌, length, arith, ap, sym, ◌∙◌}
use Rattle.std.proofs.lemmas.Bool.{false≢true}
use Rattle.std.proofs.lemmas.List.{get_or_read}
use Rattle.jvm_values.specs.declared.typing.PlaceType.TheVariants as places
use Rattle.frame_types.proofs.Merging.{next_is, stays_so, set_next, apart_there}
use Rattle.frame_types.proofs.merges.merge_stack.Goals as goal
use Rattle.frame_types.proofs.merges.merge_stack.Goals.{then-not-same, else-not-same}

pub returns-in-Unset-clause-joins : goal.returns-in-Unset-clause-joins
returns-in-Unset-clause-joins g c =
    let l : c.loop-i.i < length c.loop-i.stack.0 = omega (arith, c.requires.long, c.loop-i.invariant.0.below.long, c.len-i-end.ensures) in
    let m : c.loop-i.i < length c.args.more.now.0 = omega (arith, c.requires.long, c.loop-i.invariant.0.below.long, c.len-i-end.ensures) in
    let s = get_or_read c.args.more.now.0 _ _ m c.at-come.ensures places.Unset in
    apart_there _ _ _ _ _ _ _ _ l c.requires.long c.loop-i.invariant.0 c.at-here.ensures s c.in-Unset.ensures

pub loop-i-preserved : goal.loop-i-preserved
loop-i-preserved g c =
    let l : c.loop-i.i < length c.loop-i.stack.0 = omega (arith, c.requires.long, c.loop-i.invariant.0.below.long, c.len-i-end.ensures) in
    let m : c.loop-i.i < length c.args.more.now.0 = omega (arith, c.requires.long, c.loop-i.invariant.0.below.long, c.len-i-end.ensures) in
    let s = get_or_read c.args.more.now.0 _ _ m c.at-come.ensures places.Unset in
    elim c.if-not-same.branch [
      | then-not-same w ↦ (
        next_is _ _ _ _ _ _ _ _ _ _ _ l c.loop-i.invariant.0 c.at-here.ensures s c.join_places-joined.ensures
            (λ e. absurd (false≢true (sym w.if-not-same.true ∙ c.is_same-same.ensures.1 e))) (ap (λ x. x.0) w.stack-is) w.grew-is,
        set_next _ _ _ _ c.loop-i.invariant.1 c.in_default.not-Unset (ap (λ x. x.0) w.stack-is),
      )
      | else-not-same w ↦ (
        stays_so _ _ _ _ _ _ _ _ _ _ _ l c.loop-i.invariant.0 c.at-here.ensures s c.join_places-joined.ensures
            (c.is_same-same.ensures.0 w.if-not-same.false) (ap (λ x. x.0) w.stack-is) w.grew-is,
        rw w.stack-is c.loop-i.invariant.1,
      )
    ]
