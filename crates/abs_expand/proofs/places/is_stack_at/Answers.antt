use Rattle.std.proofs.Common.{◌∙◌, ap, reverse, drop, refl}
use Rattle.std.proofs.lemmas.List.{reverse-reverse}
use Rattle.abs_reach.specs.abs_sound.Zips.{all_zip}
use Rattle.jvm_values.specs.States.{types_of}
use Rattle.abs_expand.specs.inner.PlaceTests.{is_entry_of}
use Rattle.abs_expand.proofs.Placed.{stack_at}
use Rattle.abs_expand.proofs.places.is_stack_at.Goals as goal

pub returns : goal.returns
returns c =
    let types = (types_of c.args.types.now).stack in
    c.is_stack_of.ensures ∙ stack_at (is_entry_of c.args.cells.now) types c.as_slice-places.result.now _ c.stack-stack.result.now
    c.args.count c.as_slice-places.ensures c.if-places-count.false refl
    ∙ ap (all_zip (is_entry_of c.args.cells.now) (drop c.args.count types)) (ap reverse c.stack-stack.ensures
    ∙ reverse-reverse c.args.frame.now.stack)
