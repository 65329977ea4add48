use Rattle.std.proofs.Common.{Err, sym, ap, ◌∙◌}
use Rattle.class_base.specs.ClassNames.{is_class_name}
use Rattle.class_pool.specs.Text.{class_name_at}
use Rattle.class_read.specs.FirstFault.{class_index_at}
use Rattle.class_read.specs.declared.fault.ClassFault.TheVariants.{BadDescriptor}
use Rattle.class_read.proofs.KnownLaws.{passes, refused, absent}
use Rattle.class_read.proofs.attribute.class_index.Goals as goal

pub returns-in_default : goal.returns-in_default
unfolding class_index_at
returns-in_default c =
    absent (class_name_at c.args.pool.now) (is_class_name) c.args.total c.in_ok-index.index c.args.bytes.now c.in_ok-index.rest.now
    c.in_ok-index.ensures c.in_default.ensures
    ∙ ap (λ k. Err (BadDescriptor k)) (sym c.place.ensures)

pub returns-then-not-is_class : goal.returns-then-not-is_class
unfolding class_index_at
returns-then-not-is_class c =
    refused (class_name_at c.args.pool.now) (is_class_name) c.args.total c.in_ok-index.index c.args.bytes.now c.in_ok-index.rest.now
    c.in-Some.name.now c.in_ok-index.ensures c.in-Some.ensures (sym c.is_class.ensures ∙ c.if-not-is_class.true)
    ∙ ap (λ k. Err (BadDescriptor k)) (sym c.place-then-not-is_class.ensures)

pub returns : goal.returns
unfolding class_index_at
returns c =
    passes (class_name_at c.args.pool.now) (is_class_name) c.args.total c.in_ok-index.index c.args.bytes.now c.in_ok-index.rest.now
    c.in-Some.name.now c.in_ok-index.ensures c.in-Some.ensures (sym c.is_class.ensures ∙ c.if-not-is_class.false)
