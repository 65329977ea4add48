use Rattle.std.proofs.Common.{Err, sym, ap, ◌∙◌}
use Rattle.class_base.specs.MemberKinds.{is_descriptor}
use Rattle.class_pool.specs.Text.{utf8_at}
use Rattle.class_read.specs.declared.fault.ClassFault.TheVariants.{BadDescriptor}
use Rattle.class_read.proofs.KnownLaws.{passes, refused, absent}
use Rattle.class_read.proofs.member.descriptor.Goals as goal

pub returns-in_default-clause-desc : goal.returns-in_default-clause-desc
returns-in_default-clause-desc c =
    absent (utf8_at c.args.pool.now) (is_descriptor c.args.kind c.args.flags) c.args.total c.in_ok-index.index c.args.bytes.now
    c.in_ok-index.rest.now c.in_ok-index.ensures c.in_default.ensures
    ∙ ap (λ k. Err (BadDescriptor k)) (sym c.place.ensures)

pub returns-then-not-describes-clause-desc : goal.returns-then-not-describes-clause-desc
returns-then-not-describes-clause-desc c =
    refused (utf8_at c.args.pool.now) (is_descriptor c.args.kind c.args.flags) c.args.total c.in_ok-index.index c.args.bytes.now
    c.in_ok-index.rest.now c.in-Some.desc.now c.in_ok-index.ensures c.in-Some.ensures
    (sym c.describes.ensures ∙ c.if-not-describes.true)
    ∙ ap (λ k. Err (BadDescriptor k)) (sym c.place-then-not-describes.ensures)

pub returns-clause-desc : goal.returns-clause-desc
returns-clause-desc c =
    passes (utf8_at c.args.pool.now) (is_descriptor c.args.kind c.args.flags) c.args.total c.in_ok-index.index c.args.bytes.now
    c.in_ok-index.rest.now c.in-Some.desc.now c.in_ok-index.ensures c.in-Some.ensures
    (sym c.describes.ensures ∙ c.if-not-describes.false)
