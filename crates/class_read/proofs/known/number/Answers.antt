use Rattle.std.proofs.Common.{sym, ap, ◌∙◌}
use Rattle.class_pool.specs.Text.{places_of}
use Rattle.class_read.specs.inner.Numbers.{number_in, kept_place}
use Rattle.class_read.proofs.Numbers.{new_number, keeps_new, kept_borrowed}
use Rattle.class_read.proofs.known.number.Goals as goal

pub returns-clause-number : goal.returns-clause-number
returns-clause-number c =
    new_number (places_of c.args.pool.now) c.args.i (λ t. kept_place (λ k. k.now) c.args.first.now t) c.in-Some.text.now
    c.requires.kept c.requires.there (sym c.in-Some.ensures) (sym c.in_default-get.ensures.value)
    ∙ ap (number_in (places_of c.args.pool.now)) c.in-Some.ensures

pub returns-clause-keeps : goal.returns-clause-keeps
returns-clause-keeps c =
    let number = new_number (places_of c.args.pool.now) c.args.i (λ t. kept_place (λ k. k.now) c.args.first.now t)
    c.in-Some.text.now c.requires.kept c.requires.there (sym c.in-Some.ensures) (sym c.in_default-get.ensures.value) in
    keeps_new (places_of c.args.pool.now) c.args.i (λ t. kept_place (λ k. k.now) c.args.first.now t) _ c.in-Some.text.now
    c.requires.kept (sym c.in-Some.ensures) number
    (λ u. kept_borrowed u c.in-Some.text c.args.i c.args.first.now c.insert.new.self c.in_ok-_none.ensures.entries)
