use Rattle.std.proofs.Common.{◌≡◌, ◌+◌, ◌∷◌, [], ◌++◌, eqb, length, subst, sym, ap, ◌∙◌, arith}
use Rattle.std.proofs.lemmas.Result.{err_from_is_err_and}
use Rattle.class_pool.specs.Entry.{is_wide}
use Rattle.class_pool.specs.inner.View.{entry_of}
use Rattle.class_pool.proofs.Places.{Progress, own_places, begins, goes_on, stops, is_done}
use Rattle.class_pool.proofs.reading.places_at.Goals as goal

pub loop-places-init : goal.loop-places-init
loop-places-init c =
    let items = c.in_ok-push.ensures.items ∙ ap (λ is. is ++ length c.args.bytes.now ∷ []) c.new-places.ensures.items in
    subst (λ places. Progress c.args.bytes.now c.args.at c.args.count places c.args.at) (sym items)
    (begins c.args.bytes.now c.args.at c.args.count)

pub returns-in_err-entry-clause-read : goal.returns-in_err-entry-clause-read
returns-in_err-entry-clause-read c =
    let p = err_from_is_err_and c.from_residual-in_err-entry.result c.from_residual-in_err-entry.ensures.1 in
    let len : c.len-in-loop-places.result ≡ length c.loop-places.places.items = omega
    (arith, c.len-in-loop-places.ensures, c.loop-places.places.ok) in
    rw (p.1, p.2) (
    stops c.args.bytes.now c.args.at c.args.count c.loop-places.places.items c.loop-places.next
    (eqb (c.len-in-loop-places.result + 1) c.args.count)
    c.in_err-entry.field-0.0 c.loop-places.invariant
    (omega (arith, c.loop-places-test.true, c.len.ensures, c.loop-places.places.ok)) (ap (λ n. eqb (n + 1) c.args.count) len)
    c.in_err-entry.ensures
    )

pub loop-places-preserved : goal.loop-places-preserved
loop-places-preserved c =
    let len : c.len-in-loop-places.result ≡ length c.loop-places.places.items = omega
    (arith, c.len-in-loop-places.ensures, c.loop-places.places.ok) in
    let wide : c.is_wide.result ≡ is_wide (entry_of c.in_ok-entry.entry) = c.is_wide.ensures in
    let items = c.in_ok-push_places.ensures
    ∙ ap (λ w. c.loop-places.places.items ++ own_places c.args.bytes.now c.loop-places.next w) wide in
    subst (λ places. Progress c.args.bytes.now c.args.at c.args.count places c.in_ok-entry.after) (sym items) (
    goes_on c.args.bytes.now c.args.at c.args.count c.loop-places.places.items c.loop-places.next
    (eqb (c.len-in-loop-places.result + 1) c.args.count)
    (entry_of c.in_ok-entry.entry) c.in_ok-entry.after (λ i. omega (arith, c.type_inv.bytes i)) c.loop-places.invariant
    (omega (arith, c.loop-places-test.true, c.len.ensures, c.loop-places.places.ok)) (ap (λ n. eqb (n + 1) c.args.count) len)
    c.in_ok-entry.ensures
    )

pub returns-clause-read : goal.returns-clause-read
returns-clause-read c =
    is_done c.args.bytes.now c.args.at c.args.count c.loop-places.places.items c.loop-places.next c.loop-places.invariant
    (omega (arith, c.loop-places-test.false, c.len.ensures, c.loop-places.places.ok))
