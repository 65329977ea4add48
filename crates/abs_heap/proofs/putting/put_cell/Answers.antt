use Rattle.std.proofs.Common.{◌≡◌, ℕ, List, sym, ap, subst, ◌∙◌, arith}
use Rattle.std.proofs.lemmas.Bool.{false≢true}
use Rattle.abs_cells.specs.declared.cells.Cell.{Cell}
use Rattle.abs_heap.specs.inner.Building.{place_in, IsIdAt}
use Rattle.abs_heap.proofs.Placing.{place_within, put_in, stays_out}
use Rattle.abs_heap.proofs.putting.put_cell.Goals as goal

pub insert-requires : goal.insert-requires
insert-requires c =
    let h = place_within c.args.id c.args.cells.now.items in
    let e : c.place_of-place.result ≡ place_in c.args.id c.args.cells.now.items = c.place_of-place.ensures
    ∙ ap (place_in c.args.id) c.deref.ensures.value in
    omega (arith, h, e, c.args.cells.now.ok.0)

pub returns-in_ok-insert : goal.returns-in_ok-insert
returns-in_ok-insert c = put_in c.args.cells.now.items c.args.id c.place_of-place.result c.args.cell c.insert.new.self.items
    c.requires.rising c.requires.low
    (c.place_of-place.ensures ∙ ap (place_in c.args.id) c.deref.ensures.value)
    (λ h. false≢true (sym c.if-not-stands_at.true
    ∙ c.stands_at.ensures.1
    (subst (λ (xs : List (ℕ × Cell)). IsIdAt xs c.place_of-place.result c.args.id) (sym c.deref-2.ensures.value) h)))
    c.in_ok-insert.ensures.items

pub returns-else-not-stands_at : goal.returns-else-not-stands_at
returns-else-not-stands_at c = stays_out c.args.cells.now.items c.args.id c.place_of-place.result c.args.cell c.requires.rising
    (subst (λ (xs : List (ℕ × Cell)). IsIdAt xs c.place_of-place.result c.args.id) c.deref-2.ensures.value
    (c.stands_at.ensures.0 c.if-not-stands_at.false))
