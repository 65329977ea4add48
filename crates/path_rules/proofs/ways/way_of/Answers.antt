use Rattle.std.proofs.Common.{◌∙◌, ℕ, List, refl, subst, sym}
use Rattle.number_graphs.specs.Lists.{row_at}
use Rattle.path_rules.proofs.Picking.{IsOnWay, way_begins, no_way, way_ends, way_goes_on, way_falls}
use Rattle.path_rules.proofs.ways.way_of.Goals as goal

pub loop-place-init : goal.loop-place-init
loop-place-init c = subst (λ (places : List ℕ). IsOnWay c.args.ways.now.lists c.args.ways.now.marks c.args.from c.args.number places
    c.args.from c.args.number) (sym c.new-places.ensures)
    (way_begins c.args.ways.now.lists c.args.ways.now.marks c.args.from c.args.number c.requires.number)

pub returns-in_default : goal.returns-in_default
returns-in_default c = no_way c.args.ways.now.lists c.args.ways.now.marks c.args.ways.now.counts c.args.from c.args.number
    c.loop-place.places c.loop-place.node c.loop-place.left c.loop-place.node (row_at c.args.ways.now.lists c.loop-place.node)
    c.requires.counts c.loop-place.invariant refl c.in_default.ensures

pub returns-then-is_cut : goal.returns-then-is_cut
returns-then-is_cut c = way_ends c.args.ways.now.lists c.args.ways.now.marks c.args.ways.now.counts c.args.from c.args.number
    c.loop-place.places c.push.new.self c.loop-place.node c.loop-place.left c.in-Some.place c.in-Some.to c.in-Some.rest
    (row_at c.args.ways.now.lists c.loop-place.node) c.requires.counts c.loop-place.invariant refl c.in-Some.ensures
    (sym c.is_cut.ensures ∙ c.if-is_cut.true) c.in_ok-push.ensures.items

pub loop-place-smaller : goal.loop-place-smaller
loop-place-smaller c = way_falls c.args.ways.now.lists c.args.ways.now.marks c.args.ways.now.counts c.args.ways.now.ranks
    c.loop-place.node c.loop-place.left c.in-Some.place c.in-Some.to c.in-Some.rest (row_at c.args.ways.now.lists c.loop-place.node)
    c.requires.ranks refl c.in-Some.ensures (sym c.is_cut.ensures ∙ c.if-is_cut.false)

pub loop-place-preserved : goal.loop-place-preserved
loop-place-preserved c = way_goes_on c.args.ways.now.lists c.args.ways.now.marks c.args.ways.now.counts c.args.from c.args.number
    c.loop-place.places c.push.new.self c.loop-place.node c.loop-place.left c.in-Some.place c.in-Some.to c.in-Some.rest
    (row_at c.args.ways.now.lists c.loop-place.node) c.requires.counts c.loop-place.invariant refl c.in-Some.ensures
    (sym c.is_cut.ensures ∙ c.if-is_cut.false) c.in_ok-push.ensures.items
