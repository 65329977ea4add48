use Rattle.std.proofs.Common.{◌<◌, ◌+◌, ◌∙◌, ℕ, length, refl, sym, ap, subst, arith}
use Rattle.filled_graphs.specs.filled_nodes.inner.Slots.{IsFull}
use Rattle.filled_graphs.proofs.Putting.{slot_in, looked_at, same_count}
use Rattle.filled_graphs.proofs.filled_nodes.filled.know_all.Goals as goal

pub loop-number-init : goal.loop-number-init
loop-number-init g c = record { known = c.requires.none; parts = refl; expander = refl; kept = c.requires.kept }

pub hold-requires-clause-there : goal.hold-requires-clause-there
hold-requires-clause-there g c = same_count (λ s. g.S.PartSource.parts s) c.loop-number.ground.parts.now c.args.ground.now.parts.now
    c.loop-number.number c.args.count c.loop-number.invariant.parts c.requires.count
    (omega (arith, c.loop-number-test.true, c.loop-number.auto.number-end))

pub hold-requires-clause-known : goal.hold-requires-clause-known
hold-requires-clause-known g c = omega (arith, c.loop-number.invariant.known)

pub grow-requires-clause-there : goal.grow-requires-clause-there
grow-requires-clause-there g c = subst (λ (k : ℕ). k < length (g.S.PartSource.parts c.loop-number.ground.parts.now))
    (sym c.loop-number.invariant.known)
    (same_count (λ s. g.S.PartSource.parts s) c.loop-number.ground.parts.now c.args.ground.now.parts.now
    c.loop-number.number c.args.count c.loop-number.invariant.parts c.requires.count
    (omega (arith, c.loop-number-test.true, c.loop-number.auto.number-end)))

pub grow-requires-clause-full : goal.grow-requires-clause-full
grow-requires-clause-full g c = subst (IsFull c.hold.new.slots) (sym c.loop-number.invariant.known) c.in_ok-hold.ensures.full

pub look_at-requires : goal.look_at-requires
look_at-requires g c = slot_in _ _ _ c.hold.new.slots c.in_ok-hold.ensures.kept c.loop-number.number
    (same_count (λ s. g.S.PartSource.parts s) c.loop-number.ground.parts.now c.args.ground.now.parts.now
    c.loop-number.number c.args.count c.loop-number.invariant.parts c.requires.count
    (omega (arith, c.loop-number-test.true, c.loop-number.auto.number-end)))

pub loop-number-preserved : goal.loop-number-preserved
loop-number-preserved g c = record {
  known = c.grow.ensures.known ∙ ap (λ (k : ℕ). k + 1) c.loop-number.invariant.known;
  parts = c.grow.ensures.parts ∙ c.loop-number.invariant.parts;
  expander = c.grow.ensures.expander ∙ c.loop-number.invariant.expander;
  kept = looked_at _ _ _ c.hold.new.slots c.grow.ensures.kept c.loop-number.number c.look_at.new.slots c.look_at.ensures;
}

pub returns-clause-known : goal.returns-clause-known
returns-clause-known g c = omega
    (arith, c.loop-number.invariant.known, c.loop-number-test.false, c.loop-number.auto.number-end)
