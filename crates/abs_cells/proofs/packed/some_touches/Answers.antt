use Rattle.std.proofs.Common.{ℕ, List, Option, sym, ap, subst, ◌∙◌}
use Rattle.abs_cells.specs.IdSets.{are_touched}
use Rattle.abs_cells.specs.PackedBits.{slot_of, pairs_in}
use Rattle.abs_cells.specs.inner.PackedRows.{HasSlot, SideMeets}
use Rattle.abs_cells.proofs.PackedCalls.{slot_low, few_slots}
use Rattle.abs_cells.proofs.PackedLooks.{AreSlotSets, side_touches, other_side_touches, none_touched, decided}
use Rattle.abs_cells.proofs.packed.some_touches.Goals as goal

pub slots_of-xs-requires-clause-low : goal.slots_of-xs-requires-clause-low
slots_of-xs-requires-clause-low c a s e =
    let p = c.args.packed.now in
    slot_low p.slots.items p.count p.words.items c.requires a s
    (ap (λ (zs : List (Option ℕ)). slot_of zs a) (sym c.deref.ensures.value) ∙ e)

pub slots_of-ys-requires-clause-low : goal.slots_of-ys-requires-clause-low
slots_of-ys-requires-clause-low c a s e =
    let p = c.args.packed.now in
    slot_low p.slots.items p.count p.words.items c.requires a s
    (ap (λ (zs : List (Option ℕ)). slot_of zs a) (sym c.deref-2.ensures.value) ∙ e)

pub side_meets-requires-clause-few : goal.side_meets-requires-clause-few
side_meets-requires-clause-few c = let p = c.args.packed.now in few_slots p.slots.items p.count p.words.items c.requires

pub side_meets-requires-else-side_meets-clause-few : goal.side_meets-requires-else-side_meets-clause-few
side_meets-requires-else-side_meets-clause-few c = let p = c.args.packed.now in few_slots p.slots.items p.count p.words.items c.requires

pub returns-then-side_meets : goal.returns-then-side_meets
returns-then-side_meets c =
    let p = c.args.packed.now in
    let xs = c.slots_of-xs.result in
    let ys = c.slots_of-ys.result in
    let sets : AreSlotSets p.slots.items c.args.x.now c.args.y.now c.slots_of-xs.result c.slots_of-ys.result = record {
      x_all = λ a s e k. c.slots_of-xs.ensures.all a s (ap (λ (zs : List (Option ℕ)). slot_of zs a) c.deref.ensures.value ∙ e) k;
      x_only = λ s k. subst (λ (zs : List (Option ℕ)). HasSlot zs c.args.x.now s) c.deref.ensures.value (c.slots_of-xs.ensures.only s k);
      y_all = λ a s e k. c.slots_of-ys.ensures.all a s (ap (λ (zs : List (Option ℕ)). slot_of zs a) c.deref-2.ensures.value ∙ e) k;
      y_only = λ s k. subst (λ (zs : List (Option ℕ)). HasSlot zs c.args.y.now s) c.deref-2.ensures.value (c.slots_of-ys.ensures.only s k);
    } in
    let m : SideMeets p.words.items p.count c.slots_of-xs.result c.slots_of-ys.result = subst
    (λ (ws : List ℕ). SideMeets ws p.count c.slots_of-xs.result c.slots_of-ys.result) c.deref-3.ensures.value
    (c.side_meets.ensures.yes c.if-side_meets.true) in
    c.if-side_meets.true ∙ sym (side_touches p.slots.items p.count p.words.items c.args.x.now c.args.y.now c.slots_of-xs.result
    c.slots_of-ys.result c.requires sets m)

pub returns-else-side_meets : goal.returns-else-side_meets
returns-else-side_meets c =
    let p = c.args.packed.now in
    let sets : AreSlotSets p.slots.items c.args.x.now c.args.y.now c.slots_of-xs.result c.slots_of-ys.result = record {
      x_all = λ a s e k. c.slots_of-xs.ensures.all a s (ap (λ (zs : List (Option ℕ)). slot_of zs a) c.deref.ensures.value ∙ e) k;
      x_only = λ s k. subst (λ (zs : List (Option ℕ)). HasSlot zs c.args.x.now s) c.deref.ensures.value (c.slots_of-xs.ensures.only s k);
      y_all = λ a s e k. c.slots_of-ys.ensures.all a s (ap (λ (zs : List (Option ℕ)). slot_of zs a) c.deref-2.ensures.value ∙ e) k;
      y_only = λ s k. subst (λ (zs : List (Option ℕ)). HasSlot zs c.args.y.now s) c.deref-2.ensures.value (c.slots_of-ys.ensures.only s k);
    } in
    decided c.side_meets-else-side_meets.result (are_touched c.args.x.now c.args.y.now (pairs_in p.slots.items p.words.items))
    (λ e. other_side_touches p.slots.items p.count p.words.items c.args.x.now c.args.y.now c.slots_of-xs.result c.slots_of-ys.result
    c.requires sets (subst (λ (ws : List ℕ). SideMeets ws p.count c.slots_of-ys.result c.slots_of-xs.result)
    c.deref-else-side_meets.ensures.value (c.side_meets-else-side_meets.ensures.yes e)))
    (λ e. none_touched p.slots.items p.count p.words.items c.args.x.now c.args.y.now c.slots_of-xs.result c.slots_of-ys.result
    c.requires sets
    (λ m. c.side_meets.ensures.no c.if-side_meets.false
    (subst (λ (ws : List ℕ). SideMeets ws p.count c.slots_of-xs.result c.slots_of-ys.result) (sym c.deref-3.ensures.value) m))
    (λ m. c.side_meets-else-side_meets.ensures.no e
    (subst (λ (ws : List ℕ). SideMeets ws p.count c.slots_of-ys.result c.slots_of-xs.result)
    (sym c.deref-else-side_meets.ensures.value) m)))
