use Rattle.std.proofs.Common.{ℕ, List, Option, sym, ap, ◌∙◌}
use Rattle.abs_cells.specs.PackedBits.{slot_of}
use Rattle.abs_cells.proofs.PackedCalls.{slot_low}
use Rattle.abs_cells.proofs.packed.is_hit.Goals as goal

pub place-requires : goal.place-requires
place-requires c =
    let p = c.args.packed.now in
    let s = ap (λ (xs : List (Option ℕ)). slot_of xs c.args.a) (sym c.deref.ensures.value) ∙ sym c.slot_of.ensures ∙ c.in-Some.is in
    let t = ap (λ (xs : List (Option ℕ)). slot_of xs c.args.b) (sym c.deref-in-Some.ensures.value) ∙ sym c.slot_of-in-Some.ensures
    ∙ c.in-Some-slot_of.is in (
      slot_low p.slots.items p.count p.words.items c.requires c.args.a c.in-Some.s s,
      slot_low p.slots.items p.count p.words.items
          c.requires c.args.b c.in-Some-slot_of.t t,
    )
