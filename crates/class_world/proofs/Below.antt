-- No class is below one that isn't there.
use Rattle.std.proofs.Common.{◌≡◌, ℕ, ◌<◌, ◌≤◌, Bool, true, false, eqb, ltb, List, [], ◌∷◌, length, sym, refl, ◌∙◌, subst, arith}
use Rattle.std.proofs.lemmas.Bool.{eqb-true, ltb-true, or_from}
use Rattle.class_world.specs.World.{World, supers_of, is_above, leads_up}
use Rattle.class_world.specs.Types.{is_class_below}
use Rattle.class_world.specs.lemmas.Walks.{Walk, Walk-from_leads}
use Rattle.class_world.specs.lemmas.Linked.{supers_closed}

end_below : (world : World) (a c b : ℕ) (p : List ℕ) → Walk (supers_of world) a (c ∷ p) b → b < length world
end_below world a c b [] w = subst (λ (x : ℕ). x < length world) w.1 (supers_closed world a c w.0)
end_below world a c b (d ∷ p) w = end_below world c d b p w.1

-- no class is below one that isn't there
pub not_below : (world : World) (a b : ℕ) (there : Bool) → a < length world → length world ≤ b → there ≡ ltb b (length world)
    → there ≡ is_class_below world a b
unfolding is_class_below is_above
not_below world a b there l m t = t ∙ first (ltb b (length world)) refl
    ∙ sym (or_from _ _ (or_from _ _ (root (eqb b 0) refl) (same (eqb a b) refl))
    (over (leads_up (supers_of world) (length world) a b) refl))
  where
    first : (x : Bool) → ltb b (length world) ≡ x → ltb b (length world) ≡ false
    first true e = absurd (omega (arith, ltb-true b (length world) e, m))
    first false e = e

    root : (x : Bool) → eqb b 0 ≡ x → eqb b 0 ≡ false
    root true e = absurd (omega (arith, eqb-true b 0 e, l, m))
    root false e = e

    same : (x : Bool) → eqb a b ≡ x → eqb a b ≡ false
    same true e = absurd (omega (arith, eqb-true a b e, l, m))
    same false e = e

    over : (x : Bool) → leads_up (supers_of world) (length world) a b ≡ x → leads_up (supers_of world) (length world) a b ≡ false
    over true e =
        let w = Walk-from_leads (supers_of world) (length world) a b e in
        let in_world = end_below world a w.0 b w.1 w.2 in
        absurd (omega (arith, in_world, m))
    over false e = e
