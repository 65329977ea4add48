-- Where `invokespecial` looks from.
use Rattle.std.proofs.Common.{◌≡◌, ℕ, Bool, true, false, eqb, cond, List, Option, Some, None, ap, sym, ◌∙◌}
use Rattle.std.specs.List.{list_any}
use Rattle.std.specs.Option.{option_map_or}
use Rattle.class_world.specs.World.{World, super_of, line_of}
use Rattle.class_program.specs.Ops.{special_start}

abbrev start_of : World → ℕ → Option ℕ → ℕ
start_of world class super = option_map_or (λ s. cond (list_any (λ c. eqb c class) (line_of world s)) s class) super class

-- the current class has no superclass
pub start_none : (world : World) (current class : ℕ) → None ≡ super_of world current → class ≡ special_start world current class
unfolding special_start
start_none world current class e = ap (start_of world class) e

-- the named class is the direct superclass or above it
pub start_over : (world : World) (current class over : ℕ) (line seen : List ℕ) (found : Bool)
    → Some over ≡ super_of world current → line ≡ line_of world over → seen ≡ line → found ≡ list_any (λ c. eqb c class) seen
    → found ≡ true
    → over ≡ special_start world current class
unfolding special_start
start_over world current class over line seen found e l s f t =
    ap (λ b. cond b over class) (sym t ∙ f ∙ ap (list_any (λ c. eqb c class)) (s ∙ l)) ∙ ap (start_of world class) e

-- the named class is none of these
pub start_class : (world : World) (current class over : ℕ) (line seen : List ℕ) (found : Bool)
    → Some over ≡ super_of world current → line ≡ line_of world over → seen ≡ line → found ≡ list_any (λ c. eqb c class) seen
    → found ≡ false
    → class ≡ special_start world current class
unfolding special_start
start_class world current class over line seen found e l s f t =
    ap (λ b. cond b over class) (sym t ∙ f ∙ ap (list_any (λ c. eqb c class)) (s ∙ l)) ∙ ap (start_of world class) e
