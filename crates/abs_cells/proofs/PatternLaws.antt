-- A pattern that is found at one depth is found at each greater one; so an id has one pattern.
use Rattle.std.proofs.Common.{◌≡◌, ℕ, zero, suc, ◌≤◌, List, [], ◌∷◌, Option, Some, None, inl, inr, refl, sym, ap, ◌∙◌, arith}
use Rattle.std.specs.Option.{option_map, option_and_then}
use Rattle.std.proofs.lemmas.Bool.{cases_lt}
use Rattle.std.proofs.lemmas.Option.{none-some}
use Rattle.jvm_values.proofs.Options.{some_is}
use Rattle.abs_cells.specs.declared.cells.Cell.{Cell}
use Rattle.abs_cells.specs.declared.cells.Cell.TheVariants.{Int, Null, Obj, Nums, Refs, Unk}
use Rattle.abs_cells.specs.AbstractStates.{AbstractState}
use Rattle.abs_cells.specs.Cells.{cell_at}
use Rattle.abs_cells.specs.Patterns.{Pattern, Patterns, with_first, patterns_by, pattern_of_cell, pattern_within}
use Rattle.abs_cells.specs.Patterns.Pattern.{node}
use Rattle.abs_cells.specs.Patterns.Patterns.{more}
use Rattle.abs_cells.specs.Laws.{PatternsAreOne}

-- each answer of the one is the answer of the other
abbrev IsKept : {A : Type 0} → Option A → Option A → Type 0
IsKept {A} u v = (x : A) → u ≡ Some x → v ≡ Some x

map_kept : {A B : Type 0} (w : A → B) (u v : Option A) → IsKept u v → IsKept (option_map w u) (option_map w v)
map_kept w None v k x e = absurd (none-some x e)
map_kept w (Some y) v k x e = ap (option_map w) (k y refl) ∙ e

rest_kept : (r : Option Pattern) (u v : Option Patterns) → IsKept u v → IsKept (with_first (Some r) u) (with_first (Some r) v)
rest_kept None u v k = k
rest_kept (Some first) u v k = map_kept (more first) u v k

first_kept : (a b : Option (Option Pattern)) → IsKept a b → (u v : Option Patterns) → IsKept u v → IsKept (with_first a u) (with_first b v)
first_kept None b h u v k x e = absurd (none-some x e)
first_kept (Some r) b h u v k x e = ap (λ (y : Option (Option Pattern)). with_first y v) (h r refl) ∙ rest_kept r u v k x e

patterns_kept : (f g : ℕ → Option (Option Pattern)) → ((id : ℕ) → IsKept (f id) (g id)) → (ids : List ℕ)
    → IsKept (patterns_by f ids) (patterns_by g ids)
patterns_kept f g h [] x e = e
patterns_kept f g h (id ∷ ids) x e = first_kept (f id) (g id) (h id) (patterns_by f ids) (patterns_by g ids) (patterns_kept f g h ids) x e

cell_kept : (f g : ℕ → Option (Option Pattern)) → ((id : ℕ) → IsKept (f id) (g id)) → (id : ℕ) (cell : Cell)
    → IsKept (pattern_of_cell f id cell) (pattern_of_cell g id cell)
cell_kept f g h id (Int interval) x e = e
cell_kept f g h id Null x e = e
cell_kept f g h id (Obj class ids) x e = map_kept (λ (children : Patterns). Some (node class children)) (patterns_by f ids)
    (patterns_by g ids) (patterns_kept f g h ids) x e
cell_kept f g h id (Nums kind len) x e = e
cell_kept f g h id (Refs element len shape) x e = e
cell_kept f g h id (Unk bound nullable shape) x e = e

chain_kept : (f g : ℕ → Option (Option Pattern)) → ((id : ℕ) → IsKept (f id) (g id)) → (id : ℕ) (c : Option Cell)
    → IsKept (option_and_then (pattern_of_cell f id) c) (option_and_then (pattern_of_cell g id) c)
chain_kept f g h id None x e = absurd (none-some x e)
chain_kept f g h id (Some cell) x e = cell_kept f g h id cell x e

within_kept : (d e : ℕ) (state : AbstractState) → d ≤ e → (id : ℕ) → IsKept (pattern_within d state id) (pattern_within e state id)
within_kept zero e state l id x h = absurd (none-some x h)
within_kept (suc d) zero state l id x h = absurd (omega (arith, l))
within_kept (suc d) (suc e) state l id x h = chain_kept (pattern_within d state) (pattern_within e state)
    (within_kept d e state (omega (arith, l))) id (cell_at state id) x h

pub one_pattern : PatternsAreOne
one_pattern state id p q h k = elim (cases_lt h.depth k.depth) [
  | inl l ↦ some_is (some_is (sym (within_kept h.depth k.depth state (omega (arith, l)) id (Some p) h.is) ∙ k.is))
  | inr l ↦ some_is (some_is (sym h.is ∙ within_kept k.depth h.depth state l id (Some q) k.is))
]
