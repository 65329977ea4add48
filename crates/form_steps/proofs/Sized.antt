-- What ids have as sizes goes by cells alone.
use Rattle.std.proofs.Common.{◌≡◌, ◌∙◌, ℕ, zero, suc, List, [], ◌∷◌, Option, Some, None, refl, sym, ap}
use Rattle.std.specs.Option.{option_map, option_and_then}
use Rattle.abs_cells.specs.declared.cells.Cell.{Cell}
use Rattle.abs_cells.specs.declared.cells.Cell.TheVariants.{Int, Null, Obj, Nums, Refs, Unk}
use Rattle.abs_cells.specs.AbstractStates.{AbstractFrame, AbstractState}
use Rattle.abs_cells.specs.Cells.{cell_at}
use Rattle.abs_cells.specs.Patterns.{Pattern, Patterns, with_first, patterns_by, pattern_of_cell, pattern_within, IsSized}
use Rattle.abs_cells.specs.Patterns.Pattern.{node}
use Rattle.form_steps.specs.Laws.{Moved}

same_patterns : (f g : ℕ → Option (Option Pattern)) → ((id : ℕ) → f id ≡ g id) → (ids : List ℕ) → patterns_by f ids ≡ patterns_by g ids
same_patterns f g h [] = refl
same_patterns f g h (id ∷ ids) = ap (λ (first : Option (Option Pattern)). with_first first (patterns_by f ids)) (h id)
    ∙ ap (with_first (g id)) (same_patterns f g h ids)

same_of_cell : (f g : ℕ → Option (Option Pattern)) → ((id : ℕ) → f id ≡ g id) → (id : ℕ) (c : Cell)
    → pattern_of_cell f id c ≡ pattern_of_cell g id c
same_of_cell f g h id (Int interval) = refl
same_of_cell f g h id Null = refl
same_of_cell f g h id (Obj class ids) = ap (option_map (λ (children : Patterns). Some (node class children))) (same_patterns f g h ids)
same_of_cell f g h id (Nums kind len) = refl
same_of_cell f g h id (Refs element len shape) = refl
same_of_cell f g h id (Unk bound nullable shape) = refl

same_found : (f g : ℕ → Option (Option Pattern)) → ((id : ℕ) → f id ≡ g id) → (id : ℕ) (c : Option Cell)
    → option_and_then (pattern_of_cell f id) c ≡ option_and_then (pattern_of_cell g id) c
same_found f g h id None = refl
same_found f g h id (Some c) = same_of_cell f g h id c

same_within : (state : AbstractState) (frames : List AbstractFrame) (throwing : Option ℕ) (depth : ℕ) (id : ℕ)
    → pattern_within depth (Moved state frames throwing) id ≡ pattern_within depth state id
same_within state frames throwing zero id = refl
same_within state frames throwing (suc depth) id = same_found (pattern_within depth (Moved state frames throwing))
    (pattern_within depth state) (same_within state frames throwing depth) id (cell_at state id)

pub sized_moved : (state : AbstractState) (frames : List AbstractFrame) (throwing : Option ℕ) (id : ℕ)
    → IsSized (Moved state frames throwing) id → IsSized state id
sized_moved state frames throwing id s = record {
  finite = record { acyclic = s.finite.acyclic; hazy = s.finite.hazy };
  pattern = s.pattern;
  is = record { depth = s.is.depth; is = sym (same_within state frames throwing s.is.depth id) ∙ s.is.is };
  small = s.small;
}
