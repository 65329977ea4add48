-- Laws of cells: where the cell of an id stands among the cells of a state.
use Rattle.std.proofs.Common.{[], ℕ, false, List, eqb, refl, Some, true, arith, Bool, suc, ◌≡◌, ◌≤◌, ◌==◌, if◌then◌else◌, ◌∷◌}
use Rattle.std.proofs.Common.{eq-eqb, ap, cond, slice_get, ◌∙◌, ◌≢◌}
use Rattle.abs_cells.specs.Cells.{cell_in, is_hazy, is_known}
use Rattle.abs_cells.specs.Sound.{AreIdsRising}
use Rattle.abs_cells.specs.declared.cells.Cell.{Cell}
use Rattle.abs_cells.specs.declared.cells.Cell.TheVariants.{Refs, Obj, Nums, Unk, Null, Int}
use Rattle.jvm_values.proofs.Options.{some_is}
use Rattle.std.proofs.lemmas.Bool.{eqb-true, false≢true}
use Rattle.std.proofs.lemmas.Option.{none-some}

pub low_of_cell : (low id : ℕ) (listed : List (ℕ × Cell)) (cell : Cell) → AreIdsRising low listed → cell_in listed id ≡ Some cell
    → low ≤ id
low_of_cell low id [] cell r e = absurd (none-some cell e)
low_of_cell low id (c ∷ listed) cell r e = at (c.0 == id) refl e (λ g. low_of_cell (suc c.0) id listed cell r.1.1 g)
  where
    at : (b : Bool) → eqb c.0 id ≡ b → (if b then Some c.1 else cell_in listed id) ≡ Some cell
        → (cell_in listed id ≡ Some cell → suc c.0 ≤ id) → low ≤ id
    at true f g rest = omega (arith, r.0, eqb-true c.0 id f)
    at false f g rest = omega (arith, r.0, rest g)

pub first_cell_is : (c : ℕ × Cell) (cells : List (ℕ × Cell)) → cell_in (c ∷ cells) c.0 ≡ Some c.1
first_cell_is c cells = ap (λ b. cond b (Some c.1) (cell_in cells c.0)) (eq-eqb c.0 c.0 refl)

pub past_first_cell : (c : ℕ × Cell) (cells : List (ℕ × Cell)) (id : ℕ) → eqb c.0 id ≡ false → cell_in (c ∷ cells) id ≡ cell_in cells id
past_first_cell c cells id f = ap (λ b. cond b (Some c.1) (cell_in cells id)) f

pub place_of_cell : (given : List (ℕ × Cell)) (y : ℕ) (cell : Cell) → cell_in given y ≡ Some cell
    → (n : ℕ) × (slice_get given n ≡ Some (y, cell))
place_of_cell [] y cell e = absurd (none-some cell e)
place_of_cell (c ∷ given) y cell e = go (eqb c.0 y) refl e (place_of_cell given y cell)
  where
    go : (t : Bool) → eqb c.0 y ≡ t → (if t then Some c.1 else cell_in given y) ≡ Some cell
        → (cell_in given y ≡ Some cell → (n : ℕ) × (slice_get given n ≡ Some (y, cell)))
        → (n : ℕ) × (slice_get (c ∷ given) n ≡ Some (y, cell))
    go true f h later = (0, ap (λ (id : ℕ). Some (id, c.1)) (eqb-true c.0 y f) ∙ ap (λ (x : Cell). Some (y, x)) (some_is h))
    go false f h later = let rest = later h in (suc rest.0, rest.1)

pub hazy_not_known : (c : Cell) → is_hazy c ≡ true → is_known c ≡ false
hazy_not_known (Int i) e = refl
hazy_not_known Null e = refl
hazy_not_known (Obj class ids) e = absurd (false≢true e)
hazy_not_known (Nums kind len) e = absurd (false≢true e)
hazy_not_known (Refs element len shape) e = refl
hazy_not_known (Unk bound nullable shape) e = refl
