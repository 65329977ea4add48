-- The cells of inputs.
use Rattle.std.proofs.Common.{◌≡◌, ℕ, ◌+◌, suc, Bool, true, false, cond, eqb, List, [], ◌∷◌, Some, sym, refl, ap, ◌∙◌, arith}
use Rattle.std.specs.Prelude.{slice_get}
use Rattle.std.proofs.lemmas.Bool.{eqb-true}
use Rattle.abs_cells.specs.declared.cells.Cell.{Cell}
use Rattle.abs_cells.specs.Cells.{cell_in}
use Rattle.input_desc.specs.declared.desc.Input.{Input}
use Rattle.input_desc.specs.Initial.{cell_of, cells_from}

-- the input whose cell an id has
pub record IsInput (inputs : List Input) (k : ℕ) (cell : Cell) : Type 0 where
  pub input : Input
  pub there : slice_get inputs k ≡ Some input
  pub cell_is : cell ≡ cell_of input

cells_found : (n : ℕ) (inputs : List Input) (id : ℕ) (cell : Cell) → cell_in (cells_from n inputs) id ≡ Some cell
    → (k : ℕ) × ((id ≡ n + k) × IsInput inputs k cell)
cells_found n [] id cell e = absurd cc
cells_found n (input ∷ inputs) id cell e = go (cells_found (n + 1) inputs id cell) (eqb n id) refl e
  where
    go : (cell_in (cells_from (n + 1) inputs) id ≡ Some cell → (k : ℕ) × ((id ≡ (n + 1) + k) × IsInput inputs k cell)) → (b : Bool)
        → eqb n id ≡ b → cond b (Some (cell_of input)) (cell_in (cells_from (n + 1) inputs) id) ≡ Some cell
        → (k : ℕ) × ((id ≡ n + k) × IsInput (input ∷ inputs) k cell)
    go rest true q f =
        let same : cell_of input ≡ cell = cc in
        let here : n ≡ id = eqb-true n id q in
        (0, (omega arith, record { input = input; there = refl; cell_is = sym same }))
    go rest false q f =
        let r = rest f in
        let next : id ≡ (n + 1) + r.0 = r.1.0 in
        (suc r.0, (omega arith, record { input = r.1.1.input; there = r.1.1.there; cell_is = r.1.1.cell_is }))

pub cell_found : (inputs : List Input) (id : ℕ) (cell : Cell) → cell_in (cells_from 0 inputs) id ≡ Some cell → IsInput inputs id cell
cell_found inputs id cell e =
    let r = cells_found 0 inputs id cell e in
    let same : id ≡ r.0 = omega (arith, r.1.0) in
    record { input = r.1.1.input; there = ap (slice_get inputs) same ∙ r.1.1.there; cell_is = r.1.1.cell_is }
