-- Lists of ids, locals and cells.
use Rattle.std.proofs.Common.{◌≡◌, ◌∙◌, ◌==◌, ℕ, zero, suc, false, List, [], ◌∷◌, take, drop, map, Option, Some, None, refl, ap, arith}
use Rattle.std.specs.List.{AllByRecursion}
use Rattle.std.specs.Option.{option_map}
use Rattle.abs_cells.specs.declared.cells.Cell.{Cell}
use Rattle.abs_cells.specs.Cells.{cell_in}
use Rattle.abs_cells.specs.Sound.{AreIdsRising, given_ids}
use Rattle.abs_cells.proofs.CellLaws.{low_of_cell, first_cell_is, past_first_cell}

pub all_any : {X : Type 0} (P : X → Type 0) → ((x : X) → P x) → (xs : List X) → AllByRecursion P xs
all_any P h [] = tt
all_any P h (x ∷ xs) = (h x, all_any P h xs)

-- ---- mapped lists

pub mapped_same : {X : Type 0} (f : X → X) → ((x : X) → f x ≡ x) → (xs : List X) → map f xs ≡ xs
mapped_same f h [] = refl
mapped_same f h (x ∷ xs) = ap (λ ys. f x ∷ ys) (mapped_same f h xs) ∙ ap (λ y. y ∷ xs) (h x)

pub option_same : (local : Option ℕ) → option_map (λ (id : ℕ). id) local ≡ local
option_same None = refl
option_same (Some id) = refl

pub take_mapped : {X Y : Type 0} (f : X → Y) (n : ℕ) (xs : List X) → take n (map f xs) ≡ map f (take n xs)
take_mapped f zero xs = refl
take_mapped f (suc n) [] = refl
take_mapped f (suc n) (x ∷ xs) = ap (λ ys. f x ∷ ys) (take_mapped f n xs)

pub drop_mapped : {X Y : Type 0} (f : X → Y) (n : ℕ) (xs : List X) → drop n (map f xs) ≡ map f (drop n xs)
drop_mapped f zero xs = refl
drop_mapped f (suc n) [] = refl
drop_mapped f (suc n) (x ∷ xs) = drop_mapped f n xs

-- ---- ids of locals

pub given_taken : (P : ℕ → Type 0) (n : ℕ) (locals : List (Option ℕ)) → AllByRecursion P (given_ids locals)
    → AllByRecursion P (given_ids (take n locals))
given_taken P zero locals a = tt
given_taken P (suc n) [] a = tt
given_taken P (suc n) (None ∷ locals) a = given_taken P n locals a
given_taken P (suc n) (Some id ∷ locals) a = (a.0, given_taken P n locals a.1)

pub given_dropped : (P : ℕ → Type 0) (n : ℕ) (locals : List (Option ℕ)) → AllByRecursion P (given_ids locals)
    → AllByRecursion P (given_ids (drop n locals))
given_dropped P zero locals a = a
given_dropped P (suc n) [] a = tt
given_dropped P (suc n) (None ∷ locals) a = given_dropped P n locals a
given_dropped P (suc n) (Some id ∷ locals) a = given_dropped P n locals a.1

-- ---- cells

-- what holds of each id that has a cell holds of each listed one, where ids rise
pub each_listed : (P : ℕ → Cell → Type 0) (low : ℕ) (list : List (ℕ × Cell)) → AreIdsRising low list
    → ((id : ℕ) (c : Cell) → cell_in list id ≡ Some c → P id c)
    → AllByRecursion (λ (c : ℕ × Cell). P c.0 c.1) list
each_listed P low [] r h = tt
each_listed P low (c ∷ list) r h = (
  h c.0 c.1 (first_cell_is c list),
  each_listed P (suc c.0) list r.1.1
      (λ id cell e. h id cell (past_first_cell c list id (apart id cell e) ∙ e)),
)
  where
    apart : (id : ℕ) (cell : Cell) → cell_in list id ≡ Some cell → (c.0 == id) ≡ false
    apart id cell e = search (arith, low_of_cell (suc c.0) id list cell r.1.1 e)
