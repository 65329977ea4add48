-- Cells in their rounds.
use Rattle.std.proofs.Common.{◌≡◌, ℕ, zero, suc, ◌+◌, ◌-◌, ◌<◌, ◌≤◌, ℤ, pos, List, [], ◌∷◌, length, replicate, set, get_or}
use Rattle.std.proofs.Common.{count_by, cond, refl, sym, ap, ◌∙◌, arith}
use Rattle.std.proofs.lemmas.Bool.Decides.{nat_tests}
use Rattle.std.proofs.lemmas.List.{map-set, length-map}
use Rattle.std.proofs.lemmas.List.Elements.{All-head, All-tail, All-replicate, All-set}
use Rattle.std.proofs.lemmas.List.Folds.{sum_by-replicate}
use Rattle.std.proofs.lemmas.List.Sums.{sum_by-set}
use Rattle.lin_core.specs.declared.sums.Cell.{Cell}
use Rattle.lin_core.specs.declared.sums.Scratch.TheInside.{Inside}
use Rattle.lin_core.specs.Rounds.{worth_in, is_nonzero, coefficients_of, sum_of_cells, IsCounted, AllBelow}
use Rattle.lin_core.specs.Sums.{Sum, zero_sum, variables}

worth_stale : (round : ℕ) (cell : Cell) → cell.round < round → worth_in round cell ≡ pos 0
worth_stale round cell h = grind (arith, nat_tests)

worth_fresh : (round : ℕ) (number : ℤ) → worth_in round (record { value = number; round = round }) ≡ number
worth_fresh round number = grind (arith, nat_tests)

-- after a clearing every coefficient is 0
pub cleared : (cells : List Cell) (round : ℕ) → AllBelow round cells → coefficients_of cells round ≡ replicate (length cells) (pos 0)
cleared [] round h = refl
cleared (cell ∷ rest) round h =
    let P : Cell → Type 0 = λ (x : Cell). x.round < round in
    let head : worth_in round cell ≡ pos 0 = worth_stale round cell (All-head P cell rest h) in
    let tail = cleared rest round (All-tail P cell rest h) in
    cc

pub fresh : (n : ℕ) → coefficients_of (replicate n (record { value = pos 0; round = 0 })) 0 ≡ replicate n (pos 0)
fresh zero = refl
fresh (suc n) = ap (λ (xs : List ℤ). pos 0 ∷ xs) (fresh n)

-- and none is counted
pub none_counted : (n : ℕ) → count_by is_nonzero (replicate n (pos 0)) ≡ 0
none_counted n = omega (arith, sum_by-replicate (λ (x : ℤ). cond (is_nonzero x) 1 0) n (pos 0))

-- a cell that is written in this round changes its own coefficient
pub written : (cells : List Cell) (round i : ℕ) (number : ℤ)
    → coefficients_of (set cells i (record { value = number; round = round })) round ≡ set (coefficients_of cells round) i number
written cells round i number = map-set (worth_in round) cells i (record { value = number; round = round })
    ∙ ap (set (coefficients_of cells round) i) (worth_fresh round number)

-- what the write does to the count
pub recounted : (numbers : List ℤ) (i : ℕ) (before after : ℤ) → i < length numbers → before ≡ get_or numbers i (pos 0)
    → count_by is_nonzero (set numbers i after) + cond (is_nonzero before) 1 0 ≡ count_by is_nonzero numbers + cond (is_nonzero after) 1 0
recounted numbers i before after h e = rw e (sum_by-set (λ (x : ℤ). cond (is_nonzero x) 1 0) numbers i after (pos 0) h)

-- cells of earlier rounds are a sum with nothing in it
pub cleared_counts : (inside : Inside) → AllBelow inside.round inside.cells.items → inside.nonzero ≡ 0 → IsCounted inside
cleared_counts inside below none = record {
  rounds = λ k d h. omega (arith, below k d h);
  counted = none ∙ sym (ap (count_by is_nonzero) (cleared inside.cells.items inside.round below)
      ∙ none_counted (length inside.cells.items));
}

pub cleared_sum : (inside : Inside) (n : ℕ) → AllBelow inside.round inside.cells.items → inside.constant ≡ pos 0
    → length inside.cells.items ≡ n → sum_of_cells inside ≡ zero_sum n
cleared_sum inside n below constant len =
    let e = cleared inside.cells.items inside.round below in
    rw (e, constant, len) refl

-- so are new cells in round 0
fresh_below : (cells : List Cell) (n : ℕ) → cells ≡ replicate n (record { value = pos 0; round = 0 })
    → coefficients_of cells 0 ≡ replicate n (pos 0)
fresh_below cells n e = ap (λ (xs : List Cell). coefficients_of xs 0) e ∙ fresh n

pub fresh_counts : (inside : Inside) (n : ℕ) → inside.cells.items ≡ replicate n (record { value = pos 0; round = 0 })
    → inside.round ≡ 0 → inside.nonzero ≡ 0 → IsCounted inside
fresh_counts inside n e round none = record {
  rounds = rw (e, round) (All-replicate (λ (cell : Cell). cell.round ≤ 0) n _ (omega arith));
  counted = none ∙ sym (rw round (ap (count_by is_nonzero) (fresh_below inside.cells.items n e) ∙ none_counted n));
}

pub fresh_sum : (inside : Inside) (n : ℕ) → inside.cells.items ≡ replicate n (record { value = pos 0; round = 0 })
    → inside.round ≡ 0 → inside.constant ≡ pos 0 → sum_of_cells inside ≡ zero_sum n
fresh_sum inside n e round constant = rw (round, fresh_below inside.cells.items n e, constant) refl

-- what a write of one cell leaves
pub written_counts : (was : Inside) (i count : ℕ) (before after : ℤ) (cell : Cell) → IsCounted was → i < length was.cells.items
    → before ≡ get_or (coefficients_of was.cells.items was.round) i (pos 0)
    → count ≡ was.nonzero + cond (is_nonzero after) 1 0 - cond (is_nonzero before) 1 0
    → cell ≡ record { value = after; round = was.round } → (is : Inside) → is.cells.items ≡ set was.cells.items i cell
    → is.round ≡ was.round → is.nonzero ≡ count → IsCounted is
written_counts was i count before after cell h in' b c w is items round nonzero = record {
  rounds = rw (items, w, round) (All-set (λ (x : Cell). x.round ≤ was.round) was.cells.items i _ (omega arith) h.rounds);
  counted =
      let short : i < length (coefficients_of was.cells.items was.round) = rw length-map in' in
      let e = recounted (coefficients_of was.cells.items was.round) i before after short b in
      let k = ap (count_by is_nonzero) (written was.cells.items was.round i after) in
      rw (items, w, round) (omega (arith, h.counted));
}

pub written_sum : (was : Inside) (sum : Sum) (i : ℕ) (after : ℤ) (cell : Cell) (is : Inside) → sum_of_cells was ≡ sum
    → is.cells.items ≡ set was.cells.items i cell → cell ≡ record { value = after; round = was.round } → is.round ≡ was.round
    → is.constant ≡ was.constant → sum_of_cells is ≡ record { coefficients = set sum.coefficients i after; constant = sum.constant }
written_sum was sum i after cell is v items w round constant = rw
    (items, w, round, constant, written was.cells.items was.round i after, ← v) refl

-- as many variables as cells
pub sized : (inside : Inside) (sum : Sum) → sum_of_cells inside ≡ sum → length inside.cells.items ≡ variables sum
sized inside sum e = sym (length-map inside.cells.items (worth_in inside.round)) ∙ ap variables e
