-- The intervals of a state are bounded, cell by cell.
use Rattle.std.proofs.Common.{◌≡◌, inl, inr, ℕ, suc, ◌+◌, ◌<◌, ◌≤◌, ◌^◌, List, ◌++◌, length, drop, get_or, subst, ap}
use Rattle.std.proofs.Common.{arith, ◌∙◌, sym}
use Rattle.std.specs.Prelude.{unsigned_abs, All}
use Rattle.std.specs.List.{flat_map}
use Rattle.std.proofs.Math.Seq.{drop-cons}
use Rattle.std.proofs.lemmas.Bool.{cases_lt}
use Rattle.std.proofs.lemmas.List.{append_assoc, get_or_default}
use Rattle.list_views.proofs.Orders.{one_more as one_on}
use Rattle.lin_core.specs.declared.rows.WRow.{WRow}
use Rattle.lin_core.specs.Intervals.{Bounds}
use Rattle.abs_cells.specs.declared.cells.Cell.{Cell}
use Rattle.abs_cells.specs.declared.cells.Cell.TheVariants.{Int}
use Rattle.path_rules.specs.Conditions.{IsBounded}

pub int_bounded : (cell : Cell) (interval : Bounds) → cell ≡ Int interval → unsigned_abs interval.lo ≤ 2 ^ 31
    → unsigned_abs interval.hi ≤ 2 ^ 31 → IsBounded cell
int_bounded cell interval is low high = subst IsBounded (sym is) (low, high)

-- the first so many cells are bounded
pub record AreBoundedBelow (cells : List (ℕ × Cell)) (n : ℕ) : Type 0 where
  pub each : (k : ℕ) (d : ℕ × Cell) → k < n → k < length cells → IsBounded (get_or cells k d).1

pub none_bounded : (cells : List (ℕ × Cell)) → AreBoundedBelow cells 0
none_bounded cells = record { each = λ k d l m. absurd (omega (arith, l)) }

one_more : (cells : List (ℕ × Cell)) (n : ℕ) (item : ℕ × Cell) → AreBoundedBelow cells n → n < length cells
    → item ≡ get_or cells n item → IsBounded item.1 → AreBoundedBelow cells (n + 1)
one_more cells n item so l is bounded = record {
  each = λ k d m w. elim (cases_lt k n) as (λ o. IsBounded (get_or cells k d).1) [
    | inl below ↦ so.each k d below w
    | inr past ↦ let same : n ≡ k = omega (arith, m, past) in
        subst (λ (i : ℕ). IsBounded (get_or cells i d).1) same
        (subst (λ (c : ℕ × Cell). IsBounded c.1) (is ∙ get_or_default cells n item d l) bounded)
  ];
}

-- the cells are gone through as the items of a list
pub one_bounded : (items cells : List (ℕ × Cell)) (n : ℕ) (item : ℕ × Cell) → items ≡ cells → AreBoundedBelow cells n
    → n < length items → item ≡ get_or items n item → IsBounded item.1 → AreBoundedBelow cells (n + 1)
one_bounded items cells n item same so l is bounded =
    let long = ap (λ (c : List (ℕ × Cell)). length c) same in
    one_more cells n item so (omega (arith, l, long)) (is ∙ ap (λ (c : List (ℕ × Cell)). get_or c n item) same) bounded

pub all_bounded : (items cells : List (ℕ × Cell)) (n : ℕ) → items ≡ cells → AreBoundedBelow cells n → length items ≤ n
    → All (λ (c : ℕ × Cell). IsBounded c.1) cells
all_bounded items cells n same so l k d w =
    let long = ap (λ (c : List (ℕ × Cell)). length c) same in
    so.each k d (omega (arith, l, w, long)) w

rows_more : (f : ℕ × Cell → List WRow) (cells : List (ℕ × Cell)) (n : ℕ) (item : ℕ × Cell) (rows more first : List WRow)
    → n < length cells → item ≡ get_or cells n item → more ≡ rows ++ f item → rows ++ flat_map f (drop n cells) ≡ first ++ flat_map
    f cells → more ++ flat_map f (drop (suc n) cells) ≡ first ++ flat_map f cells
rows_more f cells n item rows more first l is made so =
    let here : f item ++ flat_map f (drop (suc n) cells) ≡ flat_map f (drop n cells) = ap
    (λ (c : ℕ × Cell). f c ++ flat_map f (drop (suc n) cells)) is ∙ ap (flat_map f) (sym (drop-cons cells n item l)) in
    ap (λ (r : List WRow). r ++ flat_map f (drop (suc n) cells)) made
    ∙ (append_assoc rows (f item) (flat_map f (drop (suc n) cells))
    ∙ (ap (λ (r : List WRow). rows ++ r) here ∙ so))

pub one_pushed : (f : ℕ × Cell → List WRow) (items cells : List (ℕ × Cell)) (n : ℕ) (item : ℕ × Cell) (rows more first : List WRow)
    → items ≡ cells → n < length items → item ≡ get_or items n item → more ≡ rows ++ f item
    → rows ++ flat_map f (drop n cells) ≡ first ++ flat_map f cells → more ++ flat_map f (drop (n + 1) cells) ≡ first ++ flat_map f cells
one_pushed f items cells n item rows more first same l is made so =
    let long = ap (λ (c : List (ℕ × Cell)). length c) same in
    subst (λ (k : ℕ). more ++ flat_map f (drop k cells) ≡ first ++ flat_map f cells) (one_on n)
    (rows_more f cells n item rows more first (omega (arith, l, long)) (is ∙ ap (λ (c : List (ℕ × Cell)). get_or c n item) same) made so)
