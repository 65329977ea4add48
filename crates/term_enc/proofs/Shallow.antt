-- A pattern is at most as deep as it has parts, and one level more for ints; so a count that stops finds each small pattern.
use Rattle.std.proofs.Common.{◌≡◌, ℕ, zero, suc, ◌+◌, ◌<◌, ◌≤◌, List, [], ◌∷◌, Option, Some, None, is_some, true, refl, sym, ap}
use Rattle.std.proofs.Common.{◌∙◌, arith}
use Rattle.std.specs.Option.{option_map, option_and_then}
use Rattle.std.proofs.lemmas.Option.{none-some}
use Rattle.std.proofs.lemmas.Bool.{false≢true}
use Rattle.list_views.proofs.Options.{map_some, then_some}
use Rattle.abs_cells.specs.declared.cells.Cell.{Cell}
use Rattle.abs_cells.specs.declared.cells.Cell.TheVariants.{Int, Null, Obj, Nums, Refs, Unk}
use Rattle.abs_cells.specs.Cells.{cell_in}
use Rattle.abs_cells.specs.Patterns.{Pattern, Patterns, patterns_by, pattern_of_cell, counts_in}
use Rattle.abs_cells.specs.Patterns.Pattern.{node}
use Rattle.term_enc.specs.inner.Counting.{pattern_in, left_after, count_given, IsSmall}
use Rattle.term_enc.proofs.Levels.{counts_put, split, with_put, leaves, tells}

-- what is given with fewer parts than a number is given by the other too
abbrev IsKeptBelow : (ℕ → Option (Option Pattern)) → (ℕ → Option (Option Pattern)) → ℕ → Type 0
IsKeptBelow f g n = (id : ℕ) (given : Option Pattern) → f id ≡ Some given → count_given given < n → g id ≡ Some given

all_kept : (f g : ℕ → Option (Option Pattern)) (n : ℕ) → IsKeptBelow f g n → (ids : List ℕ) (all : Patterns)
    → patterns_by f ids ≡ Some all → counts_in all < n → patterns_by g ids ≡ Some all
all_kept f g n h [] all e l = e
all_kept f g n h (id ∷ ids) all e l =
    let s = split (f id) (patterns_by f ids) all e in
    let count = ap counts_in s.all_is ∙ counts_put s.given s.others in
    with_put (g id) (patterns_by g ids) s.given s.others (h id s.given s.first_is (omega (arith, l, count)))
    (all_kept f g n h ids s.others s.rest_is (omega (arith, l, count)))
    ∙ ap Some (sym s.all_is)

cell_kept : (f g : ℕ → Option (Option Pattern)) (n : ℕ) → IsKeptBelow f g n → (id : ℕ) (cell : Cell) (given : Option Pattern)
    → pattern_of_cell f id cell ≡ Some given →
    count_given given < suc n → pattern_of_cell g id cell ≡ Some given
cell_kept f g n h id (Int interval) given e l = e
cell_kept f g n h id Null given e l = e
cell_kept f g n h id (Obj class ids) given e l =
    let m = map_some (λ (children : Patterns). Some (node class children)) (patterns_by f ids) given e in
    let count = ap count_given m.1.1 in
    ap (option_map (λ (children : Patterns). Some (node class children))) (all_kept f g n h ids m.0 m.1.0 (omega (arith, l, count)))
    ∙ ap Some m.1.1
cell_kept f g n h id (Nums kind len) given e l = e
cell_kept f g n h id (Refs element len shape) given e l = e
cell_kept f g n h id (Unk bound nullable shape) given e l = e

pub shallow : (depth n : ℕ) (cells : List (ℕ × Cell)) → IsKeptBelow (pattern_in depth cells) (pattern_in n cells) n
shallow zero n cells id given e l = absurd (none-some given e)
shallow (suc depth) zero cells id given e l = absurd (omega (arith, l))
shallow (suc depth) (suc n) cells id given e l =
    let p = then_some (pattern_of_cell (pattern_in depth cells) id) (cell_in cells id) given e in
    ap (option_and_then (pattern_of_cell (pattern_in n cells) id)) p.1.0
    ∙ cell_kept (pattern_in depth cells) (pattern_in n cells) n (shallow depth n cells) id p.0 given p.1.1 l

-- ---- counted

there : (o : Option ℕ) → is_some o ≡ true → (n : ℕ) × (o ≡ Some n)
there None e = absurd (false≢true e)
there (Some n) e = (n, refl)

pub counted : (most : ℕ) (cells : List (ℕ × Cell)) (id : ℕ) → is_some (left_after (suc most) cells id most) ≡ true → IsSmall most cells id
counted most cells id e =
    let r = there (left_after (suc most) cells id most) e in
    let h = tells (suc most) cells id most r.0 r.1 in
    let l = h.left_is in
    record { given = h.given; is = record { depth = suc most; is = h.is }; small = omega (arith, l) }

take_away : (most n : ℕ) → n ≤ most → (rest : ℕ) × (most ≡ n + rest)
take_away most zero l = (most, omega arith)
take_away zero (suc n) l = absurd (omega (arith, l))
take_away (suc most) (suc n) l = let r = take_away most n (omega (arith, l)) in let e = r.1 in (r.0, omega (arith, e))

pub small_at : (most : ℕ) (cells : List (ℕ × Cell)) (id : ℕ) (s : IsSmall most cells id) → pattern_in (suc most) cells id ≡ Some s.given
small_at most cells id s = let l = s.small in shallow s.is.depth (suc most) cells id s.given s.is.is (omega (arith, l))

pub counts : (most : ℕ) (cells : List (ℕ × Cell)) (id : ℕ) → IsSmall most cells id → is_some (left_after (suc most) cells id most) ≡ true
counts most cells id s =
    let r = take_away most (count_given s.given) s.small in
    ap is_some (leaves (suc most) cells id s.given most r.0 (small_at most cells id s) r.1)
