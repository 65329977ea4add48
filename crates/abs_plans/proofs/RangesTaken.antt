-- The ranges of a table, one by one from the last.
use Rattle.std.proofs.Common.{◌≡◌, ◌∙◌, ◌≤◌, ◌<◌, ◌+◌, ℕ, List, [], ◌∷◌, length, drop, ap, sym, arith}
use Rattle.std.specs.Prelude.{slice_index_or}
use Rattle.std.proofs.lemmas.List.{drop_more, drop_all}
use Rattle.class_program.specs.declared.program.CatchRange.{CatchRange}

pub one_more : {Y : Type 0} (F : List CatchRange → Y) (table : List CatchRange) (n below : ℕ) (range : CatchRange)
    → n ≤ length table → n ≡ below + 1 → range ≡ slice_index_or table below range → F (drop below table) ≡ F (range ∷ drop n table)
one_more F table n below range l e is =
    ap F (drop_more table below range (omega (arith, l, e)))
    ∙ ap (λ (r : CatchRange). F (r ∷ drop (below + 1) table)) (sym is)
    ∙ ap (λ (k : ℕ). F (range ∷ drop k table)) (sym e)

pub none_left : {Y : Type 0} (F : List CatchRange → Y) (table : List CatchRange) (n : ℕ) → n ≡ length table → F (drop n table) ≡ F []
none_left F table n e = ap F (drop_all n table (omega (arith, e)))

pub all_left : {Y : Type 0} (F : List CatchRange → Y) (table : List CatchRange) (n : ℕ) → n ≡ 0 → F (drop n table) ≡ F table
all_left F table n e = ap (λ (k : ℕ). F (drop k table)) e
