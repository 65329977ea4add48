use Rattle.std.proofs.Common.{ℕ, ◌∙◌, ap, sym, true}
use Rattle.std.proofs.lemmas.Bool.{false≢true}
use Rattle.abs_cells.specs.Cells.{is_of_sort, cell_in}
use Rattle.abs_cells.proofs.Checking.{well, uses, joins_all}
use Rattle.abs_cells.proofs.checks.is_well_named.Goals as goal

pub returns-then-has_used : goal.returns-then-has_used
returns-then-has_used g c =
    let set = λ (n : ℕ). c.ids_of_sort.ensures n ∙ ap (λ xs. is_of_sort (λ _. true) (cell_in xs n)) c.cells.ensures in (
      λ h. let parts = c.pairs_fit.ensures.0 h in well c.args.state.now c.ids_of_sort.result c.requires set
          (sym c.has_used.ensures ∙ c.if-has_used.true) parts.0 parts.1,
      λ h. c.pairs_fit.ensures.1 (h.shared, joins_all c.args.state.now h),
    )

pub returns-else-has_used : goal.returns-else-has_used
returns-else-has_used g c =
    let set = λ (n : ℕ). c.ids_of_sort.ensures n ∙ ap (λ xs. is_of_sort (λ _. true) (cell_in xs n)) c.cells.ensures in
    (λ h. absurd (false≢true (sym c.if-has_used.false ∙ h)), λ h. c.has_used.ensures ∙ uses c.args.state.now c.ids_of_sort.result set h)
