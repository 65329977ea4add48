use Rattle.std.proofs.Common.{◌≡◌, ◌∙◌, ℕ, refl, sym, ap, arith}
use Rattle.std.proofs.lemmas.Bool.{false≢true}
use Rattle.abs_cells.specs.declared.cells.Cell.{Cell}
use Rattle.abs_match.proofs.Leasts.{next_value, all_values, value_differs}
use Rattle.abs_match.proofs.maps.has_keys.Goals as goal

abbrev key : ℕ × ℕ → ℕ
key entry = entry.0

abbrev id_of : ℕ × Cell → ℕ
id_of c = c.0

pub returns-then-entries-place : goal.returns-then-entries-place
returns-then-entries-place c = (
  λ t. absurd (false≢true t),
  λ e. absurd (value_differs key id_of c.args.entries.now c.args.cells.now c.loop-place.place (0, 0) c.index-cells-place.result
      (omega (arith, c.loop-place-test.true, c.if-cells-entries.false)) c.loop-place-test.true
      (λ s. c.if-entries-place.true (s ∙ ap id_of (sym c.index-cells-place.is))) e),
)

pub loop-place-preserved : goal.loop-place-preserved
loop-place-preserved c = next_value key id_of c.args.entries.now c.args.cells.now c.loop-place.place (0, 0)
    c.index-cells-place.result (omega (arith, c.loop-place-test.true, c.if-cells-entries.false)) c.loop-place-test.true
    (c.if-entries-place.false ∙ ap id_of c.index-cells-place.is) c.loop-place.invariant

pub returns : goal.returns
returns c = (
  λ t. all_values key id_of c.args.entries.now c.args.cells.now c.loop-place.place (sym c.if-cells-entries.false)
      (omega (arith, c.if-cells-entries.false, c.loop-place-test.false)) c.loop-place.invariant,
  λ e. refl,
)
