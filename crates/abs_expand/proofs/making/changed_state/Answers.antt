use Rattle.std.proofs.Common.{◌≡◌, ◌∙◌, List, ℕ, reverse, length, sym, subst, ap}
use Rattle.std.proofs.lemmas.List.{length-map}
use Rattle.abs_cells.specs.AbstractStates.{AbstractState}
use Rattle.abs_cells.specs.Cells.{is_reference, is_of_sort, cell_in, AreEqual, Share}
use Rattle.abs_cells.specs.IdSets.{has_id}
use Rattle.abs_cells.specs.PairLists.{IsRising}
use Rattle.abs_cells.specs.Sound.{AreIdsRising, IsWellFormed}
use Rattle.abs_cells.specs.declared.cells.Cell.{Cell}
use Rattle.abs_heap.specs.Given.{IsGiven, with_cells}
use Rattle.abs_expand.specs.inner.Making.{changed_cell, changed_cells}
use Rattle.abs_expand.proofs.CellLists.{changed_rising}
use Rattle.abs_expand.proofs.Changing.{changed_as, changed_given, changed_good}
use Rattle.abs_expand.proofs.making.changed_state.Goals as goal

pub references-ids-requires : goal.references-ids-requires
references-ids-requires g c =
    subst (AreIdsRising 0) (sym (c.as_slice.ensures ∙ c.in_ok-cells.ensures ∙ ap (changed_cells c.args.changed.now) c.cells.ensures))
    (changed_rising 0 c.args.changed.now c.args.state.now.cells c.requires.good.rising)

pub returns : goal.returns
returns g c =
    let state = c.args.state.now in
    let changed = c.args.changed.now in
    let set = c.references-ids.result in
    let frames = reverse c.args.frames in
    let now : c.in_ok-cells.cells ≡ changed_cells changed state.cells = c.in_ok-cells.ensures
    ∙ ap (changed_cells changed) c.cells.ensures in
    let set_is : (n : ℕ) → has_id set n ≡ is_of_sort is_reference (cell_in (changed_cells changed state.cells) n) =
    λ n. c.references-ids.ensures n
    ∙ ap (λ (xs : List (ℕ × Cell)). is_of_sort is_reference (cell_in xs n)) (c.as_slice.ensures ∙ now) in
    let is = changed_as state c.new.result changed c.in_ok-cells.cells c.cells.result.now set frames c.args.throwing _ _ _ _
    c.new.ensures c.in_ok-cells.ensures c.cells.ensures c.in_ok-eq.ensures
    c.eq-equal.ensures c.in_ok-share.ensures c.share-shared.ensures in
    let re : IsRising state.eq = subst IsRising c.eq-equal.ensures c.rise.ensures in
    let rs : IsRising state.share = subst IsRising c.share-shared.ensures c.rise-2.ensures in
    record {
      given =
          subst (IsGiven frames c.args.throwing (with_cells changed state) (AreEqual state) (Share state)) (sym is)
          (changed_given state c.requires.good changed c.requires.changes set set_is re rs frames c.args.throwing);
      good = subst IsWellFormed (sym is) (changed_good state c.requires.good changed c.requires.changes set set_is re rs frames
          c.args.throwing c.requires.frames c.requires.thrown);
      count = ap (λ (s : AbstractState). length s.cells) is ∙ length-map state.cells (λ (x : ℕ × Cell). (x.0, changed_cell changed x));
    }
