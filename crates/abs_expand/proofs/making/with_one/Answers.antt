use Rattle.std.proofs.Common.{◌≤◌, ◌∙◌, ◌∷◌, [], List, ℕ, length, refl, sym, subst, ap, true}
use Rattle.abs_cells.specs.AbstractStates.{AbstractState}
use Rattle.abs_cells.specs.Cells.{HasCell, AreEqual, Share}
use Rattle.abs_cells.specs.PairLists.{IsRising}
use Rattle.abs_cells.specs.Sound.{IsWellFormed}
use Rattle.abs_cells.specs.declared.cells.Cell.{Cell}
use Rattle.abs_heap.specs.Given.{IsGiven, AreFresh, with_cells}
use Rattle.abs_expand.specs.inner.Making.{inserted}
use Rattle.abs_expand.proofs.CellLists.{free_is_low, free_after}
use Rattle.abs_expand.proofs.Changing.{state_as, one_made, one_good, one_there}
use Rattle.abs_expand.proofs.making.with_one.Goals as goal

pub with_cell-requires : goal.with_cell-requires
with_cell-requires g c =
    subst (λ (xs : List (ℕ × Cell)). c.args.id ≤ length xs) (sym (c.in_ok-copy.ensures ∙ c.cells.ensures))
    (free_is_low 0 c.args.id c.args.state.now.cells c.requires.good.rising (free_after c.args.state.now.cells c.args.id c.requires.free))

pub returns : goal.returns
returns g c =
    let state = c.args.state.now in
    let id = c.args.id in
    let cell = c.args.cell in
    let cells = c.in_ok-cells.ensures ∙ ap (inserted id cell) (c.in_ok-copy.ensures ∙ c.cells.ensures) in
    let is = state_as state c.new.result c.in_ok-frames.frames c.frames.result.now c.throwing.result c.throwing.result
    c.in_ok-cells.cells (inserted id cell state.cells) _ _ _ _ c.new.ensures
    c.in_ok-frames.ensures c.frames.ensures refl c.throwing.ensures cells c.in_ok-eq.ensures c.eq-equal.ensures c.in_ok-share.ensures
    c.share-shared.ensures in
    let re : IsRising state.eq = subst IsRising c.eq-equal.ensures c.rise.ensures in
    let rs : IsRising state.share = subst IsRising c.share-shared.ensures c.rise-2.ensures in
    record {
      made =
          subst (λ (s : AbstractState). AreFresh state (id ∷ []) × IsGiven state.frames state.throwing
          (with_cells ((id, cell) ∷ []) state) (AreEqual state) (Share state) s) (sym is)
          (one_made state c.requires.good re rs id c.requires.free c.requires.low cell c.requires.names);
      good = subst IsWellFormed (sym is) (one_good state c.requires.good re rs id c.requires.free c.requires.low cell c.requires.names);
      there = subst (λ (s : AbstractState). HasCell (λ _. true) s id) (sym is) (one_there state c.requires.good re rs id
          c.requires.free c.requires.low cell c.requires.names);
    }
