use Rattle.std.proofs.Common.{◌≡◌, ◌∙◌, ◌<◌, ℕ, List, length, get_or, sym, ap, subst}
use Rattle.abs_cells.specs.declared.cells.Cell.{Cell}
use Rattle.abs_cells.specs.Cells.{cell_in}
use Rattle.abs_cells.specs.Sound.{AreIdsRising}
use Rattle.abs_reach.specs.Keys.{AreKeysRising, IsNoKey}
use Rattle.abs_match.proofs.Keys.{none}
use Rattle.abs_match.proofs.Partners.{keys_rise}
use Rattle.abs_match.proofs.SearchTurns.{no_target_cell, no_entry, no_cell, low_there, turned_of}
use Rattle.abs_match.proofs.finding.visit.Goals as goal

pub cell_of-requires : goal.cell_of-requires
cell_of-requires g c = subst (λ (cs : List (ℕ × Cell)). AreIdsRising 0 cs) (sym c.cells.ensures) c.requires.rising

pub place_of-requires : goal.place_of-requires
place_of-requires g c = subst (λ (es : List (ℕ × ℕ)). AreKeysRising 0 es) (sym c.deref.ensures.value)
    (keys_rise c.args.entries.now.items c.args.target.now.cells 0 c.requires.searching.keys c.requires.rising)

pub cell_of-requires-2 : goal.cell_of-requires-2
cell_of-requires-2 g c = subst (λ (cs : List (ℕ × Cell)). AreIdsRising 0 cs) (sym c.cells-2.ensures) c.requires.good.rising

pub note-requires : goal.note-requires
note-requires g c = subst (λ (es : List (ℕ × ℕ)). c.in-Some-place_of.place < length es) c.deref.ensures.value c.in-Some-place_of.ensures.0

pub put-requires : goal.put-requires
put-requires g c = low_there c.args.state.now c.args.target.now c.args.id c.in-Some.cell.now c.requires.rising
    (ap (λ (cs : List (ℕ × Cell)). cell_in cs c.args.id) (sym c.cells.ensures) ∙ c.in-Some.ensures)

pub returns-in_default : goal.returns-in_default
returns-in_default g c = no_target_cell c.args.state.now c.args.target.now c.args.met.now c.args.entries.now.items c.args.todo.now.0
    c.args.id c.args.image c.requires.searching (ap (λ (cs : List (ℕ × Cell)). cell_in cs c.args.id) (sym c.cells.ensures)
    ∙ c.in_default.ensures)

pub returns-in_default-place_of : goal.returns-in_default-place_of
returns-in_default-place_of g c = no_entry c.args.state.now c.args.target.now c.args.met.now c.args.entries.now.items
    c.args.todo.now.0 c.args.id c.args.image c.requires.rising c.requires.searching
    (none c.args.entries.now.items c.args.id
    (subst (λ (es : List (ℕ × ℕ)). IsNoKey es c.args.id) c.deref.ensures.value c.in_default-place_of.ensures))

pub returns-in_default-cell_of : goal.returns-in_default-cell_of
returns-in_default-cell_of g c = no_cell c.args.state.now c.args.target.now c.args.met.now c.args.entries.now.items
    c.args.todo.now.0 c.args.id c.args.image c.requires.searching
    (ap (λ (cs : List (ℕ × Cell)). cell_in cs c.args.image) (sym c.cells-2.ensures) ∙ c.in_default-cell_of.ensures)

pub returns : goal.returns
returns g c =
    turned_of c.args.state.now c.args.target.now c.args.met.now c.put.new.self c.args.entries.now.items c.args.todo.now.0 c.args.id
    c.args.image c.in-Some-place_of.place (0, 0) c.in-Some.cell.now c.in-Some-cell_of.below.now c.requires.rising
    c.requires.searching c.requires.fresh c.put.ensures
    (subst (λ (es : List (ℕ × ℕ)). c.in-Some-place_of.place < length es) c.deref.ensures.value c.in-Some-place_of.ensures.0)
    (subst (λ (es : List (ℕ × ℕ)). (get_or es c.in-Some-place_of.place (0, 0)).0 ≡ c.args.id) c.deref.ensures.value
    (c.in-Some-place_of.ensures.1 (0, 0)))
    (ap (λ (cs : List (ℕ × Cell)). cell_in cs c.args.id) (sym c.cells.ensures) ∙ c.in-Some.ensures)
    (ap (λ (cs : List (ℕ × Cell)). cell_in cs c.args.image) (sym c.cells-2.ensures) ∙ c.in-Some-cell_of.ensures)
    c.put_named.result c.note.new.entries.items c.put_named.new.todo.0 c.note.ensures c.put_named.ensures
