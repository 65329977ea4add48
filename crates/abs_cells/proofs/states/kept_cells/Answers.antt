use Rattle.std.proofs.Common.{rules, ◌∙◌, ap, ℕ}
use Rattle.std.specs.Prelude.{filter}
use Rattle.std.proofs.lemmas.Fn.{filter_same}
use Rattle.abs_cells.specs.declared.cells.Cell.{Cell}
use Rattle.abs_cells.specs.IdSets.{has_id}
use Rattle.abs_cells.proofs.states.kept_cells.Goals as goal

pub returns : goal.returns
returns c = c.from_vec.ensures ∙ filter_same _ (λ (item : ℕ × Cell). has_id c.args.ids.now item.0) _ (λ x b f' k. search rules) _ _
    c.retain.ensures.filtered ∙ ap (filter (λ (item : ℕ × Cell). has_id c.args.ids.now item.0)) c.into_vec-items.ensures
