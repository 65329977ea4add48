use Rattle.std.proofs.Common.{◌∙◌, ℕ, List, ap}
use Rattle.std.proofs.lemmas.Result.{IfOk-weaker}
use Rattle.abs_heap.specs.Names.{name_in}
use Rattle.abs_heap.specs.inner.Renaming.{shape_if, written_cell, write_of}
use Rattle.abs_heap.specs.Writing.{is_renamed}
use Rattle.abs_heap.proofs.After.{cell_made}
use Rattle.abs_heap.proofs.rewriting.cell_after.Goals as goal

pub returns : goal.returns
returns c = IfOk-weaker c.written_cell.result _ _
    (λ made is. cell_made c.args.effect.now.names c.args.effect.now.null c.args.effect.now.no_cycle
    (write_of c.args.write.now.object c.args.write.now.field c.args.write.now.value) c.args.id c.args.cell.now made _ _
    (c.is_renamed-renamed.ensures ∙ ap (λ (ns : List (ℕ × ℕ)). is_renamed ns c.args.id) c.as_slice-names.ensures) c.field_at-field.ensures
    (is ∙ ap (λ (ns : List (ℕ × ℕ)). written_cell (name_in ns) c.field_at-field.result c.args.write.now.value
    (shape_if c.is_renamed-renamed.result c.args.effect.now.null c.args.effect.now.no_cycle) c.args.cell.now)
    c.as_slice-names.ensures)) c.written_cell.ensures
