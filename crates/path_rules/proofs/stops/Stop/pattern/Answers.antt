use Rattle.std.proofs.Common.{◌≡◌, ◌∙◌, ℕ, List, Option, ap, subst, sym}
use Rattle.std.specs.Prelude.{not, IfOk}
use Rattle.std.specs.Option.{option_map}
use Rattle.abs_cells.specs.declared.cells.Cell.{Cell}
use Rattle.abs_cells.specs.AbstractStates.{AbstractState}
use Rattle.abs_cells.specs.Cells.{cell_in}
use Rattle.term_enc.specs.declared.terms.PatternTerm.{PatternTerm}
use Rattle.term_enc.specs.Encoding.{pattern_of}
use Rattle.path_rules.specs.Sizing.{size_at, NumberedNode}
use Rattle.path_rules.proofs.Sized.{encoded, int_unsized, missing_unsized}
use Rattle.path_rules.proofs.stops.Stop.pattern.Goals as goal

pub encode-requires-clause-there : goal.encode-requires-clause-there
encode-requires-clause-there g c = record {
  cell = c.in-Some.cell.now;
  is =
      ap (λ (cells : List (ℕ × Cell)). cell_in cells c.args.id) (ap (λ (s : AbstractState). s.cells) c.state-else-is_int.ensures
      ∙ sym (c.cells.ensures ∙ ap (λ (s : AbstractState). s.cells) c.state.ensures))
      ∙ c.in-Some.ensures;
  sort_is = ap not (sym c.is_int.ensures ∙ c.if-is_int.false);
}

pub returns-then-is_int : goal.returns-then-is_int
returns-then-is_int g c =
    int_unsized c.self.inside.node.state c.args.id c.in-Some.cell.now
    (ap (λ (cells : List (ℕ × Cell)). cell_in cells c.args.id)
    (sym (c.cells.ensures ∙ ap (λ (s : AbstractState). s.cells) c.state.ensures)) ∙ c.in-Some.ensures)
    (sym c.is_int.ensures ∙ c.if-is_int.true)
    ∙ ap (λ (n : NumberedNode). size_at n.node.state c.args.id) c.self.view_is

pub returns-else-is_int : goal.returns-else-is_int
returns-else-is_int g c =
    subst (λ (n : NumberedNode). IfOk c.encode.result
    (λ (answer : Option PatternTerm). option_map pattern_of answer ≡ size_at n.node.state c.args.id)) c.self.view_is
    (subst (λ (s : AbstractState). IfOk c.encode.result
    (λ (answer : Option PatternTerm). option_map pattern_of answer ≡ size_at s c.args.id)) c.state-else-is_int.ensures
    (encoded c.state-else-is_int.result.now c.args.id c.encode.result c.encode.ensures))

pub returns-in-None : goal.returns-in-None
returns-in-None g c =
    missing_unsized c.self.inside.node.state c.args.id
    (ap (λ (cells : List (ℕ × Cell)). cell_in cells c.args.id)
    (sym (c.cells.ensures ∙ ap (λ (s : AbstractState). s.cells) c.state.ensures)) ∙ c.in-None.ensures)
    ∙ ap (λ (n : NumberedNode). size_at n.node.state c.args.id) c.self.view_is
