use Rattle.std.proofs.Common.{Bool, sym, subst}
use Rattle.asm_lines.specs.Statements.{Gives}
use Rattle.asm_lines.specs.Listings.{read_item}
use Rattle.asm_lines.proofs.listing.read_item.Goals as goal

pub returns-then-is_plain : goal.returns-then-is_plain
returns-then-is_plain c =
    subst (λ (good : Bool). Gives (λ x. x) c.item_of.result
    (read_item c.args.names.now c.args.line good c.args.labelled c.args.words.now)) (sym c.if-is_plain.true) c.item_of.ensures
