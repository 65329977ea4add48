-- Faults that come in turn.
use Rattle.std.proofs.Common.{◌≡◌, List, ◌++◌, Option, sym, ap, ◌∙◌}
use Rattle.std.proofs.lemmas.List.Sums.{fold-append}
use Rattle.asm_lines.specs.declared.fault.AsmFault.{AsmFault}
use Rattle.asm_lines.specs.Firsts.{with_fault, with_faults}

pub in_turn : (f g h : Option AsmFault) (a b : List AsmFault) → g ≡ with_faults f a → h ≡ with_faults g b → h ≡ with_faults f (a ++ b)
in_turn f g h a b p q = q ∙ ap (λ x. with_faults x b) p ∙ sym (fold-append with_fault f a b)
