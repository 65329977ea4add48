use Rattle.std.proofs.Common.{◌≡◌, ◌∙◌, None, ap, sym, subst}
use Rattle.class_asm.specs.asm_codes.Instructions.{Places}
use Rattle.class_asm.specs.asm_codes.Places.{places_of, IsNear}
use Rattle.class_asm.specs.asm_codes.LineFaults.{first_fault}
use Rattle.class_asm.specs.asm_codes.MethodCodes.{IsWritable, code_at}
use Rattle.class_asm.proofs.CodeSizes.{sized}
use Rattle.class_asm.proofs.Written.{near, writable}
use Rattle.class_asm.proofs.asm_codes.code.code_placed.Goals as goal

pub code_at-requires-clause-near : goal.code_at-requires-clause-near
code_at-requires-clause-near c =
    let lines = c.args.lines.now in
    let none : first_fault (places_of lines) lines ≡ None = ap (λ (p : Places). first_fault p lines) (sym c.requires.places)
    ∙ sym c.in_ok-fault.ensures ∙ c.in_default.is in
    subst IsNear (sym c.requires.places) (near lines none)

pub code_at-requires-clause-writable : goal.code_at-requires-clause-writable
code_at-requires-clause-writable c =
    let lines = c.args.lines.now in
    let none : first_fault (places_of lines) lines ≡ None = ap (λ (p : Places). first_fault p lines) (sym c.requires.places)
    ∙ sym c.in_ok-fault.ensures ∙ c.in_default.is in
    subst (λ (p : Places). IsWritable p 0 lines) (sym c.requires.places) (writable lines none)

pub returns-clause-sized : goal.returns-clause-sized
returns-clause-sized c =
    let lines = c.args.lines.now in
    let none : first_fault (places_of lines) lines ≡ None = ap (λ (p : Places). first_fault p lines) (sym c.requires.places)
    ∙ sym c.in_ok-fault.ensures ∙ c.in_default.is in
    sized lines c.in_ok-code_at.field-0 none (c.in_ok-code_at.ensures ∙ ap (λ (p : Places). code_at p lines) c.requires.places)
