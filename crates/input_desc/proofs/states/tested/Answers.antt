use Rattle.std.proofs.Common.{◌≡◌, List, Option, None, sym, ap, ◌∙◌}
use Rattle.std.specs.Prelude.{is_some}
use Rattle.std.specs.List.{list_all}
use Rattle.class_program.specs.Views.{program_of}
use Rattle.input_desc.specs.Typed.{Objects}
use Rattle.input_desc.proofs.TypedInputs.{there_without_fault}
use Rattle.input_desc.proofs.states.tested.Goals as goal

pub all_there-requires : goal.all_there-requires
all_there-requires c =
    let none = there_without_fault (program_of c.args.program.now) c.as_slice.result.now c.as_slice-2.result.now
    c.as_slice-3.result.now (sym c.in_ok-fault.ensures ∙ c.in-None.is) in
    ap (λ (xs : Objects). list_all is_some xs) (sym c.as_slice.ensures) ∙ none
