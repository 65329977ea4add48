use Rattle.std.proofs.Common.{◌∙◌}
use Rattle.class_program.specs.Views.{program_of}
use Rattle.input_desc.specs.Given.{slots_of}
use Rattle.input_desc.proofs.GoodDescs.{found_count}
use Rattle.input_desc.proofs.fit.described.Goals as goal

pub found_fault-requires : goal.found_fault-requires
found_fault-requires c =
    let p = program_of c.args.program.now in
    found_count p.world (slots_of p) c.as_slice-wanted.result.now c.args.texts.now c.in_ok-found.found c.as_slice-inputs.result.now
    c.requires (c.as_slice-wanted.ensures ∙ c.in_ok-slots.ensures) c.in_ok-found.ensures c.as_slice-inputs.ensures
