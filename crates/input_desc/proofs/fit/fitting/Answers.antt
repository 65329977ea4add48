use Rattle.class_program.specs.Views.{program_of}
use Rattle.input_desc.proofs.GoodDescs.{found_are_there}
use Rattle.input_desc.proofs.fit.fitting.Goals as goal

pub made-requires : goal.made-requires
made-requires c = found_are_there (program_of c.args.program.now) c.args.texts.now c.as_slice-both.result.now c.in_ok-found.found
    c.requires c.in_ok-found.ensures
