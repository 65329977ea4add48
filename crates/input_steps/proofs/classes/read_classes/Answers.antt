use Rattle.std.proofs.Common.{map, add-one, arith}
use Rattle.input_steps.proofs.Files.{refuses_classes, spell_more, take_files_more, get_file}
use Rattle.input_steps.proofs.classes.read_classes.Goals as goal

pub returns-in-Err-clause-refused : goal.returns-in-Err-clause-refused
returns-in-Err-clause-refused c =
    let files = c.args.files.now in
    let named = get_file (λ file. file.items) files c.loop-number.number c.index-files-number.result c.as_slice.result.now
    (omega arith) c.index-files-number.is c.as_slice.ensures.value in
    refuses_classes (map (λ file. file.items) files) c.loop-number.number c.loop-number.classes.items c.as_slice.result.now
    c.in-Err.refused c.loop-number.invariant named c.in-Err.ensures.refused

pub loop-number-preserved : goal.loop-number-preserved
loop-number-preserved c =
    let files = c.args.files.now in
    let more = take_files_more (λ file. file.items) files c.loop-number.number c.index-files-number.result c.as_slice.result.now
    (omega arith) c.index-files-number.is c.as_slice.ensures.value in
    rw (add-one, more, c.in_ok-push-in-Ok.ensures.items) (spell_more _ _ _ _ c.loop-number.invariant c.in-Ok.ensures.class)
