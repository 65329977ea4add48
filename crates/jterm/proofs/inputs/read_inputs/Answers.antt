use Rattle.std.proofs.Common.{◌≤◌, ℕ, suc, map, length, add-one, string_bytes, sym, subst, ◌∙◌, refl, arith}
use Rattle.input_steps.proofs.Files.{take_files_more, get_file}
use Rattle.io_ports.specs.Told.{IsPastLimit}
use Rattle.jterm.specs.Outside.{limit_at}
use Rattle.jterm.specs.inner.Failure.{HasCause}
use Rattle.jterm.proofs.ReadingOrder.{next_limit, first_read_more, first_contents_more, map_more, has_cause}
use Rattle.jterm.proofs.inputs.read_inputs.Goals as goal

pub returns-in_err-push-in-Ok-clause-reads : goal.returns-in_err-push-in-Ok-clause-reads
returns-in_err-push-in-Ok-clause-reads g c =
    let more = take_files_more string_bytes c.args.command.now.files.now c.loop-word.word-index c.word-item.result
    c.as_str-name.result.now (omega arith) c.word-item.is c.as_str-name.ensures.value in
    (suc c.loop-word.word-index, first_read_more _ _ _ _ _ _ _ more c.loop-word.invariant.reads c.read.ensures.leaves)

pub returns-in-Err : goal.returns-in-Err
returns-in-Err g c =
    let files = c.args.command.now.files.now in
    let more = take_files_more string_bytes files c.loop-word.word-index c.word-item.result c.as_str-name.result.now (omega arith)
    c.word-item.is c.as_str-name.ensures.value in
    let named = get_file string_bytes files c.loop-word.word-index c.word-item.result c.as_str-name.result.now (omega arith)
    c.word-item.is c.as_str-name.ensures.value in
    let limits = limit_at c.args.certificate c.args.other c.args.command.now.request in
    let limit = next_limit (λ file. file.items) string_bytes c.loop-word.inputs.items files limits _ c.loop-word.word-index _
    c.len.result c.limit_at-limit.result (omega arith) c.loop-word.invariant.contents c.loop-word.invariant.count c.len.ensures
    c.limit_at-limit.ensures.limit in
    let cause = has_cause g.F.Files.held g.F.Files.faults g.F.Files.leaves limits c.args.command.now.request (map string_bytes files)
    c.args.files.now c.loop-word.files c.read.new.self c.loop-word.word-index c.as_str-name.result.now _ c.in-Err.fault
    c.loop-word.invariant.held c.loop-word.invariant.still named c.loop-word.invariant.contents
    c.loop-word.invariant.reads c.read.ensures.leaves
    c.in-Err.ensures.failed (λ long. subst (IsPastLimit _) limit.0 (c.in-Err.ensures.too_long long)) c.in-Err.ensures.missing
    c.in-Err.ensures.too_long_is_no_fault c.in-Err.ensures.missing_is_no_fault in
    record {
      contents = tt;
      cause = subst (HasCause _ _ _ _ _ _ _ _) (sym c.failure_at.ensures) cause;
      reads = (suc c.loop-word.word-index, first_read_more _ _ _ _ _ _ _ more c.loop-word.invariant.reads c.read.ensures.leaves);
    }

pub loop-word-preserved : goal.loop-word-preserved
loop-word-preserved g c =
    let files = c.args.command.now.files.now in
    let more = take_files_more string_bytes files c.loop-word.word-index c.word-item.result c.as_str-name.result.now (omega arith)
    c.word-item.is c.as_str-name.ensures.value in
    let grown = map_more (λ file. file.items) c.loop-word.inputs.items c.push.new.self.items c.in-Ok.content
    c.in_ok-push-in-Ok.ensures.items in
    let limits = limit_at c.args.certificate c.args.other c.args.command.now.request in
    let limit = next_limit (λ file. file.items) string_bytes c.loop-word.inputs.items files limits _ c.loop-word.word-index _
    c.len.result c.limit_at-limit.result (omega arith) c.loop-word.invariant.contents c.loop-word.invariant.count c.len.ensures
    c.limit_at-limit.ensures.limit in
    rw add-one (record {
      contents = first_contents_more limits (g.F.Files.held c.args.files.now) (g.F.Files.held c.loop-word.files)
          (map string_bytes files) _ _ c.loop-word.word-index
          c.as_str-name.result.now c.in-Ok.content.items more grown c.loop-word.invariant.contents c.loop-word.invariant.held
          c.in-Ok.ensures.content (subst (λ (n : ℕ). length c.in-Ok.content.items ≤ n) limit.1 c.in-Ok.ensures.within);
      count = (let grown = c.in_ok-push-in-Ok.ensures.len in let same = c.loop-word.invariant.count in omega (arith, grown, same));
      held = c.in-Ok.ensures.keeps ∙ c.loop-word.invariant.held;
      still = c.in-Ok.ensures.read_is_no_fault refl ∙ c.loop-word.invariant.still;
      reads = first_read_more _ _ _ _ _ _ _ more c.loop-word.invariant.reads c.read.ensures.leaves;
    })
