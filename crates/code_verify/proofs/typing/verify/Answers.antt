use Rattle.std.proofs.Common.{◌≡◌, ◌<◌, arith, length, get_or, Some, List, ap, ◌∙◌}
use Rattle.std.specs.Prelude.{slice_get}
use Rattle.class_program.specs.declared.program.Method.{Method}
use Rattle.class_program.specs.Views.{program_of}
use Rattle.code_verify.proofs.Listed.{method_there, pushed_typed, refusal_named, all_typed}
use Rattle.code_verify.proofs.typing.verify.Goals as goal

pub returns-in-None-clause-fault : goal.returns-in-None-clause-fault
returns-in-None-clause-fault c =
    let l : c.loop-method.method-index < length c.args.program.now.methods = omega
    (arith, c.loop-method-test.true, ap length c.as_slice-method-items.ensures) in
    let e : c.method-item.result ≡ get_or c.args.program.now.methods c.loop-method.method-index c.method-item.result =
    c.method-item.is ∙ ap (λ (xs : List Method). get_or xs c.loop-method.method-index c.method-item.result)
    c.as_slice-method-items.ensures in
    let never = rw c.in-None.is at c.in_ok-found.ensures in
    refusal_named (program_of c.args.program.now) c.loop-method.method-index c.len.result c.loop-method.methods c.method-item.result
    c.no_typing.result c.loop-method.invariant c.len.ensures
    (method_there (program_of c.args.program.now) c.loop-method.method-index c.method-item.result l e) never c.no_typing.ensures

pub loop-method-preserved : goal.loop-method-preserved
loop-method-preserved c =
    let l : c.loop-method.method-index < length c.args.program.now.methods = omega
    (arith, c.loop-method-test.true, ap length c.as_slice-method-items.ensures) in
    let e : c.method-item.result ≡ get_or c.args.program.now.methods c.loop-method.method-index c.method-item.result =
    c.method-item.is ∙ ap (λ (xs : List Method). get_or xs c.loop-method.method-index c.method-item.result)
    c.as_slice-method-items.ensures in
    let t = rw c.in-Some.is at c.in_ok-found.ensures in
    pushed_typed (program_of c.args.program.now) c.loop-method.method-index c.loop-method.methods c.push.new.self
    c.method-item.result c.in-Some.types c.loop-method.invariant
    (method_there (program_of c.args.program.now) c.loop-method.method-index c.method-item.result l e) t c.in_ok-push-in-Some.ensures.items

pub returns : goal.returns
returns c =
    let e : c.loop-method.method-index ≡ length c.args.program.now.methods = omega
    (arith, c.loop-method-test.false, c.loop-method.auto.method-index-end, ap length c.as_slice-method-items.ensures) in
    record {
      typing = all_typed (program_of c.args.program.now) c.loop-method.method-index c.loop-method.methods e
          c.loop-method.invariant;
      fault = tt;
    }
