use Rattle.std.proofs.Common.{arith}
use Rattle.prove_call.specs.Lines.{yes_line}
use Rattle.check_call.specs.Lines.{accepted_line}
use Rattle.its_call.specs.Lines as its
use Rattle.jterm.specs.GenerateLines.{yes_begin}
use Rattle.jterm.proofs.Endings.{unclaimed, unbegun, not_low, headline, headline_of_check, headline_of_generate, headline_of_its}
use Rattle.cert_calls.specs.loop_call.Lines.{no_line}
use Rattle.jterm.proofs.Headlines.{headline_of_throws, headline_of_bound, headline_of_loop, headline_of_migrate}
use Rattle.jterm.proofs.WaysOut.{no_command, with_verdict, stopped}
use Rattle.jterm.proofs.top.jterm.Goals as goal

pub returns-in_default-clause-headline : goal.returns-in_default-clause-headline
returns-in_default-clause-headline g c d cs desc classes prove told claims = absurd
    (unclaimed yes_line g.O.Sink.taken c.args.out.now 4 (omega arith) (λ e. omega arith) claims)

pub returns-in-Ok-clause-headline : goal.returns-in-Ok-clause-headline
returns-in-Ok-clause-headline g c d cs desc classes prove told claims =
    headline g.O.Sink.faults g.O.Sink.taken c.args.out.now _ _ _ _ _ _ _ d cs desc classes c.in-Some.ensures
    c.in-Ok.ensures.answered c.write_out.ensures.written prove told claims

pub returns-in-Err-clause-headline : goal.returns-in-Err-clause-headline
returns-in-Err-clause-headline g c d cs desc classes prove told claims = absurd
    (unclaimed yes_line g.O.Sink.taken c.args.out.now c.report.result (omega arith)
    (λ e. not_low c.in-Err.failure c.report.result _ _ _ c.report.ensures (omega (arith, e))) claims)

pub returns-in_default-clause-headline_of_check : goal.returns-in_default-clause-headline_of_check
returns-in_default-clause-headline_of_check g c cert d cs content desc classes check told claims = absurd
    (unclaimed accepted_line g.O.Sink.taken c.args.out.now 4 (omega arith) (λ e. omega arith) claims)

pub returns-in-Ok-clause-headline_of_check : goal.returns-in-Ok-clause-headline_of_check
returns-in-Ok-clause-headline_of_check g c cert d cs content desc classes check told claims =
    headline_of_check g.O.Sink.faults g.O.Sink.taken c.args.out.now _ _ _ _ _ _ _ cert d cs content desc classes c.in-Some.ensures
    c.in-Ok.ensures.answered c.write_out.ensures.written check told claims

pub returns-in-Err-clause-headline_of_check : goal.returns-in-Err-clause-headline_of_check
returns-in-Err-clause-headline_of_check g c cert d cs content desc classes check told claims = absurd
    (unclaimed accepted_line g.O.Sink.taken c.args.out.now c.report.result (omega arith)
    (λ e. not_low c.in-Err.failure c.report.result _ _ _ c.report.ensures (omega (arith, e))) claims)

pub returns-in_default-clause-headline_of_generate : goal.returns-in_default-clause-headline_of_generate
returns-in_default-clause-headline_of_generate g c n class generate is put = absurd
    (unbegun (yes_begin n) g.O.Sink.taken c.args.out.now (omega arith) put)

pub returns-in-Ok-clause-headline_of_generate : goal.returns-in-Ok-clause-headline_of_generate
returns-in-Ok-clause-headline_of_generate g c n class generate is put =
    headline_of_generate g.O.Sink.faults g.O.Sink.taken c.args.out.now _ _ _ _ _ _ _ n class c.in-Some.ensures
    c.in-Ok.ensures.answered c.write_out.ensures.written generate is put

pub returns-in-Err-clause-headline_of_generate : goal.returns-in-Err-clause-headline_of_generate
returns-in-Err-clause-headline_of_generate g c n class generate is put = absurd
    (unbegun (yes_begin n) g.O.Sink.taken c.args.out.now (omega arith) put)

pub returns-in_default-clause-headline_of_its : goal.returns-in_default-clause-headline_of_its
returns-in_default-clause-headline_of_its g c r text is told claims = absurd
    (unclaimed its.yes_line g.O.Sink.taken c.args.out.now 4 (omega arith) (λ e. omega arith) claims)

pub returns-in-Ok-clause-headline_of_its : goal.returns-in-Ok-clause-headline_of_its
returns-in-Ok-clause-headline_of_its g c r text is told claims =
    headline_of_its g.O.Sink.faults g.O.Sink.taken c.args.out.now _ _ _ _ _ _ _ r text c.in-Some.ensures c.in-Ok.ensures.answered
    c.write_out.ensures.written is told claims

pub returns-in-Err-clause-headline_of_its : goal.returns-in-Err-clause-headline_of_its
returns-in-Err-clause-headline_of_its g c r text is told claims = absurd
    (unclaimed its.yes_line g.O.Sink.taken c.args.out.now c.report.result (omega arith)
    (λ e. not_low c.in-Err.failure c.report.result _ _ _ c.report.ensures (omega (arith, e))) claims)

pub returns-in_default-clause-headline_of_throws : goal.returns-in_default-clause-headline_of_throws
returns-in_default-clause-headline_of_throws g c cert d cs content desc classes is told none = absurd (omega (arith, none))

pub returns-in-Ok-clause-headline_of_throws : goal.returns-in-Ok-clause-headline_of_throws
returns-in-Ok-clause-headline_of_throws g c cert d cs content desc classes is told none =
    headline_of_throws g.O.Sink.faults g.O.Sink.taken c.args.out.now _ _ _ _ _ _ _ cert d cs content desc classes c.in-Some.ensures
    c.in-Ok.ensures.answered c.write_out.ensures.written is told none

pub returns-in-Err-clause-headline_of_throws : goal.returns-in-Err-clause-headline_of_throws
returns-in-Err-clause-headline_of_throws g c cert d cs content desc classes is told none = absurd
    (not_low c.in-Err.failure c.report.result _ _ _ c.report.ensures (omega (arith, none)))

pub returns-in_default-clause-headline_of_bound : goal.returns-in_default-clause-headline_of_bound
returns-in_default-clause-headline_of_bound g c bound cert d cs text content desc classes is told none = absurd (omega (arith, none))

pub returns-in-Ok-clause-headline_of_bound : goal.returns-in-Ok-clause-headline_of_bound
returns-in-Ok-clause-headline_of_bound g c bound cert d cs text content desc classes is told none =
    headline_of_bound g.O.Sink.faults g.O.Sink.taken c.args.out.now _ _ _ _ _ _ _ bound cert d cs text content desc classes c.in-Some.ensures
    c.in-Ok.ensures.answered c.write_out.ensures.written is told none

pub returns-in-Err-clause-headline_of_bound : goal.returns-in-Err-clause-headline_of_bound
returns-in-Err-clause-headline_of_bound g c bound cert d cs text content desc classes is told none = absurd
    (not_low c.in-Err.failure c.report.result _ _ _ c.report.ensures (omega (arith, none)))

pub returns-in_default-clause-headline_of_loop : goal.returns-in_default-clause-headline_of_loop
returns-in_default-clause-headline_of_loop g c cert s d cs content state desc classes is told claims = absurd
    (unclaimed no_line g.O.Sink.taken c.args.out.now 4 (omega arith) (λ e. omega arith) claims)

pub returns-in-Ok-clause-headline_of_loop : goal.returns-in-Ok-clause-headline_of_loop
returns-in-Ok-clause-headline_of_loop g c cert s d cs content state desc classes is told claims =
    headline_of_loop g.O.Sink.faults g.O.Sink.taken c.args.out.now _ _ _ _ _ _ _ cert s d cs content state desc classes c.in-Some.ensures
    c.in-Ok.ensures.answered c.write_out.ensures.written is told claims

pub returns-in-Err-clause-headline_of_loop : goal.returns-in-Err-clause-headline_of_loop
returns-in-Err-clause-headline_of_loop g c cert s d cs content state desc classes is told claims = absurd
    (unclaimed no_line g.O.Sink.taken c.args.out.now c.report.result (omega arith)
    (λ e. not_low c.in-Err.failure c.report.result _ _ _ c.report.ensures (omega (arith, e))) claims)

pub returns-in_default-clause-headline_of_migrate : goal.returns-in_default-clause-headline_of_migrate
returns-in_default-clause-headline_of_migrate g c cert d cs content desc classes is told none = absurd (omega (arith, none))

pub returns-in-Ok-clause-headline_of_migrate : goal.returns-in-Ok-clause-headline_of_migrate
returns-in-Ok-clause-headline_of_migrate g c cert d cs content desc classes is told none =
    headline_of_migrate g.O.Sink.faults g.O.Sink.taken c.args.out.now _ _ _ _ _ _ _ cert d cs content desc classes c.in-Some.ensures
    c.in-Ok.ensures.answered c.write_out.ensures.written is told none

pub returns-in-Err-clause-headline_of_migrate : goal.returns-in-Err-clause-headline_of_migrate
returns-in-Err-clause-headline_of_migrate g c cert d cs content desc classes is told none = absurd
    (not_low c.in-Err.failure c.report.result _ _ _ c.report.ensures (omega (arith, none)))

pub returns-in_default-clause-ends : goal.returns-in_default-clause-ends
returns-in_default-clause-ends g c =
    no_command
    (record {
      held = g.F.Files.held;
      faults = g.F.Files.faults;
      leaves = g.F.Files.leaves;
      out_faults = g.O.Sink.faults;
      out_taken = g.O.Sink.taken;
      err_faults = g.E.Sink.faults;
      err_taken = g.E.Sink.taken;
    })
    _ _ _ _ _ c.in_default.ensures c.usage_text.ensures c.put_line.ensures

pub returns-in-Ok-clause-ends : goal.returns-in-Ok-clause-ends
returns-in-Ok-clause-ends g c =
    with_verdict
    (record {
      held = g.F.Files.held;
      faults = g.F.Files.faults;
      leaves = g.F.Files.leaves;
      out_faults = g.O.Sink.faults;
      out_taken = g.O.Sink.taken;
      err_faults = g.E.Sink.faults;
      err_taken = g.E.Sink.taken;
    })
    _ _ _ _ _ _ _ _ c.in-Some.ensures c.in-Ok.ensures.answered c.answer.ensures.reads c.write_out.ensures.verdict
    c.write_out.ensures.written c.write_out.ensures.line

pub returns-in-Err-clause-ends : goal.returns-in-Err-clause-ends
returns-in-Err-clause-ends g c =
    stopped
    (record {
      held = g.F.Files.held;
      faults = g.F.Files.faults;
      leaves = g.F.Files.leaves;
      out_faults = g.O.Sink.faults;
      out_taken = g.O.Sink.taken;
      err_faults = g.E.Sink.faults;
      err_taken = g.E.Sink.taken;
    })
    _ _ _ _ _ _ _ c.in-Err.failure c.in-Some.ensures c.in-Err.ensures.cause c.answer.ensures.reads c.report.ensures
