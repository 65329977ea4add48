use Rattle.std.proofs.Common.{List, sym, subst}
use Rattle.class_program.specs.Views.{program_of}
use Rattle.code_verify.specs.Typings.{typing_at}
use Rattle.descent.specs.declared.rules.PathRule.{PathRule}
use Rattle.descent.specs.Conditions.{AreRules}
use Rattle.bound_check.proofs.Told.{root_good, told_by, all_bounded}
use Rattle.bound_check.proofs.certified.checked_bound.Goals as goal

pub of_bytes-requires-clause-root : goal.of_bytes-requires-clause-root
of_bytes-requires-clause-root g c = root_good (program_of c.args.program.now) (typing_at c.args.typing.now)
    (g.S.NodeSource.graph c.args.source.now) c.args.root.now c.in-Ok.links.nodes c.in-Ok.ensures.parts.0

pub of_bytes-requires-clause-rules : goal.of_bytes-requires-clause-rules
of_bytes-requires-clause-rules g c = subst (λ (rs : List PathRule). AreRules rs) (sym c.as_slice.ensures) c.in-Ok.ensures.fit

pub returns-in_ok-told-in-Ok-clause-tells : goal.returns-in_ok-told-in-Ok-clause-tells
returns-in_ok-told-in-Ok-clause-tells g c = told_by (program_of c.args.program.now) (typing_at c.args.typing.now) c.args.root.now
    (g.S.NodeSource.graph c.args.source.now) _ c.args.cuts.now c.args.proof.now.steps c.in-Ok.links c.in-Ok.rules
    c.as_slice.result.now c.args.bound.now c.in_ok-told-in-Ok.told c.in-Ok.ensures.same c.as_slice.ensures c.in-Ok.ensures.parts
    c.in_ok-told-in-Ok.ensures.told

pub returns-in_ok-told-in-Ok-clause-ends : goal.returns-in_ok-told-in-Ok-clause-ends
returns-in_ok-told-in-Ok-clause-ends g c =
    all_bounded (program_of c.args.program.now) (typing_at c.args.typing.now) c.args.root.now
    (g.S.NodeSource.graph c.args.source.now) c.args.cuts.now c.args.proof.now.steps c.args.bound.now c.in_ok-told-in-Ok.told
    c.bounds_hold.ensures c.is_good.ensures.closed c.is_good.ensures.widths c.requires.typing c.requires.steps
    (told_by (program_of c.args.program.now) (typing_at c.args.typing.now) c.args.root.now
    (g.S.NodeSource.graph c.args.source.now) _ c.args.cuts.now c.args.proof.now.steps c.in-Ok.links c.in-Ok.rules
    c.as_slice.result.now c.args.bound.now c.in_ok-told-in-Ok.told c.in-Ok.ensures.same c.as_slice.ensures c.in-Ok.ensures.parts
    c.in_ok-told-in-Ok.ensures.told)
