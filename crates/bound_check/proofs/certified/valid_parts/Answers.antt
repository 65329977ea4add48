use Rattle.std.proofs.Common.{◌≡◌, ◌∙◌, List, length, None, Ok, Err, sym, ap, subst}
use Rattle.class_program.specs.Views.{program_of}
use Rattle.code_verify.specs.Typings.{typing_at}
use Rattle.descent.specs.declared.rules.PathRule.{PathRule}
use Rattle.descent.specs.Conditions.{AreRules}
use Rattle.descent.specs.Steps.{proof_fault, Refuses as ProofRefuses}
use Rattle.term_graph.specs.Graphs.{GraphNode}
use Rattle.cert_check.specs.graph_check.Good.{GraphOk}
use Rattle.cert_check.specs.Valid.{Tells}
use Rattle.cert_check.specs.Parts.{case_of, RulesOr}
use Rattle.cert_check.proofs.Telling.{proof_refused}
use Rattle.bound_check.proofs.certified.valid_parts.Goals as goal

pub returns-in-Err-clause-parts : goal.returns-in-Err-clause-parts
returns-in-Err-clause-parts g c = c.in-Err.ensures.graph c.args.cuts.now c.args.proof.now.steps

pub rules_between-requires-clause-graph : goal.rules_between-requires-clause-graph
rules_between-requires-clause-graph g c =
    subst (λ (ns : List GraphNode). GraphOk (program_of c.args.program.now) (typing_at c.args.typing.now) ns c.args.root.now
    c.in-Ok.links.nodes) (sym c.in-Ok.ensures.same) (c.in-Ok.ensures.graph c.args.cuts.now c.args.proof.now.steps)

pub returns-in-Err-rules_between-clause-parts : goal.returns-in-Err-rules_between-clause-parts
returns-in-Err-rules_between-clause-parts g c =
    subst (λ (ns : List GraphNode). Tells (case_of (program_of c.args.program.now) (typing_at c.args.typing.now) c.args.root.now ns
    c.args.cuts.now c.args.proof.now.steps) (Err c.in-Err-rules_between.refusal)) c.in-Ok.ensures.same
    (c.in-Err-rules_between.ensures.rules c.args.proof.now.steps)

pub check_proof-requires-clause-rules : goal.check_proof-requires-clause-rules
check_proof-requires-clause-rules g c = subst (λ (rs : List PathRule). AreRules rs) (sym c.as_slice.ensures)
    c.in-Ok-rules_between.ensures.fit

pub returns-in-Ok-check_proof-clause-parts : goal.returns-in-Ok-check_proof-clause-parts
returns-in-Ok-check_proof-clause-parts g c =
    let p = program_of c.args.program.now in
    let typing = typing_at c.args.typing.now in
    let cuts = c.args.cuts.now in
    let steps = c.args.proof.now.steps in (
      c.in-Ok.ensures.graph cuts steps,
      (
        subst (λ (ns : List GraphNode). RulesOr (case_of p typing c.args.root.now ns cuts steps) c.in-Ok.links.nodes
            (Ok c.in-Ok-rules_between.rules)) c.in-Ok.ensures.same (c.in-Ok-rules_between.ensures.rules steps),
        subst (λ (rs : List PathRule). proof_fault rs steps ≡ None) c.as_slice.ensures c.in-Ok-check_proof.ensures.answer,
      ),
    )

pub returns-in-Err-check_proof-clause-parts : goal.returns-in-Err-check_proof-clause-parts
returns-in-Err-check_proof-clause-parts g c =
    let p = program_of c.args.program.now in
    let typing = typing_at c.args.typing.now in
    let nodes = g.S.NodeSource.graph c.args.source.now in
    let cuts = c.args.cuts.now in
    let steps = c.args.proof.now.steps in
    proof_refused p typing c.args.root.now nodes c.in-Ok.links.nodes cuts c.count-nodes.result (c.in-Ok.ensures.graph cuts steps)
    (c.count-nodes.ensures ∙ ap (λ (ns : List GraphNode). length ns) (c.in-Ok-rules_between.ensures.same ∙ c.in-Ok.ensures.same))
    steps c.in-Ok-rules_between.rules c.in-Err-check_proof.fault _
    (subst (λ (ns : List GraphNode). RulesOr (case_of p typing c.args.root.now ns cuts steps) c.in-Ok.links.nodes
    (Ok c.in-Ok-rules_between.rules)) c.in-Ok.ensures.same (c.in-Ok-rules_between.ensures.rules steps))
    (subst (λ (rs : List PathRule). ProofRefuses (Err c.in-Err-check_proof.fault) (proof_fault rs steps)) c.as_slice.ensures
    c.in-Err-check_proof.ensures.answer) c.proof_refusal.ensures
