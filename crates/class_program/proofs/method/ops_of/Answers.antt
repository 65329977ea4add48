use Rattle.std.proofs.Common.{◌≡◌, ◌++◌, ◌∷◌, [], length, Ok, sym, ap, ◌∙◌, append_assoc, append-nil, arith}
use Rattle.std.specs.Vec.Iter.{into_iter_items}
use Rattle.std.proofs.lemmas.List.{nil_from_length}
use Rattle.class_world.specs.Worlds.{classes_of}
use Rattle.class_program.specs.Said.{each}
use Rattle.class_program.specs.Methods.{op_said, ops_of}
use Rattle.class_program.proofs.Saying.{answered, first_broken}
use Rattle.class_program.proofs.InWidth.{ops_wide, one_more_constant}
use Rattle.list_views.proofs.Steps.{each_more}
use Rattle.class_program.proofs.method.ops_of.Goals as goal

pub returns-in_err-op_said-clause-ops : goal.returns-in_err-op_said-clause-ops
unfolding ops_of
returns-in_err-op_said-clause-ops c =
    let at = c.loop-insn in
    let x = c.in-Some.insn in
    let steps : into_iter_items at.insn-iterator ≡ x ∷ into_iter_items c.next.new.self = c.in-Some.ensures.steps.0 in
    answered _ _ _ _ c.from_residual-in_err-op_said.ensures.1
    (first_broken (op_said (classes_of c.args.world.now) c.args.class c.args.name.now) c.args.insns.items at.yielded
    (into_iter_items c.next.new.self) x at.ops _
    (sym c.into_iter-insn-iterator.ensures.into_iter_gives.0 ∙ sym at.invariant.0 ∙ ap (λ ys. at.yielded ++ ys) steps)
    at.invariant.1 c.in_err-op_said.ensures.op)

pub loop-insn-preserved : goal.loop-insn-preserved
loop-insn-preserved c =
    let at = c.loop-insn in
    let x = c.in-Some.insn in
    let steps : into_iter_items at.insn-iterator ≡ x ∷ into_iter_items c.next.new.self = c.in-Some.ensures.steps.0 in (
      append_assoc at.yielded (x ∷ []) _ ∙ rw (← steps) at.invariant.0,
      each_more (op_said (classes_of c.args.world.now) c.args.class c.args.name.now) at.yielded x at.ops _ at.invariant.1
          c.in_ok-op_said.ensures.op ∙ ap Ok (sym c.in_ok-push.ensures.items),
      let was = at.invariant.2 in
          let gone = c.in-Some.ensures.steps.1 in
          let short = ap length steps in
          omega arith,
      one_more_constant at.ops _ _ c.in_ok-push.ensures.items at.invariant.3 c.in_ok-op_said.ensures.width,
      c.in_ok-op_said.ensures.rows,
    )

pub returns-clause-ops : goal.returns-clause-ops
unfolding ops_of
returns-clause-ops c =
    let at = c.loop-insn in
    let none = c.in-None.ensures.steps in
    let empty : into_iter_items at.insn-iterator ≡ [] = nil_from_length _ (sym at.invariant.2 ∙ none.0) in
    let all = sym (append-nil at.yielded) ∙ rw empty at at.invariant.0 ∙ c.into_iter-insn-iterator.ensures.into_iter_gives.0 in
    ap (each (op_said (classes_of c.args.world.now) c.args.class c.args.name.now)) (sym all) ∙ at.invariant.1

pub returns-clause-widths : goal.returns-clause-widths
unfolding ops_of
returns-clause-widths c =
    let at = c.loop-insn in
    let none = c.in-None.ensures.steps in
    let empty : into_iter_items at.insn-iterator ≡ [] = nil_from_length _ (sym at.invariant.2 ∙ none.0) in
    let all = sym (append-nil at.yielded) ∙ rw empty at at.invariant.0 ∙ c.into_iter-insn-iterator.ensures.into_iter_gives.0 in
    let said = ap (each (op_said (classes_of c.args.world.now) c.args.class c.args.name.now)) (sym all) ∙ at.invariant.1 in
    ops_wide (classes_of c.args.world.now) c.args.class c.args.name.now c.args.insns.items at.ops said c.requires.code.fits at.invariant.3
