use Rattle.std.proofs.Common.{◌-◌, Some, Vec, Global, ap, ◌∙◌}
use Rattle.term_enc.specs.declared.terms.PatternTerm.{PatternTerm}
use Rattle.term_enc.specs.inner.Counting.{pattern_in}
use Rattle.term_enc.proofs.Built.{int_more, one_more, built_node}
use Rattle.term_enc.proofs.building.+pattern.Goals as goal
use Rattle.term_enc.proofs.building.+pattern.Goals.{in-Some-2+in_ok-push-in-Obj, in_default}

pub loop-child-preserved : goal.loop-child-preserved
loop-child-preserved t c =
    elim c.match-branch-2.branch [
      | in-Some-2+in_ok-push-in-Obj w ↦ one_more (pattern_in (c.args.depth - 1) c.args.cells.now) c.as_slice-child-items.result.now
          c.loop-child.children.items
          c.loop-child.child-index 0 c.loop-child-test.true w.in-Some-2.term c.match-branch-2.children.items
          (ap (λ (v : Vec PatternTerm Global). v.items) w.children-is ∙ w.in_ok-push-in-Obj.ensures.items)
          c.in_ok-term-in-Obj.field-0 w.in-Some-2.is
          c.in_ok-term-in-Obj.ensures c.loop-child.invariant
      | in_default w ↦ int_more (pattern_in (c.args.depth - 1) c.args.cells.now) c.as_slice-child-items.result.now
          c.loop-child.children.items
          c.loop-child.child-index 0 c.loop-child-test.true c.match-branch-2.children.items
          (ap (λ (v : Vec PatternTerm Global). v.items) w.children-is)
          c.in_ok-term-in-Obj.field-0 w.in_default.is c.in_ok-term-in-Obj.ensures c.loop-child.invariant
    ]

pub returns-after-loop-child : goal.returns-after-loop-child
returns-after-loop-child t c = λ given h. built_node c.args.depth c.args.cells.now c.args.id c.in-Obj.class c.in-Obj.ids
    c.as_slice-child-items.result.now
    c.loop-child.child-index c.loop-child.children given (c.in-Some.ensures ∙ ap Some c.in-Obj.is) c.as_slice-child-items.ensures
    c.loop-child-test.false
    c.loop-child.invariant h
