use Rattle.std.proofs.Common.{◌∙◌, sym}
use Rattle.class_base.proofs.Turns.{with_type, all_types, ends, goes, fails, empty, out}
use Rattle.class_base.proofs.methods.types_at.Goals as goal

pub returns-in_default : goal.returns-in_default
returns-in_default c = sym (all_types _) ∙ empty with_type _ _ _ _ c.in_default.ensures.cases c.turns.invariant

pub returns-then-first-eq41 : goal.returns-then-first-eq41
returns-then-first-eq41 c = sym (all_types _) ∙ ends with_type _ _ _ _ _ _ _ c.turns-test.true c.in-Some.ensures.cases.0
    c.if-first-eq41.true c.turns.invariant

pub returns-in_default-type_at : goal.returns-in_default-type_at
returns-in_default-type_at c = sym (all_types _) ∙ fails with_type _ _ _ _ _ _ _ c.turns-test.true c.in-Some.ensures.cases.0
    c.if-first-eq41.false c.in_default-type_at.ensures c.turns.invariant

pub turns-preserved : goal.turns-preserved
turns-preserved c = goes with_type _ _ _ _ _ _ _ _ _ _ c.turns-test.true c.in-Some.ensures.cases.0 c.if-first-eq41.false
    c.in-Some-type_at.ensures c.in_ok-push.ensures.items c.turns.invariant

pub returns : goal.returns
returns c = sym (all_types _) ∙ out with_type _ _ _ _ _ c.turns-test.false c.turns.invariant
