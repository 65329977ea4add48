use Rattle.std.proofs.Common.{ap, ◌∙◌, sym, Some}
use Rattle.class_world.specs.declared.fault.LinkFault.TheVariants.{DuplicateClass}
use Rattle.class_world.proofs.Rules.{enrol_more, enrol_stop, enrol_end, broken_never}
use Rattle.class_world.specs.Linking.{duplicate_class}
use Rattle.class_world.proofs.named.names_of.Goals as goal

pub returns-then-not-branch-clause-fault : goal.returns-then-not-branch-clause-fault
returns-then-not-branch-clause-fault c =
    enrol_stop c.args.classes.now c.loop-class.class c.index-classes-class.result c.view.inside.name.now c.loop-class.names
    c.in_ok-put_name.field-0 c.loop-class-test.true c.index-classes-class.is (ap (λ x. x.name) c.view.view_is)
    c.loop-class.invariant.names c.loop-class.invariant.kept c.in_ok-put_name.ensures.taken c.if-not-branch.true
    ∙ ap (λ x. Some (DuplicateClass x)) (sym c.in_ok-from_slice.ensures)

pub loop-class-preserved : goal.loop-class-preserved
loop-class-preserved c =
    let both = enrol_more c.args.classes.now c.loop-class.class c.index-classes-class.result c.view.inside.name.now
    c.loop-class.names c.put_name.new.names c.in_ok-put_name.field-0 c.loop-class-test.true c.index-classes-class.is
    (ap (λ x. x.name) c.view.view_is) c.loop-class.invariant.names c.loop-class.invariant.kept c.in_ok-put_name.ensures.names
    c.in_ok-put_name.ensures.taken c.if-not-branch.false in
    record { names = both.0; kept = both.1 }

pub returns-clause-fault : goal.returns-clause-fault
returns-clause-fault c = broken_never (duplicate_class c.args.classes.now) c.args.classes.now c.loop-class.class
    c.loop-class-test.false c.loop-class.invariant.kept

pub returns-clause-names : goal.returns-clause-names
returns-clause-names c = enrol_end c.args.classes.now c.loop-class.class c.loop-class.names c.loop-class-test.false
    c.loop-class.invariant.names
