use Rattle.std.proofs.Common.{cond, Some, None, refl, ap, sym, ◌∙◌, length, arith}
use Rattle.class_world.specs.World.{super_of, line_of, line_from}
use Rattle.class_world.specs.Resolve.{is_initialised}
use Rattle.class_world.proofs.Chain.{where_true, find_by, starts, goes_on, comes_to, stops, ends}
use Rattle.class_world.proofs.world.World.first_initialised.Goals as goal

pub loop-init : goal.loop-init
loop-init c =
    let classes = c.args.self.now.roster.classes in
    starts (super_of classes) (where_true (is_initialised classes)) _ (length classes) c.args.class refl

pub loop-preserved : goal.loop-preserved
loop-preserved c =
    let classes = c.args.self.now.roster.classes in
    goes_on (super_of classes) (where_true (is_initialised classes)) _ (length classes) c.loop.counter c.in_ok-here.here c.loop.next
    _ (omega (arith, c.len-end.ensures, c.loop-test.true)) c.loop.invariant c.in_ok-here.was
    (ap (λ b. cond b (Some c.in_ok-here.here) None) (sym c.is_initialised.ensures ∙ c.if-is_initialised.false)) c.super_of-next.ensures

pub returns-in_err-here : goal.returns-in_err-here
unfolding line_of
returns-in_err-here c =
    let classes = c.args.self.now.roster.classes in
    let super = super_of classes in
    let g = where_true (is_initialised classes) in
    c.from_residual.ensures ∙ stops super g _ _ c.loop.next c.loop.invariant c.in_err-here.was
    ∙ sym (find_by (is_initialised classes) (line_from super (length classes) c.args.class))

pub returns-then-is_initialised : goal.returns-then-is_initialised
unfolding line_of
returns-then-is_initialised c =
    let classes = c.args.self.now.roster.classes in
    let super = super_of classes in
    let g = where_true (is_initialised classes) in
    comes_to super g _ (length classes) c.loop.counter c.in_ok-here.here c.loop.next _ c.in_ok-here.here
    (omega (arith, c.len-end.ensures, c.loop-test.true)) c.loop.invariant c.in_ok-here.was
    (ap (λ b. cond b (Some c.in_ok-here.here) None) (sym c.is_initialised.ensures ∙ c.if-is_initialised.true)) refl
    ∙ sym (find_by (is_initialised classes) (line_from super (length classes) c.args.class))

pub returns : goal.returns
unfolding line_of
returns c =
    let classes = c.args.self.now.roster.classes in
    let super = super_of classes in
    let g = where_true (is_initialised classes) in
    ends super g _ (length classes) c.loop.counter c.loop.next (omega (arith, c.len-end.ensures, c.loop-test.false))
    c.loop.invariant ∙ sym (find_by (is_initialised classes) (line_from super (length classes) c.args.class))
