use Rattle.std.proofs.Common.{◌++◌, ◌-◌, ◌+◌, length, [], ap, ◌∙◌, arith}
use Rattle.std.specs.Option.{option_map_or}
use Rattle.class_world.specs.World.{super_of, line_of, line_from}
use Rattle.class_world.proofs.FieldLemmas.{line_start, line_more, line_over, line_end}
use Rattle.class_world.proofs.roster.Roster.line_of.Goals as goal
use Rattle.class_world.proofs.roster.Roster.line_of.Goals.{in-Some+in_ok-push, in_default}

pub loop-init : goal.loop-init
loop-init c = line_start (super_of c.args.self.now.classes) c.new-line.result (length c.args.self.now.classes) c.args.class
    c.new-line.ensures

pub loop-preserved : goal.loop-preserved
loop-preserved c =
    let super = super_of c.args.self.now.classes in
    let n = length c.args.self.now.classes in
    elim c.match-next.branch [
      | in-Some+in_ok-push w ↦ line_more super c.loop.line c.match-next.line _ n c.loop.counter w.in-Some.here c.loop.next
          c.match-next.next (omega (arith, c.len-end.ensures, c.loop-test.true)) c.loop.invariant w.in-Some.is
          (w.line-is ∙ w.in_ok-push.ensures.items) (w.next-is ∙ w.super_of-next.ensures)
      | in_default w ↦ ap (λ xs. xs ++ option_map_or (line_from super (n - (c.loop.counter + 1))) c.match-next.next []) w.line-is
          ∙ ap (λ o. c.loop.line ++ option_map_or (line_from super (n - (c.loop.counter + 1))) o []) w.next-is
          ∙ line_over super c.loop.line _ _ _ c.loop.next c.loop.invariant w.in_default.is
    ]

pub returns : goal.returns
unfolding line_of
returns c = line_end (super_of c.args.self.now.classes) c.loop.line _ (length c.args.self.now.classes) c.loop.counter c.loop.next
    (omega (arith, c.len-end.ensures, c.loop-test.false)) c.loop.invariant
