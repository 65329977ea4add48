use Rattle.std.proofs.Common.{◌≡◌, length, refl, arith}
use Rattle.std.proofs.lemmas.List.{nil_from_length}
use Rattle.class_world.proofs.Gathering.{gathering_start, gathering_within, gathering_skips, gathering_enters, gathering_less, gathered}
use Rattle.class_world.proofs.roster.Roster.sought_in.Goals as goal

pub loop-interface-init : goal.loop-interface-init
loop-interface-init c = gathering_start c.args.self.now.classes c.args.class _ _ _ _ c.requires
    (c.in_ok-seen.ensures.items_if_clones_equal (λ y e. e)) c.len.ensures c.in_ok-todo.ensures c.new-found.ensures

pub index-requires : goal.index-requires
index-requires c =
    let w = gathering_within c.args.self.now.classes c.args.class _ _ _ _ c.in-Some.interface c.loop-interface.invariant
    c.in-Some.ensures.items in
    omega (arith, c.loop-interface.seen.ok.0, w.0, w.1)

pub index_mut-requires : goal.index_mut-requires
index_mut-requires c =
    let w = gathering_within c.args.self.now.classes c.args.class _ _ _ _ c.in-Some.interface c.loop-interface.invariant
    c.in-Some.ensures.items in
    omega (arith, c.loop-interface.seen.ok.0, w.0, w.1)

pub loop-interface-smaller-in-Continue-branch-4 : goal.loop-interface-smaller-in-Continue-branch-4
loop-interface-smaller-in-Continue-branch-4 c =
    gathering_less c.args.self.now.classes c.args.class c.loop-interface.seen.items c.loop-interface.todo.items c.pop.new.self.items
    c.put_interfaces.new.todo.items c.loop-interface.found c.in-Some.interface _ _
    c.loop-interface.invariant c.in-Some.ensures.items c.index.ensures c.if-not-index.true c.in_ok-put_interfaces.ensures

pub loop-interface-preserved-in-Continue-branch-4 : goal.loop-interface-preserved-in-Continue-branch-4
loop-interface-preserved-in-Continue-branch-4 c =
    gathering_enters c.args.self.now.classes c.args.class c.loop-interface.seen.items c.loop-interface.todo.items
    c.pop.new.self.items c.in-Some.interface c.requires c.in-Some.ensures.items
    _ c.put_interfaces.new.todo.items c.loop-interface.found _ c.loop-interface.invariant refl c.in_ok-put_interfaces.ensures
    c.in_ok-push.ensures.items

pub loop-interface-preserved : goal.loop-interface-preserved
loop-interface-preserved c =
    gathering_skips c.args.self.now.classes c.args.class c.loop-interface.seen.items c.loop-interface.todo.items
    c.pop.new.self.items c.in-Some.interface c.requires c.in-Some.ensures.items
    c.loop-interface.found _ _ c.loop-interface.invariant c.index.ensures c.if-not-index.false

pub returns : goal.returns
returns c =
    let none : length c.loop-interface.todo.items ≡ 0 = omega (arith, c.loop-interface.todo.ok.0, (c.in_default.ensures.cases).0) in
    gathered c.args.self.now.classes c.args.class c.loop-interface.seen.items c.loop-interface.todo.items c.loop-interface.found
    c.requires c.loop-interface.invariant (nil_from_length _ none)
