use Rattle.std.proofs.Common.{◌∙◌, sym, refl}
use Rattle.term_graph.specs.declared.nodes.By.TheVariants.{Todo}
use Rattle.graph_build.proofs.Climbing.{found_there, found_nowhere}
use Rattle.graph_build.proofs.Finding.{seeks, not_seeking, first_is_due, none_found, nearest_is_due, alone_is_due}
use Rattle.graph_build.proofs.due.next_at.Goals as goal

pub returns-then-not-is_seeking : goal.returns-then-not-is_seeking
returns-then-not-is_seeking g c =
    let rules = g.G.Grower.rules (g.G.Grower.meaning c.args.grower.now) in
    let good = g.G.Grower.good (g.G.Grower.meaning c.args.grower.now) in
    record {
      next = not_seeking rules good c.args.graph.now c.args.parents.now c.args.n c.args.state.now c.requires.sound
          (sym c.is_seeking.ensures ∙ c.if-not-is_seeking.true);
      same = refl;
    }

pub first_found-requires-clause-state : goal.first_found-requires-clause-state
first_found-requires-clause-state g c = c.requires.sound.are_good c.args.n c.args.state.now Todo c.requires.sound.is

pub returns-in-Some : goal.returns-in-Some
returns-in-Some g c =
    let rules = g.G.Grower.rules (g.G.Grower.meaning c.args.grower.now) in
    let good = g.G.Grower.good (g.G.Grower.meaning c.args.grower.now) in
    let seeking = seeks rules good c.args.graph.now c.args.parents.now c.args.n c.args.state.now c.requires.sound
    (sym c.is_seeking.ensures ∙ c.if-not-is_seeking.false) in
    let found = found_there rules c.args.graph.now c.args.state.now c.in_ok-u.field-0 (c.in-Some.u, c.in-Some.map) c.in-Some.is
    c.in_ok-u.ensures.found in
    record {
      next = (
        first_is_due rules good c.args.graph.now c.args.parents.now c.args.n c.args.state.now c.requires.sound c.in-Some.u
            c.in-Some.map seeking found,
        found,
      );
      same = c.first_found.ensures.same;
    }

pub returns-in-Some-nearest_above-clause-next : goal.returns-in-Some-nearest_above-clause-next
returns-in-Some-nearest_above-clause-next g c =
    let rules = g.G.Grower.rules (g.G.Grower.meaning c.args.grower.now) in
    let good = g.G.Grower.good (g.G.Grower.meaning c.args.grower.now) in
    let seeking = seeks rules good c.args.graph.now c.args.parents.now c.args.n c.args.state.now c.requires.sound
    (sym c.is_seeking.ensures ∙ c.if-not-is_seeking.false) in
    let none = none_found rules good c.args.graph.now c.args.parents.now c.args.n c.args.state.now c.requires.sound
    (found_nowhere rules c.args.graph.now c.args.state.now c.in_ok-u.field-0 c.in_default.is c.in_ok-u.ensures.found) in
    nearest_is_due rules good c.args.graph.now c.args.parents.now c.args.n c.args.state.now c.requires.sound
    c.in-Some-nearest_above.u seeking none c.in-Some-nearest_above.ensures

pub returns-in-None-clause-next : goal.returns-in-None-clause-next
returns-in-None-clause-next g c =
    let rules = g.G.Grower.rules (g.G.Grower.meaning c.args.grower.now) in
    let good = g.G.Grower.good (g.G.Grower.meaning c.args.grower.now) in
    let none = none_found rules good c.args.graph.now c.args.parents.now c.args.n c.args.state.now c.requires.sound
    (found_nowhere rules c.args.graph.now c.args.state.now c.in_ok-u.field-0 c.in_default.is c.in_ok-u.ensures.found) in
    alone_is_due rules good c.args.graph.now c.args.parents.now c.args.n c.args.state.now c.requires.sound none c.in-None.ensures
