use Rattle.std.proofs.Common.{ℕ, ◌<◌, arith, List, ◌∙◌, ap, sym, subst}
use Rattle.std.specs.List.{list_any}
use Rattle.std.proofs.lemmas.List.{take_all}
use Rattle.abs_cells.specs.declared.cells.Cell.{Cell}
use Rattle.abs_cells.proofs.Checking.{id_is_low}
use Rattle.abs_reach.proofs.Beginning.{begun_none, is_start, starts_are, item_there, item_new, item_room, one_started, none_started}
use Rattle.abs_reach.specs.declared.walk.Found.{Found}
use Rattle.abs_cells.specs.IdSets.{has_id}
use Rattle.abs_reach.specs.inner.Turns.{IsBegun}
use Rattle.abs_reach.proofs.walk.begin_at_all.Goals as goal
use Rattle.abs_reach.proofs.walk.begin_at_all.Goals.{then-has, else-has}

pub loop-id-init : goal.loop-id-init
loop-id-init c = record {
  begun = begun_none c.args.cells.now c.nothing_found-found.result c.args.trail.now.0 c.requires.empty
      c.nothing_found-found.ensures.met c.nothing_found-found.ensures.left c.nothing_found-found.ensures.cyclic
      c.nothing_found-found.ensures.twice;
  met = c.nothing_found-found.ensures.met;
  space = c.requires.room;
}

pub begin_at-requires-clause-low : goal.begin_at-requires-clause-low
begin_at-requires-clause-low c = subst (λ (x : ℕ × Cell). x.0 < 2048) (sym c.loop-id-item.is)
    (id_is_low 0 c.args.cells.now c.loop-id.id-index c.loop-id-item.result c.requires.rising c.loop-id-test.true)

pub begin_at-requires-clause-fresh : goal.begin_at-requires-clause-fresh
begin_at-requires-clause-fresh c = item_new c.args.cells.now c.args.starts.now c.loop-id.id-index c.loop-id-item.result
    c.requires.rising c.loop-id-test.true c.loop-id-item.is c.loop-id.found.met c.loop-id.invariant.met

pub begin_at-requires-clause-room : goal.begin_at-requires-clause-room
begin_at-requires-clause-room c = item_room c.args.cells.now c.args.starts.now c.loop-id.id-index c.loop-id-item.result
    c.requires.rising c.loop-id-test.true c.loop-id-item.is c.loop-id.found c.loop-id.trail.0 c.loop-id.trail.1
    c.loop-id.invariant.begun c.loop-id.invariant.space
    (item_new c.args.cells.now c.args.starts.now c.loop-id.id-index c.loop-id-item.result c.requires.rising c.loop-id-test.true
    c.loop-id-item.is c.loop-id.found.met c.loop-id.invariant.met)

pub begin_at-requires-clause-there : goal.begin_at-requires-clause-there
begin_at-requires-clause-there c = item_there c.args.cells.now c.args.starts.now c.loop-id.id-index c.loop-id-item.result
    c.requires.rising c.loop-id-test.true c.loop-id-item.is

pub begin_at-requires-clause-begun : goal.begin_at-requires-clause-begun
begin_at-requires-clause-begun c = c.loop-id.invariant.begun

pub loop-id-preserved : goal.loop-id-preserved
loop-id-preserved c = elim c.if-has.branch [
  | then-has w ↦ record {
    begun = subst (λ (f : Found). IsBegun c.args.cells.now f c.if-has.trail.0) (sym w.found-is)
        (subst (λ (t : List (ℕ × ℕ) × ℕ). IsBegun c.args.cells.now w.begin_at.new.found t.0) (sym w.trail-is) w.begin_at.ensures.begun);
    met = λ n. ap (λ (f : Found). has_id f.met n) w.found-is ∙ one_started c.args.starts.now c.args.cells.now c.loop-id.id-index
        c.loop-id-item.result c.loop-id-test.true c.loop-id-item.is c.loop-id.found.met c.loop-id.invariant.met
        w.begin_at.new.found.met (sym c.has.ensures ∙ w.if-has.true) w.begin_at.ensures.met n;
    space = let h = ap (λ (t : List (ℕ × ℕ) × ℕ). t.1) w.trail-is in omega (arith, h, w.begin_at.ensures.room, c.loop-id.invariant.space);
  }
  | else-has w ↦ record {
    begun = subst (λ (f : Found). IsBegun c.args.cells.now f c.if-has.trail.0) (sym w.found-is)
        (subst (λ (t : List (ℕ × ℕ) × ℕ). IsBegun c.args.cells.now c.loop-id.found t.0) (sym w.trail-is) c.loop-id.invariant.begun);
    met = λ n. ap (λ (f : Found). has_id f.met n) w.found-is ∙ none_started c.args.starts.now c.args.cells.now c.loop-id.id-index
        c.loop-id-item.result c.loop-id-test.true c.loop-id-item.is c.loop-id.found.met c.loop-id.invariant.met
        (sym c.has.ensures ∙ w.if-has.false) n;
    space = let h = ap (λ (t : List (ℕ × ℕ) × ℕ). t.1) w.trail-is in omega (arith, h, c.loop-id.invariant.space);
  }
]

pub returns-clause-met : goal.returns-clause-met
returns-clause-met c n =
    let whole = take_all c.loop-id.id-index c.args.cells.now c.loop-id-test.false in
    c.loop-id.invariant.met n ∙ ap (λ (xs : List (ℕ × Cell)). list_any (is_start c.args.starts.now n) xs) whole
    ∙ starts_are c.args.starts.now n c.args.cells.now
