use Rattle.std.proofs.Common.{◌∙◌, List, ℕ, refl, sym, subst}
use Rattle.std.proofs.lemmas.Bool.{false≢true}
use Rattle.abs_cells.specs.declared.cells.Cell.{Cell}
use Rattle.abs_cells.specs.Sound.{AreIdsRising}
use Rattle.abs_reach.specs.Instances.{whole_map}
use Rattle.abs_match.proofs.Partners.{keys_rise}
use Rattle.abs_match.proofs.Testing.{lists_to, lists_from, fails_whole, map_tested_of}
use Rattle.abs_match.proofs.matching.map_fault.Goals as goal

pub least_unmapped-requires-clause-keys : goal.least_unmapped-requires-clause-keys
least_unmapped-requires-clause-keys g c = let l = c.lists_ids.ensures.0 c.if-not-lists_ids.false in keys_rise c.args.entries.now
    c.cells.result.now 0 l.0 l.1

pub least_unmapped-requires-clause-rising : goal.least_unmapped-requires-clause-rising
least_unmapped-requires-clause-rising g c = subst (λ (cs : List (ℕ × Cell)). AreIdsRising 0 cs) (sym c.cells-2.ensures) c.requires.rising

pub returns-then-not-lists_ids : goal.returns-then-not-lists_ids
returns-then-not-lists_ids g c sub = fails_whole sub c.args.state.now c.args.target.now c.args.entries.now whole_map 0
    (λ l. false≢true (sym c.if-not-lists_ids.true
    ∙ c.lists_ids.ensures.1 (lists_from c.args.target.now c.args.entries.now c.cells.result.now c.cells.ensures l))) refl

pub returns : goal.returns
returns g c sub = map_tested_of sub c.args.state.now c.args.target.now c.args.entries.now c.cells-2.result.now
    c.least_unmapped.result c.cells-2.ensures (lists_to c.args.target.now c.args.entries.now c.cells.result.now c.cells.ensures
    (c.lists_ids.ensures.0 c.if-not-lists_ids.false)) c.least_unmapped.ensures
