use Rattle.std.proofs.Common.{◌≡◌, ◌∙◌, ◌++◌, ℕ, List, sym, subst, ap}
use Rattle.std.specs.Prelude.{All}
use Rattle.std.specs.List.{AllZip}
use Rattle.jvm_heaps.specs.Regions.{RiseFrom}
use Rattle.class_world.specs.Worlds.{classes_of}
use Rattle.class_world.specs.WorldTypes.{types_of}
use Rattle.input_desc.specs.declared.desc.Input.{Input}
use Rattle.input_desc.specs.Fitting.{FitsInput}
use Rattle.input_fits.specs.inner.Words.{NameOne, AreListed}
use Rattle.input_fits.proofs.Sharing.{regions_rise}
use Rattle.input_fits.proofs.Told.{together_told}
use Rattle.input_fits.proofs.given.fit_together.Goals as goal

pub are_shared_listed-requires : goal.are_shared_listed-requires
are_shared_listed-requires c = subst (λ (ls : List (List ℕ)). All (RiseFrom 0) ls) (sym c.as_slice-3.ensures)
    (regions_rise c.args.heap.now c.args.values.now c.in_ok-found.found c.in_ok-found.ensures)

pub returns : goal.returns
returns c =
    let types = types_of (classes_of c.args.world.now) in
    let same = c.as_slice-same.ensures in
    let both : c.in_ok-listed.listed ≡ c.args.desc.now.same ++ c.args.desc.now.share =
    c.in_ok-listed.ensures
    ∙ (ap (λ (ps : List (ℕ × ℕ)). ps ++ c.as_slice-2.result.now) same
    ∙ ap (λ (ps : List (ℕ × ℕ)). c.args.desc.now.same ++ ps) c.as_slice-2.ensures) in
    together_told types c.args.desc.now c.args.heap.now c.args.values.now c.in_ok-found.found c.as_slice-3.result.now
    c.as_slice-4.result.now c.are_shared_listed.result c.as_slice-3.ensures (c.as_slice-4.ensures ∙ both) c.in_ok-found.ensures
    (subst (λ (is : List Input). AllZip (FitsInput types c.args.heap.now) is c.args.values.now) c.as_slice.ensures
    (c.in_ok-each.ensures.0 c.if-not-each.false))
    (subst (λ (ps : List (ℕ × ℕ)). AreListed NameOne c.args.values.now ps) same
    (c.are_same_listed.ensures.0 c.if-not-are_same_listed.false)) c.are_shared_listed.ensures
