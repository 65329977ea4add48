-- The nodes of a good graph in memory are within the limits of the text.
use Rattle.std.proofs.Common.{◌≡◌, ◌∙◌, ◌<◌, ◌≤◌, ℕ, suc, Bool, true, false, cond, eqb, List, [], ◌∷◌, ◌++◌, length, map}
use Rattle.std.proofs.Common.{Option, Some, None, refl, sym, ap, subst, arith}
use Rattle.std.specs.List.{AllByRecursion, AllZip, flat_map}
use Rattle.std.proofs.lemmas.Bool.{eqb-true, eq-eqb, ne_eqb}
use Rattle.std.proofs.lemmas.List.Elements.{All-from_recursion, recursion_from_All}
use Rattle.std.proofs.lemmas.Option.{none-some, slice_get_within}
use Rattle.list_views.proofs.Items.{length_mapped}
use Rattle.list_views.proofs.Quantified.{all_front, all_back, all_weaker}
use Rattle.jvm_values.specs.declared.types.Ty.{Ty}
use Rattle.jvm_values.specs.Subtyping.{IsReference}
use Rattle.class_read.specs.Content.{ClassContent}
use Rattle.class_world.specs.WorldTypes.{types_of}
use Rattle.class_program.specs.Programs.{Program}
use Rattle.frame_types.specs.Tables.{CodeTypes}
use Rattle.abs_cells.specs.declared.cells.Cell.{Cell}
use Rattle.abs_cells.specs.declared.cells.Cell.TheVariants.{Int, Null, Obj, Nums, Refs, Unk}
use Rattle.abs_cells.specs.AbstractStates.{AbstractFrame, AbstractState}
use Rattle.abs_cells.specs.Cells.{ids_in, HasCell}
use Rattle.abs_cells.specs.Sound.{AreIdsRising, given_ids, ids_of_frame, ids_used, IsSoundCell, IsSound}
use Rattle.abs_reach.specs.Instances.{image_in, whole_map}
use Rattle.abs_expand.specs.BadStates.{IsGoodState}
use Rattle.term_graph.specs.declared.links.Link.{Link}
use Rattle.term_graph.specs.declared.nodes.By.{By}
use Rattle.term_graph.specs.declared.nodes.By.TheVariants.{Expand, Instance, End, Todo}
use Rattle.term_graph.specs.Graphs.{GraphNode, GraphChild}
use Rattle.graph_check.specs.Good.{NamesChild, IsLeftBy, IsGoodNode}
use Rattle.cert_form.specs.cert_write.Readable.{IsNumber, IsId, IsMaybe, IsCell, IsFrame, IsState, IsWay, IsNode}
use Rattle.prove_core.specs.TextLaws.{GoodGraphsAreReadable}
use Rattle.prove_core.specs.Stored.{IsStoredCell, IsStoredFrame, IsStored}
use Rattle.prove_core.proofs.Ends.{high_id}

-- ---- ids

has_low : (state : AbstractState) (sort : Cell → Bool) (id : ℕ) → AreIdsRising 0 state.cells → HasCell sort state id → id < 2048
has_low state sort id rise has = high_id 0 state.cells id has.cell rise has.is

maybe_low : (local : Option ℕ) → AllByRecursion IsId (given_ids (local ∷ [])) → IsMaybe IsId local
maybe_low None all = tt
maybe_low (Some id) all = all.0

locals_low : (locals : List (Option ℕ)) → AllByRecursion IsId (given_ids locals) → AllByRecursion (IsMaybe IsId) locals
locals_low [] all = tt
locals_low (None ∷ locals) all = (tt, locals_low locals all)
locals_low (Some id ∷ locals) all = (all.0, locals_low locals all.1)

-- ---- frames

one_frame : (frame : AbstractFrame) → AllByRecursion IsId (ids_of_frame frame) → IsStoredFrame frame → IsFrame frame
one_frame frame all stored = record {
  method = stored.method;
  pc = stored.pc;
  locals = All-from_recursion (IsMaybe IsId) frame.locals
      (locals_low frame.locals (all_front IsId (given_ids frame.locals) frame.stack all));
  stack = All-from_recursion IsId frame.stack (all_back IsId (given_ids frame.locals) frame.stack all);
}

frames_fit : (frames : List AbstractFrame) → AllByRecursion IsId (flat_map ids_of_frame frames) → AllByRecursion IsStoredFrame frames
    → AllByRecursion IsFrame frames
frames_fit [] all stored = tt
frames_fit (frame ∷ frames) all stored = (
  one_frame frame (all_front IsId (ids_of_frame frame) (flat_map ids_of_frame frames) all) stored.0,
  frames_fit frames (all_back IsId (ids_of_frame frame) (flat_map ids_of_frame frames) all) stored.1,
)

-- ---- cells

module _ (p : Program) (names : List (List ℕ)) (long : length names ≡ length p.world) where
  named : (t : Ty) → IsReference (length p.world) t → IsReference (length names) t
  named t is = subst (λ (n : ℕ). IsReference n t) (sym long) is

  one_cell : (state : AbstractState) (cell : Cell) → AllByRecursion IsId (ids_in cell) → IsSoundCell (types_of p.world) state cell
      → IsStoredCell cell → IsCell names cell
  one_cell state (Int interval) all sound stored = (stored, sound)
  one_cell state Null all sound stored = tt
  one_cell state (Obj class ids) all sound stored = (stored, All-from_recursion IsId ids all)
  one_cell state (Nums kind len) all sound stored = all.0
  one_cell state (Refs element len shape) all sound stored = (named element sound.1.0.0, all.0)
  one_cell state (Unk bound nullable shape) all sound stored = named bound sound.0

  cells_fit : (state : AbstractState) (cells : List (ℕ × Cell)) → AllByRecursion IsId (flat_map (λ (c : ℕ × Cell). ids_in c.1) cells)
      → AllByRecursion (λ (c : ℕ × Cell). IsSoundCell (types_of p.world) state c.1) cells
      → AllByRecursion (λ (c : ℕ × Cell). IsStoredCell c.1) cells → AllByRecursion (λ (c : ℕ × Cell). IsCell names c.1) cells
  cells_fit state [] all sound stored = tt
  cells_fit state (c ∷ cells) all sound stored =
      let rest = flat_map (λ (d : ℕ × Cell). ids_in d.1) cells in (
        one_cell state c.1 (all_front IsId (ids_in c.1) rest all) sound.0 stored.0,
        cells_fit state cells (all_back IsId (ids_in c.1) rest all) sound.1 stored.1,
      )

  -- ---- states

  one_state : (state : AbstractState) → IsSound (types_of p.world) state → IsStored state → length state.cells ≤ 512 → IsState names state
  one_state state sound stored few =
      let rise = sound.well_formed.rising in
      let frames = flat_map ids_of_frame state.frames in
      let thrown = given_ids (state.throwing ∷ []) in
      let named_ids = flat_map (λ (c : ℕ × Cell). ids_in c.1) state.cells in
      let used = all_weaker (HasCell (λ _. true) state) IsId (λ id has. has_low state (λ _. true) id rise has) (ids_used state)
      (recursion_from_All (HasCell (λ _. true) state) (ids_used state) sound.well_formed.used) in
      let later = all_back IsId frames (thrown ++ named_ids) used in
      record {
        few = few;
        rise = rise;
        cells = All-from_recursion (λ (c : ℕ × Cell). IsCell names c.1) state.cells
            (cells_fit state state.cells (all_back IsId thrown named_ids later)
            (recursion_from_All (λ (c : ℕ × Cell). IsSoundCell (types_of p.world) state c.1) state.cells sound.cells)
            (recursion_from_All (λ (c : ℕ × Cell). IsStoredCell c.1) state.cells stored.cells));
        eq = stored.eq;
        share = stored.share;
        frames = All-from_recursion IsFrame state.frames (frames_fit state.frames (all_front IsId frames (thrown ++ named_ids) used)
            (recursion_from_All IsStoredFrame state.frames stored.frames));
        throwing = maybe_low state.throwing (all_front IsId thrown named_ids later);
      }

-- ---- maps

abbrev Entry : Type 0
Entry = ℕ × ℕ

abbrev head_or : List ℕ → ℕ
head_or [] = 0
head_or (n ∷ ns) = n

abbrev tail_of : List ℕ → List ℕ
tail_of [] = []
tail_of (n ∷ ns) = ns

abbrev firsts : List Entry → List ℕ
firsts entries = map (λ (entry : Entry). entry.0) entries

abbrev ids_of : List (ℕ × Cell) → List ℕ
ids_of cells = map (λ (c : ℕ × Cell). c.0) cells

from_low : (low id image : ℕ) (entries : List Entry) (cells : List (ℕ × Cell)) → firsts entries ≡ ids_of cells → AreIdsRising low cells
    → image_in entries id ≡ Some image → low ≤ id
from_low low id image [] cells same rise e = absurd (none-some image e)
from_low low id image (entry ∷ entries) [] same rise e = let none = ap (λ (ns : List ℕ). length ns) same in absurd (omega (arith, none))
from_low low id image (entry ∷ entries) (c ∷ cells) same rise e = go (eqb entry.0 id) refl e
    (from_low (suc c.0) id image entries cells (ap tail_of same) rise.1.1)
  where
    go : (b : Bool) → eqb entry.0 id ≡ b → cond b (Some entry.1) (image_in entries id) ≡ Some image
        → (image_in entries id ≡ Some image → suc c.0 ≤ id) → low ≤ id
    go true f g more =
        let here : entry.0 ≡ c.0 = ap head_or same in
        let is = eqb-true entry.0 id f in
        let l = rise.0 in
        omega (arith, here, is, l)
    go false f g more =
        let l = rise.0 in
        let later = more g in
        omega (arith, l, later)

entries_low : (low : ℕ) (entries : List Entry) (cells : List (ℕ × Cell)) → firsts entries ≡ ids_of cells → AreIdsRising low cells
    → ((id image : ℕ) → image_in entries id ≡ Some image → image < 2048) → AllByRecursion (λ (e : Entry). IsId e.0 × IsId e.1) entries
entries_low low [] cells same rise images = tt
entries_low low (entry ∷ entries) [] same rise images = let none = ap (λ (ns : List ℕ). length ns) same in absurd (omega (arith, none))
entries_low low (entry ∷ entries) (c ∷ cells) same rise images =
    let here : entry.0 ≡ c.0 = ap head_or same in
    let small = rise.1.0 in
    let own : image_in (entry ∷ entries) entry.0 ≡ Some entry.1 = ap (λ (b : Bool). cond b (Some entry.1) (image_in entries entry.0))
    (eq-eqb entry.0 entry.0 refl) in (
      (omega (arith, here, small), images entry.0 entry.1 own),
      entries_low (suc c.0) entries cells (ap tail_of same) rise.1.1 (λ id image e.
          let l = from_low (suc c.0) id image entries cells (ap tail_of same) rise.1.1 e in
          images id image (ap (λ (b : Bool). cond b (Some entry.1) (image_in entries id))
          (ne_eqb entry.0 id (λ is. omega (arith, here, is, l))) ∙ e)),
    )

-- ---- nodes

module _ (p : Program) (typing : ℕ → CodeTypes) (nodes : List GraphNode) (few : length nodes ≤ 20000) where
  numbers_fit : (children : List GraphChild) (named : List ℕ) → AllZip (NamesChild nodes) children named → AllByRecursion IsNumber named
  numbers_fit [] [] zip = tt
  numbers_fit [] (n ∷ named) zip = absurd zip
  numbers_fit (child ∷ children) [] zip = absurd zip
  numbers_fit (child ∷ children) (n ∷ named) zip =
      let within = slice_get_within nodes n zip.0.node zip.0.is in
      (omega (arith, within, few), numbers_fit children named zip.1)

  good_state : (state : AbstractState) (by : By) (links : List Link) → IsLeftBy p typing nodes state by links → IsGoodState p typing state
  good_state state (Expand named) links left = left.are.0
  good_state state (Instance target entries) links left = left.0.good
  good_state state End links left = left.0.0
  good_state state Todo links left = absurd left

  way_fits : (state : AbstractState) (by : By) (links : List Link) → IsLeftBy p typing nodes state by links → IsWay by
  way_fits state (Expand named) links left = All-from_recursion IsNumber named (numbers_fit left.children named left.names)
  way_fits state (Instance target entries) links left =
      let is = left.0 in
      let within = slice_get_within nodes target is.node is.is in
      let whole = is.instance whole_map in
      let rise = is.good.sound.well_formed.rising in (
        omega (arith, within, few),
        All-from_recursion (λ (e : Entry). IsId e.0 × IsId e.1) entries (entries_low 0 entries is.node.state.cells whole.0.each whole.0.rise
            (λ id image e. has_low state (λ _. true) image rise (whole.1 id image e))),
      )
  way_fits state End links left = tt
  way_fits state Todo links left = absurd left

  module _ (names : List (List ℕ)) (long : length names ≡ length p.world) where
    all_nodes : (list : List GraphNode) (links : List (List Link)) → AllZip (IsGoodNode p typing nodes) list links
        → AllByRecursion (λ (node : GraphNode). IsStored node.state) list
        → AllByRecursion (λ (node : GraphNode). length node.state.cells ≤ 512) list → AllByRecursion (IsNode names) list
    all_nodes [] links each stored small = tt
    all_nodes (node ∷ list) [] each stored small = absurd each
    all_nodes (node ∷ list) (own ∷ links) each stored small = (
      record {
        state = one_state p names long node.state (good_state node.state node.by own each.0).sound stored.0 small.0;
        way = way_fits node.state node.by own each.0;
      },
      all_nodes list links each.1 stored.1 small.1,
    )

pub good_graphs_are_readable : GoodGraphsAreReadable
good_graphs_are_readable p typing nodes root links names same graph few stored small =
    let long = ap (λ (ns : List (List ℕ)). length ns) same ∙ length_mapped (λ (class : ClassContent). class.name) p.world in
    All-from_recursion (IsNode names) nodes (all_nodes p typing nodes few names long nodes links graph.each
    (recursion_from_All (λ (node : GraphNode). IsStored node.state) nodes stored)
    (recursion_from_All (λ (node : GraphNode). length node.state.cells ≤ 512) nodes small))
