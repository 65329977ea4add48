-- What a valid certificate shows, and that runs end where it does.
use Rattle.std.proofs.Common.{◌≡◌, ℕ, Bool, true, false, List, [], ◌∷◌, Some, inl, inr, refl, ap, subst}
use Rattle.std.specs.Prelude.{All, not}
use Rattle.std.specs.List.{AllZip, AllByRecursion}
use Rattle.std.proofs.lemmas.Bool.{false≢true}
use Rattle.std.proofs.lemmas.Option.{none-some}
use Rattle.std.proofs.lemmas.List.Elements.{All-from_recursion}
use Rattle.plan_links.specs.Laws.{LinksFit}
use Rattle.descent.specs.Steps.{ClosedProofsEnd}
use Rattle.abs_cells.specs.declared.cells.Cell.{Cell}
use Rattle.abs_cells.specs.declared.cells.Cell.TheVariants.{Int, Null, Obj, Nums, Refs, Unk}
use Rattle.abs_cells.specs.AbstractStates.{AbstractState}
use Rattle.abs_cells.specs.Cells.{is_int, type_of_cell, HasCell}
use Rattle.abs_cells.specs.Sound.{IsWellFormed}
use Rattle.jvm_values.specs.declared.types.Ty.{Ty}
use Rattle.graph_check.specs.AbsReachInstances.{IsOver, IsNullOrBelow, InstanceOf, whole_map, cells}
use Rattle.class_program.specs.class_world.WorldTypes.{types_of}
use Rattle.class_program.specs.Programs.{Program}
use Rattle.frame_types.specs.Tables.{CodeTypes}
use Rattle.term_graph.specs.declared.links.Link.{Link}
use Rattle.term_graph.specs.declared.nodes.By.{By}
use Rattle.term_graph.specs.declared.nodes.By.TheVariants.{Expand, Instance, End, Todo}
use Rattle.term_graph.specs.Graphs.{GraphNode}
use Rattle.path_rules.specs.Conditions.{AreBounded, IsMapBetween, IsGoodBy, IsReady}
use Rattle.path_rules.specs.RuleLimits.{RulesFit}
use Rattle.graph_check.specs.Good.{IsLeftBy, IsGoodNode}
use Rattle.graph_check.proofs.Excluding.{good_by}
use Rattle.cert_check.specs.Certified.{IsCertified}
use Rattle.cert_check.specs.Laws.{CertifiedRunsEnd, ValidCertificatesEnd}
use Rattle.cert_check.specs.Ready.{ValidIsCertified}
use Rattle.cert_check.proofs.Bounded.{all_bounded}
use Rattle.cert_check.proofs.Linking.{AreLinked, all_linked}

-- ---- lists

zip_all : {A B : Type 0} (R : A → B → Type 0) (P : A → Type 0) → ((x : A) (y : B) → R x y → P x) → (xs : List A) (ys : List B)
    → AllZip R xs ys → AllByRecursion P xs
zip_all R P gives [] ys z = tt
zip_all R P gives (x ∷ xs) [] z = absurd z
zip_all R P gives (x ∷ xs) (y ∷ ys) z = (gives x y z.0, zip_all R P gives xs ys z.1)

zip_both : {A B : Type 0} (Q R S : A → B → Type 0) → ((x : A) (y : B) → Q x y → R x y → S x y) → (xs : List A) (ys : List B)
    → AllZip Q xs ys → AllZip R xs ys → AllZip S xs ys
zip_both Q R S gives [] [] q r = tt
zip_both Q R S gives [] (y ∷ ys) q r = absurd q
zip_both Q R S gives (x ∷ xs) [] q r = absurd q
zip_both Q R S gives (x ∷ xs) (y ∷ ys) q r = (gives x y q.0 r.0, zip_both Q R S gives xs ys q.1 r.1)

-- ---- instances

int_image : (sub : Ty → Ty → Bool) (entries : List (ℕ × ℕ)) (state : AbstractState) (cell below : Cell) (image : ℕ)
    → is_int cell ≡ true → IsOver sub entries cell below → HasCell (λ _. true) state image → HasCell (λ d. is_int below) state image
int_image sub entries state (Int outer) below image i over has = record { cell = has.cell; is = has.is; sort_is = ap is_int over.1.0 }
int_image sub entries state Null below image i over has = absurd (false≢true i)
int_image sub entries state (Obj class ids) below image i over has = absurd (false≢true i)
int_image sub entries state (Nums kind len) below image i over has = absurd (false≢true i)
int_image sub entries state (Refs element len shape) below image i over has = absurd (false≢true i)
int_image sub entries state (Unk bound nullable shape) below image i over has = absurd (false≢true i)

-- a cell with a type is no int's
typed_no_int : (cell : Cell) (t : Ty) → type_of_cell cell ≡ Some t → not (is_int cell) ≡ true
typed_no_int (Int interval) t e = absurd (none-some t e)
typed_no_int Null t e = refl
typed_no_int (Obj class ids) t e = refl
typed_no_int (Nums kind len) t e = refl
typed_no_int (Refs element len shape) t e = refl
typed_no_int (Unk bound nullable shape) t e = refl

null_or_below : (sub : Ty → Ty → Bool) (bound : Ty) (below : Cell) → IsNullOrBelow sub bound below → not (is_int below) ≡ true
null_or_below sub bound below (inl e) = ap (λ (c : Cell). not (is_int c)) e
null_or_below sub bound below (inr h) = typed_no_int below h.0 h.1.0

-- what is under a reference's cell is a reference's
no_int_image : (sub : Ty → Ty → Bool) (entries : List (ℕ × ℕ)) (cell below : Cell) → not (is_int cell) ≡ true
    → IsOver sub entries cell below
    → not (is_int below) ≡ true
no_int_image sub entries (Int outer) below n over = absurd (false≢true n)
no_int_image sub entries Null below n over = ap (λ (c : Cell). not (is_int c)) over
no_int_image sub entries (Obj class ids) below n over = ap (λ (c : Cell). not (is_int c)) over.1.0
no_int_image sub entries (Nums kind len) below n over = ap (λ (c : Cell). not (is_int c)) over.1.0
no_int_image sub entries (Refs element len shape) below n over = ap (λ (c : Cell). not (is_int c)) over.is
no_int_image sub entries (Unk bound nullable shape) below n over = null_or_below sub bound below over.1

map_between : (sub : Ty → Ty → Bool) (state target : AbstractState) (entries : List (ℕ × ℕ)) → InstanceOf sub state target entries
    → IsMapBetween state target entries
map_between sub state target entries match = record {
  lists = (match whole_map).0;
  ints = λ id has.
      let under = (match cells).1 id has.cell has.is in
      let int = int_image sub entries state has.cell under.below under.image has.sort_is under.over
      (record { cell = under.below; is = under.stands; sort_is = refl }) in
      (under.image, (under.maps, record { cell = under.below; is = under.stands; sort_is = int.sort_is }));
  references = λ id has.
      let under = (match cells).1 id has.cell has.is in (
        under.image,
        (
          under.maps,
          record {
            cell = under.below;
            is = under.stands;
            sort_is = no_int_image sub entries has.cell under.below has.sort_is under.over;
          },
        ),
      );
}

-- ---- graphs

module _ (p : Program) (typing : ℕ → CodeTypes) (nodes : List GraphNode) where
  pub well_formed : (links : List (List Link)) → AllZip (IsGoodNode p typing nodes) nodes links
      → All (λ (n : GraphNode). IsWellFormed n.state) nodes
  well_formed links each =
      All-from_recursion (λ (n : GraphNode). IsWellFormed n.state) nodes
      (zip_all (IsGoodNode p typing nodes) (λ (n : GraphNode). IsWellFormed n.state)
      (λ n ls good. (good_by p typing nodes n.state n.by ls good).sound.well_formed) nodes links each)

  left_good : (state : AbstractState) (by : By) (links : List Link) → IsLeftBy p typing nodes state by links
      → AreLinked nodes (record { state = state; by = by }) links → IsGoodBy nodes state by links
  left_good state (Expand named) links left linked = linked named refl
  left_good state (Instance target entries) links left linked = (
    left.0.node,
    (
      left.0.is,
      map_between (types_of p.world).sub state left.0.node.state entries left.0.instance,
    ),
  )
  left_good state End links left linked = tt
  left_good state Todo links left linked = tt

  pub all_good : (links : List (List Link)) → AllZip (IsGoodNode p typing nodes) nodes links → AllZip (AreLinked nodes) nodes links
      → AllZip (λ (n : GraphNode) (l : List Link). IsGoodBy nodes n.state n.by l) nodes links
  all_good links each linked =
      zip_both (IsGoodNode p typing nodes) (AreLinked nodes) (λ (n : GraphNode) (l : List Link). IsGoodBy nodes n.state n.by l)
      (λ n l good are. left_good n.state n.by l good are) nodes links each linked

-- ---- the laws

pub shows : ClosedProofsEnd → LinksFit → RulesFit → ValidIsCertified
shows closed fit rules_fit case valid widths typing_is steps =
    let ready : IsReady case.nodes valid.links case.cuts =
    record {
      states = well_formed case.program case.typing case.nodes valid.links valid.graph.each;
      nodes = all_good case.program case.typing case.nodes valid.links valid.graph.each
          (all_linked fit case.program case.typing widths typing_is case.nodes case.nodes valid.links valid.graph.each);
      first = valid.cuts.first;
      rise = valid.cuts.rise;
      cut_nodes = valid.cuts.nodes;
    } in
    let bounded = All-from_recursion (λ (n : GraphNode). AreBounded n.state) case.nodes
    (all_bounded case.program case.typing case.nodes case.nodes valid.links valid.graph.each) in
    let rules = rules_fit case.nodes valid.links case.cuts valid.rules ready bounded valid.paths.1 in
    record {
      links = valid.links;
      graph = valid.graph;
      ready = ready;
      cut = valid.paths.0;
      rules = valid.rules;
      are = valid.paths.1;
      ends = closed valid.rules (record { steps = case.steps }) rules steps valid.proof;
    }

pub valid_runs_end : ValidIsCertified → CertifiedRunsEnd → ValidCertificatesEnd
valid_runs_end shown ended case valid desc root closed widths typing_is own steps state fits =
    ended case.program case.typing desc case.nodes case.cuts closed widths typing_is own
    (subst (IsCertified case.program case.typing case.nodes case.cuts) root (shown case valid widths typing_is steps))
    state fits
