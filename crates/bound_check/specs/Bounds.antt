-- The bound that a text gives for a certificate, and its value for a state.
use Rattle.std.specs.Prelude.{◌≡◌, ◌↔◌, ◌≤◌, ℕ, suc, ◌+◌, ◌*◌, ℤ, pos, negsuc, ◌+ℤ◌, ◌*ℤ◌, Bool, true, false, if◌then◌else◌, List, []}
use Rattle.std.specs.Prelude.{◌∷◌, ◌++◌, ◌==◌}
use Rattle.std.specs.Prelude.{filter, Option, Some, None, slice_get, IsTrue}
use Rattle.std.specs.Option.{option_map_or}
use Rattle.jvm_values.specs.Paths.{follow}
use Rattle.jvm_values.specs.States.{MachineState}
use Rattle.abs_cells.specs.AbstractStates.{AbstractState}
use Rattle.abs_cells.specs.Cells.{is_int, is_of_sort, cell_at, HasCell}
use Rattle.abs_cells.specs.Fits.{Meaning}
use Rattle.abs_cells.specs.Patterns.{IsSized}
use Rattle.abs_reach.specs.Instances.{is_no_int}
use Rattle.lin_core.specs.Weights.{weight_in}
use Rattle.term_graph.specs.declared.links.Link.{Link}
use Rattle.term_graph.specs.declared.nodes.By.TheVariants.{End}
use Rattle.term_graph.specs.Edges.{number_of}
use Rattle.term_graph.specs.Graphs.{GraphNode}
use Rattle.term_enc.specs.Sizes.{Weighs}
use Rattle.path_rules.specs.Paths.{Path, IsPath, edges, inner_edges, is_cut}
use Rattle.descent.specs.declared.proof.CutForm.{CutForm}
use Rattle.descent.specs.declared.proof.ProofStep.{ProofStep}
use Rattle.descent.specs.declared.proof.RankStep.{RankStep}
use Rattle.descent.specs.declared.rules.PathRule.{PathRule}
use Rattle.descent.specs.Rankings.{form_at, ints_of, sizes_of, base_of}
use Rattle.bound_check.specs.declared.bound.Bound.{Bound}
use Rattle.bound_check.specs.declared.bound.RootForm.{RootForm}
use Rattle.bound_text.specs.declared.texts.BoundEntry.{BoundEntry}
use Rattle.bound_check.specs.Parts.{rank_at, untaken_at}
use Rattle.bound_check.specs.Entries.{whole_forms}

-- ---- steps between cuts

-- how many steps of the machine the edge of a link is: one or none; an edge without a link is none
abbrev pub step_of_link : Option Link → ℕ
step_of_link None = 0
step_of_link (Some link) = if link.step then 1 else 0

-- how many steps of the machine the edge at a place of a node is
abbrev pub steps_of_edge : List (List Link) → ℕ → ℕ → ℕ
steps_of_edge links node place = step_of_link (option_map_or (λ (own : List Link). slice_get own place) (slice_get links node) None)

-- how many edges are steps along a way from a node; a node's links are one for each child, and none where it is an instance
abbrev pub steps_along : List GraphNode → List (List Link) → ℕ → List ℕ → ℕ
steps_along nodes links node [] = 0
steps_along nodes links node (place ∷ places) = steps_of_edge links node place
    + option_map_or (λ (to : ℕ). steps_along nodes links to places) (edges nodes node place) 0

-- a way leads from a cut to an End node without a further cut
pub record IsLastWay (nodes : List GraphNode) (cuts : List ℕ) (cut : ℕ) (places : List ℕ) : Type 0 where
  pub starts : is_cut cuts cut ≡ true
  pub to : ℕ
  pub leads : follow (inner_edges nodes cuts) places cut ≡ Some to
  pub node : GraphNode
  pub is : slice_get nodes to ≡ Some node
  pub ends : node.by ≡ End

-- no path from cut to cut has more steps than so many, and no way from a cut to an End node without a further cut
pub record HasAtMost (nodes : List GraphNode) (links : List (List Link)) (cuts : List ℕ) (most : ℕ) : Type 0 where
  pub paths : (path : Path) → IsPath nodes cuts path → steps_along nodes links path.from path.places ≤ most
  pub last : (cut : ℕ) (places : List ℕ) → IsLastWay nodes cuts cut places → steps_along nodes links cut places ≤ most

-- the greatest number of steps on a path from cut to cut, or on a way from a cut to an End node without a further cut; 0 where there is
-- neither
pub record IsMostSteps (nodes : List GraphNode) (links : List (List Link)) (cuts : List ℕ) (most : ℕ) : Type 0 where
  pub enough : HasAtMost nodes links cuts most
  pub least : (other : ℕ) → HasAtMost nodes links cuts other → most ≤ other

-- ---- forms over the inputs

-- these are exactly the ids that are sized in a state: their cells are no ints, and they have a size
abbrev pub AreSizedIds : AbstractState → (ℕ → Bool) → Type 0
AreSizedIds root sized = (id : ℕ) → IsTrue (sized id) ↔ (HasCell is_no_int root id × IsSized root id)

-- a step's whole form at node 0: multiples of ints stay where the id is an int of node 0's state, and multiples of sizes where it is sized
-- there
abbrev pub root_form : AbstractState → (ℕ → Bool) → RankStep → BoundEntry → RootForm
root_form root sized step entry = record {
  constant = base_of (form_at (whole_forms step entry) 0);
  ints = filter (λ (e : ℕ × ℤ). is_of_sort is_int (cell_at root e.0)) (ints_of (form_at (whole_forms step entry) 0));
  sizes = filter (λ (e : ℕ × ℤ). sized e.0) (sizes_of true (form_at (whole_forms step entry) 0));
  weights = if step.size then step.weights else [];
}

-- ---- bounds

-- the entry of the step of a number, the first one that names it
abbrev pub entry_of : ℕ → List BoundEntry → Option BoundEntry
entry_of step [] = None
entry_of step (entry ∷ rest) = if entry.step == step then Some entry else entry_of step rest

-- the term of a rank step with its entry: one more than the parts that no step takes under it, and its whole form at node 0; without an
-- entry there is no term
abbrev pub term_of : AbstractState → (ℕ → Bool) → List ProofStep → ℕ → Option RankStep → Option BoundEntry → List (ℕ × RootForm)
term_of root sized steps number (Some step) (Some entry) = (1 + untaken_at steps number, root_form root sized step entry) ∷ []
term_of root sized steps number _ _ = []

-- the terms of the steps from one on
abbrev pub terms_from : AbstractState → (ℕ → Bool) → List ProofStep → List BoundEntry → ℕ → List ProofStep → List (ℕ × RootForm)
terms_from root sized steps entries number [] = []
terms_from root sized steps entries number (step ∷ rest) = term_of root sized steps number (rank_at steps number) (entry_of number entries)
    ++ terms_from root sized steps entries (suc number) rest

-- the bound of a certificate with entries: its steps are the most between cuts, its constant is one more than the parts that no step takes,
-- and its terms are those of the rank steps
pub record IsBound (nodes : List GraphNode) (links : List (List Link)) (cuts : List ℕ) (root : AbstractState) (steps : List ProofStep)
    (entries : List BoundEntry) (bound : Bound) : Type 0 where
  pub most : IsMostSteps nodes links cuts bound.steps
  pub constant : bound.constant ≡ 1 + untaken_at steps 0
  pub sized : ℕ → Bool
  pub are_sized : AreSizedIds root sized
  pub terms : bound.terms ≡ terms_from root sized steps entries 0 steps

-- ---- values

-- the sum of multiples of ints, for the values that the ids stand for
abbrev pub ints_worth : Meaning → List (ℕ × ℤ) → ℤ
ints_worth meaning [] = pos 0
ints_worth meaning (entry ∷ rest) = entry.1 *ℤ number_of (meaning entry.0) +ℤ ints_worth meaning rest

-- a sum of multiples of sizes is a number, where each class weighs so much
pub data SizesWorth (weigh : ℕ → ℤ) (state : MachineState) (meaning : Meaning) : List (ℕ × ℤ) → ℤ → Type 0 where
  none : SizesWorth weigh state meaning [] (pos 0)
  more : (entry : ℕ × ℤ) (rest : List (ℕ × ℤ)) (size sum : ℤ) → Weighs weigh state.heap (meaning entry.0) size
      → SizesWorth weigh state meaning rest sum → SizesWorth weigh state meaning (entry ∷ rest) (entry.1 *ℤ size +ℤ sum)

-- a form's value for a state is a number: its constant and its multiples of ints and of sizes, added
pub record FormWorth (state : MachineState) (meaning : Meaning) (form : RootForm) (value : ℤ) : Type 0 where
  pub sizes : ℤ
  pub are : SizesWorth (weight_in form.weights) state meaning form.sizes sizes
  pub is : value ≡ form.constant +ℤ (ints_worth meaning form.ints +ℤ sizes)

-- a number, or 0 where it is below
abbrev pub not_below_zero : ℤ → ℕ
not_below_zero (pos n) = n
not_below_zero (negsuc n) = 0

-- the value of a bound's terms for a state is a number: each term is worth its count times one more than its form's value, or 0 where that
-- is below
pub data TermsWorth (state : MachineState) (meaning : Meaning) : List (ℕ × RootForm) → ℕ → Type 0 where
  no_term : TermsWorth state meaning [] 0
  next_term : (term : ℕ × RootForm) (rest : List (ℕ × RootForm)) (value : ℤ) (sum : ℕ) → FormWorth state meaning term.1 value
      → TermsWorth state meaning rest sum
      → TermsWorth state meaning (term ∷ rest) (term.0 * not_below_zero (value +ℤ pos 1) + sum)

-- a bound's value for a state is a number: the steps between cuts, times the constant and the terms together, and one more
pub record BoundWorth (state : MachineState) (meaning : Meaning) (bound : Bound) (value : ℕ) : Type 0 where
  pub sum : ℕ
  pub terms : TermsWorth state meaning bound.terms sum
  pub is : value ≡ bound.steps * (bound.constant + sum) + 1
