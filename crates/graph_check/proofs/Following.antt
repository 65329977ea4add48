-- A typed state that fits a good node ends with its next step or goes on to a node that this one names.
use Rattle.std.proofs.Common.{◌≡◌, ◌≤◌, ◌+◌, ◌∙◌, ℕ, zero, suc, cond, List, [], ◌∷◌, map, Some, slice_get, ◌⊎◌, inl, inr, refl, sym}
use Rattle.std.proofs.Common.{ap, subst, arith, eq-eqb}
use Rattle.std.specs.Prelude.{All}
use Rattle.std.proofs.lemmas.Bool.{ne_eqb}
use Rattle.std.proofs.lemmas.Option.{slice_get_within, get_or_from_slice_get, none-some}
use Rattle.std.proofs.lemmas.List.Elements.{All-get_or, All-from_recursion}
use Rattle.std.specs.List.{AllByRecursion}
use Rattle.code_verify.proofs.RowLaws.{deeper}
use Rattle.jvm_values.proofs.Options.{some_is}
use Rattle.jvm_values.specs.declared.heap.Heap.{Heap}
use Rattle.jvm_values.specs.declared.heap.Object.{Object}
use Rattle.jvm_values.specs.declared.heap.Object.TheVariants as objects
use Rattle.jvm_values.specs.declared.types.Base.{Base}
use Rattle.jvm_values.specs.declared.types.Base.TheVariants as bases
use Rattle.jvm_values.specs.States.{MachineState}
use Rattle.jvm_values.specs.TypedHeaps.{WorldTypes, IsTypedObject, IsTypedHeap}
use Rattle.abs_cells.specs.declared.cells.Cell.{Cell}
use Rattle.abs_cells.specs.AbstractStates.{AbstractState}
use Rattle.abs_cells.specs.Fits.{Meaning, Fits}
use Rattle.abs_cells.specs.Sound.{AreIdsRising}
use Rattle.abs_reach.specs.Instances.{image_in, ListsIds, whole_map}
use Rattle.abs_match.specs.Laws.{HasArraysOfWorld, MatchesCarryFitting, value_of_image, after}
use Rattle.class_program.specs.class_world.WorldTypes.{types_of}
use Rattle.class_program.specs.class_world.lemmas.WorldLaws.{world_laws}
use Rattle.class_program.specs.Programs.{Program, IsClosed}
use Rattle.class_program.specs.Widths.{HasWidths}
use Rattle.frame_types.specs.Tables.{CodeTypes}
use Rattle.step_laws.specs.jvm_step.Running.{step}
use Rattle.term_graph.specs.declared.links.Link.{Link}
use Rattle.term_graph.specs.declared.nodes.By.{By}
use Rattle.term_graph.specs.declared.nodes.By.TheVariants.{Expand, Instance, End, Todo}
use Rattle.term_graph.specs.Graphs.{GraphNode, GraphChild}
use Rattle.term_graph.specs.Edges.{Edge}
use Rattle.one_expansion.specs.abs_expand.Laws.{IsMet, EndsEnd, StepsFitChildren}
use Rattle.one_expansion.proofs.abs_expand.ZipLists.{beside}
use Rattle.graph_check.specs.Good.{NamesChild, IsExpanded, IsInstance, IsLeftBy, IsGoodNode, GraphOk}
use Rattle.graph_check.specs.Laws.{GoesOn, EndsHere, GraphsHoldRuns}

-- ---- lists

pub mapped_at : {A B : Type 0} (f : A → B) (xs : List A) (n : ℕ) (x : A) → slice_get xs n ≡ Some x → slice_get (map f xs) n ≡ Some (f x)
mapped_at f [] n x at = absurd (none-some x at)
mapped_at f (y ∷ xs) zero x at = ap Some (ap f (some_is at))
mapped_at f (y ∷ xs) (suc n) x at = mapped_at f xs n x at

-- ---- heaps

object_at : (types : WorldTypes) (heap : Heap) → IsTypedHeap types heap → (place : ℕ) (object : Object)
    → slice_get heap.objects place ≡ Some object → IsTypedObject types heap object
object_at types heap typed place object at =
    subst (IsTypedObject types heap) (get_or_from_slice_get heap.objects place object object at)
    (All-get_or (IsTypedObject types heap) heap.objects place object (slice_get_within heap.objects place object at) typed)

pub arrays_of_world : (types : WorldTypes) (heap : Heap) → IsTypedHeap types heap → HasArraysOfWorld types heap
arrays_of_world types heap typed place element items at =
    let object = object_at types heap typed place (objects.Refs element items) at in
    (omega (arith, object.1.0), deeper types.classes element.dims element.base object.1.1.0.1)

-- ---- maps

-- the numbers of entries rise
abbrev AreRising : ℕ → List (ℕ × ℕ) → Type 0
AreRising low [] = Unit {0}
AreRising low (entry ∷ entries) = (low ≤ entry.0) × AreRising (suc entry.0) entries

rising_keys : (entries : List (ℕ × ℕ)) (cells : List (ℕ × Cell)) (low : ℕ)
    → map (λ (entry : ℕ × ℕ). entry.0) entries ≡ map (λ (c : ℕ × Cell). c.0) cells → AreIdsRising low cells → AreRising low entries
rising_keys [] cells low e rise = tt
rising_keys (entry ∷ entries) [] low e rise = absurd (cc)
rising_keys (entry ∷ entries) (c ∷ cells) low e rise =
    let first : entry.0 ≡ c.0 = cc in
    let rest : map (λ (other : ℕ × ℕ). other.0) entries ≡ map (λ (d : ℕ × Cell). d.0) cells = cc in
    (omega (arith, first, rise.0), subst (λ n. AreRising (suc n) entries) (sym first) (rising_keys entries cells (suc c.0) rest rise.1.1))

-- what a rising list says of each of its entries, where entries before it have lower numbers
own_images : (meaning : Meaning) (all rest : List (ℕ × ℕ)) (low : ℕ) → AreRising low rest
    → ((id : ℕ) → low ≤ id → image_in all id ≡ image_in rest id)
    → AllByRecursion (λ (entry : ℕ × ℕ). after meaning all entry.0 ≡ meaning entry.1) rest
own_images meaning all [] low rise same = tt
own_images meaning all (entry ∷ rest) low rise same = (
  ap (value_of_image meaning) (same entry.0 rise.0 ∙ here),
  own_images meaning all rest (suc entry.0) rise.1 (λ id l. same id (omega (arith, l, rise.0)) ∙ past id l),
)
  where
    here : image_in (entry ∷ rest) entry.0 ≡ Some entry.1
    here = ap (λ b. cond b (Some entry.1) (image_in rest entry.0)) (eq-eqb entry.0 entry.0 refl)

    past : (id : ℕ) → suc entry.0 ≤ id → image_in (entry ∷ rest) id ≡ image_in rest id
    past id l = ap (λ b. cond b (Some entry.1) (image_in rest id)) (ne_eqb entry.0 id (omega (arith, l)))

all_images : (meaning : Meaning) (state target : AbstractState) (entries : List (ℕ × ℕ)) → ListsIds target entries
    → All (λ (entry : ℕ × ℕ). after meaning entries entry.0 ≡ meaning entry.1) entries
all_images meaning state target entries lists =
    All-from_recursion (λ (entry : ℕ × ℕ). after meaning entries entry.0 ≡ meaning entry.1) entries
    (own_images meaning entries entries 0 (rising_keys entries target.cells 0 lists.each lists.rise) (λ id l. refl))

-- ---- one node

module _ (p : Program) (typing : ℕ → CodeTypes) (nodes : List GraphNode) (machine : MachineState) (meaning : Meaning)
    (closed : IsClosed p) (widths : HasWidths p) where
  by_child : (state : AbstractState) (named : List ℕ) (links : List Link) → StepsFitChildren → IsMet p typing state machine meaning
      → IsExpanded p typing nodes state named links → GoesOn p nodes (record { state = state; by = Expand named }) links machine meaning
  by_child state named links law met expanded =
      let goes = law p typing state machine meaning expanded.children closed widths met expanded.are.1 in
      let to = beside (NamesChild nodes) expanded.children named goes.n goes.child expanded.names goes.is in
      let same : goes.child.state ≡ to.alike.node.state = sym to.alike.state_is in
      record {
        to = to.other;
        successor = to.alike.node;
        is = to.alike.is;
        after = goes.after;
        meaning_after = goes.meaning_after;
        fits = subst (λ (s : AbstractState). Fits (types_of p.world) s goes.after goes.meaning_after) same goes.fits;
        by = record {
          n = goes.n;
          link = goes.child.link;
          is_link = ap (λ (ls : List Link). slice_get ls goes.n) expanded.links_are
              ∙ mapped_at (λ (child : GraphChild). child.link) expanded.children goes.n goes.child goes.is;
          is_named = to.there;
          is_after = goes.is_after;
          edge = subst (λ (s : AbstractState). Edge state machine meaning goes.child.link s goes.after goes.meaning_after) same goes.edge;
        };
      }

  by_instance : (state : AbstractState) (target : ℕ) (entries : List (ℕ × ℕ)) (links : List Link) → MatchesCarryFitting
      → IsMet p typing state machine meaning → IsInstance p typing nodes state target entries
      → GoesOn p nodes (record { state = state; by = Instance target entries }) links machine meaning
  by_instance state target entries links law met matched =
      record {
        to = target;
        successor = matched.node;
        is = matched.is;
        after = machine;
        meaning_after = after meaning entries;
        fits = law (types_of p.world) state matched.node.state entries machine meaning (world_laws p.world closed.known.linked)
            (arrays_of_world (types_of p.world) machine.heap met.typed.heap) met.good.sound.well_formed matched.instance met.fits;
        by = record {
          is_target = refl;
          edge = record
              { same = refl; images = all_images meaning state matched.node.state entries (matched.instance whole_map).0 };
        };
      }

  from_node : (state : AbstractState) (by : By) (links : List Link) → EndsEnd → StepsFitChildren → MatchesCarryFitting
      → IsMet p typing state machine meaning → IsLeftBy p typing nodes state by links
      → EndsHere p (record { state = state; by = by }) machine ⊎ GoesOn p nodes (record { state = state; by = by }) links machine meaning
  from_node state (Expand named) links ended goes matches met left = inr (by_child state named links goes met left)
  from_node state (Instance target entries) links ended goes matches met left = inr
      (by_instance state target entries links matches met left.0)
  from_node state End links ended goes matches met left = inl (refl, ended p typing state machine meaning closed widths met left.0.1)
  from_node state Todo links ended goes matches met left = absurd left

-- ---- the law

both_there : (p : Program) (typing : ℕ → CodeTypes) (nodes : List GraphNode) (root : AbstractState) (links : List (List Link))
    (n : ℕ) (node : GraphNode) (node_links : List Link) → GraphOk p typing nodes root links → slice_get nodes n ≡ Some node
    → slice_get links n ≡ Some node_links → IsGoodNode p typing nodes node node_links
both_there p typing nodes root links n node node_links ok at there =
    let found = beside (IsGoodNode p typing nodes) nodes links n node ok.each at in
    subst (λ (ls : List Link). IsGoodNode p typing nodes node ls) (some_is (sym found.there ∙ there)) found.alike

pub hold_runs : EndsEnd → StepsFitChildren → MatchesCarryFitting → GraphsHoldRuns
hold_runs ended goes matches p typing nodes root links closed widths ok n node node_links at there machine meaning met =
    from_node p typing nodes machine meaning closed widths node.state node.by node_links ended goes matches met
    (both_there p typing nodes root links n node node_links ok at there)
