-- The four kinds of growth, and the nodes that wait after one.
use Rattle.std.proofs.Common.{◌≡◌, ◌≢◌, ◌⊎◌, inl, inr, ℕ, zero, suc, ◌+◌, ◌-◌, ◌<◌, ◌≤◌, Bool, true, false, List, [], ◌∷◌, ◌++◌}
use Rattle.std.proofs.Common.{length, map, replicate, Some, subst, ap, arith, refl, ◌∙◌, sym, length-append}
use Rattle.std.specs.Prelude.{slice_get}
use Rattle.std.proofs.lemmas.Bool.{false≢true, cases_lt}
use Rattle.std.proofs.lemmas.List.{append_assoc, append-nil}
use Rattle.std.proofs.lemmas.Option.{slice_get_within, same_Some}
use Rattle.abs_cells.specs.AbstractStates.{AbstractState}
use Rattle.term_graph.specs.declared.nodes.By.{By}
use Rattle.term_graph.specs.declared.nodes.By.TheVariants.{Expand, Instance, End, Todo}
use Rattle.term_graph.specs.Graphs.{GraphNode}
use Rattle.graph_build.specs.Disciplined.{IsBefore, is_expanded}
use Rattle.list_views.specs.Lists.{Has, numbers_from}
use Rattle.graph_build.specs.inner.Working.{Work, with_all, todo, AreInOrder}
use Rattle.graph_build.proofs.Extending.{names_no_todo}
use Rattle.graph_build.proofs.Nodes.{Fresh}

-- ---- numbers

pub number_at : (from count i x : ℕ) → slice_get (numbers_from from count) i ≡ Some x → (x ≡ from + i) × (i < count)
number_at from zero i x h = absurd (omega (arith, slice_get_within {A = ℕ} [] i x h))
number_at from (suc count) zero x h = (sym (same_Some from x h) ∙ omega arith, omega arith)
number_at from (suc count) (suc i) x h =
    let rest = number_at (suc from) count i x h in
    (omega (arith, rest.0), omega (arith, rest.1))

pub number_is : (from count i : ℕ) → i < count → slice_get (numbers_from from count) i ≡ Some (from + i)
number_is from zero i l = absurd (omega (arith, l))
number_is from (suc count) zero l = ap (λ (x : ℕ). Some x) (omega arith)
number_is from (suc count) (suc i) l = number_is (suc from) count i (omega (arith, l)) ∙ ap (λ (x : ℕ). Some x) (omega arith)

-- ---- how the growing node is left

abbrev is_expand : By → Bool
is_expand (Expand named) = true
is_expand (Instance target entries) = false
is_expand End = false
is_expand Todo = false

abbrev named_by : By → List ℕ
named_by (Expand named) = named
named_by (Instance target entries) = []
named_by End = []
named_by Todo = []

pub fresh_end : (from : ℕ) → Fresh from 0 End
fresh_end from = record {
  done = λ e. false≢true (sym (ap is_expanded e));
  named = λ m l r. absurd (omega (arith, l, r));
  names = λ list place child e at. absurd (false≢true (ap is_expand e));
  in_order = λ list i j a b e l ha hb. absurd (false≢true (ap is_expand e));
}

pub fresh_joining : (from target : ℕ) (entries : List (ℕ × ℕ)) → Fresh from 0 (Instance target entries)
fresh_joining from target entries = record {
  done = λ e. names_no_todo (Instance target entries) target refl e;
  named = λ m l r. absurd (omega (arith, l, r));
  names = λ list place child e at. absurd (false≢true (ap is_expand e));
  in_order = λ list i j a b e l ha hb. absurd (false≢true (ap is_expand e));
}

pub fresh_opening : (from : ℕ) (entries : List (ℕ × ℕ)) → Fresh from 1 (Instance from entries)
fresh_opening from entries = record {
  done = λ e. names_no_todo (Instance from entries) from refl e;
  named = λ m l r. omega (arith, l, r);
  names = λ list place child e at. absurd (false≢true (ap is_expand e));
  in_order = λ list i j a b e l ha hb. absurd (false≢true (ap is_expand e));
}

pub fresh_expanding : (from count : ℕ) → Fresh from count (Expand (numbers_from from count))
fresh_expanding from count = record {
  done = λ e. false≢true (sym (ap is_expanded e));
  named = λ m l r. (m - from, number_is from count (m - from) (omega (arith, l, r)) ∙ ap (λ (x : ℕ). Some x) (omega (arith, l)));
  names = λ list place child e at. (
      let at' = subst (λ (xs : List ℕ). slice_get xs place ≡ Some child) (sym (ap named_by e)) at in
      let is = number_at from count place child at' in
      (omega (arith, is.0), omega (arith, is.0, is.1)));
  in_order = λ list i j a b e l ha hb. (
      let ha' = subst (λ (xs : List ℕ). slice_get xs i ≡ Some a) (sym (ap named_by e)) ha in
      let hb' = subst (λ (xs : List ℕ). slice_get xs j ≡ Some b) (sym (ap named_by e)) hb in
      omega (arith, (number_at from count i a ha').0, (number_at from count j b hb').0, l));
}

-- ---- all at once

abbrev pub pushed : ℕ → ℕ → List ℕ → List ℕ
pushed from zero waiting = waiting
pushed from (suc count) waiting = pushed (suc from) count (from ∷ waiting)

all_as_one : (nodes : List GraphNode) (parents waiting : List ℕ) (states : List AbstractState) (parent : ℕ)
    → with_all (record { nodes = nodes; parents = parents; waiting = waiting }) states parent ≡ record {
      nodes = nodes ++ map todo states;
      parents = parents ++ replicate (length states) parent;
      waiting = pushed (length nodes)
          (length states) waiting;
    }
all_as_one nodes parents waiting [] parent = ap
    (λ (xs : List GraphNode). record { nodes = xs; parents = parents; waiting = waiting }) (sym (append-nil nodes))
    ∙ ap (λ (xs : List ℕ). record { nodes = nodes ++ []; parents = xs; waiting = waiting }) (sym (append-nil parents))
all_as_one nodes parents waiting (s ∷ ss) parent =
    let more : length (nodes ++ todo s ∷ []) ≡ suc (length nodes) = length-append nodes (todo s ∷ []) ∙ omega arith in
    all_as_one (nodes ++ todo s ∷ []) (parents ++ parent ∷ []) (length nodes ∷ waiting) ss parent
    ∙ ap (λ (xs : List GraphNode). record {
      nodes = xs;
      parents = (parents ++ parent ∷ []) ++ replicate (length ss) parent;
      waiting
          = pushed (length (nodes ++ todo s ∷ [])) (length ss) (length nodes ∷ waiting);
    })
    (append_assoc nodes (todo s ∷ []) (map todo ss))
    ∙ ap (λ (xs : List ℕ). record {
      nodes = nodes ++ map todo (s ∷ ss);
      parents = xs;
      waiting = pushed (length (nodes ++ todo s ∷ [])) (length ss)
          (length nodes ∷ waiting);
    }) (append_assoc parents (parent ∷ []) (replicate (length ss) parent))
    ∙ ap (λ (k : ℕ). record {
      nodes = nodes ++ map todo (s ∷ ss);
      parents = parents ++ replicate (length (s ∷ ss)) parent;
      waiting =
          pushed k (length ss) (length nodes ∷ waiting);
    }) more

pub with_all_is : (work : Work) (states : List AbstractState) (parent : ℕ)
    → with_all work states parent ≡ record {
      nodes = work.nodes ++ map todo states;
      parents = work.parents ++ replicate (length states) parent;
      waiting = pushed
          (length work.nodes) (length states) work.waiting;
    }
with_all_is work states parent = all_as_one work.nodes work.parents work.waiting states parent

-- ---- what waits

pub pushed_has : (from count : ℕ) (waiting : List ℕ) (m : ℕ) → Has (pushed from count waiting) m → ((from ≤ m) × (m < from + count))
    ⊎ Has waiting m
pushed_has from zero waiting m h = inr h
pushed_has from (suc count) waiting m h = elim (pushed_has (suc from) count (from ∷ waiting) m h) as
    (λ o. ((from ≤ m) × (m < from + suc count)) ⊎ Has waiting m) [
      | inl r ↦ inl (omega (arith, r.0), omega (arith, r.1))
      | inr (inl e) ↦ inl (omega (arith, e), omega (arith, e))
      | inr (inr w) ↦ inr w
    ]

pub has_pushed_old : (from count : ℕ) (waiting : List ℕ) (m : ℕ) → Has waiting m → Has (pushed from count waiting) m
has_pushed_old from zero waiting m h = h
has_pushed_old from (suc count) waiting m h = has_pushed_old (suc from) count (from ∷ waiting) m (inr h)

pub has_pushed_new : (from count : ℕ) (waiting : List ℕ) (m : ℕ) → from ≤ m → m < from + count → Has (pushed from count waiting) m
has_pushed_new from zero waiting m l r = absurd (omega (arith, l, r))
has_pushed_new from (suc count) waiting m l r = elim (cases_lt from m) as (λ o. Has (pushed (suc from) count (from ∷ waiting)) m) [
  | inl k ↦ has_pushed_new (suc from) count (from ∷ waiting) m (omega (arith, k)) (omega (arith, r))
  | inr k ↦ has_pushed_old (suc from) count (from ∷ waiting) m (inl (omega (arith, l, k)))
]

-- later ones are before earlier ones, and all of them before what waited
pub pushed_order : (nodes : List GraphNode) (parent : ℕ → ℕ) (from count : ℕ) (waiting : List ℕ)
    → ((a b : ℕ) → from ≤ a → a < b → b < from + count → IsBefore nodes parent b a)
    → ((a m : ℕ) → from ≤ a → a < from + count → Has waiting m → IsBefore nodes parent a m) → AreInOrder nodes parent waiting
    → AreInOrder nodes parent (pushed from count waiting)
pushed_order nodes parent from zero waiting each over order = order
pushed_order nodes parent from (suc count) waiting each over order =
    pushed_order nodes parent (suc from) count (from ∷ waiting)
    (λ a b l m r. each a b (omega (arith, l)) m (omega (arith, r)))
    (λ a m l r h. next a m l r h)
    (λ m h. over from m (omega arith) (omega arith) h, order)
  where
    next : (a m : ℕ) → suc from ≤ a → a < suc from + count → (from ≡ m) ⊎ Has waiting m → IsBefore nodes parent a m
    next a m l r (inl e) = subst (λ (x : ℕ). IsBefore nodes parent a x) e (each from a (omega arith) (omega (arith, l)) (omega (arith, r)))
    next a m l r (inr h) = over a m (omega (arith, l)) (omega (arith, r)) h
