-- The nodes of a graph after one growth.
use Rattle.std.proofs.Common.{◌≡◌, ◌≢◌, ℕ, zero, suc, ◌+◌, ◌-◌, ◌<◌, ◌≤◌, List, [], ◌∷◌, ◌++◌, length, get_or, map, replicate, Some}
use Rattle.std.proofs.Common.{ap, arith, refl, ◌∙◌, sym, length-append}
use Rattle.std.specs.Prelude.{slice_get}
use Rattle.std.proofs.lemmas.List.{get_or-replicate}
use Rattle.std.proofs.lemmas.Option.{slice_get_within, same_Some}
use Rattle.list_views.proofs.Items.{get_front, get_behind}
use Rattle.abs_cells.specs.AbstractStates.{AbstractState}
use Rattle.term_graph.specs.declared.nodes.By.{By}
use Rattle.term_graph.specs.declared.nodes.By.TheVariants.{Expand, Todo}
use Rattle.term_graph.specs.Graphs.{GraphNode, left_by}
use Rattle.graph_build.specs.Disciplined.{IsNode, Names}
use Rattle.graph_build.specs.inner.Working.{parent_in, todo}
use Rattle.graph_build.proofs.Extending.{Extends}

-- ---- lists

pub or_left_part : (xs ys : List ℕ) (m : ℕ) → m < length xs → get_or (xs ++ ys) m 0 ≡ get_or xs m 0
or_left_part [] ys m l = absurd (omega (arith, l))
or_left_part (x ∷ xs) ys zero l = refl
or_left_part (x ∷ xs) ys (suc m) l = or_left_part xs ys m (omega (arith, l))

pub or_right_part : (xs ys : List ℕ) (m : ℕ) → get_or (xs ++ ys) (length xs + m) 0 ≡ get_or ys m 0
or_right_part [] ys m = ap (λ (k : ℕ). get_or ys k 0) (omega arith)
or_right_part (x ∷ xs) ys m =
    let next : length (x ∷ xs) + m ≡ suc (length xs + m) = omega arith in
    ap (λ (k : ℕ). get_or (x ∷ (xs ++ ys)) k 0) next ∙ or_right_part xs ys m

pub node_is : (nodes : List GraphNode) (n : ℕ) (node : GraphNode) (s : AbstractState) → slice_get nodes n ≡ Some node
    → s ≡ node.state → IsNode nodes n s node.by
node_is nodes n node s h e = h ∙ ap (λ (x : AbstractState). Some (record { state = x; by = node.by })) (sym e)

-- ---- a node that is left in another way

pub length_left : (nodes : List GraphNode) (n : ℕ) (by : By) → length (left_by nodes n by) ≡ length nodes
length_left [] n by = refl
length_left (node ∷ nodes) zero by = refl
length_left (node ∷ nodes) (suc n) by = ap suc (length_left nodes n by)

pub left_here : (nodes : List GraphNode) (n : ℕ) (by : By) (s : AbstractState) (b : By) → IsNode nodes n s b
    → IsNode (left_by nodes n by) n s by
left_here [] n by s b h = absurd (omega (arith, slice_get_within {A = GraphNode} [] n (record { state = s; by = b }) h))
left_here (node ∷ nodes) zero by s b h = ap (λ (x : GraphNode). Some (record { state = x.state; by = by }))
    (same_Some node (record { state = s; by = b }) h)
left_here (node ∷ nodes) (suc n) by s b h = left_here nodes n by s b h

pub left_elsewhere : (nodes : List GraphNode) (n m : ℕ) (by : By) → m ≢ n → slice_get (left_by nodes n by) m ≡ slice_get nodes m
left_elsewhere [] n m by d = refl
left_elsewhere (node ∷ nodes) zero zero by d = absurd (d refl)
left_elsewhere (node ∷ nodes) zero (suc m) by d = refl
left_elsewhere (node ∷ nodes) (suc n) zero by d = refl
left_elsewhere (node ∷ nodes) (suc n) (suc m) by d = left_elsewhere nodes n m by (λ e. d (ap suc e))

-- ---- one growth

pub length_map_todo : (states : List AbstractState) → length (map todo states) ≡ length states
length_map_todo [] = refl
length_map_todo (s ∷ ss) = ap suc (length_map_todo ss)

pub todo_at : (states : List AbstractState) (i : ℕ) (s : AbstractState) (b : By) → IsNode (map todo states) i s b → b ≡ Todo
todo_at [] i s b h = absurd (omega (arith, slice_get_within {A = GraphNode} [] i (record { state = s; by = b }) h))
todo_at (x ∷ xs) zero s b h = sym (ap (λ (node : GraphNode). node.by) (same_Some (todo x) (record { state = s; by = b }) h))
todo_at (x ∷ xs) (suc i) s b h = todo_at xs i s b h

-- how the way in which a node is left goes with the new nodes
pub record Fresh (from count : ℕ) (by : By) : Type 0 where
  pub done : by ≢ Todo
  pub named : (m : ℕ) → from ≤ m → m < from + count → Names by m
  pub names : (list : List ℕ) (place child : ℕ) → by ≡ Expand list → slice_get list place ≡ Some child → (from ≤ child)
      × (child < from + count)
  pub in_order : (list : List ℕ) (i j a b : ℕ) → by ≡ Expand list → i < j → slice_get list i ≡ Some a → slice_get list j ≡ Some b → a < b

module _ (nodes : List GraphNode) (parents : List ℕ) (n : ℕ) (state : AbstractState) (by : By) (states : List AbstractState)
    (was : IsNode nodes n state Todo) (same_length : length parents ≡ length nodes) (f : Fresh (length nodes) (length states) by) where
  pub count : length (left_by (nodes ++ map todo states) n by) ≡ length nodes + length states
  count = length_left (nodes ++ map todo states) n by ∙ length-append nodes (map todo states)
      ∙ ap (λ (k : ℕ). length nodes + k) (length_map_todo states)

  low : n < length nodes
  low = slice_get_within nodes n (record { state = state; by = Todo }) was

  at_left : (m : ℕ) → m ≢ n → m < length nodes → slice_get (left_by (nodes ++ map todo states) n by) m ≡ slice_get nodes m
  at_left m d l = left_elsewhere (nodes ++ map todo states) n m by d ∙ get_front nodes (map todo states) m l

  fresh_open : (m : ℕ) (s : AbstractState) (b : By) → length nodes ≤ m → IsNode (left_by (nodes ++ map todo states) n by) m s b → b ≡ Todo
  fresh_open m s b l h =
      let d : m ≢ n = λ e. absurd (omega (arith, e, low, l)) in
      let place : length nodes + (m - length nodes) ≡ m = omega (arith, l) in
      todo_at states (m - length nodes) s b
      (sym (get_behind nodes (map todo states) (m - length nodes))
      ∙ ap (λ (k : ℕ). slice_get (nodes ++ map todo states) k) place
      ∙ sym (left_elsewhere (nodes ++ map todo states) n m by d) ∙ h)

  fresh : (m : ℕ) → length nodes ≤ m → m < length (left_by (nodes ++ map todo states) n by)
      → parent_in (parents ++ replicate (length states) n) m ≡ n
  fresh m l r =
      let place : length parents + (m - length nodes) ≡ m = omega (arith, l, same_length) in
      ap (λ (k : ℕ). get_or (parents ++ replicate (length states) n) k 0) (sym place)
      ∙ or_right_part parents (replicate (length states) n) (m - length nodes)
      ∙ get_or-replicate (length states) (m - length nodes) n 0 (omega (arith, l, r, count))

  pub extends : Extends nodes (left_by (nodes ++ map todo states) n by) (parent_in parents)
      (parent_in (parents ++ replicate (length states) n)) n state by
  extends = record {
    was = was;
    now = left_here (nodes ++ map todo states) n by state Todo (get_front nodes (map todo states) n low ∙ was);
    done = f.done;
    kept = λ m s b d h. at_left m d (slice_get_within nodes m (record { state = s; by = b }) h) ∙ h;
    back = λ m s b d l h. sym (at_left m d l) ∙ h;
    more = omega (arith, count);
    same = λ m l. or_left_part parents (replicate (length states) n) m (omega (arith, l, same_length));
    fresh = fresh;
    fresh_open = fresh_open;
    named = λ m l r. f.named m l (omega (arith, r, count));
    names = λ list place child e at. (let x = f.names list place child e at in (x.0, omega (arith, x.1, count)));
    in_order = f.in_order;
  }
