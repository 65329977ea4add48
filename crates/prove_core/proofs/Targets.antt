-- The cuts of a graph by the marks of its nodes.
use Rattle.std.proofs.Common.{◌≡◌, ◌∙◌, inl, inr, ◌+◌, ◌<◌, ◌≤◌, ◌==◌, ◌||◌, cond, nat_lt, slice_set, ℕ, zero, suc, Bool, true}
use Rattle.std.proofs.Common.{false, List, [], ◌∷◌, length, take, get_or, replicate, Some, slice_get, refl, sym, ap, subst, arith}
use Rattle.std.proofs.Common.{get_or-set_same, get_or-set_other}
use Rattle.std.specs.List.{AllByRecursion}
use Rattle.std.proofs.lemmas.Bool.{cases_eq, cases_lt, lt-ltb, le-ltb, eq-eqb, ne_eqb, or_right}
use Rattle.std.proofs.lemmas.Option.{slice_get_within, get_or_from_slice_get}
use Rattle.std.proofs.lemmas.List.{length-set, length-replicate, get_or-replicate}
use Rattle.std.proofs.lemmas.List.Elements.{All-from_recursion}
use Rattle.std.proofs.lemmas.List.Folds.{list_any_more}
use Rattle.list_views.proofs.Items.{take_past}
use Rattle.term_graph.specs.declared.nodes.By.{By}
use Rattle.term_graph.specs.declared.nodes.By.TheVariants.{Expand, Instance, End, Todo}
use Rattle.term_graph.specs.Graphs.{GraphNode}
use Rattle.path_rules.specs.Conditions.{CutsRise}
use Rattle.path_rules.specs.Paths.{is_cut}
use Rattle.prove_core.specs.Cuts.{is_instance_of, is_target, AreTargets}
use Rattle.prove_core.specs.inner.Words.{cuts_from, marked_by}

-- ---- marks

-- the marks of a graph's first nodes
pub record AreMarked (nodes : List GraphNode) (n : ℕ) (marks : List Bool) : Type 0 where
  pub count : length marks ≡ length nodes
  pub marked : (k : ℕ) → k < length nodes → get_or marks k false ≡ is_target (take n nodes) k

more_count : (by : By) (marks : List Bool) → length (marked_by by marks) ≡ length marks
more_count (Expand named) marks = refl
more_count (Instance target entries) marks = go (nat_lt target (length marks))
  where
    go : (b : Bool) → length (cond b (slice_set marks target true) marks) ≡ length marks
    go true = length-set marks target true
    go false = refl
more_count End marks = refl
more_count Todo marks = refl

or_false : (b : Bool) → b ≡ (b || false)
or_false true = refl
or_false false = refl

more_mark : (by : By) (marks : List Bool) (k : ℕ) → k < length marks
    → get_or (marked_by by marks) k false ≡ (get_or marks k false || is_instance_of k by)
more_mark (Expand named) marks k l = or_false (get_or marks k false)
more_mark (Instance target entries) marks k l = elim (cases_lt target (length marks)) as
    (λ o. get_or (cond (nat_lt target (length marks)) (slice_set marks target true) marks) k false
    ≡ (get_or marks k false || (target == k))) [
      | inl within ↦ ap (λ (b : Bool). get_or (cond b (slice_set marks target true) marks) k false)
          (lt-ltb target (length marks) within) ∙ set_to within
      | inr past ↦ ap (λ (b : Bool). get_or (cond b (slice_set marks target true) marks) k false) (le-ltb target (length marks) past)
          ∙ or_false (get_or marks k false)
          ∙ ap (λ (b : Bool). get_or marks k false || b) (sym (ne_eqb target k (λ e. omega (arith, e, past, l))))
    ]
  where
    set_to : target < length marks → get_or (slice_set marks target true) k false ≡ (get_or marks k false || (target == k))
    set_to within = elim (cases_eq target k) as
        (λ o. get_or (slice_set marks target true) k false ≡ (get_or marks k false || (target == k))) [
          | inl e ↦ subst (λ (m : ℕ). get_or (slice_set marks target true) m false ≡ true) e
              (get_or-set_same marks target true false within) ∙ sym (or_right (get_or marks k false) (target == k) (eq-eqb target k e))
          | inr d ↦ get_or-set_other marks target k true false (λ e. d (sym e)) ∙ or_false (get_or marks k false)
              ∙ ap (λ (b : Bool). get_or marks k false || b) (sym (ne_eqb target k d))
        ]
more_mark End marks k l = or_false (get_or marks k false)
more_mark Todo marks k l = or_false (get_or marks k false)

pub marked_more : (nodes : List GraphNode) (n : ℕ) (marks after : List Bool) (node : GraphNode) (by : By)
    → slice_get nodes n ≡ Some node → by ≡ node.by → after ≡ marked_by by marks → AreMarked nodes n marks → AreMarked nodes (n + 1) after
marked_more nodes n marks after node by at left e h =
    let within : n < length nodes = slice_get_within nodes n node at in
    let same : after ≡ marked_by node.by marks = e ∙ ap (λ (b : By). marked_by b marks) left in
    subst (AreMarked nodes (n + 1)) (sym same) (record {
      count = more_count node.by marks ∙ h.count;
      marked = λ k m. more_mark node.by marks k (omega (arith, m, h.count)) ∙ ap (λ (b : Bool). b || is_instance_of k node.by)
          (h.marked k m) ∙ ap (λ (x : GraphNode). is_target (take n nodes) k || is_instance_of k x.by)
          (sym (get_or_from_slice_get nodes n node node at))
          ∙ sym (list_any_more (λ (x : GraphNode). is_instance_of k x.by) nodes n node within);
    })

pub marked_first : (nodes : List GraphNode) (marks : List Bool) → marks ≡ replicate (length nodes) false → AreMarked nodes 0 marks
marked_first nodes marks e = subst (AreMarked nodes 0) (sym e)
    (record { count = length-replicate (length nodes) false; marked = λ k l. get_or-replicate (length nodes) k false false l })

pub marked_all : (nodes : List GraphNode) (n : ℕ) (marks : List Bool) → length nodes ≤ n → AreMarked nodes n marks → (k : ℕ)
    → k < length nodes → get_or marks k false ≡ is_target nodes k
marked_all nodes n marks l h k m = h.marked k m ∙ ap (λ (xs : List GraphNode). is_target xs k) (take_past n nodes l)

-- ---- cuts

less_low : (low : ℕ) (cuts : List ℕ) → CutsRise (suc low) cuts → CutsRise low cuts
less_low low [] h = tt
less_low low (cut ∷ cuts) h = (omega (arith, h.0), h.1)

either : (P : List ℕ → Type 0) (b : Bool) (n : ℕ) (rest : List ℕ) → P (n ∷ rest) → P rest → P (cond b (n ∷ rest) rest)
either P true n rest f g = f
either P false n rest f g = g

cuts_rise : (n : ℕ) (marks : List Bool) → CutsRise n (cuts_from n marks)
cuts_rise n [] = tt
cuts_rise n (mark ∷ marks) = let later = cuts_rise (suc n) marks in either (CutsRise n) ((n == 0) || mark) n
    (cuts_from (suc n) marks) (omega arith, later) (less_low n (cuts_from (suc n) marks) later)

below_all : (n end : ℕ) (marks : List Bool) → n + length marks ≤ end → AllByRecursion (λ (cut : ℕ). cut < end) (cuts_from n marks)
below_all n end [] h = tt
below_all n end (mark ∷ marks) h = let later = below_all (suc n) end marks (omega (arith, h)) in either
    (AllByRecursion (λ (cut : ℕ). cut < end)) ((n == 0) || mark) n (cuts_from (suc n) marks) (omega (arith, h), later) later

none_below : (n k : ℕ) (marks : List Bool) → k < n → is_cut (cuts_from n marks) k ≡ false
none_below n k [] l = refl
none_below n k (mark ∷ marks) l = let later = none_below (suc n) k marks (omega (arith, l)) in either
    (λ (cuts : List ℕ). is_cut cuts k ≡ false) ((n == 0) || mark) n (cuts_from (suc n) marks)
    (ap (λ (b : Bool). b || is_cut (cuts_from (suc n) marks) k) (ne_eqb n k (λ e. omega (arith, e, l))) ∙ later) later

first_cut : (n : ℕ) (mark : Bool) (marks : List Bool) → is_cut (cuts_from n (mark ∷ marks)) n ≡ ((n == 0) || mark)
first_cut n mark marks = go ((n == 0) || mark)
  where
    go : (b : Bool) → is_cut (cond b (n ∷ cuts_from (suc n) marks) (cuts_from (suc n) marks)) n ≡ b
    go true = ap (λ (b : Bool). b || is_cut (cuts_from (suc n) marks) n) (eq-eqb n n refl)
    go false = none_below (suc n) n marks (omega arith)

later_cut : (n k : ℕ) (mark : Bool) (marks : List Bool) → n < k
    → is_cut (cuts_from n (mark ∷ marks)) k ≡ is_cut (cuts_from (suc n) marks) k
later_cut n k mark marks l = either (λ (cuts : List ℕ). is_cut cuts k ≡ is_cut (cuts_from (suc n) marks) k) ((n == 0) || mark) n
    (cuts_from (suc n) marks) (ap (λ (b : Bool). b || is_cut (cuts_from (suc n) marks) k) (ne_eqb n k (λ e. omega (arith, e, l)))) refl

cut_at : (n k m : ℕ) (marks : List Bool) → m ≡ n + k → k < length marks → is_cut (cuts_from n marks) m ≡ ((m == 0) || get_or marks k false)
cut_at n k m [] e l = absurd (omega (arith, l))
cut_at n zero m (mark ∷ marks) e l =
    let same : n ≡ m = omega (arith, e) in
    subst (λ (x : ℕ). is_cut (cuts_from n (mark ∷ marks)) x ≡ ((x == 0) || mark)) same (first_cut n mark marks)
cut_at n (suc k) m (mark ∷ marks) e l = later_cut n m mark marks (omega (arith, e))
    ∙ cut_at (suc n) k m marks (omega (arith, e)) (omega (arith, l))

pub cuts_are : (nodes : List GraphNode) (marks : List Bool) (cuts : List ℕ) → length marks ≡ length nodes
    → ((n : ℕ) → n < length nodes → get_or marks n false ≡ is_target nodes n) → cuts ≡ cuts_from 0 marks → AreTargets nodes cuts
cuts_are nodes marks cuts count are e = subst (AreTargets nodes) (sym e) (record {
  rise = cuts_rise 0 marks;
  within = All-from_recursion (λ (cut : ℕ). cut < length nodes) (cuts_from 0 marks)
      (below_all 0 (length nodes) marks (omega (arith, count)));
  are = λ n l. cut_at 0 n n marks (omega arith) (omega (arith, l, count)) ∙ ap (λ (b : Bool). (n == 0) || b) (are n l);
})
