-- The most steps from the cuts are the most on a path or on a way to an End node.
use Rattle.std.proofs.Common.{◌≡◌, ◌⊎◌, inl, inr, ℕ, zero, suc, ◌+◌, ◌<◌, ◌≤◌, Bool, true, false, cond, List, [], ◌∷◌, length, map}
use Rattle.std.proofs.Common.{get_or, Option, Some, None, subst, ap, arith, refl, ◌∙◌, sym}
use Rattle.std.specs.Prelude.{nat_lt, pred, slice_get, ◌==◌, ◌||◌}
use Rattle.std.specs.Option.{option_map_or, option_and_then}
use Rattle.std.proofs.lemmas.Bool.{or_cases, or_left, or_right, eqb-true, eq-eqb}
use Rattle.std.proofs.lemmas.List.{length-map}
use Rattle.jvm_values.specs.Paths.{follow}
use Rattle.number_graphs.specs.Lists.{row_at}
use Rattle.term_graph.specs.declared.links.Link.{Link}
use Rattle.term_graph.specs.declared.nodes.By.{By}
use Rattle.term_graph.specs.declared.nodes.By.TheVariants.{Expand, Instance, End, Todo}
use Rattle.term_graph.specs.Graphs.{GraphNode, successors}
use Rattle.path_rules.specs.Paths.{Path, IsPath, edges, inner_edges, is_cut, only_last, end_of}
use Rattle.path_rules.specs.Successors.{has_mark, AreMarks, lists_of}
use Rattle.path_rules.proofs.Whole.{row_is}
use Rattle.bound_check.specs.Bounds.{step_of_link, steps_of_edge, steps_along, IsLastWay, HasAtMost, IsMostSteps}
use Rattle.bound_check.specs.inner.Walking.{is_end, ends_of, greater, links_of, most_from, Ends, steps_on, HasSteps, IsRight, AreRight}
use Rattle.bound_check.proofs.Walking.{greater_left, greater_right, greater_is, le_both}

-- ---- End nodes

by_end : (by : By) → is_end by ≡ true → by ≡ End
by_end (Expand children) e = absurd (cc)
by_end (Instance target map) e = absurd (cc)
by_end End e = refl
by_end Todo e = absurd (cc)

record IsEnded (nodes : List GraphNode) (node : ℕ) : Type 0 where
  pub n : GraphNode
  pub is : slice_get nodes node ≡ Some n
  pub ends : n.by ≡ End

ended_is : (nodes : List GraphNode) (node : ℕ) → get_or (ends_of nodes) node false ≡ true → IsEnded nodes node
ended_is [] node e = absurd (cc)
ended_is (x ∷ nodes) zero e = record { n = x; is = refl; ends = by_end x.by e }
ended_is (x ∷ nodes) (suc node) e = let more = ended_is nodes node e in record { n = more.n; is = more.is; ends = more.ends }

is_ended : (nodes : List GraphNode) (node : ℕ) (n : GraphNode) → slice_get nodes node ≡ Some n → n.by ≡ End
    → get_or (ends_of nodes) node false ≡ true
is_ended [] node n e b = absurd (cc)
is_ended (x ∷ nodes) zero n e b = let same : x ≡ n = cc in ap is_end (ap (λ (m : GraphNode). m.by) same ∙ b)
is_ended (x ∷ nodes) (suc node) n e b = is_ended nodes node n e b

pub ends_long : (nodes : List GraphNode) (lists : List (List ℕ)) (ends : List Bool) → lists ≡ lists_of nodes → ends ≡ ends_of nodes
    → length ends ≡ length lists
ends_long nodes lists ends l e =
    ap (λ (b : List Bool). length b) e ∙ length-map nodes (λ (n : GraphNode). is_end n.by)
    ∙ sym (ap (λ (b : List (List ℕ)). length b) l ∙ length-map nodes (λ (n : GraphNode). successors n.by))

-- ---- ways of a graph and of its lists

module _ (nodes : List GraphNode) (links : List (List Link)) (cuts : List ℕ) (marks : List Bool) (are : AreMarks cuts marks) where
  abbrev lists : List (List ℕ)
  lists = lists_of nodes

  abbrev ends : List Bool
  ends = ends_of nodes

  only_none : (places : List ℕ) (t to : ℕ) → only_last places t ≡ Some to → places ≡ []
  only_none [] t to e = refl
  only_none (place ∷ places) t to e = absurd (cc)

  path_by_cut : (places : List ℕ) (node place t to : ℕ) (b : Bool) → edges nodes node place ≡ Some t → is_cut cuts t ≡ b
      → cond b (only_last places t) (end_of nodes cuts t places) ≡ Some to
      → (end_of nodes cuts t places ≡ Some to → Ends lists marks ends t places) → Ends lists marks ends node (place ∷ places)
  path_by_cut places node place t to true k m h more = (t, (row_is nodes node place ∙ k, inl (are t ∙ m, only_none places t to h)))
  path_by_cut places node place t to false k m h more = (t, (row_is nodes node place ∙ k, inr (are t ∙ m, more h)))

  path_by_edge : (places : List ℕ) (node place to : ℕ) (o : Option ℕ) → edges nodes node place ≡ o
      → option_and_then (λ (t : ℕ). cond (is_cut cuts t) (only_last places t) (end_of nodes cuts t places)) o ≡ Some to
      → ((t : ℕ) → end_of nodes cuts t places ≡ Some to → Ends lists marks ends t places) → Ends lists marks ends node (place ∷ places)
  path_by_edge places node place to None k g more = absurd (cc)
  path_by_edge places node place to (Some t) k g more = path_by_cut places node place t to (is_cut cuts t) k refl g (more t)

  path_ends : (places : List ℕ) (node to : ℕ) → end_of nodes cuts node places ≡ Some to → Ends lists marks ends node places
  path_ends [] node to e = absurd (cc)
  path_ends (place ∷ places) node to e = path_by_edge places node place to (edges nodes node place) refl e
      (λ t k. path_ends places t to k)

  way_by_cut : (places : List ℕ) (node place t to : ℕ) (b : Bool) → edges nodes node place ≡ Some t → is_cut cuts t ≡ b
      → option_and_then (follow (inner_edges nodes cuts) places) (cond b None (Some t)) ≡ Some to
      → (follow (inner_edges nodes cuts) places t ≡ Some to → Ends lists marks ends t places)
      → Ends lists marks ends node (place ∷ places)
  way_by_cut places node place t to true k m h more = absurd (cc)
  way_by_cut places node place t to false k m h more = (t, (row_is nodes node place ∙ k, inr (are t ∙ m, more h)))

  way_by_edge : (places : List ℕ) (node place to : ℕ) (o : Option ℕ) → edges nodes node place ≡ o
      → option_and_then (follow (inner_edges nodes cuts) places)
      (option_and_then (λ (t : ℕ). cond (is_cut cuts t) None (Some t)) o) ≡ Some to
      → ((t : ℕ) → follow (inner_edges nodes cuts) places t ≡ Some to → Ends lists marks ends t places)
      → Ends lists marks ends node (place ∷ places)
  way_by_edge places node place to None k g more = absurd (cc)
  way_by_edge places node place to (Some t) k g more = way_by_cut places node place t to (is_cut cuts t) k refl g (more t)

  way_ends : (places : List ℕ) (node to : ℕ) (n : GraphNode) → follow (inner_edges nodes cuts) places node ≡ Some to
      → slice_get nodes to ≡ Some n → n.by ≡ End → Ends lists marks ends node places
  way_ends [] node to n e is b =
      let same : node ≡ to = cc in
      is_ended nodes node n (ap (λ (m : ℕ). slice_get nodes m) same ∙ is) b
  way_ends (place ∷ places) node to n e is b = way_by_edge places node place to (edges nodes node place) refl e
      (λ t k. way_ends places t to n k is b)

  -- a way to an End node
  record IsLast (node : ℕ) (places : List ℕ) : Type 0 where
    pub to : ℕ
    pub leads : follow (inner_edges nodes cuts) places node ≡ Some to
    pub ended : IsEnded nodes to

  abbrev IsEither : ℕ → List ℕ → Type 0
  IsEither node places = ((to : ℕ) × (end_of nodes cuts node places ≡ Some to)) ⊎ IsLast node places

  edge_there : (node place t : ℕ) → slice_get (row_at lists node) place ≡ Some t → edges nodes node place ≡ Some t
  edge_there node place t e = sym (row_is nodes node place) ∙ e

  by_cut : (node place t : ℕ) → slice_get (row_at lists node) place ≡ Some t → has_mark marks t ≡ true → end_of nodes cuts node
      (place ∷ []) ≡ Some t
  by_cut node place t e m =
      ap (option_and_then (λ (x : ℕ). cond (is_cut cuts x) (only_last [] x) (end_of nodes cuts x []))) (edge_there node place t e)
      ∙ ap (λ (b : Bool). cond b (Some t) None) (sym (are t) ∙ m)

  path_on : (node place t to : ℕ) (places : List ℕ) → slice_get (row_at lists node) place ≡ Some t → has_mark marks t ≡ false
      → end_of nodes cuts t places ≡ Some to → end_of nodes cuts node (place ∷ places) ≡ Some to
  path_on node place t to places e m k =
      ap (option_and_then (λ (x : ℕ). cond (is_cut cuts x) (only_last places x) (end_of nodes cuts x places)))
      (edge_there node place t e)
      ∙ (ap (λ (b : Bool). cond b (only_last places t) (end_of nodes cuts t places)) (sym (are t) ∙ m) ∙ k)

  way_on : (node place t to : ℕ) (places : List ℕ) → slice_get (row_at lists node) place ≡ Some t → has_mark marks t ≡ false
      → follow (inner_edges nodes cuts) places t ≡ Some to → follow (inner_edges nodes cuts) (place ∷ places) node ≡ Some to
  way_on node place t to places e m k =
      ap (λ (o : Option ℕ). option_and_then (follow (inner_edges nodes cuts) places)
      (option_and_then (λ (x : ℕ). cond (is_cut cuts x) None (Some x)) o)) (edge_there node place t e)
      ∙ (ap (λ (b : Bool). option_and_then (follow (inner_edges nodes cuts) places) (cond b None (Some t))) (sym (are t) ∙ m) ∙ k)

  either_on : (places : List ℕ) (node place t : ℕ) → slice_get (row_at lists node) place ≡ Some t
      → ((has_mark marks t ≡ true) × (places ≡ [])) ⊎ ((has_mark marks t ≡ false) × Ends lists marks ends t places)
      → (Ends lists marks ends t places → IsEither t places) → IsEither node (place ∷ places)
  either_on places node place t e (inl k) more =
      subst (λ (ps : List ℕ). IsEither node (place ∷ ps)) (sym k.1) (inl (t, by_cut node place t e k.0))
  either_on places node place t e (inr k) more = elim (more k.1) as (λ o. IsEither node (place ∷ places)) [
    | inl p ↦ inl (p.0, path_on node place t p.0 places e k.0 p.1)
    | inr l ↦ inr (record { to = l.to; leads = way_on node place t l.to places e k.0 l.leads; ended = l.ended })
  ]

  ends_either : (places : List ℕ) (node : ℕ) → Ends lists marks ends node places → IsEither node places
  ends_either [] node way = inr (record { to = node; leads = refl; ended = ended_is nodes node way })
  ends_either (place ∷ places) node way = either_on places node place way.0 way.1.0 way.1.1 (λ w. ends_either places way.0 w)

  link_same : (node place : ℕ) → step_of_link (slice_get (links_of links node) place) ≡ steps_of_edge links node place
  link_same node place = at (slice_get links node)
    where
      at : (o : Option (List Link)) → step_of_link (slice_get (option_map_or (λ (own : List Link). own) o []) place)
          ≡ step_of_link (option_map_or (λ (own : List Link). slice_get own place) o None)
      at None = refl
      at (Some own) = refl

  same_behind : (places : List ℕ) (o : Option ℕ)
      → ((to : ℕ) → steps_on lists links to places ≡ steps_along nodes links to places)
      → option_map_or (λ (to : ℕ). steps_on lists links to places) o 0 ≡ option_map_or (λ (to : ℕ). steps_along nodes links to places) o 0
  same_behind places None more = refl
  same_behind places (Some to) more = more to

  steps_same : (places : List ℕ) (node : ℕ) → steps_on lists links node places ≡ steps_along nodes links node places
  steps_same [] node = refl
  steps_same (place ∷ places) node =
      ap (λ (n : ℕ). n + option_map_or (λ (to : ℕ). steps_on lists links to places) (slice_get (row_at lists node) place) 0)
      (link_same node place)
      ∙ ap (λ (n : ℕ). steps_of_edge links node place + n)
      (ap (λ (o : Option ℕ). option_map_or (λ (to : ℕ). steps_on lists links to places) o 0) (row_is nodes node place)
      ∙ same_behind places (edges nodes node place) (λ to. steps_same places to))

  -- ---- from the cuts

  from_grows : (most : List ℕ) (best : ℕ) (own : List ℕ) → best ≤ most_from most best own
  from_grows most best [] = omega arith
  from_grows most best (cut ∷ own) =
      let here = pred (get_or most cut 0) in
      le_both best (greater best here) (most_from most (greater best here) own) (greater_left best here)
      (from_grows most (greater best here) own)

  from_has : (most : List ℕ) (best : ℕ) (own : List ℕ) (cut : ℕ) → is_cut own cut ≡ true
      → pred (get_or most cut 0) ≤ most_from most best own
  from_has most best [] cut e = absurd (cc)
  from_has most best (x ∷ own) cut e =
      let here = pred (get_or most x 0) in
      elim (or_cases (x == cut) (is_cut own cut) e) as (λ o. pred (get_or most cut 0) ≤ most_from most (greater best here) own) [
        | inl s ↦ subst (λ (c : ℕ). pred (get_or most c 0) ≤ most_from most (greater best here) own) (eqb-true x cut s)
            (le_both here (greater best here) (most_from most (greater best here) own) (greater_right best here)
            (from_grows most (greater best here) own))
        | inr r ↦ from_has most (greater best here) own cut r
      ]

  record IsFrom (most own : List ℕ) (steps : ℕ) : Type 0 where
    pub cut : ℕ
    pub is : is_cut own cut ≡ true
    pub steps_are : steps ≡ pred (get_or most cut 0)

  from_is : (most : List ℕ) (best : ℕ) (own : List ℕ) → (most_from most best own ≡ best) ⊎ IsFrom most own (most_from most best own)
  from_is most best [] = inl refl
  from_is most best (x ∷ own) =
      let here = pred (get_or most x 0) in
      elim (from_is most (greater best here) own) as (λ o. (most_from most (greater best here) own ≡ best)
      ⊎ IsFrom most (x ∷ own) (most_from most (greater best here) own)) [
        | inl s ↦ elim (greater_is best here) as (λ o. (most_from most (greater best here) own ≡ best)
            ⊎ IsFrom most (x ∷ own) (most_from most (greater best here) own)) [
              | inl t ↦ inl (s ∙ t)
              | inr t ↦ inr (record { cut = x; is = or_left (x == x) (is_cut own x) (eq-eqb x x refl); steps_are = s ∙ t })
            ]
        | inr f ↦ inr (record { cut = f.cut; is = or_right (x == f.cut) (is_cut own f.cut) f.is; steps_are = f.steps_are })
      ]

  -- ---- the whole

  module _ (most : List ℕ) (right : AreRight links lists marks ends most) where
    abbrev whole : ℕ
    whole = most_from most 0 cuts

    within : (cut : ℕ) (places : List ℕ) → is_cut cuts cut ≡ true → Ends lists marks ends cut places
        → steps_along nodes links cut places ≤ whole
    within cut places is way =
        let here = (right cut).enough places way in
        let most_is = from_has most 0 cuts cut is in
        let same = steps_same places cut in
        at (get_or most cut 0) refl here most_is same
      where
        at : (n : ℕ) → get_or most cut 0 ≡ n → suc (steps_on lists links cut places) ≤ n → pred n ≤ whole
            → steps_on lists links cut places ≡ steps_along nodes links cut places → steps_along nodes links cut places ≤ whole
        at zero e l m s = absurd (omega (arith, l))
        at (suc n) e l m s = omega (arith, l, m, s)

    enough : HasAtMost nodes links cuts whole
    enough = record {
      paths = λ path is. within path.from path.places is.starts (path_ends path.places path.from is.to is.ends);
      last = λ cut places is. within cut places is.starts (way_ends places cut is.to is.node is.leads is.is is.ends);
    }

    way_within : (other : ℕ) → HasAtMost nodes links cuts other → (cut : ℕ) (places : List ℕ) → is_cut cuts cut ≡ true
        → IsEither cut places → steps_along nodes links cut places ≤ other
    way_within other has cut places is (inl p) = has.paths (record { from = cut; places = places })
        (record { starts = is; to = p.0; ends = p.1 })
    way_within other has cut places is (inr l) = has.last cut places
        (record { starts = is; to = l.to; leads = l.leads; node = l.ended.n; is = l.ended.is; ends = l.ended.ends })

    from_within : (other : ℕ) → HasAtMost nodes links cuts other → (cut : ℕ) → is_cut cuts cut ≡ true → (n : ℕ)
        → get_or most cut 0 ≡ n → pred n ≤ other
    from_within other has cut is zero e = omega arith
    from_within other has cut is (suc steps) e =
        let way = (right cut).reached steps e in
        let low = way_within other has cut way.places is (ends_either way.places cut way.way) in
        let same = steps_same way.places cut in
        let there = way.are in
        omega (arith, low, same, there)

    least : (other : ℕ) → HasAtMost nodes links cuts other → whole ≤ other
    least other has = elim (from_is most 0 cuts) as (λ o. whole ≤ other) [
      | inl s ↦ omega (arith, s)
      | inr f ↦ let low = from_within other has f.cut f.is (get_or most f.cut 0) refl in let is = f.steps_are in omega (arith, low, is)
    ]

    whole_is : IsMostSteps nodes links cuts whole
    whole_is = record { enough = enough; least = least }

pub most_steps : (nodes : List GraphNode) (links : List (List Link)) (cuts : List ℕ) (rows : List (List ℕ)) (marks last : List Bool)
    (most : List ℕ) (steps : ℕ) → rows ≡ lists_of nodes → last ≡ ends_of nodes → AreMarks cuts marks
    → AreRight links rows marks last most → steps ≡ most_from most 0 cuts → IsMostSteps nodes links cuts steps
most_steps nodes links cuts rows marks last most steps l e are right is =
    subst (λ (n : ℕ). IsMostSteps nodes links cuts n) (sym is)
    (whole_is nodes links cuts marks are most
    (subst (λ (b : List Bool). AreRight links (lists_of nodes) marks b most) e
    (subst (λ (x : List (List ℕ)). AreRight links x marks last most) l right)))
