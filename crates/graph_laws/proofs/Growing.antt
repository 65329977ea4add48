-- The states of a disciplined graph grow, one after another, and the whole graph is good.
use Rattle.std.proofs.Common.{◌≡◌, ◌∙◌, ◌<◌, ◌≤◌, ℕ, zero, suc, Bool, List, [], ◌∷◌, length, map, Some}
use Rattle.std.proofs.Common.{slice_get, ◌⊎◌, inl, inr, refl, sym, ap, subst, arith}
use Rattle.std.specs.List.{AllByRecursion, AllZip}
use Rattle.std.proofs.lemmas.Option.{none-some}
use Rattle.jvm_values.proofs.Options.{some_is}
use Rattle.abs_cells.specs.AbstractStates.{AbstractState}
use Rattle.abs_reach.specs.Instances.{InstanceOf, head_of, is_thrown}
use Rattle.abs_widen.specs.Widening.{IsWidening}
use Rattle.class_world.specs.WorldTypes.{types_of}
use Rattle.class_program.specs.Programs.{Program, IsClosed}
use Rattle.class_program.specs.Widths.{HasWidths}
use Rattle.frame_types.specs.Tables.{CodeTypes}
use Rattle.grow_laws.specs.CodeVerifyTypings.{IsTypingOf}
use Rattle.term_graph.specs.declared.links.Link.{Link}
use Rattle.term_graph.specs.declared.nodes.By.{By}
use Rattle.term_graph.specs.declared.nodes.By.TheVariants.{Expand, Instance, End, Todo}
use Rattle.term_graph.specs.Graphs.{GraphNode, GraphChild}
use Rattle.grow_laws.specs.place_sorts.Growing.{IsGrowing}
use Rattle.grow_laws.specs.Laws.{GrowingChildren}
use Rattle.grow_laws.specs.Laws.{GrowingStatesStandAlike, GrowingWidenings}
use Rattle.graph_build.specs.Disciplined.{IsNode, IsAboveBy, IsAbove, IsAtOrAbove, IsUnderLater, IsFirstMatch}
use Rattle.graph_build.specs.Disciplined.{IsStateAt, IsMatched, IsWidened, IsLeftAsDue, IsDisciplinedBy, Names}
use Rattle.graph_build.specs.Rules.{GrowthRules}
use Rattle.graph_check.specs.Good.{HasChildren, HasEnded, NamesChild, IsLeftBy, IsGoodNode, GraphOk}
use Rattle.graph_laws.specs.Growth.{growth_by}
use Rattle.graph_build.specs.Answers.{IsClosed as HasNoOpenNode}

-- ---- lists

got_within : {X : Type 0} (xs : List X) (n : ℕ) (x : X) → slice_get xs n ≡ Some x → n < length xs
got_within [] n x e = absurd (none-some x e)
got_within (y ∷ xs) zero x e = omega arith
got_within (y ∷ xs) (suc n) x e = let l = got_within xs n x e in omega (arith, l)

-- what stands beside an item of two lists
zip_back : {A B : Type 0} (R : A → B → Type 0) (xs : List A) (ys : List B) (n : ℕ) (y : B) → AllZip R xs ys
    → slice_get ys n ≡ Some y → (x : A) × ((slice_get xs n ≡ Some x) × R x y)
zip_back R xs [] n y h e = absurd (none-some y e)
zip_back R [] (z ∷ ys) n y h e = absurd h
zip_back R (x ∷ xs) (z ∷ ys) zero y h e = (x, (refl, subst (R x) (some_is e) h.0))
zip_back R (x ∷ xs) (z ∷ ys) (suc n) y h e = zip_back R xs ys n y h.1 e

mapped_back : (P : AbstractState → Type 0) (children : List GraphChild) (n : ℕ) (s : AbstractState)
    → AllByRecursion (λ (child : GraphChild). P child.state) children
    → slice_get (map (λ (child : GraphChild). child.state) children) n ≡ Some s → P s
mapped_back P [] n s a e = absurd (none-some s e)
mapped_back P (child ∷ children) zero s a e = subst P (some_is e) a.0
mapped_back P (child ∷ children) (suc n) s a e = mapped_back P children n s a.1 e

-- rules by which the graph of a program's runs grows: by expansions, instances and widenings
pub record GrowsBy (p : Program) (typing : ℕ → CodeTypes) (rules : GrowthRules) : Type 0 where
  pub ends : (state : AbstractState) → rules.Ends state → HasEnded p typing state
  pub children : (state : AbstractState) (states : List AbstractState) → rules.HasChildren state states
      → (children : List GraphChild)
      × (HasChildren p typing state children × (states ≡ map (λ (child : GraphChild). child.state) children))
  pub instance : (state other : AbstractState) (entries : List (ℕ × ℕ)) → rules.IsInstance state other entries
      → InstanceOf (types_of p.world).sub state other entries
  pub widening : (a b wide : AbstractState) → rules.HasWidening a b wide → IsWidening (types_of p.world) a b wide

pub grows_by : (p : Program) (typing : ℕ → CodeTypes) (is_head : AbstractState → Bool) → GrowsBy p typing (growth_by p typing is_head)
grows_by p typing is_head = record {
  ends = λ state e. e;
  children = λ state states h. (h.children, (h.are, h.states_are));
  instance = λ state other entries h. h;
  widening = λ a b wide h. h;
}

module _ (rules : GrowthRules) (root : AbstractState) (nodes : List GraphNode) (parent : ℕ → ℕ)
    (d : IsDisciplinedBy rules root nodes parent) where
  -- ---- the tree

  abbrev Count : ℕ
  Count = length nodes

  pub above_low : (between u v : ℕ) → v < length nodes → IsAboveBy parent u between v → u < v
  above_low zero u v l h =
      let low = d.tree.lower v h.0 l in
      subst (λ (n : ℕ). n < v) h.1 low
  above_low (suc between) u v l h =
      let low = d.tree.lower v h.0 l in
      let next = above_low between u (parent v) (omega (arith, low, l)) h.1 in
      omega (arith, low, next)

  at_or_above_low : (u v : ℕ) → v < length nodes → IsAtOrAbove parent u v → u ≤ v
  at_or_above_low u v l (inl e) = omega (arith, e)
  at_or_above_low u v l (inr h) = let low = above_low h.0 u v l h.1 in omega (arith, low)

  -- of two nodes above one the one is above the other
  chain : (k l a b v : ℕ) → IsAboveBy parent a k v → IsAboveBy parent b l v → (a ≡ b) ⊎ (IsAbove parent a b ⊎ IsAbove parent b a)
  chain zero zero a b v h g = inl (sym h.1 ∙ g.1)
  chain zero (suc l) a b v h g = inr (inr (l, subst (IsAboveBy parent b l) h.1 g.1))
  chain (suc k) zero a b v h g = inr (inl (k, subst (IsAboveBy parent a k) g.1 h.1))
  chain (suc k) (suc l) a b v h g = chain k l a b (parent v) h.1 g.1

  -- a node above another one is its parent's, or above that
  over_parent : (between u v : ℕ) → IsAboveBy parent u between v → IsAtOrAbove parent u (parent v)
  over_parent zero u v h = inl (sym h.1)
  over_parent (suc between) u v h = inr (between, h.1)

  -- a node isn't before its parent
  pub not_before : (n : ℕ) → 0 < n → n < length nodes → IsUnderLater nodes parent n (parent n) → ⊥
  not_before n positive within later =
      let first = d.tree.children later.at later.earlier later.first later.state later.named later.is later.is_first in
      let second = d.tree.children later.at later.later later.second later.state later.named later.is later.is_second in
      let order = d.tree.in_order later.at later.earlier later.later later.first later.second later.state later.named later.is
      later.order later.is_first later.is_second in
      let low = d.tree.lower n positive within in
      by later.at later.first later.second first.0 first.1 first.2 second.0 second.1 second.2 order low later.under_first
      later.under_second
    where
      -- a node above a child of another one is at or above that one, so lower than each of its children
      clash : (at first second : ℕ) → 0 < first → first < length nodes → parent first ≡ at → 0 < second → second < length nodes
          → parent second ≡ at → IsAbove parent first second → ⊥
      clash at first second f l e g m q above =
          let up : IsAtOrAbove parent first at = subst (IsAtOrAbove parent first) q (over_parent above.0 first second above.1) in
          let low : at < first = subst (λ (x : ℕ). x < first) e (d.tree.lower first f l) in
          let high = at_or_above_low first at (omega (arith, low, l)) up in
          omega (arith, low, high)

      both : (at first second v : ℕ) → 0 < first → first < length nodes → parent first ≡ at → 0 < second → second < length nodes
          → parent second ≡ at → first < second → v < length nodes → IsAtOrAbove parent first v → IsAtOrAbove parent second v → ⊥
      both at first second v f l e g m q o w (inl x) (inl y) = omega (arith, o, x, y)
      both at first second v f l e g m q o w (inl x) (inr y) = let low = above_low y.0 second v w y.1 in omega (arith, o, x, low)
      both at first second v f l e g m q o w (inr x) (inl y) = clash at first second f l e g m q
          (x.0, subst (IsAboveBy parent first x.0) (sym y) x.1)
      both at first second v f l e g m q o w (inr x) (inr y) = elim (chain x.0 y.0 first second v x.1 y.1) [
        | inl same ↦ omega (arith, o, same)
        | inr either ↦ elim either [
          | inl a ↦ clash at first second f l e g m q a
          | inr b ↦ let low = above_low b.0 second first l b.1 in omega (arith, o, low)
        ]
      ]

      by : (at first second : ℕ) → 0 < first → first < length nodes → parent first ≡ at → 0 < second → second < length nodes
          → parent second ≡ at → first < second → parent n < n → IsAtOrAbove parent first (parent n) → IsAtOrAbove parent second n → ⊥
      by at first second f l e g m q o low x (inl y) =
          let own : parent n ≡ at = ap parent (sym y) ∙ q in
          let up : IsAtOrAbove parent first at = subst (IsAtOrAbove parent first) own x in
          let under : at < first = subst (λ (z : ℕ). z < first) e (d.tree.lower first f l) in
          let high = at_or_above_low first at (omega (arith, under, l)) up in
          omega (arith, under, high)
      by at first second f l e g m q o low x (inr y) = both at first second (parent n) f l e g m q o (omega (arith, low, within)) x
          (over_parent y.0 second n y.1)

  -- ---- nodes

  same_state : (n : ℕ) (s t : AbstractState) (b c : By) → IsNode nodes n s b → IsNode nodes n t c → s ≡ t
  same_state n s t b c e f = ap (λ (node : GraphNode). node.state) (some_is (sym e ∙ f))

  module _ (p : Program) (typing : ℕ → CodeTypes) (closed : IsClosed p) (widths : HasWidths p) (typed : IsTypingOf p typing)
      (by_rules : GrowsBy p typing rules) where
    module _ (children_grow : GrowingChildren) (alike : GrowingStatesStandAlike) (widen : GrowingWidenings)
        (grows : IsGrowing p typing root) where
      abbrev Grows : AbstractState → Type 0
      Grows = IsGrowing p typing

      expanded_grow : (m n : ℕ) (state child : AbstractState) (by : By) (named : List ℕ) → Grows state
          → IsLeftAsDue rules nodes parent m state (Expand named) → Names (Expand named) n → IsNode nodes n child by → Grows child
      expanded_grow m n state child by named g left names is =
          let grown = left.1 in
          let k = by_rules.children state grown.children grown.are in
          let all = children_grow p typing state k.0 closed widths typed g k.1.0.1 in
          let back = zip_back (IsStateAt nodes) grown.children named names.0 n grown.names names.1 in
          let one : Grows back.0 = mapped_back Grows k.0 names.0 back.0 all
          (ap (λ (states : List AbstractState). slice_get states names.0) (sym k.1.1) ∙ back.1.0) in
          subst Grows (same_state n back.0 child back.1.1.by by back.1.1.is is) one

      widened_grows : (m n : ℕ) (state child : AbstractState) (by : By) (entries : List (ℕ × ℕ))
          → ((u : ℕ) (other : AbstractState) (b : By) → u < m → IsNode nodes u other b → Grows other) → m < length nodes → Grows state
          → IsWidened rules nodes parent m state n entries → IsNode nodes n child by → Grows child
      widened_grows m n state child by entries below l g h is =
          let a = h.due.alike in
          let low = above_low a.above.0 h.u m l a.above.1 in
          let g_above : Grows h.above = below h.u h.above h.is_above.by low h.is_above.is in
          let same : a.other ≡ h.above = same_state h.u a.other h.above a.earlier.by h.is_above.by a.earlier.is h.is_above.is in
          let heads = ap (λ (s : AbstractState). map head_of s.frames) (sym same) ∙ sym a.earlier.positions.frames in
          let thrown = ap (λ (s : AbstractState). is_thrown s.throwing) (sym same) ∙ sym a.earlier.positions.thrown in
          let wide : Grows h.wide = widen p typing h.above state h.wide closed g_above g
          (alike p typing h.above state typed g_above g heads thrown) (by_rules.widening h.above state h.wide h.widened) in
          subst Grows (same_state n h.wide child h.is_wide.by by h.is_wide.is is) wide

      -- a node whose parent grows
      next_grows : (n : ℕ) (child : AbstractState) (by : By) → 0 < n → n < length nodes
          → ((u : ℕ) (other : AbstractState) (b : By) → u < n → IsNode nodes u other b → Grows other) → IsNode nodes n child by
          → (state : AbstractState) (way : By) → IsNode nodes (parent n) state way → Names way n → Grows child
      next_grows n child by positive within below is state (Expand named) at names =
          let low = d.tree.lower n positive within in
          expanded_grow (parent n) n state child by named (below (parent n) state (Expand named) low at)
          (d.each (parent n) state (Expand named) at) names is
      next_grows n child by positive within below is state End at names = absurd names
      next_grows n child by positive within below is state Todo at names = absurd names
      next_grows n child by positive within below is state (Instance target entries) at names =
          let low = d.tree.lower n positive within in
          let g = below (parent n) state (Instance target entries) low at in
          go g low (d.each (parent n) state (Instance target entries) at)
        where
          go : Grows state → parent n < n → IsMatched rules nodes parent (parent n) state target entries
              ⊎ IsWidened rules nodes parent (parent n) state target entries → Grows child
          go g low (inl m) = elim (subst (λ (u : ℕ). IsFirstMatch rules nodes parent (parent n) state u) names m.due).met.earlier.before [
            | inl above ↦ absurd (let l = above_low above.0 n (parent n) (omega (arith, low, within)) above.1 in omega (arith, l, low))
            | inr later ↦ absurd (not_before n positive within later)
          ]
          go g low (inr w) =
              widened_grows (parent n) n state child by entries (λ u other b l e. below u other b (omega (arith, l, low)) e)
              (omega (arith, low, within)) g
              (subst (λ (u : ℕ). IsWidened rules nodes parent (parent n) state u entries) names w) is

      grow_below : (bound n : ℕ) → n < bound → (state : AbstractState) (by : By) → IsNode nodes n state by → Grows state
      grow_below zero n l state by is = absurd (omega (arith, l))
      grow_below (suc bound) zero l state by is = subst Grows (same_state 0 root state d.rooted.by by d.rooted.is is) grows
      grow_below (suc bound) (suc n) l state by is =
          let within = got_within nodes (suc n) _ is in
          let positive : 0 < suc n = omega arith in
          let from = d.tree.comes (suc n) positive within in
          next_grows (suc n) state by positive within (λ u other b m e. grow_below bound u (omega (arith, l, m)) other b e) is
          from.state from.by from.is from.names

      pub all_grow : (n : ℕ) (state : AbstractState) (by : By) → IsNode nodes n state by → Grows state
      all_grow n state by is = grow_below (suc n) n (omega arith) state by is

    -- ---- the whole graph

    named_children : (children : List GraphChild) (states : List AbstractState) (named : List ℕ)
        → states ≡ map (λ (child : GraphChild). child.state) children → AllZip (IsStateAt nodes) states named
        → AllZip (NamesChild nodes) children named
    named_children children states named e h = by children named
        (subst (λ (list : List AbstractState). AllZip (IsStateAt nodes) list named) e h)
      where
        by : (children : List GraphChild) (named : List ℕ)
            → AllZip (IsStateAt nodes) (map (λ (child : GraphChild). child.state) children) named
            → AllZip (NamesChild nodes) children named
        by [] [] h = tt
        by [] (n ∷ named) h = absurd h
        by (child ∷ children) [] h = absurd h
        by (child ∷ children) (n ∷ named) h =
            (record { node = record { state = child.state; by = h.0.by }; is = h.0.is; state_is = refl }, by children named h.1)

    way_good : HasNoOpenNode nodes → (n : ℕ) (state : AbstractState) → IsGrowing p typing state → (by : By) → IsNode nodes n state by
        → IsLeftAsDue rules nodes parent n state by → (links : List Link) × IsLeftBy p typing nodes state by links
    way_good whole n state g (Expand named) is left =
        let k = by_rules.children state left.1.children left.1.are in (
          map (λ (child : GraphChild). child.link) k.0,
          record { children = k.0; are = k.1.0; names = named_children k.0 left.1.children named k.1.1 left.1.names; links_are = refl },
        )
    way_good whole n state g (Instance target entries) is (inl m) = (
      [],
      (
        record {
          good = g.good;
          node = record { state = m.other; by = m.is.by };
          is = m.is.is;
          instance = by_rules.instance state
              m.other entries m.instance;
        },
        refl,
      ),
    )
    way_good whole n state g (Instance target entries) is (inr w) = (
      [],
      (
        record {
          good = g.good;
          node = record { state = w.wide; by = w.is_wide.by };
          is = w.is_wide.is;
          instance = by_rules.instance
              state w.wide entries w.instance;
        },
        refl,
      ),
    )
    way_good whole n state g End is left = ([], (by_rules.ends state left.1, refl))
    way_good whole n state g Todo is left = absurd (whole n state is)

    all_links : (rest : List GraphNode) → ((n : ℕ) (node : GraphNode) → slice_get rest n ≡ Some node → (links : List Link)
        × IsGoodNode p typing nodes node links) → (links : List (List Link)) × AllZip (IsGoodNode p typing nodes) rest links
    all_links [] h = ([], tt)
    all_links (node ∷ rest) h =
        let first = h 0 node refl in
        let more = all_links rest (λ n other e. h (suc n) other e) in
        (first.0 ∷ more.0, (first.1, more.1))

    pub graph_good : HasNoOpenNode nodes
        → ((n : ℕ) (state : AbstractState) (by : By) → IsNode nodes n state by → IsGrowing p typing state)
        → (links : List (List Link)) × GraphOk p typing nodes root links
    graph_good whole grow =
        let all = all_links nodes (λ n node e. way_good whole n node.state (grow n node.state node.by e) node.by e
        (d.each n node.state node.by e)) in (
          all.0,
          record {
            rooted = record { node = record { state = root; by = d.rooted.by }; is = d.rooted.is; state_is = refl };
            each = all.1;
          },
        )
