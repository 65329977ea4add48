-- Ways up a tree, and that the order of growth is one: of two nodes at most one is before the other.
use Rattle.std.proofs.Common.{◌≡◌, ◌⊎◌, inl, inr, ℕ, zero, suc, ◌<◌, List, length, subst, arith, refl, ◌∙◌, sym}
use Rattle.term_graph.specs.Graphs.{GraphNode}
use Rattle.graph_build.specs.Disciplined.{IsTree, IsAboveBy, IsAbove, IsAtOrAbove, IsUnderLater, IsBefore}

-- numbers fall on the way up
abbrev pub Falls : ℕ → (ℕ → ℕ) → Type 0
Falls count parent = (n : ℕ) → 0 < n → n < count → parent n < n

pub above_less : {count : ℕ} {parent : ℕ → ℕ} (falls : Falls count parent) (k u v : ℕ) → v < count → IsAboveBy parent u k v → u < v
above_less {parent = parent} falls zero u v l h = subst (λ (x : ℕ). x < v) h.1 (falls v h.0 l)
above_less {count = count} {parent = parent} falls (suc k) u v l h =
    let near : parent v < v = falls v h.0 l in
    let within : parent v < count = omega (arith, near, l) in
    let far : u < parent v = above_less falls k u (parent v) within h.1 in
    omega (arith, near, far)

pub above_trans : (parent : ℕ → ℕ) (j k u v w : ℕ) → IsAboveBy parent u k v → IsAboveBy parent v j w → IsAbove parent u w
above_trans parent zero k u v w h g = (suc k, (g.0, subst (λ (x : ℕ). IsAboveBy parent u k x) (sym g.1) h))
above_trans parent (suc j) k u v w h g =
    let further = above_trans parent j k u v (parent w) h g.1 in
    (suc further.0, (g.0, further.1))

pub at_or_above_then : (parent : ℕ → ℕ) (u v w : ℕ) → IsAtOrAbove parent u v → IsAbove parent v w → IsAbove parent u w
at_or_above_then parent u v w (inl e) g = subst (λ (x : ℕ). IsAbove parent x w) (sym e) g
at_or_above_then parent u v w (inr h) g = above_trans parent g.0 h.0 u v w h.1 g.1

pub above_then : (parent : ℕ → ℕ) (u v w : ℕ) → IsAbove parent u v → IsAtOrAbove parent v w → IsAbove parent u w
above_then parent u v w h (inl e) = subst (λ (x : ℕ). IsAbove parent u x) e h
above_then parent u v w h (inr g) = above_trans parent g.0 h.0 u v w h.1 g.1

-- two nodes above one are above each other
chain_by : (parent : ℕ → ℕ) (j k a b v : ℕ) → IsAboveBy parent a j v → IsAboveBy parent b k v → IsAtOrAbove parent a b ⊎ IsAbove parent b a
chain_by parent zero zero a b v h g = inl (inl (sym h.1 ∙ g.1))
chain_by parent zero (suc k) a b v h g = inr (k, subst (λ (x : ℕ). IsAboveBy parent b k x) h.1 g.1)
chain_by parent (suc j) zero a b v h g = inl (inr (j, subst (λ (x : ℕ). IsAboveBy parent a j x) g.1 h.1))
chain_by parent (suc j) (suc k) a b v h g = chain_by parent j k a b (parent v) h.1 g.1

pub chain : (parent : ℕ → ℕ) (a b v : ℕ) → IsAtOrAbove parent a v → IsAtOrAbove parent b v → IsAtOrAbove parent a b ⊎ IsAbove parent b a
chain parent a b v (inl e) (inl f) = inl (inl (e ∙ sym f))
chain parent a b v (inl e) (inr g) = inr (subst (λ (x : ℕ). IsAbove parent b x) (sym e) g)
chain parent a b v (inr h) (inl f) = inl (inr (subst (λ (x : ℕ). IsAbove parent a x) (sym f) h))
chain parent a b v (inr h) (inr g) = chain_by parent h.0 g.0 a b v h.1 g.1

-- a node is above no child of its own parent
above_sibling : {count : ℕ} {parent : ℕ → ℕ} (falls : Falls count parent) (k a b : ℕ) → 0 < a → a < count → b < count
    → parent a ≡ parent b → IsAboveBy parent a k b → ⊥
above_sibling {parent = parent} falls zero a b p l m e h =
    let near : parent a < a = falls a p l in
    let same : parent a ≡ a = e ∙ h.1 in
    omega (arith, near, same)
above_sibling {count = count} {parent = parent} falls (suc k) a b p l m e h =
    let near : parent a < a = falls a p l in
    let within : parent b < count = omega (arith, falls b h.0 m, m) in
    let far : a < parent b = above_less falls k a (parent b) within h.1 in
    omega (arith, near, far, e)

-- two children of one node that are at one node or above it are one
pub siblings : {count : ℕ} {parent : ℕ → ℕ} (falls : Falls count parent) (a b v : ℕ) → 0 < a → 0 < b → a < count → b < count
    → parent a ≡ parent b → IsAtOrAbove parent a v → IsAtOrAbove parent b v → a ≡ b
siblings {parent = parent} falls a b v p q l m e h g = elim (chain parent a b v h g) as (λ o. a ≡ b) [
  | inl (inl same) ↦ same
  | inl (inr above) ↦ absurd (above_sibling falls above.0 a b p l m e above.1)
  | inr above ↦ absurd (above_sibling falls above.0 b a q m l (sym e) above.1)
]

-- the child on the way down
pub record Down (parent : ℕ → ℕ) (p v : ℕ) : Type 0 where
  pub child : ℕ
  pub positive : 0 < child
  pub comes : parent child ≡ p
  pub over : IsAtOrAbove parent child v

pub down : (parent : ℕ → ℕ) (k p v : ℕ) → IsAboveBy parent p k v → Down parent p v
down parent zero p v h = record { child = v; positive = h.0; comes = h.1; over = inl refl }
down parent (suc k) p v h =
    let below = down parent k p (parent v) h.1 in
    record { child = below.child; positive = below.positive; comes = below.comes; over = inr (above_then_own below.over) }
  where
    above_then_own : {c : ℕ} → IsAtOrAbove parent c (parent v) → IsAbove parent c v
    above_then_own {c} (inl e) = (zero, (h.0, sym e))
    above_then_own {c} (inr g) = (suc g.0, (h.0, g.1))

-- ---- parting

-- where two nodes part
pub record Fork (count : ℕ) (parent : ℕ → ℕ) (u v : ℕ) : Type 0 where
  pub at : ℕ
  pub first : ℕ
  pub second : ℕ
  pub order : first < second
  pub positive_first : 0 < first
  pub positive_second : 0 < second
  pub within_first : first < count
  pub within_second : second < count
  pub first_comes : parent first ≡ at
  pub second_comes : parent second ≡ at
  pub over_first : IsAtOrAbove parent first v
  pub over_second : IsAtOrAbove parent second u

pub parts : (nodes : List GraphNode) (parent : ℕ → ℕ) (tree : IsTree nodes parent) (u v : ℕ) → IsUnderLater nodes parent u v
    → Fork (length nodes) parent u v
parts nodes parent tree u v h =
    let one = tree.children h.at h.earlier h.first h.state h.named h.is h.is_first in
    let two = tree.children h.at h.later h.second h.state h.named h.is h.is_second in
    record {
      at = h.at;
      first = h.first;
      second = h.second;
      order = tree.in_order h.at h.earlier h.later h.first h.second h.state h.named h.is h.order h.is_first h.is_second;
      positive_first = one.0;
      positive_second = two.0;
      within_first = one.1;
      within_second = two.1;
      first_comes = one.2;
      second_comes = two.2;
      over_first = h.under_first;
      over_second = h.under_second;
    }

-- ---- the order of growth

above_and_parted : {count : ℕ} {parent : ℕ → ℕ} (falls : Falls count parent) (u v : ℕ) → IsAbove parent u v → Fork count parent v u → ⊥
above_and_parted {parent = parent} falls u v h p =
    let over : IsAtOrAbove parent p.first v = inr (at_or_above_then parent p.first u v p.over_first h) in
    let same : p.first ≡ p.second = siblings falls p.first p.second v p.positive_first p.positive_second p.within_first
    p.within_second (p.first_comes ∙ sym p.second_comes) over p.over_second in
    omega (arith, same, p.order)

pub own_then : (parent : ℕ → ℕ) (c p v : ℕ) → 0 < c → parent c ≡ p → IsAtOrAbove parent c v → IsAbove parent p v
own_then parent c p v pos e over = above_then parent p c v (zero, (pos, e)) over

-- the place of one parting is above that of another
parted_above : {count : ℕ} {parent : ℕ → ℕ} (falls : Falls count parent) (u v : ℕ) → u < count → v < count
    → (p : Fork count parent u v) (q : Fork count parent v u) → IsAbove parent p.at q.at → ⊥
parted_above {count = count} {parent = parent} falls u v l m p q h =
    let d = down parent h.0 p.at q.at h.1 in
    let to_u : IsAbove parent d.child u = at_or_above_then parent d.child q.at u d.over
    (own_then parent q.first q.at u q.positive_first q.first_comes q.over_first) in
    let to_v : IsAbove parent d.child v = at_or_above_then parent d.child q.at v d.over
    (own_then parent q.second q.at v q.positive_second q.second_comes q.over_second) in
    let within : d.child < count = omega (arith, above_less falls to_u.0 d.child u l to_u.1, l) in
    let one : d.child ≡ p.first = siblings falls d.child p.first v d.positive p.positive_first within p.within_first
    (d.comes ∙ sym p.first_comes) (inr to_v) p.over_first in
    let two : d.child ≡ p.second = siblings falls d.child p.second u d.positive p.positive_second within p.within_second
    (d.comes ∙ sym p.second_comes) (inr to_u) p.over_second in
    omega (arith, one, two, p.order)

both_parted : {count : ℕ} {parent : ℕ → ℕ} (falls : Falls count parent) (u v : ℕ) → u < count → v < count
    → (p : Fork count parent u v) (q : Fork count parent v u) → ⊥
both_parted {count = count} {parent = parent} falls u v l m p q =
    elim (chain parent p.at q.at u (inr (own_then parent p.second p.at u p.positive_second p.second_comes p.over_second))
    (inr (own_then parent q.first q.at u q.positive_first q.first_comes q.over_first))) as (λ o. ⊥) [
      | inl (inl same) ↦
          let one : p.first ≡ q.second = siblings falls p.first q.second v p.positive_first q.positive_second p.within_first
          q.within_second (p.first_comes ∙ same ∙ sym q.second_comes) p.over_first q.over_second in
          let two : p.second ≡ q.first = siblings falls p.second q.first u p.positive_second q.positive_first p.within_second
          q.within_first (p.second_comes ∙ same ∙ sym q.first_comes) p.over_second q.over_first in
          omega (arith, one, two, p.order, q.order)
      | inl (inr above) ↦ parted_above falls u v l m p q above
      | inr above ↦ parted_above falls v u m l q p above
    ]

pub one_is_before : (nodes : List GraphNode) (parent : ℕ → ℕ) → IsTree nodes parent → (u v : ℕ) → u < length nodes
    → v < length nodes → IsBefore nodes parent u v → IsBefore nodes parent v u → ⊥
one_is_before nodes parent tree u v l m (inl h) (inl g) = omega
    (arith, above_less tree.lower h.0 u v m h.1, above_less tree.lower g.0 v u l g.1)
one_is_before nodes parent tree u v l m (inl h) (inr g) = above_and_parted tree.lower u v h (parts nodes parent tree v u g)
one_is_before nodes parent tree u v l m (inr h) (inl g) = above_and_parted tree.lower v u g (parts nodes parent tree u v h)
one_is_before nodes parent tree u v l m (inr h) (inr g) = both_parted tree.lower u v l m (parts nodes parent tree u v h)
    (parts nodes parent tree v u g)
