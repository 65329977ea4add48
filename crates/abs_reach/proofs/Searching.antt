-- Going along steps, deepest first: what holds between two turns.
use Rattle.std.proofs.Common.{◌≡◌, ℕ, ◌+◌, ◌<◌, ◌≤◌, eqb, false, List, [], ◌∷◌, ◌++◌, Option, Some, None, ◌⊎◌, inl, inr, refl, sym}
use Rattle.std.proofs.Common.{ap, subst, ◌∙◌, arith, eq-eqb}
use Rattle.std.specs.Prelude.{◌↔◌}
use Rattle.std.specs.Option.{option_and_then}
use Rattle.std.proofs.lemmas.Bool.{false≢true, cases_lt, or_cases, or_left, or_right, eqb-true}
use Rattle.std.proofs.lemmas.List.{same_from_push}
use Rattle.std.proofs.lemmas.Option.{none-some}
use Rattle.abs_cells.proofs.list_views.Options.{then_some}
use Rattle.jvm_values.specs.Paths.{Steps, follow, Reaches, IsDagFrom, IsTreeFrom}
use Rattle.jvm_values.proofs.Options.{some_is}
use Rattle.jvm_values.proofs.PathLaws.{here, one_more, onward, joined}
use Rattle.jvm_heaps.proofs.TreePaths.{nil_is_not_last, tree_from}
use Rattle.abs_cells.specs.IdSets.{has_id}
use Rattle.abs_reach.specs.inner.Steps.{IsIn, IsReachedFrom}
use Rattle.abs_reach.specs.inner.Turns.{IsWith, IsOpen, IsPassed, AreApart}

pub put_here : (now set : List ℕ) (c : ℕ) → IsWith now set c → IsIn now c
put_here now set c w = w c ∙ or_left (eqb c c) (has_id set c) (eq-eqb c c refl)

pub put_keeps : (now set : List ℕ) (c n : ℕ) → IsWith now set c → IsIn set n → IsIn now n
put_keeps now set c n w h = w n ∙ or_right (eqb n c) (has_id set n) h

pub put_only : (now set : List ℕ) (c n : ℕ) → IsWith now set c → IsIn now n → (n ≡ c) ⊎ IsIn set n
put_only now set c n w h = elim (or_cases (eqb n c) (has_id set n) (sym (w n) ∙ h)) [ inl e ↦ inl (eqb-true n c e) | inr k ↦ inr k ]

-- ---- the trail

-- a step was gone: from a place that was left, or from one on the trail
abbrev pub IsGone : List ℕ → List (ℕ × ℕ) → ℕ → ℕ → Type 0
IsGone left trail a i = IsIn left a ⊎ IsPassed trail a i

pub passed_open : (trail : List (ℕ × ℕ)) (a i : ℕ) → IsPassed trail a i → IsOpen trail a
passed_open [] a i h = absurd h
passed_open (e ∷ trail) a i (inl h) = inl h.0
passed_open (e ∷ trail) a i (inr h) = inr (passed_open trail a i h)

-- a step that was gone leads to a place
pub record IsWay (steps : Steps) (left : List ℕ) (trail : List (ℕ × ℕ)) (c : ℕ) : Type 0 where
  pub from : ℕ
  pub place : ℕ
  pub gone : IsGone left trail from place
  pub leads : steps from place ≡ Some c

pub record IsSearch (steps : Steps) (start met left : List ℕ) (trail : List (ℕ × ℕ)) : Type 0 where
  pub sound : (b : ℕ) → IsIn met b → IsReachedFrom steps start b
  pub begun : (a : ℕ) → IsIn start a → IsIn met a
  pub split : (a : ℕ) → IsIn met a → IsIn left a ⊎ IsOpen trail a
  pub left_met : (a : ℕ) → IsIn left a → IsIn met a
  pub open_met : (a : ℕ) → IsOpen trail a → IsIn met a
  pub not_left : (a : ℕ) → IsOpen trail a → IsIn left a → ⊥
  pub apart : AreApart trail
  pub followed : (a i c : ℕ) → IsGone left trail a i → steps a i ≡ Some c → IsIn met c
  pub found : (c : ℕ) → IsIn met c → IsIn start c ⊎ IsWay steps left trail c

step_at : (steps : Steps) (a b i : ℕ) (o : Option ℕ) → b ≡ a → steps b i ≡ o → steps a i ≡ o
step_at steps a b i o e f = subst (λ (y : ℕ). steps y i ≡ o) e f

further : (steps : Steps) (start : List ℕ) (a b : ℕ) → IsReachedFrom steps start a → Reaches steps a b → IsReachedFrom steps start b
further steps start a b r s = record { from = r.from; starts = r.starts; reaches = onward steps r.from a b r.reaches s }

-- ---- the beginning

pub begin : (steps : Steps) (met left : List ℕ) (trail : List (ℕ × ℕ)) → ((n : ℕ) → has_id left n ≡ false)
    → ((a : ℕ) → IsIn met a → IsOpen trail a) → ((a : ℕ) → IsOpen trail a → IsIn met a) → AreApart trail
    → ((a i : ℕ) → IsPassed trail a i → ⊥) → IsSearch steps met met left trail
begin steps met left trail none on off apart fresh = record {
  sound = λ b h. record { from = b; starts = h; reaches = here steps b b refl };
  begun = λ a h. h;
  split = λ a h. inr (on a h);
  left_met = λ a h. absurd (false≢true (sym (none a) ∙ h));
  open_met = off;
  not_left = λ a h k. absurd (false≢true (sym (none a) ∙ k));
  apart = apart;
  followed = λ a i c h s. absurd (none_gone a i h);
  found = λ c h. inl h;
}
  where
    none_gone : (a i : ℕ) → IsGone left trail a i → ⊥
    none_gone a i (inl h) = false≢true (sym (none a) ∙ h)
    none_gone a i (inr h) = fresh a i h

-- ---- one turn

module _ (steps : Steps) (start met left : List ℕ) (rest : List (ℕ × ℕ)) (a i : ℕ)
    (h : IsSearch steps start met left ((a, i) ∷ rest)) where
  -- the step that comes next was not gone
  pub not_gone : IsGone left ((a, i) ∷ rest) a i → ⊥
  not_gone (inl k) = h.not_left a (inl refl) k
  not_gone (inr (inl k)) = absurd (omega (arith, k.1))
  not_gone (inr (inr k)) = h.apart.0 (passed_open rest a i k)

  top_met : IsIn met a
  top_met = h.open_met a (inl refl)

  -- coming back from the top
  module _ (now : List ℕ) (w : IsWith now left a) (over : (j : ℕ) → i ≤ j → steps a j ≡ None) where
    pub left_back : (b j c : ℕ) → IsGone now rest b j → steps b j ≡ Some c → IsGone left ((a, i) ∷ rest) b j
    left_back b j c (inr k) s = inr (inr k)
    left_back b j c (inl k) s = elim (put_only now left a b w k) [
      | inl e ↦ elim (cases_lt j i) [
        | inl l ↦ inr (inl (sym e, l))
        | inr l ↦ absurd (none-some c (sym (over j l) ∙ step_at steps a b j (Some c) e s))
      ]
      | inr d ↦ inl d
    ]

    left_on : (b j : ℕ) → IsGone left ((a, i) ∷ rest) b j → IsGone now rest b j
    left_on b j (inl k) = inl (put_keeps now left a b w k)
    left_on b j (inr (inl k)) = inl (subst (λ (y : ℕ). IsIn now y) k.0 (put_here now left a w))
    left_on b j (inr (inr k)) = inr k

    pub leave : IsSearch steps start met now rest
    leave = record {
      sound = h.sound;
      begun = h.begun;
      split = λ b k. elim (h.split b k) [
        | inl d ↦ inl (put_keeps now left a b w d)
        | inr o ↦ elim o [
          | inl e ↦ inl (subst (λ (y : ℕ). IsIn now y) e (put_here now left a w))
          | inr r ↦ inr r
        ]
      ];
      left_met = λ b k. elim (put_only now left a b w k) [
        | inl e ↦ subst (λ (y : ℕ). IsIn met y) (sym e) top_met
        | inr d ↦ h.left_met b d
      ];
      open_met = λ b o. h.open_met b (inr o);
      not_left = λ b o k. elim (put_only now left a b w k) [
        | inl e ↦ h.apart.0 (subst (λ (y : ℕ). IsOpen rest y) e o)
        | inr d ↦ h.not_left b (inr o) d
      ];
      apart = h.apart.1;
      followed = λ b j c k s. h.followed b j c (left_back b j c k s) s;
      found = λ c k. elim (h.found c k) [
        | inl e ↦ inl e
        | inr v ↦ inr (record { from = v.from; place = v.place; gone = left_on v.from v.place v.gone; leads = v.leads })
      ];
    }

  -- going one step from the top
  pub gone_more : (b j : ℕ) → IsGone left ((a, i + 1) ∷ rest) b j → IsGone left ((a, i) ∷ rest) b j ⊎ ((b ≡ a) × (j ≡ i))
  gone_more b j (inl k) = inl (inl k)
  gone_more b j (inr (inl k)) = elim (cases_lt j i) [
    | inl l ↦ inl (inr (inl (k.0, l)))
    | inr l ↦ inr (sym k.0, omega (arith, l, k.1))
  ]
  gone_more b j (inr (inr k)) = inl (inr (inr k))

  gone_on : (b j : ℕ) → IsGone left ((a, i) ∷ rest) b j → IsGone left ((a, i + 1) ∷ rest) b j
  gone_on b j (inl k) = inl k
  gone_on b j (inr (inl k)) = inr (inl (k.0, omega (arith, k.1)))
  gone_on b j (inr (inr k)) = inr (inr k)

  pub step_is : (b j c d : ℕ) → (b ≡ a) × (j ≡ i) → steps a i ≡ Some c → steps b j ≡ Some d → c ≡ d
  step_is b j c d e s t = some_is (sym s ∙ subst (λ (k : ℕ). steps a k ≡ Some d) e.1 (step_at steps a b j (Some d) e.0 t))

  pub meet : (c : ℕ) → steps a i ≡ Some c → IsIn met c → IsSearch steps start met left ((a, i + 1) ∷ rest)
  meet c s m = record {
    sound = h.sound;
    begun = h.begun;
    split = h.split;
    left_met = h.left_met;
    open_met = h.open_met;
    not_left = h.not_left;
    apart = h.apart;
    followed = λ b j d k t. elim (gone_more b j k) [
      | inl g ↦ h.followed b j d g t
      | inr e ↦ subst (λ (y : ℕ). IsIn met y) (step_is b j c d e s t) m
    ];
    found = λ d k. elim (h.found d k) [
      | inl e ↦ inl e
      | inr v ↦ inr (record { from = v.from; place = v.place; gone = gone_on v.from v.place v.gone; leads = v.leads })
    ];
  }

  -- the new place on the trail has no step that was gone
  pub gone_below : (c b j : ℕ) → IsGone left ((c, 0) ∷ (a, i + 1) ∷ rest) b j → IsGone left ((a, i + 1) ∷ rest) b j
  gone_below c b j (inl k) = inl k
  gone_below c b j (inr (inl k)) = absurd (omega (arith, k.1))
  gone_below c b j (inr (inr k)) = inr k

  gone_above : (c b j : ℕ) → IsGone left ((a, i) ∷ rest) b j → IsGone left ((c, 0) ∷ (a, i + 1) ∷ rest) b j
  gone_above c b j k = elim (gone_on b j k) [ inl d ↦ inl d | inr p ↦ inr (inr p) ]

  pub enter : (c : ℕ) (now : List ℕ) → steps a i ≡ Some c → has_id met c ≡ false → IsWith now met c
      → IsSearch steps start now left ((c, 0) ∷ (a, i + 1) ∷ rest)
  enter c now s m w =
      let fresh : IsIn met c → ⊥ = λ k. false≢true (sym m ∙ k) in
      record {
        sound = λ b k. elim (put_only now met c b w k) [
          | inl e ↦ further steps start a b (h.sound a top_met) (one_more steps a i c b s (here steps c b (sym e)))
          | inr k ↦ h.sound b k
        ];
        begun = λ b k. put_keeps now met c b w (h.begun b k);
        split = λ b k. elim (put_only now met c b w k) [
          | inl e ↦ inr (inl (sym e))
          | inr k ↦ elim (h.split b k) [ inl d ↦ inl d | inr o ↦ inr (inr o) ]
        ];
        left_met = λ b k. put_keeps now met c b w (h.left_met b k);
        open_met = λ b o. elim o [
          | inl e ↦ subst (λ (y : ℕ). IsIn now y) e (put_here now met c w)
          | inr r ↦ put_keeps now met c b w (h.open_met b r)
        ];
        not_left = λ b o k. elim o [
          | inl e ↦ fresh (subst (λ (y : ℕ). IsIn met y) (sym e) (h.left_met b k))
          | inr r ↦ h.not_left b r k
        ];
        apart = (λ o. fresh (h.open_met c o), h.apart);
        followed = λ b j d k t. elim (gone_more b j (gone_below c b j k)) [
          | inl g ↦ put_keeps now met c d w (h.followed b j d g t)
          | inr e ↦ subst (λ (y : ℕ). IsIn now y) (step_is b j c d e s t) (put_here now met c w)
        ];
        found = λ d k. elim (put_only now met c d w k) [
          | inl e ↦ inr (record { from = a; place = i; gone = inr (inr (inl (refl, omega arith))); leads = s ∙ ap Some (sym e) })
          | inr k ↦ elim (h.found d k) [
            | inl e ↦ inl e
            | inr v ↦ inr (record { from = v.from; place = v.place; gone = gone_above c v.from v.place v.gone; leads = v.leads })
          ]
        ];
      }

-- ---- the end

module _ (steps : Steps) (start met left : List ℕ) (h : IsSearch steps start met left []) where
  pub all_left : (a : ℕ) → IsIn met a → IsIn left a
  all_left a k = elim (h.split a k) [ inl d ↦ d | inr o ↦ absurd o ]

  along : (path : List ℕ) (a b : ℕ) → IsIn met a → follow steps path a ≡ Some b → IsIn met b
  along [] a b m e = subst (λ (y : ℕ). IsIn met y) (some_is e) m
  along (i ∷ path) a b m e =
      let p = then_some (follow steps path) (steps a i) b e in
      along path p.0 b (h.followed a i p.0 (inl (all_left a m)) p.1.0) p.1.1

  pub exact : (b : ℕ) → IsIn met b ↔ IsReachedFrom steps start b
  exact b = (h.sound b, λ r. along r.reaches.path r.from b (h.begun r.from r.starts) r.reaches.leads)

-- ---- without a cycle

-- the steps of a place before one lead to places that were left
abbrev pub ArePast : Steps → List ℕ → ℕ → ℕ → Type 0
ArePast steps left a n = (i c : ℕ) → i < n → steps a i ≡ Some c → IsIn left c

-- the last step that was gone from a place leads to the one above it on the trail
pub record IsLink (steps : Steps) (left : List ℕ) (e : ℕ × ℕ) (b : ℕ) : Type 0 where
  pub place : ℕ
  pub next : e.1 ≡ place + 1
  pub leads : steps e.0 place ≡ Some b
  pub past : ArePast steps left e.0 place

abbrev pub AreLinked : Steps → List ℕ → ℕ → List (ℕ × ℕ) → Type 0
AreLinked steps left b [] = Unit {0}
AreLinked steps left b (e ∷ trail) = IsLink steps left e b × AreLinked steps left e.0 trail

abbrev pub IsChain : Steps → List ℕ → List (ℕ × ℕ) → Type 0
IsChain steps left [] = Unit {0}
IsChain steps left (e ∷ trail) = ArePast steps left e.0 e.1 × AreLinked steps left e.0 trail

pub record HasNoCycle (steps : Steps) (left : List ℕ) (trail : List (ℕ × ℕ)) : Type 0 where
  pub down : (a i c : ℕ) → IsIn left a → steps a i ≡ Some c → IsIn left c
  pub dag : (a : ℕ) → IsIn left a → IsDagFrom steps a
  pub chain : IsChain steps left trail

pub no_cycle_yet : (steps : Steps) (x : ℕ) (left : List ℕ) → ((n : ℕ) → has_id left n ≡ false) → HasNoCycle steps left ((x, 0) ∷ [])
no_cycle_yet steps x left f = record {
  down = λ a i c k s. absurd (false≢true (sym (f a) ∙ k));
  dag = λ a k. absurd (false≢true (sym (f a) ∙ k));
  chain = (λ i c l s. absurd (omega (arith, l)), tt);
}

linked_still : (steps : Steps) (left now : List ℕ) → ((n : ℕ) → IsIn left n → IsIn now n) → (b : ℕ) (trail : List (ℕ × ℕ))
    → AreLinked steps left b trail → AreLinked steps now b trail
linked_still steps left now keeps b [] l = tt
linked_still steps left now keeps b (e ∷ trail) l = (
  record { place = l.0.place; next = l.0.next; leads = l.0.leads; past = λ i c m s. keeps c (l.0.past i c m s) },
  linked_still steps left now keeps e.0 trail l.1,
)

along_left : (steps : Steps) (left : List ℕ) → ((a i c : ℕ) → IsIn left a → steps a i ≡ Some c → IsIn left c)
    → (path : List ℕ) (a b : ℕ) → IsIn left a → follow steps path a ≡ Some b → IsIn left b
along_left steps left down [] a b m e = subst (λ (y : ℕ). IsIn left y) (some_is e) m
along_left steps left down (i ∷ path) a b m e =
    let p = then_some (follow steps path) (steps a i) b e in
    along_left steps left down path p.0 b (down a i p.0 m p.1.0) p.1.1

-- from a place on the trail a path leads to its top
up : (steps : Steps) (left : List ℕ) (trail : List (ℕ × ℕ)) (b c : ℕ) → AreLinked steps left b trail → IsOpen trail c → Reaches steps c b
up steps left [] b c l o = absurd o
up steps left (e ∷ trail) b c l (inl s) = one_more steps c l.0.place b b (step_at steps c e.0 l.0.place (Some b) s l.0.leads)
    (here steps b b refl)
up steps left (e ∷ trail) b c l (inr o) = onward steps c e.0 b (up steps left trail e.0 c l.1 o)
    (one_more steps e.0 l.0.place b b l.0.leads (here steps b b refl))

module _ (steps : Steps) (left : List ℕ) (rest : List (ℕ × ℕ)) (a i : ℕ) (h : HasNoCycle steps left ((a, i) ∷ rest)) where
  module _ (now : List ℕ) (w : IsWith now left a) (fresh : IsIn left a → ⊥) (over : (j : ℕ) → i ≤ j → steps a j ≡ None) where
    below : (j c : ℕ) → steps a j ≡ Some c → IsIn left c
    below j c s = elim (cases_lt j i) [
      | inl l ↦ h.chain.0 j c l s
      | inr l ↦ absurd (none-some c (sym (over j l) ∙ s))
    ]

    round : (q : List ℕ) → follow steps q a ≡ Some a → q ≡ []
    round [] e = refl
    round (j ∷ q) e =
        let p = then_some (follow steps q) (steps a j) a e in
        absurd (fresh (along_left steps left h.down q p.0 a (below j p.0 p.1.0) p.1.1))

    top_dag : IsDagFrom steps a
    top_dag [] b e q f = round q (subst (λ (y : ℕ). follow steps q y ≡ Some y) (sym (some_is e)) f)
    top_dag (j ∷ p) b e q f =
        let g = then_some (follow steps p) (steps a j) b e in
        h.dag g.0 (below j g.0 g.1.0) p b g.1.1 q f

    next_chain : (trail : List (ℕ × ℕ)) → AreLinked steps left a trail → IsChain steps now trail
    next_chain [] l = tt
    next_chain (e ∷ trail) l = (
      λ j c m s. elim (cases_lt j l.0.place) [
        | inl k ↦ put_keeps now left a c w (l.0.past j c k s)
        | inr k ↦
            let same : j ≡ l.0.place = omega (arith, k, m, l.0.next) in
            subst (λ (y : ℕ). IsIn now y) (some_is (sym l.0.leads ∙ subst (λ (z : ℕ). steps e.0 z ≡ Some c) same s))
            (put_here now left a w)
      ],
      linked_still steps left now (λ n k. put_keeps now left a n w k) e.0 trail l.1,
    )

    pub leave_dag : HasNoCycle steps now rest
    leave_dag = record {
      down = λ b j c k s. elim (put_only now left a b w k) [
        | inl e ↦ put_keeps now left a c w (below j c (step_at steps a b j (Some c) e s))
        | inr d ↦ put_keeps now left a c w (h.down b j c d s)
      ];
      dag = λ b k. elim (put_only now left a b w k) [
        | inl e ↦ subst (λ (y : ℕ). IsDagFrom steps y) (sym e) top_dag
        | inr d ↦ h.dag b d
      ];
      chain = next_chain rest h.chain.1;
    }

  pub meet_dag : (c : ℕ) → steps a i ≡ Some c → IsIn left c → HasNoCycle steps left ((a, i + 1) ∷ rest)
  meet_dag c s m = record {
    down = h.down;
    dag = h.dag;
    chain = (
      λ j d l t. elim (cases_lt j i) [
        | inl k ↦ h.chain.0 j d k t
        | inr k ↦
            let same : j ≡ i = omega (arith, k, l) in
            subst (λ (y : ℕ). IsIn left y) (some_is (sym s ∙ subst (λ (z : ℕ). steps a z ≡ Some d) same t)) m
      ],
      h.chain.1,
    );
  }

  pub enter_dag : (c : ℕ) → steps a i ≡ Some c → HasNoCycle steps left ((c, 0) ∷ (a, i + 1) ∷ rest)
  enter_dag c s = record {
    down = h.down;
    dag = h.dag;
    chain = (λ j d l t. absurd (omega (arith, l)), (record { place = i; next = refl; leads = s; past = h.chain.0 }, h.chain.1));
  }

  -- a step to a place on the trail closes a cycle
  pub closes : (x c : ℕ) → Reaches steps x c → steps a i ≡ Some c → IsOpen ((a, i) ∷ rest) c → IsDagFrom steps x → ⊥
  closes x c r s o dag =
      let back : Reaches steps c a = elim o as (λ z. Reaches steps c a) [
        | inl e ↦ here steps c a (sym e)
        | inr k ↦ up steps left rest a c h.chain.1 k
      ] in
      let round : follow steps (back.path ++ i ∷ []) c ≡ Some c = joined steps back.path (i ∷ []) c a c back.leads
      (ap (option_and_then (follow steps [])) s) in
      nil_is_not_last back.path i (sym (dag r.path c r.leads (back.path ++ i ∷ []) round))

-- ---- by one way

pub record IsOnce (csteps : Steps) (x : ℕ) (left : List ℕ) (trail : List (ℕ × ℕ)) : Type 0 where
  pub one : (a b i j c : ℕ) → IsGone left trail a i → IsGone left trail b j → csteps a i ≡ Some c → csteps b j ≡ Some c → (a ≡ b) × (i ≡ j)
  pub none_back : (a i : ℕ) → IsGone left trail a i → csteps a i ≡ Some x → ⊥

-- the steps that count are those to places that count
abbrev pub counting : Steps → (ℕ → Option ℕ) → Steps
counting steps count a i = option_and_then count (steps a i)

module _ (steps : Steps) (count : ℕ → Option ℕ) (same : (c d : ℕ) → count c ≡ Some d → c ≡ d) (x : ℕ) where
  is_step : (a i d : ℕ) → counting steps count a i ≡ Some d → steps a i ≡ Some d
  is_step a i d e =
      let p = then_some count (steps a i) d e in
      p.1.0 ∙ ap Some (same p.0 d p.1.1)

  pub once_yet : (left : List ℕ) → ((n : ℕ) → has_id left n ≡ false) → IsOnce (counting steps count) x left ((x, 0) ∷ [])
  once_yet left f = record { one = λ a b i j c g. absurd (none a i g); none_back = λ a i g. absurd (none a i g) }
    where
      none : (a i : ℕ) → IsGone left ((x, 0) ∷ []) a i → ⊥
      none a i (inl h) = false≢true (sym (f a) ∙ h)
      none a i (inr (inl h)) = absurd (omega (arith, h.1))
      none a i (inr (inr h)) = h

  once_back : (left now : List ℕ) (trail next : List (ℕ × ℕ))
      → ((b j d : ℕ) → IsGone now next b j → counting steps count b j ≡ Some d → IsGone left trail b j)
      → IsOnce (counting steps count) x left trail → IsOnce (counting steps count) x now next
  once_back left now trail next back o = record {
    one = λ b c j k d g h s t. o.one b c j k d (back b j d g s) (back c k d h t) s t;
    none_back = λ b j g s. o.none_back b j (back b j x g s) s;
  }

  module _ (start met left : List ℕ) (begins : IsIn start x) (alone : (y : ℕ) → IsIn start y → y ≡ x) (rest : List (ℕ × ℕ))
      (a i : ℕ) (h : IsSearch steps start met left ((a, i) ∷ rest)) where
    pub leave_once : (now : List ℕ) → IsWith now left a → ((j : ℕ) → i ≤ j → steps a j ≡ None)
        → IsOnce (counting steps count) x left ((a, i) ∷ rest) → IsOnce (counting steps count) x now rest
    leave_once now w over o = once_back left now ((a, i) ∷ rest) rest
        (λ b j d g s. left_back steps start met left rest a i h now w over b j d g (is_step b j d s)) o

    -- a step to a place that doesn't count is no step that counts
    pub meet_once : (c : ℕ) → steps a i ≡ Some c → count c ≡ None → IsOnce (counting steps count) x left ((a, i) ∷ rest)
        → IsOnce (counting steps count) x left ((a, i + 1) ∷ rest)
    meet_once c s n o = once_back left left ((a, i) ∷ rest) ((a, i + 1) ∷ rest)
        (λ b j d g t. elim (gone_more steps start met left rest a i h b j g) [
          | inl k ↦ k
          | inr e ↦
              let there : c ≡ d = step_is steps start met left rest a i h b j c d e s (is_step b j d t) in
              let p = then_some count (steps b j) d t in
              let at : p.0 ≡ c = same p.0 d p.1.1 ∙ sym there in
              absurd (none-some d (sym n ∙ subst (λ (y : ℕ). count y ≡ Some d) at p.1.1))
        ]) o

    pub enter_once : (c : ℕ) → steps a i ≡ Some c → has_id met c ≡ false → IsOnce (counting steps count) x left ((a, i) ∷ rest)
        → IsOnce (counting steps count) x left ((c, 0) ∷ (a, i + 1) ∷ rest)
    enter_once c s m o =
        let fresh : IsIn met c → ⊥ = λ k. false≢true (sym m ∙ k) in
        let cases : (b j : ℕ) → IsGone left ((c, 0) ∷ (a, i + 1) ∷ rest) b j → IsGone left ((a, i) ∷ rest) b j
        ⊎ ((b ≡ a) × (j ≡ i)) = λ b j g. gone_more steps start met left rest a i h b j
        (gone_below steps start met left rest a i h c b j g) in
        let here_is : (b j d : ℕ) → (b ≡ a) × (j ≡ i) → counting steps count b j ≡ Some d → c ≡ d = λ b j d e t. step_is steps start
        met left rest a i h b j c d e s (is_step b j d t) in
        record {
          one = λ b e j k d g l s t. elim (cases b j g) [
            | inl u ↦ elim (cases e k l) [
              | inl v ↦ o.one b e j k d u v s t
              | inr v ↦ absurd (fresh (subst (λ (y : ℕ). IsIn met y) (sym (here_is e k d v t)) (h.followed b j d u (is_step b j d s))))
            ]
            | inr u ↦ elim (cases e k l) [
              | inl v ↦ absurd (fresh (subst (λ (y : ℕ). IsIn met y) (sym (here_is b j d u s)) (h.followed e k d v (is_step e k d t))))
              | inr v ↦ (u.0 ∙ sym v.0, u.1 ∙ sym v.1)
            ]
          ];
          none_back = λ b j g s. elim (cases b j g) [
            | inl u ↦ o.none_back b j u s
            | inr u ↦ fresh (subst (λ (y : ℕ). IsIn met y) (sym (here_is b j x u s)) (h.begun x begins))
          ];
        }

    -- a step to a place that counts and was met: two ways lead there
    pub clashes : (c d : ℕ) → ((b j : ℕ) (e : ℕ) → Reaches steps x b → steps b j ≡ Some e → Reaches (counting steps count) x b)
        → steps a i ≡ Some c → count c ≡ Some d → IsIn met c → IsTreeFrom (counting steps count) x → ⊥
    clashes c d known s n m tree =
        let counted : counting steps count a i ≡ Some d = ap (option_and_then count) s ∙ n in
        let is : c ≡ d = same c d n in
        let top = known a i c (from_x a (h.sound a (h.open_met a (inl refl)))) s in
        let there : follow (counting steps count) (top.path ++ i ∷ []) x ≡ Some d = joined (counting steps count) top.path (i ∷ [])
        x a d top.leads (ap (option_and_then (follow (counting steps count) [])) counted) in
        elim (h.found c m) [
          | inl e ↦ nil_is_not_last top.path i (tree [] (top.path ++ i ∷ []) d (ap Some (sym (alone c e) ∙ is)) there)
          | inr v ↦
              let from = known v.from v.place c (onward_from v.from v.gone) v.leads in
              let way : counting steps count v.from v.place ≡ Some d = ap (option_and_then count) v.leads ∙ n in
              let too : follow (counting steps count) (from.path ++ v.place ∷ []) x ≡ Some d = joined (counting steps count)
              from.path (v.place ∷ []) x v.from d from.leads (ap (option_and_then (follow (counting steps count) [])) way) in
              let lasts = same_from_push from.path top.path v.place i
              (tree (from.path ++ v.place ∷ []) (top.path ++ i ∷ []) d too there) in
              let starts : v.from ≡ a = some_is (sym from.leads ∙ ap (λ (p : List ℕ). follow (counting steps count) p x) lasts.0
              ∙ top.leads) in
              not_gone steps start met left rest a i h
              (subst (λ (k : ℕ). IsGone left ((a, i) ∷ rest) a k) lasts.1
              (subst (λ (b : ℕ). IsGone left ((a, i) ∷ rest) b v.place) starts v.gone))
        ]
      where
        from_x : (b : ℕ) → IsReachedFrom steps start b → Reaches steps x b
        from_x b r = subst (λ (y : ℕ). Reaches steps y b) (alone r.from r.starts) r.reaches

        onward_from : (b : ℕ) {j : ℕ} → IsGone left ((a, i) ∷ rest) b j → Reaches steps x b
        onward_from b (inl k) = from_x b (h.sound b (h.left_met b k))
        onward_from b (inr k) = from_x b (h.sound b (h.open_met b (passed_open ((a, i) ∷ rest) b _ k)))

  pub one_way : (start met left : List ℕ) → IsIn start x → IsSearch steps start met left []
      → IsOnce (counting steps count) x left [] → IsTreeFrom (counting steps count) x
  one_way start met left begins h o =
      let gone : (b j : ℕ) → Reaches (counting steps count) x b → IsGone left [] b j = λ b j r. inl
      (all_left steps start met left h b
      ((exact steps start met left h b).1 (record { from = x; starts = begins; reaches = counted_reach r.path x b r.leads }))) in
      tree_from (counting steps count) x (λ b e j k d r q s t. o.one b e j k d (gone b j r) (gone e k q) s t)
      (λ b j r s. o.none_back b j (gone b j r) s)
    where
      counted_reach : (path : List ℕ) (b e : ℕ) → follow (counting steps count) path b ≡ Some e → Reaches steps b e
      counted_reach [] b e p = here steps b e (some_is p)
      counted_reach (j ∷ path) b e p =
          let g = then_some (follow (counting steps count) path) (counting steps count b j) e p in
          one_more steps b j g.0 e (is_step b j g.0 g.1.0) (counted_reach path g.0 e g.1.1)
