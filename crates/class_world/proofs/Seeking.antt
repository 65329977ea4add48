-- Seeking in superinterfaces, each of them once, finds what stands first among all of them.
use Rattle.std.proofs.Common.{◌≡◌, ℕ, zero, suc, ◌+◌, ◌<◌, ◌≤◌, Bool, true, false, cond, eqb, List, [], ◌∷◌, ◌++◌, length, get_or}
use Rattle.std.proofs.Common.{set, Option, Some, None, sym, refl, ap, ap₂, ◌∙◌, subst, inl, inr, ◌⊎◌, arith, eq-eqb, append_assoc}
use Rattle.std.proofs.Common.{length-append, zero-add}
use Rattle.std.specs.Prelude.{reverse}
use Rattle.std.specs.List.{flat_map, IsDistinct, AllByRecursion, list_any}
use Rattle.std.specs.Option.{option_map, option_or}
use Rattle.std.proofs.Math.ListN.{length-set}
use Rattle.std.proofs.lemmas.List.{get_or-set_other, get_or_default, reverse-append, length-reverse}
use Rattle.std.proofs.lemmas.List.Concat.{flat_map-append}
use Rattle.std.proofs.lemmas.Map.Steps.{length-le_from_distinct_below}
use Rattle.std.proofs.lemmas.Bool.{false≢true, eqb-true, or_parts}
use Rattle.code_forms.proofs.list_views.Options.{both_none}
use Rattle.class_world.specs.World.{World, leads_up, super_of, supers_of, interfaces_of, listed}
use Rattle.class_world.specs.lemmas.Walks.{IsIn, IsIn-from_any, Walk, leads-from_any_Walk}
use Rattle.class_world.specs.Resolve.{first_found, with_interfaces}

-- ---- in a hierarchy without cycles

module _ (sup : ℕ → List ℕ) (n : ℕ) (closed : (a b : ℕ) → IsIn b (sup a) → b < n) (acyclic : (a : ℕ) → leads_up sup n a a ≡ false) where
  -- a way comes to no class twice
  back : (a y b : ℕ) (p : List ℕ) → Walk sup a p b → IsIn y p → (c : ℕ) × (q : List ℕ) × Walk sup a (c ∷ q) y
  back a y b [] w h = absurd h
  back a y b (c ∷ p) w (inl same) = (c, [], (w.0, sym same))
  back a y b (c ∷ p) w (inr there) = let r = back c y b p w.1 there in (c, r.0 ∷ r.1, (w.0, r.2))

  never : (a b : ℕ) (p : List ℕ) → Walk sup a p b → list_any (eqb a) p ≡ false
  never a b p w = go (list_any (eqb a) p) refl
    where
      go : (x : Bool) → list_any (eqb a) p ≡ x → list_any (eqb a) p ≡ false
      go true e =
          let r = back a a b p w (IsIn-from_any a p e) in
          absurd (false≢true (sym (acyclic a) ∙ leads-from_any_Walk sup n closed a a r.0 r.1 r.2))
      go false e = e

  apart : (c : ℕ) (p : List ℕ) → list_any (eqb c) p ≡ false → AllByRecursion (λ y. eqb c y ≡ false) p
  apart c [] e = tt
  apart c (y ∷ ys) e = let r = or_parts (eqb c y) (list_any (eqb c) ys) e in (r.0, apart c ys r.1)

  differ : (a b : ℕ) (p : List ℕ) → Walk sup a p b → IsDistinct eqb (a ∷ p)
  unfolding IsDistinct
  differ a b [] w = (tt, tt)
  differ a b (c ∷ p) w = (apart a (c ∷ p) (never a b (c ∷ p) w), differ c b p w.1)

  below : (a b : ℕ) (p : List ℕ) → a < n → Walk sup a p b → (q : ℕ) → IsIn q (a ∷ p) → q < n
  below a b p l w q (inl same) = subst (λ (x : ℕ). x < n) (sym same) l
  below a b [] l w q (inr there) = absurd there
  below a b (c ∷ p) l w q (inr there) = below c b p (closed a c w.0) w.1 q there

  pub short : (a b : ℕ) (p : List ℕ) → a < n → Walk sup a p b → length p < n
  short a b p l w =
      let most : length (a ∷ p) ≤ n = length-le_from_distinct_below (a ∷ p) n (differ a b p w)
      (λ q e. below a b p l w q (IsIn-from_any q (a ∷ p) e)) in
      omega (arith, most)

  module _ (up : ℕ → List ℕ) (included : (a b : ℕ) → IsIn b (up a) → IsIn b (sup a)) where
    lifted : (a b : ℕ) (p : List ℕ) → Walk up a p b → Walk sup a p b
    lifted a b [] w = w
    lifted a b (c ∷ p) w = (included a c w.0, lifted c b p w.1)

    flat_same : (f g : ℕ → List ℕ) (xs : List ℕ) → ((x : ℕ) → IsIn x xs → f x ≡ g x) → flat_map f xs ≡ flat_map g xs
    flat_same f g [] h = refl
    flat_same f g (x ∷ xs) h = ap₂ ◌++◌ (h x (inl refl)) (flat_same f g xs (λ y i. h y (inr i)))

    stable : (k a : ℕ) → ((b : ℕ) (p : List ℕ) → Walk up a p b → length p < k) → with_interfaces up k a ≡ with_interfaces up (suc k) a
    stable zero a h = absurd (omega (arith, h a [] refl))
    stable (suc k) a h = ap (λ xs. a ∷ xs)
        (flat_same (with_interfaces up k) (with_interfaces up (suc k)) (up a)
        (λ c i. stable k c (λ b p w. less (length p) k (h b (c ∷ p) (i, w)))))
      where
        less : (x y : ℕ) → suc x < suc y → x < y
        less x y l = omega (arith, l)

    -- an interface, and then all that is above its own superinterfaces
    pub unfolds : (a : ℕ) → a < n → with_interfaces up n a ≡ a ∷ flat_map (with_interfaces up n) (up a)
    unfolds a l = stable n a (λ b p w. short a b p l (lifted a b p w))

-- ---- going through a list of interfaces, and what they lead to

pub found_append : (place : ℕ → Option ℕ) (xs ys : List ℕ)
    → first_found place (xs ++ ys) ≡ option_or (first_found place xs) (first_found place ys)
found_append place [] ys = refl
found_append place (x ∷ xs) ys = go (option_map (λ i. (x, i)) (place x)) (found_append place xs ys)
  where
    go : (o : Option (ℕ × ℕ)) → first_found place (xs ++ ys) ≡ option_or (first_found place xs) (first_found place ys)
        → option_or o (first_found place (xs ++ ys)) ≡ option_or (option_or o (first_found place xs)) (first_found place ys)
    go None e = e
    go (Some r) e = refl

In_append : (x : ℕ) (xs ys : List ℕ) → IsIn x (xs ++ ys) → IsIn x xs ⊎ IsIn x ys
In_append x [] ys h = inr h
In_append x (z ∷ zs) ys (inl same) = inl (inl same)
In_append x (z ∷ zs) ys (inr there) = elim (In_append x zs ys there) [ inl a ↦ inl (inr a) | inr b ↦ inr b ]

-- what is left to enter: the superinterfaces of those that are not marked
abbrev pub left_from : (ℕ → List ℕ) → ℕ → List Bool → ℕ
left_from up k [] = 0
left_from up k (m ∷ ms) = cond m 0 (length (up k)) + left_from up (suc k) ms

pub left_less : (up : ℕ → List ℕ) (k : ℕ) (marks : List Bool) (i : ℕ) → i < length marks → get_or marks i false ≡ false
    → left_from up k (set marks i true) + length (up (k + i)) ≡ left_from up k marks
left_less up k [] i l e = absurd (omega (arith, l))
left_less up k (m ∷ ms) zero l e =
    let z : length (up (k + 0)) ≡ length (up k) = ap (λ x. length (up x)) (omega arith) in
    let t : cond m 0 (length (up k)) ≡ length (up k) = ap (λ b. cond b 0 (length (up k))) e in
    omega (arith, z, t)
left_less up k (m ∷ ms) (suc i) l e =
    let z : length (up (k + suc i)) ≡ length (up (suc k + i)) = ap (λ x. length (up x)) (omega arith) in
    let h = left_less up (suc k) ms i (omega (arith, l)) e in
    omega (arith, h, z)

module _ (n : ℕ) (up : ℕ → List ℕ) (above : ℕ → ℕ → Bool) (place : ℕ → Option ℕ) where
  abbrev trees : List ℕ → List ℕ
  trees = flat_map (with_interfaces up n)

  abbrev Misses : List ℕ → Type 0
  Misses xs = first_found place xs ≡ None

  -- The marked ones declare nothing that is sought; where something above one of them does, the front of the list leads
  -- to it, and all of that front is above the marked one.
  pub record Seeking (all : Option (ℕ × ℕ)) (marks : List Bool) (todo : List ℕ) : Type 0 where
    pub len : length marks ≡ n
    pub within : (y : ℕ) → IsIn y todo → y < n
    pub value : first_found place (trees todo) ≡ all
    pub led : (x : ℕ) → get_or marks x false ≡ true → (Misses (with_interfaces up n x) → ⊥)
        → (front : List ℕ) × (rest : List ℕ) × (todo ≡ front ++ rest) × ((y : ℕ) → IsIn y front → above x y ≡ true)
        × (Misses (trees front) → ⊥)

  pub record Ordered : Type 0 where
    pub tree : (x : ℕ) → x < n → with_interfaces up n x ≡ x ∷ trees (up x)
    pub closed : (x y : ℕ) → IsIn y (up x) → y < n
    pub direct : (x y : ℕ) → IsIn y (up x) → above x y ≡ true
    pub further : (x y z : ℕ) → above x y ≡ true → above y z ≡ true → above x z ≡ true
    pub never : (x : ℕ) → above x x ≡ true → ⊥

  trees_append : (xs ys : List ℕ) → trees (xs ++ ys) ≡ trees xs ++ trees ys
  trees_append xs ys = flat_map-append (with_interfaces up n) xs ys

  both_miss : (xs ys : List ℕ) → Misses xs → Misses ys → Misses (xs ++ ys)
  both_miss xs ys e f = found_append place xs ys ∙ ap₂ option_or e f

  parts_miss : (xs ys : List ℕ) → Misses (xs ++ ys) → Misses xs × Misses ys
  parts_miss xs ys e = both_none (first_found place xs) (first_found place ys) (sym (found_append place xs ys) ∙ e)

  here_misses : (x : ℕ) (xs : List ℕ) → place x ≡ None → Misses xs → Misses (x ∷ xs)
  here_misses x xs e f = ap (λ o. option_or (option_map (λ i. (x, i)) o) (first_found place xs)) e ∙ f

  module _ (o : Ordered) (all : Option (ℕ × ℕ)) where
    -- nothing above a marked one that comes up again is sought
    marked_misses : (marks : List Bool) (i : ℕ) (todo : List ℕ) → Seeking all marks (i ∷ todo) → get_or marks i false ≡ true
        → Misses (with_interfaces up n i)
    marked_misses marks i todo s m = go (first_found place (with_interfaces up n i)) refl
      where
        by : (front rest : List ℕ) → i ∷ todo ≡ front ++ rest → ((y : ℕ) → IsIn y front → above i y ≡ true)
            → (Misses (trees front) → ⊥) → ⊥
        by [] rest e h w = w refl
        by (y ∷ front) rest e h w =
            let same : i ≡ y = cc in
            o.never i (subst (λ (x : ℕ). above i x ≡ true) (sym same) (h y (inl refl)))

        go : (r : Option (ℕ × ℕ)) → first_found place (with_interfaces up n i) ≡ r → Misses (with_interfaces up n i)
        go None e = e
        go (Some r) e = let q = s.led i m (λ miss. none_some r (sym miss ∙ e)) in absurd (by q.0 q.1 q.2 q.3 q.4)
          where
            none_some : (r : ℕ × ℕ) → None ≡ Some r → ⊥
            none_some r e = cc

    pub skipped : (marks : List Bool) (i : ℕ) (todo : List ℕ) → Seeking all marks (i ∷ todo) → get_or marks i false ≡ true
        → Seeking all marks todo
    skipped marks i todo s m =
        let miss = marked_misses marks i todo s m in
        record {
          len = s.len;
          within = λ y h. s.within y (inr h);
          value = sym (ap (λ r. option_or r (first_found place (trees todo))) miss)
              ∙ sym (found_append place (with_interfaces up n i) (trees todo)) ∙ s.value;
          led = λ x e w. let q = s.led x e w in by x miss q.0 q.1 q.2 q.3 q.4;
        }
      where
        by : (x : ℕ) → Misses (with_interfaces up n i) → (front rest : List ℕ) → i ∷ todo ≡ front ++ rest
            → ((y : ℕ) → IsIn y front → above x y ≡ true) → (Misses (trees front) → ⊥)
            → (front : List ℕ) × (rest : List ℕ) × (todo ≡ front ++ rest) × ((y : ℕ) → IsIn y front → above x y ≡ true)
            × (Misses (trees front) → ⊥)
        by x miss [] rest e h w = absurd (w refl)
        by x miss (y ∷ front) rest e h w =
            let same : i ≡ y = cc in
            let tail : todo ≡ front ++ rest = cc in (
              front,
              rest,
              tail,
              (λ z q. h z (inr q)),
              (λ m. w (both_miss (with_interfaces up n y) (trees front)
                  (subst (λ (k : ℕ). Misses (with_interfaces up n k)) same miss) m)),
            )

    pub found_here : (marks : List Bool) (i p : ℕ) (todo : List ℕ) → Seeking all marks (i ∷ todo) → place i ≡ Some p → Some (i, p) ≡ all
    found_here marks i p todo s e =
        let tree = o.tree i (s.within i (inl refl)) in
        sym (ap (λ r. option_or (option_map (λ k. (i, k)) r) (first_found place (trees (up i) ++ trees todo))) e)
        ∙ sym (ap (λ xs. first_found place (xs ++ trees todo)) tree) ∙ s.value

    pub entered : (marks now : List Bool) (i : ℕ) (todo more : List ℕ) → Seeking all marks (i ∷ todo) → place i ≡ None
        → now ≡ set marks i true → more ≡ up i ++ todo → Seeking all now more
    entered marks now i todo more s e m f =
        let inside = s.within i (inl refl) in
        let tree = o.tree i inside in
        subst (Seeking all now) (sym f) (subst (λ (ms : List Bool). Seeking all ms (up i ++ todo)) (sym m) (record {
          len = length-set marks i true ∙ s.len;
          within = λ y h. elim (In_append y (up i) todo h) [ inl a ↦ o.closed i y a | inr b ↦ s.within y (inr b) ];
          value =
              ap (first_found place) (trees_append (up i) todo)
              ∙ sym (ap (λ r. option_or (option_map (λ k. (i, k)) r) (first_found place (trees (up i) ++ trees todo))) e)
              ∙ sym (ap (λ xs. first_found place (xs ++ trees todo)) tree) ∙ s.value;
          led = λ x k w. at tree x (which x k) w;
        }))
      where
        Leads : ℕ → Type 0
        Leads x = (front : List ℕ) × (rest : List ℕ) × (up i ++ todo ≡ front ++ rest) × ((y : ℕ) → IsIn y front → above x y ≡ true)
            × (Misses (trees front) → ⊥)

        which : (x : ℕ) → get_or (set marks i true) x false ≡ true → (x ≡ i) ⊎ (get_or marks x false ≡ true)
        which x k = go (eqb x i) refl
          where
            go : (b : Bool) → eqb x i ≡ b → (x ≡ i) ⊎ (get_or marks x false ≡ true)
            go true q = inl (eqb-true x i q)
            go false q = inr (sym (get_or-set_other marks i x true false (λ t. false≢true (sym q ∙ eq-eqb x i t))) ∙ k)

        old : with_interfaces up n i ≡ i ∷ trees (up i) → (x : ℕ) (front rest : List ℕ) → i ∷ todo ≡ front ++ rest
            → ((y : ℕ) → IsIn y front → above x y ≡ true) → (Misses (trees front) → ⊥) → Leads x
        old tree x [] rest q h w = absurd (w refl)
        old tree x (y ∷ front) rest q h w =
            let same : i ≡ y = cc in
            let tail : todo ≡ front ++ rest = cc in
            let over : above x i ≡ true = subst (λ (k : ℕ). above x k ≡ true) (sym same) (h y (inl refl)) in (
              up i ++ front,
              rest,
              ap (λ xs. up i ++ xs) tail ∙ sym (append_assoc (up i) front rest),
              (λ z a. elim (In_append z (up i) front a) [ inl b ↦ o.further x i z over (o.direct i z b) | inr b ↦ h z (inr b) ]),
              (λ miss.
                  let p = parts_miss (trees (up i)) (trees front) (sym (ap (first_found place) (trees_append (up i) front)) ∙ miss) in
                  w (both_miss (with_interfaces up n y) (trees front)
                  (subst (λ (k : ℕ). Misses (with_interfaces up n k)) same
                  (ap (first_found place) tree ∙ here_misses i (trees (up i)) e p.0)) p.1)),
            )

        at : with_interfaces up n i ≡ i ∷ trees (up i) → (x : ℕ) → (x ≡ i) ⊎ (get_or marks x false ≡ true)
            → (Misses (with_interfaces up n x) → ⊥) → Leads x
        at tree x (inl same) w = (
          up i,
          todo,
          refl,
          (λ y a. subst (λ (k : ℕ). above k y ≡ true) (sym same) (o.direct i y a)),
          (λ miss. w (subst (λ (k : ℕ). Misses (with_interfaces up n k)) (sym same)
              (ap (first_found place) tree ∙ here_misses i (trees (up i)) e miss))),
        )
        at tree x (inr k) w = let q = s.led x k w in old tree x q.0 q.1 q.2 q.3 q.4

    pub none_left : (marks : List Bool) (todo : List ℕ) → Seeking all marks todo → todo ≡ [] → None ≡ all
    none_left marks todo s e = ap (λ xs. first_found place (trees xs)) (sym e) ∙ s.value

    pub begun : (marks : List Bool) (todo start : List ℕ) → length marks ≡ n → ((x : ℕ) → get_or marks x false ≡ false)
        → todo ≡ start → ((y : ℕ) → IsIn y start → y < n) → first_found place (trees start) ≡ all → Seeking all marks todo
    begun marks todo start l m e h v = subst (Seeking all marks) (sym e) (record {
      len = l;
      within = h;
      value = v;
      led = λ x k w. absurd (false≢true (sym (m x) ∙ k));
    })

-- ---- the list as the code keeps it, the last to come first

pub last_first : (todo rest : List ℕ) (x : ℕ) → todo ≡ rest ++ x ∷ [] → reverse todo ≡ x ∷ reverse rest
last_first todo rest x e = ap reverse e ∙ reverse-append rest (x ∷ [])

pub mark_at : (marks : List Bool) (i : ℕ) (d b v : Bool) → i < length marks → b ≡ get_or marks i d → b ≡ v → get_or marks i false ≡ v
mark_at marks i d b v l e f = get_or_default marks i false d l ∙ sym e ∙ f

pub goes_down : (up : ℕ → List ℕ) (marks : List Bool) (i : ℕ) (todo rest now : List ℕ) → i < length marks
    → get_or marks i false ≡ false → todo ≡ rest ++ i ∷ [] → reverse now ≡ up i ++ reverse rest
    → left_from up 0 (set marks i true) + length now < left_from up 0 marks + length todo
goes_down up marks i todo rest now l e t r =
    let less : left_from up 0 (set marks i true) + length (up i) ≡ left_from up 0 marks = ap
    (λ x. left_from up 0 (set marks i true) + length (up x)) (sym (zero-add i)) ∙ left_less up 0 marks i l e in
    let size : length now ≡ length (up i) + length rest =
    sym (length-reverse now) ∙ ap length r ∙ length-append (up i) (reverse rest) ∙ ap (λ x. length (up i) + x) (length-reverse rest) in
    let was : length todo ≡ length rest + 1 = ap length t ∙ length-append rest (i ∷ []) in
    omega (arith, less, size, was)

pub flat_In : (f : ℕ → List ℕ) (y : ℕ) (xs : List ℕ) → IsIn y (flat_map f xs) → (x : ℕ) × IsIn y (f x)
flat_In f y [] h = absurd h
flat_In f y (x ∷ xs) h = elim (In_append y (f x) (flat_map f xs) h) [ inl a ↦ (x, a) | inr b ↦ flat_In f y xs b ]

In_right : (y : ℕ) (xs ys : List ℕ) → IsIn y ys → IsIn y (xs ++ ys)
In_right y [] ys h = h
In_right y (x ∷ xs) ys h = inr (In_right y xs ys h)

pub interface_over : (world : World) (a b : ℕ) → IsIn b (interfaces_of world a) → IsIn b (supers_of world a)
unfolding supers_of
interface_over world a b h = In_right b (listed (super_of world a)) (interfaces_of world a) h

-- ---- first along the superclass chain, then in the superinterfaces

pub found_below : (place : ℕ → Option ℕ) (line over : List ℕ) (r found : Option (ℕ × ℕ)) (x : ℕ × ℕ) → r ≡ first_found place line
    → r ≡ Some x → found ≡ Some x → found ≡ first_found place (line ++ over)
found_below place line over r found x e s f = f ∙ ap (λ o. option_or o (first_found place over)) (sym s ∙ e)
    ∙ sym (found_append place line over)

pub found_over : (place : ℕ → Option ℕ) (line over : List ℕ) (r found : Option (ℕ × ℕ)) → r ≡ first_found place line → r ≡ None
    → found ≡ first_found place over → found ≡ first_found place (line ++ over)
found_over place line over r found e s f = f ∙ ap (λ o. option_or o (first_found place over)) (sym s ∙ e)
    ∙ sym (found_append place line over)
