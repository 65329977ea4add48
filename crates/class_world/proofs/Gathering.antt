-- The superinterfaces of a class, gathered each once, in the order in which they are sought.
use Rattle.std.proofs.Common.{◌≡◌, ℕ, zero, suc, ◌+◌, ◌<◌, ◌≤◌, Bool, true, false, List, [], ◌∷◌, ◌++◌, length, get_or, set, Option}
use Rattle.std.proofs.Common.{Some, None, sym, refl, ap, ◌∙◌, subst, inl, inr, arith, replicate, length-append}
use Rattle.std.specs.Prelude.{reverse}
use Rattle.std.specs.List.{flat_map, filter_map}
use Rattle.std.specs.Option.{option_map, option_map_or, option_or}
use Rattle.std.proofs.Math.ListN.{length-replicate}
use Rattle.std.proofs.lemmas.List.{get_or_past, get_or-replicate, get_or_default, get_or_append_left}
use Rattle.std.proofs.Math.Seq.{get_or-append_seam}
use Rattle.std.proofs.lemmas.Bool.{false≢true, cases_lt}
use Rattle.class_world.specs.World.{World, class_of, super_of, is_above, supers_of, interfaces_of, line_from, line_of}
use Rattle.class_world.specs.lemmas.Walks.{IsIn, leads-from_any_Walk, leads_trans}
use Rattle.class_world.specs.Resolve.{first_found, with_interfaces, superinterfaces_of}
use Rattle.class_world.specs.Linking.{is_linked}
use Rattle.class_world.specs.lemmas.Linked.{hierarchy, linked_from}
use Rattle.class_world.specs.inner.Once.{interfaces_once, IsSought, AreSought}
use Rattle.std.proofs.lemmas.Option.{slice_get_past}
use Rattle.code_forms.proofs.list_views.Marks.{unmarked}
use Rattle.code_forms.proofs.list_views.Options.{both_none}
use Rattle.class_world.proofs.Indexes.{no_super}
use Rattle.class_world.proofs.Onces.{In_once, sought_once}
use Rattle.class_world.proofs.Seeking.{Seeking, Ordered, unfolds, interface_over, flat_In, found_append, found_here, entered}
use Rattle.class_world.proofs.Seeking.{skipped, none_left, begun, last_first, mark_at, goes_down, left_from}

once_over : (world : World) (a b : ℕ) → IsIn b (interfaces_once world a) → IsIn b (supers_of world a)
unfolding interfaces_once
once_over world a b h = interface_over world a b (In_once b (interfaces_of world a) h)

-- the superinterfaces of a class, with repeats only where they are reached by several ways
abbrev trees_of : World → ℕ → List ℕ
trees_of world class = flat_map (with_interfaces (interfaces_once world) (length world))
    (flat_map (interfaces_once world) (line_of world class))

ordered : (world : World) (place : ℕ → Option ℕ) → is_linked world ≡ true
    → Ordered (length world) (interfaces_once world) (is_above world) place
unfolding is_above
ordered world place linked =
    let h = hierarchy world (linked_from world linked) in
    let n = length world in
    let over = once_over world in
    record {
      tree = unfolds (supers_of world) n h.closed h.acyclic (interfaces_once world) over;
      closed = λ x y i. h.closed x y (over x y i);
      direct = λ x y i. leads-from_any_Walk (supers_of world) n h.closed x y y [] (over x y i, refl);
      further = leads_trans (supers_of world) n h.closed;
      never = λ x e. false≢true (sym (h.acyclic x) ∙ e);
    }

begun_world : (world : World) (place : ℕ → Option ℕ) (class n : ℕ) (marks : List Bool) (todo : List ℕ) → is_linked world ≡ true
    → marks ≡ replicate n false → n ≡ length world → todo ≡ flat_map (interfaces_once world) (line_of world class)
    → Seeking (length world) (interfaces_once world) (is_above world) place (first_found place (trees_of world class)) marks todo
begun_world world place class n marks todo linked m k t =
    let o = ordered world place linked in
    begun (length world) (interfaces_once world) (is_above world) place o _ marks todo
    (flat_map (interfaces_once world) (line_of world class))
    (ap length m ∙ length-replicate n false ∙ k)
    (λ x. ap (λ ms. get_or ms x false) m ∙ unmarked n x)
    t
    (λ y h. let r = flat_In (interfaces_once world) y (line_of world class) h in o.closed r.0 y r.1)
    refl

-- ---- one is taken off the list

module _ (world : World) (place : ℕ → Option ℕ) (all : Option (ℕ × ℕ)) where
  abbrev pub Sought : List Bool → List ℕ → Type 0
  Sought marks todo = Seeking (length world) (interfaces_once world) (is_above world) place all marks (reverse todo)

  top : (marks : List Bool) (todo rest : List ℕ) (x : ℕ) → Sought marks todo → todo ≡ rest ++ x ∷ []
      → Seeking (length world) (interfaces_once world) (is_above world) place all marks (x ∷ reverse rest)
  top marks todo rest x s e = subst (Seeking (length world) (interfaces_once world) (is_above world) place all marks)
      (last_first todo rest x e) s

  top_within : (marks : List Bool) (todo rest : List ℕ) (x : ℕ) → Sought marks todo → todo ≡ rest ++ x ∷ [] → x < length marks
  top_within marks todo rest x s e = let t = top marks todo rest x s e in omega (arith, t.len, t.within x (inl refl))

  found_popped : (marks : List Bool) (todo rest : List ℕ) (x p : ℕ) → is_linked world ≡ true → Sought marks todo
      → todo ≡ rest ++ x ∷ [] → place x ≡ Some p → Some (x, p) ≡ all
  found_popped marks todo rest x p linked s e f = found_here (length world) (interfaces_once world) (is_above world) place
      (ordered world place linked) all marks x p (reverse rest) (top marks todo rest x s e) f

  pub less_popped : (marks : List Bool) (todo rest now : List ℕ) (x : ℕ) (d b : Bool) → Sought marks todo → todo ≡ rest ++ x ∷ []
      → b ≡ get_or marks x d → b ≡ false → reverse now ≡ interfaces_once world x ++ reverse rest
      → left_from (interfaces_once world) 0 (set marks x true) + length now < left_from (interfaces_once world) 0 marks + length todo
  less_popped marks todo rest now x d b s e f m r =
      let l = top_within marks todo rest x s e in
      goes_down (interfaces_once world) marks x todo rest now l (mark_at marks x d b false l f m) e r

  entered_popped : (marks after : List Bool) (todo rest now : List ℕ) (x : ℕ) → is_linked world ≡ true → Sought marks todo
      → todo ≡ rest ++ x ∷ [] → place x ≡ None → after ≡ set marks x true → reverse now ≡ interfaces_once world x ++ reverse rest
      → Sought after now
  entered_popped marks after todo rest now x linked s e f m r = entered (length world) (interfaces_once world) (is_above world)
      place (ordered world place linked) all marks after x (reverse rest) (reverse now) (top marks todo rest x s e) f m r

  skipped_popped : (marks : List Bool) (todo rest : List ℕ) (x : ℕ) (d b : Bool) → is_linked world ≡ true → Sought marks todo
      → todo ≡ rest ++ x ∷ [] → b ≡ get_or marks x d → b ≡ true → Sought marks rest
  skipped_popped marks todo rest x d b linked s e f m =
      let l = top_within marks todo rest x s e in
      skipped (length world) (interfaces_once world) (is_above world) place (ordered world place linked) all marks x (reverse rest)
      (top marks todo rest x s e) (mark_at marks x d b true l f m)

-- ---- gathering

abbrev placed : ℕ → Option ℕ → Option (ℕ × ℕ)
placed x o = option_map (λ i. (x, i)) o

none_placed : (x : ℕ) (o : Option ℕ) → option_or (placed x o) None ≡ None → o ≡ None
none_placed x None e = refl
none_placed x (Some i) e = cc

abbrev no_place : ℕ → Option ℕ
no_place x = None

nowhere : (xs : List ℕ) → first_found no_place xs ≡ None
nowhere [] = refl
nowhere (y ∷ ys) = nowhere ys

module _ (world : World) (class : ℕ) where
  -- Whatever is sought: where the gathered ones declare none of it, it is sought in the rest; else it is found in them.
  pub record Gathering (marks : List Bool) (todo found : List ℕ) : Type 0 where
    pub missed : (place : ℕ → Option ℕ) → first_found place found ≡ None
        → Sought world place (first_found place (trees_of world class)) marks todo
    pub hit : (place : ℕ → Option ℕ) (r : ℕ × ℕ) → first_found place found ≡ Some r → Some r ≡ first_found place (trees_of world class)

  pub gathering_start : (n : ℕ) (marks : List Bool) (todo found : List ℕ) → is_linked world ≡ true → marks ≡ replicate n false
      → n ≡ length world → reverse todo ≡ flat_map (interfaces_once world) (line_of world class) → found ≡ [] → Gathering marks todo found
  gathering_start n marks todo found linked m k t f = record {
    missed = λ place e. begun_world world place class n marks (reverse todo) linked m k t;
    hit = λ place r e. nothing place r (sym (ap (first_found place) f) ∙ e);
  }
    where
      nothing : (place : ℕ → Option ℕ) (r : ℕ × ℕ) → None ≡ Some r → Some r ≡ first_found place (trees_of world class)
      nothing place r e = cc

  module _ (marks : List Bool) (todo rest : List ℕ) (x : ℕ) (linked : is_linked world ≡ true) (last : todo ≡ rest ++ x ∷ []) where
    pub gathering_skips : (found : List ℕ) (d b : Bool) → Gathering marks todo found → b ≡ get_or marks x d → b ≡ true
        → Gathering marks rest found
    gathering_skips found d b g e f = record {
      missed = λ place m. skipped_popped world place _ marks todo rest x d b linked (g.missed place m) last e f;
      hit = g.hit;
    }

    pub gathering_enters : (after : List Bool) (now found more : List ℕ) → Gathering marks todo found → after ≡ set marks x true
        → reverse now ≡ interfaces_once world x ++ reverse rest → more ≡ found ++ x ∷ [] → Gathering after now more
    gathering_enters after now found more g m r f = subst (Gathering after now) (sym f) (record { missed = missed; hit = hit })
      where
        at_end : (place : ℕ → Option ℕ)
            → first_found place (found ++ x ∷ []) ≡ option_or (first_found place found) (option_or (placed x (place x)) None)
        at_end place = found_append place found (x ∷ [])

        missed : (place : ℕ → Option ℕ) → first_found place (found ++ x ∷ []) ≡ None
            → Sought world place (first_found place (trees_of world class)) after now
        missed place e =
            let both = both_none (first_found place found) (option_or (placed x (place x)) None) (sym (at_end place) ∙ e) in
            entered_popped world place _ marks after todo rest now x linked (g.missed place both.0) last
            (none_placed x (place x) both.1) m r

        here : (place : ℕ → Option ℕ) (s : ℕ × ℕ) (o : Option ℕ) → place x ≡ o → first_found place found ≡ None
            → option_or (placed x o) None ≡ Some s → Some s ≡ first_found place (trees_of world class)
        here place s None p n e = cc
        here place s (Some i) p n e = sym e ∙ found_popped world place _ marks todo rest x i linked (g.missed place n) last p

        hit : (place : ℕ → Option ℕ) (s : ℕ × ℕ) → first_found place (found ++ x ∷ []) ≡ Some s
            → Some s ≡ first_found place (trees_of world class)
        hit place s e = go (first_found place found) refl (sym (at_end place) ∙ e)
          where
            go : (o : Option (ℕ × ℕ)) → first_found place found ≡ o → option_or o (option_or (placed x (place x)) None) ≡ Some s
                → Some s ≡ first_found place (trees_of world class)
            go None n q = here place s (place x) refl n q
            go (Some t) n q = g.hit place s (n ∙ q)

  pub gathering_within : (marks : List Bool) (todo rest found : List ℕ) (x : ℕ) → Gathering marks todo found → todo ≡ rest ++ x ∷ []
      → (length marks ≡ length world) × (x < length world)
  gathering_within marks todo rest found x g top =
      let s = g.missed no_place (nowhere found) in
      (s.len, s.within x (subst (IsIn x) (sym (last_first todo rest x top)) (inl refl)))

  pub gathering_less : (marks : List Bool) (todo rest now found : List ℕ) (x : ℕ) (d b : Bool) → Gathering marks todo found
      → todo ≡ rest ++ x ∷ [] → b ≡ get_or marks x d → b ≡ false → reverse now ≡ interfaces_once world x ++ reverse rest
      → left_from (interfaces_once world) 0 (set marks x true) + length now < left_from (interfaces_once world) 0 marks + length todo
  gathering_less marks todo rest now found x d b g top e f r = less_popped world no_place _ marks todo rest now x d b
      (g.missed no_place (nowhere found)) top e f r

  pub gathered : (marks : List Bool) (todo found : List ℕ) → is_linked world ≡ true → Gathering marks todo found → todo ≡ []
      → IsSought world class found
  gathered marks todo found linked g e place = go (first_found place found) refl ∙ sought_once world class place
    where
      go : (o : Option (ℕ × ℕ)) → first_found place found ≡ o → first_found place found ≡ first_found place (trees_of world class)
      go None n = n ∙ none_left (length world) (interfaces_once world) (is_above world) place (ordered world place linked)
          (first_found place (trees_of world class)) marks (reverse todo) (g.missed place n) (ap reverse e)
      go (Some r) n = n ∙ g.hit place r n

-- ---- rows

pub rows_none : (world : World) (rows : List (List ℕ)) → rows ≡ [] → AreSought world 0 rows
rows_none world rows e = record { all = ap length e; each = λ class l. absurd (omega (arith, l)) }

pub rows_more : (world : World) (count : ℕ) (rows more : List (List ℕ)) (row : List ℕ) → AreSought world count rows
    → IsSought world count row → more ≡ rows ++ row ∷ [] → AreSought world (count + 1) more
rows_more world count rows more row s r m = subst (AreSought world (count + 1)) (sym m) (record {
  all = omega (arith, s.all, length-append rows (row ∷ []));
  each = λ class l. elim (cases_lt class count) [
    | inl k ↦ subst (IsSought world class) (sym (get_or_append_left rows (row ∷ []) [] class (omega (arith, k, s.all)))) (s.each class k)
    | inr k ↦
        let here : class ≡ length rows = omega (arith, k, l, s.all) in
        let at : get_or (rows ++ row ∷ []) class [] ≡ row = ap (λ i. get_or (rows ++ row ∷ []) i []) here
        ∙ get_or-append_seam rows row [] [] in
        let same : class ≡ count = omega (arith, here, s.all) in
        subst (λ (xs : List ℕ). IsSought world class xs) (sym at) (subst (λ (k : ℕ). IsSought world k row) (sym same) r)
  ];
})

pub row_found : (world : World) (rows : List (List ℕ)) (class : ℕ) (row : List ℕ) → AreSought world (length world) rows
    → class < length rows → row ≡ get_or rows class row → IsSought world class row
row_found world rows class row s l e =
    let at : get_or rows class [] ≡ row = get_or_default rows class [] row l ∙ sym e in
    subst (IsSought world class) at (s.each class (omega (arith, l, s.all)))

pub row_past : (world : World) (class : ℕ) (rows : List (List ℕ)) → AreSought world (length world) rows → length rows ≤ class
    → IsSought world class []
unfolding superinterfaces_of line_of
row_past world class rows s l place = sym
    (ap (λ xs. first_found place (flat_map (with_interfaces (interfaces_of world) (length world)) xs)) (nothing (length world)))
  where
    past : length world ≤ class
    past = omega (arith, l, s.all)

    none : interfaces_of world class ≡ []
    none = ap (λ o. option_map_or (λ c. filter_map (class_of world) c.interfaces) o []) (slice_get_past world class past)

    nothing : (k : ℕ) → flat_map (interfaces_of world) (line_from (super_of world) k class) ≡ []
    nothing zero = refl
    nothing (suc m) =
        ap (λ o. interfaces_of world class ++ flat_map (interfaces_of world) (option_map_or (line_from (super_of world) m) o []))
        (sym (no_super world class past))
        ∙ ap (λ xs. xs ++ []) none
