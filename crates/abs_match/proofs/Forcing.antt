-- Pairs that every map must give, place by place.
use Rattle.std.proofs.Common.{◌≡◌, ◌≢◌, ℕ, zero, suc, ◌+◌, ◌<◌, ◌≤◌, ◌==◌, Bool, true, false, ◌&&◌, ◌||◌, List, [], ◌∷◌, ◌++◌}
use Rattle.std.proofs.Common.{length, get_or, take, drop, map, reverse, Option, Some, None, slice_get, refl, sym, ap, subst, ◌∙◌}
use Rattle.std.proofs.Common.{arith, eq-eqb}
use Rattle.std.specs.List.{list_all, flat_map, AllByRecursion}
use Rattle.std.specs.Bool.{MatchBool}
use Rattle.std.proofs.lemmas.Bool.{and_parts, and_from, or_left, or_right, MatchBool-at_true, MatchBool-at_false}
use Rattle.std.proofs.lemmas.Option.{get_or_from_slice_get, none-some}
use Rattle.std.proofs.lemmas.List.{take_all, drop_all, drop_more}
use Rattle.std.proofs.lemmas.List.Folds.{list_all-append, list_all_more}
use Rattle.list_views.proofs.Truths.{and_true}
use Rattle.jvm_values.proofs.Options.{some_is}
use Rattle.abs_cells.specs.AbstractStates.{AbstractFrame}
use Rattle.abs_cells.specs.Sound.{given_ids, ids_of_frame}
use Rattle.abs_cells.proofs.Checking.{all_reversed, all_flat}
use Rattle.abs_reach.specs.Instances.{image_in}
use Rattle.abs_match.specs.inner.Matching.{HasImage, local_at}
use Rattle.abs_match.specs.inner.Forced.{Gives, waits, ArePut, AreFirstPut, NoneDoes, stacked, place_asks, locals_ask, entries_ask}
use Rattle.abs_match.specs.inner.Forced.{frame_asks, frames_ask}
use Rattle.abs_match.proofs.Leasts.{local_is, entry_is}

-- a weaker test
pub weaker : {X : Type 0} (p q : X → Bool) (xs : List X) → ((x : X) → p x ≡ true → q x ≡ true) → list_all p xs ≡ true
    → list_all q xs ≡ true
weaker p q [] h t = refl
weaker p q (x ∷ xs) h t = let parts = and_parts (p x) (list_all p xs) t in and_from (q x) (list_all q xs) (h x parts.0)
    (weaker p q xs h parts.1)

pub none_put : (asks : List (ℕ × ℕ) → Type 0) (old : List (ℕ × ℕ)) → ArePut asks [] old old
none_put asks old = record { given = λ e a h. h; kept = λ id h. h; wait = refl }

-- one pair
module _ (id image : ℕ) where
  gives_one : (entries : List (ℕ × ℕ)) → place_asks (Some id) (Some image) entries → Gives entries (id, image)
  gives_one entries a = let there = a id refl in there.1.0 ∙ sym there.1.1

  waits_first : (old : List (ℕ × ℕ)) → waits ((id, image) ∷ old) id ≡ true
  waits_first old = or_left (id == id) (waits old id) (eq-eqb id id refl)

  one_here : (old : List (ℕ × ℕ)) → ArePut (place_asks (Some id) (Some image)) (id ∷ []) old ((id, image) ∷ old)
  one_here old = record {
    given = λ e a h. (gives_one e a, h);
    kept = λ other h. or_right (id == other) (waits old other) h;
    wait = and_from (waits ((id, image) ∷ old) id) true (waits_first old) refl;
  }

  pub one_put : (old new : List (ℕ × ℕ)) → new ≡ (id, image) ∷ old → ArePut (place_asks (Some id) (Some image)) (id ∷ []) old new
  one_put old new e = subst (λ (pairs : List (ℕ × ℕ)). ArePut (place_asks (Some id) (Some image)) (id ∷ []) old pairs) (sym e)
      (one_here old)

  pub one_more : (old new : List (ℕ × ℕ)) → new ≡ (id, image) ∷ old → length new ≤ length old + 1
  one_more old new e = let l : length new ≡ suc (length old) = ap length e in omega (arith, l)

pub no_place : (id : ℕ) → NoneDoes (place_asks (Some id) None)
no_place id entries a = let there = a id refl in none-some there.0 there.1.1

-- the same of places, whatever they are called
module _ (theirs ours : Option ℕ) (old : List (ℕ × ℕ)) where
  pub nothing_here : theirs ≡ None → ArePut (place_asks theirs ours) (given_ids (theirs ∷ [])) old old
  nothing_here e = subst (λ (t : Option ℕ). ArePut (place_asks t ours) (given_ids (t ∷ [])) old old) (sym e)
      (none_put (place_asks None ours) old)

  pub nowhere_there : (id : ℕ) → theirs ≡ Some id → ours ≡ None → NoneDoes (place_asks theirs ours)
  nowhere_there id e f = subst (λ (t : Option ℕ). NoneDoes (place_asks t ours)) (sym e)
      (subst (λ (o : Option ℕ). NoneDoes (place_asks (Some id) o)) (sym f) (no_place id))

  pub pair_here : (id image : ℕ) (new : List (ℕ × ℕ)) → theirs ≡ Some id → ours ≡ Some image → new ≡ (id, image) ∷ old
      → ArePut (place_asks theirs ours) (given_ids (theirs ∷ [])) old new
  pair_here id image new e f g =
      subst (λ (t : Option ℕ). ArePut (place_asks t ours) (given_ids (t ∷ [])) old new) (sym e)
      (subst (λ (o : Option ℕ). ArePut (place_asks (Some id) o) (id ∷ []) old new) (sym f) (one_put id image old new g))

-- what is asked less
pub none_more : (asks more : List (ℕ × ℕ) → Type 0) → ((entries : List (ℕ × ℕ)) → more entries → asks entries) → NoneDoes asks
    → NoneDoes more
none_more asks more h n entries a = n entries (h entries a)

pub put_more : (asks more : List (ℕ × ℕ) → Type 0) (ids others : List ℕ) (old new : List (ℕ × ℕ))
    → ((entries : List (ℕ × ℕ)) → more entries → asks entries) → ((test : ℕ → Bool) → list_all test others ≡ list_all test ids)
    → ArePut asks ids old new → ArePut more others old new
put_more asks more ids others old new h same p = record {
  given = λ e a k. p.given e (h e a) k;
  kept = p.kept;
  wait = same (waits new) ∙ p.wait;
}

pub put_both : (first second all : List (ℕ × ℕ) → Type 0) (xs ys : List ℕ) (old mid new : List (ℕ × ℕ))
    → ((entries : List (ℕ × ℕ)) → all entries → first entries) → ((entries : List (ℕ × ℕ)) → all entries → second entries)
    → ArePut first xs old mid → ArePut second ys mid new → ArePut all (xs ++ ys) old new
put_both first second all xs ys old mid new f s p q = record {
  given = λ e a h. q.given e (s e a) (p.given e (f e a) h);
  kept = λ id h. q.kept id (p.kept id h);
  wait = list_all-append (waits new) xs ys ∙ and_from (list_all (waits new) xs) (list_all (waits new) ys)
      (weaker (waits mid) (waits new) xs q.kept p.wait) q.wait;
}

-- ---- items one after another

module _ {X : Type 0} (asks : List (ℕ × ℕ) → Type 0) (names : X → List ℕ) (items : List X) where
  pub first_none : (old : List (ℕ × ℕ)) → AreFirstPut asks names items 0 old old
  first_none old = record { given = λ e a h. h; kept = λ id h. h; wait = refl }

  pub first_more : (one : List (ℕ × ℕ) → Type 0) (n : ℕ) (d : X) (old mid new : List (ℕ × ℕ))
      → ((entries : List (ℕ × ℕ)) → asks entries → one entries) → n < length items → AreFirstPut asks names items n old mid
      → ArePut one (names (get_or items n d)) mid new → AreFirstPut asks names items (n + 1) old new
  first_more one n d old mid new less low p q = record {
    given = λ e a h. q.given e (less e a) (p.given e a h);
    kept = λ id h. q.kept id (p.kept id h);
    wait = list_all_more (λ (item : X). list_all (waits new) (names item)) items n d low
        ∙ and_from (list_all (λ (item : X). list_all (waits new) (names item)) (take n items))
        (list_all (waits new) (names (get_or items n d)))
        (weaker (λ (item : X). list_all (waits mid) (names item)) (λ (item : X). list_all (waits new) (names item)) (take n items)
        (λ item t. weaker (waits mid) (waits new) (names item) q.kept t) p.wait)
        q.wait;
  }

  pub first_all : (n : ℕ) (ids : List ℕ) (old new : List (ℕ × ℕ)) → length items ≤ n
      → ((test : ℕ → Bool) → list_all test ids ≡ list_all (λ (item : X). list_all test (names item)) items)
      → AreFirstPut asks names items n old new → ArePut asks ids old new
  first_all n ids old new l same p = record {
    given = p.given;
    kept = p.kept;
    wait = same (waits new) ∙ sym (ap (list_all (λ (item : X). list_all (waits new) (names item))) (take_all n items l)) ∙ p.wait;
  }

pub locals_flat : (locals : List (Option ℕ)) (test : ℕ → Bool)
    → list_all test (given_ids locals) ≡ list_all (λ (local : Option ℕ). list_all test (given_ids (local ∷ []))) locals
locals_flat [] test = refl
locals_flat (None ∷ locals) test = locals_flat locals test
locals_flat (Some id ∷ locals) test = ap (λ (b : Bool). b && list_all test (given_ids locals)) (sym (and_true (test id)))
    ∙ ap (λ (b : Bool). (test id && true) && b) (locals_flat locals test)

pub entries_flat : (stack : List ℕ) (test : ℕ → Bool)
    → list_all test stack ≡ list_all (λ (id : ℕ). list_all test (given_ids (Some id ∷ []))) stack
entries_flat [] test = refl
entries_flat (id ∷ stack) test = ap (λ (b : Bool). b && list_all test stack) (sym (and_true (test id)))
    ∙ ap (λ (b : Bool). (test id && true) && b) (entries_flat stack test)

pub reversed_ids : (stack : List ℕ) (test : ℕ → Bool) → list_all test stack ≡ list_all test (reverse stack)
reversed_ids stack test = sym (all_reversed test stack)

pub frame_flat : (locals : List (Option ℕ)) (stack : List ℕ) (test : ℕ → Bool)
    → list_all test (given_ids locals ++ stack) ≡ list_all test (given_ids locals ++ reverse stack)
frame_flat locals stack test =
    list_all-append test (given_ids locals) stack ∙ ap (λ (b : Bool). list_all test (given_ids locals) && b)
    (reversed_ids stack test) ∙ sym (list_all-append test (given_ids locals) (reverse stack))

pub frames_flat : (frames : List AbstractFrame) (test : ℕ → Bool)
    → list_all test (flat_map ids_of_frame frames) ≡ list_all (λ (frame : AbstractFrame). list_all test (ids_of_frame frame)) frames
frames_flat frames test = all_flat test ids_of_frame frames

pub frames_turned : (frames : List AbstractFrame) (test : ℕ → Bool)
    → list_all test (flat_map ids_of_frame frames) ≡ list_all test (flat_map ids_of_frame (reverse frames))
frames_turned frames test = frames_flat frames test
    ∙ sym (all_reversed (λ (frame : AbstractFrame). list_all test (ids_of_frame frame)) frames) ∙ sym (frames_flat (reverse frames) test)

pub positions_flat : (frames : List AbstractFrame) (thrown : Option ℕ) (test : ℕ → Bool)
    → list_all test (flat_map ids_of_frame frames ++ given_ids (thrown ∷ [])) ≡ list_all test
    (flat_map ids_of_frame (reverse frames) ++ given_ids (thrown ∷ []))
positions_flat frames thrown test =
    list_all-append test (flat_map ids_of_frame frames) (given_ids (thrown ∷ []))
    ∙ ap (λ (b : Bool). b && list_all test (given_ids (thrown ∷ []))) (frames_turned frames test)
    ∙ sym (list_all-append test (flat_map ids_of_frame (reverse frames)) (given_ids (thrown ∷ [])))

-- ---- two lists of ids

first_same : (a b : Option ℕ) (xs ys : List (Option ℕ)) → a ∷ xs ≡ b ∷ ys → a ≡ b
first_same a b xs ys e = some_is (ap (λ (zs : List (Option ℕ)). slice_get zs 0) e)

rest_same : (a b : Option ℕ) (xs ys : List (Option ℕ)) → a ∷ xs ≡ b ∷ ys → xs ≡ ys
rest_same a b xs ys e = ap (λ (zs : List (Option ℕ)). rest_of zs) e
  where
    rest_of : List (Option ℕ) → List (Option ℕ)
    rest_of [] = []
    rest_of (z ∷ zs) = zs

pub stacked_kept : (ids images : List ℕ) (old : List (ℕ × ℕ)) (id : ℕ) → waits old id ≡ true → waits (stacked ids images old) id ≡ true
stacked_kept [] images old id h = h
stacked_kept (x ∷ ids) [] old id h = h
stacked_kept (x ∷ ids) (y ∷ images) old id h = stacked_kept ids images ((x, y) ∷ old) id (or_right (x == id) (waits old id) h)

pub stacked_gives : (entries : List (ℕ × ℕ)) (ids images : List ℕ) (old : List (ℕ × ℕ))
    → map (image_in entries) ids ≡ map Some images → AllByRecursion (Gives entries) old
    → AllByRecursion (Gives entries) (stacked ids images old)
stacked_gives entries [] images old e h = h
stacked_gives entries (x ∷ ids) [] old e h = h
stacked_gives entries (x ∷ ids) (y ∷ images) old e h =
    stacked_gives entries ids images ((x, y) ∷ old)
    (rest_same (image_in entries x) (Some y) (map (image_in entries) ids) (map Some images) e)
    (first_same (image_in entries x) (Some y) (map (image_in entries) ids) (map Some images) e, h)

pub stacked_waits : (ids images : List ℕ) (old : List (ℕ × ℕ)) → length ids ≡ length images
    → list_all (waits (stacked ids images old)) ids ≡ true
stacked_waits [] images old l = refl
stacked_waits (x ∷ ids) [] old l = absurd (omega (arith, l))
stacked_waits (x ∷ ids) (y ∷ images) old l =
    and_from (waits (stacked ids images ((x, y) ∷ old)) x) (list_all (waits (stacked ids images ((x, y) ∷ old))) ids)
    (stacked_kept ids images ((x, y) ∷ old) x (waits_first x y old))
    (stacked_waits ids images ((x, y) ∷ old) (omega (arith, l)))

pub stacked_length : (ids images : List ℕ) (old : List (ℕ × ℕ)) → length (stacked ids images old) ≤ length old + length ids
stacked_length [] images old = omega arith
stacked_length (x ∷ ids) [] old = omega arith
stacked_length (x ∷ ids) (y ∷ images) old = let h = stacked_length ids images ((x, y) ∷ old) in omega (arith, h)

pub all_put : (asks : List (ℕ × ℕ) → Type 0) (ids images : List ℕ) (old new : List (ℕ × ℕ))
    → ((entries : List (ℕ × ℕ)) → asks entries → map (image_in entries) ids ≡ map Some images) → length ids ≡ length images
    → new ≡ stacked ids images old → ArePut asks ids old new
all_put asks ids images old new h l e = subst (λ (pairs : List (ℕ × ℕ)). ArePut asks ids old pairs) (sym e) (record {
  given = λ entries a k. stacked_gives entries ids images old (h entries a) k;
  kept = stacked_kept ids images old;
  wait = stacked_waits ids images old l;
})

pub all_few : (ids images : List ℕ) (old new : List (ℕ × ℕ)) → new ≡ stacked ids images old → length new ≤ length old + length ids
all_few ids images old new e = let l : length new ≡ length (stacked ids images old) = ap length e in let h = stacked_length ids
    images old in omega (arith, l, h)

pub stacked_more : (ids images : List ℕ) (n : ℕ) (old : List (ℕ × ℕ)) → n < length ids → n < length images
    → stacked (drop n ids) (drop n images) old ≡ stacked (drop (n + 1) ids) (drop (n + 1) images)
    ((get_or ids n 0, get_or images n 0) ∷ old)
stacked_more ids images n old l m =
    ap (λ (xs : List ℕ). stacked xs (drop n images) old) (drop_more ids n 0 l)
    ∙ ap (λ (ys : List ℕ). stacked (get_or ids n 0 ∷ drop (n + 1) ids) ys old) (drop_more images n 0 m)

pub stacked_end : (ids images : List ℕ) (n : ℕ) (old : List (ℕ × ℕ)) → length ids ≤ n → stacked (drop n ids) (drop n images) old ≡ old
stacked_end ids images n old l = ap (λ (xs : List ℕ). stacked xs (drop n images) old) (drop_all n ids l)

-- ---- loops over places

module _ (theirs ours : List (Option ℕ)) where
  abbrev pub local_ids : Option ℕ → List ℕ
  local_ids local = given_ids (local ∷ [])

  local_less : (n : ℕ) (mine : Option ℕ) → n < length theirs → mine ≡ local_at ours n → (entries : List (ℕ × ℕ))
      → locals_ask theirs ours entries → place_asks (get_or theirs n None) mine entries
  local_less n mine low is entries all id e = subst (λ (found : Option ℕ). HasImage entries id found) (sym is)
      (all id n (sym (local_is theirs n low) ∙ e))

  pub local_fails : (n : ℕ) (mine : Option ℕ) (r : Bool) (old new : List (ℕ × ℕ)) → n < length theirs → mine ≡ local_at ours n
      → r ≡ false → MatchBool r (ArePut (place_asks (get_or theirs n None) mine) (given_ids (get_or theirs n None ∷ [])) old new)
      (NoneDoes (place_asks (get_or theirs n None) mine)) → NoneDoes (locals_ask theirs ours)
  local_fails n mine r old new low is e h =
      none_more (place_asks (get_or theirs n None) mine) (locals_ask theirs ours) (local_less n mine low is)
      (MatchBool-at_false (ArePut (place_asks (get_or theirs n None) mine) (given_ids (get_or theirs n None ∷ [])) old new)
      (NoneDoes (place_asks (get_or theirs n None) mine)) e h)

  pub local_more : (n : ℕ) (mine : Option ℕ) (r : Bool) (first old new : List (ℕ × ℕ)) → n < length theirs → mine ≡ local_at ours n
      → r ≡ true → AreFirstPut (locals_ask theirs ours) local_ids theirs n first old
      → MatchBool r (ArePut (place_asks (get_or theirs n None) mine) (given_ids (get_or theirs n None ∷ [])) old new)
      (NoneDoes (place_asks (get_or theirs n None) mine)) → AreFirstPut (locals_ask theirs ours) local_ids theirs (n + 1) first new
  local_more n mine r first old new low is e p h =
      first_more (locals_ask theirs ours) local_ids theirs (place_asks (get_or theirs n None) mine) n None first old new
      (local_less n mine low is) low p
      (MatchBool-at_true (ArePut (place_asks (get_or theirs n None) mine) (given_ids (get_or theirs n None ∷ [])) old new)
      (NoneDoes (place_asks (get_or theirs n None) mine)) e h)

  pub all_locals : (n : ℕ) (old new : List (ℕ × ℕ)) → length theirs ≤ n
      → AreFirstPut (locals_ask theirs ours) local_ids theirs n old new → ArePut (locals_ask theirs ours) (given_ids theirs) old new
  all_locals n old new l p = first_all (locals_ask theirs ours) local_ids theirs n (given_ids theirs) old new l (locals_flat theirs) p

module _ (theirs ours : List ℕ) where
  abbrev pub entry_ids : ℕ → List ℕ
  entry_ids id = given_ids (Some id ∷ [])

  entry_less : (n : ℕ) (mine : Option ℕ) → n < length theirs → mine ≡ slice_get ours n → (entries : List (ℕ × ℕ))
      → entries_ask theirs ours entries → place_asks (Some (get_or theirs n 0)) mine entries
  entry_less n mine low is entries all id e = subst (λ (found : Option ℕ). HasImage entries id found) (sym is)
      (all id n (sym (entry_is theirs n low) ∙ e))

  pub entry_fails : (n : ℕ) (mine : Option ℕ) (r : Bool) (old new : List (ℕ × ℕ)) → n < length theirs → mine ≡ slice_get ours n
      → r ≡ false → MatchBool r (ArePut (place_asks (Some (get_or theirs n 0)) mine) (given_ids (Some (get_or theirs n 0) ∷ [])) old
      new) (NoneDoes (place_asks (Some (get_or theirs n 0)) mine)) → NoneDoes (entries_ask theirs ours)
  entry_fails n mine r old new low is e h =
      none_more (place_asks (Some (get_or theirs n 0)) mine) (entries_ask theirs ours) (entry_less n mine low is)
      (MatchBool-at_false (ArePut (place_asks (Some (get_or theirs n 0)) mine) (given_ids (Some (get_or theirs n 0) ∷ [])) old new)
      (NoneDoes (place_asks (Some (get_or theirs n 0)) mine)) e h)

  pub entry_more : (n : ℕ) (mine : Option ℕ) (r : Bool) (first old new : List (ℕ × ℕ)) → n < length theirs → mine ≡ slice_get ours n
      → r ≡ true → AreFirstPut (entries_ask theirs ours) entry_ids theirs n first old
      → MatchBool r (ArePut (place_asks (Some (get_or theirs n 0)) mine) (given_ids (Some (get_or theirs n 0) ∷ [])) old new)
      (NoneDoes (place_asks (Some (get_or theirs n 0)) mine)) → AreFirstPut (entries_ask theirs ours) entry_ids theirs (n + 1) first new
  entry_more n mine r first old new low is e p h =
      first_more (entries_ask theirs ours) entry_ids theirs (place_asks (Some (get_or theirs n 0)) mine) n 0 first old new
      (entry_less n mine low is) low p
      (MatchBool-at_true (ArePut (place_asks (Some (get_or theirs n 0)) mine) (given_ids (Some (get_or theirs n 0) ∷ [])) old new)
      (NoneDoes (place_asks (Some (get_or theirs n 0)) mine)) e h)

  pub all_entries : (n : ℕ) (old new : List (ℕ × ℕ)) → length theirs ≤ n
      → AreFirstPut (entries_ask theirs ours) entry_ids theirs n old new → ArePut (entries_ask theirs ours) theirs old new
  all_entries n old new l p = first_all (entries_ask theirs ours) entry_ids theirs n theirs old new l (entries_flat theirs) p

module _ (theirs ours : List AbstractFrame) (count : length ours ≡ length theirs) where
  frame_less : (n : ℕ) (t o : AbstractFrame) → slice_get theirs n ≡ Some t → slice_get ours n ≡ Some o → n < length theirs
      → (entries : List (ℕ × ℕ)) → frames_ask theirs ours entries → frame_asks t o entries
  frame_less n t o e f low entries all id = all id n low t o e f

  pub frame_fails : (n : ℕ) (t o : AbstractFrame) (r : Bool) (old new : List (ℕ × ℕ)) → slice_get theirs n ≡ Some t
      → slice_get ours n ≡ Some o → n < length theirs → r ≡ false
      → MatchBool r (ArePut (frame_asks t o) (ids_of_frame t) old new) (NoneDoes (frame_asks t o)) → NoneDoes (frames_ask theirs ours)
  frame_fails n t o r old new e f low is h =
      none_more (frame_asks t o) (frames_ask theirs ours) (frame_less n t o e f low)
      (MatchBool-at_false (ArePut (frame_asks t o) (ids_of_frame t) old new) (NoneDoes (frame_asks t o)) is h)

  pub frame_more : (n : ℕ) (t o : AbstractFrame) (r : Bool) (first old new : List (ℕ × ℕ)) → slice_get theirs n ≡ Some t
      → slice_get ours n ≡ Some o → n < length theirs → r ≡ true
      → AreFirstPut (frames_ask theirs ours) ids_of_frame theirs n first old
      → MatchBool r (ArePut (frame_asks t o) (ids_of_frame t) old new) (NoneDoes (frame_asks t o))
      → AreFirstPut (frames_ask theirs ours) ids_of_frame theirs (n + 1) first new
  frame_more n t o r first old new e f low is p h =
      first_more (frames_ask theirs ours) ids_of_frame theirs (frame_asks t o) n t first old new (frame_less n t o e f low) low p
      (subst (λ (frame : AbstractFrame). ArePut (frame_asks t o) (ids_of_frame frame) old new) (sym (get_or_from_slice_get theirs n t t e))
      (MatchBool-at_true (ArePut (frame_asks t o) (ids_of_frame t) old new) (NoneDoes (frame_asks t o)) is h))

  pub all_frames : (n : ℕ) (old new : List (ℕ × ℕ)) → length theirs ≤ n
      → AreFirstPut (frames_ask theirs ours) ids_of_frame theirs n old new
      → ArePut (frames_ask theirs ours) (flat_map ids_of_frame theirs) old new
  all_frames n old new l p = first_all (frames_ask theirs ours) ids_of_frame theirs n (flat_map ids_of_frame theirs) old new l
      (frames_flat theirs) p

-- ---- a frame, and all positions

pub frame_put : (theirs ours : AbstractFrame) (locals our_locals : List (Option ℕ)) (stack our_stack : List ℕ) (r : Bool)
    (old mid new : List (ℕ × ℕ)) → locals ≡ theirs.locals → our_locals ≡ ours.locals → stack ≡ reverse theirs.stack
    → our_stack ≡ reverse ours.stack → ArePut (locals_ask locals our_locals) (given_ids locals) old mid
    → MatchBool r (ArePut (entries_ask stack our_stack) stack mid new) (NoneDoes (entries_ask stack our_stack))
    → MatchBool r (ArePut (frame_asks theirs ours) (ids_of_frame theirs) old new) (NoneDoes (frame_asks theirs ours))
frame_put theirs ours locals our_locals stack our_stack true old mid new a b c d p q =
    put_more (λ entries. locals_ask locals our_locals entries × entries_ask stack our_stack entries) (frame_asks theirs ours)
    (given_ids locals ++ stack) (ids_of_frame theirs) old new
    (λ entries all. (local_part entries all, entry_part entries all))
    (λ test. frame_flat theirs.locals theirs.stack test
    ∙ ap (λ (ls : List (Option ℕ)). list_all test (given_ids ls ++ reverse theirs.stack)) (sym a)
    ∙ ap (λ (xs : List ℕ). list_all test (given_ids locals ++ xs)) (sym c))
    (put_both (locals_ask locals our_locals) (entries_ask stack our_stack) (λ entries. locals_ask locals our_locals entries
    × entries_ask stack our_stack entries) (given_ids locals) stack old mid new (λ entries all. all.0) (λ entries all. all.1) p q)
  where
    local_part : (entries : List (ℕ × ℕ)) → frame_asks theirs ours entries → locals_ask locals our_locals entries
    local_part entries all = subst (λ (ls : List (Option ℕ)). locals_ask ls our_locals entries) (sym a)
        (subst (λ (ls : List (Option ℕ)). locals_ask theirs.locals ls entries) (sym b) (λ id. (all id).0))

    entry_part : (entries : List (ℕ × ℕ)) → frame_asks theirs ours entries → entries_ask stack our_stack entries
    entry_part entries all = subst (λ (xs : List ℕ). entries_ask xs our_stack entries) (sym c)
        (subst (λ (xs : List ℕ). entries_ask (reverse theirs.stack) xs entries) (sym d) (λ id. (all id).1))
frame_put theirs ours locals our_locals stack our_stack false old mid new a b c d p q =
    λ entries all. q entries
    (subst (λ (xs : List ℕ). entries_ask xs our_stack entries) (sym c)
    (subst (λ (xs : List ℕ). entries_ask (reverse theirs.stack) xs entries) (sym d) (λ id. (all id).1)))

pub frame_none : (theirs ours : AbstractFrame) (locals our_locals : List (Option ℕ)) (r : Bool) (old new : List (ℕ × ℕ))
    → locals ≡ theirs.locals → our_locals ≡ ours.locals → r ≡ false
    → MatchBool r (ArePut (locals_ask locals our_locals) (given_ids locals) old new) (NoneDoes (locals_ask locals our_locals))
    → NoneDoes (frame_asks theirs ours)
frame_none theirs ours locals our_locals r old new a b is h entries all =
    MatchBool-at_false (ArePut (locals_ask locals our_locals) (given_ids locals) old new) (NoneDoes (locals_ask locals our_locals))
    is h entries
    (subst (λ (ls : List (Option ℕ)). locals_ask ls our_locals entries) (sym a)
    (subst (λ (ls : List (Option ℕ)). locals_ask theirs.locals ls entries) (sym b) (λ id. (all id).0)))

pub locals_were_put : (locals our_locals : List (Option ℕ)) (r : Bool) (old new : List (ℕ × ℕ)) → r ≡ true
    → MatchBool r (ArePut (locals_ask locals our_locals) (given_ids locals) old new) (NoneDoes (locals_ask locals our_locals))
    → ArePut (locals_ask locals our_locals) (given_ids locals) old new
locals_were_put locals our_locals r old new is h = MatchBool-at_true
    (ArePut (locals_ask locals our_locals) (given_ids locals) old new) (NoneDoes (locals_ask locals our_locals)) is h
