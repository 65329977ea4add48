-- Visits, put together and gone on with.
use Rattle.std.proofs.Common.{◌≡◌, ℕ, ◌+◌, ◌<◌, ◌≤◌, ◌==◌, true, false, ◌||◌, List, [], ◌∷◌, ◌++◌, length, get_or, drop, zip}
use Rattle.std.proofs.Common.{reverse, Option, refl, sym, ap, subst, ◌∙◌, arith, append_assoc, append-nil, length-append}
use Rattle.std.specs.List.{AllByRecursion, flat_map}
use Rattle.std.proofs.lemmas.Bool.{or_left, or_right, or_from, or_parts, and_from, and_parts, eq-eqb, eqb-true, both_ways}
use Rattle.std.proofs.lemmas.Bool.{false_from_ne_true}
use Rattle.std.proofs.lemmas.List.Folds.{list_any-append}
use Rattle.list_views.proofs.Quantified.{all_joined, all_front, all_back}
use Rattle.abs_cells.specs.AbstractStates.{AbstractFrame, AbstractState}
use Rattle.abs_cells.specs.PairLists.{is_same}
use Rattle.abs_widen.specs.Visits.{is_among, Visits, AreDifferent, IsPaired, AreTooMany, pairs_below, ArePairs, position_pairs}
use Rattle.abs_widen.specs.Visits.{frames_pairs, some_in, thrown_pair}
use Rattle.abs_widen.specs.Visits.Visits.{ends, again, first}
use Rattle.abs_widen.specs.Visits.IsPaired.{placed, named}
use Rattle.abs_widen.proofs.Zips.{zip_more}
use Rattle.abs_widen.specs.inner.Visiting.{Continues, IsNext, IsLeft, IsLeftOf, IsWithRest, AreMet, AreFew, ArePaired}

-- ---- lists

-- a pair is itself
pub is_itself : (p : ℕ × ℕ) → is_same p p ≡ true
is_itself p = and_from (p.0 == p.0) (p.1 == p.1) (eq-eqb p.0 p.0 refl) (eq-eqb p.1 p.1 refl)

swapped : (p q : ℕ × ℕ) → is_same p q ≡ true → is_same q p ≡ true
swapped p q h =
    let parts = and_parts (p.0 == q.0) (p.1 == q.1) h in
    and_from (q.0 == p.0) (q.1 == p.1) (eq-eqb q.0 p.0 (sym (eqb-true p.0 q.0 parts.0))) (eq-eqb q.1 p.1 (sym (eqb-true p.1 q.1 parts.1)))

not_swapped : (p q : ℕ × ℕ) → is_same p q ≡ false → is_same q p ≡ false
not_swapped p q h = false_from_ne_true (is_same q p) (λ t. both_ways (is_same p q) h (swapped q p t))

-- what holds of each pair that is among these holds of all
pub all_among : (holds : ℕ × ℕ → Type 0) (pairs : List (ℕ × ℕ)) → ((p : ℕ × ℕ) → is_among p pairs ≡ true → holds p)
    → AllByRecursion holds pairs
all_among holds [] h = tt
all_among holds (p ∷ pairs) h = (
  h p (or_left (is_same p p) (is_among p pairs) (is_itself p)),
  all_among holds pairs
      (λ q k. h q (or_right (is_same q p) (is_among q pairs) k)),
)

-- a pair at the end
has_end : (pair : ℕ × ℕ) (met : List (ℕ × ℕ)) (q : ℕ × ℕ) → is_among q met ≡ false → is_same q pair ≡ false
    → is_among q (met ++ pair ∷ []) ≡ false
has_end pair met q h k = list_any-append (is_same q) met (pair ∷ []) ∙ or_from (is_among q met) (is_same q pair || false) h
    (or_from (is_same q pair) false k refl)

-- a pair that was not met, behind those that were
pub different_more : (met : List (ℕ × ℕ)) (pair : ℕ × ℕ) → AreDifferent met → is_among pair met ≡ false → AreDifferent (met ++ pair ∷ [])
different_more [] pair h k = (refl, tt)
different_more (p ∷ met) pair h k =
    let parts = or_parts (is_same pair p) (is_among pair met) k in
    (has_end pair met p h.0 (not_swapped pair p parts.0), different_more met pair h.1 parts.1)

-- ---- visits

module _ (a b : AbstractState) where
  pub continues_from : (met xs mid : List (ℕ × ℕ)) → Visits a b met xs mid → Continues a b met xs mid
  continues_from met xs mid (ends m) = λ rest all v. v
  continues_from met xs mid (again m ys others pair h w) = λ rest all v. again m (ys ++ rest) all pair h
      (continues_from m ys mid w rest all v)
  continues_from met xs mid (first m ys others pair h w) = λ rest all v.
      first m (ys ++ rest) all pair h
      (subst (λ (l : List (ℕ × ℕ)). Visits a b (m ++ pair ∷ []) l all) (append_assoc (pairs_below a b pair) ys rest)
      (continues_from (m ++ pair ∷ []) (pairs_below a b pair ++ ys) mid w rest all v))

  pub continues_both : (old xs mid ys new : List (ℕ × ℕ)) → Continues a b old xs mid → Continues a b mid ys new
      → Continues a b old (xs ++ ys) new
  continues_both old xs mid ys new f g = λ rest all v. subst (λ (l : List (ℕ × ℕ)). Visits a b old l all)
      (sym (append_assoc xs ys rest)) (f (ys ++ rest) all (g rest all v))

  pub continues_ends : (old xs new : List (ℕ × ℕ)) → Continues a b old xs new → Visits a b old xs new
  continues_ends old xs new f = subst (λ (l : List (ℕ × ℕ)). Visits a b old l new) (append-nil xs) (f [] new (ends new))

  -- one turn of a visit
  module _ (met old new : List (ℕ × ℕ)) (pair : ℕ × ℕ) (next : IsNext met old new pair) (few : AreFew a b met)
      (paired : ArePaired a b old) where
    is_paired : IsPaired a b pair
    is_paired = (next.kept a b paired).0

    pub goes_on : (all : List (ℕ × ℕ)) → Visits a b (met ++ pair ∷ []) (pairs_below a b pair ++ new) all → Visits a b met old all
    goes_on all v = next.visits a b all (first met new all pair next.fresh v)

    all_more : ArePaired a b (met ++ pair ∷ [])
    all_more = all_joined (IsPaired a b) met (pair ∷ []) few.paired (is_paired, tt)

    pub few_more : length met < 512 → AreFew a b (met ++ pair ∷ [])
    few_more l = record {
      few = let e : length (met ++ pair ∷ []) ≡ length met + 1 = length-append met (pair ∷ []) in omega (arith, e, l);
      differ = different_more met pair few.differ next.fresh;
      paired = all_more;
    }

    pub paired_more : ArePaired a b (pairs_below a b pair ++ new)
    paired_more = all_joined (IsPaired a b) (pairs_below a b pair) new
        (all_among (IsPaired a b) (pairs_below a b pair) (λ q h. named pair q is_paired h)) (next.kept a b paired).1

    pub too_many : 512 ≤ length met → AreTooMany a b
    too_many l = record {
      pairs = met ++ pair ∷ [];
      many = let e : length (met ++ pair ∷ []) ≡ length met + 1 = length-append met (pair ∷ []) in omega (arith, e, l);
      differ = different_more met pair few.differ next.fresh;
      paired = all_more;
    }

-- ---- pairs that were met are passed over

module _ (met old : List (ℕ × ℕ)) where
  pub left_none : IsLeft met old old
  left_none = record { visits = λ a b all v. v; kept = λ a b h. h }

  pub left_more : (new : List (ℕ × ℕ)) (pair : ℕ × ℕ) → IsLeft met old (pair ∷ new) → is_among pair met ≡ true → IsLeft met old new
  left_more new pair left h = record {
    visits = λ a b all v. left.visits a b all (again met new all pair h v);
    kept = λ a b k.
        (left.kept a b k).1;
  }

  pub next_of : (new : List (ℕ × ℕ)) (pair : ℕ × ℕ) → IsLeft met old (pair ∷ new) → is_among pair met ≡ false → IsNext met old new pair
  next_of new pair left h = record { fresh = h; visits = left.visits; kept = left.kept }

  pub none_of : IsLeft met old [] → AreMet met old
  none_of left = λ a b. left.visits a b met (ends met)

-- ---- where a visit stands

module _ (a b : AbstractState) (begun whole : List (ℕ × ℕ)) where
  pub left_begun : AreFew a b begun → ArePaired a b whole → IsLeftOf a b begun whole begun whole
  left_begun few paired = record { few = few; paired = paired; visits = λ all v. v }

  pub left_on : (met todo new : List (ℕ × ℕ)) (pair : ℕ × ℕ) → IsLeftOf a b begun whole met todo → IsNext met todo new pair
      → length met < 512
      → IsLeftOf a b begun whole (met ++ pair ∷ []) (pairs_below a b pair ++ new)
  left_on met todo new pair left next l = record {
    few = few_more a b met todo new pair next left.few left.paired l;
    paired = paired_more a b met todo new pair next left.few left.paired;
    visits = λ all v. left.visits all (goes_on a b met todo new pair next left.few left.paired all v);
  }

  pub left_ended : (met todo : List (ℕ × ℕ)) → IsLeftOf a b begun whole met todo → AreMet met todo
      → AreFew a b met × Visits a b begun whole met
  left_ended met todo left all_met = (left.few, left.visits met (all_met a b))

  -- the same of lists that are equal to those
  pub left_goes : (met todo new met_after todo_after : List (ℕ × ℕ)) (pair : ℕ × ℕ) → IsLeftOf a b begun whole met todo
      → IsNext met todo new pair → length met < 512
      → met_after ≡ met ++ pair ∷ [] → todo_after ≡ pairs_below a b pair ++ new → IsLeftOf a b begun whole met_after todo_after
  left_goes met todo new met_after todo_after pair left next l e f =
      subst (λ (m : List (ℕ × ℕ)). IsLeftOf a b begun whole m todo_after) (sym e)
      (subst (λ (t : List (ℕ × ℕ)). IsLeftOf a b begun whole (met ++ pair ∷ []) t) (sym f) (left_on met todo new pair left next l))

  -- a visit of one pair
  pub one_visited : (id other : ℕ) (new : List (ℕ × ℕ)) → whole ≡ (id, other) ∷ [] → AreFew a b new × Visits a b begun whole new
      → AreFew a b new × Continues a b begun ((id, other) ∷ []) new
  one_visited id other new e done =
      (done.0, subst (λ (w : List (ℕ × ℕ)). Continues a b begun w new) e (continues_from a b begun whole new done.1))

-- ---- pairs in their order

module _ (a b : AbstractState) (begun whole : List (ℕ × ℕ)) where
  pub rest_begun : AreFew a b begun → ArePaired a b whole → IsWithRest a b begun whole begun whole
  rest_begun few paired = record { few = few; paired = paired; visits = λ rest all v. v }

  pub rest_on : (met front left new : List (ℕ × ℕ)) → IsWithRest a b begun whole met (front ++ left) → AreFew a b new
      → Continues a b met front new → IsWithRest a b begun whole new left
  rest_on met front left new r few on = record {
    few = few;
    paired = all_back (IsPaired a b) front left r.paired;
    visits = λ rest all v. r.visits rest all
        (subst (λ (l : List (ℕ × ℕ)). Visits a b met l all) (sym (append_assoc front left rest)) (on (left ++ rest) all v));
  }

  pub rest_ended : (met : List (ℕ × ℕ)) → IsWithRest a b begun whole met [] → AreFew a b met × Continues a b begun whole met
  rest_ended met r = (r.few, λ rest all v. r.visits rest all v)

-- ---- pairs of two lists' items, place by place

module _ {A B : Type 0} (f : A × B → List (ℕ × ℕ)) (xs : List A) (ys : List B) (n : ℕ) (x : A) (y : B)
    (x_is : x ≡ get_or xs n x) (y_is : y ≡ get_or ys n y) (low : n < length xs) (lower : n < length ys) where
  here : flat_map f (zip (drop n xs) (drop n ys)) ≡ f (x, y) ++ flat_map f (zip (drop (n + 1) xs) (drop (n + 1) ys))
  here =
      ap (flat_map f) (zip_more xs ys n x y low lower)
      ∙ ap (λ (u : A). f (u, get_or ys n y) ++ flat_map f (zip (drop (n + 1) xs) (drop (n + 1) ys))) (sym x_is)
      ∙ ap (λ (v : B). f (x, v) ++ flat_map f (zip (drop (n + 1) xs) (drop (n + 1) ys))) (sym y_is)

  pub paired_here : (a b : AbstractState) → ArePaired a b (flat_map f (zip (drop n xs) (drop n ys))) → ArePaired a b (f (x, y))
  paired_here a b h = all_front (IsPaired a b) (f (x, y)) (flat_map f (zip (drop (n + 1) xs) (drop (n + 1) ys)))
      (subst (ArePaired a b) here h)

  pub gone_past : (a b : AbstractState) (begun whole met new : List (ℕ × ℕ))
      → IsWithRest a b begun whole met (flat_map f (zip (drop n xs) (drop n ys)))
      → AreFew a b new × Continues a b met (f (x, y)) new
      → IsWithRest a b begun whole new (flat_map f (zip (drop (n + 1) xs) (drop (n + 1) ys)))
  gone_past a b begun whole met new r done =
      rest_on a b begun whole met (f (x, y)) (flat_map f (zip (drop (n + 1) xs) (drop (n + 1) ys))) new
      (subst (λ (l : List (ℕ × ℕ)). IsWithRest a b begun whole met l) here r) done.0 done.1

-- ---- the whole

module _ (a b : AbstractState) where
  all_placed : ArePaired a b (position_pairs a b)
  all_placed = all_among (IsPaired a b) (position_pairs a b) (λ p h. placed p h)

  pub frames_paired : (frames others : List AbstractFrame) → frames ≡ reverse a.frames → others ≡ reverse b.frames
      → ArePaired a b (frames_pairs a b frames others)
  frames_paired frames others e f =
      subst (λ (l : List AbstractFrame). ArePaired a b (frames_pairs a b l others)) (sym e)
      (subst (λ (l : List AbstractFrame). ArePaired a b (frames_pairs a b (reverse a.frames) l)) (sym f)
      (all_front (IsPaired a b) (frames_pairs a b (reverse a.frames) (reverse b.frames))
      (some_in (thrown_pair a.throwing b.throwing)) all_placed))

  pub thrown_paired : (pair : Option (ℕ × ℕ)) → pair ≡ thrown_pair a.throwing b.throwing → ArePaired a b (some_in pair)
  thrown_paired pair e =
      subst (λ (p : Option (ℕ × ℕ)). ArePaired a b (some_in p)) (sym e)
      (all_back (IsPaired a b) (frames_pairs a b (reverse a.frames) (reverse b.frames))
      (some_in (thrown_pair a.throwing b.throwing)) all_placed)

  pub pairs_are : (begun mid new : List (ℕ × ℕ)) (frames others : List AbstractFrame) (pair : Option (ℕ × ℕ)) → begun ≡ []
      → frames ≡ reverse a.frames → others ≡ reverse b.frames → pair ≡ thrown_pair a.throwing b.throwing
      → Continues a b begun (frames_pairs a b frames others) mid → Continues a b mid (some_in pair) new → ArePairs a b new
  pairs_are begun mid new frames others pair e f g h on more =
      subst (λ (p : Option (ℕ × ℕ)). Visits a b [] (frames_pairs a b (reverse a.frames) (reverse b.frames) ++ some_in p) new) h
      (subst (λ (l : List AbstractFrame). Visits a b [] (frames_pairs a b l (reverse b.frames) ++ some_in pair) new) f
      (subst (λ (l : List AbstractFrame). Visits a b [] (frames_pairs a b frames l ++ some_in pair) new) g
      (subst (λ (l : List (ℕ × ℕ)). Visits a b l (frames_pairs a b frames others ++ some_in pair) new) e
      (continues_ends a b begun (frames_pairs a b frames others ++ some_in pair) new
      (continues_both a b begun (frames_pairs a b frames others) mid (some_in pair) new on more)))))
