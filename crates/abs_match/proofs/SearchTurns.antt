-- A search for a map, pair by pair: each map that matches gives what it noted, and what was met leads to what was met or waits.
use Rattle.std.proofs.Common.{◌≡◌, ◌≢◌, ℕ, zero, suc, ◌+◌, ◌<◌, ◌≤◌, ◌==◌, eqb, Bool, true, false, ◌&&◌, ◌||◌, List, [], ◌∷◌}
use Rattle.std.proofs.Common.{length, get_or, map, set, Option, Some, None, Result, Ok, Err, ◌⊎◌, inl, inr, slice_get, refl, sym}
use Rattle.std.proofs.Common.{ap, subst, ◌∙◌, arith, eq-eqb, ne_eqb, if◌then◌else◌}
use Rattle.std.specs.Bool.{MatchBool}
use Rattle.std.specs.Result.{IfOk}
use Rattle.std.specs.Prelude.{MatchOption}
use Rattle.std.specs.List.{list_all}
use Rattle.std.specs.Option.{option_map, option_and_then}
use Rattle.std.proofs.lemmas.Bool.{false≢true, eqb-true, eqb-false, and_parts, or_cases, or_left, or_right, cases_Bool}
use Rattle.std.proofs.lemmas.Bool.{MatchBool-at_true, MatchBool-at_false}
use Rattle.std.proofs.lemmas.List.{get_or-set_same, length-set, length-map}
use Rattle.std.proofs.lemmas.Option.{slice_get_within, slice_get-get_or, slice_get-map, none-some}
use Rattle.list_views.proofs.Quantified.{holds_at}
use Rattle.list_views.proofs.Options.{map_some, then_some as given}
use Rattle.jvm_values.proofs.Options.{some_is}
use Rattle.jvm_values.specs.Paths.{follow}
use Rattle.jvm_values.specs.declared.types.Ty.{Ty}
use Rattle.abs_cells.specs.declared.cells.Cell.{Cell}
use Rattle.abs_cells.specs.AbstractStates.{AbstractState}
use Rattle.abs_cells.specs.IdSets.{has_id}
use Rattle.abs_cells.specs.Cells.{ids_in, is_of_sort, cell_in, HasCell}
use Rattle.abs_cells.specs.Sound.{AreIdsRising}
use Rattle.abs_reach.specs.Instances.{image_in, InstanceOf, FailsAt, IsFirstFault, whole_map, mode, cells}
use Rattle.abs_reach.specs.Instances as clauses
use Rattle.abs_reach.specs.Reached.{named_steps, positions, IsReached}
use Rattle.abs_reach.specs.inner.Turns.{still, IsWith}
use Rattle.abs_reach.proofs.Room.{one_fewer, has_cell_low}
use Rattle.abs_reach.specs.Keys.{AreKeysRising}
use Rattle.abs_match.specs.inner.Forced.{waits, ArePut, NoneDoes, state_asks, cell_asks, names_count, IsSearching, NoneMatches, IsOnlyMatch}
use Rattle.abs_match.proofs.Entries.{entry_of, image_is_there}
use Rattle.abs_match.proofs.Forcing.{weaker}
use Rattle.abs_match.proofs.Keys.{stands}
use Rattle.abs_match.proofs.Partners.{key, id_of, keys_rise, stands_in, entry_beside}

-- ---- one entry is written

pub keys_stay : (entries : List (ℕ × ℕ)) (n id image : ℕ) (d : ℕ × ℕ) → (get_or entries n d).0 ≡ id
    → map key (set entries n (id, image)) ≡ map key entries
keys_stay [] n id image d e = refl
keys_stay (c ∷ entries) zero id image d e = ap (λ (k : ℕ). k ∷ map key entries) (sym e)
keys_stay (c ∷ entries) (suc n) id image d e = ap (λ (ks : List ℕ). c.0 ∷ ks) (keys_stay entries n id image d e)

pub others_stay : (entries : List (ℕ × ℕ)) (n id image other : ℕ) (d : ℕ × ℕ) → (get_or entries n d).0 ≡ id → id ≢ other
    → image_in (set entries n (id, image)) other ≡ image_in entries other
others_stay [] n id image other d e ne = refl
others_stay (c ∷ entries) zero id image other d e ne =
    ap (λ (b : Bool). if b then Some image else image_in entries other) (ne_eqb id other ne)
    ∙ sym (ap (λ (b : Bool). if b then Some c.1 else image_in entries other) (ne_eqb c.0 other (λ (f : c.0 ≡ other). ne (sym e ∙ f))))
others_stay (c ∷ entries) (suc n) id image other d e ne = ap (λ (rest : Option ℕ). if c.0 == other then Some c.1 else rest)
    (others_stay entries n id image other d e ne)

pub this_is : (entries : List (ℕ × ℕ)) (n id image : ℕ) (d : ℕ × ℕ) → AreKeysRising 0 (set entries n (id, image))
    → n < length entries → image_in (set entries n (id, image)) id ≡ Some image
this_is entries n id image d r low =
    let is : get_or (set entries n (id, image)) n d ≡ (id, image) = get_or-set_same entries n (id, image) d low in
    let l : length (set entries n (id, image)) ≡ length entries = length-set entries n (id, image) in
    stands 0 (set entries n (id, image)) id n d r (omega (arith, l, low)) (ap key is) ∙ ap (λ (x : ℕ × ℕ). Some x.1) is

-- ---- two lists of the same items

same_lists : (xs ys : List (ℕ × ℕ)) → length xs ≡ length ys
    → ((n : ℕ) (x y : ℕ × ℕ) → slice_get xs n ≡ Some x → slice_get ys n ≡ Some y → x ≡ y) → xs ≡ ys
same_lists [] [] l h = refl
same_lists [] (y ∷ ys) l h = absurd (omega (arith, l))
same_lists (x ∷ xs) [] l h = absurd (omega (arith, l))
same_lists (x ∷ xs) (y ∷ ys) l h = ap (λ (z : ℕ × ℕ). z ∷ xs) (h 0 x y refl refl)
    ∙ ap (λ (zs : List (ℕ × ℕ)). y ∷ zs) (same_lists xs ys (omega (arith, l)) (λ n a b e f. h (suc n) a b e f))

same_entry : (x y : ℕ × ℕ) → x.0 ≡ y.0 → x.1 ≡ y.1 → x ≡ y
same_entry x y e f = ap (λ (a : ℕ). (a, x.1)) e ∙ ap (λ (b : ℕ). (y.0, b)) f

cell_beside : (entries : List (ℕ × ℕ)) (held : List (ℕ × Cell)) (n : ℕ) (entry : ℕ × ℕ) → map key entries ≡ map id_of held
    → slice_get entries n ≡ Some entry → (c : ℕ × Cell) × ((slice_get held n ≡ Some c) × (c.0 ≡ entry.0))
cell_beside entries held n entry same e =
    map_some id_of (slice_get held n) entry.0 (sym (slice_get-map id_of held n) ∙ ap (λ (ids : List ℕ). slice_get ids n) (sym same)
    ∙ slice_get-map key entries n ∙ ap (option_map key) e)

as_many : (entries : List (ℕ × ℕ)) (held : List (ℕ × Cell)) → map key entries ≡ map id_of held → length entries ≡ length held
as_many entries held e = sym (length-map entries key) ∙ ap (λ (ids : List ℕ). length ids) e ∙ length-map held id_of

-- maps with the same images of all ids are one
pub same_maps : (found matching : List (ℕ × ℕ)) (held : List (ℕ × Cell)) → AreIdsRising 0 held → map key found ≡ map id_of held
    → map key matching ≡ map id_of held
    → ((id : ℕ) (cell : Cell) → cell_in held id ≡ Some cell → image_in matching id ≡ image_in found id) → matching ≡ found
same_maps found matching held rising f m same = same_lists matching found (as_many matching held m ∙ sym (as_many found held f)) one
  where
    one : (n : ℕ) (x y : ℕ × ℕ) → slice_get matching n ≡ Some x → slice_get found n ≡ Some y → x ≡ y
    one n x y e g =
        let c = cell_beside matching held n x m e in
        let d = cell_beside found held n y f g in
        let keys : x.0 ≡ y.0 = sym c.1.1 ∙ ap id_of (some_is (sym c.1.0 ∙ d.1.0)) ∙ d.1.1 in
        let mine : image_in matching x.0 ≡ Some x.1 = image_is_there matching n x (keys_rise matching held 0 m rising) e in
        let theirs : image_in found y.0 ≡ Some y.1 = image_is_there found n y (keys_rise found held 0 f rising) g in
        let there : cell_in held x.0 ≡ Some c.0.1 = ap (cell_in held) (sym c.1.1) ∙ stands_in held n c.0 rising c.1.0 in
        same_entry x y keys (some_is (sym mine ∙ same x.0 c.0.1 there ∙ ap (image_in found) keys ∙ theirs))

-- an id that one map gives an image has one by each map of the same ids
pub has_image : (found matching : List (ℕ × ℕ)) (held : List (ℕ × Cell)) (id image : ℕ) → AreIdsRising 0 held
    → map key found ≡ map id_of held → map key matching ≡ map id_of held → image_in matching id ≡ Some image → image_in found id ≡ None → ⊥
has_image found matching held id image rising f m e n =
    let there = entry_of matching id image e in
    let c = cell_beside matching held there.0 there.1.0 m there.1.1.0 in
    let other = entry_beside found held there.0 c.0 f c.1.0 in
    let key_is : other.0.0 ≡ id = other.1.1 ∙ c.1.1 ∙ there.1.1.1.0 in
    none-some other.0.1 (sym n ∙ ap (image_in found) (sym key_is)
    ∙ image_is_there found there.0 other.0 (keys_rise found held 0 f rising) other.1.0)

-- ---- turns

pub met_or_waits : (met now : List ℕ) (todo new : List (ℕ × ℕ)) → ((id : ℕ) → has_id met id ≡ true → has_id now id ≡ true)
    → ((id : ℕ) → waits todo id ≡ true → (has_id now id || waits new id) ≡ true) → (id : ℕ)
    → (has_id met id || waits todo id) ≡ true → (has_id now id || waits new id) ≡ true
met_or_waits met now todo new m w id t = elim (or_cases (has_id met id) (waits todo id) t) [
  | inl a ↦ or_left (has_id now id) (waits new id) (m id a)
  | inr b ↦ w id b
]

module _ (state target : AbstractState) where
  -- a pair of an id that was met
  pub passed : (met : List ℕ) (entries todo : List (ℕ × ℕ)) (id image : ℕ) → has_id met id ≡ true
      → IsSearching state target met entries ((id, image) ∷ todo) → IsSearching state target met entries todo
  passed met entries todo id image is s = record {
    keys = s.keys;
    given = λ sub matching i. (s.given sub matching i).1;
    noted = s.noted;
    closed = λ x n other m e. still_there other (s.closed x n other m e);
    starts = weaker (λ z. has_id met z || waits ((id, image) ∷ todo) z) (λ z. has_id met z || waits todo z) (positions target)
        still_there s.starts;
  }
    where
      left : (z : ℕ) → waits ((id, image) ∷ todo) z ≡ true → (has_id met z || waits todo z) ≡ true
      left z t = elim (or_cases (id == z) (waits todo z) t) [
        | inl e ↦ or_left (has_id met z) (waits todo z) (subst (λ (y : ℕ). has_id met y ≡ true) (eqb-true id z e) is)
        | inr w ↦ or_right (has_id met z) (waits todo z) w
      ]

      still_there : (z : ℕ) → (has_id met z || waits ((id, image) ∷ todo) z) ≡ true → (has_id met z || waits todo z) ≡ true
      still_there z t = met_or_waits met met ((id, image) ∷ todo) todo (λ y m. m) left z t

  pub passed_on : (met : List ℕ) (entries todo : List (ℕ × ℕ)) (id image : ℕ) → has_id met id ≡ true
      → IsSearching state target met entries ((id, image) ∷ todo) → IsSearching state target met entries todo
      × (length todo + still names_count target.cells met < suc (length todo) + still names_count target.cells met)
  passed_on met entries todo id image is s = (passed met entries todo id image is s, omega arith)

  -- each map that matches has the pair's image
  pub image_given : (met : List ℕ) (entries todo : List (ℕ × ℕ)) (id image : ℕ)
      → IsSearching state target met entries ((id, image) ∷ todo) → (sub : Ty → Ty → Bool) (matching : List (ℕ × ℕ))
      → InstanceOf sub state target matching → image_in matching id ≡ Some image
  image_given met entries todo id image s sub matching i = (s.given sub matching i).0

  pub no_entry : (met : List ℕ) (entries todo : List (ℕ × ℕ)) (id image : ℕ) → AreIdsRising 0 target.cells
      → IsSearching state target met entries ((id, image) ∷ todo) → image_in entries id ≡ None → NoneMatches state target
  no_entry met entries todo id image rising s n sub matching i = has_image entries matching target.cells id image rising s.keys
      (i whole_map).0.each (image_given met entries todo id image s sub matching i) n

  pub no_target_cell : (met : List ℕ) (entries todo : List (ℕ × ℕ)) (id image : ℕ)
      → IsSearching state target met entries ((id, image) ∷ todo) → cell_in target.cells id ≡ None → NoneMatches state target
  no_target_cell met entries todo id image s n sub matching i =
      let there = entry_of matching id image (image_given met entries todo id image s sub matching i) in
      let c = cell_beside matching target.cells there.0 there.1.0 (i whole_map).0.each there.1.1.0 in
      none-some c.0.1 (sym n ∙ ap (cell_in target.cells) (sym (c.1.1 ∙ there.1.1.1.0))
      ∙ stands_in target.cells there.0 c.0 (i whole_map).0.rise c.1.0)

  pub no_cell : (met : List ℕ) (entries todo : List (ℕ × ℕ)) (id image : ℕ)
      → IsSearching state target met entries ((id, image) ∷ todo) → cell_in state.cells image ≡ None → NoneMatches state target
  no_cell met entries todo id image s n sub matching i =
      let there = (i whole_map).1 id image (image_given met entries todo id image s sub matching i) in
      none-some there.cell (sym n ∙ there.is)

  module _ (met now : List ℕ) (entries todo : List (ℕ × ℕ)) (id image place : ℕ) (d : ℕ × ℕ) (cell below : Cell)
      (rising : AreIdsRising 0 target.cells) (s : IsSearching state target met entries ((id, image) ∷ todo))
      (fresh : has_id met id ≡ false) (one_more : IsWith now met id) (low : place < length entries)
      (key_is : (get_or entries place d).0 ≡ id) (cell_is : cell_in target.cells id ≡ Some cell)
      (below_is : cell_in state.cells image ≡ Some below) where
    no_sub : Ty → Ty → Bool
    no_sub a b = false

    asked : (sub : Ty → Ty → Bool) (matching : List (ℕ × ℕ)) → InstanceOf sub state target matching → cell_asks sub cell below matching
    asked sub matching i =
        let over = (i cells).1 id cell cell_is in
        let named : over.image ≡ image = some_is (sym over.maps ∙ image_given met entries todo id image s sub matching i) in
        let same : over.below ≡ below = some_is (sym over.stands ∙ ap (cell_in state.cells) named ∙ below_is) in
        subst (λ (c : Cell). cell_asks sub cell c matching) same over.over

    pub no_form : ((sub : Ty → Ty → Bool) (matching : List (ℕ × ℕ)) → cell_asks sub cell below matching → ⊥) → NoneMatches state target
    no_form n sub matching i = n sub matching (asked sub matching i)

    now_met : has_id now id ≡ true
    now_met = one_more id ∙ or_left (id == id) (has_id met id) (eq-eqb id id refl)

    kept_met : (z : ℕ) → has_id met z ≡ true → has_id now z ≡ true
    kept_met z t = one_more z ∙ or_right (z == id) (has_id met z) t

    pub visited : (new : List (ℕ × ℕ)) → ((sub : Ty → Ty → Bool) → ArePut (cell_asks sub cell below) (ids_in cell) todo new)
        → IsSearching state target now (set entries place (id, image)) new
    visited new put = record {
      keys = keys_are;
      given = λ sub matching i. (put sub).given matching (asked sub matching i) (s.given sub matching i).1;
      noted = noted_now;
      closed = closed_now;
      starts = weaker (λ z. has_id met z || waits ((id, image) ∷ todo) z) (λ z. has_id now z || waits new z) (positions target)
          still_there s.starts;
    }
      where
        keys_are : map key (set entries place (id, image)) ≡ map id_of target.cells
        keys_are = keys_stay entries place id image d key_is ∙ s.keys

        left : (z : ℕ) → waits ((id, image) ∷ todo) z ≡ true → (has_id now z || waits new z) ≡ true
        left z t = elim (or_cases (id == z) (waits todo z) t) [
          | inl e ↦ or_left (has_id now z) (waits new z) (subst (λ (y : ℕ). has_id now y ≡ true) (eqb-true id z e) now_met)
          | inr w ↦ or_right (has_id now z) (waits new z) ((put no_sub).kept z w)
        ]

        still_there : (z : ℕ) → (has_id met z || waits ((id, image) ∷ todo) z) ≡ true → (has_id now z || waits new z) ≡ true
        still_there z t = met_or_waits met now ((id, image) ∷ todo) new kept_met left z t

        noted_now : (sub : Ty → Ty → Bool) (matching : List (ℕ × ℕ)) → InstanceOf sub state target matching → (z : ℕ)
            → has_id now z ≡ true → image_in matching z ≡ image_in (set entries place (id, image)) z
        noted_now sub matching i z t = elim (cases_Bool (z == id)) [
          | inl e ↦
              let same : z ≡ id = eqb-true z id e in
              ap (image_in matching) same ∙ image_given met entries todo id image s sub matching i
              ∙ sym (this_is entries place id image d (keys_rise (set entries place (id, image)) target.cells 0 keys_are rising)
              low) ∙ ap (image_in (set entries place (id, image))) (sym same)
          | inr e ↦
              let was : has_id met z ≡ true = sym (one_more z ∙ ap (λ (b : Bool). b || has_id met z) e) ∙ t in
              s.noted sub matching i z was ∙ sym (others_stay entries place id image z d key_is (λ (f : id ≡ z). eqb-false z id e (sym f)))
        ]

        closed_now : (z n other : ℕ) → has_id now z ≡ true → named_steps target z n ≡ Some other
            → (has_id now other || waits new other) ≡ true
        closed_now z n other t e = elim (cases_Bool (z == id)) [
          | inl f ↦
              let there : slice_get (ids_in cell) n ≡ Some other = sym
              (ap (option_and_then (λ (c : Cell). slice_get (ids_in c) n)) (ap (cell_in target.cells) (eqb-true z id f)
              ∙ cell_is)) ∙ e in
              or_right (has_id now other) (waits new other) (holds_at (waits new) (ids_in cell) n other (put no_sub).wait there)
          | inr f ↦ still_there other (s.closed z n other (sym (one_more z ∙ ap (λ (b : Bool). b || has_id met z) f) ∙ t) e)
        ]

    pub fewer : (new : List (ℕ × ℕ)) → length new ≤ length todo + length (ids_in cell)
        → length new + still names_count target.cells now < suc (length todo) + still names_count target.cells met
    fewer new l = let h : still names_count target.cells now + length (ids_in cell) ≤ still names_count target.cells met = one_fewer
        names_count target.cells now met id cell one_more fresh cell_is in omega (arith, l, h)

    -- what a turn answers
    pub turned_to : (r : Bool) (new : List (ℕ × ℕ))
        → ((sub : Ty → Ty → Bool)
        → MatchBool r (ArePut (cell_asks sub cell below) (ids_in cell) todo new
        × (length new ≤ length todo + length (ids_in cell))) (NoneDoes (cell_asks sub cell below)))
        → MatchBool r (IsSearching state target now (set entries place (id, image)) new
        × (length new + still names_count target.cells now < suc (length todo) + still names_count target.cells met))
        (NoneMatches state target)
    turned_to true new put = (visited new (λ sub. (put sub).0), fewer new (put no_sub).1)
    turned_to false new none = no_form (λ sub matching asks. none sub matching asks)

    pub turned_of : {E : Type 0} (result : Result Bool E) (written new : List (ℕ × ℕ)) → written ≡ set entries place (id, image)
        → ((sub : Ty → Ty → Bool)
        → IfOk result (λ r. MatchBool r (ArePut (cell_asks sub cell below) (ids_in cell) todo new
        × (length new ≤ length todo + length (ids_in cell))) (NoneDoes (cell_asks sub cell below))))
        → IfOk result (λ r. MatchBool r (IsSearching state target now written new
        × (length new + still names_count target.cells now < suc (length todo) + still names_count target.cells met))
        (NoneMatches state target))
    turned_of (Ok r) written new e put = subst
        (λ (es : List (ℕ × ℕ)). MatchBool r (IsSearching state target now es new
        × (length new + still names_count target.cells now < suc (length todo) + still names_count target.cells met))
        (NoneMatches state target)) (sym e) (turned_to r new put)
    turned_of (Err x) written new e put = tt

  pub low_there : (id : ℕ) (cell : Cell) → AreIdsRising 0 target.cells → cell_in target.cells id ≡ Some cell → id < 2048
  low_there id cell rising e = has_cell_low target.cells id rising (ap (is_of_sort (λ _. true)) e)

  -- ---- the end

  module _ (met : List ℕ) (entries : List (ℕ × ℕ)) (s : IsSearching state target met entries []) where
    only_met : (z : ℕ) → (has_id met z || waits [] z) ≡ true → has_id met z ≡ true
    only_met z t = elim (or_cases (has_id met z) false t) [
      | inl m ↦ m
      | inr w ↦ absurd (false≢true w)
    ]

    met_from : (path : List ℕ) (x y : ℕ) → has_id met x ≡ true → follow (named_steps target) path x ≡ Some y → has_id met y ≡ true
    met_from [] x y m e = subst (λ (z : ℕ). has_id met z ≡ true) (some_is e) m
    met_from (n ∷ path) x y m e =
        let next = given (follow (named_steps target) path) (named_steps target x n) y e in
        met_from path next.0 y (only_met next.0 (s.closed x n next.0 m next.1.0)) next.1.1

    met_reached : (id : ℕ) → IsReached target id → has_id met id ≡ true
    met_reached id r = met_from r.reaches.path r.start id
        (only_met r.start (holds_at (λ z. has_id met z || waits [] z) (positions target) r.place r.start s.starts r.stands))
        r.reaches.leads

    pub only : AreIdsRising 0 target.cells → ((id : ℕ) → HasCell (λ _. true) target id → IsReached target id)
        → IsOnlyMatch state target entries
    only rising all sub matching i = same_maps entries matching target.cells rising s.keys (i whole_map).0.each
        (λ id cell e. s.noted sub matching i id (met_reached id (all id (record { cell = cell; is = e; sort_is = refl }))))

  -- what each pair that is taken answers
  module _ (met now : List ℕ) (written rest new : List (ℕ × ℕ)) (r : Bool) where
    abbrev pub Went : Type 0
    Went = MatchBool r (IsSearching state target now written new
        × (length new + still names_count target.cells now < suc (length rest) + still names_count target.cells met))
        (NoneMatches state target)

    pub none_goes : r ≡ false → Went → NoneMatches state target
    none_goes e h = MatchBool-at_false (IsSearching state target now written new
        × (length new + still names_count target.cells now < suc (length rest) + still names_count target.cells met))
        (NoneMatches state target) e h

    pub went_on : r ≡ true → Went → IsSearching state target now written new
    went_on e h = (MatchBool-at_true (IsSearching state target now written new
        × (length new + still names_count target.cells now < suc (length rest) + still names_count target.cells met))
        (NoneMatches state target) e h).0

    pub went_less : r ≡ true → Went → (todo : List (ℕ × ℕ)) (id image : ℕ) → todo ≡ (id, image) ∷ rest
        → length new + still names_count target.cells now < length todo + still names_count target.cells met
    went_less e h todo id image popped =
        let less = (MatchBool-at_true (IsSearching state target now written new
        × (length new + still names_count target.cells now < suc (length rest) + still names_count target.cells met))
        (NoneMatches state target) e h).1 in
        subst (λ (pairs : List (ℕ × ℕ)). length new + still names_count target.cells now < length pairs + still names_count
        target.cells met) (sym popped) less

  -- the beginning
  pub begun : (met : List ℕ) (entries todo : List (ℕ × ℕ)) → ((n : ℕ) → has_id met n ≡ false)
      → map key entries ≡ map id_of target.cells
      → ((sub : Ty → Ty → Bool) → ArePut (state_asks sub state target) (positions target) [] todo)
      → IsSearching state target met entries todo
  begun met entries todo none keys put = record {
    keys = keys;
    given = λ sub matching i. (put sub).given matching (i clauses.positions, i mode) tt;
    noted = λ sub matching i id t. absurd (false≢true (sym (none id) ∙ t));
    closed = λ id n other t e. absurd (false≢true (sym (none id) ∙ t));
    starts = weaker (waits todo) (λ id. has_id met id || waits todo id) (positions target)
        (λ id t. or_right (has_id met id) (waits todo id) t) (put (λ a b. false)).wait;
  }

  pub none_begun : ((sub : Ty → Ty → Bool) → NoneDoes (state_asks sub state target)) → NoneMatches state target
  none_begun none sub matching i = none sub matching (i clauses.positions, i mode)

  pub none_end : (met : List ℕ) (entries : List (ℕ × ℕ)) (r : Bool) → r ≡ false
      → MatchBool r (IsSearching state target met entries []) (NoneMatches state target) → NoneMatches state target
  none_end met entries r e h = MatchBool-at_false (IsSearching state target met entries []) (NoneMatches state target) e h

  pub only_end : (met : List ℕ) (entries : List (ℕ × ℕ)) (r : Bool) → r ≡ true
      → MatchBool r (IsSearching state target met entries []) (NoneMatches state target) → AreIdsRising 0 target.cells
      → ((id : ℕ) → HasCell (λ _. true) target id → IsReached target id) → IsOnlyMatch state target entries
  only_end met entries r e h rising all = only met entries
      (MatchBool-at_true (IsSearching state target met entries []) (NoneMatches state target) e h) rising all

  pub none_begun_of : (old new : List (ℕ × ℕ)) (r : Bool) → r ≡ false
      → ((sub : Ty → Ty → Bool)
      → MatchBool r (ArePut (state_asks sub state target) (positions target) old new) (NoneDoes (state_asks sub state target)))
      → NoneMatches state target
  none_begun_of old new r e h = none_begun
      (λ sub. MatchBool-at_false (ArePut (state_asks sub state target) (positions target) old new)
      (NoneDoes (state_asks sub state target)) e (h sub))

  pub begun_of : (met : List ℕ) (entries old new : List (ℕ × ℕ)) (r : Bool) → r ≡ true → old ≡ [] → ((n : ℕ) → has_id met n ≡ false)
      → (list : List (ℕ × Cell)) → list ≡ target.cells → map key entries ≡ map id_of list
      → ((sub : Ty → Ty → Bool)
      → MatchBool r (ArePut (state_asks sub state target) (positions target) old new) (NoneDoes (state_asks sub state target)))
      → IsSearching state target met entries new
  begun_of met entries old new r e empty none list is keys h =
      begun met entries new none (keys ∙ ap (map id_of) is)
      (λ sub. subst (λ (pairs : List (ℕ × ℕ)). ArePut (state_asks sub state target) (positions target) pairs new) empty
      (MatchBool-at_true (ArePut (state_asks sub state target) (positions target) old new)
      (NoneDoes (state_asks sub state target)) e (h sub)))

  pub not_rising : (AreIdsRising 0 target.cells → ⊥) → NoneMatches state target
  not_rising n sub entries i = n (i whole_map).0.rise

  -- the one map that may match does not
  pub no_other : (sub : Ty → Ty → Bool) (found : List (ℕ × ℕ)) (number id : ℕ) → IsOnlyMatch state target found
      → IsFirstFault sub state target found number id → (entries : List (ℕ × ℕ)) → InstanceOf sub state target entries → ⊥
  no_other sub found number id one fault entries i = go
      (subst (λ (e : List (ℕ × ℕ)). InstanceOf sub state target e) (one sub entries i) i) fault.fails
    where
      go : InstanceOf sub state target found → FailsAt sub state target found fault.clause id → ⊥
      go h (inl n) = n.0 (h fault.clause).0
      go h (inr f) = f.fails ((h fault.clause).1 id)

  pub only_one : {V : Type 0} {o : Option V} {map : V} → o ≡ Some map → (items : V → List (ℕ × ℕ))
      → MatchOption o (NoneMatches state target) (λ m. IsOnlyMatch state target (items m)) → IsOnlyMatch state target (items map)
  only_one {V = V} e items h = subst
      (λ (x : Option V). MatchOption x (NoneMatches state target) (λ m. IsOnlyMatch state target (items m))) e h
