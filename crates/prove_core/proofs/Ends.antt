-- The ends of rules: their ids rise, and ends at one cut have the same ids, kinds and places.
use Rattle.std.proofs.Common.{◌≡◌, ◌∙◌, ℕ, ℤ, suc, Bool, true, false, cond, List, [], ◌∷◌, ◌++◌, map, Some, refl, sym, ap}
use Rattle.std.proofs.Common.{◌<◌, eqb, pos, subst, arith}
use Rattle.std.specs.Prelude.{filter}
use Rattle.std.proofs.lemmas.Bool.{eqb-true}
use Rattle.std.proofs.lemmas.List.{append_assoc, append-nil}
use Rattle.std.proofs.lemmas.Option.{none-some}
use Rattle.lin_core.proofs.Coefficients.{rise_lower}
use Rattle.list_views.proofs.Options.{one_answer, then_some}
use Rattle.lin_core.specs.Rows.{RiseFrom}
use Rattle.descent.specs.declared.rules.SlotForm.{SlotForm}
use Rattle.descent.specs.declared.rules.Place.{Place}
use Rattle.abs_cells.specs.declared.cells.Cell.{Cell}
use Rattle.abs_cells.specs.Cells.{is_int, cell_in}
use Rattle.abs_cells.specs.Patterns.{Pattern}
use Rattle.abs_cells.specs.Sound.{AreIdsRising}
use Rattle.path_rules.specs.Paths.{edges, end_of, is_cut, only_last}
use Rattle.abs_reach.specs.Keys.{AreKeysRising}
use Rattle.path_rules.specs.Stops.{Stop, Leg, LinkedGraph, pattern_in, stop_at, rides_from}
use Rattle.path_rules.specs.Rules.{ids_with, last_along, variables_after, int_slot, size_slot, slots_of}
use Rattle.path_rules.proofs.Finding.{ids_in_cells}
use Rattle.path_rules.proofs.Ready.{no_rides, ride_first}
use Rattle.path_rules.proofs.PatternLists.{pattern_first, pattern_later}
use Rattle.path_rules.proofs.Walking.{IsGoodStop}
use Rattle.rank_forms.specs.rule_links.Positions.{same}
use Rattle.rank_forms.specs.Graphs.{AreNamed, head_of, heads, ids_of}

-- ---- their ids rise

names_rise : (first : ℕ) (stop : Stop) (low : ℕ) (cells : List (ℕ × Cell)) → AreIdsRising low cells
    → RiseFrom low 65536 (ids_of false (map (int_slot first stop) (ids_in_cells is_int cells)))
names_rise first stop low [] rising = tt
names_rise first stop low (c ∷ cells) rising = at (is_int c.1) (names_rise first stop (suc c.0) cells rising.1.1)
  where
    at : (b : Bool) → RiseFrom (suc c.0) 65536 (ids_of false (map (int_slot first stop) (ids_in_cells is_int cells)))
        → RiseFrom low 65536 (ids_of false
        (map (int_slot first stop)
        (map (λ (x : ℕ × Cell). x.0)
        (cond b (c ∷ filter (λ (x : ℕ × Cell). is_int x.1) cells) (filter (λ (x : ℕ × Cell). is_int x.1) cells)))))
    at true rest = let few = rising.1.0 in (rising.0, omega (arith, few), rest)
    at false rest = let l = rising.0 in rise_lower low (suc c.0) 65536
        (ids_of false (map (int_slot first stop) (ids_in_cells is_int cells))) (omega (arith, l)) rest

no_names : (first : ℕ) (stop : Stop) (ids : List ℕ) → ids_of true (map (int_slot first stop) ids) ≡ []
no_names first stop [] = refl
no_names first stop (id ∷ ids) = no_names first stop ids

-- slots of sizes have no ids of ints
no_ints : (first : ℕ) (stop : Stop) (sizes : List (ℕ × Pattern)) → ids_of false (map (size_slot first stop) sizes) ≡ []
no_ints first stop [] = refl
no_ints first stop (entry ∷ sizes) = no_ints first stop sizes

sizes_rise : (first : ℕ) (stop : Stop) (low : ℕ) (sizes : List (ℕ × Pattern)) → AreKeysRising low sizes
    → ((id : ℕ) (pattern : Pattern) → pattern_in sizes id ≡ Some pattern → id < 65536)
    → RiseFrom low 65536 (ids_of true (map (size_slot first stop) sizes))
sizes_rise first stop low [] rise each = tt
sizes_rise first stop low (entry ∷ sizes) rise each = (
  rise.0,
  each entry.0 entry.1 (pattern_first entry sizes),
  sizes_rise first stop (suc entry.0) sizes rise.1 (λ id pattern e. each id pattern (pattern_later entry sizes id pattern rise.1 e)),
)

both_ids : (size : Bool) (xs ys : List SlotForm) → ids_of size (xs ++ ys) ≡ ids_of size xs ++ ids_of size ys
both_ids size [] ys = refl
both_ids size (x ∷ xs) ys =
    ap (λ (r : List (ℕ × ℤ)). cond (same x.size size) ((x.id, pos 1) ∷ []) [] ++ r) (both_ids size xs ys)
    ∙ sym (append_assoc (cond (same x.size size) ((x.id, pos 1) ∷ []) []) (ids_of size xs) (ids_of size ys))

pub high_id : (low : ℕ) (cells : List (ℕ × Cell)) (id : ℕ) (cell : Cell) → AreIdsRising low cells → cell_in cells id ≡ Some cell → id < 2048
high_id low [] id cell rising e = absurd (none-some cell e)
high_id low (c ∷ cells) id cell rising e = at (eqb c.0 id) refl e (λ k. high_id (suc c.0) cells id cell rising.1.1 k)
  where
    at : (b : Bool) → eqb c.0 id ≡ b → cond b (Some c.1) (cell_in cells id) ≡ Some cell → (cell_in cells id ≡ Some cell → id < 2048)
        → id < 2048
    at true h k later = let s = eqb-true c.0 id h in let l = rising.1.0 in omega (arith, s, l)
    at false h k later = later k

pub slots_named : (first : ℕ) (stop : Stop) → IsGoodStop stop → AreNamed (slots_of first stop)
slots_named first stop good =
    let ints = map (int_slot first stop) (ids_with is_int stop.state) in
    let sizes = map (size_slot first stop) stop.sizes in
    let rising = good.good.rising in (
      subst (RiseFrom 0 65536)
          (sym (both_ids false ints sizes ∙ (ap (λ (r : List (ℕ × ℤ)). ids_of false ints ++ r) (no_ints first stop stop.sizes)
          ∙ append-nil (ids_of false ints))))
          (names_rise first stop 0 stop.state.cells rising),
      subst (RiseFrom 0 65536)
          (sym (both_ids true ints sizes ∙ ap (λ (r : List (ℕ × ℤ)). r ++ ids_of true sizes)
          (no_names first stop (ids_with is_int stop.state))))
          (sizes_rise first stop 0 stop.sizes good.sizes.rise (λ id pattern e.
          let has = (good.sizes.each id pattern e).0 in
          let few = high_id 0 stop.state.cells id has.cell rising has.is in
          omega (arith, few))),
    )

-- ---- their heads don't depend on variables

abbrev Head : Type 0
Head = ℕ × Bool × List Place

size_heads : (f g : ℕ) (stop : Stop) (sizes : List (ℕ × Pattern))
    → heads (map (size_slot f stop) sizes) ≡ heads (map (size_slot g stop) sizes)
size_heads f g stop [] = refl
size_heads f g stop (entry ∷ sizes) = ap (λ (hs : List Head). head_of (size_slot f stop entry) ∷ hs) (size_heads f g stop sizes)

int_heads : (f g : ℕ) (stop : Stop) (ids : List ℕ) (xs ys : List SlotForm) → heads xs ≡ heads ys
    → heads (map (int_slot f stop) ids ++ xs) ≡ heads (map (int_slot g stop) ids ++ ys)
int_heads f g stop [] xs ys e = e
int_heads f g stop (id ∷ ids) xs ys e = ap (λ (hs : List Head). head_of (int_slot f stop id) ∷ hs) (int_heads f g stop ids xs ys e)

pub same_heads : (f g : ℕ) (stop : Stop) → heads (slots_of f stop) ≡ heads (slots_of g stop)
same_heads f g stop = int_heads f g stop (ids_with is_int stop.state) (map (size_slot f stop) stop.sizes)
    (map (size_slot g stop) stop.sizes) (size_heads f g stop stop.sizes)

-- ---- a path's last stop is that of the cut where it ends

none_left : (places : List ℕ) (at to : ℕ) → only_last places at ≡ Some to → (places ≡ []) × (at ≡ to)
none_left [] at to e = (refl, cc)
none_left (place ∷ places) at to e = absurd (cc)

pub end_stop : (linked : LinkedGraph) (cuts : List ℕ) (first node : ℕ) (places : List ℕ) (stop : Stop) (rides : List (Leg × Stop))
    (to : ℕ) → end_of linked.graph cuts node places ≡ Some to → rides_from linked node places ≡ Some rides
    → stop_at linked to ≡ Some (last_along first stop rides).1
end_stop linked cuts first node [] stop rides to ends goes = absurd (cc)
end_stop linked cuts first node (place ∷ places) stop rides to ends goes =
    let r = ride_first linked node place places rides goes in
    let f = then_some (λ (t : ℕ). cond (is_cut cuts t) (only_last places t) (end_of linked.graph cuts t places))
    (edges linked.graph node place) to ends in
    let same : f.0 ≡ r.to = one_answer (edges linked.graph node place) f.0 r.to f.1.0 r.edge in
    let more : cond (is_cut cuts r.to) (only_last places r.to) (end_of linked.graph cuts r.to places) ≡ Some to = subst
    (λ (t : ℕ). cond (is_cut cuts t) (only_last places t) (end_of linked.graph cuts t places) ≡ Some to) same f.1.1 in
    subst (λ (rs : List (Leg × Stop)). stop_at linked to ≡ Some (last_along first stop rs).1) r.are
    (at r.to r.ride r.rest (is_cut cuts r.to) r.there r.more more
    (λ e. end_stop linked cuts (variables_after first stop) r.to places r.ride.1 r.rest to e r.more))
  where
    at : (t : ℕ) (ride : Leg × Stop) (rest : List (Leg × Stop)) (b : Bool) → stop_at linked t ≡ Some ride.1
        → rides_from linked t places ≡ Some rest → cond b (only_last places t) (end_of linked.graph cuts t places) ≡ Some to
        → (end_of linked.graph cuts t places ≡ Some to
        → stop_at linked to ≡ Some (last_along (variables_after first stop) ride.1 rest).1)
        → stop_at linked to ≡ Some (last_along (variables_after first stop) ride.1 rest).1
    at t ride rest false there goes_on e later = later e
    at t ride rest true there goes_on e later =
        let n = none_left places t to e in
        let none : [] ≡ rest = no_rides linked t rest (subst (λ (p : List ℕ). rides_from linked t p ≡ Some rest) n.0 goes_on) in
        subst (λ (x : ℕ). stop_at linked x ≡ Some (last_along (variables_after first stop) ride.1 rest).1) n.1
        (subst (λ (rs : List (Leg × Stop)). stop_at linked t ≡ Some (last_along (variables_after first stop) ride.1 rs).1) none there)
