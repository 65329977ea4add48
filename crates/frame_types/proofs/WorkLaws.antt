-- A table that grows has less work left.
use Rattle.std.proofs.Common.{◌≡◌, ℕ, zero, suc, ◌+◌, ◌*◌, ◌<◌, ◌≤◌, Bool, true, false, List, [], ◌∷◌, length, Option, Some, None}
use Rattle.std.proofs.Common.{◌⊎◌, inl, inr, refl, sym, ap, subst, ◌∙◌, arith}
use Rattle.std.specs.Prelude.{IsTrue, slice_set}
use Rattle.std.proofs.lemmas.Bool.{false≢true, cases_lt}
use Rattle.jvm_values.specs.States.{PlaceTypes}
use Rattle.jvm_values.specs.TypedHeaps.{WorldTypes, AreLawful}
use Rattle.frame_types.specs.declared.table.Table.{Table}
use Rattle.frame_types.specs.Places.{IsFrame}
use Rattle.frame_types.specs.Tables.{Flow, Takes, types_at}
use Rattle.frame_types.specs.Growth.{IsTable, IsGrown, waits}
use Rattle.frame_types.specs.Heights.{ranks, most}
use Rattle.frame_types.proofs.HeightLaws.{add_up, add_less, add_up_less, ranks_most, lower_frame}
use Rattle.frame_types.specs.Work.{way_up, sum_below, mark, work_at, work_left}

-- ---- sums

pub sum_up : (n : ℕ) (f g : ℕ → ℕ) → ((k : ℕ) → f k ≤ g k) → sum_below n f ≤ sum_below n g
sum_up zero f g h = omega arith
sum_up (suc n) f g h = add_up (f n) (g n) (sum_below n f) (sum_below n g) (h n) (sum_up n f g h)

pub sum_less : (n : ℕ) (f g : ℕ → ℕ) (k : ℕ) → k < n → ((j : ℕ) → f j ≤ g j) → f k < g k → sum_below n f < sum_below n g
sum_less zero f g k l h m = absurd (omega arith)
sum_less (suc n) f g k l h m = elim (cases_lt k n) [
  | inl i ↦ add_up_less (f n) (g n) (sum_below n f) (sum_below n g) (h n) (sum_less n f g k i h m)
  | inr i ↦
      let e : k ≡ n = omega (arith, l, i) in
      add_less (f n) (g n) (sum_below n f) (sum_below n g) (subst (λ (j : ℕ). f j < g j) e m) (sum_up n f g h)
]

-- ---- marks

unmark : (marks : List Bool) (place k : ℕ) → IsTrue (waits (slice_set marks place false) k) → IsTrue (waits marks k)
unmark [] place k h = h
unmark (x ∷ marks) zero zero h = absurd (false≢true h)
unmark (x ∷ marks) zero (suc k) h = h
unmark (x ∷ marks) (suc place) zero h = h
unmark (x ∷ marks) (suc place) (suc k) h = unmark marks place k h

unmarked : (marks : List Bool) (place : ℕ) → waits (slice_set marks place false) place ≡ false
unmarked [] place = refl
unmarked (x ∷ marks) zero = refl
unmarked (x ∷ marks) (suc place) = unmarked marks place

is_inside : (marks : List Bool) (place : ℕ) → IsTrue (waits marks place) → place < length marks
is_inside [] place h = absurd (false≢true h)
is_inside (x ∷ marks) zero h = omega arith
is_inside (x ∷ marks) (suc place) h = let l = is_inside marks place h in omega (arith, l)

mark_most : (b : Bool) → mark b ≤ 1
mark_most true = omega arith
mark_most false = omega arith

mark_up : (a b : Bool) → (IsTrue a → IsTrue b) → mark a ≤ mark b
mark_up true true h = omega arith
mark_up true false h = absurd (false≢true (h refl))
mark_up false b h = omega arith

sum_at : (a b c x y : ℕ) → a ≡ b → b ≡ c → x ≤ y → 2 * a + x ≤ 2 * c + y
sum_at a b c x y e f l = omega arith

sum_under : (a b c x y : ℕ) → a < b → b ≡ c → x ≤ 1 → 2 * a + x ≤ 2 * c + y
sum_under a b c x y l f k = omega arith

twice_up : (a x y : ℕ) → x ≤ y → 2 * a + x ≤ 2 * a + y
twice_up a x y l = omega arith

twice_less : (a x y : ℕ) → x ≡ 0 → y ≡ 1 → 2 * a + x < 2 * a + y
twice_less a x y e f = omega arith

less_than_most : (a b c d : ℕ) → a ≤ b → c ≤ d → a + c < b + d + 1
less_than_most a b c d l k = omega arith

fall : (a b c d : ℕ) → a ≤ b → b ≡ c → c < d → a < d
fall a b c d l e k = omega arith

module _ (types : WorldTypes) (laws : AreLawful types) where
  pub frame_way : (max_locals max_stack : ℕ) (frame : PlaceTypes) → IsFrame types max_locals max_stack frame
      → way_up types max_locals max_stack (Some frame) < way_up types max_locals max_stack None
  frame_way max_locals max_stack frame h =
      let c = h.proper.count in
      less_than_most (ranks types frame.locals) (most types max_locals) (ranks types frame.stack) (most types max_stack)
      (ranks_most types laws max_locals frame.locals (omega (arith, c)))
      (ranks_most types laws max_stack frame.stack h.depth)

  -- types that grow come nearer to the widest ones
  pub way_down : (max_locals max_stack : ℕ) (old new : Option PlaceTypes)
      → ((frame : PlaceTypes) → new ≡ Some frame → IsFrame types max_locals max_stack frame)
      → ((frame : PlaceTypes) → old ≡ Some frame → Takes types (λ place. new) (record { to = 0; frame = frame }))
      → (old ≡ new) ⊎ (way_up types max_locals max_stack new < way_up types max_locals max_stack old)
  way_down max_locals max_stack None None frames kept = inl refl
  way_down max_locals max_stack None (Some frame) frames kept = inr (frame_way max_locals max_stack frame (frames frame refl))
  way_down max_locals max_stack (Some before) new frames kept =
      let k = kept before refl in
      elim (lower_frame types laws before k.there k.wide) [
        | inl e ↦ inl (ap Some e ∙ sym k.is_there)
        | inr l ↦ inr (subst (λ (x : Option PlaceTypes). way_up types max_locals max_stack x < way_up types max_locals max_stack
            (Some before)) (sym k.is_there) l)
      ]

  -- ---- tables

  same_limits : (a b c d : ℕ) (found : Option PlaceTypes) → a ≡ b → c ≡ d → way_up types a c found ≡ way_up types b d found
  same_limits a b c d found e f = ap (λ (n : ℕ). way_up types n c found) e ∙ ap (λ (n : ℕ). way_up types b n found) f

  grown_at : (flows : List Flow) (old new : Table) → IsGrown types flows old new → (place : ℕ)
      → work_at types new place ≤ work_at types old place
  grown_at flows old new h place =
      let was = types_at old.types place in
      let now = types_at new.types place in
      let limits = same_limits new.max_locals old.max_locals new.max_stack old.max_stack was h.max_locals h.max_stack in
      elim (way_down new.max_locals new.max_stack was now (h.table.frames place)
      (λ frame e. let t = h.kept place frame e in record { there = t.there; is_there = t.is_there; wide = t.wide })) [
        | inl e ↦
            sum_at (way_up types new.max_locals new.max_stack now) (way_up types new.max_locals new.max_stack was)
            (way_up types old.max_locals old.max_stack was) (mark (waits new.waiting place)) (mark (waits old.waiting place))
            (sym (ap (way_up types new.max_locals new.max_stack) e)) limits
            (mark_up (waits new.waiting place) (waits old.waiting place)
            (λ w. elim (h.begun place w) [ inl v ↦ v | inr n ↦ absurd (n (sym e)) ]))
        | inr l ↦
            sum_under (way_up types new.max_locals new.max_stack now) (way_up types new.max_locals new.max_stack was)
            (way_up types old.max_locals old.max_stack was) (mark (waits new.waiting place)) (mark (waits old.waiting place))
            l limits (mark_most (waits new.waiting place))
      ]

  pub grown_work : (flows : List Flow) (old new : Table) → IsGrown types flows old new → work_left types new ≤ work_left types old
  unfolding work_left
  grown_work flows old new h = sum_up 65536 (work_at types new) (work_at types old) (grown_at flows old new h)

  -- ---- a place that is looked at

  module _ (old : Table) (place : ℕ) (t : IsTable types old) (w : IsTrue (waits old.waiting place)) where
    abbrev mid : Table
    mid = record old { waiting = slice_set old.waiting place false; low = place + 1 }

    taken_at : (k : ℕ) → work_at types mid k ≤ work_at types old k
    taken_at k =
        twice_up (way_up types old.max_locals old.max_stack (types_at old.types k)) (mark (waits mid.waiting k))
        (mark (waits old.waiting k))
        (mark_up (waits mid.waiting k) (waits old.waiting k) (unmark old.waiting place k))

    taken_there : work_at types mid place < work_at types old place
    taken_there =
        twice_less (way_up types old.max_locals old.max_stack (types_at old.types place)) (mark (waits mid.waiting place))
        (mark (waits old.waiting place))
        (ap mark (unmarked old.waiting place)) (ap mark w)

    pub taken_work : work_left types mid < work_left types old
    unfolding work_left
    taken_work =
        let l = is_inside old.waiting place w in
        sum_less 65536 (work_at types mid) (work_at types old) place (omega (arith, l, t.even, t.small)) taken_at taken_there

  pub looked_work : (flows : List Flow) (old mid new : Table) (place : ℕ) → IsTable types old → IsTrue (waits old.waiting place)
      → mid ≡ record old { waiting = slice_set old.waiting place false; low = place + 1 } → IsGrown types flows mid new
      → work_left types new < work_left types old
  looked_work flows old mid new place t w e h =
      fall (work_left types new) (work_left types mid)
      (work_left types (record old { waiting = slice_set old.waiting place false; low = place + 1 })) (work_left types old)
      (grown_work flows mid new h) (ap (work_left types) e) (taken_work old place t w)
