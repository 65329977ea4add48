-- Where a method has a typing it has a least one: types that come are joined, place by place, until nothing more grows.
use Rattle.std.proofs.Common.{◌≡◌, ℕ, zero, suc, ◌+◌, ◌<◌, ◌≤◌, ◌||◌, Bool, true, false, cond, List, [], ◌∷◌, length, map, Option}
use Rattle.std.proofs.Common.{Some, None, ◌⊎◌, inl, inr, refl, sym, ap, subst, ◌∙◌, arith, eq-eqb}
use Rattle.std.specs.Prelude.{All, IsTrue, nat_eq}
use Rattle.std.specs.Option.{is_some}
use Rattle.std.proofs.lemmas.Bool.{false≢true, eqb-true, cases_lt, or_right, cases_eq, cases_Bool}
use Rattle.std.proofs.lemmas.List.Elements.{All-nil, All-cons, All-append, All-head, All-tail, All-filter, length_all_zip}
use Rattle.std.proofs.lemmas.Option.{none-some}
use Rattle.jvm_values.specs.TypedHeaps.{AreLawful}
use Rattle.jvm_values.specs.declared.typing.PlaceType.TheVariants as places
use Rattle.jvm_values.specs.States.{PlaceTypes}
use Rattle.jvm_values.proofs.Options.{some_is}
use Rattle.class_program.specs.class_world.Types.{erase}
use Rattle.class_program.specs.class_world.WorldTypes.{types_of}
use Rattle.class_program.specs.declared.op.Op.{Op}
use Rattle.class_program.specs.declared.program.CatchRange.{CatchRange}
use Rattle.class_program.specs.declared.program.Method.{Method}
use Rattle.class_program.specs.Instructions.{instruction_at, first_place}
use Rattle.class_program.specs.Programs.{Program}
use Rattle.class_program.specs.Good.{IsGood, IsGoodMethod}
use Rattle.frame_types.specs.Places.{IsWithin, IsFrameWithin, IsOfWorld, IsSet, IsProper, IsFrame}
use Rattle.frame_types.specs.Tables.{CodeTypes, Flow, Takes, IsAtMost}
use Rattle.frame_types.specs.Growth.{is_led_to}
use Rattle.frame_types.proofs.GrowthLaws.{takes_more, frame_refl}
use Rattle.frame_types.proofs.HeightLaws.{same_up, frame_antisym}
use Rattle.frame_types.proofs.JoinLaws.{frame_join}
use Rattle.frame_types.specs.Work.{way_up, sum_below}
use Rattle.frame_types.proofs.WorkLaws.{sum_less, way_down}
use Rattle.code_verify.specs.Flows.{ways, covers, caught_class, caught_frame, onward, caught, flows_from, CanCatch, IsReachable}
use Rattle.code_verify.specs.Flows.IsReachable.{start, onwards}
use Rattle.code_verify.specs.Typings.{IsTyping, IsLeastTyping, entry_frame, entry_flow}
use Rattle.code_verify.specs.inner.Solving.{IsClosedAt}
use Rattle.code_verify.proofs.Running.{caught_of_world, run_proper, flows_ran, did_run, flows_within, takes_flows, led_places}
use Rattle.code_verify.proofs.Solved.{reached_typed, entry_proper, too_many}

-- ---- places

nat_eq_itself : (n : ℕ) → nat_eq n n ≡ true
nat_eq_itself n = eq-eqb n n refl

at_first : (a b c : ℕ) → a ≡ b → b < (a + 1) + c
at_first a b c e = omega arith

at_later : (a b c : ℕ) → b < c → b < (a + 1) + c
at_later a b c l = omega arith

under : (a b c d : ℕ) → a ≡ b → b < c → d ≡ c → a ≤ d
under a b c d e l f = omega arith

fall : (a b c : ℕ) → a ≡ b → b < c → a < c
fall a b c e l = omega arith

depth_of : (a b c : ℕ) → a ≡ b → b ≤ c → a ≤ c
depth_of a b c e l = omega arith

self_less : (a : ℕ) → a < suc a
self_less a = omega arith

less_fuel : (a b c : ℕ) → a < b → b < suc c → a < c
less_fuel a b c l k = omega arith

-- a number above each place of an instruction
abbrev place_bound : List (ℕ × Op) → ℕ
place_bound [] = 0
place_bound (x ∷ rest) = (x.0 + 1) + place_bound rest

below_bound : (insns : List (ℕ × Op)) (place : ℕ) (found : Op × Option ℕ) → instruction_at insns place ≡ Some found
    → place < place_bound insns
below_bound [] place found e = absurd (none-some found e)
below_bound (x ∷ rest) place found e = elim (cases_Bool (nat_eq x.0 place)) [
  | inl t ↦ at_first x.0 place (place_bound rest) (eqb-true x.0 place t)
  | inr f ↦ at_later x.0 place (place_bound rest)
      (below_bound rest place found (sym (ap (λ (b : Bool). cond b (Some (x.1, first_place rest)) (instruction_at rest place)) f) ∙ e))
]

-- the same types, but for one place
abbrev put : CodeTypes → ℕ → PlaceTypes → CodeTypes
put typing to frame place = cond (nat_eq place to) (Some frame) (typing place)

put_there : (typing : CodeTypes) (to : ℕ) (frame : PlaceTypes) (place : ℕ) → place ≡ to → put typing to frame place ≡ Some frame
put_there typing to frame place e = elim (cases_Bool (nat_eq place to)) [
  | inl t ↦ ap (λ (b : Bool). cond b (Some frame) (typing place)) t
  | inr f ↦ absurd (false≢true (sym f ∙ ap (nat_eq place) (sym e) ∙ nat_eq_itself place))
]

put_other : (typing : CodeTypes) (to : ℕ) (frame : PlaceTypes) (place : ℕ) → (place ≡ to → ⊥) → put typing to frame place ≡ typing place
put_other typing to frame place h = elim (cases_Bool (nat_eq place to)) [
  | inl t ↦ absurd (h (eqb-true place to t))
  | inr f ↦ ap (λ (b : Bool). cond b (Some frame) (typing place)) f
]

-- ---- where flows lead

led_each : (m : Method) (flows : List Flow) → ((to : ℕ) → IsTrue (is_led_to flows to) → IsReachable m to)
    → All (λ (flow : Flow). IsReachable m flow.to) flows
led_each m [] h = All-nil (λ (flow : Flow). IsReachable m flow.to)
led_each m (flow ∷ flows) h =
    All-cons (λ (x : Flow). IsReachable m x.to) flow flows
    (h flow.to (ap (λ (b : Bool). b || is_led_to flows flow.to) (nat_eq_itself flow.to)))
    (led_each m flows (λ to k. h to (or_right (nat_eq to flow.to) (is_led_to flows to) k)))

module _ (p : Program) (m : Method) (good : IsGood p) (g : IsGoodMethod p m) (laws : AreLawful (types_of p.world))
    (bound : CodeTypes) (bounded : IsTyping p m bound) where
  -- types that are at most those of each typing
  record IsPart (typing : CodeTypes) : Type 0 where
    entry : Takes (types_of p.world) typing (entry_flow (types_of p.world) m)
    frames : (place : ℕ) (frame : PlaceTypes) → typing place ≡ Some frame → IsFrame (types_of p.world) m.max_locals m.max_stack frame
    below : (other : CodeTypes) → IsTyping p m other → IsAtMost (types_of p.world) typing other
    reached : (place : ℕ) (frame : PlaceTypes) → typing place ≡ Some frame → IsReachable m place

  abbrev limit : ℕ
  limit = place_bound m.insns

  abbrev way : CodeTypes → ℕ
  way typing = sum_below limit (λ place. way_up (types_of p.world) m.max_locals m.max_stack (typing place))

  -- others that are nearer to the widest types
  abbrev Better : CodeTypes → Type 0
  Better typing = (other : CodeTypes) × (IsPart other × (way other < way typing))

  place_below : (place : ℕ) (frame : PlaceTypes) → bound place ≡ Some frame → place < limit
  place_below place frame e =
      let ty = bounded.each place frame e in
      let f = flows_ran p m place frame ty.flows ty.runs in
      let d = did_run p m place frame f.0 f.1.0 in
      below_bound m.insns place (d.op, f.0.1) d.stands

  -- ---- one flow

  -- what comes to a place in each typing
  record IsComing (flow : Flow) : Type 0 where
    proper : IsProper (types_of p.world) m.max_locals flow.frame
    taken : (other : CodeTypes) → IsTyping p m other → Takes (types_of p.world) other flow
    reached : IsReachable m flow.to

  module _ (typing : CodeTypes) (part : IsPart typing) (flow : Flow) (coming : IsComing flow) where
    -- the types with that place's made wider
    module _ (frame : PlaceTypes) (proper : IsProper (types_of p.world) m.max_locals frame) (least : (other : CodeTypes)
        → IsTyping p m other → Takes (types_of p.world) other (record { to = flow.to; frame = frame }))
        (wide : (before : PlaceTypes) → typing flow.to ≡ Some before → IsFrameWithin (types_of p.world) before frame)
        (less : way_up (types_of p.world) m.max_locals m.max_stack (Some frame) < way_up (types_of p.world) m.max_locals m.max_stack
        (typing flow.to)) where
      abbrev later : CodeTypes
      later = put typing flow.to frame

      later_is : (place : ℕ) (found : PlaceTypes) → later place ≡ Some found → place ≡ flow.to → found ≡ frame
      later_is place found e s = some_is (sym e ∙ put_there typing flow.to frame place s)

      was : (place : ℕ) (found : PlaceTypes) → later place ≡ Some found → (place ≡ flow.to → ⊥) → typing place ≡ Some found
      was place found e s = sym (put_other typing flow.to frame place s) ∙ e

      depth : length frame.stack ≤ m.max_stack
      depth =
          let t = least bound bounded in
          depth_of (length frame.stack) (length t.there.stack) m.max_stack
          (length_all_zip (IsWithin (types_of p.world)) frame.stack t.there.stack t.wide.stack)
          (bounded.each flow.to t.there t.is_there).limits.depth

      later_more : IsAtMost (types_of p.world) typing later
      later_more place found e = elim (cases_eq place flow.to) [
        | inl s ↦ record { there = frame; is_there = put_there typing flow.to frame place s; wide = wide found (ap typing (sym s) ∙ e) }
        | inr s ↦ record {
          there = found;
          is_there = put_other typing flow.to frame place s
              ∙ e;
          wide = frame_refl (types_of p.world) laws m.max_locals found (part.frames place found e).proper;
        }
      ]

      later_part : IsPart later
      later_part = record {
        entry = takes_more (types_of p.world) laws typing later later_more (entry_flow (types_of p.world) m) part.entry;
        frames = λ place found e. elim (cases_eq place flow.to) [
          | inl s ↦ subst (IsFrame (types_of p.world) m.max_locals m.max_stack) (sym (later_is place found e s))
              (record { proper = proper; depth = depth })
          | inr s ↦ part.frames place found (was place found e s)
        ];
        below = λ other t place found e. elim (cases_eq place flow.to) [
          | inl s ↦
              let k = least other t in
              record {
                there = k.there;
                is_there = ap other s ∙ k.is_there;
                wide = subst (λ (x : PlaceTypes). IsFrameWithin (types_of p.world) x k.there) (sym (later_is place found e s)) k.wide;
              }
          | inr s ↦ part.below other t place found (was place found e s)
        ];
        reached = λ place found e. elim (cases_eq place flow.to) [
          | inl s ↦ subst (IsReachable m) (sym s) coming.reached
          | inr s ↦ part.reached place found (was place found e s)
        ];
      }

      abbrev up : Option PlaceTypes → ℕ
      up found = way_up (types_of p.world) m.max_locals m.max_stack found

      later_up : (place : ℕ) → up (later place) ≤ up (typing place)
      later_up place = elim (cases_eq place flow.to) [
        | inl s ↦ under (up (later place)) (up (Some frame)) (up (typing flow.to)) (up (typing place))
            (ap up (put_there typing flow.to frame place s)) less (ap (λ (k : ℕ). up (typing k)) s)
        | inr s ↦ same_up (up (typing place)) (up (later place)) (sym (ap up (put_other typing flow.to frame place s)))
      ]

      better : Better typing
      better =
          let t = least bound bounded in
          let l = place_below flow.to t.there t.is_there in
          let down = fall (up (later flow.to)) (up (Some frame)) (up (typing flow.to))
          (ap up (put_there typing flow.to frame flow.to refl)) less in
          (later, (later_part, sum_less limit (λ place. up (later place)) (λ place. up (typing place)) flow.to l later_up down))

    -- where nothing was at the place
    first : typing flow.to ≡ None → Better typing
    first e =
        let t = coming.taken bound bounded in
        let frame : IsFrame (types_of p.world) m.max_locals m.max_stack flow.frame =
        record {
          proper = coming.proper;
          depth = depth_of (length flow.frame.stack) (length t.there.stack) m.max_stack
              (length_all_zip (IsWithin (types_of p.world)) flow.frame.stack t.there.stack t.wide.stack)
              (bounded.each flow.to t.there t.is_there).limits.depth;
        }
        in
        better flow.frame coming.proper coming.taken (λ before is. absurd (none-some before (sym e ∙ is)))
        (elim (way_down (types_of p.world) laws m.max_locals m.max_stack None (Some flow.frame)
        (λ found is. subst (IsFrame (types_of p.world) m.max_locals m.max_stack) (some_is is) frame)
        (λ found is. absurd (none-some found is))) [
          | inl same ↦ absurd (none-some flow.frame same)
          | inr l ↦ subst (λ (x : Option PlaceTypes). way_up (types_of p.world) m.max_locals m.max_stack (Some flow.frame) < way_up
              (types_of p.world) m.max_locals m.max_stack x) (sym e) l
        ])

    -- where something was there, it takes the flow or is made wider
    module _ (before : PlaceTypes) (is : typing flow.to ≡ Some before) where
      within_there : (other : CodeTypes) (t : IsTyping p m other) → IsFrameWithin (types_of p.world) before (coming.taken other t).there
      within_there other t =
          let b = part.below other t flow.to before is in
          let k = coming.taken other t in
          subst (IsFrameWithin (types_of p.world) before) (some_is (sym b.is_there ∙ k.is_there)) b.wide

      widened : Takes (types_of p.world) typing flow ⊎ Better typing
      widened =
          let k = coming.taken bound bounded in
          let join = frame_join (types_of p.world) laws m.max_locals before flow.frame k.there
          (part.frames flow.to before is).proper coming.proper (bounded.each flow.to k.there k.is_there).limits.proper
          (within_there bound bounded) k.wide in
          let least : (other : CodeTypes) → IsTyping p m other → Takes (types_of p.world) other (record { to = flow.to; frame = join.0 }) =
          λ other t.
          let o = coming.taken other t in
          record {
            there = o.there;
            is_there = o.is_there;
            wide = join.1.least o.there (t.each flow.to o.there o.is_there).limits.proper (within_there other t) o.wide;
          }
          in
          let deep = depth_of (length join.0.stack) (length before.stack) m.max_stack
          (sym (length_all_zip (IsWithin (types_of p.world)) before.stack join.0.stack join.1.left.stack))
          (part.frames flow.to before is).depth in
          elim (way_down (types_of p.world) laws m.max_locals m.max_stack (Some before) (Some join.0)
          (λ found e. subst (IsFrame (types_of p.world) m.max_locals m.max_stack) (some_is e)
          (record { proper = join.1.proper; depth = deep }))
          (λ found e. record {
            there = join.0;
            is_there = refl;
            wide = subst
                (λ (x : PlaceTypes). IsFrameWithin (types_of p.world) x join.0) (some_is e) join.1.left;
          })) [
            | inl same ↦ inl (record {
              there = before;
              is_there = is;
              wide = subst (IsFrameWithin (types_of p.world) flow.frame)
                  (sym (some_is same)) join.1.right;
            })
            | inr l ↦ inr (better join.0 join.1.proper least
                (λ found e. subst (λ (x : PlaceTypes). IsFrameWithin (types_of p.world) x join.0) (some_is (sym is ∙ e)) join.1.left)
                (subst (λ (x : Option PlaceTypes). way_up (types_of p.world) m.max_locals m.max_stack (Some join.0) < way_up
                (types_of p.world) m.max_locals m.max_stack x) (sym is) l))
          ]

    come_by : (found : Option PlaceTypes) → typing flow.to ≡ found → Takes (types_of p.world) typing flow ⊎ Better typing
    come_by None e = inr (first e)
    come_by (Some before) e = widened before e

    come : Takes (types_of p.world) typing flow ⊎ Better typing
    come = come_by (typing flow.to) refl

  come_all : (typing : CodeTypes) → IsPart typing → (flows : List Flow) → All IsComing flows
      → All (Takes (types_of p.world) typing) flows ⊎ Better typing
  come_all typing part [] h = inl (All-nil (Takes (types_of p.world) typing))
  come_all typing part (flow ∷ flows) h = elim (come typing part flow (All-head IsComing flow flows h)) [
    | inl t ↦ elim (come_all typing part flows (All-tail IsComing flow flows h)) [
      | inl ts ↦ inl (All-cons (Takes (types_of p.world) typing) flow flows t ts)
      | inr b ↦ inr b
    ]
    | inr b ↦ inr b
  ]

  -- ---- one place

  module _ (typing : CodeTypes) (part : IsPart typing) (place : ℕ) (frame : PlaceTypes) (is : typing place ≡ Some frame) where
    -- what the place leads to is taken by each typing
    led : (other : CodeTypes) → IsTyping p m other
        → (flows : List Flow) × ((flows_from p m place frame ≡ Some flows) × All (Takes (types_of p.world) other) flows)
    led other t =
        let b = part.below other t place frame is in
        let ty = t.each place b.there b.is_there in
        let w = flows_within p m good g laws place m.max_locals frame b.there ty.flows t.catches (part.frames place frame is).proper
        b.wide ty.runs in
        (w.0, (w.1.0, takes_flows p m good g laws other w.0 ty.flows w.1.1 ty.taken))

    abbrev flows : List Flow
    flows = (led bound bounded).0

    runs : flows_from p m place frame ≡ Some flows
    runs = (led bound bounded).1.0

    taken_by : (other : CodeTypes) → IsTyping p m other → All (Takes (types_of p.world) other) flows
    taken_by other t =
        let l = led other t in
        subst (All (Takes (types_of p.world) other)) (some_is (sym l.1.0 ∙ runs)) l.1.1

    all_onward : (after : PlaceTypes) (tos : List ℕ) → IsProper (types_of p.world) m.max_locals after
        → All (λ (flow : Flow). IsProper (types_of p.world) m.max_locals flow.frame) (onward after tos)
    all_onward after [] h = All-nil (λ (flow : Flow). IsProper (types_of p.world) m.max_locals flow.frame)
    all_onward after (to ∷ tos) h = All-cons (λ (flow : Flow). IsProper (types_of p.world) m.max_locals flow.frame)
        (record { to = to; frame = after }) (onward after tos) h (all_onward after tos h)

    alone_proper : (range : CatchRange) → CanCatch p.world range
        → IsProper (types_of p.world) m.max_locals (caught_frame p.world frame range)
    alone_proper range h =
        let f = (part.frames place frame is).proper in
        record {
          count = f.count;
          set = All-cons IsSet (places.Ref (erase p.world (caught_class range))) []
              (λ (e : places.Ref (erase p.world (caught_class range)) ≡ places.Unset). cc) (All-nil IsSet);
          locals = f.locals;
          stack = All-cons (IsOfWorld (types_of p.world)) (places.Ref (erase p.world (caught_class range))) []
              (caught_of_world p m good g laws range h) (All-nil (IsOfWorld (types_of p.world)));
        }

    all_caught : (ranges : List CatchRange) → All (CanCatch p.world) ranges
        → All (λ (flow : Flow). IsProper (types_of p.world) m.max_locals flow.frame)
        (map (λ (range : CatchRange). record { to = range.handler; frame = caught_frame p.world frame range }) ranges)
    all_caught [] h = All-nil (λ (flow : Flow). IsProper (types_of p.world) m.max_locals flow.frame)
    all_caught (range ∷ ranges) h =
        All-cons (λ (flow : Flow). IsProper (types_of p.world) m.max_locals flow.frame)
        (record { to = range.handler; frame = caught_frame p.world frame range })
        (map (λ (x : CatchRange). record { to = x.handler; frame = caught_frame p.world frame x }) ranges)
        (alone_proper range (All-head (CanCatch p.world) range ranges h))
        (all_caught ranges (All-tail (CanCatch p.world) range ranges h))

    all_proper : All (λ (flow : Flow). IsProper (types_of p.world) m.max_locals flow.frame) flows
    all_proper =
        let f = flows_ran p m place frame flows runs in
        let after = run_proper p m good g laws place m.max_locals frame f.0 (part.frames place frame is).proper f.1.0 in
        subst (All (λ (flow : Flow). IsProper (types_of p.world) m.max_locals flow.frame)) (sym f.1.1)
        (All-append (λ (flow : Flow). IsProper (types_of p.world) m.max_locals flow.frame) (onward f.0.2 (ways f.0.0 f.0.1))
        (caught p.world place frame m.table)
        (all_onward f.0.2 (ways f.0.0 f.0.1) after)
        (all_caught _ (All-filter (covers place) (CanCatch p.world) m.table bounded.catches)))

    all_reached : All (λ (flow : Flow). IsReachable m flow.to) flows
    all_reached = led_each m flows (λ to h. onwards place to (part.reached place frame is) (led_places p m place frame flows to runs h))

    all_coming : All IsComing flows
    all_coming k d l = record {
      proper = all_proper k d l;
      taken = λ other t. taken_by other t k d l;
      reached = all_reached k d l;
    }

    closed : IsClosedAt p m typing place frame ⊎ Better typing
    closed = elim (come_all typing part flows all_coming) [
      | inl t ↦ inl (record { flows = flows; runs = runs; taken = t })
      | inr b ↦ inr b
    ]

  -- ---- all places

  abbrev IsClosed : CodeTypes → ℕ → Type 0
  IsClosed typing place = (frame : PlaceTypes) → typing place ≡ Some frame → IsClosedAt p m typing place frame

  closed_by : (typing : CodeTypes) → IsPart typing → (place : ℕ) → (found : Option PlaceTypes) → typing place ≡ found
      → IsClosed typing place ⊎ Better typing
  closed_by typing part place None e = inl (λ frame is. absurd (none-some frame (sym e ∙ is)))
  closed_by typing part place (Some frame) e = elim (closed typing part place frame e) [
    | inl c ↦ inl (λ found is. subst (IsClosedAt p m typing place) (some_is (sym e ∙ is)) c)
    | inr b ↦ inr b
  ]

  closed_below : (typing : CodeTypes) → IsPart typing → (n : ℕ) → ((place : ℕ) → place < n → IsClosed typing place) ⊎ Better typing
  closed_below typing part zero = inl (λ place l. absurd (omega arith))
  closed_below typing part (suc n) = elim (closed_below typing part n) [
    | inl c ↦ elim (closed_by typing part n (typing n) refl) [
      | inl d ↦ inl (λ place l. elim (cases_lt place n) [
        | inl k ↦ c place k
        | inr k ↦ let e : place ≡ n = omega (arith, l, k) in subst (IsClosed typing) (sym e) d
      ])
      | inr b ↦ inr b
    ]
    | inr b ↦ inr b
  ]

  finished : (typing : CodeTypes) → IsPart typing → ((place : ℕ) → place < limit → IsClosed typing place) → IsLeastTyping p m typing
  finished typing part all = record {
    is_typing = whole;
    least = part.below;
    reached = λ place. (
      λ h. let x = some_of (typing place) h in part.reached place x.0 x.1,
      λ r. ap is_some (reached_typed p m good g laws typing whole place r).1,
    );
  }
    where
      some_of : (o : Option PlaceTypes) → is_some o ≡ true → (x : PlaceTypes) × (o ≡ Some x)
      some_of None h = absurd (false≢true h)
      some_of (Some x) h = (x, refl)

      whole : IsTyping p m typing
      whole = record {
        catches = bounded.catches;
        entry = part.entry;
        each = λ place frame e.
            let b = part.below bound bounded place frame e in
            let c = all place (place_below place b.there b.is_there) frame e in
            record { limits = part.frames place frame e; flows = c.flows; runs = c.runs; taken = c.taken };
      }

  search_from : (fuel : ℕ) (typing : CodeTypes) → IsPart typing → way typing < fuel → (least : CodeTypes) × IsLeastTyping p m least
  search_from zero typing part l = absurd (omega arith)
  search_from (suc fuel) typing part l = elim (closed_below typing part limit) [
    | inl c ↦ (typing, finished typing part c)
    | inr b ↦ search_from fuel b.0 b.1.0 (less_fuel (way b.0) (way typing) fuel b.1.1 l)
  ]

  -- ---- the beginning

  abbrev begun : CodeTypes
  begun = put (λ place. None) 0 (entry_frame (types_of p.world) m)

  begun_is : (place : ℕ) (frame : PlaceTypes) → begun place ≡ Some frame → (place ≡ 0) × (frame ≡ entry_frame (types_of p.world) m)
  begun_is place frame e = elim (cases_eq place 0) [
    | inl s ↦ (s, some_is (sym e ∙ put_there (λ place. None) 0 (entry_frame (types_of p.world) m) place s))
    | inr s ↦ absurd (none-some frame (sym (put_other (λ place. None) 0 (entry_frame (types_of p.world) m) place s) ∙ e))
  ]

  first_frame : IsFrame (types_of p.world) m.max_locals m.max_stack (entry_frame (types_of p.world) m)
  first_frame = record {
    proper = entry_proper p m good g laws
        (elim (cases_lt m.max_locals (length m.params)) [ inl l ↦ absurd (too_many p m good g laws l (bound, bounded)) | inr l ↦ l ]);
    depth = omega arith;
  }

  begun_part : IsPart begun
  begun_part = record {
    entry = record {
      there = entry_frame (types_of p.world) m;
      is_there = put_there (λ place. None) 0 (entry_frame (types_of p.world) m) 0 refl;
      wide = frame_refl (types_of p.world) laws m.max_locals (entry_frame (types_of p.world) m) first_frame.proper;
    };
    frames = λ place frame e. subst (IsFrame (types_of p.world) m.max_locals m.max_stack) (sym (begun_is place frame e).1) first_frame;
    below = λ other t place frame e.
        let b = begun_is place frame e in
        record {
          there = t.entry.there;
          is_there = ap other b.0 ∙ t.entry.is_there;
          wide = subst (λ (x : PlaceTypes). IsFrameWithin (types_of p.world) x t.entry.there) (sym b.1) t.entry.wide;
        };
    reached = λ place frame e. subst (IsReachable m) (sym (begun_is place frame e).0) start;
  }

  pub least_exists : (least : CodeTypes) × IsLeastTyping p m least
  least_exists = search_from (suc (way begun)) begun begun_part (self_less (way begun))

-- two least typings are one
pub least_is_one : (p : Program) (m : Method) (laws : AreLawful (types_of p.world)) (a b : CodeTypes) → IsLeastTyping p m a
    → IsLeastTyping p m b → (place : ℕ) → a place ≡ b place
least_is_one p m laws a b s t place = by_types (a place) (b place) refl refl
  where
    by_types : (x y : Option PlaceTypes) → a place ≡ x → b place ≡ y → x ≡ y
    by_types None None e f = refl
    by_types None (Some frame) e f = let k = t.least a s.is_typing place frame f in absurd (none-some k.there (sym e ∙ k.is_there))
    by_types (Some frame) y e f =
        let k = s.least b t.is_typing place frame e in
        let l = t.least a s.is_typing place k.there k.is_there in
        let same : l.there ≡ frame = some_is (sym l.is_there ∙ e) in
        let back : IsFrameWithin (types_of p.world) k.there frame = subst (IsFrameWithin (types_of p.world) k.there) same l.wide in
        ap Some (frame_antisym (types_of p.world) laws frame k.there k.wide back) ∙ sym k.is_there ∙ f
