-- What a place leads to, of a narrower frame and of a wider one.
use Rattle.std.proofs.Common.{◌≡◌, ℕ, zero, suc, ◌+◌, ◌<◌, Bool, true, false, cond, ◌||◌, List, [], ◌∷◌, ◌++◌, map, Option, Some}
use Rattle.std.proofs.Common.{None, refl, sym, ap, subst, ◌∙◌}
use Rattle.std.specs.Prelude.{All, filter, unwrap_or, IsTrue, nat_eq}
use Rattle.std.specs.List.{AllZip, list_any}
use Rattle.std.specs.Option.{option_and_then, option_map_or}
use Rattle.std.proofs.lemmas.Bool.{false≢true, eqb-true}
use Rattle.std.proofs.lemmas.List.{map-append}
use Rattle.std.proofs.lemmas.List.Elements.{All-filter, All-cons, All-nil, All-head, All-tail}
use Rattle.list_views.proofs.Zipped.{zip_joined}
use Rattle.list_views.proofs.Options.{then_some}
use Rattle.list_views.specs.Options.{asked}
use Rattle.jvm_values.specs.declared.typing.PlaceType.{PlaceType}
use Rattle.jvm_values.specs.declared.typing.PlaceType.TheVariants as places
use Rattle.jvm_values.specs.States.{PlaceTypes}
use Rattle.jvm_values.specs.TypedHeaps.{WorldTypes, AreLawful}
use Rattle.jvm_values.proofs.Options.{some_is}
use Rattle.class_program.specs.class_world.World.{World}
use Rattle.class_program.specs.class_world.Types.{erase}
use Rattle.class_program.specs.class_world.WorldTypes.{types_of}
use Rattle.class_program.specs.declared.op.Op.{Op}
use Rattle.class_program.specs.declared.program.CatchRange.{CatchRange}
use Rattle.class_program.specs.declared.program.Method.{Method}
use Rattle.class_program.specs.Instructions.{instruction_at}
use Rattle.class_program.specs.Programs.{Program}
use Rattle.class_program.specs.Good.{IsGood, IsGoodMethod}
use Rattle.op_forms.specs.Forms.{Form, form_of}
use Rattle.frame_types.specs.Places.{IsFrameWithin, IsOfWorld, IsProper}
use Rattle.frame_types.specs.Tables.{CodeTypes, Flow, Takes}
use Rattle.frame_types.specs.Growth.{is_led_to}
use Rattle.frame_types.proofs.GrowthLaws.{within_refl, frame_trans}
use Rattle.code_verify.specs.Rows.{types_after}
use Rattle.code_verify.specs.Flows.{is_inside, ways, covers, caught_class, CanCatch, caught_frame, onward, caught, runs_at}
use Rattle.code_verify.specs.Flows.{flows_from, ways_of_op, places_from}
use Rattle.code_verify.proofs.Basics.{was_asked}
use Rattle.code_verify.proofs.TypeShapes.{erased_of_world}
use Rattle.code_verify.proofs.RowLaws.{types_within, types_proper}
use Rattle.code_verify.proofs.GoodForms.{form_good}

-- the same place, and a frame at most as wide
pub record IsFlowWithin (types : WorldTypes) (narrow wide : Flow) : Type 0 where
  pub to : narrow.to ≡ wide.to
  pub frame : IsFrameWithin types narrow.frame wide.frame

abbrev Ran : Type 0
Ran = Form × Option ℕ × PlaceTypes

-- what stands behind a form that was found
abbrev after_form : Program → Method → PlaceTypes → Option ℕ → Form → Option Ran
after_form p m frame next form = option_and_then
    (λ (inside : Unit {0}). option_and_then (λ (after : PlaceTypes). Some (form, next, after)) (types_after p m form frame))
    (asked (is_inside form next))

pub record DidRun (p : Program) (m : Method) (place : ℕ) (frame : PlaceTypes) (ran : Form × Option ℕ × PlaceTypes) : Type 0 where
  pub op : Op
  pub stands : instruction_at m.insns place ≡ Some (op, ran.1)
  pub form : form_of op ≡ Some ran.0
  pub inside : is_inside ran.0 ran.1 ≡ true
  pub after : types_after p m ran.0 frame ≡ Some ran.2

pub did_run : (p : Program) (m : Method) (place : ℕ) (frame : PlaceTypes) (ran : Form × Option ℕ × PlaceTypes)
    → runs_at p m place frame ≡ Some ran → DidRun p m place frame ran
unfolding runs_at
did_run p m place frame ran e =
    let a = then_some (λ (here : Op × Option ℕ). option_and_then (after_form p m frame here.1) (form_of here.0))
    (instruction_at m.insns place) ran e in
    let b = then_some (after_form p m frame a.0.1) (form_of a.0.0) ran a.1.1 in
    let c = was_asked (is_inside b.0 a.0.1)
    (λ (inside : Unit {0}). option_and_then (λ (after : PlaceTypes). Some (b.0, a.0.1, after)) (types_after p m b.0 frame)) ran
    b.1.1 in
    let d = then_some (λ (after : PlaceTypes). Some (b.0, a.0.1, after)) (types_after p m b.0 frame) ran c.1 in
    let is : (b.0, a.0.1, d.0) ≡ ran = some_is d.1.1 in
    subst (DidRun p m place frame) is (record { op = a.0.0; stands = a.1.0; form = b.1.0; inside = c.0; after = d.1.0 })

pub runs_again : (p : Program) (m : Method) (place : ℕ) (frame : PlaceTypes) (op : Op) (next : Option ℕ) (form : Form)
    (after : PlaceTypes) → instruction_at m.insns place ≡ Some (op, next) → form_of op ≡ Some form → is_inside form next ≡ true
    → types_after p m form frame ≡ Some after → runs_at p m place frame ≡ Some (form, next, after)
unfolding runs_at
runs_again p m place frame op next form after a b c d =
    ap (option_and_then (λ (here : Op × Option ℕ). option_and_then (after_form p m frame here.1) (form_of here.0))) a
    ∙ ap (option_and_then (after_form p m frame next)) b
    ∙ ap (λ (test : Bool). option_and_then (λ (inside : Unit {0}). option_and_then (λ (x : PlaceTypes). Some (form, next, x))
    (types_after p m form frame)) (asked test)) c
    ∙ ap (option_and_then (λ (x : PlaceTypes). Some (form, next, x))) d

pub flows_are : (p : Program) (m : Method) (place : ℕ) (frame : PlaceTypes) (ran : Form × Option ℕ × PlaceTypes)
    → runs_at p m place frame ≡ Some ran
    → flows_from p m place frame ≡ Some (onward ran.2 (ways ran.0 ran.1) ++ caught p.world place frame m.table)
unfolding flows_from
flows_are p m place frame ran e = ap
    (option_and_then (λ (r : Form × Option ℕ × PlaceTypes). Some (onward r.2 (ways r.0 r.1) ++ caught p.world place frame m.table))) e

pub no_flows : (p : Program) (m : Method) (place : ℕ) (frame : PlaceTypes) → runs_at p m place frame ≡ None
    → flows_from p m place frame ≡ None
unfolding flows_from
no_flows p m place frame e = ap
    (option_and_then (λ (r : Form × Option ℕ × PlaceTypes). Some (onward r.2 (ways r.0 r.1) ++ caught p.world place frame m.table))) e

pub flows_ran : (p : Program) (m : Method) (place : ℕ) (frame : PlaceTypes) (flows : List Flow)
    → flows_from p m place frame ≡ Some flows → (ran : Form × Option ℕ × PlaceTypes)
    × ((runs_at p m place frame ≡ Some ran) × (flows ≡ onward ran.2 (ways ran.0 ran.1) ++ caught p.world place frame m.table))
unfolding flows_from
flows_ran p m place frame flows e =
    let a = then_some (λ (r : Form × Option ℕ × PlaceTypes). Some (onward r.2 (ways r.0 r.1) ++ caught p.world place frame m.table))
    (runs_at p m place frame) flows e in
    (a.0, (a.1.0, sym (some_is a.1.1)))

-- ---- narrower flows

zip_map : {A B : Type 0} (R : B → B → Type 0) (f g : A → B) → ((a : A) → R (f a) (g a)) → (xs : List A) → AllZip R (map f xs) (map g xs)
zip_map R f g h [] = tt
zip_map R f g h (x ∷ xs) = (h x, zip_map R f g h xs)

zip_map_all : {A B : Type 0} (R : B → B → Type 0) (f g : A → B) (P : A → Type 0) → ((a : A) → P a → R (f a) (g a)) → (xs : List A)
    → All P xs → AllZip R (map f xs) (map g xs)
zip_map_all R f g P h [] o = tt
zip_map_all R f g P h (x ∷ xs) o = (h x (All-head P x xs o), zip_map_all R f g P h xs (All-tail P x xs o))

module _ (p : Program) (m : Method) (good : IsGood p) (g : IsGoodMethod p m) (laws : AreLawful (types_of p.world)) where
  -- the class that a range catches, erased, is a type of the world
  pub caught_of_world : (range : CatchRange) → CanCatch p.world range
      → IsOfWorld (types_of p.world) (places.Ref (erase p.world (caught_class range)))
  caught_of_world range h = erased_of_world (types_of p.world) laws (caught_class range) (laws.of_world _ _ h).0

  pub run_proper : (place count : ℕ) (frame : PlaceTypes) (ran : Form × Option ℕ × PlaceTypes)
      → IsProper (types_of p.world) count frame → runs_at p m place frame ≡ Some ran → IsProper (types_of p.world) count ran.2
  run_proper place count frame ran o e =
      let d = did_run p m place frame ran e in
      types_proper p m laws ran.0 count frame ran.2 (form_good p good m g place d.op ran.1 ran.0 d.stands d.form) o d.after

  pub flows_within : (place count : ℕ) (a b : PlaceTypes) (wides : List Flow) → All (CanCatch p.world) m.table
      → IsProper (types_of p.world) count a → IsFrameWithin (types_of p.world) a b → flows_from p m place b ≡ Some wides
      → (narrows : List Flow) × ((flows_from p m place a ≡ Some narrows) × AllZip (IsFlowWithin (types_of p.world)) narrows wides)
  flows_within place count a b wides catches o w e =
      let f = flows_ran p m place b wides e in
      let d = did_run p m place b f.0 f.1.0 in
      let n = types_within p m laws f.0.0 count a b f.0.2 (form_good p good m g place d.op f.0.1 f.0.0 d.stands d.form) o w d.after in
      let r = runs_again p m place a d.op f.0.1 f.0.0 n.0 d.stands d.form d.inside n.1.0 in
      let ons = zip_map (IsFlowWithin (types_of p.world)) (λ (to : ℕ). record { to = to; frame = n.0 })
      (λ (to : ℕ). record { to = to; frame = f.0.2 }) (λ to. record { to = refl; frame = n.1.1 }) (ways f.0.0 f.0.1) in
      let hands = zip_map_all (IsFlowWithin (types_of p.world))
      (λ (range : CatchRange). record { to = range.handler; frame = caught_frame p.world a range })
      (λ (range : CatchRange). record { to = range.handler; frame = caught_frame p.world b range }) (CanCatch p.world)
      (λ range h. record {
        to = refl;
        frame = record {
          locals = w.locals;
          stack = (
            within_refl (types_of p.world) laws (places.Ref (erase p.world (caught_class range)))
                (caught_of_world range h),
            tt,
          );
        };
      })
      (filter (covers place) m.table) (All-filter (covers place) (CanCatch p.world) m.table catches) in (
        onward n.0 (ways f.0.0 f.0.1) ++ caught p.world place a m.table,
        (
          flows_are p m place a (f.0.0, f.0.1, n.0) r,
          subst (AllZip (IsFlowWithin (types_of p.world)) (onward n.0 (ways f.0.0 f.0.1) ++ caught p.world place a m.table)) (sym f.1.1)
              (zip_joined (IsFlowWithin (types_of p.world)) (onward n.0 (ways f.0.0 f.0.1)) (caught p.world place a m.table)
              (onward f.0.2 (ways f.0.0 f.0.1)) (caught p.world place b m.table) ons hands),
        ),
      )

  takes_one : (typing : CodeTypes) (n w : Flow) → IsFlowWithin (types_of p.world) n w → Takes (types_of p.world) typing w
      → Takes (types_of p.world) typing n
  takes_one typing n w h t = record {
    there = t.there;
    is_there = ap typing h.to ∙ t.is_there;
    wide = frame_trans (types_of p.world) laws n.frame w.frame t.there h.frame t.wide;
  }

  pub takes_flows : (typing : CodeTypes) (ns ws : List Flow) → AllZip (IsFlowWithin (types_of p.world)) ns ws
      → All (Takes (types_of p.world) typing) ws → All (Takes (types_of p.world) typing) ns
  takes_flows typing [] [] z h = h
  takes_flows typing [] (w ∷ ws) z h = absurd z
  takes_flows typing (n ∷ ns) [] z h = absurd z
  takes_flows typing (n ∷ ns) (w ∷ ws) z h = All-cons (Takes (types_of p.world) typing) n ns
      (takes_one typing n w z.0 (All-head (Takes (types_of p.world) typing) w ws h))
      (takes_flows typing ns ws z.1 (All-tail (Takes (types_of p.world) typing) w ws h))

-- ---- where flows lead

any_map : {A B : Type 0} (q : B → Bool) (f : A → B) (xs : List A) → list_any (λ x. q (f x)) xs ≡ list_any q (map f xs)
any_map q f [] = refl
any_map q f (x ∷ xs) = ap (λ (b : Bool). q (f x) || b) (any_map q f xs)

onward_places : (after : PlaceTypes) (places : List ℕ) → map (λ (flow : Flow). flow.to) (onward after places) ≡ places
onward_places after [] = refl
onward_places after (x ∷ places) = ap (λ (xs : List ℕ). x ∷ xs) (onward_places after places)

caught_places : (world : World) (frame : PlaceTypes) (ranges : List CatchRange)
    → map (λ (flow : Flow). flow.to)
    (map (λ (range : CatchRange). record { to = range.handler; frame = caught_frame world frame range }) ranges) ≡ map
    (λ (range : CatchRange). range.handler) ranges
caught_places world frame [] = refl
caught_places world frame (r ∷ ranges) = ap (λ (xs : List ℕ). r.handler ∷ xs) (caught_places world frame ranges)

places_are : (p : Program) (m : Method) (place : ℕ) (frame : PlaceTypes) (ran : Form × Option ℕ × PlaceTypes)
    → DidRun p m place frame ran → places_from m place ≡ ways ran.0 ran.1 ++ map (λ (range : CatchRange). range.handler)
    (filter (covers place) m.table)
unfolding places_from
places_are p m place frame ran d =
    let hands = map (λ (range : CatchRange). range.handler) (filter (covers place) m.table) in
    ap (λ (x : Option (Op × Option ℕ)). option_map_or (λ (here : Op × Option ℕ). ways_of_op here.0 here.1) x [] ++ hands) d.stands
    ∙ ap (λ (x : Option Form). option_map_or (λ (form : Form). ways form ran.1) x [] ++ hands) d.form

pub led_places : (p : Program) (m : Method) (place : ℕ) (frame : PlaceTypes) (flows : List Flow) (to : ℕ)
    → flows_from p m place frame ≡ Some flows → IsTrue (is_led_to flows to) → IsTrue (list_any (nat_eq to) (places_from m place))
led_places p m place frame flows to e h =
    let f = flows_ran p m place frame flows e in
    let d = did_run p m place frame f.0 f.1.0 in
    let same : map (λ (flow : Flow). flow.to) flows ≡ places_from m place =
    ap (map (λ (flow : Flow). flow.to)) f.1.1
    ∙ map-append (λ (flow : Flow). flow.to) (onward f.0.2 (ways f.0.0 f.0.1)) (caught p.world place frame m.table)
    ∙ ap (λ (xs : List ℕ). xs ++ map (λ (flow : Flow). flow.to) (caught p.world place frame m.table))
    (onward_places f.0.2 (ways f.0.0 f.0.1))
    ∙ ap (λ (xs : List ℕ). ways f.0.0 f.0.1 ++ xs) (caught_places p.world frame (filter (covers place) m.table))
    ∙ sym (places_are p m place frame f.0 d)
    in
    ap (list_any (nat_eq to)) (sym same) ∙ sym (any_map (nat_eq to) (λ (flow : Flow). flow.to) flows) ∙ h

there_of : (types : WorldTypes) (typing : CodeTypes) (to : ℕ) (fs : List Flow)
    → list_any (λ (flow : Flow). nat_eq to flow.to) fs ≡ true → All (Takes types typing) fs
    → (there : PlaceTypes) × (typing to ≡ Some there)
there_of types typing to [] k a = absurd (false≢true k)
there_of types typing to (x ∷ fs) k a =
    go (nat_eq to x.to) refl (λ r. there_of types typing to fs r (All-tail (Takes types typing) x fs a)) k
  where
    go : (b : Bool) → nat_eq to x.to ≡ b
        → (list_any (λ (flow : Flow). nat_eq to flow.to) fs ≡ true → (there : PlaceTypes) × (typing to ≡ Some there))
        → (b || list_any (λ (flow : Flow). nat_eq to flow.to) fs) ≡ true → (there : PlaceTypes) × (typing to ≡ Some there)
    go true q later r = let t = All-head (Takes types typing) x fs a in (t.there, ap typing (eqb-true to x.to q) ∙ t.is_there)
    go false q later r = later r

-- a typed place leads to typed places
pub leads_there : (p : Program) (m : Method) (typing : CodeTypes) (place : ℕ) (frame : PlaceTypes) (flows : List Flow) (to : ℕ)
    → flows_from p m place frame ≡ Some flows → All (Takes (types_of p.world) typing) flows
    → IsTrue (list_any (nat_eq to) (places_from m place)) → (there : PlaceTypes) × (typing to ≡ Some there)
leads_there p m typing place frame flows to e taken h =
    let f = flows_ran p m place frame flows e in
    let d = did_run p m place frame f.0 f.1.0 in
    let same : map (λ (flow : Flow). flow.to) flows ≡ places_from m place =
    ap (map (λ (flow : Flow). flow.to)) f.1.1
    ∙ map-append (λ (flow : Flow). flow.to) (onward f.0.2 (ways f.0.0 f.0.1)) (caught p.world place frame m.table)
    ∙ ap (λ (xs : List ℕ). xs ++ map (λ (flow : Flow). flow.to) (caught p.world place frame m.table))
    (onward_places f.0.2 (ways f.0.0 f.0.1))
    ∙ ap (λ (xs : List ℕ). ways f.0.0 f.0.1 ++ xs) (caught_places p.world frame (filter (covers place) m.table))
    ∙ sym (places_are p m place frame f.0 d)
    in
    there_of (types_of p.world) typing to flows (any_map (nat_eq to) (λ (flow : Flow). flow.to) flows
    ∙ ap (list_any (nat_eq to)) same ∙ h) taken
