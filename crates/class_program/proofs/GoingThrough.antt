-- Going through the reached methods, one after the other.
use Rattle.std.proofs.Common.{◌≡◌, ◌++◌, ℕ, zero, suc, ◌+◌, ◌<◌, ◌≤◌, Bool, true, List, [], ◌∷◌, length, Option, Some, None, Ok}
use Rattle.std.proofs.Common.{Err, sym, refl, ap, ◌∙◌, subst, inl, inr, arith, append_assoc, length-append, get_or, drop, drop-cons}
use Rattle.std.proofs.Common.{add-one, ◌-◌}
use Rattle.std.specs.Prelude.{flat_map, slice_get, option_and_then}
use Rattle.std.proofs.lemmas.Option.{slice_get_past}
use Rattle.std.specs.List.{list_all, filter_map, cons_option}
use Rattle.std.specs.Option.{option_map, option_map_or}
use Rattle.std.proofs.lemmas.Bool.{and_parts, and_from, cases_lt}
use Rattle.std.proofs.lemmas.List.Elements.{filter_map-append}
use Rattle.list_views.proofs.Items.{get_past}
use Rattle.list_views.proofs.Quantified.{holds_at}
use Rattle.class_world.specs.class_pool.declared.entry.PoolEntry.{PoolEntry}
use Rattle.class_world.specs.class_read.Content.{ClassContent, MethodContent}
use Rattle.class_program.specs.Ops.{pool_of}
use Rattle.class_world.specs.declared.fault.LinkFault.{LinkFault}
use Rattle.class_program.specs.declared.program.Method.{Method}
use Rattle.class_world.specs.declared.world.MethodRef.{MethodRef}
use Rattle.class_world.specs.World.{World}
use Rattle.list_views.specs.Results.{each, IsDue}
use Rattle.class_program.specs.Said.{is_memory}
use Rattle.class_world.specs.Resolve.{method_at, has_body}
use Rattle.class_program.specs.Runs.{runs}
use Rattle.class_program.specs.Methods.{method_of}
use Rattle.class_program.specs.Reached.{with_one, with_new, runs_in, runs_said, runs_from, reached_within, method_count, reached}
use Rattle.class_program.specs.Reached.{contents_of, methods_of}
use Rattle.list_views.proofs.Steps.{each_more, each_broken, handed_on}
use Rattle.class_program.proofs.Reaching.{with_new_append, Begins, begins_length, begins_all, within, IsGrowing, grow_start}
use Rattle.class_program.proofs.Reaching.{grow_more, begins_in_time, ends_in_time}
use Rattle.class_program.proofs.Room.{open_in, all_methods, all_length, at_in_all, body_at, bodies_in_all, all_new, room_start, room_new}
use Rattle.class_program.proofs.Bodies.{all_flat_map, runs_all}

-- ---- what the methods of a list are

contents_append : (world : World) (xs ys : List MethodRef) → contents_of world (xs ++ ys) ≡ contents_of world xs ++ contents_of world ys
unfolding contents_of
contents_append world xs ys = filter_map-append (λ ref. option_map (λ m. (ref, m)) (method_at world ref)) xs ys

contents_one : (world : World) (x : MethodRef) (m : MethodContent) (xs : List MethodRef) → method_at world x ≡ Some m
    → contents_of world (x ∷ xs) ≡ (x, m) ∷ contents_of world xs
unfolding contents_of
contents_one world x m xs e = ap
    (λ o. cons_option (option_map (λ c. (x, c)) o) (filter_map (λ ref. option_map (λ c. (ref, c)) (method_at world ref)) xs)) e

said_more : (world : World) (gone : List MethodRef) (x : MethodRef) (content : MethodContent) (methods : List Method) (m : Method)
    → methods_of world gone ≡ Ok methods → method_at world x ≡ Some content → method_of world x content ≡ Ok m
    → methods_of world (gone ++ x ∷ []) ≡ Ok (methods ++ m ∷ [])
unfolding methods_of contents_of
said_more world gone x content methods m e a s =
    ap (each (λ y. method_of world y.0 y.1)) (contents_append world gone (x ∷ [])
    ∙ ap (λ l. contents_of world gone ++ l) (contents_one world x content [] a))
    ∙ each_more (λ y. method_of world y.0 y.1) (contents_of world gone) (x, content) methods m e s

said_broken : (world : World) (gone rest : List MethodRef) (x : MethodRef) (content : MethodContent) (methods : List Method)
    (fault : LinkFault) → methods_of world gone ≡ Ok methods → method_at world x ≡ Some content
    → method_of world x content ≡ Err fault → methods_of world (gone ++ x ∷ rest) ≡ Err fault
unfolding methods_of
said_broken world gone rest x content methods fault e a s =
    ap (each (λ y. method_of world y.0 y.1)) (contents_append world gone (x ∷ rest)
    ∙ ap (λ l. contents_of world gone ++ l) (contents_one world x content rest a))
    ∙ each_broken (λ y. method_of world y.0 y.1) (contents_of world gone) (contents_of world rest) (x, content) methods fault e s

-- ---- the definition's list

within_is : (world : World) (entry : MethodRef) (n : ℕ) → reached_within world entry n ≡ within (runs_from world) entry n
unfolding reached_within
within_is world entry zero = refl
within_is world entry (suc n) = ap (λ l. with_new (entry ∷ []) (flat_map (runs_from world) l)) (within_is world entry n)

reached_is : (world : World) (entry : MethodRef) → reached world entry ≡ within (runs_from world) entry (method_count world)
unfolding reached
reached_is world entry = within_is world entry (method_count world)

-- ---- one method after the other

-- The methods `gone` are gone through, and what they are is known.
pub record IsReaching (world : World) (entry : MethodRef) (refs : List MethodRef) (methods : List Method) : Type 0 where
  pub gone : List MethodRef
  pub len : length gone ≡ length methods
  pub growing : IsGrowing (runs_from world) entry gone refs
  pub found : methods_of world gone ≡ Ok methods
  pub bodies : list_all (has_body world) refs ≡ true
  pub room : length refs + open_in refs (all_methods world) ≤ method_count world

pub reach_start : (world : World) (entry : MethodRef) (refs : List MethodRef) (methods : List Method) → has_body world entry ≡ true
    → refs ≡ with_one [] entry → methods ≡ [] → IsReaching world entry refs methods
unfolding methods_of contents_of
reach_start world entry refs methods h r m =
    let at = body_at world entry h in
    let there = at_in_all world entry at.0 at.1 in
    let k = room_start (all_methods world) entry there in
    let n = all_length world in
    let room : length (entry ∷ []) + open_in (entry ∷ []) (all_methods world) ≤ method_count world = omega (arith, k, n) in
    record {
      gone = [];
      len = ap length (sym m);
      growing = grow_start (runs_from world) entry refs r;
      found = ap Ok (sym m);
      bodies = subst (λ l. list_all (has_body world) l ≡ true) (sym r) (and_from (has_body world entry) true h refl);
      room = subst (λ l. length l + open_in l (all_methods world) ≤ method_count world) (sym r) room;
    }

-- the item behind a front
behind : (gone rest : List MethodRef) (x : MethodRef) → slice_get (gone ++ rest) (length gone) ≡ Some x
    → (more : List MethodRef) × (rest ≡ x ∷ more)
behind [] [] x e = cc
behind [] (y ∷ ys) x e = let same : y ≡ x = cc in (ys, ap (λ z. z ∷ ys) same)
behind (g ∷ gs) rest x e = behind gs rest x e

pub next_begins : (world : World) (entry : MethodRef) (refs : List MethodRef) (methods : List Method) (x : MethodRef)
    (h : IsReaching world entry refs methods) → slice_get refs (length methods) ≡ Some x → Begins (h.gone ++ x ∷ []) refs
next_begins world entry refs methods x h e =
    let front = h.growing.front in
    let at = behind h.gone front.0 x (ap (λ l. slice_get l (length h.gone)) (sym front.1) ∙ ap (slice_get refs) h.len ∙ e) in
    (at.0, front.1 ∙ ap (λ r. h.gone ++ r) at.1 ∙ sym (append_assoc h.gone (x ∷ []) at.0))

-- the next method has a body, and it is there
pub next_body : (world : World) (entry : MethodRef) (refs : List MethodRef) (methods : List Method) (x : MethodRef)
    → IsReaching world entry refs methods → slice_get refs (length methods) ≡ Some x → has_body world x ≡ true
next_body world entry refs methods x h e = holds_at (has_body world) refs (length methods) x h.bodies e

-- what the next method reaches
next_runs : (world : World) (x : MethodRef) (content : MethodContent) (m : Method) → method_at world x ≡ Some content
    → method_of world x content ≡ Ok m → runs_from world x ≡ runs_in world m
unfolding runs_from
next_runs world x content m a s = ap (λ o. option_map_or (λ c. runs_said world (method_of world x c)) o []) a ∙ ap (runs_said world) s

runs_in_is : (world : World) (m : Method) → runs_in world m ≡ flat_map (λ x. runs world x.1) m.insns
unfolding runs_in
runs_in_is world m = refl

pub reach_more : (world : World) (entry : MethodRef) (refs more : List MethodRef) (methods mores : List Method) (x : MethodRef)
    (content : MethodContent) (m : Method) → IsReaching world entry refs methods → slice_get refs (length methods) ≡ Some x
    → method_at world x ≡ Some content → method_of world x content ≡ Ok m
    → more ≡ with_new refs (flat_map (λ y. runs world y.1) m.insns) → mores ≡ methods ++ m ∷ [] → IsReaching world entry more mores
reach_more world entry refs more methods mores x content m h e a s r q =
    let found = flat_map (λ y. runs world y.1) m.insns in
    let bodies = all_flat_map (has_body world) (λ y. runs world y.1) m.insns (λ y. runs_all world y.1) in
    let k = length-append h.gone (x ∷ []) in
    let l = length-append methods (m ∷ []) in
    let long : length mores ≡ length (methods ++ m ∷ []) = ap length q in
    let same = h.len in
    record {
      gone = h.gone ++ x ∷ [];
      len = omega (arith, k, l, long, same);
      growing = grow_more (runs_from world) entry h.gone refs more x h.growing (next_begins world entry refs methods x h e)
          (r ∙ ap (with_new refs) (sym (next_runs world x content m a s ∙ runs_in_is world m)));
      found = said_more world h.gone x content methods m h.found a s ∙ ap Ok (sym q);
      bodies = subst (λ l. list_all (has_body world) l ≡ true) (sym r) (all_new (has_body world) refs found h.bodies bodies);
      room = subst (λ l. length l + open_in l (all_methods world) ≤ method_count world) (sym r)
          (room_new (all_methods world) refs found (method_count world) (bodies_in_all world found bodies) h.room);
    }

-- the next method breaks a rule
pub reach_broken : (world : World) (entry : MethodRef) (refs : List MethodRef) (methods : List Method) (x : MethodRef)
    (content : MethodContent) (fault : LinkFault) → IsReaching world entry refs methods → slice_get refs (length methods) ≡ Some x
    → method_at world x ≡ Some content → IsDue is_memory fault (method_of world x content)
    → IsDue is_memory fault (methods_of world (reached world entry))
reach_broken world entry refs methods x content fault h e a due =
    let room = h.room in
    let b = begins_in_time (runs_from world) entry h.gone refs x (method_count world) h.growing
    (next_begins world entry refs methods x h e) (omega (arith, room)) in
    handed_on is_memory fault (method_of world x content) (methods_of world (reached world entry))
    (λ s. ap (methods_of world) (reached_is world entry ∙ b.1 ∙ append_assoc h.gone (x ∷ []) b.0)
    ∙ said_broken world h.gone b.0 x content methods fault h.found a s) due

-- nothing is left
pub all_gone : (world : World) (entry : MethodRef) (refs : List MethodRef) (methods : List Method)
    (h : IsReaching world entry refs methods) → slice_get refs (length methods) ≡ None → h.gone ≡ refs
all_gone world entry refs methods h e =
    let l = get_past refs (length methods) e in
    let n = h.len in
    begins_all h.gone refs h.growing.front (omega (arith, l, n))

pub reach_end : (world : World) (entry : MethodRef) (refs : List MethodRef) (methods : List Method)
    → IsReaching world entry refs methods → slice_get refs (length methods) ≡ None → refs ≡ reached world entry
reach_end world entry refs methods h e =
    let room = h.room in
    let g = subst (λ l. IsGrowing (runs_from world) entry l refs) (all_gone world entry refs methods h e) h.growing in
    sym (reached_is world entry ∙ ends_in_time (runs_from world) entry refs (method_count world) g (omega (arith, room)))

pub reach_found : (world : World) (entry : MethodRef) (refs : List MethodRef) (methods : List Method)
    → IsReaching world entry refs methods → slice_get refs (length methods) ≡ None → methods_of world (reached world entry) ≡ Ok methods
reach_found world entry refs methods h e = ap (methods_of world) (sym (reach_end world entry refs methods h e)
    ∙ sym (all_gone world entry refs methods h e)) ∙ h.found

-- the next one is one of the world's methods
pub reach_less : (world : World) (entry : MethodRef) (refs : List MethodRef) (methods : List Method) (x : MethodRef)
    → IsReaching world entry refs methods → slice_get refs (length methods) ≡ Some x → length methods < method_count world
reach_less world entry refs methods x h e =
    let b = begins_length (h.gone ++ x ∷ []) refs (next_begins world entry refs methods x h e) in
    let k = length-append h.gone (x ∷ []) in
    let room = h.room in
    let same = h.len in
    omega (arith, b, k, room, same)

-- the pool of a class
pub pool_from : (world : World) (class : ℕ) (c : ClassContent) (pool : List PoolEntry) → slice_get world class ≡ Some c
    → pool ≡ c.pool → pool ≡ pool_of world class
pool_from world class c pool e p = p ∙ ap (λ o. option_map_or (λ x. x.pool) o []) (sym e)

-- a method that is there is one of a class that is there
pub at_within : (world : World) (ref : MethodRef) (m : MethodContent) → method_at world ref ≡ Some m → ref.class < length world
unfolding method_at
at_within world ref m e = elim (cases_lt ref.class (length world)) [
  | inl l ↦ l
  | inr l ↦ absurd (none (ap (option_and_then (λ c. slice_get c.methods ref.index)) (sym (slice_get_past world ref.class l)) ∙ e))
]
  where
    none : ◌≡◌ {A = Option MethodContent} None (Some m) → ⊥
    none h = cc

-- the methods that one more instruction can run
pub runs_more : {A : Type 0} (f : A → List MethodRef) (xs : List A) (i : ℕ) (d : A) (refs more all found : List MethodRef)
    → i < length xs → with_new refs (flat_map f (drop i xs)) ≡ all → found ≡ f (get_or xs i d) → more ≡ with_new refs found
    → with_new more (flat_map f (drop (i + 1) xs)) ≡ all
runs_more f xs i d refs more all found l h s m =
    ap (λ r. with_new r (flat_map f (drop (i + 1) xs))) (m ∙ ap (with_new refs) s)
    ∙ sym (with_new_append refs (f (get_or xs i d)) (flat_map f (drop (i + 1) xs)))
    ∙ ap (λ ys. with_new refs (flat_map f ys)) (sym (drop-cons xs i d l ∙ ap (λ j. get_or xs i d ∷ drop j xs) (sym (add-one i))))
    ∙ h

-- less is left
pub reach_smaller : (n : ℕ) (methods more : List Method) (m : Method) → length methods < n → more ≡ methods ++ m ∷ []
    → n - length more < n - length methods
reach_smaller n methods more m l e = let k = length-append methods (m ∷ []) in let same = ap length e in omega (arith, k, same, l)
