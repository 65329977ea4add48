-- Every closed program is good.
use Rattle.std.proofs.Common.{◌≡◌, ℕ, zero, suc, ◌<◌, Bool, true, false, not, cond, List, [], ◌∷◌, length, Option, Some, None, Ok}
use Rattle.std.proofs.Common.{Err, refl, sym, ap, subst, inl, inr, ◌⊎◌, arith, ◌∙◌}
use Rattle.std.specs.Prelude.{map, slice_get, IfSome}
use Rattle.std.specs.List.{list_all, filter_map, cons_option, flat_map, AllByRecursion}
use Rattle.std.specs.Option.{option_map, option_map_or}
use Rattle.std.proofs.lemmas.Bool.{and_parts}
use Rattle.list_views.proofs.Quantified.{all_mapped, all_weaker}
use Rattle.class_world.specs.class_base.declared.handler.Handler.{Handler}
use Rattle.class_world.specs.class_pool.declared.entry.PoolEntry.{PoolEntry}
use Rattle.class_world.specs.class_read.Content.{MethodContent, CodeContent}
use Rattle.class_world.specs.code_forms.declared.insn.Insn.{Insn}
use Rattle.class_world.specs.code_forms.Marks.{starts, stands}
use Rattle.code_decode.specs.Codes.{targets}
use Rattle.jvm_values.specs.declared.types.Slot.{Slot}
use Rattle.jvm_values.specs.Subtyping.{IsSlot}
use Rattle.class_world.specs.declared.fault.MethodName.{MethodName}
use Rattle.class_world.specs.declared.world.MethodRef.{MethodRef}
use Rattle.class_world.specs.World.{World, is_static, is_native, is_abstract}
use Rattle.class_world.specs.BuiltIns.{IsWorld}
use Rattle.class_world.specs.Descriptors.{class_slot}
use Rattle.class_world.specs.Resolve.{method_at, has_body}
use Rattle.list_views.proofs.Steps.{bind_ok}
use Rattle.class_program.specs.declared.op.Op.{Op}
use Rattle.class_program.specs.declared.program.CatchRange.{CatchRange}
use Rattle.class_program.specs.declared.program.Method.{Method}
use Rattle.class_program.specs.declared.program.StaticField.{StaticField}
use Rattle.class_program.specs.declared.signature.Signature.{Signature}
use Rattle.class_program.specs.Operands.{operand_of}
use Rattle.class_program.specs.Said.{each}
use Rattle.class_program.specs.Signatures.{declared_signature}
use Rattle.class_program.specs.Ops.{op_of, pool_of}
use Rattle.class_program.specs.Methods.{method_name, code_of, own_types, insns_of, op_said, ops_of, catch_of, range_of, table_of}
use Rattle.class_program.specs.Methods.{with_receiver, method_of}
use Rattle.class_program.specs.Runs.{runs}
use Rattle.class_world.specs.declared.fault.LinkFault.TheVariants.{Native}
use Rattle.class_program.specs.Statics.{has_field, field_named, fields_named, statics_of, statics_named}
use Rattle.class_program.proofs.StaticLists.{numbered_names, statics_are}
use Rattle.class_program.specs.Reached.{has_method, runs_from, reached_within, method_count, reached, contents_of, methods_of}
use Rattle.class_program.specs.Reached.{insns_numbered, method_numbered, close_of}
use Rattle.class_program.specs.Instructions.{is_placed}
use Rattle.class_program.specs.Programs.{Program, IsClosed, ref_of, refs_of}
use Rattle.class_program.specs.Good.{is_place, IsEnd, IsGoodOp, IsGoodRange, IsDeclaredStatic, IsGoodMethod, IsGood}
use Rattle.class_program.proofs.Got.{got_faultless, each_good}
use Rattle.class_program.proofs.Rising.{insns_read, ops_placed, numbered_placed}
use Rattle.class_program.proofs.Reaching.{with_new_begins}
use Rattle.class_program.proofs.GoingThrough.{at_within}
use Rattle.class_program.proofs.Closed.{insns_have}
use Rattle.class_program.proofs.Made.{IsMade, method_made}
use Rattle.class_program.proofs.GoodTypes.{own_signature}
use Rattle.class_program.proofs.GoodShapes.{Shape, op_shape}
use Rattle.class_program.proofs.GoodPlaces.{places, ops_places, numbered_places, stands_so, targets_stand, code_below, IsBounded}
use Rattle.class_program.proofs.GoodPlaces.{table_bounded, catch_within}
use Rattle.class_program.proofs.GoodCalls.{IsTyped}
use Rattle.class_program.proofs.GoodOps.{IsInside, op_good}
use Rattle.class_program.proofs.GoodStatics.{names_named, statics_declared}

-- ---- each method is what closing says of its declaration

-- a method with its calls' numbers, and the same without them
pub record IsMadeOf (world : World) (refs : List MethodRef) (statics : List StaticField) (m : Method) : Type 0 where
  pub ref : MethodRef
  pub content : MethodContent
  pub there : method_at world ref ≡ Some content
  pub plain : Method
  pub made : IsMade world ref content plain
  pub same : method_numbered refs statics plain ≡ m

abbrev AreThere : World → List (MethodRef × MethodContent) → Type 0
AreThere world xs = AllByRecursion (λ (x : MethodRef × MethodContent). method_at world x.0 ≡ Some x.1) xs

contents_there : (world : World) (refs : List MethodRef) → AreThere world (contents_of world refs)
unfolding contents_of
contents_there world [] = tt
contents_there world (r ∷ rs) = go (method_at world r) refl (contents_there world rs)
  where
    go : (o : Option MethodContent) → method_at world r ≡ o
        → AreThere world (filter_map (λ ref. option_map (λ m. (ref, m)) (method_at world ref)) rs)
        → AreThere world (cons_option (option_map (λ m. (r, m)) o)
        (filter_map (λ ref. option_map (λ m. (ref, m)) (method_at world ref)) rs))
    go None q rest = rest
    go (Some m) q rest = (q, rest)

record AreMade (world : World) (refs : List MethodRef) (methods : List Method) : Type 0 where
  pub statics : List StaticField
  pub statics_are : statics ≡ statics_of world (fields_named methods)
  pub made : AllByRecursion (IsMadeOf world refs statics) methods

all_made : (world : World) (entry : MethodRef) (methods : List Method) → close_of world entry ≡ Ok methods
    → AreMade world (reached world entry) methods
unfolding close_of methods_of
all_made world entry methods e =
    let refs = reached world entry in
    let ms = bind_ok (each (λ x. method_of world x.0 x.1) (contents_of world refs)) _ methods e in
    let found = bind_ok (statics_named world ms.0) _ methods ms.2 in
    let same : map (method_numbered refs found.0) ms.0 ≡ methods = cc in
    let plain = each_good (λ (x : MethodRef × MethodContent). method_at world x.0 ≡ Some x.1)
    (λ r. IsMadeOf world refs found.0 (method_numbered refs found.0 r)) (λ x. method_of world x.0 x.1) (contents_of world refs) ms.0
    (λ x r at made. record { ref = x.0; content = x.1; there = at; plain = r; made = method_made world x.0 x.1 r made; same = refl })
    (contents_there world refs) ms.1 in
    record {
      statics = found.0;
      statics_are = statics_are world ms.0 found.0 found.1
          ∙ ap (statics_of world) (sym (sym (ap fields_named same) ∙ numbered_names refs found.0 ms.0));
      made = subst (λ (xs : List Method). AllByRecursion (IsMadeOf world refs found.0) xs) same
          (all_mapped (IsMadeOf world refs found.0) (method_numbered refs found.0) ms.0 plain);
    }

made_class : (world : World) (refs : List MethodRef) (statics : List StaticField) (m : Method) (h : IsMadeOf world refs statics m)
    → ref_of m ≡ h.ref
made_class world refs statics m h = sym (ap ref_of h.same) ∙ sym (ap ref_of h.made.whole)

own_types_are : (world : World) (name : MethodName) (desc : List ℕ) (s : Signature) → own_types world name desc ≡ Ok s
    → declared_signature world desc ≡ Ok s
unfolding own_types
own_types_are world name desc s e = got_faultless name 0 (declared_signature world desc) s e

pub typed_of : (world : World) (refs : List MethodRef) (statics : List StaticField) (m : Method) → IsMadeOf world refs statics m
    → IsTyped world m
typed_of world refs statics m h = subst (IsTyped world) h.same (record {
  content = h.content;
  there = ap (method_at world) (sym (ap ref_of h.made.whole)) ∙ h.there;
  types = h.made.types;
  types_are = own_types_are world (method_name world h.ref.class h.content) h.content.desc h.made.types h.made.types_are;
  params = sym (ap (λ (r : Method). r.params) h.made.whole) ∙ ap (λ (c : ℕ). with_receiver c h.content.flags h.made.types.params)
      (ap (λ (r : Method). r.class) h.made.whole);
  result = sym (ap (λ (r : Method). r.result) h.made.whole);
})

-- ---- the parts of a method

-- an instruction that is read, with its names resolved
record IsSaid (world : World) (class : ℕ) (all : List (ℕ × Insn)) (op : Op) : Type 0 where
  pub insn : Insn
  pub shape : Shape world class insn (operand_of insn) op
  pub leads : AllByRecursion (λ t. stands (starts all) t ≡ true) (targets insn)

ops_said : (world : World) (class : ℕ) (name : MethodName) (code : CodeContent) (xs : List (ℕ × Insn)) (ys : List (ℕ × Op))
    → insns_of name code ≡ Ok xs → ops_of world class name xs ≡ Ok ys → AllByRecursion (λ y. IsSaid world class xs y.1) ys
unfolding ops_of op_said
ops_said world class name code xs ys i o =
    each_good (λ x. AllByRecursion (λ t. stands (starts xs) t ≡ true) (targets x.1)) (λ y. IsSaid world class xs y.1)
    (op_said world class name) xs ys
    (λ x y t e.
    let op = bind_ok (op_of world class name x.0 x.1) _ y e in
    let same : op.0 ≡ y.1 = cc in
    record {
      insn = x.1;
      shape = subst (λ (z : Op). Shape world class x.1 (operand_of x.1) z) same
          (op_shape world class name x.0 x.1 op.0 op.1);
      leads = t;
    })
    (targets_stand code.code xs (insns_read name code xs i).0) o

-- an entry of a table whose boundaries are good
good_range : (world : World) (pool : List PoolEntry) (m : Method) (code : CodeContent) (xs : List (ℕ × Insn))
    → places m.insns ≡ places xs → AllByRecursion (λ x. x.0 < length code.code) m.insns → (h : Handler) (r : CatchRange)
    → IsBounded (stands (starts xs)) (length code.code) h → range_of world pool h ≡ Ok r → IsGoodRange world m r
unfolding range_of
good_range world pool m code xs same below h r b e =
    let catch = bind_ok (catch_of world pool h.catch) _ r e in
    let whole : ◌≡◌ {A = CatchRange} (record { start = h.start; end = h.end; handler = h.handler; catch = catch.0 }) r = cc in
    subst (IsGoodRange world m) whole (record {
      start = stands_so m.insns xs h.start same b.start;
      end = ends b.end;
      order = b.order;
      handler = stands_so m.insns xs h.handler same b.handler;
      catch = catch_within world pool h.catch catch.0 catch.1;
    })
  where
    ends : (stands (starts xs) h.end ≡ true) ⊎ (h.end ≡ length code.code) → IsEnd m.insns h.end
    ends (inl s) = inl (stands_so m.insns xs h.end same s)
    ends (inr l) = inr (subst (λ (n : ℕ). AllByRecursion (λ x. x.0 < n) m.insns) (sym l) below)

-- places below a bound, by the list of places
below_by : {A B : Type 0} (n : ℕ) (xs : List (ℕ × A)) (ys : List (ℕ × B)) → places ys ≡ places xs → AllByRecursion (λ x. x.0 < n) xs
    → AllByRecursion (λ y. y.0 < n) ys
below_by n [] [] e h = tt
below_by n [] (y ∷ ys) e h = cc
below_by n (x ∷ xs) [] e h = cc
below_by n (x ∷ xs) (y ∷ ys) e h =
    let head : x.0 ≡ y.0 = cc in
    let tail : places ys ≡ places xs = cc in
    (subst (λ (k : ℕ). k < n) head h.0, below_by n xs ys tail h.1)

has_bodies : (world : World) (methods : List Method) → list_all (has_body world) (refs_of methods) ≡ true
    → AllByRecursion (λ m. has_body world (ref_of m) ≡ true) methods
has_bodies world [] e = tt
has_bodies world (m ∷ ms) e = let r = and_parts (has_body world (ref_of m)) (list_all (has_body world) (refs_of ms)) e in
    (r.0, has_bodies world ms r.1)

run_there : (refs : List MethodRef) (world : World) (xs : List (ℕ × Op))
    → list_all (λ y. list_all (has_method refs) (runs world y.1)) xs ≡ true
    → AllByRecursion (λ y. list_all (has_method refs) (runs world y.1) ≡ true) xs
run_there refs world [] e = tt
run_there refs world (x ∷ xs) e = let r = and_parts (list_all (has_method refs) (runs world x.1))
    (list_all (λ y. list_all (has_method refs) (runs world y.1)) xs) e in (r.0, run_there refs world xs r.1)

all_run : (refs : List MethodRef) (world : World) (ms : List Method)
    → list_all (λ m. list_all (λ y. list_all (has_method refs) (runs world y.1)) m.insns) ms ≡ true
    → AllByRecursion (λ m. AllByRecursion (λ y. list_all (has_method refs) (runs world y.1) ≡ true) m.insns) ms
all_run refs world [] e = tt
all_run refs world (m ∷ ms) e = let r = and_parts (list_all (λ y. list_all (has_method refs) (runs world y.1)) m.insns)
    (list_all (λ x. list_all (λ y. list_all (has_method refs) (runs world y.1)) x.insns) ms) e in
    (run_there refs world m.insns r.0, all_run refs world ms r.1)

insns_inside : (p : Program) (xs : List (ℕ × Op))
    → AllByRecursion (λ y. list_all (has_method (refs_of p.methods)) (runs p.world y.1) ≡ true) xs
    → AllByRecursion (λ y. IfSome (field_named y.1) (λ f. has_field (fields_named p.methods) f ≡ true)) xs
    → AllByRecursion (λ y. IsInside p y.1) xs
insns_inside p [] run named = tt
insns_inside p (x ∷ xs) run named = ((run.0, named.0), insns_inside p xs run.1 named.1)

all_inside : (p : Program) (ms : List Method)
    → AllByRecursion (λ m. AllByRecursion (λ y. list_all (has_method (refs_of p.methods)) (runs p.world y.1) ≡ true) m.insns) ms
    → AllByRecursion (λ m. AllByRecursion (λ y. IfSome (field_named y.1) (λ f. has_field (fields_named p.methods) f ≡ true))
    m.insns) ms → AllByRecursion (λ m. AllByRecursion (λ y. IsInside p y.1) m.insns) ms
all_inside p [] run named = tt
all_inside p (m ∷ ms) run named = (insns_inside p m.insns run.0 named.0, all_inside p ms run.1 named.1)

-- the same instructions with their calls' numbers and their static fields' places
good_insns : (p : Program) (m : Method) (all : List (ℕ × Insn)) (ops : List (ℕ × Op)) → IsWorld p.world
    → list_all (has_body p.world) (refs_of p.methods) ≡ true → AllByRecursion (IsTyped p.world) p.methods
    → p.statics ≡ statics_of p.world (fields_named p.methods) → places m.insns ≡ places all
    → AllByRecursion (λ y. IsSaid p.world m.class all y.1) ops
    → AllByRecursion (λ y. IsInside p y.1) (insns_numbered (refs_of p.methods) p.statics ops)
    → AllByRecursion (λ y. IsGoodOp p m y.1) (insns_numbered (refs_of p.methods) p.statics ops)
good_insns p m all [] known bodies typed kept same said run = tt
good_insns p m all (y ∷ ys) known bodies typed kept same said run =
    let s = said.0 in (
      op_good p known bodies typed kept m s.insn (operand_of s.insn) y.1 refl s.shape run.0
          (all_weaker (λ t. stands (starts all) t ≡ true) (λ t. is_place m.insns t ≡ true) (λ t q. stands_so m.insns all t same q)
          (targets s.insn) s.leads),
      good_insns p m all ys known bodies typed kept same said.1 run.1,
    )

slots_with : (world : World) (class flags : ℕ) (params : List Slot) → class < length world
    → AllByRecursion (IsSlot (length world)) params → AllByRecursion (IsSlot (length world)) (with_receiver class flags params)
slots_with world class flags params l h = go (is_static flags)
  where
    go : (b : Bool) → AllByRecursion (IsSlot (length world)) (cond b params (class_slot 0 class ∷ params))
    go true = h
    go false = ((omega arith, l), h)

bodied_is : (world : World) (ref : MethodRef) (m : MethodContent) → method_at world ref ≡ Some m → has_body world ref ≡ true
    → is_abstract m.flags ≡ false
bodied_is world ref m e b = go (is_abstract m.flags)
    (sym (ap (λ (o : Option MethodContent). not (option_map_or (λ x. is_abstract x.flags) o true)) e) ∙ b)
  where
    go : (a : Bool) → not a ≡ true → a ≡ false
    go false q = refl
    go true q = cc

good_table : (world : World) (pool : List PoolEntry) (m : Method) (code : CodeContent) (xs : List (ℕ × Insn))
    (table : List CatchRange) → places m.insns ≡ places xs → AllByRecursion (λ x. x.0 < length code.code) m.insns
    → AllByRecursion (λ h. IsBounded (stands (starts xs)) (length code.code) h) code.table
    → table_of world pool code.table ≡ Ok table → AllByRecursion (IsGoodRange world m) table
unfolding table_of
good_table world pool m code xs table same below bounded e = each_good (λ h. IsBounded (stands (starts xs)) (length code.code) h)
    (IsGoodRange world m) (range_of world pool) code.table table (λ h r b s. good_range world pool m code xs same below h r b s) bounded e

-- the entry is the first of the reached methods
entry_first : (world : World) (entry : MethodRef) → (rest : List MethodRef) × (reached world entry ≡ entry ∷ rest)
unfolding reached reached_within
entry_first world entry = go (method_count world)
  where
    go : (n : ℕ) → (rest : List MethodRef) × (reached_within world entry n ≡ entry ∷ rest)
    go zero = ([], refl)
    go (suc n) = let b = with_new_begins (entry ∷ []) (flat_map (runs_from world) (reached_within world entry n)) in (b.0, b.1)

-- the code of a method that has one
code_there : (name : MethodName) (m : MethodContent) (code : CodeContent) → code_of name m ≡ Ok code → m.code ≡ Some code
unfolding code_of
code_there name m code e = go (is_native m.flags) m.code e
  where
    go : (b : Bool) (o : Option CodeContent) → cond b (Err (Native name)) (option_map_or Ok o (Err (Native name))) ≡ Ok code
        → o ≡ Some code
    go true o f = cc
    go false None f = cc
    go false (Some c) f = cc

-- a method with its calls' numbers
good_method : (p : Program) → IsWorld p.world → list_all (has_body p.world) (refs_of p.methods) ≡ true
    → AllByRecursion (IsTyped p.world) p.methods → p.statics ≡ statics_of p.world (fields_named p.methods)
    → (ref : MethodRef) (content : MethodContent) (r : Method) → method_at p.world ref ≡ Some content → IsMade p.world ref content r
    → has_body p.world ref ≡ true
    → AllByRecursion (λ y. IsInside p y.1) (insns_numbered (refs_of p.methods) p.statics r.insns)
    → IsGoodMethod p (method_numbered (refs_of p.methods) p.statics r)
good_method p known bodies typed kept ref content r at made body run =
    let refs = refs_of p.methods in
    let name = method_name p.world ref.class content in
    let m = method_numbered refs p.statics r in
    let within = at_within p.world ref content at in
    let class : ref.class ≡ m.class = ap (λ (x : Method). x.class) made.whole in
    let ops : made.ops ≡ r.insns = ap (λ (x : Method). x.insns) made.whole in
    let read = insns_read name made.code made.insns made.insns_are in
    let same : places m.insns ≡ places made.insns = numbered_places refs p.statics r.insns
    ∙ sym (ap (λ (xs : List (ℕ × Op)). places xs) ops) ∙ ops_places p.world ref.class name made.insns made.ops made.ops_are in
    let signature = (own_signature p.world content.desc made.types
    (own_types_are p.world name content.desc made.types made.types_are)).3 in
    let said = subst (λ (c : ℕ). AllByRecursion (λ y. IsSaid p.world c made.insns y.1) made.ops) class
    (ops_said p.world ref.class name made.code made.insns made.ops made.insns_are made.ops_are) in
    let params : with_receiver ref.class content.flags made.types.params ≡ m.params = ap (λ (x : Method). x.params) made.whole in
    let result : made.types.result ≡ m.result = ap (λ (x : Method). x.result) made.whole in
    let table : made.table ≡ m.table = ap (λ (x : Method). x.table) made.whole in
    record {
      class = subst (λ (c : ℕ). c < length p.world) class within;
      declared = record {
        content = content;
        there = ap (method_at p.world) (sym (ap ref_of made.whole)) ∙ at;
        body = bodied_is p.world ref content at body;
        code = made.code;
        code_is = code_there name content made.code made.code_is;
        max_stack = sym (ap (λ (x : Method). x.max_stack) made.whole);
        max_locals = sym (ap (λ (x : Method). x.max_locals) made.whole);
        types = made.types.params;
        params = sym (ap (λ (x : Method). x.params) made.whole) ∙ ap (λ (c : ℕ). with_receiver c content.flags made.types.params) class;
        name = sym (ap (λ (x : Method). x.name) made.whole);
        desc = sym (ap (λ (x : Method). x.desc) made.whole);
      };
      params = subst (λ (xs : List Slot). AllByRecursion (IsSlot (length p.world)) xs) params
          (slots_with p.world ref.class content.flags made.types.params within signature.params);
      result = subst (λ (o : Option Slot). IfSome o (IsSlot (length p.world))) result signature.result;
      placed = numbered_placed refs p.statics r.insns ∙ sym (ap (λ (xs : List (ℕ × Op)). is_placed xs) ops)
          ∙ ops_placed p.world ref.class name made.code made.insns made.ops made.insns_are made.ops_are;
      insns = good_insns p m made.insns r.insns known bodies typed kept same
          (subst (λ (xs : List (ℕ × Op)). AllByRecursion (λ y. IsSaid p.world m.class made.insns y.1) xs) ops said) run;
      table = subst (λ (xs : List CatchRange). AllByRecursion (IsGoodRange p.world m) xs) table
          (good_table p.world (pool_of p.world ref.class) m made.code made.insns made.table same
          (below_by (length made.code.code) made.insns m.insns same (code_below made.code.code made.insns read.0))
          (table_bounded made.code made.insns read.1) made.table_is);
    }

-- ---- the program

good_all : (p : Program) → IsWorld p.world → list_all (has_body p.world) (refs_of p.methods) ≡ true
    → AllByRecursion (IsTyped p.world) p.methods → p.statics ≡ statics_of p.world (fields_named p.methods) → (refs : List MethodRef)
    → refs ≡ refs_of p.methods → (ms : List Method) → AllByRecursion (IsMadeOf p.world refs p.statics) ms
    → AllByRecursion (λ m. has_body p.world (ref_of m) ≡ true) ms
    → AllByRecursion (λ m. AllByRecursion (λ y. IsInside p y.1) m.insns) ms → AllByRecursion (IsGoodMethod p) ms
good_all p known bodies typed kept refs e [] made body run = tt
good_all p known bodies typed kept refs e (m ∷ ms) made body run =
    let h = made.0 in
    let same : method_numbered (refs_of p.methods) p.statics h.plain ≡ m = ap
    (λ (xs : List MethodRef). method_numbered xs p.statics h.plain) (sym e) ∙ h.same in
    let own : ref_of m ≡ h.ref = made_class p.world refs p.statics m h in (
      subst (IsGoodMethod p) same
          (good_method p known bodies typed kept h.ref h.content h.plain h.there h.made
          (subst (λ (r : MethodRef). has_body p.world r ≡ true) own body.0)
          (subst (λ (x : Method). AllByRecursion (λ y. IsInside p y.1) x.insns) (sym same) run.0)),
      good_all p known bodies typed kept refs e ms made.1 body.1 run.1,
    )

pub good_program : (p : Program) → IsClosed p → IsGood p
good_program p h =
    let refs = reached p.world p.entry in
    let all = all_made p.world p.entry p.methods h.made in
    let made = subst (λ (xs : List StaticField). AllByRecursion (IsMadeOf p.world refs xs) p.methods)
    (all.statics_are ∙ sym h.statics) all.made in
    let typed = all_weaker (IsMadeOf p.world refs p.statics) (IsTyped p.world) (typed_of p.world refs p.statics) p.methods made in
    record {
      first = first_of p.methods (h.reaches);
      methods = good_all p h.known h.bodies typed h.statics refs (sym h.reaches) p.methods made
          (has_bodies p.world p.methods h.bodies)
          (all_inside p p.methods
          (all_run (refs_of p.methods) p.world p.methods (insns_have p.world (refs_of p.methods) p.methods h.whole))
          (names_named p.methods));
      statics = subst (λ (xs : List StaticField). AllByRecursion (IsDeclaredStatic p.world) xs) (sym h.statics)
          (statics_declared p.world (fields_named p.methods));
      few = h.few;
    }
  where
    first_of : (ms : List Method) → refs_of ms ≡ reached p.world p.entry → (m : Method) × (slice_get ms 0 ≡ Some m) × (ref_of m ≡ p.entry)
    first_of ms e = let f = entry_first p.world p.entry in head ms f.0 (e ∙ f.1)
      where
        head : (xs : List Method) (rest : List MethodRef) → refs_of xs ≡ p.entry ∷ rest → (m : Method) × (slice_get xs 0 ≡ Some m)
            × (ref_of m ≡ p.entry)
        head [] rest q = cc
        head (x ∷ xs) rest q = let same : ref_of x ≡ p.entry = cc in (x, refl, same)
