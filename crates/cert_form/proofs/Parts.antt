-- The nodes of a certificate, each by its number.
use Rattle.std.proofs.Common.{◌≡◌, ℕ, zero, suc, ◌<◌, ◌==◌, ◌&&◌, ◌||◌, nat_lt, not, Bool, true, false, cond, List, [], ◌∷◌, length}
use Rattle.std.proofs.Common.{take, Result, Ok, Err, Option, Some, None, option_map, slice_get, filter, find, codes, refl, sym, ap}
use Rattle.std.proofs.Common.{◌∙◌, subst, arith}
use Rattle.std.specs.Prelude.{is_none, is_some}
use Rattle.std.specs.Option.{option_map_or, ok_or}
use Rattle.std.specs.List.{list_any}
use Rattle.std.specs.Ordering.{nat_cmp, match_ordering}
use Rattle.std.specs.Cmp.Lexicographic.{slice_cmp}
use Rattle.std.specs.Str.{bytes_eq}
use Rattle.std.proofs.lemmas.Bool.Decides.{nat_tests}
use Rattle.std.proofs.lemmas.Slice.Eq.{bytes_eq-Decides}
use Rattle.list_views.proofs.Orders.{nat_lt_from}
use Rattle.serde_json.specs.Data.{Data, null, boolean, number, string, array, object, Items, no_items, item, Members, no_members, member}
use Rattle.serde_json.specs.Events.{items_len}
use Rattle.serde_json.specs.Find.{get_item, get_member, at, as_object}
use Rattle.json_view.specs.Located.{Located}
use Rattle.json_view.specs.Names.{least, least_unlisted, first_missing, is_listed, member_names}
use Rattle.json_view.specs.Reading.{only_of, first_fault, field_of, has_field, items_of, item_of, item_count, at_item}
use Rattle.json_view.specs.Reading.{unknown_field, missing_field}
use Rattle.abs_cells.specs.AbstractStates.{AbstractState}
use Rattle.term_graph.specs.Graphs.{GraphPart}
use Rattle.list_views.proofs.Steps.{bind_ok}
use Rattle.cert_form.specs.declared.fault.CertFault.{CertFault}
use Rattle.cert_form.specs.Answers.{Reader, json, wrong_kind}
use Rattle.cert_form.specs.Fields.{◌>>=◌, only, field, entries_of, longer_than, nth, there_or}
use Rattle.cert_form.specs.States.{state_of}
use Rattle.cert_form.specs.Ways.{by_of, numbers_of}
use Rattle.cert_form.specs.Steps.{proof_of}
use Rattle.cert_form.specs.Certificates.{CertContent, whole_node, named_node, node_with, node_in, nodes_of, lacks_state}
use Rattle.cert_form.specs.Certificates.{maybe_state, of_node, form_of, cert_of}
use Rattle.cert_form.proofs.Binds.{field_ok, at_most_ok, items_counted}
use Rattle.cert_form.proofs.Keeping.{IsRead, entry_read, entries_count}

-- ---- whether a node has a state

least_none : (xs : List (List ℕ)) → least xs ≡ None → xs ≡ []
least_none [] e = refl
least_none (x ∷ xs) e = let no : ⊥ = cc in absurd no

abbrev state_name : List ℕ
state_name = codes "state"

abbrev by_name : List ℕ
by_name = codes "by"

-- an object with a name that isn't listed has a least one
unlisted_absent : (members : Members) → filter (λ name. not (is_listed by_name name)) (member_names members) ≡ []
    → get_member state_name members ≡ None
unlisted_absent no_members e = refl
unlisted_absent (member name value rest) e = go (bytes_eq by_name name) refl e (λ r. unlisted_absent rest r)
  where
    go : (b : Bool) → bytes_eq by_name name ≡ b
        → cond (not (b || false)) (name ∷ filter (λ name. not (is_listed by_name name)) (member_names rest))
        (filter (λ name. not (is_listed by_name name)) (member_names rest)) ≡ []
        → (filter (λ name. not (is_listed by_name name)) (member_names rest) ≡ [] → get_member state_name rest ≡ None)
        → get_member state_name (member name value rest) ≡ None
    go true t e absent =
        let same : by_name ≡ name = (bytes_eq-Decides by_name name).0 t in
        subst (λ (n : List ℕ). match_ordering (slice_cmp nat_cmp state_name n) (get_member state_name rest) (Some value)
        (get_member state_name rest) ≡ None) same (absent e)
    go false t e absent = let no : ⊥ = cc in absurd no

lacking_members : (here : Located) (members : Members) (u : Unit {0})
    → json (first_fault (option_map (unknown_field here.place) (least_unlisted by_name members))
    (option_map (missing_field here.place) (first_missing by_name members))) ≡ Ok u → get_member state_name members ≡ None
unfolding least_unlisted
lacking_members here members u e = go (least (filter (λ name. not (is_listed by_name name)) (member_names members))) refl e
  where
    go : (found : Option (List ℕ)) → least (filter (λ name. not (is_listed by_name name)) (member_names members)) ≡ found
        → json (first_fault (option_map (unknown_field here.place) found)
        (option_map (missing_field here.place) (first_missing by_name members))) ≡ Ok u → get_member state_name members ≡ None
    go None t e = unlisted_absent members (least_none _ t)
    go (Some name) t e = let no : ⊥ = cc in absurd no

-- a node without a state has no such field
pub lacking_has_none : (here : Located) (u : Unit {0}) → only by_name here ≡ Ok u → has_field state_name here ≡ false
unfolding only only_of
lacking_has_none here u e = go here.value refl
  where
    go : (value : Data) → here.value ≡ value → has_field state_name here ≡ false
    go null t = let no : ⊥ = cc in absurd no
    go (boolean b) t = let no : ⊥ = cc in absurd no
    go (number n) t = let no : ⊥ = cc in absurd no
    go (string s) t = let no : ⊥ = cc in absurd no
    go (array items) t = let no : ⊥ = cc in absurd no
    go (object members) t =
        let absent = lacking_members here members u
        (subst (λ (v : Data). only by_name (record { value = v; place = here.place }) ≡ Ok u) t e) in
        rw (t, absent) refl

-- an object whose field is read has it
pub read_has : {A : Type 0} (name : List ℕ) (reader : Reader A) (here : Located) (x : A) → field name reader here ≡ Ok x
    → has_field name here ≡ true
unfolding field field_of
read_has name reader here x e = go here.value refl
  where
    found : (ms : Members) (r : Option Data) → get_member name ms ≡ r → here.value ≡ object ms → has_field name here ≡ true
    found ms (Some value) g t = rw (t, g) refl
    found ms None g t = let no : ⊥ = cc in absurd no

    go : (value : Data) → here.value ≡ value → has_field name here ≡ true
    go null t = let no : ⊥ = cc in absurd no
    go (boolean b) t = let no : ⊥ = cc in absurd no
    go (number n) t = let no : ⊥ = cc in absurd no
    go (string s) t = let no : ⊥ = cc in absurd no
    go (array items) t = let no : ⊥ = cc in absurd no
    go (object members) t = found members (get_member name members) refl t

-- ---- a node by its fields

-- a node by its fields
pub record IsPart (names : List (List ℕ)) (there : Located) (part : GraphPart) : Type 0 where
  pub by : field (codes "by") by_of there ≡ Ok part.by
  pub state : maybe_state names there ≡ Ok part.state

named_part : (names : List (List ℕ)) (there : Located) (part : GraphPart) → named_node there ≡ Ok part → IsPart names there part
unfolding named_node maybe_state
named_part names there part e =
    let l = bind_ok (only (codes "by") there)
    (λ listed. field (codes "by") by_of there >>= λ by. Ok (record { state = None; by = by })) part e in
    let b = bind_ok (field (codes "by") by_of there) (λ by. Ok (record { state = None; by = by })) part l.2 in
    let same : record { state = None; by = b.0 } ≡ part = let s = b.2 in cc in
    subst (λ (p : GraphPart). IsPart names there p) same (record { by = b.1; state = rw (lacking_has_none there l.0 l.1) refl })

whole_part : (names : List (List ℕ)) (there : Located) (part : GraphPart) → whole_node names there ≡ Ok part → IsPart names there part
unfolding whole_node maybe_state
whole_part names there part e =
    let l = bind_ok (only (codes "by state") there)
    (λ listed. field (codes "by") by_of there >>= λ by. field (codes "state") (state_of names) there >>= λ state. Ok
    (record { state = Some state; by = by })) part e in
    let b = bind_ok (field (codes "by") by_of there)
    (λ by. field (codes "state") (state_of names) there >>= λ state. Ok (record { state = Some state; by = by })) part l.2 in
    let s = bind_ok (field (codes "state") (state_of names) there) (λ state. Ok (record { state = Some state; by = b.0 })) part b.2 in
    let same : record { state = Some s.0; by = b.0 } ≡ part = let t = s.2 in cc in
    subst (λ (p : GraphPart). IsPart names there p) same
    (record {
      by = b.1;
      state = ap
          (λ (b : Bool). cond b (field (codes "state") (state_of names) there >>= λ state. Ok (Some state)) (Ok None))
          (read_has (codes "state") (state_of names) there s.0 s.1)
          ∙ ap (λ (r : Result AbstractState CertFault). r >>= λ state. Ok (Some state)) s.1;
    })

part_with : (names : List (List ℕ)) (lacks : Bool) (there : Located) (part : GraphPart) → node_with names lacks there ≡ Ok part
    → IsPart names there part
part_with names true there part e = named_part names there part e
part_with names false there part e = whole_part names there part e

-- ---- a certificate's nodes

-- the nodes of a good certificate
pub record HasNodes (names : List (List ℕ)) (here : Located) (content : CertContent) : Type 0 where
  pub second : Bool
  pub there : Located
  pub stands : json (field_of (codes "nodes") here) ≡ Ok there
  pub count : ℕ
  pub counts : json (items_of there) ≡ Ok count
  pub few : nat_lt 20000 count ≡ false
  pub read : entries_of (node_in names second) there ≡ Ok content.parts

nodes_by : (names : List (List ℕ)) (second : Bool) (here : Located) (parts : List GraphPart)
    → field (codes "nodes") (nodes_of names second) here ≡ Ok parts → (content : CertContent) → content.parts ≡ parts
    → HasNodes names here content
unfolding nodes_of
nodes_by names second here parts e content same =
    let f = field_ok (codes "nodes") (nodes_of names second) here parts e in
    let m = at_most_ok 20000 (entries_of (node_in names second)) f.0 parts f.1.1 in
    record {
      second = second;
      there = f.0;
      stands = f.1.0;
      count = m.0;
      counts = m.1.0;
      few = m.1.1.0;
      read = m.1.1.1
          ∙ ap (λ (ps : List GraphPart). Ok ps) (sym same);
    }

-- what the fields of a good certificate say
pub record IsCert (names : List (List ℕ)) (here : Located) (content : CertContent) : Type 0 where
  pub nodes : HasNodes names here content
  pub cuts : field (codes "cuts") numbers_of here ≡ Ok content.cuts
  pub proof : field (codes "proof") proof_of here ≡ Ok content.proof

pub cert_is : (names : List (List ℕ)) (here : Located) (content : CertContent) → cert_of names here ≡ Ok content
    → IsCert names here content
unfolding cert_of
cert_is names here content e =
    let l = bind_ok (only (codes "cuts form nodes proof") here)
    (λ listed. field (codes "form") form_of here >>= λ second. field (codes "cuts") numbers_of here >>= λ cuts. field
    (codes "nodes") (nodes_of names second) here >>= λ parts. field (codes "proof") proof_of here >>= λ proof. Ok
    (record { cuts = cuts; parts = parts; proof = proof })) content e in
    let f = bind_ok (field (codes "form") form_of here)
    (λ second. field (codes "cuts") numbers_of here >>= λ cuts. field (codes "nodes") (nodes_of names second) here >>= λ parts.
    field (codes "proof") proof_of here >>= λ proof. Ok (record { cuts = cuts; parts = parts; proof = proof })) content l.2 in
    let c = bind_ok (field (codes "cuts") numbers_of here)
    (λ cuts. field (codes "nodes") (nodes_of names f.0) here >>= λ parts. field (codes "proof") proof_of here >>= λ proof. Ok
    (record { cuts = cuts; parts = parts; proof = proof })) content f.2 in
    let n = bind_ok (field (codes "nodes") (nodes_of names f.0) here)
    (λ parts. field (codes "proof") proof_of here >>= λ proof. Ok (record { cuts = c.0; parts = parts; proof = proof })) content c.2 in
    let p = bind_ok (field (codes "proof") proof_of here) (λ proof. Ok (record { cuts = c.0; parts = n.0; proof = proof })) content n.2 in
    let same : record { cuts = c.0; parts = n.0; proof = p.0 } ≡ content = let s = p.2 in cc in
    subst (λ (x : CertContent). IsCert names here x) same
    (record {
      nodes = nodes_by names f.0 here n.0 n.1 (record { cuts = c.0; parts = n.0; proof = p.0 }) refl;
      cuts = c.1;
      proof
          = p.1;
    })

item_there : (n : ℕ) (items : Items) → n < items_len items → (value : Data) × (get_item n items ≡ Some value)
item_there n no_items l = absurd (omega arith)
item_there zero (item value rest) l = (value, refl)
item_there (suc n) (item value rest) l = item_there n rest (omega arith)

found_item : (n : ℕ) (here : Located) → n < item_count here.value → (there : Located) × (item_of n here ≡ Some there)
unfolding item_of
found_item n here l = go here.value refl l
  where
    go : (value : Data) → here.value ≡ value → n < item_count value → (there : Located)
        × (option_map (at_item here.place n) (at n here.value) ≡ Some there)
    go null t l = absurd (omega arith)
    go (boolean b) t l = absurd (omega arith)
    go (number m) t l = absurd (omega arith)
    go (string s) t l = absurd (omega arith)
    go (object ms) t l = absurd (omega arith)
    go (array items) t l = let v = item_there n items l in (at_item here.place n v.0, rw (t, v.1) refl)

-- a reader of the node of a number
pub node_read : {A : Type 0} (names : List (List ℕ)) (here : Located) (content : CertContent) (n : ℕ) (part : GraphPart)
    (reader : Reader A) (x : A) → cert_of names here ≡ Ok content → slice_get content.parts n ≡ Some part → n < length content.parts
    → ((there : Located) → IsPart names there part → reader there ≡ Ok x) → of_node n reader here ≡ Ok x
unfolding of_node field longer_than nth node_in
node_read {A = A} names here content n part reader x e g l says =
    let nodes = (cert_is names here content e).nodes in
    let counted : length content.parts ≡ item_count nodes.there.value = entries_count (node_in names nodes.second) nodes.there
    content.parts nodes.read in
    let node = found_item n nodes.there (subst (λ (m : ℕ). n < m) counted l) in
    let read : IsRead (node_in names nodes.second) node.0 content.parts n = entry_read (node_in names nodes.second) nodes.there
    node.0 content.parts n nodes.read node.1 in
    let same : read.entry ≡ part = let s = read.stands in cc in
    let is_part : IsPart names node.0 part = subst (λ (p : GraphPart). IsPart names node.0 p) same
    (part_with names (lacks_state nodes.second read.front) node.0 read.entry read.read) in
    let within : nat_lt n nodes.count ≡ true = nat_lt_from n nodes.count
    (subst (λ (m : ℕ). n < m) (counted ∙ sym (items_counted nodes.there nodes.count nodes.counts)) l) in
    ap (λ (r : Result Located CertFault). r >>= λ there. json (items_of there) >>= λ count. cond (nat_lt n count)
    (there_or there reader (item_of n there)) (wrong_kind there)) nodes.stands
    ∙ ap (λ (r : Result ℕ CertFault). r >>= λ count. cond (nat_lt n count) (there_or nodes.there reader (item_of n nodes.there))
    (wrong_kind nodes.there)) nodes.counts
    ∙ ap (λ (b : Bool). cond b (there_or nodes.there reader (item_of n nodes.there)) (wrong_kind nodes.there)) within
    ∙ ap (λ (found : Option Located). there_or nodes.there reader found) node.1
    ∙ says node.0 is_part
