-- Nodes, written one after another with marks of those that are named.
use Rattle.std.proofs.Common.{◌≡◌, ℕ, zero, suc, ◌+◌, ◌<◌, ◌≤◌, ◌&&◌, Bool, false, List, [], ◌∷◌, ◌++◌, map, length, take, drop}
use Rattle.std.proofs.Common.{replicate, length-append, Option, Some, None, slice_get, refl, sym, ap, ◌∙◌, subst, arith}
use Rattle.std.specs.Option.{unwrap_or}
use Rattle.std.specs.Prelude.{option_map}
use Rattle.std.proofs.lemmas.List.{length-replicate, map-append}
use Rattle.std.proofs.lemmas.Option.{slice_get_past}
use Rattle.list_views.proofs.Orders.{one_more}
use Rattle.list_views.proofs.Items.{take_one_more, drop_past}
use Rattle.abs_cells.specs.AbstractStates.{AbstractState}
use Rattle.term_graph.specs.declared.nodes.By.{By}
use Rattle.serde_json.specs.Data.{Data}
use Rattle.serde_json.specs.View.{view}
use Rattle.serde_json.specs.declared.value.Value.{Value}
use Rattle.term_graph.specs.Graphs.{GraphNode, GraphPart, by_at, state_at}
use Rattle.cert_form.specs.Marks.{marked_by}
use Rattle.cert_form.specs.Certificates.{is_named, lacks_state}
use Rattle.cert_form.proofs.Marking.{Marked, marked_none, marked_on, length_marked, has_is}
use Rattle.cert_form.specs.cert_write.Data.{node, part_of, parts_from}

-- ---- lists

next_suc : {A : Type 0} (xs : List A) (n : ℕ) (x : A) → slice_get xs n ≡ Some x → drop n xs ≡ x ∷ drop (suc n) xs
next_suc [] n x e = let no : ⊥ = cc in absurd no
next_suc (y ∷ ys) zero x e = let same : y ≡ x = cc in ap (λ z. z ∷ ys) same
next_suc (y ∷ ys) (suc n) x e = next_suc ys n x e

pub next_of : {A : Type 0} (xs : List A) (n : ℕ) (x : A) → slice_get xs n ≡ Some x → drop n xs ≡ x ∷ drop (n + 1) xs
next_of xs n x e = next_suc xs n x e ∙ ap (λ (m : ℕ). x ∷ drop m xs) (one_more n)

pub all_of : {A : Type 0} (xs : List A) (n : ℕ) → slice_get xs n ≡ None → take n xs ≡ xs
all_of [] zero e = refl
all_of [] (suc n) e = refl
all_of (y ∷ ys) zero e = let no : ⊥ = cc in absurd no
all_of (y ∷ ys) (suc n) e = ap (λ zs. y ∷ zs) (all_of ys n e)

-- one more value of a list of them
pub map_next : {A B : Type 0} (f : A → B) (xs : List A) (n : ℕ) (x : A) (values : List B) (value : B) → slice_get xs n ≡ Some x
    → values ≡ map f (take n xs) → value ≡ f x → values ++ value ∷ [] ≡ map f (take (n + 1) xs)
map_next f xs n x values value g v e =
    ap (λ vs. vs ++ value ∷ []) v
    ∙ ap (λ y. map f (take n xs) ++ y ∷ []) e
    ∙ sym (ap (map f) (take_one_more xs n x g) ∙ map-append f (take n xs) (x ∷ []))

-- ---- nodes

-- the nodes in front of number n were written, and the marks say which nodes they name
pub record AreWritten (second : Bool) (names : List (List ℕ)) (graph : List GraphNode) (n count : ℕ) (marks : List Bool) (values :
    List Data) : Type 0 where
  pub front : List GraphPart
  pub rest : parts_from second front (drop n graph) ≡ parts_from second [] graph
  pub number : length front ≡ n
  pub marked : Marked marks front
  pub room : length marks ≡ count
  pub written : values ≡ map (node names) front

pub none_written : (second : Bool) (names : List (List ℕ)) (graph : List GraphNode) (count : ℕ) (marks : List Bool)
    → marks ≡ replicate count false → AreWritten second names graph 0 count marks []
none_written second names graph count marks m =
    subst (λ (bs : List Bool). AreWritten second names graph 0 count bs []) (sym m)
    (record { front = []; rest = refl; number = refl; marked = marked_none count; room = length-replicate count false; written = refl })

pub write_on : (second : Bool) (names : List (List ℕ)) (graph : List GraphNode) (n count : ℕ) (marks later : List Bool)
    (values : List Data)
    (lacks : Bool) (next : GraphNode) (value : Data) → AreWritten second names graph n count marks values → n < count
    → slice_get graph n ≡ Some next → lacks ≡ (second && unwrap_or (slice_get marks n) false) → value ≡ node names (part_of lacks next)
    → later ≡ marked_by marks next.by → AreWritten second names graph (n + 1) count later (values ++ value ∷ [])
write_on second names graph n count marks later values lacks next value all l g b v m =
    let within : n < length marks = subst (λ (k : ℕ). n < k) (sym all.room) l in
    let named : unwrap_or (slice_get marks n) false ≡ is_named (length all.front) all.front = has_is marks all.front n all.marked within
    ∙ ap (λ (k : ℕ). is_named k all.front) (sym all.number) in
    let named_so : lacks ≡ lacks_state second all.front = b ∙ ap (λ (t : Bool). second && t) named in
    subst (λ (bs : List Bool). AreWritten second names graph (n + 1) count bs (values ++ value ∷ [])) (sym m)
    (record {
      front = all.front ++ part_of lacks next ∷ [];
      rest = ap (λ (t : Bool). parts_from second (all.front ++ part_of t next ∷ []) (drop (n + 1) graph)) named_so
          ∙ ap (parts_from second all.front) (sym (next_of graph n next g)) ∙ all.rest;
      number = length-append all.front (part_of lacks next ∷ []) ∙ ap (λ (k : ℕ). k + 1) all.number;
      marked = marked_on marks all.front (part_of lacks next) all.marked;
      room = length_marked marks next.by ∙ all.room;
      written = ap (λ (vs : List Data). vs ++ value ∷ []) all.written ∙ ap (λ (y : Data). map (node names) all.front ++ y ∷ []) v
          ∙ sym (map-append (node names) all.front (part_of lacks next ∷ []));
    })

pub all_written : (second : Bool) (names : List (List ℕ)) (graph : List GraphNode) (n count : ℕ) (marks : List Bool)
    (values : List Data)
    → AreWritten second names graph n count marks values → length graph ≤ n → values ≡ map (node names) (parts_from second [] graph)
all_written second names graph n count marks values all l =
    all.written ∙ ap (map (node names)) (ap (parts_from second all.front) (sym (drop_past graph n l)) ∙ all.rest)

-- ---- values

-- one more value
pub value_next : {A : Type 0} (f : A → Data) (xs : List A) (n : ℕ) (x : A) (old new : List Value) (v : Value)
    → Some x ≡ slice_get xs n → map view old ≡ map f (take n xs) → view v ≡ f x → new ≡ old ++ v ∷ []
    → map view new ≡ map f (take (n + 1) xs)
value_next f xs n x old new v g all e m =
    ap (map view) m ∙ map-append view old (v ∷ []) ∙ map_next f xs n x (map view old) (view v) (sym g) all e

-- all are taken
pub values_taken : {A : Type 0} (f : A → Data) (xs : List A) (n : ℕ) (values : List Value) → length xs ≤ n
    → map view values ≡ map f (take n xs) → map view values ≡ map f xs
values_taken f xs n values l all = all ∙ ap (map f) (all_of xs n (slice_get_past xs n l))

-- a node by its way and its state
pub part_at : (parts : List GraphPart) (n : ℕ) (by : By) (state : Option AbstractState) → by_at parts n ≡ Some by
    → state_at parts n ≡ Some state → Some (record { state = state; by = by }) ≡ slice_get parts n
part_at parts n by state b s = go (slice_get parts n) refl b s
  where
    go : (found : Option GraphPart) → slice_get parts n ≡ found → option_map (λ part. part.by) found ≡ Some by
        → option_map (λ part. part.state) found ≡ Some state → Some (record { state = state; by = by }) ≡ slice_get parts n
    go (Some part) t b s =
        let same_by : part.by ≡ by = cc in
        let same_state : part.state ≡ state = cc in
        sym (t ∙ ap (λ (x : By). Some (record { state = part.state; by = x })) same_by
        ∙ ap (λ (x : Option AbstractState). Some (record { state = x; by = by })) same_state)
    go None t b s = let no : ⊥ = cc in absurd no
