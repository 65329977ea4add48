-- The edges that are no steps, node by node.
use Rattle.std.proofs.Common.{◌≡◌, ◌∙◌, ◌⊎◌, inl, inr, ℕ, zero, suc, ◌+◌, ◌<◌, ◌≤◌, Bool, true, false, cond, List, [], ◌∷◌, ◌++◌, length}
use Rattle.std.proofs.Common.{take, drop, set, get_or, append_assoc, Option, Some}
use Rattle.std.proofs.Common.{slice_get, refl, sym, ap, subst, arith}
use Rattle.std.specs.Option.{option_map_or}
use Rattle.std.proofs.lemmas.Bool.{false≢true, cases_eq}
use Rattle.std.proofs.lemmas.List.{get_or-set_other, drop_more}
use Rattle.std.proofs.lemmas.Option.{none-some}
use Rattle.list_views.specs.Lists.{Has}
use Rattle.list_views.proofs.Orders.{one_more}
use Rattle.jvm_values.proofs.Options.{some_is}
use Rattle.number_graphs.specs.Graphs.{IsWay, Leads, IsOnCycle}
use Rattle.number_graphs.specs.Lists.{Edge}
use Rattle.term_graph.specs.declared.links.Link.{Link}
use Rattle.term_graph.specs.declared.nodes.By.{By}
use Rattle.term_graph.specs.Graphs.{GraphNode}
use Rattle.loop_check.specs.Loops.{is_step, idle_among, idle_row, links_at, idle_rows_from, idle_rows}
use Rattle.loop_check.proofs.Seeking.{IsLeft}

one_taken : (links : List (List Link)) (k n m : ℕ) (nodes : List GraphNode) (by : By) → m ≡ k + n → IsLeft nodes n by
    → idle_rows_from links k (take (suc n) nodes) ≡ idle_rows_from links k (take n nodes) ++ idle_row by (links_at links m) ∷ []
one_taken links k n m [] by s e = absurd (none-some by e)
one_taken links k zero m (x ∷ nodes) by s e =
    let same : k ≡ m = omega (arith, s) in
    ap (λ (b : By). idle_row b (links_at links k) ∷ []) (some_is e) ∙ ap (λ (i : ℕ). idle_row by (links_at links i) ∷ []) same
one_taken links k (suc n) m (x ∷ nodes) by s e = ap (λ (l : List (List ℕ)). idle_row x.by (links_at links k) ∷ l)
    (one_taken links (suc k) n m nodes by (omega (arith, s)) e)

pub one_listed : (nodes : List GraphNode) (links : List (List Link)) (n : ℕ) (by : By) (rows more : List (List ℕ)) (row : List ℕ)
    → rows ≡ idle_rows (take n nodes) links → IsLeft nodes n by → row ≡ idle_row by (links_at links n) → more ≡ rows ++ row ∷ []
    → more ≡ idle_rows (take (n + 1) nodes) links
one_listed nodes links n by rows more row so there is made =
    made
    ∙ (ap (λ (l : List (List ℕ)). l ++ row ∷ []) so
    ∙ (ap (λ (l : List ℕ). idle_rows (take n nodes) links ++ l ∷ []) is
    ∙ (sym (one_taken links 0 n n nodes by (omega arith) there) ∙ ap (λ (k : ℕ). idle_rows (take k nodes) links) (one_more n))))

all_taken : (nodes : List GraphNode) (n : ℕ) → length nodes ≤ n → take n nodes ≡ nodes
all_taken [] zero l = refl
all_taken [] (suc n) l = refl
all_taken (x ∷ nodes) zero l = absurd (omega (arith, l))
all_taken (x ∷ nodes) (suc n) l = ap (λ (g : List GraphNode). x ∷ g) (all_taken nodes n (omega (arith, l)))

pub all_listed : (nodes : List GraphNode) (links : List (List Link)) (n : ℕ) (rows : List (List ℕ))
    → rows ≡ idle_rows (take n nodes) links → length nodes ≤ n → rows ≡ idle_rows nodes links
all_listed nodes links n rows so l = so ∙ ap (λ (g : List GraphNode). idle_rows g links) (all_taken nodes n l)

-- ---- the children of one node, one after another

-- a child to which a step leads is passed over
pub passed_by : (links : List Link) (named idle all : List ℕ) (k : ℕ) → k < length named → is_step links k ≡ true
    → idle ++ idle_among links k (drop k named) ≡ all → idle ++ idle_among links (k + 1) (drop (k + 1) named) ≡ all
passed_by links named idle all k l e so =
    let rest : List ℕ = drop (k + 1) named in
    let next : idle_among links (suc k) rest ≡ idle_among links (k + 1) rest = ap (λ (i : ℕ). idle_among links i rest) (one_more k) in
    let over : idle_among links k (drop k named) ≡ idle_among links (suc k) rest =
    ap (idle_among links k) (drop_more named k 0 l)
    ∙ ap (λ (b : Bool). cond b (idle_among links (suc k) rest) (get_or named k 0 ∷ idle_among links (suc k) rest)) e in
    ap (λ (r : List ℕ). idle ++ r) (sym (over ∙ next)) ∙ so

-- another one is taken
pub kept_by : (links : List Link) (named idle more all : List ℕ) (k n : ℕ) → k < length named → n ≡ get_or named k 0
    → is_step links k ≡ false → more ≡ idle ++ n ∷ [] → idle ++ idle_among links k (drop k named) ≡ all
    → more ++ idle_among links (k + 1) (drop (k + 1) named) ≡ all
kept_by links named idle more all k n l is e made so =
    let rest : List ℕ = drop (k + 1) named in
    let next : idle_among links (suc k) rest ≡ idle_among links (k + 1) rest = ap (λ (i : ℕ). idle_among links i rest) (one_more k) in
    let taken : idle_among links k (drop k named) ≡ n ∷ idle_among links (k + 1) rest =
    ap (idle_among links k) (drop_more named k 0 l)
    ∙ (ap (λ (b : Bool). cond b (idle_among links (suc k) rest) (get_or named k 0 ∷ idle_among links (suc k) rest)) e
    ∙ (ap (λ (m : ℕ). m ∷ idle_among links (suc k) rest) (sym is) ∙ ap (λ (r : List ℕ). n ∷ r) next)) in
    ap (λ (m : List ℕ). m ++ idle_among links (k + 1) rest) made
    ∙ (append_assoc idle (n ∷ []) (idle_among links (k + 1) rest) ∙ (ap (λ (r : List ℕ). idle ++ r) (sym taken) ∙ so))

-- ---- edges

-- a node to which no step leads is listed
idle_has : (links : List Link) (k j m to : ℕ) (named : List ℕ) → m ≡ k + j → slice_get named j ≡ Some to → is_step links m ≡ false
    → Has (idle_among links k named) to
idle_has links k j m to [] s e f = absurd (none-some to e)
idle_has links k zero m to (x ∷ named) s e f =
    let same : m ≡ k = omega (arith, s) in
    let idle : is_step links k ≡ false = subst (λ (i : ℕ). is_step links i ≡ false) same f in
    subst (λ (b : Bool). Has (cond b (idle_among links (suc k) named) (x ∷ idle_among links (suc k) named)) to) (sym idle) (inl (some_is e))
idle_has links k (suc j) m to (x ∷ named) s e f = by (is_step links k) (idle_has links (suc k) j m to named (omega (arith, s)) e f)
  where
    by : (b : Bool) → Has (idle_among links (suc k) named) to
        → Has (cond b (idle_among links (suc k) named) (x ∷ idle_among links (suc k) named)) to
    by true h = h
    by false h = inr h

pub child_idle : (links : List Link) (n to : ℕ) (named : List ℕ) (link : Link) → slice_get links n ≡ Some link
    → slice_get named n ≡ Some to → link.step ≡ false → Has (idle_among links 0 named) to
child_idle links n to named link at e f = idle_has links 0 n n to named (omega arith) e
    (ap (λ (o : Option Link). option_map_or (λ (l : Link). l.step) o false) at ∙ f)

row_there : (links : List (List Link)) (k n m : ℕ) (nodes : List GraphNode) (node : GraphNode) → m ≡ k + n
    → slice_get nodes n ≡ Some node → slice_get (idle_rows_from links k nodes) n ≡ Some (idle_row node.by (links_at links m))
row_there links k n m [] node s e = absurd (none-some node e)
row_there links k zero m (x ∷ nodes) node s e =
    let same : k ≡ m = omega (arith, s) in
    ap (λ (y : GraphNode). Some (idle_row y.by (links_at links k))) (some_is e)
    ∙ ap (λ (i : ℕ). Some (idle_row node.by (links_at links i))) same
row_there links k (suc n) m (x ∷ nodes) node s e = row_there links (suc k) n m nodes node (omega (arith, s)) e

pub idle_edge : (nodes : List GraphNode) (links : List (List Link)) (n to : ℕ) (node : GraphNode) (own : List Link)
    → slice_get nodes n ≡ Some node → slice_get links n ≡ Some own → Has (idle_row node.by own) to → Edge (idle_rows nodes links) n to
idle_edge nodes links n to node own is are h =
    let same : links_at links n ≡ own = ap (λ (o : Option (List Link)). option_map_or (λ (l : List Link). l) o []) are in
    let here : Has (idle_row node.by (links_at links n)) to = subst (λ (l : List Link). Has (idle_row node.by l) to) (sym same) h in
    subst (λ (row : List ℕ). Has row to)
    (sym (ap (λ (o : Option (List ℕ)). option_map_or (λ (row : List ℕ). row) o [])
    (row_there links 0 n n nodes node (omega arith) is))) here

-- ---- ways of edges that are no steps, where none leads back

-- how many marks are not set
abbrev pub unset : List Bool → ℕ
unset [] = 0
unset (true ∷ marks) = unset marks
unset (false ∷ marks) = suc (unset marks)

pub one_less : (marks : List Bool) (b : ℕ) → b < length marks → get_or marks b false ≡ false → suc (unset (set marks b true)) ≡ unset marks
one_less [] b l e = absurd (omega (arith, l))
one_less (false ∷ marks) zero l e = refl
one_less (true ∷ marks) zero l e = absurd (false≢true (sym e))
one_less (false ∷ marks) (suc b) l e = ap suc (one_less marks b (omega (arith, l)) e)
one_less (true ∷ marks) (suc b) l e = one_less marks b (omega (arith, l)) e

-- each marked number is this one, or leads to it
abbrev pub AreBehind : List (List ℕ) → List Bool → ℕ → Type 0
AreBehind graph marks n = (b : ℕ) → get_or marks b false ≡ true → (b ≡ n) ⊎ Leads (Edge graph) b n

way_more : (graph : List (List ℕ)) (way : List ℕ) (a b c : ℕ) → IsWay (Edge graph) a way b → Edge graph b c
    → IsWay (Edge graph) a (way ++ b ∷ []) c
way_more graph [] a b c w e = (w, e)
way_more graph (next ∷ way) a b c w e = (w.0, way_more graph way next b c w.1 e)

leads_on : (graph : List (List ℕ)) (b n to : ℕ) → (b ≡ n) ⊎ Leads (Edge graph) b n → Edge graph n to → Leads (Edge graph) b to
leads_on graph b n to (inl same) e = ([], subst (λ (m : ℕ). Edge graph m to) (sym same) e)
leads_on graph b n to (inr way) e = (way.0 ++ n ∷ [], way_more graph way.0 b n to way.1 e)

-- the next number isn't marked
pub fresh : (graph : List (List ℕ)) (marks : List Bool) (n to : ℕ) → ((a : ℕ) → IsOnCycle (Edge graph) a → ⊥) → AreBehind graph marks n
    → Edge graph n to → get_or marks to false ≡ false
fresh graph marks n to acyclic behind e = go (get_or marks to false) refl
  where
    go : (b : Bool) → get_or marks to false ≡ b → b ≡ false
    go true is = absurd (acyclic to (leads_on graph to n to (behind to is) e))
    go false is = refl

pub one_behind : (graph : List (List ℕ)) (marks : List Bool) (n to : ℕ) → AreBehind graph marks n → Edge graph n to
    → AreBehind graph (set marks to true) to
one_behind graph marks n to behind e b is = elim (cases_eq b to) as (λ o. (b ≡ to) ⊎ Leads (Edge graph) b to) [
  | inl same ↦ inl same
  | inr other ↦ inr (leads_on graph b n to (behind b (sym (get_or-set_other marks to b true false other) ∙ is)) e)
]
