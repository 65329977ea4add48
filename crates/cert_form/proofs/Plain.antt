-- Certificates as JSON values have no floats, and nest no deeper than `serde_json` reads.
use Rattle.std.proofs.Common.{◌≡◌, ℕ, suc, ℤ, pos, negsuc, ◌≤◌, ◌||◌, Bool, true, false, max, List, [], ◌∷◌, map, reverse, Option}
use Rattle.std.proofs.Common.{Some, None, refl, sym, subst, arith}
use Rattle.std.proofs.lemmas.Bool.{or_from}
use Rattle.serde_json.specs.Data.{Data, boolean, string, array, object, Items, no_items, item, Members, no_members, member, depth}
use Rattle.serde_json.specs.Data.{items_depth, members_depth}
use Rattle.serde_json.specs.View.{items_of}
use Rattle.serde_json.specs.Written.{has_float, items_have_float, members_have_float}
use Rattle.abs_cells.specs.AbstractStates.{AbstractFrame, AbstractState}
use Rattle.abs_cells.specs.declared.cells.Cell.{Cell}
use Rattle.abs_cells.specs.declared.cells.Cell.TheVariants as cells
use Rattle.term_graph.specs.Graphs.{GraphPart}
use Rattle.term_graph.specs.declared.nodes.By.{By}
use Rattle.term_graph.specs.declared.nodes.By.TheVariants.{Expand, Instance, End, Todo}
use Rattle.descent.specs.declared.proof.CutForm.{CutForm}
use Rattle.descent.specs.declared.proof.RankRule.{RankRule}
use Rattle.descent.specs.declared.proof.RankRule.TheVariants.{Weak, Strict}
use Rattle.descent.specs.declared.proof.ProofStep.{ProofStep}
use Rattle.descent.specs.declared.proof.ProofStep.TheVariants.{Empty, Split, Rank, Dead}
use Rattle.cert_form.specs.cert_write.Data as w

-- a value without floats that nests at most so deep
pub record IsPlain (most : ℕ) (data' : Data) : Type 0 where
  pub floats : has_float data' ≡ false
  pub nests : depth data' ≤ most

record ArePlain (most : ℕ) (items : Items) : Type 0 where
  floats : items_have_float items ≡ false
  nests : items_depth items ≤ most

both_most : (a b n : ℕ) → a ≤ n → b ≤ n → max a b ≤ n
both_most a b n l m = omega arith

none : (most : ℕ) → ArePlain most no_items
none most = record { floats = refl; nests = omega arith }

one_more : (most : ℕ) (first : Data) (rest : Items) → IsPlain most first → ArePlain most rest → ArePlain most (item first rest)
one_more most first rest p q = record {
  floats = or_from (has_float first) (items_have_float rest) p.floats q.floats;
  nests =
      both_most (depth first) (items_depth rest) most p.nests q.nests;
}

as_list : (most : ℕ) (items : Items) → ArePlain most items → IsPlain (suc most) (array items)
as_list most items p = let n = p.nests in record { floats = p.floats; nests = omega arith }

each : {A : Type 0} (most : ℕ) (f : A → Data) (xs : List A) → ((x : A) → IsPlain most (f x)) → ArePlain most (items_of (map f xs))
each most f [] p = none most
each most f (x ∷ xs) p = one_more most (f x) (items_of (map f xs)) (p x) (each most f xs p)

listed : {A : Type 0} (most : ℕ) (f : A → Data) (xs : List A) → ((x : A) → IsPlain most (f x)) → IsPlain (suc most) (w.list (map f xs))
listed most f xs p = as_list most (items_of (map f xs)) (each most f xs p)

pub deeper : (most more : ℕ) (data' : Data) → most ≤ more → IsPlain most data' → IsPlain more data'
deeper most more data' l p = let n = p.nests in record { floats = p.floats; nests = omega arith }

-- ---- leaves

a_text : (most : ℕ) (s : List ℕ) → IsPlain most (string s)
a_text most s = record { floats = refl; nests = omega arith }

a_natural : (most n : ℕ) → IsPlain most (w.natural n)
a_natural most n = record { floats = refl; nests = omega arith }

an_integer : (most : ℕ) (n : ℤ) → IsPlain most (w.integer n)
an_integer most (pos n) = record { floats = refl; nests = omega arith }
an_integer most (negsuc n) = record { floats = refl; nests = omega arith }

a_flag : (most : ℕ) (b : Bool) → IsPlain most (boolean b)
a_flag most b = record { floats = refl; nests = omega arith }

a_maybe : (most : ℕ) (n : Option ℕ) → IsPlain most (w.maybe n)
a_maybe most (Some n) = a_natural most n
a_maybe most None = an_integer most (negsuc 0)

naturals : (ns : List ℕ) → IsPlain 1 (w.naturals ns)
naturals ns = listed 0 w.natural ns (λ n. a_natural 0 n)

a_pair : (p : ℕ × ℕ) → IsPlain 1 (w.pair p)
a_pair p = as_list 0 _ (one_more 0 _ _ (a_natural 0 p.0) (one_more 0 _ _ (a_natural 0 p.1) (none 0)))

pairs : (ps : List (ℕ × ℕ)) → IsPlain 2 (w.pairs ps)
pairs ps = listed 1 w.pair ps a_pair

an_entry : (e : ℕ × ℤ) → IsPlain 1 (w.entry e)
an_entry e = as_list 0 _ (one_more 0 _ _ (a_natural 0 e.0) (one_more 0 _ _ (an_integer 0 e.1) (none 0)))

entries : (es : List (ℕ × ℤ)) → IsPlain 2 (w.entries es)
entries es = listed 1 w.entry es an_entry

-- ---- states

cell_items : (names : List (List ℕ)) (c : Cell) → ArePlain 1 (items_of (w.cell_items names c))
cell_items names (cells.Int bounds) = one_more 1 _ _ (a_text 1 _)
    (one_more 1 _ _ (an_integer 1 bounds.lo) (one_more 1 _ _ (an_integer 1 bounds.hi) (none 1)))
cell_items names cells.Null = one_more 1 _ _ (a_text 1 _) (none 1)
cell_items names (cells.Obj class ids) = one_more 1 _ _ (a_text 1 _)
    (one_more 1 _ _ (a_natural 1 class) (one_more 1 _ _ (naturals ids) (none 1)))
cell_items names (cells.Nums kind length) = one_more 1 _ _ (a_text 1 _)
    (one_more 1 _ _ (a_natural 1 _) (one_more 1 _ _ (a_natural 1 length) (none 1)))
cell_items names (cells.Refs element length shape) = one_more 1 _ _ (a_text 1 _)
    (one_more 1 _ _ (a_text 1 _) (one_more 1 _ _ (a_natural 1 length) (one_more 1 _ _ (a_text 1 _) (none 1))))
cell_items names (cells.Unk bound nullable shape) = one_more 1 _ _ (a_text 1 _)
    (one_more 1 _ _ (a_text 1 _) (one_more 1 _ _ (a_flag 1 nullable) (one_more 1 _ _ (a_text 1 _) (none 1))))

a_cell : (names : List (List ℕ)) (c : ℕ × Cell) → IsPlain 2 (w.cell names c)
a_cell names c = as_list 1 _ (one_more 1 _ _ (a_natural 1 c.0) (cell_items names c.1))

a_frame : (f : AbstractFrame) → IsPlain 2 (w.frame f)
a_frame f = as_list 1 _
    (one_more 1 _ _ (a_natural 1 f.method)
    (one_more 1 _ _ (a_natural 1 f.pc)
    (one_more 1 _ _ (listed 0 w.maybe f.locals (λ n. a_maybe 0 n)) (one_more 1 _ _ (naturals (reverse f.stack)) (none 1)))))

-- members of an object
record HasPlain (most : ℕ) (members : Members) : Type 0 where
  floats : members_have_float members ≡ false
  nests : members_depth members ≤ most

no_more : (most : ℕ) → HasPlain most no_members
no_more most = record { floats = refl; nests = omega arith }

and_more : (most : ℕ) (name : List ℕ) (first : Data) (rest : Members) → IsPlain most first → HasPlain most rest
    → HasPlain most (member name first rest)
and_more most name first rest p q = record {
  floats = or_from (has_float first) (members_have_float rest) p.floats q.floats;
  nests =
      both_most (depth first) (members_depth rest) most p.nests q.nests;
}

as_object : (most : ℕ) (ms : Members) → HasPlain most ms → IsPlain (suc most) (object ms)
as_object most ms p = let n = p.nests in record { floats = p.floats; nests = omega arith }

a_state : (names : List (List ℕ)) (s : AbstractState) → IsPlain 4 (w.state names s)
a_state names s =
    as_object 3 _
    (and_more 3 _ _ _ (listed 2 (w.cell names) s.cells (a_cell names))
    (and_more 3 _ _ _ (deeper 2 3 _ (omega arith) (pairs s.eq))
    (and_more 3 _ _ _ (listed 2 w.frame (reverse s.frames) a_frame)
    (and_more 3 _ _ _ (deeper 2 3 _ (omega arith) (pairs s.share))
    (and_more 3 _ _ _ (a_maybe 3 s.throwing) (no_more 3))))))

-- ---- nodes

a_way : (way : By) → IsPlain 3 (w.by way)
a_way (Expand children) = as_list 2 _
    (one_more 2 _ _ (a_text 2 _) (one_more 2 _ _ (deeper 1 2 _ (omega arith) (naturals children)) (none 2)))
a_way (Instance target map) = as_list 2 _
    (one_more 2 _ _ (a_text 2 _) (one_more 2 _ _ (a_natural 2 target) (one_more 2 _ _ (pairs map) (none 2))))
a_way End = as_list 2 _ (one_more 2 _ _ (a_text 2 _) (none 2))
a_way Todo = record { floats = refl; nests = omega arith }

state_member : (names : List (List ℕ)) (s : Option AbstractState) → HasPlain 4 (w.state_member names s)
state_member names (Some s) = and_more 4 _ _ _ (a_state names s) (no_more 4)
state_member names None = no_more 4

a_node : (names : List (List ℕ)) (part : GraphPart) → IsPlain 5 (w.node names part)
a_node names part = as_object 4 _ (and_more 4 _ _ _ (deeper 3 4 _ (omega arith) (a_way part.by)) (state_member names part.state))

pub some_nodes : (names : List (List ℕ)) (parts : List GraphPart) → IsPlain 6 (w.list (map (w.node names) parts))
some_nodes names parts = listed 5 (w.node names) parts (a_node names)

-- ---- proofs

a_form : (f : CutForm) → IsPlain 3 (w.form f)
a_form f = as_list 2 _
    (one_more 2 _ _ (a_natural 2 f.cut)
    (one_more 2 _ _ (an_integer 2 f.constant) (one_more 2 _ _ (entries f.ints) (one_more 2 _ _ (entries f.sizes) (none 2)))))

a_rule : (r : RankRule) → IsPlain 3 (w.rule r)
a_rule (Weak n fall) = as_list 2 _ (one_more 2 _ _ (a_natural 2 n) (one_more 2 _ _ (a_text 2 _) (one_more 2 _ _ (entries fall) (none 2))))
a_rule (Strict n fall bound) = as_list 2 _
    (one_more 2 _ _ (a_natural 2 n)
    (one_more 2 _ _ (a_text 2 _) (one_more 2 _ _ (entries fall) (one_more 2 _ _ (entries bound) (none 2)))))

a_step : (s : ProofStep) → IsPlain 5 (w.step s)
a_step Empty = as_list 4 _ (one_more 4 _ _ (a_text 4 _) (none 4))
a_step (Split parts steps) = as_list 4 _
    (one_more 4 _ _ (a_text 4 _) (one_more 4 _ _ (deeper 2 4 _ (omega arith) (listed 1 w.naturals parts naturals))
    (one_more 4 _ _ (deeper 1 4 _ (omega arith) (listed 0 w.maybe steps (λ n. a_maybe 0 n))) (none 4))))
a_step (Rank ranked rest) =
    as_list 4 _
    (one_more 4 _ _ (a_text 4 _)
    (one_more 4 _ _ (a_text 4 _)
    (one_more 4 _ _ (deeper 2 4 _ (omega arith) (entries ranked.weights))
    (one_more 4 _ _ (listed 3 w.form ranked.forms a_form)
    (one_more 4 _ _ (listed 3 w.rule ranked.rules a_rule)
    (one_more 4 _ _ (a_natural 4 rest) (none 4)))))))
a_step (Dead n multipliers rest) = as_list 4 _
    (one_more 4 _ _ (a_text 4 _)
    (one_more 4 _ _ (a_natural 4 n)
    (one_more 4 _ _ (deeper 2 4 _ (omega arith) (entries multipliers)) (one_more 4 _ _ (a_natural 4 rest) (none 4)))))

-- ---- the whole

pub whole : (second : Bool) (cuts : List ℕ) (nodes : Data) (proof : List ProofStep) → IsPlain 6 nodes
    → IsPlain 7 (w.certificate_of second cuts nodes proof)
whole second cuts nodes proof p =
    as_object 6 _
    (and_more 6 _ _ _ (deeper 1 6 _ (omega arith) (naturals cuts))
    (and_more 6 _ _ _ (a_natural 6 (w.form_number second))
    (and_more 6 _ _ _ p
    (and_more 6 _ _ _ (listed 5 w.step proof a_step) (no_more 6)))))

-- it is read again
pub shallow : (written due : Data) → written ≡ due → IsPlain 7 due → depth written ≤ 127
shallow written due e p = let n = p.nests in subst (λ (d : Data). depth d ≤ 127) (sym e) (omega arith)
