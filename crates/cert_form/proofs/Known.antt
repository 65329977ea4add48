-- What is known of a certificate by what was kept of it.
use Rattle.std.proofs.Common.{◌≡◌, ℕ, ◌<◌, ◌≤◌, ◌==◌, nat_lt, Bool, true, false, cond, List, length, Result, Ok, Err, Option, Some}
use Rattle.std.proofs.Common.{None, option_map, slice_get, codes, refl, sym, ap, ◌∙◌, subst, arith}
use Rattle.std.proofs.lemmas.Bool.Decides.{nat_tests}
use Rattle.list_views.proofs.Items.{get_within}
use Rattle.serde_json.specs.Data.{Data}
use Rattle.json_view.specs.Answers.{Reads}
use Rattle.json_view.specs.Located.{Located, root_of}
use Rattle.json_view.specs.Reading.{items_of, item_count}
use Rattle.abs_cells.specs.AbstractStates.{AbstractState}
use Rattle.descent.specs.Conditions.{AreSteps}
use Rattle.term_graph.specs.Graphs.{GraphPart, by_at, state_at}
use Rattle.term_graph.specs.declared.nodes.By.{By}
use Rattle.cert_form.specs.declared.certs.Kept.{Kept}
use Rattle.cert_form.specs.declared.fault.CertFault.{CertFault}
use Rattle.cert_form.specs.declared.fault.CertFault.TheVariants.{Json, Limit, Memory}
use Rattle.cert_form.specs.Answers.{Reader, Says, json, past_limit, done, counted}
use Rattle.cert_form.specs.Fields.{◌>>=◌, field, entries_of, at_most}
use Rattle.cert_form.specs.Ways.{by_of}
use Rattle.cert_form.specs.Certificates.{CertContent, node_in, nodes_of, maybe_state, of_node, cert_of, kept, kept_of}
use Rattle.cert_form.specs.Certificates.{parts_or_none, LackingAreNamed, AnswersText}
use Rattle.cert_form.proofs.Clean.{faulty}
use Rattle.cert_form.proofs.Keeping.{entries_count}
use Rattle.cert_form.proofs.Lacking.{lacking_named, few_nodes, good_steps, kept_fault}
use Rattle.cert_form.proofs.Parts.{IsPart, node_read}

-- ---- what was kept of a good certificate

whole_of : (said : Result CertContent CertFault) (k : Kept) → kept said ≡ Ok k
    → said ≡ Ok (record { cuts = k.cuts; parts = parts_or_none said; proof = k.proof })
whole_of (Ok content) k e =
    let same : kept_of content ≡ k = cc in
    ap (λ (x : Kept). Ok (record { cuts = x.cuts; parts = content.parts; proof = x.proof })) same
whole_of (Err fault) k e = let no : ⊥ = cc in absurd no

good : (names : List (List ℕ)) (here root : Located) (k : Kept) → here ≡ root → kept (cert_of names here) ≡ Ok k
    → cert_of names root ≡ Ok (record { cuts = k.cuts; parts = parts_or_none (cert_of names root); proof = k.proof })
good names here root k same e = whole_of (cert_of names root) k (subst (λ (x : Located). kept (cert_of names x) ≡ Ok k) same e)

pub read_named : (names : List (List ℕ)) (here root : Located) (k : Kept) → here ≡ root → kept (cert_of names here) ≡ Ok k
    → LackingAreNamed (parts_or_none (cert_of names root))
read_named names here root k same e = lacking_named names root _ (good names here root k same e)

pub read_few : (names : List (List ℕ)) (here root : Located) (k : Kept) → here ≡ root → kept (cert_of names here) ≡ Ok k
    → length (parts_or_none (cert_of names root)) ≤ 20000
read_few names here root k same e = few_nodes names root _ (good names here root k same e)

pub read_steps : (names : List (List ℕ)) (here root : Located) (k : Kept) → here ≡ root → kept (cert_of names here) ≡ Ok k
    → AreSteps k.proof
read_steps names here root k same e = good_steps names root _ (good names here root k same e)

-- ---- the fault of a bad one

says_kept : (fault : CertFault) (said : Result CertContent CertFault) → Says {A = Kept} (Err fault) (kept said)
    → Says {A = CertContent} (Err fault) said
says_kept Memory said s = tt
says_kept (Json f) said s = kept_fault said (Json f) s
says_kept (Limit p) said s = kept_fault said (Limit p) s

pub refused : (names : List (List ℕ)) (bytes : List ℕ) (value : Data) (here : Located) (fault : CertFault) → here ≡ root_of value
    → Reads bytes value → Says {A = Kept} (Err fault) (kept (cert_of names here)) → AnswersText (cert_of names) bytes (Err fault)
refused names bytes value here fault same r s = faulty names bytes value fault r
    (says_kept fault (cert_of names (root_of value))
    (subst (λ (x : Located). Says {A = Kept} (Err fault) (kept (cert_of names x))) same s))

-- ---- nodes by number

ok_same : {A : Type 0} (r : Result A CertFault) (y z : A) → r ≡ Ok y → r ≡ Ok z → y ≡ z
ok_same (Ok x) y z e f = let a : x ≡ y = cc in let b : x ≡ z = cc in sym a ∙ b
ok_same (Err fault) y z e f = let no : ⊥ = cc in absurd no

known : {A : Type 0} (names : List (List ℕ)) (root here : Located) (content : CertContent) (n : ℕ) (reader : Reader A)
    (of : GraphPart → A) (x : A) → cert_of names root ≡ Ok content → here ≡ root → n < length content.parts
    → of_node n reader here ≡ Ok x → ((part : GraphPart) (there : Located) → IsPart names there part → reader there ≡ Ok (of part))
    → option_map of (slice_get content.parts n) ≡ Some x
known {A = A} names root here content n reader of x cert same l said says =
    let part = get_within content.parts n l in
    let read : of_node n reader root ≡ Ok (of part.0) = node_read names root content n part.0 reader (of part.0) cert part.1 l
    (says part.0) in
    let told : of_node n reader root ≡ Ok x = subst (λ (y : Located). of_node n reader y ≡ Ok x) same said in
    ap (λ (p : Option GraphPart). option_map of p) part.1 ∙ ap (λ y. Some y) (ok_same (of_node n reader root) (of part.0) x read told)

pub by_known : (names : List (List ℕ)) (root here : Located) (content self : CertContent) (n : ℕ) (by : By)
    → cert_of names root ≡ Ok content → here ≡ root → content ≡ self → n < length self.parts
    → of_node n (field (codes "by") by_of) here ≡ Ok by → by_at self.parts n ≡ Some by
by_known names root here content self n by cert place same l said =
    subst (λ (s : CertContent). by_at s.parts n ≡ Some by) same
    (known names root here content n (field (codes "by") by_of) (λ part. part.by) by cert place
    (subst (λ (s : CertContent). n < length s.parts) (sym same) l) said (λ part there is. is.by))

pub state_known : (names : List (List ℕ)) (root here : Located) (content self : CertContent) (n : ℕ) (state : Option AbstractState)
    → cert_of names root ≡ Ok content → here ≡ root → content ≡ self → n < length self.parts
    → of_node n (maybe_state names) here ≡ Ok state → state_at self.parts n ≡ Some state
state_known names root here content self n state cert place same l said =
    subst (λ (s : CertContent). state_at s.parts n ≡ Some state) same
    (known names root here content n (maybe_state names) (λ part. part.state) state cert place
    (subst (λ (s : CertContent). n < length s.parts) (sym same) l) said (λ part there is. is.state))

-- ---- how many nodes there are

done_ok : {A : Type 0} (said : Result A CertFault) (u : Unit {0}) → done said ≡ Ok u → (x : A) × (said ≡ Ok x)
done_ok (Ok x) u e = (x, refl)
done_ok (Err fault) u e = let no : ⊥ = cc in absurd no

not_over : (n m : ℕ) → n ≤ m → nat_lt m n ≡ false
not_over n m l = grind (arith, nat_tests)

pub counted_is : (names : List (List ℕ)) (second : Bool) (here : Located) (count : ℕ) (u : Unit {0})
    → json (items_of here) ≡ Ok count → count ≤ 20000 → count ≡ item_count here.value
    → done (entries_of (node_in names second) here) ≡ Ok u → counted (nodes_of names second here) ≡ Ok count
unfolding nodes_of at_most
counted_is names second here count u items few number read =
    let parts = done_ok (entries_of (node_in names second) here) u read in
    let length_is : length parts.0 ≡ count = entries_count (node_in names second) here parts.0 parts.1 ∙ sym number in
    ap (λ (r : Result ℕ _). counted (r >>= λ n. cond (nat_lt 20000 n) (past_limit here) (entries_of (node_in names second) here))) items
    ∙ ap (λ (b : Bool). counted (cond b (past_limit here) (entries_of (node_in names second) here))) (not_over count 20000 few)
    ∙ ap (λ (r : Result (List GraphPart) CertFault). counted r) parts.1
    ∙ ap (λ (n : ℕ). Ok n) length_is
