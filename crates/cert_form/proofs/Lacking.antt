-- Nodes without a state are named by one in front of them, and there are at most 20,000 nodes.
use Rattle.std.proofs.Common.{◌≡◌, ℕ, zero, suc, ◌<◌, ◌≤◌, ◌&&◌, ◌⊎◌, inl, inr, nat_lt, Bool, true, false, List, [], ◌∷◌, ◌++◌}
use Rattle.std.proofs.Common.{length, take, Result, Ok, Err, Option, Some, None, slice_get, codes, refl, sym, ap, ◌∙◌, subst, arith}
use Rattle.std.proofs.lemmas.Bool.Decides.{nat_tests}
use Rattle.std.proofs.lemmas.Bool.{and_parts}
use Rattle.list_views.proofs.Orders.{nat_lt_false}
use Rattle.list_views.proofs.Items.{take_length}
use Rattle.json_view.specs.Located.{Located}
use Rattle.abs_cells.specs.AbstractStates.{AbstractState}
use Rattle.descent.specs.Conditions.{AreSteps}
use Rattle.descent.specs.declared.proof.ProofStep.{ProofStep}
use Rattle.term_graph.specs.Graphs.{GraphPart}
use Rattle.list_views.proofs.Steps.{bind_ok}
use Rattle.cert_form.specs.declared.certs.Kept.{Kept}
use Rattle.cert_form.specs.declared.fault.CertFault.{CertFault}
use Rattle.cert_form.specs.Fields.{◌>>=◌, only, field}
use Rattle.cert_form.specs.States.{state_of}
use Rattle.cert_form.specs.Ways.{by_of}
use Rattle.cert_form.specs.Certificates.{CertContent, is_named, whole_node, node_with, node_in, lacks_state, cert_of, kept, kept_of}
use Rattle.cert_form.specs.Certificates.{parts_or_none, LackingAreNamed}
use Rattle.cert_form.proofs.Binds.{items_counted}
use Rattle.cert_form.proofs.GoodSteps.{field_steps_ok}
use Rattle.cert_form.proofs.Keeping.{entries_keep, entries_count}
use Rattle.cert_form.proofs.Parts.{cert_is}

-- ---- lists with one more entry

last_or_front : {A : Type 0} (front : List A) (x : A) (n : ℕ) (y : A) → slice_get (front ++ x ∷ []) n ≡ Some y
    → ((slice_get front n ≡ Some y) × (n < length front)) ⊎ ((n ≡ length front) × (x ≡ y))
last_or_front [] x zero y e = let same : x ≡ y = cc in inr (refl, same)
last_or_front [] x (suc n) y e = let no : ⊥ = cc in absurd no
last_or_front (z ∷ front) x zero y e = inl (e, omega arith)
last_or_front {A = A} (z ∷ front) x (suc n) y e = go (last_or_front front x n y e)
  where
    go : (((slice_get front n ≡ Some y) × (n < length front)) ⊎ ((n ≡ length front) × (x ≡ y)))
        → ((slice_get (z ∷ front) (suc n) ≡ Some y) × (suc n < length (z ∷ front))) ⊎ ((suc n ≡ length (z ∷ front)) × (x ≡ y))
    go (inl found) = let l = found.1 in inl (found.0, omega arith)
    go (inr last) = inr (ap (λ m. suc m) last.0, last.1)

front_taken : {A : Type 0} (front rest : List A) (n : ℕ) → n ≤ length front → take n (front ++ rest) ≡ take n front
front_taken [] rest zero l = refl
front_taken [] rest (suc n) l = absurd (omega arith)
front_taken (z ∷ front) rest zero l = refl
front_taken (z ∷ front) rest (suc n) l = let m : n ≤ length front = omega arith in ap (λ xs. z ∷ xs) (front_taken front rest n m)

-- ---- nodes without a state

whole_has : (names : List (List ℕ)) (there : Located) (part : GraphPart) → whole_node names there ≡ Ok part → part.state ≡ None → ⊥
unfolding whole_node
whole_has names there part e none =
    let l = bind_ok (only (codes "by state") there)
    (λ listed. field (codes "by") by_of there >>= λ by. field (codes "state") (state_of names) there >>= λ state. Ok
    (record { state = Some state; by = by })) part e in
    let b = bind_ok (field (codes "by") by_of there)
    (λ by. field (codes "state") (state_of names) there >>= λ state. Ok (record { state = Some state; by = by })) part l.2 in
    let s = bind_ok (field (codes "state") (state_of names) there) (λ state. Ok (record { state = Some state; by = b.0 })) part b.2 in
    let same : record { state = Some s.0; by = b.0 } ≡ part = let t = s.2 in cc in
    some_is_none s.0 (ap (λ (p : GraphPart). p.state) same ∙ none)
  where
    some_is_none : (state : AbstractState) → Some state ≡ None → ⊥
    some_is_none state e = cc

lacks : (names : List (List ℕ)) (b : Bool) (there : Located) (part : GraphPart) → node_with names b there ≡ Ok part
    → part.state ≡ None → b ≡ true
lacks names true there part e none = refl
lacks names false there part e none = absurd (whole_has names there part e none)

named_step : (names : List (List ℕ)) (second : Bool) (front : List GraphPart) (there : Located) (part : GraphPart)
    → LackingAreNamed front → node_in names second front there ≡ Ok part → LackingAreNamed (front ++ part ∷ [])
unfolding node_in
named_step names second front there part k e n by g = go (last_or_front front part n (record { state = None; by = by }) g)
  where
    go : (((slice_get front n ≡ Some (record { state = None; by = by })) × (n < length front))
        ⊎ ((n ≡ length front) × (part ≡ record { state = None; by = by }))) → is_named n (take n (front ++ part ∷ [])) ≡ true
    go (inl found) = let l : n ≤ length front = let m = found.1 in omega arith in ap (λ (ps : List GraphPart). is_named n ps)
        (front_taken front (part ∷ []) n l) ∙ k n by found.0
    go (inr last) =
        let named = (and_parts second (is_named (length front) front)
        (lacks names (lacks_state second front) there part e (ap (λ (p : GraphPart). p.state) last.1))).1 in
        subst (λ (m : ℕ). is_named m (take m (front ++ part ∷ [])) ≡ true) (sym last.0)
        (ap (λ (ps : List GraphPart). is_named (length front) ps) (front_taken front (part ∷ []) (length front) (omega arith)
        ∙ take_length front) ∙ named)

no_parts : LackingAreNamed []
no_parts n by g = let no : ⊥ = cc in absurd no

-- ---- what a good certificate keeps

pub lacking_named : (names : List (List ℕ)) (here : Located) (content : CertContent) → cert_of names here ≡ Ok content
    → LackingAreNamed content.parts
lacking_named names here content e =
    let nodes = (cert_is names here content e).nodes in
    entries_keep (λ (ps : List GraphPart). LackingAreNamed ps) (node_in names nodes.second) nodes.there content.parts no_parts
    (λ f there x k r. named_step names nodes.second f there x k r) nodes.read

pub few_nodes : (names : List (List ℕ)) (here : Located) (content : CertContent) → cert_of names here ≡ Ok content
    → length content.parts ≤ 20000
few_nodes names here content e =
    let nodes = (cert_is names here content e).nodes in
    let count = entries_count (node_in names nodes.second) nodes.there content.parts nodes.read
    ∙ sym (items_counted nodes.there nodes.count nodes.counts) in
    subst (λ (n : ℕ). n ≤ 20000) (sym count) (nat_lt_false 20000 nodes.count nodes.few)

pub good_steps : (names : List (List ℕ)) (here : Located) (content : CertContent) → cert_of names here ≡ Ok content
    → AreSteps content.proof
good_steps names here content e = field_steps_ok here content.proof (cert_is names here content e).proof

-- ---- what is kept

-- what is kept beside the nodes, with these, is the whole
pub whole_is : (said : Result CertContent CertFault) (cuts : List ℕ) (count : ℕ) (proof : List ProofStep)
    → kept said ≡ Ok (record { cuts = cuts; count = count; proof = proof })
    → (said ≡ Ok (record { cuts = cuts; parts = parts_or_none said; proof = proof })) × (count ≡ length (parts_or_none said))
whole_is (Ok content) cuts count proof e =
    let same : kept_of content ≡ record { cuts = cuts; count = count; proof = proof } = cc in
    let c : content.cuts ≡ cuts = ap (λ (k : Kept). k.cuts) same in
    let n : length content.parts ≡ count = ap (λ (k : Kept). k.count) same in
    let p : content.proof ≡ proof = ap (λ (k : Kept). k.proof) same in (
      ap (λ (cs : List ℕ). Ok (record { cuts = cs; parts = content.parts; proof = content.proof })) c
          ∙ ap (λ (ps : List ProofStep). Ok (record { cuts = cuts; parts = content.parts; proof = ps })) p,
      sym n,
    )
whole_is (Err fault) cuts count proof e = let no : ⊥ = cc in absurd no

pub kept_fault : (said : Result CertContent CertFault) (fault : CertFault) → kept said ≡ Err fault → said ≡ Err fault
kept_fault (Ok content) fault e = let no : ⊥ = cc in absurd no
kept_fault (Err other) fault e = let same : other ≡ fault = cc in ap (λ f. Err f) same
