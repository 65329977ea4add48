-- Nodes, read one after another with marks of those that are named.
use Rattle.std.proofs.Common.{◌≡◌, ℕ, ◌+◌, ◌<◌, ◌&&◌, Bool, true, false, List, [], ◌∷◌, ◌++◌, length, replicate, length-append}
use Rattle.std.proofs.Common.{Result, Ok, Err, Option, Some, None, slice_get, refl, sym, ap, ◌∙◌, subst, arith}
use Rattle.std.specs.Option.{unwrap_or}
use Rattle.std.proofs.lemmas.List.{length-replicate}
use Rattle.json_view.specs.Located.{Located}
use Rattle.json_view.specs.Reading.{items_of, item_of, item_count}
use Rattle.term_graph.specs.Graphs.{GraphPart}
use Rattle.cert_form.specs.declared.fault.CertFault.{CertFault}
use Rattle.cert_form.specs.declared.fault.CertFault.TheVariants.{Json, Limit, Memory}
use Rattle.cert_form.specs.Answers.{Says, done}
use Rattle.cert_form.specs.Fields.{entries_of}
use Rattle.cert_form.specs.Marks.{marked_by}
use Rattle.cert_form.specs.Certificates.{node_in, node_with, is_named}
use Rattle.cert_form.proofs.Entries.{Goes, starts, goes_on, stops, is_read}
use Rattle.cert_form.proofs.Marking.{Marked, marked_none, marked_on, length_marked, has_is}

-- the nodes in front of number n were read, and the marks say which nodes they name
pub record AreRead (names : List (List ℕ)) (second : Bool) (here : Located) (n count : ℕ) (marks : List Bool) : Type 0 where
  pub front : List GraphPart
  pub goes : Goes (node_in names second) here n front
  pub number : length front ≡ n
  pub marked : Marked marks front
  pub room : length marks ≡ count

length_none : (count : ℕ) → length (replicate count false) ≡ count
length_none count = length-replicate count false

pub none_read : (names : List (List ℕ)) (second : Bool) (here : Located) (count : ℕ) (marks : List Bool) → items_of here ≡ Ok count
    → marks ≡ replicate count false → AreRead names second here 0 count marks
none_read names second here count marks e m =
    subst (λ (bs : List Bool). AreRead names second here 0 count bs) (sym m)
    (record {
      front = [];
      goes = starts (node_in names second) here count e;
      number = refl;
      marked = marked_none count;
      room =
          length_none count;
    })

-- how the next node is read
next_as : (names : List (List ℕ)) (second : Bool) (here there : Located) (n count : ℕ) (marks : List Bool)
    (read : AreRead names second here n count marks) → n < count → node_in names second read.front there ≡ node_with names
    (second && unwrap_or (slice_get marks n) false) there
unfolding node_in
next_as names second here there n count marks read l =
    let within : n < length marks = subst (λ (m : ℕ). n < m) (sym read.room) l in
    let named = has_is marks read.front n read.marked within in
    ap (λ (m : ℕ). node_with names (second && is_named m read.front) there) read.number
    ∙ ap (λ (b : Bool). node_with names (second && b) there) (sym named)

pub read_on : (names : List (List ℕ)) (second : Bool) (here there : Located) (n count : ℕ) (marks later : List Bool) (lacks : Bool)
    (part : GraphPart) → AreRead names second here n count marks → n < count → item_of n here ≡ Some there
    → lacks ≡ (second && unwrap_or (slice_get marks n) false) → node_with names lacks there ≡ Ok part
    → later ≡ marked_by marks part.by → AreRead names second here (n + 1) count later
read_on names second here there n count marks later lacks part read l e b said m =
    let way = next_as names second here there n count marks read l in
    let said_so : node_in names second read.front there ≡ Ok part = way ∙ ap (λ (t : Bool). node_with names t there) (sym b) ∙ said in
    subst (λ (bs : List Bool). AreRead names second here (n + 1) count bs) (sym m)
    (record {
      front = read.front ++ part ∷ [];
      goes = goes_on (node_in names second) here there n read.front read.front part read.goes e refl said_so;
      number = rw length-append (ap (λ (k : ℕ). k + 1) read.number);
      marked = marked_on marks read.front part read.marked;
      room = length_marked marks part.by ∙ read.room;
    })

done_fault : {A : Type 0} (fault : CertFault) (said : Result A CertFault) → Says {A = A} (Err fault) said → Says (Err fault) (done said)
done_fault Memory said s = tt
done_fault {A = A} (Json f) said s = ap (λ (r : Result A CertFault). done r) s
done_fault {A = A} (Limit p) said s = ap (λ (r : Result A CertFault). done r) s

pub read_stops : (names : List (List ℕ)) (second : Bool) (here there : Located) (n count : ℕ) (marks : List Bool) (lacks : Bool)
    (fault : CertFault) → AreRead names second here n count marks → n < count → item_of n here ≡ Some there
    → lacks ≡ (second && unwrap_or (slice_get marks n) false) → Says {A = GraphPart} (Err fault) (node_with names lacks there)
    → Says (Err fault) (done (entries_of (node_in names second) here))
read_stops names second here there n count marks lacks fault read l e b said =
    let way = next_as names second here there n count marks read l in
    let said_so : Says (Err fault) (node_in names second read.front there) = subst
    (λ (r : Result GraphPart CertFault). Says (Err fault) r) (sym (way ∙ ap (λ (t : Bool). node_with names t there) (sym b))) said in
    done_fault fault (entries_of (node_in names second) here)
    (stops (node_in names second) here there n read.front read.front fault read.goes e refl said_so)

pub all_read : (names : List (List ℕ)) (second : Bool) (here : Located) (count : ℕ) (marks : List Bool)
    → AreRead names second here count count marks → count ≡ item_count here.value → done (entries_of (node_in names second) here) ≡ Ok tt
all_read names second here count marks read e = ap (λ (r : Result (List GraphPart) CertFault). done r)
    (is_read (node_in names second) here count read.front read.goes e)
