-- Parts of which those without a state are named by earlier ones, as a certificate's text has them, can be filled; and the filled graph has as
-- many nodes.
use mathlib.Core.Logic.{∥∥₁_elim}
use Rattle.std.proofs.Common.{◌≡◌, ◌∙◌, ◌<◌, ◌≤◌, ◌==◌, ℕ, zero, suc, Bool, true, false, ◌||◌, List, [], ◌∷◌, length, take, Option}
use Rattle.std.proofs.Common.{Some, None, slice_get, refl, ap, arith}
use Rattle.std.proofs.Props.{props}
use Rattle.std.specs.List.{list_any}
use Rattle.std.proofs.lemmas.Bool.{false≢true, eqb-true}
use Rattle.std.proofs.lemmas.Option.{none-some}
use Rattle.abs_cells.specs.AbstractStates.{AbstractState}
use Rattle.class_program.specs.Programs.{Program}
use Rattle.frame_types.specs.Tables.{CodeTypes}
use Rattle.term_graph.specs.declared.nodes.By.{By}
use Rattle.term_graph.specs.declared.nodes.By.TheVariants.{Expand, Instance, End, Todo}
use Rattle.term_graph.specs.Graphs.{GraphNode, GraphPart}
use Rattle.filled_graphs.specs.Filling.{CanBeFilled}
use Rattle.filled_graphs.specs.lemmas.Lists.{image_at}
use Rattle.cert_form.specs.Certificates.{names_child, LackingAreNamed}
use Rattle.graph_fill.specs.ChildrenOfStates.{IsFilledGraph}

record IsPlaceOf {X : Type 0} (f : X → Bool) (xs : List X) : Type 0 where
  place : ℕ
  item : X
  is : slice_get xs place ≡ Some item
  passes : f item ≡ true

some_place : {X : Type 0} (f : X → Bool) (xs : List X) → list_any f xs ≡ true → IsPlaceOf f xs
some_place f [] h = absurd (false≢true h)
some_place {X} f (x ∷ xs) h = go (f x) refl h (λ g. some_place f xs g)
  where
    go : (b : Bool) → f x ≡ b → (b || list_any f xs) ≡ true → (list_any f xs ≡ true → IsPlaceOf f xs) → IsPlaceOf f (x ∷ xs)
    go true e g rest = record { place = 0; item = x; is = refl; passes = e }
    go false e g rest = let r = rest g in record { place = suc r.place; item = r.item; is = r.is; passes = r.passes }

taken_at : {X : Type 0} (n : ℕ) (xs : List X) (k : ℕ) (x : X) → slice_get (take n xs) k ≡ Some x → (slice_get xs k ≡ Some x) × (k < n)
taken_at zero xs k x e = absurd (none-some x e)
taken_at (suc n) [] k x e = absurd (none-some x e)
taken_at (suc n) (y ∷ xs) zero x e = (e, omega arith)
taken_at (suc n) (y ∷ xs) (suc k) x e = let r = taken_at n xs k x e in (r.0, omega (arith, r.1))

record IsNamedIn (by : By) (number : ℕ) : Type 0 where
  named : List ℕ
  place : ℕ
  is : by ≡ Expand named
  at : slice_get named place ≡ Some number

named_in : (by : By) (number : ℕ) → names_child number by ≡ true → IsNamedIn by number
named_in (Expand children) number h =
    let found = some_place (λ (child : ℕ). child == number) children h in
    record { named = children; place = found.place; is = refl; at = found.is ∙ ap Some (eqb-true found.item number found.passes) }
named_in (Instance target entries) number h = absurd (false≢true h)
named_in End number h = absurd (false≢true h)
named_in Todo number h = absurd (false≢true h)

pub can_be_filled : (parts : List GraphPart) → LackingAreNamed parts → CanBeFilled parts
can_be_filled parts lacking number part at none =
    let bare : slice_get parts number ≡ Some (record { state = None; by = part.by }) = at
    ∙ ap (λ (state : Option AbstractState). Some (let p : GraphPart = record { state = state; by = part.by } in p)) none in
    let found = some_place (λ (other : GraphPart). names_child number other.by) (take number parts) (lacking number part.by bare) in
    let before = taken_at number parts found.place found.item found.is in
    let named = named_in found.item.by number found.passes in
    record {
      namer = found.place;
      place = named.place;
      earlier = before.1;
      names = record {
        named = named.named;
        is = image_at (λ (q : GraphPart). q.by) parts found.place found.item before.0 ∙ ap Some named.is;
        at = named.at;
      };
    }

-- ---- the filled graph

few_prop : (m n : ℕ) → IsProp (m ≤ n)
few_prop m n = hlevel props

pub few_filled : (p : Program) (typing : ℕ → CodeTypes) (parts : List GraphPart) (nodes : List GraphNode) → length parts ≤ 20000
    → IsFilledGraph p typing parts nodes → length nodes ≤ 20000
few_filled p typing parts nodes few filled =
    ∥∥₁_elim filled (few_prop (length nodes) 20000) (λ f. let long = f.long in omega (arith, few, long))
