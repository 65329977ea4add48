-- The texts of places, and how texts begin.
use Rattle.std.proofs.Common.{◌≡◌, ◌∙◌, ◌-◌, ◌≤◌, ◌<◌, ℕ, List, [], ◌∷◌, length, get_or, drop, reverse, Option, Some, None}
use Rattle.std.proofs.Common.{slice_get, refl, sym, ap, subst, arith}
use Rattle.std.specs.Option.{option_map_or}
use Rattle.std.proofs.lemmas.List.{length-reverse, get_or-reverse}
use Rattle.std.proofs.lemmas.Option.{slice_get_past}
use Rattle.class_read.specs.Content.{ClassContent}
use Rattle.class_world.specs.World.{World}
use Rattle.class_program.specs.Methods.{class_name}
use Rattle.class_program.specs.Programs.{Program}
use Rattle.abs_cells.specs.AbstractStates.{AbstractFrame}
use Rattle.term_graph.specs.Graphs.{GraphNode}
use Rattle.prove_call.specs.Lines.{frame_text, running_text, node_text}

-- ---- classes

pub no_class : (world : World) (class : ℕ) → length world ≤ class → [] ≡ class_name world class
no_class world class l = ap (λ (o : Option ClassContent). option_map_or (λ (c : ClassContent). c.name) o [])
    (sym (slice_get_past world class l))

pub at_class : (world : World) (class : ℕ) (found : ClassContent) → slice_get world class ≡ Some found
    → found.name ≡ class_name world class
at_class world class found e = ap (λ (o : Option ClassContent). option_map_or (λ (c : ClassContent). c.name) o []) (sym e)

-- ---- frames and nodes

pub no_frames : (p : Program) (frames seen : List AbstractFrame) → seen ≡ reverse frames → length seen ≡ 0 → [] ≡ running_text p frames
no_frames p [] seen e l = refl
no_frames p (frame ∷ below) seen e l = let long = length-reverse (frame ∷ below) in let count = ap
    (λ (fs : List AbstractFrame). length fs) e in absurd (omega (arith, long, count, l))

pub running : (p : Program) (frames seen : List AbstractFrame) (frame : AbstractFrame) (last : ℕ) → seen ≡ reverse frames
    → last ≡ length seen - 1 → 1 ≤ length seen → frame ≡ get_or seen last frame → frame_text p frame ≡ running_text p frames
running p [] seen frame last e at some is = let count = ap (λ (fs : List AbstractFrame). length fs) e in absurd
    (omega (arith, count, some))
running p (first ∷ below) seen frame last e at some is =
    let long = length-reverse (first ∷ below) in
    let count = ap (λ (fs : List AbstractFrame). length fs) e in
    let within : last < length (first ∷ below) = omega (arith, long, count, at, some) in
    let place : length (first ∷ below) - 1 - last ≡ 0 = omega (arith, long, count, at, some) in
    let same : frame ≡ first =
    is ∙ (ap (λ (fs : List AbstractFrame). get_or fs last frame) e
    ∙ (get_or-reverse (first ∷ below) last frame within ∙ ap (λ (n : ℕ). get_or (first ∷ below) n frame) place)) in
    ap (frame_text p) same

pub no_node : (p : Program) (nodes : List GraphNode) (n : ℕ) → length nodes ≤ n → [] ≡ node_text p nodes n
no_node p nodes n l = ap (λ (o : Option GraphNode). option_map_or (λ (node : GraphNode). running_text p node.state.frames) o [])
    (sym (slice_get_past nodes n l))

pub at_node : (p : Program) (nodes : List GraphNode) (n : ℕ) (node : GraphNode) → slice_get nodes n ≡ Some node
    → running_text p node.state.frames ≡ node_text p nodes n
at_node p nodes n node e = ap (λ (o : Option GraphNode). option_map_or (λ (node : GraphNode). running_text p node.state.frames) o
    []) (sym e)

-- ---- how texts begin
