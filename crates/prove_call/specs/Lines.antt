-- The texts of `prove`.
use Rattle.std.specs.Prelude.{ℕ, List, [], ◌∷◌, ◌++◌, codes, slice_get}
use Rattle.std.specs.Fmt.{decimal}
use Rattle.std.specs.List.{flat_map}
use Rattle.std.specs.Option.{option_map_or}
use Rattle.list_views.specs.FaultWords.{joined}
use Rattle.class_world.specs.Faults.{method_pieces}
use Rattle.class_world.specs.World.{World}
use Rattle.class_program.specs.declared.program.Method.{Method}
use Rattle.class_program.specs.Methods.{class_name}
use Rattle.class_program.specs.Programs.{Program}
use Rattle.abs_cells.specs.AbstractStates.{AbstractFrame}
use Rattle.term_graph.specs.Graphs.{GraphNode}
use Rattle.prove_core.specs.ChainProofsLeftRule.{LeftRule}
use Rattle.prove_core.specs.declared.found.Reason.{Reason}
use Rattle.prove_core.specs.declared.found.Reason.TheVariants.{Nodes, Ids, Paths, Bytes, Component}

-- ---- yes

-- the line of a yes: `YES` and a newline
abbrev pub yes_line : List ℕ
yes_line = codes "YES\n"

-- the output of a yes: its line, the certificate and a newline
abbrev pub yes_text : List ℕ → List ℕ
yes_text cert = joined (yes_line ∷ cert ∷ codes "\n" ∷ [])

-- ---- maybe

-- a method in words: `CLASS.NAMEDESC`
abbrev pub method_words : World → Method → List ℕ
method_words world m = joined (method_pieces (class_name world m.class) m.name m.desc [])

-- the place of a frame in words: `CLASS.NAMEDESC@PC`
abbrev pub frame_text : Program → AbstractFrame → List ℕ
frame_text p frame = option_map_or (λ (m : Method). joined (method_words p.world m ∷ codes "@" ∷ decimal frame.pc ∷ []))
    (slice_get p.methods frame.method) []

-- the place of the running frame, the first of some, in words
abbrev pub running_text : Program → List AbstractFrame → List ℕ
running_text p [] = []
running_text p (frame ∷ below) = frame_text p frame

-- the place of the running frame of a node's state, in words
abbrev pub node_text : Program → List GraphNode → ℕ → List ℕ
node_text p nodes n = option_map_or (λ (node : GraphNode). running_text p node.state.frames) (slice_get nodes n) []

-- the line of a rule that is left: `rule R FROM TO` and a newline, by its number and the places of the cuts at its
-- ends
abbrev pub rule_line : Program → List GraphNode → LeftRule → List ℕ
rule_line p nodes left = joined (codes "rule " ∷ decimal left.rule ∷ codes " " ∷ node_text p nodes left.from ∷ codes " " ∷ node_text
    p nodes left.to ∷ codes "\n" ∷ [])

-- the text of a maybe, by the reason for which no certificate is given
abbrev pub reason_text : {P : Type 0} → Program → Reason P → List ℕ
reason_text p (Nodes nodes) = codes "MAYBE nodes\n"
reason_text p (Ids nodes) = codes "MAYBE ids\n"
reason_text p (Paths nodes) = codes "MAYBE paths\n"
reason_text p (Bytes cert size) = codes "MAYBE bytes\n"
reason_text p (Component cert left) = codes "MAYBE component\n" ++ flat_map (rule_line p cert.graph) left
