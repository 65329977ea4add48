-- A report in words.
use Rattle.std.specs.Prelude.{ℕ, Bool, if◌then◌else◌, List, [], ◌∷◌, ◌++◌, codes}
use Rattle.std.specs.List.{flat_map}
use Rattle.list_views.specs.FaultWords.{joined}
use Rattle.class_world.specs.World.{World}
use Rattle.class_program.specs.Methods.{class_name}
use Rattle.throw_report.specs.declared.ways.Report.{Report}

-- the line which says that runs can return, or nothing
abbrev pub returns_line : Bool → List ℕ
returns_line returns = if returns then codes "RETURNS\n" else []

-- the line which says that runs can throw an object of a class
abbrev pub throws_line : World → ℕ → List ℕ
throws_line world class = joined (codes "THROWS " ∷ class_name world class ∷ codes "\n" ∷ [])

-- a report in words: a line for returns, and one for each class of which runs can throw an object
abbrev pub report_text : World → Report → List ℕ
report_text world report = returns_line report.returns ++ flat_map (throws_line world) report.throws
