use Rattle.std.proofs.Common.{inl, inr}
use Rattle.std.proofs.lemmas.Bool.Decides.{Decides-eqb}
use Rattle.std.proofs.lemmas.Slice.Eq.{slice_eq-Decides}
use Rattle.class_calls.proofs.describe.methods.is_named.Goals as goal

pub returns-then-eq : goal.returns-then-eq
returns-then-eq c = λ h. inl ((slice_eq-Decides Decides-eqb _ _ _ c.eq.ensures).0 h)

pub returns-else-eq : goal.returns-else-eq
returns-else-eq c = λ h. inr (c.has_whole_name.ensures h)
