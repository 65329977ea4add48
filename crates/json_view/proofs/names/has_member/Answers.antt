use Rattle.std.proofs.Common.{◌≡◌, ◌∙◌, ap, refl, is_some, Option, Some, None, option_map}
use Rattle.serde_json.specs.View.{view}
use Rattle.serde_json.proofs.Views.{view-lookup}
use Rattle.json_view.proofs.names.has_member.Goals as goal

is_some-option_map : {A B : Type 0} (f : A → B) (o : Option A) → is_some o ≡ is_some (option_map f o)
is_some-option_map f None = refl
is_some-option_map f (Some x) = refl

pub returns : goal.returns
returns c = c.contains_key.ensures ∙ is_some-option_map view _ ∙ ap is_some (view-lookup c.args.name.now c.args.members.now.entries)
