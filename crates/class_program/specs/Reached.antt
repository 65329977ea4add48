-- The methods that an entry reaches, and the program that they make. The list of methods is this project's own; what an
-- instruction names is resolved as the JVM specification says (section 5.4).
--
-- Each method reaches those that its instructions can run: all of its instructions count, at places too that no run
-- comes to. A method that breaks a rule reaches nothing, so of the methods that break one the first is the same
-- whatever the ones behind it would reach.
use Rattle.std.specs.Prelude.{ℕ, zero, suc, ◌==◌, ◌&&◌, Bool, if◌then◌else◌, List, [], ◌∷◌, ◌++◌, length, map, position, Ok, Err}
use Rattle.std.specs.List.{list_any, list_all, flat_map, filter_map}
use Rattle.std.specs.Option.{option_map, option_map_or}
use Rattle.class_world.specs.class_read.Content.{MethodContent}
use Rattle.class_program.specs.declared.op.Call.{Call}
use Rattle.class_program.specs.declared.op.Op.{Op}
use Rattle.class_program.specs.declared.op.Op.TheVariants.{Getstatic, Putstatic, Invokespecial, Invokestatic}
use Rattle.class_program.specs.declared.program.Method.{Method}
use Rattle.class_program.specs.declared.program.StaticField.{StaticField}
use Rattle.class_world.specs.declared.world.MethodRef.{MethodRef}
use Rattle.class_world.specs.World.{World}
use Rattle.class_program.specs.Said.{Said, ◌>>=◌, each}
use Rattle.class_world.specs.Resolve.{method_at}
use Rattle.class_program.specs.Runs.{runs}
use Rattle.class_program.specs.Methods.{method_of}
use Rattle.class_program.specs.Statics.{statics_named, placed_use}

-- ---- lists of methods

-- two references stand for one method: they have one class and one place in its file
abbrev pub same_method : MethodRef → MethodRef → Bool
same_method a b = (a.class == b.class) && (a.index == b.index)

-- a method is one of a list
abbrev pub has_method : List MethodRef → MethodRef → Bool
has_method refs ref = list_any (same_method ref) refs

-- a list with a method put behind it, unless it stands there
abbrev pub with_one : List MethodRef → MethodRef → List MethodRef
with_one refs ref = if has_method refs ref then refs else refs ++ ref ∷ []

-- a list with those methods put behind it, in order and each once, that do not stand in it
abbrev pub with_new : List MethodRef → List MethodRef → List MethodRef
with_new refs [] = refs
with_new refs (more ∷ mores) = with_new (with_one refs more) mores

-- ---- what a method reaches

-- the methods that the instructions of a method can run, in the order of the instructions
unfoldable pub runs_in : World → Method → List MethodRef
runs_in world m = flat_map (λ x. runs world x.1) m.insns

-- the methods that a method can run, once its names are resolved; one that breaks a rule runs none
abbrev pub runs_said : World → Said Method → List MethodRef
runs_said world (Ok m) = runs_in world m
runs_said world (Err fault) = []

-- the methods that the method of a reference can run; one that breaks a rule, and one that isn't there, runs none
unfoldable pub runs_from : World → MethodRef → List MethodRef
runs_from world ref = option_map_or (λ m. runs_said world (method_of world ref m)) (method_at world ref) []

-- ---- the reached methods

-- the methods that at most so many calls, one inside the other, lead to: the entry, and then what these methods run,
-- one after the other, each where it comes first
unfoldable pub reached_within : World → MethodRef → ℕ → List MethodRef
reached_within world entry zero = entry ∷ []
reached_within world entry (suc calls) = with_new (entry ∷ []) (flat_map (runs_from world) (reached_within world entry calls))

-- how many methods the classes of a world declare
abbrev pub method_count : World → ℕ
method_count world = length (flat_map (λ c. c.methods) world)

-- The reached methods. No more calls than the world has methods, one inside the other, are needed to come to a method.
unfoldable pub reached : World → MethodRef → List MethodRef
reached world entry = reached_within world entry (method_count world)

-- ---- the program

-- the methods of a list with what declares them; what is no method of the world is passed over
unfoldable pub contents_of : World → List MethodRef → List (MethodRef × MethodContent)
contents_of world refs = filter_map (λ ref. option_map (λ m. (ref, m)) (method_at world ref)) refs

-- what the methods of a list are, or the first fault of the first one that has any
unfoldable pub methods_of : World → List MethodRef → Said (List Method)
methods_of world refs = each (λ x. method_of world x.0 x.1) (contents_of world refs)

-- a call with the number of its method among the reached ones, none where it is abstract and so isn't one of them
abbrev pub numbered : List MethodRef → Call → Call
numbered refs call = record {
  class = call.class;
  method = call.method;
  params = call.params;
  result = call.result;
  target =
      position (same_method call.method) refs;
}

-- an instruction with the number of its method, or with the place of its static field
abbrev pub op_numbered : List MethodRef → List StaticField → Op → Op
op_numbered refs statics (Getstatic used) = Getstatic (placed_use statics used)
op_numbered refs statics (Putstatic used) = Putstatic (placed_use statics used)
op_numbered refs statics (Invokespecial call) = Invokespecial (numbered refs call)
op_numbered refs statics (Invokestatic call) = Invokestatic (numbered refs call)
op_numbered refs statics op = op

-- instructions of a method, with the numbers of the methods and the places of the static fields that they name
abbrev pub insns_numbered : List MethodRef → List StaticField → List (ℕ × Op) → List (ℕ × Op)
insns_numbered refs statics insns = map (λ x. (x.0, op_numbered refs statics x.1)) insns

-- a method whose instructions have the numbers of the methods and the places of the static fields that they name
abbrev pub method_numbered : List MethodRef → List StaticField → Method → Method
method_numbered refs statics m = record {
  class = m.class;
  index = m.index;
  name = m.name;
  desc = m.desc;
  params = m.params;
  result = m.result;
  max_stack = m.max_stack;
  max_locals = m.max_locals;
  insns = insns_numbered refs statics m.insns;
  table = m.table;
}

-- The methods of the program that an entry makes, in the order in which they are reached, or the first fault: method by
-- method, and then that of too many static fields.
unfoldable pub close_of : World → MethodRef → Said (List Method)
close_of world entry = do
  methods ← methods_of world (reached world entry)
  statics ← statics_named world methods
  Ok (map (method_numbered (reached world entry) statics) methods)

-- a list of methods has all that a method's instructions can run
abbrev pub has_runs : World → List MethodRef → Method → Bool
has_runs world refs m = list_all (has_method refs) (runs_in world m)

-- a list of methods has all that the methods of a program can run
abbrev pub is_closed : World → List MethodRef → List Method → Bool
is_closed world refs methods = list_all (has_runs world refs) methods
