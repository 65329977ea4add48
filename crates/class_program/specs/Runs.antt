-- The methods that an instruction can run (JVM specification, section 6.5: invokestatic, invokespecial, invokevirtual and
-- invokeinterface).
use Rattle.std.specs.Prelude.{ℕ, if◌then◌else◌, List, [], Option, Some, None, option_and_then}
use Rattle.std.specs.List.{filter_map}
use Rattle.std.specs.Option.{option_map_or, option_to_list}
use Rattle.class_world.specs.class_read.Content.{MethodContent}
use Rattle.class_program.specs.declared.op.Op.{Op}
use Rattle.class_program.specs.declared.op.Op.TheVariants.{Invokevirtual, Invokespecial, Invokestatic, Invokeinterface}
use Rattle.class_program.specs.declared.op.Call.{Call}
use Rattle.class_world.specs.declared.world.MethodRef.{MethodRef}
use Rattle.class_world.specs.World.{World}
use Rattle.class_world.specs.Resolve.{method_at, has_no_body}
use Rattle.class_world.specs.Select.{select, receivers}

-- a method that a call comes to can run where it isn't abstract
unfoldable pub with_body : World → MethodRef → Option MethodRef
with_body world ref = if has_no_body world ref then None else Some ref

-- the method that a receiver's class selects by a name and a descriptor, unless it is abstract
unfoldable pub selected_body : World → List ℕ → List ℕ → ℕ → Option MethodRef
selected_body world name desc class = option_and_then (with_body world) (select world name desc class)

-- the methods that the classes of a call's receivers select by the name and descriptor of its method, class by class
unfoldable pub selections : World → ℕ → MethodContent → List MethodRef
selections world named m = filter_map (selected_body world m.name m.desc) (receivers world named)

-- The methods that a call selects, over all classes of its receivers: the name and the descriptor are those of the method that
-- resolution gave (JVM specification, section 6.5.invokevirtual).
unfoldable pub call_selections : World → Call → List MethodRef
call_selections world call = option_map_or (selections world call.class) (method_at world call.method) []

-- The methods that an instruction can run, in order: for a call that selects by the receiver's class, what each class
-- selects, by the class's number.
unfoldable pub runs : World → Op → List MethodRef
runs world (Invokestatic call) = option_to_list (with_body world call.method)
runs world (Invokespecial call) = option_to_list (with_body world call.method)
runs world (Invokevirtual call) = call_selections world call
runs world (Invokeinterface call) = call_selections world call
runs world _ = []
