-- Members and codes where they stand in the file are seen as their contents.
use Rattle.std.specs.Prelude.{List, map, Option, Some, None}
use Rattle.class_pool.specs.declared.entry.PoolEntry.{PoolEntry}
use Rattle.class_read.specs.declared.view.FieldView.{FieldView}
use Rattle.class_read.specs.declared.view.MethodView.{MethodView}
use Rattle.class_read.specs.declared.view.CodeView.{CodeView}
use Rattle.class_read.specs.declared.view.Front.{Front}
use Rattle.class_read.specs.declared.view.Lists.{Lists}
use Rattle.class_read.specs.Content.{FieldContent, MethodContent, CodeContent, ClassContent}

-- a field where it stands in the file, seen as what the file says of it
abbrev pub field_content : FieldView → FieldContent
field_content f = record { flags = f.flags; name = f.name.now; desc = f.desc.now }

-- a code where it stands in the file, seen as what the file says of it
abbrev pub code_content : CodeView → CodeContent
code_content c = record { max_stack = c.max_stack; max_locals = c.max_locals; code = c.code.now; table = c.table }

-- a method's code where it stands in the file, seen as what the file says of it, none where the method has none
abbrev pub code_contents : Option CodeView → Option CodeContent
code_contents None = None
code_contents (Some c) = Some (code_content c)

-- a method where it stands in the file, seen as what the file says of it
abbrev pub method_content : MethodView → MethodContent
method_content m = record { flags = m.flags; name = m.name.now; desc = m.desc.now; code = code_contents m.code }

-- what a class file says, put together from its pool, the fields up to its super class, and its lists
abbrev pub class_content : List PoolEntry → Front → Lists → ClassContent
class_content pool front lists = record {
  major = front.major;
  flags = front.flags;
  name = front.name.now;
  super_name = front.super_name.now;
  interfaces = map (λ i. i.now) lists.interfaces;
  fields = map field_content lists.fields;
  methods = map method_content lists.methods;
  pool = pool;
}
