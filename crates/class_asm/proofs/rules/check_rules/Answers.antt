use Rattle.std.proofs.Common.{◌≡◌, List, ◌++◌, ap, ◌∙◌}
use Rattle.std.specs.List.{flat_map}
use Rattle.asm_lines.specs.Firsts.{with_faults, unless}
use Rattle.class_asm.specs.Rules.{class_is_good, fields_faults, methods_faults, attributes_faults, constant_faults}
use Rattle.asm_lines.proofs.Faults.{in_turn}
use Rattle.class_asm.proofs.rules.check_rules.Goals as goal

pub returns : goal.returns
returns c =
    let listing = c.args.listing.now in
    let before = c.args.first.now.fault in
    let class = c.unless.new.self.fault in
    let fields = c.check_field_list.new.first.fault in
    let methods = c.check_method_list.new.first.fault in
    let attributes = c.check_attribute_list.new.first.fault in
    let all = c.check_constants.new.first.fault in
    let a = unless (class_is_good c.args.class.now) c.args.line in
    let b = fields_faults listing.fields in
    let d = methods_faults listing.methods in
    let e = attributes_faults listing.attributes in
    let f = flat_map constant_faults listing.constants in
    let p : class ≡ with_faults before a = c.unless.ensures ∙ ap (λ b. with_faults before (unless b c.args.line))
    c.class_is_good.ensures in
    let q : fields ≡ with_faults class b = c.in_ok-check_field_list.ensures
    ∙ ap (λ xs. with_faults class (fields_faults xs)) c.as_slice.ensures in
    let r : methods ≡ with_faults fields d = c.in_ok-check_method_list.ensures ∙ ap (λ xs. with_faults fields (methods_faults xs))
    c.as_slice-2.ensures in
    let s : attributes ≡ with_faults methods e = c.check_attribute_list.ensures
    ∙ ap (λ xs. with_faults methods (attributes_faults xs)) c.as_slice-3.ensures in
    let t : all ≡ with_faults attributes f = c.check_constants.ensures
    ∙ ap (λ xs. with_faults attributes (flat_map constant_faults xs)) c.as_slice-4.ensures in
    in_turn before attributes all (a ++ b ++ d ++ e) f
    (in_turn before methods attributes (a ++ b ++ d) e
    (in_turn before fields methods (a ++ b) d (in_turn before class fields a b p q) r) s) t
