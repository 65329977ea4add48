use Rattle.std.proofs.Common.{◌≡◌, List, map, Option, ap, ◌∙◌}
use Rattle.std.specs.List.{flat_map}
use Rattle.asm_lines.specs.Firsts.{with_faults}
use Rattle.asm_lines.specs.declared.listing.MethodLines.{MethodLines}
use Rattle.class_asm.specs.asm_pool.Needs.{listing_needs}
use Rattle.asm_lines.specs.declared.fault.AsmFault.{AsmFault}
use Rattle.class_asm.specs.asm_pool.Pools.{Need, Numbered, pool_in, pool_faults}
use Rattle.class_asm.specs.Rules.{rule_faults}
use Rattle.class_asm.specs.Classes.{method_text, code_faults}
use Rattle.class_asm.proofs.Assembled.{in_turns}
use Rattle.class_asm.proofs.assembly.gather.Goals as goal

abbrev faults_by : Option AsmFault → List Need → Option AsmFault
faults_by first needs = with_faults first (pool_faults needs)

pub returns-clause-pool : goal.returns-clause-pool
returns-clause-pool c = c.in_ok-pool.ensures.pool ∙ ap pool_in c.in_ok-needs.ensures

pub returns-clause-methods : goal.returns-clause-methods
returns-clause-methods c =
    let methods = c.args.listing.now.methods in
    let pool = c.in_ok-pool.ensures.pool ∙ ap pool_in c.in_ok-needs.ensures in
    c.in_ok-methods.ensures.text ∙ ap (λ (ms : List MethodLines). map (method_text c.in_ok-pool.pool) ms) c.as_slice.ensures
    ∙ ap (λ (p : Numbered). map (method_text p) methods) pool

pub returns-clause-faults : goal.returns-clause-faults
returns-clause-faults c =
    let listing = c.args.listing.now in
    let needs = listing_needs c.args.line c.args.class.now listing in
    let f = c.args.first.now.fault in
    let g = c.check_rules.new.first.fault in
    let h = c.pool_of.new.first.fault in
    let i = c.method_texts.new.first.fault in
    let codes = flat_map (code_faults (pool_in needs)) listing.methods in
    let pool = c.in_ok-pool.ensures.pool ∙ ap pool_in c.in_ok-needs.ensures in
    let r : h ≡ with_faults g (pool_faults needs) = c.in_ok-pool.ensures.faults ∙ ap (faults_by g) c.in_ok-needs.ensures in
    let s : i ≡ with_faults h codes = c.in_ok-methods.ensures.faults
    ∙ ap (λ (ms : List MethodLines). with_faults h (flat_map (code_faults c.in_ok-pool.pool) ms)) c.as_slice.ensures
    ∙ ap (λ (p : Numbered). with_faults h (flat_map (code_faults p) listing.methods)) pool in
    in_turns f g h i (rule_faults c.args.line c.args.class.now listing) (pool_faults needs) codes c.in_ok-check_rules.ensures r s
