-- Which instructions let the next one run.
-- JVM specification, section 6.5: after a jump without a condition, a switch, a return or a throw the next instruction
-- doesn't run.
use Rattle.std.specs.Prelude.{Bool, true, false}
use Rattle.code_forms.specs.declared.insn.Insn.{Insn}
use Rattle.code_forms.specs.declared.insn.Insn.TheVariants.{Goto, GotoW, Tableswitch, Lookupswitch, Ireturn, Areturn, Return, Athrow}

-- the instruction behind this one may run after it
abbrev pub falls_through : Insn → Bool
falls_through (Goto target) = false
falls_through (GotoW target) = false
falls_through (Tableswitch default low targets) = false
falls_through (Lookupswitch default cases) = false
falls_through Ireturn = false
falls_through Areturn = false
falls_through Return = false
falls_through Athrow = false
falls_through _ = true
