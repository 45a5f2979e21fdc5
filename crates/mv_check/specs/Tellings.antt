-- The lines that tell why a certificate is refused.
use Rattle.std.specs.Prelude.{ℕ, List, [], ◌∷◌, ◌++◌, codes, decimal}
use Rattle.mv_lex.specs.declared.fault.LexFault.TheVariants.{BadByte, LongWord, OpenBracket, TooLarge, Memory as short_bytes}
use Rattle.mv_entry.specs.declared.fault.RuleFault.{RuleFault}
use Rattle.mv_entry.specs.declared.fault.RuleFault.TheVariants.{NoNet, Visible, Read, Unread, Shared, Partial, Varied, NotFresh, NotSame, Loop, Form, Outside, Lost, Wide, Nets, Window, Strict, Total, Nodes, Memory}
use Rattle.mv_step.specs.declared.fault.StepFault.TheVariants.{Syntax, Memory as short_steps}
use Rattle.mv_task.specs.Lines.{memory_line}
use Rattle.mv_check.specs.declared.fault.CertificateFault.{CertificateFault}
use Rattle.mv_check.specs.declared.fault.CertificateFault.TheVariants.{Lex, Step}

-- the line that tells a cause at a line of the certificate
abbrev pub told_line : ℕ → List ℕ → List ℕ
told_line line cause = codes "# fault certificate " ++ decimal line ++ 32 ∷ cause ++ 10 ∷ []

-- the line of a fault of its bytes, which has a number, or of its lines. (Want of memory is none:
-- no text has it.)
abbrev pub text_line : CertificateFault → List ℕ
text_line (Lex (BadByte line byte)) = told_line line (codes "Lex 1")
text_line (Lex (LongWord line)) = told_line line (codes "Lex 2")
text_line (Lex (OpenBracket line)) = told_line line (codes "Lex 3")
text_line (Lex (TooLarge line)) = told_line line (codes "Lex 4")
text_line (Lex short_bytes) = memory_line
text_line (Step (Syntax line)) = told_line line (codes "Syntax")
text_line (Step short_steps) = memory_line

-- the name of a fault of a rule
abbrev pub fault_name : RuleFault → List ℕ
fault_name NoNet = codes "NoNet"
fault_name Visible = codes "Visible"
fault_name Read = codes "Read"
fault_name Unread = codes "Unread"
fault_name Shared = codes "Shared"
fault_name Partial = codes "Partial"
fault_name Varied = codes "Varied"
fault_name NotFresh = codes "NotFresh"
fault_name NotSame = codes "NotSame"
fault_name Loop = codes "Loop"
fault_name Form = codes "Form"
fault_name Outside = codes "Outside"
fault_name Lost = codes "Lost"
fault_name Wide = codes "Wide"
fault_name Nets = codes "Nets"
fault_name Window = codes "Window"
fault_name Strict = codes "Strict"
fault_name Total = codes "Total"
fault_name Nodes = codes "Nodes"
fault_name Memory = codes "Memory"

-- the line of a rule that doesn't apply
abbrev pub rule_line : ℕ → RuleFault → List ℕ
rule_line line fault = told_line line (fault_name fault)
