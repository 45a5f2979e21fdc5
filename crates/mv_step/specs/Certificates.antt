-- Certificates: which lines are one, the first fault of lines that aren't, and the rules that they
-- list.
use Rattle.std.specs.Prelude.{◌≡◌, ◌⊎◌, ℕ, List, [], ◌∷◌, ◌++◌, Option, Some, None, Result, MatchResult}
use Rattle.std.specs.Option.{option_or}
use Rattle.mv_lex.specs.declared.lines.LexLine.{LexLine}
use Rattle.mv_entry.specs.declared.rule.Body.{Body}
use Rattle.mv_entry.specs.declared.rule.Rule.{Rule}
use Rattle.mv_entry.specs.declared.rule.Rule.TheVariants.{Add as add_rule, Divide as divide_rule, Narrow as narrow_rule}
use Rattle.mv_step.specs.declared.fault.StepFault.{StepFault}
use Rattle.mv_step.specs.declared.fault.StepFault.TheVariants.{Syntax, Memory}
use Rattle.mv_step.specs.declared.step.Step.{Step}
use Rattle.mv_step.specs.declared.step.Head.{Head}
use Rattle.mv_step.specs.declared.step.Head.TheVariants.{Add, Divide, Narrow}
use Rattle.mv_step.specs.declared.said.Said.{Said}
use Rattle.mv_step.specs.declared.said.Said.TheVariants.{Whole, Begins, Line, Default, End}
use Rattle.mv_step.specs.Lines.{said}

-- ---- which lines are a certificate

-- where a line stands: outside a body, or in the body of the rule that began at a line, before its
-- default or behind it
pub data Place : Type 0 where
  Outside : Place
  InBody : (rule : ℕ) → Place
  BehindDefault : (rule : ℕ) → Place

-- the fault of line n, by where it stands and what it says
abbrev pub fault_at : ℕ → Place → Said → Option StepFault
fault_at n Outside (Whole rule) = None
fault_at n Outside (Begins head) = None
fault_at n Outside _ = Some (Syntax n)
fault_at n (InBody rule) (Line line) = None
fault_at n (InBody rule) (Default set) = None
fault_at n (InBody rule) End = None
fault_at n (InBody rule) _ = Some (Syntax n)
fault_at n (BehindDefault rule) End = None
fault_at n (BehindDefault rule) _ = Some (Syntax n)

-- where the line behind line n stands
abbrev pub place_behind : ℕ → Place → Said → Place
place_behind n Outside (Begins head) = InBody n
place_behind n Outside _ = Outside
place_behind n (InBody rule) (Default set) = BehindDefault rule
place_behind n (InBody rule) End = Outside
place_behind n (InBody rule) _ = InBody rule
place_behind n (BehindDefault rule) End = Outside
place_behind n (BehindDefault rule) _ = BehindDefault rule

-- the fault of the end of the lines: a body that is open is told at its rule
abbrev pub end_fault : Place → Option StepFault
end_fault Outside = None
end_fault (InBody rule) = Some (Syntax rule)
end_fault (BehindDefault rule) = Some (Syntax rule)

-- the first fault of lines, of which the first stands there
abbrev pub fault_from : Place → List LexLine → Option StepFault
fault_from place [] = end_fault place
fault_from place (l ∷ ls) =
    option_or (fault_at l.number place (said l.words))
    (fault_from (place_behind l.number place (said l.words)) ls)

-- the first fault of lines, which is the first line that can't stand where it stands; a certificate
-- has none
unfoldable pub fault_of : List LexLine → Option StepFault
fault_of lines = fault_from Outside lines

-- a reader of lines with this first fault: it answers Ok only where there is none, and a fault only
-- if it is that one, or the one that says want of memory
abbrev pub Tells : {T : Type 0} → Result T StepFault → Option StepFault → Type 0
Tells result fault = MatchResult result (λ _. fault ≡ None) (λ f. (f ≡ Memory) ⊎ (fault ≡ Some f))

-- ---- the rules that a certificate lists

-- a body with one part more in front; behind a default and behind an end nothing belongs to it
abbrev pub with_part : Said → Body → Body
with_part (Line line) rest = record { lines = line ∷ rest.lines; default = rest.default }
with_part (Default set) rest = record { lines = []; default = Some set }
with_part _ rest = record { lines = []; default = None }

-- the body that stands in front of any other lines
abbrev pub front_body : List LexLine → Body
front_body [] = record { lines = []; default = None }
front_body (l ∷ ls) = with_part (said l.words) (front_body ls)

-- the rule with this first line and body
abbrev pub rule_of : Head → Body → Rule
rule_of (Add net) body = add_rule net body
rule_of (Divide net by) body = divide_rule net by body
rule_of (Narrow net d u) body = narrow_rule net d u body

-- the step of line n, if it is the first line of a rule, where this body stands behind it
abbrev pub step_at : ℕ → Said → Body → List Step
step_at n (Whole rule) body = record { line = n; rule = rule } ∷ []
step_at n (Begins head) body = record { line = n; rule = rule_of head body } ∷ []
step_at n _ body = []

-- the steps of a certificate: each line that begins a rule is one, with the body behind it
abbrev pub steps_of : List LexLine → List Step
steps_of [] = []
steps_of (l ∷ ls) = step_at l.number (said l.words) (front_body ls) ++ steps_of ls
