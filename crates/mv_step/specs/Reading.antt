-- How a reader of a certificate stands between two lines. For private functions.
use Rattle.std.specs.Prelude.{◌≡◌, ℕ, List, ◌∷◌, ◌++◌, drop, Option, Some, None}
use Rattle.mv_lex.specs.declared.lines.LexLine.{LexLine}
use Rattle.mv_entry.specs.declared.rule.BodyLine.{BodyLine}
use Rattle.mv_entry.specs.declared.rule.BodyLit.{BodyLit}
use Rattle.mv_entry.specs.declared.rule.Body.{Body}
use Rattle.mv_step.specs.declared.step.Step.{Step}
use Rattle.mv_step.specs.declared.step.OpenRule.{OpenRule}
use Rattle.mv_step.specs.Lines.{said}
use Rattle.mv_step.specs.Certificates.{Place, Outside, InBody, BehindDefault, place_behind, fault_from, fault_of, front_body, rule_of, steps_of}

-- ---- literals of a line

-- a line with these literals in front, if there is one
abbrev pub with_lits : List BodyLit → Option BodyLine → Option BodyLine
with_lits lits None = None
with_lits lits (Some l) = Some (record { lits = lits ++ l.lits; out = l.out })

-- ---- lines of a certificate

-- a place in the body of the rule at this line, where it has this default so far
abbrev pub place_in : ℕ → Option ℕ → Place
place_in line None = InBody line
place_in line (Some set) = BehindDefault line

-- the place where this rule is open
abbrev pub place_of : Option OpenRule → Place
place_of None = Outside
place_of (Some rule) = place_in rule.line rule.default

-- a body of which these lines and this default stood so far, and the rest stands in front of what
-- comes
abbrev pub body_with : List BodyLine → Option ℕ → Body → Body
body_with lines None rest = record { lines = lines ++ rest.lines; default = rest.default }
body_with lines (Some set) rest = record { lines = lines; default = Some set }

-- the steps of the lines that come, where this rule is open
abbrev pub steps_from : Option OpenRule → List LexLine → List Step
steps_from None ls = steps_of ls
steps_from (Some rule) ls =
    record {
      line = rule.line;
      rule = rule_of rule.head (body_with rule.lines rule.default (front_body ls));
    } ∷ steps_of ls

-- behind one line more the steps and the rule that is open are what they were before it, whatever
-- comes
pub record Follows (line : LexLine) (before : List Step) (current : Option OpenRule)
    (after : List Step) (next : Option OpenRule) : Type 0 where
  pub place : place_of next ≡ place_behind line.number (place_of current) (said line.words)
  pub steps : (ls : List LexLine)
      → after ++ steps_from next ls ≡ before ++ steps_from current (line ∷ ls)

-- so many of the lines were read
pub record IsAt (lines : List LexLine) (n : ℕ) (before : List Step) (current : Option OpenRule)
    : Type 0 where
  pub fault : fault_from (place_of current) (drop n lines) ≡ fault_of lines
  pub steps : before ++ steps_from current (drop n lines) ≡ steps_of lines
