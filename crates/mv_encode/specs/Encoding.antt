-- On the way through an `encode`: the rule for a net, and what became of the net. For private
-- functions.
use Rattle.std.specs.Prelude.{◌≡◌, ℕ, Bool, false, Option, Some, None, Result, Ok, Err, List, length, All}
use Rattle.mv_entry.specs.declared.fault.RuleFault.{RuleFault}
use Rattle.mv_entry.specs.declared.rule.Rule.{Rule}
use Rattle.mv_entry.specs.Tallies.{Journaled}
use Rattle.mv_net.specs.declared.parts.FlatNet.{FlatNet}
use Rattle.mv_net.specs.declared.parts.NetParts.{NetParts}
use Rattle.mv_pass.specs.declared.stop.Stop.{Stop}
use Rattle.mv_pass.specs.Courses.{Perhaps}
use Rattle.mv_pass.specs.Passing.{Passes}
use Rattle.mv_plans.specs.Checks.{IsNewName}
use Rattle.mv_rules.specs.Applies.{Fails}
use Rattle.mv_encode.specs.Encodes.{AreBitNames, AreFreshFrom, EncodesNet, IsFull, rule_of}

-- the first so many fresh names, each of which may be that of a new net
pub record AreFirst (nets : List (Option FlatNet)) (count : ℕ) (names : List (List ℕ))
    : Type 0 where
  pub long : length names ≡ count
  pub fresh : AreFreshFrom nets 0 names
  pub each : All (IsNewName nets) names

-- this is the rule for the net n, by names that may be those of new nets
pub record IsRuleFor (net : NetParts) (n : ℕ) (rule : Rule) : Type 0 where
  pub names : List (List ℕ)
  pub are : AreBitNames net n names
  pub new : All (IsNewName net.nets) names
  pub rule_is : rule ≡ rule_of net n names

-- a rule for the net n was refused for this fault
pub record WasRefused (net : NetParts) (n : ℕ) (rule : Rule) (fault : RuleFault) : Type 0 where
  pub is_rule : IsRuleFor net n rule
  pub fails : Fails false rule net fault

-- at the net n the numbers run out, and nothing came of the visit
pub record IsOut (n : ℕ) (name : List ℕ) (old new : NetParts) (journal journal' : Journaled)
    : Type 0 where
  pub full : IsFull old n name
  pub same : new ≡ old
  pub still : journal' ≡ journal

-- how a visit of the net n answers: it is done; or the numbers run out, with the name of the first
-- net that was to come; or it stopped
abbrev pub Answers : Bool → ℕ → NetParts → NetParts → Journaled → Journaled
    → Result (Option (List ℕ)) Stop → Type 0
Answers free n old new journal journal' (Ok None) =
    Passes free (EncodesNet n) (Perhaps (EncodesNet n)) old new journal journal' (Ok tt)
Answers free n old new journal journal' (Ok (Some name)) =
    IsOut n name old new journal journal'
Answers free n old new journal journal' (Err stop) =
    Passes free (EncodesNet n) (Perhaps (EncodesNet n)) old new journal journal' (Err stop)
