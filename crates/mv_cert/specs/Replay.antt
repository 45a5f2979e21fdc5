-- A certificate's steps, replayed on a network.
use Rattle.std.specs.Prelude.{◌≡◌, ◌⊎◌, ℕ, Bool, List, ◌∷◌, ◌++◌, map}
use Rattle.mv_entry.specs.declared.rule.Rule.{Rule}
use Rattle.mv_entry.specs.declared.fault.RuleFault.{RuleFault}
use Rattle.mv_entry.specs.declared.fault.RuleFault.TheVariants.{Nodes}
use Rattle.mv_net.specs.declared.parts.NetParts.{NetParts}
use Rattle.mv_rules.specs.Applies.{Fails, LacksNodes}
use Rattle.mv_rules.specs.Replaying.{Replays}
use Rattle.mv_step.specs.declared.step.Step.{Step}
use Rattle.mv_cert.specs.declared.fault.ReplayFault.{ReplayFault}
use Rattle.mv_cert.specs.declared.fault.ReplayFault.TheVariants.{Rule as rule_fault, Memory}

-- the rules of some steps, in order
abbrev pub rules_in : List Step → List Rule
rules_in steps = map (λ (s : Step). s.rule) steps

-- some first steps lead from the old network to the new one
pub record LeadPart (free : Bool) (steps : List Step) (old new : NetParts) : Type 0 where
  pub front : List Step
  pub behind : List Step
  pub steps_are : steps ≡ front ++ behind
  pub replays : Replays free (rules_in front) old new

-- some first steps lead from the old network to the new one, to which the rule of the next, which
-- stands at the line, doesn't apply, for this fault
pub record FailsAt (free : Bool) (steps : List Step) (old new : NetParts) (line : ℕ)
    (fault : RuleFault) : Type 0 where
  pub front : List Step
  pub step : Step
  pub behind : List Step
  pub steps_are : steps ≡ front ++ step ∷ behind
  pub replays : Replays free (rules_in front) old new
  pub line_is : line ≡ step.line
  pub fails : Fails free step.rule new fault

-- some first steps lead from the old network to the new one, in which a pool of so many nodes is
-- too small to judge the rule of the next, which stands at the line
pub record LacksAt (free : Bool) (budget : ℕ) (steps : List Step) (old new : NetParts) (line : ℕ)
    : Type 0 where
  pub front : List Step
  pub step : Step
  pub behind : List Step
  pub steps_are : steps ≡ front ++ step ∷ behind
  pub replays : Replays free (rules_in front) old new
  pub line_is : line ≡ step.line
  pub lacks : LacksNodes budget step.rule new

-- how a replay that ends early leaves the network. Want of nodes, as want of memory, says nothing
-- of the rule
abbrev pub EndsEarly : Bool → ℕ → List Step → NetParts → NetParts → ReplayFault → Type 0
EndsEarly free budget steps old new (rule_fault line fault) =
    FailsAt free steps old new line fault
    ⊎ ((fault ≡ Nodes) × LacksAt free budget steps old new line)
EndsEarly free budget steps old new Memory = LeadPart free steps old new
