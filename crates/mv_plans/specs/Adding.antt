-- The rule `add`: a net of two values comes, which is 1 where a line of its body holds and else 0.
use Rattle.std.specs.Prelude.{◌≡◌, ℕ, Option, Some, List, [], ◌∷◌, ◌++◌}
use Rattle.mv_cover.specs.declared.cover.Cover.{Cover}
use Rattle.mv_entry.specs.declared.rule.Body.{Body}
use Rattle.mv_entry.specs.declared.fault.RuleFault.{RuleFault}
use Rattle.mv_entry.specs.declared.fault.RuleFault.TheVariants.{NoNet, Form, NotFresh, Nets}
use Rattle.mv_body.specs.Bodies.{AreKnown, IsTidy, IsChoice, cover_said}
use Rattle.mv_net.specs.declared.parts.FlatNet.{FlatNet}
use Rattle.mv_net.specs.declared.parts.Kind.TheVariants.{Table}
use Rattle.mv_net.specs.declared.parts.NetParts.{NetParts}
use Rattle.mv_net.specs.Changes.{with_nets}
use Rattle.mv_plans.specs.Checks.{IsNewName, HasRoom, Passed, Unless}

-- the body of a net that may come: it is tidy for two values, each line gives 1, and the default is
-- 0
pub record IsDivisor (nets : List (Option FlatNet)) (body : Body) : Type 0 where
  pub tidy : IsTidy nets 2 body
  pub choice : IsChoice body

-- a net of two values with this name and table
abbrev pub divisor_net : List ℕ → Cover → FlatNet
divisor_net name table =
    record { name = name; values = 2; value_names = []; kind = Table; table = Some table }

-- a net with this name comes, with the next number
pub record Adds (old : NetParts) (name : List ℕ) (body : Body) (new : NetParts) : Type 0 where
  pub known : AreKnown old.nets body
  pub form : IsDivisor old.nets body
  pub fresh : IsNewName old.nets name
  pub room : HasRoom old.nets
  pub new_is : new
      ≡ with_nets old (old.nets ++ Some (divisor_net name (cover_said old.nets body)) ∷ [])

-- the checks hold
pub record CanAdd (nets : List (Option FlatNet)) (name : List ℕ) (body : Body) : Type 0 where
  pub known : AreKnown nets body
  pub form : IsDivisor nets body
  pub fresh : IsNewName nets name
  pub room : HasRoom nets

-- the first check that fails
abbrev pub FailsAdd : NetParts → List ℕ → Body → RuleFault → Type 0
FailsAdd net name body =
    Unless (AreKnown net.nets body) NoNet (
    Unless (IsDivisor net.nets body) Form (
    Unless (IsNewName net.nets name) NotFresh (
    Unless (HasRoom net.nets) Nets
    Passed)))
