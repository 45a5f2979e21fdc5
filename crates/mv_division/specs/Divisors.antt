-- A common divisor as a net of two values: which may become one, and the rule that adds it.
use Rattle.std.specs.Prelude.{◌≡◌, ◌<◌, ℕ, Option, Some, List, [], ◌∷◌, ◌++◌, length, All}
use Rattle.mv_base.specs.Set.{one}
use Rattle.mv_cover.specs.Literal.{Lit}
use Rattle.mv_cover.specs.declared.cover.Cover.{Cover}
use Rattle.mv_cover.specs.Complement.{lines_for}
use Rattle.mv_cover.specs.Cubes.{IsCube}
use Rattle.mv_entry.specs.declared.rule.Rule.{Rule}
use Rattle.mv_entry.specs.declared.rule.Rule.TheVariants.{Add}
use Rattle.mv_kernels.specs.Order.{Ascend}
use Rattle.mv_net.specs.declared.parts.FlatNet.{FlatNet}
use Rattle.mv_net.specs.declared.parts.NetParts.{NetParts}
use Rattle.mv_net.specs.Changes.{with_nets}
use Rattle.mv_net.specs.Formed.{IsLiteral}
use Rattle.mv_net.specs.Nets.{slot}
use Rattle.mv_rule_body.specs.Named.{body_of}
use Rattle.mv_plans.specs.Adding.{divisor_net}

-- the table of a divisor: 1 where one of its cubes holds, and else 0
abbrev pub divisor_cover : List (List Lit) → Cover
divisor_cover divisor = record { lines = lines_for (one 1) divisor; default = Some (one 0) }

-- a divisor over the nets: some cubes in ascending order, each once and of some literals, which
-- tables over the nets may have
pub record IsDivisorOver (nets : List (Option FlatNet)) (divisor : List (List Lit)) : Type 0 where
  pub some : 0 < length divisor
  pub ascending : Ascend divisor
  pub formed : All IsCube divisor
  pub literals : All (λ (c : List Lit). 0 < length c) divisor
  pub over : All (λ (c : List Lit). All (IsLiteral nets) c) divisor

-- the rule that adds a net with this name and the table of the divisor
abbrev pub add_rule : List (Option FlatNet) → List ℕ → List (List Lit) → Rule
add_rule nets name divisor = Add name (body_of nets (divisor_cover divisor))

-- the network with that net behind its others
abbrev pub with_divisor : NetParts → List ℕ → List (List Lit) → NetParts
with_divisor net name divisor =
    with_nets net (net.nets ++ Some (divisor_net name (divisor_cover divisor)) ∷ [])

-- the net d is such a net
pub record HasDivisor
    (nets : List (Option FlatNet)) (d : ℕ) (name : List ℕ) (divisor : List (List Lit))
    : Type 0 where
  pub held : slot nets d ≡ Some (divisor_net name (divisor_cover divisor))
