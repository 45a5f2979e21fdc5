-- The rule `divide`: a table gets a body in which a net of two values stands for its own lines.
use Rattle.std.specs.Prelude.{◌≡◌, ℕ, Option, Some, List}
use Rattle.mv_cover.specs.declared.cover.Cover.{Cover}
use Rattle.mv_entry.specs.declared.rule.Body.{Body}
use Rattle.mv_entry.specs.declared.fault.RuleFault.{RuleFault}
use Rattle.mv_entry.specs.declared.fault.RuleFault.TheVariants.{NoNet, Form, NotSame, Loop}
use Rattle.mv_body.specs.Bodies.{AreKnown, IsTidy, cover_said}
use Rattle.mv_meaning.specs.Rewriting.{with_net_table}
use Rattle.mv_net.specs.declared.parts.FlatNet.{FlatNet}
use Rattle.mv_net.specs.declared.parts.NetParts.{NetParts}
use Rattle.mv_net.specs.Changes.{with_nets}
use Rattle.mv_net.specs.Index.{HasName}
use Rattle.mv_net.specs.Nets.{slot, values_in, table_in}
use Rattle.mv_plans.specs.Checks.{IsTabled, Passed, Unless, With}
use Rattle.mv_plans.specs.Completing.{IsCompleted}
use Rattle.mv_plans.specs.Expanding.{IsDivisorNet, IsDivided}
use Rattle.mv_plans.specs.Orders.{KeepsOrder}

-- the body has the default of the table of n, and stands for its lines where d stands for its own
pub record IsSameTable (nets : List (Option FlatNet)) (n d : ℕ) (body : Cover) : Type 0 where
  pub old : Cover
  pub table : table_in (slot nets n) ≡ Some old
  pub inner : Cover
  pub divisor : table_in (slot nets d) ≡ Some inner
  pub divided : IsDivided d inner old body

-- the net n may get the body, in which the net d stands for its own lines
pub record CanDivide (nets : List (Option FlatNet)) (n d : ℕ) (body : Cover) : Type 0 where
  pub two : IsDivisorNet nets d
  pub order : KeepsOrder nets n d body
  pub same : IsSameTable nets n d body

-- the net with this name gets the body
pub record Divides (old : NetParts) (name by : List ℕ) (body : Body) (new : NetParts) : Type 0 where
  pub number : ℕ
  pub net : IsTabled old.nets name number
  pub divisor : ℕ
  pub divides : HasName old.nets divisor by
  pub known : AreKnown old.nets body
  pub form : IsTidy old.nets (values_in (slot old.nets number)) body
  pub two : IsDivisorNet old.nets divisor
  pub order : KeepsOrder old.nets number divisor (cover_said old.nets body)
  pub same : IsSameTable old.nets number divisor (cover_said old.nets body)
  pub table : Cover
  pub completed : IsCompleted old.nets same.old (cover_said old.nets body) table
  pub new_is : new ≡ with_nets old (with_net_table old.nets number table)

-- the first check that fails: of the body as a cover, of the two nets with the names, and of all
abbrev pub DividedRow : List (Option FlatNet) → ℕ → ℕ → Cover → RuleFault → Type 0
DividedRow nets n d body =
    Unless (IsDivisorNet nets d) NotSame
    (Unless (KeepsOrder nets n d body) Loop (Unless (IsSameTable nets n d body) NotSame Passed))

abbrev pub DivideRow : NetParts → Body → ℕ → ℕ → RuleFault → Type 0
DivideRow net body n d =
    Unless (AreKnown net.nets body) NoNet (
    Unless (IsTidy net.nets (values_in (slot net.nets n)) body) Form (
    DividedRow net.nets n d (cover_said net.nets body)))

abbrev pub FailsDivide : NetParts → List ℕ → List ℕ → Body → RuleFault → Type 0
FailsDivide net name by body =
    With (IsTabled net.nets name)
    (λ n. With (λ d. HasName net.nets d by) (λ d. DivideRow net body n d))
