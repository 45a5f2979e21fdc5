-- What the tables are divided by, and the rule for one of them.
use Rattle.std.proofs.Common.{◌≡◌, ℕ, Bool, false, List, [], ◌∷◌, Option, Some, sym, ap, subst, arith}
use Rattle.mv_base.specs.declared.number.NetId.{NetId}
use Rattle.mv_cover.specs.Literal.{Lit}
use Rattle.mv_cover.specs.declared.line.Line.{Line}
use Rattle.mv_cover.specs.declared.cover.Cover.{Cover}
use Rattle.mv_divide.specs.Tables.{IsDivided}
use Rattle.mv_division.specs.Divisors.{add_rule}
use Rattle.mv_division.specs.Divided.{IsDivision, divide_rule}
use Rattle.mv_entry.specs.declared.rule.Rule.{Rule}
use Rattle.mv_entry.specs.Entries.{Applied}
use Rattle.mv_net.specs.declared.parts.FlatNet.{FlatNet}
use Rattle.mv_net.specs.declared.parts.NetParts.{NetParts}
use Rattle.mv_net.specs.Nets.{slot, table_in}
use Rattle.mv_pass.specs.Taking.{CanApply}
use Rattle.mv_rules.specs.Applies.{Applies}
use Rattle.mv_extract.specs.Dividing.{IsReady, IsDivideRule}
use Rattle.mv_extract.specs.Steps.{DividesNet, Divided}

pub division_of : (nets : List (Option FlatNet)) (divisor : List (List Lit)) (n d : NetId) (table : Cover) (lines : List Line) → (ready : IsReady nets divisor d n.0) → (n.0 ≡ d.0 → ⊥)
    → table_in (slot nets n.0) ≡ Some table → IsDivided table.lines divisor d lines → IsDivision nets n d ready.by divisor table lines
division_of nets divisor n d table lines ready other is divided = record {
  divides = ready.stands;
  other = other;
  some = ready.some;
  table = is;
  below = λ m reads. ready.below n.0 table (omega arith) other is m reads;
  divided = divided;
}

-- a rule of these two kinds applies whether values are free or not
pub can_add : (net : NetParts) (free : Bool) (name : List ℕ) (divisor : List (List Lit)) (rule : Rule) → rule ≡ add_rule net.nets name divisor → CanApply false (add_rule net.nets name divisor) net → CanApply free rule net
can_add net free name divisor rule is can = subst (λ r. CanApply free r net) (sym is) (record { new = can.new; applies = can.applies })

pub can_divide : (net : NetParts) (free : Bool) (n : ℕ) (by : List ℕ) (table : Cover) (lines : List Line) (rule : Rule) → rule ≡ divide_rule net.nets n by table lines
    → CanApply false (divide_rule net.nets n by table lines) net → CanApply free rule net
can_divide net free n by table lines rule is can = subst (λ r. CanApply free r net) (sym is) (record { new = can.new; applies = can.applies })

-- what such a rule does is a visit
pub divides_so : (free : Bool) (net : NetParts) (divisor : List (List Lit)) (n d : NetId) (new : NetParts) (rule : Rule) → IsDivideRule net.nets divisor n d rule → Applies free rule net new
    → DividesNet free divisor d n.0 net (Applied rule ∷ []) new
divides_so free net divisor n d new rule is applies =
    Divided is.by is.table is.lines is.division (subst (λ r. Applies free r net new) is.rule_is applies) (ap (λ r. Applied r ∷ []) is.rule_is)
