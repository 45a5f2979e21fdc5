-- A table divided by a net that stands for a divisor: when it may be, by which rule, what comes.
use Rattle.std.specs.Prelude.{◌≡◌, ◌<◌, ℕ, true, Option, Some, List, length}
use Rattle.mv_base.specs.declared.number.NetId.{NetId}
use Rattle.mv_cover.specs.Literal.{Lit}
use Rattle.mv_cover.specs.declared.line.Line.{Line}
use Rattle.mv_cover.specs.declared.cover.Cover.{Cover}
use Rattle.mv_cover.specs.Covers.{cover_reads}
use Rattle.mv_divide.specs.Tables.{IsDivided}
use Rattle.mv_entry.specs.declared.rule.Rule.{Rule}
use Rattle.mv_entry.specs.declared.rule.Rule.TheVariants.{Divide}
use Rattle.mv_meaning.specs.Rewriting.{with_net_table}
use Rattle.mv_net.specs.declared.parts.FlatNet.{FlatNet}
use Rattle.mv_net.specs.declared.parts.NetParts.{NetParts}
use Rattle.mv_net.specs.Changes.{with_nets}
use Rattle.mv_net.specs.Nets.{slot, name_in, table_in}
use Rattle.mv_rule_body.specs.Named.{body_of}
use Rattle.mv_plans.specs.Completing.{IsCompleted}
use Rattle.mv_division.specs.Divisors.{HasDivisor}

-- the table `old` of the net n, divided by the net d, has these lines; d stands for the divisor,
-- and comes behind all nets of that table
pub record IsDivision
    (nets : List (Option FlatNet)) (n d : NetId) (by : List ℕ)
    (divisor : List (List Lit)) (old : Cover) (lines : List Line) : Type 0 where
  pub divides : HasDivisor nets d.0 by divisor
  pub other : n.0 ≡ d.0 → ⊥
  pub some : 0 < length divisor
  pub table : table_in (slot nets n.0) ≡ Some old
  pub below : (m : ℕ) → cover_reads old m ≡ true → m < d.0
  pub divided : IsDivided old.lines divisor d lines

-- the lines with the table's own default
abbrev pub divided_cover : Cover → List Line → Cover
divided_cover old lines = record { lines = lines; default = old.default }

-- the rule by which the net n gets them
abbrev pub divide_rule : List (Option FlatNet) → ℕ → List ℕ → Cover → List Line → Rule
divide_rule nets n by old lines =
    Divide (name_in (slot nets n)) by (body_of nets (divided_cover old lines))

-- the new network is the other one, in which the net n has these lines in place of those of its
-- table `old`: with its default, or with one that the rule adds
pub record HasLines
    (net : NetParts) (n : ℕ) (old : Cover) (lines : List Line) (new : NetParts) : Type 0 where
  pub table : Cover
  pub completed : IsCompleted net.nets old (divided_cover old lines) table
  pub lines_are : table.lines ≡ lines
  pub new_is : new ≡ with_nets net (with_net_table net.nets n table)
