-- The rule that divides a table applies, and what it leaves.
use Rattle.std.proofs.Common.{true, ◌≡◌, ◌∙◌, ℕ, ◌<◌, false, List, Option, Some, None, All, Contains, is_some, refl, sym, ap, subst, arith}
use Rattle.std.proofs.lemmas.List.Elements.{All-map}
use Rattle.mv_base.specs.Set.{one, full}
use Rattle.mv_base.specs.declared.number.NetId.{NetId}
use Rattle.mv_body.specs.Bodies.{cover_said}
use Rattle.mv_cover.specs.Literal.{Lit}
use Rattle.mv_cover.specs.Covers.{cover_reads}
use Rattle.mv_cover.specs.Cubes.{IsCube}
use Rattle.mv_cover.specs.Lines.{IsOutput}
use Rattle.mv_cover.specs.declared.line.Line.{Line}
use Rattle.mv_cover.specs.declared.cover.Cover.{Cover}
use Rattle.mv_kernels.proofs.Lists.{Contains-map}
use Rattle.mv_meaning.specs.Rewriting.{with_net_table}
use Rattle.mv_meaning.proofs.OneTable.{IsWritten-given}
use Rattle.mv_meaning.proofs.Rewired.{cover_at}
use Rattle.mv_net.specs.declared.parts.Kind.TheVariants.{Table, Reset}
use Rattle.mv_net.specs.declared.parts.FlatNet.{FlatNet}
use Rattle.mv_net.specs.declared.parts.NetParts.{NetParts}
use Rattle.mv_net.specs.Changes.{with_nets}
use Rattle.mv_net.specs.Formed.{IsLiteral, IsCover, WellFormed}
use Rattle.mv_net.specs.Nets.{slot, values_in, name_in, table_in}
use Rattle.mv_net.proofs.Known.{values_few}
use Rattle.mv_pass.specs.Taking.{CanApply}
use Rattle.mv_rule_body.specs.Named.{body_of}
use Rattle.mv_rule_body.proofs.Said.{body_known, body_tidy, cover_back}
use Rattle.mv_rules.specs.Applies.{Applies}
use Rattle.mv_plans.specs.Checks.{IsTabled}
use Rattle.mv_plans.specs.Completing.{IsCompleted}
use Rattle.mv_plans.specs.Dividing.{Divides}
use Rattle.mv_plans.specs.Expanding.{IsDivisorNet, IsDivided}
use Rattle.mv_plans.specs.Orders.{KeepsOrder}
use Rattle.mv_rules.proofs.OneAnswer.{one_network}
use Rattle.mv_division.specs.Divisors.{HasDivisor, divisor_cover}
use Rattle.mv_division.specs.Divided.{IsDivision, HasLines, divide_rule, divided_cover}
use Rattle.mv_division.proofs.Covers.{divided_is_cover, left_before, one_output, one_not_full}
use Rattle.mv_division.proofs.Expansion.{same_lines}
use Rattle.mv_division.proofs.Joins.{IsBefore}
use Rattle.mv_division.proofs.Lists.{each_of}
use Rattle.mv_division.proofs.Paths.{order_kept}
use Rattle.mv_division.proofs.Tables.{line_at, lines_reading, reads_at}
use Rattle.mv_division.proofs.Totality.{completed_some, completed_lines}

-- ---- a net with a table

tabled_net : (nets : List (Option FlatNet)) (n : ℕ) (c : Cover) → table_in (slot nets n) ≡ Some c → IsTabled nets (name_in (slot nets n)) n
tabled_net nets n c e = by (slot nets n) refl e
  where
    by : (f : Option FlatNet) → slot nets n ≡ f → table_in f ≡ Some c → IsTabled nets (name_in (slot nets n)) n
    by None held t = absurd cc
    by (Some f) held t = record { named = record { net = f; held = held; is = sym (ap name_in held) }; table = ap is_some (ap table_in held ∙ t) }

-- ---- lines over nets before d

line_before : (c : Cover) (d : NetId) → ((m : ℕ) → cover_reads c m ≡ true → m < d.0) → (l : Line) → Contains c.lines l → IsBefore d l.cube
line_before c d below l i = each_of (λ (m : Lit). m.net.0 < d.0) l.cube (λ m j. below m.net.0 (lines_reading c.lines l m.net.0 i (reads_at l.cube m j)))

pub lines_before : (c : Cover) (d : NetId) → ((m : ℕ) → cover_reads c m ≡ true → m < d.0) → All (λ (l : Line). IsBefore d l.cube) c.lines
lines_before c d below = each_of (λ (l : Line). IsBefore d l.cube) c.lines (line_before c d below)

-- ---- the net that stands for the divisor

module _ (nets : List (Option FlatNet)) (d : NetId) (by : List ℕ) (divisor : List (List Lit)) (is : HasDivisor nets d.0 by divisor) where
  -- a table may ask for its value 1
  asks_for_one : IsLiteral nets (record { net = d; set = one 1 })
  asks_for_one =
      let two : values_in (slot nets d.0) ≡ 2 = ap values_in is.held in
      record {
        readable = record { net = _; held = is.held; plain = λ e. let bad : Table ≡ Reset = e in absurd cc };
        set = subst (λ k. IsOutput k (one 1)) (sym two) (one_output 1 (omega arith));
        not_full = subst (λ k. one 1 ≡ full k → ⊥) (sym two) one_not_full;
      }

  divides_by : IsDivisorNet nets d.0
  divides_by = record {
    inner = divisor_cover divisor;
    dividing = record {
      table = ap table_in is.held;
      two = ap values_in is.held;
      ones = All-map (λ (l : Line). l.out ≡ one 1) (λ (c : List Lit). record { cube = c; out = one 1 }) divisor (each_of (λ (_ : List Lit). one 1 ≡ one 1) divisor (λ c i. refl));
      zero = refl;
    };
  }

-- ---- the rule

module _ (net : NetParts) (n d : NetId) (by : List ℕ) (divisor : List (List Lit)) (old : Cover) (lines : List Line) (formed : WellFormed net) (is : IsDivision net.nets n d by divisor old lines) where
  old_cover : IsCover net.nets (values_in (slot net.nets n.0)) old
  old_cover = cover_at net n.0 old formed is.table

  before : (l : Line) → Contains old.lines l → IsBefore d l.cube
  before l i = line_before old d is.below l i

  -- the divisor's cubes are those of a table
  divisors : (c : List Lit) → Contains divisor c → IsCube c
  divisors c i =
      let table = cover_at net d.0 (divisor_cover divisor) formed (ap table_in is.divides.held) in
      let there = Contains-map (λ (x : List Lit). record { cube = x; out = one 1 }) divisor c i in
      (line_at net.nets (values_in (slot net.nets d.0)) (divisor_cover divisor).lines (record { cube = c; out = one 1 }) table.cubes table.lines there).cube

  literal : IsLiteral net.nets (record { net = d; set = one 1 })
  literal = asks_for_one net.nets d by divisor is.divides

  pub divided_covers : IsCover net.nets (values_in (slot net.nets n.0)) (divided_cover old lines)
  divided_covers = divided_is_cover net.nets (values_in (slot net.nets n.0)) old d divisor lines is.divided old_cover before is.some literal

  -- the divided table stands for the old one
  stands_for_old : IsDivided d.0 (divisor_cover divisor) old (divided_cover old lines)
  stands_for_old = record {
    default = refl;
    lines =
        same_lines d divisor old.lines lines is.divided
        (λ l i. (line_at net.nets (values_in (slot net.nets n.0)) old.lines l old_cover.cubes old_cover.lines i).cube) before divisors
        (left_before net.nets (values_in (slot net.nets n.0)) old d divisor lines is.divided old_cover before is.some literal);
  }

  said : cover_said net.nets (body_of net.nets (divided_cover old lines)) ≡ divided_cover old lines
  said = cover_back net formed (values_in (slot net.nets n.0)) (divided_cover old lines) divided_covers

  -- the rule leaves the network with a table that the body becomes
  divides : (table : Cover) → IsCompleted net.nets old (divided_cover old lines) table
      → Divides net (name_in (slot net.nets n.0)) by (body_of net.nets (divided_cover old lines)) (with_nets net (with_net_table net.nets n.0 table))
  divides table completed = record {
    number = n.0;
    net = tabled_net net.nets n.0 old is.table;
    divisor = d.0;
    divides = record { net = _; held = is.divides.held; is = refl };
    known = body_known net.nets (values_in (slot net.nets n.0)) (divided_cover old lines) divided_covers;
    form = body_tidy net formed (values_in (slot net.nets n.0)) (divided_cover old lines) divided_covers;
    two = divides_by net.nets d by divisor is.divides;
    order = subst (KeepsOrder net.nets n.0 d.0) (sym said) (order_kept net n d by divisor old lines formed is);
    same = record {
      old = old;
      table = is.table;
      inner = divisor_cover divisor;
      divisor = ap table_in is.divides.held;
      divided = subst (λ (c : Cover). IsDivided d.0 (divisor_cover divisor) old c) (sym said) stands_for_old;
    };
    table = table;
    completed = subst (λ (c : Cover). IsCompleted net.nets old c table) (sym said) completed;
    new_is = refl;
  }

  becomes : (table : Cover) × IsCompleted net.nets old (divided_cover old lines) table
  becomes = completed_some net (values_in (slot net.nets n.0)) formed (values_few net n.0 formed) old (divided_cover old lines) old_cover divided_covers

  pub divide_applies : CanApply false (divide_rule net.nets n.0 by old lines) net
  divide_applies = record { new = with_nets net (with_net_table net.nets n.0 becomes.0); applies = divides becomes.0 becomes.1 }

  left_by : (new : NetParts) → Applies false (divide_rule net.nets n.0 by old lines) net new → HasLines net n.0 old lines new
  left_by new a = record {
    table = becomes.0;
    completed = becomes.1;
    lines_are = completed_lines net.nets old (divided_cover old lines) becomes.0 becomes.1;
    new_is = one_network false (divide_rule net.nets n.0 by old lines) net new (with_nets net (with_net_table net.nets n.0 becomes.0)) formed a (divides becomes.0 becomes.1);
  }

pub divided_leaves : (net new : NetParts) (n d : NetId) (by : List ℕ) (divisor : List (List Lit)) (old : Cover) (lines : List Line) → WellFormed net → IsDivision net.nets n d by divisor old lines
    → Applies false (divide_rule net.nets n.0 by old lines) net new → HasLines net n.0 old lines new
divided_leaves net new n d by divisor old lines formed is a = left_by net n d by divisor old lines formed is new a

-- each other net is as it was
pub others_kept : (nets : List (Option FlatNet)) (n m : ℕ) (c : Cover) → (m ≡ n → ⊥) → slot (with_net_table nets n c) m ≡ slot nets m
others_kept nets n m c ne = (IsWritten-given nets n c).others m ne
