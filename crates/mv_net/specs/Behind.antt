-- The literals that a change takes away, and those that it brings. For private functions.
use Rattle.std.specs.Prelude.{ℕ, Option, List}
use Rattle.std.specs.List.{sum_by}
use Rattle.mv_base.specs.declared.number.NetId.{NetId}
use Rattle.mv_cover.specs.Covers.{literal_count}
use Rattle.mv_net.specs.declared.change.NewNet.{NewNet}
use Rattle.mv_net.specs.declared.change.NewTable.{NewTable}
use Rattle.mv_net.specs.declared.parts.FlatNet.{FlatNet}
use Rattle.mv_net.specs.Nets.{slot, table_in, table_literals}

-- the literals of the net at a number
abbrev pub literals_at : List (Option FlatNet) → NetId → ℕ
literals_at nets n = table_literals (table_in (slot nets n.0))

-- those of the nets that go
abbrev pub literals_gone : List (Option FlatNet) → List NetId → ℕ
literals_gone nets gone = sum_by (literals_at nets) gone

-- those that the nets which get other tables have before
abbrev pub literals_before : List (Option FlatNet) → List NewTable → ℕ
literals_before nets set = sum_by (λ (t : NewTable). literals_at nets t.net) set

-- those of the tables that they get
abbrev pub literals_given : List NewTable → ℕ
literals_given set = sum_by (λ (t : NewTable). literal_count t.table.lines) set

-- those of the nets that come
abbrev pub literals_added : List NewNet → ℕ
literals_added add = sum_by (λ (m : NewNet). literal_count m.table.lines) add
