-- A net's table depends on the nets that it reads, and on no other.
use Rattle.std.proofs.Common.{◌≡◌, ℕ, true, ◌&&◌, nat_lt, Option, Some, None, refl}
use Rattle.mv_cover.specs.declared.cover.Cover.{Cover}
use Rattle.mv_net.specs.declared.parts.FlatNet.{FlatNet}
use Rattle.mv_net.specs.Nets.{net_reads, table_reads}
use Rattle.mv_net.specs.Allowed.{net_allows, net_table_allows}
pub use Rattle.mv_cover.proofs.Local.{matches-local, some_matches-local, some_gives-local, allowed-local}

pub net_table_allows-local : (t : Option Cover) (x y : ℕ → ℕ) (v : ℕ) → ((m : ℕ) → table_reads t m ≡ true → x m ≡ y m) → net_table_allows t x v ≡ net_table_allows t y v
net_table_allows-local None x y v h = refl
net_table_allows-local (Some c) x y v h = allowed-local c x y v h

pub net_allows-local : (f : Option FlatNet) (x y : ℕ → ℕ) (v : ℕ) → ((m : ℕ) → net_reads f m ≡ true → x m ≡ y m) → net_allows f x v ≡ net_allows f y v
net_allows-local None x y v h = refl
net_allows-local (Some f) x y v h =
    let e = net_table_allows-local f.table x y v h in
    λ i. nat_lt v f.values && e i
