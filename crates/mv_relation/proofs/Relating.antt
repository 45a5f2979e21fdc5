-- The relation of a net, by its table.
use Rattle.std.proofs.Common.{◌≡◌, ◌∙◌, ℕ, ◌<◌, ◌&&◌, true, Option, Some, None, List, [], get_or, sym, ap, subst, arith}
use Rattle.std.proofs.lemmas.Bool.{lt-ltb}
use Rattle.mv_cover.specs.declared.cover.Cover.{Cover}
use Rattle.mv_cover.specs.Covers.{cover_reads}
use Rattle.mv_graph.specs.Above.{IsAcyclic}
use Rattle.mv_diagram.specs.Sets.{Point, InRange}
use Rattle.mv_net.specs.declared.parts.FlatNet.{FlatNet}
use Rattle.mv_net.specs.Nets.{slot, table_in, table_reads, values_in, reads_in}
use Rattle.mv_net.specs.Allowed.{net_allows, net_table_allows}
use Rattle.mv_relation.specs.Relations.{AreApart, HasVar, HasVars, assigned, in_relation}

-- what the net reads, its cover reads
reads_cover : (nets : List (Option FlatNet)) (n m : ℕ) (c : Cover) → table_in (slot nets n) ≡ Some c → cover_reads c m ≡ true → reads_in nets n m ≡ true
reads_cover nets n m c is r = subst (λ (t : Option Cover). table_reads t m ≡ true) (sym is) r

-- the variables of what a net's cover reads are apart
pub apart_cover : (nets : List (Option FlatNet)) (counts vars : List ℕ) (n : ℕ) (c : Cover) → table_in (slot nets n) ≡ Some c → IsAcyclic (reads_in nets)
    → HasVars nets counts vars n → AreApart counts vars (get_or vars n 0) (cover_reads c)
apart_cover nets counts vars n c is acyclic has = record {
  listed = λ m r. (has.fanins m (reads_cover nets n m c is r)).listed;
  within = λ m r. (has.fanins m (reads_cover nets n m c is r)).within;
  beside = λ m r same.
      let e : m ≡ n = has.beside m (reads_cover nets n m c is r) same in
      acyclic.none n (record {
        path = [];
        goes = subst (λ (k : ℕ). reads_in nets n k ≡ true) e (reads_cover nets n m c is r);
      });
  differ = λ m k r s. has.apart m k (reads_cover nets n m c is r) (reads_cover nets n k c is s);
}

allows_table : (s : Option FlatNet) (at : ℕ → ℕ) (v : ℕ) (t : Option Cover) → v < values_in s → table_in s ≡ t → net_allows s at v ≡ net_table_allows t at v
allows_table None at v t low is = absurd (omega arith)
allows_table (Some f) at v t low is =
    ap (λ b. b && net_table_allows f.table at v) (lt-ltb v f.values low) ∙ ap (λ (x : Option Cover). net_table_allows x at v) is

-- in range it is what the table allows
pub relation_is : (nets : List (Option FlatNet)) (counts vars : List ℕ) (n : ℕ) (t : Option Cover) (p : Point) → HasVar nets counts vars n
    → InRange counts p → table_in (slot nets n) ≡ t → in_relation nets vars n p ≡ net_table_allows t (assigned vars p) (assigned vars p n)
relation_is nets counts vars n t p has range is =
    allows_table (slot nets n) (assigned vars p) (assigned vars p n) t
    (subst (λ k. assigned vars p n < k) has.count (range.below (get_or vars n 0) has.within)) is
