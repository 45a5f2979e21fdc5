-- A table gives way to one that reads no net besides: the network is well formed. It may take the old one's place where the table
-- allows some value wherever the old one did, the tables below are total, and what it allows can be replaced inside a region.
use Rattle.std.proofs.Common.{◌≡◌, ◌∙◌, ℕ, Bool, true, List, [], Option, Some, sym, ap, subst, ⊎_elim}
use Rattle.std.proofs.lemmas.Bool.{false≢true}
use Rattle.mv_base.specs.Meaning.{Refines}
use Rattle.mv_cover.specs.declared.cover.Cover.{Cover}
use Rattle.mv_graph.specs.Above.{IsAbove}
use Rattle.mv_graph.proofs.Paths.{above_first}
use Rattle.mv_net.specs.declared.parts.FlatNet.{FlatNet}
use Rattle.mv_net.specs.declared.parts.NetParts.{NetParts}
use Rattle.mv_net.specs.Nets.{slot, values_in, table_in, table_reads, reads_in}
use Rattle.mv_net.specs.Formed.{IsCover, WellFormed}
use Rattle.mv_net.specs.Allowed.{net_allows, Agrees, of_net}
use Rattle.mv_net.specs.Changes.{with_nets}
use Rattle.mv_net.proofs.Ports.{KeepsPorts, AgreesAtPorts}
use Rattle.mv_meaning.specs.Rewriting.{with_net_table, IsOverTable, PutsAbove}
use Rattle.mv_meaning.specs.Narrowing.{ReadsWithin, KeepsSome, AreTotalBelow, IsRegion, StaysInside}
use Rattle.mv_net.proofs.Drivers.{Refines-by}
use Rattle.mv_meaning.proofs.Following.{above_then}
use Rattle.mv_meaning.proofs.OneTable.{IsReformed-given, one_table_formed, slot-there, table-here}
use Rattle.mv_meaning.proofs.Reformed.{agreeing_point, net_allows-parts, spelled_alike}
use Rattle.mv_meaning.proofs.Replacing.{replaced_at_ports}
use Rattle.mv_meaning.proofs.Settling.{settles}

module _ (net : NetParts) (n : ℕ) (old c : Cover) (formed : WellFormed net) (table : table_in (slot net.nets n) ≡ Some old) (is : IsCover net.nets (values_in (slot net.nets n)) c) (reads : ReadsWithin old c) where
  -- what the new table reads, or is above that, was above the net
  over_before : (m : ℕ) → IsOverTable net.nets c m → IsAbove (reads_in net.nets) m n
  over_before m over =
      let along : reads_in net.nets n over.first ≡ true = ap (λ t. table_reads t over.first) table ∙ reads.each over.first over.reads in
      ⊎_elim
      (λ (e : m ≡ over.first). record { path = []; goes = subst (λ k. reads_in net.nets n k ≡ true) (sym e) along })
      (λ (a : IsAbove (reads_in net.nets) m over.first). above_first (reads_in net.nets) n over.first m along a)
      over.up

  puts_none : (l r : ℕ) → PutsAbove net.nets n c l r → ⊥
  puts_none l r p =
      let up = over_before l p.up in
      ⊎_elim
      (λ (e : r ≡ n). formed.alone.none l r p.output p.reset_net (subst (λ k. IsAbove (reads_in net.nets) l k) (sym e) up))
      (λ (a : IsAbove (reads_in net.nets) n r). formed.alone.none l r p.output p.reset_net (above_then (reads_in net.nets) r n l a up))
      p.down

  pub narrowed_formed : WellFormed (with_nets net (with_net_table net.nets n c))
  narrowed_formed = one_table_formed net n old c formed table is (λ over. formed.acyclic.none n (over_before n over)) puts_none

  module _ (inside input output : ℕ → Bool) (keeps : KeepsSome net.nets old c) (total : AreTotalBelow net.nets n) (region : IsRegion net inside input output) (within : inside n ≡ true) (stays : StaysInside net.nets inside input output n c) where
    abbrev after : List (Option FlatNet)
    after = with_net_table net.nets n c

    elsewhere : (m : ℕ) → (m ≡ n → ⊥) → slot after m ≡ slot net.nets m
    elsewhere m ne = slot-there net.nets n old c table m ne

    ports_kept : KeepsPorts net after
    ports_kept =
        let reformed = IsReformed-given net.nets n old c table in
        record {
          names = λ m h. (reformed.each m).name;
          spelled = λ m h. spelled_alike (slot net.nets m) (slot after m) (reformed.each m);
          values = λ m h. (reformed.each m).values;
        }

    down : (x : ℕ → ℕ) → Agrees after x → AgreesAtPorts net net.nets x
    down x a =
        let others : (m : ℕ) → (m ≡ n → ⊥) → net_allows (slot net.nets m) x (x m) ≡ true = λ m ne. ap (λ f. net_allows f x (x m)) (sym (elsewhere m ne)) ∙ a.each m in
        let here = (net_allows-parts (slot after n) c x (x n) (table-here net.nets n old c table) (a.each n)).1 in
        let point = agreeing_point net.nets after x (λ m. ((IsReformed-given net.nets n old c table).each m).values) a in
        replaced_at_ports net inside input output formed region x
        (stays.each x point (record { each = λ m i ne. others m ne }) here)
        (λ m o. others m (λ e. false≢true (sym o ∙ (ap inside e ∙ within))))

    pub narrowed_refines : (free : Bool) → Refines free (of_net (with_nets net (with_net_table net.nets n c))) (of_net net)
    narrowed_refines free = Refines-by free net after ports_kept down (λ y a. settles net n old c formed table is reads keeps total y a)
