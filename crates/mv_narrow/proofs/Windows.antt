-- A window is a region, in which what a flexibility allows can be replaced.
use Rattle.std.proofs.Common.{◌≡◌, ℕ, ◌<◌, Bool, true, map, Option, Some, None, is_some, inl, refl, sym, ap, subst}
use Rattle.mv_base.specs.Meaning.{Refines}
use Rattle.mv_cover.specs.declared.cover.Cover.{Cover}
use Rattle.mv_cover.specs.Covering.{IsPoint}
use Rattle.mv_flex.specs.Flex.{AgreesBeside, CoverInFlex, HasReplacement, InFlex, IsPair, KeepsChoice}
use Rattle.mv_graph.specs.Nets.{has_id}
use Rattle.mv_meaning.specs.Narrowing.{AgreesInsideBut, IsRegion, IsReplacedBy, KeepsSome, ReadsWithin, StaysInside}
use Rattle.mv_meaning.specs.Rewriting.{with_net_table}
use Rattle.mv_meaning.proofs.Narrowing.{narrowed_refines}
use Rattle.mv_narrow.specs.declared.verdict.NarrowVerdict.TheVariants.{Lawful}
use Rattle.mv_narrow.specs.Verdicts.{IsNarrowVerdict}
use Rattle.mv_net.specs.declared.parts.FlatNet.{FlatNet}
use Rattle.mv_net.specs.declared.parts.NetParts.{NetParts}
use Rattle.mv_net.specs.declared.window.Window.{Window}
use Rattle.mv_net.specs.Allowed.{of_net}
use Rattle.mv_net.specs.Changes.{with_nets}
use Rattle.mv_net.specs.Formed.{IsCover, WellFormed}
use Rattle.mv_net.specs.Nets.{slot, table_in, values_in, reads_in}
use Rattle.mv_net.specs.Window.{IsWindow}
use Rattle.mv_net.proofs.Known.{counts_at, reads_readable, values_some}

module _ (net : NetParts) (n d u : ℕ) (w : Window) (formed : WellFormed net) (is : IsWindow net n d u w) where
  pub window_region : IsRegion net (has_id w.tables) (has_id w.inputs) (has_id w.outputs)
  window_region = record {
    tables = λ m h. ((is.tables.members m).0 h).table;
    inputs = λ m k h r o. (is.inputs.members k).1 (record { reader = m; is_inside = h; reads = r; outside = o });
    outputs = λ m h s. (is.outputs.members m).1 (record { is_inside = h; shown = s });
  }

  -- the net is in its window
  pub window_has : (old : Cover) → table_in (slot net.nets n) ≡ Some old → has_id w.tables n ≡ true
  window_has old table =
      (is.tables.members n).1
      (record { around = record { net = n; below = inl refl; above = inl refl }; table = ap (λ t. is_some t) table })

  -- a point gives a net that is read one of its values
  read_low : (m k : ℕ) (at : ℕ → ℕ) → IsPoint (map values_in net.nets) at → reads_in net.nets m k ≡ true → at k < values_in (slot net.nets k)
  read_low m k at point h =
      let readable = reads_readable net m k formed h in
      let some = values_some net k formed (ap (λ f. is_some f) readable.held) in
      subst (λ v. at k < v) (counts_at net.nets k) (point.below k (subst (λ v. 0 < v) (sym (counts_at net.nets k)) some))

  module _ (old new : Cover) (table : table_in (slot net.nets n) ≡ Some old) where
    pub window_keeps : KeepsChoice net.nets n old new → KeepsSome net.nets old new
    window_keeps keeps = record { each = λ at point some. keeps.each at (record { fanins = λ m h. read_low n m at point h }) some }

    -- the net has values
    net_low : (at : ℕ → ℕ) → IsPoint (map values_in net.nets) at → at n < values_in (slot net.nets n)
    net_low at point =
        let some = values_some net n formed (held table) in
        subst (λ v. at n < v) (counts_at net.nets n) (point.below n (subst (λ v. 0 < v) (sym (counts_at net.nets n)) some))
      where
        held : table_in (slot net.nets n) ≡ Some old → is_some (slot net.nets n) ≡ true
        held e = held_by (slot net.nets n) e
          where
            held_by : (f : Option FlatNet) → table_in f ≡ Some old → is_some f ≡ true
            held_by None h = cc
            held_by (Some f) h = refl

    pub window_stays : CoverInFlex net.nets w n new → StaysInside net.nets (has_id w.tables) (has_id w.inputs) (has_id w.outputs) n new
    window_stays inside = record { each = λ at point agrees allows. replaced at point agrees (inside.each at (at n) (pair at point) allows) }
      where
        pair : (at : ℕ → ℕ) → IsPoint (map values_in net.nets) at → IsPair net.nets n at (at n)
        pair at point = record { point = record { fanins = λ m h. read_low n m at point h }; value = net_low at point }

        inputs_low : (at : ℕ → ℕ) → IsPoint (map values_in net.nets) at → (m : ℕ) → has_id w.inputs m ≡ true → at m < values_in (slot net.nets m)
        inputs_low at point m h = let input = (is.inputs.members m).0 h in read_low input.reader m at point input.reads

        replaced : (at : ℕ → ℕ) → IsPoint (map values_in net.nets) at → AgreesInsideBut net.nets (has_id w.tables) n at → InFlex net.nets w n at (at n)
            → IsReplacedBy net.nets (has_id w.tables) (has_id w.inputs) (has_id w.outputs) at
        replaced at point agrees flex =
            let beside : AgreesBeside net.nets w n at =
            record { inputs = λ m h. inputs_low at point m h; here = net_low at point; tables = λ m ne h. agrees.each m h ne } in
            let by : HasReplacement net.nets w at = flex.replaced at beside (λ m h. refl) refl in
            record { by = by.given; agrees = λ m h. by.agrees.tables m h; inputs = λ m h. by.inputs m h; outputs = λ m h. by.outputs m h }

pub lawful_refines : (free : Bool) (net : NetParts) (n d u budget : ℕ) (old new : Cover) → WellFormed net → table_in (slot net.nets n) ≡ Some old → IsCover net.nets (values_in (slot net.nets n)) new → ReadsWithin old new → IsNarrowVerdict net n d u budget old new Lawful
    → Refines free (of_net (with_nets net (with_net_table net.nets n new))) (of_net net)
lawful_refines free net n d u budget old new formed table is reads lawful =
    let w : Window = lawful.1.0.window in
    let around = lawful.1.0.is in
    narrowed_refines net n old new formed table is reads (has_id w.tables) (has_id w.inputs) (has_id w.outputs)
    (window_keeps net n d u w formed around old new table lawful.1.1) lawful.0
    (window_region net n d u w formed around) (window_has net n d u w formed around old table)
    (window_stays net n d u w formed around old new table lawful.1.0.holds.inside) free
