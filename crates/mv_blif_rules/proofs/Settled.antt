-- A network each table of which is total: whatever values its inputs and latch outputs have, some assignment agrees with it. Each
-- net with a table is given its value anew, so often that nothing changes any more.
use Rattle.std.proofs.Common.{◌≡◌, ◌∙◌, ◌⊎◌, ℕ, zero, suc, ◌<◌, Bool, true, false, nat_lt, Option, Some, None, length, map, is_some, inl, inr, refl, sym, ap, subst, ⊎_elim, arith}
use Rattle.std.proofs.lemmas.Bool.{and_from, cases_Bool, or_cases, false≢true, lt-ltb}
use Rattle.mv_cover.specs.declared.cover.Cover.{Cover}
use Rattle.mv_cover.specs.Covering.{IsPoint}
use Rattle.mv_graph.specs.Nets.{has_id}
use Rattle.mv_net.specs.declared.parts.FlatNet.{FlatNet}
use Rattle.mv_net.specs.declared.parts.NetParts.{NetParts}
use Rattle.mv_net.specs.Allowed.{net_allows, net_table_allows, Agrees}
use Rattle.mv_net.specs.Formed.{WellFormed, has_table}
use Rattle.mv_net.specs.Nets.{slot, values_in, table_in, reads_in}
use Rattle.mv_net.specs.Total.{IsTotal}
use Rattle.mv_net.proofs.Known.{counts_at, reads_readable, readable_below}
use Rattle.mv_net.proofs.Local.{net_allows-local}
use Rattle.mv_net.proofs.Ports.{is_latch_output, outputs_listed, SameSources, AgreesAtSources}
use Rattle.mv_net.proofs.Totals.{allowed_below}
use Rattle.mv_meaning.proofs.Bounded.{IsRankedWithin, ranked_within}
use Rattle.mv_meaning.proofs.Ranked.{not_without_ranks}
use Rattle.mv_meaning.proofs.Reformed.{net_allows-from}
use Rattle.mv_meaning.proofs.Rewired.{cover_at}
use Rattle.mv_chosen.proofs.Picking.{anew, anew-was, anew_same, anew_allowed, anew_low}

module _ (net : NetParts) (formed : WellFormed net) (total : (n : ℕ) (c : Cover) → table_in (slot net.nets n) ≡ Some c → IsTotal net.nets c) (x : ℕ → ℕ) (valued : (m : ℕ) → 0 < values_in (slot net.nets m) → x m < values_in (slot net.nets m)) where
  -- the net at a number has a table
  abbrev tabled : ℕ → Bool
  tabled m = is_some (table_in (slot net.nets m))

  -- the values behind so many rounds, in each of which each net with a table is given its value anew
  abbrev round : ℕ → ℕ → ℕ
  round zero m = x m
  round (suc k) m = anew (tabled m) (slot net.nets m) (round k) (x m)

  low : (k m : ℕ) → 0 < values_in (slot net.nets m) → round k m < values_in (slot net.nets m)
  low zero m some = valued m some
  low (suc k) m some = anew_low (tabled m) (slot net.nets m) (round k) (x m) some (valued m some)

  point : (k : ℕ) → IsPoint (map values_in net.nets) (round k)
  point k = record {
    below = λ m some. subst (λ v. round k m < v) (sym (counts_at net.nets m)) (low k m (subst (λ v. 0 < v) (counts_at net.nets m) some));
  }

  -- behind enough rounds nothing changes any more
  steady : (r : IsRankedWithin (reads_in net.nets) (length net.nets)) (k m : ℕ) → r.rank m < k → round k m ≡ round (suc k) m
  steady r zero m l = absurd (omega arith)
  steady r (suc k) m l =
      anew_same (tabled m) (slot net.nets m) (round k) (round (suc k)) (x m)
      (λ j h. let falls = r.falls m j h in steady r k j (omega arith))

  abbrev last : ℕ
  last = suc (length net.nets)

  -- what has no table keeps its value, which it allows
  bare_stays : (k m : ℕ) → tabled m ≡ false → round k m ≡ x m
  bare_stays zero m none = refl
  bare_stays (suc k) m none = anew-was (tabled m) (slot net.nets m) (round k) (x m) none

  no_table : (t : Option Cover) → is_some t ≡ false → t ≡ None
  no_table None h = refl
  no_table (Some c) h = absurd (false≢true (sym h))

  bare_allows : (m : ℕ) → tabled m ≡ false → net_allows (slot net.nets m) (round (length net.nets)) (round last m) ≡ true
  bare_allows m none = ap (net_allows (slot net.nets m) (round (length net.nets))) (bare_stays last m none) ∙ by_slot (slot net.nets m) refl
    where
      by_slot : (f : Option FlatNet) → slot net.nets m ≡ f → net_allows f (round (length net.nets)) (x m) ≡ true
      by_slot None held = refl
      by_slot (Some f) held =
          let table : f.table ≡ None = no_table f.table (sym (ap (λ g. is_some (table_in g)) held) ∙ none) in
          let some : 0 < values_in (slot net.nets m) = subst (λ (g : Option FlatNet). 0 < values_in g) (sym held) (formed.nets m f held).some in
          let value : x m < f.values = subst (λ (g : Option FlatNet). x m < values_in g) held (valued m some) in
          and_from (nat_lt (x m) f.values) (net_table_allows f.table (round (length net.nets)) (x m)) (lt-ltb (x m) f.values value) (ap (λ t. net_table_allows t (round (length net.nets)) (x m)) table)

  -- what has one allows its value at the end
  table_allows : (m : ℕ) (c : Cover) → table_in (slot net.nets m) ≡ Some c → net_allows (slot net.nets m) (round (length net.nets)) (round last m) ≡ true
  table_allows m c table =
      let some = (total m c table).some (round (length net.nets)) (point (length net.nets)) in
      let below : some.value < values_in (slot net.nets m) = allowed_below net.nets (values_in (slot net.nets m)) c (round (length net.nets)) some.value (cover_at net m c formed table) some.is_allowed in
      anew_allowed (tabled m) (slot net.nets m) (round (length net.nets)) (x m) some.value (ap (λ t. is_some t) table)
      (net_allows-from (slot net.nets m) c (round (length net.nets)) some.value table below some.is_allowed)

  each_allows : (m : ℕ) → net_allows (slot net.nets m) (round (length net.nets)) (round last m) ≡ true
  each_allows m = by_table (table_in (slot net.nets m)) refl
    where
      by_table : (t : Option Cover) → table_in (slot net.nets m) ≡ t → net_allows (slot net.nets m) (round (length net.nets)) (round last m) ≡ true
      by_table None e = bare_allows m (ap (λ t. is_some t) e)
      by_table (Some c) e = table_allows m c e

  settled_by : IsRankedWithin (reads_in net.nets) (length net.nets) → (m : ℕ) → net_allows (slot net.nets m) (round last) (round last m) ≡ true
  settled_by r m =
      sym (net_allows-local (slot net.nets m) (round (length net.nets)) (round last) (round last m)
      (λ j h. let falls = r.falls m j h in let most = r.low m in steady r (length net.nets) j (omega arith)))
      ∙ each_allows m

  below_size : (m j : ℕ) → reads_in net.nets m j ≡ true → j < length net.nets
  below_size m j h = readable_below net.nets j (reads_readable net m j formed h)

  -- so all agree
  settled : Agrees net.nets (round last)
  settled = record {
    each = λ m.
        ⊎_elim
        (λ (t : net_allows (slot net.nets m) (round last) (round last m) ≡ true). t)
        (λ (f : net_allows (slot net.nets m) (round last) (round last m) ≡ false).
        absurd (not_without_ranks net formed (λ r. false≢true (sym f ∙ settled_by (ranked_within (reads_in net.nets) (length net.nets) below_size r) m))))
        (cases_Bool (net_allows (slot net.nets m) (round last) (round last m)));
  }

  -- inputs and latch outputs have no table
  source_stays : (m : ℕ) (f : FlatNet) → slot net.nets m ≡ Some f → has_table f.kind ≡ false → x m ≡ round last m
  source_stays m f held e = sym (bare_stays last m (ap (λ g. is_some (table_in g)) held ∙ ((formed.nets m f held).table ∙ e)))

  sources : SameSources net x (round last)
  sources = record { each = λ m h. by_source m (or_cases (has_id net.inputs m) (is_latch_output net.latches m) h) }
    where
      by_source : (m : ℕ) → (has_id net.inputs m ≡ true) ⊎ (is_latch_output net.latches m ≡ true) → x m ≡ round last m
      by_source m (inl h) = let k = formed.inputs.only (record { 0 = m }) h in source_stays m k.net k.held (ap has_table k.is)
      by_source m (inr h) =
          let k = formed.states.only (record { 0 = m }) (outputs_listed net.latches m ∙ h) in
          source_stays m k.net k.held (ap has_table k.is)

  pub settled_from : AgreesAtSources net net.nets x
  settled_from = record { at = round last; agrees = settled; same = sources }
