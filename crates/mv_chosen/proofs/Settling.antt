-- A network gets nets of which each table allows something at every point and reads what the old one did, or less: an assignment
-- that agreed settles to one that agrees now, with the same values at the inputs and the latch outputs.
use Rattle.std.proofs.Common.{◌≡◌, ◌∙◌, ◌⊎◌, ℕ, zero, suc, ◌<◌, Bool, true, false, List, length, map, Option, Some, None, IsTrue, is_some, refl, sym, ap, subst, ⊎_elim, inl, inr, arith}
use Rattle.std.proofs.lemmas.Bool.{cases_Bool, or_cases, false≢true}
use Rattle.mv_base.specs.Meaning.{Refines}
use Rattle.mv_cover.specs.declared.cover.Cover.{Cover}
use Rattle.mv_cover.specs.Covers.{allowed}
use Rattle.mv_cover.specs.Covering.{IsPoint}
use Rattle.mv_graph.specs.Nets.{has_id}
use Rattle.mv_net.specs.declared.parts.FlatNet.{FlatNet}
use Rattle.mv_net.specs.declared.parts.NetParts.{NetParts}
use Rattle.mv_net.specs.Nets.{slot, values_in, table_in, table_reads, reads_in}
use Rattle.mv_net.specs.Formed.{WellFormed, has_table}
use Rattle.mv_net.specs.Allowed.{net_allows, net_table_allows, Agrees, of_net}
use Rattle.mv_net.specs.Changes.{with_nets}
use Rattle.mv_net.proofs.Known.{counts_at, reads_readable, readable_below}
use Rattle.mv_net.proofs.Local.{net_allows-local}
use Rattle.mv_net.proofs.Ports.{is_latch_output, outputs_listed, SameSources, AgreesAtSources, SamePorts-refl}
use Rattle.mv_net.proofs.Drivers.{Refines-by}
use Rattle.mv_meaning.specs.Rewriting.{IsReformed}
use Rattle.mv_meaning.proofs.Bounded.{IsRankedWithin, ranked_within}
use Rattle.mv_meaning.proofs.Ranked.{not_without_ranks}
use Rattle.mv_meaning.proofs.Reformed.{KeepsPorts-reformed, agreeing_point, net_allows-alike, net_allows-from}
use Rattle.mv_chosen.proofs.Picking.{anew, anew-was, anew_same, anew_allowed, anew_low}

-- the table allows one of so many values
pub record AllowsBelow (values : ℕ) (c : Cover) (at : ℕ → ℕ) : Type 0 where
  pub value : ℕ
  pub low : value < values
  pub is_allowed : IsTrue (allowed c at value)

-- where some assignment agrees with the old nets, each table of the new ones allows one of its net's values at every point; and
-- no net reads what it didn't
pub record AreSettling (old new : List (Option FlatNet)) : Type 0 where
  pub alike : IsReformed old new
  pub reads : (n m : ℕ) → reads_in new n m ≡ true → reads_in old n m ≡ true
  pub some : (y : ℕ → ℕ) → Agrees old y → (n : ℕ) (c : Cover) → table_in (slot new n) ≡ Some c → (at : ℕ → ℕ) → IsPoint (map values_in old) at → AllowsBelow (values_in (slot old n)) c at

module _ (net : NetParts) (nets : List (Option FlatNet)) (formed : WellFormed net) (is : AreSettling net.nets nets) (y : ℕ → ℕ) (agrees : Agrees net.nets y) where
  -- the net at a number has a table
  abbrev tabled : ℕ → Bool
  tabled m = is_some (table_in (slot nets m))

  -- the values behind so many rounds, in each of which each net with a table is given its value anew
  abbrev round : ℕ → ℕ → ℕ
  round zero m = y m
  round (suc k) m = anew (tabled m) (slot nets m) (round k) (y m)

  was_point : IsPoint (map values_in net.nets) y
  was_point = agreeing_point net.nets net.nets y (λ m. refl) agrees

  was_low : (m : ℕ) → 0 < values_in (slot net.nets m) → y m < values_in (slot net.nets m)
  was_low m some = subst (λ v. y m < v) (counts_at net.nets m) (was_point.below m (subst (λ v. 0 < v) (sym (counts_at net.nets m)) some))

  low : (k m : ℕ) → 0 < values_in (slot net.nets m) → round k m < values_in (slot net.nets m)
  low zero m some = was_low m some
  low (suc k) m some =
      let same = (is.alike.each m).values in
      subst (λ v. anew (tabled m) (slot nets m) (round k) (y m) < v) same
      (anew_low (tabled m) (slot nets m) (round k) (y m) (subst (λ v. 0 < v) (sym same) some) (subst (λ v. y m < v) (sym same) (was_low m some)))

  point : (k : ℕ) → IsPoint (map values_in net.nets) (round k)
  point k = record {
    below = λ m some. subst (λ v. round k m < v) (sym (counts_at net.nets m)) (low k m (subst (λ v. 0 < v) (counts_at net.nets m) some));
  }

  -- behind enough rounds nothing changes any more
  steady : (r : IsRankedWithin (reads_in net.nets) (length net.nets)) (k m : ℕ) → r.rank m < k → round k m ≡ round (suc k) m
  steady r zero m l = absurd (omega arith)
  steady r (suc k) m l =
      anew_same (tabled m) (slot nets m) (round k) (round (suc k)) (y m)
      (λ j h. let falls = r.falls m j (is.reads m j h) in steady r k j (omega arith))

  abbrev last : ℕ
  last = suc (length net.nets)

  -- what has no table keeps its value, which it allows
  bare_stays : (k m : ℕ) → tabled m ≡ false → round k m ≡ y m
  bare_stays zero m none = refl
  bare_stays (suc k) m none = anew-was (tabled m) (slot nets m) (round k) (y m) none

  no_table : (t : Option Cover) → is_some t ≡ false → t ≡ None
  no_table None h = refl
  no_table (Some c) h = absurd (false≢true (sym h))

  bare_allows : (m : ℕ) → tabled m ≡ false → net_allows (slot nets m) (round (length net.nets)) (round last m) ≡ true
  bare_allows m none =
      let now : table_in (slot nets m) ≡ None = no_table (table_in (slot nets m)) none in
      let was : table_in (slot net.nets m) ≡ None = no_table (table_in (slot net.nets m)) (sym (is.alike.each m).tabled ∙ none) in
      ap (net_allows (slot nets m) (round (length net.nets))) (bare_stays last m none)
      ∙ (net_allows-local (slot nets m) (round (length net.nets)) y (y m) (λ j h. absurd (false≢true (sym (ap (λ t. table_reads t j) now) ∙ h)))
      ∙ (net_allows-alike (slot net.nets m) (slot nets m) y (y m) (is.alike.each m) (ap (λ t. net_table_allows t y (y m)) (now ∙ sym was)) ∙ agrees.each m))

  -- what has one allows its value at the end
  table_allows : (m : ℕ) (c : Cover) → table_in (slot nets m) ≡ Some c → net_allows (slot nets m) (round (length net.nets)) (round last m) ≡ true
  table_allows m c table =
      let some = is.some y agrees m c table (round (length net.nets)) (point (length net.nets)) in
      anew_allowed (tabled m) (slot nets m) (round (length net.nets)) (y m) some.value (ap (λ t. is_some t) table)
      (net_allows-from (slot nets m) c (round (length net.nets)) some.value table (subst (λ v. some.value < v) (sym (is.alike.each m).values) some.low) some.is_allowed)

  each_allows : (m : ℕ) → net_allows (slot nets m) (round (length net.nets)) (round last m) ≡ true
  each_allows m = by_table (table_in (slot nets m)) refl
    where
      by_table : (t : Option Cover) → table_in (slot nets m) ≡ t → net_allows (slot nets m) (round (length net.nets)) (round last m) ≡ true
      by_table None e = bare_allows m (ap (λ t. is_some t) e)
      by_table (Some c) e = table_allows m c e

  settled_by : IsRankedWithin (reads_in net.nets) (length net.nets) → (m : ℕ) → net_allows (slot nets m) (round last) (round last m) ≡ true
  settled_by r m =
      sym (net_allows-local (slot nets m) (round (length net.nets)) (round last) (round last m)
      (λ j h. let falls = r.falls m j (is.reads m j h) in let most = r.low m in steady r (length net.nets) j (omega arith)))
      ∙ each_allows m

  below_size : (m j : ℕ) → reads_in net.nets m j ≡ true → j < length net.nets
  below_size m j h = readable_below net.nets j (reads_readable net m j formed h)

  -- so all agree
  settled : Agrees nets (round last)
  settled = record {
    each = λ m.
        ⊎_elim
        (λ (t : net_allows (slot nets m) (round last) (round last m) ≡ true). t)
        (λ (f : net_allows (slot nets m) (round last) (round last m) ≡ false).
        absurd (not_without_ranks net formed (λ r. false≢true (sym f ∙ settled_by (ranked_within (reads_in net.nets) (length net.nets) below_size r) m))))
        (cases_Bool (net_allows (slot nets m) (round last) (round last m)));
  }

  -- inputs and latch outputs have no table
  source_stays : (m : ℕ) (f : FlatNet) → slot net.nets m ≡ Some f → has_table f.kind ≡ false → y m ≡ round last m
  source_stays m f held e =
      let was : is_some (table_in (slot net.nets m)) ≡ false = ap (λ g. is_some (table_in g)) held ∙ ((formed.nets m f held).table ∙ e) in
      sym (bare_stays last m ((is.alike.each m).tabled ∙ was))

  sources : SameSources net y (round last)
  sources = record { each = λ m h. by_source m (or_cases (has_id net.inputs m) (is_latch_output net.latches m) h) }
    where
      by_source : (m : ℕ) → (has_id net.inputs m ≡ true) ⊎ (is_latch_output net.latches m ≡ true) → y m ≡ round last m
      by_source m (inl h) = let k = formed.inputs.only (record { 0 = m }) h in source_stays m k.net k.held (ap has_table k.is)
      by_source m (inr h) =
          let k = formed.states.only (record { 0 = m }) (outputs_listed net.latches m ∙ h) in
          source_stays m k.net k.held (ap has_table k.is)

  pub settles : AgreesAtSources net nets y
  settles = record { at = round last; agrees = settled; same = sources }

-- so the network with them may take the old one's place, where what agrees with them agreed with the old ones
pub settling_refines : (free : Bool) (net : NetParts) (nets : List (Option FlatNet)) → WellFormed net → AreSettling net.nets nets → ((x : ℕ → ℕ) → Agrees nets x → Agrees net.nets x) → Refines free (of_net (with_nets net nets)) (of_net net)
settling_refines free net nets formed is down =
    Refines-by free net nets (KeepsPorts-reformed net nets is.alike)
    (λ x a. record { at = x; agrees = down x a; same = SamePorts-refl net x })
    (λ y a. settles net nets formed is y a)
