-- Tables that are chosen: the network with them may take the old one's place, has total tables again, and means what it meant where
-- only reset tables gave way.
use Rattle.std.proofs.Common.{◌≡◌, ◌∙◌, ◌⊎◌, ℕ, ◌<◌, Bool, true, false, List, map, Option, Some, None, IsTrue, is_some, refl, sym, ap, subst, ⊎_elim, inl, inr}
use Rattle.std.proofs.lemmas.Bool.{cases_Bool, false≢true}
use Rattle.mv_base.specs.Meaning.{Refines, SameMeaning}
use Rattle.mv_cover.specs.declared.cover.Cover.{Cover}
use Rattle.mv_cover.specs.Covers.{allowed, cover_reads}
use Rattle.mv_cover.specs.Covering.{IsPoint}
use Rattle.mv_net.specs.declared.parts.Kind.{Kind}
use Rattle.mv_net.specs.declared.parts.Kind.TheVariants.{Input, Latch, Table, Reset}
use Rattle.mv_net.specs.declared.parts.FlatNet.{FlatNet}
use Rattle.mv_net.specs.declared.parts.NetParts.{NetParts}
use Rattle.mv_net.specs.Nets.{slot, values_in, table_in, table_reads, reads_in}
use Rattle.mv_net.specs.Formed.{IsKind, WellFormed, has_table}
use Rattle.mv_net.specs.Allowed.{net_allows, net_table_allows, Agrees, of_net}
use Rattle.mv_net.specs.Changes.{with_nets}
use Rattle.mv_net.specs.Index.{is_reset, kind_in}
use Rattle.mv_net.specs.Total.{IsTotal}
use Rattle.mv_net.proofs.Known.{reads_readable}
use Rattle.mv_net.proofs.Local.{net_allows-local}
use Rattle.mv_net.proofs.Totals.{allowed_below, IsTotal-before}
use Rattle.mv_meaning.proofs.Reformed.{agreeing_point, net_allows-alike, net_allows-from, net_allows-parts, same_agreeing}
use Rattle.mv_meaning.proofs.Rewired.{cover_at}
use Rattle.mv_chosen.specs.Chosen.{TakesOne, IsFixed, HaveFixedResets, AreChosen}
use Rattle.mv_chosen.proofs.Picking.{anew, anew-was, anew_allowed}
use Rattle.mv_chosen.proofs.Resets.{always_value, fixed_kind}
use Rattle.mv_chosen.proofs.Settling.{AllowsBelow, AreSettling, settling_refines}

-- ---- reset nets

plain_kind : (k : Kind) → (k ≡ Reset → ⊥) → is_reset (Some k) ≡ false
plain_kind Input plain = refl
plain_kind Latch plain = refl
plain_kind Table plain = refl
plain_kind Reset plain = absurd (plain refl)

reset_kind : (k : Kind) → is_reset (Some k) ≡ true → k ≡ Reset
reset_kind Input h = absurd (false≢true h)
reset_kind Latch h = absurd (false≢true h)
reset_kind Table h = absurd (false≢true h)
reset_kind Reset h = refl

pub IsKind-reset : (nets : List (Option FlatNet)) (n : ℕ) → is_reset (kind_in (slot nets n)) ≡ true → IsKind nets n Reset
IsKind-reset nets n h = by_slot (slot nets n) refl
  where
    by_slot : (f : Option FlatNet) → slot nets n ≡ f → IsKind nets n Reset
    by_slot None e = absurd (false≢true (sym (ap (λ g. is_reset (kind_in g)) e) ∙ h))
    by_slot (Some f) e = record { net = f; held = e; is = reset_kind f.kind (sym (ap (λ g. is_reset (kind_in g)) e) ∙ h) }

-- a table that is there
some_table : (t : Option Cover) → is_some t ≡ true → (c : Cover) × (t ≡ Some c)
some_table None h = absurd (false≢true h)
some_table (Some c) h = (c, refl)

module _ (net : NetParts) (nets : List (Option FlatNet)) (formed : WellFormed net) (total : (n : ℕ) (c : Cover) → table_in (slot net.nets n) ≡ Some c → IsTotal net.nets c) (are : AreChosen net nets) where
  was_table : (n : ℕ) (d : Cover) → table_in (slot nets n) ≡ Some d → (c : Cover) × (table_in (slot net.nets n) ≡ Some c)
  was_table n d e = some_table (table_in (slot net.nets n)) (sym (are.alike.each n).tabled ∙ ap (λ t. is_some t) e)

  now_table : (n : ℕ) (c : Cover) → table_in (slot net.nets n) ≡ Some c → (d : Cover) × (table_in (slot nets n) ≡ Some d)
  now_table n c e = some_table (table_in (slot nets n)) ((are.alike.each n).tabled ∙ ap (λ t. is_some t) e)

  -- a total table of the network allows one of its net's values
  allows_low : (n : ℕ) (c : Cover) (at : ℕ → ℕ) (v : ℕ) → table_in (slot net.nets n) ≡ Some c → IsTrue (allowed c at v) → v < values_in (slot net.nets n)
  allows_low n c at v e h = allowed_below net.nets (values_in (slot net.nets n)) c at v (cover_at net n c formed e) h

  -- ---- reads, and values

  reads_before : (n m : ℕ) → reads_in nets n m ≡ true → reads_in net.nets n m ≡ true
  reads_before n m h = by_table (table_in (slot nets n)) refl
    where
      by_cover : (d : Cover) → table_in (slot nets n) ≡ Some d → reads_in net.nets n m ≡ true
      by_cover d e =
          let c = was_table n d e in
          let now : cover_reads d m ≡ true = sym (ap (λ t. table_reads t m) e) ∙ h in
          ap (λ t. table_reads t m) c.1
          ∙ ⊎_elim
          (λ (same : d ≡ c.0). subst (λ k. cover_reads k m ≡ true) same now)
          (λ (other : TakesOne net.nets c.0 d ⊎ IsFixed net n d).
          ⊎_elim
          (λ (takes : TakesOne net.nets c.0 d). takes.reads.each m now)
          (λ (fixed : IsFixed net n d). absurd (false≢true (sym (fixed.constant.unread m) ∙ now)))
          other)
          (are.each n c.0 d c.1 e)

      by_table : (t : Option Cover) → table_in (slot nets n) ≡ t → reads_in net.nets n m ≡ true
      by_table None e = absurd (false≢true (sym (ap (λ t. table_reads t m) e) ∙ h))
      by_table (Some d) e = by_cover d e

  -- where some assignment agrees, each new table allows one of its net's values
  allows_some : (y : ℕ → ℕ) → Agrees net.nets y → (n : ℕ) (d : Cover) → table_in (slot nets n) ≡ Some d → (at : ℕ → ℕ) → IsPoint (map values_in net.nets) at → AllowsBelow (values_in (slot net.nets n)) d at
  allows_some y agrees n d e at point =
      let c = was_table n d e in
      ⊎_elim
      (λ (same : d ≡ c.0).
      let some = (total n c.0 c.1).some at point in
      record { value = some.value; low = allows_low n c.0 at some.value c.1 some.is_allowed; is_allowed = subst (λ k. IsTrue (allowed k at some.value)) (sym same) some.is_allowed })
      (λ (other : TakesOne net.nets c.0 d ⊎ IsFixed net n d).
      ⊎_elim
      (λ (takes : TakesOne net.nets c.0 d).
      let one = takes.each at point in
      record { value = one.value; low = allows_low n c.0 at one.value c.1 one.was_allowed; is_allowed = (one.only one.value).1 refl })
      (λ (fixed : IsFixed net n d).
      let low : y n < values_in (slot net.nets n) = (net_allows-parts (slot net.nets n) c.0 y (y n) c.1 (agrees.each n)).0 in
      record {
        value = fixed.value;
        low = subst (λ v. v < values_in (slot net.nets n)) (always_value net y n d formed agrees fixed) low;
        is_allowed = (fixed.constant.only at fixed.value).1 refl;
      })
      other)
      (are.each n c.0 d c.1 e)

  settling : AreSettling net.nets nets
  settling = record { alike = are.alike; reads = reads_before; some = allows_some }

  -- ---- what agrees now agreed before

  module _ (x : ℕ → ℕ) (agrees : Agrees nets x) where
    point : IsPoint (map values_in net.nets) x
    point = agreeing_point net.nets nets x (λ n. (are.alike.each n).values) agrees

    -- a net agrees as it did, if it does where it is fixed
    agrees_at : (n : ℕ) → ((d : Cover) → table_in (slot nets n) ≡ Some d → IsFixed net n d → IsTrue (net_allows (slot net.nets n) x (x n))) → IsTrue (net_allows (slot net.nets n) x (x n))
    agrees_at n where_fixed = by_table (table_in (slot net.nets n)) refl
      where
        by_none : table_in (slot net.nets n) ≡ None → IsTrue (net_allows (slot net.nets n) x (x n))
        by_none e =
            let now : table_in (slot nets n) ≡ None = no_table (table_in (slot nets n)) ((are.alike.each n).tabled ∙ ap (λ t. is_some t) e) in
            sym (net_allows-alike (slot net.nets n) (slot nets n) x (x n) (are.alike.each n) (ap (λ t. net_table_allows t x (x n)) (now ∙ sym e))) ∙ agrees.each n
          where
            no_table : (t : Option Cover) → is_some t ≡ false → t ≡ None
            no_table None h = refl
            no_table (Some c) h = absurd (false≢true (sym h))

        by_cover : (c : Cover) → table_in (slot net.nets n) ≡ Some c → IsTrue (net_allows (slot net.nets n) x (x n))
        by_cover c e =
            let d = now_table n c e in
            let now = net_allows-parts (slot nets n) d.0 x (x n) d.1 (agrees.each n) in
            let low : x n < values_in (slot net.nets n) = subst (λ v. x n < v) (are.alike.each n).values now.0 in
            ⊎_elim
            (λ (same : d.0 ≡ c). net_allows-from (slot net.nets n) c x (x n) e low (subst (λ k. IsTrue (allowed k x (x n))) same now.1))
            (λ (other : TakesOne net.nets c d.0 ⊎ IsFixed net n d.0).
            ⊎_elim
            (λ (takes : TakesOne net.nets c d.0).
            let one = takes.each x point in
            net_allows-from (slot net.nets n) c x (x n) e low (subst (λ v. IsTrue (allowed c x v)) (sym ((one.only (x n)).0 now.1)) one.was_allowed))
            (λ (fixed : IsFixed net n d.0). where_fixed d.0 d.1 fixed)
            other)
            (are.each n c d.0 e d.1)

        by_table : (t : Option Cover) → table_in (slot net.nets n) ≡ t → IsTrue (net_allows (slot net.nets n) x (x n))
        by_table None e = by_none e
        by_table (Some c) e = by_cover c e

    -- the assignment with values of the reset nets that their old tables allow
    abbrev restored : ℕ → ℕ
    restored n = anew (is_reset (kind_in (slot net.nets n))) (slot net.nets n) x (x n)

    -- nobody reads a reset net
    read_same : (n m : ℕ) → reads_in net.nets n m ≡ true → restored m ≡ x m
    read_same n m h =
        let r = reads_readable net n m formed h in
        anew-was (is_reset (kind_in (slot net.nets m))) (slot net.nets m) x (x m) (ap (λ f. is_reset (kind_in f)) r.held ∙ plain_kind r.net.kind r.plain)

    restored_local : (n v : ℕ) → net_allows (slot net.nets n) restored v ≡ net_allows (slot net.nets n) x v
    restored_local n v = net_allows-local (slot net.nets n) restored x v (λ m h. read_same n m h)

    reset_agrees : (n : ℕ) → is_reset (kind_in (slot net.nets n)) ≡ true → IsTrue (net_allows (slot net.nets n) x (restored n))
    reset_agrees n h =
        let k = IsKind-reset net.nets n h in
        let c = some_table (table_in (slot net.nets n)) (ap (λ f. is_some (table_in f)) k.held ∙ ((formed.nets n k.net k.held).table ∙ ap has_table k.is)) in
        let some = (total n c.0 c.1).some x point in
        anew_allowed (is_reset (kind_in (slot net.nets n))) (slot net.nets n) x (x n) some.value h
        (net_allows-from (slot net.nets n) c.0 x some.value c.1 (allows_low n c.0 x some.value c.1 some.is_allowed) some.is_allowed)

    plain_agrees : (n : ℕ) → is_reset (kind_in (slot net.nets n)) ≡ false → IsTrue (net_allows (slot net.nets n) x (restored n))
    plain_agrees n h =
        ap (net_allows (slot net.nets n) x) (anew-was (is_reset (kind_in (slot net.nets n))) (slot net.nets n) x (x n) h)
        ∙ agrees_at n (λ d e fixed. absurd (false≢true (sym h ∙ is_reset_net (fixed_kind net n d formed fixed))))
      where
        is_reset_net : IsKind net.nets n Reset → is_reset (kind_in (slot net.nets n)) ≡ true
        is_reset_net k = ap (λ f. is_reset (kind_in f)) k.held ∙ ap (λ t. is_reset (Some t)) k.is

    restored_agrees : Agrees net.nets restored
    restored_agrees = record {
      each = λ n.
          restored_local n (restored n)
          ∙ ⊎_elim
          (λ (h : is_reset (kind_in (slot net.nets n)) ≡ true). reset_agrees n h)
          (λ (h : is_reset (kind_in (slot net.nets n)) ≡ false). plain_agrees n h)
          (cases_Bool (is_reset (kind_in (slot net.nets n))));
    }

    -- so they are what the assignment has
    fixed_agrees : (n : ℕ) (d : Cover) → table_in (slot nets n) ≡ Some d → IsFixed net n d → IsTrue (net_allows (slot net.nets n) x (x n))
    fixed_agrees n d e fixed =
        let here : x n ≡ fixed.value = (fixed.constant.only x (x n)).0 (net_allows-parts (slot nets n) d x (x n) e (agrees.each n)).1 in
        let there : restored n ≡ fixed.value = always_value net restored n d formed restored_agrees fixed in
        ap (net_allows (slot net.nets n) x) (here ∙ sym there) ∙ (sym (restored_local n (restored n)) ∙ restored_agrees.each n)

    agreed : Agrees net.nets x
    agreed = record { each = λ n. agrees_at n (fixed_agrees n) }

  pub chosen_refines : (free : Bool) → Refines free (of_net (with_nets net nets)) (of_net net)
  chosen_refines free = settling_refines free net nets formed settling agreed

  -- ---- the new tables

  pub chosen_total : (n : ℕ) (d : Cover) → table_in (slot nets n) ≡ Some d → IsTotal nets d
  chosen_total n d e =
      let c = was_table n d e in
      IsTotal-before nets net.nets d (λ m _. sym (are.alike.each m).values)
      (⊎_elim
      (λ (same : d ≡ c.0). subst (IsTotal net.nets) (sym same) (total n c.0 c.1))
      (λ (other : TakesOne net.nets c.0 d ⊎ IsFixed net n d).
      ⊎_elim
      (λ (takes : TakesOne net.nets c.0 d). record { some = λ at point. let one = takes.each at point in record { value = one.value; is_allowed = (one.only one.value).1 refl } })
      (λ (fixed : IsFixed net n d). record { some = λ at point. record { value = fixed.value; is_allowed = (fixed.constant.only at fixed.value).1 refl } })
      other)
      (are.each n c.0 d c.1 e))

-- ---- reset tables alone

module _ (net : NetParts) (nets : List (Option FlatNet)) (formed : WellFormed net) (total : (n : ℕ) (c : Cover) → table_in (slot net.nets n) ≡ Some c → IsTotal net.nets c) (fix : HaveFixedResets net nets) where
  are_chosen : AreChosen net nets
  are_chosen = record {
    alike = fix.alike;
    each = λ n c d e f. ⊎_elim (λ (same : d ≡ c). inl same) (λ (fixed : IsFixed net n d). inr (inr fixed)) (fix.each n c d e f);
  }

  -- what agreed agrees now
  agrees_now : (y : ℕ → ℕ) → Agrees net.nets y → Agrees nets y
  agrees_now y agrees = record { each = λ n. by_table n (table_in (slot net.nets n)) refl }
    where
      alike_tables : (n : ℕ) → table_in (slot nets n) ≡ table_in (slot net.nets n) → IsTrue (net_allows (slot nets n) y (y n))
      alike_tables n same =
          net_allows-alike (slot net.nets n) (slot nets n) y (y n) (fix.alike.each n) (ap (λ t. net_table_allows t y (y n)) same) ∙ agrees.each n

      by_cover : (n : ℕ) (c : Cover) → table_in (slot net.nets n) ≡ Some c → IsTrue (net_allows (slot nets n) y (y n))
      by_cover n c e =
          let d = now_table net nets formed total are_chosen n c e in
          ⊎_elim
          (λ (same : d.0 ≡ c). alike_tables n (d.1 ∙ (ap (λ k. Some k) same ∙ sym e)))
          (λ (fixed : IsFixed net n d.0).
          let low : y n < values_in (slot net.nets n) = (net_allows-parts (slot net.nets n) c y (y n) e (agrees.each n)).0 in
          net_allows-from (slot nets n) d.0 y (y n) d.1 (subst (λ v. y n < v) (sym (fix.alike.each n).values) low)
          ((fixed.constant.only y (y n)).1 (always_value net y n d.0 formed agrees fixed)))
          (fix.each n c d.0 e d.1)

      by_table : (n : ℕ) (t : Option Cover) → table_in (slot net.nets n) ≡ t → IsTrue (net_allows (slot nets n) y (y n))
      by_table n None e =
          alike_tables n (none_of (table_in (slot nets n)) ((fix.alike.each n).tabled ∙ ap (λ t. is_some t) e) ∙ sym e)
        where
          none_of : (t : Option Cover) → is_some t ≡ false → t ≡ None
          none_of None h = refl
          none_of (Some c) h = absurd (false≢true (sym h))
      by_table n (Some c) e = by_cover n c e

  pub fixed_means : SameMeaning (of_net (with_nets net nets)) (of_net net)
  fixed_means = same_agreeing net nets fix.alike (agreed net nets formed total are_chosen) agrees_now
