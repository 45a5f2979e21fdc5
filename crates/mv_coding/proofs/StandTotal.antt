-- In the network with nets that stand for one of them, and without that one, total tables stay total.
use Rattle.std.proofs.Common.{◌≡◌, ◌∙◌, ℕ, zero, suc, ◌+◌, ◌<◌, true, false, List, [], ◌∷◌, length, map, Option, Some, None, refl, sym, ap, subst, ⊎_elim, arith}
use Rattle.std.proofs.lemmas.Bool.{cases_Bool, cases_eq}
use Rattle.mv_cover.specs.declared.cover.Cover.{Cover}
use Rattle.mv_cover.specs.Covers.{cover_reads}
use Rattle.mv_cover.specs.Covering.{IsPoint}
use Rattle.mv_cover.proofs.Local.{allowed-local}
use Rattle.mv_meaning.specs.Rewriting.{rewired, rewired_table, IsReader}
use Rattle.mv_meaning.proofs.Rewired.{IsReformed-rewritten, slot-rewritten, slot-unread, table-reader, reader_at}
use Rattle.mv_net.specs.declared.change.NewNet.{NewNet}
use Rattle.mv_net.specs.declared.parts.FlatNet.{FlatNet}
use Rattle.mv_net.specs.declared.parts.NetParts.{NetParts}
use Rattle.mv_net.specs.Changes.{made_net}
use Rattle.mv_net.specs.Formed.{WellFormed}
use Rattle.mv_net.specs.Nets.{slot, values_in, table_in, table_reads, reads_in}
use Rattle.mv_net.specs.Total.{IsTotal, IsTotalNet}
use Rattle.mv_net.proofs.Known.{counts_at}
use Rattle.mv_net.proofs.Named.{held_below}
use Rattle.mv_net.proofs.Patches.{put, put_same, put_other, other_than, IsWritten}
use Rattle.mv_coding.proofs.Coming.{came, AreNewNets}
use Rattle.mv_coding.proofs.Grown.{with_more, restated, slot-low, slot-high}
use Rattle.mv_coding.proofs.Standing.{Follows, AllFollow, TakeValues, StandFor}
use Rattle.mv_coding.proofs.StandFormed.{inner_unread, reader_before}
use Rattle.mv_coding.proofs.StandMeans.{inner_low, made_unread}

-- an assignment that gives each net that comes, where it has values, one of them
made_points : (nets : List (Option FlatNet)) (x : ℕ → ℕ) (k : ℕ) (ms : List NewNet) → AreNewNets nets ms → ((i : ℕ) → 0 < values_in (slot (map made_net ms) i) → x (k + i) < values_in (slot (map made_net ms) i)) → TakeValues x k ms
made_points nets x k [] new low = tt
made_points nets x k (m ∷ ms) new low =
    let here : k + 0 ≡ k = omega arith in
    let next : (i : ℕ) → k + suc i ≡ (k + 1) + i = λ i. omega arith in (
      subst (λ j. x j < m.values) here (low 0 new.0.some),
      made_points _ x (k + 1) ms new.1 (λ i some. subst (λ j. x j < values_in (slot (map made_net ms) i)) (next i) (low (suc i) some)),
    )

-- the net that comes at this place
record ComesAt (inner : Cover) (ms : List NewNet) (i : ℕ) : Type 0 where
  pub net : NewNet
  pub held : slot (map made_net ms) i ≡ Some (came net)
  pub follows : Follows inner net.table

comes_at : (inner : Cover) (ms : List NewNet) (i : ℕ) → i < length ms → AllFollow inner ms → ComesAt inner ms i
comes_at inner [] i low all = absurd (omega arith)
comes_at inner (m ∷ ms) zero low all = record { net = m; held = refl; follows = all.0 }
comes_at inner (m ∷ ms) (suc i) low all = let at = comes_at inner ms i (omega arith) all.1 in record { net = at.net; held = at.held; follows = at.follows }

module _ (net : NetParts) (n : ℕ) (inner : Cover) (new : Cover → Cover) (ms : List NewNet) (formed : WellFormed net) (table : table_in (slot net.nets n) ≡ Some inner) (stand : StandFor net.nets n inner new ms) (nets : List (Option FlatNet)) (gone : IsWritten (restated new n net.nets ms) n None nets) where
  abbrev more : List (Option FlatNet)
  more = with_more net.nets ms

  low : n < length net.nets
  low = inner_low net n inner new ms formed table stand

  -- ---- points

  values_kept : (k : ℕ) → (k ≡ n → ⊥) → values_in (slot nets k) ≡ values_in (slot more k)
  values_kept k ne = ap values_in (gone.others k ne) ∙ ((IsReformed-rewritten new n more).each k).values

  some_values : 0 < values_in (slot net.nets n)
  some_values = by_slot (slot net.nets n) refl table
    where
      by_slot : (f : Option FlatNet) → slot net.nets n ≡ f → table_in f ≡ Some inner → 0 < values_in f
      by_slot None held e = cc
      by_slot (Some f) held e = (formed.nets n f held).some

  old_point : (x : ℕ → ℕ) (w : ℕ) → w < values_in (slot net.nets n) → IsPoint (map values_in nets) x → IsPoint (map values_in net.nets) (put n w x)
  old_point x w own point = record { below = λ k some. subst (λ v. put n w x k < v) (sym (counts_at net.nets k)) (at k (subst (λ v. 0 < v) (counts_at net.nets k) some)) }
    where
      other : (k : ℕ) → (k ≡ n → ⊥) → 0 < values_in (slot net.nets k) → put n w x k < values_in (slot net.nets k)
      other k ne some =
          let there : k < length net.nets = values_low (slot net.nets k) refl some in
          let same : values_in (slot nets k) ≡ values_in (slot net.nets k) = values_kept k ne ∙ ap values_in (slot-low net.nets ms k there) in
          let below : x k < values_in (slot nets k) = subst (λ v. x k < v) (counts_at nets k) (point.below k (subst (λ v. 0 < v) (sym (counts_at nets k ∙ same)) some)) in
          omega (arith, put_other n w x k ne)
        where
          values_low : (f : Option FlatNet) → slot net.nets k ≡ f → 0 < values_in f → k < length net.nets
          values_low None e h = absurd (omega arith)
          values_low (Some f) e h = held_below net.nets k f e

      at : (k : ℕ) → 0 < values_in (slot net.nets k) → put n w x k < values_in (slot net.nets k)
      at k some =
          ⊎_elim
          (λ (e : k ≡ n).
          let P : ℕ → Type 0 = λ j. put n w x j < values_in (slot net.nets j) in
          subst P (sym e) (omega (arith, put_same n w x)))
          (λ (ne : k ≡ n → ⊥). other k ne some)
          (cases_eq k n)

  new_values : (x : ℕ → ℕ) → IsPoint (map values_in nets) x → TakeValues x (length net.nets) ms
  new_values x point = made_points net.nets x (length net.nets) ms stand.nets_new at
    where
      at : (i : ℕ) → 0 < values_in (slot (map made_net ms) i) → x (length net.nets + i) < values_in (slot (map made_net ms) i)
      at i some =
          let same : values_in (slot nets (length net.nets + i)) ≡ values_in (slot (map made_net ms) i) = values_kept (length net.nets + i) (λ e. omega (arith, e, low)) ∙ ap values_in (slot-high net.nets ms i) in
          subst (λ v. x (length net.nets + i) < v) (counts_at nets (length net.nets + i) ∙ same) (point.below (length net.nets + i) (subst (λ v. 0 < v) (sym (counts_at nets (length net.nets + i) ∙ same)) some))

  -- a table that doesn't read n allows some value at each point, if it did
  unread_total : (c : Cover) → cover_reads c n ≡ false → IsTotal net.nets c → IsTotal nets c
  unread_total c unread total = record {
    some = λ x point.
        let v = total.some (put n 0 x) (old_point x 0 some_values point) in
        record { value = v.value; is_allowed = sym (allowed-local c (put n 0 x) x v.value (λ k r. put_other n 0 x k (other_than (cover_reads c) n k unread r))) ∙ v.is_allowed };
  }

  -- and the new table of one that reads it does
  reader_total : (m : ℕ) (c : Cover) → IsReader net.nets n m c → IsTotal net.nets c → IsTotal nets (new c)
  reader_total m c r total = record {
    some = λ x point.
        let read = (stand.restates m c r).allows x (new_values x point) in
        let v = total.some (put n read.value x) (old_point x read.value read.low point) in
        record { value = v.value; is_allowed = read.allows v.value ∙ v.is_allowed };
  }

  -- ---- nets

  pub stand_total : (k : ℕ) → (k ≡ n → ⊥) → IsTotalNet net.nets k → IsTotalNet nets k
  stand_total k ne total =
      ⊎_elim
      (λ (reads : reads_in more k n ≡ true). let r = reader_at more n k reads in by_reader r.0 r.1)
      (λ (unread : reads_in more k n ≡ false).
      let same : slot nets k ≡ Some total.net = gone.others k ne ∙ (slot-unread new n more k unread ∙ there) in
      let off : cover_reads total.cover n ≡ false = ap (λ t. table_reads t n) (sym (ap table_in there ∙ total.table)) ∙ unread in
      record { net = total.net; held = same; cover = total.cover; table = total.table; total = unread_total total.cover off total.total })
      (cases_Bool (reads_in more k n))
    where
      there : slot more k ≡ Some total.net
      there = slot-low net.nets ms k (held_below net.nets k total.net total.held) ∙ total.held

      by_reader : (c : Cover) → IsReader more n k c → IsTotalNet nets k
      by_reader c r =
          let was = reader_before net n inner new ms formed table stand k c r in
          let same : Some total.cover ≡ Some c = sym (ap table_in total.held ∙ total.table) ∙ was.1.table in
          let covers : total.cover ≡ c = cc in
          let slot_is : slot nets k ≡ rewired new n (Some total.net) = gone.others k ne ∙ (slot-rewritten new n more k ∙ ap (rewired new n) there) in
          record {
            net = record total.net { table = rewired_table new n total.net.table };
            held = slot_is;
            cover = new c;
            table = sym (ap table_in (slot-rewritten new n more k ∙ ap (rewired new n) there)) ∙ table-reader new n more k c r;
            total = reader_total k c was.1 (subst (IsTotal net.nets) covers total.total);
          }

  -- each net that comes is total where n was
  pub stand_total_new : (i : ℕ) → i < length ms → IsTotalNet net.nets n → IsTotalNet nets (length net.nets + i)
  stand_total_new i few total =
      let at = comes_at inner ms i few stand.follow in
      let same : Some total.cover ≡ Some inner = sym (ap table_in total.held ∙ total.table) ∙ table in
      let covers : total.cover ≡ inner = cc in
      let unread = inner_unread net n inner new ms formed table stand in
      let was = unread_total inner unread (subst (IsTotal net.nets) covers total.total) in
      record {
        net = came at.net;
        held = gone.others (length net.nets + i) (λ e. omega (arith, e, low))
            ∙ (slot-unread new n more (length net.nets + i) (made_unread net n inner new ms formed table stand i) ∙ (slot-high net.nets ms i ∙ at.held));
        cover = at.net.table;
        table = refl;
        total = record { some = λ x point. at.follows.some x (was.some x point) };
      }
