-- What the merge of values of a net leaves: all stays for nets that aren't near it, no literals come, and one value less is left.
use Rattle.std.proofs.Common.{◌≡◌, ◌∙◌, ◌⊎◌, ℕ, ◌<◌, ◌≤◌, ◌||◌, true, false, List, Option, Some, None, is_some, length, inl, inr, refl, sym, ap, subst, ⊎_elim, arith}
use Rattle.std.specs.List.{sum_by}
use Rattle.std.proofs.lemmas.Bool.{cases_Bool, cases_eq, false≢true, false_from_ne_true, or_parts}
use Rattle.std.proofs.lemmas.List.{get_or-set_same, get_or-set_other, length-map}
use Rattle.mv_agenda.specs.Near.{IsNear, Itself, Fanin, Reader, Beside}
use Rattle.mv_cover.specs.Covers.{cover_reads}
use Rattle.mv_cover.specs.declared.cover.Cover.{Cover}
use Rattle.mv_graph.specs.Nets.{has_id}
use Rattle.mv_locality.specs.Local.{IsStill}
use Rattle.mv_meaning.specs.Rewriting.{rewired, rewired_table, rewritten}
use Rattle.mv_meaning.proofs.Rewired.{cover_at, reader_at, slot-unread, table-reader, table-rewritten}
use Rattle.mv_merging.specs.declared.merging.Merging.{Merging}
use Rattle.mv_merging.specs.Nets.{merging_at, net_behind, net_merged, nets_merged, table_merged}
use Rattle.mv_merging.specs.Tables.{own_merged, reader_merged}
use Rattle.mv_merging.proofs.Giving.{own_reads_only}
use Rattle.mv_merging.proofs.Kept.{KeepsOthers, reader_reads_only}
use Rattle.mv_merging.proofs.Lawful.{left_less, values_stand}
use Rattle.mv_merging.proofs.Merged.{behind_few}
use Rattle.mv_net.specs.declared.parts.FlatNet.{FlatNet}
use Rattle.mv_net.specs.declared.parts.Kind.TheVariants.{Reset}
use Rattle.mv_net.specs.declared.parts.NetParts.{NetParts}
use Rattle.mv_net.specs.Changes.{with_nets}
use Rattle.mv_net.specs.Formed.{WellFormed}
use Rattle.mv_net.specs.Index.{is_latch_input, is_reset, is_seen, kind_in}
use Rattle.mv_net.specs.Nets.{slot, values_in, table_in, table_reads, table_literals, reads_in, literals_in}
use Rattle.mv_net.proofs.Named.{held_below}
use Rattle.mv_net.proofs.Patches.{IsWritten}
use Rattle.mv_net.proofs.Stays.{KeepsNet-same}
use Rattle.mv_net.proofs.Tallied.{literals_in-sum}
use Rattle.mv_merge.specs.Merges.{CanMerge}
use Rattle.mv_merge.proofs.Counted.{counts_most, counts_less}
use Rattle.mv_merge.proofs.Fewer.{own_few, rewired_few}

-- the values of all nets
abbrev pub values_of : List (Option FlatNet) → ℕ
values_of nets = sum_by values_in nets

-- a net with a table is held
pub held_tabled : (o : Option FlatNet) → is_some (table_in o) ≡ true → (f : FlatNet) × (o ≡ Some f)
held_tabled None h = absurd (false≢true h)
held_tabled (Some f) h = (f, refl)

cover_of : (t : Option Cover) → is_some t ≡ true → (c : Cover) × (t ≡ Some c)
cover_of None h = absurd (false≢true h)
cover_of (Some c) h = (c, refl)

module _ (net : NetParts) (n : ℕ) (can : CanMerge net n) where
  abbrev m : Merging
  m = merging_at net.nets n can.gone can.into

  -- the nets, of which the readers alone have their new tables
  abbrev middle : List (Option FlatNet)
  middle = rewritten (reader_merged m n) n net.nets

  abbrev after : List (Option FlatNet)
  after = (net_behind net n can.gone can.into).nets

  held : (f : FlatNet) × (slot net.nets n ≡ Some f)
  held = held_tabled (slot net.nets n) can.table

  cover : (c : Cover) × (table_in (slot net.nets n) ≡ Some c)
  cover = cover_of (table_in (slot net.nets n)) can.table

  written : IsWritten middle n (net_merged m (slot net.nets n)) after
  unfolding net_behind with_nets nets_merged rewritten
  written = record {
    here = get_or-set_same middle n (net_merged m (slot net.nets n)) None low;
    others = λ k ne. get_or-set_other middle n k (net_merged m (slot net.nets n)) None ne;
  }
    where
      low : n < length middle
      low = subst (λ k. n < k) (sym (length-map net.nets (rewired (reader_merged m n) n))) (held_below net.nets n held.0 held.1)

  own_table : table_in (slot after n) ≡ table_merged m (table_in (slot net.nets n))
  own_table = ap table_in written.here ∙ by_net (slot net.nets n)
    where
      by_net : (o : Option FlatNet) → table_in (net_merged m o) ≡ table_merged m (table_in o)
      by_net None = refl
      by_net (Some f) = refl

  other_table : (k : ℕ) → (k ≡ n → ⊥) → table_in (slot after k) ≡ rewired_table (reader_merged m n) n (table_in (slot net.nets k))
  other_table k ne = ap table_in (written.others k ne) ∙ table-rewritten (reader_merged m n) n net.nets k

  -- ---- what is left of it

  pub fewer_literals : literals_in after ≤ literals_in net.nets
  fewer_literals =
      let most = counts_most (λ (f : Option FlatNet). table_literals (table_in f)) refl after net.nets each in
      omega (arith, most, literals_in-sum after, literals_in-sum net.nets)
    where
      each : (k : ℕ) → table_literals (table_in (slot after k)) ≤ table_literals (table_in (slot net.nets k))
      each k =
          ⊎_elim
          (λ (e : k ≡ n).
          let P : ℕ → Type 0 = λ j. table_literals (table_in (slot after j)) ≤ table_literals (table_in (slot net.nets j)) in
          subst P (sym e) (subst (λ t. table_literals t ≤ table_literals (table_in (slot net.nets n))) (sym own_table) (own_few m (table_in (slot net.nets n)))))
          (λ (ne : k ≡ n → ⊥).
          subst (λ t. table_literals t ≤ table_literals (table_in (slot net.nets k))) (sym (other_table k ne)) (rewired_few m n (table_in (slot net.nets k))))
          (cases_eq k n)

  pub fewer_values : values_of after < values_of net.nets
  fewer_values = counts_less values_in refl after net.nets n (behind_few net n can.gone can.into can.table (can.able, can.lossless)) less
    where
      less : values_in (slot after n) < values_in (slot net.nets n)
      less =
          let left : values_in (slot after n) ≡ m.left = ap values_in written.here ∙ ap (λ o. values_in (net_merged m o)) held.1 in
          omega (arith, left, left_less net.nets n can.gone can.into can.able can.lossless)

  -- ---- what stays

  -- a net that doesn't read it is as it was
  other_same : (k : ℕ) → (k ≡ n → ⊥) → reads_in net.nets k n ≡ false → slot after k ≡ slot net.nets k
  other_same k ne unread = written.others k ne ∙ slot-unread (reader_merged m n) n net.nets k unread

  module _ (formed : WellFormed net) where
    plain : held.0.kind ≡ Reset → ⊥
    unfolding is_seen
    plain e =
        false≢true
        (sym (or_parts (has_id net.outputs n || is_latch_input net.latches n) (is_reset (kind_in (slot net.nets n))) can.unseen.unseen).1
        ∙ (ap (λ o. is_reset (kind_in o)) held.1 ∙ ap (λ c. is_reset (Some c)) e))

    keeps : KeepsOthers net.nets m n net.nets
    keeps = record {
      others = λ k ne. KeepsNet-same net.nets net.nets k refl;
      readable = record { net = held.0; held = held.1; plain = plain };
      enough = omega arith;
    }

    own_read : (j : ℕ) → reads_in after n j ≡ true → reads_in net.nets n j ≡ true
    own_read j h =
        let now : cover_reads (own_merged m cover.0) j ≡ true = sym (ap (λ t. table_reads t j) (own_table ∙ ap (table_merged m) cover.1)) ∙ h in
        ap (λ t. table_reads t j) cover.1
        ∙ own_reads_only m net.nets net.nets (values_in (slot net.nets n)) cover.0 (cover_at net n cover.0 formed cover.1) (λ l r is. is)
        (values_stand net.nets n can.gone can.into can.able can.lossless cover.0 cover.1) j now

    reader_read : (k j : ℕ) → (k ≡ n → ⊥) → reads_in net.nets k n ≡ true → reads_in after k j ≡ true → reads_in net.nets k j ≡ true
    reader_read k j ne reads h =
        let r = reader_at net.nets n k reads in
        let table = ap table_in (written.others k ne) ∙ table-reader (reader_merged m n) n net.nets k r.0 r.1 in
        let now : cover_reads (reader_merged m n r.0) j ≡ true = sym (ap (λ t. table_reads t j) table) ∙ h in
        ap (λ t. table_reads t j) r.1.table
        ∙ reader_reads_only net.nets m n net.nets keeps (values_in (slot net.nets k)) r.0 (cover_at net k r.0 formed r.1.table) j now

    -- the net and its readers read nothing that they didn't read
    touched_read : (k j : ℕ) → (k ≡ n) ⊎ (reads_in net.nets k n ≡ true) → reads_in after k j ≡ true → reads_in net.nets k j ≡ true
    touched_read k j touched h =
        ⊎_elim
        (λ (e : k ≡ n). let P : ℕ → Type 0 = λ i. reads_in after i j ≡ true → reads_in net.nets i j ≡ true in subst P (sym e) (own_read j) h)
        (λ (ne : k ≡ n → ⊥). ⊎_elim (λ (e : k ≡ n). absurd (ne e)) (λ (reads : reads_in net.nets k n ≡ true). reader_read k j ne reads h) touched)
        (cases_eq k n)

    -- and nothing that isn't near
    touched_far : (k j : ℕ) → (k ≡ n) ⊎ (reads_in net.nets k n ≡ true) → (IsNear net.nets n j → ⊥) → reads_in net.nets k j ≡ true → ⊥
    touched_far k j (inl e) far h = far (Fanin (ap (λ i. reads_in net.nets i j) (sym e) ∙ h))
    touched_far k j (inr reads) far h = far (Beside k reads h)

    pub far_still : (j : ℕ) → (IsNear net.nets n j → ⊥) → IsStill net.nets after j
    far_still j far = record {
      same = other_same j (λ e. far (Itself e)) (false_from_ne_true (reads_in net.nets j n) (λ r. far (Reader r)));
      readers = λ k.
          ⊎_elim
          (λ (e : k ≡ n). inr (unread k (inl e)))
          (λ (ne : k ≡ n → ⊥).
          ⊎_elim
          (λ (reads : reads_in net.nets k n ≡ true). inr (unread k (inr reads)))
          (λ (free : reads_in net.nets k n ≡ false). inl (other_same k ne free))
          (cases_Bool (reads_in net.nets k n)))
          (cases_eq k n);
    }
      where
        unread : (k : ℕ) → (k ≡ n) ⊎ (reads_in net.nets k n ≡ true) → (reads_in net.nets k j ≡ false) × (reads_in after k j ≡ false)
        unread k touched = (
          false_from_ne_true (reads_in net.nets k j) (touched_far k j touched far),
          false_from_ne_true (reads_in after k j) (λ h. touched_far k j touched far (touched_read k j touched h)),
        )
