-- A network behind a merge that is lawful: it is well formed and means the same, total tables stay total, and no net has more values.
use Rattle.std.proofs.Common.{◌≡◌, ◌∙◌, ℕ, ◌+◌, ◌<◌, ◌≤◌, true, false, ◌&&◌, ◌||◌, nat_lt, List, [], length, map, Option, Some, None, IsTrue, is_some, All, inl, refl, sym, ap, subst, ⊎_elim, arith}
use Rattle.std.proofs.lemmas.Bool.{cases_Bool, cases_eq, false≢true, or_parts}
use Rattle.std.proofs.lemmas.List.{get_or-set_same, get_or-set_other, length-map}
use Rattle.std.proofs.lemmas.List.Elements.{All-weaker}
use Rattle.mv_base.specs.Meaning.{SameMeaning}
use Rattle.mv_base.specs.declared.number.Value.{Value}
use Rattle.mv_cover.specs.Covering.{IsPoint}
use Rattle.mv_cover.specs.Covers.{allowed, cover_reads}
use Rattle.mv_cover.specs.Cubes.{IsCube}
use Rattle.mv_cover.specs.Literal.{Lit}
use Rattle.mv_cover.specs.declared.cover.Cover.{Cover}
use Rattle.mv_cover.specs.declared.line.Line.{Line}
use Rattle.mv_cover.proofs.Local.{allowed-local}
use Rattle.mv_graph.specs.Nets.{has_id}
use Rattle.mv_meaning.specs.Rewriting.{rewired, rewritten, IsReader, IsReformed}
use Rattle.mv_meaning.proofs.Reformed.{KeepsPorts-reformed, net_allows-from, net_allows-parts, net_kept}
use Rattle.mv_meaning.proofs.Rewired.{IsReformed-rewritten, IsMadeOf, HasStayed, rewritten_from, rewritten_formed, slot-unread, table-reader, reader_at, cover_at, itself_unread}
use Rattle.mv_net.specs.declared.parts.Kind.TheVariants.{Reset}
use Rattle.mv_net.specs.declared.parts.FlatNet.{FlatNet}
use Rattle.mv_net.specs.declared.parts.NetParts.{NetParts}
use Rattle.mv_net.specs.Allowed.{net_allows, net_table_allows, Agrees, of_net}
use Rattle.mv_net.specs.Changes.{with_nets}
use Rattle.mv_net.specs.Formed.{IsLiteral, IsCover, IsNet, WellFormed}
use Rattle.mv_net.specs.Index.{is_latch_input, is_reset, kind_in, is_seen}
use Rattle.mv_net.specs.Nets.{slot, values_in, name_in, spelled_in, table_in, table_reads, net_reads, reads_in}
use Rattle.mv_net.specs.Total.{AllowsValue, IsTotal, IsTotalNet}
use Rattle.mv_net.proofs.Drivers.{SameMeaning-by}
use Rattle.mv_net.proofs.Known.{counts_at, is_held_below, values_few}
use Rattle.mv_net.proofs.Local.{net_allows-local}
use Rattle.mv_net.proofs.Patches.{other_than, put, put_same, put_other, IsWritten, Agrees-all}
use Rattle.mv_net.proofs.Ports.{is_port, is_shown, shown_port, source_shown, state_source, SamePorts-but, AgreesAtPorts, KeepsPorts}
use Rattle.mv_net.proofs.Removal.{unseen_no_port}
use Rattle.mv_net.proofs.Stays.{KeepsNet-same, IsCover-kept}
use Rattle.mv_net.proofs.Totals.{allowed_below}
use Rattle.mv_merging.specs.declared.merging.Merging.{Merging}
use Rattle.mv_merging.specs.declared.verdict.MergeVerdict.TheVariants.{Lawful}
use Rattle.mv_merging.specs.Nets.{table_merged, net_merged, nets_merged, merging_at, net_behind}
use Rattle.mv_merging.specs.Tables.{own_merged, reader_merged}
use Rattle.mv_merging.specs.Values.{before}
use Rattle.mv_merging.specs.Verdicts.{AreMergeable, IsMergeLossless, IsMergeVerdict, cover_has}
use Rattle.mv_merging.proofs.Sets.{StandsFor, before_low}
use Rattle.mv_merging.proofs.Shapes.{IsLineOver, cover_over}
use Rattle.mv_merging.proofs.Readers.{IsRenamed, reader-allows}
use Rattle.mv_merging.proofs.Kept.{KeepsOthers, literal_other, reader_cover, reader_reads_only}
use Rattle.mv_merging.proofs.Giving.{AllowedBefore, own_up, own_down, never_allowed, own_cover, own_reads_only}
use Rattle.mv_merging.proofs.Recounted.{recounted_formed}
use Rattle.mv_merging.proofs.Lawful.{left_less, tables_alike, values_stand}

-- ---- nets and their tables

held_net : (o : Option FlatNet) (c : Cover) → table_in o ≡ Some c → (f : FlatNet) × (o ≡ Some f)
held_net None c e = cc
held_net (Some f) c e = (f, refl)

-- a net with a total table is total
pub total_net : (nets : List (Option FlatNet)) (k : ℕ) (c : Cover) → table_in (slot nets k) ≡ Some c → IsTotal nets c → IsTotalNet nets k
total_net nets k c e total = by_slot (slot nets k) refl e
  where
    by_slot : (o : Option FlatNet) → slot nets k ≡ o → table_in o ≡ Some c → IsTotalNet nets k
    by_slot None held table = cc
    by_slot (Some f) held table = record { net = f; held = held; cover = c; table = table; total = total }

length-rewritten : (new : Cover → Cover) (n : ℕ) (nets : List (Option FlatNet)) → length (rewritten new n nets) ≡ length nets
unfolding rewritten
length-rewritten new n nets = length-map nets (rewired new n)

-- nets with as many values take a value alike, where their tables do
allows-both : (f g : Option FlatNet) (c d : Cover) (x y : ℕ → ℕ) (v : ℕ) → table_in f ≡ Some c → table_in g ≡ Some d → values_in g ≡ values_in f → allowed d y v ≡ allowed c x v → net_allows g y v ≡ net_allows f x v
allows-both None g c d x y v e h same allows = cc
allows-both (Some f) None c d x y v e h same allows = cc
allows-both (Some f) (Some g) c d x y v e h same allows =
    let tables : net_table_allows g.table y v ≡ net_table_allows f.table x v = ap (λ t. net_table_allows t y v) h ∙ (allows ∙ sym (ap (λ t. net_table_allows t x v) e)) in
    λ i. nat_lt v (same i) && tables i

-- what a cover allows stands in it
given_there : (c : Cover) (at : ℕ → ℕ) (v : ℕ) → allowed c at v ≡ true → cover_has v c ≡ true
given_there c at v h =
    ⊎_elim
    (λ (t : cover_has v c ≡ true). t)
    (λ (f : cover_has v c ≡ false). absurd (false≢true (sym (never_allowed c at v f) ∙ h)))
    (cases_Bool (cover_has v c))

-- ---- the network behind the merge

module _ (net : NetParts) (n : ℕ) (gone : Value) (into : Option Value) (inner : Cover) (table : table_in (slot net.nets n) ≡ Some inner) (able : AreMergeable (values_in (slot net.nets n)) gone into) (lossless : IsMergeLossless net.nets n gone into) where
  abbrev m : Merging
  m = merging_at net.nets n gone into

  -- the nets, of which the readers alone have their new tables
  abbrev middle : List (Option FlatNet)
  middle = rewritten (reader_merged m n) n net.nets

  abbrev after : List (Option FlatNet)
  after = nets_merged m n net.nets

  less : m.left + 1 ≡ values_in (slot net.nets n)
  less = left_less net.nets n gone into able lossless

  held : (f : FlatNet) × (slot net.nets n ≡ Some f)
  held = held_net (slot net.nets n) inner table

  written : IsWritten middle n (net_merged m (slot net.nets n)) after
  unfolding nets_merged
  written = record {
    here = get_or-set_same middle n (net_merged m (slot net.nets n)) None low;
    others = λ k ne. get_or-set_other middle n k (net_merged m (slot net.nets n)) None ne;
  }
    where
      low : n < length middle
      low = subst (λ k. n < k) (sym (length-rewritten (reader_merged m n) n net.nets)) (is_held_below net.nets n (ap (λ o. is_some o) held.1))

  reformed : IsReformed net.nets middle
  reformed = IsReformed-rewritten (reader_merged m n) n net.nets

  table_after : table_in (slot after n) ≡ Some (own_merged m inner)
  table_after = ap table_in written.here ∙ (ap (λ o. table_in (net_merged m o)) held.1 ∙ ap (table_merged m) (sym (ap table_in held.1) ∙ table))

  values_after : values_in (slot after n) ≡ m.left
  values_after = ap values_in written.here ∙ ap (λ o. values_in (net_merged m o)) held.1

  values_other : (k : ℕ) → (k ≡ n → ⊥) → values_in (slot after k) ≡ values_in (slot net.nets k)
  values_other k ne = ap values_in (written.others k ne) ∙ (reformed.each k).values

  pub values_kept : (k : ℕ) → values_in (slot after k) ≤ values_in (slot net.nets k)
  values_kept k =
      ⊎_elim
      (λ (e : k ≡ n). let P : ℕ → Type 0 = λ j. values_in (slot after j) ≤ values_in (slot net.nets j) in subst P (sym e) (omega (arith, values_after, less)))
      (λ (ne : k ≡ n → ⊥). omega (arith, values_other k ne))
      (cases_eq k n)

  -- and each name, as it was
  pub name_kept : (k : ℕ) → name_in (slot after k) ≡ name_in (slot net.nets k)
  name_kept k =
      ⊎_elim
      (λ (e : k ≡ n). let P : ℕ → Type 0 = λ j. name_in (slot after j) ≡ name_in (slot net.nets j) in subst P (sym e) (ap name_in written.here ∙ own_name (slot net.nets n)))
      (λ (ne : k ≡ n → ⊥). ap name_in (written.others k ne) ∙ (reformed.each k).name)
      (cases_eq k n)
    where
      own_name : (o : Option FlatNet) → name_in (net_merged m o) ≡ name_in o
      own_name None = refl
      own_name (Some f) = refl

  -- each table was there before
  pub table_before : (k : ℕ) (c : Cover) → table_in (slot after k) ≡ Some c → (d : Cover) × (table_in (slot net.nets k) ≡ Some d)
  table_before k c e =
      ⊎_elim
      (λ (same : k ≡ n). (inner, ap (λ j. table_in (slot net.nets j)) same ∙ table))
      (λ (ne : k ≡ n → ⊥).
      ⊎_elim
      (λ (made : IsMadeOf (reader_merged m n) n net.nets k c). (made.was, made.reader.table))
      (λ (stayed : HasStayed n net.nets k c). (c, stayed.table))
      (rewritten_from (reader_merged m n) n net.nets k c (sym (ap table_in (written.others k ne)) ∙ e)))
      (cases_eq k n)

  module _ (formed : WellFormed net) where
    inner_unread : cover_reads inner n ≡ false
    inner_unread = ap (λ t. table_reads t n) (sym table) ∙ itself_unread net n formed

    inner_cover : IsCover net.nets (values_in (slot net.nets n)) inner
    inner_cover = cover_at net n inner formed table

    cubes_at : (k : ℕ) (c : Cover) → table_in (slot net.nets k) ≡ Some c → All (λ (l : Line). IsCube l.cube) c.lines
    cubes_at k c e =
        All-weaker (IsLineOver net.nets (values_in (slot net.nets k)) (cover_reads c)) (λ (l : Line). IsCube l.cube) (λ l is. is.cube) c.lines
        (cover_over net.nets (values_in (slot net.nets k)) c (cover_at net k c formed e))

    -- the own table reads no net besides, and so not the net itself
    own_reads : (k : ℕ) → cover_reads (own_merged m inner) k ≡ true → cover_reads inner k ≡ true
    own_reads = own_reads_only m net.nets net.nets (values_in (slot net.nets n)) inner inner_cover (λ l r is. is) (values_stand net.nets n gone into able lossless inner table)

    own_local : (x y : ℕ → ℕ) (v : ℕ) → ((k : ℕ) → (k ≡ n → ⊥) → y k ≡ x k) → allowed (own_merged m inner) y v ≡ allowed (own_merged m inner) x v
    own_local x y v others = allowed-local (own_merged m inner) y x v (λ k r. others k (other_than (cover_reads inner) n k inner_unread (own_reads k r)))

    -- ---- what the other nets allow

    reader_same : (x y : ℕ → ℕ) → IsRenamed m n x y → (k : ℕ) (c : Cover) → IsReader net.nets n k c → net_allows (slot middle k) y (x k) ≡ net_allows (slot net.nets k) x (x k)
    reader_same x y r k c is =
        allows-both (slot net.nets k) (slot middle k) c (reader_merged m n c) x y (x k) is.table (table-reader (reader_merged m n) n net.nets k c is) (reformed.each k).values
        (reader-allows m n c x y (cubes_at k c is.table) (tables_alike net.nets n gone into able lossless k c is.table) r (x k))

    same_other : (x y : ℕ → ℕ) → IsRenamed m n x y → (k : ℕ) → (k ≡ n → ⊥) → net_allows (slot after k) y (y k) ≡ net_allows (slot net.nets k) x (x k)
    same_other x y r k ne =
        ap (λ f. net_allows f y (y k)) (written.others k ne)
        ∙ (ap (λ v. net_allows (slot middle k) y v) (r.others k ne)
        ∙ ⊎_elim
        (λ (reads : reads_in net.nets k n ≡ true). let t = reader_at net.nets n k reads in reader_same x y r k t.0 t.1)
        (λ (unread : reads_in net.nets k n ≡ false).
        ap (λ f. net_allows f y (x k)) (slot-unread (reader_merged m n) n net.nets k unread)
        ∙ net_allows-local (slot net.nets k) y x (x k) (λ j q. r.others j (other_than (λ i. net_reads (slot net.nets k) i) n j unread q)))
        (cases_Bool (reads_in net.nets k n)))

    -- ---- the same meaning

    module _ (hidden : is_port net n ≡ false) where
      keeps : KeepsPorts net after
      keeps = record {
        names = λ k h. ap name_in (written.others k (other k h)) ∙ was.names k h;
        spelled = λ k h. ap spelled_in (written.others k (other k h)) ∙ was.spelled k h;
        values = λ k h. ap values_in (written.others k (other k (source_shown net k (state_source net k h)))) ∙ was.values k h;
      }
        where
          was : KeepsPorts net middle
          was = KeepsPorts-reformed net middle reformed

          other : (k : ℕ) → is_shown net k ≡ true → k ≡ n → ⊥
          other k h = other_than (is_port net) n k hidden (shown_port net k h)

      up : (x : ℕ → ℕ) → Agrees net.nets x → AgreesAtPorts net after x
      up x a = record {
        at = y;
        agrees = Agrees-all after n y (record { each = λ k ne. same_other x y renamed k ne ∙ a.each k }) here;
        same = SamePorts-but net n x y hidden (λ k ne. sym (renamed.others k ne));
      }
        where
          own : (x n < values_in (slot net.nets n)) × (allowed inner x (x n) ≡ true)
          own = net_allows-parts (slot net.nets n) inner x (x n) table (a.each n)

          now : (w : ℕ) × StandsFor m (x n) w
          now = (values_stand net.nets n gone into able lossless inner table).each (x n) own.0 (given_there inner x (x n) own.1)

          y : ℕ → ℕ
          y = put n now.0 x

          renamed : IsRenamed m n x y
          renamed = record { here = subst (λ w. StandsFor m (x n) w) (sym (put_same n now.0 x)) now.1; others = put_other n now.0 x }

          here : IsTrue (net_allows (slot after n) y (y n))
          here =
              net_allows-from (slot after n) (own_merged m inner) y (y n) table_after (subst (λ k. y n < k) (sym values_after) renamed.here.low)
              (own_local x y (y n) renamed.others ∙ own_up m inner x (x n) (y n) (cubes_at n inner table) renamed.here own.1)

      down : (y : ℕ → ℕ) → Agrees after y → AgreesAtPorts net net.nets y
      down y a = record {
        at = x;
        agrees = Agrees-all net.nets n x (record { each = λ k ne. sym (same_other x y renamed k ne) ∙ a.each k }) here;
        same = SamePorts-but net n y x hidden (λ k ne. renamed.others k ne);
      }
        where
          own : (y n < values_in (slot after n)) × (allowed (own_merged m inner) y (y n) ≡ true)
          own = net_allows-parts (slot after n) (own_merged m inner) y (y n) table_after (a.each n)

          had : AllowedBefore m inner y (y n)
          had = own_down m inner y (y n) (cubes_at n inner table) (subst (λ k. y n < k) values_after own.0) own.1

          x : ℕ → ℕ
          x = put n had.value y

          renamed : IsRenamed m n x y
          renamed = record { here = subst (λ v. StandsFor m v (y n)) (sym (put_same n had.value y)) had.stands; others = λ k ne. sym (put_other n had.value y k ne) }

          allows : allowed inner x (x n) ≡ true
          allows =
              subst (λ v. allowed inner x v ≡ true) (sym (put_same n had.value y))
              (allowed-local inner x y had.value (λ k r. put_other n had.value y k (other_than (cover_reads inner) n k inner_unread r)) ∙ had.is_allowed)

          here : IsTrue (net_allows (slot net.nets n) x (x n))
          here = net_allows-from (slot net.nets n) inner x (x n) table (allowed_below net.nets (values_in (slot net.nets n)) inner x (x n) inner_cover allows) allows

      pub merged_means : SameMeaning (of_net (with_nets net after)) (of_net net)
      merged_means = SameMeaning-by net after keeps down up

    -- ---- total tables

    module _ (at : ℕ → ℕ) (point : IsPoint (map values_in after) at) where
      -- the point with the value that the net had
      abbrev then_at : ℕ → ℕ
      then_at = put n (before m (at n)) at

      below : (k : ℕ) → 0 < values_in (slot after k) → at k < values_in (slot after k)
      below k some = subst (λ c. at k < c) (counts_at after k) (point.below k (subst (λ c. 0 < c) (sym (counts_at after k)) some))

      low : at n < m.left
      low = let several = able.several in subst (λ c. at n < c) values_after (below n (subst (λ c. 0 < c) (sym values_after) (omega (arith, less))))

      renamed_then : IsRenamed m n then_at at
      renamed_then = record { here = record { low = low; is = inl (put_same n (before m (at n)) at) }; others = λ k ne. sym (put_other n (before m (at n)) at k ne) }

      point_then : IsPoint (map values_in net.nets) then_at
      point_then = record { below = λ k some. subst (λ c. then_at k < c) (sym (counts_at net.nets k)) (at_net k (subst (λ c. 0 < c) (counts_at net.nets k) some)) }
        where
          at_net : (k : ℕ) → 0 < values_in (slot net.nets k) → then_at k < values_in (slot net.nets k)
          at_net k some =
              ⊎_elim
              (λ (e : k ≡ n).
              let P : ℕ → Type 0 = λ j. then_at j < values_in (slot net.nets j) in
              let under = before_low m (at n) low in
              subst P (sym e) (subst (λ v. v < values_in (slot net.nets n)) (sym (put_same n (before m (at n)) at)) (subst (λ c. before m (at n) < c) less under)))
              (λ (ne : k ≡ n → ⊥).
              subst (λ v. v < values_in (slot net.nets k)) (sym (put_other n (before m (at n)) at k ne))
              (subst (λ c. at k < c) (values_other k ne) (below k (subst (λ c. 0 < c) (sym (values_other k ne)) some))))
              (cases_eq k n)

      own_some : IsTotal net.nets inner → AllowsValue (own_merged m inner) at
      own_some total =
          let some = total.some then_at point_then in
          let under = allowed_below net.nets (values_in (slot net.nets n)) inner then_at some.value inner_cover some.is_allowed in
          let now = (values_stand net.nets n gone into able lossless inner table).each some.value under (given_there inner then_at some.value some.is_allowed) in
          record {
            value = now.0;
            is_allowed = own_local then_at at now.0 renamed_then.others ∙ own_up m inner then_at some.value now.0 (cubes_at n inner table) now.1 some.is_allowed;
          }

      reader_some : (k : ℕ) (c : Cover) → IsReader net.nets n k c → IsTotal net.nets c → AllowsValue (reader_merged m n c) at
      reader_some k c is total =
          let some = total.some then_at point_then in
          record {
            value = some.value;
            is_allowed = reader-allows m n c then_at at (cubes_at k c is.table) (tables_alike net.nets n gone into able lossless k c is.table) renamed_then some.value ∙ some.is_allowed;
          }

      other_some : (c : Cover) → cover_reads c n ≡ false → IsTotal net.nets c → AllowsValue c at
      other_some c unread total =
          let some = total.some then_at point_then in
          record {
            value = some.value;
            is_allowed = allowed-local c at then_at some.value (λ j r. renamed_then.others j (other_than (cover_reads c) n j unread r)) ∙ some.is_allowed;
          }

    pub total_kept : (k : ℕ) → IsTotalNet net.nets k → IsTotalNet after k
    total_kept k t =
        ⊎_elim
        (λ (e : k ≡ n).
        let own : table_in (slot net.nets n) ≡ Some t.cover = subst (λ j. table_in (slot net.nets j) ≡ Some t.cover) e was in
        let same : Some t.cover ≡ Some inner = sym own ∙ table in
        let is : t.cover ≡ inner = cc in
        subst (IsTotalNet after) (sym e)
        (total_net after n (own_merged m inner) table_after (record { some = λ at p. own_some at p (subst (IsTotal net.nets) is t.total) })))
        (λ (ne : k ≡ n → ⊥).
        ⊎_elim
        (λ (reads : reads_in net.nets k n ≡ true).
        let is : IsReader net.nets n k t.cover = record { table = was; reads = sym (ap (λ o. table_reads o n) was) ∙ reads } in
        total_net after k (reader_merged m n t.cover) (ap table_in (written.others k ne) ∙ table-reader (reader_merged m n) n net.nets k t.cover is)
        (record { some = λ at p. reader_some at p k t.cover is t.total }))
        (λ (unread : reads_in net.nets k n ≡ false).
        total_net after k t.cover (ap table_in (written.others k ne) ∙ (ap table_in (slot-unread (reader_merged m n) n net.nets k unread) ∙ was))
        (record { some = λ at p. other_some at p t.cover (sym (ap (λ o. table_reads o n) was) ∙ unread) t.total }))
        (cases_Bool (reads_in net.nets k n)))
        (cases_eq k n)
      where
        was : table_in (slot net.nets k) ≡ Some t.cover
        was = ap table_in t.held ∙ t.table

    -- ---- well formed

    module _ (unseen : is_seen net n ≡ false) where
      plain : held.0.kind ≡ Reset → ⊥
      unfolding is_seen
      plain e =
          false≢true
          (sym (or_parts (has_id net.outputs n || is_latch_input net.latches n) (is_reset (kind_in (slot net.nets n))) unseen).1
          ∙ (ap (λ o. is_reset (kind_in o)) held.1 ∙ ap (λ c. is_reset (Some c)) e))

      -- the net behind the merge
      abbrev now_net : FlatNet
      now_net = record held.0 { values = m.left; value_names = []; table = table_merged m held.0.table }

      own_table : held.0.table ≡ Some inner
      own_table = sym (ap table_in held.1) ∙ table

      written_net : IsWritten middle n (Some now_net) after
      written_net = record { here = written.here ∙ ap (net_merged m) held.1; others = written.others }

      keeps_old : KeepsOthers net.nets m n net.nets
      keeps_old = record { others = λ k ne. KeepsNet-same net.nets net.nets k refl; readable = record { net = held.0; held = held.1; plain = plain }; enough = omega (arith, less) }

      keeps_new : KeepsOthers net.nets m n after
      keeps_new = record {
        others = λ k ne. record {
          readable = λ r. (KeepsNet-same middle after k (written.others k ne)).readable ((net_kept net.nets middle reformed k).readable r);
          values = values_other k ne;
        };
        readable = record { net = now_net; held = written_net.here; plain = plain };
        enough = omega (arith, values_after);
      }

      middle_formed : WellFormed (with_nets net middle)
      middle_formed =
          rewritten_formed net n (reader_merged m n) formed
          (λ k c r. reader_cover net.nets m n net.nets keeps_old (values_in (slot net.nets k)) c (cover_at net k c formed r.table))
          (λ k c j r h. record {
            path = [];
            goes = ap (λ t. table_reads t j) r.table ∙ reader_reads_only net.nets m n net.nets keeps_old (values_in (slot net.nets k)) c (cover_at net k c formed r.table) j h;
          })

      literal_after : (l : Lit) → cover_reads inner l.net.0 ≡ true → IsLiteral net.nets l → IsLiteral after l
      literal_after l r is = literal_other net.nets m n after keeps_new l (other_than (cover_reads inner) n l.net.0 inner_unread r) is

      own_after : IsCover after m.left (own_merged m inner)
      own_after = own_cover m net.nets after (values_in (slot net.nets n)) inner inner_cover literal_after (values_stand net.nets n gone into able lossless inner table)

      net_after : IsNet after now_net
      net_after =
          let is = formed.nets n held.0 held.1 in
          record {
            some = let several = able.several in omega (arith, less);
            few = let few = values_few net n formed in omega (arith, less);
            named = record { lawful = refl; differ = refl; each = λ h. absurd (omega (arith, h)); spelled = λ h. refl };
            name = is.name;
            table = ap (λ t. is_some (table_merged m t)) own_table ∙ (sym (ap (λ t. is_some t) own_table) ∙ is.table);
            cover = λ c e.
                let there : Some (own_merged m inner) ≡ Some c = sym (ap (table_merged m) own_table) ∙ e in
                let same : own_merged m inner ≡ c = cc in
                subst (IsCover after m.left) same own_after;
          }

      others_after : (k : ℕ) (h : FlatNet) (c : Cover) → (k ≡ n → ⊥) → slot middle k ≡ Some h → h.table ≡ Some c → IsCover after h.values c
      others_after k h c ne e t =
          subst (λ v. IsCover after v c) (sym (reformed.each k).values ∙ ap values_in e)
          (⊎_elim
          (λ (made : IsMadeOf (reader_merged m n) n net.nets k c).
          subst (IsCover after (values_in (slot net.nets k))) (sym made.is)
          (reader_cover net.nets m n after keeps_new (values_in (slot net.nets k)) made.was (cover_at net k made.was formed made.reader.table)))
          (λ (left : HasStayed n net.nets k c).
          IsCover-kept net.nets after (values_in (slot net.nets k)) c (λ j r. keeps_new.others j (other_than (cover_reads c) n j left.unread r)) (cover_at net k c formed left.table))
          (rewritten_from (reader_merged m n) n net.nets k c (ap table_in e ∙ t)))

      pub merged_formed : is_port net n ≡ false → WellFormed (with_nets net after)
      unfolding with_nets
      merged_formed hidden =
          recounted_formed (with_nets net middle) n held.0 now_net after middle_formed (slot-unread (reader_merged m n) n net.nets n (itself_unread net n formed) ∙ held.1) hidden refl refl
          written_net net_after others_after
          (λ b h. ap (λ t. table_reads t b) own_table ∙ own_reads b (sym (ap (λ t. table_reads (table_merged m t) b) own_table) ∙ h))

-- ---- where the verdict is lawful

tabled : (t : Option Cover) → is_some t ≡ true → (c : Cover) × (t ≡ Some c)
tabled None h = absurd (false≢true h)
tabled (Some c) h = (c, refl)

module _ (net : NetParts) (n : ℕ) (gone : Value) (into : Option Value) (some : is_some (table_in (slot net.nets n)) ≡ true) (lawful : IsMergeVerdict net n gone into Lawful) where
  inner : (c : Cover) × (table_in (slot net.nets n) ≡ Some c)
  inner = tabled (table_in (slot net.nets n)) some

  pub behind_few : (k : ℕ) → values_in (slot (net_behind net n gone into).nets k) ≤ values_in (slot net.nets k)
  unfolding net_behind with_nets
  behind_few k = values_kept net n gone into inner.0 inner.1 lawful.0 lawful.1 k

  pub behind_named : (k : ℕ) → name_in (slot (net_behind net n gone into).nets k) ≡ name_in (slot net.nets k)
  unfolding net_behind with_nets
  behind_named k = name_kept net n gone into inner.0 inner.1 lawful.0 lawful.1 k

  pub behind_tabled : (k : ℕ) (c : Cover) → table_in (slot (net_behind net n gone into).nets k) ≡ Some c → (d : Cover) × (table_in (slot net.nets k) ≡ Some d)
  unfolding net_behind with_nets
  behind_tabled k c e = table_before net n gone into inner.0 inner.1 lawful.0 lawful.1 k c e

  module _ (formed : WellFormed net) where
    pub behind_formed : is_seen net n ≡ false → WellFormed (net_behind net n gone into)
    unfolding net_behind
    behind_formed unseen = merged_formed net n gone into inner.0 inner.1 lawful.0 lawful.1 formed unseen (unseen_no_port net n formed unseen some)

    pub behind_means : is_seen net n ≡ false → SameMeaning (of_net (net_behind net n gone into)) (of_net net)
    unfolding net_behind
    behind_means unseen = merged_means net n gone into inner.0 inner.1 lawful.0 lawful.1 formed (unseen_no_port net n formed unseen some)

    pub behind_total : (k : ℕ) → IsTotalNet net.nets k → IsTotalNet (net_behind net n gone into).nets k
    unfolding net_behind with_nets
    behind_total k t = total_kept net n gone into inner.0 inner.1 lawful.0 lawful.1 formed k t
