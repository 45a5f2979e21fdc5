-- The network with nets that stand for one of them, and without that one, is well formed.
use Rattle.std.proofs.Common.{◌≡◌, ◌∙◌, ℕ, zero, suc, ◌+◌, ◌-◌, ◌<◌, ◌≤◌, true, false, cond, nat_lt, List, [], ◌∷◌, length, map, Option, Some, None, is_some, sym, ap, subst, ⊎_elim, arith}
use Rattle.std.proofs.lemmas.Bool.{cases_lt, cond-true, cond-false, false≢true, false_from_ne_true, lt-ltb, ltb-true}
use Rattle.mv_cover.specs.declared.cover.Cover.{Cover}
use Rattle.mv_cover.specs.Covers.{cover_reads}
use Rattle.mv_graph.specs.Above.{IsAbove}
use Rattle.mv_graph.proofs.Paths.{above_mapped, acyclic_mapped}
use Rattle.mv_meaning.specs.Rewriting.{IsReader, IsReformed, AreCovers}
use Rattle.mv_meaning.proofs.Reformed.{IsReformed-back, kind_kept, reformed_formed}
use Rattle.mv_meaning.proofs.Rewired.{IsMadeOf, HasStayed, IsReformed-rewritten, rewritten_from, cover_at, itself_unread}
use Rattle.mv_net.specs.declared.change.NewNet.{NewNet}
use Rattle.mv_net.specs.declared.parts.Kind.{Kind}
use Rattle.mv_net.specs.declared.parts.Kind.TheVariants.{Latch, Table, Reset}
use Rattle.mv_net.specs.declared.parts.FlatNet.{FlatNet}
use Rattle.mv_net.specs.declared.parts.NetParts.{NetParts}
use Rattle.mv_net.specs.Changes.{made_net, with_nets}
use Rattle.mv_net.specs.Formed.{IsKind, IsCover, ResetsStandAlone, WellFormed}
use Rattle.mv_net.specs.Index.{is_seen}
use Rattle.mv_net.specs.Nets.{slot, values_in, table_in, table_reads, reads_in}
use Rattle.mv_net.proofs.Known.{readable_below, reads_readable}
use Rattle.mv_net.proofs.Patches.{IsWritten}
use Rattle.mv_net.proofs.Removal.{unseen_no_port}
use Rattle.mv_net.proofs.Stays.{IsLoose, gone_formed}
use Rattle.mv_coding.proofs.Coming.{came, grown_formed}
use Rattle.mv_coding.proofs.Grown.{with_more, restated, slot-low, slot-high, more_reads, more_reader, ReadsNew, ReadsStill, rewritten_reads}
use Rattle.mv_coding.proofs.Standing.{StandFor}

-- a net that comes has a table
made_kind : (ms : List NewNet) (i : ℕ) (kind : Kind) → IsKind (map made_net ms) i kind → Table ≡ kind
made_kind [] i kind is = let bad = is.held in cc
made_kind (m ∷ ms) zero kind is = let same : Some (came m) ≡ Some is.net = is.held in let e : came m ≡ is.net = cc in ap (λ (f : FlatNet). f.kind) e ∙ is.is
made_kind (m ∷ ms) (suc i) kind is = made_kind ms i kind (record { net = is.net; held = is.held; is = is.is })

module _ (net : NetParts) (n : ℕ) (inner : Cover) (new : Cover → Cover) (ms : List NewNet) (formed : WellFormed net) (table : table_in (slot net.nets n) ≡ Some inner) (stand : StandFor net.nets n inner new ms) where
  -- the nets with those that come, and then with the readers' new tables
  abbrev more : List (Option FlatNet)
  more = with_more net.nets ms

  abbrev after : List (Option FlatNet)
  after = restated new n net.nets ms

  first : ℕ
  first = length net.nets

  pub more_formed : WellFormed (with_nets net more)
  more_formed = grown_formed net ms formed stand.nets_new

  pub inner_unread : cover_reads inner n ≡ false
  inner_unread = ap (λ t. table_reads t n) (sym table) ∙ itself_unread net n formed

  -- what is read was there
  read_low : (m k : ℕ) → reads_in net.nets m k ≡ true → k < length net.nets
  read_low m k r = readable_below net.nets k (reads_readable net m k formed r)

  inner_reads_low : (k : ℕ) → cover_reads inner k ≡ true → k < length net.nets
  inner_reads_low k r = read_low n k (ap (λ t. table_reads t k) table ∙ r)

  pub reader_before : (m : ℕ) (c : Cover) → IsReader more n m c → (m < length net.nets) × IsReader net.nets n m c
  reader_before m c r = more_reader net.nets inner ms n m c stand.follow inner_unread r

  -- ---- nets that come stand for n

  -- the net that was there, or n for one that comes
  stood : ℕ → ℕ
  stood k = cond (nat_lt k (length net.nets)) k n

  stood-low : (k : ℕ) → k < length net.nets → stood k ≡ k
  unfolding stood
  stood-low k low = cond-true (nat_lt k (length net.nets)) k n (lt-ltb k (length net.nets) low)

  stood-high : (k : ℕ) → length net.nets ≤ k → stood k ≡ n
  unfolding stood
  stood-high k high = cond-false (nat_lt k (length net.nets)) k n (false_from_ne_true _ (λ y. let low = ltb-true k (length net.nets) y in omega arith))

  reads_stood : (m k i j : ℕ) → stood m ≡ i → stood k ≡ j → reads_in net.nets i j ≡ true → reads_in net.nets (stood m) (stood k) ≡ true
  reads_stood m k i j p q r = ap (λ a. reads_in net.nets a (stood k)) p ∙ (ap (reads_in net.nets i) q ∙ r)

  mapped_more : (m k : ℕ) → reads_in more m k ≡ true → reads_in net.nets (stood m) (stood k) ≡ true
  mapped_more m k r =
      ⊎_elim
      (λ (was : (m < length net.nets) × (reads_in net.nets m k ≡ true)). reads_stood m k m k (stood-low m was.0) (stood-low k (read_low m k was.1)) was.1)
      (λ (comes : (length net.nets ≤ m) × (cover_reads inner k ≡ true)). reads_stood m k n k (stood-high m comes.0) (stood-low k (inner_reads_low k comes.1)) (ap (λ t. table_reads t k) table ∙ comes.1))
      (more_reads net.nets inner ms m k stand.follow r)

  mapped_new : (m k : ℕ) → ReadsNew new n more m k → reads_in net.nets (stood m) (stood k) ≡ true
  mapped_new m k r =
      let was = reader_before m r.was r.reader in
      ⊎_elim
      (λ (own : cover_reads r.was k ≡ true).
      let reads : reads_in net.nets m k ≡ true = ap (λ t. table_reads t k) was.1.table ∙ own in
      reads_stood m k m k (stood-low m was.0) (stood-low k (read_low m k reads)) reads)
      (λ (high : length net.nets ≤ k). reads_stood m k m n (stood-low m was.0) (stood-high k high) (ap (λ t. table_reads t n) was.1.table ∙ was.1.reads))
      ((stand.restates m r.was was.1).reads k r.reads)

  mapped : (m k : ℕ) → reads_in after m k ≡ true → reads_in net.nets (stood m) (stood k) ≡ true
  mapped m k r =
      ⊎_elim
      (λ (made : ReadsNew new n more m k). mapped_new m k made)
      (λ (left : ReadsStill n more m k). mapped_more m k left.reads)
      (rewritten_reads new n more m k r)

  -- ---- each part

  reformed : IsReformed more after
  reformed = IsReformed-rewritten new n more

  cover_made : (m : ℕ) (d : Cover) → IsMadeOf new n more m d → IsCover more (values_in (slot after m)) d
  cover_made m d made =
      let was = reader_before m made.was made.reader in
      let values : values_in (slot net.nets m) ≡ values_in (slot after m) = sym ((reformed.each m).values ∙ ap values_in (slot-low net.nets ms m was.0)) in
      subst (λ k. IsCover more k d) values (subst (IsCover more (values_in (slot net.nets m))) (sym made.is) (stand.covers m made.was was.1))

  covers : AreCovers more after
  unfolding with_nets
  covers = record {
    each = λ m d e.
        ⊎_elim
        (λ (made : IsMadeOf new n more m d). cover_made m d made)
        (λ (left : HasStayed n more m d). subst (λ k. IsCover more k d) (sym (reformed.each m).values) (cover_at (with_nets net more) m d more_formed left.table))
        (rewritten_from new n more m d e);
  }

  -- a net that has no table was there
  kind_before : (m : ℕ) (kind : Kind) → (Table ≡ kind → ⊥) → IsKind after m kind → (m < length net.nets) × IsKind net.nets m kind
  kind_before m kind apart is =
      let was = kind_kept after more (IsReformed-back more after reformed) m kind is in
      ⊎_elim
      (λ (low : m < length net.nets). (low, record { net = was.net; held = sym (slot-low net.nets ms m low) ∙ was.held; is = was.is }))
      (λ (high : length net.nets ≤ m).
      let e : length net.nets + (m - length net.nets) ≡ m = omega arith in
      absurd (apart (made_kind ms (m - length net.nets) kind (record { net = was.net; held = sym (slot-high net.nets ms (m - length net.nets)) ∙ (ap (slot more) e ∙ was.held); is = was.is }))))
      (cases_lt m (length net.nets))

  alone : ResetsStandAlone after
  alone = record {
    none = λ m k latch reset above.
        let low = kind_before m Latch (λ e. cc) latch in
        let high = kind_before k Reset (λ e. cc) reset in
        formed.alone.none m k low.1 high.1
        (subst (λ i. IsAbove (reads_in net.nets) i k) (stood-low m low.0)
        (subst (IsAbove (reads_in net.nets) (stood m)) (stood-low k high.0) (above_mapped (reads_in after) (reads_in net.nets) stood mapped m k above)));
  }

  -- with the readers' new tables it is well formed
  pub after_formed : WellFormed (with_nets net after)
  unfolding with_nets
  after_formed = reformed_formed (with_nets net more) after more_formed reformed covers (acyclic_mapped (reads_in after) (reads_in net.nets) stood mapped formed.acyclic) alone

  -- ---- n goes

  after_unread : (m : ℕ) → reads_in after m n ≡ true → ⊥
  after_unread m r =
      ⊎_elim
      (λ (made : ReadsNew new n more m n).
      let was = reader_before m made.was made.reader in
      false≢true (sym (stand.restates m made.was was.1).unread ∙ made.reads))
      (λ (left : ReadsStill n more m n). false≢true (sym left.unread ∙ left.reads))
      (rewritten_reads new n more m n r)

  pub after_loose : is_seen net n ≡ false → IsLoose (with_nets net after) n
  unfolding with_nets
  after_loose unseen = record {
    unread = λ m. false_from_ne_true _ (after_unread m);
    hidden = unseen_no_port net n formed unseen (ap (λ t. is_some t) table);
  }

  pub stand_formed : (nets : List (Option FlatNet)) → is_seen net n ≡ false → IsWritten after n None nets → WellFormed (with_nets net nets)
  unfolding with_nets
  stand_formed nets unseen gone = gone_formed (with_nets net after) n nets after_formed (after_loose unseen) gone
