-- A net that goes, and whose readers get tables in place of its table and their own: without it the network is well formed and
-- means what it meant.
use Rattle.std.proofs.Common.{◌≡◌, ◌∙◌, ◌⊎◌, ℕ, ◌<◌, true, false, List, [], ◌∷◌, map, Option, Some, None, IsTrue, is_some, refl, sym, ap, subst, ⊎_elim}
use Rattle.std.specs.Prelude.{◌↔◌}
use Rattle.std.proofs.lemmas.Bool.{cases_Bool, cases_eq, false≢true, false_from_ne_true}
use Rattle.mv_base.specs.Meaning.{SameMeaning}
use Rattle.mv_cover.specs.declared.cover.Cover.{Cover}
use Rattle.mv_cover.specs.Covers.{allowed, cover_reads}
use Rattle.mv_cover.specs.Covering.{IsPoint}
use Rattle.mv_cover.specs.Plain.{AllowsOne}
use Rattle.mv_cover.proofs.Local.{allowed-local}
use Rattle.mv_graph.specs.Above.{IsAbove}
use Rattle.mv_net.specs.declared.parts.FlatNet.{FlatNet}
use Rattle.mv_net.specs.declared.parts.NetParts.{NetParts}
use Rattle.mv_net.specs.Nets.{slot, values_in, name_in, spelled_in, table_in, table_reads, net_reads, reads_in}
use Rattle.mv_net.specs.Formed.{WellFormed}
use Rattle.mv_net.specs.Allowed.{net_allows, Agrees, of_net}
use Rattle.mv_net.specs.Changes.{with_nets}
use Rattle.mv_net.specs.Index.{is_seen}
use Rattle.mv_net.proofs.Patches.{other_than, put, put_same, put_other, IsWritten, AgreesBut, Agrees-set, Agrees-others, Agrees-put}
use Rattle.mv_net.proofs.Ports.{is_port, is_shown, shown_port, source_shown, state_source, SamePorts-refl, SamePorts-but, AgreesAtPorts, KeepsPorts}
use Rattle.mv_net.proofs.Stays.{gone_formed}
use Rattle.mv_net.proofs.Removal.{unseen_no_port, point_put}
use Rattle.mv_net.proofs.Totals.{allowed_below}
use Rattle.mv_net.proofs.Drivers.{SameMeaning-by}
use Rattle.mv_meaning.specs.Rewriting.{rewired, rewritten, IsReader, HasOneReader, AllowsThrough, JoinsTables, IsJoinedCover}
use Rattle.mv_meaning.proofs.Reformed.{KeepsPorts-reformed, net_allows-from, net_allows-parts, agreeing_point}
use Rattle.mv_meaning.proofs.Rewired.{IsReformed-rewritten, IsMadeOf, HasStayed, rewritten_from, rewritten_formed, slot-unread, table-reader, reader_at, reader_reads, cover_at, itself_unread}

-- ---- well formed

-- where no table that comes reads n, none of the nets does
rewritten_unread : (new : Cover → Cover) (n : ℕ) (nets : List (Option FlatNet)) → ((m : ℕ) (c : Cover) → IsReader nets n m c → cover_reads (new c) n ≡ false) → (m : ℕ) → net_reads (slot (rewritten new n nets) m) n ≡ false
rewritten_unread new n nets unread m = false_from_ne_true _ none
  where
    none : net_reads (slot (rewritten new n nets) m) n ≡ true → ⊥
    none reads =
        let r = reader_at (rewritten new n nets) n m reads in
        ⊎_elim
        (λ (made : IsMadeOf new n nets m r.0). false≢true (sym (unread m made.was made.reader) ∙ subst (λ d. cover_reads d n ≡ true) made.is r.1.reads))
        (λ (left : HasStayed n nets m r.0). false≢true (sym left.unread ∙ r.1.reads))
        (rewritten_from new n nets m r.0 r.1.table)

-- a net that isn't seen can go, where its readers get covers that read what they or the net read
pub collapsed_formed : (net : NetParts) (n : ℕ) (inner : Cover) (new : Cover → Cover) (nets : List (Option FlatNet)) → WellFormed net
    → table_in (slot net.nets n) ≡ Some inner → is_seen net n ≡ false
    → ((m : ℕ) (c : Cover) → IsReader net.nets n m c → IsJoinedCover net.nets (values_in (slot net.nets m)) inner n c (new c))
    → IsWritten (rewritten new n net.nets) n None nets
    → WellFormed (with_nets net nets)
unfolding with_nets
collapsed_formed net n inner new nets formed table unseen made gone =
    gone_formed (with_nets net (rewritten new n net.nets)) n nets
    (rewritten_formed net n new formed (λ m c r. (made m c r).cover) above)
    (record {
      unread = rewritten_unread new n net.nets (λ m c r. (made m c r).unread);
      hidden = unseen_no_port net n formed unseen (ap (λ t. is_some t) table);
    })
    gone
  where
    above : (m : ℕ) (c : Cover) (k : ℕ) → IsReader net.nets n m c → cover_reads (new c) k ≡ true → IsAbove (reads_in net.nets) k m
    above m c k r reads =
        ⊎_elim
        (λ (own : cover_reads c k ≡ true). record { path = []; goes = ap (λ t. table_reads t k) r.table ∙ own })
        (λ (its : cover_reads inner k ≡ true). record { path = n ∷ []; goes = (reader_reads net.nets n m c r, ap (λ t. table_reads t k) table ∙ its) })
        ((made m c r).reads k reads)

-- ---- a value put there

-- an assignment that is another but at n is that with its own value put at n
given_put : (n : ℕ) (x given : ℕ → ℕ) → ((m : ℕ) → (m ≡ n → ⊥) → given m ≡ x m) → (k : ℕ) → put n (given n) x k ≡ given k
given_put n x given others k =
    ⊎_elim
    (λ (e : k ≡ n). let P : ℕ → Type 0 = λ j. put n (given n) x j ≡ given j in subst P (sym e) (put_same n (given n) x))
    (λ (ne : k ≡ n → ⊥). put_other n (given n) x k ne ∙ sym (others k ne))
    (cases_eq k n)

-- the same of a value that is put
pub through_value : (inner : Cover) (n : ℕ) (c : Cover) (at : ℕ → ℕ) (v : ℕ) → (t : AllowsThrough inner n c at v) → allowed c (put n (t.given n) at) v ≡ true
through_value inner n c at v t = allowed-local c (put n (t.given n) at) t.given v (λ k _. given_put n at t.given t.others k) ∙ t.beyond

pub through_put : (inner : Cover) (n : ℕ) (c : Cover) (at : ℕ → ℕ) (v w : ℕ) → allowed inner at w ≡ true → allowed c (put n w at) v ≡ true → AllowsThrough inner n c at v
through_put inner n c at v w between beyond = record {
  given = put n w at;
  others = put_other n w at;
  between = subst (λ k. allowed inner at k ≡ true) (sym (put_same n w at)) between;
  beyond = beyond;
}

pub joins_from : (nets : List (Option FlatNet)) (inner : Cover) (n : ℕ) (c d : Cover) → cover_reads d n ≡ false
    → ((at : ℕ → ℕ) → IsPoint (map values_in nets) at → (v : ℕ) → (allowed d at v ≡ true) ↔ ((w : ℕ) × (allowed inner at w ≡ true) × (allowed c (put n w at) v ≡ true)))
    → JoinsTables nets inner n c d
joins_from nets inner n c d unread allows = record {
  unread = unread;
  allows = λ at point v. (
    λ h. let w = (allows at point v).0 h in through_put inner n c at v w.0 w.1 w.2,
    λ t. (allows at point v).1 (t.given n, t.between, through_value inner n c at v t),
  );
}

-- ---- as many values

counts-rewritten : (new : Cover → Cover) (n : ℕ) (nets : List (Option FlatNet)) → map values_in (rewritten new n nets) ≡ map values_in nets
unfolding rewritten
counts-rewritten new n [] = refl
counts-rewritten new n (f ∷ fs) = let here = values f in let rest = counts-rewritten new n fs in λ i. here i ∷ rest i
  where
    values : (f : Option FlatNet) → values_in (rewired new n f) ≡ values_in f
    values None = refl
    values (Some g) = refl

-- ---- the same meaning

module _ (net : NetParts) (n : ℕ) (inner : Cover) (new : Cover → Cover) (nets : List (Option FlatNet)) (formed : WellFormed net) (table : table_in (slot net.nets n) ≡ Some inner) (unseen : is_seen net n ≡ false) (joins : (m : ℕ) (c : Cover) → IsReader net.nets n m c → JoinsTables net.nets inner n c (new c)) (gone : IsWritten (rewritten new n net.nets) n None nets) where
  hidden : is_port net n ≡ false
  hidden = unseen_no_port net n formed unseen (ap (λ t. is_some t) table)

  -- no net reads itself
  itself_not : (m : ℕ) → reads_in net.nets m n ≡ true → m ≡ n → ⊥
  itself_not m reads e =
      let P : ℕ → Type 0 = λ k. reads_in net.nets k n ≡ true in
      false≢true (sym (itself_unread net n formed) ∙ subst P e reads)

  inner_unread : cover_reads inner n ≡ false
  inner_unread = ap (λ t. table_reads t n) (sym table) ∙ itself_unread net n formed

  keeps : KeepsPorts net nets
  keeps = record {
    names = λ m h. ap name_in (gone.others m (other m h)) ∙ before.names m h;
    spelled = λ m h. ap spelled_in (gone.others m (other m h)) ∙ before.spelled m h;
    values = λ m h. ap values_in (gone.others m (other m (source_shown net m (state_source net m h)))) ∙ before.values m h;
  }
    where
      before : KeepsPorts net (rewritten new n net.nets)
      before = KeepsPorts-reformed net (rewritten new n net.nets) (IsReformed-rewritten new n net.nets)

      other : (m : ℕ) → is_shown net m ≡ true → m ≡ n → ⊥
      other m h = other_than (is_port net) n m hidden (shown_port net m h)

  -- ---- from the network: the net's value is its own

  module _ (x : ℕ → ℕ) (a : Agrees net.nets x) where
    reader_up : (m : ℕ) (c : Cover) → IsReader net.nets n m c → IsTrue (net_allows (slot (rewritten new n net.nets) m) x (x m))
    reader_up m c r =
        let own = net_allows-parts (slot net.nets m) c x (x m) r.table (a.each m) in
        let its = net_allows-parts (slot net.nets n) inner x (x n) table (a.each n) in
        let through : AllowsThrough inner n c x (x m) = record { given = x; others = λ k ne. refl; between = its.1; beyond = own.1 } in
        let point = agreeing_point net.nets net.nets x (λ k. refl) a in
        net_allows-from (slot (rewritten new n net.nets) m) (new c) x (x m) (table-reader new n net.nets m c r)
        (subst (λ k. x m < k) (sym ((IsReformed-rewritten new n net.nets).each m).values) own.0)
        (((joins m c r).allows x point (x m)).1 through)

    others_up : (m : ℕ) → IsTrue (net_allows (slot (rewritten new n net.nets) m) x (x m))
    others_up m =
        ⊎_elim
        (λ (y : reads_in net.nets m n ≡ true). let r = reader_at net.nets n m y in reader_up m r.0 r.1)
        (λ (f : reads_in net.nets m n ≡ false). ap (λ g. net_allows g x (x m)) (slot-unread new n net.nets m f) ∙ a.each m)
        (cases_Bool (reads_in net.nets m n))

    up : AgreesAtPorts net nets x
    up = record { at = x; agrees = Agrees-set (rewritten new n net.nets) n None nets x gone (record { each = λ m ne. others_up m }) refl; same = SamePorts-refl net x }

  -- ---- to the network: a value for the net with which all readers agree

  module _ (x : ℕ → ℕ) (but : AgreesBut (rewritten new n net.nets) n x) where
    point : IsPoint (map values_in net.nets) (put n 0 x)
    point = subst (λ ks. IsPoint ks (put n 0 x)) (counts-rewritten new n net.nets) (point_put (rewritten new n net.nets) n 0 x but (λ h. h))

    -- a reader's value is one of its own, and its new table allows it
    reader_now : (m : ℕ) (c : Cover) → IsReader net.nets n m c → (x m < values_in (slot (rewritten new n net.nets) m)) × (allowed (new c) x (x m) ≡ true)
    reader_now m c r =
        net_allows-parts (slot (rewritten new n net.nets) m) (new c) x (x m) (table-reader new n net.nets m c r) (but.each m (itself_not m (reader_reads net.nets n m c r)))

    through : (m : ℕ) (c : Cover) → IsReader net.nets n m c → AllowsThrough inner n c (put n 0 x) (x m)
    through m c r =
        let is = joins m c r in
        (is.allows (put n 0 x) point (x m)).0
        (allowed-local (new c) (put n 0 x) x (x m) (λ k reads. put_other n 0 x k (other_than (cover_reads (new c)) n k is.unread reads)) ∙ (reader_now m c r).1)

    -- the value at n lets the readers' old tables allow what they have
    Suits : ℕ → ℕ → Type 0
    Suits w m = (c : Cover) → IsReader net.nets n m c → allowed c (put n w x) (x m) ≡ true

    suits_at : (m : ℕ) (c : Cover) (r : IsReader net.nets n m c) → allowed c (put n ((through m c r).given n) x) (x m) ≡ true
    suits_at m c r =
        let t = through m c r in
        allowed-local c (put n (t.given n) x) t.given (x m) (λ k _. given_put n x t.given (λ j ne. t.others j ne ∙ put_other n 0 x j ne) k) ∙ t.beyond

    suits_own : (m : ℕ) (c : Cover) (r : IsReader net.nets n m c) → Suits ((through m c r).given n) m
    unfolding Suits
    suits_own m c r d q =
        let same : Some c ≡ Some d = sym r.table ∙ q.table in
        let e : c ≡ d = cc in
        let w = (through m c r).given n in
        subst (λ b. allowed b (put n w x) (x m) ≡ true) e (suits_at m c r)

    suits_all : AllowsOne inner ⊎ HasOneReader net.nets n → (m : ℕ) (c : Cover) (r : IsReader net.nets n m c) → (k : ℕ) → Suits ((through m c r).given n) k
    unfolding Suits
    suits_all one m c r k =
        ⊎_elim
        (λ (single : AllowsOne inner). λ d q.
        let t = through k d q in
        subst (λ w. allowed d (put n w x) (x k) ≡ true) (single.one (put n 0 x) (t.given n) ((through m c r).given n) t.between (through m c r).between) (suits_at k d q))
        (λ (only : HasOneReader net.nets n). λ d q.
        let e : m ≡ k = only.one m k (reader_reads net.nets n m c r) (reader_reads net.nets n k d q) in
        subst (Suits ((through m c r).given n)) e (suits_own m c r) d q)
        one

    module _ (w : ℕ) (between : allowed inner (put n 0 x) w ≡ true) (suits : (k : ℕ) → Suits w k) where
      here : IsTrue (net_allows (slot net.nets n) (put n w x) w)
      here =
          net_allows-from (slot net.nets n) inner (put n w x) w table
          (allowed_below net.nets (values_in (slot net.nets n)) inner (put n 0 x) w (cover_at net n inner formed table) between)
          (allowed-local inner (put n w x) (put n 0 x) w (λ k reads. let ne = other_than (cover_reads inner) n k inner_unread reads in put_other n w x k ne ∙ sym (put_other n 0 x k ne)) ∙ between)

      readers : (m : ℕ) → (m ≡ n → ⊥) → net_reads (slot net.nets m) n ≡ true → IsTrue (net_allows (slot net.nets m) (put n w x) (x m))
      unfolding Suits
      readers m ne reads =
          let r = reader_at net.nets n m reads in
          net_allows-from (slot net.nets m) r.0 (put n w x) (x m) r.1.table
          (subst (λ k. x m < k) ((IsReformed-rewritten new n net.nets).each m).values (reader_now m r.0 r.1).0)
          (suits m r.0 r.1)

      others : (m : ℕ) → (m ≡ n → ⊥) → net_reads (slot net.nets m) n ≡ false → IsTrue (net_allows (slot net.nets m) x (x m))
      others m ne unread = ap (λ g. net_allows g x (x m)) (sym (slot-unread new n net.nets m unread)) ∙ but.each m ne

      down_with : AgreesAtPorts net net.nets x
      down_with = record {
        at = put n w x;
        agrees = Agrees-put net.nets n w x here readers others;
        same = SamePorts-but net n x (put n w x) hidden (λ m ne. sym (put_other n w x m ne));
      }

    down : AllowsOne inner ⊎ HasOneReader net.nets n → (m : ℕ) → reads_in net.nets m n ≡ true → AgreesAtPorts net net.nets x
    down one m reads =
        let r = reader_at net.nets n m reads in
        let t = through m r.0 r.1 in
        down_with (t.given n) t.between (suits_all one m r.0 r.1)

-- a net that isn't seen and that some net reads can go, where each reader gets a table that allows what the reader did with some
-- value of the net: if its table allows one value at most, or it has one reader alone
pub collapsed_means : (net : NetParts) (n : ℕ) (inner : Cover) (new : Cover → Cover) (nets : List (Option FlatNet)) → WellFormed net
    → table_in (slot net.nets n) ≡ Some inner → is_seen net n ≡ false
    → ((m : ℕ) (c : Cover) → IsReader net.nets n m c → JoinsTables net.nets inner n c (new c))
    → (m : ℕ) → reads_in net.nets m n ≡ true
    → AllowsOne inner ⊎ HasOneReader net.nets n
    → IsWritten (rewritten new n net.nets) n None nets
    → SameMeaning (of_net (with_nets net nets)) (of_net net)
collapsed_means net n inner new nets formed table unseen joins m reads one gone =
    SameMeaning-by net nets (keeps net n inner new nets formed table unseen joins gone)
    (λ x a. down net n inner new nets formed table unseen joins gone x (Agrees-others (rewritten new n net.nets) n None nets x gone a) one m reads)
    (λ x a. up net n inner new nets formed table unseen joins gone x a)
