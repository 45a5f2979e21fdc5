-- The rule `collapse`: its change, that what it leaves is well formed, and that it means the same.
use Rattle.std.proofs.Common.{◌≡◌, ◌∙◌, ◌⊎◌, ℕ, ◌+◌, ◌<◌, ◌≤◌, Bool, true, false, nat_eq, List, [], ◌∷◌, length, take, get_or, set, slice_set, IsTrue, is_some, ⊎_elim, eqb-true, arith, Option, Some, None, inl, inr, refl, sym, ap, subst, eq-eqb}
use Rattle.std.specs.Prelude.{MatchBool}
use Rattle.std.proofs.lemmas.Bool.{or_cases, false≢true, false_from_ne_true}
use Rattle.std.proofs.lemmas.Option.{same_Some}
use Rattle.std.proofs.lemmas.List.{take_all}
use Rattle.mv_base.specs.Meaning.{SameMeaning}
use Rattle.mv_composite.specs.declared.inner.Inner.{Inner}
use Rattle.mv_composite.specs.Inside as inside
use Rattle.mv_composite.specs.Inside.{AreCubesOver, IsCoverOver, AllowsAtEach}
use Rattle.mv_composite.specs.Wide.{IsTooWide}
use Rattle.mv_composite.specs.Composite.{composed}
use Rattle.mv_composite.proofs.Formed.{composed_over}
use Rattle.mv_composite.proofs.Meaning.{composes}
use Rattle.mv_composite.proofs.Reading.{composed_reads}
use Rattle.mv_cover.specs.declared.cover.Cover.{Cover}
use Rattle.mv_cover.specs.Covers.{cover_reads}
use Rattle.mv_cover.specs.Plain.{AllowsOne, IsPlainlyDeterministic}
use Rattle.mv_cover.proofs.Single.{allows_one}
use Rattle.mv_meaning.specs.Rewriting.{rewritten, HasOneReader, IsReader, JoinsTables, IsJoinedCover}
use Rattle.mv_meaning.proofs.Collapsing.{joins_from, collapsed_formed, collapsed_means}
use Rattle.mv_meaning.proofs.Rewired.{cover_at}
use Rattle.mv_net.specs.declared.parts.FlatNet.{FlatNet}
use Rattle.mv_net.specs.declared.parts.NetParts.{NetParts}
use Rattle.mv_net.specs.Allowed.{of_net}
use Rattle.mv_net.specs.Changes.{with_nets, AreHeldOnce, Fits}
use Rattle.mv_net.specs.Formed.{IsReadable, WellFormed}
use Rattle.mv_net.specs.Nets.{slot, values_in, table_in, table_reads, net_reads, reads_in}
use Rattle.mv_net.specs.Index.{is_held, is_seen}
use Rattle.mv_graph.specs.Nets.{has_id, IsAscending}
use Rattle.mv_cover.specs.declared.stop.CoverStop.{CoverStop}
use Rattle.mv_entry.specs.declared.fault.RuleFault.TheVariants.{Wide}
use Rattle.mv_net.specs.declared.change.NewTable.{NewTable}
use Rattle.mv_net.specs.declared.change.Change.{Change}
use Rattle.mv_base.specs.declared.number.NetId.{NetId}
use Rattle.mv_base.specs.declared.limits.TheConstants.{MAX_NETS}
use Rattle.mv_meaning.proofs.Changing.{changed-collapsed}
use Rattle.mv_net.specs.Plain.{IsPlainNet}
use Rattle.mv_net.specs.Total.{IsTotalNet}
use Rattle.mv_net.proofs.Known.{counts_at, reads_readable}
use Rattle.mv_net.proofs.Patches.{IsWritten-gone}
use Rattle.mv_readers.proofs.Overs.{counts_of, over_counts, cover_in}
use Rattle.mv_plans.specs.Checks.{IsTabled}
use Rattle.mv_plans.specs.Collapsing.{IsInnerOf, IsUnshared, AreNarrow, HasComposites, CanCollapse, Collapses, CollapseRow, collapsed}
use Rattle.mv_readers.specs.Readers.{AreRewritten}
use Rattle.mv_plans.specs.Plans.{IsPlanned}
use Rattle.mv_readers.proofs.Readers.{sets_readers, fits_tables, tabled_held}

-- ---- what a composite asks of the net

-- the net has a table
held_with : (nets : List (Option FlatNet)) (n : ℕ) (c : Cover) → table_in (slot nets n) ≡ Some c → (f : FlatNet) × ((slot nets n ≡ Some f) × (f.table ≡ Some c))
held_with nets n c table = by (slot nets n) refl table
  where
    by : (o : Option FlatNet) → slot nets n ≡ o → table_in o ≡ Some c → (f : FlatNet) × ((slot nets n ≡ Some f) × (f.table ≡ Some c))
    by None e t = cc
    by (Some f) e t = (f, (e, t))

pub total_there : (nets : List (Option FlatNet)) (n : ℕ) (c : Cover) → table_in (slot nets n) ≡ Some c → AllowsAtEach (counts_of nets) c → IsTotalNet nets n
total_there nets n c table each =
    let f = held_with nets n c table in record {
      net = f.0;
      held = f.1.0;
      cover = c;
      table = f.1.1;
      total = record { some = λ at point. let w = each.some at point in record { value = w.0; is_allowed = w.1 } };
    }

pub total_each : (nets : List (Option FlatNet)) (n : ℕ) (c : Cover) → table_in (slot nets n) ≡ Some c → IsTotalNet nets n → AllowsAtEach (counts_of nets) c
total_each nets n c table total =
    let same = same_Some total.cover c (sym total.table ∙ (sym (ap table_in total.held) ∙ table)) in
    subst (λ d. AllowsAtEach (counts_of nets) d) same (record { some = λ at point. let w = total.total.some at point in (w.value, w.is_allowed) })

total_flag : (b : Bool) (nets : List (Option FlatNet)) (n : ℕ) (c : Cover) → table_in (slot nets n) ≡ Some c → MatchBool b (IsTotalNet nets n) (IsTotalNet nets n → ⊥)
    → MatchBool b (AllowsAtEach (counts_of nets) c) (AllowsAtEach (counts_of nets) c → ⊥)
total_flag true nets n c table h = total_each nets n c table h
total_flag false nets n c table h = λ each. h (total_there nets n c table each)

plain_flag : (b : Bool) (nets : List (Option FlatNet)) (n : ℕ) (c : Cover) → table_in (slot nets n) ≡ Some c → MatchBool b (IsPlainNet nets n) (IsPlainNet nets n → ⊥)
    → MatchBool b (IsPlainlyDeterministic c) (IsPlainlyDeterministic c → ⊥)
plain_flag true nets n c table h = subst IsPlainlyDeterministic (same_Some h.cover c (sym h.table ∙ table)) h.plain
plain_flag false nets n c table h = λ plain. h (record { cover = c; table = table; plain = plain })

pub is_inner : (net : NetParts) (inner : Inner) → WellFormed net → IsInnerOf net.nets inner → inside.IsInner (counts_of net.nets) inner
is_inner net inner formed known =
    let n = inner.net.0 in record {
      cover = subst (λ k. IsCoverOver (counts_of net.nets) k inner.cover) (sym (counts_at net.nets n)) (over_counts net (values_in (slot net.nets n)) inner.cover formed (cover_at net n inner.cover formed known.table));
      total = total_flag inner.total net.nets n inner.cover known.table known.total;
      plain = plain_flag inner.plain net.nets n inner.cover known.table known.plain;
    }

-- ---- the composites of the readers

module _ (net : NetParts) (inner : Inner) (formed : WellFormed net) (known : IsInnerOf net.nets inner) where
  abbrev pub counts : List ℕ
  counts = counts_of net.nets

  abbrev pub n : ℕ
  n = inner.net.0

  is : inside.IsInner counts inner
  is = is_inner net inner formed known

  -- the net doesn't read itself
  no_self : cover_reads inner.cover n ≡ false
  no_self = false_from_ne_true _ (λ r. formed.acyclic.none n (record { path = []; goes = ap (λ t. table_reads t n) known.table ∙ r }))

  pub reader_over : (m : ℕ) (c : Cover) → IsReader net.nets n m c → IsCoverOver counts (values_in (slot net.nets m)) c
  reader_over m c reader = over_counts net (values_in (slot net.nets m)) c formed (cover_at net m c formed reader.table)

  unread : (m : ℕ) (c : Cover) → IsReader net.nets n m c → cover_reads (composed counts inner c) n ≡ false
  unread m c reader = false_from_ne_true _ (λ r. none ((composed_reads counts inner c is (reader_over m c reader).cubes).only n r))
    where
      none : ((cover_reads c n ≡ true) × (nat_eq n n ≡ false)) ⊎ (cover_reads inner.cover n ≡ true) → ⊥
      none (inl old) = false≢true (sym old.1 ∙ eq-eqb n n refl)
      none (inr own) = false≢true (sym no_self ∙ own)

  reads_old : (m : ℕ) (c : Cover) (k : ℕ) → IsReader net.nets n m c → cover_reads (composed counts inner c) k ≡ true → (cover_reads c k ≡ true) ⊎ (cover_reads inner.cover k ≡ true)
  reads_old m c k reader r = by ((composed_reads counts inner c is (reader_over m c reader).cubes).only k r)
    where
      by : ((cover_reads c k ≡ true) × (nat_eq k n ≡ false)) ⊎ (cover_reads inner.cover k ≡ true) → (cover_reads c k ≡ true) ⊎ (cover_reads inner.cover k ≡ true)
      by (inl old) = inl old.0
      by (inr own) = inr own

  readable : (m : ℕ) (c : Cover) (k : ℕ) → IsReader net.nets n m c → cover_reads (composed counts inner c) k ≡ true → IsReadable net.nets k
  readable m c k reader r = by (reads_old m c k reader r)
    where
      by : (cover_reads c k ≡ true) ⊎ (cover_reads inner.cover k ≡ true) → IsReadable net.nets k
      by (inl old) = reads_readable net m k formed (ap (λ t. table_reads t k) reader.table ∙ old)
      by (inr own) = reads_readable net n k formed (ap (λ t. table_reads t k) known.table ∙ own)

  formed_composite : (m : ℕ) (c : Cover) → IsReader net.nets n m c → IsJoinedCover net.nets (values_in (slot net.nets m)) inner.cover n c (composed counts inner c)
  formed_composite m c reader = record {
    cover = cover_in net.nets (values_in (slot net.nets m)) (composed counts inner c) (composed_over counts (values_in (slot net.nets m)) inner c is (reader_over m c reader)) (λ k r. readable m c k reader r);
    unread = unread m c reader;
    reads = λ k r. reads_old m c k reader r;
  }

  pub is_composite : (m : ℕ) (c : Cover) → IsReader net.nets n m c → JoinsTables net.nets inner.cover n c (composed counts inner c)
  is_composite m c reader = joins_from net.nets inner.cover n c (composed counts inner c) (unread m c reader) (composes counts inner c is (reader_over m c reader).cubes).each

  one_choice : IsUnshared net.nets n → AllowsOne inner.cover ⊎ HasOneReader net.nets n
  one_choice (inl plain) = inl (allows_one inner.cover (subst IsPlainlyDeterministic (same_Some plain.cover inner.cover (sym plain.table ∙ known.table)) plain.plain))
  one_choice (inr one) = inr one

  pub collapsed_is_formed : is_seen net n ≡ false → WellFormed (collapsed net inner)
  collapsed_is_formed unseen =
      collapsed_formed net n inner.cover (composed counts inner) (set (rewritten (composed counts inner) n net.nets) n None) formed known.table unseen formed_composite
      (IsWritten-gone (rewritten (composed counts inner) n net.nets) n)

  pub collapsed_is_same : is_seen net n ≡ false → (m : ℕ) → reads_in net.nets m n ≡ true → IsUnshared net.nets n → SameMeaning (of_net (collapsed net inner)) (of_net net)
  collapsed_is_same unseen m reads one =
      collapsed_means net n inner.cover (composed counts inner) (set (rewritten (composed counts inner) n net.nets) n None) formed known.table unseen is_composite m reads
      (one_choice one) (IsWritten-gone (rewritten (composed counts inner) n net.nets) n)

-- ---- the rule

-- the only net of a list
listed_one : (n : NetId) (m : ℕ) → has_id (n ∷ []) m ≡ true → n.0 ≡ m
listed_one n m h =
    ⊎_elim (λ (y : nat_eq n.0 m ≡ true). eqb-true n.0 m y) (λ (f : false ≡ true). absurd (false≢true f)) (or_cases (nat_eq n.0 m) false h)

one_held : (nets : List (Option FlatNet)) (n : NetId) → IsTrue (is_held nets n.0) → AreHeldOnce nets (n ∷ [])
one_held nets n held = record { held = λ m h. subst (λ k. IsTrue (is_held nets k)) (listed_one n m h) held; once = refl }

-- the change by which a net goes and others get these tables
abbrev pub going_into : NetId → List NewTable → Change
going_into n set = record { add = []; set = set; values = []; gone = n ∷ [] }

-- it fits where the net has a table, and the others are its readers
pub going_fits : (net : NetParts) (new : Cover → Cover) (n : NetId) (set : List NewTable) → WellFormed net → is_some (table_in (slot net.nets n.0)) ≡ true → AreRewritten net.nets new n.0 set
    → Fits net (going_into n set)
going_fits net new n set formed table are = fits_tables net new n.0 set (n ∷ []) are (one_held net.nets n (tabled_held net.nets n.0 table)) (λ m h. no_reader m h)
  where
    no_reader : (m : ℕ) → has_id (n ∷ []) m ≡ true → reads_in net.nets m n.0 ≡ false
    no_reader m h = let e = listed_one n m h in subst (λ k. reads_in net.nets k n.0 ≡ false) e (false_from_ne_true _ (λ r. formed.acyclic.none n.0 (record { path = []; goes = r })))

pub planned : (net : NetParts) (w : List ℕ) (n : NetId) (set : List NewTable) (change : Change) → WellFormed net → length net.nets ≤ MAX_NETS → IsTabled net.nets w n.0
    → CanCollapse net n.0 → (has : HasComposites net.nets n.0) → AreRewritten net.nets (composed (counts_of net.nets) has.inner) n.0 set → change ≡ going_into n set
    → IsPlanned net (Collapses net w) change
planned net w n set change formed few tabled can has are is =
    let new = changed-collapsed net n (composed (counts_of net.nets) has.inner) set (sets_readers net.nets (composed (counts_of net.nets) has.inner) n.0 set are) in
    let there = new ∙ ap (λ k. with_nets net (slice_set (rewritten (composed (counts_of net.nets) has.inner) k net.nets) k None)) (sym has.of_net) in
    subst (IsPlanned net (Collapses net w)) (sym is) (record {
      few = omega (arith, few);
      fits = going_fits net (composed (counts_of net.nets) has.inner) n set formed tabled.table are;
      formed = subst WellFormed (sym there) (collapsed_is_formed net has.inner formed has.known (ap (is_seen net) has.of_net ∙ can.unseen.unseen));
      makes = record {
        number = n.0;
        net = tabled;
        unseen = can.unseen;
        read = can.read;
        unshared = can.unshared;
        composites = has;
        new_is = there;
      };
    })

pub collapses_formed : (old : NetParts) (w : List ℕ) (new : NetParts) → WellFormed old → Collapses old w new → WellFormed new
collapses_formed old w new formed r =
    let has = r.composites in
    subst WellFormed (sym r.new_is) (collapsed_is_formed old has.inner formed has.known (ap (is_seen old) has.of_net ∙ r.unseen.unseen))

pub collapsed_means_same : (old : NetParts) (w : List ℕ) (new : NetParts) → WellFormed old → Collapses old w new → SameMeaning (of_net new) (of_net old)
collapsed_means_same old w new formed r =
    let P : NetParts → Type 0 = λ p. SameMeaning (of_net p) (of_net old) in
    let has = r.composites in
    subst P (sym r.new_is)
    (collapsed_is_same old has.inner formed has.known (ap (is_seen old) has.of_net ∙ r.unseen.unseen) r.read.reader (ap (reads_in old.nets r.read.reader) has.of_net ∙ r.read.reads)
    (subst (IsUnshared old.nets) (sym has.of_net) r.unshared))

-- ---- the readers, one after the other

pub readers_over : (net : NetParts) (n : ℕ) (readers : List NetId) (i : ℕ) (d : NetId) (outer : Cover) → WellFormed net → i < length readers → IsAscending (λ m. net_reads (slot net.nets m) n) readers
    → table_in (slot net.nets (get_or readers i d).0) ≡ Some outer → AreCubesOver (counts_of net.nets) outer.lines
readers_over net n readers i d outer formed low is held =
    (over_counts net (values_in (slot net.nets (get_or readers i d).0)) outer formed (cover_at net (get_or readers i d).0 outer formed held)).cubes

-- ---- the composites of all readers

abbrev pub has_composites : (nets : List (Option FlatNet)) (n : ℕ) (inner : Inner) → IsInnerOf nets inner → inner.net.0 ≡ n → AreNarrow nets inner (λ m. reads_in nets m inner.net.0) → HasComposites nets n
has_composites nets n inner known same narrow =
    record { inner = inner; of_net = same; known = known; narrow = subst (λ k. AreNarrow nets inner (λ m. reads_in nets m k)) same narrow }

-- a test that says whether something holds has one answer
pub one_test : (P : Type 0) (a b : Bool) → MatchBool a P (P → ⊥) → MatchBool b P (P → ⊥) → a ≡ b
one_test P true true p q = refl
one_test P false false p q = refl
one_test P true false p q = absurd (q p)
one_test P false true p q = absurd (p q)

-- two composites of one net are asked for alike
pub one_inner : (nets : List (Option FlatNet)) (i j : Inner) → i.net.0 ≡ j.net.0 → IsInnerOf nets i → IsInnerOf nets j → i ≡ j
one_inner nets i j same p q =
    let cover = same_Some i.cover j.cover (sym p.table ∙ (ap (λ n. table_in (slot nets n)) same ∙ q.table)) in
    let total = one_test (IsTotalNet nets i.net.0) i.total j.total p.total (subst (λ n. MatchBool j.total (IsTotalNet nets n) (IsTotalNet nets n → ⊥)) (sym same) q.total) in
    let plain = one_test (IsPlainNet nets i.net.0) i.plain j.plain p.plain (subst (λ n. MatchBool j.plain (IsPlainNet nets n) (IsPlainNet nets n → ⊥)) (sym same) q.plain) in
    λ t. record { net = record { 0 = same t }; cover = cover t; total = total t; plain = plain t }

-- the check of the composites fails where one is too wide
pub wide_fails : (net : NetParts) (n : ℕ) (inner : Inner) → IsInnerOf net.nets inner → inner.net.0 ≡ n → CanCollapse net n → (AreNarrow net.nets inner (λ m. reads_in net.nets m inner.net.0) → ⊥) → CollapseRow net n Wide
wide_fails net n inner known same can wide = inr (can.unseen, inr (can.read, inr (can.unshared, inl (none, refl))))
  where
    none : HasComposites net.nets n → ⊥
    none has =
        let inners = one_inner net.nets has.inner inner (has.of_net ∙ sym same) has.known known in
        wide (subst (λ i. AreNarrow net.nets i (λ m. reads_in net.nets m i.net.0)) inners (subst (λ k. AreNarrow net.nets has.inner (λ m. reads_in net.nets m k)) (sym has.of_net) has.narrow))
