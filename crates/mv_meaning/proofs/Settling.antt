-- A table gives way to one that allows some value wherever it did, and the tables below its net are total. Then an assignment that
-- agreed settles to one that agrees now: each net keeps its value where its table still allows it, and takes one that is allowed
-- where not. What isn't below the net keeps its value.
use Rattle.std.proofs.Common.{◌≡◌, ◌∙◌, ◌⊎◌, ℕ, zero, suc, ◌<◌, ◌≤◌, Bool, true, false, nat_lt, List, [], ◌∷◌, length, map, Option, Some, None, is_some, refl, sym, ap, subst, ⊎_elim, inl, inr, arith}
use Rattle.std.specs.Prelude.{if◌then◌else◌}
use Rattle.std.proofs.lemmas.Bool.{cases_Bool, cases_eq, cases_lt, cond-true, cond-false, cond_both, and_parts, or_cases, false≢true, ltb-true}
use Rattle.mv_cover.specs.declared.cover.Cover.{Cover}
use Rattle.mv_cover.specs.Covers.{allowed, cover_reads}
use Rattle.mv_cover.specs.Covering.{IsPoint}
use Rattle.mv_graph.specs.Above.{GoesOn, IsAbove}
use Rattle.mv_graph.specs.Nets.{has_id}
use Rattle.mv_graph.proofs.Paths.{above_first}
use Rattle.mv_net.specs.declared.parts.FlatNet.{FlatNet}
use Rattle.mv_net.specs.declared.parts.NetParts.{NetParts}
use Rattle.mv_net.specs.Nets.{slot, values_in, table_in, table_reads, net_reads, reads_in}
use Rattle.mv_net.specs.Formed.{IsCover, WellFormed, has_table}
use Rattle.mv_net.specs.Allowed.{net_allows, net_table_allows, Agrees}
use Rattle.mv_net.proofs.Known.{counts_at, reads_readable, readable_below}
use Rattle.mv_net.proofs.Local.{net_allows-local, allowed-local}
use Rattle.mv_net.proofs.Ports.{is_latch_output, outputs_listed, SameSources, AgreesAtSources}
use Rattle.mv_net.proofs.Totals.{allowed_below, total_allows}
use Rattle.mv_meaning.specs.Rewriting.{with_net_table}
use Rattle.mv_meaning.specs.Narrowing.{ReadsWithin, KeepsSome, AreTotalBelow}
use Rattle.mv_meaning.proofs.Bounded.{IsRankedWithin, ranked_within}
use Rattle.mv_meaning.proofs.OneTable.{slot-there, table-here, reads-here, reads-there, IsReformed-given}
use Rattle.mv_meaning.proofs.Ranked.{not_without_ranks}
use Rattle.mv_meaning.proofs.Reformed.{agreeing_point, net_allows-from, net_allows-parts}

-- ---- a value that passes a test

-- the greatest number below k that passes the test, and 0 where none does
abbrev greatest : (ℕ → Bool) → ℕ → ℕ
greatest test zero = 0
greatest test (suc k) = if test k then k else greatest test k

greatest_passes : (test : ℕ → Bool) (k v : ℕ) → v < k → test v ≡ true → test (greatest test k) ≡ true
greatest_passes test zero v low h = absurd (omega arith)
greatest_passes test (suc k) v low h =
    ⊎_elim
    (λ (y : test k ≡ true). ap test (cond-true (test k) k (greatest test k) y) ∙ y)
    (λ (f : test k ≡ false). ap test (cond-false (test k) k (greatest test k) f) ∙ greatest_passes test k v (below f) h)
    (cases_Bool (test k))
  where
    below : test k ≡ false → v < k
    below f =
        ⊎_elim
        (λ (e : v ≡ k). absurd (false≢true (sym f ∙ (ap test (sym e) ∙ h))))
        (λ (ne : v ≡ k → ⊥). ⊎_elim (λ (l : v < k). l) (λ (b : k ≤ v). absurd (ne (omega arith))) (cases_lt v k))
        (cases_eq v k)

greatest_low : (test : ℕ → Bool) (k : ℕ) → 0 < k → greatest test k < k
greatest_low test zero some = absurd (omega arith)
greatest_low test (suc k) some =
    cond_both (test k) k (greatest test k) (λ v. v < suc k) (λ e. omega arith)
    (λ e. ⊎_elim (λ (l : 0 < k). let g = greatest_low test k l in omega arith) (λ (z : k ≤ 0). none (omega arith)) (cases_lt 0 k))
  where
    none : k ≡ 0 → greatest test k < suc k
    none e = subst (λ j. greatest test j < suc k) (sym e) (omega arith)

greatest_same : (test other : ℕ → Bool) (k : ℕ) → ((v : ℕ) → test v ≡ other v) → greatest test k ≡ greatest other k
greatest_same test other zero same = refl
greatest_same test other (suc k) same = λ i. if same k i then k else greatest_same test other k same i

-- ---- a net's value anew

-- the value that the net had, where its table allows it, and else one that it allows
abbrev chosen : Option FlatNet → (ℕ → ℕ) → ℕ → ℕ
chosen f at was = if net_allows f at was then was else greatest (λ v. net_allows f at v) (values_in f)

chosen-was : (f : Option FlatNet) (at : ℕ → ℕ) (was : ℕ) → net_allows f at was ≡ true → chosen f at was ≡ was
chosen-was f at was h = cond-true (net_allows f at was) was (greatest (λ v. net_allows f at v) (values_in f)) h

chosen_same : (f : Option FlatNet) (x y : ℕ → ℕ) (was : ℕ) → ((m : ℕ) → net_reads f m ≡ true → x m ≡ y m) → chosen f x was ≡ chosen f y was
chosen_same f x y was same =
    let at : (v : ℕ) → net_allows f x v ≡ net_allows f y v = λ v. net_allows-local f x y v same in
    let rest = greatest_same (λ v. net_allows f x v) (λ v. net_allows f y v) (values_in f) at in
    λ i. if at was i then was else rest i

-- if it allows some value, it allows this one
chosen_allowed : (f : Option FlatNet) (at : ℕ → ℕ) (was v : ℕ) → net_allows f at v ≡ true → net_allows f at (chosen f at was) ≡ true
chosen_allowed None at was v h = refl
chosen_allowed (Some f) at was v h =
    let low : v < f.values = ltb-true v f.values (and_parts (nat_lt v f.values) (net_table_allows f.table at v) h).0 in
    let test : ℕ → Bool = λ w. net_allows (Some f) at w in
    ⊎_elim
    (λ (y : test was ≡ true). ap test (cond-true (test was) was (greatest test f.values) y) ∙ y)
    (λ (n : test was ≡ false). ap test (cond-false (test was) was (greatest test f.values) n) ∙ greatest_passes test f.values v low h)
    (cases_Bool (net_allows (Some f) at was))

-- it is one of the net's values, if the old one was
chosen_low : (f : Option FlatNet) (at : ℕ → ℕ) (was : ℕ) → 0 < values_in f → was < values_in f → chosen f at was < values_in f
chosen_low f at was some low =
    cond_both (net_allows f at was) was (greatest (λ v. net_allows f at v) (values_in f)) (λ v. v < values_in f) (λ e. low)
    (λ e. greatest_low (λ v. net_allows f at v) (values_in f) some)

-- ---- all values anew

module _ (net : NetParts) (n : ℕ) (old c : Cover) (formed : WellFormed net) (table : table_in (slot net.nets n) ≡ Some old) (is : IsCover net.nets (values_in (slot net.nets n)) c) (reads : ReadsWithin old c) (keeps : KeepsSome net.nets old c) (total : AreTotalBelow net.nets n) where
  abbrev after : List (Option FlatNet)
  after = with_net_table net.nets n c

  module _ (y : ℕ → ℕ) (agrees : Agrees net.nets y) where
    -- the values behind so many rounds, in each of which each net is given its value anew
    abbrev round : ℕ → ℕ → ℕ
    round zero m = y m
    round (suc k) m = chosen (slot after m) (round k) (y m)

    values_same : (m : ℕ) → values_in (slot after m) ≡ values_in (slot net.nets m)
    values_same m = ((IsReformed-given net.nets n old c table).each m).values

    elsewhere : (m : ℕ) → (m ≡ n → ⊥) → slot after m ≡ slot net.nets m
    elsewhere m ne = slot-there net.nets n old c table m ne

    was_point : IsPoint (map values_in net.nets) y
    was_point = agreeing_point net.nets net.nets y (λ m. refl) agrees

    -- each net has one of its values
    was_low : (m : ℕ) → 0 < values_in (slot net.nets m) → y m < values_in (slot net.nets m)
    was_low m some = subst (λ v. y m < v) (counts_at net.nets m) (was_point.below m (subst (λ v. 0 < v) (sym (counts_at net.nets m)) some))

    low : (k m : ℕ) → 0 < values_in (slot net.nets m) → round k m < values_in (slot net.nets m)
    low zero m some = was_low m some
    low (suc k) m some =
        subst (λ v. chosen (slot after m) (round k) (y m) < v) (values_same m)
        (chosen_low (slot after m) (round k) (y m) (subst (λ v. 0 < v) (sym (values_same m)) some)
        (subst (λ v. y m < v) (sym (values_same m)) (was_low m some)))

    point : (k : ℕ) → IsPoint (map values_in net.nets) (round k)
    point k = record {
      below = λ m some.
          subst (λ v. round k m < v) (sym (counts_at net.nets m))
          (low k m (subst (λ v. 0 < v) (counts_at net.nets m) some));
    }

    -- a table but the net's still allows the old value, where what it reads is as it was
    allows_still : (k m : ℕ) → (m ≡ n → ⊥) → ((j : ℕ) → reads_in net.nets m j ≡ true → round k j ≡ y j) → net_allows (slot after m) (round k) (y m) ≡ true
    allows_still k m ne same =
        ap (λ f. net_allows f (round k) (y m)) (elsewhere m ne) ∙ (net_allows-local (slot net.nets m) (round k) y (y m) same ∙ agrees.each m)

    first : (m j : ℕ) → reads_in net.nets m j ≡ true → j ≡ n → IsAbove (reads_in net.nets) n m
    first m j h e = record { path = []; goes = subst (λ l. reads_in net.nets m l ≡ true) e h }

    -- what is neither the net nor below it keeps its value
    stays : (k m : ℕ) → (m ≡ n → ⊥) → (IsAbove (reads_in net.nets) n m → ⊥) → round k m ≡ y m
    stays zero m ne apart = refl
    stays (suc k) m ne apart =
        chosen-was (slot after m) (round k) (y m)
        (allows_still k m ne (λ j h. stays k j (λ e. apart (first m j h e)) (λ a. apart (above_first (reads_in net.nets) m j n h a))))

    -- so does what the net reads
    read_stays : (k j : ℕ) → cover_reads old j ≡ true → round k j ≡ y j
    read_stays k j h =
        let along : reads_in net.nets n j ≡ true = ap (λ t. table_reads t j) table ∙ h in
        stays k j
        (λ e. formed.acyclic.none n (record { path = []; goes = subst (λ l. reads_in net.nets n l ≡ true) e along }))
        (λ a. formed.acyclic.none n (above_first (reads_in net.nets) n j n along a))

    -- the new nets read what the old ones did
    reads_before : (m j : ℕ) → reads_in after m j ≡ true → reads_in net.nets m j ≡ true
    reads_before m j h =
        ⊎_elim
        (λ (e : m ≡ n).
        let here : cover_reads c j ≡ true = sym (reads-here net.nets n old c table j) ∙ subst (λ l. reads_in after l j ≡ true) e h in
        subst (λ l. reads_in net.nets l j ≡ true) (sym e) (ap (λ t. table_reads t j) table ∙ reads.each j here))
        (λ (ne : m ≡ n → ⊥). sym (reads-there net.nets n old c table m j ne) ∙ h)
        (cases_eq m n)

    -- behind enough rounds nothing changes any more
    steady : (r : IsRankedWithin (reads_in net.nets) (length net.nets)) (k m : ℕ) → r.rank m < k → round k m ≡ round (suc k) m
    steady r zero m l = absurd (omega arith)
    steady r (suc k) m l =
        chosen_same (slot after m) (round k) (round (suc k)) (y m)
        (λ j h. let falls = r.falls m j (reads_before m j h) in steady r k j (omega arith))

    abbrev last : ℕ
    last = suc (length net.nets)

    -- the net allows some value at the end
    here_allows : net_allows (slot after n) (round (length net.nets)) (round last n) ≡ true
    here_allows =
        let k : ℕ = length net.nets in
        let was = (net_allows-parts (slot net.nets n) old y (y n) table (agrees.each n)).1 in
        let still : allowed old (round k) (y n) ≡ true = allowed-local old (round k) y (y n) (λ j h. read_stays k j h) ∙ was in
        let some = keeps.each (round k) (point k) (record { value = y n; is_allowed = still }) in
        let below : some.value < values_in (slot after n) = subst (λ v. some.value < v) (sym (values_same n)) (allowed_below net.nets (values_in (slot net.nets n)) c (round k) some.value is some.is_allowed) in
        chosen_allowed (slot after n) (round k) (y n) some.value
        (net_allows-from (slot after n) c (round k) some.value (table-here net.nets n old c table) below some.is_allowed)

    -- so does one that is below
    below_allows : (m : ℕ) → (m ≡ n → ⊥) → IsAbove (reads_in net.nets) n m → net_allows (slot after m) (round (length net.nets)) (round last m) ≡ true
    below_allows m ne a =
        let k : ℕ = length net.nets in
        let some = total_allows net m (round k) formed (total.each m a) (point k) in
        chosen_allowed (slot after m) (round k) (y m) some.value (ap (λ f. net_allows f (round k) some.value) (elsewhere m ne) ∙ some.is_allowed)

    -- and one that is neither
    apart_allows : (m : ℕ) → (m ≡ n → ⊥) → (IsAbove (reads_in net.nets) n m → ⊥) → net_allows (slot after m) (round (length net.nets)) (round last m) ≡ true
    apart_allows m ne apart =
        ap (λ v. net_allows (slot after m) (round (length net.nets)) v) (stays last m ne apart)
        ∙ allows_still (length net.nets) m ne
        (λ j h. stays (length net.nets) j (λ e. apart (first m j h e)) (λ a. apart (above_first (reads_in net.nets) m j n h a)))

    each_allows : (m : ℕ) → net_allows (slot after m) (round (length net.nets)) (round last m) ≡ true
    each_allows m =
        ⊎_elim
        (λ (e : m ≡ n). subst (λ l. net_allows (slot after l) (round (length net.nets)) (round last l) ≡ true) (sym e) here_allows)
        (λ (ne : m ≡ n → ⊥).
        ⊎_elim
        (λ (y : net_allows (slot after m) (round (length net.nets)) (round last m) ≡ true). y)
        (λ (f : net_allows (slot after m) (round (length net.nets)) (round last m) ≡ false).
        absurd (false≢true (sym f ∙ apart_allows m ne (λ a. false≢true (sym f ∙ below_allows m ne a)))))
        (cases_Bool (net_allows (slot after m) (round (length net.nets)) (round last m))))
        (cases_eq m n)

    settled_by : IsRankedWithin (reads_in net.nets) (length net.nets) → (m : ℕ) → net_allows (slot after m) (round last) (round last m) ≡ true
    settled_by r m =
        sym (net_allows-local (slot after m) (round (length net.nets)) (round last) (round last m)
        (λ j h. let falls = r.falls m j (reads_before m j h) in let most = r.low m in steady r (length net.nets) j (omega arith)))
        ∙ each_allows m

    below_size : (m j : ℕ) → reads_in net.nets m j ≡ true → j < length net.nets
    below_size m j h = readable_below net.nets j (reads_readable net m j formed h)

    -- at the end all agree
    settled : Agrees after (round last)
    settled = record {
      each = λ m.
          ⊎_elim
          (λ (y : net_allows (slot after m) (round last) (round last m) ≡ true). y)
          (λ (f : net_allows (slot after m) (round last) (round last m) ≡ false).
          absurd (not_without_ranks net formed (λ r. false≢true (sym f ∙ settled_by (ranked_within (reads_in net.nets) (length net.nets) below_size r) m))))
          (cases_Bool (net_allows (slot after m) (round last) (round last m)));
    }

    -- what has no table keeps its value
    bare_stays : (m : ℕ) → table_in (slot net.nets m) ≡ None → round last m ≡ y m
    bare_stays m none =
        stays last m
        (λ e. false≢true (sym (ap is_some (sym table ∙ (ap (λ l. table_in (slot net.nets l)) (sym e) ∙ none)))))
        (λ a. reads_none a.path a.goes)
      where
        unread : (j : ℕ) → reads_in net.nets m j ≡ true → ⊥
        unread j h = false≢true (sym (ap (λ t. table_reads t j) none) ∙ h)

        reads_none : (path : List ℕ) → GoesOn (reads_in net.nets) n m path → ⊥
        reads_none [] g = unread n g
        reads_none (j ∷ path) g = unread j g.0

    -- and so do inputs and latch outputs
    sources : SameSources net y (round last)
    sources = record { each = λ m h. by_source m (or_cases (has_id net.inputs m) (is_latch_output net.latches m) h) }
      where
        no_table : (m : ℕ) (f : FlatNet) → slot net.nets m ≡ Some f → has_table f.kind ≡ false → table_in (slot net.nets m) ≡ None
        no_table m f held e = ap table_in held ∙ none_of f.table ((formed.nets m f held).table ∙ e)
          where
            none_of : (t : Option Cover) → is_some t ≡ false → t ≡ None
            none_of None h = refl
            none_of (Some d) h = absurd (false≢true (sym h))

        by_source : (m : ℕ) → (has_id net.inputs m ≡ true) ⊎ (is_latch_output net.latches m ≡ true) → y m ≡ round last m
        by_source m (inl h) =
            let k = formed.inputs.only (record { 0 = m }) h in
            sym (bare_stays m (no_table m k.net k.held (ap has_table k.is)))
        by_source m (inr h) =
            let k = formed.states.only (record { 0 = m }) (outputs_listed net.latches m ∙ h) in
            sym (bare_stays m (no_table m k.net k.held (ap has_table k.is)))

    pub settles : AgreesAtSources net after y
    settles = record { at = round last; agrees = settled; same = sources }
