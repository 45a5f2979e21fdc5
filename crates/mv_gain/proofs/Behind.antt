-- What is kept of pairs that a collapse doesn't touch is right behind it.
use Rattle.std.proofs.Common.{◌≡◌, ◌∙◌, ◌⊎◌, ℕ, true, false, Option, Some, None, List, length, map, set, is_some, refl, sym, ap, subst, ⊎_elim, inl, inr, arith}
use Rattle.std.proofs.lemmas.Bool.{false≢true, false_from_ne_true}
use Rattle.std.proofs.lemmas.List.{length-map, length-set}
use Rattle.mv_base.specs.declared.number.NetId.{NetId}
use Rattle.mv_composite.specs.Composite.{composed}
use Rattle.mv_composite.specs.Wired.{wired}
use Rattle.mv_cover.specs.declared.cover.Cover.{Cover}
use Rattle.mv_cover.specs.Covers.{literal_count}
use Rattle.mv_graph.specs.Nets.{has_id, IsAscending}
use Rattle.mv_locality.specs.Same.{KeepsNet}
use Rattle.mv_locality.proofs.Tables.{net_back, IsInnerOf-same, composed_kept, IsTooWide-kept}
use Rattle.mv_meaning.specs.Rewriting.{rewritten, IsReader}
use Rattle.mv_meaning.proofs.Rewired.{slot-unread, IsReformed-rewritten, reader_reads}
use Rattle.mv_net.specs.declared.parts.FlatNet.{FlatNet}
use Rattle.mv_net.specs.declared.parts.NetParts.{NetParts}
use Rattle.mv_net.specs.Changes.{with_nets}
use Rattle.mv_net.specs.Nets.{slot, values_in, table_in, table_literals, net_reads, reads_in}
use Rattle.mv_net.proofs.Patches.{IsWritten-gone}
use Rattle.mv_plans.specs.Collapsing.{Collapses}
use Rattle.mv_plans.specs.Removing.{Removes}
use Rattle.mv_plans.specs.Wiring.{Wires}
use Rattle.mv_gain.specs.declared.kept.KeptComposites.{KeptComposites}
use Rattle.mv_gain.specs.declared.row.Pair.{Pair}
use Rattle.mv_gain.specs.Kept.{IsComposite, IsPair, AreRight, LeavesAlone, RightBehind}
use Rattle.mv_gain.specs.Pairs.{kept_at, IsForgotten, ForgetsEach}

-- ---- nets that a collapse leaves alone

rewritten_long : (made : Cover → Cover) (n : ℕ) (nets : List (Option FlatNet)) → length (rewritten made n nets) ≡ length nets
unfolding rewritten
rewritten_long made n nets = length-map nets _

gone_alone : (nets : List (Option FlatNet)) (n : ℕ) (made : Cover → Cover) → LeavesAlone nets (set (rewritten made n nets) n None) n
gone_alone nets n made =
    let gone = IsWritten-gone (rewritten made n nets) n in record {
      long = length-set (rewritten made n nets) n None ∙ rewritten_long made n nets;
      same = λ k apart unread. gone.others k apart ∙ slot-unread made n nets k unread;
      values = λ k apart. ap values_in (gone.others k apart) ∙ ((IsReformed-rewritten made n nets).each k).values;
    }

collapse_alone : (old new : NetParts) (name : List ℕ) → (c : Collapses old name new) → LeavesAlone old.nets new.nets c.number
unfolding with_nets
collapse_alone old new name c =
    let inner = c.composites.inner in
    let made = composed (map values_in old.nets) inner in
    let is : new.nets ≡ set (rewritten made inner.net.0 old.nets) inner.net.0 None = ap (λ (p : NetParts). p.nets) c.new_is in
    subst (LeavesAlone old.nets new.nets) c.composites.of_net (subst (λ nets. LeavesAlone old.nets nets inner.net.0) (sym is) (gone_alone old.nets inner.net.0 made))

remove_alone : (old new : NetParts) (name : List ℕ) → (r : Removes old name new) → LeavesAlone old.nets new.nets r.number
unfolding with_nets
remove_alone old new name r =
    let is : new.nets ≡ set old.nets r.number None = ap (λ (p : NetParts). p.nets) r.new_is in
    subst (λ nets. LeavesAlone old.nets nets r.number) (sym is)
    (record {
      long = length-set old.nets r.number None;
      same = λ k apart unread. (IsWritten-gone old.nets r.number).others k apart;
      values = λ k apart. ap values_in ((IsWritten-gone old.nets r.number).others k apart);
    })

wire_alone : (old new : NetParts) (name : List ℕ) → (r : Wires old name new) → LeavesAlone old.nets new.nets r.number
unfolding with_nets
wire_alone old new name r =
    let made = wired r.number r.same.source in
    let is : new.nets ≡ rewritten made r.number old.nets = ap (λ (p : NetParts). p.nets) r.new_is in
    subst (λ nets. LeavesAlone old.nets nets r.number) (sym is)
    (record {
      long = rewritten_long made r.number old.nets;
      same = λ k apart unread. slot-unread made r.number old.nets k unread;
      values = λ k apart. ((IsReformed-rewritten made r.number old.nets).each k).values;
    })

-- the net at k is as it was, with what it reads
alone_keeps : (old new : List (Option FlatNet)) (n k : ℕ) → LeavesAlone old new n → (k ≡ n → ⊥) → reads_in old k n ≡ false → KeepsNet old new k
alone_keeps old new n k alone apart unread = record {
  same = alone.same k apart unread;
  values = λ m reads. alone.values m (λ e. false≢true (sym unread ∙ (ap (reads_in old k) (sym e) ∙ reads)));
}

-- ---- a pair of such nets

reader_kept : (old new : List (Option FlatNet)) (n k : ℕ) (c : Cover) → KeepsNet old new k → IsReader old n k c → IsReader new n k c
reader_kept old new n k c keeps reader = record { table = ap table_in keeps.same ∙ reader.table; reads = reader.reads }

composite_kept : (old new : List (Option FlatNet)) (j k : ℕ) (it : Option ℕ) → KeepsNet old new j → KeepsNet old new k → IsComposite old j k it → IsComposite new j k it
composite_kept old new j k None net reader pair =
    let own : KeepsNet old new pair.inner.net.0 = subst (KeepsNet old new) (sym pair.of_net) net in
    record {
      inner = pair.inner;
      of_net = pair.of_net;
      known = IsInnerOf-same old new pair.inner own pair.known;
      wide = record {
        cover = pair.wide.cover;
        reader = reader_kept old new pair.inner.net.0 k pair.wide.cover reader pair.wide.reader;
        wide = IsTooWide-kept old new pair.inner k pair.wide.cover pair.known own reader pair.wide.reader.table pair.wide.wide;
      };
    }
composite_kept old new j k (Some count) net reader pair =
    let own : KeepsNet old new pair.inner.net.0 = subst (KeepsNet old new) (sym pair.of_net) net in
    let known = IsInnerOf-same old new pair.inner own pair.known in
    let now = reader_kept old new pair.inner.net.0 k pair.counted.cover reader pair.counted.reader in
    record {
      inner = pair.inner;
      of_net = pair.of_net;
      known = known;
      counted = record {
        cover = pair.counted.cover;
        reader = now;
        narrow = λ wide.
            pair.counted.narrow
            (IsTooWide-kept new old pair.inner k pair.counted.cover known (net_back old new pair.inner.net.0 own) (net_back old new k reader) now.table wide);
        counted = pair.counted.counted ∙ ap (λ (c : Cover). literal_count c.lines) (composed_kept old new pair.inner k pair.counted.cover pair.known own reader pair.counted.reader.table);
      };
    }

pair_kept : (old new : List (Option FlatNet)) (j k : ℕ) (it : Pair) → KeepsNet old new j → KeepsNet old new k → IsPair old j k it → IsPair new j k it
pair_kept old new j k it net reader pair = record {
  coming = composite_kept old new j k it.coming net reader pair.coming;
  going = pair.going ∙ ap (λ f. table_literals (table_in f)) (sym reader.same);
  small = pair.small;
}

-- the reader of a composite reads the net
composite_reads : (nets : List (Option FlatNet)) (j k : ℕ) (it : Option ℕ) → IsComposite nets j k it → reads_in nets k j ≡ true
composite_reads nets j k None pair = subst (λ i. reads_in nets k i ≡ true) pair.of_net (reader_reads nets pair.inner.net.0 k pair.wide.cover pair.wide.reader)
composite_reads nets j k (Some count) pair = subst (λ i. reads_in nets k i ≡ true) pair.of_net (reader_reads nets pair.inner.net.0 k pair.counted.cover pair.counted.reader)

pub pair_reads : (nets : List (Option FlatNet)) (j k : ℕ) (it : Pair) → IsPair nets j k it → reads_in nets k j ≡ true
pair_reads nets j k it pair = composite_reads nets j k it.coming pair.coming

-- ---- what is still kept

none_kept : (kept : KeptComposites) (j k : ℕ) (it : Pair) → kept_at kept j k ≡ None → kept_at kept j k ≡ Some it → ⊥
none_kept kept j k it none some = false≢true (ap is_some (sym none ∙ some))

-- a net that was forgotten is in no pair that is kept
not_forgotten : (nets : List (Option FlatNet)) (kept : KeptComposites) (n j k : ℕ) (it : Pair) → IsForgotten nets n kept → reads_in nets k j ≡ true → kept_at kept j k ≡ Some it
    → (j ≡ n → ⊥) × (k ≡ n → ⊥)
not_forgotten nets kept n j k it gone reads some = (
  λ e. none_kept kept j k it (ap (λ i. kept_at kept i k) e ∙ gone.itself.none k) some,
  λ e. none_kept kept j k it (ap (kept_at kept j) e ∙ gone.fanins j (ap (λ i. reads_in nets i j) (sym e) ∙ reads)) some,
)

-- so neither net of a pair that is kept is the one that went, or read it
pub right_behind : (net : NetParts) (n : ℕ) (readers : List NetId) (old kept : KeptComposites) → AreRight net.nets old → IsAscending (λ m. net_reads (slot net.nets m) n) readers
    → ForgetsEach net.nets n readers old kept → RightBehind net n kept
right_behind net n readers old kept right are forgets = record {
  each = λ new alone. record {
    each = λ j k it some.
        let pair = right.each j k it (forgets.first.part.each j k it some) in
        let reads = pair_reads net.nets j k it pair in
        let apart = not_forgotten net.nets kept n j k it forgets.first.gone reads some in
        let unread : (m : ℕ) → ((m ≡ j) ⊎ (m ≡ k)) → reads_in net.nets m n ≡ false =
        λ m which. false_from_ne_true _ (λ h. reader_apart j k it some reads m (are.members m ∙ h) which) in
        pair_kept net.nets new.nets j k it (alone_keeps net.nets new.nets n j alone apart.0 (unread j (inl refl)))
        (alone_keeps net.nets new.nets n k alone apart.1 (unread k (inr refl))) pair;
    summed = forgets.first.part.summed right.summed;
    long = omega (arith, alone.long, forgets.first.part.long, right.long);
  };
}
  where
    reader_apart : (j k : ℕ) (it : Pair) → kept_at kept j k ≡ Some it → reads_in net.nets k j ≡ true → (m : ℕ) → has_id readers m ≡ true → ((m ≡ j) ⊎ (m ≡ k)) → ⊥
    reader_apart j k it some reads m listed which =
        let apart = not_forgotten net.nets kept m j k it (forgets.each m listed) reads some in
        ⊎_elim (λ (e : m ≡ j). apart.0 (sym e)) (λ (e : m ≡ k). apart.1 (sym e)) which

-- ---- behind the rules

pub right_removed : (net new : NetParts) (name : List ℕ) (kept : KeptComposites) (n : ℕ) → RightBehind net n kept → (r : Removes net name new) → r.number ≡ n → AreRight new.nets kept
right_removed net new name kept n behind r same = behind.each new (subst (LeavesAlone net.nets new.nets) same (remove_alone net new name r))

pub right_wired : (net new : NetParts) (name : List ℕ) (kept : KeptComposites) (n : ℕ) → RightBehind net n kept → (r : Wires net name new) → r.number ≡ n → AreRight new.nets kept
right_wired net new name kept n behind r same = behind.each new (subst (LeavesAlone net.nets new.nets) same (wire_alone net new name r))

pub right_collapsed : (net new : NetParts) (name : List ℕ) (kept : KeptComposites) (n : ℕ) → RightBehind net n kept → (r : Collapses net name new) → r.number ≡ n → AreRight new.nets kept
right_collapsed net new name kept n behind r same = behind.each new (subst (LeavesAlone net.nets new.nets) same (collapse_alone net new name r))
