-- The rule `wire`: its change, that what it leaves is well formed, and that it means the same.
use Rattle.std.proofs.Common.{◌≡◌, ◌∙◌, ◌⊎◌, ℕ, ◌≤◌, true, false, nat_eq, List, [], length, All, inl, inr, refl, sym, ap, subst, arith}
use Rattle.std.proofs.lemmas.Bool.{false≢true}
use Rattle.mv_base.specs.Meaning.{SameMeaning}
use Rattle.mv_base.specs.declared.limits.TheConstants.{MAX_NETS}
use Rattle.mv_composite.specs.Inside.{IsCoverOver}
use Rattle.mv_composite.specs.Wired.{wired}
use Rattle.mv_composite.proofs.Formed.{are_cubes}
use Rattle.mv_composite.proofs.Wires.{wired_allows, wired_over, wired_reads}
use Rattle.mv_cover.specs.declared.cover.Cover.{Cover}
use Rattle.mv_cover.specs.declared.line.Line.{Line}
use Rattle.mv_cover.specs.Covers.{cover_reads}
use Rattle.mv_cover.specs.Cubes.{IsCube}
use Rattle.mv_meaning.specs.Rewriting.{rewritten, IsReader}
use Rattle.mv_meaning.proofs.Changing.{changed-rewritten}
use Rattle.mv_meaning.proofs.Rewired.{cover_at}
use Rattle.mv_meaning.proofs.Wiring.{buffer_reads, wired_formed, wired_means}
use Rattle.mv_net.specs.declared.change.NewTable.{NewTable}
use Rattle.mv_net.specs.declared.change.Change.{Change}
use Rattle.mv_net.specs.declared.parts.NetParts.{NetParts}
use Rattle.mv_net.specs.Allowed.{of_net}
use Rattle.mv_net.specs.Changes.{with_nets}
use Rattle.mv_net.specs.Formed.{IsReadable, IsCover, WellFormed}
use Rattle.mv_net.specs.Nets.{slot, values_in, table_reads}
use Rattle.mv_net.specs.Plain.{IsPlainBuffer}
use Rattle.mv_net.proofs.Known.{counts_at, reads_readable}
use Rattle.mv_readers.proofs.Overs.{counts_of, over_counts, cover_in}
use Rattle.mv_readers.proofs.Readers.{sets_readers, fits_tables}
use Rattle.mv_plans.specs.Checks.{IsTabled, IsRead}
use Rattle.mv_readers.specs.Readers.{AreRewritten}
use Rattle.mv_plans.specs.Plans.{IsPlanned}
use Rattle.mv_plans.specs.Wiring.{Wires}

module _ (net : NetParts) (n m : ℕ) (formed : WellFormed net) (buffer : IsPlainBuffer net.nets n m) where
  reader_over : (r : ℕ) (c : Cover) → IsReader net.nets n r c → IsCoverOver (counts_of net.nets) (values_in (slot net.nets r)) c
  reader_over r c reader = over_counts net (values_in (slot net.nets r)) c formed (cover_at net r c formed reader.table)

  pub cubes : (r : ℕ) (c : Cover) → IsReader net.nets n r c → All (λ (l : Line). IsCube l.cube) c.lines
  cubes r c reader = are_cubes (counts_of net.nets) c.lines (reader_over r c reader).cubes

  -- a rewritten table reads what the old one read, or the buffer's fanin
  reads_old : (r : ℕ) (c : Cover) (k : ℕ) → IsReader net.nets n r c → cover_reads (wired n m c) k ≡ true → (cover_reads c k ≡ true) ⊎ (k ≡ m)
  reads_old r c k reader reads = by ((wired_reads n m c (cubes r c reader)).only k reads)
    where
      by : ((cover_reads c k ≡ true) × (nat_eq k n ≡ false)) ⊎ (k ≡ m) → (cover_reads c k ≡ true) ⊎ (k ≡ m)
      by (inl old) = inl old.0
      by (inr e) = inr e

  readable : (r : ℕ) (c : Cover) (k : ℕ) → IsReader net.nets n r c → cover_reads (wired n m c) k ≡ true → IsReadable net.nets k
  readable r c k reader reads = by (reads_old r c k reader reads)
    where
      by : (cover_reads c k ≡ true) ⊎ (k ≡ m) → IsReadable net.nets k
      by (inl old) = reads_readable net r k formed (ap (λ t. table_reads t k) reader.table ∙ old)
      by (inr e) = subst (IsReadable net.nets) (sym e) (reads_readable net n m formed (buffer_reads net.nets n m buffer))

  covers : (r : ℕ) (c : Cover) → IsReader net.nets n r c → IsCover net.nets (values_in (slot net.nets r)) (wired n m c)
  covers r c reader =
      cover_in net.nets (values_in (slot net.nets r)) (wired n m c)
      (wired_over (counts_of net.nets) (values_in (slot net.nets r)) n m c (counts_at net.nets n ∙ (sym buffer.same ∙ sym (counts_at net.nets m))) (reader_over r c reader))
      (λ k reads. readable r c k reader reads)

  pub readers_formed : WellFormed (with_nets net (rewritten (wired n m) n net.nets))
  readers_formed = wired_formed net n m (wired n m) formed buffer covers (λ r c k reader reads. reads_old r c k reader reads)

  pub readers_mean : SameMeaning (of_net (with_nets net (rewritten (wired n m) n net.nets))) (of_net net)
  readers_mean = wired_means net n m (wired n m) formed buffer (λ x point same r c reader. (wired_allows n m c (cubes r c reader)).same x same (x r))

-- ---- the rule

-- the change by which nets get these tables
abbrev rewiring : List NewTable → Change
rewiring set = record { add = []; set = set; values = []; gone = [] }

pub planned : (net : NetParts) (w : List ℕ) (n m : ℕ) (set : List NewTable) (change : Change) → WellFormed net → length net.nets ≤ MAX_NETS → IsTabled net.nets w n
    → IsPlainBuffer net.nets n m → IsRead net.nets n → AreRewritten net.nets (wired n m) n set → change ≡ rewiring set → IsPlanned net (Wires net w) change
planned net w n m set change formed few tabled buffer read are is =
    let new = changed-rewritten net n (wired n m) set (sets_readers net.nets (wired n m) n set are) in
    subst (IsPlanned net (Wires net w)) (sym is) (record {
      few = omega (arith, few);
      fits = fits_tables net (wired n m) n set [] are (record { held = λ k h. absurd (false≢true h); once = refl }) (λ k h. absurd (false≢true h));
      formed = subst WellFormed (sym new) (readers_formed net n m formed buffer);
      makes = record { number = n; net = tabled; same = record { source = m; buffer = buffer }; read = read; new_is = new };
    })

pub wired_is_formed : (old : NetParts) (w : List ℕ) (new : NetParts) → WellFormed old → Wires old w new → WellFormed new
wired_is_formed old w new formed r = subst WellFormed (sym r.new_is) (readers_formed old r.number r.same.source formed r.same.buffer)

pub wired_is_same : (old : NetParts) (w : List ℕ) (new : NetParts) → WellFormed old → Wires old w new → SameMeaning (of_net new) (of_net old)
wired_is_same old w new formed r =
    let P : NetParts → Type 0 = λ p. SameMeaning (of_net p) (of_net old) in
    subst P (sym r.new_is) (readers_mean old r.number r.same.source formed r.same.buffer)
