-- The table that a table is made into is one for its net that allows less.
use Rattle.std.proofs.Common.{◌≡◌, ◌≤◌, ℕ, true, map, Some, subst, sym}
use Rattle.mv_base.specs.declared.limits.TheConstants.{MAX_VALUES}
use Rattle.mv_choose.specs.Choices.{GivesDetermined}
use Rattle.mv_composite.specs.Inside.{IsCoverOver}
use Rattle.mv_cover.specs.Covers.{cover_reads}
use Rattle.mv_cover.specs.Plain.{IsPlainlyDeterministic}
use Rattle.mv_cover.specs.declared.cover.Cover.{Cover}
use Rattle.mv_determine.specs.Determined.{determined_of}
use Rattle.mv_determine.proofs.Formed.{table_over}
use Rattle.mv_determine.proofs.Plain.{determined_plain}
use Rattle.mv_determine.proofs.Taken.{determined_keeps, determined_within, table_reads}
use Rattle.mv_meaning.specs.Narrowing.{ReadsWithin}
use Rattle.mv_net.specs.declared.parts.NetParts.{NetParts}
use Rattle.mv_net.specs.Formed.{IsCover, IsReadable, WellFormed}
use Rattle.mv_net.specs.Nets.{slot, table_in, values_in}
use Rattle.mv_net.proofs.Known.{lines_readable, values_few}
use Rattle.mv_readers.proofs.Overs.{cover_in, over_counts}
use Rattle.mv_visit.specs.Visits.{IsLesser}
use Rattle.mv_visit.proofs.Points.{less_at_fanins}
use Rattle.mv_visit.proofs.Tabled.{its_cover}

module _ (net : NetParts) (n : ℕ) (table : Cover) (formed : WellFormed net) (is : table_in (slot net.nets n) ≡ Some table) where
  cover : IsCover net.nets (values_in (slot net.nets n)) table
  cover = its_cover net n table formed is

  few : values_in (slot net.nets n) ≤ MAX_VALUES
  few = values_few net n formed

  -- it is a cover over the counts
  pub over : IsCoverOver (map values_in net.nets) (values_in (slot net.nets n)) table
  over = over_counts net (values_in (slot net.nets n)) table formed cover

  module _ (less : Cover) (gives : GivesDetermined net n table less) where
    pub given_plain : IsPlainlyDeterministic less
    given_plain = subst IsPlainlyDeterministic (sym gives.is) (determined_plain (map values_in net.nets) table over.cubes)

    made_reads : ReadsWithin table (determined_of (map values_in net.nets) table)
    made_reads = record { each = λ m read. table_reads (map values_in net.nets) table m read }

    made_cover : IsCover net.nets (values_in (slot net.nets n)) (determined_of (map values_in net.nets) table)
    made_cover =
        cover_in net.nets (values_in (slot net.nets n)) (determined_of (map values_in net.nets) table)
        (table_over (map values_in net.nets) (values_in (slot net.nets n)) table few over)
        (λ m read. lines_readable net.nets (values_in (slot net.nets n)) table.lines m cover.lines (made_reads.each m read))

    made_lesser : IsLesser net.nets n (determined_of (map values_in net.nets) table)
    made_lesser = record {
      table = table;
      table_is = is;
      cover = made_cover;
      reads = made_reads;
      less =
          less_at_fanins net n table (determined_of (map values_in net.nets) table) is made_reads
          (λ at point v allows. determined_within (map values_in net.nets) (values_in (slot net.nets n)) table few over at point v allows)
          (record {
            each = λ at point some.
                let kept = determined_keeps (map values_in net.nets) (values_in (slot net.nets n)) table few over at point some.value some.is_allowed in
                record { value = kept.0; is_allowed = kept.1 };
          });
    }

    -- the table that it gives way to
    pub lesser : IsLesser net.nets n less
    lesser = subst (IsLesser net.nets n) (sym gives.is) made_lesser
