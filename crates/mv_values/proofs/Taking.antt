-- A table that takes a default is one for its net that allows less.
use Rattle.std.proofs.Common.{◌≡◌, ◌∙◌, ℕ, ◌<◌, Bool, true, false, not, ◌&&◌, ◌||◌, nat_eq, map, Option, Some, None, List, inl, inr, refl, sym, ap, subst}
use Rattle.std.proofs.lemmas.Bool.{false≢true, or_cases, and_parts, or_left}
use Rattle.std.proofs.lemmas.Option.{same_Some}
use Rattle.mv_base.specs.Set.{one}
use Rattle.mv_cover.specs.Absorb.{some_bare}
use Rattle.mv_cover.specs.Complement.{AllowSame}
use Rattle.mv_cover.specs.Covering.{CoversAll, IsPoint}
use Rattle.mv_cover.specs.Covers.{allowed, default_gives, some_gives, some_matches}
use Rattle.mv_cover.specs.Lines.{IsOutput}
use Rattle.mv_cover.specs.declared.cover.Cover.{Cover}
use Rattle.mv_cover.specs.declared.line.Line.{Line}
use Rattle.mv_cover.proofs.Differing.{differ-filtered}
use Rattle.mv_cover.proofs.Single.{gives-matches}
use Rattle.mv_default.specs.Taken.{TakesDefault, with_default}
use Rattle.mv_default.proofs.Taken.{none_bare, same_relation}
use Rattle.mv_default.proofs.Summed.{costliest_below, one_output}
use Rattle.mv_meaning.specs.Narrowing.{KeepsSome, ReadsWithin}
use Rattle.mv_net.specs.declared.parts.FlatNet.{FlatNet}
use Rattle.mv_net.specs.declared.parts.NetParts.{NetParts}
use Rattle.mv_net.specs.Formed.{IsCover, WellFormed}
use Rattle.mv_net.specs.Nets.{slot, values_in, table_in}
use Rattle.mv_net.specs.Total.{AllowsValue, IsTotalNet}
use Rattle.mv_values.specs.Defaults.{CanDefault, GivesDefault}
use Rattle.mv_values.proofs.Lines.{all_cubes, all_outputs, cubes_kept, lines_kept, reads_kept}
use Rattle.mv_visit.specs.Visits.{IsLesser}
use Rattle.mv_visit.proofs.Points.{less_at_fanins}
use Rattle.mv_visit.proofs.Tabled.{its_cover}

no_default : (b : Bool) → (not b && false) ≡ true → false ≡ true
no_default true h = h
no_default false h = h

-- without a default a line holds where something is allowed
given_matches : (c : Cover) → c.default ≡ None → (at : ℕ → ℕ) (v : ℕ) → allowed c at v ≡ true → some_matches at c.lines ≡ true
unfolding allowed
given_matches c none at v h =
    elim (or_cases (some_gives at v c.lines) (not (some_matches at c.lines) && default_gives c.default v) h) [
      | inl gives ↦ gives-matches at v c.lines gives
      | inr beside ↦ absurd (false≢true (no_default (some_matches at c.lines) (subst (λ (o : Option ℕ). (not (some_matches at c.lines) && default_gives o v) ≡ true) none beside)))
    ]

module _ (net : NetParts) (n : ℕ) (table : Cover) (formed : WellFormed net) (is : table_in (slot net.nets n) ≡ Some table) where
  cover : IsCover net.nets (values_in (slot net.nets n)) table
  cover = its_cover net n table formed is

  -- without a default its lines match every point
  covers : CanDefault net n table → CoversAll (map values_in net.nets) table.lines
  covers can = record {
    each = λ at point.
        let t = can.total in
        let same : t.cover ≡ table = same_Some t.cover table (sym t.table ∙ (sym (ap table_in t.held) ∙ is)) in
        let some : AllowsValue table at = subst (λ (c : Cover). AllowsValue c at) same (t.total.some at point) in
        given_matches table can.plain.open_ended at some.value some.is_allowed;
  }

  module _ (less : Cover) (gives : GivesDefault net n table less) where
    relation : AllowSame (map values_in net.nets) less table
    relation = same_relation (map values_in net.nets) table less gives.can.plain.plain gives.can.plain.open_ended (covers gives.can) gives.takes

    value_low : gives.takes.value < values_in (slot net.nets n)
    value_low = costliest_below (values_in (slot net.nets n)) table.lines gives.takes.value (all_outputs net.nets (values_in (slot net.nets n)) table.lines cover.lines) gives.can.plain.plain.single gives.takes.literal gives.takes.costliest

    less_cover : IsCover net.nets (values_in (slot net.nets n)) (with_default gives.takes.value table)
    less_cover = record {
      cubes = cubes_kept (λ (l : Line). not (nat_eq l.out (one gives.takes.value))) table.lines cover.cubes;
      lines = lines_kept (λ (l : Line). not (nat_eq l.out (one gives.takes.value))) net.nets (values_in (slot net.nets n)) table.lines cover.lines;
      differ = differ-filtered (λ (l : Line). not (nat_eq l.out (one gives.takes.value))) table.lines cover.differ;
      default = λ out e. subst (IsOutput (values_in (slot net.nets n))) (same_Some (one gives.takes.value) out e) (one_output (values_in (slot net.nets n)) gives.takes.value value_low);
      met = λ bare. absurd (false≢true (sym (subst (λ (c : Cover). some_bare c.lines ≡ false) gives.takes.is (none_bare table less (record { each = all_cubes table.lines cover.cubes }) gives.can.plain.plain gives.takes)) ∙ bare));
    }

    less_reads : ReadsWithin table (with_default gives.takes.value table)
    less_reads = record { each = λ m read. reads_kept (λ (l : Line). not (nat_eq l.out (one gives.takes.value))) table.lines m read }

    -- the table that it gives way to
    pub lesser : IsLesser net.nets n less
    lesser = record {
      table = table;
      table_is = is;
      cover = subst (IsCover net.nets (values_in (slot net.nets n))) (sym gives.takes.is) less_cover;
      reads = reads;
      less =
          less_at_fanins net n table less is reads
          (λ at point v allows. sym (relation.same at point v) ∙ allows)
          (record { each = λ at point some. record { value = some.value; is_allowed = relation.same at point some.value ∙ some.is_allowed } });
    }
      where
        reads : ReadsWithin table less
        reads = subst (ReadsWithin table) (sym gives.takes.is) less_reads
