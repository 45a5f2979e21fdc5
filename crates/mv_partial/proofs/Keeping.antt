-- A total table gives way to another one that allows something wherever it did, above total tables: from the same nets on all tables
-- are total, and marks of the others stay right.
use Rattle.std.proofs.Common.{◌≡◌, ◌∙◌, ◌⊎◌, ℕ, Bool, true, false, List, [], ◌∷◌, Option, Some, None, is_some, inl, inr, refl, sym, ap, subst, ⊎_elim}
use Rattle.std.proofs.lemmas.Bool.{cases_eq}
use Rattle.std.proofs.lemmas.Option.{same_Some}
use Rattle.mv_cover.specs.declared.cover.Cover.{Cover}
use Rattle.mv_graph.specs.Above.{GoesOn, IsAbove}
use Rattle.mv_graph.specs.Marks.{is_marked}
use Rattle.mv_graph.proofs.Paths.{above_first}
use Rattle.mv_meaning.specs.Narrowing.{AreTotalBelow, KeepsSome, ReadsWithin}
use Rattle.mv_meaning.specs.Rewriting.{given_table, with_net_table}
use Rattle.mv_meaning.proofs.OneTable.{IsReformed-given, IsWritten-given, reads-here, reads-there, slot-there}
use Rattle.mv_meaning.proofs.Following.{above_along}
use Rattle.mv_net.specs.declared.parts.FlatNet.{FlatNet}
use Rattle.mv_net.specs.Index.{is_held, kind_in}
use Rattle.mv_net.specs.Nets.{slot, values_in, table_in, table_reads, reads_in}
use Rattle.mv_net.specs.Total.{AllowsValue, IsTotal, IsTotalNet}
use Rattle.mv_net.proofs.Totals.{IsTotal-before}
use Rattle.mv_partial.specs.Partial.{ArePartial, IsPartialMark, IsTotalDown}

-- the same nets have total tables from themselves on down, and all nets are still held
record KeepsTotal (old new : List (Option FlatNet)) : Type 0 where
  held : (n : ℕ) → is_held new n ≡ true → is_held old n ≡ true
  down : (n : ℕ) → IsTotalDown new n → IsTotalDown old n
  up : (n : ℕ) → IsTotalDown old n → IsTotalDown new n

-- so marks stay right
marks_kept : (old new : List (Option FlatNet)) (marks : List Bool) → KeepsTotal old new → ArePartial old marks → ArePartial new marks
marks_kept old new marks keeps marked = record { each = λ n held. by n (is_marked marks n) (marked.each n (keeps.held n held)) }
  where
    by : (n : ℕ) (mark : Bool) → IsPartialMark old n mark → IsPartialMark new n mark
    by n true partial = λ d. partial (keeps.down n d)
    by n false total = keeps.up n total

-- a net that stays, where all numbers of values do, has a total table if it had one
total_along : (old new : List (Option FlatNet)) (m : ℕ) → slot new m ≡ slot old m → ((k : ℕ) → values_in (slot new k) ≡ values_in (slot old k)) → IsTotalNet old m → IsTotalNet new m
total_along old new m same values t = record {
  net = t.net;
  held = same ∙ t.held;
  cover = t.cover;
  table = t.table;
  total = IsTotal-before new old t.cover (λ k _. sym (values k)) t.total;
}

held_kind : (f : Option FlatNet) → is_some f ≡ is_some (kind_in f)
held_kind None = refl
held_kind (Some f) = refl

module _ (nets : List (Option FlatNet)) (n : ℕ) (old c : Cover) (table : table_in (slot nets n) ≡ Some old) (reads : ReadsWithin old c) where
  abbrev after : List (Option FlatNet)
  after = with_net_table nets n c

  values_same : (m : ℕ) → values_in (slot after m) ≡ values_in (slot nets m)
  values_same m = ((IsReformed-given nets n old c table).each m).values

  held_same : (m : ℕ) → is_held after m ≡ is_held nets m
  held_same m =
      held_kind (slot after m) ∙ (ap (λ k. is_some k) ((IsReformed-given nets n old c table).each m).kind ∙ sym (held_kind (slot nets m)))

  -- who reads whom now did so before
  read_before : (m k : ℕ) → reads_in after m k ≡ true → reads_in nets m k ≡ true
  read_before m k h =
      ⊎_elim
      (λ (e : m ≡ n).
      let here : reads_in after n k ≡ true = subst (λ j. reads_in after j k ≡ true) e h in
      subst (λ j. reads_in nets j k ≡ true) (sym e) (ap (λ t. table_reads t k) table ∙ reads.each k (sym (reads-here nets n old c table k) ∙ here)))
      (λ (ne : m ≡ n → ⊥). sym (reads-there nets n old c table m k ne) ∙ h)
      (cases_eq m n)

  above_before : (a m : ℕ) → IsAbove (reads_in after) a m → IsAbove (reads_in nets) a m
  above_before a m above =
      above_along (reads_in after) (reads_in nets) (λ k j h. record { path = []; goes = read_before k j h }) a m above

  -- who reads n, or a net below n, is below n
  below_by : (m k : ℕ) → reads_in nets m k ≡ true → (k ≡ n) ⊎ IsAbove (reads_in nets) n k → IsAbove (reads_in nets) n m
  below_by m k h (inl e) = record { path = []; goes = subst (λ j. reads_in nets m j ≡ true) e h }
  below_by m k h (inr above) = above_first (reads_in nets) m k n h above

  -- a path goes through n, or its steps are still there
  kept_path : (a m : ℕ) (path : List ℕ) → GoesOn (reads_in nets) a m path → ((m ≡ n) ⊎ IsAbove (reads_in nets) n m) ⊎ GoesOn (reads_in after) a m path
  kept_path a m [] goes =
      ⊎_elim (λ (e : m ≡ n). inl (inl e)) (λ (ne : m ≡ n → ⊥). inr (reads-there nets n old c table m a ne ∙ goes)) (cases_eq m n)
  kept_path a m (k ∷ path) goes =
      ⊎_elim
      (λ (e : m ≡ n). inl (inl e))
      (λ (ne : m ≡ n → ⊥).
      ⊎_elim
      (λ (through : (k ≡ n) ⊎ IsAbove (reads_in nets) n k). inl (inr (below_by m k goes.0 through)))
      (λ (kept : GoesOn (reads_in after) a k path). inr (reads-there nets n old c table m k ne ∙ goes.0, kept))
      (kept_path a k path goes.1))
      (cases_eq m n)

  module _ (keeps : KeepsSome nets old c) (here : IsTotalNet nets n) (below : AreTotalBelow nets n) where
    -- the new table is total
    total_here : IsTotalNet after n
    total_here = record {
      net = record here.net { table = Some c };
      held = (IsWritten-given nets n c).here ∙ ap (given_table c) here.held;
      cover = c;
      table = refl;
      total = IsTotal-before after nets c (λ m _. sym (values_same m)) total;
    }
      where
        was : here.cover ≡ old
        was = same_Some here.cover old (sym here.table ∙ (sym (ap table_in here.held) ∙ table))

        total : IsTotal nets c
        total = record { some = λ at point. keeps.each at point (subst (λ k. AllowsValue k at) was (here.total.some at point)) }

    total_now : (m : ℕ) → IsTotalNet nets m → IsTotalNet after m
    total_now m t =
        ⊎_elim
        (λ (e : m ≡ n). subst (IsTotalNet after) (sym e) total_here)
        (λ (ne : m ≡ n → ⊥). total_along nets after m (slot-there nets n old c table m ne) values_same t)
        (cases_eq m n)

    total_before : (m : ℕ) → IsTotalNet after m → IsTotalNet nets m
    total_before m t =
        ⊎_elim
        (λ (e : m ≡ n). subst (IsTotalNet nets) (sym e) here)
        (λ (ne : m ≡ n → ⊥). total_along after nets m (sym (slot-there nets n old c table m ne)) (λ k. sym (values_same k)) t)
        (cases_eq m n)

    -- what was below is n, below n, or still below
    below_before : (m : ℕ) → AreTotalBelow after m → AreTotalBelow nets m
    below_before m total = record {
      each = λ k above.
          ⊎_elim
          (λ (through : (k ≡ n) ⊎ IsAbove (reads_in nets) n k).
          ⊎_elim (λ (e : k ≡ n). subst (IsTotalNet nets) (sym e) here) (λ (a : IsAbove (reads_in nets) n k). below.each k a) through)
          (λ (kept : GoesOn (reads_in after) m k above.path). total_before k (total.each k (record { path = above.path; goes = kept })))
          (kept_path m k above.path above.goes);
    }

    keeps_total : KeepsTotal nets after
    keeps_total = record {
      held = λ m h. sym (held_same m) ∙ h;
      down = λ m d. record { here = total_before m d.here; below = below_before m d.below };
      up = λ m d. record {
        here = total_now m d.here;
        below = record { each = λ k above. total_now k (d.below.each k (above_before m k above)) };
      };
    }

pub marks_stay : (nets : List (Option FlatNet)) (n : ℕ) (old new : Cover) (marks : List Bool) → table_in (slot nets n) ≡ Some old → ReadsWithin old new → KeepsSome nets old new → IsTotalNet nets n → AreTotalBelow nets n → ArePartial nets marks
    → ArePartial (with_net_table nets n new) marks
marks_stay nets n old new marks table reads keeps here below right = marks_kept nets (with_net_table nets n new) marks (keeps_total nets n old new table reads keeps here below) right
