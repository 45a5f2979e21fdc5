-- What the nets of a model's network read: the nets of a table its columns, and those higher up the lower ones: the mark stands
-- right above the columns, the choice net above the mark, and the outputs above both.
use Rattle.std.proofs.Common.{◌≡◌, ◌⊎◌, ℕ, zero, suc, ◌<◌, ◌≤◌, true, List, length, Some, sym, ◌∙◌, ap, arith, ⊎_elim, inl, inr}
use Rattle.std.specs.List.{slice_get}
use Rattle.std.proofs.lemmas.Bool.{false≢true, and_from, cases_lt}
use Rattle.std.proofs.lemmas.Map.Keys.{any_passes_from_place}
use Rattle.mv_base.specs.Names.{among}
use Rattle.mv_base.proofs.NameLemmas.{among-at}
use Rattle.mv_design.specs.declared.design.FileModel.{FileModel}
use Rattle.mv_design.specs.declared.table.FileTable.{FileTable}
use Rattle.mv_rows.specs.declared.column.Column.{Column}
use Rattle.mv_net.specs.declared.parts.NetParts.{NetParts}
use Rattle.mv_net.specs.Nets.{slot, net_reads, reads_in}
use Rattle.mv_acyclic.specs.Sound.{reads_through, reads}
use Rattle.mv_flat.specs.Covers.{mark_of}
use Rattle.mv_flat.specs.Numbers.{columns_at, mark_at, choice_at}
use Rattle.mv_flat.specs.Places.{net_places, has_mark, is_joint}
use Rattle.mv_flat.proofs.Slots.{IsTableAt}
use Rattle.mv_flat.proofs.Places.{IsModelNet, table_of, open_slot, OpenPlace, OutputPlace, MarkPlace, ChoicePlace, TablePlace, place_at, no_slot}
use Rattle.mv_flat.proofs.Naming.{IsNumberOf}
use Rattle.mv_flat.proofs.FormedMade.{output_net, mark_net, choice_net, marked_has, chosen_joint}
use Rattle.mv_flat.proofs.FormedTables.{IsMarkOf, IsChoiceOf, output_above, mark_above, choice_above}

-- the number is that of a net of the table, by how high it stands above the columns: of its mark, its choice net or an output
abbrev pub StandsIn : FileModel → FileTable → ℕ → ℕ → Type 0
StandsIn m t zero n = (has_mark m.decls t ≡ true) × (n ≡ (mark_at (net_places m) t).0)
StandsIn m t (suc zero) n = (is_joint t ≡ true) × (n ≡ (choice_at (net_places m) t).0)
StandsIn m t (suc (suc zero)) n = IsNumberOf (net_places m) t.outputs n
StandsIn m t (suc (suc (suc h))) n = ⊥

-- a net of a table, and a column of it
pub record ReadsColumn (m : FileModel) (n k : ℕ) : Type 0 where
  pub place : ℕ
  pub table : FileTable
  pub listed : slice_get m.tables place ≡ Some table
  pub height : ℕ
  pub reader : StandsIn m table height n
  pub column : IsNumberOf (net_places m) table.inputs k

-- a net of a table, and a lower one
pub record ReadsMade (m : FileModel) (n k : ℕ) : Type 0 where
  pub place : ℕ
  pub table : FileTable
  pub listed : slice_get m.tables place ≡ Some table
  pub upper : ℕ
  pub lower : ℕ
  pub reader : StandsIn m table upper n
  pub made : StandsIn m table lower k
  pub lies : lower < upper

module _ (m : FileModel) (net : NetParts) (is : IsModelNet m net) (n k : ℕ) where
  open_reads : OpenPlace m n → reads_in net.nets n k ≡ true → ⊥
  open_reads p h = false≢true (sym (ap (λ s. net_reads s k) (ap (slot net.nets) p.number ∙ open_slot m net is p.kind p.name p.listed)) ∙ h)

  abbrev at_table : (place : ℕ) (t : FileTable) → slice_get m.tables place ≡ Some t → IsTableAt m.decls (net_places m) net.nets t
  at_table place t e = table_of m net is place t e

  -- a net of a table that reads a column, or the mark
  of_column : (place : ℕ) (t : FileTable) (e : slice_get m.tables place ≡ Some t) (height : ℕ) → StandsIn m t height n
      → IsNumberOf (net_places m) t.inputs k → ReadsColumn m n k
  of_column place t e height reader column = record { place = place; table = t; listed = e; height = height; reader = reader; column = column }

  of_mark : (place : ℕ) (t : FileTable) (e : slice_get m.tables place ≡ Some t) (height : ℕ) → 0 < height → StandsIn m t height n
      → IsMarkOf (mark_of (at_table place t e).covers) (mark_at (net_places m) t) k → ReadsMade m n k
  of_mark place t e height high reader mark = record {
    place = place;
    table = t;
    listed = e;
    upper = height;
    lower = 0;
    reader = reader;
    made = (marked_has m.decls (net_places m) net.nets t (at_table place t e) mark.cover mark.there, sym mark.number);
    lies = high;
  }

  of_choice : (place : ℕ) (t : FileTable) (e : slice_get m.tables place ≡ Some t) → StandsIn m t 2 n
      → IsChoiceOf (at_table place t e).covers (choice_at (net_places m) t) k → ReadsMade m n k
  of_choice place t e reader choice =
      let here = at_table place t e in
      let columns : List Column = columns_at m.decls (net_places m) t in
      let joint = chosen_joint columns t (mark_at (net_places m) t) (choice_at (net_places m) t) here.covers choice.made here.are choice.there in
      record {
        place = place;
        table = t;
        listed = e;
        upper = 2;
        lower = 1;
        reader = reader;
        made = (joint, sym choice.number);
        lies = omega arith;
      }

  output_reads : OutputPlace m n → reads_in net.nets n k ≡ true → ReadsColumn m n k ⊎ ReadsMade m n k
  output_reads p h =
      let o = output_net m.decls (net_places m) net.nets p.table (at_table p.place p.table p.listed) p.index p.name p.output in
      let reader : StandsIn m p.table 2 n = record { name = p.name; listed = among-at p.table.outputs p.index p.name p.output; number = sym p.number } in
      ⊎_elim (λ (c : IsNumberOf (net_places m) p.table.inputs k). inl (of_column p.place p.table p.listed 2 reader c))
      (λ q.
      ⊎_elim
      (λ (c : IsMarkOf (mark_of (at_table p.place p.table p.listed).covers) (mark_at (net_places m) p.table) k).
      inr (of_mark p.place p.table p.listed 2 (omega arith) reader c))
      (λ (c : IsChoiceOf (at_table p.place p.table p.listed).covers (choice_at (net_places m) p.table) k). inr (of_choice p.place p.table p.listed reader c))
      q)
      (output_above m net is p.place p.table p.listed p.index p.name o.cover p.output o.listed k
      (sym (ap (λ s. net_reads s k) (ap (slot net.nets) p.number ∙ o.slot_is)) ∙ h))

  mark_reads : MarkPlace m n → reads_in net.nets n k ≡ true → ReadsColumn m n k
  mark_reads p h =
      let o = mark_net m.decls (net_places m) net.nets p.table (at_table p.place p.table p.listed) p.may in
      of_column p.place p.table p.listed 0 (p.may, p.number)
      (mark_above m net is p.place p.table p.listed o.cover o.is k
      (sym (ap (λ s. net_reads s k) (ap (slot net.nets) p.number ∙ o.stands.slot_is)) ∙ h))

  choice_reads : ChoicePlace m n → reads_in net.nets n k ≡ true → ReadsColumn m n k ⊎ ReadsMade m n k
  choice_reads p h =
      let o = choice_net m.decls (net_places m) net.nets p.table (at_table p.place p.table p.listed) p.joint in
      let reader : StandsIn m p.table 1 n = (p.joint, p.number) in
      ⊎_elim (λ (c : IsNumberOf (net_places m) p.table.inputs k). inl (of_column p.place p.table p.listed 1 reader c))
      (λ (c : IsMarkOf (mark_of (at_table p.place p.table p.listed).covers) (mark_at (net_places m) p.table) k).
      inr (of_mark p.place p.table p.listed 1 (omega arith) reader c))
      (choice_above m net is p.place p.table p.listed o.made o.is k
      (sym (ap (λ s. net_reads s k) (ap (slot net.nets) p.number ∙ o.stands.slot_is)) ∙ h))

  table_reads : TablePlace m n → reads_in net.nets n k ≡ true → ReadsColumn m n k ⊎ ReadsMade m n k
  table_reads p h =
      ⊎_elim (λ (o : OutputPlace m n). output_reads o h)
      (λ q. ⊎_elim (λ (o : MarkPlace m n). inl (mark_reads o h)) (λ (o : ChoicePlace m n). choice_reads o h) q)
      p

  -- each net that reads another is such
  pub reads_by_table : reads_in net.nets n k ≡ true → ReadsColumn m n k ⊎ ReadsMade m n k
  reads_by_table h =
      ⊎_elim
      (λ (low : n < length (net_places m)).
      ⊎_elim (λ (p : OpenPlace m n). absurd (open_reads p h)) (λ (p : TablePlace m n). table_reads p h) (place_at m net is n low))
      (λ (high : length (net_places m) ≤ n). absurd (false≢true (sym (ap (λ s. net_reads s k) (no_slot m net is n high)) ∙ h)))
      (cases_lt n (length (net_places m)))

-- in the model each of a table's outputs reads its columns
pub reads_column : (m : FileModel) (k : ℕ) (t : FileTable) (w u : List ℕ) → slice_get m.tables k ≡ Some t → among w t.outputs ≡ true
    → among u t.inputs ≡ true → reads m w u ≡ true
unfolding reads
reads_column m k t w u e listed h = any_passes_from_place (reads_through w u) m.tables k t e (and_from _ _ listed h)
