-- The covers of a model's tables are covers over the model's nets, and what they read.
use Rattle.std.proofs.Common.{◌≡◌, ◌⊎◌, ℕ, zero, suc, ◌<◌, ◌≤◌, Bool, true, List, [], ◌∷◌, length, map, Option, Some, None, refl, sym, ◌∙◌, ap, subst, arith, ⊎_elim, inl, inr, All}
use Rattle.std.specs.Prelude.{nat_eq, slice_index_or}
use Rattle.std.specs.List.{slice_get}
use Rattle.std.proofs.lemmas.Bool.{false≢true, cond-true, eq-eqb, eqb-true, or_cases, or_left, or_right}
use Rattle.std.proofs.lemmas.List.Elements.{All-cons, All-nil, All-weaker}
use Rattle.std.proofs.lemmas.Option.{none-some, same_Some, get_or_from_slice_get}
use Rattle.mv_base.specs.Names.{among, is_net_name}
use Rattle.mv_base.specs.declared.limits.TheConstants.{MAX_VALUES}
use Rattle.mv_base.specs.declared.number.NetId.{NetId}
use Rattle.mv_cover.specs.Covers.{cover_reads}
use Rattle.mv_cover.specs.declared.cover.Cover.{Cover}
use Rattle.mv_design.specs.declared.design.Decl.{Decl}
use Rattle.mv_design.specs.declared.design.FileModel.{FileModel}
use Rattle.mv_design.specs.declared.table.Entry.{Entry}
use Rattle.mv_design.specs.declared.table.FileTable.{FileTable}
use Rattle.mv_design.specs.declared.table.Row.{Row}
use Rattle.mv_design.specs.Proper.{IsFileRow, FitOutputs as FitEntries}
use Rattle.mv_design.specs.Values.{count_of}
use Rattle.mv_design.specs.Nets.{output_of}
use Rattle.mv_rows.specs.declared.column.Column.{Column}
use Rattle.mv_rows.specs.Covers.{FitOutput, FitOutputs, IsTableCover, MarkHas}
use Rattle.mv_rows.specs.Cubes.{CountBy}
use Rattle.mv_rows.specs.Flat.{only_entry}
use Rattle.mv_joint.specs.Meaning.{AreTableCovers}
use Rattle.mv_net.specs.declared.parts.FlatNet.{FlatNet}
use Rattle.mv_net.specs.declared.parts.NetParts.{NetParts}
use Rattle.mv_net.specs.Nets.{slot, values_in}
use Rattle.mv_net.specs.Formed.{IsReadable, IsCover}
use Rattle.mv_resets.specs.NetModels.{IsNetTable}
use Rattle.mv_acyclic.specs.Numbers.{number_in}
use Rattle.mv_acyclic.proofs.Names.{all_among}
use Rattle.mv_flat.specs.declared.covers.TableCovers.{TableCovers}
use Rattle.mv_flat.specs.declared.covers.TableCovers.TheVariants.{Single, Joint}
use Rattle.mv_flat.specs.Covers.{MadeNet, mark_of, choices_in, outputs_of}
use Rattle.mv_flat.specs.Numbers.{column_of, columns_at, mark_at, choice_at}
use Rattle.mv_flat.specs.Places.{net_places}
use Rattle.mv_flat.proofs.Slots.{StandsMade, IsTableAt}
use Rattle.mv_flat.proofs.Places.{IsModelNet, IsFileNet, table_of, file_table, named_file}
use Rattle.mv_flat.proofs.Naming.{IsNumberOf, number_listed, listed_number, among_first, among_later, table_input_named}
use Rattle.mv_flat.proofs.Covered.{IsCovered, covered, fit_entry, fit_outputs}
use Rattle.mv_flat.proofs.FormedCovers.{is_column, is_mark, is_above, is_choice, count_above, values_at, AreReadable, cover_from, cover_above}

-- ---- what the covers of a table read

all_columns : (P : Column → Type 0) (f : List ℕ → Column) (ws : List (List ℕ)) → ((w : List ℕ) → among w ws ≡ true → P (f w)) → All P (map f ws)
all_columns P f [] h = All-nil P
all_columns P f (w ∷ ws) h = All-cons P (f w) (map f ws) (h w (among_first w ws)) (all_columns P f ws (λ u y. h u (among_later u w ws y)))

-- the mark is there, at the number
pub record IsMarkOf (o : Option Cover) (mark : NetId) (n : ℕ) : Type 0 where
  pub cover : Cover
  pub there : o ≡ Some cover
  pub number : mark.0 ≡ n

-- the choice net is there, at the number
pub record IsChoiceOf (covers : TableCovers) (choice : NetId) (n : ℕ) : Type 0 where
  pub made : MadeNet
  pub there : choices_in covers ≡ made ∷ []
  pub number : choice.0 ≡ n

mark_of_number : (o : Option Cover) (mark : NetId) (n : ℕ) → is_mark o mark n ≡ true → IsMarkOf o mark n
mark_of_number None mark n h = absurd (false≢true h)
mark_of_number (Some c) mark n h = record { cover = c; there = refl; number = eqb-true _ _ h }

-- what a cover over the columns and the mark reads
above : (ds : List Decl) (names ws : List (List ℕ)) (o : Option Cover) (mark : NetId) (n : ℕ)
    → is_above (map (column_of ds names) ws) o mark n ≡ true → IsNumberOf names ws n ⊎ IsMarkOf o mark n
above ds names ws o mark n h =
    ⊎_elim
    (λ (y : is_column (map (column_of ds names) ws) n ≡ true).
    inl (number_listed (λ (c : Column). c.net.0) (column_of ds names) names ws n (λ w. refl) y))
    (λ (y : is_mark o mark n ≡ true). inr (mark_of_number o mark n y))
    (or_cases (is_column (map (column_of ds names) ws) n) (is_mark o mark n) h)

-- what the covers of a table's outputs may read: with one output the columns and the mark, with several the choice net
abbrev outputs_read : List Column → NetId → NetId → TableCovers → ℕ → Bool
outputs_read columns mark choice (Single flat) = is_above columns flat.mark mark
outputs_read columns mark choice (Joint joint) = is_choice choice

-- ---- the nets of a table can be read, and have their values

-- the columns of a table can be read and have their values, and the nets that are made for it stand at their numbers
record HasNets (ds : List Decl) (names : List (List ℕ)) (nets : List (Option FlatNet)) (t : FileTable) (covers : TableCovers) : Type 0 where
  fits : IsNetTable ds t
  readable : (w : List ℕ) → among w t.inputs ≡ true → IsReadable nets (number_in names w)
  values : (w : List ℕ) → among w t.inputs ≡ true → values_in (slot nets (number_in names w)) ≡ count_of ds w
  mark : (c : Cover) → mark_of covers ≡ Some c → StandsMade nets (mark_at names t).0 (record { values = 2; cover = c })
  choice : (made : MadeNet) → choices_in covers ≡ made ∷ [] → StandsMade nets (choice_at names t).0 made

made_readable : (nets : List (Option FlatNet)) (n : ℕ) (made : MadeNet) → StandsMade nets n made → IsReadable nets n
made_readable nets n made s = record { net = _; held = s.slot_is; plain = λ x. cc }

made_values : (nets : List (Option FlatNet)) (n : ℕ) (made : MadeNet) → StandsMade nets n made → values_in (slot nets n) ≡ made.values
made_values nets n made s = ap values_in s.slot_is

module _ (ds : List Decl) (names : List (List ℕ)) (nets : List (Option FlatNet)) (t : FileTable) (covers : TableCovers)
    (h : HasNets ds names nets t covers) where
  columns_readable : (o : Option Cover) → ((c : Cover) → o ≡ Some c → mark_of covers ≡ Some c)
      → AreReadable nets (is_above (columns_at ds names t) o (mark_at names t))
  columns_readable o marked = record { each = λ n y. at n (above ds names t.inputs o (mark_at names t) n y) }
    where
      P : ℕ → Type 0
      P = IsReadable nets

      at : (n : ℕ) → IsNumberOf names t.inputs n ⊎ IsMarkOf o (mark_at names t) n → IsReadable nets n
      at n r =
          ⊎_elim (λ (c : IsNumberOf names t.inputs n). subst P c.number (h.readable c.name c.listed))
          (λ (c : IsMarkOf o (mark_at names t) n). subst P c.number (made_readable nets _ _ (h.mark c.cover (marked c.cover c.there))))
          r

  choice_readable : (made : MadeNet) → choices_in covers ≡ made ∷ [] → AreReadable nets (is_choice (choice_at names t))
  choice_readable made e = record {
    each = λ n y. let P : ℕ → Type 0 = IsReadable nets in subst P (eqb-true _ _ y) (made_readable nets _ _ (h.choice made e));
  }

  columns_counted : (o : Option Cover) → CountBy (count_above (is_above (columns_at ds names t) o (mark_at names t)) (values_at nets)) (columns_at ds names t)
  columns_counted o =
      let columns : List Column = columns_at ds names t in
      let mark : NetId = mark_at names t in
      all_columns (λ (c : Column). c.count ≡ count_above (is_above columns o mark) (values_at nets) c.net.0) (column_of ds names) t.inputs
      (λ w y.
      let n : ℕ = number_in names w in
      sym
      (cond-true (is_above columns o mark n) (values_in (slot nets n)) 0
      (or_left (is_column columns n) (is_mark o mark n)
      (listed_number (λ (c : Column). c.net.0) (column_of ds names) names t.inputs w n (λ u. refl) y refl))
      ∙ h.values w y))

  mark_counted : (o : Option Cover) → mark_of covers ≡ o
      → MarkHas o (mark_at names t) (count_above (is_above (columns_at ds names t) o (mark_at names t)) (values_at nets)) 2
  mark_counted None e = tt
  mark_counted (Some c) e =
      let columns : List Column = columns_at ds names t in
      let mark : NetId = mark_at names t in
      cond-true (is_above columns (Some c) mark mark.0) (values_in (slot nets mark.0)) 0
      (or_right (is_column columns mark.0) (nat_eq mark.0 mark.0) (eq-eqb mark.0 mark.0 refl))
      ∙ made_values nets mark.0 _ (h.mark c e)

  choice_counted : (made : MadeNet) → choices_in covers ≡ made ∷ []
      → count_above (is_choice (choice_at names t)) (values_at nets) (choice_at names t).0 ≡ made.values
  choice_counted made e =
      let choice : NetId = choice_at names t in
      cond-true (nat_eq choice.0 choice.0) (values_in (slot nets choice.0)) 0 (eq-eqb choice.0 choice.0 refl)
      ∙ made_values nets choice.0 made (h.choice made e)

-- ---- entries fit their outputs

fit_first : (ds : List Decl) (names ins os : List (List ℕ)) (entries : List Entry) → 0 < length os → FitEntries ds ins os entries
    → FitOutput (map (column_of ds names) ins) (count_of ds (slice_index_or os 0 [])) (only_entry entries)
fit_first ds names ins [] entries some fit = absurd (omega arith)
fit_first ds names ins (w ∷ ws) [] some fit = absurd fit
fit_first ds names ins (w ∷ ws) (entry ∷ entries) some fit = fit_entry ds names ins w entry fit.0

single_fits : (ds : List Decl) (names : List (List ℕ)) (t : FileTable) → IsNetTable ds t → FitOutputs (columns_at ds names t) (count_of ds (output_of t)) t
single_fits ds names t is = record {
  rows =
      All-weaker (IsFileRow ds t) (λ (r : Row). FitOutput (columns_at ds names t) (count_of ds (output_of t)) (only_entry r.outs))
      (λ r row. fit_first ds names t.inputs t.outputs r.outs is.some row.outs) t.rows is.rows;
  default = λ entries e. fit_first ds names t.inputs t.outputs entries is.some (is.default entries e);
}

-- ---- the covers of a table, over the nets that they may read

-- of covers side by side with names, each is that of its output
cover_at : (count : ℕ → ℕ) (f : List ℕ → ℕ) (ws : List (List ℕ)) (cs : List Cover) (j : ℕ) (w : List ℕ) (c : Cover)
    → AreTableCovers count (map f ws) cs → slice_get ws j ≡ Some w → slice_get cs j ≡ Some c → IsTableCover count (f w) c
cover_at count f [] cs j w c are y z = absurd (none-some w y)
cover_at count f (u ∷ ws) [] j w c are y z = absurd are
cover_at count f (u ∷ ws) (d ∷ cs) zero w c are y z =
    let P : List ℕ → Type 0 = λ v. IsTableCover count (f v) c in
    let Q : Cover → Type 0 = IsTableCover count (f u) in
    subst P (same_Some u w y) (subst Q (same_Some d c z) are.0)
cover_at count f (u ∷ ws) (d ∷ cs) (suc j) w c are y z = cover_at count f ws cs j w c are.1 y z

only_cover : (count : ℕ → ℕ) (f : List ℕ → ℕ) (ws : List (List ℕ)) (d : Cover) (j : ℕ) (w : List ℕ) (c : Cover)
    → IsTableCover count (f (slice_index_or ws 0 [])) d → slice_get ws j ≡ Some w → slice_get (d ∷ []) j ≡ Some c → IsTableCover count (f w) c
only_cover count f ws d zero w c is y z =
    let P : List ℕ → Type 0 = λ v. IsTableCover count (f v) c in
    let Q : Cover → Type 0 = IsTableCover count (f (slice_index_or ws 0 [])) in
    subst P (get_or_from_slice_get ws 0 w [] y) (subst Q (same_Some d c z) is)
only_cover count f ws d (suc j) w c is y z = absurd (none-some c z)

module _ (ds : List Decl) (names : List (List ℕ)) (nets : List (Option FlatNet)) (t : FileTable) where
  abbrev columns : List Column
  columns = columns_at ds names t

  output_formed : (covers : TableCovers) → HasNets ds names nets t covers → IsCovered columns t (mark_at names t) (choice_at names t) covers
      → (j : ℕ) (w : List ℕ) (c : Cover) → slice_get t.outputs j ≡ Some w → slice_get (outputs_of covers) j ≡ Some c
      → IsTableCover (count_above (outputs_read columns (mark_at names t) (choice_at names t) covers) (values_at nets)) (count_of ds w) c
  output_formed (Single flat) h is j w c y z =
      let count : ℕ → ℕ = count_above (is_above columns flat.mark (mark_at names t)) (values_at nets) in
      only_cover count (count_of ds) t.outputs flat.cover j w c
      (is.formed count (columns_counted ds names nets t (Single flat) h flat.mark) (mark_counted ds names nets t (Single flat) h flat.mark refl)
      (count_of ds (output_of t)) (single_fits ds names t h.fits))
      y z
  output_formed (Joint joint) h is j w c y z =
      let count : ℕ → ℕ = count_above (is_choice (choice_at names t)) (values_at nets) in
      cover_at count (count_of ds) t.outputs joint.outputs j w c
      (is.outputs_formed count (choice_counted ds names nets t (Joint joint) h _ refl) (map (count_of ds) t.outputs) (fit_outputs ds names t h.fits)) y z

  mark_formed : (covers : TableCovers) → HasNets ds names nets t covers → IsCovered columns t (mark_at names t) (choice_at names t) covers
      → (c : Cover) → mark_of covers ≡ Some c → IsTableCover (count_above (is_above columns None (mark_at names t)) (values_at nets)) 2 c
  mark_formed (Single flat) h is c e =
      is.mark_formed c e (count_above (is_above columns None (mark_at names t)) (values_at nets)) (columns_counted ds names nets t (Single flat) h None)
  mark_formed (Joint joint) h is c e =
      is.mark_formed c e (count_above (is_above columns None (mark_at names t)) (values_at nets)) (columns_counted ds names nets t (Joint joint) h None)

  choice_formed : (covers : TableCovers) → HasNets ds names nets t covers → IsCovered columns t (mark_at names t) (choice_at names t) covers
      → (made : MadeNet) → choices_in covers ≡ made ∷ []
      → IsTableCover (count_above (is_above columns (mark_of covers) (mark_at names t)) (values_at nets)) made.values made.cover
  choice_formed (Single flat) h is made e = absurd (cc)
  choice_formed (Joint joint) h is made e =
      let count : ℕ → ℕ = count_above (is_above columns joint.mark (mark_at names t)) (values_at nets) in
      let P : MadeNet → Type 0 = λ (d : MadeNet). IsTableCover count d.values d.cover in
      let first : List MadeNet → MadeNet = λ list. slice_index_or list 0 made in
      subst P (ap first e)
      (is.formed count (columns_counted ds names nets t (Joint joint) h joint.mark) (mark_counted ds names nets t (Joint joint) h joint.mark refl))

  outputs_readable : (covers : TableCovers) → HasNets ds names nets t covers
      → AreReadable nets (outputs_read columns (mark_at names t) (choice_at names t) covers)
  outputs_readable (Single flat) h = columns_readable ds names nets t (Single flat) h flat.mark (λ c e. e)
  outputs_readable (Joint joint) h = choice_readable ds names nets t (Joint joint) h _ refl

  -- what an output reads: a column, the mark, or the choice net
  output_reads : (covers : TableCovers) (n : ℕ) → outputs_read columns (mark_at names t) (choice_at names t) covers n ≡ true
      → IsNumberOf names t.inputs n ⊎ (IsMarkOf (mark_of covers) (mark_at names t) n ⊎ IsChoiceOf covers (choice_at names t) n)
  output_reads (Single flat) n y =
      ⊎_elim (λ (c : IsNumberOf names t.inputs n). inl c) (λ (c : IsMarkOf flat.mark (mark_at names t) n). inr (inl c))
      (above ds names t.inputs flat.mark (mark_at names t) n y)
  output_reads (Joint joint) n y =
      let c : IsChoiceOf (Joint joint) (choice_at names t) n = record { made = _; there = refl; number = eqb-true _ _ y } in
      inr (inr c)

-- some values, and no more than a net may have
pub record HasSize (made : MadeNet) : Type 0 where
  pub some : 0 < made.values
  pub few : made.values ≤ MAX_VALUES

choice_sized : (columns : List Column) (t : FileTable) (mark choice : NetId) (covers : TableCovers) → IsCovered columns t mark choice covers
    → (made : MadeNet) → choices_in covers ≡ made ∷ [] → HasSize made
choice_sized columns t mark choice (Single flat) is made e = absurd (cc)
choice_sized columns t mark choice (Joint joint) is made e =
    let first : List MadeNet → MadeNet = λ list. slice_index_or list 0 made in
    subst HasSize (ap first e) (record { some = is.some; few = is.few })

-- ---- the tables of a model

pub file_readable : (m : FileModel) (nets : List (Option FlatNet)) (w : List ℕ) → is_net_name w ≡ true → IsFileNet m nets w
    → IsReadable nets (number_in (net_places m) w)
file_readable m nets w lawful f = record { net = _; held = f.held; plain = f.plain lawful }

module _ (m : FileModel) (net : NetParts) (is : IsModelNet m net) (k : ℕ) (t : FileTable) (e : slice_get m.tables k ≡ Some t) where
  abbrev here : IsTableAt m.decls (net_places m) net.nets t
  here = table_of m net is k t e

  file_input : (w : List ℕ) → among w t.inputs ≡ true → IsFileNet m net.nets w
  file_input w y = named_file m net is w (table_input_named m k t w e y)

  has_nets : HasNets m.decls (net_places m) net.nets t here.covers
  has_nets = record {
    fits = file_table m net is k t e;
    readable = λ w y. file_readable m net.nets w (all_among is_net_name t.inputs w (file_table m net is k t e).inputs y) (file_input w y);
    values = λ w y. ap values_in (file_input w y).held;
    mark = here.mark;
    choice = here.choice;
  }

  covers_are : IsCovered (columns_at m.decls (net_places m) t) t (mark_at (net_places m) t) (choice_at (net_places m) t) here.covers
  covers_are = covered m.decls (net_places m) net.nets t is.proper.decls here

  -- what the covers of the outputs may read
  abbrev below_outputs : ℕ → Bool
  below_outputs = outputs_read (columns_at m.decls (net_places m) t) (mark_at (net_places m) t) (choice_at (net_places m) t) here.covers

  -- and covers over the columns and this mark
  abbrev below : Option Cover → ℕ → Bool
  below o = is_above (columns_at m.decls (net_places m) t) o (mark_at (net_places m) t)

  output_table : (j : ℕ) (w : List ℕ) (c : Cover) → slice_get t.outputs j ≡ Some w → slice_get (outputs_of here.covers) j ≡ Some c
      → IsTableCover (count_above below_outputs (values_at net.nets)) (count_of m.decls w) c
  output_table j w c y z = output_formed m.decls (net_places m) net.nets t here.covers has_nets covers_are j w c y z

  pub output_cover : (j : ℕ) (w : List ℕ) (c : Cover) → slice_get t.outputs j ≡ Some w
      → slice_get (outputs_of (table_of m net is k t e).covers) j ≡ Some c → IsCover net.nets (count_of m.decls w) c
  output_cover j w c y z =
      cover_from net.nets below_outputs (count_of m.decls w) c (outputs_readable m.decls (net_places m) net.nets t here.covers has_nets)
      (output_table j w c y z)

  pub output_above : (j : ℕ) (w : List ℕ) (c : Cover) → slice_get t.outputs j ≡ Some w
      → slice_get (outputs_of (table_of m net is k t e).covers) j ≡ Some c → (n : ℕ) → cover_reads c n ≡ true
      → IsNumberOf (net_places m) t.inputs n
      ⊎ (IsMarkOf (mark_of (table_of m net is k t e).covers) (mark_at (net_places m) t) n ⊎ IsChoiceOf (table_of m net is k t e).covers (choice_at (net_places m) t) n)
  output_above j w c y z n h =
      output_reads m.decls (net_places m) net.nets t here.covers n
      (cover_above below_outputs (values_at net.nets) (count_of m.decls w) c n (output_table j w c y z) h)

  mark_table : (c : Cover) → mark_of here.covers ≡ Some c → IsTableCover (count_above (below None) (values_at net.nets)) 2 c
  mark_table c x = mark_formed m.decls (net_places m) net.nets t here.covers has_nets covers_are c x

  pub mark_cover : (c : Cover) → mark_of (table_of m net is k t e).covers ≡ Some c → IsCover net.nets 2 c
  mark_cover c x =
      cover_from net.nets (below None) 2 c
      (columns_readable m.decls (net_places m) net.nets t here.covers has_nets None (λ d y. absurd (none-some d y))) (mark_table c x)

  pub mark_above : (c : Cover) → mark_of (table_of m net is k t e).covers ≡ Some c → (n : ℕ) → cover_reads c n ≡ true → IsNumberOf (net_places m) t.inputs n
  mark_above c x n h =
      ⊎_elim (λ (y : IsNumberOf (net_places m) t.inputs n). y) (λ (y : IsMarkOf None (mark_at (net_places m) t) n). absurd (none-some y.cover y.there))
      (above m.decls (net_places m) t.inputs None (mark_at (net_places m) t) n
      (cover_above (below None) (values_at net.nets) 2 c n (mark_table c x) h))

  choice_table : (made : MadeNet) → choices_in here.covers ≡ made ∷ []
      → IsTableCover (count_above (below (mark_of here.covers)) (values_at net.nets)) made.values made.cover
  choice_table made x = choice_formed m.decls (net_places m) net.nets t here.covers has_nets covers_are made x

  pub choice_cover : (made : MadeNet) → choices_in (table_of m net is k t e).covers ≡ made ∷ [] → IsCover net.nets made.values made.cover
  choice_cover made x =
      cover_from net.nets (below (mark_of here.covers)) made.values made.cover
      (columns_readable m.decls (net_places m) net.nets t here.covers has_nets (mark_of here.covers) (λ c y. y)) (choice_table made x)

  pub choice_above : (made : MadeNet) → choices_in (table_of m net is k t e).covers ≡ made ∷ [] → (n : ℕ) → cover_reads made.cover n ≡ true
      → IsNumberOf (net_places m) t.inputs n ⊎ IsMarkOf (mark_of (table_of m net is k t e).covers) (mark_at (net_places m) t) n
  choice_above made x n h =
      above m.decls (net_places m) t.inputs (mark_of here.covers) (mark_at (net_places m) t) n
      (cover_above (below (mark_of here.covers)) (values_at net.nets) made.values made.cover n (choice_table made x) h)

  -- a choice net has some values, and no more than a net may have
  pub choice_size : (made : MadeNet) → choices_in (table_of m net is k t e).covers ≡ made ∷ [] → HasSize made
  choice_size made x = choice_sized (columns_at m.decls (net_places m) t) t (mark_at (net_places m) t) (choice_at (net_places m) t) here.covers covers_are made x
