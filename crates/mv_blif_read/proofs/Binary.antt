-- The network of a model without declarations whose tables say one value at each point: each of its nets has the values 0 and 1, and
-- each of its tables allows one value.
use Rattle.std.proofs.Common.{◌≡◌, ◌⊎◌, ◌∙◌, ℕ, zero, suc, ◌+◌, ◌<◌, ◌≤◌, Bool, true, false, List, [], ◌∷◌, length, decimal, Option, Some, None, refl, sym, ap, subst, ⊎_elim, arith, All}
use Rattle.std.specs.Prelude.{map, slice_get, if◌then◌else◌}
use Rattle.std.specs.List.{range_with_len}
use Rattle.std.specs.Option.{is_some}
use Rattle.std.proofs.lemmas.Bool.{cases_lt, cond_both, false≢true}
use Rattle.std.proofs.lemmas.Fmt.{decimal_digit}
use Rattle.std.proofs.lemmas.List.Elements.{All-get_or}
use Rattle.std.proofs.lemmas.Option.{none-some, same_Some, slice_get_within, get_or_from_slice_get}
use Rattle.mv_base.specs.Names.{same_word}
use Rattle.mv_base.specs.declared.number.NetId.{NetId}
use Rattle.mv_cover.specs.Plain.{AllowsOne}
use Rattle.mv_cover.specs.declared.cover.Cover.{Cover}
use Rattle.mv_graph.specs.Nets.{has_id}
use Rattle.mv_lex.specs.declared.lines.LexLine.{LexLine}
use Rattle.mv_design.specs.declared.design.Decl.{Decl}
use Rattle.mv_design.specs.declared.design.FileModel.{FileModel}
use Rattle.mv_design.specs.declared.table.FileTable.{FileTable}
use Rattle.mv_design.specs.Proper.{numbers_ascend}
use Rattle.mv_design.specs.Values.{two_values, values_of}
use Rattle.mv_parse_laws.specs.Lines.{numbers_of}
use Rattle.mv_resets.specs.Resets.{reset_decl, reset_name, all_tables, with_reset_nets}
use Rattle.mv_rows.specs.declared.column.Column.{Column}
use Rattle.mv_blif.specs.Meaning.{blif_model}
use Rattle.mv_net.specs.declared.parts.FlatNet.{FlatNet}
use Rattle.mv_net.specs.declared.parts.Kind.{Kind}
use Rattle.mv_net.specs.declared.parts.NetParts.{NetParts}
use Rattle.mv_net.specs.Formed.{latch_outputs}
use Rattle.mv_net.specs.Nets.{slot, values_in, spelled_in, spelled_values, table_in}
use Rattle.mv_net.specs.Total.{IsTotal}
use Rattle.mv_flat.specs.declared.covers.TableCovers.{TableCovers}
use Rattle.mv_flat.specs.declared.covers.TableCovers.TheVariants.{Single, Joint}
use Rattle.mv_flat.specs.Built.{file_net, kind_of}
use Rattle.mv_flat.specs.Covers.{IsMadeTable, mark_of, outputs_of}
use Rattle.mv_flat.specs.Numbers.{columns_at, column_of, mark_at, choice_at, kept_names}
use Rattle.mv_flat.specs.Places.{net_places, has_mark, is_joint}
use Rattle.mv_flat.proofs.Places.{IsModelNet, OpenPlace, OutputPlace, MarkPlace, ChoicePlace, TablePlace, place_at, no_slot, open_slot, table_of}
use Rattle.mv_flat.proofs.Singles.{several_outputs}
use Rattle.mv_flat.proofs.Slots.{cover_at}
use Rattle.mv_blif_back.specs.Said.{ArePlain, IsBinary}
use Rattle.mv_blif_read.specs.declared.network.FileNetwork.{FileNetwork}
use Rattle.mv_blif_read.specs.Reads.{IsBlifNetOf}
use Rattle.mv_blif_read.proofs.Alone.{IsNetOfModel}
use Rattle.mv_blif_read.proofs.Complete.{complete_total, IsChoice, IsGate, gate_plain}
use Rattle.mv_blif_read.proofs.Gates.{all_gates}
use Rattle.mv_blif_read.proofs.Refused.{no-faults}
use Rattle.mv_blif_read.proofs.Said.{net_of_lines}

-- ---- values

-- the values of each net, where none is declared but for reset nets
values_two : (ts : List FileTable) (w : List ℕ) → values_of (map (reset_decl []) ts) w ≡ two_values
values_two [] w = refl
values_two (t ∷ ts) w =
    cond_both (same_word w (reset_decl [] t).net) two_values (values_of (map (reset_decl []) ts) w) (λ vs. vs ≡ two_values)
    (λ y. refl) (λ n. values_two ts w)

-- their names are the numbers from 0, and aren't kept
two_kept : kept_names two_values ≡ []
two_kept = rw (decimal_digit 0 (omega arith), decimal_digit 1 (omega arith)) refl

two_spelled : spelled_values 2 [] ≡ two_values
two_spelled = rw (decimal_digit 0 (omega arith), decimal_digit 1 (omega arith)) refl

-- ---- what stands at a number

-- a net with the values 0 and 1, whose table, if it has one, allows one value at each point
pub record IsTwoNet (f : FlatNet) : Type 0 where
  pub values : f.values ≡ 2
  pub names : f.value_names ≡ []
  pub choice : (c : Cover) → f.table ≡ Some c → IsChoice c

-- a net of a file with such values
two_net : (ds : List Decl) (kind : Kind) (table : Option Cover) (w : List ℕ) (f : FlatNet) → values_of ds w ≡ two_values
    → ((c : Cover) → table ≡ Some c → IsChoice c) → file_net ds kind table w ≡ Some f → IsTwoNet f
two_net ds kind table w f two choice e =
    subst IsTwoNet (same_Some _ f e) (record { values = ap length two; names = ap kept_names two ∙ two_kept; choice = choice })

single_choice : (cs : List Column) (t : FileTable) (mark choice : NetId) (covers : TableCovers) (j : ℕ) (c : Cover) → (t.inputs ≡ [] → cs ≡ []) → IsGate t
    → IsMadeTable cs t mark choice covers → slice_get (outputs_of covers) j ≡ Some c → IsChoice c
single_choice cs t mark choice (Single flat) zero c columns gate made e =
    subst IsChoice (same_Some flat.cover c e) (gate_plain cs t mark flat columns gate made.1).cover
single_choice cs t mark choice (Single flat) (suc j) c columns gate made e = absurd (none-some c e)
single_choice cs t mark choice (Joint joint) j c columns gate made e =
    absurd (let many = several_outputs t made.0 in let single = gate.single in omega (arith, many, single))

single_unmarked : (cs : List Column) (t : FileTable) (mark choice : NetId) (covers : TableCovers) → (t.inputs ≡ [] → cs ≡ []) → IsGate t
    → IsMadeTable cs t mark choice covers → mark_of covers ≡ None
single_unmarked cs t mark choice (Single flat) columns gate made = (gate_plain cs t mark flat columns gate made.1).mark
single_unmarked cs t mark choice (Joint joint) columns gate made =
    absurd (let many = several_outputs t made.0 in let single = gate.single in omega (arith, many, single))

module _ (m : FileModel) (net : NetParts) (is : IsModelNet m net) (two : (w : List ℕ) → values_of m.decls w ≡ two_values) (gates : All IsGate m.tables) where
  gate_at : (k : ℕ) (t : FileTable) → slice_get m.tables k ≡ Some t → IsGate t
  gate_at k t e = subst IsGate (get_or_from_slice_get m.tables k t t e) (All-get_or IsGate m.tables k t (slice_get_within m.tables k t e) gates)

  no_columns : (t : FileTable) → t.inputs ≡ [] → columns_at m.decls (net_places m) t ≡ []
  no_columns t e = ap (map (column_of m.decls (net_places m))) e

  open_two : (n : ℕ) (f : FlatNet) → slot net.nets n ≡ Some f → OpenPlace m n → IsTwoNet f
  open_two n f e p =
      two_net m.decls p.kind None p.name f (two p.name) (λ c h. absurd (none-some c h))
      (sym (open_slot m net is p.kind p.name p.listed) ∙ (ap (slot net.nets) (sym p.number) ∙ e))

  output_two : (n : ℕ) (f : FlatNet) → slot net.nets n ≡ Some f → OutputPlace m n → IsTwoNet f
  output_two n f e p =
      let at = table_of m net is p.place p.table p.listed in
      let h = cover_at m.decls (net_places m) net.nets p.table at p.index p.name p.output in
      let choice : IsChoice h.cover =
      single_choice (columns_at m.decls (net_places m) p.table) p.table (mark_at (net_places m) p.table) (choice_at (net_places m) p.table) at.covers p.index h.cover
      (no_columns p.table) (gate_at p.place p.table p.listed) at.are h.at in
      two_net m.decls (kind_of p.name) (Some h.cover) p.name f (two p.name) (λ c s. subst IsChoice (same_Some h.cover c s) choice)
      (sym (at.output p.index p.name h.cover p.output h.at) ∙ (ap (slot net.nets) (sym p.number) ∙ e))

  not_marked : (n : ℕ) → MarkPlace m n → ⊥
  not_marked n p =
      let at = table_of m net is p.place p.table p.listed in
      let none : mark_of at.covers ≡ None =
      single_unmarked (columns_at m.decls (net_places m) p.table) p.table (mark_at (net_places m) p.table) (choice_at (net_places m) p.table) at.covers
      (no_columns p.table) (gate_at p.place p.table p.listed) at.are in
      false≢true (sym (ap is_some none) ∙ (at.has ∙ p.may))

  not_chosen : (n : ℕ) → ChoicePlace m n → ⊥
  not_chosen n p =
      let many = several_outputs p.table p.joint in
      let single = (gate_at p.place p.table p.listed).single in
      omega (arith, many, single)

  table_two : (n : ℕ) (f : FlatNet) → slot net.nets n ≡ Some f → TablePlace m n → IsTwoNet f
  table_two n f e p =
      ⊎_elim (output_two n f e)
      (λ (made : MarkPlace m n ⊎ ChoicePlace m n).
      ⊎_elim (λ (o : MarkPlace m n). absurd (not_marked n o)) (λ (o : ChoicePlace m n). absurd (not_chosen n o)) made)
      p

  pub held_two : (n : ℕ) (f : FlatNet) → slot net.nets n ≡ Some f → IsTwoNet f
  held_two n f e =
      ⊎_elim
      (λ (low : n < length (net_places m)).
      ⊎_elim (open_two n f e) (table_two n f e) (place_at m net is n low))
      (λ (high : length (net_places m) ≤ n). absurd (none-some f (sym (no_slot m net is n high) ∙ e)))
      (cases_lt n (length (net_places m)))

-- ---- the network

-- each of its nets is such
abbrev AreTwo : NetParts → Type 0
AreTwo net = (n : ℕ) (f : FlatNet) → slot net.nets n ≡ Some f → IsTwoNet f

few_values : (o : Option FlatNet) → ((f : FlatNet) → o ≡ Some f → IsTwoNet f) → values_in o ≤ 2
few_values None each = omega arith
few_values (Some f) each = let values = (each f refl).values in omega (arith, values)

held_spelled : (net : NetParts) (n : ℕ) (f : FlatNet) → AreTwo net → slot net.nets n ≡ Some f → spelled_in (slot net.nets n) ≡ two_values
held_spelled net n f two e =
    let h = two n f e in
    ap spelled_in e ∙ ((λ i. spelled_values (h.values i) (h.names i)) ∙ two_spelled)

-- the net at a number has this table
record HasTable (nets : List (Option FlatNet)) (n : ℕ) (c : Cover) : Type 0 where
  net : FlatNet
  held : slot nets n ≡ Some net
  table : net.table ≡ Some c

has_table : (nets : List (Option FlatNet)) (n : ℕ) (c : Cover) (o : Option FlatNet) → slot nets n ≡ o → table_in o ≡ Some c → HasTable nets n c
has_table nets n c None held e = absurd (none-some c e)
has_table nets n c (Some f) held e = record { net = f; held = held; table = e }

table_total : (m : FileModel) (net : NetParts) (n : ℕ) (c : Cover) → IsNetOfModel m net → AreTwo net → table_in (slot net.nets n) ≡ Some c → IsTotal net.nets c
table_total m net n c is two e =
    let h = has_table net.nets n c (slot net.nets n) refl e in
    let f = is.formed.nets n h.net h.held in
    complete_total net.nets h.net.values c f.few (f.cover c h.table) ((two n h.net h.held).choice c h.table).complete

binary : (m : FileModel) (net : NetParts) → IsNetOfModel m net → AreTwo net → IsBinary net
binary m net is two = record {
  few = λ n. few_values (slot net.nets n) (two n);
  inputs = record { each = λ n h. let k = is.formed.inputs.only n h in held_spelled net n.0 k.net two k.held };
  outputs = record { each = λ n h. let k = is.formed.outputs n h in held_spelled net n.0 k.net two k.held };
  latches = record { each = λ n h. let k = is.formed.states.only n h in held_spelled net n.0 k.net two k.held };
  total = λ n c e. table_total m net n c is two e;
}

-- the nets of the network that lines say
lines_two : (lines : List LexLine) (b : FileNetwork) → numbers_ascend (numbers_of lines) ≡ true → IsBlifNetOf lines b → AreTwo b.net
unfolding with_reset_nets
lines_two lines b up h =
    let m = blif_model lines in
    held_two (with_reset_nets m) b.net (net_of_lines lines b up h).is (values_two m.resets)
    (all_gates lines (no-faults lines h.design h.is h.within))

pub networks_binary : (lines : List LexLine) (b : FileNetwork) → numbers_ascend (numbers_of lines) ≡ true → IsBlifNetOf lines b → IsBinary b.net
networks_binary lines b up h = binary (blif_model lines) b.net (net_of_lines lines b up h) (lines_two lines b up h)

pub tables_one : (lines : List LexLine) (b : FileNetwork) → numbers_ascend (numbers_of lines) ≡ true → IsBlifNetOf lines b → (n : ℕ) (c : Cover)
    → table_in (slot b.net.nets n) ≡ Some c → AllowsOne c
tables_one lines b up h n c e =
    let t = has_table b.net.nets n c (slot b.net.nets n) refl e in
    (((lines_two lines b up h) n t.net t.held).choice c t.table).one
