-- What stands at each number of a model's network: a net without a table, the output of a table, or a net that is made for one.
use Rattle.std.proofs.Common.{◌≡◌, ◌⊎◌, ℕ, zero, suc, ◌+◌, ◌<◌, ◌≤◌, Bool, true, false, List, [], ◌∷◌, ◌++◌, length, map, get_or, Option, Some, None, refl, sym, ◌∙◌, ap, subst, arith, ⊎_elim, inl, inr, All}
use Rattle.std.specs.Prelude.{if◌then◌else◌}
use Rattle.std.specs.List.{flat_map, slice_get}
use Rattle.std.proofs.lemmas.Bool.{false≢true, or_cases}
use Rattle.std.proofs.lemmas.List.{append_assoc, get_or_past, get_or-append-add, length-append, length-map}
use Rattle.std.proofs.lemmas.List.Elements.{All-get_or}
use Rattle.std.proofs.lemmas.Option.{none-some, same_Some, slice_get_within, slice_get-get_or, get_or_from_slice_get}
use Rattle.mv_base.specs.Names.{same_word, among, is_net_name, IsDistinct}
use Rattle.mv_base.proofs.NameLemmas.{same_word_is, among-at, IsPlace-from_among}
use Rattle.mv_cover.specs.declared.cover.Cover.{Cover}
use Rattle.mv_design.specs.declared.design.Decl.{Decl}
use Rattle.mv_design.specs.declared.design.FileModel.{FileModel}
use Rattle.mv_design.specs.declared.table.FileTable.{FileTable}
use Rattle.mv_net.specs.declared.parts.FlatNet.{FlatNet}
use Rattle.mv_net.specs.declared.parts.NetParts.{NetParts}
use Rattle.mv_net.specs.declared.parts.Kind.{Kind}
use Rattle.mv_net.specs.declared.parts.Kind.TheVariants.{Input, Latch, Table, Reset}
use Rattle.mv_net.specs.Nets.{slot}
use Rattle.mv_design.specs.Nets.{drivers, latch_outputs, nets_driven, nets_named, output_of}
use Rattle.mv_flat.specs.Places.{net_places, marks_of, choices_of, made_places, table_places, has_mark, is_joint}
use Rattle.mv_acyclic.specs.Numbers.{number_in}
use Rattle.mv_resets.specs.NetModels.{IsNetModel, IsNetTable}
use Rattle.mv_flat.specs.Numbers.{mark_name, mark_at, choice_name, choice_at}
use Rattle.mv_flat.specs.Built.{file_net, kind_of, open_nets, IsBuilt}
use Rattle.mv_base.proofs.Lists.{get_front}
use Rattle.mv_acyclic.proofs.Listed.{number_at}
use Rattle.mv_flat.proofs.Numbered.{number_of_name, mark_number, choice_number}
use Rattle.mv_flat.specs.Placed.{IsPlacedTable}
use Rattle.mv_acyclic.proofs.Soundness.{in_left, in_either}
use Rattle.mv_flat.proofs.Lawful.{open_names, open_of, drivers_split, IsOpen, open_kind, kind_open, open_lawful, lawful_kind}
use Rattle.mv_flat.proofs.Distinct.{places_split, driver_is_place}
use Rattle.mv_acyclic.proofs.Commands.{column_named}
use Rattle.mv_flat.proofs.Known.{tables_known}
use Rattle.mv_flat.proofs.Blocks.{blocks_size, block_at}
use Rattle.mv_flat.proofs.Slots.{IsTableAt, table_at, get_behind, cover_at}

-- a model of which each reset value has a net, with its network, whose names by number are distinct, as its drivers are, and
-- each of whose nets is driven
pub record IsModelNet (m : FileModel) (net : NetParts) : Type 0 where
  pub proper : IsNetModel m
  pub distinct : IsDistinct (net_places m)
  pub once : IsDistinct (drivers m)
  pub driven : (w : List ℕ) → among w (nets_named m) ≡ true → among w (drivers m) ≡ true
  pub built : IsBuilt m net

-- ---- the tables

pub file_table : (m : FileModel) (net : NetParts) → IsModelNet m net → (k : ℕ) (t : FileTable) → slice_get m.tables k ≡ Some t → IsNetTable m.decls t
file_table m net is k t e =
    let P : FileTable → Type 0 = IsNetTable m.decls in
    subst P (get_or_from_slice_get m.tables k t t e) (All-get_or P m.tables k t (slice_get_within m.tables k t e) is.proper.tables)

-- the columns of each table have numbers
placed_tables : (m : FileModel) (net : NetParts) → IsModelNet m net → All (IsPlacedTable m.decls (net_places m)) m.tables
placed_tables m net is = tables_known m.decls (net_places m) m.tables is.proper.tables (λ w h. driver_is_place m is.proper w (is.driven w (column_named m w h)))

-- as many nets without a table as names
open_size : (m : FileModel) → length (open_nets m) ≡ length (open_names m)
open_size m =
    let inputs : List (Option FlatNet) = map (file_net m.decls Input None) m.inputs in
    let states : List (Option FlatNet) = map (file_net m.decls Latch None) (latch_outputs m) in
    length-append inputs states
    ∙ ((λ i. length-map m.inputs (file_net m.decls Input None) i + length-map (latch_outputs m) (file_net m.decls Latch None) i)
    ∙ sym (length-append m.inputs (latch_outputs m)))

-- what stands at the numbers of each table
pub table_of : (m : FileModel) (net : NetParts) → IsModelNet m net → (k : ℕ) (t : FileTable) → slice_get m.tables k ≡ Some t → IsTableAt m.decls (net_places m) net.nets t
table_of m net is k t e =
    table_at m.decls (net_places m) net.nets t is.proper.decls is.distinct
    (block_at m.decls (net_places m) is.proper.decls net.nets (open_names m) (open_nets m) m.tables (drivers m) is.built.of_tables (placed_tables m net is)
    is.built.are_tables (places_split m) is.built.nets_are (open_size m) k t e)

-- as many nets as names
pub nets_size : (m : FileModel) (net : NetParts) → IsModelNet m net → length net.nets ≡ length (net_places m)
nets_size m net is =
    ap length is.built.nets_are
    ∙ (length-append (open_nets m) is.built.of_tables
    ∙ ((λ i.
    open_size m i + blocks_size m.decls (net_places m) is.proper.decls (drivers m) m.tables is.built.of_tables (placed_tables m net is) is.built.are_tables i)
    ∙ sym (ap length (places_split m) ∙ length-append (open_names m) (flat_map (table_places m.decls) m.tables))))

-- ---- the nets without a table

slot_left : (f : List ℕ → Option FlatNet) (ws : List (List ℕ)) (fs : List (Option FlatNet)) (k : ℕ) (w : List ℕ) → slice_get ws k ≡ Some w → slot (map f ws ++ fs) k ≡ f w
slot_left f [] fs k w e = absurd (none-some w e)
slot_left f (u ∷ us) fs zero w e = ap f (same_Some u w e)
slot_left f (u ∷ us) fs (suc k) w e = slot_left f us fs k w e

-- names and their nets, between as many others
between : (f : List ℕ → Option FlatNet) (names front ws rest : List (List ℕ)) (nets before behind : List (Option FlatNet)) → IsDistinct names
    → names ≡ front ++ (ws ++ rest) → nets ≡ before ++ (map f ws ++ behind) → length before ≡ length front → (w : List ℕ) → among w ws ≡ true
    → slot nets (number_in names w) ≡ f w
between f names front ws rest nets before behind distinct names_are nets_are level w h =
    let p = IsPlace-from_among w ws h in
    let listed : slice_get names (length before + p.0) ≡ Some w =
    ap (λ ns. slice_get ns (length before + p.0)) names_are
    ∙ (get_behind front (ws ++ rest) (length before + p.0) p.0 (omega arith) ∙ (get_front ws rest p.0 p.1.within ∙ p.1.found)) in
    ap (slot nets) (number_at names (length before + p.0) w distinct listed)
    ∙ (ap (λ ns. slot ns (length before + p.0)) nets_are ∙ (get_or-append-add before (map f ws ++ behind) p.0 None ∙ slot_left f ws behind p.0 w p.1.found))

pub open_slot : (m : FileModel) (net : NetParts) → IsModelNet m net → (kind : Kind) (w : List ℕ) → among w (open_of m kind) ≡ true
    → slot net.nets (number_in (net_places m) w) ≡ file_net m.decls kind None w
unfolding net_places
open_slot m net is Input w h =
    let states : List (Option FlatNet) = map (file_net m.decls Latch None) (latch_outputs m) in
    between (file_net m.decls Input None) (net_places m) [] m.inputs (latch_outputs m ++ flat_map (table_places m.decls) m.tables) net.nets []
    (states ++ is.built.of_tables) is.distinct refl
    (is.built.nets_are ∙ append_assoc (map (file_net m.decls Input None) m.inputs) states is.built.of_tables) refl w h
open_slot m net is Latch w h =
    let inputs : List (Option FlatNet) = map (file_net m.decls Input None) m.inputs in
    between (file_net m.decls Latch None) (net_places m) m.inputs (latch_outputs m) (flat_map (table_places m.decls) m.tables) net.nets inputs
    is.built.of_tables is.distinct refl
    (is.built.nets_are ∙ append_assoc inputs (map (file_net m.decls Latch None) (latch_outputs m)) is.built.of_tables)
    (length-map m.inputs (file_net m.decls Input None)) w h
open_slot m net is Table w h = absurd (false≢true h)
open_slot m net is Reset w h = absurd (false≢true h)

-- ---- names of tables' nets

-- the name is that of a table's output
pub record IsTableOutput (ts : List FileTable) (w : List ℕ) : Type 0 where
  pub place : ℕ
  pub table : FileTable
  pub listed : slice_get ts place ≡ Some table
  pub among_them : among w table.outputs ≡ true

-- or of the mark that the table gets
pub record IsMarked (ds : List Decl) (ts : List FileTable) (w : List ℕ) : Type 0 where
  pub place : ℕ
  pub table : FileTable
  pub listed : slice_get ts place ≡ Some table
  pub may : has_mark ds table ≡ true
  pub is : w ≡ mark_name (output_of table)

-- or of its choice net
pub record IsChosen (ts : List FileTable) (w : List ℕ) : Type 0 where
  pub place : ℕ
  pub table : FileTable
  pub listed : slice_get ts place ≡ Some table
  pub joint : is_joint table ≡ true
  pub is : w ≡ choice_name (output_of table)

output_later : (t : FileTable) (ts : List FileTable) (w : List ℕ) → IsTableOutput ts w → IsTableOutput (t ∷ ts) w
output_later t ts w o = record { place = suc o.place; table = o.table; listed = o.listed; among_them = o.among_them }

pub outputs_in : (ts : List FileTable) (w : List ℕ) → among w (flat_map nets_driven ts) ≡ true → IsTableOutput ts w
outputs_in [] w h = absurd (false≢true h)
outputs_in (t ∷ ts) w h =
    ⊎_elim (λ (y : among w t.outputs ≡ true). record { place = 0; table = t; listed = refl; among_them = y })
    (λ (y : among w (flat_map nets_driven ts) ≡ true). output_later t ts w (outputs_in ts w y)) (in_either w t.outputs (flat_map nets_driven ts) h)

-- the name is that of a net of a table
abbrev pub IsTableName : List Decl → List FileTable → List ℕ → Type 0
IsTableName ds ts w = IsTableOutput ts w ⊎ (IsMarked ds ts w ⊎ IsChosen ts w)

name_later : (ds : List Decl) (t : FileTable) (ts : List FileTable) (w : List ℕ) → IsTableName ds ts w → IsTableName ds (t ∷ ts) w
name_later ds t ts w n =
    ⊎_elim (λ (o : IsTableOutput ts w). inl (output_later t ts w o))
    (λ (made : IsMarked ds ts w ⊎ IsChosen ts w).
    ⊎_elim
    (λ (o : IsMarked ds ts w).
    let later : IsMarked ds (t ∷ ts) w = record { place = suc o.place; table = o.table; listed = o.listed; may = o.may; is = o.is } in
    inr (inl later))
    (λ (o : IsChosen ts w).
    let later : IsChosen (t ∷ ts) w = record { place = suc o.place; table = o.table; listed = o.listed; joint = o.joint; is = o.is } in
    inr (inr later))
    made)
    n

made_in : (b : Bool) (w u : List ℕ) → among w (if b then u ∷ [] else []) ≡ true → (b ≡ true) × (w ≡ u)
made_in true w u h =
    (refl, ⊎_elim (λ (y : same_word w u ≡ true). same_word_is w u y) (λ (n : false ≡ true). absurd (false≢true n)) (or_cases (same_word w u) false h))
made_in false w u h = absurd (false≢true h)

name_here : (ds : List Decl) (t : FileTable) (ts : List FileTable) (w : List ℕ) → among w (table_places ds t) ≡ true → IsTableName ds (t ∷ ts) w
name_here ds t ts w h =
    ⊎_elim
    (λ (made : among w (made_places ds t) ≡ true).
    ⊎_elim
    (λ (y : among w (marks_of ds t) ≡ true).
    let q = made_in (has_mark ds t) w (mark_name (output_of t)) y in
    let o : IsMarked ds (t ∷ ts) w = record { place = 0; table = t; listed = refl; may = q.0; is = q.1 } in
    inr (inl o))
    (λ (y : among w (choices_of t) ≡ true).
    let q = made_in (is_joint t) w (choice_name (output_of t)) y in
    let o : IsChosen (t ∷ ts) w = record { place = 0; table = t; listed = refl; joint = q.0; is = q.1 } in
    inr (inr o))
    (in_either w (marks_of ds t) (choices_of t) made))
    (λ (y : among w t.outputs ≡ true).
    let o : IsTableOutput (t ∷ ts) w = record { place = 0; table = t; listed = refl; among_them = y } in
    inl o)
    (in_either w (made_places ds t) t.outputs h)

places_in : (ds : List Decl) (ts : List FileTable) (w : List ℕ) → among w (flat_map (table_places ds) ts) ≡ true → IsTableName ds ts w
places_in ds [] w h = absurd (false≢true h)
places_in ds (t ∷ ts) w h =
    ⊎_elim (λ (y : among w (table_places ds t) ≡ true). name_here ds t ts w y)
    (λ (y : among w (flat_map (table_places ds) ts) ≡ true). name_later ds t ts w (places_in ds ts w y))
    (in_either w (table_places ds t) (flat_map (table_places ds) ts) h)

-- ---- what stands at a number

pub record OpenPlace (m : FileModel) (n : ℕ) : Type 0 where
  pub kind : Kind
  pub name : List ℕ
  pub listed : among name (open_of m kind) ≡ true
  pub number : n ≡ number_in (net_places m) name

pub record OutputPlace (m : FileModel) (n : ℕ) : Type 0 where
  pub place : ℕ
  pub table : FileTable
  pub listed : slice_get m.tables place ≡ Some table
  pub index : ℕ
  pub name : List ℕ
  pub output : slice_get table.outputs index ≡ Some name
  pub number : n ≡ number_in (net_places m) name

pub record MarkPlace (m : FileModel) (n : ℕ) : Type 0 where
  pub place : ℕ
  pub table : FileTable
  pub listed : slice_get m.tables place ≡ Some table
  pub may : has_mark m.decls table ≡ true
  pub number : n ≡ (mark_at (net_places m) table).0

pub record ChoicePlace (m : FileModel) (n : ℕ) : Type 0 where
  pub place : ℕ
  pub table : FileTable
  pub listed : slice_get m.tables place ≡ Some table
  pub joint : is_joint table ≡ true
  pub number : n ≡ (choice_at (net_places m) table).0

-- the number is that of a table's output, its mark or its choice net
abbrev pub TablePlace : FileModel → ℕ → Type 0
TablePlace m n = OutputPlace m n ⊎ (MarkPlace m n ⊎ ChoicePlace m n)

open_place : (m : FileModel) (w : List ℕ) → IsOpen m w → OpenPlace m (number_in (net_places m) w)
open_place m w o = record { kind = o.kind; name = w; listed = o.listed; number = refl }

output_place : (m : FileModel) (w : List ℕ) → IsTableOutput m.tables w → OutputPlace m (number_in (net_places m) w)
output_place m w o =
    let p = IsPlace-from_among w o.table.outputs o.among_them in
    record { place = o.place; table = o.table; listed = o.listed; index = p.0; name = w; output = p.1.found; number = refl }

mark_place : (m : FileModel) (net : NetParts) → IsModelNet m net → (w : List ℕ) → IsMarked m.decls m.tables w → MarkPlace m (number_in (net_places m) w)
mark_place m net is w o = record {
  place = o.place;
  table = o.table;
  listed = o.listed;
  may = o.may;
  number = ap (number_in (net_places m)) o.is ∙ sym (mark_number (net_places m) o.table ((table_of m net is o.place o.table o.listed).marked o.may));
}

choice_place : (m : FileModel) (net : NetParts) → IsModelNet m net → (w : List ℕ) → IsChosen m.tables w → ChoicePlace m (number_in (net_places m) w)
choice_place m net is w o = record {
  place = o.place;
  table = o.table;
  listed = o.listed;
  joint = o.joint;
  number = ap (number_in (net_places m)) o.is ∙ sym (choice_number (net_places m) o.table ((table_of m net is o.place o.table o.listed).chosen o.joint));
}

table_place : (m : FileModel) (net : NetParts) → IsModelNet m net → (w : List ℕ) → IsTableName m.decls m.tables w → TablePlace m (number_in (net_places m) w)
table_place m net is w n =
    ⊎_elim (λ (o : IsTableOutput m.tables w). inl (output_place m w o))
    (λ (made : IsMarked m.decls m.tables w ⊎ IsChosen m.tables w).
    ⊎_elim (λ (o : IsMarked m.decls m.tables w). inr (inl (mark_place m net is w o))) (λ (o : IsChosen m.tables w). inr (inr (choice_place m net is w o))) made)
    n

named_place : (m : FileModel) (net : NetParts) → IsModelNet m net → (w : List ℕ) → among w (net_places m) ≡ true
    → OpenPlace m (number_in (net_places m) w) ⊎ TablePlace m (number_in (net_places m) w)
named_place m net is w h =
    ⊎_elim (λ (y : among w (open_names m) ≡ true). inl (open_place m w (open_kind m w y)))
    (λ (y : among w (flat_map (table_places m.decls) m.tables) ≡ true). inr (table_place m net is w (places_in m.decls m.tables w y)))
    (in_either w (open_names m) (flat_map (table_places m.decls) m.tables) (ap (among w) (sym (places_split m)) ∙ h))

-- each number within the names is that of a net without a table, or of one of a table's
pub place_at : (m : FileModel) (net : NetParts) → IsModelNet m net → (n : ℕ) → n < length (net_places m) → OpenPlace m n ⊎ TablePlace m n
place_at m net is n low =
    let w : List ℕ = get_or (net_places m) n [] in
    let P : ℕ → Type 0 = λ k. OpenPlace m k ⊎ TablePlace m k in
    subst P (sym (number_of_name (net_places m) n is.distinct low)) (named_place m net is w (among-at (net_places m) n w (slice_get-get_or (net_places m) n [] low)))

-- and no net stands at another
pub no_slot : (m : FileModel) (net : NetParts) → IsModelNet m net → (n : ℕ) → length (net_places m) ≤ n → slot net.nets n ≡ None
no_slot m net is n high = get_or_past net.nets n None (let size = nets_size m net is in omega arith)

-- ---- driven nets

-- a driven net has no table, or is the output of one
driven_by : (m : FileModel) (w : List ℕ) → among w (drivers m) ≡ true → IsOpen m w ⊎ IsTableOutput m.tables w
driven_by m w h =
    ⊎_elim (λ (y : among w (open_names m) ≡ true). inl (open_kind m w y))
    (λ (y : among w (flat_map nets_driven m.tables) ≡ true). inr (outputs_in m.tables w y))
    (in_either w (open_names m) (flat_map nets_driven m.tables) (ap (among w) (sym (drivers_split m)) ∙ h))

-- a net of the model with a place; it can be read, where its name is one of a file, and is a reset net where it is named so
pub record IsFileNet (m : FileModel) (nets : List (Option FlatNet)) (w : List ℕ) : Type 0 where
  pub kind : Kind
  pub table : Option Cover
  pub listed : among w (net_places m) ≡ true
  pub held : slot nets (number_in (net_places m) w) ≡ file_net m.decls kind table w
  pub plain : is_net_name w ≡ true → kind ≡ Reset → ⊥
  pub reset : kind_of w ≡ Reset → kind ≡ Reset

open_file : (m : FileModel) (net : NetParts) → IsModelNet m net → (w : List ℕ) → IsOpen m w → IsFileNet m net.nets w
open_file m net is w o = record {
  kind = o.kind;
  table = None;
  listed = ap (among w) (places_split m) ∙ in_left w (open_names m) (flat_map (table_places m.decls) m.tables) (kind_open m o.kind w o.listed);
  held = open_slot m net is o.kind w o.listed;
  plain = λ lawful e. false≢true (ap (λ k. among w (open_of m k)) (sym e) ∙ o.listed);
  reset = λ e. let other : Table ≡ Reset = sym (lawful_kind w (open_lawful m is.proper w (kind_open m o.kind w o.listed))) ∙ e in cc;
}

output_file : (m : FileModel) (net : NetParts) → IsModelNet m net → (w : List ℕ) → IsTableOutput m.tables w → IsFileNet m net.nets w
output_file m net is w o =
    let at = table_of m net is o.place o.table o.listed in
    let p = IsPlace-from_among w o.table.outputs o.among_them in
    let c = cover_at m.decls (net_places m) net.nets o.table at p.0 w p.1.found in
    record {
      kind = kind_of w;
      table = Some c.cover;
      listed = at.listed w o.among_them;
      held = at.output p.0 w c.cover p.1.found c.at;
      plain = λ lawful x. let other : Table ≡ Reset = sym (lawful_kind w lawful) ∙ x in cc;
      reset = λ x. x;
    }

pub driven_file : (m : FileModel) (net : NetParts) → IsModelNet m net → (w : List ℕ) → among w (drivers m) ≡ true → IsFileNet m net.nets w
driven_file m net is w h =
    ⊎_elim (λ (o : IsOpen m w). open_file m net is w o)
    (λ (o : IsTableOutput m.tables w). output_file m net is w o)
    (driven_by m w h)

-- so is each net that the model names
pub named_file : (m : FileModel) (net : NetParts) → IsModelNet m net → (w : List ℕ) → among w (nets_named m) ≡ true → IsFileNet m net.nets w
named_file m net is w h = driven_file m net is w (is.driven w h)
