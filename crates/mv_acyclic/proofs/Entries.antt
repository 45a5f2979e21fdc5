-- The nets of a model by number, each with the nets that its table has as columns.
use Rattle.std.proofs.Common.{◌≡◌, ℕ, ◌+◌, Bool, false, ◌||◌, ◌&&◌, List, [], ◌∷◌, ◌++◌, length, map, replicate, refl, sym, ◌∙◌, ap}
use Rattle.std.specs.List.{list_any, flat_map}
use Rattle.std.proofs.lemmas.List.{append_assoc, length-append, length-map, map-append}
use Rattle.std.proofs.Math.Bool.{and-false, and-or_distrib_right}
use Rattle.std.proofs.lemmas.List.Folds.{list_any-append}
use Rattle.mv_base.specs.Names.{same_word, among}
use Rattle.mv_base.specs.declared.number.NetId.{NetId}
use Rattle.mv_design.specs.declared.design.FileModel.{FileModel}
use Rattle.mv_design.specs.declared.table.FileTable.{FileTable}
use Rattle.mv_design.specs.Nets.{nets_driven, latch_outputs, drivers}
use Rattle.mv_acyclic.specs.Numbers.{numbers_in}
use Rattle.mv_acyclic.specs.Columns.{driven_columns, table_columns, columns_by_net}
use Rattle.mv_acyclic.specs.Sound.{reads_through, reads}

-- a net, and the nets that its table has as columns
pub record Entry : Type 0 where
  pub name : List ℕ
  pub above : List (List ℕ)

abbrev pub name_of : Entry → List ℕ
name_of e = e.name

abbrev bare : List ℕ → Entry
bare w = record { name = w; above = [] }

abbrev read_by : List (List ℕ) → List ℕ → Entry
read_by ins w = record { name = w; above = ins }

abbrev table_entries : FileTable → List Entry
table_entries t = map (read_by t.inputs) t.outputs

-- the nets that no table drives: the inputs, and then the outputs of the latches
abbrev open_nets : FileModel → List (List ℕ)
open_nets m = m.inputs ++ latch_outputs m

-- the nets of a model by number
unfoldable pub entries : FileModel → List Entry
entries m = map bare (open_nets m) ++ flat_map table_entries m.tables

-- the columns of an entry by number
abbrev pub columns_in : List (List ℕ) → Entry → List NetId
columns_in names e = numbers_in names e.above

-- an entry is of the net `net`, and has a column `above`
abbrev pub entry_reads : List ℕ → List ℕ → Entry → Bool
entry_reads net above e = same_word net e.name && among above e.above

-- ---- their names are the drivers of the model

names_bare : (ws : List (List ℕ)) → map name_of (map bare ws) ≡ ws
names_bare [] = refl
names_bare (w ∷ ws) = ap (λ us. w ∷ us) (names_bare ws)

names_read : (ins ws : List (List ℕ)) → map name_of (map (read_by ins) ws) ≡ ws
names_read ins [] = refl
names_read ins (w ∷ ws) = ap (λ us. w ∷ us) (names_read ins ws)

names_tables : (ts : List FileTable) → map name_of (flat_map table_entries ts) ≡ flat_map nets_driven ts
names_tables [] = refl
names_tables (t ∷ ts) =
    map-append name_of (table_entries t) (flat_map table_entries ts)
    ∙ (ap (λ us. us ++ map name_of (flat_map table_entries ts)) (names_read t.inputs t.outputs)
    ∙ ap (λ us. t.outputs ++ us) (names_tables ts))

pub names_are : (m : FileModel) → map name_of (entries m) ≡ drivers m
unfolding entries drivers
names_are m =
    map-append name_of (map bare (open_nets m)) (flat_map table_entries m.tables)
    ∙ (ap (λ us. us ++ map name_of (flat_map table_entries m.tables)) (names_bare (open_nets m))
    ∙ (ap (λ us. open_nets m ++ us) (names_tables m.tables) ∙ append_assoc m.inputs (latch_outputs m) (flat_map nets_driven m.tables)))

-- ---- they read what the tables read

reads_bare : (net above : List ℕ) (ws : List (List ℕ)) → list_any (entry_reads net above) (map bare ws) ≡ false
reads_bare net above [] = refl
reads_bare net above (w ∷ ws) = rw (and-false (same_word net w)) (reads_bare net above ws)

reads_read : (net above : List ℕ) (ins ws : List (List ℕ)) → list_any (entry_reads net above) (map (read_by ins) ws) ≡ (among net ws && among above ins)
reads_read net above ins [] = refl
reads_read net above ins (w ∷ ws) =
    ap (λ b. (same_word net w && among above ins) || b) (reads_read net above ins ws)
    ∙ sym (and-or_distrib_right (same_word net w) (among net ws) (among above ins))

reads_tables : (net above : List ℕ) (ts : List FileTable) → list_any (entry_reads net above) (flat_map table_entries ts) ≡ list_any (reads_through net above) ts
reads_tables net above [] = refl
reads_tables net above (t ∷ ts) =
    list_any-append (entry_reads net above) (table_entries t) (flat_map table_entries ts)
    ∙ (ap (λ b. b || list_any (entry_reads net above) (flat_map table_entries ts)) (reads_read net above t.inputs t.outputs)
    ∙ ap (λ b. reads_through net above t || b) (reads_tables net above ts))

pub reads_are : (m : FileModel) (net above : List ℕ) → list_any (entry_reads net above) (entries m) ≡ reads m net above
unfolding entries reads
reads_are m net above =
    list_any-append (entry_reads net above) (map bare (open_nets m)) (flat_map table_entries m.tables)
    ∙ (ap (λ b. b || list_any (entry_reads net above) (flat_map table_entries m.tables)) (reads_bare net above (open_nets m))
    ∙ reads_tables net above m.tables)

-- ---- their columns are those of the model's nets

columns_bare : (names ws : List (List ℕ)) → map (columns_in names) (map bare ws) ≡ replicate (length ws) []
columns_bare names [] = refl
columns_bare names (w ∷ ws) = ap (λ ns. [] ∷ ns) (columns_bare names ws)

-- how many nets no table drives
open_count : (m : FileModel) → length (open_nets m) ≡ length m.inputs + length m.latches
open_count m = length-append m.inputs (latch_outputs m) ∙ ap (λ n. length m.inputs + n) (length-map m.latches (λ l. l.output))

columns_read : (names : List (List ℕ)) (t : FileTable) (ws : List (List ℕ))
    → map (columns_in names) (map (read_by t.inputs) ws) ≡ map (driven_columns names t) ws
columns_read names t [] = refl
columns_read names t (w ∷ ws) = ap (λ ns. numbers_in names t.inputs ∷ ns) (columns_read names t ws)

columns_tables : (names : List (List ℕ)) (ts : List FileTable) → map (columns_in names) (flat_map table_entries ts) ≡ flat_map (table_columns names) ts
columns_tables names [] = refl
columns_tables names (t ∷ ts) =
    map-append (columns_in names) (table_entries t) (flat_map table_entries ts)
    ∙ (ap (λ ns. ns ++ map (columns_in names) (flat_map table_entries ts)) (columns_read names t t.outputs)
    ∙ ap (λ ns. table_columns names t ++ ns) (columns_tables names ts))

pub columns_are : (names : List (List ℕ)) (m : FileModel) → map (columns_in names) (entries m) ≡ columns_by_net names m
unfolding entries
columns_are names m =
    map-append (columns_in names) (map bare (open_nets m)) (flat_map table_entries m.tables)
    ∙ (ap (λ ns. ns ++ map (columns_in names) (flat_map table_entries m.tables)) (columns_bare names (open_nets m))
    ∙ (ap (λ n. replicate n [] ++ map (columns_in names) (flat_map table_entries m.tables)) (open_count m)
    ∙ ap (λ ns. replicate (length m.inputs + length m.latches) [] ++ ns) (columns_tables names m.tables)))
