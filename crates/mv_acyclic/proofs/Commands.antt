-- What the commands of a model name: each of its nets is an input or an output of the model, a column of a table or of a reset
-- table, or what a latch reads or drives.
use Rattle.std.proofs.Common.{◌≡◌, ℕ, suc, zero, Bool, true, false, ◌||◌, List, [], ◌∷◌, ◌++◌, map, Some, refl, sym, ◌∙◌, ap, ⊎_elim}
use Rattle.std.specs.List.{list_any, flat_map, slice_get, Contains}
use Rattle.std.proofs.lemmas.Bool.{false≢true, and_parts, or_cases, or_left, or_right}
use Rattle.std.proofs.lemmas.Option.{none-some, same_Some, slice_get-get_or}
use Rattle.mv_base.specs.Names.{same_word, among}
use Rattle.mv_base.proofs.NameLemmas.{among-append}
use Rattle.mv_design.specs.declared.design.FileLatch.{FileLatch}
use Rattle.mv_design.specs.declared.design.FileModel.{FileModel}
use Rattle.mv_design.specs.declared.table.FileTable.{FileTable}
use Rattle.mv_design.specs.Nets.{Naming, columns_of, drivers, latch_inputs, latch_naming, latch_outputs, namings, nets_driven, nets_named, nets_of}
use Rattle.mv_design.specs.Nets.{table_naming}
use Rattle.mv_acyclic.specs.Sound.{reads_through, reads}
use Rattle.mv_design.proofs.ByLine.{any-by_line}
use Rattle.mv_acyclic.proofs.Named.{among-nets_of}
use Rattle.mv_acyclic.proofs.Soundness.{in_left, in_right, in_either}

abbrev latch_nets : FileLatch → List (List ℕ)
latch_nets l = l.input ∷ l.output ∷ []

-- ---- the names of commands

abbrev names : List ℕ → Naming → Bool
names w n = among w n.nets

among_named : (w : List ℕ) (ns : List Naming) → among w (flat_map (λ x. x.nets) ns) ≡ list_any (names w) ns
among_named w [] = refl
among_named w (n ∷ ns) = among-append w n.nets (flat_map (λ x. x.nets) ns) ∙ ap (λ b. among w n.nets || b) (among_named w ns)

named_by : {X : Type 0} (naming : X → Naming) (w : List ℕ) (xs : List X) → list_any (names w) (map naming xs) ≡ among w (flat_map (λ x. (naming x).nets) xs)
named_by naming w [] = refl
named_by naming w (x ∷ xs) =
    ap (λ b. among w (naming x).nets || b) (named_by naming w xs) ∙ sym (among-append w (naming x).nets (flat_map (λ y. (naming y).nets) xs))

swapped : (a b c d : Bool) → (a || (b || (c || d))) ≡ ((a || c) || (b || d))
swapped true b c d = refl
swapped false true true d = refl
swapped false true false d = refl
swapped false false c d = refl

latches_name : (w : List ℕ) (ls : List FileLatch) → among w (flat_map latch_nets ls) ≡ (among w (map (λ l. l.input) ls) || among w (map (λ l. l.output) ls))
latches_name w [] = refl
latches_name w (l ∷ ls) =
    ap (λ b. same_word w l.input || (same_word w l.output || b)) (latches_name w ls) ∙ swapped (same_word w l.input) (same_word w l.output) _ _

-- commands name what latches, reset tables and tables name
among_namings : (w : List ℕ) (m : FileModel)
    → among w (flat_map (λ x. x.nets) (namings m))
    ≡ ((among w (latch_inputs m) || among w (latch_outputs m)) || (among w (flat_map columns_of m.resets) || among w (flat_map columns_of m.tables)))
unfolding namings
among_namings w m =
    let line : Naming → ℕ = λ n. n.line in
    let latches = map latch_naming m.latches in
    let resets = map table_naming m.resets in
    let tables = map table_naming m.tables in
    among_named w (namings m)
    ∙ (any-by_line line (names w) latches _
    ∙ (ap (λ b. list_any (names w) latches || b) (any-by_line line (names w) resets tables)
    ∙ rw (named_by latch_naming w m.latches, named_by table_naming w m.resets, named_by table_naming w m.tables, latches_name w m.latches) refl))

-- what a model names, in no order
pub among-nets_named : (w : List ℕ) (m : FileModel)
    → among w (nets_named m)
    ≡ (among w m.inputs || (among w m.outputs || ((among w (latch_inputs m) || among w (latch_outputs m)) || (among w (flat_map columns_of m.resets) || among w (flat_map columns_of m.tables)))))
unfolding nets_named
among-nets_named w m =
    among-append w m.inputs _
    ∙ ap (λ b. among w m.inputs || b) (among-append w m.outputs _ ∙ ap (λ b. among w m.outputs || b) (among_namings w m))

-- an input of the model
pub input_named : (m : FileModel) (w : List ℕ) → among w m.inputs ≡ true → among w (nets_named m) ≡ true
input_named m w e = among-nets_named w m ∙ or_left _ _ e

-- an output of the model
pub output_named : (m : FileModel) (w : List ℕ) → among w m.outputs ≡ true → among w (nets_named m) ≡ true
output_named m w e = among-nets_named w m ∙ or_right (among w m.inputs) _ (or_left _ _ e)

command_named : (m : FileModel) (w : List ℕ)
    → ((among w (latch_inputs m) || among w (latch_outputs m)) || (among w (flat_map columns_of m.resets) || among w (flat_map columns_of m.tables))) ≡ true
    → among w (nets_named m) ≡ true
command_named m w e = among-nets_named w m ∙ or_right (among w m.inputs) _ (or_right (among w m.outputs) _ e)

-- what a latch reads
pub latch_input_named : (m : FileModel) (w : List ℕ) → among w (latch_inputs m) ≡ true → among w (nets_named m) ≡ true
latch_input_named m w e = command_named m w (or_left _ _ (or_left _ _ e))

-- what a latch drives
pub latch_output_named : (m : FileModel) (w : List ℕ) → among w (latch_outputs m) ≡ true → among w (nets_named m) ≡ true
latch_output_named m w e = command_named m w (or_left _ _ (or_right (among w (latch_inputs m)) _ e))

table_named : (m : FileModel) (w : List ℕ) → (among w (flat_map columns_of m.resets) || among w (flat_map columns_of m.tables)) ≡ true
    → among w (nets_named m) ≡ true
table_named m w e = command_named m w (or_right (among w (latch_inputs m) || among w (latch_outputs m)) _ e)

-- a column of a reset table
pub reset_column_named : (m : FileModel) (w : List ℕ) → among w (flat_map columns_of m.resets) ≡ true → among w (nets_named m) ≡ true
reset_column_named m w e = table_named m w (or_left _ _ e)

-- a column of a table
pub column_named : (m : FileModel) (w : List ℕ) → among w (flat_map columns_of m.tables) ≡ true → among w (nets_named m) ≡ true
column_named m w e = table_named m w (or_right (among w (flat_map columns_of m.resets)) _ e)

columns_at : {X : Type 0} (f : X → List (List ℕ)) (xs : List X) (k : ℕ) (x : X) (w : List ℕ) → slice_get xs k ≡ Some x → among w (f x) ≡ true
    → among w (flat_map f xs) ≡ true
columns_at f [] k x w e h = absurd (none-some x e)
columns_at f (y ∷ ys) zero x w e h = in_left w (f y) _ (ap (λ z. among w (f z)) (same_Some y x e) ∙ h)
columns_at f (y ∷ ys) (suc k) x w e h = in_right w (f y) _ (columns_at f ys k x w e h)

-- a column of one reset table
pub reset_named : (m : FileModel) (reset : FileTable) (w : List ℕ) → Contains m.resets reset → among w (columns_of reset) ≡ true → among w (nets_named m) ≡ true
reset_named m reset w c h = reset_column_named m w (columns_at columns_of m.resets c.0 reset w (slice_get-get_or m.resets c.0 reset c.1 ∙ ap Some c.2) h)

-- ---- the nets of a model

-- what is named is a net
pub named_is_net : (m : FileModel) (w : List ℕ) → among w (nets_named m) ≡ true → among w (nets_of m) ≡ true
named_is_net m w e = among-nets_of w m ∙ e

outputs_are_columns : (w : List ℕ) (ts : List FileTable) → among w (flat_map nets_driven ts) ≡ true → among w (flat_map columns_of ts) ≡ true
outputs_are_columns w [] e = e
outputs_are_columns w (t ∷ ts) e =
    ⊎_elim (λ (h : among w t.outputs ≡ true). in_left w (columns_of t) _ (in_right w t.inputs t.outputs h))
    (λ (h : among w (flat_map nets_driven ts) ≡ true). in_right w (columns_of t) _ (outputs_are_columns w ts h))
    (in_either w t.outputs (flat_map nets_driven ts) e)

-- what is driven is a net
pub driver_is_net : (m : FileModel) (w : List ℕ) → among w (drivers m) ≡ true → among w (nets_of m) ≡ true
unfolding drivers
driver_is_net m w e =
    named_is_net m w
    (⊎_elim (λ (h : among w m.inputs ≡ true). input_named m w h)
    (λ (r : among w (latch_outputs m ++ flat_map nets_driven m.tables) ≡ true).
    ⊎_elim (λ (h : among w (latch_outputs m) ≡ true). latch_output_named m w h)
    (λ (h : among w (flat_map nets_driven m.tables) ≡ true). column_named m w (outputs_are_columns w m.tables h))
    (in_either w (latch_outputs m) (flat_map nets_driven m.tables) r))
    (in_either w m.inputs (latch_outputs m ++ flat_map nets_driven m.tables) e))

read_columns : (net above : List ℕ) (ts : List FileTable) → list_any (reads_through net above) ts ≡ true → among above (flat_map columns_of ts) ≡ true
read_columns net above [] e = absurd (false≢true e)
read_columns net above (t ∷ ts) e =
    ⊎_elim (λ (h : reads_through net above t ≡ true). in_left above (columns_of t) _ (in_left above t.inputs t.outputs (and_parts _ _ h).1))
    (λ (h : list_any (reads_through net above) ts ≡ true). in_right above (columns_of t) _ (read_columns net above ts h))
    (or_cases (reads_through net above t) (list_any (reads_through net above) ts) e)

-- what is read is a net
pub read_is_net : (m : FileModel) (net above : List ℕ) → reads m net above ≡ true → among above (nets_of m) ≡ true
unfolding reads
read_is_net m net above e = named_is_net m above (column_named m above (read_columns net above m.tables e))

reader_columns : (net above : List ℕ) (ts : List FileTable) → list_any (reads_through net above) ts ≡ true → among net (flat_map columns_of ts) ≡ true
reader_columns net above [] e = absurd (false≢true e)
reader_columns net above (t ∷ ts) e =
    ⊎_elim (λ (h : reads_through net above t ≡ true). in_left net (columns_of t) _ (in_right net t.inputs t.outputs (and_parts _ _ h).0))
    (λ (h : list_any (reads_through net above) ts ≡ true). in_right net (columns_of t) _ (reader_columns net above ts h))
    (or_cases (reads_through net above t) (list_any (reads_through net above) ts) e)

-- and so is what reads it
pub reader_is_net : (m : FileModel) (net above : List ℕ) → reads m net above ≡ true → among net (nets_of m) ≡ true
unfolding reads
reader_is_net m net above e = named_is_net m net (column_named m net (reader_columns net above m.tables e))
