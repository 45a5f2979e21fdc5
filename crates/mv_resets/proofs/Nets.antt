-- The nets of a model, and what drives them: of any model, and of one with a net for each reset value.
use Rattle.std.proofs.Common.{◌≡◌, ◌⊎◌, ℕ, ◌+◌, Bool, true, false, ◌&&◌, ◌||◌, inl, inr, List, [], ◌∷◌, ◌++◌, length, map, refl, sym, ◌∙◌, ap, arith}
use Rattle.std.proofs.Common.{⊎_elim, All}
use Rattle.std.specs.Prelude.{slice_index_or}
use Rattle.std.specs.List.{flat_map, list_all, list_any}
use Rattle.std.specs.List.Sorted.{IsPermutation}
use Rattle.std.proofs.lemmas.Bool.{false_from_ne_true, and_from, or_cases, or_left, or_right}
use Rattle.std.proofs.lemmas.List.{append_assoc, length-append}
use Rattle.std.proofs.lemmas.List.Elements.{All-head, All-tail}
use Rattle.std.proofs.lemmas.List.Folds.{flat_map-map, list_all-append, list_all-map}
use Rattle.std.proofs.lemmas.List.Sorted.{IsPermutation-append_right, IsPermutation-trans}
use Rattle.std.proofs.lemmas.List.Sorted.{list_any-IsPermutation, sum_by-IsPermutation, length_permutation}
use Rattle.std.proofs.lemmas.List.Sums.{list_all-from_AllPass}
use Rattle.mv_base.specs.Names.{same_word, among, is_net_name}
use Rattle.mv_base.proofs.NameLemmas.{among-append}
use Rattle.mv_design.specs.declared.design.Decl.{Decl}
use Rattle.mv_design.specs.declared.design.FileLatch.{FileLatch}
use Rattle.mv_design.specs.declared.design.FileModel.{FileModel}
use Rattle.mv_design.specs.declared.table.FileTable.{FileTable}
use Rattle.mv_design.specs.ByLine.{by_line}
use Rattle.mv_design.specs.Nets.{columns_of, output_of, nets_of, nets_driven, latch_inputs, latch_outputs, drivers}
use Rattle.mv_design.specs.Proper.{IsFileTable, IsFileReset, IsLawful}
use Rattle.mv_acyclic.specs.Sound.{resets_named, HasResetsOfLatches, IsDrivenOnce}
use Rattle.mv_design.proofs.ByLine.{any-by_line}
use Rattle.mv_acyclic.proofs.Commands.{among-nets_named, driver_is_net}
use Rattle.mv_acyclic.proofs.Distinct.{net_is_driven}
use Rattle.mv_acyclic.proofs.Named.{among-nets_of}
use Rattle.mv_acyclic.proofs.Names.{all_among, count_of_append}
use Rattle.mv_acyclic.proofs.Soundness.{in_either, in_left, in_right}
use Rattle.mv_resets.specs.Resets.{reset_name, reset_table, with_reset_nets}
use Rattle.mv_resets.proofs.ByLine.{moved_behind, flat-by_line, all-by_line}
use Rattle.mv_resets.proofs.Words.{has, any-map, among_flat, not_lawful, times}

-- the output of a latch drives
pub state_drives : (w : List ℕ) (m : FileModel) → among w (latch_outputs m) ≡ true → among w (drivers m) ≡ true
unfolding drivers
state_drives w m h = in_right w m.inputs _ (in_left w (latch_outputs m) (flat_map nets_driven m.tables) h)

-- what the reset tables name are outputs of latches
pub reset_is_state : (w : List ℕ) (m : FileModel) → HasResetsOfLatches m → among w (resets_named m) ≡ true → among w (latch_outputs m) ≡ true
reset_is_state w m has h = all_among (λ v. among v (latch_outputs m)) (resets_named m) w has.latches h

-- ---- lawful names

-- what latches drive has lawful names, and what they read
pub states_lawful : (m : FileModel) → IsLawful m → list_all (λ l. is_net_name l.output) m.latches ≡ true
states_lawful m p = list_all-from_AllPass (λ (l : FileLatch). is_net_name l.output) m.latches (λ k d l. (p.latches k d l).output)

pub nexts_lawful : (m : FileModel) → IsLawful m → list_all (λ l. is_net_name l.input) m.latches ≡ true
nexts_lawful m p = list_all-from_AllPass (λ (l : FileLatch). is_net_name l.input) m.latches (λ k d l. (p.latches k d l).input)

-- a table's names are lawful
table_lawful : (w : List ℕ) (ds : List Decl) (ts : List FileTable) → All (IsFileTable ds) ts → among w (flat_map columns_of ts) ≡ true → is_net_name w ≡ true
table_lawful w ds ts all h =
    let t = has (IsFileTable ds) (λ (t : FileTable). among w (columns_of t)) ts all (sym (among_flat columns_of w ts) ∙ h) in
    let lawful = list_all-append is_net_name t.item.inputs t.item.outputs ∙ and_from _ _ t.holds.inputs t.holds.outputs in
    all_among is_net_name (columns_of t.item) w lawful t.passes

-- reset tables are tables
resets_are_tables : (ds : List Decl) (ts : List FileTable) → All (IsFileReset ds) ts → All (IsFileTable ds) ts
resets_are_tables ds ts all = λ k d l. (all k d l).table

-- the nets of a lawful model have lawful names
pub named_lawful : (w : List ℕ) (m : FileModel) → IsLawful m → among w (nets_of m) ≡ true → is_net_name w ≡ true
named_lawful w m p h =
    let states = list_all-map is_net_name (λ (l : FileLatch). l.output) m.latches ∙ states_lawful m p in
    let nexts = list_all-map is_net_name (λ (l : FileLatch). l.input) m.latches ∙ nexts_lawful m p in
    ⊎_elim (all_among is_net_name m.inputs w p.inputs)
    (λ a. ⊎_elim (all_among is_net_name m.outputs w p.outputs)
    (λ b. ⊎_elim
    (λ l. ⊎_elim (all_among is_net_name (latch_inputs m) w nexts) (all_among is_net_name (latch_outputs m) w states)
    (or_cases (among w (latch_inputs m)) _ l))
    (λ c. ⊎_elim (table_lawful w m.decls m.resets (resets_are_tables m.decls m.resets p.resets)) (table_lawful w m.decls m.tables p.tables)
    (or_cases (among w (flat_map columns_of m.resets)) _ c))
    (or_cases (among w (latch_inputs m) || among w (latch_outputs m)) _ b))
    (or_cases (among w m.outputs) _ a))
    (or_cases (among w m.inputs) _ (sym (among-nets_of w m ∙ among-nets_named w m) ∙ h))

pub driver_lawful : (w : List ℕ) (m : FileModel) → IsLawful m → among w (drivers m) ≡ true → is_net_name w ≡ true
driver_lawful w m p h = named_lawful w m p (driver_is_net m w h)

-- nothing drives a name that begins as that of a reset net
pub not_driver : (v : List ℕ) (m : FileModel) → IsLawful m → among (reset_name v) (drivers m) ≡ false
not_driver v m p = false_from_ne_true _ (λ h. not_lawful v (driver_lawful (reset_name v) m p h))

-- ---- with a net for each reset value

-- a table has one output
abbrev pub IsSingle : FileTable → Type 0
IsSingle t = length t.outputs ≡ 1

-- as each reset table of a lawful model has
pub resets_single : (m : FileModel) → IsLawful m → All IsSingle m.resets
resets_single m p = λ k d l. (p.resets k d l).single

single_is : (ws : List (List ℕ)) → length ws ≡ 1 → ws ≡ slice_index_or ws 0 [] ∷ []
single_is [] e = cc
single_is (w ∷ []) e = refl
single_is (w ∷ u ∷ us) e = absurd (omega arith)

-- a table of one output drives this one
pub output_is : (t : FileTable) → length t.outputs ≡ 1 → t.outputs ≡ output_of t ∷ []
output_is t e = single_is t.outputs e

-- the reset nets are named by the latches of the reset tables
resets_driven : (ts : List FileTable) → All IsSingle ts → flat_map (λ t. map reset_name t.outputs) ts ≡ map reset_name (map output_of ts)
resets_driven [] h = refl
resets_driven (t ∷ ts) h =
    ap (λ ws. map reset_name ws ++ flat_map (λ (u : FileTable). map reset_name u.outputs) ts) (output_is t (All-head IsSingle t ts h))
    ∙ ap (λ ws. reset_name (output_of t) ∷ ws) (resets_driven ts (All-tail IsSingle t ts h))

outputs_driven : (ts : List FileTable) → All IsSingle ts → flat_map nets_driven ts ≡ map output_of ts
outputs_driven [] h = refl
outputs_driven (t ∷ ts) h =
    ap (λ ws. ws ++ flat_map nets_driven ts) (output_is t (All-head IsSingle t ts h))
    ∙ ap (λ ws. output_of t ∷ ws) (outputs_driven ts (All-tail IsSingle t ts h))

-- a net is among the outputs of some table where it is the output of one
pub some_output : (w : List ℕ) (ts : List FileTable) → All IsSingle ts → list_any (λ t. among w t.outputs) ts ≡ among w (map output_of ts)
some_output w ts h = sym (among_flat nets_driven w ts) ∙ ap (among w) (outputs_driven ts h)

-- the drivers with reset nets: those of the reset nets, and the others
drivers_permute : (m : FileModel) → All IsSingle m.resets → IsPermutation (map reset_name (resets_named m) ++ drivers m) (drivers (with_reset_nets m))
unfolding drivers with_reset_nets
drivers_permute m h =
    let tables = flat_map nets_driven m.tables in
    let first = m.inputs ++ latch_outputs m in
    let line : FileTable → ℕ = λ t. t.line in
    let all = flat_map nets_driven (by_line line (map reset_table m.resets) m.tables) in
    let resets : flat_map nets_driven (map reset_table m.resets) ≡ map reset_name (resets_named m) =
    flat_map-map nets_driven reset_table m.resets ∙ resets_driven m.resets h in
    rw (← append_assoc m.inputs (latch_outputs m) tables, ← append_assoc m.inputs (latch_outputs m) all, ← resets)
    (IsPermutation-trans _ (first ++ (flat_map nets_driven (map reset_table m.resets) ++ tables)) _
    (moved_behind (flat_map nets_driven (map reset_table m.resets)) first tables)
    (IsPermutation-append_right first _ all (flat-by_line nets_driven line (map reset_table m.resets) m.tables)))

pub among-drivers : (w : List ℕ) (m : FileModel) → All IsSingle m.resets
    → among w (drivers (with_reset_nets m)) ≡ (among w (map reset_name (resets_named m)) || among w (drivers m))
among-drivers w m h =
    sym (list_any-IsPermutation (same_word w) _ (drivers (with_reset_nets m)) (drivers_permute m h))
    ∙ among-append w (map reset_name (resets_named m)) (drivers m)

pub times-drivers : (w : List ℕ) (m : FileModel) → All IsSingle m.resets
    → times w (drivers (with_reset_nets m)) ≡ times w (map reset_name (resets_named m)) + times w (drivers m)
times-drivers w m h =
    sum_by-IsPermutation _ _ (drivers (with_reset_nets m)) (drivers_permute m h) ∙ count_of_append w (map reset_name (resets_named m)) (drivers m)

pub length-drivers : (m : FileModel) → All IsSingle m.resets
    → length (drivers (with_reset_nets m)) ≡ length (map reset_name (resets_named m)) + length (drivers m)
length-drivers m h =
    length_permutation _ (drivers (with_reset_nets m)) (drivers_permute m h) ∙ length-append (map reset_name (resets_named m)) (drivers m)

-- a test of the tables
pub any-tables : (p : FileTable → Bool) (m : FileModel)
    → list_any p (with_reset_nets m).tables ≡ (list_any (λ t. p (reset_table t)) m.resets || list_any p m.tables)
unfolding with_reset_nets
any-tables p m =
    any-by_line (λ (t : FileTable). t.line) p (map reset_table m.resets) m.tables ∙ ap (λ b. b || list_any p m.tables) (any-map p reset_table m.resets)

pub all-tables : (p : FileTable → Bool) (m : FileModel)
    → list_all p (with_reset_nets m).tables ≡ (list_all (λ t. p (reset_table t)) m.resets && list_all p m.tables)
unfolding with_reset_nets
all-tables p m =
    all-by_line p (λ (t : FileTable). t.line) (map reset_table m.resets) m.tables ∙ ap (λ b. b && list_all p m.tables) (list_all-map p reset_table m.resets)

-- ---- the nets of the one and the other

-- a column of tables with other outputs is a column of the tables, or one of these outputs
either_named : (w : List ℕ) (g : FileTable → List (List ℕ)) (ts : List FileTable) → among w (flat_map (λ t. t.inputs ++ g t) ts) ≡ true
    → (among w (flat_map columns_of ts) ≡ true) ⊎ (among w (flat_map g ts) ≡ true)
either_named w g [] h = inl h
either_named w g (t ∷ ts) h =
    ⊎_elim
    (λ y. ⊎_elim (λ a. inl (in_left w (columns_of t) _ (in_left w t.inputs t.outputs a))) (λ b. inr (in_left w (g t) _ b)) (in_either w t.inputs (g t) y))
    (λ y. ⊎_elim (λ a. inl (in_right w (columns_of t) _ a)) (λ b. inr (in_right w (g t) _ b)) (either_named w g ts y))
    (in_either w (t.inputs ++ g t) _ h)

either_more : {P : Type 0} (a b c : Bool) → (b ≡ true → (c ≡ true) ⊎ P) → (a || b) ≡ true → ((a || c) ≡ true) ⊎ P
either_more true b c f h = inl refl
either_more false b c f h = f h

-- what is named with reset nets is named without them, or is one of them
pub nets_either : (w : List ℕ) (m : FileModel) → All IsSingle m.resets → among w (nets_of (with_reset_nets m)) ≡ true
    → (among w (nets_of m) ≡ true) ⊎ (among w (map reset_name (resets_named m)) ≡ true)
unfolding with_reset_nets
nets_either w m s h =
    let all = with_reset_nets m in
    let line : FileTable → ℕ = λ t. t.line in
    let resets = flat_map columns_of (map reset_table m.resets) in
    rw (among-nets_of w m, among-nets_named w m)
    (either_more (among w m.inputs) _ _
    (either_more (among w m.outputs) _ _
    (either_more (among w (latch_inputs m) || among w (latch_outputs m)) _ _
    (λ y.
    ⊎_elim
    (λ r.
    ⊎_elim (λ a. inl (or_left _ _ a)) (λ b. inr (sym (ap (among w) (resets_driven m.resets s)) ∙ b))
    (either_named w (λ (t : FileTable). map reset_name t.outputs) m.resets (sym (ap (among w) (flat_map-map columns_of reset_table m.resets)) ∙ r)))
    (λ t. inl (or_right (among w (flat_map columns_of m.resets)) _ t))
    (in_either w resets (flat_map columns_of m.tables)
    (list_any-IsPermutation (same_word w) _ _ (flat-by_line columns_of line (map reset_table m.resets) m.tables) ∙ y)))))
    (sym (among-nets_of w all ∙ among-nets_named w all) ∙ h))

-- what is named without reset nets is named with them, where each net is driven
pub nets_kept : (w : List ℕ) (m : FileModel) → All IsSingle m.resets → IsDrivenOnce m → among w (nets_of m) ≡ true
    → among w (nets_of (with_reset_nets m)) ≡ true
nets_kept w m s d h = driver_is_net (with_reset_nets m) w (among-drivers w m s ∙ or_right _ _ (net_is_driven m w d h))
