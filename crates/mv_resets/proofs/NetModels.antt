-- A lawful sound model, with a net for each reset value, is a model whose reset values have nets of their own.
use Rattle.std.proofs.Common.{◌≡◌, ℕ, ◌<◌, Bool, true, List, [], ◌∷◌, length, arith, get_or, map, sym, ◌∙◌, ap, subst, ⊎_elim, All}
use Rattle.std.specs.List.{flat_map, list_all, list_any}
use Rattle.std.proofs.lemmas.Bool.{false≢true, or_cases, or_left, or_right}
use Rattle.std.proofs.lemmas.List.Elements.{All-map, All-weaker, Contains-get_or}
use Rattle.std.proofs.lemmas.List.Folds.{list_any_at}
use Rattle.mv_base.specs.Names.{among, same_word, is_net_name}
use Rattle.mv_base.proofs.NameLemmas.{same_word_refl}
use Rattle.mv_design.specs.declared.design.Decl.{Decl}
use Rattle.mv_design.specs.declared.design.FileLatch.{FileLatch}
use Rattle.mv_design.specs.declared.design.FileModel.{FileModel}
use Rattle.mv_design.specs.declared.table.Row.{Row}
use Rattle.mv_design.specs.declared.table.FileTable.{FileTable}
use Rattle.mv_design.specs.Nets.{columns_of, drivers, nets_driven, output_of}
use Rattle.mv_design.specs.Proper.{IsFileRow, IsFileLatch, IsFileTable, IsFileReset, IsLawful}
use Rattle.mv_design.specs.Values.{count_of}
use Rattle.mv_acyclic.specs.Sound.{resets_named, HasResetsOfLatches, IsDrivenOnce, IsSoundModel}
use Rattle.mv_acyclic.proofs.Commands.{column_named, named_is_net, reset_named}
use Rattle.mv_acyclic.proofs.Distinct.{net_is_driven}
use Rattle.mv_acyclic.proofs.Names.{all_among, all_from_among}
use Rattle.mv_acyclic.proofs.Soundness.{in_left}
use Rattle.mv_resets.specs.NetModels.{is_flat_name, IsNetTable, IsResetOf, IsNetModel}
use Rattle.mv_resets.specs.Resets.{reset_name, reset_table, with_reset_nets}
use Rattle.mv_resets.proofs.ByLine.{All-by_line}
use Rattle.mv_resets.proofs.Words.{has, among_flat, any-map, map_alike, named, reset_among}
use Rattle.mv_resets.proofs.Nets.{any-tables, among-drivers, driver_lawful, not_driver, output_is, reset_is_state, resets_single, state_drives}
use Rattle.mv_resets.proofs.Values.{count_kept, count_of_reset, decls_lawful, values_kept, values_of_reset, FitSets-alike, FitOutputs-alike}

-- ---- tables

-- a table that fits declarations fits others, with other outputs of as many values
net_table : (ds es : List Decl) (t : FileTable) (outputs : List (List ℕ)) → IsFileTable ds t → map (count_of ds) t.inputs ≡ map (count_of es) t.inputs
    → map (count_of ds) t.outputs ≡ map (count_of es) outputs → 0 < length outputs → (1 < length outputs → list_all is_net_name outputs ≡ true)
    → IsNetTable es (record { line = t.line; inputs = t.inputs; outputs = outputs; rows = t.rows; default = t.default })
net_table ds es t outputs h e f some several =
    let new : FileTable = record { line = t.line; inputs = t.inputs; outputs = outputs; rows = t.rows; default = t.default } in
    record {
      inputs = h.inputs;
      some = some;
      several = several;
      rows = All-weaker (IsFileRow ds t) (IsFileRow es new)
          (λ (r : Row) k. record {
            sets = FitSets-alike ds es t.inputs t.inputs r.ins e k.sets;
            outs = FitOutputs-alike ds es t.inputs t.inputs t.outputs outputs r.outs e f k.outs;
          })
          t.rows h.rows;
      default = λ entries d. FitOutputs-alike ds es t.inputs t.inputs t.outputs outputs entries e f (h.default entries d);
    }

counts_kept : (m : FileModel) (ws : List (List ℕ)) → list_all is_net_name ws ≡ true → map (count_of m.decls) ws ≡ map (count_of (with_reset_nets m).decls) ws
counts_kept m ws h = map_alike (count_of m.decls) (count_of (with_reset_nets m).decls) is_net_name (λ w l. count_kept m w l) ws h

kept_table : (m : FileModel) (t : FileTable) → IsFileTable m.decls t → IsNetTable (with_reset_nets m).decls t
kept_table m t h = net_table m.decls (with_reset_nets m).decls t t.outputs h (counts_kept m t.inputs h.inputs) (counts_kept m t.outputs h.outputs) h.some (λ several. h.outputs)

made_table : (m : FileModel) (t : FileTable) → IsLawful m → among (output_of t) (resets_named m) ≡ true → IsFileReset m.decls t
    → IsNetTable (with_reset_nets m).decls (reset_table t)
made_table m t p listed h =
    let o = output_is t h.single in
    let one : length (map reset_name t.outputs) ≡ 1 = ap (λ ws. length (map reset_name ws)) o in
    let P : List (List ℕ) → Type 0 = λ ws. map (count_of m.decls) ws ≡ map (count_of (with_reset_nets m).decls) (map reset_name ws) in
    net_table m.decls (with_reset_nets m).decls t (map reset_name t.outputs) h.table (counts_kept m t.inputs h.table.inputs)
    (subst P (sym o) (ap (λ n. n ∷ []) (count_of_reset m (output_of t) p.decls listed)))
    (omega (arith, one)) (λ several. absurd (omega (arith, one, several)))

-- the output of each table is among their outputs
pub output_listed : (ts : List FileTable) → All (λ t. among (output_of t) (map output_of ts) ≡ true) ts
output_listed ts = λ k d l.
    let w = output_of (get_or ts k d) in
    any-map (same_word w) output_of ts ∙ list_any_at (λ (t : FileTable). same_word w (output_of t)) ts k d l (same_word_refl w)

net_tables : (m : FileModel) → IsLawful m → All (IsNetTable (with_reset_nets m).decls) (with_reset_nets m).tables
unfolding with_reset_nets
net_tables m p =
    let Is : FileTable → Type 0 = IsNetTable (with_reset_nets m).decls in
    All-by_line Is (λ (t : FileTable). t.line) (map reset_table m.resets) m.tables
    (All-map Is reset_table m.resets (λ k d l. made_table m (get_or m.resets k d) p (output_listed m.resets k d l) (p.resets k d l)))
    (λ k d l. kept_table m (get_or m.tables k d) (p.tables k d l))

-- ---- names

-- what a table drives has a lawful name, or is a reset net
driven_flat : (m : FileModel) (w : List ℕ) → IsLawful m → among w (flat_map nets_driven (with_reset_nets m).tables) ≡ true → is_flat_name w ≡ true
driven_flat m w p h =
    let drives : FileTable → Bool = λ t. among w t.outputs in
    ⊎_elim
    (λ (r : list_any (λ (t : FileTable). drives (reset_table t)) m.resets ≡ true).
    let t = has (IsFileReset m.decls) (λ (t : FileTable). drives (reset_table t)) m.resets p.resets r in
    let n = named w t.item.outputs t.passes in
    ap is_flat_name n.is ∙ or_right (is_net_name (reset_name n.latch)) _ (all_among is_net_name t.item.outputs n.latch t.holds.table.outputs n.listed))
    (λ (y : list_any drives m.tables ≡ true).
    let t = has (IsFileTable m.decls) drives m.tables p.tables y in
    or_left _ _ (all_among is_net_name t.item.outputs w t.holds.outputs t.passes))
    (or_cases _ _ (sym (any-tables drives m) ∙ (sym (among_flat nets_driven w (with_reset_nets m).tables) ∙ h)))

-- a reset net is that of a latch
reset_of : (m : FileModel) (v : List ℕ) → IsLawful m → HasResetsOfLatches m → among (reset_name v) (drivers (with_reset_nets m)) ≡ true
    → IsResetOf (with_reset_nets m) v
unfolding with_reset_nets
reset_of m v p resets h =
    let listed : among v (resets_named m) ≡ true =
    ⊎_elim (λ y. sym (reset_among v (resets_named m)) ∙ y) (λ y. absurd (false≢true (sym (not_driver v m p) ∙ y)))
    (or_cases _ _ (sym (among-drivers (reset_name v) m (resets_single m p)) ∙ h)) in
    let state = reset_is_state v m resets listed in
    record {
      listed = state;
      values = values_of_reset m v p.decls listed ∙ sym (values_kept m v (driver_lawful v m p (state_drives v m state)));
    }

latches_kept : (m : FileModel) → IsLawful m → All (IsFileLatch (with_reset_nets m).decls) m.latches
latches_kept m p = All-weaker (IsFileLatch m.decls) (IsFileLatch (with_reset_nets m).decls)
    (λ (l : FileLatch) h. record {
      input = h.input;
      output = h.output;
      counts = sym (count_kept m l.input h.input) ∙ (h.counts ∙ count_kept m l.output h.output);
    })
    m.latches p.latches

pub net_model : (m : FileModel) → IsLawful m → IsSoundModel m → IsNetModel (with_reset_nets m)
unfolding with_reset_nets
net_model m p s = record {
  name = p.name;
  inputs = p.inputs;
  inputs_differ = p.inputs_differ;
  outputs = p.outputs;
  outputs_differ = p.outputs_differ;
  latches = latches_kept m p;
  decls = decls_lawful m p.decls;
  tables = net_tables m p;
  driven = all_from_among is_flat_name (flat_map nets_driven (with_reset_nets m).tables) (λ w h. driven_flat m w p h);
  resets = λ v h. reset_of m v p s.resets h;
}

-- ---- what its tables read

-- the inputs of each table are driven without the reset nets
pub inputs_driven : (m : FileModel) → IsDrivenOnce m → All (λ t. list_all (λ w. among w (drivers m)) t.inputs ≡ true) (with_reset_nets m).tables
unfolding with_reset_nets
inputs_driven m once =
    let Is : FileTable → Type 0 = λ t. list_all (λ w. among w (drivers m)) t.inputs ≡ true in
    All-by_line Is (λ (t : FileTable). t.line) (map reset_table m.resets) m.tables
    (All-map Is reset_table m.resets
    (λ k d l.
    let t = get_or m.resets k d in
    all_from_among _ t.inputs
    (λ w h. net_is_driven m w once (named_is_net m w (reset_named m t w (Contains-get_or m.resets k d l) (in_left w t.inputs t.outputs h))))))
    (λ k d l.
    let t = get_or m.tables k d in
    all_from_among _ t.inputs
    (λ w h.
    net_is_driven m w once
    (named_is_net m w
    (column_named m w
    (among_flat columns_of w m.tables ∙ list_any_at (λ (u : FileTable). among w (columns_of u)) m.tables k d l (in_left w t.inputs t.outputs h))))))
