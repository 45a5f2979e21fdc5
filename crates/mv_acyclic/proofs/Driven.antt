-- The driven nets of a model, gathered one by one.
use Rattle.std.proofs.Common.{◌≡◌, ℕ, ◌+◌, ◌<◌, List, [], ◌∷◌, ◌++◌, drop, length, get_or, sym, ◌∙◌, ap}
use Rattle.std.specs.List.{flat_map}
use Rattle.std.proofs.lemmas.List.{drop_more}
use Rattle.mv_design.specs.declared.design.FileModel.{FileModel}
use Rattle.mv_design.specs.declared.table.FileTable.{FileTable}
use Rattle.mv_design.specs.Nets.{drivers, latch_outputs, nets_driven}
use Rattle.mv_acyclic.specs.Driving.{with_names}
use Rattle.mv_acyclic.specs.Sound.{IsDrivenOnce}
use Rattle.mv_acyclic.proofs.Distinct.{drivers_differ}
use Rattle.mv_acyclic.proofs.Names.{with_names_append, with_names_new}

-- inputs, then the outputs of latches, and then those of tables
pub drivers_gathered : (names : List (List ℕ)) (m : FileModel)
    → with_names (with_names (with_names names m.inputs) (latch_outputs m)) (flat_map nets_driven m.tables) ≡ with_names names (drivers m)
unfolding drivers
drivers_gathered names m =
    let outputs = flat_map nets_driven m.tables in
    sym (with_names_append names m.inputs (latch_outputs m ++ outputs) ∙ with_names_append (with_names names m.inputs) (latch_outputs m) outputs)

-- where each net is driven once, none of them is left out
pub driven_gathered : (m : FileModel) → IsDrivenOnce m → with_names [] (drivers m) ≡ drivers m
driven_gathered m d = with_names_new [] (drivers m) (drivers_differ m d)

-- the outputs of one table more
pub outputs_more : (names : List (List ℕ)) (ts : List FileTable) (i : ℕ) (t : FileTable) → i < length ts → t ≡ get_or ts i t
    → with_names names (flat_map nets_driven (drop i ts)) ≡ with_names (with_names names t.outputs) (flat_map nets_driven (drop (i + 1) ts))
outputs_more names ts i t lt is =
    let rest = drop (i + 1) ts in
    ap (λ xs. with_names names (flat_map nets_driven xs)) (drop_more ts i t lt ∙ ap (λ (x : FileTable). x ∷ rest) (sym is))
    ∙ with_names_append names t.outputs (flat_map nets_driven rest)
