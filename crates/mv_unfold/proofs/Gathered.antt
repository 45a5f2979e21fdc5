-- The nets of a model with instances are the names of its commands, gathered by line.
use Rattle.std.proofs.Common.{◌≡◌, ℕ, ◌+◌, ◌<◌, List, [], ◌∷◌, ◌++◌, length, get_or, map, drop, refl, sym, ◌∙◌, ap}
use Rattle.std.proofs.lemmas.List.{drop_more}
use Rattle.mv_design.specs.ByLine.{before_line, from_line, by_line}
use Rattle.mv_design.specs.declared.design.FileModel.{FileModel}
use Rattle.mv_design.specs.declared.design.Instance.{Instance}
use Rattle.mv_design.specs.Nets.{Naming, namings}
use Rattle.mv_tree.specs.Places.{instance_naming, all_namings, all_nets}
use Rattle.mv_acyclic.specs.Driving.{with_names, with_named}
use Rattle.mv_design.proofs.ByLine.{drop_before}
use Rattle.mv_acyclic.proofs.Named.{nets_gathered}
use Rattle.mv_unfold.specs.Locals.{actuals_of, with_commands}

with_named_append : (names : List (List ℕ)) (us ws : List Naming) → with_named names (us ++ ws) ≡ with_named (with_named names us) ws
with_named_append names [] ws = refl
with_named_append names (u ∷ us) ws = with_named_append (with_names names u.nets) us ws

by_commands : (names : List (List ℕ)) (ps : List Instance) (ns : List Naming)
    → with_commands names ps ns ≡ with_named names (by_line (λ n. n.line) (map instance_naming ps) ns)
by_commands names [] ns = refl
by_commands names (p ∷ ps) ns =
    let before = before_line (λ (n : Naming). n.line) p.line ns in
    let from = from_line (λ (n : Naming). n.line) p.line ns in
    by_commands (with_names (with_named names before) (actuals_of p.binds)) ps from
    ∙ sym (with_named_append names before (instance_naming p ∷ by_line (λ (n : Naming). n.line) (map instance_naming ps) from))

-- inputs, outputs and what instances and other commands name
pub all_gathered : (m : FileModel) → with_commands (with_names (with_names [] m.inputs) m.outputs) m.instances (namings m) ≡ all_nets m
unfolding all_nets all_namings
all_gathered m =
    by_commands (with_names (with_names [] m.inputs) m.outputs) m.instances (namings m) ∙ nets_gathered m.inputs m.outputs (all_namings m)

-- one more instance stands behind the commands before its line
pub command_more : (names : List (List ℕ)) (ps : List Instance) (ns : List Naming) (i done : ℕ) (p : Instance) (front : List Naming) → i < length ps → p ≡ get_or ps i p
    → front ≡ before_line (λ n. n.line) p.line (drop done ns)
    → with_commands names (drop i ps) (drop done ns)
    ≡ with_commands (with_names (with_named names front) (actuals_of p.binds)) (drop (i + 1) ps) (drop (done + length front) ns)
command_more names ps ns i done p front lt is e =
    let before = before_line (λ (n : Naming). n.line) p.line (drop done ns) in
    let rest = drop (i + 1) ps in
    ap (λ xs. with_commands names xs (drop done ns)) (drop_more ps i p lt ∙ ap (λ (x : Instance). x ∷ rest) (sym is))
    ∙ (ap (λ xs. with_commands (with_names (with_named names before) (actuals_of p.binds)) rest xs) (sym (drop_before (λ (n : Naming). n.line) p.line ns done))
    ∙ ap (λ (f : List Naming). with_commands (with_names (with_named names f) (actuals_of p.binds)) rest (drop (done + length f) ns)) (sym e))
