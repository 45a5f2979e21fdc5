-- What is said of tables, said of the nets that they drive: each net is driven by one table at most.
use Rattle.std.proofs.Common.{◌≡◌, ℕ, zero, suc, true, false, List, [], ◌∷◌, ◌++◌, Some, refl, sym, ◌∙◌, ap, subst, ⊎_elim}
use Rattle.std.specs.Prelude.{if◌then◌else◌}
use Rattle.std.specs.List.{flat_map, slice_get}
use Rattle.std.proofs.lemmas.Bool.{false≢true, cond-true, cond-false, false_from_ne_true, or_cases, or_parts}
use Rattle.std.proofs.lemmas.Option.{none-some, same_Some}
use Rattle.mv_base.specs.Names.{same_word, among, AreApart}
use Rattle.mv_base.proofs.NameLemmas.{same_word_is, among-append}
use Rattle.mv_design.specs.declared.design.FileModel.{FileModel}
use Rattle.mv_design.specs.declared.table.FileTable.{FileTable}
use Rattle.mv_design.specs.Nets.{nets_driven, output_of}
use Rattle.mv_net.specs.declared.parts.NetParts.{NetParts}
use Rattle.mv_acyclic.proofs.Soundness.{in_right}
use Rattle.mv_flat.proofs.Lawful.{open_names, drivers_split}
use Rattle.mv_flat.proofs.Places.{IsModelNet, file_table}
use Rattle.mv_flat.proofs.Naming.{in_tables, output_of_among}

-- ---- names that are apart

pub apart_behind : (us ws : List (List ℕ)) → AreApart (us ++ ws) → AreApart ws
apart_behind [] ws apart = apart
apart_behind (u ∷ us) ws apart = apart_behind us ws apart.1

in_one : (us ws : List (List ℕ)) (w : List ℕ) → AreApart (us ++ ws) → among w us ≡ true → among w ws ≡ true → ⊥
in_one [] ws w apart h y = false≢true h
in_one (u ∷ us) ws w apart h y =
    ⊎_elim
    (λ (e : same_word w u ≡ true).
    false≢true (sym apart.0 ∙ (ap (λ v. among v (us ++ ws)) (sym (same_word_is w u e)) ∙ in_right w us ws y)))
    (λ (e : among w us ≡ true). in_one us ws w apart.1 e y)
    (or_cases (same_word w u) (among w us) h)

-- a name of the first isn't among the others
pub first_only : (us ws : List (List ℕ)) (w : List ℕ) → AreApart (us ++ ws) → among w us ≡ true → among w ws ≡ false
first_only us ws w apart h = false_from_ne_true (among w ws) (λ y. in_one us ws w apart h y)

-- and a name of the others isn't among the first
pub behind_only : (us ws : List (List ℕ)) (w : List ℕ) → AreApart (us ++ ws) → among w ws ≡ true → among w us ≡ false
behind_only us ws w apart h = false_from_ne_true (among w us) (λ y. in_one us ws w apart y h)

-- ---- the table that drives a net

-- of the first table that drives the net, or what is given where none does
abbrev pub of_driver : {X : Type 0} → (FileTable → X) → X → List FileTable → List ℕ → X
of_driver f none [] w = none
of_driver f none (t ∷ ts) w = if among w t.outputs then f t else of_driver f none ts w

pub driver_at : {X : Type 0} (f : FileTable → X) (none : X) (ts : List FileTable) (k : ℕ) (t : FileTable) (w : List ℕ) → AreApart (flat_map nets_driven ts)
    → slice_get ts k ≡ Some t → among w t.outputs ≡ true → of_driver f none ts w ≡ f t
driver_at f none [] k t w apart e h = absurd (none-some t e)
driver_at f none (u ∷ us) zero t w apart e h =
    let same : u ≡ t = same_Some u t e in
    cond-true (among w u.outputs) (f u) (of_driver f none us w) (ap (λ (x : FileTable). among w x.outputs) same ∙ h) ∙ ap f same
driver_at f none (u ∷ us) (suc k) t w apart e h =
    let later : among w (flat_map nets_driven us) ≡ true = in_tables nets_driven us k t w e h in
    let other : among w u.outputs ≡ false = behind_only u.outputs (flat_map nets_driven us) w apart later in
    cond-false (among w u.outputs) (f u) (of_driver f none us w) other
    ∙ driver_at f none us k t w (apart_behind u.outputs (flat_map nets_driven us) apart) e h

-- the net of no table
pub no_driver : {X : Type 0} (f : FileTable → X) (none : X) (ts : List FileTable) (w : List ℕ) → among w (flat_map nets_driven ts) ≡ false
    → of_driver f none ts w ≡ none
no_driver f none [] w h = refl
no_driver f none (t ∷ ts) w h =
    cond-false (among w t.outputs) (f t) (of_driver f none ts w) (parts.0) ∙ no_driver f none ts w (parts.1)
  where
    parts : (among w t.outputs ≡ false) × (among w (flat_map nets_driven ts) ≡ false)
    parts = or_parts (among w t.outputs) (among w (flat_map nets_driven ts)) (sym (among-append w t.outputs (flat_map nets_driven ts)) ∙ h)

-- ---- the tables of a model

-- no net is driven twice by the tables
pub tables_apart : (m : FileModel) (net : NetParts) → IsModelNet m net → AreApart (flat_map nets_driven m.tables)
tables_apart m net is = apart_behind (open_names m) (flat_map nets_driven m.tables) (subst AreApart (drivers_split m) is.once.apart)

-- a net without a table is driven by none
pub open_undriven : (m : FileModel) (net : NetParts) → IsModelNet m net → (w : List ℕ) → among w (open_names m) ≡ true
    → among w (flat_map nets_driven m.tables) ≡ false
open_undriven m net is w h = first_only (open_names m) (flat_map nets_driven m.tables) w (subst AreApart (drivers_split m) is.once.apart) h

-- the first output of a table is one
pub first_output : (m : FileModel) (net : NetParts) → IsModelNet m net → (k : ℕ) (t : FileTable) → slice_get m.tables k ≡ Some t
    → among (output_of t) t.outputs ≡ true
first_output m net is k t e = output_of_among t (file_table m net is k t e).some
