-- The columns of a sound model's tables have numbers.
use Rattle.std.proofs.Common.{◌≡◌, ℕ, true, List, [], ◌∷◌, refl, All}
use Rattle.std.specs.List.{flat_map}
use Rattle.std.proofs.lemmas.Bool.{and_from, or_left, or_right}
use Rattle.std.proofs.lemmas.List.Elements.{All-nil, All-cons, All-head, All-tail}
use Rattle.mv_base.specs.Names.{same_word, among}
use Rattle.mv_base.proofs.NameLemmas.{same_word_refl}
use Rattle.mv_design.specs.declared.design.Decl.{Decl}
use Rattle.mv_design.specs.declared.table.FileTable.{FileTable}
use Rattle.mv_design.specs.Nets.{columns_of}
use Rattle.mv_resets.specs.NetModels.{IsNetTable}
use Rattle.mv_acyclic.proofs.Soundness.{in_left, in_right}
use Rattle.mv_flat.specs.Placed.{are_known, IsPlacedTable}

pub known : (names ws : List (List ℕ)) → ((w : List ℕ) → among w ws ≡ true → among w names ≡ true) → are_known names ws ≡ true
known names [] h = refl
known names (w ∷ ws) h =
    and_from _ _ (h w (or_left _ _ (same_word_refl w))) (known names ws (λ v y. h v (or_right (same_word v w) _ y)))

pub tables_known : (ds : List Decl) (names : List (List ℕ)) (ts : List FileTable) → All (IsNetTable ds) ts
    → ((w : List ℕ) → among w (flat_map columns_of ts) ≡ true → among w names ≡ true) → All (IsPlacedTable ds names) ts
tables_known ds names [] all h = All-nil _
tables_known ds names (t ∷ ts) all h =
    All-cons (IsPlacedTable ds names) t ts
    (record {
      fits = All-head (IsNetTable ds) t ts all;
      known = known names t.inputs (λ w y. h w (in_left w (columns_of t) _ (in_left w t.inputs t.outputs y)));
    })
    (tables_known ds names ts (All-tail (IsNetTable ds) t ts all) (λ w y. h w (in_right w (columns_of t) _ y)))

-- tables whose input columns have numbers
pub tables_placed : (ds : List Decl) (names : List (List ℕ)) (ts : List FileTable) → All (IsNetTable ds) ts
    → All (λ (t : FileTable). are_known names t.inputs ≡ true) ts → All (IsPlacedTable ds names) ts
tables_placed ds names ts all known = λ k t l. record { fits = all k t l; known = known k t l }
