-- The nets of a model by number, as they are gathered.
use Rattle.std.proofs.Common.{◌≡◌, ℕ, true, List, [], ◌∷◌, ◌++◌, refl, sym, ◌∙◌, ap}
use Rattle.std.specs.List.{flat_map}
use Rattle.mv_base.specs.Names.{names_differ}
use Rattle.mv_design.specs.declared.design.Decl.{Decl}
use Rattle.mv_design.specs.declared.table.FileTable.{FileTable}
use Rattle.mv_acyclic.specs.Driving.{with_names}
use Rattle.mv_acyclic.proofs.Names.{with_names_append, with_names_new}
use Rattle.mv_flat.specs.Places.{made_places, table_places}
use Rattle.mv_flat.specs.Gathered.{with_places}

-- the nets of tables, one table behind the other
with_places_are : (ds : List Decl) (names : List (List ℕ)) (ts : List FileTable) → with_places ds names ts ≡ with_names names (flat_map (table_places ds) ts)
with_places_are ds names [] = refl
with_places_are ds names (t ∷ ts) =
    with_places_are ds (with_names (with_names names (made_places ds t)) t.outputs) ts
    ∙ (ap (λ ns. with_names ns (flat_map (table_places ds) ts)) (sym (with_names_append names (made_places ds t) t.outputs))
    ∙ sym (with_names_append names (table_places ds t) (flat_map (table_places ds) ts)))

-- the inputs, the outputs of the latches and the nets of tables
pub with_places_of : (ds : List Decl) (is ls : List (List ℕ)) (ts : List FileTable) → names_differ (is ++ (ls ++ flat_map (table_places ds) ts)) ≡ true
    → with_places ds (with_names (with_names [] is) ls) ts ≡ is ++ (ls ++ flat_map (table_places ds) ts)
with_places_of ds is ls ts d =
    with_places_are ds (with_names (with_names [] is) ls) ts
    ∙ (sym (with_names_append [] is (ls ++ flat_map (table_places ds) ts) ∙ with_names_append (with_names [] is) ls (flat_map (table_places ds) ts))
    ∙ with_names_new [] (is ++ (ls ++ flat_map (table_places ds) ts)) d)
