-- The nets of a model are the names that it names, each once: gathered one by one they are so.
use Rattle.std.proofs.Common.{◌≡◌, ◌∙◌, ℕ, List, [], ◌∷◌, ◌++◌, refl, sym, ap}
use Rattle.std.specs.List.{flat_map}
use Rattle.indexmap.specs.IndexSet.{insert_all}
use Rattle.mv_base.specs.Firsts.{firsts_by}
use Rattle.mv_base.specs.Names.{same_word, among}
use Rattle.mv_base.proofs.Firsts.{keys-firsts}
use Rattle.mv_base.proofs.NameLemmas.{same_word_is}
use Rattle.mv_design.specs.declared.design.FileModel.{FileModel}
use Rattle.mv_design.specs.Nets.{Naming, nets_named, nets_of}
use Rattle.mv_acyclic.specs.Driving.{with_name, with_named, with_names}
use Rattle.mv_acyclic.proofs.Names.{with_names_of, among-with_names}

-- names added one by one are put in a set
inserted : (names ws : List (List ℕ)) → with_names names ws ≡ insert_all same_word names ws
inserted names [] = refl
inserted names (w ∷ ws) = inserted (with_name names w) ws

-- names added to none are the first of each
with_names-firsts : (ws : List (List ℕ)) → with_names [] ws ≡ firsts_by same_word ws
with_names-firsts ws = inserted [] ws ∙ keys-firsts same_word same_word_is ws

-- inputs, outputs and what commands name
pub nets_gathered : (is os : List (List ℕ)) (ns : List Naming)
    → with_named (with_names (with_names [] is) os) ns ≡ firsts_by same_word (is ++ (os ++ flat_map (λ x. x.nets) ns))
nets_gathered is os ns = with_names_of is os ns ∙ with_names-firsts (is ++ (os ++ flat_map (λ x. x.nets) ns))

-- a model's nets are those that it names
pub among-nets_of : (w : List ℕ) (m : FileModel) → among w (nets_of m) ≡ among w (nets_named m)
unfolding nets_of
among-nets_of w m = ap (among w) (sym (with_names-firsts (nets_named m))) ∙ among-with_names w [] (nets_named m)
