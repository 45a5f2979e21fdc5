-- What the commands of a model name: each of its nets is an input or an output of the model, an actual of an instance, a column
-- of a table or of a reset table, or what a latch reads or drives.
use Rattle.std.proofs.Common.{◌≡◌, ℕ, Bool, true, false, not, ◌||◌, List, [], ◌∷◌, ◌++◌, map, refl, sym, ◌∙◌, ap, ⊎_elim}
use Rattle.std.specs.List.{AllByRecursion, list_any, flat_map}
use Rattle.std.proofs.lemmas.Bool.{false≢true, cases_Bool, or_cases, or_left, or_right}
use Rattle.std.proofs.lemmas.Map.Views.{any-filter_same}
use Rattle.mv_base.specs.Firsts.{firsts_by}
use Rattle.mv_base.specs.Names.{same_word, among}
use Rattle.mv_base.proofs.NameLemmas.{same_word_is, among-append}
use Rattle.mv_design.specs.declared.design.FileLatch.{FileLatch}
use Rattle.mv_design.specs.declared.design.FileModel.{FileModel}
use Rattle.mv_design.specs.declared.design.Instance.{Instance}
use Rattle.mv_design.specs.ByLine.{by_line}
use Rattle.mv_design.proofs.ByLine.{any-by_line}
use Rattle.mv_design.specs.Nets.{Naming, columns_of, latch_naming, namings, nets_named, table_naming}
use Rattle.mv_tree.specs.Places.{instance_naming, all_namings, all_nets}

-- ---- the names of commands

abbrev naming_has : List ℕ → Naming → Bool
naming_has w n = among w n.nets

among_named : (w : List ℕ) (ns : List Naming) → among w (flat_map (λ x. x.nets) ns) ≡ list_any (naming_has w) ns
among_named w [] = refl
among_named w (n ∷ ns) = among-append w n.nets (flat_map (λ x. x.nets) ns) ∙ ap (λ b. among w n.nets || b) (among_named w ns)

named_by : {X : Type 0} (naming : X → Naming) (w : List ℕ) (xs : List X) → list_any (naming_has w) (map naming xs) ≡ among w (flat_map (λ x. (naming x).nets) xs)
named_by naming w [] = refl
named_by naming w (x ∷ xs) =
    ap (λ b. among w (naming x).nets || b) (named_by naming w xs) ∙ sym (among-append w (naming x).nets (flat_map (λ y. (naming y).nets) xs))

abbrev pub latch_nets : FileLatch → List (List ℕ)
latch_nets l = l.input ∷ l.output ∷ []

abbrev pub actuals : Instance → List (List ℕ)
actuals p = map (λ b. b.actual) p.binds

-- what latches, reset tables and tables name
abbrev pub command_nets : FileModel → List (List ℕ)
command_nets m = flat_map latch_nets m.latches ++ (flat_map columns_of m.resets ++ flat_map columns_of m.tables)

among_namings : (w : List ℕ) (m : FileModel) → list_any (naming_has w) (namings m) ≡ among w (command_nets m)
unfolding namings
among_namings w m =
    let line : Naming → ℕ = λ n. n.line in
    let resets = map table_naming m.resets in
    let tables = map table_naming m.tables in
    any-by_line line (naming_has w) (map latch_naming m.latches) (by_line line resets tables)
    ∙ (rw (any-by_line line (naming_has w) resets tables, named_by latch_naming w m.latches, named_by table_naming w m.resets, named_by table_naming w m.tables)
    (sym (among-append w (flat_map latch_nets m.latches) _ ∙ ap (λ b. among w (flat_map latch_nets m.latches) || b) (among-append w (flat_map columns_of m.resets) _))))

same_behind : (w : List ℕ) (us vs ws : List (List ℕ)) → among w vs ≡ among w ws → among w (us ++ vs) ≡ among w (us ++ ws)
same_behind w us vs ws e = among-append w us vs ∙ (ap (λ b. among w us || b) e ∙ sym (among-append w us ws))

-- what a model names, in no order
among-nets_named : (w : List ℕ) (m : FileModel) → among w (nets_named m) ≡ among w (m.inputs ++ (m.outputs ++ command_nets m))
unfolding nets_named
among-nets_named w m =
    same_behind w m.inputs _ _ (same_behind w m.outputs _ _ (among_named w (namings m) ∙ among_namings w m))

-- a name is among the first of each where it is among them
among-firsts : (w : List ℕ) (ws : List (List ℕ)) → among w (firsts_by same_word ws) ≡ among w ws
among-firsts w [] = refl
among-firsts w (u ∷ us) =
    ⊎_elim (λ (y : same_word w u ≡ true). rw y refl)
    (λ (n : same_word w u ≡ false).
    ap (λ b. same_word w u || b)
    (any-filter_same (same_word w) (λ z. not (same_word z u)) true (λ k e. ap not (ap (λ z. same_word z u) (sym (same_word_is w k e)) ∙ n))
    (firsts_by same_word us)
    ∙ among-firsts w us))
    (cases_Bool (same_word w u))

-- the nets of a model, in no order
pub among-all_nets : (w : List ℕ) (m : FileModel) → among w (all_nets m) ≡ among w (m.inputs ++ (m.outputs ++ (flat_map actuals m.instances ++ command_nets m)))
unfolding all_nets all_namings
among-all_nets w m =
    among-firsts w _
    ∙ same_behind w m.inputs _ _ (same_behind w m.outputs _ _
    (among_named w (all_namings m)
    ∙ (any-by_line (λ n. n.line) (naming_has w) (map instance_naming m.instances) (namings m)
    ∙ (rw (named_by instance_naming w m.instances, among_namings w m) (sym (among-append w (flat_map actuals m.instances) (command_nets m)))))))

-- ---- names among others

-- these names are all among those
pub record AreAmong (ws names : List (List ℕ)) : Type 0 where
  pub each : (w : List ℕ) → among w ws ≡ true → among w names ≡ true

pub among_left : (us ws names : List (List ℕ)) → AreAmong (us ++ ws) names → AreAmong us names
among_left us ws names h = record { each = λ w e. h.each w (among-append w us ws ∙ or_left _ _ e) }

pub among_right : (us ws names : List (List ℕ)) → AreAmong (us ++ ws) names → AreAmong ws names
among_right us ws names h = record { each = λ w e. h.each w (among-append w us ws ∙ or_right (among w us) _ e) }

pub among_both : (us ws names : List (List ℕ)) → AreAmong us names → AreAmong ws names → AreAmong (us ++ ws) names
among_both us ws names h k =
    record { each = λ w e. ⊎_elim (λ (y : among w us ≡ true). h.each w y) (λ (y : among w ws ≡ true). k.each w y) (or_cases _ _ (sym (among-append w us ws) ∙ e)) }

pub among_single : (u : List ℕ) (names : List (List ℕ)) → among u names ≡ true → AreAmong (u ∷ []) names
among_single u names h =
    record {
      each = λ w e.
          ⊎_elim (λ (y : same_word w u ≡ true). ap (λ x. among x names) (same_word_is w u y) ∙ h) (λ (n : false ≡ true). absurd (false≢true n))
          (or_cases _ _ e);
    }

-- the names of each element
pub among_each : {X : Type 0} (f : X → List (List ℕ)) (xs : List X) (names : List (List ℕ)) → AreAmong (flat_map f xs) names
    → AllByRecursion (λ x. AreAmong (f x) names) xs
among_each f [] names h = tt
among_each f (x ∷ xs) names h = (among_left (f x) (flat_map f xs) names h, among_each f xs names (among_right (f x) (flat_map f xs) names h))

pub among_all : {X : Type 0} (f : X → List (List ℕ)) (xs : List X) (names : List (List ℕ)) → AllByRecursion (λ x. AreAmong (f x) names) xs
    → AreAmong (flat_map f xs) names
among_all f [] names h = record { each = λ w e. absurd (false≢true e) }
among_all f (x ∷ xs) names h = among_both (f x) (flat_map f xs) names h.0 (among_all f xs names h.1)

-- ---- the nets of a model

all_among : (m : FileModel) → AreAmong (m.inputs ++ (m.outputs ++ (flat_map actuals m.instances ++ command_nets m))) (all_nets m)
all_among m = record { each = λ w e. among-all_nets w m ∙ e }

-- what names the nets of a model: its inputs and outputs, its instances, and its tables, latches and reset tables
pub record NamesAmong (m : FileModel) (names : List (List ℕ)) : Type 0 where
  pub inputs : AreAmong m.inputs names
  pub outputs : AreAmong m.outputs names
  pub latches : AllByRecursion (λ l. AreAmong (latch_nets l) names) m.latches
  pub resets : AllByRecursion (λ t. AreAmong (columns_of t) names) m.resets
  pub tables : AllByRecursion (λ t. AreAmong (columns_of t) names) m.tables

-- all of that is among the nets of the model
pub nets_among : (m : FileModel) → NamesAmong m (all_nets m)
nets_among m =
    let all = all_among m in
    let behind = among_right m.inputs _ _ all in
    let commands = among_right (flat_map actuals m.instances) _ _ (among_right m.outputs _ _ behind) in
    let tables = among_right (flat_map latch_nets m.latches) _ _ commands in
    record {
      inputs = among_left m.inputs _ _ all;
      outputs = among_left m.outputs _ _ behind;
      latches = among_each latch_nets m.latches _ (among_left _ _ _ commands);
      resets = among_each columns_of m.resets _ (among_left _ _ _ tables);
      tables = among_each columns_of m.tables _ (among_right (flat_map columns_of m.resets) _ _ tables);
    }

-- and so is what its instances name
pub actuals_among : (m : FileModel) → AllByRecursion (λ p. AreAmong (actuals p) (all_nets m)) m.instances
actuals_among m = among_each actuals m.instances _ (among_left _ (command_nets m) _ (among_right m.outputs _ _ (among_right m.inputs _ _ (all_among m))))

-- names that take in what names a model's nets, but for its instances, take in what it names
pub named_among : (m : FileModel) (names : List (List ℕ)) → NamesAmong m names → AreAmong (nets_named m) names
named_among m names h =
    let tables = among_both _ _ names (among_all columns_of m.resets names h.resets) (among_all columns_of m.tables names h.tables) in
    let commands = among_both _ _ names (among_all latch_nets m.latches names h.latches) tables in
    let all = among_both m.inputs _ names h.inputs (among_both m.outputs _ names h.outputs commands) in
    record { each = λ w e. all.each w (sym (among-nets_named w m) ∙ e) }
