-- Rows that fit a table of a place fit it in the whole, where its nets have as many values; and what values nets may have.
use Rattle.std.proofs.Common.{◌≡◌, ℕ, ◌<◌, ◌≤◌, true, List, [], ◌∷◌, length, map, refl, sym, ◌∙◌, ap, arith, subst}
use Rattle.std.specs.Prelude.{slice_index_or}
use Rattle.std.specs.List.{AllByRecursion, list_all}
use Rattle.std.proofs.lemmas.Bool.{or_left, cond_both}
use Rattle.std.proofs.lemmas.List.{get_or-map, length-map}
use Rattle.std.proofs.lemmas.List.Elements.{All-from_recursion, recursion_from_All}
use Rattle.std.proofs.lemmas.Option.{slice_get-get_or}
use Rattle.mv_base.specs.declared.limits.TheConstants.{MAX_VALUES}
use Rattle.mv_base.specs.Names.{same_word, among, names_differ, is_net_name, is_value_name, is_word}
use Rattle.mv_base.specs.Set.{full, Within}
use Rattle.mv_base.proofs.NameLemmas.{among-at, same_word_refl}
use Rattle.mv_design.specs.declared.design.Decl.{Decl}
use Rattle.mv_design.specs.declared.table.Entry.{Entry}
use Rattle.mv_design.specs.declared.table.Entry.TheVariants.{Set, Same}
use Rattle.mv_design.specs.declared.table.FileTable.{FileTable}
use Rattle.mv_design.specs.declared.table.Row.{Row}
use Rattle.mv_design.specs.Nets.{columns_of}
use Rattle.mv_design.specs.Proper.{FitSets, FitOutput, FitOutputs, IsFileRow, IsFileTable, IsFileDecl}
use Rattle.mv_design.specs.Values.{count_of, two_values, values_of}
use Rattle.mv_tree.specs.Places.{all_nets, Place, homes}
use Rattle.mv_tree.specs.Unfolded.{decls_in, renamed}
use Rattle.mv_tree.proofs.Each.{each-weaker, each-from_names, test-from_each}
use Rattle.mv_tree.proofs.Named.{AreAmong, among_left, among_right}
use Rattle.mv_tree.proofs.Standing.{Stands}
use Rattle.mv_tree.proofs.Whole.{homes_among}

-- ---- rows

fit_sets : (ps : List Place) (p : Place) (nets : List (List ℕ)) (sets : List ℕ) → Stands ps p → AreAmong nets (all_nets p.model)
    → FitSets p.model.decls nets sets → FitSets (decls_in ps) (map p.home nets) sets
fit_sets ps p [] [] h a f = tt
fit_sets ps p [] (s ∷ sets) h a f = f
fit_sets ps p (net ∷ nets) [] h a f = f
fit_sets ps p (net ∷ nets) (s ∷ sets) h a f =
    let P : ℕ → Type 0 = λ n. Within s (full n) in (
      subst P (sym (h.count net (a.each net (or_left _ _ (same_word_refl net))))) f.0,
      fit_sets ps p nets sets h (among_right (net ∷ []) nets (all_nets p.model) a) f.1,
    )

fit_output : (ps : List Place) (p : Place) (ins : List (List ℕ)) (net : List ℕ) (e : Entry) → Stands ps p → AreAmong ins (all_nets p.model)
    → among net (all_nets p.model) ≡ true → FitOutput p.model.decls ins net e → FitOutput (decls_in ps) (map p.home ins) (p.home net) e
fit_output ps p ins net (Set s) h a listed f =
    let P : ℕ → Type 0 = λ n. Within s (full n) in subst P (sym (h.count net listed)) f
fit_output ps p ins net (Same k) h a listed f =
    let w = slice_index_or ins k [] in
    let there : among w (all_nets p.model) ≡ true = a.each w (among-at ins k w (slice_get-get_or ins k [] f.within)) in
    record {
      within = rw (length-map ins p.home) f.within;
      counts = ap (count_of (decls_in ps)) (get_or-map p.home ins k [] [] f.within) ∙ (h.count w there ∙ (f.counts ∙ sym (h.count net listed)));
    }

fit_outputs : (ps : List Place) (p : Place) (ins nets : List (List ℕ)) (es : List Entry) → Stands ps p → AreAmong ins (all_nets p.model)
    → AreAmong nets (all_nets p.model) → FitOutputs p.model.decls ins nets es → FitOutputs (decls_in ps) (map p.home ins) (map p.home nets) es
fit_outputs ps p ins [] [] h a b f = tt
fit_outputs ps p ins [] (e ∷ es) h a b f = f
fit_outputs ps p ins (net ∷ nets) [] h a b f = f
fit_outputs ps p ins (net ∷ nets) (e ∷ es) h a b f = (
  fit_output ps p ins net e h a (b.each net (or_left _ _ (same_word_refl net))) f.0,
  fit_outputs ps p ins nets es h a (among_right (net ∷ []) nets (all_nets p.model) b) f.1,
)

-- ---- tables

-- names of the whole are lawful
pub record AreLawful (names : List (List ℕ)) : Type 0 where
  pub each : (w : List ℕ) → among w names ≡ true → is_net_name w ≡ true

pub lawful_names : (names ws : List (List ℕ)) → AreLawful names → AreAmong ws names → list_all is_net_name ws ≡ true
lawful_names names ws lawful a = test-from_each is_net_name ws (each-from_names (λ w. is_net_name w ≡ true) ws (λ w e. lawful.each w (a.each w e)))

-- a table of a place is one of the whole
pub table_fits : (ps : List Place) (p : Place) (line : ℕ) (t : FileTable) → AreLawful (homes ps) → Stands ps p → AreAmong (columns_of t) (all_nets p.model)
    → IsFileTable p.model.decls t → IsFileTable (decls_in ps) (renamed p.home line t)
table_fits ps p line t lawful h a f =
    let ins = among_left t.inputs t.outputs _ a in
    let outs = among_right t.inputs t.outputs _ a in
    let FitsHere : Row → Type 0 = IsFileRow p.model.decls t in
    let FitsThere : Row → Type 0 = IsFileRow (decls_in ps) (renamed p.home line t) in
    record {
      inputs = lawful_names (homes ps) (map p.home t.inputs) lawful (homes_among ps p t.inputs h ins);
      outputs = lawful_names (homes ps) (map p.home t.outputs) lawful (homes_among ps p t.outputs h outs);
      some = let e = length-map t.outputs p.home in let s = f.some in omega (arith, e, s);
      rows = All-from_recursion FitsThere t.rows
          (each-weaker FitsHere FitsThere
          (λ r g. record { sets = fit_sets ps p t.inputs r.ins h ins g.sets; outs = fit_outputs ps p t.inputs t.outputs r.outs h ins outs g.outs })
          t.rows (recursion_from_All FitsHere t.rows f.rows));
      default = λ es e. fit_outputs ps p t.inputs t.outputs es h ins outs (f.default es e);
    }

-- ---- values

-- names of values such as a net may have
pub record AreValues (vs : List (List ℕ)) : Type 0 where
  pub some : 0 < length vs
  pub few : length vs ≤ MAX_VALUES
  pub lawful : list_all is_value_name vs ≡ true
  pub differ : names_differ vs ≡ true

two_are : AreValues two_values
unfolding is_value_name is_net_name is_word
two_are = record { some = omega arith; few = omega arith; lawful = refl; differ = refl }

-- each net has such
pub values_are : (ds : List Decl) (net : List ℕ) → AllByRecursion IsFileDecl ds → AreValues (values_of ds net)
values_are [] net h = two_are
values_are (d ∷ ds) net h =
    cond_both (same_word net d.net) d.values (values_of ds net) AreValues
    (λ _. record { some = h.0.some; few = h.0.few; lawful = h.0.lawful; differ = h.0.differ })
    (λ _. values_are ds net h.1)
