-- The reset tables of the one model: each is that of a latch, and no latch has two, since no two latches of the whole have one
-- name.
use Rattle.std.proofs.Common.{◌≡◌, ℕ, ◌+◌, Bool, true, false, not, ◌||◌, List, [], ◌∷◌, ◌++◌, length, get_or, map, refl, sym, ◌∙◌, ap}
use Rattle.std.specs.List.{AllByRecursion, flat_map}
use Rattle.std.proofs.lemmas.Bool.{false≢true, and_from, and_parts, or_left, or_right}
use Rattle.std.proofs.lemmas.List.{map-append}
use Rattle.std.proofs.lemmas.List.Elements.{recursion_from_All}
use Rattle.mv_base.specs.Names.{same_word, among, names_differ}
use Rattle.mv_base.proofs.NameLemmas.{among-append, same_word_refl}
use Rattle.mv_design.specs.declared.design.FileLatch.{FileLatch}
use Rattle.mv_design.specs.declared.design.FileModel.{FileModel}
use Rattle.mv_design.specs.declared.table.FileTable.{FileTable}
use Rattle.mv_design.specs.Nets.{latch_outputs, output_of}
use Rattle.mv_tree.specs.Bound.{FollowsGrammar}
use Rattle.mv_tree.specs.Places.{Place}
use Rattle.mv_tree.specs.Unfolded.{placed_reset, resets_in, latches_in, placed_latch, joined}
use Rattle.mv_tree.proofs.Each.{all_pass, named_passes}
use Rattle.mv_tree.proofs.Homes.{named_home}
use Rattle.mv_tree.proofs.Kept.{apart, same_name}
use Rattle.mv_tree.proofs.Named.{AreAmong, among_both, among_right, among_single}
use Rattle.mv_acyclic.specs.Sound.{HasResetsOfLatches, resets_named}
use Rattle.mv_unfold.proofs.Firsts.{both_differ}
use Rattle.mv_unfold.proofs.Wholly.{latch_homes}

-- ---- the names that a place gives its latches and reset tables

abbrev latches_at : Place → List (List ℕ)
latches_at p = map p.home (latch_outputs p.model)

abbrev resets_at : Place → List (List ℕ)
resets_at p = map p.home (resets_named p.model)

latches_are : (ps : List Place) → map (λ l. l.output) (latches_in ps) ≡ flat_map latches_at ps
latches_are [] = refl
latches_are (p ∷ ps) =
    map-append (λ (l : FileLatch). l.output) (map (placed_latch p) p.model.latches) (latches_in ps)
    ∙ (ap (λ ws. ws ++ map (λ (l : FileLatch). l.output) (latches_in ps)) (latch_homes p p.model.latches) ∙ ap (λ ws. latches_at p ++ ws) (latches_are ps))

single_output : (home : List ℕ → List ℕ) (outputs : List (List ℕ)) → length outputs ≡ 1 → get_or (map home outputs) 0 [] ≡ home (get_or outputs 0 [])
single_output home [] e = cc
single_output home (w ∷ ws) e = refl

resets_here : (at : ℕ) (p : Place) (ts : List FileTable) → AllByRecursion (λ t. length t.outputs ≡ 1) ts
    → map output_of (map (placed_reset at p) ts) ≡ map p.home (map output_of ts)
resets_here at p [] h = refl
resets_here at p (t ∷ ts) h = ap (λ w. w ∷ map output_of (map (placed_reset at p) ts)) (single_output p.home t.outputs h.0) ∙ ap (λ ws. p.home (output_of t) ∷ ws) (resets_here at p ts h.1)

resets_are : (at : ℕ) (ps : List Place) → AllByRecursion FollowsGrammar ps → map output_of (resets_in at ps) ≡ flat_map resets_at ps
resets_are at [] h = refl
resets_are at (p ∷ ps) h =
    let rest = resets_in (at + length p.model.tables) ps in
    map-append output_of (map (placed_reset at p) p.model.resets) rest
    ∙ (ap (λ ws. ws ++ map output_of rest)
    (resets_here at p p.model.resets (recursion_from_All (λ t. length t.outputs ≡ 1) p.model.resets (h.0).single))
    ∙ ap (λ ws. resets_at p ++ ws) (resets_are (at + length p.model.tables) ps h.1))

-- ---- names of some among others

homes_kept : (home : List ℕ → List ℕ) (rs ls : List (List ℕ)) → AreAmong rs ls → AreAmong (map home rs) (map home ls)
homes_kept home [] ls h = record { each = λ w e. absurd (false≢true e) }
homes_kept home (r ∷ rs) ls h =
    among_both (home r ∷ []) (map home rs) (map home ls)
    (among_single (home r) (map home ls) (named_home home ls r (h.each r (or_left _ _ (same_word_refl r)))))
    (homes_kept home rs ls (among_right (r ∷ []) rs ls h))

-- a name is among those of nets where its net is among these
among_homes : (home : List ℕ → List ℕ) (ls : List (List ℕ)) (r : List ℕ) (rs : List (List ℕ)) → names_differ (map home ls) ≡ true → among r ls ≡ true
    → AreAmong rs ls → among (home r) (map home rs) ≡ among r rs
among_homes home ls r [] d a h = refl
among_homes home ls r (s ∷ rs) d a h =
    ap (λ b. b || among (home r) (map home rs)) (same_name home ls r s d a (h.each s (or_left _ _ (same_word_refl s))))
    ∙ ap (λ b. same_word r s || b) (among_homes home ls r rs d a (among_right (s ∷ []) rs ls h))

homes_differ : (home : List ℕ → List ℕ) (ls rs : List (List ℕ)) → names_differ (map home ls) ≡ true → AreAmong rs ls → names_differ rs ≡ true
    → names_differ (map home rs) ≡ true
homes_differ home ls [] d h e = refl
homes_differ home ls (r ∷ rs) d h e =
    let q = and_parts (not (among r rs)) (names_differ rs) e in
    let rest = among_right (r ∷ []) rs ls h in
    let same = among_homes home ls r rs d (h.each r (or_left _ _ (same_word_refl r))) rest in
    and_from _ _ (ap not same ∙ q.0) (homes_differ home ls rs d rest q.1)

-- the latches of reset tables are latches
resets_among : (m : FileModel) → HasResetsOfLatches m → AreAmong (resets_named m) (latch_outputs m)
resets_among m h = record { each = λ w e. named_passes (λ u. among u (latch_outputs m)) (resets_named m) w h.latches e }

-- ---- the one model

-- the reset tables of places name latches of the whole, each another
record AreOfLatches (ps : List Place) : Type 0 where
  listed : AreAmong (flat_map resets_at ps) (flat_map latches_at ps)
  differ : names_differ (flat_map resets_at ps) ≡ true

of_latches : (ps : List Place) → AllByRecursion (λ p. HasResetsOfLatches p.model) ps → names_differ (flat_map latches_at ps) ≡ true → AreOfLatches ps
of_latches [] h d = record { listed = record { each = λ w e. absurd (false≢true e) }; differ = refl }
of_latches (p ∷ ps) h d =
    let parts = apart (latches_at p) (flat_map latches_at ps) d in
    let rest = of_latches ps h.1 parts.second in
    let here = resets_among p.model h.0 in
    let named = homes_kept p.home (resets_named p.model) (latch_outputs p.model) here in
    let all = flat_map latches_at (p ∷ ps) in
    record {
      listed =
          among_both (resets_at p) (flat_map resets_at ps) all
          (record { each = λ w e. among-append w (latches_at p) (flat_map latches_at ps) ∙ or_left _ _ (named.each w e) })
          (record { each = λ w e. among-append w (latches_at p) (flat_map latches_at ps) ∙ or_right (among w (latches_at p)) _ (rest.listed.each w e) });
      differ =
          both_differ (resets_at p) (flat_map resets_at ps)
          (homes_differ p.home (latch_outputs p.model) (resets_named p.model) parts.first here (h.0).differ) rest.differ
          (λ w e. not_there w (among w (flat_map resets_at ps)) refl (parts.none w (named.each w e)) rest);
    }
  where
    not_there : (w : List ℕ) (b : Bool) → among w (flat_map resets_at ps) ≡ b → among w (flat_map latches_at ps) ≡ false → AreOfLatches ps
        → among w (flat_map resets_at ps) ≡ false
    not_there w false e n r = e
    not_there w true e n r = absurd (false≢true (sym n ∙ r.listed.each w e))

-- in the model of all places each reset table has its own latch
pub joined_resets : (root : FileModel) (ps : List Place) → AllByRecursion FollowsGrammar ps → AllByRecursion (λ p. HasResetsOfLatches p.model) ps
    → names_differ (latch_outputs (joined root ps)) ≡ true → HasResetsOfLatches (joined root ps)
joined_resets root ps grammar h d =
    let ls = latches_are ps in
    let rs = resets_are 0 ps grammar in
    let r = of_latches ps h (ap names_differ (sym ls) ∙ d) in
    record {
      latches =
          all_pass (λ w. among w (latch_outputs (joined root ps))) (resets_named (joined root ps))
          (λ w e. ap (among w) ls ∙ r.listed.each w (ap (among w) (sym rs) ∙ e));
      differ = ap names_differ rs ∙ r.differ;
    }
