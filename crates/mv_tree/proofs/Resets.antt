-- Reset tables in a whole whose latches differ by name: a latch has there the reset tables that it has in its model.
use Rattle.std.proofs.Common.{◌≡◌, ℕ, ◌+◌, Bool, true, false, ◌||◌, List, [], ◌∷◌, ◌++◌, length, map, filter, All, refl, sym, ◌∙◌, ap, arith, ⊎_elim}
use Rattle.std.specs.Prelude.{slice_index_or}
use Rattle.std.specs.List.{AllByRecursion, flat_map}
use Rattle.std.proofs.lemmas.Bool.{false≢true, false_from_ne_true, or_cases, or_left, or_parts, or_right}
use Rattle.std.proofs.lemmas.List.{append-nil, map-append}
use Rattle.std.proofs.lemmas.List.Elements.{filter-append, recursion_from_All}
use Rattle.std.proofs.lemmas.Simd.{map-map}
use Rattle.mv_base.specs.Names.{same_word, among, names_differ}
use Rattle.mv_base.proofs.NameLemmas.{same_word_is, among-append}
use Rattle.mv_design.specs.declared.design.FileLatch.{FileLatch}
use Rattle.mv_design.specs.declared.design.FileModel.{FileModel}
use Rattle.mv_design.specs.declared.table.FileTable.{FileTable}
use Rattle.mv_design.specs.Nets.{latch_outputs, output_of}
use Rattle.mv_tree.specs.Places.{Place}
use Rattle.mv_tree.specs.Unfolded.{placed_latch, latches_in, placed_reset, resets_in}
use Rattle.mv_tree.specs.Bound.{resets_have_latches, FollowsGrammar}
use Rattle.mv_tree.proofs.Each.{each_among, each-both, each-from_test, each-map, each-mapped, each-weaker}
use Rattle.mv_tree.proofs.Homes.{named_home}
use Rattle.mv_tree.proofs.Kept.{Apart, apart, kept-map, kept-none, same_name}

-- ---- reset tables and latches

-- the reset table of a latch of its own model, its only output
pub record HasLatch (m : FileModel) (t : FileTable) : Type 0 where
  pub single : t.outputs ≡ output_of t ∷ []
  pub latch : among (output_of t) (latch_outputs m) ≡ true

-- each reset table of a place is that
pub record HasLatches (p : Place) : Type 0 where
  pub resets : AllByRecursion (HasLatch p.model) p.model.resets

single_is : (xs : List (List ℕ)) → length xs ≡ 1 → xs ≡ slice_index_or xs 0 [] ∷ []
single_is [] e = absurd (omega arith)
single_is (x ∷ []) e = refl
single_is (x ∷ y ∷ xs) e = absurd (omega arith)

pub all_have_latches : (ps : List Place) → All FollowsGrammar ps → All (λ p. resets_have_latches p.model ≡ true) ps → AllByRecursion HasLatches ps
all_have_latches ps grammar latches =
    let Own : Place → Type 0 = λ p. resets_have_latches p.model ≡ true in
    each-both FollowsGrammar Own HasLatches
    (λ p g o.
    record {
      resets = each-both (λ t. length t.outputs ≡ 1) (λ t. among (output_of t) (latch_outputs p.model) ≡ true) (HasLatch p.model)
          (λ t s l. record { single = single_is t.outputs s; latch = l }) p.model.resets
          (recursion_from_All (λ t. length t.outputs ≡ 1) p.model.resets g.single)
          (each-from_test (λ t. among (output_of t) (latch_outputs p.model)) p.model.resets o);
    })
    ps (recursion_from_All FollowsGrammar ps grammar) (recursion_from_All Own ps latches)

-- the names of the latches of all places
abbrev pub latch_homes_at : Place → List (List ℕ)
latch_homes_at p = map p.home (latch_outputs p.model)

abbrev pub latch_homes : List Place → List (List ℕ)
latch_homes ps = flat_map latch_homes_at ps

pub latch_outputs_in : (ps : List Place) → map (λ l. l.output) (latches_in ps) ≡ latch_homes ps
latch_outputs_in [] = refl
latch_outputs_in (p ∷ ps) =
    map-append (λ l. l.output) (map (placed_latch p) p.model.latches) (latches_in ps)
    ∙ (ap (λ ws. ws ++ map (λ l. l.output) (latches_in ps))
    (map-map (λ (l : FileLatch). l.output) (placed_latch p) p.model.latches ∙ sym (map-map p.home (λ (l : FileLatch). l.output) p.model.latches))
    ∙ ap (λ ws. latch_homes_at p ++ ws) (latch_outputs_in ps))

-- ---- which reset tables are of a latch

abbrev pub drives : List ℕ → FileTable → Bool
drives w t = among w t.outputs

-- of a place they are those that are in its model
here_alike : (p : Place) (at : ℕ) (latch : List ℕ) (t : FileTable) → HasLatch p.model t → names_differ (latch_homes_at p) ≡ true
    → among latch (latch_outputs p.model) ≡ true → drives (p.home latch) (placed_reset at p t) ≡ drives latch t
here_alike p at latch t h differ listed =
    let o = output_of t in
    ap (λ ws. among (p.home latch) (map p.home ws)) h.single
    ∙ (ap (λ b. b || false) (same_name p.home (latch_outputs p.model) latch o differ listed h.latch) ∙ ap (among latch) (sym h.single))

here_kept : (p : Place) (at : ℕ) (latch : List ℕ) → HasLatches p → names_differ (latch_homes_at p) ≡ true → among latch (latch_outputs p.model) ≡ true
    → filter (drives (p.home latch)) (map (placed_reset at p) p.model.resets) ≡ map (placed_reset at p) (filter (drives latch) p.model.resets)
here_kept p at latch h differ listed =
    kept-map (drives latch) (drives (p.home latch)) (placed_reset at p) p.model.resets
    (each-weaker (HasLatch p.model) _ (λ t g. here_alike p at latch t g differ listed) p.model.resets h.resets)

-- of a place none is of a latch of another
other_not : (p : Place) (at : ℕ) (w : List ℕ) (t : FileTable) → HasLatch p.model t → among w (latch_homes_at p) ≡ false
    → drives w (placed_reset at p t) ≡ false
other_not p at w t h new =
    let o = output_of t in
    ap (λ ws. among w (map p.home ws)) h.single
    ∙ false_from_ne_true _
    (λ e.
    ⊎_elim
    (λ (y : same_word w (p.home o) ≡ true).
    let there : among (p.home o) (latch_homes_at p) ≡ true = named_home p.home (latch_outputs p.model) o h.latch in
    false≢true (sym new ∙ (ap (λ x. among x (latch_homes_at p)) (same_word_is w (p.home o) y) ∙ there)))
    (λ (n : false ≡ true). false≢true n)
    (or_cases (same_word w (p.home o)) false e))

other_none : (p : Place) (at : ℕ) (w : List ℕ) → HasLatches p → among w (latch_homes_at p) ≡ false
    → filter (drives w) (map (placed_reset at p) p.model.resets) ≡ []
other_none p at w h new =
    kept-none (drives w) (map (placed_reset at p) p.model.resets)
    (each-map (λ t. drives w t ≡ false) (placed_reset at p) p.model.resets
    (each-weaker (HasLatch p.model) _ (λ t g. other_not p at w t g new) p.model.resets h.resets))

others_none : (at : ℕ) (ps : List Place) (w : List ℕ) → AllByRecursion HasLatches ps → among w (latch_homes ps) ≡ false → filter (drives w) (resets_in at ps) ≡ []
others_none at [] w h new = refl
others_none at (p ∷ ps) w h new =
    let q = or_parts (among w (latch_homes_at p)) (among w (latch_homes ps)) (sym (among-append w (latch_homes_at p) (latch_homes ps)) ∙ new) in
    let rest = at + length p.model.tables in
    filter-append (drives w) (map (placed_reset at p) p.model.resets) (resets_in rest ps)
    ∙ (ap (λ ts. ts ++ filter (drives w) (resets_in rest ps)) (other_none p at w h.0 q.0) ∙ others_none rest ps w h.1 q.1)

-- ---- each latch keeps its own

-- a latch of a place has in the whole the reset tables that it has in its model
pub record Keeps (at : ℕ) (ps : List Place) (p : Place) (l : FileLatch) : Type 0 where
  pub behind : ℕ
  pub kept : filter (drives (p.home l.output)) (resets_in at ps) ≡ map (placed_reset behind p) (filter (drives l.output) p.model.resets)
  pub listed : among (p.home l.output) (latch_homes ps) ≡ true

keep_here : (at : ℕ) (p : Place) (ps : List Place) (l : FileLatch) → HasLatches p → AllByRecursion HasLatches ps → Apart (latch_homes_at p) (latch_homes ps)
    → among l.output (latch_outputs p.model) ≡ true → Keeps at (p ∷ ps) p l
keep_here at p ps l h rest a listed =
    let w = p.home l.output in
    let own : among w (latch_homes_at p) ≡ true = named_home p.home (latch_outputs p.model) l.output listed in
    let behind = at + length p.model.tables in
    record {
      behind = at;
      kept = filter-append (drives w) (map (placed_reset at p) p.model.resets) (resets_in behind ps)
          ∙ (ap (λ ts. ts ++ filter (drives w) (resets_in behind ps)) (here_kept p at l.output h a.first listed)
          ∙ (ap (λ ts. map (placed_reset at p) (filter (drives l.output) p.model.resets) ++ ts) (others_none behind ps w rest (a.none w own))
          ∙ append-nil (map (placed_reset at p) (filter (drives l.output) p.model.resets))));
      listed = among-append w (latch_homes_at p) (latch_homes ps) ∙ or_left _ _ own;
    }

keep_there : (at : ℕ) (p : Place) (ps : List Place) (q : Place) (l : FileLatch) → HasLatches p → Apart (latch_homes_at p) (latch_homes ps)
    → Keeps (at + length p.model.tables) ps q l → Keeps at (p ∷ ps) q l
keep_there at p ps q l h a k =
    let w = q.home l.output in
    let new : among w (latch_homes_at p) ≡ false = false_from_ne_true _ (λ e. false≢true (sym (a.none w e) ∙ k.listed)) in
    let behind = at + length p.model.tables in
    record {
      behind = k.behind;
      kept = filter-append (drives w) (map (placed_reset at p) p.model.resets) (resets_in behind ps)
          ∙ (ap (λ ts. ts ++ filter (drives w) (resets_in behind ps)) (other_none p at w h new) ∙ k.kept);
      listed = among-append w (latch_homes_at p) (latch_homes ps) ∙ or_right (among w (latch_homes_at p)) _ k.listed;
    }

abbrev pub KeepsAll : ℕ → List Place → Place → Type 0
KeepsAll at ps p = AllByRecursion (Keeps at ps p) p.model.latches

pub all_keep : (at : ℕ) (ps : List Place) → AllByRecursion HasLatches ps → names_differ (latch_homes ps) ≡ true → AllByRecursion (KeepsAll at ps) ps
all_keep at [] h differ = tt
all_keep at (p ∷ ps) h differ =
    let a = apart (latch_homes_at p) (latch_homes ps) differ in
    let behind = at + length p.model.tables in (
      each-weaker (λ l. among l.output (latch_outputs p.model) ≡ true) (Keeps at (p ∷ ps) p) (λ l e. keep_here at p ps l h.0 h.1 a e) p.model.latches
          (each-mapped (λ w. among w (latch_outputs p.model) ≡ true) (λ l. l.output) p.model.latches (each_among (latch_outputs p.model))),
      each-weaker (KeepsAll behind ps) (KeepsAll at (p ∷ ps))
          (λ q k. each-weaker (Keeps behind ps q) (Keeps at (p ∷ ps) q) (λ l e. keep_there at p ps q l h.0 a e) q.model.latches k) ps (all_keep behind ps h.1 a.second),
    )
