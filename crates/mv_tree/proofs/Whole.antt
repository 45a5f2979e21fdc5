-- What the model of the whole names: nets of the whole, each of them at home in a place.
use Rattle.std.proofs.Common.{ℕ, suc, ◌+◌, List, [], ◌∷◌, length, map, subst}
use Rattle.std.specs.List.{AllByRecursion}
use Rattle.std.proofs.lemmas.Bool.{false≢true, or_left}
use Rattle.std.proofs.lemmas.List.{map-append}
use Rattle.mv_base.proofs.NameLemmas.{same_word_refl}
use Rattle.mv_design.specs.declared.design.FileLatch.{FileLatch}
use Rattle.mv_design.specs.declared.design.FileModel.{FileModel}
use Rattle.mv_design.specs.declared.table.FileTable.{FileTable}
use Rattle.mv_design.specs.Nets.{columns_of, nets_named}
use Rattle.mv_tree.specs.Places.{all_nets, Place, root_place, homes}
use Rattle.mv_tree.specs.Unfolded.{renamed, numbered, tables_in, placed_reset, resets_in, placed_latch, latches_in, joined}
use Rattle.mv_tree.proofs.Each.{each-append, each-map, each-weaker, each-from_flat}
use Rattle.mv_tree.proofs.Named.{latch_nets, AreAmong, nets_among, named_among, among_both, among_right, among_single}
use Rattle.mv_tree.proofs.Standing.{Stands}

-- the names of nets of a place are nets of the whole
pub homes_among : (ps : List Place) (p : Place) (ws : List (List ℕ)) → Stands ps p → AreAmong ws (all_nets p.model) → AreAmong (map p.home ws) (homes ps)
homes_among ps p [] h a = record { each = λ w e. absurd (false≢true e) }
homes_among ps p (u ∷ us) h a =
    among_both (p.home u ∷ []) (map p.home us) (homes ps) (among_single (p.home u) (homes ps) (h.listed u (a.each u (or_left _ _ (same_word_refl u)))))
    (homes_among ps p us h (among_right (u ∷ []) us (all_nets p.model) a))

columns_among : (ps : List Place) (p : Place) (line : ℕ) (t : FileTable) → Stands ps p → AreAmong (columns_of t) (all_nets p.model)
    → AreAmong (columns_of (renamed p.home line t)) (homes ps)
columns_among ps p line t h a =
    let P : List (List ℕ) → Type 0 = λ ws. AreAmong ws (homes ps) in
    subst P (map-append p.home t.inputs t.outputs) (homes_among ps p (columns_of t) h a)

abbrev TableAmong : List (List ℕ) → FileTable → Type 0
TableAmong names t = AreAmong (columns_of t) names

numbered_among : (ps : List Place) (p : Place) (at : ℕ) (ts : List FileTable) → Stands ps p → AllByRecursion (TableAmong (all_nets p.model)) ts
    → AllByRecursion (TableAmong (homes ps)) (numbered p.home at ts)
numbered_among ps p at [] h a = tt
numbered_among ps p at (t ∷ ts) h a = (columns_among ps p at t h a.0, numbered_among ps p (suc at) ts h a.1)

tables_among : (ps : List Place) (at : ℕ) (qs : List Place) → AllByRecursion (Stands ps) qs → AllByRecursion (TableAmong (homes ps)) (tables_in at qs)
tables_among ps at [] h = tt
tables_among ps at (q ∷ qs) h =
    each-append (TableAmong (homes ps)) (numbered q.home at q.model.tables) (tables_in (at + length q.model.tables) qs)
    (numbered_among ps q at q.model.tables h.0 (nets_among q.model).tables) (tables_among ps (at + length q.model.tables) qs h.1)

resets_among : (ps : List Place) (at : ℕ) (qs : List Place) → AllByRecursion (Stands ps) qs → AllByRecursion (TableAmong (homes ps)) (resets_in at qs)
resets_among ps at [] h = tt
resets_among ps at (q ∷ qs) h =
    each-append (TableAmong (homes ps)) (map (placed_reset at q) q.model.resets) (resets_in (at + length q.model.tables) qs)
    (each-map (TableAmong (homes ps)) (placed_reset at q) q.model.resets
    (each-weaker (TableAmong (all_nets q.model)) (λ t. TableAmong (homes ps) (placed_reset at q t)) (λ t a. columns_among ps q (placed_reset at q t).line t h.0 a)
    q.model.resets (nets_among q.model).resets))
    (resets_among ps (at + length q.model.tables) qs h.1)

abbrev LatchAmong : List (List ℕ) → FileLatch → Type 0
LatchAmong names l = AreAmong (latch_nets l) names

latches_among : (ps qs : List Place) → AllByRecursion (Stands ps) qs → AllByRecursion (LatchAmong (homes ps)) (latches_in qs)
latches_among ps qs h =
    let Good : Place → Type 0 = λ q. AllByRecursion (LatchAmong (homes ps)) (map (placed_latch q) q.model.latches) in
    each-from_flat (LatchAmong (homes ps)) (λ q. map (placed_latch q) q.model.latches) qs
    (each-weaker (Stands ps) Good
    (λ q s.
    each-map (LatchAmong (homes ps)) (placed_latch q) q.model.latches
    (each-weaker (LatchAmong (all_nets q.model)) (λ l. LatchAmong (homes ps) (placed_latch q l)) (λ l a. homes_among ps q (latch_nets l) s a)
    q.model.latches (nets_among q.model).latches)) qs h)

-- a net that the root names is one of the whole
root_among : (root : FileModel) (ps : List Place) (ws : List (List ℕ)) → Stands ps (root_place root) → AreAmong ws (all_nets root) → AreAmong ws (homes ps)
root_among root ps ws h a = record { each = λ w e. h.listed w (a.each w e) }

-- the model of the whole names nets of the whole alone
pub joined_among : (root : FileModel) (qs : List Place) → AllByRecursion (Stands (root_place root ∷ qs)) (root_place root ∷ qs)
    → AreAmong (nets_named (joined root (root_place root ∷ qs))) (homes (root_place root ∷ qs))
joined_among root qs h =
    let ps = root_place root ∷ qs in
    let own = nets_among root in
    named_among (joined root ps) (homes ps)
    (record {
      inputs = root_among root ps root.inputs h.0 own.inputs;
      outputs = root_among root ps root.outputs h.0 own.outputs;
      latches = latches_among ps ps h;
      resets = resets_among ps 0 ps h;
      tables = tables_among ps 0 ps h;
    })
