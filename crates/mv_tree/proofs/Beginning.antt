-- Latches of the whole: each may begin there with the values with which it may begin in its model, and it is seen from outside as
-- in its place.
use Rattle.std.proofs.Common.{◌≡◌, ℕ, Bool, true, ◌&&◌, List, [], ◌∷◌, ◌++◌, map, filter, refl, sym, ◌∙◌, ap}
use Rattle.std.specs.Prelude.{nat_lt}
use Rattle.std.specs.List.{AllByRecursion, list_all}
use Rattle.std.proofs.lemmas.Bool.{false≢true, and_from, and_parts, or_left, or_right}
use Rattle.std.proofs.lemmas.List.{map-append}
use Rattle.std.proofs.lemmas.List.Folds.{list_all-map}
use Rattle.std.proofs.lemmas.Simd.{map-map}
use Rattle.mv_base.specs.Names.{same_word, among}
use Rattle.mv_base.proofs.NameLemmas.{same_word_refl}
use Rattle.mv_design.specs.declared.design.FileLatch.{FileLatch}
use Rattle.mv_design.specs.declared.design.FileModel.{FileModel}
use Rattle.mv_design.specs.declared.table.FileTable.{FileTable}
use Rattle.mv_design.specs.Meaning.{has_reset_table, latch_port, lets_begin, may_begin, may_begin_all}
use Rattle.mv_design.specs.Nets.{columns_of}
use Rattle.mv_design.specs.Tables.{table_allows}
use Rattle.mv_design.specs.Values.{count_of}
use Rattle.mv_tree.specs.Places.{all_nets, Place}
use Rattle.mv_tree.specs.Unfolded.{placed_latch, latches_in, placed_reset, resets_in, joined}
use Rattle.mv_tree.specs.Meaning.{BeginWith, placed_port, ports_of}
use Rattle.mv_tree.proofs.Each.{each-both, each-weaker}
use Rattle.mv_tree.proofs.Homes.{Seat, places_of}
use Rattle.mv_tree.proofs.Named.{latch_nets, AreAmong, among_left, nets_among}
use Rattle.mv_tree.proofs.Inside.{TellsAll}
use Rattle.mv_tree.proofs.Seats.{valued}
use Rattle.mv_tree.proofs.Standing.{Stands}
use Rattle.mv_tree.proofs.Allowing.{map_told, StandsAt}
use Rattle.mv_tree.proofs.Kept.{some, some-map, any-kept, all-kept, kept-alike}
use Rattle.mv_tree.proofs.Resets.{drives, Keeps, KeepsAll}

-- ---- the reset tables of a latch

has_reset_same : (ps : List Place) (p : Place) (l : FileLatch) → Keeps 0 ps p l → has_reset_table (resets_in 0 ps) (placed_latch p l) ≡ has_reset_table p.model.resets l
has_reset_same ps p l k =
    any-kept (drives (p.home l.output)) (resets_in 0 ps)
    ∙ (ap some k.kept ∙ (some-map (placed_reset k.behind p) (filter (drives l.output) p.model.resets) ∙ sym (any-kept (drives l.output) p.model.resets)))

-- a table allows the latch of its output to begin with r
abbrev allows_first : (List ℕ → ℕ) → ℕ → FileTable → Bool
allows_first value r t = table_allows t.rows t.default (map value t.inputs) (r ∷ [])

lets_same : (ps : List Place) (value : List ℕ → ℕ) (s : Seat ℕ) (l : FileLatch) (r : ℕ) → TellsAll value s → Keeps 0 ps s.place l
    → list_all (lets_begin value (placed_latch s.place l) r) (resets_in 0 ps) ≡ list_all (lets_begin s.tells l r) s.place.model.resets
lets_same ps value s l r h k =
    let p = s.place in
    let its = drives l.output in
    all-kept (drives (p.home l.output)) (allows_first value r) (resets_in 0 ps)
    ∙ (ap (list_all (allows_first value r)) k.kept
    ∙ (list_all-map (allows_first value r) (placed_reset k.behind p) (filter its p.model.resets)
    ∙ (kept-alike its (λ t. allows_first value r (placed_reset k.behind p t)) (allows_first s.tells r) p.model.resets
    (each-weaker (λ t. AreAmong (columns_of t) (all_nets p.model)) _
    (λ t a. ap (λ vs. table_allows t.rows t.default vs (r ∷ [])) (map_told value s t.inputs h (among_left t.inputs t.outputs _ a)))
    p.model.resets (nets_among p.model).resets)
    ∙ sym (all-kept its (allows_first s.tells r) p.model.resets))))

-- ---- reset values

-- a latch of a place may begin in the whole with the values with which it may in its model
pub record BeginsAlike (whole : FileModel) (value : List ℕ → ℕ) (s : Seat ℕ) (l : FileLatch) : Type 0 where
  pub alike : (r : ℕ) → may_begin whole value (placed_latch s.place l) r ≡ may_begin s.place.model s.tells l r

latch_output_net : (m : FileModel) (l : FileLatch) → AreAmong (latch_nets l) (all_nets m) → among l.output (all_nets m) ≡ true
latch_output_net m l a = a.each l.output (or_right (same_word l.output l.input) _ (or_left _ _ (same_word_refl l.output)))

begins_alike : (root : FileModel) (ps : List Place) (value : List ℕ → ℕ) (s : Seat ℕ) (l : FileLatch) → Stands ps s.place → TellsAll value s
    → AreAmong (latch_nets l) (all_nets s.place.model) → Keeps 0 ps s.place l → BeginsAlike (joined root ps) value s l
begins_alike root ps value s l stands h a k =
    record {
      alike = λ r.
          ap (λ n. nat_lt r n && list_all (lets_begin value (placed_latch s.place l) r) (resets_in 0 ps)) (stands.count l.output (latch_output_net s.place.model l a))
          ∙ ap (λ b. may_have r && b) (lets_same ps value s l r h k);
    }
  where
    may_have : ℕ → Bool
    may_have r = nat_lt r (count_of s.place.model.decls l.output)

abbrev pub LatchesAlike : FileModel → (List ℕ → ℕ) → Seat ℕ → Type 0
LatchesAlike whole value s = AllByRecursion (BeginsAlike whole value s) s.place.model.latches

pub latches_alike : (root : FileModel) (ps : List Place) (value : List ℕ → ℕ) (ss : List (Seat ℕ)) → AllByRecursion (StandsAt ps) ss
    → AllByRecursion (TellsAll value) ss → AllByRecursion (λ s. KeepsAll 0 ps s.place) ss → AllByRecursion (LatchesAlike (joined root ps) value) ss
latches_alike root ps value ss stand tell keep =
    let Both : Seat ℕ → Type 0 = λ s. StandsAt ps s × TellsAll value s in
    each-both Both (λ s. KeepsAll 0 ps s.place) (LatchesAlike (joined root ps) value)
    (λ s b k.
    let m = s.place.model in
    each-both (λ l. AreAmong (latch_nets l) (all_nets m)) (Keeps 0 ps s.place) (BeginsAlike (joined root ps) value s)
    (λ l a kept. begins_alike root ps value s l b.0 b.1 a kept) m.latches (nets_among m).latches k)
    ss (each-both (StandsAt ps) (TellsAll value) Both (λ s a b. (a, b)) ss stand tell) keep

-- the first of some reset values are those of a place, and the others those of the rest
record Begun (whole : FileModel) (value : List ℕ → ℕ) (s : Seat ℕ) (ls more : List FileLatch) (r : List ℕ) : Type 0 where
  here : List ℕ
  rest : List ℕ
  joined : r ≡ here ++ rest
  begins : may_begin_all s.place.model s.tells ls here ≡ true
  others : may_begin_all whole value more rest ≡ true

begun : (whole : FileModel) (value : List ℕ → ℕ) (s : Seat ℕ) (ls more : List FileLatch) (r : List ℕ) → AllByRecursion (BeginsAlike whole value s) ls
    → may_begin_all whole value (map (placed_latch s.place) ls ++ more) r ≡ true → Begun whole value s ls more r
begun whole value s [] more r h b = record { here = []; rest = r; joined = refl; begins = refl; others = b }
begun whole value s (l ∷ ls) more [] h b = absurd (false≢true b)
begun whole value s (l ∷ ls) more (v ∷ r) h b =
    let q = and_parts (may_begin whole value (placed_latch s.place l) v) _ b in
    let f = begun whole value s ls more r h.1 q.1 in
    record {
      here = v ∷ f.here;
      rest = f.rest;
      joined = ap (λ vs. v ∷ vs) f.joined;
      begins = and_from _ _ (sym (h.0.alike v) ∙ q.0) f.begins;
      others = f.others;
    }

begin_both : (whole : FileModel) (value : List ℕ → ℕ) (s : Seat ℕ) (ls more : List FileLatch) (here rest : List ℕ) → AllByRecursion (BeginsAlike whole value s) ls
    → may_begin_all s.place.model s.tells ls here ≡ true → may_begin_all whole value more rest ≡ true
    → may_begin_all whole value (map (placed_latch s.place) ls ++ more) (here ++ rest) ≡ true
begin_both whole value s [] more [] rest h b c = c
begin_both whole value s [] more (v ∷ here) rest h b c = absurd (false≢true b)
begin_both whole value s (l ∷ ls) more [] rest h b c = absurd (false≢true b)
begin_both whole value s (l ∷ ls) more (v ∷ here) rest h b c =
    let q = and_parts (may_begin s.place.model s.tells l v) _ b in
    and_from _ _ (h.0.alike v ∙ q.0) (begin_both whole value s ls more here rest h.1 q.1 c)

-- reset values of the whole are those of the places in turn
pub begin_inside : (whole : FileModel) (value : List ℕ → ℕ) (ss : List (Seat ℕ)) (r : List ℕ) → AllByRecursion (LatchesAlike whole value) ss
    → may_begin_all whole value (latches_in (places_of ss)) r ≡ true → BeginWith (map valued ss) r
begin_inside whole value [] [] h b = refl
begin_inside whole value [] (v ∷ r) h b = absurd (false≢true b)
begin_inside whole value (s ∷ ss) r h b =
    let f = begun whole value s s.place.model.latches (latches_in (places_of ss)) r h.0 b in
    record { here = f.here; rest = f.rest; joined = f.joined; begins = f.begins; others = begin_inside whole value ss f.rest h.1 f.others }

-- and the other way round
pub begin_outside : (whole : FileModel) (value : List ℕ → ℕ) (ss : List (Seat ℕ)) (r : List ℕ) → AllByRecursion (LatchesAlike whole value) ss
    → BeginWith (map valued ss) r → may_begin_all whole value (latches_in (places_of ss)) r ≡ true
begin_outside whole value [] r h b = ap (may_begin_all whole value []) b
begin_outside whole value (s ∷ ss) r h b =
    let more = latches_in (places_of ss) in
    ap (may_begin_all whole value (map (placed_latch s.place) s.place.model.latches ++ more)) b.joined
    ∙ begin_both whole value s s.place.model.latches more b.here b.rest h.0 b.begins (begin_outside whole value ss b.rest h.1 b.others)

-- ---- what is seen of latches

pub map_alike : {X Y : Type 0} (f g : X → Y) (xs : List X) → AllByRecursion (λ x. f x ≡ g x) xs → map f xs ≡ map g xs
map_alike f g [] h = refl
map_alike f g (x ∷ xs) h = ap (λ y. y ∷ map f xs) h.0 ∙ ap (λ ys. g x ∷ ys) (map_alike f g xs h.1)

latch_same : (root : FileModel) (ps : List Place) (p : Place) (l : FileLatch) → Stands ps p → AreAmong (latch_nets l) (all_nets p.model) → Keeps 0 ps p l
    → latch_port (joined root ps) (placed_latch p l) ≡ placed_port p l
latch_same root ps p l stands a k =
    ap (λ vs. record { name = p.home l.output; values = vs; has_reset = has_reset_table (resets_in 0 ps) (placed_latch p l) })
    (stands.values l.output (latch_output_net p.model l a))
    ∙ ap (λ b. record { name = p.home l.output; values = p.values l.output; has_reset = b }) (has_reset_same ps p l k)

pub latches_seen : (root : FileModel) (ps qs : List Place) → AllByRecursion (Stands ps) qs → AllByRecursion (KeepsAll 0 ps) qs
    → map (latch_port (joined root ps)) (latches_in qs) ≡ ports_of qs
latches_seen root ps [] stand keep = refl
latches_seen root ps (q ∷ qs) stand keep =
    let seen = latch_port (joined root ps) in
    let these = map (placed_latch q) q.model.latches in
    map-append seen these (latches_in qs)
    ∙ (ap (λ vs. vs ++ map seen (latches_in qs))
    (map-map seen (placed_latch q) q.model.latches
    ∙ map_alike (λ l. seen (placed_latch q l)) (placed_port q) q.model.latches
    (each-both (λ l. AreAmong (latch_nets l) (all_nets q.model)) (Keeps 0 ps q) (λ l. seen (placed_latch q l) ≡ placed_port q l)
    (λ l a k. latch_same root ps q l stand.0 a k) q.model.latches (nets_among q.model).latches keep.0))
    ∙ ap (λ vs. map (placed_port q) q.model.latches ++ vs) (latches_seen root ps qs stand.1 keep.1))
