-- Values of the names of the whole, and the values of the nets of each place: the whole allows the first where each place allows
-- its own.
use Rattle.std.proofs.Common.{◌≡◌, ℕ, suc, ◌+◌, Bool, true, ◌&&◌, List, [], ◌∷◌, ◌++◌, length, map, refl, sym, ◌∙◌, ap}
use Rattle.std.specs.Prelude.{nat_lt}
use Rattle.std.specs.List.{AllByRecursion, flat_map, list_all}
use Rattle.std.proofs.lemmas.Bool.{or_left, or_right}
use Rattle.std.proofs.lemmas.List.{map-append}
use Rattle.std.proofs.lemmas.List.Folds.{list_all-append}
use Rattle.mv_base.specs.Names.{same_word, among}
use Rattle.mv_base.proofs.NameLemmas.{same_word_refl}
use Rattle.mv_design.specs.declared.design.FileLatch.{FileLatch}
use Rattle.mv_design.specs.declared.table.FileTable.{FileTable}
use Rattle.mv_design.specs.Meaning.{in_values, table_holds}
use Rattle.mv_design.specs.Nets.{columns_of}
use Rattle.mv_design.specs.Tables.{table_allows}
use Rattle.mv_design.specs.Values.{count_of}
use Rattle.mv_tree.specs.Places.{all_nets, Place, own_nets, homes}
use Rattle.mv_tree.specs.Unfolded.{renamed, numbered, tables_in, placed_latch, latches_in, decls_in}
use Rattle.mv_tree.proofs.Each.{all_pass, named_passes, each-both, each-map}
use Rattle.mv_tree.proofs.Homes.{Seat, places_of, each_home}
use Rattle.mv_tree.proofs.Named.{latch_nets, AreAmong, nets_among, among_left, among_right}
use Rattle.mv_tree.proofs.Inside.{TellsAll, own_is_net}
use Rattle.mv_tree.proofs.Seats.{valued}
use Rattle.mv_tree.proofs.Standing.{Stands}

-- ---- nets

-- names of a place have in the whole the values that they have there
pub map_told : {X : Type 0} (f : List ℕ → X) (s : Seat X) (ws : List (List ℕ)) → TellsAll f s → AreAmong ws (all_nets s.place.model)
    → map f (map s.place.home ws) ≡ map s.tells ws
map_told f s [] h a = refl
map_told f s (w ∷ ws) h a =
    ap (λ x. x ∷ map f (map s.place.home ws)) (h.all w (a.each w (or_left _ _ (same_word_refl w))))
    ∙ ap (λ xs. s.tells w ∷ xs) (map_told f s ws h (among_right (w ∷ []) ws (all_nets s.place.model) a))

-- ---- tables

table_same : (value : List ℕ → ℕ) (s : Seat ℕ) (line : ℕ) (t : FileTable) → TellsAll value s → AreAmong (columns_of t) (all_nets s.place.model)
    → table_holds value (renamed s.place.home line t) ≡ table_holds s.tells t
table_same value s line t h a =
    ap (λ vs. table_allows t.rows t.default vs (map value (map s.place.home t.outputs))) (map_told value s t.inputs h (among_left t.inputs t.outputs _ a))
    ∙ ap (table_allows t.rows t.default (map s.tells t.inputs)) (map_told value s t.outputs h (among_right t.inputs t.outputs _ a))

numbered_same : (value : List ℕ → ℕ) (s : Seat ℕ) (at : ℕ) (ts : List FileTable) → TellsAll value s
    → AllByRecursion (λ t. AreAmong (columns_of t) (all_nets s.place.model)) ts
    → list_all (table_holds value) (numbered s.place.home at ts) ≡ list_all (table_holds s.tells) ts
numbered_same value s at [] h a = refl
numbered_same value s at (t ∷ ts) h a =
    ap (λ b. b && list_all (table_holds value) (numbered s.place.home (suc at) ts)) (table_same value s at t h a.0)
    ∙ ap (λ b. table_holds s.tells t && b) (numbered_same value s (suc at) ts h a.1)

-- the tables of a place hold
abbrev pub tables_hold : Seat ℕ → Bool
tables_hold s = list_all (table_holds s.tells) s.place.model.tables

-- the tables of the whole hold where those of each place do
pub tables_same : (value : List ℕ → ℕ) (at : ℕ) (ss : List (Seat ℕ)) → AllByRecursion (TellsAll value) ss
    → list_all (table_holds value) (tables_in at (places_of ss)) ≡ list_all tables_hold ss
tables_same value at [] h = refl
tables_same value at (s ∷ ss) h =
    let p = s.place in
    list_all-append (table_holds value) (numbered p.home at p.model.tables) (tables_in (at + length p.model.tables) (places_of ss))
    ∙ (ap (λ b. b && list_all (table_holds value) (tables_in (at + length p.model.tables) (places_of ss)))
    (numbered_same value s at p.model.tables h.0 (nets_among p.model).tables)
    ∙ ap (λ b. tables_hold s && b) (tables_same value (at + length p.model.tables) ss h.1))

-- ---- ranges

-- the value of a net of a place is one of the net's where it is in the whole
range_same : (ps : List Place) (value : List ℕ → ℕ) (s : Seat ℕ) → Stands ps s.place → TellsAll value s → (net : List ℕ)
    → among net (all_nets s.place.model) ≡ true
    → nat_lt (value (s.place.home net)) (count_of (decls_in ps) (s.place.home net)) ≡ nat_lt (s.tells net) (count_of s.place.model.decls net)
range_same ps value s stands h net listed =
    ap (λ v. nat_lt v (count_of (decls_in ps) (s.place.home net))) (h.all net listed) ∙ ap (nat_lt (s.tells net)) (stands.count net listed)

abbrev pub StandsAt : List Place → Seat ℕ → Type 0
StandsAt ps s = Stands ps s.place

-- the values of the nets of a place are some of theirs
abbrev pub InRange : Seat ℕ → Type 0
InRange s = in_values s.place.model.decls s.tells (all_nets s.place.model) ≡ true

-- values in range in the whole are in range in each place
pub range_inside : (ps : List Place) (value : List ℕ → ℕ) (ss : List (Seat ℕ)) → AllByRecursion (StandsAt ps) ss → AllByRecursion (TellsAll value) ss
    → ((w : List ℕ) → among w (homes ps) ≡ true → nat_lt (value w) (count_of (decls_in ps) w) ≡ true)
    → AllByRecursion InRange ss
range_inside ps value ss stand h range =
    each-both (StandsAt ps) (TellsAll value) InRange
    (λ s stands tells.
    let p = s.place in
    all_pass (λ net. nat_lt (s.tells net) (count_of p.model.decls net)) (all_nets p.model)
    (λ net listed. sym (range_same ps value s stands tells net listed) ∙ range (p.home net) (stands.listed net listed)))
    ss stand h

-- and the other way round
pub range_outside : (ps : List Place) (value : List ℕ → ℕ) (ss : List (Seat ℕ)) → places_of ss ≡ ps → AllByRecursion (StandsAt ps) ss
    → AllByRecursion (TellsAll value) ss → AllByRecursion InRange ss
    → (w : List ℕ) → among w (homes ps) ≡ true → nat_lt (value w) (count_of (decls_in ps) w) ≡ true
range_outside ps value ss are stand h range w listed =
    let Fits : List ℕ → Type 0 = λ name. nat_lt (value name) (count_of (decls_in ps) name) ≡ true in
    let Owns : Place → Type 0 = λ p. (net : List ℕ) → among net (own_nets p) ≡ true → Fits (p.home net) in
    let Both : Seat ℕ → Type 0 = λ s. StandsAt ps s × TellsAll value s in
    each_home Fits (places_of ss)
    (each-map Owns (λ s. s.place) ss
    (each-both Both InRange (λ s. Owns s.place)
    (λ s both good net own.
    let there = own_is_net s.place net own in
    range_same ps value s both.0 both.1 net there
    ∙ named_passes (λ n. nat_lt (s.tells n) (count_of s.place.model.decls n)) (all_nets s.place.model) net good there)
    ss (each-both (StandsAt ps) (TellsAll value) Both (λ s a b. (a, b)) ss stand h) range))
    w (ap (λ qs. among w (homes qs)) are ∙ listed)

-- ---- latches

-- a net of a latch: what the latch reads, or what it drives
pub record IsLatchNet (net : FileLatch → List ℕ) : Type 0 where
  pub moves : (p : Place) (l : FileLatch) → net (placed_latch p l) ≡ p.home (net l)
  pub of_latch : (l : FileLatch) → among (net l) (latch_nets l) ≡ true

latch_net_told : (value : List ℕ → ℕ) (s : Seat ℕ) (net : FileLatch → List ℕ) → IsLatchNet net → TellsAll value s → (ls : List FileLatch)
    → AllByRecursion (λ l. AreAmong (latch_nets l) (all_nets s.place.model)) ls
    → map value (map net (map (placed_latch s.place) ls)) ≡ map s.tells (map net ls)
latch_net_told value s net is h [] a = refl
latch_net_told value s net is h (l ∷ ls) a =
    ap (λ x. x ∷ map value (map net (map (placed_latch s.place) ls))) (ap value (is.moves s.place l) ∙ h.all (net l) (a.0.each (net l) (is.of_latch l)))
    ∙ ap (λ xs. s.tells (net l) ∷ xs) (latch_net_told value s net is h ls a.1)

-- the values of these nets of all latches are those of the places in turn
pub latch_values : (value : List ℕ → ℕ) (net : FileLatch → List ℕ) → IsLatchNet net → (ss : List (Seat ℕ)) → AllByRecursion (TellsAll value) ss
    → map value (map net (latches_in (places_of ss))) ≡ flat_map (λ x. map x.value (map net x.model.latches)) (map valued ss)
latch_values value net is [] h = refl
latch_values value net is (s ∷ ss) h =
    let p = s.place in
    let these = map (placed_latch p) p.model.latches in
    let more = latches_in (places_of ss) in
    ap (map value) (map-append net these more)
    ∙ (map-append value (map net these) (map net more)
    ∙ (ap (λ vs. vs ++ map value (map net more)) (latch_net_told value s net is h.0 p.model.latches (nets_among p.model).latches)
    ∙ ap (λ vs. map s.tells (map net p.model.latches) ++ vs) (latch_values value net is ss h.1)))

pub input_is_net : IsLatchNet (λ l. l.input)
input_is_net = record { moves = λ p l. refl; of_latch = λ l. or_left _ _ (same_word_refl l.input) }

pub output_is_net : IsLatchNet (λ l. l.output)
output_is_net = record { moves = λ p l. refl; of_latch = λ l. or_right (same_word l.output l.input) _ (or_left _ _ (same_word_refl l.output)) }
