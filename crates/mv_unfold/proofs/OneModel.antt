-- The latches and the tables of all places, place by place.
use Rattle.std.proofs.Common.{◌≡◌, ℕ, suc, ◌+◌, ◌<◌, ◌≤◌, List, [], ◌∷◌, ◌++◌, length, get_or, take, drop, refl, sym, ◌∙◌, ap, add-one}
use Rattle.std.specs.List.{flat_map}
use Rattle.std.proofs.lemmas.Grind.{flat_map-append}
use Rattle.std.proofs.lemmas.List.{append_assoc, append-nil, drop_more, drop_all, length-append, take_more}
use Rattle.mv_design.specs.declared.table.FileTable.{FileTable}
use Rattle.mv_design.specs.Nets.{no_model}
use Rattle.mv_tree.specs.Places.{Place, root_place}
use Rattle.mv_tree.specs.Unfolded.{renamed, numbered, tables_in}
use Rattle.mv_unfold.specs.Placed.{place_at}

-- what is made of the places up to one
pub flat_taken : {X : Type 0} (f : Place → List X) (ps : List Place) (n : ℕ) → n < length ps → flat_map f (take (n + 1) ps) ≡ flat_map f (take n ps) ++ f (place_at ps n)
flat_taken f ps n lt =
    ap (flat_map f) (take_more ps n (root_place no_model) lt)
    ∙ (flat_map-append f (take n ps) (place_at ps n ∷ []) ∙ ap (λ xs. flat_map f (take n ps) ++ xs) (append-nil (f (place_at ps n))))

-- ---- tables

pub length-numbered : (home : List ℕ → List ℕ) (at : ℕ) (ts : List FileTable) → length (numbered home at ts) ≡ length ts
length-numbered home at [] = refl
length-numbered home at (t ∷ ts) = ap suc (length-numbered home (suc at) ts)

-- one table more
pub table_more : (home : List ℕ → List ℕ) (ts old new all : List FileTable) (i : ℕ) (t made : FileTable) → i < length ts → t ≡ get_or ts i t
    → made ≡ renamed home (length old) t → new ≡ old ++ made ∷ [] → old ++ numbered home (length old) (drop i ts) ≡ all
    → new ++ numbered home (length new) (drop (i + 1) ts) ≡ all
table_more home ts old new all i t made lt is e grown h =
    let rest = drop (i + 1) ts in
    let long : length new ≡ suc (length old) = ap length grown ∙ (length-append old (made ∷ []) ∙ add-one (length old)) in
    ap (λ xs. xs ++ numbered home (length new) rest) grown
    ∙ (append_assoc old (made ∷ []) (numbered home (length new) rest)
    ∙ (ap (λ n. old ++ (made ∷ numbered home n rest)) long
    ∙ (ap (λ (x : FileTable). old ++ (x ∷ numbered home (suc (length old)) rest)) e
    ∙ (ap (λ (x : FileTable). old ++ (renamed home (length old) x ∷ numbered home (suc (length old)) rest)) is
    ∙ (ap (λ xs. old ++ numbered home (length old) xs) (sym (drop_more ts i t lt)) ∙ h)))))

-- the tables of one place more
pub tables_more : (ps : List Place) (n : ℕ) (old new all : List FileTable) → n < length ps
    → new ≡ old ++ numbered (place_at ps n).home (length old) (place_at ps n).model.tables → old ++ tables_in (length old) (drop n ps) ≡ all
    → new ++ tables_in (length new) (drop (n + 1) ps) ≡ all
tables_more ps n old new all lt grown h =
    let p = place_at ps n in
    let here = numbered p.home (length old) p.model.tables in
    let rest = drop (n + 1) ps in
    let long : length new ≡ length old + length p.model.tables =
    ap length grown ∙ (length-append old here ∙ ap (λ k. length old + k) (length-numbered p.home (length old) p.model.tables)) in
    ap (λ xs. xs ++ tables_in (length new) rest) grown
    ∙ (ap (λ k. (old ++ here) ++ tables_in k rest) long
    ∙ (append_assoc old here (tables_in (length old + length p.model.tables) rest)
    ∙ (ap (λ qs. old ++ tables_in (length old) qs) (sym (drop_more ps n (root_place no_model) lt)) ∙ h)))

pub tables_end : (ps : List Place) (n : ℕ) (old all : List FileTable) → length ps ≤ n → old ++ tables_in (length old) (drop n ps) ≡ all → old ≡ all
tables_end ps n old all low h = sym (append-nil old) ∙ (ap (λ qs. old ++ tables_in (length old) qs) (sym (drop_all n ps low)) ∙ h)
