-- Each table of the whole has the rows and the default of the table of the design that it comes from.
use Rattle.std.proofs.Common.{◌≡◌, ℕ, zero, suc, ◌+◌, ◌<◌, false, Some, List, [], ◌∷◌, ◌++◌, length, get_or, map, refl, sym, ◌∙◌, ap, subst, arith, All}
use Rattle.std.specs.List.{flat_map, range_with_len, slice_get}
use Rattle.std.proofs.lemmas.Bool.{false≢true}
use Rattle.std.proofs.lemmas.List.{append_assoc, append-nil, length-append, length-map, map-append}
use Rattle.std.proofs.lemmas.List.Elements.{All-nil, All-cons, All-head, All-tail, All-append}
use Rattle.std.proofs.lemmas.List.FromFn.{length-range_with_len, get_or-range_with_len}
use Rattle.std.proofs.lemmas.Option.{slice_get-get_or, none-some, same_Some}
use Rattle.mv_design.specs.declared.design.Design.{Design}
use Rattle.mv_design.specs.declared.design.FileModel.{FileModel}
use Rattle.mv_design.specs.declared.table.FileTable.{FileTable}
use Rattle.mv_design.specs.Nets.{no_model, root_of}
use Rattle.mv_tree.specs.Places.{Place, places, root_place}
use Rattle.mv_tree.specs.Tree.{Instances, NoMore, More}
use Rattle.mv_tree.specs.Unfolded.{numbered, renamed, tables_in, unfolded}
use Rattle.mv_walk.specs.declared.opened.Opened.{Opened}
use Rattle.mv_walk.specs.Openings.{AreOpened, openings}
use Rattle.mv_unfold.specs.Laid.{model_numbers}
use Rattle.mv_unfold.specs.Placed.{model_at, opened_place, places_by, with_places}
use Rattle.mv_unfold.proofs.Placed.{are_placed, places_of_tree}
use Rattle.mv_resets.proofs.ByLine.{All-by_line}
use Rattle.mv_resets.specs.Resets.{all_tables, reset_table}
use Rattle.mv_rows.specs.declared.column.Column.{Column}
use Rattle.mv_rows.specs.Marked.{default_marked, is_marked}
use Rattle.mv_flat.specs.declared.shared.SharedTables.{SharedTables}
use Rattle.mv_flat.specs.Size.{gives_reset}
use Rattle.mv_shapes.specs.Distinct.{StandsFor}
use Rattle.mv_shapes.proofs.Standing.{stands_same}
use Rattle.mv_flat.specs.Shared.{first_at, firsts_from, origins_of, HasRowsOf, IsFrom}

-- ---- parts of lists

got_left : {X : Type 0} (xs ys : List X) (i : ℕ) → i < length xs → slice_get (xs ++ ys) i ≡ slice_get xs i
got_left [] ys i low = absurd (omega (arith, low))
got_left (x ∷ xs) ys zero low = refl
got_left (x ∷ xs) ys (suc i) low = got_left xs ys i (omega (arith, low))

got_right : {X : Type 0} (xs ys : List X) (n i : ℕ) → n ≡ length xs + i → slice_get (xs ++ ys) n ≡ slice_get ys i
got_right [] ys n i e = ap (slice_get ys) (e ∙ (omega arith))
got_right (x ∷ xs) ys zero i e = absurd (omega (arith, e))
got_right (x ∷ xs) ys (suc n) i e = got_right xs ys n i (omega (arith, e))

got_range : (a n i : ℕ) → i < n → slice_get (range_with_len a n) i ≡ Some (a + i)
got_range a n i low =
    let l = length-range_with_len a n in
    slice_get-get_or (range_with_len a n) i 0 (omega (arith, l, low)) ∙ ap (λ k. Some k) (get_or-range_with_len a n i 0 low)

-- ---- the tables of all models

abbrev tables_of : FileModel → List FileTable
tables_of m = m.tables

pub length-firsts : (n : ℕ) (ms : List FileModel) → length (firsts_from n ms) ≡ length ms
length-firsts n [] = refl
length-firsts n (m ∷ ms) = let l = length-firsts (n + length m.tables) ms in omega (arith, l)

pub first_is : (n : ℕ) (ms : List FileModel) (k d : ℕ) → k < length ms → get_or (firsts_from n ms) k d ≡ first_at n ms k
first_is n [] k d low = absurd (omega (arith, low))
first_is n (m ∷ ms) zero d low = refl
first_is n (m ∷ ms) (suc k) d low = first_is (n + length m.tables) ms k d (omega (arith, low))

-- the tables of a model stand behind those of the models before it
table_from : (front : List FileTable) (n : ℕ) (ms : List FileModel) (k j : ℕ) → n ≡ length front → k < length ms → j < length (get_or ms k no_model).tables
    → slice_get (front ++ flat_map tables_of ms) (first_at n ms k + j) ≡ slice_get (get_or ms k no_model).tables j
table_from front n [] k j e low lower = absurd (omega (arith, low))
table_from front n (m ∷ ms) zero j e low lower =
    got_right front (m.tables ++ flat_map tables_of ms) (n + j) j (omega (arith, e)) ∙ got_left m.tables (flat_map tables_of ms) j lower
table_from front n (m ∷ ms) (suc k) j e low lower =
    let long = length-append front m.tables in
    let i = first_at (n + length m.tables) ms k + j in
    ap (λ ts. slice_get ts i) (sym (append_assoc front m.tables (flat_map tables_of ms)))
    ∙ table_from (front ++ m.tables) (n + length m.tables) ms k j (omega (arith, e, long)) (omega (arith, low)) lower

-- one number more
pub range_more : (a n : ℕ) → range_with_len a (n + 1) ≡ range_with_len a n ++ (a + n) ∷ []
range_more a zero =
    let e : zero + 1 ≡ suc zero = omega arith in
    let f : a ≡ a + zero = omega arith in
    ap (range_with_len a) e ∙ ap (λ k. k ∷ []) f
range_more a (suc n) =
    let e : suc n + 1 ≡ suc (n + 1) = omega arith in
    let f : (a + 1) + n ≡ a + suc n = omega arith in
    ap (range_with_len a) e ∙ ap (λ ns. a ∷ ns) (range_more (a + 1) n ∙ ap (λ k. range_with_len (a + 1) n ++ k ∷ []) f)

-- ---- the tables of one place

-- tables at these lines have the rows of those that they come from
numbered_from : (s : SharedTables) (home : List ℕ → List ℕ) (at : ℕ) (ts : List FileTable)
    → ((i k : ℕ) (f : FileTable) → i < length ts → slice_get s.origins.items (at + i) ≡ Some k → slice_get s.tables.items k ≡ Some f → slice_get ts i ≡ Some f)
    → All (IsFrom s) (numbered home at ts)
numbered_from s home at [] known = All-nil (IsFrom s)
numbered_from s home at (t ∷ ts) known =
    All-cons (IsFrom s) (renamed home at t) (numbered home (suc at) ts)
    (λ plain k f origin there.
    let e : slice_get s.origins.items (at + 0) ≡ Some k = ap (slice_get s.origins.items) (omega arith) ∙ origin in
    let same : t ≡ f = same_Some t f (known 0 k f (omega arith) e there) in
    record {
      outputs = length-map t.outputs home ∙ ap (λ (x : FileTable). length x.outputs) same;
      rows = ap (λ (x : FileTable). x.rows) same;
      default = ap (λ (x : FileTable). x.default) same;
    })
    (numbered_from s home (suc at) ts
    (λ i k f low origin there.
    known (suc i) k f (omega (arith, low)) (ap (slice_get s.origins.items) (omega arith) ∙ origin) there))

-- the tables that are shared are those of the models, and their origins are known from some place on
record AreOrigins (d : Design) (s : SharedTables) (at : ℕ) (ks : List ℕ) : Type 0 where
  front : List ℕ
  long : at ≡ length front
  are : s.origins.items ≡ front ++ flat_map (origins_of d.models) ks

abbrev place_model : Place → FileModel
place_model p = p.model

abbrev IsLow : Design → ℕ → Type 0
IsLow d k = k < length d.models

tables_from : (d : Design) (s : SharedTables) (at : ℕ) (ps : List Place) (ks : List ℕ) → s.tables.items ≡ flat_map tables_of d.models
    → map place_model ps ≡ map (model_at d) ks → All (IsLow d) ks → AreOrigins d s at ks → All (IsFrom s) (tables_in at ps)
tables_from d s at [] ks tables models low o = All-nil (IsFrom s)
tables_from d s at (p ∷ ps) [] tables models low o = cc
tables_from d s at (p ∷ ps) (k ∷ ks) tables models low o =
    let here : p.model ≡ model_at d k = ap (λ (ms : List FileModel). get_or ms 0 no_model) models in
    let rest : map place_model ps ≡ map (model_at d) ks = ap behind models in
    let fits = All-head (IsLow d) k ks low in
    let first = first_at 0 d.models k in
    let many = length (model_at d k).tables in
    let same : p.model.tables ≡ (model_at d k).tables = ap tables_of here in
    let long : length p.model.tables ≡ many = ap length same in
    let own = origins_of d.models k in
    let others = flat_map (origins_of d.models) ks in
    let own_long : length own ≡ many = length-range_with_len first many in
    All-append (IsFrom s) (numbered p.home at p.model.tables) (tables_in (at + length p.model.tables) ps)
    (numbered_from s p.home at p.model.tables
    (λ i j f lower origin there.
    let e : slice_get s.origins.items (at + i) ≡ Some (first + i) =
    ap (λ ns. slice_get ns (at + i)) o.are
    ∙ (got_right o.front (own ++ others) (at + i) i (let l = o.long in omega (arith, l))
    ∙ (got_left own others i (omega (arith, own_long, long, lower)) ∙ got_range first many i (omega (arith, long, lower)))) in
    let number : first + i ≡ j = same_Some (first + i) j (sym e ∙ origin) in
    ap (λ ts. slice_get ts i) same
    ∙ (sym (table_from [] 0 d.models k i refl fits (omega (arith, long, lower)))
    ∙ (ap (λ n. slice_get (flat_map tables_of d.models) n) number ∙ (ap (λ ts. slice_get ts j) (sym tables) ∙ there)))))
    (tables_from d s (at + length p.model.tables) ps ks tables rest (All-tail (IsLow d) k ks low)
    (record {
      front = o.front ++ own;
      long = let l = length-append o.front own in let a = o.long in omega (arith, l, a, own_long, long);
      are = o.are ∙ sym (append_assoc o.front own others);
    }))
  where
    behind : List FileModel → List FileModel
    behind [] = []
    behind (m ∷ ms) = ms

-- ---- the models of all places

models_with : (d : Design) (ps : List Place) (os : List Opened) → map place_model (with_places d ps os) ≡ map place_model ps ++ map (λ (o : Opened). model_at d o.model) os
models_with d ps [] = sym (append-nil (map place_model ps))
models_with d ps (o ∷ os) =
    let q = opened_place d ps o in
    models_with d (ps ++ q ∷ []) os
    ∙ (ap (λ ms. ms ++ map (λ (o : Opened). model_at d o.model) os) (map-append place_model ps (q ∷ []))
    ∙ append_assoc (map place_model ps) (model_at d o.model ∷ []) (map (λ (o : Opened). model_at d o.model) os))

numbers_of : (d : Design) (os : List Opened) → map (λ (o : Opened). model_at d o.model) os ≡ map (model_at d) (map (λ (o : Opened). o.model) os)
numbers_of d [] = refl
numbers_of d (o ∷ os) = ap (λ ms. model_at d o.model ∷ ms) (numbers_of d os)

models_by : (d : Design) (os : List Opened) → map place_model (places_by d os) ≡ map (model_at d) (model_numbers d os)
unfolding places_by root_of
models_by d os = models_with d (root_place (root_of d) ∷ []) os ∙ ap (λ ms. root_of d ∷ ms) (numbers_of d os)

numbers_low : (d : Design) (os : List Opened) → All (λ (o : Opened). o.model < length d.models) os → All (IsLow d) (map (λ (o : Opened). o.model) os)
numbers_low d [] low = All-nil (IsLow d)
numbers_low d (o ∷ os) low =
    let P : Opened → Type 0 = λ x. x.model < length d.models in
    All-cons (IsLow d) o.model (map (λ (x : Opened). x.model) os) (All-head P o os low) (numbers_low d os (All-tail P o os low))

-- what is known of the tables of all places
pub all_known : (d : Design) (os : List Opened) (s : SharedTables) → d.root < length d.models → All (λ (o : Opened). o.model < length d.models) os
    → s.origins.items ≡ flat_map (origins_of d.models) (model_numbers d os) → s.tables.items ≡ flat_map (λ (m : FileModel). m.tables) d.models
    → All (IsFrom s) (tables_in 0 (places_by d os))
all_known d os s rooted low origins tables =
    tables_from d s 0 (places_by d os) (model_numbers d os) tables (models_by d os)
    (All-cons (IsLow d) d.root (map (λ (o : Opened). o.model) os) rooted (numbers_low d os low))
    (record { front = []; long = refl; are = origins })

-- where no origins are known there is nothing to know
pub none_known : (s : SharedTables) (ts : List FileTable) → s.origins.items ≡ [] → All (IsFrom s) ts
none_known s [] none = All-nil (IsFrom s)
none_known s (t ∷ ts) none =
    All-cons (IsFrom s) t ts (λ plain k f origin there. absurd (none-some k (sym (ap (λ ns. slice_get ns t.line) none) ∙ origin))) (none_known s ts none)

-- ---- the model of a design, with its reset tables

pub opened_low : (d : Design) (os : List Opened) → AreOpened d os → All (λ (o : Opened). o.model < length d.models) os
opened_low d os h =
    let placed = are_placed d os h in
    λ k e low. (placed.each k (get_or os k e) (slice_get-get_or os k e low)).model

unfolded_known : (d : Design) (os : List Opened) (s : SharedTables) (tree : Instances) → os ≡ openings d 0 1 0 tree → places_by d os ≡ places (root_of d) tree
    → All (IsFrom s) (tables_in 0 (places_by d os)) → (os ≡ [] → s.origins.items ≡ []) → All (IsFrom s) (unfolded (root_of d) tree).tables
unfolding unfolded
unfolded_known d os s NoMore is places known none = none_known s (root_of d).tables (none is)
unfolded_known d os s (More instance model inside rest) is places known none =
    let P : List Place → Type 0 = λ ps. All (IsFrom s) (tables_in 0 ps) in
    subst P places known

resets_known : (s : SharedTables) (ts : List FileTable) → All (λ (t : FileTable). length t.outputs ≡ 1) ts → All (IsFrom s) (map reset_table ts)
resets_known s [] single = All-nil (IsFrom s)
resets_known s (t ∷ ts) single =
    let P : FileTable → Type 0 = λ x. length x.outputs ≡ 1 in
    All-cons (IsFrom s) (reset_table t) (map reset_table ts) (λ plain k f origin there. absurd (gives t (All-head P t ts single) plain)) (resets_known s ts (All-tail P t ts single))
  where
    named : (os : List (List ℕ)) → length os ≡ 1 → (t : FileTable) → t.outputs ≡ os → gives_reset (reset_table t) ≡ false → ⊥
    named [] one t e plain = absurd (omega (arith, one))
    named (o ∷ os) one t e plain = false≢true (sym plain ∙ rw e refl)

    gives : (t : FileTable) → length t.outputs ≡ 1 → gives_reset (reset_table t) ≡ false → ⊥
    gives t one plain = named t.outputs one t refl plain

-- the tables of a design's model, with those of its reset nets
pub tables_known : (d : Design) (os : List Opened) (h : AreOpened d os) (s : SharedTables) → All (IsFrom s) (tables_in 0 (places_by d os)) → (os ≡ [] → s.origins.items ≡ [])
    → All (λ (t : FileTable). length t.outputs ≡ 1) (unfolded (root_of d) h.tree).resets → All (IsFrom s) (all_tables (unfolded (root_of d) h.tree))
tables_known d os h s known none single =
    let m = unfolded (root_of d) h.tree in
    All-by_line (IsFrom s) (λ (t : FileTable). t.line) (map reset_table m.resets) m.tables (resets_known s m.resets single)
    (unfolded_known d os s h.tree h.is (places_of_tree d os h) known none)

-- ---- the mark of a table with the same rows

pub same_marked : (cs : List Column) (t f : FileTable) → HasRowsOf t f → is_marked cs f ≡ is_marked cs t
unfolding is_marked
same_marked cs t f same = λ i. default_marked cs (sym same.rows i) (sym same.default i)

-- the table of the design stands for the one that comes from it
pub same_stands : (t f : FileTable) → HasRowsOf t f → StandsFor f t
same_stands t f same = stands_same f t (sym same.outputs) (sym same.default) (sym same.rows)
