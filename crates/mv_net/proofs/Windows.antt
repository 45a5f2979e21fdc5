-- The lists of a window, net by net, and its points and levels.
use Rattle.std.proofs.Common.{◌≡◌, ◌⊎◌, ◌∙◌, ℕ, zero, suc, ◌+◌, ◌*◌, ◌-◌, ◌<◌, ◌≤◌, min, Bool, true, false, not, ◌||◌, ◌&&◌, if◌then◌else◌, List, [], ◌∷◌, ◌++◌, length, take, filter, get_or, Option, Some, None, is_some, refl, sym, ap, subst, ⊎_elim, inl, inr, eq-eqb, eqb-true, arith}
use Rattle.std.specs.Prelude.{nat_eq, MatchBool}
use Rattle.std.specs.List.{list_any}
use Rattle.std.proofs.Math.Bool.{or-false}
use Rattle.std.proofs.Math.Nat.{mul_assoc, one-mul, mul-one}
use Rattle.std.proofs.lemmas.Bool.{false≢true, cases_Bool, cases_lt, or_cases, or_left, or_right, and_from, and_parts, not-true}
use Rattle.std.proofs.lemmas.List.{take_more}
use Rattle.std.proofs.lemmas.Map.Views.{any-filter_same}
use Rattle.std.proofs.lemmas.Map.Keys.{any_passes_from_place}
use Rattle.indexmap.specs.IndexSet.{insert_key}
use Rattle.mv_base.specs.declared.number.NetId.{NetId}
use Rattle.mv_base.proofs.Lists.{found}
use Rattle.mv_graph.specs.Nets.{has_id, IsAscending}
use Rattle.mv_graph.proofs.Nets.{has_id-append, has_id-more}
use Rattle.mv_net.specs.declared.parts.FlatNet.{FlatNet}
use Rattle.mv_net.specs.declared.parts.NetParts.{NetParts}
use Rattle.mv_net.specs.declared.window.Window.{Window}
use Rattle.mv_net.specs.Nets.{slot, values_in, table_in, reads_in}
use Rattle.mv_net.specs.Index.{is_seen}
use Rattle.mv_net.specs.Window.{Lists, IsAround, IsWindowTable, IsWindowInput, IsReadOutside, IsShown, IsWindowOutput, IsWindow, ways_in, ways_of, levels_of}
use Rattle.mv_net.specs.Searching.{same_id, AreHeld, HasExactly, HasTables, IsReadBy, IsShownOf}
use Rattle.mv_net.proofs.Reaching.{set-has_id}
use Rattle.mv_net.proofs.Paths.{lists_sorted}

-- ---- the nets with a table

inserted_more : (ks : List NetId) (x : NetId) (m : ℕ) (b : Bool) → list_any (same_id x) ks ≡ b → has_id (if b then ks else ks ++ x ∷ []) m ≡ (has_id ks m || nat_eq x.0 m)
inserted_more ks x m false e = has_id-append ks (x ∷ []) m ∙ ap (λ c. has_id ks m || c) (or-false (nat_eq x.0 m))
inserted_more ks x m true e =
    ⊎_elim
    (λ (y : nat_eq x.0 m ≡ true).
    let there : has_id ks m ≡ true = ap (has_id ks) (sym (eqb-true x.0 m y)) ∙ (sym (set-has_id x ks) ∙ e) in
    there ∙ sym (or_left (has_id ks m) (nat_eq x.0 m) there))
    (λ (f : nat_eq x.0 m ≡ false). sym (ap (λ c. has_id ks m || c) f ∙ or-false (has_id ks m)))
    (cases_Bool (nat_eq x.0 m))

has_id-inserted : (ks : List NetId) (x : NetId) (m : ℕ) → has_id (insert_key same_id ks x) m ≡ (has_id ks m || nat_eq x.0 m)
has_id-inserted ks x m = inserted_more ks x m (list_any (same_id x) ks) refl

pub tables_first : (nets : List (Option FlatNet)) (xs ks : List NetId) → ks ≡ [] → HasTables nets (take 0 xs) ks
tables_first nets xs ks e = record { each = λ m. ap (λ l. has_id l m) e }

both : (a t e : Bool) → (e ≡ true → t ≡ true) → ((a && t) || e) ≡ ((a || e) && t)
both true true e h = refl
both true false true h = sym (h refl)
both true false false h = refl
both false t true h = sym (h refl)
both false t false h = refl

rest : (a t e : Bool) → (e ≡ true → t ≡ false) → (a && t) ≡ ((a || e) && t)
rest true t e h = refl
rest false t true h = sym (h refl)
rest false t false h = refl

tabled : (nets : List (Option FlatNet)) (x : NetId) (m : ℕ) (b : Bool) → is_some (table_in (slot nets x.0)) ≡ b → nat_eq x.0 m ≡ true → is_some (table_in (slot nets m)) ≡ b
tabled nets x m b e y = ap (λ n. is_some (table_in (slot nets n))) (sym (eqb-true x.0 m y)) ∙ e

pub tables_yes : (nets : List (Option FlatNet)) (xs ks new : List NetId) (i : ℕ) (x d : NetId) → i < length xs → x ≡ get_or xs i d → is_some (table_in (slot nets x.0)) ≡ true → new ≡ insert_key same_id ks x
    → HasTables nets (take i xs) ks → HasTables nets (take (i + 1) xs) new
tables_yes nets xs ks new i x d lt is has e h = record {
  each = λ m.
      ap (λ l. has_id l m) e
      ∙ (has_id-inserted ks x m
      ∙ (ap (λ b. b || nat_eq x.0 m) (h.each m)
      ∙ (both (has_id (take i xs) m) (is_some (table_in (slot nets m))) (nat_eq x.0 m) (tabled nets x m true has)
      ∙ ap (λ b. b && is_some (table_in (slot nets m))) (sym (has_id-more xs i x d m lt is)))));
}

pub tables_no : (nets : List (Option FlatNet)) (xs ks : List NetId) (i : ℕ) (x d : NetId) → i < length xs → x ≡ get_or xs i d → is_some (table_in (slot nets x.0)) ≡ false
    → HasTables nets (take i xs) ks → HasTables nets (take (i + 1) xs) ks
tables_no nets xs ks i x d lt is none h = record {
  each = λ m.
      h.each m
      ∙ (rest (has_id (take i xs) m) (is_some (table_in (slot nets m))) (nat_eq x.0 m) (tabled nets x m false none)
      ∙ ap (λ b. b && is_some (table_in (slot nets m))) (sym (has_id-more xs i x d m lt is)));
}

-- the tables of a window
pub tables_exactly : (nets : List (Option FlatNet)) (n d u : ℕ) (list tables : List NetId) → HasExactly (IsAround nets n d u) list → HasTables nets list tables → HasExactly (IsWindowTable nets n d u) tables
tables_exactly nets n d u list tables a t = record {
  members = λ m. (
    λ e.
        let p = and_parts (has_id list m) (is_some (table_in (slot nets m))) (sym (t.each m) ∙ e) in
        record { around = (a.members m).0 p.0; table = p.1 },
    λ w. t.each m ∙ and_from (has_id list m) (is_some (table_in (slot nets m))) ((a.members m).1 w.around) w.table,
  );
}

-- tables are held
pub tables_held : (nets : List (Option FlatNet)) (list tables : List NetId) → AreHeld nets list → HasTables nets list tables → AreHeld nets tables
tables_held nets list tables h t = record { each = λ m e. h.each m (and_parts (has_id list m) (is_some (table_in (slot nets m))) (sym (t.each m) ∙ e)).0 }

-- ---- one more net of a list

more_left : (xs : List NetId) (i : ℕ) (x d : NetId) (m : ℕ) → i < length xs → x ≡ get_or xs i d → has_id (take i xs) m ≡ true → has_id (take (i + 1) xs) m ≡ true
more_left xs i x d m lt is h = has_id-more xs i x d m lt is ∙ or_left (has_id (take i xs) m) (nat_eq x.0 m) h

more_here : (xs : List NetId) (i : ℕ) (x d : NetId) → i < length xs → x ≡ get_or xs i d → has_id (take (i + 1) xs) x.0 ≡ true
more_here xs i x d lt is = has_id-more xs i x d x.0 lt is ∙ or_right (has_id (take i xs) x.0) (nat_eq x.0 x.0) (eq-eqb x.0 x.0 refl)

more_cases : (xs : List NetId) (i : ℕ) (x d : NetId) (m : ℕ) → i < length xs → x ≡ get_or xs i d → has_id (take (i + 1) xs) m ≡ true → (has_id (take i xs) m ≡ true) ⊎ (x.0 ≡ m)
more_cases xs i x d m lt is h =
    ⊎_elim
    (λ (y : has_id (take i xs) m ≡ true). inl y)
    (λ (y : nat_eq x.0 m ≡ true). inr (eqb-true x.0 m y))
    (or_cases (has_id (take i xs) m) (nat_eq x.0 m) (sym (has_id-more xs i x d m lt is) ∙ h))

-- ---- the nets that tables read and that aren't among them

-- those of a list that pass a test of numbers
has_id-filter : (test : ℕ → Bool) (ns : List NetId) (m : ℕ) → has_id (filter (λ (n : NetId). test n.0) ns) m ≡ (test m && has_id ns m)
has_id-filter test ns m = any-filter_same (λ (n : NetId). nat_eq n.0 m) (λ (n : NetId). test n.0) (test m) (λ n e. ap test (eqb-true n.0 m e)) ns

pub read_first : (nets : List (Option FlatNet)) (inside : ℕ → Bool) (xs read : List NetId) → read ≡ [] → HasExactly (IsReadBy nets inside (take 0 xs)) read
read_first nets inside xs read e = record { members = λ m. (λ h. absurd (false≢true (ap (λ l. has_id l m) (sym e) ∙ h)), λ r. absurd (false≢true r.listed)) }

pub read_more : (nets : List (Option FlatNet)) (inside : ℕ → Bool) (xs read fanins new : List NetId) (i : ℕ) (x d : NetId) → i < length xs → x ≡ get_or xs i d → IsAscending (λ m. reads_in nets x.0 m) fanins
    → new ≡ read ++ filter (λ (m : NetId). not (inside m.0)) fanins → HasExactly (IsReadBy nets inside (take i xs)) read → HasExactly (IsReadBy nets inside (take (i + 1) xs)) new
read_more nets inside xs read fanins new i x d lt is a e h = record { members = λ m. (to m, from m) }
  where
    new_has : (m : ℕ) → has_id new m ≡ (has_id read m || (not (inside m) && has_id fanins m))
    new_has m = ap (λ l. has_id l m) e ∙ (has_id-append read (filter (λ (n : NetId). not (inside n.0)) fanins) m ∙ ap (λ b. has_id read m || b) (has_id-filter (λ n. not (inside n)) fanins m))

    to : (m : ℕ) → has_id new m ≡ true → IsReadBy nets inside (take (i + 1) xs) m
    to m y =
        ⊎_elim
        (λ (old : has_id read m ≡ true).
        let r = (h.members m).0 old in
        record { reader = r.reader; listed = more_left xs i x d r.reader lt is r.listed; reads = r.reads; outside = r.outside })
        (λ (here : (not (inside m) && has_id fanins m) ≡ true).
        let p = and_parts (not (inside m)) (has_id fanins m) here in
        record { reader = x.0; listed = more_here xs i x d lt is; reads = sym (a.members m) ∙ p.1; outside = not-true (inside m) p.0 })
        (or_cases (has_id read m) (not (inside m) && has_id fanins m) (sym (new_has m) ∙ y))

    from : (m : ℕ) → IsReadBy nets inside (take (i + 1) xs) m → has_id new m ≡ true
    from m r =
        new_has m
        ∙ ⊎_elim
        (λ (old : has_id (take i xs) r.reader ≡ true).
        or_left (has_id read m) (not (inside m) && has_id fanins m) ((h.members m).1 (record { reader = r.reader; listed = old; reads = r.reads; outside = r.outside })))
        (λ (here : x.0 ≡ r.reader).
        or_right (has_id read m) (not (inside m) && has_id fanins m)
        (and_from (not (inside m)) (has_id fanins m) (ap not r.outside) (a.members m ∙ (ap (λ k. reads_in nets k m) here ∙ r.reads))))
        (more_cases xs i x d r.reader lt is r.listed)

pub inputs_exactly : (nets : List (Option FlatNet)) (tables read : List NetId) → HasExactly (IsReadBy nets (has_id tables) tables) read → HasExactly (IsWindowInput nets (has_id tables)) read
inputs_exactly nets tables read h = record {
  members = λ m. (
    λ e. let r = (h.members m).0 e in record { reader = r.reader; is_inside = r.listed; reads = r.reads; outside = r.outside },
    λ w. (h.members m).1 (record { reader = w.reader; listed = w.is_inside; reads = w.reads; outside = w.outside }),
  );
}

-- ---- the tables that are seen, or read by others

-- one of these nets doesn't pass the test
outside_found : (nets : List (Option FlatNet)) (inside : ℕ → Bool) (n : ℕ) (readers : List NetId) → IsAscending (λ m. reads_in nets m n) readers → list_any (λ (m : NetId). not (inside m.0)) readers ≡ true → IsReadOutside nets inside n
outside_found nets inside n readers a h =
    let f = found (λ (m : NetId). not (inside m.0)) readers h in
    record {
      reader = f.item.0;
      outside = not-true (inside f.item.0) f.passes;
      reads = sym (a.members f.item.0) ∙ any_passes_from_place (λ (m : NetId). nat_eq m.0 f.item.0) readers f.place f.item f.at (eq-eqb f.item.0 f.item.0 refl);
    }

outside_any : (inside : ℕ → Bool) (ns : List NetId) (m : ℕ) → has_id ns m ≡ true → inside m ≡ false → list_any (λ (n : NetId). not (inside n.0)) ns ≡ true
outside_any inside ns m h out =
    let f = found (λ (n : NetId). nat_eq n.0 m) ns h in
    any_passes_from_place (λ (n : NetId). not (inside n.0)) ns f.place f.item f.at (ap (λ k. not (inside k)) (eqb-true f.item.0 m f.passes) ∙ ap not out)

pub shown_seen : (net : NetParts) (inside : ℕ → Bool) (n : ℕ) → is_seen net n ≡ true → IsShown net inside n
shown_seen net inside n h = inl h

pub shown_read : (net : NetParts) (inside : ℕ → Bool) (n : ℕ) (readers : List NetId) (b : Bool) → is_seen net n ≡ false → IsAscending (λ m. reads_in net.nets m n) readers → b ≡ list_any (λ (m : NetId). not (inside m.0)) readers
    → MatchBool b (IsShown net inside n) (IsShown net inside n → ⊥)
shown_read net inside n readers true unseen a e = inr (outside_found net.nets inside n readers a (sym e))
shown_read net inside n readers false unseen a e = λ s.
    ⊎_elim
    (λ (y : is_seen net n ≡ true). false≢true (sym unseen ∙ y))
    (λ (r : IsReadOutside net.nets inside n). false≢true (e ∙ outside_any inside readers r.reader (a.members r.reader ∙ r.reads) r.outside))
    s

pub shown_first : (net : NetParts) (inside : ℕ → Bool) (xs shown : List NetId) → shown ≡ [] → HasExactly (IsShownOf net inside (take 0 xs)) shown
shown_first net inside xs shown e = record { members = λ m. (λ h. absurd (false≢true (ap (λ l. has_id l m) (sym e) ∙ h)), λ r. absurd (false≢true r.listed)) }

pub shown_yes : (net : NetParts) (inside : ℕ → Bool) (xs shown new : List NetId) (i : ℕ) (x d : NetId) → i < length xs → x ≡ get_or xs i d → IsShown net inside x.0 → new ≡ shown ++ x ∷ []
    → HasExactly (IsShownOf net inside (take i xs)) shown → HasExactly (IsShownOf net inside (take (i + 1) xs)) new
shown_yes net inside xs shown new i x d lt is s e h = record { members = λ m. (to m, from m) }
  where
    new_has : (m : ℕ) → has_id new m ≡ (has_id shown m || nat_eq x.0 m)
    new_has m = ap (λ l. has_id l m) e ∙ (has_id-append shown (x ∷ []) m ∙ ap (λ b. has_id shown m || b) (or-false (nat_eq x.0 m)))

    to : (m : ℕ) → has_id new m ≡ true → IsShownOf net inside (take (i + 1) xs) m
    to m y =
        ⊎_elim
        (λ (old : has_id shown m ≡ true). let r = (h.members m).0 old in record { listed = more_left xs i x d m lt is r.listed; shown = r.shown })
        (λ (here : nat_eq x.0 m ≡ true). subst (IsShownOf net inside (take (i + 1) xs)) (eqb-true x.0 m here) (record { listed = more_here xs i x d lt is; shown = s }))
        (or_cases (has_id shown m) (nat_eq x.0 m) (sym (new_has m) ∙ y))

    from : (m : ℕ) → IsShownOf net inside (take (i + 1) xs) m → has_id new m ≡ true
    from m r =
        new_has m
        ∙ ⊎_elim
        (λ (old : has_id (take i xs) m ≡ true). or_left (has_id shown m) (nat_eq x.0 m) ((h.members m).1 (record { listed = old; shown = r.shown })))
        (λ (here : x.0 ≡ m). or_right (has_id shown m) (nat_eq x.0 m) (eq-eqb x.0 m here))
        (more_cases xs i x d m lt is r.listed)

pub shown_no : (net : NetParts) (inside : ℕ → Bool) (xs shown : List NetId) (i : ℕ) (x d : NetId) → i < length xs → x ≡ get_or xs i d → (IsShown net inside x.0 → ⊥)
    → HasExactly (IsShownOf net inside (take i xs)) shown → HasExactly (IsShownOf net inside (take (i + 1) xs)) shown
shown_no net inside xs shown i x d lt is n h = record {
  members = λ m. (
    λ y. let r = (h.members m).0 y in record { listed = more_left xs i x d m lt is r.listed; shown = r.shown },
    λ r. ⊎_elim
        (λ (old : has_id (take i xs) m ≡ true). (h.members m).1 (record { listed = old; shown = r.shown }))
        (λ (here : x.0 ≡ m). absurd (n (subst (IsShown net inside) (sym here) r.shown)))
        (more_cases xs i x d m lt is r.listed),
  );
}

pub outputs_exactly : (net : NetParts) (tables shown : List NetId) → HasExactly (IsShownOf net (has_id tables) tables) shown → HasExactly (IsWindowOutput net (has_id tables)) shown
outputs_exactly net tables shown h = record {
  members = λ m. (
    λ e. let r = (h.members m).0 e in record { is_inside = r.listed; shown = r.shown },
    λ w. (h.members m).1 (record { listed = w.is_inside; shown = w.shown }),
  );
}

-- ---- the whole window

pub window_made : (net : NetParts) (n d u : ℕ) (list keys : List NetId) (w : Window) → HasExactly (IsAround net.nets n d u) list → HasTables net.nets list keys → IsAscending (has_id keys) w.tables
    → Lists (IsWindowInput net.nets (has_id keys)) w.inputs → Lists (IsWindowOutput net (has_id keys)) w.outputs → IsWindow net n d u w
window_made net n d u list keys w a t is ins outs =
    let same : has_id keys ≡ has_id w.tables = λ i m. sym (is.members m) i in
    record {
      tables = lists_sorted (IsWindowTable net.nets n d u) keys w.tables (tables_exactly net.nets n d u list keys a t) is;
      inputs = let P : (ℕ → Bool) → Type 0 = λ p. Lists (IsWindowInput net.nets p) w.inputs in subst P same ins;
      outputs = let P : (ℕ → Bool) → Type 0 = λ p. Lists (IsWindowOutput net p) w.outputs in subst P same outs;
    }

-- ---- points and levels

pub ways_of-append : (nets : List (Option FlatNet)) (xs ys : List NetId) → ways_of nets (xs ++ ys) ≡ ways_of nets xs * ways_of nets ys
ways_of-append nets [] ys = sym (one-mul (ways_of nets ys))
ways_of-append nets (x ∷ xs) ys = ap (λ k. ways_in (slot nets x.0) * k) (ways_of-append nets xs ys) ∙ sym (mul_assoc (ways_in (slot nets x.0)) (ways_of nets xs) (ways_of nets ys))

pub levels_of-append : (nets : List (Option FlatNet)) (xs ys : List NetId) → levels_of nets (xs ++ ys) ≡ levels_of nets xs + levels_of nets ys
levels_of-append nets [] ys = omega arith
levels_of-append nets (x ∷ xs) ys = omega (arith, levels_of-append nets xs ys)

-- a product that ends at a greatest number
pub min_times : (a b top : ℕ) → min (min a top * b) top ≡ min (a * b) top
min_times a zero top = omega arith
min_times a (suc b) top =
    ⊎_elim
    (λ (low : a < top). let e : min a top ≡ a = omega arith in ap (λ k. min (k * suc b) top) e)
    (λ (high : top ≤ a).
    let e : min a top ≡ top = omega arith in
    let p : top * suc b ≡ top + top * b = omega arith in
    let q : a * suc b ≡ a + a * b = omega arith in
    ap (λ k. min (k * suc b) top) e ∙ omega arith)
    (cases_lt a top)

pub ways_more : (nets : List (Option FlatNet)) (xs : List NetId) (i : ℕ) (x d : NetId) (start ways new f top : ℕ) → i < length xs → x ≡ get_or xs i d → f ≡ ways_in (slot nets x.0) → new ≡ min (ways * f) top
    → ways ≡ min (start * ways_of nets (take i xs)) top → new ≡ min (start * ways_of nets (take (i + 1) xs)) top
ways_more nets xs i x d start ways new f top lt is e n h =
    let all : ways_of nets (take (i + 1) xs) ≡ ways_of nets (take i xs) * f =
    ap (ways_of nets) (take_more xs i d lt)
    ∙ (ways_of-append nets (take i xs) (get_or xs i d ∷ [])
    ∙ ap (λ k. ways_of nets (take i xs) * k) (mul-one (ways_in (slot nets (get_or xs i d).0)) ∙ (ap (λ (y : NetId). ways_in (slot nets y.0)) (sym is) ∙ sym e))) in
    n ∙ (ap (λ k. min (k * f) top) h ∙ (min_times (start * ways_of nets (take i xs)) f top ∙ ap (λ k. min k top) (mul_assoc start (ways_of nets (take i xs)) f ∙ ap (λ k. start * k) (sym all))))

pub levels_more : (nets : List (Option FlatNet)) (xs : List NetId) (i : ℕ) (x d : NetId) (start levels new f top : ℕ) → i < length xs → x ≡ get_or xs i d → f ≡ values_in (slot nets x.0) - 1 → new ≡ min (levels + f) top
    → levels ≡ min (start + levels_of nets (take i xs)) top → new ≡ min (start + levels_of nets (take (i + 1) xs)) top
levels_more nets xs i x d start levels new f top lt is e n h =
    let all : levels_of nets (take (i + 1) xs) ≡ levels_of nets (take i xs) + f =
    ap (levels_of nets) (take_more xs i d lt)
    ∙ (levels_of-append nets (take i xs) (get_or xs i d ∷ [])
    ∙ ap (λ k. levels_of nets (take i xs) + k) (let z : (values_in (slot nets (get_or xs i d).0) - 1) + 0 ≡ values_in (slot nets (get_or xs i d).0) - 1 = omega arith in z ∙ (ap (λ (y : NetId). values_in (slot nets y.0) - 1) (sym is) ∙ sym e))) in
    omega arith

-- the points of two lists
pub points_both : (nets : List (Option FlatNet)) (xs ys : List NetId) (top ways points : ℕ) → ways ≡ min (1 * ways_of nets xs) top → points ≡ min (ways * ways_of nets ys) top → points ≡ min (ways_of nets (xs ++ ys)) top
points_both nets xs ys top ways points e f =
    f
    ∙ (ap (λ k. min (k * ways_of nets ys) top) (e ∙ ap (λ k. min k top) (one-mul (ways_of nets xs)))
    ∙ (min_times (ways_of nets xs) (ways_of nets ys) top ∙ ap (λ k. min k top) (sym (ways_of-append nets xs ys))))

pub levels_both : (nets : List (Option FlatNet)) (xs ys : List NetId) (top some levels : ℕ) → some ≡ min (0 + levels_of nets xs) top → levels ≡ min (some + levels_of nets ys) top → levels ≡ min (levels_of nets (xs ++ ys)) top
levels_both nets xs ys top some levels e f = omega (arith, levels_of-append nets xs ys)

-- a net with a table is held
pub table_held : (f : Option FlatNet) → is_some (table_in f) ≡ true → is_some f ≡ true
table_held None h = absurd (false≢true h)
table_held (Some f) h = refl
