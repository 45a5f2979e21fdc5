-- Rows that nets are given, and rows that change places with those that nets have.
use Rattle.std.proofs.Common.{◌≡◌, ◌∙◌, ℕ, ◌+◌, zero, suc, ◌<◌, ◌≤◌, true, false, ◌||◌, not, cond, nat_eq, List, [], ◌∷◌, ◌++◌, length, get_or, set, take, drop, map, refl, sym, ap, ◌⊎◌, inl, inr, ⊎_elim, eq-eqb, eqb-true, arith, All, Some, length-append, length-drop, zero-add}
use Rattle.std.specs.List.{slice_get}
use Rattle.std.proofs.lemmas.Bool.{cases_Bool, or_from, or_parts, and_parts, ne_eqb, false≢true, not-true, both_ways, eqb-false, and_from, false_from_ne_true}
use Rattle.std.proofs.lemmas.List.{get_or-set_same, get_or-set_other, length-set, length-map, length-take-le, ext_get_or, take_more, take-map, take_at, drop_at, take-append-drop, get_or-map, get_or_at, drop_more, same_lists, get_or_default, set-set}
use Rattle.std.proofs.lemmas.List.Edits.{map_over_more}
use Rattle.std.proofs.lemmas.Option.{slice_get-get_or}
use Rattle.std.proofs.lemmas.List.Elements.{All-take}
use Rattle.mv_base.specs.declared.number.NetId.{NetId}
use Rattle.mv_graph.specs.Nets.{has_id, all_differ, row}
use Rattle.mv_graph.proofs.Nets.{has_id-at}
use Rattle.mv_dag.specs.declared.new_rows.NewRow.{NewRow}
use Rattle.mv_dag.specs.Rows.{nets_of, row_given, rows_from}
use Rattle.mv_dag.specs.Changing.{blank, new_row_at, old_of, IsExchanged}
use Rattle.mv_dag.proofs.Given.{any-part}

-- ---- lists of rows

pub rows_same : (a b : List (List NetId)) → length a ≡ length b → ((k : ℕ) → k < length a → row a k ≡ row b k) → a ≡ b
rows_same a b long each = ext_get_or [] a b long each

pub length-rows_from : (rs : List NewRow) (s : ℕ) (rows : List (List NetId)) → length (rows_from rs s rows) ≡ length rows
length-rows_from rs s [] = refl
length-rows_from rs s (r ∷ rows) = ap suc (length-rows_from rs (s + 1) rows)

row-rows_from_at : (rs : List NewRow) (s : ℕ) (rows : List (List NetId)) (k : ℕ) → k < length rows → row (rows_from rs s rows) k ≡ row_given rs (s + k) (row rows k)
row-rows_from_at rs s [] k lt = absurd (omega arith)
row-rows_from_at rs s (r ∷ rows) zero lt = let e : s + 0 ≡ s = omega arith in ap (λ n. row_given rs n r) (sym e)
row-rows_from_at rs s (r ∷ rows) (suc k) lt =
    let e : (s + 1) + k ≡ s + suc k = omega arith in
    row-rows_from_at rs (s + 1) rows k (omega arith) ∙ ap (λ n. row_given rs n (row rows k)) e

-- the row behind the change
pub row-rows_from : (rs : List NewRow) (rows : List (List NetId)) (k : ℕ) → k < length rows → row (rows_from rs 0 rows) k ≡ row_given rs k (row rows k)
row-rows_from rs rows k lt = row-rows_from_at rs 0 rows k lt ∙ ap (λ n. row_given rs n (row rows k)) (zero-add k)

pub rows_from-none : (s : ℕ) (rows : List (List NetId)) → rows_from [] s rows ≡ rows
rows_from-none s [] = refl
rows_from-none s (r ∷ rows) = ap (λ l. r ∷ l) (rows_from-none (s + 1) rows)

-- ---- the row of one net

-- a net that is given a row has that one, whatever it had
pub given-any : (rs : List NewRow) (n : ℕ) (x y : List NetId) → has_id (nets_of rs) n ≡ true → row_given rs n x ≡ row_given rs n y
given-any [] n x y h = absurd (false≢true h)
given-any (r ∷ rs) n x y h =
    ⊎_elim
    (λ (e : nat_eq r.net.0 n ≡ true). rw e refl)
    (λ (f : nat_eq r.net.0 n ≡ false). rw f (given-any rs n x y (ap (λ b. b || has_id (nets_of rs) n) (sym f) ∙ h)))
    (cases_Bool (nat_eq r.net.0 n))

-- a net that is given none keeps its row
pub given-none : (rs : List NewRow) (n : ℕ) (x : List NetId) → has_id (nets_of rs) n ≡ false → row_given rs n x ≡ x
given-none [] n x h = refl
given-none (r ∷ rs) n x h =
    let p = or_parts (nat_eq r.net.0 n) (has_id (nets_of rs) n) h in
    ap (λ b. cond b r.fanins (row_given rs n x)) p.0 ∙ given-none rs n x p.1

-- one row more
given-push : (rs : List NewRow) (r : NewRow) (n : ℕ) (x : List NetId) → has_id (nets_of rs) r.net.0 ≡ false → row_given (rs ++ r ∷ []) n x ≡ cond (nat_eq r.net.0 n) r.fanins (row_given rs n x)
given-push [] r n x out = refl
given-push (s ∷ rs) r n x out =
    let p = or_parts (nat_eq s.net.0 r.net.0) (has_id (nets_of rs) r.net.0) out in
    ⊎_elim
    (λ (e : nat_eq s.net.0 n ≡ true).
    let other : nat_eq r.net.0 n ≡ false = ne_eqb r.net.0 n (λ g. eqb-false s.net.0 r.net.0 p.0 (eqb-true s.net.0 n e ∙ sym g)) in
    rw (e, other) refl)
    (λ (f : nat_eq s.net.0 n ≡ false). rw f (given-push rs r n x p.1))
    (cases_Bool (nat_eq s.net.0 n))

-- what the first so many rows give is what all give, or nothing
pub given-part_cases : (rs : List NewRow) (k n : ℕ) (x : List NetId) → (row_given (take k rs) n x ≡ row_given rs n x) ⊎ (row_given (take k rs) n x ≡ x)
given-part_cases rs zero n x = inr refl
given-part_cases [] (suc k) n x = inr refl
given-part_cases (r ∷ rs) (suc k) n x =
    ⊎_elim
    (λ (e : nat_eq r.net.0 n ≡ true). inl (rw e refl))
    (λ (f : nat_eq r.net.0 n ≡ false). rw f (given-part_cases rs k n x))
    (cases_Bool (nat_eq r.net.0 n))

-- ---- nets that differ

not_has : (n : NetId) (ns : List NetId) → all_differ (n ∷ ns) ≡ true → has_id ns n.0 ≡ false
not_has n ns d = not-true (has_id ns n.0) (and_parts (not (has_id ns n.0)) (all_differ ns) d).0

rest_differ : (n : NetId) (ns : List NetId) → all_differ (n ∷ ns) ≡ true → all_differ ns ≡ true
rest_differ n ns d = (and_parts (not (has_id ns n.0)) (all_differ ns) d).1

-- one of nets that differ is none of those before it
differ-at : (ns : List NetId) (k : ℕ) (d : NetId) → all_differ ns ≡ true → k < length ns → has_id (take k ns) (get_or ns k d).0 ≡ false
differ-at [] k d all lt = absurd (omega arith)
differ-at (n ∷ ns) zero d all lt = refl
differ-at (n ∷ ns) (suc k) d all lt =
    let low : k < length ns = omega arith in
    let x = get_or ns k d in
    or_from (nat_eq n.0 x.0) (has_id (take k ns) x.0)
    (ne_eqb n.0 x.0 (λ e. both_ways (has_id ns n.0) (not_has n ns all) (ap (has_id ns) e ∙ has_id-at ns k d low)))
    (differ-at ns k d (rest_differ n ns all) low)

pub nets_of-at : (rows : List NewRow) (k : ℕ) (d : NewRow) → k < length rows → get_or (nets_of rows) k d.net ≡ (get_or rows k d).net
nets_of-at rows k d lt = get_or-map (λ (r : NewRow). r.net) rows k d d.net lt

-- the net of a row is none of those before it
pub fresh_at : (rows : List NewRow) (k : ℕ) (d : NewRow) → all_differ (nets_of rows) ≡ true → k < length rows → has_id (nets_of (take k rows)) (get_or rows k d).net.0 ≡ false
fresh_at rows k d all lt =
    let long = length-map rows (λ (r : NewRow). r.net) in
    ap (λ l. has_id l (get_or rows k d).net.0) (sym (take-map (λ (r : NewRow). r.net) k rows))
    ∙ (ap (λ (n : NetId). has_id (take k (nets_of rows)) n.0) (sym (nets_of-at rows k d lt)) ∙ differ-at (nets_of rows) k d.net all (omega arith))

pub nets_has-at : (rows : List NewRow) (k : ℕ) (d : NewRow) → k < length rows → has_id (nets_of rows) (get_or rows k d).net.0 ≡ true
nets_has-at rows k d lt =
    let long = length-map rows (λ (r : NewRow). r.net) in
    ap (λ (n : NetId). has_id (nets_of rows) n.0) (sym (nets_of-at rows k d lt)) ∙ has_id-at (nets_of rows) k d.net (omega arith)

-- a net is given the row that stands at the place of its own
pub given-at : (rows : List NewRow) (k : ℕ) (d : NewRow) (x : List NetId) → all_differ (nets_of rows) ≡ true → k < length rows → row_given rows (get_or rows k d).net.0 x ≡ (get_or rows k d).fanins
given-at [] k d x all lt = absurd (omega arith)
given-at (r ∷ rows) zero d x all lt = ap (λ b. cond b r.fanins (row_given rows r.net.0 x)) (eq-eqb r.net.0 r.net.0 refl)
given-at (r ∷ rows) (suc k) d x all lt =
    let low : k < length rows = omega arith in
    let s = get_or rows k d in
    let ne : nat_eq r.net.0 s.net.0 ≡ false =
    ne_eqb r.net.0 s.net.0 (λ e. both_ways (has_id (nets_of rows) r.net.0) (not_has r.net (nets_of rows) all) (ap (has_id (nets_of rows)) e ∙ nets_has-at rows k d low)) in
    ap (λ b. cond b r.fanins (row_given rows s.net.0 x)) ne ∙ given-at rows k d x (rest_differ r.net (nets_of rows) all) low

-- ---- one row after another

rows_from-push : (rs : List NewRow) (r : NewRow) (rows : List (List NetId)) → has_id (nets_of rs) r.net.0 ≡ false → r.net.0 < length rows → rows_from (rs ++ r ∷ []) 0 rows ≡ set (rows_from rs 0 rows) r.net.0 r.fanins
rows_from-push rs r rows out low =
    rows_same (rows_from (rs ++ r ∷ []) 0 rows) (set (rows_from rs 0 rows) r.net.0 r.fanins)
    (length-rows_from (rs ++ r ∷ []) 0 rows ∙ sym (length-set (rows_from rs 0 rows) r.net.0 r.fanins ∙ length-rows_from rs 0 rows))
    (λ k lt.
    let long = length-rows_from (rs ++ r ∷ []) 0 rows in
    let inside : k < length rows = omega arith in
    row-rows_from (rs ++ r ∷ []) rows k inside ∙ (given-push rs r k (row rows k) out ∙ each k inside))
  where
    each : (k : ℕ) → k < length rows → cond (nat_eq r.net.0 k) r.fanins (row_given rs k (row rows k)) ≡ row (set (rows_from rs 0 rows) r.net.0 r.fanins) k
    each k inside =
        ⊎_elim
        (λ (e : nat_eq r.net.0 k ≡ true).
        let same : r.net.0 ≡ k = eqb-true r.net.0 k e in
        let long = length-rows_from rs 0 rows in
        let there : row (set (rows_from rs 0 rows) r.net.0 r.fanins) r.net.0 ≡ r.fanins = get_or-set_same (rows_from rs 0 rows) r.net.0 r.fanins [] (omega arith) in
        ap (λ b. cond b r.fanins (row_given rs k (row rows k))) e ∙ sym (ap (row (set (rows_from rs 0 rows) r.net.0 r.fanins)) (sym same) ∙ there))
        (λ (f : nat_eq r.net.0 k ≡ false).
        ap (λ b. cond b r.fanins (row_given rs k (row rows k))) f
        ∙ sym (get_or-set_other (rows_from rs 0 rows) r.net.0 k r.fanins [] (λ e. eqb-false r.net.0 k f (sym e)) ∙ row-rows_from rs rows k inside))
        (cases_Bool (nat_eq r.net.0 k))

pub exchanged-first : (fanins : List (List NetId)) (rows : List NewRow) → IsExchanged 0 fanins fanins rows rows
exchanged-first fanins rows = record { fanins_are = sym (rows_from-none 0 fanins); rows_are = refl }

pub exchanged-long : (k : ℕ) (first fanins : List (List NetId)) (before rows : List NewRow) → IsExchanged k first fanins before rows → k ≤ length before → (length fanins ≡ length first) × (length rows ≡ length before)
exchanged-long k first fanins before rows e low =
    let a = length-append (map (old_of first) (take k before)) (drop k before) in
    let b = length-map (take k before) (old_of first) in
    let c = length-take-le k before low in
    let d = length-drop k before in
    (ap length e.fanins_are ∙ length-rows_from (take k before) 0 first, ap length e.rows_are ∙ (omega arith))

-- the rows from there on are as before
pub exchanged-at : (k : ℕ) (first fanins : List (List NetId)) (before rows : List NewRow) → IsExchanged k first fanins before rows → k < length before → new_row_at rows k ≡ new_row_at before k
exchanged-at k first fanins before rows e lt =
    let none : NewRow = record { net = record { 0 = 0 }; fanins = [] } in
    let long = length-map (take k before) (old_of first) in
    let c = length-take-le k before (omega arith) in
    ap (λ l. get_or l k none) (e.rows_are ∙ ap (λ l. map (old_of first) (take k before) ++ l) (drop_more before k none lt))
    ∙ get_or_at (map (old_of first) (take k before)) (get_or before k none) (drop (k + 1) before) none k (omega arith)

-- the net of the row at a place is one of the numbers
pub exchanged-net : (k : ℕ) (first fanins : List (List NetId)) (before rows : List NewRow) → IsExchanged k first fanins before rows → k < length before → All (λ (r : NewRow). r.net.0 < length first) before → (new_row_at rows k).net.0 < length fanins
exchanged-net k first fanins before rows e lt small =
    let none : NewRow = record { net = record { 0 = 0 }; fanins = [] } in
    let same = (exchanged-long k first fanins before rows e (omega arith)).0 in
    let is = ap (λ (r : NewRow). r.net.0) (exchanged-at k first fanins before rows e lt) in
    let low : (get_or before k none).net.0 < length first = small k none lt in
    omega arith

pub exchanged-more : (k : ℕ) (first fanins after : List (List NetId)) (before rows new : List NewRow) → IsExchanged k first fanins before rows → k < length before
    → All (λ (r : NewRow). r.net.0 < length first) before → all_differ (nets_of before) ≡ true
    → after ≡ set fanins (new_row_at rows k).net.0 (new_row_at rows k).fanins → new ≡ set rows k (old_of fanins (new_row_at rows k)) → IsExchanged (k + 1) first after before new
exchanged-more k first fanins after before rows new e lt small all was_fanins was_rows = record {
  fanins_are =
      was_fanins
      ∙ (ap (λ (s : NewRow). set fanins s.net.0 s.fanins) same
      ∙ (ap (λ l. set l r.net.0 r.fanins) e.fanins_are
      ∙ (sym (rows_from-push (take k before) r first fresh low) ∙ ap (λ l. rows_from l 0 first) (sym (take_more before k none lt)))));
  rows_are =
      was_rows
      ∙ (ap (λ (s : NewRow). set rows k (old_of fanins s)) same
      ∙ (ap (λ l. set rows k (record { net = r.net; fanins = l })) (stays) ∙ map_over_more (old_of first) before rows k r lt e.rows_are read));
}
  where
    none : NewRow
    none = record { net = record { 0 = 0 }; fanins = [] }

    r : NewRow
    r = new_row_at before k

    same : new_row_at rows k ≡ r
    same = exchanged-at k first fanins before rows e lt

    low : r.net.0 < length first
    low = small k none lt

    fresh : has_id (nets_of (take k before)) r.net.0 ≡ false
    fresh = fresh_at before k none all lt

    stays : row fanins r.net.0 ≡ row first r.net.0
    stays = ap (λ l. row l r.net.0) e.fanins_are ∙ (row-rows_from (take k before) first r.net.0 low ∙ given-none (take k before) r.net.0 (row first r.net.0) fresh)

    read : r ≡ get_or rows k r
    read =
        let long = exchanged-long k first fanins before rows e (omega arith) in
        let l = long.1 in
        sym same ∙ get_or_default rows k none r (omega arith)

-- ---- back again

-- a net among those of the rows has its old row again
given-old : (rs : List NewRow) (first : List (List NetId)) (n : ℕ) (x : List NetId) → has_id (nets_of rs) n ≡ true → row_given (map (old_of first) rs) n x ≡ row first n
given-old [] first n x h = absurd (false≢true h)
given-old (r ∷ rs) first n x h =
    ⊎_elim
    (λ (e : nat_eq r.net.0 n ≡ true). ap (λ b. cond b (row first r.net.0) (row_given (map (old_of first) rs) n x)) e ∙ ap (row first) (eqb-true r.net.0 n e))
    (λ (f : nat_eq r.net.0 n ≡ false).
    ap (λ b. cond b (row first r.net.0) (row_given (map (old_of first) rs) n x)) f
    ∙ given-old rs first n x (ap (λ b. b || has_id (nets_of rs) n) (sym f) ∙ h))
    (cases_Bool (nat_eq r.net.0 n))

-- rows of the same nets
pub nets_of-old : (rs : List NewRow) (first : List (List NetId)) → nets_of (map (old_of first) rs) ≡ nets_of rs
nets_of-old [] first = refl
nets_of-old (r ∷ rs) first = ap (λ l. r.net ∷ l) (nets_of-old rs first)

pub nets_of-blank : (rs : List NewRow) → nets_of (map blank rs) ≡ nets_of rs
nets_of-blank [] = refl
nets_of-blank (r ∷ rs) = ap (λ l. r.net ∷ l) (nets_of-blank rs)

pub old_of-blank : (rs : List NewRow) (first : List (List NetId)) → map (old_of first) (map blank rs) ≡ map (old_of first) rs
old_of-blank [] first = refl
old_of-blank (r ∷ rs) first = ap (λ l. old_of first r ∷ l) (old_of-blank rs first)

rows_back : (rs : List NewRow) (first : List (List NetId)) → rows_from (map (old_of first) rs) 0 (rows_from rs 0 first) ≡ first
rows_back rs first =
    rows_same (rows_from (map (old_of first) rs) 0 (rows_from rs 0 first)) first
    (length-rows_from (map (old_of first) rs) 0 (rows_from rs 0 first) ∙ length-rows_from rs 0 first)
    (λ k lt.
    let a = length-rows_from (map (old_of first) rs) 0 (rows_from rs 0 first) in
    let b = length-rows_from rs 0 first in
    let low : k < length first = omega arith in
    row-rows_from (map (old_of first) rs) (rows_from rs 0 first) k (omega arith) ∙ each k low)
  where
    each : (k : ℕ) → k < length first → row_given (map (old_of first) rs) k (row (rows_from rs 0 first) k) ≡ row first k
    each k low =
        ⊎_elim
        (λ (y : has_id (nets_of rs) k ≡ true). given-old rs first k (row (rows_from rs 0 first) k) y)
        (λ (f : has_id (nets_of rs) k ≡ false).
        given-none (map (old_of first) rs) k (row (rows_from rs 0 first) k) (ap (λ ns. has_id ns k) (nets_of-old rs first) ∙ f)
        ∙ (row-rows_from rs first k low ∙ given-none rs k (row first k) f))
        (cases_Bool (has_id (nets_of rs) k))

new_rows_back : (rs : List NewRow) (first : List (List NetId)) → all_differ (nets_of rs) ≡ true → All (λ (r : NewRow). r.net.0 < length first) rs → map (old_of (rows_from rs 0 first)) (map (old_of first) rs) ≡ rs
new_rows_back rs first all small =
    same_lists (map (old_of (rows_from rs 0 first)) (map (old_of first) rs)) rs
    (length-map (map (old_of first) rs) (old_of (rows_from rs 0 first)) ∙ length-map rs (old_of first))
    (λ k d lt.
    let a = length-map (map (old_of first) rs) (old_of (rows_from rs 0 first)) in
    let b = length-map rs (old_of first) in
    let low : k < length rs = omega arith in
    get_or-map (old_of (rows_from rs 0 first)) (map (old_of first) rs) k (old_of first d) d (omega arith)
    ∙ (ap (old_of (rows_from rs 0 first)) (get_or-map (old_of first) rs k d (old_of first d) low) ∙ each k d low))
  where
    each : (k : ℕ) (d : NewRow) → k < length rs → old_of (rows_from rs 0 first) (old_of first (get_or rs k d)) ≡ get_or rs k d
    each k d low =
        let r = get_or rs k d in
        let inside : r.net.0 < length first = small k d low in
        let is : row (rows_from rs 0 first) r.net.0 ≡ r.fanins = row-rows_from rs first r.net.0 inside ∙ given-at rs k d (row first r.net.0) all low in
        λ i. record { net = r.net; fanins = is i }

-- nets that differ do so in a front of the list
differ-take : (ns : List NetId) (k : ℕ) → all_differ ns ≡ true → all_differ (take k ns) ≡ true
differ-take ns zero all = refl
differ-take [] (suc k) all = refl
differ-take (n ∷ ns) (suc k) all =
    let out : has_id (take k ns) n.0 ≡ false = false_from_ne_true (has_id (take k ns) n.0) (λ h. both_ways (has_id ns n.0) (not_has n ns all) (any-part (λ (m : NetId). nat_eq m.0 n.0) ns k h)) in
    and_from (not (has_id (take k ns) n.0)) (all_differ (take k ns)) (ap not out) (differ-take ns k (rest_differ n ns all))

-- exchanged twice is as before
pub exchanged-back : (k : ℕ) (first mid last : List (List NetId)) (before rows after : List NewRow) → k ≤ length before
    → All (λ (r : NewRow). r.net.0 < length first) before → all_differ (nets_of before) ≡ true
    → IsExchanged k first mid before rows → IsExchanged k mid last rows after → (last ≡ first) × (after ≡ before)
exchanged-back k first mid last before rows after low small all e f = (
  f.fanins_are ∙ (ap (λ l. rows_from l 0 mid) front ∙ (ap (rows_from (map (old_of first) xs) 0) e.fanins_are ∙ rows_back xs first)),
  f.rows_are ∙ (ap (λ l. map (old_of mid) l ++ drop k rows) front
      ∙ (ap (λ l. map (old_of mid) (map (old_of first) xs) ++ l) back
      ∙ (ap (λ l. map (old_of l) (map (old_of first) xs) ++ drop k before) e.fanins_are
      ∙ (ap (λ l. l ++ drop k before) (new_rows_back xs first differ inside) ∙ take-append-drop k before)))),
)
  where
    xs : List NewRow
    xs = take k before

    long : length (map (old_of first) xs) ≡ k
    long = length-map xs (old_of first) ∙ length-take-le k before low

    front : take k rows ≡ map (old_of first) xs
    front = ap (take k) e.rows_are ∙ take_at (map (old_of first) xs) (drop k before) k long

    back : drop k rows ≡ drop k before
    back = ap (drop k) e.rows_are ∙ drop_at (map (old_of first) xs) (drop k before) k long

    differ : all_differ (nets_of xs) ≡ true
    differ = ap all_differ (sym (take-map (λ (r : NewRow). r.net) k before)) ∙ differ-take (nets_of before) k all

    inside : All (λ (r : NewRow). r.net.0 < length first) xs
    inside = All-take (λ (r : NewRow). r.net.0 < length first) k before small

-- ---- one row, as the code does it

-- the row that a net had comes to the place of the new one
pub row_put : (rows slice out new : List NewRow) (fanins : List (List NetId)) (place : ℕ) (d none : NewRow) (old : List NetId) → place < length rows → slice ≡ rows → (new_row_at rows place).net.0 < length fanins
    → slice_get fanins (get_or slice place d).net.0 ≡ Some old → out ≡ set rows place none → new ≡ set out place (record { net = (get_or slice place d).net; fanins = old }) → new ≡ set rows place (old_of fanins (new_row_at rows place))
row_put rows slice out new fanins place d none old low same inside was e f =
    let default : NewRow = record { net = record { 0 = 0 }; fanins = [] } in
    let item = get_or slice place d in
    let is : item ≡ new_row_at rows place = ap (λ l. get_or l place d) same ∙ get_or_default rows place d default low in
    let number = ap (λ (r : NewRow). r.net.0) is in
    let g : slice_get fanins item.net.0 ≡ Some (row fanins item.net.0) = slice_get-get_or fanins item.net.0 [] (omega arith) in
    let s : old ≡ row fanins item.net.0 = cc in
    f ∙ (ap (λ l. set l place (record { net = item.net; fanins = old })) e
    ∙ (set-set rows place none (record { net = item.net; fanins = old })
    ∙ (ap (λ l. set rows place (record { net = item.net; fanins = l })) s ∙ ap (λ (r : NewRow). set rows place (old_of fanins r)) is)))
