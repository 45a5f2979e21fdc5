-- Lists of readers through a change of rows: first they get all that come, and at last those go that read no more.
use Rattle.std.proofs.Common.{◌≡◌, ◌∙◌, ℕ, ◌+◌, ◌-◌, ◌<◌, ◌≤◌, Bool, true, false, ◌&&◌, ◌||◌, not, cond, nat_eq, List, [], ◌∷◌, ◌++◌, length, get_or, take, map, replicate, refl, sym, ap, subst, ⊎_elim, eqb-true, arith, All}
use Rattle.std.proofs.lemmas.Bool.{cases_Bool, cases_lt, or_cases, or_left, or_right, and_parts, and_from, both_ways, false≢true, not-true, false_from_ne_true}
use Rattle.std.proofs.lemmas.List.{get_or_past, get_or-take, length-take-le, get_or_append_left, get_or-append_right, get_or-replicate, length-append, length-replicate, get_or_default}
use Rattle.std.proofs.lemmas.List.Elements.{All-map, All-head, All-tail}
use Rattle.mv_base.specs.declared.number.NetId.{NetId}
use Rattle.mv_graph.specs.Nets.{has_id, row, all_differ, AllBelow, IsAscending}
use Rattle.mv_graph.specs.Transpose.{IsTranspose}
use Rattle.mv_graph.proofs.Columns.{column_below, row_below}
use Rattle.mv_graph.proofs.Nets.{IsAscending-same, has_id-at}
use Rattle.mv_dag.specs.declared.new_rows.NewRow.{NewRow}
use Rattle.mv_dag.specs.Rows.{nets_of, row_given, rows_from}
use Rattle.mv_dag.specs.Ordered.{IsOrdered}
use Rattle.mv_dag.specs.Searches.{HasReaders}
use Rattle.mv_dag.specs.Readers.{AllAscend, HasAll, IsGrown, IsShrunk, is_given_by, is_given}
use Rattle.mv_dag.specs.Changing.{old_of, MayChange, IsReady}
use Rattle.mv_dag.proofs.Exchanged.{length-rows_from, row-rows_from, given-none, given-at}
use Rattle.mv_dag.proofs.Reaching.{reader_below}

-- ---- what rows give

-- what a net reads by its new row, some row gives
test_from_row : (rows : List NewRow) (n m : ℕ) (x : List NetId) → has_id (nets_of rows) n ≡ true → has_id (row_given rows n x) m ≡ true → is_given rows n m ≡ true
test_from_row [] n m x h g = absurd (false≢true h)
test_from_row (r ∷ rows) n m x h g =
    ⊎_elim
    (λ (e : nat_eq r.net.0 n ≡ true).
    or_left (is_given_by r.net.0 r.fanins n m) (is_given rows n m)
    (and_from (nat_eq r.net.0 n) (has_id r.fanins m) e (ap (λ b. has_id (cond b r.fanins (row_given rows n x)) m) (sym e) ∙ g)))
    (λ (f : nat_eq r.net.0 n ≡ false).
    or_right (is_given_by r.net.0 r.fanins n m) (is_given rows n m)
    (test_from_row rows n m x (ap (λ b. b || has_id (nets_of rows) n) (sym f) ∙ h) (ap (λ b. has_id (cond b r.fanins (row_given rows n x)) m) (sym f) ∙ g)))
    (cases_Bool (nat_eq r.net.0 n))

-- what a row gives is of one of the nets
net_from_test : (rows : List NewRow) (n m : ℕ) → is_given rows n m ≡ true → has_id (nets_of rows) n ≡ true
net_from_test [] n m g = absurd (false≢true g)
net_from_test (r ∷ rows) n m g =
    ⊎_elim
    (λ (y : is_given_by r.net.0 r.fanins n m ≡ true). or_left (nat_eq r.net.0 n) (has_id (nets_of rows) n) (and_parts (nat_eq r.net.0 n) (has_id r.fanins m) y).0)
    (λ (y : is_given rows n m ≡ true). or_right (nat_eq r.net.0 n) (has_id (nets_of rows) n) (net_from_test rows n m y))
    (or_cases (is_given_by r.net.0 r.fanins n m) (is_given rows n m) g)

-- where the nets differ, a net reads what any row gives it
row_from_test : (rows : List NewRow) (n m : ℕ) (x : List NetId) → all_differ (nets_of rows) ≡ true → is_given rows n m ≡ true → has_id (row_given rows n x) m ≡ true
row_from_test [] n m x all g = absurd (false≢true g)
row_from_test (r ∷ rows) n m x all g =
    let d = and_parts (not (has_id (nets_of rows) r.net.0)) (all_differ (nets_of rows)) all in
    ⊎_elim
    (λ (y : is_given_by r.net.0 r.fanins n m ≡ true).
    let p = and_parts (nat_eq r.net.0 n) (has_id r.fanins m) y in
    ap (λ b. has_id (cond b r.fanins (row_given rows n x)) m) p.0 ∙ p.1)
    (λ (y : is_given rows n m ≡ true).
    let other : nat_eq r.net.0 n ≡ false =
    false_from_ne_true (nat_eq r.net.0 n)
    (λ e. both_ways (has_id (nets_of rows) r.net.0) (not-true (has_id (nets_of rows) r.net.0) d.0) (ap (has_id (nets_of rows)) (eqb-true r.net.0 n e) ∙ net_from_test rows n m y)) in
    ap (λ b. has_id (cond b r.fanins (row_given rows n x)) m) other ∙ row_from_test rows n m x d.1 y)
    (or_cases (is_given_by r.net.0 r.fanins n m) (is_given rows n m) g)

-- the old rows give what their nets read
test_from_old : (rows : List NewRow) (fanins : List (List NetId)) (n m : ℕ) → has_id (nets_of rows) n ≡ true → has_id (row fanins n) m ≡ true → is_given (map (old_of fanins) rows) n m ≡ true
test_from_old [] fanins n m h g = absurd (false≢true h)
test_from_old (r ∷ rows) fanins n m h g =
    ⊎_elim
    (λ (e : nat_eq r.net.0 n ≡ true).
    or_left (is_given_by r.net.0 (row fanins r.net.0) n m) (is_given (map (old_of fanins) rows) n m)
    (and_from (nat_eq r.net.0 n) (has_id (row fanins r.net.0) m) e (ap (λ k. has_id (row fanins k) m) (eqb-true r.net.0 n e) ∙ g)))
    (λ (y : has_id (nets_of rows) n ≡ true). or_right (is_given_by r.net.0 (row fanins r.net.0) n m) (is_given (map (old_of fanins) rows) n m) (test_from_old rows fanins n m y g))
    (or_cases (nat_eq r.net.0 n) (has_id (nets_of rows) n) h)

nets_small : (rows : List NewRow) (size n : ℕ) → All (λ (r : NewRow). r.net.0 < size) rows → has_id (nets_of rows) n ≡ true → n < size
nets_small [] size n small h = absurd (false≢true h)
nets_small (r ∷ rows) size n small h =
    ⊎_elim
    (λ (e : nat_eq r.net.0 n ≡ true). let same = eqb-true r.net.0 n e in let low : r.net.0 < size = All-head (λ (s : NewRow). s.net.0 < size) r rows small in omega arith)
    (λ (y : has_id (nets_of rows) n ≡ true). nets_small rows size n (All-tail (λ (s : NewRow). s.net.0 < size) r rows small) y)
    (or_cases (nat_eq r.net.0 n) (has_id (nets_of rows) n) h)

-- ---- the lists of readers

pub readers_ascend : (fanins readers : List (List NetId)) → IsTranspose fanins readers → AllAscend readers
readers_ascend fanins readers t = record { each = λ m. (t.each m).ascending }

module _ (rows : List NewRow) (fanins readers : List (List NetId)) (may : MayChange rows fanins) (turned : IsTranspose fanins readers) where
  abbrev goal : List (List NetId)
  goal = rows_from rows 0 fanins

  -- all that the new rows name are numbers
  pub rows_small : All (λ (r : NewRow). All (λ (m : NetId). m.0 < length readers) r.fanins) rows
  rows_small k d lt j e inside =
      let r = get_or rows k d in
      let low : r.net.0 < length fanins = may.nets k d lt in
      let long = length-rows_from rows 0 fanins in
      let same = turned.long in
      let is : row goal r.net.0 ≡ r.fanins = row-rows_from rows fanins r.net.0 low ∙ given-at rows k d (row fanins r.net.0) may.once lt in
      let P : List NetId → Type 0 = All (λ (m : NetId). m.0 < length goal) in
      let small : (get_or r.fanins j e).0 < length goal = (subst P is (row_below goal r.net.0 may.below (omega arith))) j e inside in
      omega arith

  -- those that the old rows name are too
  pub olds_small : AllBelow fanins → All (λ (r : NewRow). All (λ (m : NetId). m.0 < length readers) r.fanins) (map (old_of fanins) rows)
  olds_small below =
      let same = turned.long in
      All-map (λ (r : NewRow). All (λ (m : NetId). m.0 < length readers) r.fanins) (old_of fanins) rows
      (λ k d lt j e inside.
      let low : (get_or rows k d).net.0 < length fanins = may.nets k d lt in
      let small : (get_or (row fanins (get_or rows k d).net.0) j e).0 < length fanins = row_below fanins (get_or rows k d).net.0 below low j e inside in
      omega arith)

  -- a net that gets no row reads on what it read
  kept_row : (n m : ℕ) → n < length fanins → has_id (nets_of rows) n ≡ false → has_id (row goal n) m ≡ has_id (row fanins n) m
  kept_row n m low out = ap (λ l. has_id l m) (row-rows_from rows fanins n low ∙ given-none rows n (row fanins n) out)

  module _ (grown : List (List NetId)) (is_grown : IsGrown readers grown (is_given rows)) where
    -- with all that come the lists have each reader behind the change
    pub has_readers : HasAll grown (is_given rows) → HasReaders goal grown
    has_readers all = record { listed = listed }
      where
        listed : (n m : ℕ) → has_id (row goal n) m ≡ true → has_id (row grown m) n ≡ true
        listed n m h =
            let long = length-rows_from rows 0 fanins in
            let small = reader_below goal n m h in
            let low : n < length fanins = omega arith in
            ⊎_elim
            (λ (y : has_id (nets_of rows) n ≡ true). all.each n m (test_from_row rows n m (row fanins n) y (ap (λ l. has_id l m) (sym (row-rows_from rows fanins n low)) ∙ h)))
            (λ (f : has_id (nets_of rows) n ≡ false). is_grown.kept n m ((turned.each m).members n ∙ (sym (kept_row n m low f) ∙ h)))
            (cases_Bool (has_id (nets_of rows) n))

    pub old_readers : HasReaders fanins grown
    old_readers = record { listed = λ n m h. is_grown.kept n m ((turned.each m).members n ∙ h) }

    -- a reader that the lists have was one, or comes
    was_or_comes : (n m : ℕ) → has_id (row grown m) n ≡ true → (has_id (row fanins n) m || is_given rows n m) ≡ true
    was_or_comes n m h = ap (λ b. b || is_given rows n m) (sym ((turned.each m).members n)) ∙ is_grown.only n m h

    -- which are readers behind the change, or are in an old row
    pub done_gone : (n m : ℕ) → has_id (row grown m) n ≡ true → has_id (row goal n) m ≡ false → is_given (map (old_of fanins) rows) n m ≡ true
    done_gone n m h out =
        ⊎_elim
        (λ (y : has_id (row fanins n) m ≡ true).
        ⊎_elim
        (λ (z : has_id (nets_of rows) n ≡ true). test_from_old rows fanins n m z y)
        (λ (f : has_id (nets_of rows) n ≡ false). absurd (both_ways (has_id (row goal n) m) out (kept_row n m (reader_below fanins n m y) f ∙ y)))
        (cases_Bool (has_id (nets_of rows) n)))
        (λ (y : is_given rows n m ≡ true).
        let low = nets_small rows (length fanins) n may.nets (net_from_test rows n m y) in
        absurd (both_ways (has_id (row goal n) m) out (ap (λ l. has_id l m) (row-rows_from rows fanins n low) ∙ row_from_test rows n m (row fanins n) may.once y)))
        (or_cases (has_id (row fanins n) m) (is_given rows n m) (was_or_comes n m h))

    -- which were readers, or are in a new row
    pub undone_gone : (n m : ℕ) → has_id (row grown m) n ≡ true → has_id (row fanins n) m ≡ false → is_given rows n m ≡ true
    undone_gone n m h out =
        ⊎_elim
        (λ (y : has_id (row fanins n) m ≡ true). absurd (both_ways (has_id (row fanins n) m) out y))
        (λ (y : is_given rows n m ≡ true). y)
        (or_cases (has_id (row fanins n) m) (is_given rows n m) (was_or_comes n m h))

-- lists that had all readers, without the others
pub transpose-pruned : (fanins grown new : List (List NetId)) (rows : List NewRow) → IsShrunk grown new (λ n m. is_given rows n m && not (has_id (row fanins n) m)) → HasReaders fanins grown → length grown ≡ length fanins
    → ((n m : ℕ) → has_id (row grown m) n ≡ true → has_id (row fanins n) m ≡ false → is_given rows n m ≡ true) → IsTranspose fanins new
transpose-pruned fanins grown new rows s has long gone = record {
  long = s.long ∙ long;
  each = λ m. record {
    ascending = (s.ascend).each m;
    members = λ n. s.left n m ∙ exact (has_id (row grown m) n) (is_given rows n m) (has_id (row fanins n) m) (has.listed n m) (gone n m);
  };
}
  where
    exact : (a o g : Bool) → (g ≡ true → a ≡ true) → (a ≡ true → g ≡ false → o ≡ true) → (a && not (o && not g)) ≡ g
    exact true true true f h = refl
    exact true false true f h = refl
    exact true true false f h = refl
    exact true false false f h = absurd (false≢true (h refl refl))
    exact false o true f h = absurd (false≢true (f refl))
    exact false o false f h = refl

-- ---- what the calls need and leave

module _ (rows : List NewRow) (fanins readers : List (List NetId)) (may : MayChange rows fanins) (turned : IsTranspose fanins readers) (grown : List (List NetId)) (slice : List NewRow) (is : slice ≡ rows) (is_grown : IsGrown readers grown (is_given slice)) (all : HasAll grown (is_given slice)) where
  grown_by : IsGrown readers grown (is_given rows)
  grown_by = let P : List NewRow → Type 0 = λ rs. IsGrown readers grown (is_given rs) in subst P is is_grown

  has : HasReaders (rows_from rows 0 fanins) grown
  has = let P : List NewRow → Type 0 = λ rs. HasAll grown (is_given rs) in has_readers rows fanins readers may turned grown grown_by (subst P is all)

  -- with all that come on the lists the rows may come too
  pub rows_ready : (labels : List ℕ) (lists : List (List NetId)) → lists ≡ grown → IsOrdered fanins labels → IsReady rows fanins lists labels
  rows_ready labels lists e ordered =
      let P : List (List NetId) → Type 0 = λ l. HasReaders (rows_from rows 0 fanins) l in
      record { may = may; listed = subst P (sym e) has; ordered = ordered }

  pub rows_readers : (new : List (List NetId)) → new ≡ rows_from rows 0 fanins → HasReaders new grown
  rows_readers new e = let P : List (List NetId) → Type 0 = λ l. HasReaders l grown in subst P (sym e) has

module _ (rows : List NewRow) (fanins readers : List (List NetId)) (may : MayChange rows fanins) (turned : IsTranspose fanins readers) (grown : List (List NetId)) (is_grown : IsGrown readers grown (is_given rows)) where
  -- both lists of rows name only numbers that have a list
  pub rows_within : (slice left : List NewRow) → slice ≡ left → left ≡ rows → All (λ (r : NewRow). All (λ (m : NetId). m.0 < length grown) r.fanins) slice
  rows_within slice left e f =
      let P : List NewRow → Type 0 = All (λ (r : NewRow). All (λ (m : NetId). m.0 < length grown) r.fanins) in
      let Q : ℕ → Type 0 = λ n. All (λ (r : NewRow). All (λ (m : NetId). m.0 < n) r.fanins) rows in
      subst P (sym (e ∙ f)) (subst Q (sym is_grown.long) (rows_small rows fanins readers may turned))

  pub olds_within : (slice olds : List NewRow) → slice ≡ olds → olds ≡ map (old_of fanins) rows → AllBelow fanins → All (λ (r : NewRow). All (λ (m : NetId). m.0 < length grown) r.fanins) slice
  olds_within slice olds e f below =
      let P : List NewRow → Type 0 = All (λ (r : NewRow). All (λ (m : NetId). m.0 < length grown) r.fanins) in
      let Q : ℕ → Type 0 = λ n. All (λ (r : NewRow). All (λ (m : NetId). m.0 < n) r.fanins) (map (old_of fanins) rows) in
      subst P (sym (e ∙ f)) (subst Q (sym is_grown.long) (olds_small rows fanins readers may turned below))

  -- the rows came, and the readers that went with the old rows are gone
  pub turned_done : (new slice_fanins pruned : List (List NetId)) (slice olds : List NewRow) → slice_fanins ≡ new → new ≡ rows_from rows 0 fanins → slice ≡ olds → olds ≡ map (old_of fanins) rows → HasReaders new grown
      → IsShrunk grown pruned (λ n m. is_given slice n m && not (has_id (row slice_fanins n) m)) → IsTranspose new pruned
  turned_done new slice_fanins pruned slice olds e f g h has s =
      let F : List NewRow → List (List NetId) → Type 0 = λ rs l. IsShrunk grown pruned (λ n m. is_given rs n m && not (has_id (row l n) m)) in
      let A : List NewRow → Type 0 = λ rs. F rs slice_fanins in
      let B : List (List NetId) → Type 0 = λ l. F (map (old_of fanins) rows) l in
      let C : List (List NetId) → Type 0 = λ l. HasReaders l grown in
      let D : List (List NetId) → Type 0 = λ l. IsTranspose l pruned in
      subst D (sym f)
      (transpose-pruned (rows_from rows 0 fanins) grown pruned (map (old_of fanins) rows) (subst B (e ∙ f) (subst A (g ∙ h) s)) (subst C f has)
      (is_grown.long ∙ (turned.long ∙ sym (length-rows_from rows 0 fanins))) (done_gone rows fanins readers may turned grown is_grown))

  -- the rows did not come, and the readers that would have come with them are gone
  pub turned_undone : (new slice_fanins pruned : List (List NetId)) (slice left : List NewRow) → slice_fanins ≡ new → new ≡ fanins → slice ≡ left → left ≡ rows
      → IsShrunk grown pruned (λ n m. is_given slice n m && not (has_id (row slice_fanins n) m)) → IsTranspose fanins pruned
  turned_undone new slice_fanins pruned slice left e f g h s =
      let F : List NewRow → List (List NetId) → Type 0 = λ rs l. IsShrunk grown pruned (λ n m. is_given rs n m && not (has_id (row l n) m)) in
      let A : List NewRow → Type 0 = λ rs. F rs slice_fanins in
      let B : List (List NetId) → Type 0 = λ l. F rows l in
      transpose-pruned fanins grown pruned rows (subst B (e ∙ f) (subst A (g ∙ h) s)) (old_readers rows fanins readers may turned grown is_grown) (is_grown.long ∙ turned.long)
      (undone_gone rows fanins readers may turned grown is_grown)

-- ---- more numbers

-- so many lists without nets
abbrev pub none_of : ℕ → List (List NetId)
none_of k = replicate k []

row-grown : (rows : List (List NetId)) (k n : ℕ) → row (rows ++ replicate k []) n ≡ row rows n
row-grown rows k n =
    ⊎_elim
    (λ (low : n < length rows). get_or_append_left rows (replicate k []) [] n low)
    (λ (high : length rows ≤ n). get_or-append_right rows (replicate k []) (length rows) n [] refl high ∙ (none k (n - length rows) ∙ sym (get_or_past rows n [] high)))
    (cases_lt n (length rows))
  where
    none : (k i : ℕ) → row (none_of k) i ≡ []
    none k i =
        ⊎_elim
        (λ (low : i < k). get_or-replicate k i [] [] low)
        (λ (high : k ≤ i). let e : length (none_of k) ≡ k = length-replicate k [] in get_or_past (none_of k) i [] (omega arith))
        (cases_lt i k)

pub below-grown : (rows : List (List NetId)) (k : ℕ) → AllBelow rows → AllBelow (rows ++ replicate k [])
below-grown rows k below i d lt j e inside =
    let long = length-append rows (replicate k []) in
    let ns = get_or (rows ++ replicate k []) i d in
    let is : row rows i ≡ ns = sym (row-grown rows k i) ∙ get_or_default (rows ++ replicate k []) i [] d lt in
    let m = (get_or ns j e).0 in
    let low : m < length rows = column_below rows i m below (ap (λ l. has_id l m) is ∙ has_id-at ns j e inside) in
    omega arith

pub transpose-grown : (fanins readers : List (List NetId)) (k : ℕ) → IsTranspose fanins readers → IsTranspose (fanins ++ replicate k []) (readers ++ replicate k [])
transpose-grown fanins readers k t = record {
  long = length-append readers (replicate k []) ∙ (ap (λ n. n + length (none_of k)) t.long ∙ sym (length-append fanins (replicate k [])));
  each = λ m.
      let P : List NetId → Type 0 = IsAscending (λ n. has_id (row (fanins ++ replicate k []) n) m) in
      subst P (sym (row-grown readers k m))
      (IsAscending-same (λ n. has_id (row fanins n) m) (λ n. has_id (row (fanins ++ replicate k []) n) m) (row readers m) (λ n. ap (λ l. has_id l m) (sym (row-grown fanins k n))) (t.each m));
}

-- the readers of the first numbers, where those that came read nothing
pub transpose-front : (fanins readers : List (List NetId)) (k : ℕ) → AllBelow fanins → IsTranspose (fanins ++ replicate k []) readers → IsTranspose fanins (take (length fanins) readers)
transpose-front fanins readers k below t = record { long = length-take-le (length fanins) readers enough; each = each }
  where
    enough : length fanins ≤ length readers
    enough = let a = t.long in let b = length-append fanins (replicate k []) in omega arith

    each : (m : ℕ) → IsAscending (λ n. has_id (row fanins n) m) (row (take (length fanins) readers) m)
    each m =
        let P : List NetId → Type 0 = IsAscending (λ n. has_id (row fanins n) m) in
        ⊎_elim
        (λ (low : m < length fanins).
        subst P (sym (get_or-take (length fanins) readers m [] low))
        (IsAscending-same (λ n. has_id (row (fanins ++ replicate k []) n) m) (λ n. has_id (row fanins n) m) (row readers m) (λ n. ap (λ l. has_id l m) (row-grown fanins k n)) (t.each m)))
        (λ (high : length fanins ≤ m).
        let long = length-take-le (length fanins) readers enough in
        subst P (sym (get_or_past (take (length fanins) readers) m [] (omega arith)))
        (record {
          ascending = refl;
          members = λ n. sym (false_from_ne_true (has_id (row fanins n) m) (λ h. let low = column_below fanins n m below h in absurd (omega arith)));
        }))
        (cases_lt m (length fanins))
