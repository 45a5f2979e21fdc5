-- Nets none of which is above itself have ranks: the number of nets above each. Which nets are above a net isn't computed
-- here, so it is only shown that it can't be that they have none.
use Rattle.std.proofs.Common.{◌≡◌, ℕ, suc, zero, ◌+◌, ◌<◌, ◌≤◌, Bool, true, false, ◌⊎◌, ⊎_elim, inl, inr, List, [], ◌∷◌, length, refl, sym, subst, arith}
use Rattle.std.specs.Prelude.{if◌then◌else◌}
use Rattle.std.proofs.lemmas.Bool.{false≢true, cases_Bool, cases_lt}
use Rattle.std.proofs.lemmas.List.{get_or_past}
use Rattle.mv_base.specs.declared.number.NetId.{NetId}
use Rattle.mv_graph.specs.Nets.{has_id, row, AllBelow}
use Rattle.mv_graph.specs.Marks.{is_marked, AreAbove}
use Rattle.mv_graph.specs.Above.{GoesOn, IsAbove, IsAcyclic, reads_by}
use Rattle.mv_graph.proofs.Columns.{column_below, none_in}
use Rattle.mv_graph.proofs.Paths.{above_more}
use Rattle.mv_graph.proofs.Ranks.{IsRanked}

-- how many marks there are
abbrev marked : List Bool → ℕ
marked [] = 0
marked (b ∷ bs) = (if b then 1 else 0) + marked bs

fewer : (us vs : List Bool) → ((k : ℕ) → is_marked us k ≡ true → is_marked vs k ≡ true) → marked us ≤ marked vs
fewer [] vs h = omega arith
fewer (true ∷ us) [] h = absurd (false≢true (h 0 refl))
fewer (false ∷ us) [] h = let l = fewer us [] (λ k e. absurd (false≢true (h (suc k) e))) in omega arith
fewer (true ∷ us) (true ∷ vs) h = let l = fewer us vs (λ k. h (suc k)) in omega arith
fewer (true ∷ us) (false ∷ vs) h = absurd (false≢true (h 0 refl))
fewer (false ∷ us) (v ∷ vs) h = let l = fewer us vs (λ k. h (suc k)) in omega arith

some_marked : (vs : List Bool) (m : ℕ) → is_marked vs m ≡ true → 0 < marked vs
some_marked [] m e = absurd (false≢true e)
some_marked (true ∷ vs) m e = omega arith
some_marked (false ∷ vs) zero e = absurd (false≢true e)
some_marked (false ∷ vs) (suc m) e = let l = some_marked vs m e in omega arith

-- marks of which one is missing are fewer
less : (us vs : List Bool) (m : ℕ) → ((k : ℕ) → is_marked us k ≡ true → is_marked vs k ≡ true) → is_marked us m ≡ false → is_marked vs m ≡ true → marked us < marked vs
less us [] m h n e = absurd (false≢true e)
less [] (v ∷ vs) m h n e = some_marked (v ∷ vs) m e
less (true ∷ us) (v ∷ vs) zero h n e = absurd (false≢true (sym n))
less (false ∷ us) (true ∷ vs) zero h n e = let l = fewer us vs (λ k. h (suc k)) in omega arith
less (false ∷ us) (false ∷ vs) zero h n e = absurd (false≢true e)
less (true ∷ us) (true ∷ vs) (suc m) h n e = let l = less us vs m (λ k. h (suc k)) n e in omega arith
less (true ∷ us) (false ∷ vs) (suc m) h n e = absurd (false≢true (h 0 refl))
less (false ∷ us) (v ∷ vs) (suc m) h n e = let l = less us vs m (λ k. h (suc k)) n e in omega arith

-- what is above a marked net is marked
pub goes_inside : (columns : List (List NetId)) (n : ℕ) (marks : List Bool) → AreAbove columns n marks → (path : List ℕ) (m k : ℕ) → is_marked marks m ≡ true → GoesOn (reads_by columns) k m path → is_marked marks k ≡ true
goes_inside columns n marks a [] m k e g = a.closed m k e g
goes_inside columns n marks a (j ∷ path) m k e g = goes_inside columns n marks a path j k (a.closed m j e g.0) g.1

-- a net that isn't above itself, as the marks of the nets above it show
record IsClear (columns : List (List NetId)) (n : ℕ) : Type 0 where
  marks : List Bool
  are : AreAbove columns n marks
  clear : is_marked marks n ≡ false

-- a column of a net has fewer nets above it
clear_less : (columns : List (List NetId)) (n m : ℕ) (c : IsClear columns n) (d : IsClear columns m) → has_id (row columns n) m ≡ true → marked d.marks < marked c.marks
clear_less columns n m c d h =
    let e = c.are.first m h in
    less d.marks c.marks m
    (λ k y. let a = d.are.above k y in goes_inside columns n c.marks c.are a.path m k e a.goes)
    d.clear e

abbrev AreClear : List (List NetId) → Type 0
AreClear columns = (n : ℕ) → n < length columns → IsClear columns n

abbrev rank_of : (columns : List (List NetId)) → AreClear columns → (n : ℕ) → (n < length columns) ⊎ (length columns ≤ n) → ℕ
rank_of columns clear n (inl low) = marked (clear n low).marks
rank_of columns clear n (inr high) = 0

rank_falls : (columns : List (List NetId)) (clear : AreClear columns) → AllBelow columns → (n m : ℕ) (b : (n < length columns) ⊎ (length columns ≤ n)) (c : (m < length columns) ⊎ (length columns ≤ m)) → has_id (row columns n) m ≡ true
    → rank_of columns clear m c < rank_of columns clear n b
rank_falls columns clear below n m (inr high) c h = absurd (none_in (row columns n) m (get_or_past columns n [] high) h)
rank_falls columns clear below n m (inl low) (inl l) h = clear_less columns n m (clear n low) (clear m l) h
rank_falls columns clear below n m (inl low) (inr r) h = let l = column_below columns n m below h in absurd (omega arith)

-- nets that are all clear have ranks
ranked_clear : (columns : List (List NetId)) → AllBelow columns → AreClear columns → IsRanked (reads_by columns)
ranked_clear columns below clear = record {
  rank = λ n. rank_of columns clear n (cases_lt n (length columns));
  falls = λ n m h. rank_falls columns clear below n m (cases_lt n (length columns)) (cases_lt m (length columns)) h;
}

-- ---- marks

-- the marks of the numbers below `size` of which P holds
record Decided (P : ℕ → Type 0) (size : ℕ) : Type 0 where
  marks : List Bool
  long : length marks ≡ size
  holds : (k : ℕ) → is_marked marks k ≡ true → P k
  has : (k : ℕ) → k < size → P k → is_marked marks k ≡ true

with_first : (P : ℕ → Type 0) (size : ℕ) → Decided (λ k. P (suc k)) size → (P 0) ⊎ (P 0 → ⊥) → Decided P (suc size)
with_first P size d (inl p) = record { marks = true ∷ d.marks; long = (let l = d.long in omega arith); holds = holds; has = has }
  where
    holds : (k : ℕ) → is_marked (true ∷ d.marks) k ≡ true → P k
    holds zero e = p
    holds (suc k) e = d.holds k e

    has : (k : ℕ) → k < suc size → P k → is_marked (true ∷ d.marks) k ≡ true
    has zero l q = refl
    has (suc k) l q = d.has k (omega arith) q
with_first P size d (inr n) = record { marks = false ∷ d.marks; long = (let l = d.long in omega arith); holds = holds; has = has }
  where
    holds : (k : ℕ) → is_marked (false ∷ d.marks) k ≡ true → P k
    holds zero e = absurd (false≢true e)
    holds (suc k) e = d.holds k e

    has : (k : ℕ) → k < suc size → P k → is_marked (false ∷ d.marks) k ≡ true
    has zero l q = absurd (n q)
    has (suc k) l q = d.has k (omega arith) q

either : (P : Type 0) → ((P ⊎ (P → ⊥)) → ⊥) → ⊥
either P never = never (inr (λ p. never (inl p)))

-- it can't be that there are none
decided : (P : ℕ → Type 0) (size : ℕ) → (Decided P size → ⊥) → ⊥
decided P zero never = never (record { marks = []; long = refl; holds = λ k e. absurd (false≢true e); has = λ k l q. absurd (omega arith) })
decided P (suc size) never = decided (λ k. P (suc k)) size (λ d. either (P 0) (λ w. never (with_first P size d w)))

clear_from : (columns : List (List NetId)) (n : ℕ) → AllBelow columns → (IsAbove (reads_by columns) n n → ⊥) → Decided (λ k. IsAbove (reads_by columns) k n) (length columns) → IsClear columns n
clear_from columns n below not d = record {
  marks = d.marks;
  are = record {
    long = d.long;
    first = λ m h. d.has m (column_below columns n m below h) (record { path = []; goes = h });
    closed = λ k m e h. d.has m (column_below columns k m below h) (above_more (reads_by columns) n k m (d.holds k e) h);
    above = d.holds;
  };
  clear = ⊎_elim (λ (y : is_marked d.marks n ≡ true). absurd (not (d.holds n y))) (λ (f : is_marked d.marks n ≡ false). f) (cases_Bool (is_marked d.marks n));
}

all_below : (P : ℕ → Type 0) (size : ℕ) → ((n : ℕ) → n < size → (P n → ⊥) → ⊥) → (((n : ℕ) → n < size → P n) → ⊥) → ⊥
all_below P zero each never = never (λ n l. absurd (omega arith))
all_below P (suc size) each never =
    all_below P size (λ n l. each n (omega arith)) (λ all. each size (omega arith) (λ here. never (λ n l.
    ⊎_elim (λ (low : n < size). all n low) (λ (high : size ≤ n). same n (omega arith) here) (cases_lt n size))))
  where
    same : (n : ℕ) → size ≡ n → P size → P n
    same n e p = subst P e p

-- nets none of which is above itself can't be without ranks
pub not_unranked : (columns : List (List NetId)) → AllBelow columns → IsAcyclic (reads_by columns) → (IsRanked (reads_by columns) → ⊥) → ⊥
not_unranked columns below acyclic never =
    all_below (IsClear columns) (length columns)
    (λ n l out. decided (λ k. IsAbove (reads_by columns) k n) (length columns) (λ d. out (clear_from columns n below (acyclic.none n) d)))
    (λ clear. never (ranked_clear columns below clear))
