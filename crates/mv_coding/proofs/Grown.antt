-- Nets with those that come to stand for one of them: where they stand, and what their tables read.
use Rattle.std.proofs.Common.{◌≡◌, ◌∙◌, ◌⊎◌, ℕ, zero, suc, ◌+◌, ◌-◌, ◌<◌, ◌≤◌, true, false, List, [], ◌∷◌, ◌++◌, length, map, Option, None, inl, inr, sym, ap, subst, ⊎_elim, arith}
use Rattle.std.proofs.lemmas.Bool.{cases_lt, false≢true}
use Rattle.std.proofs.lemmas.List.{get_or_append_left, get_or-append-add}
use Rattle.mv_cover.specs.declared.cover.Cover.{Cover}
use Rattle.mv_cover.specs.Covers.{cover_reads}
use Rattle.mv_meaning.specs.Rewriting.{rewritten, IsReader}
use Rattle.mv_meaning.proofs.Rewired.{IsMadeOf, HasStayed, rewritten_from, reader_at}
use Rattle.mv_net.specs.declared.change.NewNet.{NewNet}
use Rattle.mv_net.specs.declared.parts.FlatNet.{FlatNet}
use Rattle.mv_net.specs.Changes.{made_net}
use Rattle.mv_net.specs.Nets.{slot, table_in, net_reads, reads_in, table_reads}
use Rattle.mv_coding.proofs.Standing.{AllFollow}

-- the nets with those that come behind them
abbrev pub with_more : List (Option FlatNet) → List NewNet → List (Option FlatNet)
with_more nets ms = nets ++ map made_net ms

-- and of these the readers of n have their new tables
abbrev pub restated : (Cover → Cover) → ℕ → List (Option FlatNet) → List NewNet → List (Option FlatNet)
restated new n nets ms = rewritten new n (with_more nets ms)

-- those that were there stay where they were
pub slot-low : (nets : List (Option FlatNet)) (ms : List NewNet) (k : ℕ) → k < length nets → slot (with_more nets ms) k ≡ slot nets k
slot-low nets ms k low = get_or_append_left nets (map made_net ms) None k low

pub slot-high : (nets : List (Option FlatNet)) (ms : List NewNet) (i : ℕ) → slot (with_more nets ms) (length nets + i) ≡ slot (map made_net ms) i
slot-high nets ms i = get_or-append-add nets (map made_net ms) i None

-- the table of one that comes reads nothing that the table doesn't which it follows
pub made_reads : (c : Cover) (ms : List NewNet) (i k : ℕ) → AllFollow c ms → net_reads (slot (map made_net ms) i) k ≡ true → cover_reads c k ≡ true
made_reads c [] i k all r = absurd (false≢true r)
made_reads c (m ∷ ms) zero k all r = all.0.reads.each k r
made_reads c (m ∷ ms) (suc i) k all r = made_reads c ms i k all.1 r

-- one of the nets that were there reads what it did, and one that comes what the table reads that it follows
pub more_reads : (nets : List (Option FlatNet)) (c : Cover) (ms : List NewNet) (m k : ℕ) → AllFollow c ms → reads_in (with_more nets ms) m k ≡ true → ((m < length nets) × (reads_in nets m k ≡ true)) ⊎ ((length nets ≤ m) × (cover_reads c k ≡ true))
more_reads nets c ms m k all r =
    ⊎_elim
    (λ (low : m < length nets). inl (low, ap (λ f. net_reads f k) (sym (slot-low nets ms m low)) ∙ r))
    (λ (high : length nets ≤ m).
    let e : length nets + (m - length nets) ≡ m = omega arith in
    let at : slot (map made_net ms) (m - length nets) ≡ slot (with_more nets ms) m = sym (slot-high nets ms (m - length nets)) ∙ ap (slot (with_more nets ms)) e in
    inr (high, made_reads c ms (m - length nets) k all (ap (λ f. net_reads f k) at ∙ r)))
    (cases_lt m (length nets))

-- where the table doesn't read n, each that reads n was there
pub more_reader : (nets : List (Option FlatNet)) (c : Cover) (ms : List NewNet) (n m : ℕ) (d : Cover) → AllFollow c ms → cover_reads c n ≡ false → IsReader (with_more nets ms) n m d → (m < length nets) × IsReader nets n m d
more_reader nets c ms n m d all unread r =
    ⊎_elim
    (λ (was : (m < length nets) × (reads_in nets m n ≡ true)). (was.0, record { table = ap table_in (sym (slot-low nets ms m was.0)) ∙ r.table; reads = r.reads }))
    (λ (came : (length nets ≤ m) × (cover_reads c n ≡ true)). absurd (false≢true (sym unread ∙ came.1)))
    (more_reads nets c ms m n all (ap (λ t. table_reads t n) r.table ∙ r.reads))

-- ---- the readers with their new tables

-- m reads k by a new table that is made of one that read n
pub record ReadsNew (new : Cover → Cover) (n : ℕ) (nets : List (Option FlatNet)) (m k : ℕ) : Type 0 where
  pub was : Cover
  pub reader : IsReader nets n m was
  pub reads : cover_reads (new was) k ≡ true

-- m reads k as it did, and doesn't read n
pub record ReadsStill (n : ℕ) (nets : List (Option FlatNet)) (m k : ℕ) : Type 0 where
  pub unread : reads_in nets m n ≡ false
  pub reads : reads_in nets m k ≡ true

pub rewritten_reads : (new : Cover → Cover) (n : ℕ) (nets : List (Option FlatNet)) (m k : ℕ) → reads_in (rewritten new n nets) m k ≡ true → ReadsNew new n nets m k ⊎ ReadsStill n nets m k
rewritten_reads new n nets m k r =
    let at = reader_at (rewritten new n nets) k m r in
    ⊎_elim
    (λ (made : IsMadeOf new n nets m at.0). inl (record { was = made.was; reader = made.reader; reads = subst (λ d. cover_reads d k ≡ true) made.is at.1.reads }))
    (λ (left : HasStayed n nets m at.0). inr (record { unread = ap (λ t. table_reads t n) left.table ∙ left.unread; reads = ap (λ t. table_reads t k) left.table ∙ at.1.reads }))
    (rewritten_from new n nets m at.0 at.1.table)
