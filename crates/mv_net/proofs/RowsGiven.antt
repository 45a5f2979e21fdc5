-- The rows that a change gives nets are those of the changed network.
use Rattle.std.proofs.Common.{◌≡◌, ◌∙◌, ℕ, zero, suc, ◌+◌, ◌-◌, ◌<◌, ◌≤◌, Bool, true, false, not, ◌||◌, cond, nat_eq, List, [], ◌∷◌, ◌++◌, length, map, get_or, take, replicate, append_assoc, Option, Some, None, is_some, refl, sym, ap, subst, ⊎_elim, eq-eqb, eqb-true, arith, All}
use Rattle.std.specs.Option.{option_map, option_or}
use Rattle.std.proofs.lemmas.Bool.{cases_Bool, cases_lt, and_parts, and_from, or_from, or_cases, or_left, or_right, false≢true, ne_eqb}
use Rattle.std.proofs.lemmas.List.{length-append, length-replicate, map-append, get_or_past, get_or_append_left, get_or-append_right, get_or-replicate, take_more, length-take}
use Rattle.std.proofs.lemmas.List.Elements.{All-nil, All-cons}
use Rattle.mv_base.specs.declared.limits.TheConstants.{MAX_NETS}
use Rattle.mv_base.specs.declared.number.NetId.{NetId}
use Rattle.mv_cover.specs.declared.cover.Cover.{Cover}
use Rattle.mv_graph.specs.Nets.{has_id, row, all_differ, IsAscending}
use Rattle.mv_graph.specs.Above.{reads_by}
use Rattle.mv_graph.proofs.Nets.{IsAscending-same, IsAscending-none, has_id-append}
use Rattle.mv_graph.proofs.Paths.{acyclic_mapped}
use Rattle.mv_dag.specs.declared.new_rows.NewRow.{NewRow}
use Rattle.mv_dag.specs.Rows.{nets_of, row_given, rows_from, changed_rows}
use Rattle.mv_net.specs.declared.change.NewNet.{NewNet}
use Rattle.mv_net.specs.declared.change.NewTable.{NewTable}
use Rattle.mv_net.specs.declared.change.Change.{Change}
use Rattle.mv_net.specs.declared.parts.FlatNet.{FlatNet}
use Rattle.mv_net.specs.declared.parts.NetParts.{NetParts}
use Rattle.mv_net.specs.Nets.{slot, table_reads, net_reads, reads_in}
use Rattle.mv_net.specs.Formed.{WellFormed}
use Rattle.mv_net.specs.Index.{AreFanins}
use Rattle.mv_net.specs.Changes.{table_for, count_for, with_table, with_count, changed_net, made_net, changed, nets_set, Fits}
use Rattle.mv_net.specs.NewRows.{no_table, new_table, added_tables, tables_of, IsRow, AreRows, CanTake}
use Rattle.mv_net.proofs.Known.{fanins_below}
use Rattle.mv_net.proofs.Named.{or_behind}
use Rattle.mv_net.proofs.Changed.{length-changed, slot-changed_old, slot-changed_new}
use Rattle.mv_net.proofs.Fitting.{none_past, given_listed, gone_below, set_below}

-- ---- numbers and tables

-- the number of the pair, as a net
abbrev pub id_of : ℕ × Option Cover → NetId
id_of q = record { 0 = q.0 }

-- the table that the first pair with this number has
abbrev pub table_at : List (ℕ × Option Cover) → ℕ → Option (Option Cover)
table_at [] n = None
table_at (q ∷ qs) n = cond (nat_eq q.0 n) (Some q.1) (table_at qs n)

table_at-append : (ps qs : List (ℕ × Option Cover)) (n : ℕ) → table_at (ps ++ qs) n ≡ option_or (table_at ps n) (table_at qs n)
table_at-append [] qs n = refl
table_at-append (p ∷ ps) qs n = or_behind (nat_eq p.0 n) p.1 _ _ _ (table_at-append ps qs n)

gone_first : (b h : Bool) (o : Option (Option Cover)) → o ≡ cond h (Some None) None → cond b (Some None) o ≡ cond (b || h) (Some None) None
gone_first true h o e = refl
gone_first false h o e = e

table_at-gone : (ns : List NetId) (n : ℕ) → table_at (map no_table ns) n ≡ cond (has_id ns n) (Some None) None
table_at-gone [] n = refl
table_at-gone (m ∷ ns) n = gone_first (nat_eq m.0 n) (has_id ns n) _ (table_at-gone ns n)

set_first : (b : Bool) (c : Cover) (o : Option (Option Cover)) (t : Option Cover) → o ≡ option_map (λ (d : Cover). Some d) t → cond b (Some (Some c)) o ≡ option_map (λ (d : Cover). Some d) (cond b (Some c) t)
set_first true c o t e = refl
set_first false c o t e = e

table_at-set : (ts : List NewTable) (n : ℕ) → table_at (map new_table ts) n ≡ option_map (λ (c : Cover). Some c) (table_for n ts)
table_at-set [] n = refl
table_at-set (t ∷ ts) n = set_first (nat_eq t.net.0 n) t.table _ _ (table_at-set ts n)

table_at-before : (k : ℕ) (ms : List NewNet) (n : ℕ) → n < k → table_at (added_tables k ms) n ≡ None
table_at-before k [] n low = refl
table_at-before k (m ∷ ms) n low =
    ap (λ b. cond b (Some (Some m.table)) (table_at (added_tables (k + 1) ms) n)) (ne_eqb k n (λ e. absurd (omega arith))) ∙ table_at-before (k + 1) ms n (omega arith)

-- the net that comes with a number has its table
table_at-added : (k : ℕ) (ms : List NewNet) (i : ℕ) → table_at (added_tables k ms) (k + i) ≡ option_map (λ (f : FlatNet). f.table) (slot (map made_net ms) i)
table_at-added k [] i = refl
table_at-added k (m ∷ ms) zero =
    ap (λ b. cond b (Some (Some m.table)) (table_at (added_tables (k + 1) ms) (k + 0))) (eq-eqb k (k + 0) (omega arith))
table_at-added k (m ∷ ms) (suc i) =
    let e : k + suc i ≡ (k + 1) + i = omega arith in
    ap (λ b. cond b (Some (Some m.table)) (table_at (added_tables (k + 1) ms) (k + suc i))) (ne_eqb k (k + suc i) (λ s. absurd (omega arith)))
    ∙ (ap (table_at (added_tables (k + 1) ms)) e ∙ table_at-added (k + 1) ms i)

-- ---- rows for them

pub AreRows-push : (qs : List (ℕ × Option Cover)) (rs : List NewRow) (q : ℕ × Option Cover) (r : NewRow) → AreRows qs rs → IsRow q r → AreRows (qs ++ q ∷ []) (rs ++ r ∷ [])
AreRows-push [] [] q r are is = (is, tt)
AreRows-push [] (s ∷ rs) q r are is = absurd are
AreRows-push (p ∷ qs) [] q r are is = absurd are
AreRows-push (p ∷ qs) (s ∷ rs) q r are is = (are.0, AreRows-push qs rs q r are.1 is)

-- one row more
pub rows_more : (tables front all : List (ℕ × Option Cover)) (q : ℕ × Option Cover) (rows new : List NewRow) (r : NewRow) → all ≡ front ++ q ∷ [] → new ≡ rows ++ r ∷ [] → AreRows (tables ++ front) rows → IsRow q r → AreRows (tables ++ all) new
rows_more tables front all q rows new r e f are is =
    let P : List (ℕ × Option Cover) → Type 0 = λ qs. AreRows qs new in
    let Q : List NewRow → Type 0 = λ rs. AreRows ((tables ++ front) ++ q ∷ []) rs in
    subst P (append_assoc tables front (q ∷ []) ∙ ap (λ l. tables ++ l) (sym e)) (subst Q (sym f) (AreRows-push (tables ++ front) rows q r are is))

added_tables-push : (k : ℕ) (ms : List NewNet) (m : NewNet) → added_tables k (ms ++ m ∷ []) ≡ added_tables k ms ++ (k + length ms, Some m.table) ∷ []
added_tables-push k [] m = let e : k ≡ k + 0 = omega arith in λ i. (e i, Some m.table) ∷ []
added_tables-push k (n ∷ ms) m =
    let e : (k + 1) + length ms ≡ k + suc (length ms) = omega arith in
    ap (λ l. (k, Some n.table) ∷ l) (added_tables-push (k + 1) ms m ∙ ap (λ j. added_tables (k + 1) ms ++ (j, Some m.table) ∷ []) e)

pub added_tables-more : (k : ℕ) (ms : List NewNet) (i : ℕ) (x : NewNet) → i < length ms → x ≡ get_or ms i x → added_tables k (take (i + 1) ms) ≡ added_tables k (take i ms) ++ (k + i, Some x.table) ∷ []
added_tables-more k ms i x lt is =
    let n : length (take i ms) ≡ i = omega (arith, length-take i ms) in
    ap (added_tables k) (take_more ms i x lt) ∙ (added_tables-push k (take i ms) (get_or ms i x) ∙ (λ p. added_tables k (take i ms) ++ (k + n p, Some (sym is p).table) ∷ []))

-- what the net at a number reads behind the change, if it is given a table, and else what it read
abbrev pub reads_given : Option (Option Cover) → (ℕ → Bool) → ℕ → Bool
reads_given None test m = test m
reads_given (Some t) test m = table_reads t m

first_reads : (b d : Bool) (q : ℕ × Option Cover) (r : NewRow) (o : Option (Option Cover)) (test : ℕ → Bool) (rest : List NetId) → d ≡ b → IsRow q r → IsAscending (reads_given o test) rest → IsAscending (reads_given (cond b (Some q.1) o) test) (cond d r.fanins rest)
first_reads true true q r o test rest e is more = is.fanins
first_reads true false q r o test rest e is more = absurd (false≢true e)
first_reads false true q r o test rest e is more = absurd (false≢true (sym e))
first_reads false false q r o test rest e is more = more

given_reads : (qs : List (ℕ × Option Cover)) (rs : List NewRow) (n : ℕ) (test : ℕ → Bool) (old : List NetId) → AreRows qs rs → IsAscending test old → IsAscending (reads_given (table_at qs n) test) (row_given rs n old)
given_reads [] [] n test old are was = was
given_reads [] (r ∷ rs) n test old are was = absurd are
given_reads (q ∷ qs) [] n test old are was = absurd are
given_reads (q ∷ qs) (r ∷ rs) n test old are was =
    first_reads (nat_eq q.0 n) (nat_eq r.net.0 n) q r (table_at qs n) test (row_given rs n old) (ap (λ k. nat_eq k n) are.0.net) are.0 (given_reads qs rs n test old are.1 was)

same_id : (m n : NetId) → m.0 ≡ n.0 → m ≡ n
same_id m n e = λ i. record { 0 = e i }

nets_given : (qs : List (ℕ × Option Cover)) (rs : List NewRow) → AreRows qs rs → nets_of rs ≡ map id_of qs
nets_given [] [] are = refl
nets_given [] (r ∷ rs) are = absurd are
nets_given (q ∷ qs) [] are = absurd are
nets_given (q ∷ qs) (r ∷ rs) are = λ i. same_id r.net (id_of q) are.0.net i ∷ nets_given qs rs are.1 i

-- ---- each number stands once among them

all_differ-append : (ms ns : List NetId) → all_differ ms ≡ true → all_differ ns ≡ true → ((n : ℕ) → has_id ms n ≡ true → has_id ns n ≡ false) → all_differ (ms ++ ns) ≡ true
all_differ-append [] ns a b apart = b
all_differ-append (m ∷ ms) ns a b apart =
    let p = and_parts (not (has_id ms m.0)) (all_differ ms) a in
    let out : has_id ms m.0 ≡ false = not_false (has_id ms m.0) p.0 in
    let other : has_id ns m.0 ≡ false = apart m.0 (ap (λ b. b || has_id ms m.0) (eq-eqb m.0 m.0 refl)) in
    and_from (not (has_id (ms ++ ns) m.0)) (all_differ (ms ++ ns))
    (ap not (has_id-append ms ns m.0 ∙ or_from (has_id ms m.0) (has_id ns m.0) out other))
    (all_differ-append ms ns p.1 b (λ n h. apart n (or_second (nat_eq m.0 n) (has_id ms n) h)))
  where
    not_false : (b : Bool) → not b ≡ true → b ≡ false
    not_false true e = sym e
    not_false false e = refl

    or_second : (b d : Bool) → d ≡ true → (b || d) ≡ true
    or_second true d e = refl
    or_second false d e = e

ids-gone : (ns : List NetId) → map id_of (map no_table ns) ≡ ns
ids-gone [] = refl
ids-gone (n ∷ ns) = ap (λ l. n ∷ l) (ids-gone ns)

ids-set : (ts : List NewTable) → map id_of (map new_table ts) ≡ map (λ (t : NewTable). t.net) ts
ids-set [] = refl
ids-set (t ∷ ts) = ap (λ l. t.net ∷ l) (ids-set ts)

-- the numbers of nets that come go up from k
added_within : (k : ℕ) (ms : List NewNet) (n : ℕ) → has_id (map id_of (added_tables k ms)) n ≡ true → (k ≤ n) × (n < k + length ms)
added_within k [] n h = absurd (false≢true h)
added_within k (m ∷ ms) n h =
    ⊎_elim
    (λ (y : nat_eq k n ≡ true). let e : k ≡ n = eqb-true k n y in (omega arith, omega arith))
    (λ (rest : has_id (map id_of (added_tables (k + 1) ms)) n ≡ true). let r = added_within (k + 1) ms n rest in (omega arith, omega arith))
    (or_cases (nat_eq k n) (has_id (map id_of (added_tables (k + 1) ms)) n) h)

added_out : (k : ℕ) (ms : List NewNet) (n : ℕ) → n < k → has_id (map id_of (added_tables k ms)) n ≡ false
added_out k ms n low =
    ⊎_elim
    (λ (y : has_id (map id_of (added_tables k ms)) n ≡ true). let r = added_within k ms n y in absurd (omega arith))
    (λ (f : has_id (map id_of (added_tables k ms)) n ≡ false). f)
    (cases_Bool (has_id (map id_of (added_tables k ms)) n))

added_differ : (k : ℕ) (ms : List NewNet) → all_differ (map id_of (added_tables k ms)) ≡ true
added_differ k [] = refl
added_differ k (m ∷ ms) =
    and_from (not (has_id (map id_of (added_tables (k + 1) ms)) k)) (all_differ (map id_of (added_tables (k + 1) ms)))
    (ap not (added_out (k + 1) ms k (omega arith))) (added_differ (k + 1) ms)

-- ---- of a change that fits

module _ (net : NetParts) (c : Change) (fits : Fits net c) where
  -- the numbers of all rows, in order
  ids : map id_of (tables_of c (length net.nets)) ≡ (c.gone ++ nets_set c) ++ map id_of (added_tables (length net.nets) c.add)
  ids =
      map-append id_of (map no_table c.gone ++ map new_table c.set) (added_tables (length net.nets) c.add)
      ∙ ap (λ l. l ++ map id_of (added_tables (length net.nets) c.add))
      (map-append id_of (map no_table c.gone) (map new_table c.set) ∙ (λ i. ids-gone c.gone i ++ ids-set c.set i))

  old_below : (n : ℕ) → has_id (c.gone ++ nets_set c) n ≡ true → n < length net.nets
  old_below n h =
      ⊎_elim (λ (y : has_id c.gone n ≡ true). gone_below net c fits n y) (λ (y : has_id (nets_set c) n ≡ true). set_below net c fits n y)
      (or_cases (has_id c.gone n) (has_id (nets_set c) n) (sym (has_id-append c.gone (nets_set c) n) ∙ h))

  once : all_differ (map id_of (tables_of c (length net.nets))) ≡ true
  once =
      ap all_differ ids
      ∙ all_differ-append (c.gone ++ nets_set c) (map id_of (added_tables (length net.nets) c.add))
      (all_differ-append c.gone (nets_set c) fits.gone.once fits.set.once (λ n h. (fits.apart n h).0))
      (added_differ (length net.nets) c.add)
      (λ n h. added_out (length net.nets) c.add n (old_below n h))

  within : (n : ℕ) → has_id (map id_of (tables_of c (length net.nets))) n ≡ true → n < length net.nets + length c.add
  within n h =
      ⊎_elim
      (λ (y : has_id (c.gone ++ nets_set c) n ≡ true). let low = old_below n y in omega arith)
      (λ (y : has_id (map id_of (added_tables (length net.nets) c.add)) n ≡ true). (added_within (length net.nets) c.add n y).1)
      (or_cases (has_id (c.gone ++ nets_set c) n) (has_id (map id_of (added_tables (length net.nets) c.add)) n)
      (sym (has_id-append (c.gone ++ nets_set c) (map id_of (added_tables (length net.nets) c.add)) n) ∙ (ap (λ l. has_id l n) (sym ids) ∙ h)))

  -- ---- what a net reads behind the change

  table_of_all : (n : ℕ) → table_at (tables_of c (length net.nets)) n ≡ option_or (option_or (cond (has_id c.gone n) (Some None) None) (option_map (λ (t : Cover). Some t) (table_for n c.set))) (table_at (added_tables (length net.nets) c.add) n)
  table_of_all n =
      table_at-append (map no_table c.gone ++ map new_table c.set) (added_tables (length net.nets) c.add) n
      ∙ ap (λ o. option_or o (table_at (added_tables (length net.nets) c.add) n))
      (table_at-append (map no_table c.gone) (map new_table c.set) n ∙ (λ i. option_or (table_at-gone c.gone n i) (table_at-set c.set n i)))

  -- a number that was there
  reads_old : (n m : ℕ) → n < length net.nets → reads_given (table_at (tables_of c (length net.nets)) n) (net_reads (slot net.nets n)) m ≡ net_reads (changed_net c n (slot net.nets n)) m
  reads_old n m low =
      ap (λ o. reads_given o (net_reads (slot net.nets n)) m)
      (table_of_all n ∙ ap (option_or (option_or (cond (has_id c.gone n) (Some None) None) (option_map (λ (t : Cover). Some t) (table_for n c.set)))) (table_at-before (length net.nets) c.add n low))
      ∙ by_slot (slot net.nets n) refl
    where
      kept : (k : Option ℕ) (f : FlatNet) → table_reads f.table m ≡ table_reads (with_count k f).table m
      kept None f = refl
      kept (Some k) f = refl

      none : (g : Bool) (t : Option Cover) → ((u : Cover) → t ≡ Some u → ⊥) → reads_given (option_or (option_or (cond g (Some None) None) (option_map (λ (u : Cover). Some u) t)) None) (net_reads None) m ≡ false
      none true None out = refl
      none true (Some u) out = refl
      none false None out = refl
      none false (Some u) out = absurd (out u refl)

      some : (g : Bool) (t : Option Cover) (k : Option ℕ) (f : FlatNet) → reads_given (option_or (option_or (cond g (Some None) None) (option_map (λ (u : Cover). Some u) t)) None) (net_reads (Some f)) m ≡ net_reads (cond g None (Some (with_count k (with_table t f)))) m
      some true None k f = refl
      some true (Some u) k f = refl
      some false None k f = kept k f
      some false (Some u) k f = kept k (record f { table = Some u })

      by_slot : (f : Option FlatNet) → slot net.nets n ≡ f → reads_given (option_or (option_or (cond (has_id c.gone n) (Some None) None) (option_map (λ (u : Cover). Some u) (table_for n c.set))) None) (net_reads f) m ≡ net_reads (changed_net c n f) m
      by_slot None e =
          none (has_id c.gone n) (table_for n c.set)
          (λ u t. false≢true (sym (ap (λ (f : Option FlatNet). is_some f) e) ∙ fits.set.held n (given_listed c.set n u t)))
      by_slot (Some f) e = some (has_id c.gone n) (table_for n c.set) (count_for n c.values) f

  -- a number that comes
  reads_new : (i m : ℕ) → reads_given (table_at (tables_of c (length net.nets)) (length net.nets + i)) (net_reads (slot net.nets (length net.nets + i))) m ≡ net_reads (slot (map made_net c.add) i) m
  reads_new i m =
      ap (λ o. reads_given o (net_reads (slot net.nets (length net.nets + i))) m) (table_of_all (length net.nets + i) ∙ alone)
      ∙ by_slot (slot (map made_net c.add) i)
    where
      past : length net.nets ≤ length net.nets + i
      past = omega arith

      out : (list : List NetId) (n : ℕ) → ((m : ℕ) → has_id list m ≡ true → m < length net.nets) → length net.nets ≤ n → has_id list n ≡ false
      out = none_past (length net.nets)

      ungiven : (o : Option Cover) → table_for (length net.nets + i) c.set ≡ o → option_map (λ (t : Cover). Some t) o ≡ None
      ungiven None e = refl
      ungiven (Some u) e = absurd (false≢true (sym (out (nets_set c) (length net.nets + i) (set_below net c fits) past) ∙ given_listed c.set (length net.nets + i) u e))

      alone : option_or (option_or (cond (has_id c.gone (length net.nets + i)) (Some None) None) (option_map (λ (t : Cover). Some t) (table_for (length net.nets + i) c.set))) (table_at (added_tables (length net.nets) c.add) (length net.nets + i)) ≡ option_map (λ (f : FlatNet). f.table) (slot (map made_net c.add) i)
      alone =
          ap (λ b. option_or (option_or (cond b (Some None) None) (option_map (λ (t : Cover). Some t) (table_for (length net.nets + i) c.set))) (table_at (added_tables (length net.nets) c.add) (length net.nets + i))) (out c.gone (length net.nets + i) (gone_below net c fits) past)
          ∙ (ap (λ o. option_or (option_or None o) (table_at (added_tables (length net.nets) c.add) (length net.nets + i))) (ungiven (table_for (length net.nets + i) c.set) refl)
          ∙ table_at-added (length net.nets) c.add i)

      by_slot : (f : Option FlatNet) → reads_given (option_map (λ (g : FlatNet). g.table) f) (net_reads (slot net.nets (length net.nets + i))) m ≡ net_reads f m
      by_slot None = ap (λ f. net_reads f m) (get_or_past net.nets (length net.nets + i) None past)
      by_slot (Some f) = refl

  -- any number
  reads_changed : (n m : ℕ) → reads_given (table_at (tables_of c (length net.nets)) n) (net_reads (slot net.nets n)) m ≡ net_reads (slot (changed net c).nets n) m
  reads_changed n m =
      ⊎_elim
      (λ (low : n < length net.nets). reads_old n m low ∙ ap (λ f. net_reads f m) (sym (slot-changed_old net c n low)))
      (λ (past : length net.nets ≤ n).
      let e : length net.nets + (n - length net.nets) ≡ n = omega arith in
      let P : ℕ → Type 0 = λ k. reads_given (table_at (tables_of c (length net.nets)) k) (net_reads (slot net.nets k)) m ≡ net_reads (slot (changed net c).nets k) m in
      subst P e (reads_new (n - length net.nets) m ∙ ap (λ f. net_reads f m) (sym (slot-changed_new net c (n - length net.nets)))))
      (cases_lt n (length net.nets))

-- ---- the rows behind the change

length-rows_from : (rs : List NewRow) (k : ℕ) (rows : List (List NetId)) → length (rows_from rs k rows) ≡ length rows
length-rows_from rs k [] = refl
length-rows_from rs k (l ∷ rows) = ap suc (length-rows_from rs (k + 1) rows)

row-rows_from : (rs : List NewRow) (k : ℕ) (rows : List (List NetId)) (n : ℕ) → n < length rows → row (rows_from rs k rows) n ≡ row_given rs (k + n) (row rows n)
row-rows_from rs k [] n low = absurd (omega arith)
row-rows_from rs k (l ∷ rows) zero low = let e : k ≡ k + 0 = omega arith in ap (λ n. row_given rs n l) e
row-rows_from rs k (l ∷ rows) (suc n) low =
    let e : (k + 1) + n ≡ k + suc n = omega arith in
    row-rows_from rs (k + 1) rows n (omega arith) ∙ ap (λ j. row_given rs j (row rows n)) e

row-grown : (rows : List (List NetId)) (added n : ℕ) → row (rows ++ replicate added []) n ≡ row rows n
row-grown rows added n =
    ⊎_elim
    (λ (low : n < length rows). get_or_append_left rows (replicate added []) [] n low)
    (λ (past : length rows ≤ n).
    get_or-append_right rows (replicate added []) (length rows) n [] refl past ∙ (empty (n - length rows) ∙ sym (get_or_past rows n [] past)))
    (cases_lt n (length rows))
  where
    none : List NetId
    none = []

    empty : (k : ℕ) → row (replicate added none) k ≡ []
    empty k =
        ⊎_elim
        (λ (low : k < added). get_or-replicate added k none [] low)
        (λ (past : added ≤ k). get_or_past (replicate added none) k [] (omega (arith, length-replicate added none)))
        (cases_lt k added)

length-changed_rows : (rs : List NewRow) (added : ℕ) (rows : List (List NetId)) → length (changed_rows rs added rows) ≡ length rows + added
length-changed_rows rs added rows =
    let none : List NetId = [] in
    length-rows_from rs 0 (rows ++ replicate added []) ∙ omega (arith, length-append rows (replicate added none), length-replicate added none)

row-changed_rows : (rs : List NewRow) (added : ℕ) (rows : List (List NetId)) (n : ℕ) → n < length rows + added → row (changed_rows rs added rows) n ≡ row_given rs n (row rows n)
row-changed_rows rs added rows n low =
    let none : List NetId = [] in
    let e : 0 + n ≡ n = omega arith in
    row-rows_from rs 0 (rows ++ replicate added []) n (omega (arith, length-append rows (replicate added none), length-replicate added none))
    ∙ ((λ i. row_given rs (e i) (row (rows ++ replicate added []) n)) ∙ ap (row_given rs n) (row-grown rows added n))

pub fanins_changed : (net : NetParts) (c : Change) (graph : List (List NetId)) (rows : List NewRow) → Fits net c → AreFanins net.nets graph → AreRows (tables_of c (length net.nets)) rows → AreFanins (changed net c).nets (changed_rows rows (length c.add) graph)
fanins_changed net c graph rows fits are given = record {
  long = omega (arith, length-changed_rows rows (length c.add) graph, are.long, length-changed net c);
  each = λ n.
      ⊎_elim
      (λ (low : n < length graph + length c.add).
      let P : List NetId → Type 0 = IsAscending (λ m. net_reads (slot (changed net c).nets n) m) in
      subst P (sym (row-changed_rows rows (length c.add) graph n low))
      (IsAscending-same _ _ _ (reads_changed net c fits n) (given_reads (tables_of c (length net.nets)) rows n (λ m. net_reads (slot net.nets n) m) (row graph n) given (are.each n))))
      (λ (past : length graph + length c.add ≤ n).
      let P : List NetId → Type 0 = IsAscending (λ m. net_reads (slot (changed net c).nets n) m) in
      let none : slot (changed net c).nets n ≡ None = get_or_past (changed net c).nets n None (omega (arith, are.long, length-changed net c)) in
      subst P (sym (get_or_past (changed_rows rows (length c.add) graph) n [] (omega (arith, length-changed_rows rows (length c.add) graph))))
      (IsAscending-none (λ m. net_reads (slot (changed net c).nets n) m) (λ m. ap (λ f. net_reads f m) none)))
      (cases_lt n (length graph + length c.add));
}

all_nets_below : (rs : List NewRow) (k : ℕ) → ((n : ℕ) → has_id (nets_of rs) n ≡ true → n < k) → All (λ (r : NewRow). r.net.0 < k) rs
all_nets_below [] k below = All-nil (λ (r : NewRow). r.net.0 < k)
all_nets_below (r ∷ rs) k below =
    All-cons (λ (s : NewRow). s.net.0 < k) r rs
    (below r.net.0 (or_left (nat_eq r.net.0 r.net.0) (has_id (nets_of rs) r.net.0) (eq-eqb r.net.0 r.net.0 refl)))
    (all_nets_below rs k (λ n h. below n (or_right (nat_eq r.net.0 n) (has_id (nets_of rs) n) h)))

-- the graph of a well-formed network can take them, where the changed one is well formed
pub can_take : (net : NetParts) (c : Change) (graph : List (List NetId)) (rows : List NewRow) → Fits net c → length net.nets + length c.add ≤ MAX_NETS → WellFormed (changed net c) → AreFanins net.nets graph → AreRows (tables_of c (length net.nets)) rows → CanTake graph (length c.add) rows
can_take net c graph rows fits few formed are given =
    let behind = fanins_changed net c graph rows fits are given in
    let nets = nets_given (tables_of c (length net.nets)) rows given in
    record {
      few = omega (arith, are.long);
      once = ap all_differ nets ∙ once net c fits;
      nets = all_nets_below rows (length graph + length c.add) (λ n h. let low = within net c fits n (ap (λ l. has_id l n) (sym nets) ∙ h) in omega (arith, are.long));
      ascend = λ n. (behind.each n).ascending;
      below = fanins_below (changed net c) (changed_rows rows (length c.add) graph) formed behind;
      acyclic = acyclic_mapped (reads_by (changed_rows rows (length c.add) graph)) (reads_in (changed net c).nets) (λ m. m) (λ n m h. sym ((behind.each n).members m) ∙ h) formed.acyclic;
    }
