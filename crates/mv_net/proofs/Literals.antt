-- The literals behind a change: those of before without those of the tables that go, with those of the tables that come.
use Rattle.std.proofs.Common.{◌≡◌, ◌∙◌, ℕ, zero, suc, ◌+◌, ◌<◌, ◌≤◌, Bool, true, false, not, ◌||◌, cond, nat_eq, List, [], ◌∷◌, length, map, Option, Some, None, is_some, refl, sym, ap, eq-eqb, arith}
use Rattle.std.proofs.lemmas.Bool.{and_parts, false≢true, not-true, ne_eqb}
use Rattle.std.proofs.lemmas.List.{length-map}
use Rattle.std.proofs.lemmas.List.Sums.{sum_by-cons}
use Rattle.mv_base.specs.declared.number.NetId.{NetId}
use Rattle.mv_cover.specs.declared.cover.Cover.{Cover}
use Rattle.mv_cover.specs.Covers.{literal_count}
use Rattle.mv_graph.specs.Nets.{has_id, all_differ}
use Rattle.mv_dag.proofs.Differing.{few_nets}
use Rattle.mv_net.specs.declared.change.NewNet.{NewNet}
use Rattle.mv_net.specs.declared.change.NewTable.{NewTable}
use Rattle.mv_net.specs.declared.change.NewCount.{NewCount}
use Rattle.mv_net.specs.declared.change.Change.{Change}
use Rattle.mv_net.specs.declared.parts.FlatNet.{FlatNet}
use Rattle.mv_net.specs.declared.parts.NetParts.{NetParts}
use Rattle.mv_net.specs.Nets.{slot, literals_in}
use Rattle.mv_net.specs.Index.{is_held}
use Rattle.mv_net.specs.Changes.{table_for, count_for, with_table, with_count, changed_net, changed_from, made_net, changed, AreHeldOnce, Fits}
use Rattle.mv_net.specs.Behind.{literals_at, literals_gone, literals_before, literals_given, literals_added}
use Rattle.mv_net.proofs.Tallied.{weight, literals-append}
use Rattle.mv_net.proofs.Known.{is_held_below}
use Rattle.mv_net.proofs.Changed.{length-changed_from, slot-changed_nets}
use Rattle.mv_net.proofs.Fitting.{given_listed}

-- ---- nets of which one has other literals at most

same_literals : (old new : List (Option FlatNet)) → length new ≡ length old → ((m : ℕ) → weight (slot new m) ≡ weight (slot old m)) → literals_in new ≡ literals_in old
same_literals [] [] long same = refl
same_literals [] (y ∷ ys) long same = absurd (omega arith)
same_literals (x ∷ xs) [] long same = absurd (omega arith)
same_literals (x ∷ xs) (y ∷ ys) long same = omega (arith, same 0, same_literals xs ys (omega arith) (λ m. same (suc m)))

literals_but : (old new : List (Option FlatNet)) (n : ℕ) → length new ≡ length old → n < length old → ((m : ℕ) → (m ≡ n → ⊥) → weight (slot new m) ≡ weight (slot old m)) → literals_in new + weight (slot old n) ≡ literals_in old + weight (slot new n)
literals_but [] new n long low same = absurd (omega arith)
literals_but (x ∷ xs) [] n long low same = absurd (omega arith)
literals_but (x ∷ xs) (y ∷ ys) zero long low same = omega (arith, same_literals xs ys (omega arith) (λ m. same (suc m) (λ e. omega (arith, e))))
literals_but (x ∷ xs) (y ∷ ys) (suc n) long low same =
    omega (arith, same 0 (λ e. omega (arith, e)), literals_but xs ys n (omega arith) (omega arith) (λ m ne. same (suc m) (λ e. ne (omega (arith, e)))))

-- ---- the literals of one net behind a change

counted_weight : (k : Option ℕ) (f : FlatNet) → weight (Some (with_count k f)) ≡ weight (Some f)
counted_weight None f = refl
counted_weight (Some k) f = refl

module _ (c : Change) (n : ℕ) where
  kept_weight : (f : Option FlatNet) → has_id c.gone n ≡ false → table_for n c.set ≡ None → weight (changed_net c n f) ≡ weight f
  kept_weight None g t = refl
  kept_weight (Some f) g t =
      ap (λ b. weight (cond b None (Some (with_count (count_for n c.values) (with_table (table_for n c.set) f))))) g
      ∙ (counted_weight (count_for n c.values) (with_table (table_for n c.set) f) ∙ ap (λ o. weight (Some (with_table o f))) t)

  given_weight : (f : Option FlatNet) (t : Cover) → has_id c.gone n ≡ false → table_for n c.set ≡ Some t → is_some f ≡ true → weight (changed_net c n f) ≡ literal_count t.lines
  given_weight None t g e held = absurd (false≢true held)
  given_weight (Some f) t g e held =
      ap (λ b. weight (cond b None (Some (with_count (count_for n c.values) (with_table (table_for n c.set) f))))) g
      ∙ (counted_weight (count_for n c.values) (with_table (table_for n c.set) f) ∙ ap (λ o. weight (Some (with_table o f))) e)

  gone_weight : (f : Option FlatNet) → has_id c.gone n ≡ true → weight (changed_net c n f) ≡ 0
  gone_weight None g = refl
  gone_weight (Some f) g = ap (λ b. weight (cond b None (Some (with_count (count_for n c.values) (with_table (table_for n c.set) f))))) g

-- a net that isn't listed gets no table
not_given : (ts : List NewTable) (n : ℕ) → has_id (map (λ (t : NewTable). t.net) ts) n ≡ false → table_for n ts ≡ None
not_given ts n h = by (table_for n ts) refl
  where
    by : (o : Option Cover) → table_for n ts ≡ o → table_for n ts ≡ None
    by None e = e
    by (Some c) e = absurd (false≢true (sym h ∙ given_listed ts n c e))

-- ---- the parts of a change, one after the other

-- a list of which no net stands twice: its first stands not in the others
record First (n : NetId) (ns : List NetId) : Type 0 where
  alone : has_id ns n.0 ≡ false
  rest : all_differ ns ≡ true

first : (n : NetId) (ns : List NetId) → all_differ (n ∷ ns) ≡ true → First n ns
first n ns h = let p = and_parts (not (has_id ns n.0)) (all_differ ns) h in record { alone = not-true (has_id ns n.0) p.0; rest = p.1 }

abbrev with_parts : List NewNet → List NewTable → List NewCount → List NetId → Change
with_parts add set values gone = record { add = add; set = set; values = values; gone = gone }

module _ (nets : List (Option FlatNet)) (add : List NewNet) (values : List NewCount) where
  -- the literals of the nets behind such a change, without those that come
  abbrev left : List NewTable → List NetId → ℕ
  left set gone = literals_in (changed_from (with_parts add set values gone) 0 nets)

  -- one net changes, and the others are as they were
  one_more : (a b : Change) (n : ℕ) → n < length nets → ((m : ℕ) → (m ≡ n → ⊥) → changed_net b m (slot nets m) ≡ changed_net a m (slot nets m))
      → literals_in (changed_from b 0 nets) + weight (changed_net a n (slot nets n)) ≡ literals_in (changed_from a 0 nets) + weight (changed_net b n (slot nets n))
  one_more a b n low same =
      omega (
        arith,
        literals_but (changed_from a 0 nets) (changed_from b 0 nets) n (length-changed_from b 0 nets ∙ sym (length-changed_from a 0 nets)) (omega (arith, length-changed_from a 0 nets))
            (λ m ne. ap weight (slot-changed_nets b nets m ∙ (same m ne ∙ sym (slot-changed_nets a nets m)))),
        ap weight (slot-changed_nets a nets n),
        ap weight (slot-changed_nets b nets n),
      )

  nothing : left [] [] ≡ literals_in nets
  nothing =
      same_literals nets (changed_from (with_parts add [] values []) 0 nets) (length-changed_from (with_parts add [] values []) 0 nets)
      (λ m. ap weight (slot-changed_nets (with_parts add [] values []) nets m) ∙ kept_weight (with_parts add [] values []) m (slot nets m) refl refl)

  tables : (set : List NewTable) → all_differ (map (λ (t : NewTable). t.net) set) ≡ true → ((n : ℕ) → has_id (map (λ (t : NewTable). t.net) set) n ≡ true → is_held nets n ≡ true)
      → left set [] + literals_before nets set ≡ literals_in nets + literals_given set
  tables [] once held = omega (arith, nothing)
  tables (t ∷ ts) once held =
      let n = t.net.0 in
      let f = first t.net (map (λ (u : NewTable). u.net) ts) once in
      let here : nat_eq n n ≡ true = eq-eqb n n refl in
      let a = with_parts add ts values [] in
      let b = with_parts add (t ∷ ts) values [] in
      let there : is_held nets n ≡ true = held n (ap (λ e. e || has_id (map (λ (u : NewTable). u.net) ts) n) here) in
      let step = one_more a b n (is_held_below nets n there) (λ m ne. others m ne (slot nets m)) in
      let rest = tables ts f.rest (λ m h. held m (later (nat_eq n m) (has_id (map (λ (u : NewTable). u.net) ts) m) h)) in
      omega (
        arith,
        step,
        rest,
        kept_weight a n (slot nets n) refl (not_given ts n f.alone),
        given_weight b n (slot nets n) t.table refl (ap (λ e. cond e (Some t.table) (table_for n ts)) here) there,
        sum_by-cons (λ (u : NewTable). literals_at nets u.net) t ts,
        sum_by-cons (λ (u : NewTable). literal_count u.table.lines) t ts,
      )
    where
      later : (x y : Bool) → y ≡ true → (x || y) ≡ true
      later true y h = refl
      later false y h = h

      others : (m : ℕ) → (m ≡ t.net.0 → ⊥) → (f : Option FlatNet) → changed_net (with_parts add (t ∷ ts) values []) m f ≡ changed_net (with_parts add ts values []) m f
      others m ne None = refl
      others m ne (Some f) =
          ap (λ e. Some (with_count (count_for m values) (with_table (cond e (Some t.table) (table_for m ts)) f))) (ne_eqb t.net.0 m (λ e. ne (sym e)))

  goers : (set : List NewTable) (gone : List NetId) → all_differ gone ≡ true → ((n : ℕ) → has_id gone n ≡ true → (is_held nets n ≡ true) × (has_id (map (λ (t : NewTable). t.net) set) n ≡ false))
      → left set gone + literals_gone nets gone ≡ left set []
  goers set [] once held = omega arith
  goers set (g ∷ gs) once held =
      let n = g.0 in
      let f = first g gs once in
      let here : nat_eq n n ≡ true = eq-eqb n n refl in
      let a = with_parts add set values gs in
      let b = with_parts add set values (g ∷ gs) in
      let listed : has_id (g ∷ gs) n ≡ true = ap (λ e. e || has_id gs n) here in
      let there = held n listed in
      let step = one_more a b n (is_held_below nets n there.0) (λ m ne. others m ne (slot nets m)) in
      let rest = goers set gs f.rest (λ m h. held m (later (nat_eq n m) (has_id gs m) h)) in
      omega (
        arith,
        step,
        rest,
        kept_weight a n (slot nets n) f.alone (not_given set n there.1),
        gone_weight b n (slot nets n) listed,
        sum_by-cons (literals_at nets) g gs,
      )
    where
      later : (x y : Bool) → y ≡ true → (x || y) ≡ true
      later true y h = refl
      later false y h = h

      others : (m : ℕ) → (m ≡ g.0 → ⊥) → (f : Option FlatNet) → changed_net (with_parts add set values (g ∷ gs)) m f ≡ changed_net (with_parts add set values gs) m f
      others m ne None = refl
      others m ne (Some f) =
          ap (λ e. cond (e || has_id gs m) None (Some (with_count (count_for m values) (with_table (table_for m set) f)))) (ne_eqb g.0 m (λ e. ne (sym e)))

comers : (add : List NewNet) → literals_in (map made_net add) ≡ literals_added add
comers [] = refl
comers (m ∷ ms) = omega (arith, comers ms, sum_by-cons (λ (k : NewNet). literal_count k.table.lines) m ms)

-- ---- the whole change

-- no more nets are listed than there are
pub listed_few : (nets : List (Option FlatNet)) (list : List NetId) → AreHeldOnce nets list → length list ≤ length nets
listed_few nets list are = few_nets list (length nets) are.once (λ n h. is_held_below nets n (are.held n h))

pub set_few : (nets : List (Option FlatNet)) (set : List NewTable) → AreHeldOnce nets (map (λ (t : NewTable). t.net) set) → length set ≤ length nets
set_few nets set are = omega (arith, listed_few nets (map (λ (t : NewTable). t.net) set) are, length-map set (λ (t : NewTable). t.net))

pub literals_changed : (net : NetParts) (c : Change) → Fits net c
    → literals_in (changed net c).nets + (literals_gone net.nets c.gone + literals_before net.nets c.set) ≡ literals_in net.nets + (literals_given c.set + literals_added c.add)
unfolding changed
literals_changed net c fits =
    let went = goers net.nets c.add c.values c.set c.gone fits.gone.once (λ n h. (fits.gone.held n h, (fits.apart n h).0)) in
    let set = tables net.nets c.add c.values c.set fits.set.once fits.set.held in
    omega (arith, went, set, comers c.add, literals-append (changed_from c 0 net.nets) (map made_net c.add))
