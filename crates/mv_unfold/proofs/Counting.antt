-- How often the nets of a model are driven is what was counted.
use Rattle.std.proofs.Common.{◌≡◌, ℕ, suc, ◌+◌, Bool, true, false, ◌||◌, cond, Option, Some, None, is_some, List, [], ◌∷◌, ◌++◌, map, min, refl, sym, ◌∙◌, ap, arith}
use Rattle.std.specs.Prelude.{if◌then◌else◌, count_by, nat_lt}
use Rattle.std.specs.List.{flat_map}
use Rattle.std.specs.Option.{option_map}
use Rattle.std.proofs.lemmas.Bool.{false≢true, or_parts}
use Rattle.std.proofs.lemmas.Bool.Decides.{nat_tests}
use Rattle.std.proofs.lemmas.List.{get_or-map}
use Rattle.std.proofs.lemmas.Option.{get_or_from_slice_get}
use Rattle.mv_base.specs.Names.{same_word, among, place_of, AreApart}
use Rattle.mv_base.proofs.NameLemmas.{place_of-cons, same_word_is, same_word_sym, IsPlace-from_place, is_some-place_of}
use Rattle.mv_design.specs.declared.design.Bind.{Bind}
use Rattle.mv_design.specs.declared.design.FileLatch.{FileLatch}
use Rattle.mv_design.specs.declared.design.FileModel.{FileModel}
use Rattle.mv_design.specs.declared.table.FileTable.{FileTable}
use Rattle.mv_design.specs.Nets.{latch_outputs, nets_driven}
use Rattle.mv_tree.specs.Places.{actual_of}
use Rattle.mv_tree.proofs.Named.{AreAmong}
use Rattle.mv_acyclic.specs.Driving.{with_name}
use Rattle.mv_acyclic.proofs.Names.{among-with_name, count_of_cons, count_of_append, among_counted}
use Rattle.mv_unfold.specs.Driven.{own_driven, net_in, passed, tally, at_place, with_count, with_driven, with_latches, with_tables, count_at, count_in, with_binds}

-- ---- a number for each net, up to two

abbrev pub tally_by : List (List ℕ) → (List ℕ → ℕ) → List ℕ
tally_by nets f = map (λ net. min (f net) 2) nets

pub tally_alike : (nets : List (List ℕ)) (f g : List ℕ → ℕ) → ((v : List ℕ) → f v ≡ g v) → tally_by nets f ≡ tally_by nets g
tally_alike [] f g h = refl
tally_alike (n ∷ ns) f g h = ap (λ k. min k 2 ∷ tally_by ns f) (h n) ∙ ap (λ ks. min (g n) 2 ∷ ks) (tally_alike ns f g h)

-- more for one net
abbrev grow : (List ℕ → ℕ) → List ℕ → ℕ → List ℕ → ℕ
grow f w n v = f v + cond (same_word v w) n 0

kept_one : (k n : ℕ) (b : Bool) → b ≡ false → k ≡ k + cond b n 0
kept_one k n true e = cc
kept_one k n false e = omega arith

not_grown : (nets : List (List ℕ)) (f : List ℕ → ℕ) (w : List ℕ) (n : ℕ) → among w nets ≡ false → tally_by nets f ≡ tally_by nets (grow f w n)
not_grown [] f w n e = refl
not_grown (u ∷ us) f w n e =
    let p = or_parts (same_word w u) (among w us) e in
    ap (λ k. min k 2 ∷ tally_by us f) (kept_one (f u) n (same_word u w) (same_word_sym u w ∙ p.0))
    ∙ ap (λ ks. min (grow f w n u) 2 ∷ ks) (not_grown us f w n p.1)

at_behind : (k : ℕ) (ks : List ℕ) (o : Option ℕ) (n : ℕ) → at_place (k ∷ ks) (option_map suc o) n ≡ k ∷ at_place ks o n
at_behind k ks None n = refl
at_behind k ks (Some i) n = refl

grown_one : (k n : ℕ) (b : Bool) → b ≡ true → min (min k 2 + min n 2) 2 ≡ min (k + cond b n 0) 2
grown_one k n true e = omega arith
grown_one k n false e = cc

pub grown : (nets : List (List ℕ)) (f : List ℕ → ℕ) (w : List ℕ) (n : ℕ) → AreApart nets
    → at_place (tally_by nets f) (place_of w nets) (min n 2) ≡ tally_by nets (grow f w n)
grown [] f w n apart = refl
grown (u ∷ us) f w n apart = ap (λ o. at_place (tally_by (u ∷ us) f) o (min n 2)) (place_of-cons w u us) ∙ split (same_word w u) refl (grown us f w n apart.1)
  where
    split : (b : Bool) → same_word w u ≡ b → at_place (tally_by us f) (place_of w us) (min n 2) ≡ tally_by us (grow f w n)
        → at_place (min (f u) 2 ∷ tally_by us f) (if b then Some 0 else option_map suc (place_of w us)) (min n 2)
        ≡ min (grow f w n u) 2 ∷ tally_by us (grow f w n)
    split true e h =
        ap (λ k. k ∷ tally_by us f) (grown_one (f u) n (same_word u w) (same_word_sym u w ∙ e))
        ∙ ap (λ ks. min (grow f w n u) 2 ∷ ks) (not_grown us f w n (ap (λ x. among x us) (same_word_is w u e) ∙ apart.0))
    split false e h =
        at_behind (min (f u) 2) (tally_by us f) (place_of w us) (min n 2)
        ∙ (ap (λ ks. min (f u) 2 ∷ ks) h
        ∙ ap (λ k. min k 2 ∷ tally_by us (grow f w n)) (kept_one (f u) n (same_word u w) (same_word_sym u w ∙ e)))

-- ---- what a model drives itself

driven_one : (k c n : ℕ) (b : Bool) → n ≡ cond b 1 0 + c → (k + cond b 1 0) + c ≡ k + n
driven_one k c n true e = omega arith
driven_one k c n false e = omega arith

pub driven_grown : (nets : List (List ℕ)) (f : List ℕ → ℕ) (ws : List (List ℕ)) → AreApart nets
    → with_driven nets (tally_by nets f) ws ≡ tally_by nets (λ v. f v + count_by (same_word v) ws)
driven_grown nets f [] apart = tally_alike nets f (λ v. f v + 0) (λ v. omega arith)
driven_grown nets f (w ∷ ws) apart =
    ap (λ cs. with_driven nets cs ws) (grown nets f w 1 apart)
    ∙ (driven_grown nets (grow f w 1) ws apart
    ∙ tally_alike nets (λ v. grow f w 1 v + count_by (same_word v) ws) (λ v. f v + count_by (same_word v) (w ∷ ws))
    (λ v. driven_one (f v) (count_by (same_word v) ws) (count_by (same_word v) (w ∷ ws)) (same_word v w) (count_of_cons v w ws)))

driven_append : (nets : List (List ℕ)) (cs : List ℕ) (us ws : List (List ℕ)) → with_driven nets cs (us ++ ws) ≡ with_driven nets (with_driven nets cs us) ws
driven_append nets cs [] ws = refl
driven_append nets cs (u ∷ us) ws = driven_append nets (with_count nets cs u 1) us ws

latches_driven : (nets : List (List ℕ)) (cs : List ℕ) (ls : List FileLatch) → with_latches nets cs ls ≡ with_driven nets cs (map (λ l. l.output) ls)
latches_driven nets cs [] = refl
latches_driven nets cs (l ∷ ls) = latches_driven nets (with_count nets cs l.output 1) ls

tables_driven : (nets : List (List ℕ)) (cs : List ℕ) (ts : List FileTable) → with_tables nets cs ts ≡ with_driven nets cs (flat_map nets_driven ts)
tables_driven nets cs [] = refl
tables_driven nets cs (t ∷ ts) = tables_driven nets (with_driven nets cs t.outputs) ts ∙ sym (driven_append nets cs t.outputs (flat_map nets_driven ts))

zero_tally : (nets : List (List ℕ)) → map (λ net. 0) nets ≡ tally_by nets (λ v. 0)
zero_tally [] = refl
zero_tally (n ∷ ns) = ap (λ ks. 0 ∷ ks) (zero_tally ns)

pub own_counted : (nets : List (List ℕ)) (m : FileModel) → AreApart nets
    → with_tables nets (with_latches nets (map (λ net. 0) nets) m.latches) m.tables ≡ tally_by nets (λ v. count_by (same_word v) (own_driven m))
own_counted nets m apart =
    tables_driven nets _ m.tables
    ∙ (ap (λ cs. with_driven nets cs (flat_map nets_driven m.tables)) (latches_driven nets _ m.latches)
    ∙ (sym (driven_append nets (map (λ net. 0) nets) (latch_outputs m) (flat_map nets_driven m.tables))
    ∙ (ap (λ cs. with_driven nets cs (own_driven m)) (zero_tally nets)
    ∙ (driven_grown nets (λ v. 0) (own_driven m) apart
    ∙ tally_alike nets (λ v. 0 + count_by (same_word v) (own_driven m)) (λ v. count_by (same_word v) (own_driven m)) (λ v. omega arith)))))

-- ---- what passes through bindings

-- how often a net passes as another through bindings of formals that aren't among these
abbrev hit : List ℕ → List (List ℕ) → List Bind → List ℕ → ℕ
hit x seen [] v = 0
hit x seen (b ∷ bs) v =
    cond (among b.formal seen) 0 (cond (same_word v b.actual) (cond (same_word b.formal x) 1 0) 0) + hit x (with_name seen b.formal) bs v

-- the same of each of these nets
abbrev hits : List (List ℕ) → List (List ℕ) → List Bind → List ℕ → ℕ
hits ws seen [] v = 0
hits ws seen (b ∷ bs) v =
    cond (among b.formal seen) 0 (cond (same_word v b.actual) (count_by (same_word b.formal) ws) 0) + hits ws (with_name seen b.formal) bs v

hits_none : (seen : List (List ℕ)) (bs : List Bind) (v : List ℕ) → hits [] seen bs v ≡ 0
hits_none seen [] v = refl
hits_none seen (b ∷ bs) v = none (among b.formal seen) (same_word v b.actual) (hits_none (with_name seen b.formal) bs v)
  where
    none : {n : ℕ} (c e : Bool) → n ≡ 0 → cond c 0 (cond e 0 0) + n ≡ 0
    none true e h = omega arith
    none false true h = omega arith
    none false false h = omega arith

hits_cons : (x : List ℕ) (ws seen : List (List ℕ)) (bs : List Bind) (v : List ℕ) → hits (x ∷ ws) seen bs v ≡ hit x seen bs v + hits ws seen bs v
hits_cons x ws seen [] v = refl
hits_cons x ws seen (b ∷ bs) v =
    by (count_by (same_word b.formal) (x ∷ ws)) (hits (x ∷ ws) (with_name seen b.formal) bs v) (hit x (with_name seen b.formal) bs v)
    (hits ws (with_name seen b.formal) bs v) (cond (same_word b.formal x) 1 0) (count_by (same_word b.formal) ws) (among b.formal seen)
    (same_word v b.actual) (count_of_cons b.formal x ws) (hits_cons x ws (with_name seen b.formal) bs v)
  where
    by : (a h i j n m : ℕ) (c e : Bool) → a ≡ n + m → h ≡ i + j → cond c 0 (cond e a 0) + h ≡ (cond c 0 (cond e n 0) + i) + (cond c 0 (cond e m 0) + j)
    by a h i j n m true e p q = omega arith
    by a h i j n m false true p q = omega arith
    by a h i j n m false false p q = omega arith

more_seen : (x : List ℕ) (seen : List (List ℕ)) (f : List ℕ) (b c : Bool) → among x seen ≡ b → same_word x f ≡ c → among x (with_name seen f) ≡ (b || (c || false))
more_seen x seen f b c p q = among-with_name x seen f ∙ (ap (λ t. t || (same_word x f || false)) p ∙ ap (λ t. b || (t || false)) q)

or_nothing : (b : Bool) → (b || false) ≡ b
or_nothing true = refl
or_nothing false = refl

hit_seen : (x : List ℕ) (seen : List (List ℕ)) (bs : List Bind) (v : List ℕ) → among x seen ≡ true → hit x seen bs v ≡ 0
hit_seen x seen [] v e = refl
hit_seen x seen (b ∷ bs) v e =
    by (among b.formal seen) (same_word v b.actual) (same_word b.formal x) refl refl (hit_seen x (with_name seen b.formal) bs v (more_seen x seen b.formal true (same_word x b.formal) e refl))
  where
    by : {n : ℕ} (c d s : Bool) → among b.formal seen ≡ c → same_word b.formal x ≡ s → n ≡ 0 → cond c 0 (cond d (cond s 1 0) 0) + n ≡ 0
    by true d s p q h = omega arith
    by false d true p q h = absurd (false≢true (sym p ∙ (ap (λ w. among w seen) (same_word_is b.formal x q) ∙ e)))
    by false true false p q h = omega arith
    by false false false p q h = omega arith

hit_new : (x : List ℕ) (seen : List (List ℕ)) (bs : List Bind) (v : List ℕ) → among x seen ≡ false
    → hit x seen bs v ≡ count_by (same_word v) (net_in (actual_of bs x))
hit_new x seen [] v e = refl
hit_new x seen (b ∷ bs) v e = by (same_word x b.formal) refl (λ g. hit_new x (with_name seen b.formal) bs v g)
  where
    last : (w : List ℕ) → count_by (same_word v) (w ∷ []) ≡ cond (same_word v w) 1 0
    last w = let h = count_of_cons v w [] in h ∙ plus (cond (same_word v w) 1 0)
      where
        plus : (k : ℕ) → k + 0 ≡ k
        plus k = omega arith

    here : {n : ℕ} (c s : Bool) → c ≡ false → s ≡ true → n ≡ 0 → cond c 0 (cond (same_word v b.actual) (cond s 1 0) 0) + n ≡ cond (same_word v b.actual) 1 0
    here true s p q h = cc
    here false true p q h = let g = plus (cond (same_word v b.actual) 1 0) in ap (λ k. cond (same_word v b.actual) 1 0 + k) h ∙ g
      where
        plus : (k : ℕ) → k + 0 ≡ k
        plus k = omega arith
    here false false p q h = cc

    there : {n : ℕ} (c d s : Bool) → s ≡ false → cond c 0 (cond d (cond s 1 0) 0) + n ≡ n
    there true d s q = omega arith
    there false true true q = cc
    there false true false q = omega arith
    there false false s q = omega arith

    by : (c : Bool) → same_word x b.formal ≡ c
        → (among x (with_name seen b.formal) ≡ false → hit x (with_name seen b.formal) bs v ≡ count_by (same_word v) (net_in (actual_of bs x)))
        → hit x seen (b ∷ bs) v ≡ count_by (same_word v) (net_in (if c then Some b.actual else actual_of bs x))
    by true s g =
        here (among b.formal seen) (same_word b.formal x) (ap (λ w. among w seen) (sym (same_word_is x b.formal s)) ∙ e) (same_word_sym b.formal x ∙ s)
        (hit_seen x (with_name seen b.formal) bs v (more_seen x seen b.formal false true e s))
        ∙ sym (last b.actual)
    by false s g =
        there (among b.formal seen) (same_word v b.actual) (same_word b.formal x) (same_word_sym b.formal x ∙ s)
        ∙ g (more_seen x seen b.formal false false e s)

pub passed_count : (ws : List (List ℕ)) (bs : List Bind) (v : List ℕ) → hits ws [] bs v ≡ count_by (same_word v) (passed bs ws)
passed_count [] bs v = hits_none [] bs v
passed_count (x ∷ ws) bs v =
    hits_cons x ws [] bs v
    ∙ (ap (λ n. n + hits ws [] bs v) (hit_new x [] bs v refl)
    ∙ (ap (λ n. count_by (same_word v) (net_in (actual_of bs x)) + n) (passed_count ws bs v)
    ∙ sym (count_of_append v (net_in (actual_of bs x)) (passed bs ws))))

-- the counts of some nets are those of what drives them
pub record AreCounts (inner : List (List ℕ)) (counts : List ℕ) (driven : List (List ℕ)) : Type 0 where
  pub each : (x : List ℕ) → count_in inner counts x ≡ min (count_by (same_word x) driven) 2

binds_grown : (nets inner : List (List ℕ)) (ic : List ℕ) (ws : List (List ℕ)) (f : List ℕ → ℕ) (seen : List (List ℕ)) (bs : List Bind) → AreApart nets
    → AreCounts inner ic ws → with_binds nets (tally_by nets f) inner ic seen bs ≡ tally_by nets (λ v. f v + hits ws seen bs v)
binds_grown nets inner ic ws f seen [] apart h = tally_alike nets f (λ v. f v + 0) (λ v. omega arith)
binds_grown nets inner ic ws f seen (b ∷ bs) apart h =
    split (among b.formal seen) (λ g. binds_grown nets inner ic ws g (with_name seen b.formal) bs apart h)
  where
    three : (i j k : ℕ) → (i + j) + k ≡ i + (j + k)
    three i j k = omega arith

    split : (c : Bool)
        → ((g : List ℕ → ℕ) → with_binds nets (tally_by nets g) inner ic (with_name seen b.formal) bs ≡ tally_by nets (λ v. g v + hits ws (with_name seen b.formal) bs v))
        → with_binds nets (if c then tally_by nets f else with_count nets (tally_by nets f) b.actual (count_in inner ic b.formal)) inner ic (with_name seen b.formal) bs
        ≡ tally_by nets (λ v. f v + (cond c 0 (cond (same_word v b.actual) (count_by (same_word b.formal) ws) 0) + hits ws (with_name seen b.formal) bs v))
    split true rec =
        rec f
        ∙ tally_alike nets (λ v. f v + hits ws (with_name seen b.formal) bs v) (λ v. f v + (0 + hits ws (with_name seen b.formal) bs v)) (λ v. omega arith)
    split false rec =
        ap (λ cs. with_binds nets cs inner ic (with_name seen b.formal) bs)
        (ap (λ k. with_count nets (tally_by nets f) b.actual k) (h.each b.formal) ∙ grown nets f b.actual (count_by (same_word b.formal) ws) apart)
        ∙ (rec (grow f b.actual (count_by (same_word b.formal) ws))
        ∙ tally_alike nets (λ v. grow f b.actual (count_by (same_word b.formal) ws) v + hits ws (with_name seen b.formal) bs v)
        (λ v. f v + (cond (same_word v b.actual) (count_by (same_word b.formal) ws) 0 + hits ws (with_name seen b.formal) bs v))
        (λ v. three (f v) (cond (same_word v b.actual) (count_by (same_word b.formal) ws) 0) (hits ws (with_name seen b.formal) bs v)))

-- ---- counts read by name

none_driven : (x : List ℕ) (inner ws : List (List ℕ)) → AreAmong ws inner → among x inner ≡ false → count_by (same_word x) ws ≡ 0
none_driven x inner ws h e = by (nat_lt 0 (count_by (same_word x) ws)) refl (among x ws) refl
  where
    by : (b : Bool) → nat_lt 0 (count_by (same_word x) ws) ≡ b → (c : Bool) → among x ws ≡ c → count_by (same_word x) ws ≡ 0
    by b p true q = absurd (false≢true (sym e ∙ h.each x q))
    by true p false q = absurd (false≢true (sym q ∙ (among_counted x ws ∙ p)))
    by false p false q = grind (arith, nat_tests)

pub are_counts : (inner ws : List (List ℕ)) → AreAmong ws inner → AreCounts inner (tally inner ws) ws
are_counts inner ws h = record { each = λ x. by x (place_of x inner) refl }
  where
    by : (x : List ℕ) (o : Option ℕ) → place_of x inner ≡ o → count_at (tally inner ws) o ≡ min (count_by (same_word x) ws) 2
    by x None e =
        let n : count_by (same_word x) ws ≡ 0 = none_driven x inner ws h (sym (is_some-place_of x inner) ∙ ap is_some e) in
        sym (ap (λ k. min k 2) n)
    by x (Some k) e =
        let p = IsPlace-from_place x inner k e in
        get_or-map (λ net. min (count_by (same_word net) ws) 2) inner k [] 0 p.within
        ∙ ap (λ net. min (count_by (same_word net) ws) 2) (get_or_from_slice_get inner k x [] p.found)

-- the counts grow by what passes through bindings
pub binds_passed : (nets inner : List (List ℕ)) (ic : List ℕ) (ws : List (List ℕ)) (f : List ℕ → ℕ) (bs : List Bind) → AreApart nets → AreCounts inner ic ws
    → with_binds nets (tally_by nets f) inner ic [] bs ≡ tally_by nets (λ v. f v + count_by (same_word v) (passed bs ws))
binds_passed nets inner ic ws f bs apart h =
    binds_grown nets inner ic ws f [] bs apart h
    ∙ tally_alike nets (λ v. f v + hits ws [] bs v) (λ v. f v + count_by (same_word v) (passed bs ws)) (λ v. ap (λ n. f v + n) (passed_count ws bs v))
