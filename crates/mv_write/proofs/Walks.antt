-- A walk along the literals of a cube and the fanins of its table meets each literal at its net.
use Rattle.std.proofs.Common.{◌≡◌, ◌∙◌, ℕ, ◌<◌, ◌≤◌, Bool, true, false, ◌||◌, nat_lt, nat_eq, Option, List, [], ◌∷◌, map, refl, sym, ap, ⊎_elim, eq-eqb, eqb-true, arith}
use Rattle.std.proofs.lemmas.Bool.{cases_Bool, or_cases, false≢true, and_parts, ltb-true, ne_eqb, or_left, or_right, eqb-false}
use Rattle.mv_base.specs.Set.{full}
use Rattle.mv_base.specs.declared.number.NetId.{NetId}
use Rattle.mv_cover.specs.Literal.{Lit}
use Rattle.mv_cover.specs.Cubes.{nets_ascend}
use Rattle.mv_cover.specs.Covers.{cube_reads}
use Rattle.mv_cover.proofs.Walking.{nets_ascend-tail}
use Rattle.mv_net.specs.declared.parts.FlatNet.{FlatNet}
use Rattle.mv_net.specs.Nets.{slot, values_in, spelled_in}
use Rattle.mv_graph.proofs.Nets.{above_first, ascend_tail}
use Rattle.mv_graph.specs.Nets.{has_id, ids_ascend}
use Rattle.mv_text.specs.Text.{entry_word, set_in, fanin_word, numbers}
use Rattle.mv_write.specs.Walk.{walked}

lits_above : (l : Lit) (ls : List Lit) (m : ℕ) → nets_ascend (l ∷ ls) ≡ true → cube_reads ls m ≡ true → l.net.0 < m
lits_above l [] m up h = absurd (false≢true h)
lits_above l (k ∷ ls) m up h =
    let p = and_parts (nat_lt l.net.0 k.net.0) (nets_ascend (k ∷ ls)) up in
    let low : l.net.0 < k.net.0 = ltb-true l.net.0 k.net.0 p.0 in
    ⊎_elim
    (λ (y : nat_eq k.net.0 m ≡ true). let e : k.net.0 ≡ m = eqb-true k.net.0 m y in omega arith)
    (λ (rest : cube_reads ls m ≡ true). let far : k.net.0 < m = lits_above k ls m p.1 rest in omega arith)
    (or_cases (nat_eq k.net.0 m) (cube_reads ls m) h)

-- each net of ascending literals is no lower than the first
lits_from : (l : Lit) (ls : List Lit) (m : ℕ) → nets_ascend (l ∷ ls) ≡ true → cube_reads (l ∷ ls) m ≡ true → l.net.0 ≤ m
lits_from l ls m up h =
    ⊎_elim
    (λ (y : nat_eq l.net.0 m ≡ true). let e : l.net.0 ≡ m = eqb-true l.net.0 m y in omega arith)
    (λ (rest : cube_reads ls m ≡ true). let far : l.net.0 < m = lits_above l ls m up rest in omega arith)
    (or_cases (nat_eq l.net.0 m) (cube_reads ls m) h)

-- a net without a literal has all values
set_in-none : (nets : List (Option FlatNet)) (ls : List Lit) (m : ℕ) → (cube_reads ls m ≡ true → m < m) → set_in nets ls m ≡ full (values_in (slot nets m))
set_in-none nets [] m none = refl
set_in-none nets (l ∷ ls) m none =
    ⊎_elim
    (λ (y : nat_eq l.net.0 m ≡ true). let bad = none (or_left (nat_eq l.net.0 m) (cube_reads ls m) y) in absurd (omega arith))
    (λ (f : nat_eq l.net.0 m ≡ false). rw f (set_in-none nets ls m (λ h. none (or_right (nat_eq l.net.0 m) (cube_reads ls m) h))))
    (cases_Bool (nat_eq l.net.0 m))

-- a literal on a lower net says nothing of these
words_past : (nets : List (Option FlatNet)) (l : Lit) (ls : List Lit) (ns : List NetId) → ((m : ℕ) → has_id ns m ≡ true → l.net.0 < m) → map (fanin_word nets ls) (numbers ns) ≡ map (fanin_word nets (l ∷ ls)) (numbers ns)
words_past nets l ls [] above = refl
words_past nets l ls (n ∷ ns) above =
    let low : l.net.0 < n.0 = above n.0 (or_left (nat_eq n.0 n.0) (has_id ns n.0) (eq-eqb n.0 n.0 refl)) in
    let other : nat_eq l.net.0 n.0 ≡ false = ne_eqb l.net.0 n.0 (λ e. absurd (omega arith)) in
    rw other (ap (λ words. fanin_word nets ls n.0 ∷ words) (words_past nets l ls ns (λ m h. above m (or_right (nat_eq n.0 m) (has_id ns m) h))))

later : (n m : ℕ) (b : Bool) → (nat_eq n m || b) ≡ true → n < m → b ≡ true
later n m b h low =
    ⊎_elim
    (λ (y : nat_eq n m ≡ true). let e : n ≡ m = eqb-true n m y in absurd (omega arith))
    (λ (rest : b ≡ true). rest)
    (or_cases (nat_eq n m) b h)

-- the entries that the walk gives are those of the nets in the cube
pub walked-is : (nets : List (Option FlatNet)) (ls : List Lit) (ns : List NetId) → nets_ascend ls ≡ true → ids_ascend ns ≡ true → ((m : ℕ) → cube_reads ls m ≡ true → has_id ns m ≡ true) → walked nets ls ns ≡ map (fanin_word nets ls) (numbers ns)
walked-is nets ls [] up vp among = refl
walked-is nets [] (n ∷ ns) up vp among =
    ap (λ words. fanin_word nets [] n.0 ∷ words) (walked-is nets [] ns refl (ascend_tail n ns vp) (λ m h. absurd (false≢true h)))
walked-is nets (l ∷ ls) (n ∷ ns) up vp among =
    ⊎_elim
    (λ (y : nat_eq l.net.0 n.0 ≡ true).
    let e : l.net.0 ≡ n.0 = eqb-true l.net.0 n.0 y in
    let inside : (m : ℕ) → cube_reads ls m ≡ true → has_id ns m ≡ true = λ m h.
    let far : l.net.0 < m = lits_above l ls m up h in
    later n.0 m (has_id ns m) (among m (or_right (nat_eq l.net.0 m) (cube_reads ls m) h)) (omega arith) in
    let past : (m : ℕ) → has_id ns m ≡ true → l.net.0 < m = λ m h. let far : n.0 < m = above_first n ns m vp h in omega arith in
    rw y (ap (λ words. entry_word (spelled_in (slot nets n.0)) l.set ∷ words) (walked-is nets ls ns (nets_ascend-tail l ls up) (ascend_tail n ns vp) inside ∙ words_past nets l ls ns past)))
    (λ (f : nat_eq l.net.0 n.0 ≡ false).
    let here : cube_reads (l ∷ ls) l.net.0 ≡ true = or_left (nat_eq l.net.0 l.net.0) (cube_reads ls l.net.0) (eq-eqb l.net.0 l.net.0 refl) in
    let low : n.0 < l.net.0 =
    ⊎_elim
    (λ (y : nat_eq n.0 l.net.0 ≡ true). absurd (eqb-false l.net.0 n.0 f (sym (eqb-true n.0 l.net.0 y))))
    (λ (rest : has_id ns l.net.0 ≡ true). above_first n ns l.net.0 vp rest)
    (or_cases (nat_eq n.0 l.net.0) (has_id ns l.net.0) (among l.net.0 here)) in
    let inside : (m : ℕ) → cube_reads (l ∷ ls) m ≡ true → has_id ns m ≡ true = λ m h.
    let far : l.net.0 ≤ m = lits_from l ls m up h in
    later n.0 m (has_id ns m) (among m h) (omega arith) in
    let none : cube_reads (l ∷ ls) n.0 ≡ true → n.0 < n.0 = λ h. let far : l.net.0 ≤ n.0 = lits_from l ls n.0 up h in omega arith in
    let all : set_in nets (l ∷ ls) n.0 ≡ full (values_in (slot nets n.0)) = set_in-none nets (l ∷ ls) n.0 none in
    let word : ℕ → List ℕ = entry_word (spelled_in (slot nets n.0)) in
    let rest : walked nets (l ∷ ls) ns ≡ map (fanin_word nets (l ∷ ls)) (numbers ns) = walked-is nets (l ∷ ls) ns up (ascend_tail n ns vp) inside in
    let front : walked nets (l ∷ ls) (n ∷ ns) ≡ word (full (values_in (slot nets n.0))) ∷ walked nets (l ∷ ls) ns = rw f refl in
    front ∙ (ap (λ s. word s ∷ walked nets (l ∷ ls) ns) (sym all) ∙ ap (λ words. fanin_word nets (l ∷ ls) n.0 ∷ words) rest))
    (cases_Bool (nat_eq l.net.0 n.0))
