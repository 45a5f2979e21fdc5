-- The plane of a cube, byte by byte along ascending nets.
use Rattle.std.proofs.Common.{◌≡◌, ◌≢◌, ◌∙◌, ℕ, ◌+◌, ◌<◌, ◌≤◌, true, false, nat_lt, nat_eq, List, [], ◌∷◌, ◌++◌, length, get_or, drop, map, refl, sym, ap, ⊎_elim, eqb-true, arith}
use Rattle.std.proofs.lemmas.Bool.{cases_Bool, cond_both, and_parts, ltb-true, ne_eqb, or_left, or_right, eq-eqb}
use Rattle.std.proofs.lemmas.List.{at_drop_more, at_drop_all}
use Rattle.mv_base.specs.declared.number.NetId.{NetId}
use Rattle.mv_cover.specs.Literal.{Lit}
use Rattle.mv_cover.specs.Cubes.{nets_ascend}
use Rattle.mv_cover.proofs.Walking.{nets_ascend-tail}
use Rattle.mv_graph.specs.Nets.{has_id, ids_ascend}
use Rattle.mv_graph.proofs.Nets.{above_first, ascend_tail}
use Rattle.mv_text.specs.Text.{numbers}
use Rattle.mv_write.specs.Walk.{literals_behind}
use Rattle.mv_blif_text.specs.BlifText.{set_digit, plane_byte}

-- ---- the byte of one net

-- ascending literals have none on a net below the first
pub byte-above : (l : Lit) (ls : List Lit) (m : ℕ) → nets_ascend (l ∷ ls) ≡ true → m < l.net.0 → plane_byte (l ∷ ls) m ≡ 45
byte-above l [] m up low = let other : nat_eq l.net.0 m ≡ false = ne_eqb l.net.0 m (λ e. absurd (omega arith)) in rw other refl
byte-above l (k ∷ ls) m up low =
    let p = and_parts (nat_lt l.net.0 k.net.0) (nets_ascend (k ∷ ls)) up in
    let next : l.net.0 < k.net.0 = ltb-true l.net.0 k.net.0 p.0 in
    let other : nat_eq l.net.0 m ≡ false = ne_eqb l.net.0 m (λ e. absurd (omega arith)) in
    rw other (byte-above k ls m p.1 (omega arith))

-- the literals behind a place, on the way to the one of this net
pub record IsNear (lits : List Lit) (m i : ℕ) : Type 0 where
  pub ascending : nets_ascend (drop i lits) ≡ true
  pub same : plane_byte (drop i lits) m ≡ plane_byte lits m

pub near-first : (lits : List Lit) (m : ℕ) → nets_ascend lits ≡ true → IsNear lits m 0
near-first lits m up = record { ascending = up; same = refl }

module _ (lits : List Lit) (m i : ℕ) (l : Lit) (low : i < length lits) (is : l ≡ get_or lits i l) (near : IsNear lits m i) where
  at_place : nets_ascend (l ∷ drop (i + 1) lits) ≡ true
  at_place = ap (λ x. nets_ascend (x ∷ drop (i + 1) lits)) is ∙ (sym (at_drop_more nets_ascend lits i l low) ∙ near.ascending)

  byte_at : plane_byte (l ∷ drop (i + 1) lits) m ≡ plane_byte lits m
  byte_at = ap (λ x. plane_byte (x ∷ drop (i + 1) lits) m) is ∙ (sym (at_drop_more (λ ls. plane_byte ls m) lits i l low) ∙ near.same)

  pub byte-here : l.net.0 ≡ m → set_digit l.set ≡ plane_byte lits m
  byte-here e =
      let y : nat_eq l.net.0 m ≡ true = eq-eqb l.net.0 m e in
      let here : plane_byte (l ∷ drop (i + 1) lits) m ≡ set_digit l.set = rw y refl in sym here ∙ byte_at

  pub byte-none : m < l.net.0 → 45 ≡ plane_byte lits m
  byte-none below = sym (byte-above l (drop (i + 1) lits) m at_place below) ∙ byte_at

  pub near-next : l.net.0 ≢ m → IsNear lits m (i + 1)
  near-next other =
      let f : nat_eq l.net.0 m ≡ false = ne_eqb l.net.0 m other in
      let there : plane_byte (l ∷ drop (i + 1) lits) m ≡ plane_byte (drop (i + 1) lits) m = rw f refl in
      record { ascending = nets_ascend-tail l (drop (i + 1) lits) at_place; same = sym there ∙ byte_at }

-- past the last literal
pub byte-end : (lits : List Lit) (m i : ℕ) → length lits ≤ i → IsNear lits m i → 45 ≡ plane_byte lits m
byte-end lits m i high near = sym (at_drop_all (λ ls. plane_byte ls m) lits i high) ∙ near.same

pub ruleset nearing = (near-first, byte-here, byte-none, near-next, byte-end)

-- ---- all of them

-- a literal on a lower net says nothing of these
plane_past : (l : Lit) (ls : List Lit) (ns : List NetId) → ((m : ℕ) → has_id ns m ≡ true → l.net.0 < m) → map (plane_byte (l ∷ ls)) (numbers ns) ≡ map (plane_byte ls) (numbers ns)
plane_past l ls [] above = refl
plane_past l ls (n ∷ ns) above =
    let low : l.net.0 < n.0 = above n.0 (or_left (nat_eq n.0 n.0) (has_id ns n.0) (eq-eqb n.0 n.0 refl)) in
    let other : nat_eq l.net.0 n.0 ≡ false = ne_eqb l.net.0 n.0 (λ e. absurd (omega arith)) in
    rw other (ap (λ bytes. plane_byte ls n.0 ∷ bytes) (plane_past l ls ns (λ m h. above m (or_right (nat_eq n.0 m) (has_id ns m) h))))

plane_behind : (ls : List Lit) (n : ℕ) (ns : List NetId) → ((m : ℕ) → has_id ns m ≡ true → n < m) → map (plane_byte ls) (numbers ns) ≡ map (plane_byte (literals_behind ls n)) (numbers ns)
plane_behind [] n ns above = refl
plane_behind (l ∷ ls) n ns above =
    ⊎_elim
    (λ (y : nat_eq l.net.0 n ≡ true). let e : l.net.0 ≡ n = eqb-true l.net.0 n y in rw y (plane_past l ls ns (λ m h. rw e (above m h))))
    (λ (f : nat_eq l.net.0 n ≡ false). rw f refl)
    (cases_Bool (nat_eq l.net.0 n))

pub behind-ascend : (ls : List Lit) (n : ℕ) → nets_ascend ls ≡ true → nets_ascend (literals_behind ls n) ≡ true
behind-ascend [] n up = up
behind-ascend (l ∷ ls) n up =
    cond_both (nat_eq l.net.0 n) ls (l ∷ ls) (λ r. nets_ascend r ≡ true) (λ y. nets_ascend-tail l ls up) (λ f. up)

module _ (fanins : List NetId) (i : ℕ) (low : i < length fanins) (up : ids_ascend (drop i fanins) ≡ true) where
  -- the net at the place, and those behind it
  abbrev here : NetId
  here = get_or fanins i (record { 0 = 0 })

  abbrev later : List NetId
  later = drop (i + 1) fanins

  ascend_here : ids_ascend (here ∷ later) ≡ true
  ascend_here = sym (at_drop_more ids_ascend fanins i (record { 0 = 0 }) low) ∙ up

  pub nets-later : ids_ascend later ≡ true
  nets-later = ascend_tail here later ascend_here

  pub plane-more : (left rest : List Lit) (byte : ℕ) → byte ≡ plane_byte left here.0 → rest ≡ literals_behind left here.0
      → map (plane_byte left) (numbers (drop i fanins)) ≡ (byte ∷ []) ++ map (plane_byte rest) (numbers later)
  plane-more left rest byte said behind =
      at_drop_more (λ ns. map (plane_byte left) (numbers ns)) fanins i (record { 0 = 0 }) low
      ∙ (ap (λ bytes. plane_byte left here.0 ∷ bytes) (plane_behind left here.0 later (λ m h. above_first here later m ascend_here h))
      ∙ (λ j. sym said j ∷ map (plane_byte (sym behind j)) (numbers later)))
