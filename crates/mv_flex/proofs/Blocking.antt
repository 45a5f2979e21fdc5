-- The values that pairs outside block, pair by pair, and what they say of the flexibility.
use Rattle.std.proofs.Common.{◌≡◌, ◌∙◌, ℕ, suc, ◌+◌, ◌<◌, ◌≤◌, Bool, true, false, not, ◌&&◌, nat_eq, if◌then◌else◌, cond, List, [], ◌∷◌, filter, length, get_or, All, MatchBool, Option, refl, sym, ap, subst, ⊎_elim, arith}
use Rattle.std.specs.List.{list_any}
use Rattle.std.proofs.lemmas.Bool.{cases_Bool, cases_lt, false≢true, or_cases, or_left, or_right, and_parts, and_from, eqb-true, eq-eqb}
use Rattle.std.proofs.lemmas.List.{get_or_past}
use Rattle.mv_base.specs.Set.{has, one, empty, join}
use Rattle.mv_base.specs.declared.number.NetId.{NetId}
use Rattle.mv_base.specs.declared.limits.TheConstants.{MAX_VALUES}
use Rattle.mv_base.proofs.Sets.{has-empty, has-one, has-join}
use Rattle.mv_cover.specs.Literal.{Lit}
use Rattle.mv_cover.specs.declared.line.Line.{Line}
use Rattle.mv_cover.specs.Cubes.{matches}
use Rattle.mv_cover.specs.Covers.{cube_reads}
use Rattle.mv_net.specs.declared.parts.FlatNet.{FlatNet}
use Rattle.mv_net.specs.declared.parts.NetParts.{NetParts}
use Rattle.mv_net.specs.declared.window.Window.{Window}
use Rattle.mv_net.specs.Nets.{reads_in}
use Rattle.mv_net.proofs.Local.{matches-local}
use Rattle.mv_flex.specs.declared.flexibility.Flexibility.{Flexibility}
use Rattle.mv_flex.specs.Spaces.{value_at, digits, AreBelow, IsCounted}
use Rattle.mv_flex.specs.Flex.{literals_beside, LineInFlexWith, IsOverFanins}
use Rattle.mv_flex.specs.Flexibilities.{IsFlex}
use Rattle.mv_flex.specs.Checks.{pair_values, blocks, blocked_at, AreBlocked}
use Rattle.mv_flex.proofs.Numbering.{digits-below}
use Rattle.mv_flex.proofs.Checking.{IsLocal, test_in, test_out}

-- ---- values of pairs are small

few_behind : (c : ℕ) (cs : List ℕ) → All (λ n. n ≤ MAX_VALUES) (c ∷ cs) → All (λ n. n ≤ MAX_VALUES) cs
few_behind c cs few = λ k d low. few (suc k) d (omega (arith, low))

value_few : (ns : List NetId) (cs vs : List ℕ) (m : ℕ) → All (λ c. c ≤ MAX_VALUES) cs → AreBelow cs vs → value_at ns vs m < MAX_VALUES
value_few [] cs vs m few below = omega arith
value_few (n ∷ ns) [] [] m few below = omega arith
value_few (n ∷ ns) (c ∷ cs) [] m few below = absurd below
value_few (n ∷ ns) [] (v ∷ vs) m few below = absurd below
value_few (n ∷ ns) (c ∷ cs) (v ∷ vs) m few below =
    let top : c ≤ MAX_VALUES = few 0 0 (omega arith) in
    ⊎_elim
    (λ (y : nat_eq n.0 m ≡ true). subst (λ k. k < MAX_VALUES) (sym (λ i. cond (y i) v (value_at ns vs m))) (omega (arith, top, below.0)))
    (λ (o : nat_eq n.0 m ≡ false). subst (λ k. k < MAX_VALUES) (sym (λ i. cond (o i) v (value_at ns vs m))) (value_few ns cs vs m (few_behind c cs few) below.1))
    (cases_Bool (nat_eq n.0 m))

pub pair_value_few : (ns : List NetId) (cs : List ℕ) (size q m : ℕ) → IsCounted cs size → value_at ns (digits cs q) m < MAX_VALUES
pair_value_few ns cs size q m counted = value_few ns cs (digits cs q) m counted.few (digits-below cs q counted.some)

-- ---- one pair more

chosen : (b : Bool) (x u : ℕ) → has (if b then one x else empty) u ≡ true → (b ≡ true) × (x ≡ u)
chosen true x u h = (refl, sym (eqb-true u x (sym (has-one x u) ∙ h)))
chosen false x u h = absurd (false≢true (sym (has-empty u) ∙ h))

kept : (b : Bool) (x u : ℕ) → b ≡ true → x ≡ u → has (if b then one x else empty) u ≡ true
kept b x u y e = ap (λ c. has (if c then one x else empty) u) y ∙ has-one x u ∙ eq-eqb u x (sym e)

pub blocked_none : (f : Flexibility) (l : Line) (m : ℕ) → AreBlocked f l m 0 empty
blocked_none f l m = record { only = λ u h. absurd (false≢true (sym (has-empty u) ∙ h)); all = λ u b. absurd (omega (arith, b.low)) }

pub blocked_more : (f : Flexibility) (l : Line) (m k set with new : ℕ) → AreBlocked f l m k set → with ≡ blocked_at f l m k → new ≡ join set with → AreBlocked f l m (k + 1) new
blocked_more f l m k set with new are e n = record {
  only = λ u h.
      ⊎_elim
      (λ (before : has set u ≡ true). let b = are.only u before in record { pair = b.pair; low = omega (arith, b.low); blocking = b.blocking; value = b.value })
      (λ (here : has with u ≡ true).
      let b = chosen (blocks f l m k) (pair_values f k m) u (ap (λ s. has s u) (sym e) ∙ here) in
      record { pair = k; low = omega arith; blocking = b.0; value = b.1 })
      (or_cases (has set u) (has with u) (sym (has-join set with u) ∙ ap (λ s. has s u) (sym n) ∙ h));
  all = λ u b.
      ap (λ s. has s u) n ∙ has-join set with u
      ∙ ⊎_elim
      (λ (less : b.pair < k). or_left (has set u) (has with u) (are.all u (record { pair = b.pair; low = less; blocking = b.blocking; value = b.value })))
      (λ (last : k ≤ b.pair).
      let same : b.pair ≡ k = omega (arith, last, b.low) in
      or_right (has set u) (has with u)
      (ap (λ s. has s u) e ∙ kept (blocks f l m k) (pair_values f k m) u (ap (blocks f l m) (sym same) ∙ b.blocking) (ap (λ q. pair_values f q m) (sym same) ∙ b.value)))
      (cases_lt b.pair k);
}

-- ---- what they say

any_kept : (t p : Lit → Bool) (xs : List Lit) → list_any t (filter p xs) ≡ true → list_any t xs ≡ true
any_kept t p [] h = h
any_kept t p (x ∷ xs) h =
    ⊎_elim
    (λ (y : p x ≡ true).
    ⊎_elim
    (λ (a : t x ≡ true). or_left (t x) (list_any t xs) a)
    (λ (b : list_any t (filter p xs) ≡ true). or_right (t x) (list_any t xs) (any_kept t p xs b))
    (or_cases (t x) (list_any t (filter p xs)) (sym (λ i. list_any t (cond (y i) (x ∷ filter p xs) (filter p xs))) ∙ h)))
    (λ (o : p x ≡ false). or_right (t x) (list_any t xs) (any_kept t p xs (sym (λ i. list_any t (cond (o i) (x ∷ filter p xs) (filter p xs))) ∙ h)))
    (cases_Bool (p x))

-- the test of a pair of the line with the value u of m
abbrev pub with_value : Line → ℕ → ℕ → (ℕ → ℕ) → ℕ → Bool
with_value l m u at v = nat_eq (at m) u && (matches at (literals_beside m l.cube) && has l.out v)

with_local : (nets : List (Option FlatNet)) (n : ℕ) (l : Line) (m u : ℕ) → IsOverFanins nets n (cube_reads l.cube) → reads_in nets n m ≡ true → IsLocal nets n (with_value l m u)
with_local nets n l m u over reads = record {
  same = λ x y v h.
      let here : x m ≡ y m = h m reads in
      let rest : matches x (literals_beside m l.cube) ≡ matches y (literals_beside m l.cube) =
      matches-local (literals_beside m l.cube) x y (λ k r. h k (over.fanins k (any_kept (λ (j : Lit). nat_eq j.net.0 k) (λ (j : Lit). not (nat_eq j.net.0 m)) l.cube r))) in
      λ i. nat_eq (here i) u && (rest i && has l.out v);
}

by_test : (b : Bool) (P Q : Type 0) → (b ≡ true → P) → (b ≡ false → Q) → MatchBool b P Q
by_test true P Q f g = f refl
by_test false P Q f g = g refl

pub marked_low : (marks : List Bool) (q : ℕ) → get_or marks q false ≡ true → q < length marks
marked_low marks q y =
    ⊎_elim
    (λ (low : q < length marks). low)
    (λ (past : length marks ≤ q). absurd (false≢true (sym (get_or_past marks q false past) ∙ y)))
    (cases_lt q (length marks))

pub blocked_values : (net : NetParts) (w : Window) (n budget : ℕ) (f : Flexibility) (l : Line) (m set : ℕ) → IsFlex net w n budget f → IsOverFanins net.nets n (cube_reads l.cube) → reads_in net.nets n m ≡ true → AreBlocked f l m f.pairs.size set → (u : ℕ) → MatchBool (has set u) (LineInFlexWith net.nets w n l m u → ⊥) (LineInFlexWith net.nets w n l m u)
blocked_values net w n budget f l m set flex over reads are u =
    by_test (has set u) (LineInFlexWith net.nets w n l m u → ⊥) (LineInFlexWith net.nets w n l m u)
    (λ y all.
    let b = are.only u y in
    let parts = and_parts (get_or f.outside b.pair false) (matches (pair_values f b.pair) (literals_beside m l.cube) && has l.out (pair_values f b.pair f.net.0)) b.blocking in
    test_out net w n budget f flex (with_value l m u) (with_local net.nets n l m u over reads) b.pair parts.0
    (and_from (nat_eq (pair_values f b.pair m) u) (matches (pair_values f b.pair) (literals_beside m l.cube) && has l.out (pair_values f b.pair f.net.0)) (eq-eqb (pair_values f b.pair m) u b.value) parts.1)
    (λ at v pair t.
    let both = and_parts (nat_eq (at m) u) (matches at (literals_beside m l.cube) && has l.out v) t in
    let line = and_parts (matches at (literals_beside m l.cube)) (has l.out v) both.1 in
    all.each at v pair (eqb-true (at m) u both.0) line.0 line.1))
    (λ no. record {
      each = λ at v pair e h o.
          test_in net w n budget f flex (with_value l m u) (with_local net.nets n l m u over reads)
          (λ q marked t.
          let both = and_parts (nat_eq (pair_values f q m) u) (matches (pair_values f q) (literals_beside m l.cube) && has l.out (pair_values f q f.net.0)) t in
          false≢true
          (sym no
          ∙ are.all u
          (record {
            pair = q;
            low = subst (λ k. q < k) flex.long (marked_low f.outside q marked);
            blocking = and_from (get_or f.outside q false) (matches (pair_values f q) (literals_beside m l.cube) && has l.out (pair_values f q f.net.0)) marked both.1;
            value = eqb-true (pair_values f q m) u both.0;
          })))
          at v pair
          (and_from (nat_eq (at m) u) (matches at (literals_beside m l.cube) && has l.out v) (eq-eqb (at m) u e) (and_from (matches at (literals_beside m l.cube)) (has l.out v) h o));
    })
