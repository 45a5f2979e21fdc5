-- Sets of values that are narrowed, one variable after another.
use Rattle.std.proofs.Common.{◌≡◌, ◌∙◌, ℕ, suc, ◌+◌, ◌<◌, ◌≤◌, ◌^◌, ◌&&◌, ◌||◌, Bool, true, false, not, nat_eq, List, [], ◌∷◌, length, map, take, get_or, set, Option, refl, sym, ap, subst, ⊎_elim, inl, inr, ◌⊎◌, arith, zero}
use Rattle.std.specs.Bool.{OnTrue, OnFalse}
use Rattle.std.specs.List.{list_all}
use Rattle.std.proofs.lemmas.Bool.{cases_Bool, cases_eq, cases_lt, true≢false, and_parts, and_from, or_left, or_right, eq-eqb, eqb-true, lt-ltb, ltb-true}
use Rattle.std.proofs.lemmas.List.{get_or_default, get_or-map, get_or-set_same, get_or-set_other, length-map, length-set}
use Rattle.std.proofs.Math.Nat.{lt-suc_self}
use Rattle.std.proofs.Math.Pow.{pow-lt}
use Rattle.mv_base.specs.Set.{has, empty, full, meet}
use Rattle.mv_base.proofs.Sets.{has-empty, has-full, has-meet, has_above, same_set}
use Rattle.mv_base.specs.declared.number.NetId.{NetId}
use Rattle.mv_cover.specs.Literal.{Lit}
use Rattle.mv_cover.specs.declared.line.Line.{Line}
use Rattle.mv_cover.specs.Covers.{cube_reads}
use Rattle.mv_diagram.specs.Choices.{Fits, set_at}
use Rattle.mv_diagram.specs.Sets.{Point, InRange}
use Rattle.mv_diagram.specs.Sound.{AreCounts}
use Rattle.mv_relation.specs.Relations.{assigned}
use Rattle.mv_wide.specs.Choosing.{AreChosen, AreListed, all_hold_but, and_in, holds_but, in_line, is_left_out}

pub on_true : (b : Bool) (P : Type 0) → (b ≡ true → P) → OnTrue b P
on_true true P f = f refl
on_true false P f = tt

pub on_false : (b : Bool) (P : Type 0) → (b ≡ false → P) → OnFalse b P
on_false true P f = tt
on_false false P f = f refl

pub true_on : (b : Bool) (P : Type 0) → OnTrue b P → b ≡ true → P
true_on true P h e = h
true_on false P h e = absurd (true≢false (sym e))

pub false_on : (b : Bool) (P : Type 0) → OnFalse b P → b ≡ false → P
false_on true P h e = absurd (true≢false e)
false_on false P h e = h

-- the same where the tests are the same
pub chosen_same : (counts sets : List ℕ) (s t : Point → Bool) → ((p : Point) → s p ≡ t p) → AreChosen counts sets s → AreChosen counts sets t
chosen_same counts sets s t same are = record {
  choices = are.choices;
  fits = λ p range is. are.fits p range (same p ∙ is);
  only = λ p fits. sym (same p) ∙ are.only p fits;
}

-- ---- all values

full_at : (counts sets : List ℕ) (v : ℕ) → sets ≡ map full counts → v < length counts → set_at sets v ≡ full (get_or counts v 0)
full_at counts sets v same low = ap (λ l. get_or l v 0) same ∙ get_or-map full counts v 0 0 low

pub all_chosen : (counts sets : List ℕ) → AreCounts counts → sets ≡ map full counts → AreChosen counts sets (λ p. true)
all_chosen counts sets are same = record {
  choices = record {
    long = ap length same ∙ length-map counts full;
    some = λ v low. record {
      value = 0;
      below = are.some v low;
      is = ap (λ k. has k 0) (full_at counts sets v same low) ∙ has-full (get_or counts v 0) 0 ∙ lt-ltb 0 (get_or counts v 0) (are.some v low);
    };
    within = λ v value low is.
        ltb-true value (get_or counts v 0) (sym (has-full (get_or counts v 0) value) ∙ (ap (λ k. has k value) (sym (full_at counts sets v same low)) ∙ is));
  };
  fits = λ p range yes. record {
    range = range;
    each = λ v low.
        ap (λ k. has k (p v)) (full_at counts sets v same low) ∙ has-full (get_or counts v 0) (p v) ∙ lt-ltb (p v) (get_or counts v 0) (range.below v low);
  };
  only = λ p fits. refl;
}

-- ---- one variable

power_above : (n : ℕ) → n < 2 ^ n
power_above zero = omega arith
power_above (suc n) = omega (arith, power_above n, pow-lt (lt-suc_self n))

-- a set with no member below a number has one, or has none below it
search_member : (s k : ℕ) → ((v : ℕ) × (has s v ≡ true)) ⊎ ((v : ℕ) → v < k → has s v ≡ false)
search_member s zero = inr (λ v low. absurd (omega (arith, low)))
search_member s (suc k) =
    ⊎_elim (λ (found : (v : ℕ) × (has s v ≡ true)). inl found)
    (λ (none : (v : ℕ) → v < k → has s v ≡ false).
    ⊎_elim (λ (y : has s k ≡ true). inl (k, y))
    (λ (n : has s k ≡ false).
    inr (λ v low. ⊎_elim (λ (e : v ≡ k). ap (has s) e ∙ n) (λ (apart : v ≡ k → ⊥). none v (omega arith)) (cases_eq v k)))
    (cases_Bool (has s k)))
    (search_member s k)

-- a set that isn't empty has a member
member_of : (s : ℕ) → nat_eq s empty ≡ false → (v : ℕ) × (has s v ≡ true)
member_of s some =
    ⊎_elim (λ (found : (v : ℕ) × (has s v ≡ true)). found)
    (λ (none : (v : ℕ) → v < s → has s v ≡ false).
    let same : s ≡ empty =
    same_set s empty
    (λ v. ⊎_elim (λ (low : v < s). none v low ∙ sym (has-empty v))
    (λ (high : s ≤ v). has_above s s v (power_above s) high ∙ sym (has-empty v)) (cases_lt v s)) in
    absurd (true≢false (sym (eq-eqb s empty same) ∙ some)))
    (search_member s s)

module _ (counts sets : List ℕ) (test : Point → Bool) (var values : ℕ) (are : AreChosen counts sets test) (inside : var < length counts) where
  abbrev left : ℕ
  left = meet (set_at sets var) values

  abbrev new : List ℕ
  new = set sets var left

  low : var < length sets
  low = omega (arith, inside, are.choices.long)

  here : set_at new var ≡ left
  here = get_or-set_same sets var left 0 low

  there : (v : ℕ) → (v ≡ var → ⊥) → set_at new v ≡ set_at sets v
  there v apart = get_or-set_other sets var v left 0 apart

  both : (value : ℕ) → has left value ≡ true → (has (set_at sets var) value ≡ true) × (has values value ≡ true)
  both value is = and_parts (has (set_at sets var) value) (has values value) (sym (has-meet (set_at sets var) values value) ∙ is)

  narrowed : nat_eq left empty ≡ false → AreChosen counts new (and_in test var values)
  narrowed some = record {
    choices = record {
      long = length-set sets var left ∙ are.choices.long;
      some = λ v less.
          ⊎_elim
          (λ (e : v ≡ var).
          let member = member_of left some in
          let parts = both member.0 member.1 in
          record {
            value = member.0;
            below = are.choices.within v member.0 less (ap (λ k. has (set_at sets k) member.0) e ∙ parts.0);
            is = ap (λ k. has (set_at new k) member.0) e ∙ ap (λ k. has k member.0) here ∙ member.1;
          })
          (λ (apart : v ≡ var → ⊥).
          let one = are.choices.some v less in
          record { value = one.value; below = one.below; is = ap (λ k. has k one.value) (there v apart) ∙ one.is })
          (cases_eq v var);
      within = λ v value less is.
          ⊎_elim
          (λ (e : v ≡ var).
          let parts = both value (sym (ap (λ k. has k value) here) ∙ (ap (λ k. has (set_at new k) value) (sym e) ∙ is)) in
          are.choices.within v value less (ap (λ k. has (set_at sets k) value) e ∙ parts.0))
          (λ (apart : v ≡ var → ⊥). are.choices.within v value less (sym (ap (λ k. has k value) (there v apart)) ∙ is))
          (cases_eq v var);
    };
    fits = λ p range is.
        let parts = and_parts (test p) (has values (p var)) is in
        let old = are.fits p range parts.0 in
        record {
          range = range;
          each = λ v less.
              ⊎_elim
              (λ (e : v ≡ var).
              ap (λ k. has (set_at new k) (p k)) e ∙ ap (λ k. has k (p var)) here ∙ has-meet (set_at sets var) values (p var)
              ∙ and_from (has (set_at sets var) (p var)) (has values (p var)) (old.each var inside) parts.1)
              (λ (apart : v ≡ var → ⊥). ap (λ k. has k (p v)) (there v apart) ∙ old.each v less)
              (cases_eq v var);
        };
    only = λ p fits.
        let parts = both (p var) (sym (ap (λ k. has k (p var)) here) ∙ fits.each var inside) in
        let old : Fits counts sets p = record {
          range = fits.range;
          each = λ v less.
              ⊎_elim (λ (e : v ≡ var). ap (λ k. has (set_at sets k) (p k)) e ∙ parts.0)
              (λ (apart : v ≡ var → ⊥). sym (ap (λ k. has k (p v)) (there v apart)) ∙ fits.each v less)
              (cases_eq v var);
        } in
        and_from (test p) (has values (p var)) (are.only p old) parts.1;
  }

  -- where no value is left no point is
  narrowed_none : nat_eq left empty ≡ true → (p : Point) → InRange counts p → and_in test var values p ≡ true → ⊥
  narrowed_none none p range is =
      let parts = and_parts (test p) (has values (p var)) is in
      let old = are.fits p range parts.0 in
      let has_left : has left (p var) ≡ true =
      has-meet (set_at sets var) values (p var) ∙ and_from (has (set_at sets var) (p var)) (has values (p var)) (old.each var inside) parts.1 in
      true≢false (sym has_left ∙ (ap (λ k. has k (p var)) (eqb-true left empty none) ∙ has-empty (p var)))

left_here : (sets : List ℕ) (var values item left : ℕ) → var < length sets → item ≡ get_or sets var item → left ≡ meet item values
    → left ≡ meet (set_at sets var) values
left_here sets var values item left low is same = same ∙ ap (λ k. meet k values) (is ∙ get_or_default sets var item 0 low)

pub narrow_some : (counts sets : List ℕ) (test : Point → Bool) (var values item left : ℕ) → var < length sets → item ≡ get_or sets var item
    → left ≡ meet item values → AreChosen counts sets test → nat_eq left empty ≡ false → AreChosen counts (set sets var left) (and_in test var values)
narrow_some counts sets test var values item left inside is same are some =
    let e = left_here sets var values item left inside is same in
    subst (λ k. AreChosen counts (set sets var k) (and_in test var values)) (sym e)
    (narrowed counts sets test var values are (omega (arith, inside, are.choices.long)) (sym (ap (λ k. nat_eq k empty) e) ∙ some))

pub narrow_none : (counts sets : List ℕ) (test : Point → Bool) (var values item left : ℕ) → var < length sets → item ≡ get_or sets var item
    → left ≡ meet item values → AreChosen counts sets test → nat_eq left empty ≡ true → var < length counts → (p : Point) → InRange counts p
    → and_in test var values p ≡ true → ⊥
narrow_none counts sets test var values item left inside is same are none within p range in_both =
    let e = left_here sets var values item left inside is same in
    narrowed_none counts sets test var values are within (sym (ap (λ k. nat_eq k empty) e) ∙ none) p range in_both

pub not_false : (b : Bool) → not b ≡ false → b ≡ true
not_false true h = refl
not_false false h = sym h

-- ---- one literal

pub by_literal : (counts sets vars : List ℕ) (test : Point → Bool) (left_out : Option NetId) (l : Lit) (var values : ℕ) → var ≡ get_or vars l.net.0 0
    → values ≡ l.set → is_left_out left_out l.net.0 ≡ false → AreChosen counts sets (and_in test var values)
    → AreChosen counts sets (λ p. test p && holds_but left_out (assigned vars p) l)
by_literal counts sets vars test left_out l var values at same kept are =
    chosen_same counts sets (and_in test var values) (λ p. test p && holds_but left_out (assigned vars p) l)
    (λ p. λ i. test p && (sym kept i || has (same i) (p (at i)))) are

pub literal_holds : (vars : List ℕ) (test : Point → Bool) (left_out : Option NetId) (l : Lit) (var values : ℕ) (p : Point) → var ≡ get_or vars l.net.0 0
    → values ≡ l.set → is_left_out left_out l.net.0 ≡ false → test p ≡ true → holds_but left_out (assigned vars p) l ≡ true → and_in test var values p ≡ true
literal_holds vars test left_out l var values p at same kept passes holds =
    and_from (test p) (has values (p var)) passes (sym (λ i. kept i || has (sym same i) (p (sym at i))) ∙ holds)

pub literal_left_out : (counts sets vars : List ℕ) (test : Point → Bool) (left_out : Option NetId) (l : Lit) → is_left_out left_out l.net.0 ≡ true
    → AreChosen counts sets test → AreChosen counts sets (λ p. test p && holds_but left_out (assigned vars p) l)
literal_left_out counts sets vars test left_out l gone are =
    chosen_same counts sets test (λ p. test p && holds_but left_out (assigned vars p) l)
    (λ p. sym (ap (λ b. test p && (b || has l.set (p (get_or vars l.net.0 0)))) gone ∙ and_true (test p))) are
  where
    and_true : (b : Bool) → (b && true) ≡ b
    and_true true = refl
    and_true false = refl

-- ---- all literals

all_more : (f : Lit → Bool) (ls : List Lit) (i : ℕ) (d : Lit) → i < length ls → list_all f (take (i + 1) ls) ≡ (list_all f (take i ls) && f (get_or ls i d))
all_more f [] i d low = absurd (omega (arith, low))
all_more f (l ∷ ls) zero d low = and_true (f l)
  where
    and_true : (b : Bool) → (b && true) ≡ b
    and_true true = refl
    and_true false = refl
all_more f (l ∷ ls) (suc i) d low =
    let e : suc i + 1 ≡ suc (i + 1) = omega arith in
    ap (λ k. list_all f (take k (l ∷ ls))) e ∙ ap (λ b. f l && b) (all_more f ls i d (omega (arith, low))) ∙ and_assoc (f l) (list_all f (take i ls)) (f (get_or ls i d))
  where
    and_assoc : (a b c : Bool) → (a && (b && c)) ≡ ((a && b) && c)
    and_assoc true b c = refl
    and_assoc false b c = refl

all_taken : (f : Lit → Bool) (ls : List Lit) (i : ℕ) → length ls ≤ i → list_all f (take i ls) ≡ list_all f ls
all_taken f [] zero high = refl
all_taken f [] (suc i) high = refl
all_taken f (l ∷ ls) zero high = absurd (omega (arith, high))
all_taken f (l ∷ ls) (suc i) high = ap (λ b. f l && b) (all_taken f ls i (omega (arith, high)))

all_at : (f : Lit → Bool) (ls : List Lit) (i : ℕ) (d : Lit) → i < length ls → list_all f ls ≡ true → (list_all f (take i ls) ≡ true) × (f (get_or ls i d) ≡ true)
all_at f [] i d low all = absurd (omega (arith, low))
all_at f (l ∷ ls) zero d low all = (refl, (and_parts (f l) (list_all f ls) all).0)
all_at f (l ∷ ls) (suc i) d low all =
    let parts = and_parts (f l) (list_all f ls) all in
    let rest = all_at f ls i d (omega (arith, low)) parts.1 in
    (and_from (f l) (list_all f (take i ls)) parts.0 rest.0, rest.1)

assoc : (a b c : Bool) → ((a && b) && c) ≡ (a && (b && c))
assoc true b c = refl
assoc false b c = refl

pub chosen_none : (counts sets vars : List ℕ) (test : Point → Bool) (left_out : Option NetId) (ls : List Lit) → AreChosen counts sets test
    → AreChosen counts sets (λ p. test p && all_hold_but left_out (assigned vars p) (take 0 ls))
chosen_none counts sets vars test left_out ls are =
    chosen_same counts sets test (λ p. test p && all_hold_but left_out (assigned vars p) (take 0 ls)) (λ p. and_true (test p)) are
  where
    and_true : (b : Bool) → b ≡ (b && true)
    and_true true = refl
    and_true false = refl

pub chosen_more : (counts sets vars : List ℕ) (test : Point → Bool) (left_out : Option NetId) (ls : List Lit) (i : ℕ) (x : Lit) → i < length ls → x ≡ get_or ls i x
    → AreChosen counts sets (λ p. (test p && all_hold_but left_out (assigned vars p) (take i ls)) && holds_but left_out (assigned vars p) x)
    → AreChosen counts sets (λ p. test p && all_hold_but left_out (assigned vars p) (take (i + 1) ls))
chosen_more counts sets vars test left_out ls i x low is are =
    chosen_same counts sets (λ p. (test p && all_hold_but left_out (assigned vars p) (take i ls)) && holds_but left_out (assigned vars p) x)
    (λ p. test p && all_hold_but left_out (assigned vars p) (take (i + 1) ls))
    (λ p. assoc (test p) (all_hold_but left_out (assigned vars p) (take i ls)) (holds_but left_out (assigned vars p) x)
    ∙ ap (λ b. test p && b)
    (ap (λ y. all_hold_but left_out (assigned vars p) (take i ls) && holds_but left_out (assigned vars p) y) is
    ∙ sym (all_more (holds_but left_out (assigned vars p)) ls i x low)))
    are

pub chosen_end : (counts sets vars : List ℕ) (test : Point → Bool) (left_out : Option NetId) (ls : List Lit) (i : ℕ) → length ls ≤ i
    → AreChosen counts sets (λ p. test p && all_hold_but left_out (assigned vars p) (take i ls))
    → AreChosen counts sets (λ p. test p && all_hold_but left_out (assigned vars p) ls)
chosen_end counts sets vars test left_out ls i high are =
    chosen_same counts sets (λ p. test p && all_hold_but left_out (assigned vars p) (take i ls)) (λ p. test p && all_hold_but left_out (assigned vars p) ls)
    (λ p. ap (λ b. test p && b) (all_taken (holds_but left_out (assigned vars p)) ls i high)) are

-- a cube reads the net of each of its literals
pub reads_at : (ls : List Lit) (i : ℕ) (d : Lit) → i < length ls → cube_reads ls (get_or ls i d).net.0 ≡ true
reads_at [] i d low = absurd (omega (arith, low))
reads_at (l ∷ ls) zero d low = or_left (nat_eq l.net.0 l.net.0) (cube_reads ls l.net.0) (eq-eqb l.net.0 l.net.0 refl)
reads_at (l ∷ ls) (suc i) d low = or_right (nat_eq l.net.0 (get_or ls i d).net.0) (cube_reads ls (get_or ls i d).net.0) (reads_at ls i d (omega (arith, low)))

-- where the next literal leaves nothing, nothing is left
pub none_left : (counts vars : List ℕ) (test : Point → Bool) (left_out : Option NetId) (ls : List Lit) (i : ℕ) (x : Lit) → i < length ls → x ≡ get_or ls i x
    → (x.net.0 < length vars → get_or vars x.net.0 0 < length counts → (p : Point) → InRange counts p
    → (test p && all_hold_but left_out (assigned vars p) (take i ls)) ≡ true → holds_but left_out (assigned vars p) x ≡ true → ⊥)
    → AreListed counts vars (cube_reads ls) → (p : Point) → InRange counts p → test p ≡ true → all_hold_but left_out (assigned vars p) ls ≡ true → ⊥
none_left counts vars test left_out ls i x low is none listed p range passes all =
    let parts = all_at (holds_but left_out (assigned vars p)) ls i x low all in
    let reads : cube_reads ls x.net.0 ≡ true = subst (λ (y : Lit). cube_reads ls y.net.0 ≡ true) (sym is) (reads_at ls i x low) in
    none (listed.listed x.net.0 reads) (listed.within x.net.0 reads) p range
    (and_from (test p) (all_hold_but left_out (assigned vars p) (take i ls)) passes parts.0)
    (subst (λ (y : Lit). holds_but left_out (assigned vars p) y ≡ true) (sym is) parts.1)

-- ---- a line

module _ (vars : List ℕ) (own : ℕ) (left_out : Option NetId) (l : Line) (cube : List Lit) (out : ℕ) (same : cube ≡ l.cube) (gives : out ≡ l.out) where
  abbrev by_parts : Point → Bool
  by_parts = and_in (λ p. true && all_hold_but left_out (assigned vars p) cube) own out

  parts_line : (p : Point) → by_parts p ≡ in_line left_out vars own l p
  parts_line p = λ i. all_hold_but left_out (assigned vars p) (same i) && has (gives i) (p own)

  pub line_chosen : (counts sets : List ℕ) → AreChosen counts sets by_parts → AreChosen counts sets (in_line left_out vars own l)
  line_chosen counts sets are = chosen_same counts sets by_parts (in_line left_out vars own l) parts_line are

  pub in_parts : (p : Point) → in_line left_out vars own l p ≡ true → by_parts p ≡ true
  in_parts p is = parts_line p ∙ is

  pub in_cube : (p : Point) → in_line left_out vars own l p ≡ true → all_hold_but left_out (assigned vars p) cube ≡ true
  in_cube p is = (and_parts (all_hold_but left_out (assigned vars p) cube) (has out (p own)) (in_parts p is)).0

  pub listed_there : (counts : List ℕ) → AreListed counts vars (cube_reads l.cube) → AreListed counts vars (cube_reads cube)
  listed_there counts listed = subst (λ (ls : List Lit). AreListed counts vars (cube_reads ls)) (sym same) listed
